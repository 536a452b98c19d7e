-- Where a session answers alike in the server and in a world of its own, its reads that wait are answered alike.
use Rattle.std.proofs.Common.{◌≡◌, ◌+◌, ℕ, zero, suc, Bool, true, false, eqb, List, [], ◌∷◌, ◌++◌, Option, Some, None, refl, sym, ap, subst, ◌∙◌, arith}
use Rattle.std.specs.Prelude.{IfSome, length}
use Rattle.std.specs.Option.{option_map_or}
use Rattle.std.proofs.lemmas.Bool.{eqb-true, eqb-false}
use Rattle.r9_event.specs.declared.event.event.Reply.{Reply}
use Rattle.model_text.specs.text.Map.{lookup}
use Rattle.model_text.proofs.map.Ascending.{ascend-with}
use Rattle.model_text.proofs.map.Keys.{eqb-same, not_key}
use Rattle.model_text.proofs.map.Maps.{with-here, with-others}
use Rattle.model_files.specs.wire.Message.{R}
use Rattle.model_world.specs.Session.{Session}
use Rattle.model_world.specs.Desktop.{Desktop}
use Rattle.model_world.specs.Fids.{Left}
use Rattle.model_world.specs.Waiting.{one_answered}
use Rattle.model_world.specs.Whole.{desktop_for}
use Rattle.model_world.specs.World.{World}
use Rattle.model_world.specs.Standing.{AllWaitOn, AreInOrder}
use Rattle.model_world.specs.Replay.{and_replies, first_answered, reply_to, settled, settled_within, waiting_in, with_left}
use Rattle.model_world.proofs.Settling.{all_in, first_gives}
use Rattle.model_world.proofs.Standing.{IsLess, first_is_less, settled_ends}
use Rattle.model_world.proofs.Waking.{waits_each}
use Rattle.law_likeness.specs.agreement.Agreement.{Alike, Ask, KeepsToItself, SameLeft, SameOption}
use Rattle.law_likeness.proofs.agreement.Sessions.{one_alike}
use Rattle.law_likeness.proofs.agreement.Keeping.{one_keeps}
use Rattle.model_alone.specs.alone.Lone as alone
use Rattle.model_alone.specs.alone.Lone.{LoneDesktop, LoneWorld, all_settled, left_by, lone_desktop, replied, settled_alone}
use Rattle.model_alone.specs.alone.Isolated.{replies_to}
use Rattle.model_alone.proofs.alone.Histories.{replies-append}

-- an answer leaves one read less waiting
one_less : (c : ℕ) (world : World) (session : Session) (after : Left Desktop) → one_answered (desktop_for c) session world.desktop ≡ Some after
    → length after.session.waiting + 1 ≡ length session.waiting
one_less c world session after is =
    let less : IsLess only (with_left only c after) = subst (λ (o : Option (World × List Reply)). IfSome o (λ next. IsLess only next.0)) here (first_is_less only (tt, tt)) in
    omega (arith, sym left, less.1, right)
  where
    only : World
    only = record world { sessions = (c, session) ∷ [] }

    here : first_answered only only.sessions ≡ Some (with_left only c after, reply_to c after.reply)
    here = rw is refl

    left : waiting_in (with_left only c after) ≡ length after.session.waiting
    left = rw (eqb-same c) (omega arith)

    right : waiting_in only ≡ length session.waiting
    right = omega arith

-- what the replies to one session are to another
pub own-reply : (c : ℕ) (reply : Option R) → replies_to c (reply_to c reply) ≡ replied reply
own-reply c None = refl
own-reply c (Some reply) = rw (eqb-same c) refl

pub others-reply : (c d : ℕ) (reply : Option R) → (d ≡ c → ⊥) → replies_to c (reply_to d reply) ≡ []
others-reply c d None other = refl
others-reply c d (Some reply) other = rw (not_key d c other) refl

module _ (c : ℕ) (Same Later : Desktop → LoneDesktop → Type 0) (HasWindow HasConnection : ℕ → Type 0) (May : Desktop → Ask → Type 0)
    (alike : Alike (desktop_for c) lone_desktop Same Later HasWindow HasConnection May)
    (Elsewhere : ℕ → Session → Type 0)
    (others : (d : ℕ) (session : Session) (desktop : Desktop) (after : Left Desktop) (t : LoneDesktop) → (d ≡ c → ⊥) → Elsewhere d session
    → one_answered (desktop_for d) session desktop ≡ Some after → Same desktop t → Same after.rest t × Elsewhere d after.session) where
  -- the session is the same in both worlds, with what is outside of it
  pub record AreBoth (world : World) (lone : LoneWorld) : Type 0 where
    pub lives : lookup world.sessions c ≡ Some lone.session
    pub same : Same world.desktop lone.desktop
    pub keeps : KeepsToItself HasWindow HasConnection lone.session
    pub order : AreInOrder world
    pub elsewhere : (d : ℕ) (session : Session) → (d ≡ c → ⊥) → lookup world.sessions d ≡ Some session → Elsewhere d session

  -- some answers to reads were given in the server, and so many of the session in its own world
  record AreSettled (after : World × List Reply) (lone : LoneWorld) : Type 0 where
    count : ℕ
    rest : LoneWorld
    settled : settled_alone count lone ≡ (rest, replies_to c after.1)
    both : AreBoth after.0 rest
    all : count + length rest.session.waiting ≡ length lone.session.waiting

  nothing_settled : (world : World) (lone : LoneWorld) → AreBoth world lone → AreSettled (world, []) lone
  unfolding settled_alone
  nothing_settled world lone both = record { count = 0; rest = lone; settled = refl; both = both; all = omega arith }

  -- ---- one answer more

  others_first : (world : World) (lone : LoneWorld) (d : ℕ) (session : Session) (left : Left Desktop) → (d ≡ c → ⊥) → lookup world.sessions d ≡ Some session → AreBoth world lone
      → one_answered (desktop_for d) session world.desktop ≡ Some left → AreBoth (with_left world d left) lone
  others_first world lone d session left other lives both is = record {
    lives = with-others world.sessions d c left.session (λ same. other (sym same)) ∙ both.lives;
    same = one.0;
    keeps = both.keeps;
    order = ascend-with world.sessions d left.session both.order;
    elsewhere = λ e next apart at. by e next apart at (eqb e d) refl;
  }
    where
      one : Same left.rest lone.desktop × Elsewhere d left.session
      one = others d session world.desktop left lone.desktop other (both.elsewhere d session other lives) is both.same

      by : (e : ℕ) (next : Session) → (e ≡ c → ⊥) → lookup (with_left world d left).sessions e ≡ Some next → (b : Bool) → eqb e d ≡ b → Elsewhere e next
      by e next apart at true here =
          let same : e ≡ d = eqb-true e d here in
          let two : ◌≡◌ {A = Option Session} (Some left.session) (Some next) = sym (with-here world.sessions d session left.session lives) ∙ ap (lookup (with_left world d left).sessions) (sym same) ∙ at in
          let it : left.session ≡ next = cc in
          subst (λ (k : ℕ). Elsewhere k next) (sym same) (subst (Elsewhere d) it one.1)
      by e next apart at false here = both.elsewhere e next apart (sym (with-others world.sessions d e left.session (eqb-false e d here)) ∙ at)

  others_more : (world : World) (lone : LoneWorld) (d : ℕ) (left : Left Desktop) (more : World × List Reply) → (d ≡ c → ⊥) → AreSettled more lone
      → AreSettled (and_replies (reply_to d left.reply) more) lone
  others_more world lone d left more other one = record {
    count = one.count;
    rest = one.rest;
    settled = one.settled ∙ ap (λ (replies : List (List ℕ)). (one.rest, replies))
        (ap (λ (first : List (List ℕ)). first ++ replies_to c more.1) (sym (others-reply c d left.reply other)) ∙ sym (replies-append c (reply_to d left.reply) more.1));
    both = one.both;
    all = one.all;
  }

  -- the session's own answer is given in its own world too
  record IsOwnFirst (world : World) (lone : LoneWorld) (left : Left Desktop) : Type 0 where
    there : Left LoneDesktop
    is : one_answered lone_desktop lone.session lone.desktop ≡ Some there
    session : left.session ≡ there.session
    reply : left.reply ≡ there.reply
    same : Same left.rest there.rest

  own_first : (world : World) (lone : LoneWorld) (left : Left Desktop) → AreBoth world lone → one_answered (desktop_for c) lone.session world.desktop ≡ Some left → IsOwnFirst world lone left
  own_first world lone left both is =
      by (one_answered lone_desktop lone.session lone.desktop) refl
      (subst (λ (o : Option (Left Desktop)). SameOption (SameLeft Same) o (one_answered lone_desktop lone.session lone.desktop)) is
      (one_alike (desktop_for c) lone_desktop Same Later HasWindow HasConnection May alike lone.session world.desktop lone.desktop both.same both.keeps))
    where
      by : (o : Option (Left LoneDesktop)) → one_answered lone_desktop lone.session lone.desktop ≡ o → SameOption (SameLeft Same) (Some left) o → IsOwnFirst world lone left
      by (Some there) at one = record { there = there; is = at; session = one.session; reply = one.reply; same = one.rest }
      by None at one = absurd one

  own_both : (world : World) (lone : LoneWorld) (left : Left Desktop) (own : IsOwnFirst world lone left) → AreBoth world lone → one_answered (desktop_for c) lone.session world.desktop ≡ Some left
      → AreBoth (with_left world c left) (left_by own.there)
  own_both world lone left own both is = record {
    lives = with-here world.sessions c lone.session left.session both.lives ∙ ap Some own.session;
    same = own.same;
    keeps = subst (KeepsToItself HasWindow HasConnection) own.session (one_keeps (desktop_for c) HasWindow HasConnection lone.session world.desktop left both.keeps is);
    order = ascend-with world.sessions c left.session both.order;
    elsewhere = λ d session other at. both.elsewhere d session other (sym (with-others world.sessions c d left.session other) ∙ at);
  }

  own_more : (world : World) (lone : LoneWorld) (left : Left Desktop) (own : IsOwnFirst world lone left) (more : World × List Reply) → one_answered (desktop_for c) lone.session world.desktop ≡ Some left
      → AreSettled more (left_by own.there) → AreSettled (and_replies (reply_to c left.reply) more) lone
  unfolding settled_alone
  own_more world lone left own more at one = record {
    count = suc one.count;
    rest = one.rest;
    settled = ap (λ (o : Option (Left LoneDesktop)). option_map_or (λ after. alone.and_replies (replied after.reply) (settled_alone one.count (left_by after))) o (lone, [])) own.is
        ∙ ap (alone.and_replies (replied own.there.reply)) one.settled
        ∙ ap (λ (replies : List (List ℕ)). (one.rest, replies))
        (ap (λ (reply : Option R). replied reply ++ replies_to c more.1) (sym own.reply)
        ∙ ap (λ (first : List (List ℕ)). first ++ replies_to c more.1) (sym (own-reply c left.reply))
        ∙ sym (replies-append c (reply_to c left.reply) more.1));
    both = one.both;
    all = omega (arith, one.all, one_less c world lone.session left at, ap (λ (session : Session). length session.waiting) own.session);
  }

  -- ---- all answers

  settled_more : (most : ℕ) → ((world : World) (lone : LoneWorld) → AreBoth world lone → AreSettled (settled_within most world) lone)
      → (world : World) (lone : LoneWorld) → AreBoth world lone → AreSettled (settled_within (suc most) world) lone
  unfolding settled_within
  settled_more most further world lone both =
      by (first_answered world world.sessions) (first_gives (λ next. AreSettled (and_replies next.1 (settled_within most next.0)) lone) world world.sessions (all_in world.sessions both.order) each)
    where
      own : (session : Session) (left : Left Desktop) → session ≡ lone.session → one_answered (desktop_for c) session world.desktop ≡ Some left
          → AreSettled (and_replies (reply_to c left.reply) (settled_within most (with_left world c left))) lone
      own session left is at =
          let here = subst (λ (s : Session). one_answered (desktop_for c) s world.desktop ≡ Some left) is at in
          let first = own_first world lone left both here in
          own_more world lone left first (settled_within most (with_left world c left)) here (further (with_left world c left) (left_by first.there) (own_both world lone left first both here))

      some_is : (x y : Session) → Some x ≡ Some y → x ≡ y
      some_is x y same = cc

      each : (d : ℕ) (session : Session) (left : Left Desktop) → lookup world.sessions d ≡ Some session → one_answered (desktop_for d) session world.desktop ≡ Some left
          → AreSettled (and_replies (reply_to d left.reply) (settled_within most (with_left world d left))) lone
      each d session left lives at = decide (eqb d c) refl
        where
          decide : (is : Bool) → eqb d c ≡ is → AreSettled (and_replies (reply_to d left.reply) (settled_within most (with_left world d left))) lone
          decide true is =
              let same : d ≡ c = eqb-true d c is in
              subst (λ (k : ℕ). AreSettled (and_replies (reply_to k left.reply) (settled_within most (with_left world k left))) lone) (sym same)
              (own session left (some_is session lone.session (sym (subst (λ (k : ℕ). lookup world.sessions k ≡ Some session) same lives) ∙ both.lives))
              (subst (λ (k : ℕ). one_answered (desktop_for k) session world.desktop ≡ Some left) same at))
          decide false is =
              let other = eqb-false d c is in
              others_more world lone d left (settled_within most (with_left world d left)) other
              (further (with_left world d left) lone (others_first world lone d session left other lives both at))

      by : (o : Option (World × List Reply)) → IfSome o (λ next. AreSettled (and_replies next.1 (settled_within most next.0)) lone)
          → AreSettled (option_map_or (λ next. and_replies next.1 (settled_within most next.0)) o (world, [])) lone
      by None given = nothing_settled world lone both
      by (Some next) given = given

  settled_both : (most : ℕ) (world : World) (lone : LoneWorld) → AreBoth world lone → AreSettled (settled_within most world) lone
  unfolding settled_within
  settled_both zero world lone both = nothing_settled world lone both
  settled_both (suc most) world lone both = settled_more most (settled_both most) world lone both

  -- ---- and no more

  abbrev pub IsStill : LoneWorld → Type 0
  IsStill lone = one_answered lone_desktop lone.session lone.desktop ≡ None

  pub still : (more : ℕ) (lone : LoneWorld) → IsStill lone → settled_alone more lone ≡ (lone, [])
  unfolding settled_alone
  still zero lone none = refl
  still (suc more) lone none = rw none refl

  -- where none can be answered any more, more turns change nothing
  stuck : (count more : ℕ) (lone : LoneWorld) → IsStill (settled_alone count lone).0 → settled_alone (count + more) lone ≡ settled_alone count lone
  unfolding settled_alone
  stuck zero more lone none =
      let same : 0 + more ≡ more = omega arith in
      ap (λ (k : ℕ). settled_alone k lone) same ∙ still more lone none
  stuck (suc count) more lone none =
      let same : suc count + more ≡ suc (count + more) = omega arith in
      ap (λ (k : ℕ). settled_alone k lone) same
      ∙ by (λ after none. stuck count more (left_by after) none) (one_answered lone_desktop lone.session lone.desktop) none
    where
      by : ((after : Left LoneDesktop) → IsStill (settled_alone count (left_by after)).0 → settled_alone (count + more) (left_by after) ≡ settled_alone count (left_by after))
          → (o : Option (Left LoneDesktop)) → IsStill (option_map_or (λ after. alone.and_replies (replied after.reply) (settled_alone count (left_by after))) o (lone, [])).0
          → option_map_or (λ after. alone.and_replies (replied after.reply) (settled_alone (count + more) (left_by after))) o (lone, [])
          ≡ option_map_or (λ after. alone.and_replies (replied after.reply) (settled_alone count (left_by after))) o (lone, [])
      by further None none = refl
      by further (Some after) none = ap (alone.and_replies (replied after.reply)) (further after none)

  pub waits_alone : (world : World) (lone : LoneWorld) → AreBoth world lone → AllWaitOn world → IsStill lone
  waits_alone world lone both waits =
      by (one_answered lone_desktop lone.session lone.desktop)
      (subst (λ (o : Option (Left Desktop)). SameOption (SameLeft Same) o (one_answered lone_desktop lone.session lone.desktop)) (waits_each world c lone.session waits both.lives)
      (one_alike (desktop_for c) lone_desktop Same Later HasWindow HasConnection May alike lone.session world.desktop lone.desktop both.same both.keeps))
    where
      by : (o : Option (Left LoneDesktop)) → SameOption (SameLeft Same) None o → o ≡ None
      by None one = refl
      by (Some there) one = absurd one

  -- what an event's end leaves: the same replies to the session, and both worlds as before
  pub record EndsAlike (world : World) (lone : LoneWorld) : Type 0 where
    pub replies : replies_to c (settled world).1 ≡ (all_settled lone).1
    pub both : AreBoth (settled world).0 (all_settled lone).0

  -- Reads that wait are answered alike, all that can be.
  pub settled_alike : (world : World) (lone : LoneWorld) → AreBoth world lone → EndsAlike world lone
  settled_alike world lone both =
      let one = settled_both (waiting_in world) world lone both in
      let none = waits_alone (settled world).0 one.rest one.both (settled_ends (waiting_in world) world both.order (omega arith)) in
      let ended : all_settled lone ≡ settled_alone one.count lone =
      ap (λ (k : ℕ). settled_alone k lone) (sym one.all)
      ∙ stuck one.count (length one.rest.session.waiting) lone (subst (λ (after : LoneWorld × List (List ℕ)). IsStill after.0) (sym one.settled) none) in
      let is = ended ∙ one.settled in
      record {
        replies = sym (ap (λ (after : LoneWorld × List (List ℕ)). after.1) is);
        both = subst (λ (after : LoneWorld × List (List ℕ)). AreBoth (settled world).0 after.0) (sym is) one.both;
      }
