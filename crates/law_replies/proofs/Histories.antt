-- The replies of a history: each fits what its session agreed on, and has a message of its own.
use Rattle.std.proofs.Common.{◌≡◌, ◌<◌, ◌≤◌, ◌+◌, ◌^◌, ℕ, zero, suc, Bool, true, false, cond, eqb, List, [], ◌∷◌, ◌++◌, All, Option, Some, None, refl, sym, ap, subst, ◌∙◌, arith}
use Rattle.std.specs.Prelude.{◌&&◌, ◌==◌, IfSome, count_by}
use Rattle.std.specs.Option.{option_map, option_map_or}
use Rattle.std.proofs.lemmas.Bool.{eqb-true, eqb-false}
use Rattle.std.proofs.lemmas.List.Elements.{All-append, All-cons, All-nil, All-weaker}
use Rattle.std.proofs.lemmas.List.Sums.{sum_by-append, sum_by-cons}
use Rattle.std.proofs.lemmas.Nat.{from_le_bytes-to_le_bytes_2}
use Rattle.r9_event.specs.declared.event.event.Event.{Event}
use Rattle.r9_event.specs.declared.event.event.Event.TheVariants.{Begin, Msg, Take, End, Stop}
use Rattle.r9_event.specs.declared.event.event.Opening.{Opening}
use Rattle.r9_event.specs.declared.event.event.Reply.{Reply}
use Rattle.model_text.specs.text.Map.{lookup, with, and, without}
use Rattle.model_text.proofs.map.Maps.{and-here, and-others, with-here, with-others, without-others}
use Rattle.model_text.proofs.map.Ascending.{without-here, ascend-with, ascend-without}
use Rattle.model_files.specs.wire.Message.{R, Rversion, Rattach, Rerror, Rflush, Rwalk, Ropen, Rread, Rwrite, Rclunk, Rstat}
use Rattle.model_files.specs.wire.Reading.{tag_of}
use Rattle.model_files.specs.wire.Spelling.{message, spelling_of_r}
use Rattle.model_history.specs.event.Legal.{AllowedFrom, AllowedTo, IsLegal, IsMessage, Roll, no_sessions, roll_after}
use Rattle.model_world.specs.Session.{Session, fresh}
use Rattle.model_world.specs.Desktop.{Desktop}
use Rattle.model_world.specs.Whole.{desktop_for}
use Rattle.model_world.specs.World.{World, opened}
use Rattle.model_world.specs.Fids.{Left, cleared}
use Rattle.model_world.specs.Waiting.{one_answered}
use Rattle.model_world.specs.Answer.{answer}
use Rattle.model_world.specs.Replay.{and_replies, ended, first_answered, replay, replies, replies_from, reply_to, served, settled_within, step, waiting_in, with_left, world_from}
use Rattle.model_world.specs.Standing.{AreInOrder, tag_of_r}
use Rattle.model_world.proofs.Others.{some_is}
use Rattle.model_world.proofs.Settling.{all_in, first_gives}
use Rattle.model_world.proofs.Standing.{step_order}
use Rattle.law_replies.specs.Answers.{IsAnswer, IsAnswerIn, msize_in}
use Rattle.law_replies.specs.Tags.{answers, reads_waiting, says, waiting_with}
use Rattle.law_replies.proofs.Lengths.{Fits}
use Rattle.law_replies.proofs.Given.{desktop_tells}
use Rattle.law_replies.proofs.Sessions.{Goes, IsHeld, IsSized, answer_goes, one_if, replied_with, tag_small}
use Rattle.law_replies.proofs.Late.{IsLate, one_goes}

-- ---- the tag of a reply stands in its bytes

tag_told : (kind tag : ℕ) (body : List ℕ) → tag < 2 ^ 16 → tag_of (message kind tag body) ≡ tag
unfolding message
tag_told kind tag body small = let e = from_le_bytes-to_le_bytes_2 tag small in omega (arith, e)

tag_spelled : (r : R) → tag_of_r r < 2 ^ 16 → tag_of (spelling_of_r r) ≡ tag_of_r r
tag_spelled (Rversion tag msize version) small = tag_told _ tag _ small
tag_spelled (Rattach tag qid) small = tag_told _ tag _ small
tag_spelled (Rerror tag ename) small = tag_told _ tag _ small
tag_spelled (Rflush tag) small = tag_told _ tag _ small
tag_spelled (Rwalk tag qids) small = tag_told _ tag _ small
tag_spelled (Ropen tag qid iounit) small = tag_told _ tag _ small
tag_spelled (Rread tag bytes) small = tag_told _ tag _ small
tag_spelled (Rwrite tag count) small = tag_told _ tag _ small
tag_spelled (Rclunk tag) small = tag_told _ tag _ small
tag_spelled (Rstat tag stat) small = tag_told _ tag _ small

reply_count : (c tag d : ℕ) (o : Option R) → IfSome o (λ r. tag_of_r r < 2 ^ 16) → count_by (answers c tag) (reply_to d o) ≡ cond (d == c) (replied_with tag o) 0
reply_count c tag d None small = by (d == c)
  where
    by : (b : Bool) → ◌≡◌ {A = ℕ} 0 (cond b 0 0)
    by true = refl
    by false = refl
reply_count c tag d (Some r) small =
    let one : Reply = record { session = d; bytes = spelling_of_r r } in
    sum_by-cons (λ (reply : Reply). cond (answers c tag reply) 1 0) one [] ∙ ap (λ (k : ℕ). one_if ((d == c) && (k == tag)) + 0) (tag_spelled r small) ∙ by (d == c) (tag_of_r r == tag)
  where
    by : (a b : Bool) → one_if (a && b) + 0 ≡ cond a (one_if b) 0
    by true b = omega arith
    by false b = omega arith

-- ---- what is seen of a session

with_seen : {X : Type 0} (f : Option Session → X) (sessions : List (ℕ × Session)) (c d : ℕ) (old new : Session) → lookup sessions d ≡ Some old
    → f (lookup (with sessions d new) c) ≡ cond (d == c) (f (Some new)) (f (lookup sessions c))
with_seen {X = X} f sessions c d old new there = by (d == c) refl
  where
    by : (b : Bool) → eqb d c ≡ b → f (lookup (with sessions d new) c) ≡ cond b (f (Some new)) (f (lookup sessions c))
    by true is = ap f (ap (λ (k : ℕ). lookup (with sessions d new) k) (sym (eqb-true d c is)) ∙ with-here sessions d old new there)
    by false is = ap f (with-others sessions d c new (λ same. eqb-false d c is (sym same)))

here_seen : {X : Type 0} (f : Option Session → X) (sessions : List (ℕ × Session)) (c d : ℕ) (old : Session) → lookup sessions d ≡ Some old → (d == c) ≡ true → f (lookup sessions c) ≡ f (Some old)
here_seen f sessions c d old there is = ap f (ap (λ (k : ℕ). lookup sessions k) (sym (eqb-true d c is)) ∙ there)

abbrev waits_of : (tag : ℕ) → Option Session → ℕ
waits_of tag o = option_map_or (λ session. waiting_with session tag) o 0

abbrev size_of : Option Session → Option ℕ
size_of o = option_map (λ session. session.msize) o

-- ---- worlds

pub record IsGood (world : World) : Type 0 where
  pub order : AreInOrder world
  pub sized : (c : ℕ) (session : Session) → lookup world.sessions c ≡ Some session → IsSized session

left_good : (world : World) (c : ℕ) (session : Session) (left : Left Desktop) → IsGood world → lookup world.sessions c ≡ Some session → IsSized left.session → IsGood (with_left world c left)
left_good world c session left good there sized = record { order = ascend-with world.sessions c left.session good.order; sized = each }
  where
    each : (d : ℕ) (s : Session) → lookup (with world.sessions c left.session) d ≡ Some s → IsSized s
    each d s at = by (eqb d c) refl
      where
        by : (b : Bool) → eqb d c ≡ b → IsSized s
        by true is =
            subst IsSized (some_is left.session s (sym (with-here world.sessions c session left.session there) ∙ ap (λ (k : ℕ). lookup (with world.sessions c left.session) k) (sym (eqb-true d c is)) ∙ at)) sized
        by false is = good.sized d s (sym (with-others world.sessions c d left.session (λ same. eqb-false d c is same)) ∙ at)

fresh_sized : IsSized fresh
fresh_sized = record { least = omega arith; held = All-nil _ }

begun_good : (world : World) (c : ℕ) → IsGood world → IsGood (step world (Begin c)).world
begun_good world c good = record { order = step_order world (Begin c) good.order; sized = each }
  where
    each : (d : ℕ) (s : Session) → lookup (and world.sessions c fresh) d ≡ Some s → IsSized s
    each d s at = by (eqb d c) refl
      where
        by : (b : Bool) → eqb d c ≡ b → IsSized s
        by true is = subst IsSized (some_is fresh s (sym (and-here world.sessions c fresh) ∙ ap (λ (k : ℕ). lookup (and world.sessions c fresh) k) (sym (eqb-true d c is)) ∙ at)) fresh_sized
        by false is = good.sized d s (sym (and-others world.sessions c d fresh (λ same. eqb-false d c is same)) ∙ at)

-- a world without a session
abbrev pub gone_in : World → (c : ℕ) → Desktop → World
gone_in world c desktop = record world { desktop = desktop; sessions = without world.sessions c }

gone_good : (world : World) (c : ℕ) (desktop : Desktop) → IsGood world → IsGood (gone_in world c desktop)
gone_good world c desktop good = record { order = ascend-without world.sessions c good.order; sized = each }
  where
    each : (d : ℕ) (s : Session) → lookup (without world.sessions c) d ≡ Some s → IsSized s
    each d s at = by (eqb d c) refl
      where
        by : (b : Bool) → eqb d c ≡ b → IsSized s
        by true is =
            absurd (let two : ◌≡◌ {A = Option Session} None (Some s) = sym (without-here world.sessions c good.order) ∙ ap (λ (k : ℕ). lookup (without world.sessions c) k) (sym (eqb-true d c is)) ∙ at in cc two)
        by false is = good.sized d s (sym (without-others world.sessions c d (λ same. eqb-false d c is same)) ∙ at)

-- ---- answers to reads that waited

-- what a world became, and the replies on the way: no session has another size, and each reply was one to a read that waited
pub record Settles (world : World) (next : World × List Reply) : Type 0 where
  pub good : IsGood next.0
  pub sizes : (c : ℕ) → msize_in next.0 c ≡ msize_in world c
  pub given : All (IsAnswerIn world) next.1
  pub owed : (c tag : ℕ) → count_by (answers c tag) next.1 + reads_waiting next.0 c tag ≤ reads_waiting world c tag

same_answers : (before after : World) (all : List Reply) → ((c : ℕ) → msize_in after c ≡ msize_in before c) → All (IsAnswerIn after) all → All (IsAnswerIn before) all
same_answers before after all sizes given = All-weaker (IsAnswerIn after) (IsAnswerIn before) (λ reply is. subst (λ (o : Option ℕ). IsAnswer o reply) (sizes reply.session) is) all given

rests : (world : World) → IsGood world → Settles world (world, [])
rests world good = record { good = good; sizes = λ c. refl; given = All-nil (IsAnswerIn world); owed = λ c tag. omega arith }

further : (world : World) (next last : World × List Reply) → Settles world next → Settles next.0 last → Settles world (last.0, next.1 ++ last.1)
further world next last first second = record {
  good = second.good;
  sizes = λ c. second.sizes c ∙ first.sizes c;
  given = All-append (IsAnswerIn world) next.1 last.1 first.given (same_answers world next.0 last.1 first.sizes second.given);
  owed = λ c tag. (let a = first.owed c tag in let b = second.owed c tag in omega (arith, a, b, sum_by-append (λ (reply : Reply). cond (answers c tag reply) 1 0) next.1 last.1));
}

-- a reply to a session that has this size
answers_one : (size : ℕ → Option ℕ) (d msize : ℕ) (o : Option R) → size d ≡ Some msize → IfSome o (λ r. (tag_of_r r < 2 ^ 16) × Fits msize r) → All (λ (reply : Reply). IsAnswer (size reply.session) reply) (reply_to d o)
answers_one size d msize None there fits = All-nil (λ (reply : Reply). IsAnswer (size reply.session) reply)
answers_one size d msize (Some r) there fits =
    All-cons (λ (reply : Reply). IsAnswer (size reply.session) reply) (record { session = d; bytes = spelling_of_r r }) []
    (record { msize = msize; lives = there; message = r; tag = fits.0; spelled = refl; short = fits.1 })
    (All-nil (λ (reply : Reply). IsAnswer (size reply.session) reply))

only_tag : (msize : ℕ) (o : Option R) → IfSome o (λ r. (tag_of_r r < 2 ^ 16) × Fits msize r) → IfSome o (λ r. tag_of_r r < 2 ^ 16)
only_tag msize None fits = tt
only_tag msize (Some r) fits = fits.0

late_settles : (world : World) (d : ℕ) (session : Session) (after : Left Desktop) → IsGood world → lookup world.sessions d ≡ Some session → one_answered (desktop_for d) session world.desktop ≡ Some after
    → Settles world (with_left world d after, reply_to d after.reply)
late_settles world d session after good there at = record {
  good = left_good world d session after good there (record { least = subst (λ (n : ℕ). 256 ≤ n) (sym late.size) is.least; held = subst (λ (n : ℕ). All (IsHeld n) after.session.waiting) (sym late.size) late.held });
  sizes = λ c. with_seen size_of world.sessions c d session after.session there ∙ same c (d == c) refl;
  given = answers_one (msize_in world) d session.msize after.reply (ap size_of there) late.fits;
  owed = owed;
}
  where
    is : IsSized session
    is = good.sized d session there

    late : IsLate session.msize session.waiting after
    late = one_goes d session world.desktop after is at

    same : (c : ℕ) (b : Bool) → (d == c) ≡ b → cond b (size_of (Some after.session)) (size_of (lookup world.sessions c)) ≡ size_of (lookup world.sessions c)
    same c true e = ap (λ (n : ℕ). Some n) late.size ∙ sym (here_seen size_of world.sessions c d session there e)
    same c false e = refl

    owed : (c tag : ℕ) → count_by (answers c tag) (reply_to d after.reply) + reads_waiting (with_left world d after) c tag ≤ reads_waiting world c tag
    owed c tag = by (d == c) refl (reply_count c tag d after.reply (only_tag session.msize after.reply late.fits)) (with_seen (waits_of tag) world.sessions c d session after.session there)
      where
        by : (b : Bool) → (d == c) ≡ b → count_by (answers c tag) (reply_to d after.reply) ≡ cond b (replied_with tag after.reply) 0
            → reads_waiting (with_left world d after) c tag ≡ cond b (waiting_with after.session tag) (reads_waiting world c tag) → count_by (answers c tag) (reply_to d after.reply) + reads_waiting (with_left world d after) c tag ≤ reads_waiting world c tag
        by true e count waits =
            let was : reads_waiting world c tag ≡ waiting_with session tag = here_seen (waits_of tag) world.sessions c d session there e in
            let less = late.owed tag in
            omega (arith, count, waits, was, less)
        by false e count waits = omega (arith, count, waits)

first_settles : (world : World) → IsGood world → IfSome (first_answered world world.sessions) (Settles world)
first_settles world good = first_gives (Settles world) world world.sessions (all_in world.sessions good.order) (λ d session after there at. late_settles world d session after good there at)

pub settled_settles : (most : ℕ) (world : World) → IsGood world → Settles world (settled_within most world)
unfolding settled_within
settled_settles zero world good = rests world good
settled_settles (suc most) world good = by (λ next good. settled_settles most next good) (first_answered world world.sessions) (first_settles world good)
  where
    by : ((next : World) → IsGood next → Settles next (settled_within most next)) → (o : Option (World × List Reply)) → IfSome o (Settles world)
        → Settles world (option_map_or (λ next. and_replies next.1 (settled_within most next.0)) o (world, []))
    by more None first = rests world good
    by more (Some next) first = further world next (settled_within most next.0) first (more next.0 first.good)

-- ---- events

-- what an event makes of a world, and the replies to it
pub record Turns (world : World) (event : Event) (after : World) (told : List Reply) : Type 0 where
  pub good : IsGood after
  pub given : All (IsAnswerIn after) told
  pub owed : (c tag : ℕ) → count_by (answers c tag) told + reads_waiting after c tag ≤ reads_waiting world c tag + one_if (says c tag event)

-- another desktop changes nothing of it
beside_good : (world after : World) → after.sessions ≡ world.sessions → IsGood world → IsGood after
beside_good world after same good = record {
  order = subst (λ (sessions : List (ℕ × Session)). AreInOrder (record world { sessions = sessions })) (sym same) good.order;
  sized = λ c session at. good.sized c session (ap (λ (sessions : List (ℕ × Session)). lookup sessions c) (sym same) ∙ at);
}

silent_turns : (world : World) (event : Event) (after : World) → after.sessions ≡ world.sessions → IsGood world → Turns world event after []
silent_turns world event after same good = record {
  good = beside_good world after same good;
  given = All-nil (IsAnswerIn after);
  owed = λ c tag. let e : reads_waiting after c tag ≡ reads_waiting world c tag = ap (λ (sessions : List (ℕ × Session)). waits_of tag (lookup sessions c)) same in omega (arith, e);
}

-- what settles after an event
settled_turns : (world : World) (event : Event) (between after : World) (given : List Reply) (last : World × List Reply) → after.sessions ≡ last.0.sessions → Turns world event between given → Settles between last
    → Turns world event after (given ++ last.1)
settled_turns world event between after given last same turns settles = record {
  good = beside_good last.0 after same settles.good;
  given = same_answers after between (given ++ last.1) (λ c. sym (seen c ∙ settles.sizes c)) (All-append (IsAnswerIn between) given last.1 turns.given settles.given);
  owed = λ c tag.
      let e : reads_waiting after c tag ≡ reads_waiting last.0 c tag = ap (λ (sessions : List (ℕ × Session)). waits_of tag (lookup sessions c)) same in
      let a = turns.owed c tag in
      let b = settles.owed c tag in
      omega (arith, e, a, b, sum_by-append (λ (reply : Reply). cond (answers c tag reply) 1 0) given last.1);
}
  where
    seen : (c : ℕ) → msize_in after c ≡ msize_in last.0 c
    seen c = ap (λ (sessions : List (ℕ × Session)). size_of (lookup sessions c)) same

answer_turns : (world : World) (d : ℕ) (bytes : List ℕ) (mark : Option ℕ) (session : Session) → IsGood world → IsMessage bytes → lookup world.sessions d ≡ Some session
    → (let left : Left Desktop = answer (desktop_for d) session world.desktop bytes mark in Turns world (Msg d bytes mark) (with_left world d left) (reply_to d left.reply))
answer_turns world d bytes mark session good are there = record {
  good = left_good world d session left good there goes.sized;
  given = answers_one (msize_in (with_left world d left)) d left.session.msize left.reply (ap size_of (with-here world.sessions d session left.session there)) (tagged left.reply goes.fits);
  owed = owed;
}
  where
    left : Left Desktop
    left = answer (desktop_for d) session world.desktop bytes mark

    goes : Goes (tag_of bytes) session left.session left.reply
    goes = answer_goes (desktop_for d) (desktop_tells d) session world.desktop bytes mark (good.sized d session there) are.are_bytes

    tagged : (o : Option R) → IfSome o (λ r. (tag_of_r r ≡ tag_of bytes) × Fits left.session.msize r) → IfSome o (λ r. (tag_of_r r < 2 ^ 16) × Fits left.session.msize r)
    tagged None fits = tt
    tagged (Some r) fits = (subst (λ (k : ℕ). k < 2 ^ 16) (sym fits.0) (tag_small bytes are.are_bytes), fits.1)

    owed : (c tag : ℕ) → count_by (answers c tag) (reply_to d left.reply) + reads_waiting (with_left world d left) c tag ≤ reads_waiting world c tag + one_if ((d == c) && (tag_of bytes == tag))
    owed c tag = by (d == c) refl (reply_count c tag d left.reply (only_tag left.session.msize left.reply (tagged left.reply goes.fits))) (with_seen (waits_of tag) world.sessions c d session left.session there)
      where
        by : (b : Bool) → (d == c) ≡ b → count_by (answers c tag) (reply_to d left.reply) ≡ cond b (replied_with tag left.reply) 0
            → reads_waiting (with_left world d left) c tag ≡ cond b (waiting_with left.session tag) (reads_waiting world c tag)
            → count_by (answers c tag) (reply_to d left.reply) + reads_waiting (with_left world d left) c tag ≤ reads_waiting world c tag + one_if (b && (tag_of bytes == tag))
        by true e count waits =
            let was : reads_waiting world c tag ≡ waiting_with session tag = here_seen (waits_of tag) world.sessions c d session there e in
            let less = goes.owed tag in
            omega (arith, count, waits, was, less)
        by false e count waits = omega (arith, count, waits)

served_turns : (world : World) (d : ℕ) (bytes : List ℕ) (mark : Option ℕ) (found : Option Session) → IsGood world → IsMessage bytes → lookup world.sessions d ≡ found
    → Turns world (Msg d bytes mark) (served world d bytes mark found).world (served world d bytes mark found).replies
served_turns world d bytes mark None good are at = silent_turns world (Msg d bytes mark) _ refl good
served_turns world d bytes mark (Some session) good are at =
    let left : Left Desktop = answer (desktop_for d) session world.desktop bytes mark in
    let between : World = with_left world d left in
    let turns = answer_turns world d bytes mark session good are at in
    settled_turns world (Msg d bytes mark) between _ (reply_to d left.reply) (settled_within (waiting_in between) between) refl turns (settled_settles (waiting_in between) between turns.good)

gone_waits : (world : World) (c d tag : ℕ) (desktop : Desktop) → IsGood world → reads_waiting (gone_in world d desktop) c tag ≤ reads_waiting world c tag
gone_waits world c d tag desktop good = by (eqb c d) refl
  where
    by : (b : Bool) → eqb c d ≡ b → reads_waiting (gone_in world d desktop) c tag ≤ reads_waiting world c tag
    by true is =
        let none : reads_waiting (gone_in world d desktop) c tag ≡ 0 = ap (waits_of tag) (ap (λ (k : ℕ). lookup (without world.sessions d) k) (eqb-true c d is) ∙ without-here world.sessions d good.order) in
        omega (arith, none)
    by false is =
        let same : reads_waiting (gone_in world d desktop) c tag ≡ reads_waiting world c tag = ap (waits_of tag) (without-others world.sessions d c (λ same. eqb-false c d is same)) in
        omega (arith, same)

ended_turns : (world : World) (d : ℕ) (found : Option Session) → IsGood world → Turns world (End d) (ended world d found).world (ended world d found).replies
ended_turns world d None good = silent_turns world (End d) _ refl good
ended_turns world d (Some session) good =
    let desktop : Desktop = (cleared (desktop_for d) session world.desktop).1 in
    let between : World = gone_in world d desktop in
    let turns : Turns world (End d) between [] = record { good = gone_good world d desktop good; given = All-nil (IsAnswerIn between); owed = λ c tag. (let less = gone_waits world c d tag desktop good in omega (arith, less)) } in
    settled_turns world (End d) between _ [] (settled_within (waiting_in between) between) refl turns (settled_settles (waiting_in between) between turns.good)

begun_waits : (world : World) (c d tag : ℕ) → waits_of tag (lookup (and world.sessions d fresh) c) ≤ waits_of tag (lookup world.sessions c)
begun_waits world c d tag = by (eqb c d) refl
  where
    by : (b : Bool) → eqb c d ≡ b → waits_of tag (lookup (and world.sessions d fresh) c) ≤ waits_of tag (lookup world.sessions c)
    by true is =
        let none : waits_of tag (lookup (and world.sessions d fresh) c) ≡ 0 = ap (waits_of tag) (ap (λ (k : ℕ). lookup (and world.sessions d fresh) k) (eqb-true c d is) ∙ and-here world.sessions d fresh) in
        omega (arith, none)
    by false is =
        let same : waits_of tag (lookup (and world.sessions d fresh) c) ≡ waits_of tag (lookup world.sessions c) = ap (waits_of tag) (and-others world.sessions d c fresh (λ same. eqb-false c d is same)) in
        omega (arith, same)

pub step_turns : (roll : Roll) (world : World) (event : Event) → AllowedTo roll event → IsGood world → Turns world event (step world event).world (step world event).replies
step_turns roll world (Begin d) allowed good = record {
  good = begun_good world d good;
  given = All-nil (IsAnswerIn (step world (Begin d)).world);
  owed = λ c tag. (let less = begun_waits world c d tag in omega (arith, less));
}
step_turns roll world (Msg d bytes mark) allowed good = served_turns world d bytes mark (lookup world.sessions d) good allowed.1 refl
step_turns roll world (Take d) allowed good = silent_turns world (Take d) _ refl good
step_turns roll world (End d) allowed good = ended_turns world d (lookup world.sessions d) good
step_turns roll world Stop allowed good = silent_turns world Stop _ refl good

-- ---- histories

history_good : (roll : Roll) (world : World) (events : List Event) → AllowedFrom roll events → IsGood world → IsGood (world_from world events)
history_good roll world [] allowed good = good
history_good roll world (event ∷ events) allowed good = history_good (roll_after roll event) (step world event).world events allowed.1 (step_turns roll world event allowed.0.1 good).good

opened_good : (opening : Opening) → IsGood (opened opening)
opened_good opening = record { order = tt; sized = λ c session at. absurd (cc at) }

owed_from : (c tag : ℕ) (roll : Roll) (world : World) (events : List Event) → AllowedFrom roll events → IsGood world
    → count_by (answers c tag) (replies_from world events) + reads_waiting (world_from world events) c tag ≤ reads_waiting world c tag + count_by (says c tag) events
owed_from c tag roll world [] allowed good = omega arith
owed_from c tag roll world (event ∷ events) allowed good =
    let turns = step_turns roll world event allowed.0.1 good in
    let first = turns.owed c tag in
    let rest = owed_from c tag (roll_after roll event) (step world event).world events allowed.1 turns.good in
    omega (
      arith,
      first,
      rest,
      sum_by-append (λ (reply : Reply). cond (answers c tag reply) 1 0) (step world event).replies (replies_from (step world event).world events),
      sum_by-cons (λ (e : Event). cond (says c tag e) 1 0) event events,
    )

pub history_owed : (opening : Opening) (events : List Event) (c tag : ℕ) → IsLegal events → count_by (answers c tag) (replies opening events) + reads_waiting (replay opening events) c tag ≤ count_by (says c tag) events
history_owed opening events c tag legal = let all = owed_from c tag no_sessions (opened opening) events legal (opened_good opening) in omega (arith, all)

-- the last event of a history
last_turns : (roll : Roll) (world : World) (events : List Event) (event : Event) → AllowedFrom roll (events ++ event ∷ []) → IsGood world
    → All (IsAnswerIn (step (world_from world events) event).world) (step (world_from world events) event).replies
last_turns roll world [] event allowed good = (step_turns roll world event allowed.0.1 good).given
last_turns roll world (first ∷ events) event allowed good = last_turns (roll_after roll first) (step world first).world events event allowed.1 (step_turns roll world first allowed.0.1 good).good

pub history_answers : (opening : Opening) (events : List Event) (event : Event) → IsLegal (events ++ event ∷ []) → All (IsAnswerIn (step (replay opening events) event).world) (step (replay opening events) event).replies
history_answers opening events event legal = last_turns no_sessions (opened opening) events event legal (opened_good opening)
