-- Which reads are answered after an event, and how many are left.
use Rattle.std.proofs.Common.{◌≡◌, ◌<◌, ◌≤◌, ◌+◌, ℕ, Bool, true, false, cond, eqb, length, not, List, [], ◌∷◌, ◌++◌, Option, Some, None, inl, inr, refl, sym, ap, subst, ◌∙◌, arith, append_assoc}
use Rattle.std.specs.Prelude.{◌==◌, ◌||◌}
use Rattle.std.specs.Map.{keys_of}
use Rattle.std.proofs.lemmas.Bool.{eqb-true}
use Rattle.std.proofs.lemmas.List.{append-nil}
use Rattle.std.proofs.lemmas.Map.Steps.{set_value_same}
use Rattle.r9_event.specs.declared.event.event.Opening.{Opening}
use Rattle.r9_event.specs.declared.event.event.Reply.{Reply}
use Rattle.model_text.specs.text.Map.{is_key, lookup, with}
use Rattle.model_text.specs.map.Ascending.{AreAbove, Ascend}
use Rattle.model_text.proofs.map.Keys.{not_key}
use Rattle.model_text.proofs.map.Maps.{with-others}
use Rattle.model_world.specs.Session.{Session}
use Rattle.model_world.specs.Desktop.{Desktop}
use Rattle.model_world.specs.Fids.{Left}
use Rattle.model_world.specs.Waiting.{first_of, one_answered}
use Rattle.model_world.specs.Whole.{desktop_for}
use Rattle.model_world.specs.World.{World}
use Rattle.model_world.specs.Links.{AreLinked, is_among}
use Rattle.model_world.proofs.Asking.{first_is}
use Rattle.model_world.proofs.Others.{some_is}
use Rattle.model_world.proofs.Waking.{all_wait, late_spares}
use Rattle.model_world.proofs.Steps.{late_linked}
use Rattle.model_world.specs.Replay.{answered_in, first_answered, reply_to, settled, waiting_in, with_left}
use Rattle.model_world.proofs.Settling.{IfNext}
use Rattle.model_world.proofs.Standing.{IsLess, first_is_less, settled_next, settled_none}
use Rattle.r9_hall.specs.hall.Settling.{answered_at, answered_by, world_of, AreAsked, AreWoken, GoesOn, IsLate, IsNext, IsSettled, IsSkipped, WaitsAt}

-- ---- one session

pub at_next : (opening : Opening) (sessions after : List (ℕ × Session)) (desktop left : Desktop) (c : ℕ) (session now : Session) (given : Option Reply) → lookup sessions c ≡ Some session
    → after ≡ with sessions c now → IsLate c session desktop given now left
    → IsNext (answered_at (world_of opening sessions desktop) c) (world_of opening sessions desktop) given (world_of opening after left)
at_next opening sessions after desktop left c session now None at written late =
    let world = world_of opening sessions desktop in
    let same : after ≡ sessions = written ∙ ap (λ (s : Session). with sessions c s) late.1 ∙ set_value_same (is_key c) sessions session at in (
      ap (λ (o : Option Session). answered_by world c o) at ∙ ap (λ (o : Option (Left Desktop)). answered_in world c o None) late.0,
      λ i. world_of opening (same i) (late.2 i),
    )
at_next opening sessions after desktop left c session now (Some given) at written late =
    let world = world_of opening sessions desktop in
    ap (λ (o : Option Session). answered_by world c o) at
    ∙ ap (λ (o : Option (Left Desktop)). answered_in world c o None) late.1
    ∙ (λ i. Some (world_of opening (sym written i) left, sym late.2 i ∷ []))

-- ---- one session after another

none_of : (world : World) (c : ℕ) (o : Option (Left Desktop)) → answered_in world c o None ≡ None → o ≡ None
none_of world c None none = refl
none_of world c (Some after) none = absurd (cc none)

-- a session that was asked and has no answer
pub waits_at : (world : World) (c : ℕ) → answered_at world c ≡ None → WaitsAt world.sessions world.desktop c
waits_at world c none session there =
    none_of world c (one_answered (desktop_for c) session world.desktop) (ap (λ (o : Option Session). answered_by world c o) (sym there) ∙ none)

-- one of which no read waits
pub none_waits : (c : ℕ) (session : Session) (desktop : Desktop) → session.waiting ≡ [] → one_answered (desktop_for c) session desktop ≡ None
unfolding first_of
none_waits c session desktop none = ap (λ w. first_of (desktop_for c) session desktop [] w) none

-- what an answer of a session leaves
answer_leaves : (P : Option (World × List Reply) → Type 0) (world : World) (c : ℕ) (found : World × List Reply)
    → ((session : Session) (after : Left Desktop) → lookup world.sessions c ≡ Some session → one_answered (desktop_for c) session world.desktop ≡ Some after → P (Some (with_left world c after, reply_to c after.reply)))
    → answered_at world c ≡ Some found → P (Some found)
answer_leaves P world c found each at = by (lookup world.sessions c) refl at
  where
    by : (o : Option Session) → lookup world.sessions c ≡ o → answered_by world c o ≡ Some found → P (Some found)
    by None there at = absurd (cc at)
    by (Some session) there at = one (one_answered (desktop_for c) session world.desktop) refl at
      where
        one : (o : Option (Left Desktop)) → one_answered (desktop_for c) session world.desktop ≡ o → answered_in world c o None ≡ Some found → P (Some found)
        one None is at = absurd (cc at)
        one (Some after) is at = subst P at (each session after there is)

-- is the first where none below has one
pub next_first : (world : World) (c : ℕ) (found : World × List Reply) → Ascend (keys_of world.sessions) → ((d : ℕ) → d < c → WaitsAt world.sessions world.desktop d) → answered_at world c ≡ Some found
    → first_answered world world.sessions ≡ Some found
next_first world c found order below at =
    answer_leaves (λ o. first_answered world world.sessions ≡ o) world c found (λ session after there is. first_is world c session after order there is (λ d other less. below d less other)) at

-- and leaves those waiting that have none
pub next_waits : (world : World) (c : ℕ) (found : World × List Reply) (d : ℕ) → answered_at world c ≡ Some found → WaitsAt world.sessions world.desktop d → WaitsAt found.0.sessions found.0.desktop d
next_waits world c found d at waits = answer_leaves (λ o. IfNext (λ next. WaitsAt next.sessions next.desktop d) o) world c found each at
  where
    each : (session : Session) (after : Left Desktop) → lookup world.sessions c ≡ Some session → one_answered (desktop_for c) session world.desktop ≡ Some after → WaitsAt (with world.sessions c after.session) after.rest d
    each session after there is other found = late_spares c d session other world.desktop after is (waits other (sym (with-others world.sessions c d after.session another) ∙ found))
      where
        another : d ≡ c → ⊥
        another same = let two : None ≡ Some after = sym (subst (λ (k : ℕ). WaitsAt world.sessions world.desktop k) same waits session there) ∙ is in cc two

-- which keeps the connections
pub linked_next : (world next : World) (reply : Reply) → AreLinked world.desktop.device world.sessions → first_answered world world.sessions ≡ Some (next, reply ∷ []) → AreLinked next.desktop.device next.sessions
linked_next world next reply linked is = let P : Option (World × List Reply) → Type 0 = λ o. IfNext (λ n. AreLinked n.desktop.device n.sessions) o in subst P is (late_linked world linked)

-- ---- a turn of the loop

pub goes_on : (first world next : World) (before replies : List Reply) (reply : Reply) → Ascend (keys_of world.sessions) → GoesOn first before world replies → first_answered world world.sessions ≡ Some (next, reply ∷ [])
    → GoesOn first before next (replies ++ reply ∷ [])
goes_on first world next before replies reply ascend on is =
    let step = settled_next world (next, reply ∷ []) ascend is in
    record {
      world_is = sym (ap (λ (r : World × List Reply). r.0) step) ∙ on.world_is;
      replies_are = append_assoc replies (reply ∷ []) (settled next).1 ∙ ap (λ (r : World × List Reply). replies ++ r.1) (sym step) ∙ on.replies_are;
    }

pub goes_then : (first world next : World) (before replies more : List Reply) → GoesOn first before world replies → GoesOn world replies next more → GoesOn first before next more
goes_then first world next before replies more on then = record { world_is = then.world_is ∙ on.world_is; replies_are = then.replies_are ∙ on.replies_are }

pub ends : (first world after : World) (before replies : List Reply) → GoesOn first before world replies → first_answered world world.sessions ≡ None → after ≡ world → IsSettled first before after replies
ends first world after before replies on none same =
    let step = settled_none world none in
    record {
      world = same ∙ sym (ap (λ (r : World × List Reply). r.0) step) ∙ on.world_is;
      replies_are = sym (append-nil replies) ∙ ap (λ (r : World × List Reply). replies ++ r.1) (sym step) ∙ on.replies_are;
    }

pub less : (world next : World) (replies : List Reply) → Ascend (keys_of world.sessions) → first_answered world world.sessions ≡ Some (next, replies) → waiting_in next + 1 ≡ waiting_in world
less world next replies ascend is = (let P : Option (World × List Reply) → Type 0 = λ o. IfNext (IsLess world) o in subst P is (first_is_less world ascend)).1

-- some opening: what waits is the same under each
pub any_opening : Opening
any_opening = record { width = 0; height = 0; chan = 0 }

-- ---- the sessions that are asked

above_among : (n k : ℕ) (ns : List ℕ) → AreAbove n ns → k ≤ n → is_among ns k ≡ false
above_among n k [] above less = refl
above_among n k (m ∷ ms) above less = rw (not_key m k (λ same. omega (arith, same, less, above.0))) (above_among n k ms above.1 less)

-- none below the first is among them
pub below_first : (sessions : List (ℕ × Session)) (desktop : Desktop) (c : ℕ) (later left : List ℕ) → AreAsked sessions desktop left → left ≡ c ∷ later → (d : ℕ) → d < c → WaitsAt sessions desktop d
below_first sessions desktop c later left asked is d less =
    let here : AreAsked sessions desktop (c ∷ later) = subst (λ (l : List ℕ). AreAsked sessions desktop l) is asked in
    here.others d (rw (not_key c d (λ same. omega (arith, same, less))) (above_among c d later here.ascending.0 (omega (arith, less))))

-- one of them was asked, and waits on
pub ask_next : (sessions after : List (ℕ × Session)) (desktop rest : Desktop) (c : ℕ) (later left : List ℕ) → AreAsked sessions desktop left → left ≡ c ∷ later → WaitsAt after rest c
    → ((d : ℕ) → WaitsAt sessions desktop d → WaitsAt after rest d) → AreAsked after rest later
ask_next sessions after desktop rest c later left asked is waits others =
    let here : AreAsked sessions desktop (c ∷ later) = subst (λ (l : List ℕ). AreAsked sessions desktop l) is asked in
    record { ascending = here.ascending.1; others = λ d none. by here d none (eqb c d) refl }
  where
    by : AreAsked sessions desktop (c ∷ later) → (d : ℕ) → is_among later d ≡ false → (b : Bool) → eqb c d ≡ b → WaitsAt after rest d
    by here d none true same = subst (λ (k : ℕ). WaitsAt after rest k) (eqb-true c d same) waits
    by here d none false other = others d (here.others d (rw other none))

-- nobody is to be asked any more
pub asked_all : (world : World) (left : List ℕ) → Ascend (keys_of world.sessions) → AreAsked world.sessions world.desktop left → left ≡ [] → first_answered world world.sessions ≡ None
asked_all world left order asked is =
    let here : AreAsked world.sessions world.desktop [] = subst (λ (l : List ℕ). AreAsked world.sessions world.desktop l) is asked in
    all_wait world order (λ c. here.others c refl)

-- ---- which they are

woken_above : (n c : ℕ) (windows : List ℕ) (sessions : List (ℕ × Session)) (asked : List ℕ) → AreAbove n (keys_of sessions) → AreWoken c windows sessions asked → AreAbove n asked
woken_above n c windows [] asked above woken = subst (λ (l : List ℕ). AreAbove n l) (sym woken) tt
woken_above n c windows (entry ∷ more) asked above (inl (later, is, woken)) = subst (λ (l : List ℕ). AreAbove n l) (sym is) (above.0, woken_above n c windows more later above.1 woken)
woken_above n c windows (entry ∷ more) asked above (inr (skipped, woken)) = woken_above n c windows more asked above.1 woken

pub woken_ascend : (c : ℕ) (windows : List ℕ) (sessions : List (ℕ × Session)) (asked : List ℕ) → Ascend (keys_of sessions) → AreWoken c windows sessions asked → Ascend asked
woken_ascend c windows [] asked ascend woken = subst (λ (l : List ℕ). Ascend l) (sym woken) tt
woken_ascend c windows (entry ∷ more) asked ascend (inl (later, is, woken)) =
    subst (λ (l : List ℕ). Ascend l) (sym is) (woken_above entry.0 c windows more later ascend.0 woken, woken_ascend c windows more later ascend.1 woken)
woken_ascend c windows (entry ∷ more) asked ascend (inr (skipped, woken)) = woken_ascend c windows more asked ascend.1 woken

-- the others need not be asked
pub woken_skips : (c : ℕ) (windows : List ℕ) (sessions : List (ℕ × Session)) (asked : List ℕ) (d : ℕ) (other : Session) → AreWoken c windows sessions asked → is_among asked d ≡ false
    → lookup sessions d ≡ Some other → IsSkipped c windows (d, other)
woken_skips c windows [] asked d other woken none there = absurd (cc there)
woken_skips c windows (entry ∷ more) asked d other (inl (later, is, woken)) none there =
    by (eqb entry.0 d) (ap (λ (l : List ℕ). is_among l d) (sym is) ∙ none) there (woken_skips c windows more later d other woken)
  where
    by : (b : Bool) → (b || is_among later d) ≡ false → cond b (Some entry.1) (lookup more d) ≡ Some other
        → (is_among later d ≡ false → lookup more d ≡ Some other → IsSkipped c windows (d, other)) → IsSkipped c windows (d, other)
    by true none there further = absurd (cc none)
    by false none there further = further none there
woken_skips c windows (entry ∷ more) asked d other (inr (skipped, woken)) none there =
    by (eqb entry.0 d) refl there (woken_skips c windows more asked d other woken none)
  where
    by : (b : Bool) → eqb entry.0 d ≡ b → cond b (Some entry.1) (lookup more d) ≡ Some other → (lookup more d ≡ Some other → IsSkipped c windows (d, other)) → IsSkipped c windows (d, other)
    by true same there further =
        subst (λ (k : ℕ). IsSkipped c windows (k, other)) (eqb-true entry.0 d same) (subst (λ (s : Session). IsSkipped c windows (entry.0, s)) (some_is entry.1 other there) skipped)
    by false apart there further = further there

-- ---- a turn of the loop that collects them

pub woken_taken : (c : ℕ) (windows : List ℕ) (all : List (ℕ × Session)) (entry : ℕ × Session) (rest : List (ℕ × Session)) (asked : List ℕ)
    → ((later : List ℕ) → AreWoken c windows (entry ∷ rest) later → AreWoken c windows all (asked ++ later)) → (later : List ℕ) → AreWoken c windows rest later
    → AreWoken c windows all ((asked ++ entry.0 ∷ []) ++ later)
woken_taken c windows all entry rest asked each later woken =
    subst (λ (l : List ℕ). AreWoken c windows all l) (sym (append_assoc asked (entry.0 ∷ []) later)) (each (entry.0 ∷ later) (inl (later, refl, woken)))

pub woken_passed : (c : ℕ) (windows : List ℕ) (all : List (ℕ × Session)) (entry : ℕ × Session) (rest : List (ℕ × Session)) (asked : List ℕ)
    → ((later : List ℕ) → AreWoken c windows (entry ∷ rest) later → AreWoken c windows all (asked ++ later)) → IsSkipped c windows entry → (later : List ℕ) → AreWoken c windows rest later
    → AreWoken c windows all (asked ++ later)
woken_passed c windows all entry rest asked each skipped later woken = each later (inr (skipped, woken))

-- nothing waits where nobody says so
pub woken_none : {A : Type 0} (waiting : List A) → not (length waiting == 0) ≡ false → waiting ≡ []
woken_none [] none = refl
woken_none (one ∷ more) none = absurd (omega (arith, eqb-true (length (one ∷ more)) 0 (by (length (one ∷ more) == 0) none)))
  where
    by : (b : Bool) → not b ≡ false → b ≡ true
    by true none = refl
    by false none = absurd (cc none)
