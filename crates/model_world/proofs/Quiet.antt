-- A read that was flushed gets no reply: where no read of a session waits that has a tag, no reply to the session has it, unless it
-- says something with that tag.
use Rattle.std.proofs.Common.{◌≡◌, ◌≤◌, ℕ, zero, suc, Bool, true, false, eqb, List, [], ◌∷◌, ◌++◌, Option, Some, None, Ok, Err, refl, sym, ap, subst, ◌∙◌, arith, length-append}
use Rattle.std.specs.Prelude.{◌||◌, ◌==◌, All, IfSome, drop, length}
use Rattle.std.specs.List.{list_any}
use Rattle.std.specs.Option.{option_map_or}
use Rattle.std.proofs.lemmas.Bool.{eqb-true, eqb-false}
use Rattle.std.proofs.lemmas.List.Elements.{All-append, All-cons, All-head, All-nil, All-tail}
use Rattle.std.proofs.lemmas.List.Folds.{list_any-append}
use Rattle.r9_event.specs.declared.event.event.Event.{Event}
use Rattle.r9_event.specs.declared.event.event.Event.TheVariants.{Begin, Msg, Take, End, Stop}
use Rattle.r9_event.specs.declared.event.event.Opening.{Opening}
use Rattle.r9_event.specs.declared.event.event.Reply.{Reply}
use Rattle.model_text.specs.text.Map.{lookup, with, and, without}
use Rattle.model_text.specs.text.Outcome.{Outcome}
use Rattle.model_files.specs.wire.Message.{R, Rflush, Tflush}
use Rattle.model_files.specs.wire.Reading.{message_of, tag_of}
use Rattle.model_files.specs.wire.Spelling.{spelling_of_r}
use Rattle.model_text.proofs.map.Maps.{and-here, and-others, with-here, with-others, without-others}
use Rattle.model_text.proofs.map.Ascending.{without-here, ascend-with, ascend-without}
use Rattle.model_world.specs.Session.{Session, Wait, fresh}
use Rattle.model_world.specs.Outside.{Outside}
use Rattle.model_world.specs.Desktop.{Desktop}
use Rattle.model_world.specs.Whole.{desktop_for}
use Rattle.model_world.specs.World.{World, opened}
use Rattle.model_world.specs.Fids.{Left, cleared}
use Rattle.model_world.specs.Reading.{Given, most_waiting}
use Rattle.model_world.specs.Waiting.{answered_or, first_of, one_answered, wait_answer, waits_for}
use Rattle.model_world.specs.Answer.{Taking, Ignored, TooLong, Closes, Reads, answer, taken, taking}
use Rattle.model_world.specs.Replay.{and_replies, ended, first_answered, replies_from, reply_to, served, settled_within, step, waiting_in, with_left, world_from}
use Rattle.model_world.specs.Standing.{AreInOrder, IsNoMessage, IsNoReply, tag_of_r, waits_in}
use Rattle.model_world.proofs.Links.{cleared_is}
use Rattle.model_world.proofs.Remains.{reply_remains}
use Rattle.model_world.proofs.Each.{Lasts, history_each}
use Rattle.model_world.proofs.Flushed.{append_one, flushed-waits, late-waits}
use Rattle.model_world.proofs.Settling.{all_in, first_gives}
use Rattle.model_world.proofs.Standing.{step_order}

-- ---- a message

cleared_waiting : {S : Type 0} (outside : Outside S) (session : Session) (rest : S) → (cleared outside session rest).0.waiting ≡ []
cleared_waiting {S = S} outside session rest = ap (λ (after : Session × S). after.0.waiting) (cleared_is outside session rest)

-- no read but its own waits more
answer_others : {S : Type 0} (outside : Outside S) (session : Session) (rest : S) (bytes : List ℕ) (mark : Option ℕ) (tag : ℕ) → (tag ≡ tag_of bytes → ⊥) → waits_for session tag ≡ false
    → waits_for (answer outside session rest bytes mark).session tag ≡ false
unfolding answer
answer_others outside session rest bytes mark tag other none = by (taking session bytes)
  where
    by : (t : Taking) → waits_for (taken outside session rest bytes mark t).session tag ≡ false
    by Ignored = none
    by TooLong = none
    by Closes = ap (λ (waits : List (ℕ × Wait)). list_any (λ read. read.0 == tag) waits) (cleared_waiting outside session rest)
    by Reads = (reply_remains outside session rest mark bytes).others tag other none

pub answer_tagged : {S : Type 0} (outside : Outside S) (session : Session) (rest : S) (bytes : List ℕ) (mark : Option ℕ) → IfSome (answer outside session rest bytes mark).reply (λ r. tag_of_r r ≡ tag_of bytes)
unfolding answer
answer_tagged outside session rest bytes mark = by (taking session bytes)
  where
    by : (t : Taking) → IfSome (taken outside session rest bytes mark t).reply (λ r. tag_of_r r ≡ tag_of bytes)
    by Ignored = tt
    by TooLong = refl
    by Closes = tt
    by Reads = (reply_remains outside session rest mark bytes).tagged

abbrev FewWait : Session → Type 0
FewWait session = length session.waiting ≤ most_waiting

answer_few : {S : Type 0} (outside : Outside S) (session : Session) (rest : S) (bytes : List ℕ) (mark : Option ℕ) → FewWait session → FewWait (answer outside session rest bytes mark).session
unfolding answer
answer_few outside session rest bytes mark few = by (taking session bytes)
  where
    by : (t : Taking) → FewWait (taken outside session rest bytes mark t).session
    by Ignored = few
    by TooLong = few
    by Closes = subst (λ (waits : List (ℕ × Wait)). length waits ≤ most_waiting) (sym (cleared_waiting outside session rest)) (omega arith)
    by Reads = (reply_remains outside session rest mark bytes).few few

-- ---- late replies

-- the reads that wait on are some of these
record LeavesSome {S : Type 0} (reads : List (ℕ × Wait)) (after : Left S) : Type 0 where
  others : (tag : ℕ) → list_any (λ read. read.0 == tag) reads ≡ false → waits_for after.session tag ≡ false
  few : length reads ≤ most_waiting → FewWait after.session

late_leaves : {S : Type 0} (reads : List (ℕ × Wait)) (session : Session) (rest : S) (tag : ℕ) (wait : Wait) (o : Option (Outcome (Given S))) (later : Option (Left S))
    → ((t : ℕ) → list_any (λ read. read.0 == t) reads ≡ false → waits_for session t ≡ false) → (length reads ≤ most_waiting → FewWait session) → IfSome later (LeavesSome reads)
    → IfSome (answered_or session rest tag wait o later) (LeavesSome reads)
late_leaves reads session rest tag wait None later others few more = more
late_leaves reads session rest tag wait (Some (Err n)) later others few more = record { others = others; few = few }
late_leaves reads session rest tag wait (Some (Ok got)) later others few more = record { others = others; few = few }

middle_out : (before after : List (ℕ × Wait)) (tag t : ℕ) (wait : Wait) → list_any (λ (read : ℕ × Wait). read.0 == t) (before ++ (tag, wait) ∷ after) ≡ false → list_any (λ (read : ℕ × Wait). read.0 == t) (before ++ after) ≡ false
middle_out before after tag t wait none =
    list_any-append (λ (read : ℕ × Wait). read.0 == t) before after
    ∙ by (list_any (λ (read : ℕ × Wait). read.0 == t) before) (tag == t) (list_any (λ (read : ℕ × Wait). read.0 == t) after) (sym (list_any-append (λ (read : ℕ × Wait). read.0 == t) before ((tag, wait) ∷ after)) ∙ none)
  where
    by : (a b c : Bool) → (a || (b || c)) ≡ false → (a || c) ≡ false
    by true b c none = none
    by false true c none = absurd (cc none)
    by false false c none = none

first_leaves_some : {S : Type 0} (outside : Outside S) (session : Session) (rest : S) (before after : List (ℕ × Wait)) → IfSome (first_of outside session rest before after) (LeavesSome (before ++ after))
unfolding first_of
first_leaves_some outside session rest before [] = tt
first_leaves_some {S = S} outside session rest before ((tag, wait) ∷ after) =
    let later = first_of outside session rest (before ++ (tag, wait) ∷ []) after in
    late_leaves (before ++ (tag, wait) ∷ after) (record session { waiting = before ++ after }) rest tag wait (wait_answer outside session rest wait) later
    (λ t none. middle_out before after tag t wait none)
    (λ few. omega (arith, few, length-append before after, length-append before ((tag, wait) ∷ after)))
    (subst (λ (reads : List (ℕ × Wait)). IfSome later (LeavesSome reads)) (append_one before after (tag, wait)) (first_leaves_some outside session rest (before ++ (tag, wait) ∷ []) after))

late_some : (c : ℕ) (session : Session) (desktop : Desktop) (after : Left Desktop) → one_answered (desktop_for c) session desktop ≡ Some after → LeavesSome session.waiting after
late_some c session desktop after is =
    let P : Option (Left Desktop) → Type 0 = λ o. IfSome o (LeavesSome session.waiting) in subst P is (first_leaves_some (desktop_for c) session desktop [] session.waiting)

-- ---- at most so many reads of a session wait

few_last : Lasts FewWait
few_last = record {
  anew = omega arith;
  answered = λ c session desktop bytes mark few. answer_few (desktop_for c) session desktop bytes mark few;
  late = λ c session desktop after few is. (late_some c session desktop after is).few few;
}

pub history_few : (opening : Opening) (events : List Event) (c : ℕ) (session : Session) → lookup (world_from (opened opening) events).sessions c ≡ Some session → length session.waiting ≤ most_waiting
history_few = history_each FewWait few_last

-- ---- a read of a session of a map

abbrev waits_at : List (ℕ × Session) → (c tag : ℕ) → Bool
waits_at sessions c tag = option_map_or (λ session. waits_for session tag) (lookup sessions c) false

waits_of : (sessions : List (ℕ × Session)) (c tag : ℕ) (session : Session) → lookup sessions c ≡ Some session → waits_at sessions c tag ≡ waits_for session tag
waits_of sessions c tag session at = ap (λ (found : Option Session). option_map_or (λ (s : Session). waits_for s tag) found false) at

with_waits : (sessions : List (ℕ × Session)) (c d tag : ℕ) (old new : Session) → lookup sessions d ≡ Some old → (c ≡ d → waits_for old tag ≡ false → waits_for new tag ≡ false) → waits_at sessions c tag ≡ false
    → waits_at (with sessions d new) c tag ≡ false
with_waits sessions c d tag old new there keeps none = by (eqb c d) refl
  where
    by : (b : Bool) → eqb c d ≡ b → waits_at (with sessions d new) c tag ≡ false
    by true is =
        let same : c ≡ d = eqb-true c d is in
        let here : lookup (with sessions d new) c ≡ Some new = ap (λ (k : ℕ). lookup (with sessions d new) k) same ∙ with-here sessions d old new there in
        let before : lookup sessions c ≡ Some old = ap (λ (k : ℕ). lookup sessions k) same ∙ there in
        waits_of (with sessions d new) c tag new here ∙ keeps same (sym (waits_of sessions c tag old before) ∙ none)
    by false is = ap (λ (found : Option Session). option_map_or (λ (s : Session). waits_for s tag) found false) (with-others sessions d c new (λ same. eqb-false c d is same)) ∙ none

and_waits : (sessions : List (ℕ × Session)) (c d tag : ℕ) → waits_at sessions c tag ≡ false → waits_at (and sessions d fresh) c tag ≡ false
and_waits sessions c d tag none = by (eqb c d) refl
  where
    by : (b : Bool) → eqb c d ≡ b → waits_at (and sessions d fresh) c tag ≡ false
    by true is =
        let same : c ≡ d = eqb-true c d is in
        waits_of (and sessions d fresh) c tag fresh (ap (λ (k : ℕ). lookup (and sessions d fresh) k) same ∙ and-here sessions d fresh)
    by false is = ap (λ (found : Option Session). option_map_or (λ (s : Session). waits_for s tag) found false) (and-others sessions d c fresh (λ same. eqb-false c d is same)) ∙ none

without_waits : (world : World) (c d tag : ℕ) → AreInOrder world → waits_in world c tag ≡ false → waits_at (without world.sessions d) c tag ≡ false
without_waits world c d tag order none = by (eqb c d) refl
  where
    by : (b : Bool) → eqb c d ≡ b → waits_at (without world.sessions d) c tag ≡ false
    by true is =
        let same : c ≡ d = eqb-true c d is in
        ap (λ (found : Option Session). option_map_or (λ (s : Session). waits_for s tag) found false) (ap (λ (k : ℕ). lookup (without world.sessions d) k) same ∙ without-here world.sessions d order)
    by false is = ap (λ (found : Option Session). option_map_or (λ (s : Session). waits_for s tag) found false) (without-others world.sessions d c (λ same. eqb-false c d is same)) ∙ none

-- ---- answers to reads that waited

abbrev IsQuiet : (c tag : ℕ) → World → Type 0
IsQuiet c tag world = AreInOrder world × (waits_in world c tag ≡ false)

abbrev GivesNone : (c tag : ℕ) → World × List Reply → Type 0
GivesNone c tag next = IsQuiet c tag next.0 × All (IsNoReply c tag) next.1

reply_none : (c tag d : ℕ) (o : Option R) → IfSome o (λ r. d ≡ c → tag_of_r r ≡ tag → ⊥) → All (IsNoReply c tag) (reply_to d o)
reply_none c tag d None other = All-nil (IsNoReply c tag)
reply_none c tag d (Some r) other = All-cons (IsNoReply c tag) (record { session = d; bytes = spelling_of_r r }) [] (record { spelled = r; is = refl; other = other }) (All-nil (IsNoReply c tag))

late_none : (c tag d : ℕ) (world : World) (session : Session) (after : Left Desktop) → IsQuiet c tag world → lookup world.sessions d ≡ Some session → one_answered (desktop_for d) session world.desktop ≡ Some after
    → All (IsNoReply c tag) (reply_to d after.reply)
late_none c tag d world session after quiet at is = reply_none c tag d after.reply (by after.reply refl)
  where
    by : (o : Option R) → after.reply ≡ o → IfSome o (λ r. d ≡ c → tag_of_r r ≡ tag → ⊥)
    by None said = tt
    by (Some r) said = λ same tagged.
        let there : lookup world.sessions c ≡ Some session = ap (λ (k : ℕ). lookup world.sessions k) (sym same) ∙ at in
        let none : waits_for session tag ≡ false = sym (waits_of world.sessions c tag session there) ∙ quiet.1 in
        let waits : waits_for session tag ≡ true = subst (λ (t : ℕ). waits_for session t ≡ true) tagged (late-waits (desktop_for d) session world.desktop after r is said) in
        let two : false ≡ true = sym none ∙ waits in cc two

first_none : (c tag : ℕ) (world : World) → IsQuiet c tag world → IfSome (first_answered world world.sessions) (GivesNone c tag)
first_none c tag world quiet = first_gives (GivesNone c tag) world world.sessions (all_in world.sessions quiet.0) (λ d session after at is. (
  (
    ascend-with world.sessions d after.session quiet.0,
    with_waits world.sessions c d tag session after.session at (λ same none. (late_some d session world.desktop after is).others tag none) quiet.1,
  ),
  late_none c tag d world session after quiet at is,
))

settled_gives : (c tag most : ℕ) (world : World) → IsQuiet c tag world → GivesNone c tag (settled_within most world)
unfolding settled_within
settled_gives c tag zero world quiet = (quiet, All-nil (IsNoReply c tag))
settled_gives c tag (suc most) world quiet = by (λ next quiet. settled_gives c tag most next quiet) (first_answered world world.sessions) (first_none c tag world quiet)
  where
    by : ((next : World) → IsQuiet c tag next → GivesNone c tag (settled_within most next)) → (o : Option (World × List Reply)) → IfSome o (GivesNone c tag)
        → GivesNone c tag (option_map_or (λ next. and_replies next.1 (settled_within most next.0)) o (world, []))
    by more None first = (quiet, All-nil (IsNoReply c tag))
    by more (Some next) first = let rest = more next.0 first.0 in (rest.0, All-append (IsNoReply c tag) next.1 (settled_within most next.0).1 first.1 rest.1)

-- ---- events

abbrev StepsQuiet : (c tag : ℕ) → (after : World) → List Reply → Type 0
StepsQuiet c tag after replies = (waits_in after c tag ≡ false) × All (IsNoReply c tag) replies

served_quiet : (c tag : ℕ) (world : World) (d : ℕ) (bytes : List ℕ) (mark : Option ℕ) (found : Option Session) → (d ≡ c → tag_of bytes ≡ tag → ⊥) → IsQuiet c tag world → lookup world.sessions d ≡ found
    → StepsQuiet c tag (served world d bytes mark found).world (served world d bytes mark found).replies
served_quiet c tag world d bytes mark None other quiet at = (quiet.1, All-nil (IsNoReply c tag))
served_quiet c tag world d bytes mark (Some session) other quiet at =
    let left = answer (desktop_for d) session world.desktop bytes mark in
    let after = with_left world d left in
    let none = with_waits world.sessions c d tag session left.session at (λ same none. answer_others (desktop_for d) session world.desktop bytes mark tag (λ is. other (sym same) (sym is)) none) quiet.1 in
    let settles = settled_gives c tag (waiting_in after) after (ascend-with world.sessions d left.session quiet.0, none) in
    (settles.0.1, All-append (IsNoReply c tag) (reply_to d left.reply) (settled_within (waiting_in after) after).1 (reply_none c tag d left.reply (by left.reply (answer_tagged (desktop_for d) session world.desktop bytes mark))) settles.1)
  where
    by : (o : Option R) → IfSome o (λ r. tag_of_r r ≡ tag_of bytes) → IfSome o (λ r. d ≡ c → tag_of_r r ≡ tag → ⊥)
    by None tagged = tt
    by (Some r) tagged = λ same is. other same (sym tagged ∙ is)

ended_quiet : (c tag : ℕ) (world : World) (d : ℕ) (found : Option Session) → IsQuiet c tag world → StepsQuiet c tag (ended world d found).world (ended world d found).replies
ended_quiet c tag world d None quiet = (quiet.1, All-nil (IsNoReply c tag))
ended_quiet c tag world d (Some session) quiet =
    let after : World = record world { desktop = (cleared (desktop_for d) session world.desktop).1; sessions = without world.sessions d } in
    let settles = settled_gives c tag (waiting_in after) after (ascend-without world.sessions d quiet.0, without_waits world c d tag quiet.0 quiet.1) in
    (settles.0.1, settles.1)

step_quiet : (c tag : ℕ) (world : World) (event : Event) → IsNoMessage c tag event → IsQuiet c tag world → StepsQuiet c tag (step world event).world (step world event).replies
step_quiet c tag world (Begin d) other quiet = (and_waits world.sessions c d tag quiet.1, All-nil (IsNoReply c tag))
step_quiet c tag world (Msg d bytes mark) other quiet = served_quiet c tag world d bytes mark (lookup world.sessions d) other quiet refl
step_quiet c tag world (Take d) other quiet = (quiet.1, All-nil (IsNoReply c tag))
step_quiet c tag world (End d) other quiet = ended_quiet c tag world d (lookup world.sessions d) quiet
step_quiet c tag world Stop other quiet = (quiet.1, All-nil (IsNoReply c tag))

pub quiet_replies : (c tag : ℕ) (world : World) (events : List Event) → AreInOrder world → waits_in world c tag ≡ false → All (IsNoMessage c tag) events → All (IsNoReply c tag) (replies_from world events)
quiet_replies c tag world [] order none others = All-nil (IsNoReply c tag)
quiet_replies c tag world (event ∷ events) order none others =
    let steps = step_quiet c tag world event (All-head (IsNoMessage c tag) event events others) (order, none) in
    All-append (IsNoReply c tag) (step world event).replies (replies_from (step world event).world events) steps.1 (quiet_replies c tag (step world event).world events (step_order world event order) steps.0 (All-tail (IsNoMessage c tag) event events others))

-- ---- behind the reply to a flush

pub behind_flush : (world : World) (events : List Event) (c : ℕ) (session : Session) (bytes : List ℕ) (mark : Option ℕ) (tag oldtag : ℕ) → AreInOrder world → lookup world.sessions c ≡ Some session
    → message_of bytes ≡ Some (Tflush tag oldtag) → (answer (desktop_for c) session world.desktop bytes mark).reply ≡ Some (Rflush tag) → All (IsNoMessage c oldtag) events
    → All (IsNoReply c oldtag) (drop 1 (replies_from world (Msg c bytes mark ∷ events)))
behind_flush world events c session bytes mark tag oldtag order at spelled said others = rw at flushed
  where
    left : Left Desktop
    left = answer (desktop_for c) session world.desktop bytes mark

    after : World
    after = with_left world c left

    turn : World
    turn = (served world c bytes mark (Some session)).world

    after_order : AreInOrder after
    after_order = ascend-with world.sessions c left.session order

    none : waits_in after c oldtag ≡ false
    none = waits_of after.sessions c oldtag left.session (with-here world.sessions c session left.session at) ∙ flushed-waits (desktop_for c) session world.desktop bytes mark tag oldtag spelled said

    settles : GivesNone c oldtag (settled_within (waiting_in after) after)
    settles = settled_gives c oldtag (waiting_in after) after (after_order, none)

    flushed : All (IsNoReply c oldtag) (drop 1 ((reply_to c left.reply ++ (settled_within (waiting_in after) after).1) ++ replies_from turn events))
    flushed = subst (λ (o : Option R). All (IsNoReply c oldtag) (drop 1 ((reply_to c o ++ (settled_within (waiting_in after) after).1) ++ replies_from turn events))) (sym said)
        (All-append (IsNoReply c oldtag) (settled_within (waiting_in after) after).1 (replies_from turn events) settles.1 (quiet_replies c oldtag turn events settles.0.0 settles.0.1 others))
