-- A session that is closed has nothing, and answers to nothing.
use Rattle.std.proofs.Common.{◌≡◌, ℕ, Bool, true, false, List, [], ◌∷◌, ◌++◌, Option, Some, None, Ok, Err, refl, sym, ap, subst, ◌∙◌}
use Rattle.std.specs.Prelude.{◌&&◌, ◌==◌, is_some, length, not, nat_lt, if◌then◌else◌}
use Rattle.r9_event.specs.declared.event.event.Event.{Event}
use Rattle.r9_event.specs.declared.event.event.Opening.{Opening}
use Rattle.model_text.specs.text.Outcome.{Outcome}
use Rattle.model_files.specs.wire.Reading.{kind_of, message_of, tag_of}
use Rattle.model_world.specs.Session.{Session, Wait}
use Rattle.model_world.specs.Outside.{Outside}
use Rattle.model_world.specs.Desktop.{Desktop}
use Rattle.model_world.specs.Whole.{desktop_for}
use Rattle.model_world.specs.World.{opened}
use Rattle.model_world.specs.Fids.{Left, cleared, unanswered}
use Rattle.model_world.specs.Reading.{Given}
use Rattle.model_world.specs.Waiting.{answered_or, first_of, one_answered, wait_answer, waits_for}
use Rattle.model_world.specs.Answer.{Taking, Ignored, TooLong, Closes, Reads, answer, read_or_not, replied, taken, taking, version_kind}
use Rattle.model_world.specs.Replay.{world_from}
use Rattle.model_world.specs.Standing.{AreEmptied, IsEmptied}
use Rattle.model_world.proofs.Links.{cleared_is}
use Rattle.model_world.proofs.Each.{Lasts, history_each}
use Rattle.model_world.proofs.Remains.{reply_remains}

-- ---- it answers to nothing

pub closed-ignores : {S : Type 0} (outside : Outside S) (session : Session) (rest : S) (bytes : List ℕ) (mark : Option ℕ) → is_some session.closed ≡ true
    → answer outside session rest bytes mark ≡ unanswered (session, rest)
unfolding answer
closed-ignores outside session rest bytes mark closed = ap (λ (b : Bool). taken outside session rest bytes mark (
    if b then Ignored
    else if nat_lt session.msize (length bytes) then TooLong
    else if not (kind_of bytes == version_kind) && waits_for session (tag_of bytes) then Closes
    else Reads
    )) closed

-- ---- what is closed has nothing

cleared_emptied : {S : Type 0} (outside : Outside S) (session : Session) (rest : S) → ((cleared outside session rest).0.fids ≡ []) × ((cleared outside session rest).0.waiting ≡ []) × ((cleared outside session rest).0.connections ≡ [])
cleared_emptied {S = S} outside session rest =
    let is = cleared_is outside session rest in
    (ap (λ (after : Session × S). after.0.fids) is, ap (λ (after : Session × S). after.0.waiting) is, ap (λ (after : Session × S). after.0.connections) is)

still_open : (before after : Session) → after.closed ≡ before.closed → is_some before.closed ≡ false → IsEmptied after
still_open before after same none closed = let there : is_some before.closed ≡ true = ap (λ (o : Option ℕ). is_some o) (sym same) ∙ closed in absurd (let two : false ≡ true = sym none ∙ there in cc two)

answer_emptied : {S : Type 0} (outside : Outside S) (session : Session) (rest : S) (bytes : List ℕ) (mark : Option ℕ) → IsEmptied session → IsEmptied (answer outside session rest bytes mark).session
unfolding answer
answer_emptied {S = S} outside session rest bytes mark emptied = by (is_some session.closed) refl
  where
    unclosed : is_some session.closed ≡ false → (t : Taking) → IsEmptied (taken outside session rest bytes mark t).session
    unclosed none Ignored = emptied
    unclosed none TooLong = emptied
    unclosed none Closes = λ _. cleared_emptied outside session rest
    unclosed none Reads =
        let read = replied session rest (tag_of bytes) (read_or_not outside session rest mark (message_of bytes)) in still_open session read.session (reply_remains outside session rest mark bytes).closed none

    by : (b : Bool) → is_some session.closed ≡ b → IsEmptied (answer outside session rest bytes mark).session
    by true closed = subst (λ (after : Left S). IsEmptied after.session) (sym (closed-ignores outside session rest bytes mark closed)) emptied
    by false none = unclosed none (taking session bytes)

-- ---- reads that waited

abbrev LeavesOpen : {S : Type 0} → Session → Option (Left S) → Type 0
LeavesOpen session (Some after) = after.session.closed ≡ session.closed
LeavesOpen session None = Unit {0}

late_open : {S : Type 0} (session whole : Session) (rest : S) (tag : ℕ) (wait : Wait) (o : Option (Outcome (Given S))) (later : Option (Left S)) → session.closed ≡ whole.closed → LeavesOpen whole later
    → LeavesOpen whole (answered_or session rest tag wait o later)
late_open session whole rest tag wait None later same keeps = keeps
late_open session whole rest tag wait (Some (Err n)) later same keeps = same
late_open session whole rest tag wait (Some (Ok got)) later same keeps = same

first_open : {S : Type 0} (outside : Outside S) (session : Session) (rest : S) (before after : List (ℕ × Wait)) → LeavesOpen session (first_of outside session rest before after)
unfolding first_of
first_open outside session rest before [] = tt
first_open outside session rest before ((tag, wait) ∷ after) =
    late_open (record session { waiting = before ++ after }) session rest tag wait (wait_answer outside session rest wait) (first_of outside session rest (before ++ (tag, wait) ∷ []) after) refl
    (first_open outside session rest (before ++ (tag, wait) ∷ []) after)

none_waits : {S : Type 0} (outside : Outside S) (session : Session) (rest : S) → first_of outside session rest [] [] ≡ None
unfolding first_of
none_waits outside session rest = refl

one_emptied : (c : ℕ) (session : Session) (desktop : Desktop) (after : Left Desktop) → IsEmptied session → one_answered (desktop_for c) session desktop ≡ Some after → IsEmptied after.session
one_emptied c session desktop after emptied is = by (is_some session.closed) refl
  where
    by : (b : Bool) → is_some session.closed ≡ b → IsEmptied after.session
    by true closed =
        let none : one_answered (desktop_for c) session desktop ≡ None = ap (λ (reads : List (ℕ × Wait)). first_of (desktop_for c) session desktop [] reads) (emptied closed).1 ∙ none_waits (desktop_for c) session desktop in
        absurd (let two : None ≡ Some after = sym none ∙ is in cc two)
    by false none = still_open session after.session (let P : Option (Left Desktop) → Type 0 = λ o. LeavesOpen session o in subst P is (first_open (desktop_for c) session desktop [] session.waiting)) none

pub emptied_lasts : Lasts IsEmptied
emptied_lasts = record {
  anew = λ closed. (refl, refl, refl);
  answered = λ c session desktop bytes mark emptied. answer_emptied (desktop_for c) session desktop bytes mark emptied;
  late = λ c session desktop after emptied is. one_emptied c session desktop after emptied is;
}

pub history_emptied : (opening : Opening) (events : List Event) → AreEmptied (world_from (opened opening) events)
history_emptied opening events = history_each IsEmptied emptied_lasts opening events
