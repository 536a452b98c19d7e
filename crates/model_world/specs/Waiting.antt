-- Reads that wait, and when they are answered (read(5), flush(5), rio(4)).
use Rattle.std.specs.Prelude.{ℕ, Bool, ◌==◌, not, List, [], ◌∷◌, ◌++◌, Option, Some, None, Ok, Err}
use Rattle.std.specs.List.{filter, list_any}
use Rattle.std.specs.Option.{option_map}
use Rattle.model_text.specs.text.Outcome.{Outcome, ◌>>=◌}
use Rattle.model_files.specs.wire.Message.{Rread}
use Rattle.model_files.specs.tree.Tree.{check_live}
use Rattle.model_world.specs.Session.{Fid, Wait, Session}
use Rattle.model_world.specs.Outside.{Outside}
use Rattle.model_world.specs.Refusal.{refusal}
use Rattle.model_world.specs.Fids.{Left, left, fid_of, with_fid}
use Rattle.model_world.specs.Reading.{Given, given_now}

-- a read waits that has this tag
abbrev pub waits_for : Session → (tag : ℕ) → Bool
waits_for session tag = list_any (λ read. read.0 == tag) session.waiting

-- the read of this tag waits no longer
abbrev pub flushed : Session → (tag : ℕ) → Session
flushed session tag = record session { waiting = filter (λ read. not (read.0 == tag)) session.waiting }

-- the fid that it reads: 32 where that is gone, 42 where its window is
abbrev pub awaited : {S : Type 0} → Outside S → Session → S → Wait → Outcome Fid
awaited outside session rest wait = do
  fid ← fid_of session wait.fid
  _ ← check_live (outside.view rest session.connections fid.node) fid.node
  Ok fid

abbrev pub given_or_refused : {S : Type 0} → Outside S → S → (count : ℕ) → Outcome Fid → Option (Outcome (Given S))
given_or_refused outside rest count (Err n) = Some (Err n)
given_or_refused outside rest count (Ok fid) = option_map Ok (given_now outside rest fid count fid.node.kind)

-- What it gets now, None where it waits on.
unfoldable pub wait_answer : {S : Type 0} → Outside S → Session → S → Wait → Option (Outcome (Given S))
wait_answer outside session rest wait = given_or_refused outside rest wait.count (awaited outside session rest wait)

-- the reply to a read that waited
abbrev pub late_reply : {S : Type 0} → Session → S → (tag : ℕ) → Wait → Outcome (Given S) → Left S
late_reply session rest tag wait (Err n) = left (session, rest) (refusal tag n)
late_reply session rest tag wait (Ok got) = left (with_fid session wait.fid got.fid, got.rest) (Rread tag got.bytes)

-- a read that waits on lets the later ones have their turn
abbrev pub answered_or : {S : Type 0} → Session → S → (tag : ℕ) → Wait → Option (Outcome (Given S)) → (later : Option (Left S)) → Option (Left S)
answered_or session rest tag wait None later = later
answered_or session rest tag wait (Some got) later = Some (late_reply session rest tag wait got)

-- the first of these reads that can be answered, where others came before them
unfoldable pub first_of : {S : Type 0} → Outside S → Session → S → (before after : List (ℕ × Wait)) → Option (Left S)
first_of outside session rest before [] = None
first_of outside session rest before ((tag, wait) ∷ after) =
    answered_or (record session { waiting = before ++ after }) rest tag wait (wait_answer outside session rest wait)
    (first_of outside session rest (before ++ (tag, wait) ∷ []) after)

-- The earliest of a session's reads that can be answered is; None where none can.
abbrev pub one_answered : {S : Type 0} → Outside S → Session → S → Option (Left S)
one_answered outside session rest = first_of outside session rest [] session.waiting
