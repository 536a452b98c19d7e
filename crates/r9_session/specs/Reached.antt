-- The file that a read or a write reaches.
use Rattle.std.specs.Prelude.{ℕ, Bool, true, false, not, is_none, Ok}
use Rattle.model_text.specs.text.Outcome.{Outcome, ◌>>=◌, refuse_if}
use Rattle.model_files.specs.tree.Node.{Node, reads, writes}
use Rattle.model_files.specs.tree.Tree.{check_live}
use Rattle.model_world.specs.Session.{Session}
use Rattle.model_world.specs.Outside.{Outside}
use Rattle.model_world.specs.Fids.{fid_of}
use Rattle.model_world.specs.Reading.{is_open_for}

-- the modes for writing, or for reading
abbrev pub modes : (writing : Bool) → ℕ → Bool
modes true = writes
modes false = reads

-- the file of a fid that is open for one of them, where its window and its connection live
abbrev pub reached : {S : Type 0} → (writing : Bool) → Outside S → Session → S → (number : ℕ) → Outcome Node
reached writing outside session rest number = do
  fid ← fid_of session number
  _ ← refuse_if (is_none fid.mode) 37
  _ ← refuse_if (not (is_open_for (modes writing) fid)) 38
  _ ← check_live (outside.view rest session.connections fid.node) fid.node
  Ok fid.node
