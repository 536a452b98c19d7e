-- What a fid is that has a file of a client open (draw(3), rio(4)).
use Rattle.std.specs.Prelude.{ℕ, Some, None}
use Rattle.model_files.specs.tree.Node.{Node}
use Rattle.model_world.specs.Session.{Fid}

-- the fid of a file that is open
abbrev pub open_on : Node → (mode : ℕ) → Fid
open_on node mode = record { node = node; mode = Some mode; kept = None; told = None }
