-- Fids of the code as those of the definitions.
use Rattle.std.specs.Prelude.{◌<◌, ◌≤◌, ◌+◌, ◌^◌, length, drop}
use Rattle.std.specs.List.{concat}
use Rattle.r9_files.specs.declared.files.listing.Kept.TheInside as kept
use Rattle.r9_files.specs.declared.files.fid.Fid.TheInside as fid
use Rattle.r9_tree.specs.View.{node_of}
use Rattle.model_world.specs.Session as model

abbrev pub kept_of : kept.Inside → model.Kept
kept_of k = record { left = drop k.given k.stats.items; next = k.next }

-- No more was given than there is. The offset stays in range when all that is left is given.
pub record IsKept (k : kept.Inside) : Type 0 where
  pub within : k.given ≤ length k.stats.items
  pub in_range : k.next + length (concat (drop k.given k.stats.items)) < 2 ^ 64

abbrev pub fid_of : fid.Inside → model.Fid
fid_of f = record { node = node_of f.node; mode = f.mode; kept = f.kept; told = f.told }
