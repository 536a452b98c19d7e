-- The windows at the roots of a session's fids.
use Rattle.std.specs.Prelude.{ℕ, List, [], map}
use Rattle.std.specs.List.{fold}
use Rattle.model_world.specs.Session.{Fid, Session}
use Rattle.model_world.specs.Fids.{put}

-- those of all fids, in ascending serial
abbrev pub roots_of : List (ℕ × Fid) → List ℕ
roots_of fids = fold (λ windows (fid : Fid). put fid.node.root windows) [] (map (λ entry. entry.1) fids)

-- the session where all fids have gone
abbrev pub without_fids : Session → Session
without_fids session = record session { fids = [] }
