use Rattle.std.proofs.Common.{◌≡◌, ◌<◌, ◌*◌, ◌/◌, ◌%◌, ℕ, get_or}
use Rattle.model_pixel.specs.Channels.{depth}
use Rattle.model_pixel.specs.Rows.{byte_at, row_place}
use Rattle.r9_plane.specs.Pixels.{chan_of, pixel_at}
use Rattle.r9_plane.proofs.plane.Plane.unload.Given as goal

abbrev pub invariant-loop-row : goal.invariant-loop-row
invariant-loop-row l =
    (j : ℕ) → j < l.row * l.line_len → get_or l.rows j 0 ≡ byte_at (depth (chan_of l.self)) (row_place l.r (depth (chan_of l.self)) (pixel_at l.self) (j / l.line_len)) (j % l.line_len)
