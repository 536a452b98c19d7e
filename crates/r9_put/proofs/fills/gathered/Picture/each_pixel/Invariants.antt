use Rattle.std.proofs.Common.{◌≡◌, ◌<◌, ℕ, get_or}
use Rattle.r9_plane.specs.Pixels.{along}
use Rattle.r9_put.specs.fills.Gathered.{pictured}
use Rattle.r9_put.proofs.fills.gathered.Picture.each_pixel.Given as goal

abbrev pub invariant-loop-k : goal.invariant-loop-k
invariant-loop-k l = (j : ℕ) → j < l.k → get_or l.raws j 0 ≡ pictured l.self (along l.q j)
