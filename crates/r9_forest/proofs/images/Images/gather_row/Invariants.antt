use Rattle.std.proofs.Common.{◌≡◌, ◌+◌, ◌-◌, ◌<◌, ◌≤◌, ℕ, get_or, length}
use Rattle.r9_plane.specs.Pixels.{along}
use Rattle.r9_put.specs.fills.Fills.{fill_at}
use Rattle.r9_forest.specs.Images.{world}
use Rattle.r9_forest.proofs.images.Images.gather_row.Given as goal

abbrev pub invariant-loop-done : goal.invariant-loop-done
invariant-loop-done l = record {
  within : l.done ≤ l.width;
  long : length l.block ≡ 256;
  lists : l.self.lists ≡ l.fn.self.lists;
  pixels : l.self.pixels ≡ l.fn.self.pixels;
  spare : l.self.spare ≡ l.fn.self.spare;
  len : l.self.room.len ≡ l.fn.self.room.len;
  row : (k : ℕ) → k < l.done → get_or l.self.room.items (l.first + k) 0 ≡ fill_at (world l.fn.self) l.chan l.fill (along l.at k);
  before : (j : ℕ) → j < l.first → get_or l.self.room.items j 0 ≡ get_or l.fn.self.room.items j 0;
}

abbrev pub decreases-loop-done : goal.decreases-loop-done
decreases-loop-done l = l.width - l.done
