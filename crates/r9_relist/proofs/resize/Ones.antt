-- The windows of an image, each of which stands once in its list, and none of whose cells is passed over where there are no areas.
use Rattle.std.proofs.Common.{ℕ, Bool, List, [], arith}
use Rattle.std.proofs.lemmas.Bool.{true≢false}
use Rattle.model_forest.specs.declared.Window.{Window}
use Rattle.model_forest.specs.World.{World, image_at, IsForest, IsLive}
use Rattle.model_kept.specs.Keeping.{Place}
use Rattle.r9_cells.specs.Fitting.{AreOne}
use Rattle.r9_pixels.specs.Places.{HasGivenOff, HasTakenOff}
use Rattle.r9_relist.proofs.relist.Front.{are_one}

pub ones : (world : World) → IsForest world → (i : ℕ) → IsLive world i → AreOne (image_at world i).windows
ones world ok i live = are_one (image_at world i).windows (λ n. ok.once i n live)

pub all_taken : (world : World) (p : ℕ) (windows : List Window) (has : Place → Bool) → HasTakenOff world p windows 0 [] has
all_taken world p windows has at w x is inside off hidden = absurd (true≢false (off (omega arith)))

pub all_given : (world : World) (p : ℕ) (windows : List Window) (has : Place → Bool) → HasGivenOff world p windows 0 [] has
all_given world p windows has at w x is inside off shown = absurd (true≢false (off (omega arith)))
