use Rattle.std.proofs.Common.{◌≡◌, ◌∙◌, ℕ, None, Option, Some, refl}
use Rattle.std.specs.Prelude.{option_map}
use Rattle.model_forest.specs.World.{Image, World}
use Rattle.model_kept.specs.Keeping.{with_kept, Place}
use Rattle.model_kept.proofs.Worlds.{pictured}
use Rattle.r9_locate.specs.locate.Table.{made, shape}
use Rattle.r9_pixels.specs.Kept.{kept_at}
use Rattle.r9_forest.specs.Images.{numbers, world}
use Rattle.r9_forest.specs.Keeping.{tiles_of}
use Rattle.r9_relist.proofs.arrive.Canvases.{bare_canvas}
use Rattle.r9_forest.proofs.Keepers.{cells_same}
use Rattle.r9_forest.proofs.images.Images.tiles.Goals as goal

nothing : (shape : World) (kept : Place → ℕ) (i : ℕ) → with_kept shape kept i ≡ None → shape i ≡ None
nothing shape kept i none = by_image (shape i) none
  where
    by_image : (o : Option Image) → option_map {T = Image} (pictured shape kept i) o ≡ None → o ≡ None
    by_image None e = refl
    by_image (Some image) e = absurd cc

pub returns-clause-held : goal.returns-clause-held
unfolding tiles_of
returns-clause-held c = c.tiles.ensures.held

pub returns-clause-cells : goal.returns-clause-cells
unfolding world
returns-clause-cells c n past =
    let was = c.args.self.now in
    let bare = shape was.lists in
    c.tiles.ensures.cells bare n was.sound.forms was.sound.cells (λ i beyond. nothing bare (kept_at was.pixels) i (past i beyond))
    ∙ cells_same (world was) bare (bare_canvas bare (kept_at was.pixels)) n

pub returns-clause-made : goal.returns-clause-made
unfolding world numbers
returns-clause-made c =
    let was = c.args.self.now in
    let bare = shape was.lists in
    c.tiles.ensures.cells bare (made was.lists) was.sound.forms was.sound.cells was.sound.numbers.beyond
    ∙ cells_same (world was) bare (bare_canvas bare (kept_at was.pixels)) (made was.lists)
