use Rattle.std.proofs.Common.{◌<◌, ◌^◌, ℕ, subst, sym, ap, arith}
use Rattle.r9_geom.specs.Geometry.{area_of}
use Rattle.model_pixel.specs.Channels.{depth}
use Rattle.model_kept.specs.Keeping.{with_kept}
use Rattle.model_exchanged.specs.resize.Resize.{sized}
use Rattle.r9_locate.specs.locate.Table.{shape}
use Rattle.r9_pixels.specs.Kept.{kept_at}
use Rattle.r9_relist.specs.resize.Sizes.{with_rects}
use Rattle.r9_forest.specs.Images.{numbers, world}
use Rattle.r9_forest.specs.Numbered.{numbers_of}
use Rattle.r9_relist.proofs.arrive.Canvases.{bare_canvas}
use Rattle.r9_relist.proofs.arrive.Entering.{on_err}
use Rattle.r9_forest.proofs.Roomy.{fills_same}
use Rattle.r9_forest.proofs.Sized.{can_lists, either_way, resized_fills, resized_sound, unsized_sound}
use Rattle.r9_forest.proofs.Sounding.{sound_forest}
use Rattle.r9_forest.proofs.images.Images.resize.Goals as goal

pub resize-requires-clause-can : goal.resize-requires-clause-can
unfolding world
resize-requires-clause-can g c = can_lists (shape c.args.self.now.lists) (kept_at c.args.self.now.pixels) c.args.i c.requires.can

pub resize-requires-clause-raw : goal.resize-requires-clause-raw
unfolding world
resize-requires-clause-raw g c =
    subst (λ (chan : ℕ). c.args.raw < 2 ^ depth chan) (sym ((bare_canvas (shape c.args.self.now.lists) (kept_at c.args.self.now.pixels)).chan c.args.i)) c.requires.raw

pub resize-requires-clause-before : goal.resize-requires-clause-before
resize-requires-clause-before g c = sound_forest c.args.self.now.lists (kept_at c.args.self.now.pixels) c.args.self.now.sound.forest

pub invariant_of-self : goal.invariant_of-self
unfolding world
invariant_of-self g c =
    let was = c.args.self.now in
    let now = c.resize.new in
    let i = c.args.i in
    let to = sized c.args.width c.args.height in
    let says = c.resize.ensures in
    record {
      sound =
          either_way c.resize.result says.lists says.world says.lists_err says.kept_err
          (λ lists after.
          resized_sound was.lists now.lists was.pixels now.pixels was.spare.items i c.args.width c.args.height c.args.raw was.sound c.requires.can (omega (arith, c.ranges.width.fits)) (omega (arith, c.ranges.height.fits)) c.requires.raw
          lists says.made after says.cells says.forms)
          (λ lists kept. unsized_sound was.lists now.lists was.pixels now.pixels was.spare.items lists says.made kept says.cells says.forms was.sound);
      back = omega (arith, says.made, was.back);
      fills =
          either_way c.resize.result says.lists says.world says.lists_err says.kept_err
          (λ lists after.
          fills_same (with_rects (shape was.lists) i to to) (shape now.lists) was.room.len lists
          (resized_fills (shape was.lists) was.room.len i to (can_lists (shape was.lists) (kept_at was.pixels) i c.requires.can) was.fills))
          (λ lists kept. fills_same (shape was.lists) (shape now.lists) was.room.len lists was.fills);
    }

pub returns-in_err-resize-clause-numbers : goal.returns-in_err-resize-clause-numbers
unfolding numbers
returns-in_err-resize-clause-numbers g c = λ j. numbers_of (c.resize.ensures.made j) c.args.self.now.spare.items

pub returns-in_err-resize-clause-err : goal.returns-in_err-resize-clause-err
unfolding world numbers
returns-in_err-resize-clause-err g c =
    on_err c.from_residual.result
    (record {
      world = λ j. with_kept (c.in_err-resize.ensures.lists_err j) (c.in_err-resize.ensures.kept_err j);
      numbers = λ j. numbers_of (c.resize.ensures.made j) c.args.self.now.spare.items;
    })

pub returns-in_err-resize-clause-steps : goal.returns-in_err-resize-clause-steps
unfolding world
returns-in_err-resize-clause-steps g c =
    let same = ap area_of ((bare_canvas (shape c.args.self.now.lists) (kept_at c.args.self.now.pixels)).r c.args.i) in
    omega (arith, same, c.resize.ensures.steps)

pub returns-clause-resized : goal.returns-clause-resized
unfolding world
returns-clause-resized g c = c.in_ok-resize.ensures.world

pub returns-clause-numbers : goal.returns-clause-numbers
unfolding numbers
returns-clause-numbers g c = λ j. numbers_of (c.resize.ensures.made j) c.args.self.now.spare.items

pub returns-clause-steps : goal.returns-clause-steps
unfolding world
returns-clause-steps g c =
    let same = ap area_of ((bare_canvas (shape c.args.self.now.lists) (kept_at c.args.self.now.pixels)).r c.args.i) in
    omega (arith, same, c.resize.ensures.steps)
