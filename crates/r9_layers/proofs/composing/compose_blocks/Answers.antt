use Rattle.std.proofs.Common.{◌≡◌, ◌∙◌, ◌+◌, ◌-◌, ◌<◌, ◌≤◌, ◌^◌, true, length, get_or, lit≤, ⊎_elim, sym, ap, subst, arith}
use Rattle.std.proofs.lemmas.Bool.{cases_lt}
use Rattle.r9_geom.specs.declared.Point.{Point as Spot}
use Rattle.r9_geom.specs.Geometry.{holds, strip, IsNear}
use Rattle.r9_geom.proofs.GeometryLemmas.{near_point, near_wider}
use Rattle.r9_plane.specs.Pixels.{along}
use Rattle.r9_plane.proofs.PlaneLemmas.{along_holds}
use Rattle.r9_forest.specs.Images.{world}
use Rattle.r9_layers.proofs.Carrying.{strip-along}
use Rattle.r9_locate.proofs.locate.Locating.{along-along}
use Rattle.r9_layers.specs.Area.{drawing_of, drawn_on}
use Rattle.r9_layers.proofs.Areas.{area_point}
use Rattle.r9_locate.proofs.locate.Parts.{get_or-part, length-part, length-put_mid, put_mid_before, put_mid_behind, put_mid_inside}
use borrow.Rule.Slice.PartMut.{put_mid}
use Rattle.r9_layers.proofs.composing.compose_blocks.Goals as goal

pub along-requires-clause-near : goal.along-requires-clause-near
along-requires-clause-near c = near_wider (2 ^ 40) (2 ^ 42) c.args.at (lit≤ tt) c.requires.near

pub compose_block-requires-clause-near : goal.compose_block-requires-clause-near
compose_block-requires-clause-near c =
    let done = c.loop-done.done in
    let task = c.args.task.now in
    let below : done < length c.args.row.now = omega (arith, c.loop-done-test.true, c.loop-done.auto.row) in
    let point = area_point (world c.args.images.now) (drawing_of task) (along c.args.at done)
    (c.requires.inside (along c.args.at done) (along_holds c.args.at (length c.args.row.now) done below)) in
    subst IsNear (sym c.along.ensures)
    (near_wider (2 ^ 34) (2 ^ 40) (along c.args.at done) (lit≤ tt) (near_point (2 ^ 34) task.r (along c.args.at done) task.near point.asked))

pub compose_block-requires-clause-inside : goal.compose_block-requires-clause-inside
compose_block-requires-clause-inside c p h =
    let done = c.loop-done.done in
    let size = done + c.min.result - done in
    let fits : done + size ≤ length c.loop-done.row = omega (arith, c.min.ensures, c.loop-done.invariant.within) in
    let long = length-part c.loop-done.row done size fits in
    let in_strip : holds (strip (along c.args.at done) size) p ≡ true = (λ i. holds (strip (sym c.along.ensures i) (sym long i)) p) ∙ h in
    c.requires.inside p (strip-along c.args.at p done size (length c.args.row.now) (omega (arith, fits, c.loop-done.auto.row)) in_strip)

pub loop-done-preserved : goal.loop-done-preserved
loop-done-preserved c =
    let row = c.loop-done.row in
    let done = c.loop-done.done in
    let size = done + c.min.result - done in
    let within : done ≤ length row = c.loop-done.invariant.within in
    let fits : done + size ≤ length row = omega (arith, c.min.ensures, within) in
    let part_long = length-part row done size fits in
    let long : length c.compose_block.new.row ≡ size = c.compose_block.auto.row ∙ part_long in
    record {
      within = omega (arith, length-put_mid done size row c.compose_block.new.row fits long, fits);
      drawn = λ k below.
          ⊎_elim
          (λ (early : k < done). put_mid_before done size row c.compose_block.new.row k within early ∙ c.loop-done.invariant.drawn k early)
          (λ (late : done ≤ k).
          let j = k - done in
          let place : k ≡ done + j = omega arith in
          let part : j < size = omega arith in
          ap (λ n. get_or (put_mid done size row c.compose_block.new.row) n 0) place
          ∙ put_mid_inside done size row c.compose_block.new.row j within long part
          ∙ c.compose_block.ensures j (omega (arith, part, part_long))
          ∙ (λ i. drawn_on (world c.args.images.now) c.args.task.now
          ((ap (λ (at : Spot). along at j) c.along.ensures ∙ along-along c.args.at done j ∙ ap (along c.args.at) (sym place)) i)
          ((get_or-part row done size j part
          ∙ c.loop-done.invariant.left (done + j) (omega arith)
          ∙ ap (λ n. get_or c.args.row.now n 0) (sym place)) i)))
          (cases_lt k done);
      left = λ k above.
          put_mid_behind done size row c.compose_block.new.row k within long (omega (arith, above))
          ∙ c.loop-done.invariant.left k (omega (arith, above));
    }

pub returns : goal.returns
returns c k below = c.loop-done.invariant.drawn k (omega (arith, below, c.loop-done-test.false, c.loop-done.auto.row))
