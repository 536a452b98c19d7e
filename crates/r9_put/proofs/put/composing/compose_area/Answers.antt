use Rattle.std.proofs.Common.{◌≡◌, ◌*◌, ◌∙◌, sym, ap, subst, arith}
use Rattle.std.proofs.lemmas.Int.{ints}
use Rattle.r9_geom.specs.declared.Rect.{Rect}
use Rattle.r9_geom.specs.Geometry.{area_of, carried, holds, IsOrdered, IsRectNear}
use Rattle.r9_geom.proofs.GeometryLemmas.{height_most, width_most}
use Rattle.model_kept.specs.Keeping.{own}
use Rattle.r9_kern.specs.Over.{over_of}
use Rattle.r9_locate.specs.locate.Table.{shape}
use Rattle.r9_pixels.specs.Kept.{has_place, kept_at}
use Rattle.r9_shown.proofs.Pieces.{block_area}
use Rattle.r9_put.proofs.put.Shifting.{as_block, bits_there, had_there, inside_block, moved_written, moving_of, IsBlock, IsMoving}
use Rattle.r9_put.proofs.put.Wholes.{whole_form}
use Rattle.r9_put.proofs.put.composing.compose_area.Given.{Over}
use Rattle.r9_put.proofs.put.composing.compose_area.Goals as goal
use Rattle.r9_put.proofs.put.composing.compose_area.Goals.{After-height, In-Some}

-- the rectangle is a block
sized : (g : Over) (c : After-height g) → IsBlock c.args.r.now (record { columns = c.width.result; rows = c.height.result })
sized g c = as_block c.args.r.now (record { columns = c.width.result; rows = c.height.result }) c.requires.ordered c.requires.some c.width.ensures c.height.ensures

-- where its pixels stand, and those of the source
moving : (g : Over) (c : In-Some g) → IsMoving c.args.pixels.now (record { columns = c.width.result; rows = c.height.result }) c.in-Some.found
unfolding shape
moving g c =
    moving_of (shape c.args.lists.now) c.args.lists.now.standing c.args.lists.now.near c.args.pixels.now c.args.i c.args.r.now c.args.source c.args.from
    (record { columns = c.width.result; rows = c.height.result }) c.in-Some.found c.requires.live c.requires.live_from
    (as_block c.args.r.now (record { columns = c.width.result; rows = c.height.result }) c.requires.ordered c.requires.some c.width.ensures c.height.ensures)
    c.requires.inside c.requires.inside_from c.requires.stored c.in-Some.ensures.found

pub planes_of-requires-clause-columns : goal.planes_of-requires-clause-columns
planes_of-requires-clause-columns g c = (sized g (goal.at.planes_of-requires-clause-columns g c).After-height).columns

pub planes_of-requires-clause-rows : goal.planes_of-requires-clause-rows
planes_of-requires-clause-rows g c = (sized g (goal.at.planes_of-requires-clause-rows g c).After-height).rows

pub planes_of-requires-clause-inside : goal.planes_of-requires-clause-inside
planes_of-requires-clause-inside g c p h =
    c.requires.inside p (ap (λ (v : Rect). holds v p) (sym (sized g (goal.at.planes_of-requires-clause-inside g c).After-height).is) ∙ h)

pub planes_of-requires-clause-inside_from : goal.planes_of-requires-clause-inside_from
planes_of-requires-clause-inside_from g c p h =
    inside_block c.args.r.now _ c.args.from p (record { columns = c.width.result; rows = c.height.result }) (sized g (goal.at.planes_of-requires-clause-inside_from g c).After-height) c.requires.inside_from h

pub block-there-requires-clause-near : goal.block-there-requires-clause-near
block-there-requires-clause-near g c = (moving g (goal.at.block-there-requires-clause-near g c).In-Some).to.near.min

pub block-there-requires-clause-columns : goal.block-there-requires-clause-columns
block-there-requires-clause-columns g c = omega (arith, c.width.ensures, width_most c.args.r.now c.requires.near c.requires.ordered)

pub block-there-requires-clause-rows : goal.block-there-requires-clause-rows
block-there-requires-clause-rows g c = omega (arith, c.height.ensures, height_most c.args.r.now c.requires.near c.requires.ordered)

pub compose_whole-requires-clause-whole : goal.compose_whole-requires-clause-whole
compose_whole-requires-clause-whole g c =
    whole_form (shape c.args.lists.now) c.args.pixels.now c.in-Some.found.image c.requires.forms c.in-Some.ensures.found.to.live c.in-Some.ensures.found.to.nowhere

pub compose_whole-requires-clause-whole_from : goal.compose_whole-requires-clause-whole_from
compose_whole-requires-clause-whole_from g c =
    whole_form (shape c.args.lists.now) c.args.pixels.now c.in-Some.found.source c.requires.forms c.in-Some.ensures.found.taken.live c.in-Some.ensures.found.taken.nowhere

pub compose_whole-requires-clause-apart : goal.compose_whole-requires-clause-apart
compose_whole-requires-clause-apart g c = c.in-Some.ensures.apart

pub compose_whole-requires-clause-depth : goal.compose_whole-requires-clause-depth
unfolding shape
compose_whole-requires-clause-depth g c =
    let is = sized g (goal.at.compose_whole-requires-clause-depth g c).After-height in
    bits_there (shape c.args.lists.now) c.args.lists.now.standing c.args.pixels.now c.args.i c.args.r.now.min (record { columns = c.width.result; rows = c.height.result }) c.in-Some.found.image c.in-Some.found.at 32
    c.requires.live is.columns is.rows c.requires.stored c.requires.forms c.in-Some.ensures.depth c.in-Some.ensures.found.to

pub compose_whole-requires-clause-depth_from : goal.compose_whole-requires-clause-depth_from
unfolding shape
compose_whole-requires-clause-depth_from g c =
    let is = sized g (goal.at.compose_whole-requires-clause-depth_from g c).After-height in
    bits_there (shape c.args.lists.now) c.args.lists.now.standing c.args.pixels.now c.args.source c.args.from (record { columns = c.width.result; rows = c.height.result }) c.in-Some.found.source c.in-Some.found.from 32
    c.requires.live_from is.columns is.rows c.requires.stored c.requires.forms c.in-Some.ensures.depth_from c.in-Some.ensures.found.taken

pub compose_whole-requires-clause-near : goal.compose_whole-requires-clause-near
compose_whole-requires-clause-near g c = subst IsRectNear (sym c.block-there.ensures) (moving g (goal.at.compose_whole-requires-clause-near g c).In-Some).to.near

pub compose_whole-requires-clause-ordered : goal.compose_whole-requires-clause-ordered
compose_whole-requires-clause-ordered g c = subst IsOrdered (sym c.block-there.ensures) (record { across = omega (arith, ints); down = omega (arith, ints) })

pub compose_whole-requires-clause-near_from : goal.compose_whole-requires-clause-near_from
compose_whole-requires-clause-near_from g c = (moving g (goal.at.compose_whole-requires-clause-near_from g c).In-Some).taken.near.min

pub compose_whole-requires-clause-has : goal.compose_whole-requires-clause-has
compose_whole-requires-clause-has g c p h =
    (moving g (goal.at.compose_whole-requires-clause-has g c).In-Some).to.has p (ap (λ (v : Rect). holds v p) (sym c.block-there.ensures) ∙ h)

pub compose_whole-requires-clause-had : goal.compose_whole-requires-clause-had
compose_whole-requires-clause-had g c p h =
    let s = c.in-Some.found in
    ap (λ (v : Rect). has_place c.args.pixels.now (own s.source (carried p v.min s.from))) c.block-there.ensures
    ∙ had_there c.args.pixels.now (record { columns = c.width.result; rows = c.height.result }) s p (moving g (goal.at.compose_whole-requires-clause-had g c).In-Some) (ap (λ (v : Rect). holds v p) (sym c.block-there.ensures) ∙ h)

pub returns-in-Some-clause-written : goal.returns-in-Some-clause-written
returns-in-Some-clause-written g c done =
    let s = c.in-Some.found in
    let there = c.block-there.ensures in
    moved_written (shape c.args.lists.now) c.args.i c.args.r.now c.args.source c.args.from (record { columns = c.width.result; rows = c.height.result }) s (over_of c.args.over) c.args.pixels.now c.compose_whole.new.self
    (sized g (goal.at.returns-in-Some-clause-written g c).After-height)
    c.requires.inside c.in-Some.ensures.found
    (λ q h.
    c.compose_whole.ensures.at q (ap (λ (v : Rect). holds v q) there ∙ h)
    ∙ ap (λ (v : Rect). over_of c.args.over (kept_at c.args.pixels.now (own s.source (carried q v.min s.from))) (kept_at c.args.pixels.now (own s.image q))) there)
    (λ place apart. c.compose_whole.ensures.others place (λ q h. apart q (ap (λ (v : Rect). holds v q) (sym there) ∙ h)))
    c.compose_whole.ensures.has c.compose_whole.ensures.forms c.compose_whole.ensures.moment

pub returns-in-Some-clause-depth : goal.returns-in-Some-clause-depth
returns-in-Some-clause-depth g c done = c.in-Some.ensures.depth

pub returns-in-Some-clause-steps : goal.returns-in-Some-clause-steps
returns-in-Some-clause-steps g c done =
    let size : area_of c.block-there.result ≡ area_of c.args.r.now =
    ap area_of c.block-there.ensures ∙ block_area c.in-Some.found.at c.width.result c.height.result ∙ (λ j. c.width.ensures j * c.height.ensures j) in
    omega (arith, c.compose_whole.ensures.steps, size)
