use Rattle.std.proofs.Common.{◌≡◌, ◌*◌, ◌∙◌, sym, ap, subst, arith, true}
use Rattle.std.specs.Int.Bits.{bit_and}
use Rattle.std.proofs.lemmas.Int.{ints}
use Rattle.r9_geom.specs.declared.Rect.{Rect}
use Rattle.r9_geom.specs.Geometry.{area_of, carried, holds, IsOrdered, IsRectNear}
use Rattle.r9_geom.proofs.GeometryLemmas.{height_most, width_most}
use Rattle.model_kept.specs.Keeping.{own}
use Rattle.r9_locate.specs.locate.Table.{shape}
use Rattle.r9_pixels.specs.Kept.{has_place, kept_at}
use Rattle.r9_shown.proofs.Pieces.{block_area}
use Rattle.r9_put.proofs.put.Shifting.{as_block, had_there, inside_block, moved_written, moving_of, IsBlock, IsMoving}
use Rattle.r9_put.proofs.put.Wholes.{whole_form}
use Rattle.r9_put.proofs.put.moving.move_area.Given.{Over}
use Rattle.r9_put.proofs.put.moving.move_area.Goals as goal
use Rattle.r9_put.proofs.put.moving.move_area.Goals.{After-height, In-Some}

-- the rectangle is a block
sized : (g : Over) (c : After-height g) → IsBlock c.args.r.now (record { columns = c.width.result; rows = c.height.result })
sized g c = as_block c.args.r.now (record { columns = c.width.result; rows = c.height.result }) c.requires.ordered c.requires.some c.width.ensures c.height.ensures

-- where its pixels come to, and from where
moving : (g : Over) (c : In-Some g) → IsMoving c.args.pixels.now (record { columns = c.width.result; rows = c.height.result }) c.in-Some.found
unfolding shape
moving g c =
    moving_of (shape c.args.lists.now) c.args.lists.now.standing c.args.lists.now.near c.args.pixels.now c.args.i c.args.r.now c.args.i c.args.from
    (record { columns = c.width.result; rows = c.height.result }) c.in-Some.found c.requires.live c.requires.live
    (as_block c.args.r.now (record { columns = c.width.result; rows = c.height.result }) c.requires.ordered c.requires.some c.width.ensures c.height.ensures)
    c.requires.inside c.requires.inside_from c.requires.stored c.in-Some.ensures

pub shift_of-requires-clause-columns : goal.shift_of-requires-clause-columns
shift_of-requires-clause-columns g c = (sized g (goal.at.shift_of-requires-clause-columns g c).After-height).columns

pub shift_of-requires-clause-rows : goal.shift_of-requires-clause-rows
shift_of-requires-clause-rows g c = (sized g (goal.at.shift_of-requires-clause-rows g c).After-height).rows

pub shift_of-requires-clause-inside : goal.shift_of-requires-clause-inside
shift_of-requires-clause-inside g c p h =
    c.requires.inside p (ap (λ (v : Rect). holds v p) (sym (sized g (goal.at.shift_of-requires-clause-inside g c).After-height).is) ∙ h)

pub shift_of-requires-clause-inside_from : goal.shift_of-requires-clause-inside_from
shift_of-requires-clause-inside_from g c p h =
    inside_block c.args.r.now _ c.args.from p (record { columns = c.width.result; rows = c.height.result }) (sized g (goal.at.shift_of-requires-clause-inside_from g c).After-height) c.requires.inside_from h

pub block-there-requires-clause-near : goal.block-there-requires-clause-near
block-there-requires-clause-near g c = (moving g (goal.at.block-there-requires-clause-near g c).In-Some).to.near.min

pub block-there-requires-clause-columns : goal.block-there-requires-clause-columns
block-there-requires-clause-columns g c = omega (arith, c.width.ensures, width_most c.args.r.now c.requires.near c.requires.ordered)

pub block-there-requires-clause-rows : goal.block-there-requires-clause-rows
block-there-requires-clause-rows g c = omega (arith, c.height.ensures, height_most c.args.r.now c.requires.near c.requires.ordered)

pub move_whole-requires-clause-whole : goal.move_whole-requires-clause-whole
move_whole-requires-clause-whole g c =
    whole_form (shape c.args.lists.now) c.args.pixels.now c.in-Some.found.image c.requires.forms c.in-Some.ensures.to.live c.in-Some.ensures.to.nowhere

pub move_whole-requires-clause-near : goal.move_whole-requires-clause-near
move_whole-requires-clause-near g c = subst IsRectNear (sym c.block-there.ensures) (moving g (goal.at.move_whole-requires-clause-near g c).In-Some).to.near

pub move_whole-requires-clause-ordered : goal.move_whole-requires-clause-ordered
move_whole-requires-clause-ordered g c = subst IsOrdered (sym c.block-there.ensures) (record { across = omega (arith, ints); down = omega (arith, ints) })

pub move_whole-requires-clause-near_from : goal.move_whole-requires-clause-near_from
move_whole-requires-clause-near_from g c = (moving g (goal.at.move_whole-requires-clause-near_from g c).In-Some).taken.near.min

pub move_whole-requires-clause-has : goal.move_whole-requires-clause-has
move_whole-requires-clause-has g c p h =
    (moving g (goal.at.move_whole-requires-clause-has g c).In-Some).to.has p (ap (λ (v : Rect). holds v p) (sym c.block-there.ensures) ∙ h)

pub move_whole-requires-clause-had : goal.move_whole-requires-clause-had
move_whole-requires-clause-had g c p h =
    let s = c.in-Some.found in
    ap (λ (v : Rect). has_place c.args.pixels.now (own s.image (carried p v.min s.from))) c.block-there.ensures
    ∙ ap (λ n. has_place c.args.pixels.now (own n (carried p s.at s.from))) c.if-found.true
    ∙ had_there c.args.pixels.now (record { columns = c.width.result; rows = c.height.result }) s p (moving g (goal.at.move_whole-requires-clause-had g c).In-Some) (ap (λ (v : Rect). holds v p) (sym c.block-there.ensures) ∙ h)

pub returns-in-Some-clause-written : goal.returns-in-Some-clause-written
returns-in-Some-clause-written g c done =
    let s = c.in-Some.found in
    let there = c.block-there.ensures in
    moved_written (shape c.args.lists.now) c.args.i c.args.r.now c.args.i c.args.from (record { columns = c.width.result; rows = c.height.result }) s (λ raw own_raw. bit_and raw c.args.bits) c.args.pixels.now c.move_whole.new.self
    (sized g (goal.at.returns-in-Some-clause-written g c).After-height)
    c.requires.inside c.in-Some.ensures
    (λ q h.
    c.move_whole.ensures.at q (ap (λ (v : Rect). holds v q) there ∙ h)
    ∙ ap (λ (v : Rect). bit_and (kept_at c.args.pixels.now (own s.image (carried q v.min s.from))) c.args.bits) there
    ∙ ap (λ n. bit_and (kept_at c.args.pixels.now (own n (carried q s.at s.from))) c.args.bits) c.if-found.true)
    (λ place apart. c.move_whole.ensures.others place (λ q h. apart q (ap (λ (v : Rect). holds v q) (sym there) ∙ h)))
    c.move_whole.ensures.has c.move_whole.ensures.forms c.move_whole.ensures.moment

pub returns-in-Some-clause-steps : goal.returns-in-Some-clause-steps
returns-in-Some-clause-steps g c done =
    let size : area_of c.block-there.result ≡ area_of c.args.r.now =
    ap area_of c.block-there.ensures ∙ block_area c.in-Some.found.at c.width.result c.height.result ∙ (λ j. c.width.ensures j * c.height.ensures j) in
    omega (arith, c.move_whole.ensures.steps, size)
