use Rattle.std.proofs.Common.{◌≡◌, ◌∙◌, ◌^◌, lit≤, length, get_or, true, false, refl, sym, ap, subst, arith}
use Rattle.std.specs.Prelude.{is_some, not}
use Rattle.r9_geom.specs.declared.Point.{Point as Spot}
use Rattle.r9_geom.specs.declared.Rect.{Rect}
use Rattle.r9_geom.specs.Geometry.{area_of, holds, IsOrdered, IsRectNear}
use Rattle.r9_geom.proofs.GeometryLemmas.{near_wider}
use Rattle.model_forest.specs.View.{top_window}
use Rattle.model_forest.specs.World.{Image, image_at}
use Rattle.r9_plane.specs.Blocks.{number_in, HasRows}
use Rattle.r9_locate.specs.locate.Table.{shape}
use Rattle.r9_shown.specs.Shown.{block}
use Rattle.r9_shown.proofs.Carried.{near_part}
use Rattle.r9_shown.proofs.Pieces.{block_area, block_ordered, corner_in}
use Rattle.r9_put.proofs.put.Forms.{image_near}
use Rattle.r9_put.proofs.put.Putting.{among_below, area_written, none_bare, some_covered, written_same}
use Rattle.r9_put.proofs.put.rows.put_block.Goals as goal

pub write_area-requires-clause-near : goal.write_area-requires-clause-near
write_area-requires-clause-near g c =
    let r = (image_at (shape c.args.lists.now) c.args.i).r in
    let near = image_near (shape c.args.lists.now) c.args.i c.requires.stored.forest c.requires.live in
    subst IsRectNear (sym c.block.ensures)
    (near_part (block c.args.at c.args.columns c.args.rows) r c.args.at
    (record { min = near_wider (2 ^ 36) (2 ^ 40) r.min (lit≤ tt) near.min; max = near_wider (2 ^ 36) (2 ^ 40) r.max (lit≤ tt) near.max })
    (corner_in c.args.at c.args.columns c.args.rows c.requires.some c.requires.some_rows) c.requires.inside)

pub write_area-requires-clause-ordered : goal.write_area-requires-clause-ordered
write_area-requires-clause-ordered g c = subst IsOrdered (sym c.block.ensures) (block_ordered c.args.at c.args.columns c.args.rows)

pub write_area-requires-clause-inside : goal.write_area-requires-clause-inside
write_area-requires-clause-inside g c p h = c.requires.inside p (ap (λ (r : Rect). holds r p) (sym c.block.ensures) ∙ h)

pub write_area-requires-clause-has : goal.write_area-requires-clause-has
write_area-requires-clause-has g c p h =
    c.requires.stored.has c.args.i p c.requires.live (c.requires.inside p (ap (λ (r : Rect). holds r p) (sym c.block.ensures) ∙ h))

pub write_area-requires-clause-bits : goal.write_area-requires-clause-bits
write_area-requires-clause-bits g c = c.requires.stored.bits

pub write_area-requires-clause-rows : goal.write_area-requires-clause-rows
write_area-requires-clause-rows g c =
    subst (λ (r : Rect). HasRows r c.args.first c.args.width (length c.args.raws.now)) (sym c.block.ensures) c.requires.among

pub write_area-requires-clause-below : goal.write_area-requires-clause-below
write_area-requires-clause-below g c p h =
    let r = c.block.result in
    let among = subst (λ (s : Rect). HasRows s c.args.first c.args.width (length c.args.raws.now)) (sym c.block.ensures) c.requires.among in
    c.requires.below (number_in r c.args.first c.args.width p) (among_below r p c.args.first c.args.width (length c.args.raws.now) among h)

pub returns-then-is_none-clause-written : goal.returns-then-is_none-clause-written
returns-then-is_none-clause-written g c =
    let put = c.write_area.ensures in
    let ws = (image_at (shape c.args.lists.now) c.args.i).windows in
    let windows = c.deref.ensures.value ∙ ap (λ (im : Image). im.windows) (sym c.get.ensures) in
    let none : is_some (top_window ws c.args.at) ≡ false = ap (λ list. is_some (top_window list c.args.at)) (sym windows) ∙ ap is_some (sym c.top.ensures) ∙ c.is_none.ensures ∙ ap not c.if-is_none.true in
    let here : (p : Spot) → holds c.block.result p ≡ true → holds (block c.args.at c.args.columns c.args.rows) p ≡ true = λ p h. ap (λ (r : Rect). holds r p) (sym c.block.ensures) ∙ h in
    written_same (shape c.args.lists.now) c.args.i (holds c.block.result) (holds (block c.args.at c.args.columns c.args.rows))
    (λ p. get_or c.args.raws.now (number_in c.block.result c.args.first c.args.width p) 0)
    (λ p. get_or c.args.raws.now (number_in (block c.args.at c.args.columns c.args.rows) c.args.first c.args.width p) 0)
    c.args.pixels.now c.write_area.new.pixels
    (λ p. ap (λ (r : Rect). holds r p) (sym c.block.ensures))
    (λ p h. ap (λ (r : Rect). get_or c.args.raws.now (number_in r c.args.first c.args.width p) 0) c.block.ensures)
    (area_written (shape c.args.lists.now) c.args.i c.block.result _ c.args.pixels.now c.write_area.new.pixels
    (λ p h. c.requires.inside p (here p h))
    (λ p h. none_bare ws p (ap is_some (c.requires.steady p (here p h)) ∙ none))
    put.at put.others put.has put.forms put.moment)

pub returns-then-is_none-clause-steps : goal.returns-then-is_none-clause-steps
returns-then-is_none-clause-steps g c =
    let size = ap area_of c.block.ensures ∙ block_area c.args.at c.args.columns c.args.rows in
    omega (arith, c.write_area.ensures.steps, size)

pub returns-else-is_none-clause-written : goal.returns-else-is_none-clause-written
returns-else-is_none-clause-written g c =
    let ws = (image_at (shape c.args.lists.now) c.args.i).windows in
    let windows = c.deref.ensures.value ∙ ap (λ (im : Image). im.windows) (sym c.get.ensures) in
    let some : is_some (top_window ws c.args.at) ≡ true = ap (λ list. is_some (top_window list c.args.at)) (sym windows) ∙ ap is_some (sym c.top.ensures) ∙ c.is_none.ensures ∙ ap not c.if-is_none.false in
    record {
      put = record {
        put = λ p inside in_block bare. absurd (some_covered ws p (ap is_some (c.requires.steady p in_block) ∙ some) bare);
        others = λ place apart. refl;
      };
      has = refl;
      forms = refl;
      moment = refl;
    }
