use Rattle.std.proofs.Common.{◌≡◌, ◌∙◌, ◌^◌, lit≤, true, false, refl, sym, ap, subst, arith}
use Rattle.std.specs.Prelude.{is_some, not}
use Rattle.r9_geom.specs.declared.Rect.{Rect}
use Rattle.r9_geom.specs.Geometry.{area_of, holds, IsOrdered, IsRectNear}
use Rattle.r9_geom.proofs.GeometryLemmas.{near_wider}
use Rattle.model_forest.specs.View.{top_window}
use Rattle.model_forest.specs.World.{Image, image_at}
use Rattle.r9_locate.specs.locate.Table.{shape}
use Rattle.r9_shown.specs.Shown.{block}
use Rattle.r9_shown.proofs.Carried.{near_part}
use Rattle.r9_shown.proofs.Pieces.{block_area, block_ordered, corner_in}
use Rattle.r9_put.proofs.put.Forms.{image_near}
use Rattle.r9_put.proofs.put.Putting.{none_bare, some_covered, written_all}
use Rattle.r9_put.proofs.put.filling.fill_block.Goals as goal

pub fill_bare-requires-clause-near : goal.fill_bare-requires-clause-near
fill_bare-requires-clause-near g c =
    let r = (image_at (shape c.args.lists.now) c.args.i).r in
    let near = image_near (shape c.args.lists.now) c.args.i c.requires.stored.forest c.requires.live in
    subst IsRectNear (sym c.block.ensures)
    (near_part (block c.args.at c.args.columns c.args.rows) r c.args.at
    (record { min = near_wider (2 ^ 36) (2 ^ 40) r.min (lit≤ tt) near.min; max = near_wider (2 ^ 36) (2 ^ 40) r.max (lit≤ tt) near.max })
    (corner_in c.args.at c.args.columns c.args.rows c.requires.some c.requires.some_rows) c.requires.inside)

pub fill_bare-requires-clause-ordered : goal.fill_bare-requires-clause-ordered
fill_bare-requires-clause-ordered g c = subst IsOrdered (sym c.block.ensures) (block_ordered c.args.at c.args.columns c.args.rows)

pub fill_bare-requires-clause-inside : goal.fill_bare-requires-clause-inside
fill_bare-requires-clause-inside g c p h = c.requires.inside p (ap (λ (r : Rect). holds r p) (sym c.block.ensures) ∙ h)

pub fill_bare-requires-clause-bare : goal.fill_bare-requires-clause-bare
fill_bare-requires-clause-bare g c p h =
    let ws = (image_at (shape c.args.lists.now) c.args.i).windows in
    let windows = c.deref.ensures.value ∙ ap (λ (im : Image). im.windows) (sym c.get.ensures) in
    let none : is_some (top_window ws c.args.at) ≡ false = ap (λ list. is_some (top_window list c.args.at)) (sym windows) ∙ ap is_some (sym c.top.ensures) ∙ c.is_none.ensures ∙ ap not c.if-is_none.true in
    none_bare ws p (ap is_some (c.requires.steady p (ap (λ (r : Rect). holds r p) (sym c.block.ensures) ∙ h)) ∙ none)

pub returns-then-is_none-clause-written : goal.returns-then-is_none-clause-written
returns-then-is_none-clause-written g c =
    written_all (shape c.args.lists.now) c.args.i (holds c.block.result) (holds (block c.args.at c.args.columns c.args.rows)) (λ _. c.args.raw) c.args.pixels.now c.fill_bare.new.pixels
    (λ p. ap (λ (r : Rect). holds r p) (sym c.block.ensures))
    c.fill_bare.ensures.written

pub returns-then-is_none-clause-steps : goal.returns-then-is_none-clause-steps
returns-then-is_none-clause-steps g c =
    let size = ap area_of c.block.ensures ∙ block_area c.args.at c.args.columns c.args.rows in
    omega (arith, c.fill_bare.ensures.steps, size)

pub returns-else-is_none-clause-written : goal.returns-else-is_none-clause-written
returns-else-is_none-clause-written g c =
    let ws = (image_at (shape c.args.lists.now) c.args.i).windows in
    let windows = c.deref.ensures.value ∙ ap (λ (im : Image). im.windows) (sym c.get.ensures) in
    let some : is_some (top_window ws c.args.at) ≡ true = ap (λ list. is_some (top_window list c.args.at)) (sym windows) ∙ ap is_some (sym c.top.ensures) ∙ c.is_none.ensures ∙ ap not c.if-is_none.false in
    record {
      put = record {
        put = λ p inside in_block bare. absurd (some_covered ws p (ap is_some (c.requires.steady p in_block) ∙ some) bare);
        others = λ place apart. refl;
      };
      has = refl;
      forms = refl;
      moment = refl;
    }
