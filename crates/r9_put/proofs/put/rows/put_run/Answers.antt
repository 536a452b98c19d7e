use Rattle.std.proofs.Common.{◌≡◌, ◌∙◌, ℕ, ◌<◌, true, false, length, refl, sym, ap, arith}
use Rattle.std.specs.Prelude.{is_some, not, slice_index}
use Rattle.r9_geom.specs.declared.Point.{Point as Spot}
use Rattle.r9_geom.proofs.GeometryLemmas.{strip_distance}
use Rattle.model_forest.specs.View.{is_bare, top_window}
use Rattle.model_forest.specs.World.{Image, image_at}
use Rattle.model_kept.specs.Keeping.{keeping}
use Rattle.r9_plane.specs.Pixels.{along}
use Rattle.r9_plane.proofs.PlaneLemmas.{along_holds}
use Rattle.r9_locate.specs.locate.Table.{shape}
use Rattle.r9_locate.proofs.locate.Locating.{strip_at}
use Rattle.r9_pixels.specs.Kept.{kept_at}
use Rattle.r9_put.proofs.put.Putting.{none_bare, row_narrow, some_covered}
use Rattle.r9_put.proofs.put.rows.put_run.Goals as goal

pub write_view-requires-clause-width : goal.write_view-requires-clause-width
write_view-requires-clause-width g c =
    let image = image_at (shape c.args.lists.now) c.args.i in
    let narrow = row_narrow image.r c.args.at (length c.args.raws.now) c.requires.inside in
    let columns = (c.requires.stored.forest.images c.args.i c.requires.live).columns in
    omega (arith, narrow, columns)

pub write_view-requires-clause-has : goal.write_view-requires-clause-has
write_view-requires-clause-has g c k below =
    let p = along c.args.at k in
    c.requires.stored.has c.args.i p c.requires.live (c.requires.inside p (along_holds c.args.at (length c.args.raws.now) k below))

pub write_view-requires-clause-bits : goal.write_view-requires-clause-bits
write_view-requires-clause-bits g c = c.requires.stored.bits

pub returns-then-is_none-clause-written : goal.returns-then-is_none-clause-written
returns-then-is_none-clause-written g c =
    let w = shape c.args.lists.now in
    let ws = (image_at w c.args.i).windows in
    let at = c.args.at in
    let raws = c.args.raws.now in
    let windows = c.deref.ensures.value ∙ ap (λ (im : Image). im.windows) (sym c.get.ensures) in
    let none : is_some (top_window ws at) ≡ false = ap (λ list. is_some (top_window list at)) (sym windows) ∙ ap is_some (sym c.top.ensures) ∙ c.is_none.ensures ∙ ap not c.if-is_none.true in
    let bare : (k : ℕ) → k < length raws → is_bare ws (along at k) ≡ true = λ k below. none_bare ws (along at k) (ap is_some (c.requires.steady k below) ∙ none) in
    record {
      put = record {
        put = λ p inside in_strip is.
            let found = strip_at at p (length raws) in_strip in
            ap (λ q. kept_at c.write_view.new.pixels (keeping w c.args.i q)) found.2
            ∙ c.write_view.ensures.at found.0 found.1
            ∙ ap (slice_index raws) (sym (strip_distance at p found.0 (ap (λ (q : Spot). q.x) found.2)));
        others = λ place apart.
            c.write_view.ensures.others place
            (λ k below.
            let here = along_holds at (length raws) k below in
            apart (along at k) (c.requires.inside (along at k) here) here (bare k below));
      };
      has = c.write_view.ensures.has;
      forms = c.write_view.ensures.forms;
      moment = c.write_view.ensures.moment;
    }

pub returns-else-is_none-clause-written : goal.returns-else-is_none-clause-written
returns-else-is_none-clause-written g c =
    let w = shape c.args.lists.now in
    let ws = (image_at w c.args.i).windows in
    let at = c.args.at in
    let raws = c.args.raws.now in
    let windows = c.deref.ensures.value ∙ ap (λ (im : Image). im.windows) (sym c.get.ensures) in
    let some : is_some (top_window ws at) ≡ true = ap (λ list. is_some (top_window list at)) (sym windows) ∙ ap is_some (sym c.top.ensures) ∙ c.is_none.ensures ∙ ap not c.if-is_none.false in
    record {
      put = record {
        put = λ p inside in_strip bare.
            let found = strip_at at p (length raws) in_strip in
            absurd (some_covered ws p (ap (λ q. is_some (top_window ws q)) found.2 ∙ ap is_some (c.requires.steady found.0 found.1) ∙ some) bare);
        others = λ place apart. refl;
      };
      has = refl;
      forms = refl;
      moment = refl;
    }
