use Rattle.std.proofs.Common.{◌∙◌, ◌≤◌, ◌+◌, true, false, Some, sym, subst, ap, arith}
use Rattle.std.specs.Prelude.{if◌then◌else◌}
use Rattle.r9_geom.specs.declared.Rect.{Rect}
use Rattle.r9_geom.specs.Geometry.{at_min, carried, holds, IsRectNear}
use Rattle.r9_plane.specs.Pixels.{rect_of}
use Rattle.r9_plane.proofs.Shifts.{holds-at_min}
use Rattle.r9_locate.specs.declared.watched.Watched.{Watched}
use Rattle.r9_locate.specs.watched.Moments.{IsFew, Moment}
use Rattle.r9_locate.specs.watched.Watched.{count_of, moment_of}
use Rattle.r9_cells.specs.Cells.{all_rows, place_pixel}
use Rattle.r9_cells.specs.Rows.{cell_place, has_tile}
use Rattle.r9_pixels.specs.declared.own.Own.{Own}
use Rattle.r9_pixels.specs.Owns.{form_in, has_in, kept_in, moment_in}
use Rattle.r9_pixels.specs.Places.{shifted_form}
use Rattle.r9_pixels.proofs.Owning.{whole_is}
use Rattle.r9_pixels.proofs.Shifted.{has-at_min, kept-at_min}
use Rattle.r9_pixels.proofs.own.Own.shift.Goals as goal

pub shift-requires-clause-near : goal.shift-requires-clause-near
shift-requires-clause-near c = subst (λ (o : Own). IsRectNear (at_min (form_in o).r c.args.min)) c.in-Whole.is c.requires.near

pub at_min-extent-requires-clause-rect : goal.at_min-extent-requires-clause-rect
at_min-extent-requires-clause-rect c = subst (λ (o : Own). IsRectNear (form_in o).r) c.in-Hidden.is c.requires.rect

pub returns-in-Whole-clause-form : goal.returns-in-Whole-clause-form
returns-in-Whole-clause-form c =
    (λ j. record { r = c.shift.ensures.rect j; chan = c.shift.ensures.chan j; is_window = false })
    ∙ ap (λ (o : Own). shifted_form c.args.min (form_in o)) (sym c.in-Whole.is)

pub returns-in-Whole-clause-kept : goal.returns-in-Whole-clause-kept
returns-in-Whole-clause-kept c cells i p =
    c.shift.ensures.pixels p ∙ ap (λ (o : Own). kept_in cells i (carried p c.args.min (form_in o).r.min) o) (sym c.in-Whole.is)

pub returns-in-Whole-clause-has : goal.returns-in-Whole-clause-has
returns-in-Whole-clause-has c cells i p =
    ap (λ (r : Rect). holds r p) c.shift.ensures.rect
    ∙ holds-at_min (rect_of c.in-Whole.watched.plane) c.args.min p
    ∙ ap (λ (o : Own). has_in cells i (carried p c.args.min (form_in o).r.min) o) (sym c.in-Whole.is)

pub returns-in-Hidden-clause-form : goal.returns-in-Hidden-clause-form
returns-in-Hidden-clause-form c =
    (λ j. record { r = c.at_min-extent.ensures j; chan = c.in-Hidden.extent.chan; is_window = true })
    ∙ ap (λ (o : Own). shifted_form c.args.min (form_in o)) (sym c.in-Hidden.is)

pub returns-in-Hidden-clause-kept : goal.returns-in-Hidden-clause-kept
returns-in-Hidden-clause-kept c cells i p =
    ap (λ (r : Rect). if holds r p then place_pixel cells (cell_place i r p) else 0) c.at_min-extent.ensures
    ∙ kept-at_min cells i c.in-Hidden.extent.r c.args.min p
    ∙ ap (λ (o : Own). kept_in cells i (carried p c.args.min (form_in o).r.min) o) (sym c.in-Hidden.is)

pub returns-in-Hidden-clause-has : goal.returns-in-Hidden-clause-has
returns-in-Hidden-clause-has c cells i p =
    ap (λ (r : Rect). has_tile (all_rows cells) i r p) c.at_min-extent.ensures
    ∙ has-at_min (all_rows cells) i c.in-Hidden.extent.r c.args.min p
    ∙ ap (λ (o : Own). has_in cells i (carried p c.args.min (form_in o).r.min) o) (sym c.in-Hidden.is)

pub returns-in-Whole-clause-moment : goal.returns-in-Whole-clause-moment
returns-in-Whole-clause-moment c = ap (λ (m : Moment). Some m) c.shift.ensures.moment ∙ ap moment_in (sym c.in-Whole.is)

pub returns-in-Whole-clause-few : goal.returns-in-Whole-clause-few
returns-in-Whole-clause-few c writes few watched is =
    let had = few c.in-Whole.watched c.in-Whole.is in
    let told = c.shift.ensures.moment in
    subst (λ (w : Watched). IsFew (moment_of w) (count_of w) writes) (whole_is c.shift.new.self watched (ap (λ (o : Own). Some o) is))
    (omega (arith, had, c.shift.ensures.count, ap (λ (m : Moment). m.count) told, ap (λ (m : Moment). m.writes) told))

pub returns-in-Hidden-clause-moment : goal.returns-in-Hidden-clause-moment
returns-in-Hidden-clause-moment c = ap moment_in (sym c.in-Hidden.is)

pub returns-in-Hidden-clause-few : goal.returns-in-Hidden-clause-few
returns-in-Hidden-clause-few c writes few watched is = absurd cc
