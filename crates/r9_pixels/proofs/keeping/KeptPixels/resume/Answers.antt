use Rattle.std.proofs.Common.{rules, ◌≡◌, ◌∙◌, ◌+◌, ◌<◌, ◌≤◌, ℕ, List, Option, Some, length, set, set-set, sym, subst, ap, arith}
use Rattle.std.specs.Prelude.{option_and_then, option_map, if◌then◌else◌}
use Rattle.std.specs.Option.{option_map_or}
use Rattle.std.proofs.lemmas.Bool.{or_left}
use Rattle.r9_geom.specs.declared.Rect.{Rect}
use Rattle.r9_geom.specs.Geometry.{area_of, height, holds, width}
use Rattle.r9_marks.specs.marks.Cells.{cells_over}
use Rattle.r9_plane.specs.declared.plane.Plane.{Plane}
use Rattle.r9_plane.specs.Marks.{mark_count, touched}
use Rattle.r9_plane.specs.Pixels.{chan_of, pixel_at, rect_of}
use Rattle.model_forest.specs.World.{no_rect}
use Rattle.model_kept.specs.Keeping.{Place}
use Rattle.r9_locate.specs.declared.watched.Watched.{Watched}
use Rattle.r9_locate.specs.watched.Moments.{Moment}
use Rattle.r9_locate.specs.watched.Watched.{moment_of}
use Rattle.r9_locate.specs.locate.Forms.{Form}
use Rattle.r9_cells.specs.Cells.{all_rows}
use Rattle.r9_pixels.specs.declared.own.Own.{Own}
use Rattle.r9_pixels.specs.declared.own.Own.TheVariants.{Whole}
use Rattle.r9_pixels.specs.Kept.{rect_at}
use Rattle.r9_pixels.specs.Owns.{form_in, moment_in, own_at, AreFew, IsTabled, IsWithinBits}
use Rattle.r9_pixels.proofs.Few.{few_plane}
use Rattle.r9_pixels.proofs.Looked.{looked_forms, looked_has, looked_moments}
use Rattle.r9_pixels.proofs.Owning.{hidden_set, no_window, own_is, own_same, tabled_set, whole_below, IsNoWindow}
use Rattle.r9_pixels.proofs.Telling.{kept_of, place_of}
use Rattle.r9_pixels.proofs.Touched.{whole_touched}
use Rattle.r9_pixels.proofs.keeping.KeptPixels.resume.Given.{Over}
use Rattle.r9_pixels.proofs.keeping.KeptPixels.resume.Goals as goal
use Rattle.r9_pixels.proofs.keeping.KeptPixels.resume.Goals.{After-fill, After-rect-r, After-resumed-now, In-Some-Whole}

below : (g : Over) (c : In-Some-Whole g) → c.args.i < length c.args.self.now.owns.items
below g c = whole_below c.args.self.now.owns.items c.args.i c.requires.whole

was : (g : Over) (c : In-Some-Whole g) → own_at c.args.self.now.owns.items c.args.i ≡ Some (Whole c.in-Some-Whole.watched)
was g c =
    let kept : c.in-Some-Whole.field-0 ≡ Whole c.in-Some-Whole.watched = search rules in
    own_is c.args.self.now.owns.items c.args.i c.index_mut.result.now (below g c) c.index_mut.ensures.value ∙ sym c.replace.ensures.value ∙ c.in-Some-Whole.is ∙ ap (λ (own : Own). Some own) kept

-- the rectangle
rect : (g : Over) (c : After-rect-r g) → own_at c.args.self.now.owns.items c.args.i ≡ Some (Whole c.in-Some-Whole.watched) → c.rect-r.result ≡ rect_at c.args.self.now c.args.i
rect g c is =
    c.rect-r.ensures.value ∙ ap rect_of c.into_plane-plane.ensures
    ∙ sym (ap (λ (slot : Option Own). option_map_or (λ (form : Form). form.r) (option_map form_in slot) no_rect) is)

pub resumed-now-requires : goal.resumed-now-requires
resumed-now-requires g c column row across down =
    let r = c.rect-r.result in
    let cleared : rect_of c.clear_marks.new.self ≡ r = c.clear_marks.ensures.rect ∙ sym c.rect-r.ensures.value in
    let filled : rect_of c.fill.new.self ≡ r = c.fill.ensures.rect ∙ cleared in
    let all = whole_touched r column row (subst (λ (q : Rect). column < cells_over (width q)) filled across) (subst (λ (q : Rect). row < cells_over (height q)) filled down) in
    c.fill.ensures.marks column row ∙ or_left _ _ (ap (λ (q : Rect). touched q r column row) cleared ∙ all)

-- the plane that is there then
plane_rect : (g : Over) (c : After-resumed-now g) → rect_of c.resumed-now.result.0.plane ≡ rect_of c.in-Some-Whole.watched.plane
plane_rect g c = ap rect_of c.resumed-now.ensures.plane ∙ c.fill.ensures.rect ∙ c.clear_marks.ensures.rect ∙ ap rect_of c.into_plane-plane.ensures

plane_chan : (g : Over) (c : After-resumed-now g) → chan_of c.resumed-now.result.0.plane ≡ chan_of c.in-Some-Whole.watched.plane
plane_chan g c = ap chan_of c.resumed-now.ensures.plane ∙ c.fill.ensures.chan ∙ c.clear_marks.ensures.chan ∙ ap chan_of c.into_plane-plane.ensures

pub invariant_of-self : goal.invariant_of-self
invariant_of-self g c =
    let at = goal.at.invariant_of-self g c in
    let self = c.args.self.now in
    let owns = self.owns.items in
    let there = below g at.In-Some-Whole in
    let now = c.resumed-now.result.0 in
    let new : Option Own = Some (Whole now) in
    let none : IsNoWindow (own_at owns c.args.i) = subst IsNoWindow (sym (was g at.In-Some-Whole)) (no_window c.in-Some-Whole.watched) in
    let one = set-set owns c.args.i c.replace.new.dest new in
    let then_is = c.resumed-now.ensures.moment in
    record {
      tabled = subst (λ (items : List (Option Own)). IsTabled items (all_rows self.cells)) (sym one) (tabled_set owns c.args.i new (all_rows self.cells) there none (no_window now) self.tabled);
      bounded =
          subst (λ (items : List (Option Own)). IsWithinBits items self.cells) (sym one)
          (λ j l q extent is. self.bounded j l q extent (hidden_set owns c.args.i j new extent there (no_window now) is).1);
      few =
          subst (AreFew c.and-self.result.sum) (sym one)
          (few_plane owns c.args.i now self.writes.sum c.and-self.result.sum there (omega (arith, c.and-self.ensures))
          (omega (arith, ap mark_count c.resumed-now.ensures.plane, c.fill.ensures.few, c.clear_marks.ensures.count, c.requires.few, ap (λ (m : Moment). m.count) then_is, ap (λ (m : Moment). m.writes) then_is, c.and-self.ensures))
          self.few);
    }

pub returns-clause-at : goal.returns-clause-at
returns-clause-at g c p h =
    let at = goal.at.returns-clause-at g c in
    let self = c.args.self.now in
    let owns = self.owns.items in
    let there = below g at.In-Some-Whole in
    let new : Option Own = Some (Whole c.resumed-now.result.0) in
    let inside = ap (λ (r : Rect). holds r p) (rect g at.After-rect-r (was g at.In-Some-Whole)) ∙ h in
    ap (λ (items : List (Option Own)). kept_of self.cells c.args.i p (own_at items c.args.i)) (set-set owns c.args.i c.replace.new.dest new)
    ∙ ap (kept_of self.cells c.args.i p) (own_same owns c.args.i new there)
    ∙ ap (λ (plane : Plane). pixel_at plane p) c.resumed-now.ensures.plane
    ∙ c.fill.ensures.pixels p
    ∙ ap (λ b. if b then c.args.raw else pixel_at c.clear_marks.new.self p) inside

pub returns-clause-has : goal.returns-clause-has
returns-clause-has g c =
    let at = goal.at.returns-clause-has g c in
    let self = c.args.self.now in
    let owns = self.owns.items in
    let now = c.resumed-now.result.0 in
    λ j (place : Place).
    (ap (λ (items : List (Option Own)). place_of self.cells place.image place.at (own_at items place.image)) (set-set owns c.args.i c.replace.new.dest (Some (Whole now)))
    ∙ looked_has owns self.cells c.args.i c.in-Some-Whole.watched now (below g at.In-Some-Whole) (was g at.In-Some-Whole) (plane_rect g at.After-resumed-now) place) j

pub returns-clause-forms : goal.returns-clause-forms
returns-clause-forms g c =
    let at = goal.at.returns-clause-forms g c in
    let owns = c.args.self.now.owns.items in
    let now = c.resumed-now.result.0 in
    λ j n.
    (ap (λ (items : List (Option Own)). option_map form_in (own_at items n)) (set-set owns c.args.i c.replace.new.dest (Some (Whole now)))
    ∙ looked_forms owns c.args.i c.in-Some-Whole.watched now (below g at.In-Some-Whole) (was g at.In-Some-Whole) (plane_rect g at.After-resumed-now) (plane_chan g at.After-resumed-now) n) j

pub returns-clause-moment : goal.returns-clause-moment
returns-clause-moment g c =
    let at = goal.at.returns-clause-moment g c in
    let owns = c.args.self.now.owns.items in
    let now = c.resumed-now.result.0 in
    (λ j n. option_and_then moment_in (own_at (set-set owns c.args.i c.replace.new.dest (Some (Whole now)) j) n))
    ∙ looked_moments owns c.args.i now (Some (moment_of c.args.had)) (below g at.In-Some-Whole) (ap (λ (m : Moment). Some m) c.resumed-now.ensures.moment)

pub returns-clause-steps : goal.returns-clause-steps
returns-clause-steps g c =
    let at = goal.at.returns-clause-steps g c in
    c.fill.ensures.steps ∙ ap (λ (r : Rect). c.args.steps.now + area_of r) (rect g at.After-rect-r (was g at.In-Some-Whole))
