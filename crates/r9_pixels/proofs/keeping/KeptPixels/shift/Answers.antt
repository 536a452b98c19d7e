use Rattle.std.proofs.Common.{◌≡◌, ◌∙◌, ◌<◌, Option, Some, length, sym, subst, ap, arith}
use Rattle.std.specs.Prelude.{option_and_then, option_map}
use Rattle.std.specs.Option.{option_map_or}
use Rattle.r9_geom.specs.declared.Rect.{Rect}
use Rattle.r9_geom.specs.Geometry.{at_min, carried, IsRectNear}
use Rattle.model_forest.specs.World.{no_rect}
use Rattle.model_kept.specs.Keeping.{own, Place}
use Rattle.model_kept.specs.Restack.{with_shifted}
use Rattle.r9_cells.specs.Cells.{all_rows}
use Rattle.r9_locate.specs.locate.Forms.{Form}
use Rattle.r9_pixels.specs.declared.own.Own.{Own}
use Rattle.r9_pixels.specs.Kept.{form_at, has_place, kept_at}
use Rattle.r9_pixels.specs.Owns.{form_in, moment_in, own_at}
use Rattle.r9_pixels.specs.Places.{shifted_form, with_form, with_places}
use Rattle.r9_pixels.proofs.Owning.{own_is, own_there, set_each, set_still, whole_own}
use Rattle.r9_pixels.proofs.Shifted.{formed, shifted_bounded, shifted_each, shifted_tabled}
use Rattle.r9_pixels.proofs.Telling.{kept_of, place_of}
use Rattle.r9_pixels.proofs.Few.{few_set}
use Rattle.r9_pixels.proofs.keeping.KeptPixels.shift.Goals as goal
use Rattle.r9_pixels.proofs.keeping.KeptPixels.shift.Goals.{In-Some, Start}

-- the rectangle of a slot
abbrev rect_in : Option Own → Rect
rect_in slot = option_map_or (λ (form : Form). form.r) (option_map form_in slot) no_rect

below : (c : Start) → c.args.i < length c.args.self.now.owns.items
below c =
    let owns = c.args.self.now.owns.items in
    let found = formed (own_at owns c.args.i) c.requires.live in
    own_there owns c.args.i found.0 found.1

was : (c : In-Some) → c.args.i < length c.args.self.now.owns.items → own_at c.args.self.now.owns.items c.args.i ≡ Some c.in-Some.own
was c there = own_is c.args.self.now.owns.items c.args.i c.index_mut.result.now there c.index_mut.ensures.value ∙ c.in-Some.is

pub index_mut-requires : goal.index_mut-requires
index_mut-requires c = let there = below (goal.at.index_mut-requires c).Start in omega (arith, there, c.args.self.now.owns.ok.0)

pub shift-requires-clause-rect : goal.shift-requires-clause-rect
shift-requires-clause-rect c =
    let at = goal.at.shift-requires-clause-rect c in
    subst (λ (slot : Option Own). IsRectNear (rect_in slot)) (was at.In-Some (below at.Start)) c.requires.rect

pub shift-requires-clause-near : goal.shift-requires-clause-near
shift-requires-clause-near c =
    let at = goal.at.shift-requires-clause-near c in
    subst (λ (slot : Option Own). IsRectNear (at_min (rect_in slot) c.args.min)) (was at.In-Some (below at.Start)) c.requires.near

pub invariant_of-self : goal.invariant_of-self
invariant_of-self c =
    let at = goal.at.invariant_of-self c in
    let self = c.args.self.now in
    let there = below at.Start in
    let is = was at.In-Some there in
    record {
      tabled =
          shifted_tabled self.owns.items (all_rows self.cells) c.args.i c.in-Some.own c.shift.new.self c.args.min there is c.shift.ensures.form
          (subst (λ (slot : Option Own). IsRectNear (at_min (rect_in slot) c.args.min)) is c.requires.near) self.tabled;
      bounded = shifted_bounded self.owns.items self.cells c.args.i c.in-Some.own c.shift.new.self c.args.min there is c.shift.ensures.form self.bounded;
      few =
          few_set self.owns.items c.args.i (Some c.shift.new.self) self.writes.sum self.writes.sum there (omega arith)
          (λ watched same. c.shift.ensures.few self.writes.sum (λ old was. self.few c.args.i old (is ∙ ap (λ (o : Own). Some o) was)) watched (whole_own c.shift.new.self watched same))
          self.few;
    }

pub returns-clause-kept : goal.returns-clause-kept
returns-clause-kept c =
    let at = goal.at.returns-clause-kept c in
    let self = c.args.self.now in
    let there = below at.Start in
    let is = was at.In-Some there in
    (λ j (place : Place). shifted_each self.owns.items c.args.i c.in-Some.own c.shift.new.self (form_in c.in-Some.own).r.min c.args.min (kept_of self.cells) there is (c.shift.ensures.kept self.cells c.args.i) place.image place.at j)
    ∙ ap (λ (slot : Option Own). with_shifted c.args.i (rect_in slot).min c.args.min (kept_at self)) (sym is)

pub returns-clause-has : goal.returns-clause-has
returns-clause-has c =
    let at = goal.at.returns-clause-has c in
    let self = c.args.self.now in
    let there = below at.Start in
    let is = was at.In-Some there in
    (λ j (place : Place). shifted_each self.owns.items c.args.i c.in-Some.own c.shift.new.self (form_in c.in-Some.own).r.min c.args.min (place_of self.cells) there is (c.shift.ensures.has self.cells c.args.i) place.image place.at j)
    ∙ ap (λ (slot : Option Own). with_places c.args.i (λ p. has_place self (own c.args.i (carried p c.args.min (rect_in slot).min))) (has_place self)) (sym is)

pub returns-clause-forms : goal.returns-clause-forms
returns-clause-forms c =
    let at = goal.at.returns-clause-forms c in
    let self = c.args.self.now in
    let there = below at.Start in
    let is = was at.In-Some there in
    (λ j n. set_each self.owns.items c.args.i (Some c.shift.new.self) (option_map form_in) there n j)
    ∙ ap (λ (form : Option Form). with_form c.args.i form (form_at self))
    (ap (λ (form : Form). Some form) c.shift.ensures.form ∙ sym (ap (λ (slot : Option Own). option_map (shifted_form c.args.min) (option_map form_in slot)) is))

pub returns-clause-moment : goal.returns-clause-moment
returns-clause-moment c =
    let at = goal.at.returns-clause-moment c in
    let self = c.args.self.now in
    let there = below at.Start in
    let is = was at.In-Some there in
    λ j n. set_still self.owns.items c.args.i (Some c.shift.new.self) (option_and_then moment_in) there (c.shift.ensures.moment ∙ sym (ap (option_and_then moment_in) is)) n j
