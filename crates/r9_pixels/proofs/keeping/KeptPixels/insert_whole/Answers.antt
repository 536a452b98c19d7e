use Rattle.std.proofs.Common.{◌∙◌, Option, Some, ap, arith}
use Rattle.std.specs.Prelude.{option_and_then, option_map}
use Rattle.r9_geom.specs.Geometry.{holds}
use Rattle.model_kept.specs.Restack.{with_own}
use Rattle.r9_plane.specs.declared.plane.Plane.{Plane}
use Rattle.r9_plane.specs.Pixels.{pixel_at, rect_of}
use Rattle.r9_locate.specs.watched.Moments.{with_moment, Moment}
use Rattle.r9_cells.specs.Cells.{all_rows}
use Rattle.r9_pixels.specs.declared.own.Own.{Own}
use Rattle.r9_pixels.specs.declared.own.Own.TheVariants.{Whole}
use Rattle.r9_pixels.specs.Kept.{form_at, has_place, kept_at, moment}
use Rattle.r9_pixels.specs.Owns.{form_in, moment_in, own_at, plane_form}
use Rattle.r9_pixels.specs.Places.{with_form, with_places}
use Rattle.r9_pixels.proofs.Few.{few_plane}
use Rattle.r9_pixels.proofs.Owning.{form_none, hidden_set, no_window, none_window, set_each, tabled_set}
use Rattle.r9_pixels.proofs.Telling.{kept_of, place_of}
use Rattle.r9_pixels.proofs.keeping.KeptPixels.insert_whole.Goals as goal

pub invariant_of-self : goal.invariant_of-self
invariant_of-self c =
    let owns = c.args.self.now.owns.items in
    let watched = c.watch-watched.result in
    let new : Option Own = Some (Whole watched) in
    let none = none_window (own_at owns c.args.i) (form_none (own_at owns c.args.i) c.requires.free) in
    let writes = c.args.self.now.writes.sum in
    record {
      tabled = tabled_set owns c.args.i new (all_rows c.args.self.now.cells) c.requires.room none (no_window watched) c.args.self.now.tabled;
      bounded = λ j l q extent is. c.args.self.now.bounded j l q extent (hidden_set owns c.args.i j new extent c.requires.room (no_window watched) is).1;
      few = few_plane owns c.args.i watched writes writes c.requires.room (omega arith) c.watch-watched.ensures.few c.args.self.now.few;
    }

pub returns-clause-kept : goal.returns-clause-kept
returns-clause-kept c =
    (λ j place. set_each c.args.self.now.owns.items c.args.i (Some (Whole c.watch-watched.result)) (kept_of c.args.self.now.cells place.image place.at) c.requires.room place.image j)
    ∙ ap (λ (plane : Plane). with_own c.args.i (pixel_at plane) (kept_at c.args.self.now)) c.watch-watched.ensures.plane

pub returns-clause-has : goal.returns-clause-has
returns-clause-has c =
    (λ j place. set_each c.args.self.now.owns.items c.args.i (Some (Whole c.watch-watched.result)) (place_of c.args.self.now.cells place.image place.at) c.requires.room place.image j)
    ∙ ap (λ (plane : Plane). with_places c.args.i (holds (rect_of plane)) (has_place c.args.self.now)) c.watch-watched.ensures.plane

pub returns-clause-forms : goal.returns-clause-forms
returns-clause-forms c =
    (λ j n. set_each c.args.self.now.owns.items c.args.i (Some (Whole c.watch-watched.result)) (option_map form_in) c.requires.room n j)
    ∙ ap (λ (plane : Plane). with_form c.args.i (Some (plane_form plane)) (form_at c.args.self.now)) c.watch-watched.ensures.plane

pub returns-clause-moment : goal.returns-clause-moment
returns-clause-moment c =
    (λ j n. set_each c.args.self.now.owns.items c.args.i (Some (Whole c.watch-watched.result)) (option_and_then moment_in) c.requires.room n j)
    ∙ ap (λ (m : Moment). with_moment c.args.i (Some m) (moment c.args.self.now)) c.watch-watched.ensures.moment
