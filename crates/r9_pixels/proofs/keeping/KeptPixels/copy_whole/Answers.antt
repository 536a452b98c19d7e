use Rattle.std.proofs.Common.{◌≡◌, ◌∙◌, ℕ, ◌<◌, false, length, Option, Some, refl, sym, subst, ap, arith}
use Rattle.std.specs.Prelude.{option_map}
use Rattle.std.specs.Option.{option_map_or}
use Rattle.std.proofs.lemmas.Int.{ints}
use Rattle.r9_geom.specs.declared.Point.{Point}
use Rattle.r9_geom.specs.Geometry.{area_of, carried, holds}
use Rattle.r9_geom.proofs.GeometryLemmas.{same_point}
use Rattle.model_forest.proofs.Sound.{some_same}
use Rattle.r9_plane.specs.Pixels.{chan_of, pixel_at, rect_of}
use Rattle.r9_locate.specs.locate.Forms.{Form}
use Rattle.r9_cells.specs.Cells.{all_rows}
use Rattle.r9_pixels.specs.declared.own.Own.{Own}
use Rattle.r9_pixels.specs.declared.own.Own.TheVariants.{Whole}
use Rattle.r9_pixels.specs.Owns.{form_in, has_in, own_at}
use Rattle.r9_pixels.proofs.Owning.{hidden_set, no_window, own_is, own_there, tabled_set, whole_of, IsNoWindow}
use Rattle.r9_pixels.proofs.Wholes.{whole_at, whole_forms, whole_has, whole_others, IsPlaneWritten, whole_moments}
use Rattle.r9_pixels.proofs.Few.{few_written}
use Rattle.r9_pixels.proofs.keeping.KeptPixels.copy_whole.Given.{Over}
use Rattle.r9_pixels.proofs.keeping.KeptPixels.copy_whole.Goals as goal
use Rattle.r9_pixels.proofs.keeping.KeptPixels.copy_whole.Goals.{Start, In-Some-Whole}

-- a point that is carried nowhere
carried-same : (p at : Point) → carried p at at ≡ p
carried-same p at = same_point (carried p at at) p (omega (arith, ints)) (omega (arith, ints))

below : (g : Over) (c : Start g) → c.args.i < length c.args.self.now.owns.items
below g c =
    let owns = c.args.self.now.owns.items in
    let found = whole_of (own_at owns c.args.i) c.requires.whole in
    own_there owns c.args.i (Whole found.0) found.1

had : (g : Over) (c : In-Some-Whole g) → c.args.i < length c.args.self.now.owns.items → own_at c.args.self.now.owns.items c.args.i ≡ Some (Whole c.in-Some-Whole.watched)
had g c there = own_is c.args.self.now.owns.items c.args.i c.index_mut.result.now there c.index_mut.ensures.value ∙ c.in-Some-Whole.is ∙ ap (λ o. Some o) c.in-Some-Whole.field-0-is

pub index_mut-requires : goal.index_mut-requires
index_mut-requires g c = omega (arith, below g (goal.at.index_mut-requires g c).Start, c.args.self.now.owns.ok.0)

pub copy-requires-clause-inside : goal.copy-requires-clause-inside
copy-requires-clause-inside g c p h =
    let owns = c.args.self.now.owns.items in
    let at = goal.at.copy-requires-clause-inside g c in
    let below_owns = below g at.Start in
    let was = had g at.In-Some-Whole below_owns in
    sym (ap (λ o. option_map_or (has_in c.args.self.now.cells c.args.i p) o false) was) ∙ c.requires.has p h

pub copy-requires-clause-near_from : goal.copy-requires-clause-near_from
copy-requires-clause-near_from g c = c.requires.near.min

pub copy-requires-clause-inside_from : goal.copy-requires-clause-inside_from
copy-requires-clause-inside_from g c p h = ap (holds (rect_of c.args.other.now)) (carried-same p c.args.r.min) ∙ c.requires.other p h

pub copy-requires-clause-chan : goal.copy-requires-clause-chan
copy-requires-clause-chan g c =
    let owns = c.args.self.now.owns.items in
    let at = goal.at.copy-requires-clause-chan g c in
    let below_owns = below g at.Start in
    let was = had g at.In-Some-Whole below_owns in
    sym (some_same (chan_of c.in-Some-Whole.watched.plane) (chan_of c.args.other.now) (sym (ap (λ o. option_map (λ (form : Form). form.chan) (option_map form_in o)) was) ∙ c.requires.chan))

pub invariant_of-self : goal.invariant_of-self
invariant_of-self g c =
    let owns = c.args.self.now.owns.items in
    let at = goal.at.invariant_of-self g c in
    let below_owns = below g at.Start in
    let was = had g at.In-Some-Whole below_owns in
    let rows = all_rows c.args.self.now.cells in
    let new : Option Own = Some (Whole c.copy.new.self) in
    let old_none : IsNoWindow (own_at owns c.args.i) = subst IsNoWindow (sym was) (no_window c.in-Some-Whole.watched) in
    record {
      tabled = tabled_set owns c.args.i new rows below_owns old_none (no_window c.copy.new.self) c.args.self.now.tabled;
      bounded = λ j l q extent is. c.args.self.now.bounded j l q extent (hidden_set owns c.args.i j new extent below_owns (no_window c.copy.new.self) is).1;
      few = few_written owns c.args.i c.in-Some-Whole.watched c.copy.new.self c.args.self.now.writes.sum c.and-self.result.sum (area_of c.args.r) below_owns was c.copy.ensures.moment c.copy.ensures.few (omega (arith, c.and-self.ensures)) c.args.self.now.few;
    }

pub returns-clause-at : goal.returns-clause-at
returns-clause-at g c p h =
    let owns = c.args.self.now.owns.items in
    let at = goal.at.returns-clause-at g c in
    let below_owns = below g at.Start in
    let was = had g at.In-Some-Whole below_owns in
    let written : IsPlaneWritten (holds c.args.r) (λ z. pixel_at c.args.other.now (carried z c.args.r.min c.args.r.min)) c.in-Some-Whole.watched c.copy.new.self = record { rect = c.copy.ensures.rect; chan = c.copy.ensures.chan; pixels = c.copy.ensures.pixels; moment = c.copy.ensures.moment } in
    whole_at owns c.args.self.now.cells c.args.i (holds c.args.r) (λ z. pixel_at c.args.other.now (carried z c.args.r.min c.args.r.min)) c.in-Some-Whole.watched c.copy.new.self below_owns written p h
    ∙ ap (pixel_at c.args.other.now) (carried-same p c.args.r.min)

pub returns-clause-others : goal.returns-clause-others
returns-clause-others g c place apart =
    let owns = c.args.self.now.owns.items in
    let at = goal.at.returns-clause-others g c in
    let below_owns = below g at.Start in
    let was = had g at.In-Some-Whole below_owns in
    let written : IsPlaneWritten (holds c.args.r) (λ z. pixel_at c.args.other.now (carried z c.args.r.min c.args.r.min)) c.in-Some-Whole.watched c.copy.new.self = record { rect = c.copy.ensures.rect; chan = c.copy.ensures.chan; pixels = c.copy.ensures.pixels; moment = c.copy.ensures.moment } in
    whole_others owns c.args.self.now.cells c.args.i (holds c.args.r) (λ z. pixel_at c.args.other.now (carried z c.args.r.min c.args.r.min)) c.in-Some-Whole.watched c.copy.new.self below_owns was written place apart

pub returns-clause-has : goal.returns-clause-has
returns-clause-has g c =
    let owns = c.args.self.now.owns.items in
    let at = goal.at.returns-clause-has g c in
    let below_owns = below g at.Start in
    let was = had g at.In-Some-Whole below_owns in
    let written : IsPlaneWritten (holds c.args.r) (λ z. pixel_at c.args.other.now (carried z c.args.r.min c.args.r.min)) c.in-Some-Whole.watched c.copy.new.self = record { rect = c.copy.ensures.rect; chan = c.copy.ensures.chan; pixels = c.copy.ensures.pixels; moment = c.copy.ensures.moment } in
    λ j place. whole_has owns c.args.self.now.cells c.args.i (holds c.args.r) (λ z. pixel_at c.args.other.now (carried z c.args.r.min c.args.r.min)) c.in-Some-Whole.watched c.copy.new.self below_owns was written place j

pub returns-clause-forms : goal.returns-clause-forms
returns-clause-forms g c =
    let owns = c.args.self.now.owns.items in
    let at = goal.at.returns-clause-forms g c in
    let below_owns = below g at.Start in
    let was = had g at.In-Some-Whole below_owns in
    let written : IsPlaneWritten (holds c.args.r) (λ z. pixel_at c.args.other.now (carried z c.args.r.min c.args.r.min)) c.in-Some-Whole.watched c.copy.new.self = record { rect = c.copy.ensures.rect; chan = c.copy.ensures.chan; pixels = c.copy.ensures.pixels; moment = c.copy.ensures.moment } in
    λ j n. whole_forms owns c.args.i (holds c.args.r) (λ z. pixel_at c.args.other.now (carried z c.args.r.min c.args.r.min)) c.in-Some-Whole.watched c.copy.new.self below_owns was written n j

pub returns-clause-moment : goal.returns-clause-moment
returns-clause-moment g c =
    let owns = c.args.self.now.owns.items in
    let at = goal.at.returns-clause-moment g c in
    let below_owns = below g at.Start in
    let was = had g at.In-Some-Whole below_owns in
    let written : IsPlaneWritten (holds c.args.r) (λ z. pixel_at c.args.other.now (carried z c.args.r.min c.args.r.min)) c.in-Some-Whole.watched c.copy.new.self = record { rect = c.copy.ensures.rect; chan = c.copy.ensures.chan; pixels = c.copy.ensures.pixels; moment = c.copy.ensures.moment } in
    λ j n. whole_moments owns c.args.i (holds c.args.r) (λ z. pixel_at c.args.other.now (carried z c.args.r.min c.args.r.min)) c.in-Some-Whole.watched c.copy.new.self below_owns was written n j
