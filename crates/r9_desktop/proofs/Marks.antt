-- What became of the display's marks since a turn began.
use Rattle.std.proofs.Common.{◌≡◌, ◌∙◌, ◌<◌, ◌≤◌, ◌+◌, ◌-◌, ◌^◌, ℕ, Bool, Option, Some, None, true, not, ap, sym, subst, refl, arith}
use Rattle.std.specs.Prelude.{is_some, min, IsSome}
use Rattle.std.proofs.lemmas.Bool.{false≢true}
use Rattle.r9_geom.specs.Geometry.{height, width}
use Rattle.model_pixel.specs.Channels.{depth}
use Rattle.r9_marks.specs.marks.Cells.{cells_over, count_cells}
use Rattle.model_forest.specs.World.{parent_of}
use Rattle.model_draw.specs.draw.World.{at_number, World}
use Rattle.r9_locate.specs.watched.Moments.{IsFew, IsSince, Moment}
use Rattle.r9_forest.specs.Marks.{shown_in, IsMoment}
use Rattle.r9_draw.specs.declared.draw.draw.Draw.{Draw}
use Rattle.r9_draw.specs.draw.World.{marked_in, marks_of, moment_of, world_of, writes_of}
use Rattle.r9_desktop.specs.Marks.{display_in, AreCounted, IsBegun, IsMarked, IsSound}

-- none is written yet
pub counted_none : (start pixels : ℕ) → min start (start + (2 ^ 64 - 1)) ≤ start + pixels
counted_none start pixels = omega arith

none_since : {X : Type 0} (o : Option X) → not (is_some o) ≡ true → o ≡ None
none_since None h = refl
none_since (Some x) h = absurd (false≢true h)

-- a device whose moment is this one
pub begun_here : (device : Draw) (w : World) (marked : (column row : ℕ) → Bool) (count writes : ℕ) → world_of device ≡ w → marked_in device ≡ marked → marks_of device ≡ count → writes_of device ≡ writes
    → ((m : Moment) → moment_of device ≡ Some m → IsMoment m (at_number w 0).r (shown_in w.images 0) marked count writes)
    → (parent_of w.images 0 ≡ None → IsSome (moment_of device)) → IsBegun device device
begun_here device w marked count writes world marks number sum here nowhere = record {
  same = refl;
  moment = λ m is.
      let at = here m is in
      record {
        pixels = λ column row c r. subst (λ (v : World). m.pixels column row ≡ shown_in v.images 0 column row) (sym world) (at.pixels column row (subst (λ (v : World). column < width (at_number v 0).r) world c) (subst (λ (v : World). row < height (at_number v 0).r) world r));
        marked = at.marked ∙ sym marks;
        count = at.count ∙ sym number;
        writes = at.writes ∙ sym sum;
      };
  some = λ h. nowhere (none_since (parent_of w.images 0) (ap (λ (v : World). not (is_some (parent_of v.images 0))) (sym world) ∙ h));
}

-- what the marks tell at the end of a turn
few_marked : (before after start end pixels : ℕ) → after + start ≤ before + end → after < 2 ^ 64 → min end (start + (2 ^ 64 - 1)) ≤ start + pixels → after ≤ before + pixels
few_marked before after start end pixels few most counted = omega (arith, few, most, counted)

marked_after : (then now : Draw) (pixels : ℕ) (o : Option Moment) → moment_of then ≡ o → is_some o ≡ true → IsBegun then now → AreCounted then now pixels
    → ((m : Moment) → moment_of now ≡ Some m → IsSince m (at_number (world_of now) 0).r (shown_in (world_of now).images 0) (marked_in now))
    → ((m : Moment) → moment_of now ≡ Some m → IsFew m (marks_of now) (writes_of now)) → marks_of now < 2 ^ 64 → IsMarked (display_in then) (display_in now) pixels
marked_after then now pixels None is some begun counted since few most = absurd (false≢true some)
marked_after then now pixels (Some m) is some begun counted since few most =
    let at = begun.moment m is in
    let after = since m (begun.same ∙ is) in
    let less = few m (begun.same ∙ is) in
    record {
      changed = λ column row c r d s none. after.unmarked column row d s none ∙ at.pixels column row c r;
      kept = λ column row c r h. after.kept column row c r (ap (λ (f : (column row : ℕ) → Bool). f column row) at.marked ∙ h);
      few = few_marked (marks_of then) (marks_of now) (writes_of then) (writes_of now) pixels (omega (arith, less, at.count, at.writes)) most counted;
    }

pub turn_marks : (then now : Draw) (pixels : ℕ) → IsBegun then now → AreCounted then now pixels
    → ((m : Moment) → moment_of now ≡ Some m → IsSince m (at_number (world_of now) 0).r (shown_in (world_of now).images 0) (marked_in now))
    → ((m : Moment) → moment_of now ≡ Some m → IsFew m (marks_of now) (writes_of now)) → marks_of now < 2 ^ 64
    → (display_in then).nowhere ≡ true → IsMarked (display_in then) (display_in now) pixels
turn_marks then now pixels begun counted since few most nowhere = marked_after then now pixels (moment_of then) refl (begun.some nowhere) begun counted since few most

-- what a moment tells of the marks and the pixels
abbrev CountsAll : Draw → Type 0
CountsAll now = (m : Moment) → moment_of now ≡ Some m → marks_of now ≡ count_cells (cells_over (width (at_number (world_of now) 0).r)) (cells_over (height (at_number (world_of now) 0).r)) (marked_in now)

abbrev FitsAll : Draw → Type 0
FitsAll now = (m : Moment) → moment_of now ≡ Some m → (column row : ℕ) → column < width (at_number (world_of now) 0).r → row < height (at_number (world_of now) 0).r → shown_in (world_of now).images 0 column row < 2 ^ depth (at_number (world_of now) 0).chan

sound_then : (now : Draw) (o : Option Moment) → moment_of now ≡ o → is_some o ≡ true → CountsAll now → FitsAll now → IsSound (display_in now)
sound_then now None is some counted fits = absurd (false≢true some)
sound_then now (Some m) is some counted fits = record { counted = counted m is; fits = fits m is }

pub sound_now : (now : Draw) → (parent_of (world_of now).images 0 ≡ None → IsSome (moment_of now)) → CountsAll now → FitsAll now → (display_in now).nowhere ≡ true → IsSound (display_in now)
sound_now now some counted fits nowhere = sound_then now (moment_of now) refl (some (none_since (parent_of (world_of now).images 0) nowhere)) counted fits
