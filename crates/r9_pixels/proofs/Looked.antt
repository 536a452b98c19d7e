-- A plane that gets another moment, and keeps its pixels.
use Rattle.std.proofs.Common.{◌≡◌, ◌≢◌, ◌∙◌, ℕ, ◌+◌, ◌<◌, ◌≤◌, Bool, false, List, length, set, Option, Some, None, ⊎_elim, refl, sym, ap, arith, eq-eqb}
use Rattle.std.specs.Prelude.{option_and_then, option_map, if◌then◌else◌}
use Rattle.std.specs.Option.{option_map_or}
use Rattle.std.proofs.lemmas.Bool.{cases_eq, ne_eqb}
use Rattle.r9_geom.specs.declared.Point.{Point}
use Rattle.r9_geom.specs.declared.Rect.{Rect}
use Rattle.r9_geom.specs.Geometry.{holds}
use Rattle.r9_plane.specs.declared.plane.Plane.{Plane}
use Rattle.r9_plane.specs.Marks.{mark_count, marked_at}
use Rattle.r9_plane.specs.Pixels.{chan_of, pixel_at, rect_of}
use Rattle.model_kept.specs.Keeping.{Place}
use Rattle.r9_locate.specs.declared.watched.Watched.{Watched}
use Rattle.r9_locate.specs.watched.Moments.{moment_at, with_moment, IsFew, Moment}
use Rattle.r9_locate.specs.watched.Watched.{count_of, moment_of}
use Rattle.r9_locate.specs.locate.Forms.{Form}
use Rattle.r9_cells.specs.declared.table.Cells.{Cells}
use Rattle.r9_pixels.specs.declared.own.Own.{Own}
use Rattle.r9_pixels.specs.declared.own.Own.TheVariants.{Whole, Hidden}
use Rattle.r9_pixels.specs.Owns.{form_in, moment_in, own_at, plane_form, plane_in}
use Rattle.r9_pixels.proofs.Owning.{set_each, set_still}
use Rattle.r9_pixels.proofs.Telling.{kept_of, place_of}

-- which of its cells are marked, how many, and what it is at this moment
abbrev pub marked_of : (column row : ℕ) → Option Own → Bool
marked_of column row slot = option_map_or (λ plane. marked_at plane column row) (option_and_then plane_in slot) false

abbrev pub marks_of : Option Own → ℕ
marks_of slot = option_map_or mark_count (option_and_then plane_in slot) 0

abbrev pub now_of : (writes : ℕ) → Option Own → Option Moment
now_of writes slot = option_map (λ (plane : Plane). moment_at plane writes) (option_and_then plane_in slot)

-- a plane whose moment is this one
pub few_now : (watched : Watched) (writes : ℕ) → moment_of watched ≡ moment_at watched.plane writes → IsFew (moment_of watched) (count_of watched) writes
few_now watched writes now = omega (arith, ap (λ (m : Moment). m.count) now, ap (λ (m : Moment). m.writes) now)

-- it keeps its pixels
pub looked_kept : (owns : List (Option Own)) (cells : Cells) (i : ℕ) (old new : Watched) → i < length owns → own_at owns i ≡ Some (Whole old) → ((p : Point) → pixel_at new.plane p ≡ pixel_at old.plane p) → (place : Place) → kept_of cells place.image place.at (own_at (set owns i (Some (Whole new))) place.image) ≡ kept_of cells place.image place.at (own_at owns place.image)
looked_kept owns cells i old new below was same place =
    set_still owns i (Some (Whole new)) (kept_of cells place.image place.at) below (same place.at ∙ sym (ap (kept_of cells place.image place.at) was)) place.image

pub looked_has : (owns : List (Option Own)) (cells : Cells) (i : ℕ) (old new : Watched) → i < length owns → own_at owns i ≡ Some (Whole old) → rect_of new.plane ≡ rect_of old.plane → (place : Place) → place_of cells place.image place.at (own_at (set owns i (Some (Whole new))) place.image) ≡ place_of cells place.image place.at (own_at owns place.image)
looked_has owns cells i old new below was same place =
    set_still owns i (Some (Whole new)) (place_of cells place.image place.at) below
    (ap (λ (r : Rect). holds r place.at) same ∙ sym (ap (place_of cells place.image place.at) was)) place.image

pub looked_forms : (owns : List (Option Own)) (i : ℕ) (old new : Watched) → i < length owns → own_at owns i ≡ Some (Whole old) → rect_of new.plane ≡ rect_of old.plane → chan_of new.plane ≡ chan_of old.plane → (n : ℕ) → option_map form_in (own_at (set owns i (Some (Whole new))) n) ≡ option_map form_in (own_at owns n)
looked_forms owns i old new below was rect chan =
    let form : plane_form new.plane ≡ plane_form old.plane = λ j. record { r = rect j; chan = chan j; is_window = false } in
    set_still owns i (Some (Whole new)) (option_map form_in) below (ap (λ (f : Form). Some f) form ∙ sym (ap (option_map form_in) was))

-- and its moment is another
pub looked_moments : (owns : List (Option Own)) (i : ℕ) (new : Watched) (now : Option Moment) → i < length owns → Some (moment_of new) ≡ now → (λ n. option_and_then moment_in (own_at (set owns i (Some (Whole new))) n)) ≡ with_moment i now (λ n. option_and_then moment_in (own_at owns n))
looked_moments owns i new now below is =
    (λ j n. set_each owns i (Some (Whole new)) (option_and_then moment_in) below n j)
    ∙ ap (λ (m : Option Moment). with_moment i m (λ n. option_and_then moment_in (own_at owns n))) is

-- where there is no plane, there is no moment
pub no_plane : (slot : Option Own) → option_and_then plane_in slot ≡ None → option_and_then moment_in slot ≡ None
no_plane None none = refl
no_plane (Some (Whole watched)) none = absurd cc
no_plane (Some (Hidden extent)) none = refl

pub no_moments : (owns : List (Option Own)) (i : ℕ) (writes : ℕ) → option_and_then plane_in (own_at owns i) ≡ None → (n : ℕ) → option_and_then moment_in (own_at owns n) ≡ with_moment i (now_of writes (own_at owns i)) (λ m. option_and_then moment_in (own_at owns m)) n
no_moments owns i writes none n =
    ⊎_elim
    (λ (same : n ≡ i).
    ap (λ m. option_and_then moment_in (own_at owns m)) same
    ∙ no_plane (own_at owns i) none
    ∙ sym (ap (λ (o : Option Plane). option_map (λ (plane : Plane). moment_at plane writes) o) none)
    ∙ sym (ap (λ b. if b then now_of writes (own_at owns i) else option_and_then moment_in (own_at owns n)) (eq-eqb n i same)))
    (λ (other : n ≢ i). sym (ap (λ b. if b then now_of writes (own_at owns i) else option_and_then moment_in (own_at owns n)) (ne_eqb n i other)))
    (cases_eq n i)
