-- The plane of an image that stands nowhere is written: nothing else changes.
use Rattle.std.proofs.Common.{◌≡◌, ◌≢◌, ◌∙◌, ℕ, ◌<◌, Bool, true, false, List, length, set, Option, Some, ⊎_elim, sym, ap}
use Rattle.std.specs.Prelude.{option_and_then, option_map, if◌then◌else◌}
use Rattle.std.specs.Option.{option_map_or}
use Rattle.std.proofs.lemmas.Bool.{cases_eq, false_from_ne_true}
use Rattle.r9_geom.specs.declared.Point.{Point}
use Rattle.r9_geom.specs.Geometry.{holds}
use Rattle.r9_plane.specs.Pixels.{chan_of, pixel_at, rect_of}
use Rattle.model_kept.specs.Keeping.{own, Place}
use Rattle.r9_locate.specs.locate.Forms.{Form}
use Rattle.r9_locate.specs.declared.watched.Watched.{Watched}
use Rattle.r9_locate.specs.watched.Moments.{Moment}
use Rattle.r9_locate.specs.watched.Watched.{moment_of}
use Rattle.r9_cells.specs.declared.table.Cells.{Cells}
use Rattle.r9_pixels.specs.declared.own.Own.{Own}
use Rattle.r9_pixels.specs.declared.own.Own.TheVariants.{Whole}
use Rattle.r9_pixels.specs.Owns.{form_in, has_in, kept_in, moment_in, own_at, plane_form}
use Rattle.r9_pixels.proofs.Owning.{own_other, own_same, set_still}

-- pixels are written at the points of an area
pub record IsPlaneWritten (area : Point → Bool) (f : Point → ℕ) (old new : Watched) : Type 0 where
  pub rect : rect_of new.plane ≡ rect_of old.plane
  pub chan : chan_of new.plane ≡ chan_of old.plane
  pub pixels : (q : Point) → pixel_at new.plane q ≡ (if area q then f q else pixel_at old.plane q)
  pub moment : moment_of new ≡ moment_of old

abbrev with_plane : List (Option Own) → ℕ → Watched → List (Option Own)
with_plane owns i watched = set owns i (Some (Whole watched))

pub whole_at : (owns : List (Option Own)) (cells : Cells) (i : ℕ) (area : Point → Bool) (f : Point → ℕ) (old new : Watched) → i < length owns → IsPlaneWritten area f old new → (p : Point) → area p ≡ true → option_map_or (kept_in cells i p) (own_at (with_plane owns i new) i) 0 ≡ f p
whole_at owns cells i area f old new below is p h =
    ap (λ o. option_map_or (kept_in cells i p) o 0) (own_same owns i (Some (Whole new)) below)
    ∙ is.pixels p
    ∙ ap (λ b. if b then f p else pixel_at old.plane p) h

pub whole_others : (owns : List (Option Own)) (cells : Cells) (i : ℕ) (area : Point → Bool) (f : Point → ℕ) (old new : Watched) → i < length owns → own_at owns i ≡ Some (Whole old) → IsPlaneWritten area f old new → (place : Place) → ((p : Point) → area p ≡ true → place ≢ own i p) → option_map_or (kept_in cells place.image place.at) (own_at (with_plane owns i new) place.image) 0 ≡ option_map_or (kept_in cells place.image place.at) (own_at owns place.image) 0
whole_others owns cells i area f old new below was is place apart =
    ⊎_elim
    (λ (same : place.image ≡ i).
    let outside = false_from_ne_true (area place.at) (λ h. apart place.at h (λ j. record { image = same j; at = place.at })) in
    ap (λ o. option_map_or (kept_in cells place.image place.at) o 0) (ap (own_at (with_plane owns i new)) same ∙ own_same owns i (Some (Whole new)) below)
    ∙ is.pixels place.at
    ∙ ap (λ b. if b then f place.at else pixel_at old.plane place.at) outside
    ∙ sym (ap (λ o. option_map_or (kept_in cells place.image place.at) o 0) (ap (own_at owns) same ∙ was)))
    (λ (other : place.image ≢ i). ap (λ o. option_map_or (kept_in cells place.image place.at) o 0) (own_other owns i place.image (Some (Whole new)) other))
    (cases_eq place.image i)

pub whole_has : (owns : List (Option Own)) (cells : Cells) (i : ℕ) (area : Point → Bool) (f : Point → ℕ) (old new : Watched) → i < length owns → own_at owns i ≡ Some (Whole old) → IsPlaneWritten area f old new → (place : Place) → option_map_or (has_in cells place.image place.at) (own_at (with_plane owns i new) place.image) false ≡ option_map_or (has_in cells place.image place.at) (own_at owns place.image) false
whole_has owns cells i area f old new below was is place =
    ⊎_elim
    (λ (same : place.image ≡ i).
    ap (λ o. option_map_or (has_in cells place.image place.at) o false) (ap (own_at (with_plane owns i new)) same ∙ own_same owns i (Some (Whole new)) below)
    ∙ ap (λ r. holds r place.at) is.rect
    ∙ sym (ap (λ o. option_map_or (has_in cells place.image place.at) o false) (ap (own_at owns) same ∙ was)))
    (λ (other : place.image ≢ i). ap (λ o. option_map_or (has_in cells place.image place.at) o false) (own_other owns i place.image (Some (Whole new)) other))
    (cases_eq place.image i)

pub whole_forms : (owns : List (Option Own)) (i : ℕ) (area : Point → Bool) (f : Point → ℕ) (old new : Watched) → i < length owns → own_at owns i ≡ Some (Whole old) → IsPlaneWritten area f old new → (n : ℕ) → option_map form_in (own_at (with_plane owns i new) n) ≡ option_map form_in (own_at owns n)
whole_forms owns i area f old new below was is n =
    let form : plane_form new.plane ≡ plane_form old.plane = λ j. record { r = is.rect j; chan = is.chan j; is_window = false } in
    ⊎_elim
    (λ (same : n ≡ i).
    ap (option_map form_in) (ap (own_at (with_plane owns i new)) same ∙ own_same owns i (Some (Whole new)) below)
    ∙ ap (λ (form : Form). Some form) form
    ∙ sym (ap (option_map form_in) (ap (own_at owns) same ∙ was)))
    (λ (other : n ≢ i). ap (option_map form_in) (own_other owns i n (Some (Whole new)) other))
    (cases_eq n i)

pub whole_moments : (owns : List (Option Own)) (i : ℕ) (area : Point → Bool) (f : Point → ℕ) (old new : Watched) → i < length owns → own_at owns i ≡ Some (Whole old) → IsPlaneWritten area f old new → (n : ℕ) → option_and_then moment_in (own_at (with_plane owns i new) n) ≡ option_and_then moment_in (own_at owns n)
whole_moments owns i area f old new below was is =
    set_still owns i (Some (Whole new)) (option_and_then moment_in) below
    (ap (λ (moment : Moment). Some moment) is.moment ∙ sym (ap (option_and_then moment_in) was))
