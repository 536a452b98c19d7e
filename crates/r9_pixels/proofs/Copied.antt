-- Pixels that are copied from where one image keeps them to where another one does, part by part.
use Rattle.std.proofs.Common.{◌≡◌, ◌≢◌, ◌∙◌, ℕ, ◌+◌, ◌-◌, ◌<◌, ◌≤◌, ◌^◌, Bool, false, true, List, Option, Some, None, lit≤, ⊎_elim, refl, sym, ap, arith}
use Rattle.std.specs.Prelude.{option_map}
use Rattle.std.specs.Option.{option_map_or}
use Rattle.std.proofs.lemmas.Bool.{cases_lt, false≢true}
use Rattle.r9_geom.specs.declared.Point.{Point}
use Rattle.r9_geom.specs.declared.Rect.{Rect}
use Rattle.r9_geom.specs.Geometry.{holds, IsNear, IsNearBy, IsRectNear}
use Rattle.r9_geom.proofs.GeometryLemmas.{near_point, near_wider}
use Rattle.r9_plane.specs.Pixels.{along, rect_of}
use Rattle.model_kept.specs.Keeping.{own, Place}
use Rattle.r9_locate.specs.locate.Forms.{bits_in, Form}
use Rattle.r9_locate.proofs.locate.Locating.{along-along, along-apart}
use Rattle.r9_cells.specs.Cells.{all_rows}
use Rattle.r9_cells.specs.declared.table.Cells.{Cells}
use Rattle.r9_cells.proofs.Places.{row_near, tile_parts}
use Rattle.r9_pixels.specs.Carried.{CanCarry, IsCarried}
use Rattle.r9_pixels.specs.Kept.{has_place, kept_at}
use Rattle.r9_pixels.specs.Owns.{form_in, has_in, own_at}
use Rattle.r9_pixels.specs.declared.keeping.KeptPixels.{KeptPixels}
use Rattle.r9_pixels.specs.declared.own.Extent.{Extent}
use Rattle.r9_pixels.specs.declared.own.Own.{Own}
use Rattle.r9_pixels.specs.declared.own.Own.TheVariants.{Whole, Hidden}

-- what has a place and is no window has a plane
pub whole_place : (owns : List (Option Own)) (cells : Cells) (i : ℕ) (x : Point) → ((extent : Extent) → own_at owns i ≢ Some (Hidden extent)) → option_map_or (has_in cells i x) (own_at owns i) false ≡ true → option_map (λ (form : Form). form.is_window) (option_map form_in (own_at owns i)) ≡ Some false
whole_place owns cells i x none has = at (own_at owns i) refl has
  where
    at : (o : Option Own) → own_at owns i ≡ o → option_map_or (has_in cells i x) o false ≡ true → option_map (λ (form : Form). form.is_window) (option_map form_in o) ≡ Some false
    at None is has = absurd (false≢true has)
    at (Some (Whole watched)) is has = refl
    at (Some (Hidden extent)) is has = absurd (none extent is)

-- places side by side are near, and do not go far
pub places_near : (kept : KeptPixels) (i : ℕ) (at : Point) (done : ℕ) → has_place kept (own i (along at 0)) ≡ true → has_place kept (own i (along at done)) ≡ true → IsNearBy (2 ^ 42) at × (done ≤ 2 ^ 42)
places_near kept i at done first here = of (own_at kept.owns.items i) refl first here
  where
    within : (r : Rect) → IsRectNear r → holds r (along at 0) ≡ true → holds r (along at done) ≡ true → IsNearBy (2 ^ 42) at × (done ≤ 2 ^ 42)
    within r near start end =
        let found = row_near r at done near start end in
        (near_wider (2 ^ 40) (2 ^ 42) at (lit≤ tt) found.0, omega (arith, found.1))

    of : (o : Option Own) → own_at kept.owns.items i ≡ o → option_map_or (has_in kept.cells i (along at 0)) o false ≡ true → option_map_or (has_in kept.cells i (along at done)) o false ≡ true → IsNearBy (2 ^ 42) at × (done ≤ 2 ^ 42)
    of None is start end = absurd (false≢true start)
    of (Some (Whole watched)) is start end = within (rect_of watched.plane) watched.plane.near start end
    of (Some (Hidden extent)) is start end =
        within extent.r (kept.tabled.windows i extent is).near
        (tile_parts (all_rows kept.cells) i extent.r (along at 0) start).0
        (tile_parts (all_rows kept.cells) i extent.r (along at done) end).0

pub place_near : (kept : KeptPixels) (i : ℕ) (p : Point) → has_place kept (own i p) ≡ true → IsNear p
place_near kept i p has = of (own_at kept.owns.items i) refl has
  where
    of : (o : Option Own) → own_at kept.owns.items i ≡ o → option_map_or (has_in kept.cells i p) o false ≡ true → IsNear p
    of None is has = absurd (false≢true has)
    of (Some (Whole watched)) is has = near_point (2 ^ 40) (rect_of watched.plane) p watched.plane.near has
    of (Some (Hidden extent)) is has =
        near_point (2 ^ 40) extent.r p (kept.tabled.windows i extent is).near (tile_parts (all_rows kept.cells) i extent.r p has).0

-- nothing is copied yet
pub carried_none : (kept : KeptPixels) (from : ℕ) (at : Point) (to : ℕ) (p : Point) → IsCarried kept kept from at to p 0
carried_none kept from at to p = record {
  pixels = λ k below. absurd (omega (arith, below));
  others = λ place apart. refl;
  has = refl;
  forms = refl;
  moment = refl;
  spare = refl;
}

-- those that are next can be copied
pub can_more : (old mid : KeptPixels) (from : ℕ) (at : Point) (to : ℕ) (p : Point) (n done len : ℕ) (here there : Point) → here ≡ along at done → there ≡ along p done → done + len ≤ n → CanCarry old from at to p n → IsCarried old mid from at to p done → CanCarry mid from here to there len
can_more old mid from at to p n done len here there here_is there_is fits can is = record {
  apart = can.apart;
  had = λ k below.
      ap (λ (has : Place → Bool). has (own from (along here k))) is.has
      ∙ ap (λ q. has_place old (own from q)) (ap (λ q. along q k) here_is ∙ along-along at done k)
      ∙ can.had (done + k) (omega (arith, below, fits));
  has = λ k below.
      ap (λ (has : Place → Bool). has (own to (along there k))) is.has
      ∙ ap (λ q. has_place old (own to q)) (ap (λ q. along q k) there_is ∙ along-along p done k)
      ∙ can.has (done + k) (omega (arith, below, fits));
  bits = ap (λ (forms : ℕ → Option Form). bits_in forms from) is.forms ∙ can.bits ∙ sym (ap (λ (forms : ℕ → Option Form). bits_in forms to) is.forms);
}

-- and then they are copied, too
pub carried_more : (old mid new : KeptPixels) (from : ℕ) (at : Point) (to : ℕ) (p : Point) (done len : ℕ) (here there : Point) → here ≡ along at done → there ≡ along p done → from ≢ to → IsCarried old mid from at to p done → IsCarried mid new from here to there len → IsCarried old new from at to p (done + len)
carried_more old mid new from at to p done len here there here_is there_is apart was is = record {
  pixels = λ k below.
      ⊎_elim
      (λ (early : k < done).
      is.others (own to (along p k))
      (λ j lower same. absurd (omega (arith, early, along-apart p k (done + j) (ap (λ (place : Place). place.at) (same ∙ next j)))))
      ∙ was.pixels k early)
      (λ (late : done ≤ k).
      let j = k - done in
      let k_is : k ≡ done + j = omega arith in
      ap (λ n. kept_at new (own to (along p n))) k_is
      ∙ ap (kept_at new) (sym (next j))
      ∙ is.pixels j (omega (arith, below, late))
      ∙ ap (λ q. kept_at mid (own from q)) (ap (λ q. along q j) here_is ∙ along-along at done j)
      ∙ was.others (own from (along at (done + j))) (λ l lower same. apart (ap (λ (place : Place). place.image) same))
      ∙ ap (λ n. kept_at old (own from (along at n))) (sym k_is))
      (cases_lt k done);
  others = λ place away.
      is.others place (λ j lower same. away (done + j) (omega (arith, lower)) (same ∙ next j))
      ∙ was.others place (λ k lower. away k (omega (arith, lower)));
  has = is.has ∙ was.has;
  forms = is.forms ∙ was.forms;
  moment = is.moment ∙ was.moment;
  spare = is.spare ∙ was.spare;
}
  where
    next : (j : ℕ) → own to (along there j) ≡ own to (along p (done + j))
    next j = ap (λ q. own to (along q j)) there_is ∙ ap (own to) (along-along p done j)
