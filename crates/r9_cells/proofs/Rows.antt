-- Pixels side by side in the tile of a cell after some were put there.
use Rattle.std.proofs.Common.{◌≡◌, ◌≢◌, ◌∙◌, ℕ, ◌<◌, Bool, true, false, List, Option, Some, None, refl, sym, ap, eq-eqb}
use Rattle.std.specs.Prelude.{◌==◌, ◌&&◌, if◌then◌else◌}
use Rattle.std.specs.Option.{option_map_or}
use Rattle.std.proofs.lemmas.Bool.{and_from, and_parts, false_from_ne_true}
use Rattle.std.proofs.lemmas.Bool.Decides.{Decides-eqb}
use Rattle.r9_geom.specs.declared.Point.{Point}
use Rattle.r9_geom.specs.Geometry.{holds, strip}
use Rattle.r9_plane.specs.Pixels.{along}
use Rattle.r9_plane.proofs.PlaneLemmas.{along_holds}
use Rattle.r9_locate.proofs.locate.Locating.{strip_at}
use Rattle.r9_store.specs.Tiles.{Tiles, pixel}
use Rattle.r9_cells.specs.Rows.{cell_at, pixel_at, CellPlace, IsKept}

-- pixels side by side in one tile have changed
abbrev pub IsPut : Tiles → Tiles → ℕ → Point → ℕ → (Point → ℕ) → Type 0
IsPut store new t at n value = (u : ℕ) (q : Point) → pixel new u q ≡ (if (u == t) && holds (strip at n) q then value q else pixel store u q)

pub row_at_place : (rows : List (List (Option ℕ))) (store new : Tiles) (i k t : ℕ) (at : Point) (n : ℕ) (value : Point → ℕ) → cell_at rows i k ≡ Some t → IsPut store new t at n value → (m : ℕ) → m < n → pixel_at rows new i k (along at m) ≡ value (along at m)
row_at_place rows store new i k t at n value is put m below =
    ap (λ o. option_map_or (λ u. pixel new u (along at m)) o 0) is
    ∙ put t (along at m)
    ∙ ap (λ b. if b then value (along at m) else pixel store t (along at m)) (and_from (t == t) (holds (strip at n) (along at m)) (eq-eqb t t refl) (along_holds at n m below))

pub row_others : (rows : List (List (Option ℕ))) (store new : Tiles) (i k t : ℕ) (at : Point) (n : ℕ) (value : Point → ℕ) → cell_at rows i k ≡ Some t → IsPut store new t at n value → IsKept rows store → (place : CellPlace) → ((m : ℕ) → m < n → place ≢ record { image = i; cell = k; at = along at m }) → pixel_at rows new place.image place.cell place.at ≡ pixel_at rows store place.image place.cell place.at
row_others rows store new i k t at n value is put kept place apart = by_slot (cell_at rows place.image place.cell) refl
  where
    -- another tile, or another point of the same
    other : (u : ℕ) → cell_at rows place.image place.cell ≡ Some u → ((u == t) && holds (strip at n) place.at) ≡ false
    other u held = false_from_ne_true _ (λ both.
        let parts = and_parts (u == t) (holds (strip at n) place.at) both in
        let same = kept.apart i k place.image place.cell t is (held ∙ ap (λ n. Some n) ((Decides-eqb u t).0 parts.0)) in
        let there = and_parts (place.image == i) (place.cell == k) same in
        let found = strip_at at place.at n parts.1 in
        apart found.0 found.1
        (λ j. record { image = (Decides-eqb place.image i).0 there.0 j; cell = (Decides-eqb place.cell k).0 there.1 j; at = found.2 j }))

    by_slot : (o : Option ℕ) → cell_at rows place.image place.cell ≡ o → pixel_at rows new place.image place.cell place.at ≡ pixel_at rows store place.image place.cell place.at
    by_slot None e =
        ap (λ o. option_map_or (λ u. pixel new u place.at) o 0) e ∙ sym (ap (λ o. option_map_or (λ u. pixel store u place.at) o 0) e)
    by_slot (Some u) e =
        ap (λ o. option_map_or (λ v. pixel new v place.at) o 0) e
        ∙ put u place.at
        ∙ ap (λ b. if b then value place.at else pixel store u place.at) (other u e)
        ∙ sym (ap (λ o. option_map_or (λ v. pixel store v place.at) o 0) e)

-- ---- pixels at some points of one tile have changed

abbrev pub IsPutAt : Tiles → Tiles → ℕ → (Point → Bool) → (Point → ℕ) → Type 0
IsPutAt store new t here value = (u : ℕ) (q : Point) → pixel new u q ≡ (if (u == t) && here q then value q else pixel store u q)

pub put_at_place : (rows : List (List (Option ℕ))) (store new : Tiles) (i k t : ℕ) (here : Point → Bool) (value : Point → ℕ) → cell_at rows i k ≡ Some t → IsPutAt store new t here value → (p : Point) → here p ≡ true → pixel_at rows new i k p ≡ value p
put_at_place rows store new i k t here value is put p h =
    ap (λ o. option_map_or (λ u. pixel new u p) o 0) is
    ∙ put t p
    ∙ ap (λ b. if b then value p else pixel store t p) (and_from (t == t) (here p) (eq-eqb t t refl) h)

pub put_others : (rows : List (List (Option ℕ))) (store new : Tiles) (i k t : ℕ) (here : Point → Bool) (value : Point → ℕ) → cell_at rows i k ≡ Some t → IsPutAt store new t here value → IsKept rows store → (place : CellPlace) → ((p : Point) → here p ≡ true → place ≢ record { image = i; cell = k; at = p }) → pixel_at rows new place.image place.cell place.at ≡ pixel_at rows store place.image place.cell place.at
put_others rows store new i k t here value is put kept place apart = by_slot (cell_at rows place.image place.cell) refl
  where
    -- another tile, or another point of the same
    other : (u : ℕ) → cell_at rows place.image place.cell ≡ Some u → ((u == t) && here place.at) ≡ false
    other u held = false_from_ne_true _ (λ both.
        let parts = and_parts (u == t) (here place.at) both in
        let same = kept.apart i k place.image place.cell t is (held ∙ ap (λ n. Some n) ((Decides-eqb u t).0 parts.0)) in
        let there = and_parts (place.image == i) (place.cell == k) same in
        apart place.at parts.1
        (λ j. record { image = (Decides-eqb place.image i).0 there.0 j; cell = (Decides-eqb place.cell k).0 there.1 j; at = place.at }))

    by_slot : (o : Option ℕ) → cell_at rows place.image place.cell ≡ o → pixel_at rows new place.image place.cell place.at ≡ pixel_at rows store place.image place.cell place.at
    by_slot None e =
        ap (λ o. option_map_or (λ u. pixel new u place.at) o 0) e ∙ sym (ap (λ o. option_map_or (λ u. pixel store u place.at) o 0) e)
    by_slot (Some u) e =
        ap (λ o. option_map_or (λ v. pixel new v place.at) o 0) e
        ∙ put u place.at
        ∙ ap (λ b. if b then value place.at else pixel store u place.at) (other u e)
        ∙ sym (ap (λ o. option_map_or (λ v. pixel store v place.at) o 0) e)
