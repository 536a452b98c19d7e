-- Windows of which each cell has a tile just where it is hidden: nothing is to be done for them.
use Rattle.std.proofs.Common.{◌≡◌, ◌∙◌, ℕ, ◌+◌, ◌≤◌, Bool, true, false, List, [], ◌∷◌, Option, Some, None, cond, find, get_or, length, ◌<◌, refl, sym, ap, arith}
use Rattle.std.specs.Prelude.{◌==◌, ◌&&◌, ◌||◌, nat_lt, is_none, is_some, not, if◌then◌else◌}
use Rattle.std.specs.Option.{option_map_or}
use Rattle.std.specs.List.{list_any}
use Rattle.std.proofs.lemmas.Bool.{and_parts, false_from_ne_true, false≢true, or_from, or_parts, true≢false}
use Rattle.std.proofs.lemmas.List.Folds.{list_any_at}
use Rattle.std.proofs.lemmas.Bool.Decides.{Decides-eqb, Decides-ltb}
use Rattle.r9_geom.specs.declared.Point.{Point}
use Rattle.std.proofs.lemmas.Int.{ints}
use Rattle.r9_geom.specs.declared.Rect.{Rect}
use Rattle.r9_geom.specs.Geometry.{holds, is_empty, meet}
use Rattle.r9_geom.proofs.GeometryLemmas.{bounds_of, empty_holds, holds-meet, same_tests}
use Rattle.model_forest.specs.declared.Window.{Window}
use Rattle.model_forest.specs.World.{World, image_at, no_rect, parent_of}
use Rattle.model_kept.specs.Cells.{cell_count, hides_on}
use Rattle.model_kept.specs.Keeping.{is_shown, outward, place_among}
use Rattle.model_kept.proofs.Hiding.{hidden_hides, hides_hidden}
use Rattle.r9_store.specs.Tiles.{Tiles, pixel}
use Rattle.r9_cells.specs.Rows.{cell_at, pixel_at, row_at}
use Rattle.r9_cells.specs.Fitting.{hides_cell, meets, standing_cell, wanted, wanted_near, wants}
use Rattle.r9_cells.proofs.Counted.{count_none}
use Rattle.r9_cells.proofs.Steps.{count_most, wants_less}

none_more : (h s : Bool) → (h ≡ true → s ≡ true) → (h && not s) ≡ false
none_more true s e = ap not (e refl)
none_more false s e = refl

none_and : (k : ℕ) → 0 + k ≡ k
none_and k = omega arith

-- each cell that is hidden has a tile, or each that is not has none
abbrev pub IsTaken : List (List (Option ℕ)) → Rect → List Window → ℕ → Rect → Type 0
IsTaken rows below ws i r =
    (k : ℕ) → k < cell_count r → hides_cell below ws i r k ≡ true → is_some (cell_at rows i k) ≡ true

abbrev pub IsGiven : List (List (Option ℕ)) → Rect → List Window → ℕ → Rect → Type 0
IsGiven rows below ws i r =
    (k : ℕ) → k < cell_count r → hides_cell below ws i r k ≡ false → is_some (cell_at rows i k) ≡ false

-- where no cell lacks a tile each has one, and where none has one each has none
pub full_cell : (rows : List (List (Option ℕ))) (i k : ℕ) → k < length (row_at rows i) → list_any is_none (row_at rows i) ≡ false → is_some (cell_at rows i k) ≡ true
full_cell rows i k below none =
    some_of (cell_at rows i k)
    (false_from_ne_true (is_none (get_or (row_at rows i) k None)) (λ e. false≢true (sym none ∙ list_any_at is_none (row_at rows i) k None below e)))
  where
    some_of : (o : Option ℕ) → is_none o ≡ false → is_some o ≡ true
    some_of None e = absurd (true≢false e)
    some_of (Some t) e = refl

pub blank_cell : (rows : List (List (Option ℕ))) (i k : ℕ) → k < length (row_at rows i) → list_any is_some (row_at rows i) ≡ false → is_some (cell_at rows i k) ≡ false
blank_cell rows i k below none =
    false_from_ne_true (is_some (get_or (row_at rows i) k None)) (λ e. false≢true (sym none ∙ list_any_at is_some (row_at rows i) k None below e))

-- of a window that lacks none, none is wanted near any area
pub full_wanted : (rows : List (List (Option ℕ))) (below : Rect) (ws : List Window) (areas : List Rect) (i : ℕ) (r : Rect) → length (row_at rows i) ≡ cell_count r → list_any is_none (row_at rows i) ≡ false → wanted_near rows below ws areas i r ≡ 0
full_wanted rows below ws areas i r long none =
    count_none test 0 (cell_count r)
    (λ k lower. ap test (none_and k) ∙ off (meets areas (standing_cell ws i r k)) (hides_cell below ws i r k) (is_some (cell_at rows i k)) (full_cell rows i k (omega (arith, lower, long)) none))
  where
    test : ℕ → Bool
    test k = meets areas (standing_cell ws i r k) && wants rows below ws i r k

    off : (m h s : Bool) → s ≡ true → (m && (h && not s)) ≡ false
    off true true s e = ap not e
    off true false s e = refl
    off false h s e = refl

-- none is wanted
pub still_wanted : (rows : List (List (Option ℕ))) (below : Rect) (ws : List Window) (i : ℕ) (r : Rect) → IsTaken rows below ws i r → wanted rows below ws i r ≡ 0
still_wanted rows below ws i r still =
    count_none (wants rows below ws i r) 0 (cell_count r)
    (λ k lower. ap (wants rows below ws i r) (none_and k) ∙ none_more (hides_cell below ws i r k) (is_some (cell_at rows i k)) (still k lower))

-- what is so where it is asked for is so with it
absorbed : (b s : Bool) → (b ≡ true → s ≡ true) → s ≡ (b || s)
absorbed true s e = e refl
absorbed false s e = refl

kept_off : (b s : Bool) → (b ≡ true → s ≡ false) → s ≡ (not b && s)
kept_off true s e = e refl
kept_off false s e = refl

-- a hidden cell of the window has a tile, and one that is not has none
pub taken_here : (rows : List (List (Option ℕ))) (below : Rect) (ws : List Window) (i : ℕ) (r : Rect) → IsTaken rows below ws i r → (j l : ℕ) → ((j == i) && (nat_lt l (cell_count r) && hides_cell below ws i r l)) ≡ true → is_some (cell_at rows j l) ≡ true
taken_here rows below ws i r still j l e =
    let outer = and_parts (j == i) (nat_lt l (cell_count r) && hides_cell below ws i r l) e in
    let inner = and_parts (nat_lt l (cell_count r)) (hides_cell below ws i r l) outer.1 in
    ap (λ n. is_some (cell_at rows n l)) ((Decides-eqb j i).0 outer.0) ∙ still l ((Decides-ltb l (cell_count r)).0 inner.0) inner.1

pub given_here : (rows : List (List (Option ℕ))) (below : Rect) (ws : List Window) (i : ℕ) (r : Rect) → IsGiven rows below ws i r → (j l : ℕ) → ((j == i) && (nat_lt l (cell_count r) && not (hides_cell below ws i r l))) ≡ true → is_some (cell_at rows j l) ≡ false
given_here rows below ws i r still j l e =
    let outer = and_parts (j == i) (nat_lt l (cell_count r) && not (hides_cell below ws i r l)) e in
    let inner = and_parts (nat_lt l (cell_count r)) (not (hides_cell below ws i r l)) outer.1 in
    ap (λ n. is_some (cell_at rows n l)) ((Decides-eqb j i).0 outer.0) ∙ still l ((Decides-ltb l (cell_count r)).0 inner.0) (not_so (hides_cell below ws i r l) inner.1)
  where
    not_so : (b : Bool) → not b ≡ true → b ≡ false
    not_so false e = refl
    not_so true e = cc

pub still_taken : (rows : List (List (Option ℕ))) (below : Rect) (ws : List Window) (i : ℕ) (r : Rect) → IsTaken rows below ws i r → (j l : ℕ) → is_some (cell_at rows j l) ≡ (((j == i) && (nat_lt l (cell_count r) && hides_cell below ws i r l)) || is_some (cell_at rows j l))
still_taken rows below ws i r still j l =
    absorbed ((j == i) && (nat_lt l (cell_count r) && hides_cell below ws i r l)) (is_some (cell_at rows j l)) (taken_here rows below ws i r still j l)

pub still_given : (rows : List (List (Option ℕ))) (below : Rect) (ws : List Window) (i : ℕ) (r : Rect) → IsGiven rows below ws i r → (j l : ℕ) → is_some (cell_at rows j l) ≡ (not ((j == i) && (nat_lt l (cell_count r) && not (hides_cell below ws i r l))) && is_some (cell_at rows j l))
still_given rows below ws i r still j l =
    kept_off ((j == i) && (nat_lt l (cell_count r) && not (hides_cell below ws i r l))) (is_some (cell_at rows j l)) (given_here rows below ws i r still j l)

-- the pixel of a cell is 0 where it has no tile
pub pixel_as : (rows : List (List (Option ℕ))) (store : Tiles) (j l : ℕ) (p : Point) → pixel_at rows store j l p ≡ (if is_some (cell_at rows j l) then pixel_at rows store j l p else 0)
pixel_as rows store j l p = at (cell_at rows j l)
  where
    at : (o : Option ℕ) → option_map_or (λ t. pixel store t p) o 0 ≡ (if is_some o then option_map_or (λ t. pixel store t p) o 0 else 0)
    at None = refl
    at (Some t) = refl

-- of windows that got tiles fewer cells want one
pub fewer_wanted : (rows mid : List (List (Option ℕ))) (below now : Rect) (ws : List Window) (i : ℕ) (r : Rect) → now ≡ below → ((k : ℕ) → is_some (cell_at rows i k) ≡ true → is_some (cell_at mid i k) ≡ true) → wanted mid now ws i r ≤ wanted rows below ws i r
fewer_wanted rows mid below now ws i r now_is grows =
    let same = ap (λ (b : Rect). wanted mid b ws i r) now_is in
    let fewer = count_most (wants mid below ws i r) (wants rows below ws i r) 0 (cell_count r) (λ k e. wants_less (hides_cell below ws i r k) _ _ (grows k) e) in
    omega (arith, same, fewer)

pub both_none : (a b : Bool) → b ≡ false → (a && b) ≡ false
both_none true b e = e
both_none false b e = refl

-- ---- what an image hides of a window with one list and with another

-- a window that has a point is in the list
pub placed_listed : (ws : List Window) (i : ℕ) (q : Point) → holds (place_among ws i) q ≡ true → list_any (λ w. w.image == i) ws ≡ true
placed_listed [] i q h =
    let b = bounds_of no_rect q h in absurd (omega (arith, ints, b.left, b.right))
placed_listed (w ∷ ws) i q h = by_test (placed_listed ws i q) (w.image == i) h
  where
    by_test : (holds (place_among ws i) q ≡ true → list_any (λ v. v.image == i) ws ≡ true) → (b : Bool) → holds (option_map_or (λ (v : Window). v.place) (cond b (Some w) (find (λ (v : Window). v.image == i) ws)) no_rect) q ≡ true → (b || list_any (λ v. v.image == i) ws) ≡ true
    by_test rest true h = refl
    by_test rest false h = rest h

-- all points of a part stand in the place of the window
abbrev pub IsPlaced : World → ℕ → ℕ → Rect → Type 0
IsPlaced world p i part = (x : Point) → holds part x ≡ true → holds (place_among (image_at world p).windows i) (outward world p i x) ≡ true

one_way : (old new : World) (p i : ℕ) (part : Rect) → parent_of old i ≡ Some p → parent_of new i ≡ Some p → IsPlaced new p i part → ((x : Point) → holds part x ≡ true → is_shown old p i (outward old p i x) ≡ is_shown new p i (outward new p i x)) → hides_on old p i part ≡ true → hides_on new p i part ≡ true
one_way old new p i part was stands placed same h =
    let found = hides_hidden old p i part was h in
    let x = found.0 in
    let hidden = λ (world : World) (e : parent_of world i ≡ Some p). ap (λ o. option_map_or (λ (m : ℕ). if is_shown world m i (outward world m i x) then false else true) o false) e in
    hidden_hides new p i part stands (placed_listed (image_at new p).windows i (outward new p i x) (placed x found.1)) placed
    (x, found.1, hidden new stands ∙ ap (λ b. if b then false else true) (sym (same x found.1)) ∙ sym (hidden old was) ∙ found.2)

-- where each point of a part is shown by both lists or by none, both hide it or none does
pub hides_same : (old new : World) (p i : ℕ) (part : Rect) → parent_of old i ≡ Some p → parent_of new i ≡ Some p → IsPlaced old p i part → IsPlaced new p i part → ((x : Point) → holds part x ≡ true → is_shown old p i (outward old p i x) ≡ is_shown new p i (outward new p i x)) → hides_on old p i part ≡ hides_on new p i part
hides_same old new p i part was stands placed_old placed_new same =
    same_tests (hides_on old p i part) (hides_on new p i part)
    (one_way old new p i part was stands placed_new same)
    (one_way new old p i part stands was placed_old (λ x h. sym (same x h)))

-- no point of a rectangle that meets none of these areas is in one
off_each : (areas : List Rect) (r : Rect) (q : Point) → list_any (λ a. not (is_empty (meet r a))) areas ≡ false → holds r q ≡ true → list_any (λ a. holds a q) areas ≡ false
off_each [] r q off h = refl
off_each (a ∷ areas) r q off h =
    let parts = or_parts (not (is_empty (meet r a))) (list_any (λ (b : Rect). not (is_empty (meet r b))) areas) off in
    or_from (holds a q) (list_any (λ (b : Rect). holds b q) areas) (outside (is_empty (meet r a)) refl parts.0) (off_each areas r q parts.1 h)
  where
    outside : (b : Bool) → is_empty (meet r a) ≡ b → not b ≡ false → holds a q ≡ false
    outside true none e = sym (ap (λ b. b && holds a q) h) ∙ sym (holds-meet r a q) ∙ empty_holds (meet r a) q none
    outside false none e = cc

pub off_areas : (areas : List Rect) (r : Rect) (q : Point) → meets areas r ≡ false → holds r q ≡ true → list_any (λ a. holds a q) areas ≡ false
off_areas areas r q off h = off_each areas r q (or_parts (length areas == 0) (list_any (λ (a : Rect). not (is_empty (meet r a))) areas) off).1 h
