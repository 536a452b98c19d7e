-- What images keep their pixels in, as it is read and written.
use Rattle.std.proofs.Common.{◌≡◌, ◌≢◌, ◌∙◌, ℕ, zero, suc, ◌<◌, arith, eq-eqb, Bool, true, false, List, length, get_or, set, Option, Some, None, ⊎_elim, refl, sym, ap}
use Rattle.std.specs.Prelude.{◌==◌, ◌≤◌, ◌&&◌, option_and_then, option_map, if◌then◌else◌}
use Rattle.std.specs.Option.{option_map_or}
use Rattle.std.proofs.lemmas.Bool.{and_from, and_parts, cases_Bool, cases_eq, cases_lt, false≢true, ne_eqb}
use Rattle.std.proofs.lemmas.Bool.Decides.{Decides-eqb}
use Rattle.std.proofs.lemmas.List.{get_or-set_other, get_or-set_same, get_or_past, get_or_read}
use Rattle.std.proofs.Math.ListN.{length-set}
use Rattle.r9_geom.specs.declared.Point.{Point}
use Rattle.r9_geom.specs.declared.Rect.{Rect}
use Rattle.r9_geom.specs.Geometry.{is_point}
use Rattle.r9_geom.proofs.GeometryLemmas.{is_point_true, true_is_point}
use Rattle.r9_plane.specs.declared.plane.Plane.{Plane}
use Rattle.r9_locate.specs.declared.watched.Watched.{Watched}
use Rattle.model_pixel.specs.Channels.{depth}
use Rattle.r9_locate.specs.locate.Forms.{Form}
use Rattle.r9_cells.specs.Fitting.{IsCelled}
use Rattle.r9_cells.specs.Rows.{cell_at, row_at, CellPlace}
use Rattle.r9_cells.specs.declared.table.Cells.{Cells}
use Rattle.r9_pixels.specs.declared.own.Extent.{Extent}
use Rattle.r9_pixels.specs.declared.own.Own.{Own}
use Rattle.r9_pixels.specs.declared.own.Own.TheVariants.{Whole, Hidden}
use Rattle.r9_pixels.specs.Owns.{form_in, has_in, own_at, plane_in, IsTabled}

-- an image that has a place is one of the table
pub own_below : (owns : List (Option Own)) (cells : Cells) (i : ℕ) (p : Point) → option_map_or (has_in cells i p) (own_at owns i) false ≡ true → i < length owns
own_below owns cells i p has =
    ⊎_elim
    (λ (below : i < length owns). below)
    (λ past. absurd (false≢true (sym (ap (λ o. option_map_or (has_in cells i p) o false) (get_or_past owns i None past)) ∙ has)))
    (cases_lt i (length owns))

-- what is read of a slot
pub own_is : (owns : List (Option Own)) (i : ℕ) (slot : Option Own) → i < length owns → slot ≡ get_or owns i slot → own_at owns i ≡ slot
own_is owns i slot below is = sym (get_or_read owns i slot below is None)

-- and what one that was set keeps
pub own_same : (owns : List (Option Own)) (i : ℕ) (slot : Option Own) → i < length owns → own_at (set owns i slot) i ≡ slot
own_same owns i slot below = get_or-set_same owns i slot None below

pub own_other : (owns : List (Option Own)) (i j : ℕ) (slot : Option Own) → j ≢ i → own_at (set owns i slot) j ≡ own_at owns j
own_other owns i j slot other = get_or-set_other owns i j slot None other

-- what is read of another slot than one that was set
pub own_beside : (owns : List (Option Own)) (i j : ℕ) (other slot : Option Own) → i ≢ j → j < length owns → slot ≡ get_or (set owns i other) j slot → own_at owns j ≡ slot
own_beside owns i j other slot apart below is =
    sym (own_other owns i j other (λ same. apart (sym same))) ∙ own_is (set owns i other) j slot (omega (arith, below, length-set owns i other)) is

-- a slot that keeps no window
abbrev pub IsNoWindow : Option Own → Type 0
IsNoWindow slot = (extent : Extent) → slot ≢ Some (Hidden extent)

pub no_window : (watched : Watched) → IsNoWindow (Some (Whole watched))
no_window watched extent is = cc

pub none_window : (slot : Option Own) → slot ≡ None → IsNoWindow slot
none_window slot none extent is = cc

-- a slot without a form keeps nothing
pub form_none : (slot : Option Own) → option_map form_in slot ≡ None → slot ≡ None
form_none None e = refl
form_none (Some kept) e = cc

-- a window is another image than one whose slot was set to none, and stays
pub hidden_set : (owns : List (Option Own)) (i j : ℕ) (slot : Option Own) (extent : Extent) → i < length owns → IsNoWindow slot → own_at (set owns i slot) j ≡ Some (Hidden extent) → (j ≢ i) × (own_at owns j ≡ Some (Hidden extent))
hidden_set owns i j slot extent below none is =
    ⊎_elim
    (λ (same : j ≡ i). absurd (none extent (sym (own_same owns i slot below) ∙ ap (own_at (set owns i slot)) (sym same) ∙ is)))
    (λ (other : j ≢ i). (other, sym (own_other owns i j slot other) ∙ is))
    (cases_eq j i)

pub hidden_stays : (owns : List (Option Own)) (i j : ℕ) (slot : Option Own) (extent : Extent) → IsNoWindow (own_at owns i) → own_at owns j ≡ Some (Hidden extent) → own_at (set owns i slot) j ≡ Some (Hidden extent)
hidden_stays owns i j slot extent none is =
    ⊎_elim
    (λ (same : j ≡ i). absurd (none extent (ap (own_at owns) (sym same) ∙ is)))
    (λ (other : j ≢ i). own_other owns i j slot other ∙ is)
    (cases_eq j i)

-- what is told of each slot, after one was set
pub set_each : {C : Type 0} (owns : List (Option Own)) (i : ℕ) (slot : Option Own) (tell : Option Own → C) → i < length owns → (n : ℕ) → tell (own_at (set owns i slot) n) ≡ (if n == i then tell slot else tell (own_at owns n))
set_each owns i slot tell below n =
    ⊎_elim
    (λ (same : n ≡ i).
    ap tell (ap (own_at (set owns i slot)) same ∙ own_same owns i slot below)
    ∙ sym (ap (λ b. if b then tell slot else tell (own_at owns n)) (eq-eqb n i same)))
    (λ (other : n ≢ i).
    ap tell (own_other owns i n slot other)
    ∙ sym (ap (λ b. if b then tell slot else tell (own_at owns n)) (ne_eqb n i other)))
    (cases_eq n i)

-- the same is told, where one was set to another of which the same is told
pub set_still : {C : Type 0} (owns : List (Option Own)) (i : ℕ) (slot : Option Own) (tell : Option Own → C) → i < length owns → tell slot ≡ tell (own_at owns i) → (n : ℕ) → tell (own_at (set owns i slot) n) ≡ tell (own_at owns n)
set_still owns i slot tell below still n =
    ⊎_elim
    (λ (same : n ≡ i). ap tell (ap (own_at (set owns i slot)) same ∙ own_same owns i slot below) ∙ still ∙ ap (λ m. tell (own_at owns m)) (sym same))
    (λ (other : n ≢ i). ap tell (own_other owns i n slot other))
    (cases_eq n i)

-- a slot that was set to what it was
pub own_again : (owns : List (Option Own)) (i j : ℕ) (slot : Option Own) → i < length owns → own_at owns i ≡ slot → own_at (set owns i slot) j ≡ own_at owns j
own_again owns i j slot below is =
    ⊎_elim
    (λ (same : j ≡ i). ap (own_at (set owns i slot)) same ∙ own_same owns i slot below ∙ sym is ∙ ap (own_at owns) (sym same))
    (λ (other : j ≢ i). own_other owns i j slot other)
    (cases_eq j i)

pub extent_is : (a b : Extent) → Some (Hidden a) ≡ Some (Hidden b) → a ≡ b
extent_is a b same = cc

pub whole_is : (a b : Watched) → Some (Whole a) ≡ Some (Whole b) → a ≡ b
whole_is a b same = cc

pub whole_own : (own : Own) (watched : Watched) → Some own ≡ Some (Whole watched) → own ≡ Whole watched
whole_own own watched same = cc

-- how many bits the pixels of a slot have
abbrev pub own_bits : Option Own → ℕ
own_bits slot = option_map_or (λ (form : Form). depth form.chan) (option_map form_in slot) 0

-- the cells of a rectangle, where a row is as long
pub celled_as : (rows more : List (List (Option ℕ))) (i : ℕ) (r : Rect) → length rows ≤ length more → length (row_at more i) ≡ length (row_at rows i) → IsCelled rows i r → IsCelled more i r
celled_as rows more i r longer long celled = record {
  near = celled.near;
  ordered = celled.ordered;
  image = omega (arith, longer, celled.image);
  cells = long ∙ celled.cells;
}

-- the same windows, with rows of cells as long
pub tabled_as : (owns new : List (Option Own)) (rows more : List (List (Option ℕ))) → length more ≡ length new → length rows ≤ length more → ((j : ℕ) (extent : Extent) → own_at new j ≡ Some (Hidden extent) → own_at owns j ≡ Some (Hidden extent)) → ((j : ℕ) (extent : Extent) → own_at owns j ≡ Some (Hidden extent) → own_at new j ≡ Some (Hidden extent)) → ((j : ℕ) → length (row_at more j) ≡ length (row_at rows j)) → ((j k : ℕ) → IsNoWindow (own_at new j) → cell_at rows j k ≡ None → cell_at more j k ≡ None) → IsTabled owns rows → IsTabled new more
tabled_as owns new rows more long longer was stays lengths none tabled = record {
  numbers = long;
  windows = λ j extent is. celled_as rows more j extent.r longer (lengths j) (tabled.windows j extent (was j extent is));
  others = λ j k no. none j k no (tabled.others j k (λ extent is. no extent (stays j extent is)));
}

-- and where a slot with no window was set to another
pub tabled_set : (owns : List (Option Own)) (i : ℕ) (slot : Option Own) (rows : List (List (Option ℕ))) → i < length owns → IsNoWindow (own_at owns i) → IsNoWindow slot → IsTabled owns rows → IsTabled (set owns i slot) rows
tabled_set owns i slot rows below was now tabled =
    tabled_as owns (set owns i slot) rows rows (tabled.numbers ∙ sym (length-set owns i slot)) (omega arith)
    (λ j extent is. (hidden_set owns i j slot extent below now is).1)
    (λ j extent is. hidden_stays owns i j slot extent was is)
    (λ j. refl)
    (λ j k no none. none)
    tabled

-- one number below another passes a test, or none
pub by_search : {C : Type 0} (n : ℕ) (test : ℕ → Bool) → ((k : ℕ) → k < n → test k ≡ true → C) → (((k : ℕ) → k < n → test k ≡ false) → C) → C
by_search zero test found missed = missed (λ k below. absurd (omega arith))
by_search (suc n) test found missed =
    ⊎_elim
    (λ (here : test n ≡ true). found n (omega arith) here)
    (λ (not_here : test n ≡ false).
    by_search n test (λ k below e. found k (omega arith) e)
    (λ none. missed (λ k below. ⊎_elim (λ (same : k ≡ n). ap test same ∙ not_here) (λ (other : k ≢ n). none k (omega arith)) (cases_eq k n))))
    (cases_Bool (test n))

-- whether two places in tiles are one
abbrev pub is_place : CellPlace → CellPlace → Bool
is_place a b = (a.image == b.image) && ((a.cell == b.cell) && is_point a.at b.at)

pub place_true : (a b : CellPlace) → is_place a b ≡ true → a ≡ b
place_true a b e =
    let outer = and_parts (a.image == b.image) ((a.cell == b.cell) && is_point a.at b.at) e in
    let inner = and_parts (a.cell == b.cell) (is_point a.at b.at) outer.1 in
    λ j. record { image = (Decides-eqb a.image b.image).0 outer.0 j; cell = (Decides-eqb a.cell b.cell).0 inner.0 j; at = is_point_true a.at b.at inner.1 j }

pub true_place : (a b : CellPlace) → a ≡ b → is_place a b ≡ true
true_place a b same =
    and_from (a.image == b.image) ((a.cell == b.cell) && is_point a.at b.at) (eq-eqb a.image b.image (ap (λ (p : CellPlace). p.image) same))
    (and_from (a.cell == b.cell) (is_point a.at b.at) (eq-eqb a.cell b.cell (ap (λ (p : CellPlace). p.cell) same)) (true_is_point a.at b.at (ap (λ (p : CellPlace). p.at) same)))

-- what has the form of no window has a plane
pub whole_of : (slot : Option Own) → option_map (λ (form : Form). form.is_window) (option_map form_in slot) ≡ Some false → (watched : Watched) × (slot ≡ Some (Whole watched))
whole_of None e = absurd cc
whole_of (Some (Whole watched)) e = (watched, refl)
whole_of (Some (Hidden extent)) e = absurd cc

-- and what has that of a window has its rectangle and channels
pub hidden_of : (slot : Option Own) → option_map (λ (form : Form). form.is_window) (option_map form_in slot) ≡ Some true → (extent : Extent) × (slot ≡ Some (Hidden extent))
hidden_of None e = absurd cc
hidden_of (Some (Whole watched)) e = absurd cc
hidden_of (Some (Hidden extent)) e = (extent, refl)

-- and so has what gives one
pub record IsPlaneOf (slot : Option Own) (plane : Plane) : Type 0 where
  pub watched : Watched
  pub slot_is : slot ≡ Some (Whole watched)
  pub plane_is : plane ≡ watched.plane

plane_same : (a b : Plane) → Some a ≡ Some b → a ≡ b
plane_same a b same = cc

pub plane_told : (slot : Option Own) (plane : Plane) → option_and_then plane_in slot ≡ Some plane → IsPlaneOf slot plane
plane_told None plane e = absurd cc
plane_told (Some (Whole watched)) plane e = record { watched = watched; slot_is = refl; plane_is = plane_same plane watched.plane (sym e) }
plane_told (Some (Hidden extent)) plane e = absurd cc

pub own_there : (owns : List (Option Own)) (i : ℕ) (kept : Own) → own_at owns i ≡ Some kept → i < length owns
own_there owns i kept is =
    ⊎_elim
    (λ (below : i < length owns). below)
    (λ past. let none : None ≡ Some kept = sym (get_or_past owns i None past) ∙ is in absurd cc)
    (cases_lt i (length owns))

-- what has a plane is one of the table
pub whole_below : (owns : List (Option Own)) (i : ℕ) → option_map (λ (form : Form). form.is_window) (option_map form_in (own_at owns i)) ≡ Some false → i < length owns
whole_below owns i whole = let found = whole_of (own_at owns i) whole in own_there owns i (Whole found.0) found.1
