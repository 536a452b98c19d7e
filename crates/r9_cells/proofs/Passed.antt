-- Windows of a list that are passed over, since no cell of theirs is to get a tile or to lose it.
use Rattle.std.proofs.Common.{◌≡◌, ◌∙◌, ℕ, suc, zero, ◌+◌, ◌-◌, ◌<◌, ◌≤◌, Bool, true, false, All, List, [], ◌∷◌, Option, cond, drop, get_or, length, refl, sym, ap, arith, ⊎_elim}
use Rattle.std.specs.Prelude.{◌&&◌, ◌||◌, is_none, is_some, not}
use Rattle.std.specs.List.{count_by, list_any, range_with_len, sum_by}
use Rattle.std.proofs.lemmas.Bool.{and_from, and_parts, cases_lt, false_from_ne_true}
use Rattle.std.proofs.lemmas.List.{at_drop_all}
use Rattle.std.proofs.lemmas.List.Sums.{sum_by-cons}
use Rattle.r9_geom.specs.declared.Rect.{Rect}
use Rattle.model_forest.specs.declared.Window.{Window}
use Rattle.model_forest.specs.World.{World, image_at}
use Rattle.model_kept.specs.Cells.{cell_count}
use Rattle.r9_cells.specs.Rows.{cell_at, row_at}
use Rattle.r9_cells.specs.Fitting.{hides_cell, hides_listed, meets, standing_cell, wanted, wanted_all, wanted_among, wanted_later, wanted_near, wants, AreGivenOff, AreOne, AreTakenOff, IsLaterTaken, IsTakenOff, IsWindowAt, IsWindowed}
use Rattle.r9_cells.proofs.Counted.{count_none}
use Rattle.r9_cells.proofs.Listed.{no_window}
use Rattle.r9_cells.proofs.Skipped.{any_skip, cells_off, none_near, none_skip, one_at, sum_skip}
use Rattle.r9_cells.proofs.Steps.{weight}
use Rattle.r9_cells.proofs.Still.{full_cell, full_wanted, still_wanted, IsGiven, IsTaken}
use Rattle.r9_cells.proofs.Windowed.{met_wants}

-- from one place of a list to a later one, which may be past its end
to_from : {X : Type 0} (F : List Window → X) (ws : List Window) (a b : ℕ) → a ≤ b → ((n : ℕ) → a + n ≤ length ws → a + n ≤ b → F (drop a ws) ≡ F (drop (a + n) ws)) → F (drop a ws) ≡ F (drop b ws)
to_from F ws a b low step =
    ⊎_elim
    (λ (beyond : length ws < b).
    ⊎_elim
    (λ (past : length ws < a). at_drop_all F ws a (omega (arith, past)) ∙ sym (at_drop_all F ws b (omega (arith, beyond))))
    (λ (within : a ≤ length ws).
    let n = length ws - a in
    let is : a + n ≡ length ws = omega (arith, within) in
    step n (omega (arith, is)) (omega (arith, is, beyond))
    ∙ at_drop_all F ws (a + n) (omega (arith, is))
    ∙ sym (at_drop_all F ws b (omega (arith, beyond))))
    (cases_lt (length ws) a))
    (λ (short : b ≤ length ws).
    let n = b - a in
    let is : a + n ≡ b = omega (arith, low) in
    step n (omega (arith, is, short)) (omega (arith, is)) ∙ ap (λ m. F (drop m ws)) is)
    (cases_lt (length ws) b)

pub sum_to : (f : Window → ℕ) (ws : List Window) (a b : ℕ) → a ≤ b → ((k : ℕ) → a ≤ k → k < b → k < length ws → f (get_or ws k no_window) ≡ 0) → sum_by f (drop a ws) ≡ sum_by f (drop b ws)
sum_to f ws a b low none =
    to_from (sum_by f) ws a b low (λ n fits within. sum_skip f ws n a fits (λ k from to. none k from (omega (arith, to, within)) (omega (arith, to, fits))))

pub any_to : (f : Window → Bool) (s : Bool) (ws : List Window) (a b : ℕ) → a ≤ b → ((k : ℕ) → a ≤ k → k < b → k < length ws → f (get_or ws k no_window) ≡ true → s ≡ true) → (s || list_any f (drop a ws)) ≡ (s || list_any f (drop b ws))
any_to f s ws a b low known =
    to_from (λ (l : List Window). s || list_any f l) ws a b low (λ n fits within. any_skip f s ws n a fits (λ k from to. known k from (omega (arith, to, within)) (omega (arith, to, fits))))

pub none_to : (f : Window → Bool) (s : Bool) (ws : List Window) (a b : ℕ) → a ≤ b → ((k : ℕ) → a ≤ k → k < b → k < length ws → f (get_or ws k no_window) ≡ true → s ≡ false) → (not (list_any f (drop a ws)) && s) ≡ (not (list_any f (drop b ws)) && s)
none_to f s ws a b low known =
    to_from (λ (l : List Window). not (list_any f l) && s) ws a b low (λ n fits within. none_skip f s ws n a fits (λ k from to. known k from (omega (arith, to, within)) (omega (arith, to, fits))))

-- a sum of which the first parts are 0, and the others no more than those of another
pub sum_bound : (f g : Window → ℕ) (ws : List Window) (from : ℕ) → ((k : ℕ) → k < length ws → k < from → f (get_or ws k no_window) ≡ 0) → ((k : ℕ) → k < length ws → from ≤ k → f (get_or ws k no_window) ≤ g (get_or ws k no_window)) → sum_by f ws ≤ sum_by g (drop from ws)
sum_bound f g [] from none most = omega arith
sum_bound f g (w ∷ ws) zero none most =
    let rest = sum_bound f g ws zero (λ k below early. absurd (omega (arith, early))) (λ k below late. most (suc k) (omega (arith, below)) (omega arith)) in
    let first = most 0 (omega arith) (omega arith) in
    omega (arith, rest, first, sum_by-cons f w ws, sum_by-cons g w ws)
sum_bound f g (w ∷ ws) (suc from) none most =
    let rest = sum_bound f g ws from (λ k below early. none (suc k) (omega (arith, below)) (omega (arith, early))) (λ k below late. most (suc k) (omega (arith, below)) (omega (arith, late))) in
    let first = none 0 (omega arith) (omega arith) in
    omega (arith, rest, first, sum_by-cons f w ws)

-- of the numbers from one on that pass a test, no fewer pass one that is weaker there
count_most_in : (q r : ℕ → Bool) (a n : ℕ) → ((k : ℕ) → k < n → q (a + k) ≡ true → r (a + k) ≡ true) → count_by q (range_with_len a n) ≤ count_by r (range_with_len a n)
count_most_in q r a zero weaker = omega arith
count_most_in q r a (suc n) weaker =
    let step : (k : ℕ) → a + 1 + k ≡ a + suc k = λ k. omega arith in
    let here : a ≡ a + 0 = omega arith in
    let more = count_most_in q r (a + 1) n (λ k below is. ap r (step k) ∙ weaker (suc k) (omega (arith, below)) (ap q (sym (step k)) ∙ is)) in
    let one : weight (q a) ≤ weight (r a) = lighter (q a) (r a) (λ e. ap r here ∙ weaker 0 (omega arith) (ap q (sym here) ∙ e)) in
    let left : count_by q (range_with_len a (suc n)) ≡ weight (q a) + count_by q (range_with_len (a + 1) n) = sum_by-cons (λ k. cond (q k) 1 0) a (range_with_len (a + 1) n) in
    let right : count_by r (range_with_len a (suc n)) ≡ weight (r a) + count_by r (range_with_len (a + 1) n) = sum_by-cons (λ k. cond (r k) 1 0) a (range_with_len (a + 1) n) in
    omega (arith, more, one, left, right)
  where
    lighter : (b c : Bool) → (b ≡ true → c ≡ true) → weight b ≤ weight c
    lighter true c e = let is = ap weight (e refl) in omega (arith, is)
    lighter false c e = omega arith

-- ---- windows whose cells have their tiles, or none

-- the cells of a window that meets no area, or of which each has a tile: they had them before, where those are the same
pub passed_full : (rows now : List (List (Option ℕ))) (world : World) (p : ℕ) (ws : List Window) (from : ℕ) (areas : List Rect) → AreTakenOff rows world p ws from areas → All (IsWindowed rows world) ws → AreOne ws → ((j : ℕ) → length (row_at now j) ≡ length (row_at rows j)) → (k : ℕ) → k < length ws → ((n : ℕ) → is_some (cell_at now (get_or ws k no_window).image n) ≡ is_some (cell_at rows (get_or ws k no_window).image n)) → (from ≤ k → (meets areas (get_or ws k no_window).place && list_any is_none (row_at now (get_or ws k no_window).image)) ≡ false) → IsTaken rows (image_at world p).r ws (get_or ws k no_window).image (image_at world (get_or ws k no_window).image).r
passed_full rows now world p ws from areas still windows one long k below same off n lower hid =
    ⊎_elim
    (λ (early : k < from). still.first k w early at n lower hid)
    (λ (late : from ≤ k). by_meets late (meets areas w.place) refl (off late))
    (cases_lt k from)
  where
    w : Window
    w = get_or ws k no_window

    is : IsWindowed rows world w
    is = windows k no_window below

    at : IsWindowAt ws k w
    at = one_at ws k one below

    by_meets : from ≤ k → (b : Bool) → meets areas w.place ≡ b → (b && list_any is_none (row_at now w.image)) ≡ false → is_some (cell_at rows w.image n) ≡ true
    by_meets late false e full = still.others k w late at n lower (cells_off areas ws k w (image_at world w.image).r n at is.size is.cells.ordered lower e) hid
    by_meets late true e full = sym (same n) ∙ full_cell now w.image n (omega (arith, lower, long w.image, is.cells.cells)) full

pub passed_given : (rows : List (List (Option ℕ))) (world : World) (p : ℕ) (ws : List Window) (from : ℕ) (areas : List Rect) → AreGivenOff rows world p ws from areas → All (IsWindowed rows world) ws → AreOne ws → (k : ℕ) → k < length ws → (from ≤ k → meets areas (get_or ws k no_window).place ≡ false) → IsGiven rows (image_at world p).r ws (get_or ws k no_window).image (image_at world (get_or ws k no_window).image).r
passed_given rows world p ws from areas still windows one k below off n lower hid =
    let w = get_or ws k no_window in
    let is = windows k no_window below in
    let at = one_at ws k one below in
    ⊎_elim
    (λ (early : k < from). still.first k w early at n lower hid)
    (λ (late : from ≤ k). still.others k w late at n lower (cells_off areas ws k w (image_at world w.image).r n at is.size is.cells.ordered lower (off late)) hid)
    (cases_lt k from)

-- and none that meets the areas
pub passed_near : (rows : List (List (Option ℕ))) (world : World) (p : ℕ) (ws : List Window) (areas : List Rect) → All (IsWindowed rows world) ws → AreOne ws → (k : ℕ) → k < length ws → meets areas (get_or ws k no_window).place ≡ false → wanted_near rows (image_at world p).r ws areas (get_or ws k no_window).image (image_at world (get_or ws k no_window).image).r ≡ 0
passed_near rows world p ws areas windows one k below off =
    let w = get_or ws k no_window in
    let is = windows k no_window below in
    none_near rows (image_at world p).r ws areas k w (image_at world w.image).r (one_at ws k one below) is.size is.cells.ordered off

-- or lacks a tile
pub passed_lacking : (rows : List (List (Option ℕ))) (world : World) (p : ℕ) (ws : List Window) (areas : List Rect) → All (IsWindowed rows world) ws → AreOne ws → (k : ℕ) → k < length ws → (meets areas (get_or ws k no_window).place && list_any is_none (row_at rows (get_or ws k no_window).image)) ≡ false → wanted_near rows (image_at world p).r ws areas (get_or ws k no_window).image (image_at world (get_or ws k no_window).image).r ≡ 0
passed_lacking rows world p ws areas windows one k below off = by_meets (meets areas w.place) refl off
  where
    w : Window
    w = get_or ws k no_window

    by_meets : (b : Bool) → meets areas w.place ≡ b → (b && list_any is_none (row_at rows w.image)) ≡ false → wanted_near rows (image_at world p).r ws areas w.image (image_at world w.image).r ≡ 0
    by_meets false e full = passed_near rows world p ws areas windows one k below e
    by_meets true e full = full_wanted rows (image_at world p).r ws areas w.image (image_at world w.image).r (windows k no_window below).cells.cells full

-- ---- how many tiles are wanted

near_most : (rows : List (List (Option ℕ))) (below : Rect) (ws : List Window) (areas : List Rect) (i : ℕ) (r : Rect) → IsTakenOff rows below ws areas i r → wanted rows below ws i r ≤ wanted_near rows below ws areas i r
near_most rows below ws areas i r still =
    count_most_in (wants rows below ws i r) (λ k. meets areas (standing_cell ws i r k) && wants rows below ws i r k) 0 (cell_count r)
    (λ k lower e.
    let n = 0 + k in
    met_wants (meets areas (standing_cell ws i r n)) (hides_cell below ws i r n) (is_some (cell_at rows i n)) (still n (omega (arith, lower))) ∙ e)

-- where only cells that meet some areas lack their tiles, those are all
pub room_enough : (rows : List (List (Option ℕ))) (world : World) (p : ℕ) (ws : List Window) (from : ℕ) (areas : List Rect) → AreTakenOff rows world p ws from areas → AreOne ws → wanted_all rows world p ws ws ≤ wanted_among rows world p ws areas (drop from ws)
room_enough rows world p ws from areas still one =
    let b = (image_at world p).r in
    sum_bound (λ w. wanted rows b ws w.image (image_at world w.image).r) (λ w. wanted_near rows b ws areas w.image (image_at world w.image).r) ws from
    (λ k below early.
    let w = get_or ws k no_window in
    still_wanted rows b ws w.image (image_at world w.image).r (still.first k w early (one_at ws k one below)))
    (λ k below late.
    let w = get_or ws k no_window in
    near_most rows b ws areas w.image (image_at world w.image).r (still.others k w late (one_at ws k one below)))

-- a cell that an image hides with a later list and another does not with its own, and that has no tile
abbrev is_later : List (List (Option ℕ)) → World → ℕ → List Window → ℕ → List Window → Window → ℕ → Bool
is_later rows world p ws q later w n = wants rows (image_at world q).r later w.image (image_at world w.image).r n && not (hides_listed world p ws w.image n)

later_known : (rows : List (List (Option ℕ))) (world : World) (p : ℕ) (ws : List Window) (q : ℕ) (later : List Window) (from : ℕ) (areas : List Rect) → IsLaterTaken rows world p ws q later from areas → (w : Window) (k : ℕ) → IsWindowAt later k w → (n : ℕ) → n < cell_count (image_at world w.image).r → is_later rows world p ws q later w n ≡ true → (from ≤ k) × (meets areas (standing_cell later w.image (image_at world w.image).r n) ≡ true)
later_known rows world p ws q later from areas still w k at n lower e =
    let parts = and_parts (wants rows (image_at world q).r later w.image (image_at world w.image).r n) (not (hides_listed world p ws w.image n)) e in
    still k w n at lower parts.0 (not_so (hides_listed world p ws w.image n) parts.1)
  where
    not_so : (c : Bool) → not c ≡ true → c ≡ false
    not_so false e = refl
    not_so true e = cc

pub later_enough : (rows : List (List (Option ℕ))) (world : World) (p : ℕ) (ws : List Window) (q : ℕ) (later : List Window) (from : ℕ) (areas : List Rect) → IsLaterTaken rows world p ws q later from areas → AreOne later → wanted_later rows world p ws q later ≤ wanted_among rows world q later areas (drop from later)
later_enough rows world p ws q later from areas still one =
    let b = (image_at world q).r in
    let test = is_later rows world p ws q later in
    let known = later_known rows world p ws q later from areas still in
    sum_bound (λ w. count_by (test w) (range_with_len 0 (cell_count (image_at world w.image).r))) (λ w. wanted_near rows b later areas w.image (image_at world w.image).r) later from
    (λ k below early.
    let w = get_or later k no_window in
    count_none (test w) 0 (cell_count (image_at world w.image).r)
    (λ n lower. false_from_ne_true (test w (0 + n)) (λ e. absurd (omega (arith, early, (known w k (one_at later k one below) (0 + n) (omega (arith, lower)) e).0)))))
    (λ k below late.
    let w = get_or later k no_window in
    let r = (image_at world w.image).r in
    count_most_in (test w) (λ n. meets areas (standing_cell later w.image r n) && wants rows b later w.image r n) 0 (cell_count r)
    (λ n lower e.
    let m = 0 + n in
    let parts = and_parts (wants rows b later w.image r m) (not (hides_listed world p ws w.image m)) e in
    and_from (meets areas (standing_cell later w.image r m)) (wants rows b later w.image r m) (known w k (one_at later k one below) m (omega (arith, lower)) e).1 parts.0))
