-- Cells that want a tile, and those that want one once a window came.
use Rattle.std.proofs.Common.{◌≡◌, ◌≢◌, ◌∙◌, ℕ, zero, suc, ◌+◌, ◌<◌, ◌≤◌, Bool, cond, true, false, All, List, [], ◌∷◌, Option, Some, None, length, refl, sym, ap, subst, arith, ⊎_elim}
use Rattle.std.specs.Prelude.{◌==◌, ◌&&◌, ◌||◌, is_some, not, option_map}
use Rattle.std.specs.Option.{option_map_or}
use Rattle.std.specs.List.{count_by, list_any, range_with_len, sum_by, AllByRecursion}
use Rattle.std.proofs.lemmas.Bool.{and_from, and_parts, cases_eq, false≢true, true≢false}
use Rattle.std.proofs.lemmas.List.Elements.{recursion_from_All}
use Rattle.std.proofs.lemmas.List.Sums.{sum_by-cons}
use Rattle.r9_geom.specs.declared.Point.{Point}
use Rattle.r9_geom.specs.declared.Rect.{Rect}
use Rattle.r9_geom.specs.Geometry.{carried, holds, is_empty, is_inside, meet}
use Rattle.model_forest.specs.declared.Window.{Window}
use Rattle.model_forest.specs.World.{Image, World, image_at, parent_of, IsForest, IsWindowOf}
use Rattle.model_forest.proofs.Listed.{All-listed}
use Rattle.model_kept.specs.Cells.{above, cell_count, cell_of, cell_part, hides, hides_on, hides_under}
use Rattle.model_kept.specs.Keeping.{own, place_among, Place}
use Rattle.model_kept.specs.Restack.{with_list}
use Rattle.r9_locate.specs.locate.Forms.{forms_of}
use Rattle.r9_cells.specs.Cells.{all_rows}
use Rattle.r9_cells.specs.Fitting.{hides_cell, hides_listed, wanted, wants}
use Rattle.r9_cells.specs.Rows.{cell_at, row_at}
use Rattle.r9_cells.proofs.Changed.{cell_inside}
use Rattle.r9_cells.proofs.Covering.{cell_corner, corner_cell, corner_holds}
use Rattle.r9_cells.proofs.Steps.{wants_less}
use Rattle.r9_pixels.specs.declared.keeping.KeptPixels.{KeptPixels}
use Rattle.r9_pixels.specs.Kept.{form_at, has_place, later_in, wanted_in}
use Rattle.r9_pixels.specs.Owns.{has_in, own_at}
use Rattle.r9_pixels.specs.Places.{HasCells, StandsOn}
use Rattle.r9_pixels.proofs.Off.{cell_has}
use Rattle.r9_pixels.proofs.Owning.{form_none}
use Rattle.r9_pixels.proofs.Standing.{window_own}
use Rattle.r9_relist.proofs.relist.Relisted.{list_at, list_other, list_parent, list_rect, relist_stand}
use Rattle.r9_relist.specs.arrive.Arriving.{with_coming, IsComing}
use Rattle.r9_relist.proofs.arrive.Windows.{at_other, coming_live, nothing_on, IsFree}

-- ---- a cell has a tile where its corner has a place

module _ (pixels : KeptPixels) (world : World) (q : ℕ) (formed : form_at pixels ≡ forms_of world) where
  abbrev rows : List (List (Option ℕ))
  rows = all_rows pixels.cells

  corner_has : (n k : ℕ) → parent_of world n ≡ Some q → k < cell_count (image_at world n).r → has_place pixels (own n (cell_corner (image_at world n).r k)) ≡ is_some (cell_at rows n k)
  corner_has n k stands below = cell_has pixels.owns.items pixels.cells world n q k formed stands below

  -- and what has one is a cell of the window
  cell_below : (n k : ℕ) → parent_of world n ≡ Some q → is_some (cell_at rows n k) ≡ true → k < cell_count (image_at world n).r
  cell_below n k stands some =
      let found = window_own pixels.owns.items world n q formed stands in
      let celled = pixels.tabled.windows n found.0 found.1 in
      let within = cell_inside rows n k some in
      let long : length (row_at rows n) ≡ cell_count (image_at world n).r = celled.cells ∙ ap cell_count found.2 in
      omega (arith, within.1, long)

abbrev weight : Bool → ℕ
weight b = cond b 1 0

-- of some numbers side by side no more pass the one test than the other
count_within : (test also : ℕ → Bool) (a n : ℕ) → ((j : ℕ) → a ≤ j → j < a + n → test j ≡ true → also j ≡ true) → count_by test (range_with_len a n) ≤ count_by also (range_with_len a n)
count_within test also a zero weaker = omega arith
count_within test also a (suc n) weaker =
    let more = count_within test also (a + 1) n (λ j from to e. weaker j (omega (arith, from)) (omega (arith, to)) e) in
    let one : weight (test a) ≤ weight (also a) = lighter (test a) (also a) (weaker a (omega arith) (omega arith)) in
    let left : count_by test (range_with_len a (suc n)) ≡ weight (test a) + count_by test (range_with_len (a + 1) n) = sum_by-cons (λ k. cond (test k) 1 0) a (range_with_len (a + 1) n) in
    let right : count_by also (range_with_len a (suc n)) ≡ weight (also a) + count_by also (range_with_len (a + 1) n) = sum_by-cons (λ k. cond (also k) 1 0) a (range_with_len (a + 1) n) in
    omega (arith, more, one, left, right)
  where
    lighter : (b c : Bool) → (b ≡ true → c ≡ true) → weight b ≤ weight c
    lighter true c e = let is = ap weight (e refl) in omega (arith, is)
    lighter false c e = omega arith

-- where no place is lost that windows have, and the cells that another list hides have theirs, no cell wants a tile but those of
-- which that was told before
wanted_fewer : (old new : KeptPixels) (before after : World) (p : ℕ) (list : List Window) (q : ℕ) (vs : List Window) → form_at old ≡ forms_of before → form_at new ≡ forms_of after → ((n : ℕ) → (image_at after n).r ≡ (image_at before n).r) → ((n : ℕ) → parent_of after n ≡ parent_of before n) → All (StandsOn before q) vs → ((n : ℕ) (x : Point) → parent_of before n ≡ Some q → holds (image_at before n).r x ≡ true → has_place old (own n x) ≡ true → has_place new (own n x) ≡ true) → ((n k : ℕ) → k < cell_count (image_at before n).r → hides_listed before p list n k ≡ true → has_place new (own n (cell_corner (image_at before n).r k)) ≡ true) → wanted_in new after q vs ≤ later_in old before p list q vs
wanted_fewer old new before after p list q vs formed then rect parent all stays listed = by_recursion vs (recursion_from_All (StandsOn before q) vs all)
  where
    was : List (List (Option ℕ))
    was = all_rows old.cells

    are : List (List (Option ℕ))
    are = all_rows new.cells

    one_before : Window → ℕ
    one_before w =
        let r = (image_at before w.image).r in
        count_by (λ k. wants was (image_at before q).r vs w.image r k && not (hides_listed before p list w.image k)) (range_with_len 0 (cell_count r))

    one_after : Window → ℕ
    one_after w = wanted are (image_at after q).r vs w.image (image_at after w.image).r

    -- a cell has a tile then where its corner has a place
    corner_then : (n k : ℕ) → parent_of before n ≡ Some q → k < cell_count (image_at before n).r → has_place new (own n (cell_corner (image_at before n).r k)) ≡ is_some (cell_at are n k)
    corner_then n k stands below =
        subst (λ (s : Rect). has_place new (own n (cell_corner s k)) ≡ is_some (cell_at are n k)) (rect n)
        (corner_has new after q then n k (parent n ∙ stands) (subst (λ (s : Rect). k < cell_count s) (sym (rect n)) below))

    keeps : (n k : ℕ) → parent_of before n ≡ Some q → is_some (cell_at was n k) ≡ true → is_some (cell_at are n k) ≡ true
    keeps n k stands some =
        let r = (image_at before n).r in
        let below = cell_below old before q formed n k stands some in
        sym (corner_then n k stands below) ∙ stays n (cell_corner r k) stands (corner_holds r k below) (corner_has old before q formed n k stands below ∙ some)

    -- what wants one then is not hidden by the other list
    unlisted : (n k : ℕ) → parent_of before n ≡ Some q → k < cell_count (image_at before n).r → not (is_some (cell_at are n k)) ≡ true → (b : Bool) → hides_listed before p list n k ≡ b → not b ≡ true
    unlisted n k stands below none false e = refl
    unlisted n k stands below none true e = absurd (false≢true (sym (ap not (sym (corner_then n k stands below) ∙ listed n k below e)) ∙ none))

    each : (w : Window) → StandsOn before q w → one_after w ≤ one_before w
    each w on =
        let below = (image_at before q).r in
        let n = w.image in
        let r = (image_at before n).r in
        let same : one_after w ≡ wanted are below vs n r = λ j. wanted are (rect q j) vs n (rect n j) in
        let fewer = count_within (wants are below vs n r) (λ k. wants was below vs n r k && not (hides_listed before p list n k)) 0 (cell_count r)
        (λ k from to e.
        let lower : k < cell_count r = omega (arith, to) in
        and_from (wants was below vs n r k) (not (hides_listed before p list n k))
        (wants_less (hides_cell below vs n r k) _ _ (keeps n k on.stands) e)
        (unlisted n k on.stands lower (and_parts (hides_cell below vs n r k) (not (is_some (cell_at are n k))) e).1 (hides_listed before p list n k) refl)) in
        omega (arith, same, fewer)

    by_recursion : (ws : List Window) → AllByRecursion (StandsOn before q) ws → sum_by one_after ws ≤ sum_by one_before ws
    by_recursion [] on = omega arith
    by_recursion (w ∷ ws) on =
        let rest = by_recursion ws on.1 in
        let first = each w on.0 in
        let left = sum_by-cons one_after w ws in
        let right = sum_by-cons one_before w ws in
        omega (arith, rest, first, left, right)

-- ---- when a window comes

-- what a list hides of a window, one with a window more does too
hides_more : (below : Rect) (ws vs : List Window) (n : ℕ) (r part : Rect) → place_among vs n ≡ place_among ws n → ((test : Window → Bool) → list_any test (above n ws) ≡ true → list_any test (above n vs) ≡ true) → hides_under below ws n r part ≡ true → hides_under below vs n r part ≡ true
hides_more below ws vs n r part place more hid =
    ap (λ (s : Rect). hides_at s.min vs) place
    ∙ by_inside (not (is_inside (out (place_among ws n).min) below)) hid
  where
    out : Point → Rect
    out to = record { min = carried part.min r.min to; max = carried part.max r.min to }

    hides_at : Point → List Window → Bool
    hides_at to us = not (is_inside (out to) below) || list_any (λ w. not (is_empty (meet w.place (out to)))) (above n us)

    by_inside : (b : Bool) → (b || list_any (λ w. not (is_empty (meet w.place (out (place_among ws n).min)))) (above n ws)) ≡ true → (b || list_any (λ w. not (is_empty (meet w.place (out (place_among ws n).min)))) (above n vs)) ≡ true
    by_inside true e = refl
    by_inside false e = more (λ w. not (is_empty (meet w.place (out (place_among ws n).min)))) e

-- what has no form has no place
pub place_none : (pixels : KeptPixels) (i : ℕ) (x : Point) → form_at pixels i ≡ None → has_place pixels (own i x) ≡ false
place_none pixels i x free = ap (λ o. option_map_or (has_in pixels.cells i x) o false) (form_none (own_at pixels.owns.items i) free)

module _ (shape : World) (kept : Place → ℕ) (w : Window) (parent fill : ℕ) (r : Rect) (is : IsFree shape kept w.image parent) (ws : List Window) (comes : IsComing shape parent w ws) where
  abbrev mid : World
  mid = with_coming shape w.image parent fill r

  abbrev then : World
  then = with_list mid parent ws

  live : is_some (mid parent) ≡ true
  live = coming_live shape kept w.image parent fill r is

  -- a window of image q but the new one, and image q, are as they were
  hides_still : (n q : ℕ) (part : Rect) → n ≢ w.image → parent_of shape n ≡ Some q → hides shape n part ≡ true → hides then n part ≡ true
  hides_still n q part other stands hid =
      let q_other : q ≢ w.image = λ e. nothing_on shape kept w.image parent fill r is n (stands ∙ ap (λ m. Some m) e) in
      let at_n : image_at mid n ≡ image_at shape n = at_other shape kept w.image parent fill r is n other in
      let at_q : image_at mid q ≡ image_at shape q = at_other shape kept w.image parent fill r is q q_other in
      let stood : parent_of then n ≡ Some q = list_parent mid parent n ws live ∙ ap (λ (im : Image). option_map (λ s. s.parent) im.standing) at_n ∙ stands in
      let rect_n : (image_at then n).r ≡ (image_at shape n).r = list_rect mid parent n ws live ∙ ap (λ (im : Image). im.r) at_n in
      let rect_q : (image_at then q).r ≡ (image_at shape q).r = list_rect mid parent q ws live ∙ ap (λ (im : Image). im.r) at_q in
      let was : hides_on shape q n part ≡ true = sym (ap (λ o. option_map_or (λ (m : ℕ). hides_on shape m n part) o false) stands) ∙ hid in
      ap (λ o. option_map_or (λ (m : ℕ). hides_on then m n part) o false) stood
      ∙ (λ j. hides_under (rect_q j) (image_at then q).windows n (rect_n j) part)
      ∙ ⊎_elim
      (λ (same : q ≡ parent).
      let now : (image_at then q).windows ≡ ws = ap (λ m. (image_at then m).windows) same ∙ ap (λ (im : Image). im.windows) (list_at mid parent ws) in
      let before : (image_at shape q).windows ≡ (image_at shape parent).windows = ap (λ m. (image_at shape m).windows) same in
      ap (λ vs. hides_under (image_at shape q).r vs n (image_at shape n).r part) now
      ∙ hides_more (image_at shape q).r (image_at shape parent).windows ws n (image_at shape n).r part (comes.places n other) (λ test some. comes.covered n test other some)
      (sym (ap (λ vs. hides_under (image_at shape q).r vs n (image_at shape n).r part) before) ∙ was))
      (λ (another : q ≢ parent).
      ap (λ (im : Image). hides_under (image_at shape q).r im.windows n (image_at shape n).r part) (list_other mid parent q ws another ∙ at_q) ∙ was)
      (cases_eq q parent)

  -- no cell wants a tile then but those that wanted one before and that the list does not hide
  pub coming_wants : (old mids new : KeptPixels) (q : ℕ) (vs : List Window) → form_at old w.image ≡ None → HasCells shape (has_place old) → form_at mids ≡ forms_of mid → has_place mids ≡ has_place old → form_at new ≡ forms_of then → HasCells then (has_place new) → IsForest then → All (StandsOn mid q) vs → wanted_in new then q vs ≤ later_in mids mid parent ws q vs
  coming_wants old mids new q vs none cells formed still forms cells_then ok all =
      wanted_fewer mids new mid then parent ws q vs formed forms (λ n. list_rect mid parent n ws live) (λ n. list_parent mid parent n ws live) all stays hidden_has
    where
      hidden_has : (n k : ℕ) → k < cell_count (image_at mid n).r → hides_listed mid parent ws n k ≡ true → has_place new (own n (cell_corner (image_at mid n).r k)) ≡ true
      hidden_has n k below hid =
          let s = (image_at mid n).r in
          let x = cell_corner s k in
          let at_p = list_at mid parent ws in
          let rect : (image_at then n).r ≡ s = list_rect mid parent n ws live in
          let both = and_parts (list_any (λ (v : Window). v.image == n) ws) (hides_cell (image_at mid parent).r ws n s k) hid in
          let found = All-listed (IsWindowOf mid parent) ws n (relist_stand mid parent ws live ok) both.0 in
          let stands : parent_of then n ≡ Some parent = list_parent mid parent n ws live ∙ subst (λ m. parent_of mid m ≡ Some parent) found.1 found.2.stands in
          cells_then n parent x stands (ap (λ t. holds t x) rect ∙ corner_holds s k below)
          ∙ ap (λ o. option_map_or (λ (m : ℕ). hides_on then m n (cell_part (image_at then n).r (cell_of (image_at then n).r x))) o false) stands
          ∙ (λ j. hides_under (at_p j).r (at_p j).windows n (rect j) (cell_part (rect j) (cell_of (rect j) x)))
          ∙ ap (λ m. hides_cell (image_at mid parent).r ws n s m) (corner_cell s k)
          ∙ both.1

      stays : (n : ℕ) (x : Point) → parent_of mid n ≡ Some q → holds (image_at mid n).r x ≡ true → has_place mids (own n x) ≡ true → has_place new (own n x) ≡ true
      stays n x stands inside has =
          ⊎_elim
          (λ (same : n ≡ w.image).
          absurd (true≢false (sym has ∙ ap (λ (h : Place → Bool). h (own n x)) still ∙ ap (λ m. has_place old (own m x)) same ∙ place_none old w.image x none)))
          (λ (other : n ≢ w.image).
          let at_n : image_at mid n ≡ image_at shape n = at_other shape kept w.image parent fill r is n other in
          let was : parent_of shape n ≡ Some q = sym (ap (λ (im : Image). option_map (λ s. s.parent) im.standing) at_n) ∙ stands in
          let rect : (image_at then n).r ≡ (image_at shape n).r = list_rect mid parent n ws live ∙ ap (λ (im : Image). im.r) at_n in
          let within : holds (image_at shape n).r x ≡ true = ap (λ (im : Image). holds im.r x) (sym at_n) ∙ inside in
          let s = (image_at shape n).r in
          let hid : hides shape n (cell_part s (cell_of s x)) ≡ true = sym (cells n q x was within) ∙ ap (λ (h : Place → Bool). h (own n x)) (sym still) ∙ has in
          cells_then n q x (list_parent mid parent n ws live ∙ stands) (ap (λ t. holds t x) rect ∙ within)
          ∙ ap (λ (t : Rect). hides then n (cell_part t (cell_of t x))) rect
          ∙ hides_still n q (cell_part s (cell_of s x)) other was hid)
          (cases_eq n w.image)
