-- Windows as rows, where one is made or goes.
use Rattle.std.proofs.Common.{◌≡◌, ℕ, suc, ◌+◌, ◌<◌, ◌≤◌, Bool, true, false, cond, List, [], ◌∷◌, ◌++◌, length, Option, Some, None, refl, sym, ap, subst, ◌∙◌, arith, length-append}
use Rattle.std.specs.Prelude.{not, ◌==◌, find, filter, nat_lt, option_map, if◌then◌else◌, IfSome}
use Rattle.std.specs.List.{count_by}
use Rattle.std.proofs.lemmas.Bool.Decides.{nat_tests}
use Rattle.model_draw_parts.specs.declared.images.OnScreen.{OnScreen}
use Rattle.r9_ids.specs.declared.sorted.key.Key.{Key}
use Rattle.r9_ids.specs.sorted.Order.{key, comes_before, is_key}
use Rattle.r9_ids.specs.sorted.Rows.{has_key, put_in_order, without_key, first_from, Ascend}
use Rattle.r9_ids.proofs.sorted.Ascending.{ascend-put, ascend-filter, find-hit, find-miss, miss-head, miss-tail, length-put, length-without}
use Rattle.r9_ids.proofs.sorted.Laws.{found-put, found-without, first-group, group-first, group-past, group-none, find-in-filter, none-in-filter}
use Rattle.r9_ids.proofs.sorted.Members.{find-holds, none-holds, own-found, least-found, find-put-other, find-put-only}
use Rattle.r9_ids.proofs.sorted.Order.{is-same, same-is}
use Rattle.r9_images.specs.declared.uses.rows.WindowRow.{WindowRow}
use Rattle.r9_images.specs.uses.Windows.{AreMade, is_made, window_at, window_key, windows_of}
use Rattle.r9_images.proofs.uses.Listed.{listed-end, none-listed, found-taken, others-taken, counted-taken, fewer-taken}

-- ---- lists

none-some : {X : Type 0} (x : X) → None ≡ Some x → ⊥
none-some x h = cc

true-false : true ≡ false → ⊥
true-false h = cc

of-some : {X : Type 0} (P : X → Type 0) (o : Option X) (x : X) → IfSome o P → o ≡ Some x → P x
of-some P None x p h = absurd cc
of-some P (Some y) x p h = let same : y ≡ x = cc in subst P same p

same-some : {X : Type 0} (o : Option X) (x y : X) → o ≡ Some x → o ≡ Some y → x ≡ y
same-some o x y h k = let both : Some x ≡ Some y = sym h ∙ k in cc

-- a filter that keeps all that pass the test
find-filter : {X : Type 0} (p q : X → Bool) (xs : List X) → ((x : X) → p x ≡ true → q x ≡ true) → find p (filter q xs) ≡ find p xs
find-filter p q [] h = refl
find-filter p q (x ∷ xs) h = by (find-filter p q xs h) (p x) refl (q x) refl
  where
    by : find p (filter q xs) ≡ find p xs → (t : Bool) → p x ≡ t → (u : Bool) → q x ≡ u → find p (cond u (x ∷ filter q xs) (filter q xs)) ≡ cond t (Some x) (find p xs)
    by more true at true kept = find-hit p x _ at
    by more true at false kept = absurd (true-false (sym (h x at) ∙ kept))
    by more false at true kept = find-miss p x _ at ∙ more
    by more false at false kept = more

find-filter-none : {X : Type 0} (p q : X → Bool) (xs : List X) → find p xs ≡ None → find p (filter q xs) ≡ None
find-filter-none p q [] h = refl
find-filter-none p q (x ∷ xs) h = by (find-filter-none p q xs (miss-tail (p x) x _ h)) (q x)
  where
    by : find p (filter q xs) ≡ None → (u : Bool) → find p (cond u (x ∷ filter q xs) (filter q xs)) ≡ None
    by more true = find-miss p x _ (miss-head (p x) x _ h) ∙ more
    by more false = more

find-filter-kept : {X : Type 0} (p q : X → Bool) (xs : List X) (x : X) → find p xs ≡ Some x → q x ≡ true → find p (filter q xs) ≡ Some x
find-filter-kept p q [] x h k = absurd cc
find-filter-kept p q (y ∷ ys) x h k = by (find-filter-kept p q ys x) (p y) refl (q y) refl h
  where
    by : (find p ys ≡ Some x → q x ≡ true → find p (filter q ys) ≡ Some x) → (t : Bool) → p y ≡ t → (u : Bool) → q y ≡ u → cond t (Some y) (find p ys) ≡ Some x
        → find p (cond u (y ∷ filter q ys) (filter q ys)) ≡ Some x
    by more true at true kept h = find-hit p y _ at ∙ h
    by more true at false kept h = let same : y ≡ x = cc in absurd (true-false (sym k ∙ ap q (sym same) ∙ kept))
    by more false at true kept h = find-miss p y _ at ∙ more h k
    by more false at false kept h = more h k

-- ---- numbers and keys

pub equal-is : (a b : ℕ) → a ≡ b → (a == b) ≡ true
equal-is a b h = grind (arith, nat_tests)

is-equal : (a b : ℕ) → (a == b) ≡ true → a ≡ b
is-equal a b h = grind (arith, nat_tests)

less-other : (a b : ℕ) → b < a → (a == b) ≡ false
less-other a b h = grind (arith, nat_tests)

pub not-other : (a b : ℕ) → (a ≡ b → ⊥) → (a == b) ≡ false
not-other a b h = grind (arith, nat_tests)

within-is : (a b : ℕ) → nat_lt a b ≡ true → a < b
within-is a b h = grind (arith, nat_tests)

past-is : (a b : ℕ) → nat_lt a b ≡ false → b ≤ a
past-is a b h = grind (arith, nat_tests)

earlier : (a b c d n k : ℕ) → (a == n) ≡ true → (c == n) ≡ true → (b == k) ≡ true → k < d → comes_before (key a b 0) (key c d 0) ≡ true
unfolding comes_before
earlier a b c d n k h l m less = grind (arith, nat_tests)

other-made : (a b c d k : ℕ) → (b == k) ≡ true → (k == d) ≡ false → not (is_key (key a b 0) (key c d 0)) ≡ true
unfolding is_key
other-made a b c d k h l = grind (arith, nat_tests)

swapped-other : (a b : Key) → is_key a b ≡ false → not (is_key b a) ≡ true
unfolding is_key
swapped-other a b h = grind (arith, nat_tests)

-- ---- the first row of an image

abbrev is_of : ℕ → WindowRow → Bool
is_of image row = row.window.image == image

pub first-found : (image : ℕ) (rows : List WindowRow) (row : WindowRow) → Ascend window_key rows → first_from window_key (key image 0 0) rows ≡ Some row → (row.window.image == image) ≡ true
    → Some row ≡ find (λ row. row.window.image == image) rows
first-found image rows row a h is =
    sym (find-in-filter (is_of image) rows row _ (group-first window_key (λ k. k.first == image) (key image 0 0) (first-group image) rows row a h is))

pub first-past : (image : ℕ) (rows : List WindowRow) (row : WindowRow) → Ascend window_key rows → first_from window_key (key image 0 0) rows ≡ Some row → (row.window.image == image) ≡ false
    → None ≡ find (λ row. row.window.image == image) rows
first-past image rows row a h other =
    sym (none-in-filter (is_of image) rows (group-past window_key (λ k. k.first == image) (key image 0 0) (first-group image) rows row a h other))

pub first-none : (image : ℕ) (rows : List WindowRow) → first_from window_key (key image 0 0) rows ≡ None → None ≡ find (λ row. row.window.image == image) rows
first-none image rows h = sym (none-in-filter (is_of image) rows (group-none window_key (λ k. k.first == image) (key image 0 0) (first-group image) rows h))

module _ (rows : List WindowRow) (made : ℕ) (are : AreMade rows made) where
  -- ---- one is made

  pub absent : (image n : ℕ) → made ≤ n → find (has_key window_key (key image n 0)) rows ≡ None
  absent image n l = by (find (has_key window_key (key image n 0)) rows) (are.once image n)
    where
      by : (o : Option WindowRow) → IfSome o (λ row. find (is_made n) rows ≡ Some row) → o ≡ None
      by None h = refl
      by (Some row) h = absurd (none-some row (sym (are.below n l) ∙ h))

  module _ (window : OnScreen) where
    abbrev row_made : WindowRow
    row_made = record { window = window; made = made }

    abbrev more : List WindowRow
    more = put_in_order window_key row_made rows

    kept-at : (k : ℕ) → k < made → window_at more k ≡ window_at rows k
    kept-at k l = ap (option_map (λ (row : WindowRow). row.window)) (find-put-other window_key (is_made k) row_made rows (less-other made k l))

    made-at : window_at more made ≡ Some window
    made-at =
        ap (option_map (λ (row : WindowRow). row.window)) (find-put-only window_key (is_made made) row_made rows (equal-is made made refl) (are.below made (omega arith)))

    pub windows-pushed : windows_of more (made + 1) ≡ windows_of rows made ++ window ∷ []
    windows-pushed = let next : made + 1 ≡ suc made = omega arith in rw next (listed-end (window_at rows) (window_at more) made window kept-at made-at)

    once-pushed : (image n : ℕ) → IfSome (find (has_key window_key (key image n 0)) more) (λ row. find (is_made n) more ≡ Some row)
    once-pushed image n =
        let P : Option WindowRow → Type 0 = λ o. IfSome o (λ row. find (is_made n) more ≡ Some row) in
        subst P (sym (found-put window_key (key image n 0) row_made rows (absent window.image made (omega arith)))) (pick (is_key (key window.image made 0) (key image n 0)) refl)
      where
        old : (o : Option WindowRow) → IfSome o (λ row. find (is_made n) rows ≡ Some row) → IfSome o (λ row. find (is_made n) more ≡ Some row)
        old None h = tt
        old (Some row) h = by (made == n) refl
          where
            by : (t : Bool) → (made == n) ≡ t → find (is_made n) more ≡ Some row
            by true at = absurd (none-some row (sym (are.below n (let same = is-equal made n at in omega (arith, same))) ∙ h))
            by false at = find-put-other window_key (is_made n) row_made rows at ∙ h

        pick : (t : Bool) → is_key (key window.image made 0) (key image n 0) ≡ t
            → IfSome (if t then Some row_made else find (has_key window_key (key image n 0)) rows) (λ row. find (is_made n) more ≡ Some row)
        pick true at =
            let same : made ≡ n = ap (λ (k : Key). k.second) (is-same (key window.image made 0) (key image n 0) at) in
            find-put-only window_key (is_made n) row_made rows (equal-is made n same) (are.below n (omega (arith, same)))
        pick false at = old (find (has_key window_key (key image n 0)) rows) (are.once image n)

    pub are-pushed : AreMade more (made + 1)
    are-pushed = record {
      order = ascend-put window_key row_made rows are.order (absent window.image made (omega arith));
      once = once-pushed;
      below = λ n l. find-put-other window_key (is_made n) row_made rows (not-other made n (λ e. omega (arith, l, e))) ∙ are.below n (omega (arith, l));
      counted =
          let longer = ap length windows-pushed in
          let end = length-append (windows_of rows made) (window ∷ []) in
          let rows_longer = length-put window_key row_made rows in
          omega (arith, longer, end, rows_longer, are.counted);
    }

  -- ---- one is looked up, and goes

  pub none-stands : (image : ℕ) → find (λ row. row.window.image == image) rows ≡ None → find (λ w. w.image == image) (windows_of rows made) ≡ None
  none-stands image none = none-listed (λ (w : OnScreen). w.image == image) (window_at rows) made (λ k l. by k (find (is_made k) rows) refl)
    where
      by : (k : ℕ) (o : Option WindowRow) → find (is_made k) rows ≡ o → IfSome (option_map (λ (row : WindowRow). row.window) o) (λ w. (w.image == image) ≡ false)
      by k None e = tt
      by k (Some x) e = none-holds (is_of image) (is_made k) rows x none e

  module _ (image : ℕ) (row : WindowRow) (first : find (λ row. row.window.image == image) rows ≡ Some row) where
    abbrev left : List WindowRow
    left = without_key window_key (window_key row) rows

    is_its : (row.window.image == image) ≡ true
    is_its = find-holds (is_of image) rows row first

    keyed : find (has_key window_key (window_key row)) rows ≡ Some row
    keyed = own-found window_key (is_of image) rows row are.order first

    numbered : find (is_made row.made) rows ≡ Some row
    numbered = of-some (λ x. find (is_made row.made) rows ≡ Some x) _ row (are.once row.window.image row.made) keyed

    within : row.made < made
    within = by (nat_lt row.made made) refl
      where
        by : (t : Bool) → nat_lt row.made made ≡ t → row.made < made
        by true at = within-is row.made made at
        by false at = absurd (none-some row (sym (are.below row.made (past-is row.made made at)) ∙ numbered))

    -- the key by which it is taken out
    pub key-is : key image row.made 0 ≡ window_key row
    key-is = let same = is-equal row.window.image image is_its in λ i. key (sym same i) row.made 0

    at-number : window_at rows row.made ≡ Some row.window
    at-number = ap (option_map (λ (x : WindowRow). x.window)) numbered

    before : (k : ℕ) → k < row.made → IfSome (window_at rows k) (λ w. (w.image == image) ≡ false)
    before k l = by (find (is_made k) rows) refl
      where
        pick : (x : WindowRow) → find (is_made k) rows ≡ Some x → (t : Bool) → (x.window.image == image) ≡ t → t ≡ false
        pick x e true at =
            absurd
            (true-false
            (sym (earlier x.window.image x.made row.window.image row.made image k at is_its (find-holds (is_made k) rows x e) l)
            ∙ least-found window_key (is_of image) (is_made k) rows row x are.order first e at))
        pick x e false at = refl

        by : (o : Option WindowRow) → find (is_made k) rows ≡ o → IfSome (option_map (λ (x : WindowRow). x.window) o) (λ w. (w.image == image) ≡ false)
        by None e = tt
        by (Some x) e = pick x e (x.window.image == image) refl

    gone-row : find (is_made row.made) left ≡ None
    gone-row = by (find (is_made row.made) left) refl
      where
        pick : (x : WindowRow) → find (is_made row.made) left ≡ Some x → (t : Bool) → is_key (window_key row) (window_key x) ≡ t
            → (if t then None else find (has_key window_key (window_key x)) rows) ≡ Some x → None ≡ Some x
        pick x e true at h = h
        pick x e false at h =
            let number : x.made ≡ row.made = is-equal x.made row.made (find-holds (is_made row.made) left x e) in
            let own : find (is_made x.made) rows ≡ Some x = of-some (λ y. find (is_made x.made) rows ≡ Some y) _ x (are.once x.window.image x.made) h in
            let same : x ≡ row = same-some _ x row (ap (λ (n : ℕ). find (is_made n) rows) (sym number) ∙ own) numbered in
            absurd (true-false (sym (same-is (window_key row)) ∙ ap (λ (y : WindowRow). is_key (window_key row) (window_key y)) (sym same) ∙ at))

        by : (o : Option WindowRow) → find (is_made row.made) left ≡ o → o ≡ None
        by None e = refl
        by (Some x) e =
            let found = own-found window_key (is_made row.made) left x (ascend-filter window_key _ rows are.order) e in
            absurd (none-some x (pick x e (is_key (window_key row) (window_key x)) refl (sym (found-without window_key (window_key row) (window_key x) rows) ∙ found)))

    gone-at : window_at left row.made ≡ None
    gone-at = ap (option_map (λ (x : WindowRow). x.window)) gone-row

    others-at : (k : ℕ) → (k ≡ row.made → ⊥) → window_at left k ≡ window_at rows k
    others-at k other =
        ap (option_map (λ (x : WindowRow). x.window))
        (find-filter (is_made k) (λ x. not (has_key window_key (window_key row) x)) rows
        (λ x is. other-made x.window.image x.made row.window.image row.made k is (not-other k row.made other)))

    pub found-first : find (λ w. w.image == image) (windows_of rows made) ≡ Some row.window
    found-first = found-taken (window_at rows) (window_at left) row.made row.window at-number gone-at others-at (λ (w : OnScreen). w.image == image) made within before is_its

    pub others-left : filter (λ w. not (w.image == image)) (windows_of left made) ≡ filter (λ w. not (w.image == image)) (windows_of rows made)
    others-left =
        others-taken (window_at rows) (window_at left) row.made row.window at-number gone-at others-at (λ (w : OnScreen). not (w.image == image)) made within (ap not is_its)

    pub counted-left : (q : OnScreen → Bool) → count_by q (windows_of rows made) ≡ cond (q row.window) 1 0 + count_by q (windows_of left made)
    counted-left q = counted-taken (window_at rows) (window_at left) row.made row.window at-number gone-at others-at q made within

    pub fewer-left : length (windows_of rows made) ≡ length (windows_of left made) + 1
    fewer-left = fewer-taken (window_at rows) (window_at left) row.made row.window at-number gone-at others-at made within

    once-left : (other n : ℕ) → IfSome (find (has_key window_key (key other n 0)) left) (λ x. find (is_made n) left ≡ Some x)
    once-left other n =
        let P : Option WindowRow → Type 0 = λ o. IfSome o (λ x. find (is_made n) left ≡ Some x) in
        subst P (sym (found-without window_key (window_key row) (key other n 0) rows)) (pick (is_key (window_key row) (key other n 0)) refl)
      where
        old : is_key (window_key row) (key other n 0) ≡ false → (o : Option WindowRow) → find (has_key window_key (key other n 0)) rows ≡ o → IfSome o (λ x. find (is_made n) rows ≡ Some x)
            → IfSome o (λ x. find (is_made n) left ≡ Some x)
        old apart None e h = tt
        old apart (Some x) e h =
            let is : is_key (window_key x) (key other n 0) ≡ true = find-holds (has_key window_key (key other n 0)) rows x e in
            find-filter-kept (is_made n) (λ y. not (has_key window_key (window_key row) y)) rows x h
            (ap (λ (k : Key). not (is_key k (window_key row))) (is-same (window_key x) (key other n 0) is) ∙ swapped-other (window_key row) (key other n 0) apart)

        pick : (t : Bool) → is_key (window_key row) (key other n 0) ≡ t
            → IfSome (if t then None else find (has_key window_key (key other n 0)) rows) (λ x. find (is_made n) left ≡ Some x)
        pick true at = tt
        pick false at = old at (find (has_key window_key (key other n 0)) rows) refl (are.once other n)

    pub are-left : AreMade left made
    are-left = record {
      order = ascend-filter window_key _ rows are.order;
      once = once-left;
      below = λ n l. find-filter-none (is_made n) _ rows (are.below n l);
      counted = let rows_fewer = length-without window_key (window_key row) rows row are.order keyed in omega (arith, fewer-left, rows_fewer, are.counted);
    }
