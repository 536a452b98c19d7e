-- The rows of what the images of a connection count, as entries of a map from image ids.
use Rattle.std.proofs.Common.{◌≡◌, ℕ, ◌+◌, ◌<◌, ◌≤◌, ◌⊎◌, Bool, true, false, cond, List, [], ◌∷◌, Some, Less, Equal, Greater, nat_cmp, inl, inr, refl, sym, ap, subst, ◌∙◌, arith}
use Rattle.std.specs.Prelude.{◌==◌, find, if◌then◌else◌}
use Rattle.std.specs.Cmp.{nat_cmp_is}
use Rattle.std.proofs.lemmas.Bool.{cases_lt}
use Rattle.std.proofs.lemmas.Bool.Decides.{nat_tests}
use Rattle.std.proofs.lemmas.List.Sums.{sum_by-cons}
use Rattle.model_text.specs.text.Map.{and, without}
use Rattle.r9_ids.specs.declared.sorted.key.Key.{Key}
use Rattle.r9_ids.specs.sorted.Order.{key, comes_before}
use Rattle.r9_ids.specs.sorted.Rows.{has_key, put_in_order, without_key, AreAfter, Ascend}
use Rattle.r9_ids.proofs.sorted.Order.{is-same, one-before, one-is}
use Rattle.r9_ids.proofs.sorted.Ascending.{after-less, after-none, drop-head, keep-head, none-kept, put-first, put-step}
use Rattle.r9_device.specs.declared.client.size.Size.{Size}
use Rattle.r9_device.specs.client.Rows.{entries_of, entry_of_row, key_of, total_of}

abbrev at : ℕ → Key
at id = key id 0 0

-- the rows after that of an id do not have it
none-after : (id : ℕ) (x : Size) (xs : List Size) → x.id ≡ id → AreAfter key_of (key_of x) xs → without_key key_of (at id) xs ≡ xs
none-after id x xs same after = none-kept (has_key key_of (at id)) xs (ap (λ n. find (has_key key_of (at n)) xs) (sym same) ∙ after-none key_of (key_of x) xs after)

has : (id : ℕ) (x : Size) (b : Bool) → x.id == id ≡ b → has_key key_of (at id) x ≡ b
has id x b is = one-is x.id id ∙ is

pub without-rows : (id : ℕ) (rows : List Size) → Ascend key_of rows → entries_of (without_key key_of (at id) rows) ≡ without (entries_of rows) id
without-rows id [] ascend = refl
without-rows id (x ∷ xs) ascend = by (without-rows id xs ascend.1) (x.id == id) refl
  where
    by : entries_of (without_key key_of (at id) xs) ≡ without (entries_of xs) id → (b : Bool) → x.id == id ≡ b
        → entries_of (without_key key_of (at id) (x ∷ xs)) ≡ cond b (entries_of xs) (entry_of_row x ∷ without (entries_of xs) id)
    by more true is =
        let same : x.id ≡ id = grind (arith, nat_tests) in
        ap entries_of (drop-head (has_key key_of (at id)) x xs (has id x true is) ∙ none-after id x xs same ascend.0)
    by more false is = ap entries_of (keep-head (has_key key_of (at id)) x xs (has id x false is)) ∙ ap (λ es. entry_of_row x ∷ es) more

-- ---- setting

pub set-rows : (row : Size) (rows : List Size) → Ascend key_of rows → entries_of (put_in_order key_of row (without_key key_of (key_of row) rows)) ≡ and (entries_of rows) row.id row.size
set-rows row [] ascend = refl
set-rows row (x ∷ xs) ascend = by (set-rows row xs ascend.1) (cases_lt row.id x.id)
  where
    rest : List Size
    rest = without_key key_of (key_of row) xs

    lower : row.id < x.id → entries_of (put_in_order key_of row (without_key key_of (key_of row) (x ∷ xs))) ≡ and (entries_of (x ∷ xs)) row.id row.size
    lower less =
        let before : comes_before (key_of row) (key_of x) ≡ true = one-before row.id x.id ∙ grind (arith, nat_tests) in
        let after : AreAfter key_of (key_of row) (x ∷ xs) = (before, after-less key_of (key_of row) (key_of x) xs before ascend.0) in
        let order : nat_cmp row.id x.id ≡ Less = sym (nat_cmp_is row.id x.id Less less) in
        ap (λ rows. entries_of (put_in_order key_of row rows)) (none-kept (has_key key_of (key_of row)) (x ∷ xs) (after-none key_of (key_of row) (x ∷ xs) after))
        ∙ ap entries_of (put-first key_of row (x ∷ xs) after)
        ∙ rw order refl

    same : row.id ≡ x.id → entries_of (put_in_order key_of row (without_key key_of (key_of row) (x ∷ xs))) ≡ and (entries_of (x ∷ xs)) row.id row.size
    same is =
        let here : x.id == row.id ≡ true = grind (arith, nat_tests) in
        let after : AreAfter key_of (key_of row) xs = subst (λ n. AreAfter key_of (at n) xs) (sym is) ascend.0 in
        let order : nat_cmp row.id x.id ≡ Equal = sym (nat_cmp_is row.id x.id Equal is) in
        let cons : (id size : ℕ) → List (ℕ × ℕ) → List (ℕ × ℕ) = λ id size es. (id, size) ∷ es in
        ap (λ rows. entries_of (put_in_order key_of row rows)) (drop-head (has_key key_of (key_of row)) x xs (has row.id x true here) ∙ none-after row.id x xs (sym is) ascend.0)
        ∙ ap entries_of (put-first key_of row xs after)
        ∙ ap (λ id. cons id row.size (entries_of xs)) is
        ∙ rw order refl

    higher : x.id < row.id → entries_of (put_in_order key_of row rest) ≡ and (entries_of xs) row.id row.size
        → entries_of (put_in_order key_of row (without_key key_of (key_of row) (x ∷ xs))) ≡ and (entries_of (x ∷ xs)) row.id row.size
    higher less more =
        let other : x.id == row.id ≡ false = grind (arith, nat_tests) in
        let later : comes_before (key_of row) (key_of x) ≡ false = one-before row.id x.id ∙ grind (arith, nat_tests) in
        let order : nat_cmp row.id x.id ≡ Greater = sym (nat_cmp_is row.id x.id Greater less) in
        ap (λ rows. entries_of (put_in_order key_of row rows)) (keep-head (has_key key_of (key_of row)) x xs (has row.id x false other))
        ∙ ap entries_of (put-step key_of row x rest later)
        ∙ ap (λ es. entry_of_row x ∷ es) more
        ∙ rw order refl

    by : entries_of (put_in_order key_of row rest) ≡ and (entries_of xs) row.id row.size → (row.id < x.id) ⊎ (x.id ≤ row.id)
        → entries_of (put_in_order key_of row (without_key key_of (key_of row) (x ∷ xs))) ≡ and (entries_of (x ∷ xs)) row.id row.size
    by more (inl less) = lower less
    by more (inr le) = elim (cases_lt x.id row.id) [ inl less ↦ higher less more | inr ge ↦ same (omega arith) ]

-- ---- what all count

head : (x : Size) (xs : List Size) → total_of (x ∷ xs) ≡ x.size + total_of xs
head x xs = sum_by-cons (λ (e : ℕ × ℕ). e.1) (entry_of_row x) (entries_of xs)

pub put-total : (row : Size) (rows : List Size) → total_of (put_in_order key_of row rows) ≡ row.size + total_of rows
put-total row [] = head row []
put-total row (x ∷ xs) = by (put-total row xs) (comes_before (key_of row) (key_of x))
  where
    by : total_of (put_in_order key_of row xs) ≡ row.size + total_of xs → (b : Bool) → total_of (if b then row ∷ x ∷ xs else x ∷ put_in_order key_of row xs) ≡ row.size + total_of (x ∷ xs)
    by more true = head row (x ∷ xs)
    by more false = omega (arith, head x (put_in_order key_of row xs), head x xs, more)

pub without-total : (id : ℕ) (rows : List Size) (found : Size) → Ascend key_of rows → find (has_key key_of (at id)) rows ≡ Some found → total_of (without_key key_of (at id) rows) + found.size ≡ total_of rows
without-total id [] found ascend is = absurd cc
without-total id (x ∷ xs) found ascend is = by (without-total id xs found ascend.1) (has_key key_of (at id) x) refl is
  where
    by : (find (has_key key_of (at id)) xs ≡ Some found → total_of (without_key key_of (at id) xs) + found.size ≡ total_of xs) → (b : Bool) → has_key key_of (at id) x ≡ b
        → cond b (Some x) (find (has_key key_of (at id)) xs) ≡ Some found → total_of (without_key key_of (at id) (x ∷ xs)) + found.size ≡ total_of (x ∷ xs)
    by more true here is =
        let same : x ≡ found = cc in
        let left = ap total_of (drop-head (has_key key_of (at id)) x xs here ∙ none-after id x xs (ap (λ (k : Key). k.first) (is-same (key_of x) (at id) here)) ascend.0) in
        omega (arith, left, head x xs, ap (λ (row : Size). row.size) same)
    by more false other is =
        let left = ap total_of (keep-head (has_key key_of (at id)) x xs other) in
        omega (arith, left, head x xs, head x (without_key key_of (at id) xs), more is)
