-- Laws for callers: what is found after a change, when two lists of rows are the same, and the rows of a group, which follow one
-- another.
use Rattle.std.proofs.Common.{◌≡◌, ℕ, Bool, true, false, cond, List, [], ◌∷◌, Option, Some, None, refl, sym, ap, ◌∙◌, arith}
use Rattle.std.specs.Prelude.{not, ◌==◌, ◌&&◌, find, filter, if◌then◌else◌}
use Rattle.std.proofs.lemmas.Bool.Decides.{nat_tests}
use Rattle.r9_ids.specs.declared.sorted.key.Key.{Key}
use Rattle.r9_ids.specs.sorted.Order.{key, comes_before, is_key}
use Rattle.r9_ids.specs.sorted.Rows.{has_key, is_before, put_in_order, without_key, first_from, AreAfter, Ascend}
use Rattle.r9_ids.proofs.sorted.Order.{before-other, not-both, is-same, same-is}
use Rattle.r9_ids.proofs.sorted.Ascending.{find-miss, find-hit, miss-tail, miss-head, none-kept, after-none, after-found, keep-head, drop-head, put-first, put-step}

-- ---- tests that agree

pub find-same : {X : Type 0} (p q : X → Bool) → ((x : X) → p x ≡ q x) → (xs : List X) → find p xs ≡ find q xs
find-same p q same xs = ap (λ (r : _ → Bool). find r xs) (λ i x. same x i)

pub filter-same : {X : Type 0} (p q : X → Bool) → ((x : X) → p x ≡ q x) → (xs : List X) → filter p xs ≡ filter q xs
filter-same p q same xs = ap (λ (r : _ → Bool). filter r xs) (λ i x. same x i)

-- No key before the first has what the group has, and none after one that is not before the first and has it not.
pub record IsGroup (of : Key → Bool) (first : Key) : Type 0 where
  pub before : (k : Key) → comes_before k first ≡ true → of k ≡ false
  pub after : (j k : Key) → comes_before j first ≡ false → of j ≡ false → comes_before j k ≡ true → of k ≡ false

true-false : true ≡ false → ⊥
true-false h = cc

either : {X : Type 0} (b : Bool) (x : X) → x ≡ (if b then x else x)
either true x = refl
either false x = refl

none-some : {X : Type 0} (x : X) → None ≡ Some x → ⊥
none-some x h = cc

apart : (of : Key → Bool) (a b : Key) → of a ≡ false → of b ≡ true → is_key a b ≡ false
apart of a b miss hit = by (is_key a b) refl
  where
    by : (t : Bool) → is_key a b ≡ t → t ≡ false
    by true is = absurd (true-false (sym hit ∙ ap of (sym (is-same a b is)) ∙ miss))
    by false is = refl

swapped-other : (a b : Key) → is_key a b ≡ false → is_key b a ≡ false
swapped-other a b h = by (is_key b a) refl
  where
    by : (t : Bool) → is_key b a ≡ t → t ≡ false
    by true at = absurd (true-false (sym (same-is b) ∙ ap (λ k. is_key k b) (is-same b a at) ∙ h))
    by false at = refl

-- what is found first is what a filter leaves first
pub find-in-filter : {X : Type 0} (p : X → Bool) (xs : List X) (x : X) (ys : List X) → filter p xs ≡ x ∷ ys → find p xs ≡ Some x
find-in-filter p [] x ys h = absurd cc
find-in-filter p (z ∷ zs) x ys h = by (find-in-filter p zs x ys) (p z) h
  where
    by : (filter p zs ≡ x ∷ ys → find p zs ≡ Some x) → (t : Bool) → cond t (z ∷ filter p zs) (filter p zs) ≡ x ∷ ys → cond t (Some z) (find p zs) ≡ Some x
    by more true h = cc
    by more false h = more h

pub none-in-filter : {X : Type 0} (p : X → Bool) (xs : List X) → filter p xs ≡ [] → find p xs ≡ None
none-in-filter p [] h = refl
none-in-filter p (z ∷ zs) h = by (none-in-filter p zs) (p z) h
  where
    by : (filter p zs ≡ [] → find p zs ≡ None) → (t : Bool) → cond t (z ∷ filter p zs) (filter p zs) ≡ [] → cond t (Some z) (find p zs) ≡ None
    by more true h = absurd cc
    by more false h = more h

module _ {T : Type 0} (key_of : T → Key) where
  filter-miss : (of : Key → Bool) (x : T) (xs : List T) → of (key_of x) ≡ false → filter (λ row. of (key_of row)) (x ∷ xs) ≡ filter (λ row. of (key_of row)) xs
  filter-miss of x xs miss = rw miss refl

  filter-hit : (of : Key → Bool) (x : T) (xs : List T) → of (key_of x) ≡ true → filter (λ row. of (key_of row)) (x ∷ xs) ≡ x ∷ filter (λ row. of (key_of row)) xs
  filter-hit of x xs hit = rw hit refl

  -- another definition of putting in order is the same where its equations are
  pub put-is : (put : T → List T → List T) → ((row : T) → put row [] ≡ row ∷ [])
      → ((row x : T) (xs : List T) → put row (x ∷ xs) ≡ (if comes_before (key_of row) (key_of x) then row ∷ x ∷ xs else x ∷ put row xs))
      → (row : T) (xs : List T) → put_in_order key_of row xs ≡ put row xs
  put-is put nil cons row [] = sym (nil row)
  put-is put nil cons row (x ∷ xs) =
      ap (λ (ys : List T). if comes_before (key_of row) (key_of x) then row ∷ x ∷ xs else x ∷ ys) (put-is put nil cons row xs)
      ∙ sym (cons row x xs)

  -- ---- what is found

  -- a row that was put is found, and each other as before
  pub found-put : (k : Key) (row : T) (xs : List T) → find (has_key key_of (key_of row)) xs ≡ None
      → find (has_key key_of k) (put_in_order key_of row xs) ≡ (if is_key (key_of row) k then Some row else find (has_key key_of k) xs)
  found-put k row [] none = refl
  found-put k row (x ∷ xs) none = by (found-put k row xs (miss-tail (has_key key_of (key_of row) x) x _ none)) (miss-head (has_key key_of (key_of row) x) x _ none) (comes_before (key_of row) (key_of x))
    where
      by : find (has_key key_of k) (put_in_order key_of row xs) ≡ (if is_key (key_of row) k then Some row else find (has_key key_of k) xs) → has_key key_of (key_of row) x ≡ false → (t : Bool)
          → find (has_key key_of k) (if t then row ∷ x ∷ xs else x ∷ put_in_order key_of row xs) ≡ (if is_key (key_of row) k then Some row else find (has_key key_of k) (x ∷ xs))
      by more other true = refl
      by more other false = pick (has_key key_of k x) refl (is_key (key_of row) k) refl other more
        where
          pick : (t : Bool) → has_key key_of k x ≡ t → (u : Bool) → is_key (key_of row) k ≡ u → has_key key_of (key_of row) x ≡ false → find (has_key key_of k) (put_in_order key_of row xs) ≡ (if u then Some row else find (has_key key_of k) xs)
              → cond t (Some x) (find (has_key key_of k) (put_in_order key_of row xs)) ≡ (if u then Some row else cond t (Some x) (find (has_key key_of k) xs))
          pick true at true is other more = absurd (true-false (sym (same-is (key_of x)) ∙ ap (is_key (key_of x)) (is-same (key_of x) k at ∙ sym (is-same (key_of row) k is)) ∙ other))
          pick true at false is other more = refl
          pick false at u is other more = more

  -- a row that was taken out is not found, and each other as before
  pub found-without : (k j : Key) (xs : List T) → find (has_key key_of j) (without_key key_of k xs) ≡ (if is_key k j then None else find (has_key key_of j) xs)
  found-without k j [] = either (is_key k j) None
  found-without k j (x ∷ xs) = by (found-without k j xs) (has_key key_of k x) refl (is_key k j) refl
    where
      by : find (has_key key_of j) (without_key key_of k xs) ≡ (if is_key k j then None else find (has_key key_of j) xs) → (t : Bool) → has_key key_of k x ≡ t → (v : Bool) → is_key k j ≡ v
          → find (has_key key_of j) (without_key key_of k (x ∷ xs)) ≡ (if v then None else find (has_key key_of j) (x ∷ xs))
      by more true at true is = ap (find (has_key key_of j)) (drop-head (has_key key_of k) x xs at) ∙ more ∙ rw is refl
      by more true at false is =
          let other : has_key key_of j x ≡ false = ap (λ (i : Key). is_key i j) (is-same (key_of x) k at) ∙ is in
          ap (find (has_key key_of j)) (drop-head (has_key key_of k) x xs at) ∙ more ∙ rw is (sym (find-miss (has_key key_of j) x xs other))
      by more false at true is =
          let other : has_key key_of j x ≡ false = sym (ap (is_key (key_of x)) (is-same k j is)) ∙ at in
          ap (find (has_key key_of j)) (keep-head (has_key key_of k) x xs at) ∙ find-miss (has_key key_of j) x _ other ∙ more ∙ rw is refl
      by more false at false is =
          let rest : find (has_key key_of j) (without_key key_of k xs) ≡ find (has_key key_of j) xs = more ∙ rw is refl in
          ap (find (has_key key_of j)) (keep-head (has_key key_of k) x xs at) ∙ ap (λ (o : Option T). cond (has_key key_of j x) (Some x) o) rest

  -- a row that was taken out, put again
  pub put-back : (k : Key) (xs : List T) (row : T) → Ascend key_of xs → find (has_key key_of k) xs ≡ Some row → put_in_order key_of row (without_key key_of k xs) ≡ xs
  put-back k [] row a h = absurd cc
  put-back k (x ∷ xs) row a h = by (put-back k xs row a.1) (has_key key_of k x) refl h
    where
      by : (find (has_key key_of k) xs ≡ Some row → put_in_order key_of row (without_key key_of k xs) ≡ xs) → (t : Bool) → has_key key_of k x ≡ t → cond t (Some x) (find (has_key key_of k) xs) ≡ Some row → put_in_order key_of row (without_key key_of k (x ∷ xs)) ≡ x ∷ xs
      by more true at h =
          let same : x ≡ row = cc in
          let is : key_of x ≡ k = is-same (key_of x) k at in
          let after : AreAfter key_of k xs = rw (← is) a.0 in
          ap (put_in_order key_of row) (drop-head (has_key key_of k) x xs at ∙ none-kept (has_key key_of k) xs (after-none key_of k xs after))
          ∙ rw (← same) (put-first key_of x xs a.0)
      by more false at h =
          let later : comes_before (key_of row) (key_of x) ≡ false = not-both (key_of x) (key_of row) (after-found key_of (key_of x) k xs row a.0 h) in
          ap (put_in_order key_of row) (keep-head (has_key key_of k) x xs at)
          ∙ put-step key_of row x (without_key key_of k xs) later ∙ ap (λ (ys : List T). x ∷ ys) (more h)

  -- a row that is found has the key
  pub found-key : (k : Key) (xs : List T) (row : T) → find (has_key key_of k) xs ≡ Some row → key_of row ≡ k
  found-key k [] row h = absurd cc
  found-key k (x ∷ xs) row h = by (found-key k xs row) (has_key key_of k x) refl h
    where
      by : (find (has_key key_of k) xs ≡ Some row → key_of row ≡ k) → (t : Bool) → has_key key_of k x ≡ t → cond t (Some x) (find (has_key key_of k) xs) ≡ Some row → key_of row ≡ k
      by more true at h = let same : x ≡ row = cc in ap key_of (sym same) ∙ is-same (key_of x) k at
      by more false at h = more h

  -- the row that comes first is found by its key
  pub found-first : (k : Key) (xs : List T) (row : T) → Ascend key_of xs → first_from key_of k xs ≡ Some row → find (has_key key_of (key_of row)) xs ≡ Some row
  found-first k [] row a h = absurd cc
  found-first k (x ∷ xs) row a h = by (found-first k xs row a.1) (is_before key_of k x) h
    where
      by : (first_from key_of k xs ≡ Some row → find (has_key key_of (key_of row)) xs ≡ Some row) → (t : Bool) → cond (not t) (Some x) (first_from key_of k xs) ≡ Some row → find (has_key key_of (key_of row)) (x ∷ xs) ≡ Some row
      by more true h =
          let later : comes_before (key_of x) (key_of row) ≡ true = after-found key_of (key_of x) (key_of row) xs row a.0 (more h) in
          find-miss (has_key key_of (key_of row)) x xs (before-other (key_of x) (key_of row) later) ∙ more h
      by more false h =
          let same : x ≡ row = cc in
          find-hit (has_key key_of (key_of row)) x xs (ap (λ (y : T). is_key (key_of y) (key_of row)) same ∙ same-is (key_of row)) ∙ ap (λ (y : T). Some y) same

  -- ---- a group of rows that follow one another

  past : (of : Key → Bool) (first j : Key) → IsGroup of first → comes_before j first ≡ false → of j ≡ false → (xs : List T) → AreAfter key_of j xs → filter (λ row. of (key_of row)) xs ≡ []
  past of first j group l other [] after = refl
  past of first j group l other (x ∷ xs) after = rw (group.after j (key_of x) l other after.0) (past of first j group l other xs after.1)

  pub group-none : (of : Key → Bool) (first : Key) → IsGroup of first → (xs : List T) → first_from key_of first xs ≡ None → filter (λ row. of (key_of row)) xs ≡ []
  group-none of first group [] h = refl
  group-none of first group (x ∷ xs) h = by (group-none of first group xs) (is_before key_of first x) refl h
    where
      by : (first_from key_of first xs ≡ None → filter (λ row. of (key_of row)) xs ≡ []) → (t : Bool) → is_before key_of first x ≡ t → cond (not t) (Some x) (first_from key_of first xs) ≡ None → filter (λ row. of (key_of row)) (x ∷ xs) ≡ []
      by more true at h = rw (group.before (key_of x) at) (more h)
      by more false at h = absurd cc

  pub group-past : (of : Key → Bool) (first : Key) → IsGroup of first → (xs : List T) (row : T) → Ascend key_of xs → first_from key_of first xs ≡ Some row → of (key_of row) ≡ false → filter (λ row. of (key_of row)) xs ≡ []
  group-past of first group [] row a h other = refl
  group-past of first group (x ∷ xs) row a h other = by (group-past of first group xs row a.1) (is_before key_of first x) refl h
    where
      by : (first_from key_of first xs ≡ Some row → of (key_of row) ≡ false → filter (λ row. of (key_of row)) xs ≡ []) → (t : Bool) → is_before key_of first x ≡ t → cond (not t) (Some x) (first_from key_of first xs) ≡ Some row → filter (λ row. of (key_of row)) (x ∷ xs) ≡ []
      by more true at h = rw (group.before (key_of x) at) (more h other)
      by more false at h =
          let same : x ≡ row = cc in
          let miss : of (key_of x) ≡ false = rw same other in
          rw miss (past of first (key_of x) group at miss xs a.0)

  pub group-first : (of : Key → Bool) (first : Key) → IsGroup of first → (xs : List T) (row : T) → Ascend key_of xs → first_from key_of first xs ≡ Some row → of (key_of row) ≡ true
      → filter (λ row. of (key_of row)) xs ≡ row ∷ filter (λ row. of (key_of row)) (without_key key_of (key_of row) xs)
  group-first of first group [] row a h is = absurd cc
  group-first of first group (x ∷ xs) row a h is = by (group-first of first group xs row a.1) (is_before key_of first x) refl h is
    where
      by : (first_from key_of first xs ≡ Some row → of (key_of row) ≡ true → filter (λ row. of (key_of row)) xs ≡ row ∷ filter (λ row. of (key_of row)) (without_key key_of (key_of row) xs)) → (t : Bool) → is_before key_of first x ≡ t
          → cond (not t) (Some x) (first_from key_of first xs) ≡ Some row → of (key_of row) ≡ true
          → filter (λ row. of (key_of row)) (x ∷ xs) ≡ row ∷ filter (λ row. of (key_of row)) (without_key key_of (key_of row) (x ∷ xs))
      by more true at h is =
          let miss : of (key_of x) ≡ false = group.before (key_of x) at in
          let other : has_key key_of (key_of row) x ≡ false = apart of (key_of x) (key_of row) miss is in
          filter-miss of x xs miss ∙ more h is
          ∙ ap (λ (ys : List T). row ∷ ys) (sym (ap (filter (λ (y : T). of (key_of y))) (keep-head (has_key key_of (key_of row)) x xs other) ∙ filter-miss of x (without_key key_of (key_of row) xs) miss))
      by more false at h is =
          let same : x ≡ row = cc in
          let hit : of (key_of x) ≡ true = rw same is in
          let itself : has_key key_of (key_of row) x ≡ true = rw same (same-is (key_of row)) in
          let after : AreAfter key_of (key_of row) xs = rw (← same) a.0 in
          filter-hit of x xs hit ∙ ap (λ (y : T). y ∷ filter (λ row. of (key_of row)) xs) same
          ∙ ap (λ (ys : List T). row ∷ filter (λ row. of (key_of row)) ys) (sym (drop-head (has_key key_of (key_of row)) x xs itself ∙ none-kept (has_key key_of (key_of row)) xs (after-none key_of (key_of row) xs after)))

  -- ---- the same rows

  same-head : (x y : T) (xs ys : List T) → Ascend key_of (x ∷ xs) → Ascend key_of (y ∷ ys) → ((k : Key) → find (has_key key_of k) (x ∷ xs) ≡ find (has_key key_of k) (y ∷ ys)) → x ≡ y
  same-head x y xs ys a b same = by (is_key (key_of y) (key_of x)) refl
    where
      by : (t : Bool) → is_key (key_of y) (key_of x) ≡ t → x ≡ y
      by true at = let found : Some x ≡ Some y = sym (find-hit (has_key key_of (key_of x)) x xs (same-is (key_of x))) ∙ same (key_of x) ∙ find-hit (has_key key_of (key_of x)) y ys at in cc
      by false at =
          let above : comes_before (key_of y) (key_of x) ≡ true = after-found key_of (key_of y) (key_of x) ys x b.0 (sym (find-miss (has_key key_of (key_of x)) y ys at) ∙ sym (same (key_of x)) ∙ find-hit (has_key key_of (key_of x)) x xs (same-is (key_of x))) in
          let below : comes_before (key_of x) (key_of y) ≡ true = after-found key_of (key_of x) (key_of y) xs y a.0 (sym (find-miss (has_key key_of (key_of y)) x xs (swapped-other (key_of y) (key_of x) at)) ∙ same (key_of y) ∙ find-hit (has_key key_of (key_of y)) y ys (same-is (key_of y))) in
          absurd (true-false (sym above ∙ not-both (key_of x) (key_of y) below))

  same-tail : (x y : T) (xs ys : List T) → Ascend key_of (x ∷ xs) → Ascend key_of (y ∷ ys) → ((k : Key) → find (has_key key_of k) (x ∷ xs) ≡ find (has_key key_of k) (y ∷ ys)) → x ≡ y
      → (k : Key) (t : Bool) → is_key (key_of x) k ≡ t → find (has_key key_of k) xs ≡ find (has_key key_of k) ys
  same-tail x y xs ys a b same head k true at =
      let is : key_of x ≡ k = is-same (key_of x) k at in
      let that : key_of y ≡ k = ap key_of (sym head) ∙ is in
      let left : AreAfter key_of k xs = rw (← is) a.0 in
      let right : AreAfter key_of k ys = rw (← that) b.0 in
      after-none key_of k xs left ∙ sym (after-none key_of k ys right)
  same-tail x y xs ys a b same head k false at =
      sym (find-miss (has_key key_of k) x xs at) ∙ same k ∙ find-miss (has_key key_of k) y ys (ap (λ (z : T). is_key (key_of z) k) (sym head) ∙ at)

  -- two lists in which each key finds the same are one
  pub same-rows : (xs ys : List T) → Ascend key_of xs → Ascend key_of ys → ((k : Key) → find (has_key key_of k) xs ≡ find (has_key key_of k) ys) → xs ≡ ys
  same-rows [] [] a b same = refl
  same-rows [] (y ∷ ys) a b same = absurd (none-some y (same (key_of y) ∙ find-hit (has_key key_of (key_of y)) y ys (same-is (key_of y))))
  same-rows (x ∷ xs) [] a b same = absurd (none-some x (sym (same (key_of x)) ∙ find-hit (has_key key_of (key_of x)) x xs (same-is (key_of x))))
  same-rows (x ∷ xs) (y ∷ ys) a b same =
      let head = same-head x y xs ys a b same in
      (λ i. head i ∷ same-rows xs ys a.1 b.1 (λ k. same-tail x y xs ys a b same head k (is_key (key_of x) k) refl) i)

first-before : (n : ℕ) (k : Key) → comes_before k (key n 0 0) ≡ true → (k.first == n) ≡ false
unfolding comes_before
first-before n k h = grind (arith, nat_tests)

first-after : (n : ℕ) (j k : Key) → comes_before j (key n 0 0) ≡ false → (j.first == n) ≡ false → comes_before j k ≡ true → (k.first == n) ≡ false
unfolding comes_before
first-after n j k l other h = grind (arith, nat_tests)

-- the keys of one first number
pub first-group : (n : ℕ) → IsGroup (λ k. k.first == n) (key n 0 0)
first-group n = record { before = first-before n; after = first-after n }

pair-before : (n m : ℕ) (k : Key) → comes_before k (key n m 0) ≡ true → ((k.first == n) && (k.second == m)) ≡ false
unfolding comes_before
pair-before n m k h = grind (arith, nat_tests)

pair-after : (n m : ℕ) (j k : Key) → comes_before j (key n m 0) ≡ false → ((j.first == n) && (j.second == m)) ≡ false → comes_before j k ≡ true → ((k.first == n) && (k.second == m)) ≡ false
unfolding comes_before
pair-after n m j k l other h = grind (arith, nat_tests)

-- the keys of one first and one second number
pub pair-group : (n m : ℕ) → IsGroup (λ k. (k.first == n) && (k.second == m)) (key n m 0)
pair-group n m = record { before = pair-before n m; after = pair-after n m }
