-- Laws for callers: a row that passes a test is found by its key, and the first that passes it has the least key.
use Rattle.std.proofs.Common.{◌≡◌, Bool, true, false, cond, List, [], ◌∷◌, Option, Some, None, refl, sym, ap, ◌∙◌}
use Rattle.std.specs.Prelude.{find, if◌then◌else◌}
use Rattle.r9_ids.specs.declared.sorted.key.Key.{Key}
use Rattle.r9_ids.specs.sorted.Order.{comes_before, is_key}
use Rattle.r9_ids.specs.sorted.Rows.{has_key, put_in_order, AreAfter, Ascend}
use Rattle.r9_ids.proofs.sorted.Order.{before-other, not-both, same-is}
use Rattle.r9_ids.proofs.sorted.Ascending.{find-miss, find-hit, miss-head, miss-tail}

-- what is found passes the test
pub find-holds : {X : Type 0} (p : X → Bool) (xs : List X) (x : X) → find p xs ≡ Some x → p x ≡ true
find-holds p [] x h = absurd cc
find-holds p (y ∷ ys) x h = by (find-holds p ys x) (p y) refl h
  where
    by : (find p ys ≡ Some x → p x ≡ true) → (t : Bool) → p y ≡ t → cond t (Some y) (find p ys) ≡ Some x → p x ≡ true
    by more true at h = let same : y ≡ x = cc in ap p (sym same) ∙ at
    by more false at h = more h

-- where none passes a test, what is found by another does not
pub none-holds : {X : Type 0} (p q : X → Bool) (xs : List X) (x : X) → find p xs ≡ None → find q xs ≡ Some x → p x ≡ false
none-holds p q [] x none h = absurd cc
none-holds p q (y ∷ ys) x none h = by (none-holds p q ys x (miss-tail (p y) y _ none)) (q y) h
  where
    by : (find q ys ≡ Some x → p x ≡ false) → (t : Bool) → cond t (Some y) (find q ys) ≡ Some x → p x ≡ false
    by more true h = let same : y ≡ x = cc in ap p (sym same) ∙ miss-head (p y) y _ none
    by more false h = more h

module _ {T : Type 0} (key_of : T → Key) where
  -- a row that comes after is greater, whatever it is found by
  pub after-holds : (k : Key) (p : T → Bool) (xs : List T) (x : T) → AreAfter key_of k xs → find p xs ≡ Some x → comes_before k (key_of x) ≡ true
  after-holds k p [] x after h = absurd cc
  after-holds k p (y ∷ ys) x after h = by (after-holds k p ys x after.1) (p y) h
    where
      by : (find p ys ≡ Some x → comes_before k (key_of x) ≡ true) → (t : Bool) → cond t (Some y) (find p ys) ≡ Some x → comes_before k (key_of x) ≡ true
      by more true h = let same : y ≡ x = cc in rw (← same) after.0
      by more false h = more h

  -- a row that is found by a test is found by its key
  pub own-found : (p : T → Bool) (xs : List T) (x : T) → Ascend key_of xs → find p xs ≡ Some x → find (has_key key_of (key_of x)) xs ≡ Some x
  own-found p [] x a h = absurd cc
  own-found p (y ∷ ys) x a h = by (own-found p ys x a.1) (p y) h
    where
      by : (find p ys ≡ Some x → find (has_key key_of (key_of x)) ys ≡ Some x) → (t : Bool) → cond t (Some y) (find p ys) ≡ Some x → find (has_key key_of (key_of x)) (y ∷ ys) ≡ Some x
      by more true h =
          let same : y ≡ x = cc in
          find-hit (has_key key_of (key_of x)) y ys (ap (λ (z : T). is_key (key_of z) (key_of x)) same ∙ same-is (key_of x)) ∙ ap (λ (z : T). Some z) same
      by more false h =
          find-miss (has_key key_of (key_of x)) y ys (before-other (key_of y) (key_of x) (after-holds (key_of y) p ys x a.0 h)) ∙ more h

  -- the first row that passes a test has the least key of those that do
  pub least-found : (p q : T → Bool) (xs : List T) (x y : T) → Ascend key_of xs → find p xs ≡ Some x → find q xs ≡ Some y → p y ≡ true → comes_before (key_of y) (key_of x) ≡ false
  least-found p q [] x y a h k is = absurd cc
  least-found p q (z ∷ zs) x y a h k is = by (least-found p q zs x y a.1) (p z) refl h (q z) k
    where
      irreflexive : (j : Key) → comes_before j j ≡ false
      irreflexive j = pick (comes_before j j) refl
        where
          pick : (t : Bool) → comes_before j j ≡ t → t ≡ false
          pick true at = sym at ∙ not-both j j at
          pick false at = refl

      true-false : true ≡ false → ⊥
      true-false h = cc

      by : (find p zs ≡ Some x → find q zs ≡ Some y → p y ≡ true → comes_before (key_of y) (key_of x) ≡ false) → (t : Bool) → p z ≡ t → cond t (Some z) (find p zs) ≡ Some x
          → (u : Bool) → cond u (Some z) (find q zs) ≡ Some y → comes_before (key_of y) (key_of x) ≡ false
      by more true at h true k =
          let first : z ≡ x = cc in
          let second : z ≡ y = cc in
          ap (λ (w : T). comes_before (key_of w) (key_of x)) (sym second) ∙ ap (λ (w : T). comes_before (key_of z) (key_of w)) (sym first) ∙ irreflexive (key_of z)
      by more true at h false k =
          let first : z ≡ x = cc in
          ap (λ (w : T). comes_before (key_of y) (key_of w)) (sym first) ∙ not-both (key_of z) (key_of y) (after-holds (key_of z) q zs y a.0 k)
      by more false at h true k = let second : z ≡ y = cc in absurd (true-false (sym is ∙ ap p (sym second) ∙ at))
      by more false at h false k = more h k is

  -- ---- one more row

  -- a row that fails a test does not change what the test finds
  pub find-put-other : (p : T → Bool) (row : T) (xs : List T) → p row ≡ false → find p (put_in_order key_of row xs) ≡ find p xs
  find-put-other p row [] other = find-miss p row [] other
  find-put-other p row (x ∷ xs) other = by (find-put-other p row xs other) (comes_before (key_of row) (key_of x))
    where
      by : find p (put_in_order key_of row xs) ≡ find p xs → (t : Bool) → find p (if t then row ∷ x ∷ xs else x ∷ put_in_order key_of row xs) ≡ find p (x ∷ xs)
      by more true = find-miss p row (x ∷ xs) other
      by more false = ap (λ (o : Option T). cond (p x) (Some x) o) more

  -- the one row that passes a test
  pub find-put-only : (p : T → Bool) (row : T) (xs : List T) → p row ≡ true → find p xs ≡ None → find p (put_in_order key_of row xs) ≡ Some row
  find-put-only p row [] is none = find-hit p row [] is
  find-put-only p row (x ∷ xs) is none = by (find-put-only p row xs is (miss-tail (p x) x _ none)) (comes_before (key_of row) (key_of x))
    where
      by : find p (put_in_order key_of row xs) ≡ Some row → (t : Bool) → find p (if t then row ∷ x ∷ xs else x ∷ put_in_order key_of row xs) ≡ Some row
      by more true = find-hit p row (x ∷ xs) is
      by more false = find-miss p x _ (miss-head (p x) x _ none) ∙ more
