-- Looking up in rows that ascend, and changes that keep the order.
use Rattle.std.proofs.Common.{◌≡◌, ℕ, zero, suc, ◌+◌, ◌<◌, ◌≤◌, Bool, true, false, cond, List, [], ◌∷◌, ◌++◌, length, Option, Some, None, refl, sym, ap, ◌∙◌, arith}
use Rattle.std.specs.Prelude.{not, find, filter, slice_index_or, slice_set, if◌then◌else◌}
use Rattle.std.specs.List.{insert, remove}
use Rattle.r9_ids.specs.declared.sorted.key.Key.{Key}
use Rattle.r9_ids.specs.sorted.Order.{comes_before, is_key}
use Rattle.r9_ids.specs.sorted.Pieces.{place_in}
use Rattle.r9_ids.specs.sorted.Rows.{has_key, is_before, put_in_order, without_key, first_from, set_row, AreAfter, Ascend}
use Rattle.r9_ids.proofs.sorted.Order.{before-trans, before-other, after-other, not-both, one-of-three, is-same}

-- ---- lists

pub find-miss : {X : Type 0} (p : X → Bool) (x : X) (xs : List X) → p x ≡ false → find p (x ∷ xs) ≡ find p xs
find-miss p x xs h = rw h refl

pub find-hit : {X : Type 0} (p : X → Bool) (x : X) (xs : List X) → p x ≡ true → find p (x ∷ xs) ≡ Some x
find-hit p x xs h = rw h refl

pub miss-head : {X : Type 0} (b : Bool) (x : X) (r : Option X) → cond b (Some x) r ≡ None → b ≡ false
miss-head true x r h = absurd cc
miss-head false x r h = refl

pub miss-tail : {X : Type 0} (b : Bool) (x : X) (r : Option X) → cond b (Some x) r ≡ None → r ≡ None
miss-tail true x r h = absurd cc
miss-tail false x r h = h

pub keep-head : {X : Type 0} (p : X → Bool) (x : X) (xs : List X) → p x ≡ false → filter (λ y. not (p y)) (x ∷ xs) ≡ x ∷ filter (λ y. not (p y)) xs
keep-head p x xs h = rw h refl

pub drop-head : {X : Type 0} (p : X → Bool) (x : X) (xs : List X) → p x ≡ true → filter (λ y. not (p y)) (x ∷ xs) ≡ filter (λ y. not (p y)) xs
drop-head p x xs h = rw h refl

pub none-kept : {X : Type 0} (p : X → Bool) (xs : List X) → find p xs ≡ None → filter (λ y. not (p y)) xs ≡ xs
none-kept p [] none = refl
none-kept p (x ∷ xs) none =
    keep-head p x xs (miss-head (p x) x _ none) ∙ ap (λ ys. x ∷ ys) (none-kept p xs (miss-tail (p x) x _ none))

pub gone : {X : Type 0} (p : X → Bool) (xs : List X) → find p (filter (λ y. not (p y)) xs) ≡ None
gone p [] = refl
gone p (x ∷ xs) = by (gone p xs) (p x) refl
  where
    by : find p (filter (λ y. not (p y)) xs) ≡ None → (t : Bool) → p x ≡ t → find p (filter (λ y. not (p y)) (x ∷ xs)) ≡ None
    by more true at = ap (find p) (drop-head p x xs at) ∙ more
    by more false at = ap (find p) (keep-head p x xs at) ∙ find-miss p x _ at ∙ more

true-false : true ≡ false → ⊥
true-false h = cc

not-none : {X : Type 0} (o : Option X) (x : X) → o ≡ Some x → o ≡ None → ⊥
not-none None x h k = cc
not-none (Some y) x h k = cc

module _ {T : Type 0} (key_of : T → Key) where
  -- ---- what comes after

  pub after-less : (a b : Key) (xs : List T) → comes_before a b ≡ true → AreAfter key_of b xs → AreAfter key_of a xs
  after-less a b [] h after = tt
  after-less a b (x ∷ xs) h after = (before-trans a b (key_of x) h after.0, after-less a b xs h after.1)

  pub after-at : (a : Key) (xs : List T) → AreAfter key_of a xs → (j : ℕ) (d : T) → j < length xs → comes_before a (key_of (slice_index_or xs j d)) ≡ true
  after-at a [] after j d h = absurd (omega (arith, h))
  after-at a (x ∷ xs) after zero d h = after.0
  after-at a (x ∷ xs) after (suc j) d h = after-at a xs after.1 j d (omega (arith, h))

  pub after-none : (k : Key) (xs : List T) → AreAfter key_of k xs → find (has_key key_of k) xs ≡ None
  after-none k [] after = refl
  after-none k (x ∷ xs) after = find-miss (has_key key_of k) x xs (after-other (key_of x) k after.0) ∙ after-none k xs after.1

  pub after-found : (a k : Key) (xs : List T) (x : T) → AreAfter key_of a xs → find (has_key key_of k) xs ≡ Some x → comes_before a (key_of x) ≡ true
  after-found a k [] x after h = absurd cc
  after-found a k (e ∷ es) x after h = by (after-found a k es x after.1) (has_key key_of k e) h
    where
      by : (find (has_key key_of k) es ≡ Some x → comes_before a (key_of x) ≡ true) → (t : Bool) → cond t (Some e) (find (has_key key_of k) es) ≡ Some x → comes_before a (key_of x) ≡ true
      by more true h = let same : e ≡ x = cc in rw (← same) after.0
      by more false h = more h

  -- the rows after one that is not smaller than a key are greater
  pub after-not_before : (k a : Key) (xs : List T) → comes_before a k ≡ false → AreAfter key_of a xs → AreAfter key_of k xs
  after-not_before k a xs h after = by (is_key a k) refl
    where
      by : (t : Bool) → is_key a k ≡ t → AreAfter key_of k xs
      by true at = let same : a ≡ k = is-same a k at in rw (← same) after
      by false at = after-less k a xs (one-of-three a k h at) after

  -- ---- the first that is not smaller

  pub first-miss : (k : Key) (x : T) (xs : List T) → is_before key_of k x ≡ true → first_from key_of k (x ∷ xs) ≡ first_from key_of k xs
  first-miss k x xs h = rw h refl

  pub first-hit : (k : Key) (x : T) (xs : List T) → is_before key_of k x ≡ false → first_from key_of k (x ∷ xs) ≡ Some x
  first-hit k x xs h = rw h refl

  pub first-none : (k : Key) (xs : List T) → length xs ≤ place_in key_of k xs → first_from key_of k xs ≡ None
  first-none k [] h = refl
  first-none k (x ∷ xs) h = by (first-none k xs) (is_before key_of k x) refl h
    where
      by : (length xs ≤ place_in key_of k xs → first_from key_of k xs ≡ None) → (t : Bool) → is_before key_of k x ≡ t
          → length (x ∷ xs) ≤ cond t (suc (place_in key_of k xs)) zero → first_from key_of k (x ∷ xs) ≡ None
      by more true at h = first-miss k x xs at ∙ more (omega (arith, h))
      by more false at h = absurd (omega (arith, h))

  pub first-at : (k : Key) (xs : List T) (d : T) → place_in key_of k xs < length xs → first_from key_of k xs ≡ Some (slice_index_or xs (place_in key_of k xs) d)
  first-at k [] d h = absurd (omega (arith, h))
  first-at k (x ∷ xs) d h = by (first-at k xs d) (is_before key_of k x) refl h
    where
      by : (place_in key_of k xs < length xs → first_from key_of k xs ≡ Some (slice_index_or xs (place_in key_of k xs) d)) → (t : Bool) → is_before key_of k x ≡ t
          → cond t (suc (place_in key_of k xs)) zero < length (x ∷ xs) → first_from key_of k (x ∷ xs) ≡ Some (slice_index_or (x ∷ xs) (cond t (suc (place_in key_of k xs)) zero) d)
      by more true at h = first-miss k x xs at ∙ more (omega (arith, h))
      by more false at h = first-hit k x xs at

  pub found-none : (k : Key) (xs : List T) → first_from key_of k xs ≡ None → find (has_key key_of k) xs ≡ None
  found-none k [] h = refl
  found-none k (x ∷ xs) h = by (found-none k xs) (is_before key_of k x) refl h
    where
      by : (first_from key_of k xs ≡ None → find (has_key key_of k) xs ≡ None) → (t : Bool) → is_before key_of k x ≡ t → cond (not t) (Some x) (first_from key_of k xs) ≡ None → find (has_key key_of k) (x ∷ xs) ≡ None
      by more true at h = find-miss _ x xs (before-other (key_of x) k at) ∙ more h
      by more false at h = absurd cc

  pub found-is : (k : Key) (xs : List T) (row : T) → first_from key_of k xs ≡ Some row → is_key (key_of row) k ≡ true → find (has_key key_of k) xs ≡ Some row
  found-is k [] row h is = absurd cc
  found-is k (x ∷ xs) row h is = by (found-is k xs row) (is_before key_of k x) refl h
    where
      by : (first_from key_of k xs ≡ Some row → is_key (key_of row) k ≡ true → find (has_key key_of k) xs ≡ Some row) → (t : Bool) → is_before key_of k x ≡ t → cond (not t) (Some x) (first_from key_of k xs) ≡ Some row → find (has_key key_of k) (x ∷ xs) ≡ Some row
      by more true at h = find-miss _ x xs (before-other (key_of x) k at) ∙ more h is
      by more false at h = let same : x ≡ row = cc in find-hit (has_key key_of k) x xs (rw same is) ∙ ap (λ y. Some y) same

  pub found-other : (k : Key) (xs : List T) (row : T) → Ascend key_of xs → first_from key_of k xs ≡ Some row → is_key (key_of row) k ≡ false → find (has_key key_of k) xs ≡ None
  found-other k [] row a h is = absurd cc
  found-other k (x ∷ xs) row a h is = by (found-other k xs row a.1) (is_before key_of k x) refl h
    where
      by : (first_from key_of k xs ≡ Some row → is_key (key_of row) k ≡ false → find (has_key key_of k) xs ≡ None) → (t : Bool) → is_before key_of k x ≡ t → cond (not t) (Some x) (first_from key_of k xs) ≡ Some row → find (has_key key_of k) (x ∷ xs) ≡ None
      by more true at h = find-miss _ x xs (before-other (key_of x) k at) ∙ more h is
      by more false at h = let same : x ≡ row = cc in find-miss (has_key key_of k) x xs (rw same is) ∙ after-none k xs (after-not_before k (key_of x) xs at a.0)

  -- ---- where a key is

  pub place-within : (k : Key) (xs : List T) → place_in key_of k xs ≤ length xs
  place-within k [] = omega arith
  place-within k (x ∷ xs) = by (is_before key_of k x) (place-within k xs)
    where
      by : (t : Bool) → place_in key_of k xs ≤ length xs → cond t (suc (place_in key_of k xs)) zero ≤ length (x ∷ xs)
      by true more = omega (arith, more)
      by false more = omega arith

  pub parted : (k : Key) (xs : List T) → Ascend key_of xs → (i j : ℕ) (d : T) → i ≤ j → j < length xs
      → is_before key_of k (slice_index_or xs j d) ≡ true → is_before key_of k (slice_index_or xs i d) ≡ true
  parted k [] a i j d l m h = absurd (omega (arith, m))
  parted k (x ∷ xs) a zero zero d l m h = h
  parted k (x ∷ xs) a zero (suc j) d l m h = before-trans (key_of x) (key_of (slice_index_or xs j d)) k (after-at (key_of x) xs a.0 j d (omega (arith, m))) h
  parted k (x ∷ xs) a (suc i) zero d l m h = absurd (omega (arith, l))
  parted k (x ∷ xs) a (suc i) (suc j) d l m h = parted k xs a.1 i j d (omega (arith, l)) (omega (arith, m)) h

  pub found-within : (k : Key) (xs : List T) (x : T) → find (has_key key_of k) xs ≡ Some x → place_in key_of k xs < length xs
  found-within k [] x h = absurd cc
  found-within k (e ∷ es) x h = by (found-within k es x) (is_before key_of k e) refl
    where
      by : (find (has_key key_of k) es ≡ Some x → place_in key_of k es < length es) → (t : Bool) → is_before key_of k e ≡ t → cond t (suc (place_in key_of k es)) zero < length (e ∷ es)
      by more true at = let less : place_in key_of k es < length es = more (sym (find-miss _ e es (before-other (key_of e) k at)) ∙ h) in omega (arith, less)
      by more false at = omega arith

  -- ---- changes

  pub put-step : (row x : T) (xs : List T) → comes_before (key_of row) (key_of x) ≡ false → put_in_order key_of row (x ∷ xs) ≡ x ∷ put_in_order key_of row xs
  put-step row x xs h = rw h refl

  pub put-front : (row x : T) (xs : List T) → comes_before (key_of row) (key_of x) ≡ true → put_in_order key_of row (x ∷ xs) ≡ row ∷ x ∷ xs
  put-front row x xs h = rw h refl

  pub put-here : (row : T) (xs : List T) → find (has_key key_of (key_of row)) xs ≡ None → insert xs (place_in key_of (key_of row) xs) row ≡ put_in_order key_of row xs
  put-here row [] none = refl
  put-here row (x ∷ xs) none = by (put-here row xs (miss-tail (has_key key_of (key_of row) x) x _ none)) (is_before key_of (key_of row) x) refl
    where
      by : insert xs (place_in key_of (key_of row) xs) row ≡ put_in_order key_of row xs → (t : Bool) → is_before key_of (key_of row) x ≡ t
          → insert (x ∷ xs) (cond t (suc (place_in key_of (key_of row) xs)) zero) row ≡ put_in_order key_of row (x ∷ xs)
      by more true at = ap (λ ys. x ∷ ys) more ∙ sym (put-step row x xs (not-both (key_of x) (key_of row) at))
      by more false at = sym (put-front row x xs (one-of-three (key_of x) (key_of row) at (miss-head (has_key key_of (key_of row) x) x _ none)))

  pub put-first : (row : T) (xs : List T) → AreAfter key_of (key_of row) xs → put_in_order key_of row xs ≡ row ∷ xs
  put-first row [] after = refl
  put-first row (x ∷ xs) after = put-front row x xs after.0

  first-is : (k : Key) (x : T) (xs : List T) (e : T) → AreAfter key_of (key_of x) xs → is_before key_of k x ≡ false → find (has_key key_of k) (x ∷ xs) ≡ Some e → has_key key_of k x ≡ true
  first-is k x xs e after at h = by (has_key key_of k x) refl
    where
      by : (t : Bool) → has_key key_of k x ≡ t → t ≡ true
      by true is = refl
      by false is = absurd (not-none (find (has_key key_of k) (x ∷ xs)) e h (find-miss (has_key key_of k) x xs is ∙ after-none k xs (after-not_before k (key_of x) xs at after)))

  pub remove-here : (k : Key) (xs : List T) (e : T) → Ascend key_of xs → find (has_key key_of k) xs ≡ Some e → remove xs (place_in key_of k xs) ≡ without_key key_of k xs
  remove-here k [] e a h = absurd cc
  remove-here k (x ∷ xs) e a h = by (remove-here k xs e a.1) (is_before key_of k x) refl
    where
      by : (find (has_key key_of k) xs ≡ Some e → remove xs (place_in key_of k xs) ≡ without_key key_of k xs) → (t : Bool) → is_before key_of k x ≡ t
          → remove (x ∷ xs) (cond t (suc (place_in key_of k xs)) zero) ≡ without_key key_of k (x ∷ xs)
      by more true at =
          let other : has_key key_of k x ≡ false = before-other (key_of x) k at in
          ap (λ ys. x ∷ ys) (more (sym (find-miss (has_key key_of k) x xs other) ∙ h)) ∙ sym (keep-head (has_key key_of k) x xs other)
      by more false at =
          sym (none-kept (has_key key_of k) xs (after-none k xs (after-not_before k (key_of x) xs at a.0)))
          ∙ sym (drop-head (has_key key_of k) x xs (first-is k x xs e a.0 at h))

  pub set-none : (row : T) (xs : List T) → find (has_key key_of (key_of row)) xs ≡ None → set_row key_of row xs ≡ xs
  set-none row [] none = refl
  set-none row (x ∷ xs) none =
      rw (miss-head (has_key key_of (key_of row) x) x _ none) (ap (λ ys. x ∷ ys) (set-none row xs (miss-tail (has_key key_of (key_of row) x) x _ none)))

  set-same : (row x : T) (xs : List T) → has_key key_of (key_of row) x ≡ true → set_row key_of row (x ∷ xs) ≡ row ∷ set_row key_of row xs
  set-same row x xs h = rw h refl

  set-other : (row x : T) (xs : List T) → has_key key_of (key_of row) x ≡ false → set_row key_of row (x ∷ xs) ≡ x ∷ set_row key_of row xs
  set-other row x xs h = rw h refl

  pub set-here : (row : T) (xs : List T) (e : T) → Ascend key_of xs → find (has_key key_of (key_of row)) xs ≡ Some e → slice_set xs (place_in key_of (key_of row) xs) row ≡ set_row key_of row xs
  set-here row [] e a h = absurd cc
  set-here row (x ∷ xs) e a h = by (set-here row xs e a.1) (is_before key_of (key_of row) x) refl
    where
      by : (find (has_key key_of (key_of row)) xs ≡ Some e → slice_set xs (place_in key_of (key_of row) xs) row ≡ set_row key_of row xs) → (t : Bool) → is_before key_of (key_of row) x ≡ t
          → slice_set (x ∷ xs) (cond t (suc (place_in key_of (key_of row) xs)) zero) row ≡ set_row key_of row (x ∷ xs)
      by more true at =
          let other : has_key key_of (key_of row) x ≡ false = before-other (key_of x) (key_of row) at in
          ap (λ ys. x ∷ ys) (more (sym (find-miss (has_key key_of (key_of row)) x xs other) ∙ h)) ∙ sym (set-other row x xs other)
      by more false at =
          ap (λ ys. row ∷ ys) (sym (set-none row xs (after-none (key_of row) xs (after-not_before (key_of row) (key_of x) xs at a.0))))
          ∙ sym (set-same row x xs (first-is (key_of row) x xs e a.0 at h))

  -- ---- the order stays

  after-put : (k : Key) (row : T) (xs : List T) → AreAfter key_of k xs → comes_before k (key_of row) ≡ true → AreAfter key_of k (put_in_order key_of row xs)
  after-put k row [] after h = (h, tt)
  after-put k row (x ∷ xs) after h = by (after-put k row xs after.1 h) (comes_before (key_of row) (key_of x))
    where
      by : AreAfter key_of k (put_in_order key_of row xs) → (t : Bool) → AreAfter key_of k (if t then row ∷ x ∷ xs else x ∷ put_in_order key_of row xs)
      by more true = (h, after)
      by more false = (after.0, more)

  swapped-other : (a b : Key) → is_key a b ≡ false → is_key b a ≡ false
  swapped-other a b h = by (is_key b a) refl
    where
      by : (t : Bool) → is_key b a ≡ t → t ≡ false
      by true at = let same : b ≡ a = is-same b a at in absurd (true-false (sym at ∙ ap (λ k. is_key b k) (sym same) ∙ ap (λ k. is_key k b) same ∙ h))
      by false at = refl

  pub ascend-put : (row : T) (xs : List T) → Ascend key_of xs → find (has_key key_of (key_of row)) xs ≡ None → Ascend key_of (put_in_order key_of row xs)
  ascend-put row [] a none = (tt, tt)
  ascend-put row (x ∷ xs) a none = by (ascend-put row xs a.1 (miss-tail (has_key key_of (key_of row) x) x _ none)) (comes_before (key_of row) (key_of x)) refl
    where
      by : Ascend key_of (put_in_order key_of row xs) → (t : Bool) → comes_before (key_of row) (key_of x) ≡ t → Ascend key_of (if t then row ∷ x ∷ xs else x ∷ put_in_order key_of row xs)
      by more true at = ((at, after-less (key_of row) (key_of x) xs at a.0), a)
      by more false at = (
        after-put (key_of x) row xs a.0 (one-of-three (key_of row) (key_of x) at (swapped-other (key_of x) (key_of row) (miss-head (has_key key_of (key_of row) x) x _ none))),
        more,
      )

  after-filter : (k : Key) (p : T → Bool) (xs : List T) → AreAfter key_of k xs → AreAfter key_of k (filter p xs)
  after-filter k p [] after = tt
  after-filter k p (x ∷ xs) after = by (after-filter k p xs after.1) (p x)
    where
      by : AreAfter key_of k (filter p xs) → (t : Bool) → AreAfter key_of k (cond t (x ∷ filter p xs) (filter p xs))
      by more true = (after.0, more)
      by more false = more

  pub ascend-filter : (p : T → Bool) (xs : List T) → Ascend key_of xs → Ascend key_of (filter p xs)
  ascend-filter p [] a = tt
  ascend-filter p (x ∷ xs) a = by (ascend-filter p xs a.1) (p x)
    where
      by : Ascend key_of (filter p xs) → (t : Bool) → Ascend key_of (cond t (x ∷ filter p xs) (filter p xs))
      by more true = (after-filter (key_of x) p xs a.0, more)
      by more false = more

  after-set : (k : Key) (row : T) (xs : List T) → AreAfter key_of k xs → AreAfter key_of k (set_row key_of row xs)
  after-set k row [] after = tt
  after-set k row (x ∷ xs) after = (by (has_key key_of (key_of row) x) refl, after-set k row xs after.1)
    where
      by : (t : Bool) → has_key key_of (key_of row) x ≡ t → comes_before k (key_of (if t then row else x)) ≡ true
      by true at = let same : key_of x ≡ key_of row = is-same (key_of x) (key_of row) at in rw (← same) after.0
      by false at = after.0

  pub ascend-set : (row : T) (xs : List T) → Ascend key_of xs → Ascend key_of (set_row key_of row xs)
  ascend-set row [] a = tt
  ascend-set row (x ∷ xs) a = (by (has_key key_of (key_of row) x) refl, ascend-set row xs a.1)
    where
      by : (t : Bool) → has_key key_of (key_of row) x ≡ t → AreAfter key_of (key_of (if t then row else x)) (set_row key_of row xs)
      by true at = let same : key_of x ≡ key_of row = is-same (key_of x) (key_of row) at in rw (← same) (after-set (key_of x) row xs a.0)
      by false at = after-set (key_of x) row xs a.0

  pub after-append : (k : Key) (xs ys : List T) → AreAfter key_of k (xs ++ ys) → AreAfter key_of k xs × AreAfter key_of k ys
  after-append k [] ys after = (tt, after)
  after-append k (x ∷ xs) ys after = let rest = after-append k xs ys after.1 in ((after.0, rest.0), rest.1)

  pub ascend-append : (xs ys : List T) → Ascend key_of (xs ++ ys) → Ascend key_of xs × Ascend key_of ys
  ascend-append [] ys a = (tt, a)
  ascend-append (x ∷ xs) ys a = let first = after-append (key_of x) xs ys a.0 in let rest = ascend-append xs ys a.1 in ((first.0, rest.0), rest.1)

  -- ---- how many

  pub length-put : (row : T) (xs : List T) → length (put_in_order key_of row xs) ≡ length xs + 1
  length-put row [] = refl
  length-put row (x ∷ xs) = by (comes_before (key_of row) (key_of x)) (length-put row xs)
    where
      by : (t : Bool) → length (put_in_order key_of row xs) ≡ length xs + 1 → length (if t then row ∷ x ∷ xs else x ∷ put_in_order key_of row xs) ≡ length (x ∷ xs) + 1
      by true more = omega arith
      by false more = omega (arith, more)

  pub length-set_row : (row : T) (xs : List T) → length (set_row key_of row xs) ≡ length xs
  length-set_row row [] = refl
  length-set_row row (x ∷ xs) = omega (arith, length-set_row row xs)

  pub length-without : (k : Key) (xs : List T) (e : T) → Ascend key_of xs → find (has_key key_of k) xs ≡ Some e → length (without_key key_of k xs) + 1 ≡ length xs
  length-without k [] e a h = absurd cc
  length-without k (x ∷ xs) e a h = by (length-without k xs e a.1) (has_key key_of k x) refl h
    where
      by : (find (has_key key_of k) xs ≡ Some e → length (without_key key_of k xs) + 1 ≡ length xs) → (t : Bool) → has_key key_of k x ≡ t → cond t (Some x) (find (has_key key_of k) xs) ≡ Some e → length (without_key key_of k (x ∷ xs)) + 1 ≡ length (x ∷ xs)
      by more true at h =
          let same : key_of x ≡ k = is-same (key_of x) k at in
          let after : AreAfter key_of k xs = rw (← same) a.0 in
          let kept : length (without_key key_of k (x ∷ xs)) ≡ length xs = ap length (drop-head (has_key key_of k) x xs at ∙ none-kept (has_key key_of k) xs (after-none k xs after)) in
          omega (arith, kept)
      by more false at h =
          let kept : length (without_key key_of k (x ∷ xs)) ≡ length (x ∷ without_key key_of k xs) = ap length (keep-head (has_key key_of k) x xs at) in
          let rest : length (without_key key_of k xs) + 1 ≡ length xs = more h in
          omega (arith, kept, rest)
