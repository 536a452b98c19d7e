-- Rows in pieces: in which piece a key belongs, and what a change of a piece changes.
use Rattle.std.proofs.Common.{◌≡◌, ℕ, zero, suc, ◌+◌, ◌-◌, ◌<◌, ◌≤◌, Bool, true, false, cond, List, [], ◌∷◌, ◌++◌, length, Option, Some, None, inl, inr, refl, sym, ap, ◌∙◌, arith}
use Rattle.std.specs.Prelude.{not, ◌&&◌, ◌||◌, find, min, if◌then◌else◌, slice_index_or, slice_set}
use Rattle.std.specs.List.{list_any, prefix_len, insert, remove}
use Rattle.std.specs.List.Sorted.{IsPartitionPoint}
use Rattle.std.specs.Option.{option_or}
use Rattle.std.proofs.lemmas.List.Sums.{prefix_len_is}
use Rattle.std.proofs.Math.Bool.{and-true, or-true}
use Rattle.std.proofs.lemmas.Bool.{cases_lt}
use Rattle.std.proofs.lemmas.List.{append-nil, append_assoc}
use Rattle.std.proofs.lemmas.List.Folds.{find-append, list_any-append}
use Rattle.std.proofs.lemmas.List.Elements.{filter-append}
use Rattle.r9_ids.specs.declared.sorted.key.Key.{Key}
use Rattle.r9_ids.specs.declared.sorted.piece.TheConstants.{MOST}
use Rattle.r9_ids.specs.sorted.Order.{comes_before}
use Rattle.r9_ids.specs.sorted.Pieces.{joined, AreFilled, ends_before, leading, place, slot}
use Rattle.r9_ids.specs.sorted.Rows.{has_key, is_before, put_in_order, without_key, first_from, set_row, AreAfter, Ascend}
use Rattle.r9_ids.proofs.sorted.Order.{before-trans, before-other, not-both, one-of-three}
use Rattle.r9_ids.proofs.sorted.Ascending.{find-miss, miss-head, miss-tail, none-kept, after-at, after-none, after-not_before, first-miss, first-hit, found-none, put-step, put-front, set-none, after-append}

-- ---- lists

pub leading-is : {X : Type 0} (p : X → Bool) (xs : List X) → prefix_len p xs ≡ leading p xs
leading-is p [] = refl
leading-is p (x ∷ xs) = by (p x) (leading-is p xs)
  where
    by : (t : Bool) → prefix_len p xs ≡ leading p xs → cond t (1 + prefix_len p xs) 0 ≡ cond t (suc (leading p xs)) zero
    by true more = omega (arith, more)
    by false more = refl

true-false : true ≡ false → ⊥
true-false h = cc

both-left : (a b : Bool) → (a && b) ≡ true → a ≡ true
both-left true b h = refl
both-left false b h = h

both-right : (a b : Bool) → (a && b) ≡ true → b ≡ true
both-right true b h = h
both-right false b h = absurd cc

not-both-right : (a b : Bool) → a ≡ true → (a && b) ≡ false → b ≡ false
not-both-right true b is h = h
not-both-right false b is h = absurd cc

-- what a search by halving ends at
pub point-is : {X : Type 0} (p : X → Bool) (xs : List X) (n : ℕ) → n ≤ length xs → IsPartitionPoint (λ y. p y ≡ true) (λ y. p y ≡ false) xs n → n ≡ leading p xs
point-is p [] n l point = omega (arith, l)
point-is p (x ∷ xs) n l point =
    sym (prefix_len_is p (x ∷ xs) n x l (λ k lt. point.0 k x (omega arith) lt) (λ lt. point.1 n x (omega arith) lt)) ∙ leading-is p (x ∷ xs)

none-left : {X : Type 0} (a b : Option X) → option_or a b ≡ None → a ≡ None
none-left None b h = refl
none-left (Some x) b h = h

none-right : {X : Type 0} (a b : Option X) → option_or a b ≡ None → b ≡ None
none-right None b h = h
none-right (Some x) b h = absurd cc

or-none : {X : Type 0} (a : Option X) → option_or a None ≡ a
or-none None = refl
or-none (Some x) = refl

and-false : (b : Bool) → (b && false) ≡ false
and-false true = refl
and-false false = refl

pub find-in : {X : Type 0} (p : X → Bool) (pieces : List (List X)) (i : ℕ) → i < length pieces → find p (joined pieces) ≡ None → find p (slice_index_or pieces i []) ≡ None
find-in p [] i l none = absurd (omega (arith, l))
find-in p (q ∷ qs) zero l none = none-left (find p q) _ (sym (find-append p q (joined qs)) ∙ none)
find-in p (q ∷ qs) (suc i) l none = find-in p qs i (omega (arith, l)) (none-right (find p q) _ (sym (find-append p q (joined qs)) ∙ none))

module _ {T : Type 0} (key_of : T → Key) where
  ascend-right : (xs ys : List T) → Ascend key_of (xs ++ ys) → Ascend key_of ys
  ascend-right [] ys a = a
  ascend-right (x ∷ xs) ys a = ascend-right xs ys a.1

  -- ---- a piece that ends before a key

  pub ends-last : (k : Key) (x : T) (xs : List T) (d : T) → Ascend key_of (x ∷ xs) → is_before key_of k (slice_index_or (x ∷ xs) (length xs) d) ≡ ends_before key_of k (x ∷ xs)
  ends-last k x [] d a = sym (and-true (is_before key_of k x))
  ends-last k x (y ∷ ys) d a = by (ends_before key_of k (y ∷ ys)) (ends-last k y ys d a.1)
    where
      by : (t : Bool) → is_before key_of k (slice_index_or (y ∷ ys) (length ys) d) ≡ t → is_before key_of k (slice_index_or (y ∷ ys) (length ys) d) ≡ (is_before key_of k x && t)
      by true is =
          let first : is_before key_of k x ≡ true = before-trans (key_of x) (key_of (slice_index_or (y ∷ ys) (length ys) d)) k (after-at key_of (key_of x) (y ∷ ys) a.0 (length ys) d (omega arith)) is in
          is ∙ sym (and-true (is_before key_of k x) ∙ first)
      by false is = is ∙ sym (and-false (is_before key_of k x))

  after-any : (a k : Key) (xs : List T) → AreAfter key_of a xs → list_any (is_before key_of k) xs ≡ true → comes_before a k ≡ true
  after-any a k [] after any = absurd cc
  after-any a k (x ∷ xs) after any = by (after-any a k xs after.1) (is_before key_of k x) refl any
    where
      by : (list_any (is_before key_of k) xs ≡ true → comes_before a k ≡ true) → (t : Bool) → is_before key_of k x ≡ t → (t || list_any (is_before key_of k) xs) ≡ true → comes_before a k ≡ true
      by more true is any = before-trans a (key_of x) k after.0 is
      by more false is any = more any

  ends-any : (k : Key) (p r : List T) → Ascend key_of (p ++ r) → list_any (is_before key_of k) r ≡ true → ends_before key_of k p ≡ true
  ends-any k [] r a any = refl
  ends-any k (x ∷ xs) r a any =
      let after = after-append key_of (key_of x) xs r a.0 in
      rw (after-any (key_of x) k r after.1 any) (ends-any k xs r a.1 any)

  any-ends : (k : Key) (p : List T) → 0 < length p → ends_before key_of k p ≡ true → list_any (is_before key_of k) p ≡ true
  any-ends k [] some ends = absurd (omega (arith, some))
  any-ends k (x ∷ xs) some ends = rw (both-left (is_before key_of k x) (ends_before key_of k xs) ends) refl

  any-joined : (k : Key) (ps : List (List T)) (j : ℕ) (d : List T) → AreFilled ps → j < length ps → ends_before key_of k (slice_index_or ps j d) ≡ true → list_any (is_before key_of k) (joined ps) ≡ true
  any-joined k [] j d filled l ends = absurd (omega (arith, l))
  any-joined k (p ∷ ps) zero d filled l ends = list_any-append (is_before key_of k) p (joined ps) ∙ rw (any-ends k p filled.0 ends) refl
  any-joined k (p ∷ ps) (suc j) d filled l ends =
      list_any-append (is_before key_of k) p (joined ps)
      ∙ rw (any-joined k ps j d filled.2 (omega (arith, l)) ends) (or-true (list_any (is_before key_of k) p))

  pub ends-parted : (k : Key) (ps : List (List T)) → Ascend key_of (joined ps) → AreFilled ps → (i j : ℕ) (d : List T) → i ≤ j → j < length ps
      → ends_before key_of k (slice_index_or ps j d) ≡ true → ends_before key_of k (slice_index_or ps i d) ≡ true
  ends-parted k [] a filled i j d l m h = absurd (omega (arith, m))
  ends-parted k (p ∷ ps) a filled zero zero d l m h = h
  ends-parted k (p ∷ ps) a filled zero (suc j) d l m h = ends-any k p (joined ps) a (any-joined k ps j d filled.2 (omega (arith, m)) h)
  ends-parted k (p ∷ ps) a filled (suc i) zero d l m h = absurd (omega (arith, l))
  ends-parted k (p ∷ ps) a filled (suc i) (suc j) d l m h = ends-parted k ps (ascend-right p (joined ps) a) filled.2 i j d (omega (arith, l)) (omega (arith, m)) h

  -- ---- two parts

  first-skip : (k : Key) (p r : List T) → ends_before key_of k p ≡ true → first_from key_of k (p ++ r) ≡ first_from key_of k r
  first-skip k [] r ends = refl
  first-skip k (x ∷ xs) r ends = first-miss key_of k x (xs ++ r) (both-left (is_before key_of k x) _ ends) ∙ first-skip k xs r (both-right (is_before key_of k x) _ ends)

  first-stop : (k : Key) (p r : List T) → ends_before key_of k p ≡ false → first_from key_of k (p ++ r) ≡ first_from key_of k p
  first-stop k [] r ends = absurd cc
  first-stop k (x ∷ xs) r ends = by (first-stop k xs r) (is_before key_of k x) refl
    where
      by : (ends_before key_of k xs ≡ false → first_from key_of k (xs ++ r) ≡ first_from key_of k xs) → (t : Bool) → is_before key_of k x ≡ t → first_from key_of k ((x ∷ xs) ++ r) ≡ first_from key_of k (x ∷ xs)
      by more true is = first-miss key_of k x (xs ++ r) is ∙ more (not-both-right (is_before key_of k x) _ is ends) ∙ sym (first-miss key_of k x xs is)
      by more false is = first-hit key_of k x (xs ++ r) is ∙ sym (first-hit key_of k x xs is)

  skipped-none : (k : Key) (p : List T) → ends_before key_of k p ≡ true → find (has_key key_of k) p ≡ None
  skipped-none k [] ends = refl
  skipped-none k (x ∷ xs) ends =
      find-miss (has_key key_of k) x xs (before-other (key_of x) k (both-left (is_before key_of k x) _ ends)) ∙ skipped-none k xs (both-right (is_before key_of k x) _ ends)

  after-stop : (k : Key) (p r : List T) → Ascend key_of (p ++ r) → ends_before key_of k p ≡ false → AreAfter key_of k r
  after-stop k [] r a ends = absurd cc
  after-stop k (x ∷ xs) r a ends = by (after-stop k xs r a.1) (is_before key_of k x) refl
    where
      by : (ends_before key_of k xs ≡ false → AreAfter key_of k r) → (t : Bool) → is_before key_of k x ≡ t → AreAfter key_of k r
      by more true is = more (not-both-right (is_before key_of k x) _ is ends)
      by more false is = let after = after-append key_of (key_of x) xs r a.0 in after-not_before key_of k (key_of x) r is after.1

  put-skip : (row : T) (p r : List T) → ends_before key_of (key_of row) p ≡ true → put_in_order key_of row (p ++ r) ≡ p ++ put_in_order key_of row r
  put-skip row [] r ends = refl
  put-skip row (x ∷ xs) r ends =
      put-step key_of row x (xs ++ r) (not-both (key_of x) (key_of row) (both-left (is_before key_of (key_of row) x) _ ends))
      ∙ ap (λ (ys : List T). x ∷ ys) (put-skip row xs r (both-right (is_before key_of (key_of row) x) _ ends))

  put-stop : (row : T) (p r : List T) → ends_before key_of (key_of row) p ≡ false → find (has_key key_of (key_of row)) p ≡ None → put_in_order key_of row (p ++ r) ≡ put_in_order key_of row p ++ r
  put-stop row [] r ends none = absurd cc
  put-stop row (x ∷ xs) r ends none = by (put-stop row xs r) (miss-head (has_key key_of (key_of row) x) x _ none) (is_before key_of (key_of row) x) refl
    where
      by : (ends_before key_of (key_of row) xs ≡ false → find (has_key key_of (key_of row)) xs ≡ None → put_in_order key_of row (xs ++ r) ≡ put_in_order key_of row xs ++ r) → has_key key_of (key_of row) x ≡ false → (t : Bool) → is_before key_of (key_of row) x ≡ t → put_in_order key_of row ((x ∷ xs) ++ r) ≡ put_in_order key_of row (x ∷ xs) ++ r
      by more other true is =
          let later = not-both (key_of x) (key_of row) is in
          put-step key_of row x (xs ++ r) later
          ∙ ap (λ (ys : List T). x ∷ ys) (more (not-both-right (is_before key_of (key_of row) x) _ is ends) (miss-tail (has_key key_of (key_of row) x) x _ none))
          ∙ sym (ap (λ (ys : List T). ys ++ r) (put-step key_of row x xs later))
      by more other false is =
          let sooner = one-of-three (key_of x) (key_of row) is other in
          put-front key_of row x (xs ++ r) sooner ∙ sym (ap (λ (ys : List T). ys ++ r) (put-front key_of row x xs sooner))

  set-append : (row : T) (p r : List T) → set_row key_of row (p ++ r) ≡ set_row key_of row p ++ set_row key_of row r
  set-append row [] r = refl
  set-append row (x ∷ xs) r = ap (λ (ys : List T). (if has_key key_of (key_of row) x then row else x) ∷ ys) (set-append row xs r)

  -- ---- in which piece a key belongs

  pub first-in-place : (k : Key) (ps : List (List T)) → place key_of k ps < length ps → first_from key_of k (joined ps) ≡ first_from key_of k (slice_index_or ps (place key_of k ps) [])
  first-in-place k [] l = absurd (omega (arith, l))
  first-in-place k (p ∷ ps) l = by (first-in-place k ps) (ends_before key_of k p) refl l
    where
      by : (place key_of k ps < length ps → first_from key_of k (joined ps) ≡ first_from key_of k (slice_index_or ps (place key_of k ps) [])) → (t : Bool) → ends_before key_of k p ≡ t → cond t (suc (place key_of k ps)) zero < length (p ∷ ps) → first_from key_of k (joined (p ∷ ps)) ≡ first_from key_of k (slice_index_or (p ∷ ps) (cond t (suc (place key_of k ps)) zero) [])
      by more true is l = first-skip k p (joined ps) is ∙ more (omega (arith, l))
      by more false is l = first-stop k p (joined ps) is

  pub place-fits : (k : Key) (ps : List (List T)) → place key_of k ps ≤ length ps
  place-fits k [] = omega arith
  place-fits k (p ∷ ps) = by (ends_before key_of k p) (place-fits k ps)
    where
      by : (t : Bool) → place key_of k ps ≤ length ps → cond t (suc (place key_of k ps)) zero ≤ length (p ∷ ps)
      by true more = omega (arith, more)
      by false more = omega arith

  pub first-no-place : (k : Key) (ps : List (List T)) → length ps ≤ place key_of k ps → first_from key_of k (joined ps) ≡ None
  first-no-place k [] l = refl
  first-no-place k (p ∷ ps) l = by (first-no-place k ps) (ends_before key_of k p) refl l
    where
      by : (length ps ≤ place key_of k ps → first_from key_of k (joined ps) ≡ None) → (t : Bool) → ends_before key_of k p ≡ t → length (p ∷ ps) ≤ cond t (suc (place key_of k ps)) zero → first_from key_of k (joined (p ∷ ps)) ≡ None
      by more true is l = first-skip k p (joined ps) is ∙ more (omega (arith, l))
      by more false is l = absurd (omega (arith, l))

  pub find-in-place : (k : Key) (ps : List (List T)) → Ascend key_of (joined ps) → place key_of k ps < length ps → find (has_key key_of k) (joined ps) ≡ find (has_key key_of k) (slice_index_or ps (place key_of k ps) [])
  find-in-place k [] a l = absurd (omega (arith, l))
  find-in-place k (p ∷ ps) a l = by (find-in-place k ps (ascend-right p (joined ps) a)) (ends_before key_of k p) refl l
    where
      by : (place key_of k ps < length ps → find (has_key key_of k) (joined ps) ≡ find (has_key key_of k) (slice_index_or ps (place key_of k ps) [])) → (t : Bool) → ends_before key_of k p ≡ t → cond t (suc (place key_of k ps)) zero < length (p ∷ ps) → find (has_key key_of k) (joined (p ∷ ps)) ≡ find (has_key key_of k) (slice_index_or (p ∷ ps) (cond t (suc (place key_of k ps)) zero) [])
      by more true is l = find-append (has_key key_of k) p (joined ps) ∙ rw (skipped-none k p is) (more (omega (arith, l)))
      by more false is l = find-append (has_key key_of k) p (joined ps) ∙ rw (after-none key_of k (joined ps) (after-stop k p (joined ps) a is)) (or-none (find (has_key key_of k) p))

  pub found-in-place : (k : Key) (ps : List (List T)) (x : T) → find (has_key key_of k) (joined ps) ≡ Some x → place key_of k ps < length ps
  found-in-place k ps x h = at-most-apart (place key_of k ps) (length ps) (λ le. absurd (none-is-some x (sym (found-none key_of k (joined ps) (first-no-place k ps le)) ∙ h)))
    where
      none-is-some : (x : T) → None ≡ Some x → ⊥
      none-is-some x h = cc

      at-most-apart : (a b : ℕ) → (b ≤ a → a < b) → a < b
      at-most-apart a b h = elim (cases_lt a b) [ inl lt ↦ lt | inr le ↦ h le ]

  -- ---- a change of the piece in which a key belongs

  pub put-in-slot : (row : T) (ps : List (List T)) → 0 < length ps → find (has_key key_of (key_of row)) (joined ps) ≡ None
      → joined (slice_set ps (slot key_of (key_of row) ps) (put_in_order key_of row (slice_index_or ps (slot key_of (key_of row) ps) []))) ≡ put_in_order key_of row (joined ps)
  put-in-slot row [] some none = absurd (omega (arith, some))
  put-in-slot row (p ∷ []) some none = append-nil (put_in_order key_of row p) ∙ ap (put_in_order key_of row) (sym (append-nil p))
  put-in-slot row (p ∷ q ∷ qs) some none =
      let parts : option_or (find (has_key key_of (key_of row)) p) (find (has_key key_of (key_of row)) (joined (q ∷ qs))) ≡ None = sym (find-append (has_key key_of (key_of row)) p (joined (q ∷ qs))) ∙ none in
      by (put-in-slot row (q ∷ qs) (omega arith) (none-right _ _ parts)) (none-left _ _ parts) (ends_before key_of (key_of row) p) refl
    where
      by : joined (slice_set (q ∷ qs) (slot key_of (key_of row) (q ∷ qs)) (put_in_order key_of row (slice_index_or (q ∷ qs) (slot key_of (key_of row) (q ∷ qs)) []))) ≡ put_in_order key_of row (joined (q ∷ qs))
          → find (has_key key_of (key_of row)) p ≡ None → (t : Bool) → ends_before key_of (key_of row) p ≡ t
          → joined (slice_set (p ∷ q ∷ qs) (cond t (suc (slot key_of (key_of row) (q ∷ qs))) zero) (put_in_order key_of row (slice_index_or (p ∷ q ∷ qs) (cond t (suc (slot key_of (key_of row) (q ∷ qs))) zero) []))) ≡ put_in_order key_of row (joined (p ∷ q ∷ qs))
      by more none true is = ap (λ (ys : List T). p ++ ys) more ∙ sym (put-skip row p (joined (q ∷ qs)) is)
      by more none false is = sym (put-stop row p (joined (q ∷ qs)) is none)

  pub slot-is : (k : Key) (ps : List (List T)) → min (place key_of k ps) (length ps - 1) ≡ slot key_of k ps
  slot-is k [] = omega arith
  slot-is k (p ∷ []) = omega arith
  slot-is k (p ∷ q ∷ qs) = by (ends_before key_of k p) (slot-is k (q ∷ qs))
    where
      by : (t : Bool) → min (place key_of k (q ∷ qs)) (length (q ∷ qs) - 1) ≡ slot key_of k (q ∷ qs) → min (cond t (suc (place key_of k (q ∷ qs))) zero) (length (p ∷ q ∷ qs) - 1) ≡ cond t (suc (slot key_of k (q ∷ qs))) zero
      by true more = omega (arith, more)
      by false more = omega arith

  pub slot-within : (k : Key) (ps : List (List T)) → 0 < length ps → slot key_of k ps < length ps
  slot-within k ps some = let is = slot-is k ps in omega (arith, is)

  pub remove-in-place : (k : Key) (ps : List (List T)) → Ascend key_of (joined ps) → place key_of k ps < length ps
      → joined (slice_set ps (place key_of k ps) (without_key key_of k (slice_index_or ps (place key_of k ps) []))) ≡ without_key key_of k (joined ps)
  remove-in-place k [] a l = absurd (omega (arith, l))
  remove-in-place k (p ∷ ps) a l = by (remove-in-place k ps (ascend-right p (joined ps) a)) (ends_before key_of k p) refl l
    where
      by : (place key_of k ps < length ps → joined (slice_set ps (place key_of k ps) (without_key key_of k (slice_index_or ps (place key_of k ps) []))) ≡ without_key key_of k (joined ps)) → (t : Bool) → ends_before key_of k p ≡ t → cond t (suc (place key_of k ps)) zero < length (p ∷ ps)
          → joined (slice_set (p ∷ ps) (cond t (suc (place key_of k ps)) zero) (without_key key_of k (slice_index_or (p ∷ ps) (cond t (suc (place key_of k ps)) zero) []))) ≡ without_key key_of k (joined (p ∷ ps))
      by more true is l =
          ap (λ (ys : List T). p ++ ys) (more (omega (arith, l)))
          ∙ sym (ap (λ (ys : List T). ys ++ without_key key_of k (joined ps)) (none-kept (has_key key_of k) p (skipped-none k p is)))
          ∙ sym (filter-append (λ row. not (has_key key_of k row)) p (joined ps))
      by more false is l =
          sym (ap (λ (ys : List T). without_key key_of k p ++ ys) (none-kept (has_key key_of k) (joined ps) (after-none key_of k (joined ps) (after-stop k p (joined ps) a is))))
          ∙ sym (filter-append (λ row. not (has_key key_of k row)) p (joined ps))

  pub set-in-place : (row : T) (ps : List (List T)) → Ascend key_of (joined ps) → place key_of (key_of row) ps < length ps
      → joined (slice_set ps (place key_of (key_of row) ps) (set_row key_of row (slice_index_or ps (place key_of (key_of row) ps) []))) ≡ set_row key_of row (joined ps)
  set-in-place row [] a l = absurd (omega (arith, l))
  set-in-place row (p ∷ ps) a l = by (set-in-place row ps (ascend-right p (joined ps) a)) (ends_before key_of (key_of row) p) refl l
    where
      by : (place key_of (key_of row) ps < length ps → joined (slice_set ps (place key_of (key_of row) ps) (set_row key_of row (slice_index_or ps (place key_of (key_of row) ps) []))) ≡ set_row key_of row (joined ps)) → (t : Bool) → ends_before key_of (key_of row) p ≡ t → cond t (suc (place key_of (key_of row) ps)) zero < length (p ∷ ps)
          → joined (slice_set (p ∷ ps) (cond t (suc (place key_of (key_of row) ps)) zero) (set_row key_of row (slice_index_or (p ∷ ps) (cond t (suc (place key_of (key_of row) ps)) zero) []))) ≡ set_row key_of row (joined (p ∷ ps))
      by more true is l =
          ap (λ (ys : List T). p ++ ys) (more (omega (arith, l)))
          ∙ sym (ap (λ (ys : List T). ys ++ set_row key_of row (joined ps)) (set-none key_of row p (skipped-none (key_of row) p is)))
          ∙ sym (set-append row p (joined ps))
      by more false is l =
          sym (ap (λ (ys : List T). set_row key_of row p ++ ys) (set-none key_of row (joined ps) (after-none key_of (key_of row) (joined ps) (after-stop (key_of row) p (joined ps) a is))))
          ∙ sym (set-append row p (joined ps))

-- ---- pieces that come, go and split

pub joined-removed : {X : Type 0} (ps : List (List X)) (i : ℕ) (p : List X) → i < length ps → p ≡ [] → joined (remove (slice_set ps i p) i) ≡ joined (slice_set ps i p)
joined-removed [] i p l none = absurd (omega (arith, l))
joined-removed (q ∷ qs) zero p l none = sym (ap (λ ys. ys ++ joined qs) none)
joined-removed (q ∷ qs) (suc i) p l none = ap (λ ys. q ++ ys) (joined-removed qs i p (omega (arith, l)) none)

pub joined-split : {X : Type 0} (ps : List (List X)) (i : ℕ) (low high : List X) → i < length ps → low ++ high ≡ slice_index_or ps i [] → joined (insert (slice_set ps i low) (suc i) high) ≡ joined ps
joined-split [] i low high l both = absurd (omega (arith, l))
joined-split (p ∷ ps) zero low high l both = sym (append_assoc low high (joined ps)) ∙ ap (λ ys. ys ++ joined ps) both
joined-split (p ∷ ps) (suc i) low high l both = ap (λ ys. p ++ ys) (joined-split ps i low high (omega (arith, l)) both)

pub filled-at : {X : Type 0} (ps : List (List X)) (i : ℕ) → AreFilled ps → i < length ps → (0 < length (slice_index_or ps i [])) × (length (slice_index_or ps i []) < MOST)
filled-at [] i filled l = absurd (omega (arith, l))
filled-at (p ∷ ps) zero filled l = (filled.0, filled.1)
filled-at (p ∷ ps) (suc i) filled l = filled-at ps i filled.2 (omega (arith, l))

pub filled-set : {X : Type 0} (ps : List (List X)) (i : ℕ) (p : List X) → AreFilled ps → 0 < length p → length p < MOST → AreFilled (slice_set ps i p)
filled-set [] i p filled some few = tt
filled-set (q ∷ qs) zero p filled some few = (some, few, filled.2)
filled-set (q ∷ qs) (suc i) p filled some few = (filled.0, filled.1, filled-set qs i p filled.2 some few)

pub filled-insert : {X : Type 0} (ps : List (List X)) (i : ℕ) (p : List X) → i ≤ length ps → AreFilled ps → 0 < length p → length p < MOST → AreFilled (insert ps i p)
filled-insert ps zero p l filled some few = (some, few, filled)
filled-insert [] (suc i) p l filled some few = absurd (omega (arith, l))
filled-insert (q ∷ qs) (suc i) p l filled some few = (filled.0, filled.1, filled-insert qs i p (omega (arith, l)) filled.2 some few)

pub filled-removed : {X : Type 0} (ps : List (List X)) (i : ℕ) (p : List X) → i < length ps → AreFilled ps → AreFilled (remove (slice_set ps i p) i)
filled-removed [] i p l filled = absurd (omega (arith, l))
filled-removed (q ∷ qs) zero p l filled = filled.2
filled-removed (q ∷ qs) (suc i) p l filled = (filled.0, filled.1, filled-removed qs i p (omega (arith, l)) filled.2)
