-- What the calls on pieces find and change.
use Rattle.std.proofs.Common.{◌≡◌, ℕ, ◌-◌, ◌<◌, ◌≤◌, List, [], ◌∷◌, length, Option, None, refl, sym, ap, subst, ◌∙◌, arith}
use Rattle.std.specs.Prelude.{Bool, IsSome, find, filter, min, slice_index_or, slice_set}
use Rattle.std.proofs.lemmas.List.{get_or_default}
use Rattle.std.proofs.lemmas.List.Sums.{length-filter, count_by-le-length}
use Rattle.r9_ids.specs.declared.sorted.key.Key.{Key}
use Rattle.r9_ids.specs.declared.sorted.piece.TheConstants.{MOST}
use Rattle.r9_ids.specs.sorted.Pieces.{joined, AreFilled, place, slot}
use Rattle.r9_ids.specs.sorted.Rows.{has_key, without_key, first_from, set_row, Ascend}
use Rattle.r9_ids.proofs.sorted.Pieced.{first-in-place, find-in, find-in-place, found-in-place, filled-at, filled-set, remove-in-place, set-in-place, slot-is}
use Rattle.r9_ids.proofs.sorted.Ascending.{length-set_row}
use Rattle.r9_ids.proofs.sorted.Inside.{found-some}

pub at-place : {X : Type 0} (ps : List (List X)) (at n : ℕ) (p : List X) → at ≡ n → at < length ps → p ≡ slice_index_or ps at p → p ≡ slice_index_or ps n []
at-place ps at n p is l here = here ∙ get_or_default ps at p [] l ∙ ap (λ (k : ℕ). slice_index_or ps k []) is

pub no-rows : {X : Type 0} (p : List X) → length p ≡ 0 → p ≡ []
no-rows [] h = refl
no-rows (x ∷ xs) h = absurd (omega (arith, h))

length-filter-le : {X : Type 0} (p : X → Bool) (xs : List X) → length (filter p xs) ≤ length xs
length-filter-le p xs = omega (arith, length-filter p xs, count_by-le-length p xs)

module _ {T : Type 0} (key_of : T → Key) where
  pub first-done : (k : Key) (ps : List (List T)) (at : ℕ) (p : List T) (r : Option T) → at ≡ place key_of k ps → at < length ps → p ≡ slice_index_or ps at p → r ≡ first_from key_of k p → r ≡ first_from key_of k (joined ps)
  first-done k ps at p r is l here first =
      let within : place key_of k ps < length ps = omega (arith, is, l) in
      first ∙ ap (first_from key_of k) (at-place ps at (place key_of k ps) p is l here) ∙ sym (first-in-place key_of k ps within)

  pub slot-done : (k : Key) (j : Key) (ps qs : List (List T)) (p n at : ℕ) → qs ≡ ps → j ≡ k → p ≡ place key_of j qs → n ≡ length ps → at ≡ min p (n - 1) → at ≡ slot key_of k ps
  slot-done k j ps qs p n at same of is many made =
      let placed : p ≡ place key_of k ps = is ∙ ap (λ (i : Key). place key_of i qs) of ∙ ap (place key_of k) same in
      made ∙ ap (λ (i : ℕ). min i (n - 1)) placed ∙ ap (λ (i : ℕ). min (place key_of k ps) (i - 1)) many ∙ slot-is key_of k ps

  pub absent-in : (k : Key) (ps : List (List T)) (at : ℕ) (p : List T) → at < length ps → p ≡ slice_index_or ps at p → find (has_key key_of k) (joined ps) ≡ None → find (has_key key_of k) p ≡ None
  absent-in k ps at p l here none = ap (find (has_key key_of k)) (at-place ps at at p refl l here) ∙ find-in (has_key key_of k) ps at l none

  pub fits-in : (ps : List (List T)) (at : ℕ) (p : List T) → at < length ps → p ≡ slice_index_or ps at p → AreFilled ps → length p < MOST
  fits-in ps at p l here filled =
      let same : length p ≡ length (slice_index_or ps at []) = ap length (at-place ps at at p refl l here) in
      let few = filled-at ps at filled l in
      omega (arith, same, few.1)

  pub within : (k : Key) (ps : List (List T)) (at : ℕ) → at ≡ place key_of k ps → IsSome (find (has_key key_of k) (joined ps)) → at < length ps
  within k ps at is there =
      let found = found-some (find (has_key key_of k) (joined ps)) there in
      let less : place key_of k ps < length ps = found-in-place key_of k ps found.0 found.1 in
      omega (arith, is, less)

  pub found-in : (k : Key) (ps : List (List T)) (at : ℕ) (p : List T) → Ascend key_of (joined ps) → at ≡ place key_of k ps → at < length ps → p ≡ slice_index_or ps at p → find (has_key key_of k) (joined ps) ≡ find (has_key key_of k) p
  found-in k ps at p a is l here =
      let less : place key_of k ps < length ps = omega (arith, is, l) in
      find-in-place key_of k ps a less ∙ ap (find (has_key key_of k)) (sym (at-place ps at (place key_of k ps) p is l here))

  pub there-in : (k : Key) (ps : List (List T)) (at : ℕ) (p : List T) → Ascend key_of (joined ps) → at ≡ place key_of k ps → at < length ps → p ≡ slice_index_or ps at p → IsSome (find (has_key key_of k) (joined ps)) → IsSome (find (has_key key_of k) p)
  there-in k ps at p a is l here there = subst (λ (o : Option T). IsSome o) (found-in k ps at p a is l here) there

  pub removed-rows : (k : Key) (ps : List (List T)) (at : ℕ) (p q : List T) → Ascend key_of (joined ps) → at ≡ place key_of k ps → at < length ps → p ≡ slice_index_or ps at p → q ≡ without_key key_of k p
      → joined (slice_set ps at q) ≡ without_key key_of k (joined ps)
  removed-rows k ps at p q a is l here made =
      let less : place key_of k ps < length ps = omega (arith, is, l) in
      ap (λ (i : ℕ). joined (slice_set ps i q)) is
      ∙ ap (λ (r : List T). joined (slice_set ps (place key_of k ps) r)) (made ∙ ap (without_key key_of k) (at-place ps at (place key_of k ps) p is l here))
      ∙ remove-in-place key_of k ps a less

  pub removed-few : (k : Key) (ps : List (List T)) (at : ℕ) (p q : List T) → at < length ps → p ≡ slice_index_or ps at p → AreFilled ps → q ≡ without_key key_of k p → length q < MOST
  removed-few k ps at p q l here filled made =
      let few = fits-in ps at p l here filled in
      let fewer : length q ≤ length p = subst (λ (r : List T). length r ≤ length p) (sym made) (length-filter-le _ p) in
      omega (arith, few, fewer)

  pub set-rows : (row : T) (ps : List (List T)) (at : ℕ) (p q : List T) → Ascend key_of (joined ps) → at ≡ place key_of (key_of row) ps → at < length ps → p ≡ slice_index_or ps at p → q ≡ set_row key_of row p
      → joined (slice_set ps at q) ≡ set_row key_of row (joined ps)
  set-rows row ps at p q a is l here made =
      let less : place key_of (key_of row) ps < length ps = omega (arith, is, l) in
      ap (λ (i : ℕ). joined (slice_set ps i q)) is
      ∙ ap (λ (r : List T). joined (slice_set ps (place key_of (key_of row) ps) r)) (made ∙ ap (set_row key_of row) (at-place ps at (place key_of (key_of row) ps) p is l here))
      ∙ set-in-place key_of row ps a less

  pub set-filled : (row : T) (ps : List (List T)) (at : ℕ) (p q : List T) → at < length ps → p ≡ slice_index_or ps at p → AreFilled ps → q ≡ set_row key_of row p → AreFilled (slice_set ps at q)
  set-filled row ps at p q l here filled made =
      let same : length p ≡ length (slice_index_or ps at []) = ap length (at-place ps at at p refl l here) in
      let few = filled-at ps at filled l in
      let many : length q ≡ length p = ap length made ∙ length-set_row key_of row p in
      filled-set ps at q filled (omega (arith, same, many, few.0)) (omega (arith, same, many, few.1))
