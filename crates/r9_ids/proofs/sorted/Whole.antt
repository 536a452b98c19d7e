-- What the calls of the table find and change.
use Rattle.std.proofs.Common.{◌≡◌, ℕ, zero, suc, ◌+◌, ◌<◌, true, false, List, [], ◌∷◌, length, take, drop, None, refl, sym, ap, ◌∙◌, arith}
use Rattle.std.specs.Prelude.{◌==◌, find, slice_index_or, slice_set}
use Rattle.std.specs.List.{insert}
use Rattle.std.proofs.lemmas.Bool.Decides.{nat_tests}
use Rattle.std.proofs.lemmas.List.{take-append-drop, length-take-le, length-drop, length-set, get_or-set_same}
use Rattle.r9_ids.specs.declared.sorted.key.Key.{Key}
use Rattle.r9_ids.specs.declared.sorted.piece.TheConstants.{HALF, MOST}
use Rattle.r9_ids.specs.sorted.Pieces.{joined, AreFilled, slot}
use Rattle.r9_ids.specs.sorted.Rows.{has_key, put_in_order}
use Rattle.r9_ids.proofs.sorted.Ascending.{length-put}
use Rattle.r9_ids.proofs.sorted.Among.{at-place}
use Rattle.r9_ids.proofs.sorted.Pieced.{filled-at, filled-set, filled-insert, joined-split, put-in-slot}

pub some-is : (n : ℕ) → (n == 0) ≡ false → 0 < n
some-is n h = grind (arith, nat_tests)

set-twice : {X : Type 0} (xs : List X) (i : ℕ) (x y : X) → slice_set (slice_set xs i x) i y ≡ slice_set xs i y
set-twice [] i x y = refl
set-twice (z ∷ zs) zero x y = refl
set-twice (z ∷ zs) (suc i) x y = ap (λ ys. z ∷ ys) (set-twice zs i x y)

module _ {T : Type 0} (key_of : T → Key) where
  pub put-rows : (row : T) (ps qs : List (List T)) (at : ℕ) → 0 < length ps → find (has_key key_of (key_of row)) (joined ps) ≡ None → at ≡ slot key_of (key_of row) ps
      → qs ≡ slice_set ps at (put_in_order key_of row (slice_index_or ps at [])) → joined qs ≡ put_in_order key_of row (joined ps)
  put-rows row ps qs at some none is made =
      ap joined made
      ∙ ap (λ (i : ℕ). joined (slice_set ps i (put_in_order key_of row (slice_index_or ps i [])))) is
      ∙ put-in-slot key_of row ps some none

  -- the piece that took the row
  taker : (row : T) (ps qs : List (List T)) (at : ℕ) → at < length ps → qs ≡ slice_set ps at (put_in_order key_of row (slice_index_or ps at []))
      → slice_index_or qs at [] ≡ put_in_order key_of row (slice_index_or ps at [])
  taker row ps qs at l made = rw made (get_or-set_same ps at (put_in_order key_of row (slice_index_or ps at [])) [] l)

  pub put-filled : (row : T) (ps qs : List (List T)) (at : ℕ) → at < length ps → AreFilled ps → qs ≡ slice_set ps at (put_in_order key_of row (slice_index_or ps at []))
      → (length (slice_index_or qs at []) == MOST) ≡ false → AreFilled qs
  put-filled row ps qs at l filled made few =
      let before = filled-at ps at filled l in
      let longer : length (put_in_order key_of row (slice_index_or ps at [])) ≡ length (slice_index_or ps at []) + 1 = length-put key_of row (slice_index_or ps at []) in
      let same : length (slice_index_or qs at []) ≡ length (put_in_order key_of row (slice_index_or ps at [])) = ap length (taker row ps qs at l made) in
      let less : length (put_in_order key_of row (slice_index_or ps at [])) < MOST = fewer _ _ _ longer same before.1 few in
      rw made (filled-set ps at (put_in_order key_of row (slice_index_or ps at [])) filled (omega (arith, longer)) less)
    where
      fewer : (a b c : ℕ) → b ≡ a + 1 → c ≡ b → a < MOST → (c == MOST) ≡ false → b < MOST
      fewer a b c h k l m = grind (arith, nat_tests)

  pub split-filled : (row : T) (ps qs rs : List (List T)) (at : ℕ) → at < length ps → AreFilled ps → qs ≡ slice_set ps at (put_in_order key_of row (slice_index_or ps at []))
      → length (slice_index_or qs at []) ≡ MOST → rs ≡ insert (slice_set qs at (take HALF (slice_index_or qs at []))) (suc at) (drop HALF (slice_index_or qs at [])) → AreFilled rs
  split-filled row ps qs rs at l filled made whole parted =
      let low : length (take HALF (slice_index_or qs at [])) ≡ HALF = length-take-le HALF (slice_index_or qs at []) (omega (arith, whole)) in
      let high : length (drop HALF (slice_index_or qs at [])) ≡ HALF = omega (arith, whole, length-drop HALF (slice_index_or qs at [])) in
      let twice : slice_set qs at (take HALF (slice_index_or qs at [])) ≡ slice_set ps at (take HALF (slice_index_or qs at [])) =
      ap (λ (us : List (List T)). slice_set us at (take HALF (slice_index_or qs at []))) made ∙ set-twice ps at _ (take HALF (slice_index_or qs at [])) in
      let lower : AreFilled (slice_set qs at (take HALF (slice_index_or qs at []))) =
      rw twice (filled-set ps at (take HALF (slice_index_or qs at [])) filled (omega (arith, low)) (omega (arith, low))) in
      let many : length (slice_set qs at (take HALF (slice_index_or qs at []))) ≡ length ps = ap length twice ∙ length-set ps at (take HALF (slice_index_or qs at [])) in
      rw parted (filled-insert (slice_set qs at (take HALF (slice_index_or qs at []))) (suc at) (drop HALF (slice_index_or qs at [])) (omega (arith, many, l)) lower (omega (arith, high)) (omega (arith, high)))

  pub split-rows : (qs rs : List (List T)) (at : ℕ) → at < length qs → rs ≡ insert (slice_set qs at (take HALF (slice_index_or qs at []))) (suc at) (drop HALF (slice_index_or qs at [])) → joined rs ≡ joined qs
  split-rows qs rs at l parted =
      ap joined parted ∙ joined-split qs at (take HALF (slice_index_or qs at [])) (drop HALF (slice_index_or qs at [])) l (take-append-drop HALF (slice_index_or qs at []))

pub full-is : {X : Type 0} (qs : List (List X)) (at : ℕ) (p : List X) → at < length qs → p ≡ slice_index_or qs at p → (length (slice_index_or qs at []) == MOST) ≡ (length p == MOST)
full-is qs at p l here = sym (ap (λ (r : List _). length r == MOST) (at-place qs at at p refl l here))

pub whole-is : (n : ℕ) → (n == MOST) ≡ true → n ≡ MOST
whole-is n h = grind (arith, nat_tests)
