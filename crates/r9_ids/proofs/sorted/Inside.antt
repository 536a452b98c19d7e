-- What the calls of a piece find and change.
use Rattle.std.proofs.Common.{◌≡◌, ℕ, true, false, ◌-◌, ◌<◌, List, [], ◌∷◌, ◌++◌, length, take, drop, Option, Some, None, refl, sym, ap, subst, ◌∙◌, arith}
use Rattle.std.specs.Prelude.{IsSome, find, slice_index_or, slice_set}
use Rattle.std.specs.List.{insert, remove}
use Rattle.std.proofs.lemmas.List.{take_all, take-append-drop, length-drop}
use Rattle.r9_ids.specs.declared.sorted.key.Key.{Key}
use Rattle.r9_ids.specs.sorted.Order.{is_key}
use Rattle.r9_ids.specs.sorted.Pieces.{ends_before, place_in}
use Rattle.r9_ids.specs.sorted.Rows.{has_key, is_before, put_in_order, without_key, first_from, set_row, Ascend}
use Rattle.r9_ids.proofs.sorted.Ascending.{first-at, found-is, found-other, put-here, remove-here, set-here, ascend-append}
use Rattle.r9_ids.proofs.sorted.Pieced.{ends-last}

module _ {T : Type 0} (key_of : T → Key) where
  pub ends-some : (k : Key) (xs : List T) (row : T) → Ascend key_of xs → 0 < length xs → row ≡ slice_index_or xs (length xs - 1) row → is_before key_of k row ≡ ends_before key_of k xs
  ends-some k [] row a some is = absurd (omega (arith, some))
  ends-some k (x ∷ xs) row a some is =
      let last : length (x ∷ xs) - 1 ≡ length xs = omega arith in
      ap (is_before key_of k) (is ∙ ap (λ (n : ℕ). slice_index_or (x ∷ xs) n row) last) ∙ ends-last key_of k x xs row a

  pub piece-first : (k : Key) (xs ys : List T) (at : ℕ) (row : T) → ys ≡ xs → at ≡ place_in key_of k xs → at < length xs → row ≡ slice_index_or ys at row → Some row ≡ first_from key_of k xs
  piece-first k xs ys at row same is l here =
      let within : place_in key_of k xs < length xs = omega (arith, is, l) in
      ap (λ (x : T). Some x) (here ∙ ap (λ (zs : List T). slice_index_or zs at row) same ∙ ap (λ (n : ℕ). slice_index_or xs n row) is) ∙ sym (first-at key_of k xs row within)

  pub piece-has : (k j : Key) (xs ys : List T) (at : ℕ) (row : T) → ys ≡ xs → at ≡ place_in key_of k xs → at < length xs → row ≡ slice_index_or ys at row → j ≡ key_of row → is_key j k ≡ true
      → find (has_key key_of k) xs ≡ Some row
  piece-has k j xs ys at row same is l here of has = found-is key_of k xs row (sym (piece-first k xs ys at row same is l here)) (sym (ap (λ (i : Key). is_key i k) of) ∙ has)

  pub piece-lacks : (k j : Key) (xs ys : List T) (at : ℕ) (row : T) → ys ≡ xs → at ≡ place_in key_of k xs → at < length xs → row ≡ slice_index_or ys at row → j ≡ key_of row → is_key j k ≡ false → Ascend key_of xs
      → find (has_key key_of k) xs ≡ None
  piece-lacks k j xs ys at row same is l here of other a =
      found-other key_of k xs row a (sym (piece-first k xs ys at row same is l here)) (sym (ap (λ (i : Key). is_key i k) of) ∙ other)

  pub put-done : (row : T) (xs ys zs : List T) (k : Key) (at : ℕ) → ys ≡ xs → k ≡ key_of row → at ≡ place_in key_of k xs → find (has_key key_of (key_of row)) xs ≡ None → zs ≡ insert ys at row → zs ≡ put_in_order key_of row xs
  put-done row xs ys zs k at same of is none made =
      made ∙ ap (λ (us : List T). insert us at row) same ∙ ap (λ (n : ℕ). insert xs n row) (is ∙ ap (λ (j : Key). place_in key_of j xs) of) ∙ put-here key_of row xs none

  pub remove-done : (k : Key) (xs ys zs : List T) (at : ℕ) (e : T) → ys ≡ xs → at ≡ place_in key_of k xs → Ascend key_of xs → find (has_key key_of k) xs ≡ Some e → zs ≡ remove ys at → zs ≡ without_key key_of k xs
  remove-done k xs ys zs at e same is a found made =
      made ∙ ap (λ (us : List T). remove us at) same ∙ ap (λ (n : ℕ). remove xs n) is ∙ remove-here key_of k xs e a found

  pub set-done : (row : T) (xs ys : List T) (k : Key) (at : ℕ) (e : T) → ys ≡ xs → k ≡ key_of row → at ≡ place_in key_of k xs → Ascend key_of xs → find (has_key key_of (key_of row)) xs ≡ Some e → slice_set ys at row ≡ set_row key_of row xs
  set-done row xs ys k at e same of is a found =
      ap (λ (us : List T). slice_set us at row) same ∙ ap (λ (n : ℕ). slice_set xs n row) (is ∙ ap (λ (j : Key). place_in key_of j xs) of) ∙ set-here key_of row xs e a found

pub found-some : {X : Type 0} (o : Option X) → IsSome o → (x : X) × (o ≡ Some x)
found-some None h = absurd cc
found-some (Some x) h = (x, refl)

module _ {T : Type 0} (key_of : T → Key) where
  parts : (n : ℕ) (xs : List T) → Ascend key_of xs → Ascend key_of (take n xs) × Ascend key_of (drop n xs)
  parts n xs a = ascend-append key_of (take n xs) (drop n xs) (subst (λ (ys : List T). Ascend key_of ys) (sym (take-append-drop n xs)) a)

  pub low-done : (n : ℕ) (xs ys : List T) → Ascend key_of xs → ys ≡ take n xs → Ascend key_of ys
  low-done n xs ys a is = subst (λ (zs : List T). Ascend key_of zs) (sym is) (parts n xs a).0

  pub high-is : (n : ℕ) (xs us vs ws ys : List T) → us ≡ xs → vs ≡ ws → ws ≡ [] → ys ≡ vs ++ take (length us - n) (drop n us) → ys ≡ drop n xs
  high-is n xs us vs ws ys same none empty made =
      made
      ∙ ap (λ (zs : List T). zs ++ take (length us - n) (drop n us)) (none ∙ empty)
      ∙ ap (λ (zs : List T). take (length zs - n) (drop n zs)) same
      ∙ take_all (length xs - n) (drop n xs) (omega (arith, length-drop n xs))

  pub high-done : (n : ℕ) (xs ys : List T) → Ascend key_of xs → ys ≡ drop n xs → Ascend key_of ys
  high-done n xs ys a is = subst (λ (zs : List T). Ascend key_of zs) (sym is) (parts n xs a).1
