-- A text is split at the first place where a test passes.
use Rattle.std.proofs.Common.{◌≡◌, ℕ, suc, ◌+◌, ◌<◌, ◌≤◌, Bool, true, false, not, List, [], ◌∷◌, length, take, drop, refl, ap, arith, cond, ◌==◌}
use Rattle.std.specs.List.{slice_split, onto_first, prefix_len}
use Rattle.std.proofs.lemmas.List.Splits.{length-slice_split}
use Rattle.std.proofs.lemmas.Bool.{ne_eqb}
use Rattle.r9_mirror.specs.Words.{words_of}

abbrev before : {X : Type 0} → (X → Bool) → List X → ℕ
before p xs = prefix_len (λ x. not (p x)) xs

pub cut_found : {X : Type 0} (p : X → Bool) (xs : List X) → prefix_len (λ x. not (p x)) xs < length xs
    → slice_split p xs ≡ take (prefix_len (λ x. not (p x)) xs) xs ∷ slice_split p (drop (prefix_len (λ x. not (p x)) xs + 1) xs)
cut_found p [] h = absurd (omega (arith, h))
cut_found p (x ∷ xs) h =
    let n = before p xs in
    let split = slice_split p xs in
    (elim (p x) as (λ b. cond (not b) (1 + n) 0 < suc (length xs) → cond b ([] ∷ split) (onto_first x split) ≡ take (cond (not b) (1 + n) 0) (x ∷ xs) ∷ slice_split p (drop (cond (not b) (1 + n) 0 + 1) (x ∷ xs))) [
      | true ↦ λ lt. refl
      | false ↦ λ lt.
          let first : 1 + n ≡ suc n = omega arith in
          let behind : 1 + n + 1 ≡ suc (n + 1) = omega arith in
          rw (behind, first) (ap (onto_first x) (cut_found p xs (omega (arith, lt))))
    ]) h

pub cut_none : {X : Type 0} (p : X → Bool) (xs : List X) → length xs ≤ prefix_len (λ x. not (p x)) xs → slice_split p xs ≡ xs ∷ []
cut_none p [] h = refl
cut_none p (x ∷ xs) h =
    let n = before p xs in
    let split = slice_split p xs in
    (elim (p x) as (λ b. suc (length xs) ≤ cond (not b) (1 + n) 0 → cond b ([] ∷ split) (onto_first x split) ≡ (x ∷ xs) ∷ []) [
      | true ↦ λ le. absurd (omega (arith, le))
      | false ↦ λ le. ap (onto_first x) (cut_none p xs (omega (arith, le)))
    ]) h

-- a text has a word, be it of no byte
pub some_words : (text : List ℕ) → (length (words_of text) == 0) ≡ false
some_words text = let some = length-slice_split (λ byte. byte == 32) text in ne_eqb (length (words_of text)) 0 (λ e. omega (arith, some, e))
