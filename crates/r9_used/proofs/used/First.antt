-- The first word of a line, from the front of it.
use Rattle.std.proofs.Common.{◌≡◌, ℕ, suc, ◌+◌, ◌-◌, Bool, true, false, not, cond, List, [], ◌∷◌, length, take, drop, Option, Some, None, refl, sym, ap, subst, ◌∙◌, arith}
use Rattle.std.specs.Prelude.{◌==◌, slice_get}
use Rattle.std.specs.List.{filter, onto_first, prefix_len, slice_split}
use Rattle.std.specs.Option.{unwrap_or}
use Rattle.std.proofs.lemmas.Bool.{eqb-true}
use Rattle.std.proofs.lemmas.Bool.Decides.{nat_tests}
use Rattle.model_text.specs.text.Word.{is_blank, next_word}
use Rattle.model_files.specs.wctl.Words.{words_of}
use Rattle.r9_used.specs.used.Words.{word_of}

-- what stands before the first blank
abbrev front : List ℕ → List ℕ
front line = take (prefix_len (λ byte. not (is_blank byte)) line) line

-- the first part that is not empty
abbrev first_of : List (List ℕ) → List ℕ
first_of parts = unwrap_or (slice_get (filter (λ word. not (length word == 0)) parts) 0) []

-- one byte more
grown : (x : ℕ) (n : ℕ) (xs : List ℕ) → take (1 + n) (x ∷ xs) ≡ x ∷ take n xs
grown x n xs = let more : 1 + n ≡ suc n = omega arith in ap (λ (m : ℕ). take m (x ∷ xs)) more

dropped : (x : ℕ) (n : ℕ) (xs : List ℕ) → drop (1 + n) (x ∷ xs) ≡ drop n xs
dropped x n xs = let more : 1 + n ≡ suc n = omega arith in ap (λ (m : ℕ). drop m (x ∷ xs)) more

some : (n : ℕ) → (suc n == 0) ≡ false
some n = grind (arith, nat_tests)

-- a part that is not empty is the first
kept : (x : ℕ) (word : List ℕ) (parts : List (List ℕ)) → first_of ((x ∷ word) ∷ parts) ≡ x ∷ word
kept x word parts =
    let more = filter (λ word. not (length word == 0)) parts in
    ap (λ (b : Bool). unwrap_or (slice_get (cond (not b) ((x ∷ word) ∷ more) more) 0) []) (some (length word))

-- it is the first of the parts among blanks
split_front : (xs : List ℕ) → (parts : List (List ℕ)) × (slice_split is_blank xs ≡ front xs ∷ parts)
split_front [] = ([], refl)
split_front (x ∷ xs) = by (is_blank x) refl (split_front xs)
  where
    parts_by : Bool → List (List ℕ)
    parts_by b = cond b ([] ∷ slice_split is_blank xs) (onto_first x (slice_split is_blank xs))

    front_by : Bool → List ℕ
    front_by b = take (cond (not b) (1 + prefix_len (λ byte. not (is_blank byte)) xs) 0) (x ∷ xs)

    by : (b : Bool) → is_blank x ≡ b → (parts : List (List ℕ)) × (slice_split is_blank xs ≡ front xs ∷ parts) → (parts : List (List ℕ)) × (slice_split is_blank (x ∷ xs) ≡ front (x ∷ xs) ∷ parts)
    by true e more =
        let found : parts_by (is_blank x) ≡ front_by (is_blank x) ∷ slice_split is_blank xs = subst (λ (b : Bool). parts_by b ≡ front_by b ∷ slice_split is_blank xs) (sym e) refl in
        (slice_split is_blank xs, found)
    by false e more =
        let found : parts_by (is_blank x) ≡ front_by (is_blank x) ∷ more.0 =
        subst (λ (b : Bool). parts_by b ≡ front_by b ∷ more.0) (sym e)
        (ap (λ (parts : List (List ℕ)). onto_first x parts) more.1 ∙ ap (λ (l : List ℕ). l ∷ more.0) (sym (grown x (prefix_len (λ byte. not (is_blank byte)) xs) xs))) in
        (more.0, found)

-- the first word stands behind the blanks in front
word_front : (line : List ℕ) → first_of (slice_split is_blank line) ≡ front (drop (prefix_len is_blank line) line)
word_front [] = refl
word_front (x ∷ xs) = by (is_blank x) refl (word_front xs) (split_front xs)
  where
    parts_by : Bool → List (List ℕ)
    parts_by b = cond b ([] ∷ slice_split is_blank xs) (onto_first x (slice_split is_blank xs))

    behind_by : Bool → List ℕ
    behind_by b = drop (cond b (1 + prefix_len is_blank xs) 0) (x ∷ xs)

    first_front : is_blank x ≡ false → x ∷ front xs ≡ front (x ∷ xs)
    first_front e =
        sym (grown x (prefix_len (λ byte. not (is_blank byte)) xs) xs)
        ∙ ap (λ (b : Bool). take (cond (not b) (1 + prefix_len (λ byte. not (is_blank byte)) xs) 0) (x ∷ xs)) (sym e)

    by : (b : Bool) → is_blank x ≡ b → first_of (slice_split is_blank xs) ≡ front (drop (prefix_len is_blank xs) xs) → (parts : List (List ℕ)) × (slice_split is_blank xs ≡ front xs ∷ parts)
        → first_of (slice_split is_blank (x ∷ xs)) ≡ front (drop (prefix_len is_blank (x ∷ xs)) (x ∷ xs))
    by true e more split =
        subst (λ (b : Bool). first_of (parts_by b) ≡ front (behind_by b)) (sym e) (more ∙ ap (λ (l : List ℕ). front l) (sym (dropped x (prefix_len is_blank xs) xs)))
    by false e more split =
        subst (λ (b : Bool). first_of (parts_by b) ≡ front (behind_by b)) (sym e)
        (ap (λ (parts : List (List ℕ)). first_of (onto_first x parts)) split.1 ∙ kept x (front xs) split.0 ∙ first_front e)

len_of : (s n start end : ℕ) → s ≡ start → s + n ≡ end → n ≡ end - start
len_of s n start end at to = omega (arith, at, to)

-- the word that `next_word` finds, and none where it finds none
pub word_found : (line : List ℕ) (start end : ℕ) → next_word line 0 ≡ Some (start, end) → word_of line ≡ take (end - start) (drop start line)
unfolding next_word words_of
word_found line start end e =
    let s = 0 + prefix_len is_blank line in
    let behind : prefix_len is_blank line ≡ s = omega arith in
    let n = prefix_len (λ byte. not (is_blank byte)) (drop s line) in
    word_front line ∙ ap (λ (m : ℕ). front (drop m line)) behind ∙ by (n == 0) s n e
  where
    by : (b : Bool) (s n : ℕ) → (let o : Option (ℕ × ℕ) = cond b None (Some (s, s + n)) in o) ≡ Some (start, end) → take n (drop s line) ≡ take (end - start) (drop start line)
    by true s n e = absurd cc
    by false s n e =
        let both : (s, s + n) ≡ (start, end) = cc in
        let at : s ≡ start = ap (λ (p : ℕ × ℕ). p.0) both in
        let to : s + n ≡ end = ap (λ (p : ℕ × ℕ). p.1) both in
        let len_is = len_of s n start end at to in
        λ i. take (len_is i) (drop (at i) line)

pub no_word : (line : List ℕ) → next_word line 0 ≡ None → word_of line ≡ []
unfolding next_word words_of
no_word line e =
    let s = 0 + prefix_len is_blank line in
    let behind : prefix_len is_blank line ≡ s = omega arith in
    let n = prefix_len (λ byte. not (is_blank byte)) (drop s line) in
    word_front line ∙ ap (λ (m : ℕ). front (drop m line)) behind ∙ by (n == 0) s n refl e
  where
    by : (b : Bool) (s n : ℕ) → (n == 0) ≡ b → (let o : Option (ℕ × ℕ) = cond b None (Some (s, s + n)) in o) ≡ None → take n (drop s line) ≡ []
    by true s n none e = ap (λ (m : ℕ). take m (drop s line)) (eqb-true n 0 none)
    by false s n none e = absurd cc
