-- The characters that bytes begin with.
use Rattle.std.proofs.Common.{◌≡◌, ℕ, zero, suc, ◌<◌, ◌≤◌, ◌==◌, Bool, true, false, List, [], ◌∷◌, length, take, refl, sym, ap, ◌∙◌, subst, arith, cond}
use Rattle.std.specs.Prelude.{not, slice_index}
use Rattle.std.specs.List.{list_all, prefix_len, take_while}
use Rattle.std.proofs.lemmas.List.{length-take, take-take, take_min}
use Rattle.std.proofs.lemmas.List.Sums.{take_while-cons}
use Rattle.r9_textwin.specs.Steps.{run}

module _ {X : Type 0} (p : X → Bool) where
  all_pass : (xs : List X) → list_all p (take_while p xs) ≡ true
  all_pass [] = refl
  all_pass (x ∷ xs) = ap (list_all p) (take_while-cons p x xs) ∙ by (p x) refl (all_pass xs)
    where
      by : (b : Bool) → p x ≡ b → list_all p (take_while p xs) ≡ true → list_all p (cond b (x ∷ take_while p xs) []) ≡ true
      by true e rest = rw e rest
      by false e rest = refl

-- what so many bytes at the front are by their length
by_length : (n : ℕ) (xs : List ℕ) → take (length (take n xs)) xs ≡ take n xs
by_length n xs = ap (λ (k : ℕ). take k xs) (length-take n xs) ∙ take_min n xs

-- characters that bytes begin with where they begin with one
pub record IsLine (most : ℕ) (bytes line : List ℕ) : Type 0 where
  pub first : ℕ
  pub more : List ℕ
  pub is : line ≡ first ∷ more
  pub all : list_all (λ byte. not (byte == 10)) (first ∷ more) ≡ true
  pub few : length (first ∷ more) ≤ most
  pub front : take (length line) bytes ≡ first ∷ more

run_is : (most byte : ℕ) (bytes : List ℕ) → (byte == 10) ≡ false → 0 < most → IsLine most (byte ∷ bytes) (run most (byte ∷ bytes))
run_is zero byte bytes is_other some = absurd (omega arith)
run_is (suc most) byte bytes is_other some =
    let test = λ (byte : ℕ). not (byte == 10) in
    let row = byte ∷ take most bytes in
    let line = take_while test row in
    let is : line ≡ byte ∷ take_while test (take most bytes) = take_while-cons test byte (take most bytes) ∙ rw is_other refl in
    let short : length line ≤ suc most = omega (arith, length-take (prefix_len test row) row, length-take most bytes) in
    record {
      first = byte;
      more = take_while test (take most bytes);
      is = is;
      all = subst (λ (xs : List ℕ). list_all test xs ≡ true) is (all_pass test row);
      few = omega (arith, ap length (sym is), length-take (prefix_len test row) row, length-take most bytes);
      front = sym (take-take (length line) (suc most) (byte ∷ bytes) short) ∙ by_length (prefix_len test row) row ∙ is;
    }

-- bytes that begin with a newline
pub newline_first : (bytes : List ℕ) → 0 < length bytes → slice_index bytes 0 ≡ 10 → take 1 bytes ≡ 10 ∷ []
newline_first [] some is = absurd (omega arith)
newline_first (byte ∷ bytes) some is = ap (λ (b : ℕ). b ∷ []) is

-- bytes that begin with a character
pub line_first : (most : ℕ) (bytes : List ℕ) → 0 < length bytes → (slice_index bytes 0 == 10) ≡ false → 0 < most → IsLine most bytes (run most bytes)
line_first most [] some is_other room = absurd (omega arith)
line_first most (byte ∷ bytes) some is_other room = run_is most byte bytes is_other room
