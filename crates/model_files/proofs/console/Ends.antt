-- The last so many of a list.
use Rattle.std.proofs.Common.{◌≡◌, inl, inr, ℕ, ◌+◌, ◌-◌, ◌≤◌, List, ◌++◌, length, take, drop, sym, ap, ◌∙◌, arith, append_assoc, length-append, length-drop}
use Rattle.std.proofs.lemmas.List.{take-append-drop}
use Rattle.std.proofs.lemmas.Bool.{cases_lt}
use Rattle.std.proofs.Math.Seq.{drop-append-add}
use Rattle.model_files.specs.console.Console.{last_of}

pub last_of-short : {A : Type 0} (n : ℕ) (xs : List A) → length xs ≤ n → last_of n xs ≡ xs
last_of-short n xs le = ap (λ k. drop k xs) (let none : length xs - n ≡ 0 = omega arith in none)

pub last_of-last_of : {A : Type 0} (n : ℕ) (xs : List A) → last_of n (last_of n xs) ≡ last_of n xs
last_of-last_of n xs = last_of-short n (last_of n xs) (omega (arith, length-drop (length xs - n) xs))

-- what is dropped from the front of an end of at least n is dropped from the whole
drop_behind : {A : Type 0} (n : ℕ) (front end : List A) → n ≤ length end → last_of n (front ++ end) ≡ last_of n end
drop_behind n front end le =
    ap (λ k. drop k (front ++ end)) (let split : length (front ++ end) - n ≡ length front + (length end - n) = omega (arith, length-append front end) in split)
    ∙ drop-append-add front end (length end - n)

same_front : {A : Type 0} (n : ℕ) (xs ys : List A) → n ≤ length xs → last_of n (last_of n xs ++ ys) ≡ last_of n (xs ++ ys)
same_front n xs ys le =
    let k = length xs - n in
    let whole : take k xs ++ (last_of n xs ++ ys) ≡ xs ++ ys = sym (append_assoc (take k xs) (drop k xs) ys) ∙ ap (λ zs. zs ++ ys) (take-append-drop k xs) in
    let long : n ≤ length (last_of n xs ++ ys) = omega (arith, length-append (last_of n xs) ys, length-drop k xs) in
    sym (drop_behind n (take k xs) (last_of n xs ++ ys) long) ∙ ap (last_of n) whole

pub last_of-append : {A : Type 0} (n : ℕ) (xs ys : List A) → last_of n (last_of n xs ++ ys) ≡ last_of n (xs ++ ys)
last_of-append n xs ys = elim (cases_lt (length xs) n) [
  | inl short ↦ ap (λ zs. last_of n (zs ++ ys)) (last_of-short n xs (omega arith))
  | inr long ↦ same_front n xs ys long
]

pub length-last_of : {A : Type 0} (n : ℕ) (xs : List A) → length (last_of n xs) ≤ n
length-last_of n xs = omega (arith, length-drop (length xs - n) xs)

pub last_of-append-last_of : {A : Type 0} (n : ℕ) (xs ys : List A) → last_of n (xs ++ last_of n ys) ≡ last_of n (xs ++ ys)
last_of-append-last_of n xs ys = elim (cases_lt (length ys) n) [
  | inl short ↦ ap (λ zs. last_of n (xs ++ zs)) (last_of-short n ys (omega arith))
  | inr long ↦
      drop_behind n xs (last_of n ys) (omega (arith, length-drop (length ys - n) ys)) ∙ last_of-last_of n ys ∙ sym (drop_behind n xs ys long)
]
