-- A part of two lists that stand one behind the other.
use Rattle.std.proofs.Common.{◌≡◌, ◌∙◌, ◌≤◌, ◌+◌, ◌-◌, ℕ, List, ◌++◌, length, take, drop, ⊎_elim, arith, ap, sym}
use Rattle.std.proofs.lemmas.Bool.{cases_lt}
use Rattle.std.proofs.lemmas.List.{append-nil, drop_all, drop-append-le, length-take, take_all, take-append-le}
use Rattle.std.proofs.Math.Seq.{drop-append-add, take-append-add}

rest_of : (m n : ℕ) → m ≤ n → n ≡ m + (n - m)
rest_of m n h = omega arith

pub drop-append : (k : ℕ) (xs ys : List ℕ) → drop k (xs ++ ys) ≡ drop k xs ++ drop (k - length xs) ys
drop-append k xs ys =
    ⊎_elim
    (λ below. let none : k - length xs ≡ 0 = omega (arith, below) in
    drop-append-le k xs ys (omega (arith, below)) ∙ ap (λ n. drop k xs ++ drop n ys) (sym none))
    (λ past. ap (λ n. drop n (xs ++ ys)) (rest_of (length xs) k past)
    ∙ drop-append-add xs ys (k - length xs)
    ∙ ap (λ front. front ++ drop (k - length xs) ys) (sym (drop_all k xs past)))
    (cases_lt k (length xs))

pub take-append : (k : ℕ) (xs ys : List ℕ) → take k (xs ++ ys) ≡ take k xs ++ take (k - length (take k xs)) ys
take-append k xs ys =
    ⊎_elim
    (λ below. let none : k - length (take k xs) ≡ 0 = omega (arith, below, length-take k xs) in
    take-append-le k xs ys (omega (arith, below)) ∙ sym (append-nil (take k xs)) ∙ ap (λ n. take k xs ++ take n ys) (sym none))
    (λ past. let all = take_all k xs past in
    ap (λ n. take n (xs ++ ys)) (rest_of (length xs) k past)
    ∙ take-append-add xs ys (k - length xs)
    ∙ ap (λ front. front ++ take (k - length front) ys) (sym all))
    (cases_lt k (length xs))

pub part-append : (offset count : ℕ) (xs ys : List ℕ) → take count (drop offset (xs ++ ys)) ≡ take count (drop offset xs) ++ take (count - length (take count (drop offset xs))) (drop (offset - length xs) ys)
part-append offset count xs ys =
    ap (take count) (drop-append offset xs ys) ∙ take-append count (drop offset xs) (drop (offset - length xs) ys)
