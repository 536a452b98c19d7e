-- The marks of a table, counted row by row.
use Rattle.std.proofs.Common.{◌≡◌, ◌∙◌, ℕ, zero, suc, ◌+◌, ◌*◌, ◌<◌, Bool, false, List, [], ◌∷◌, ◌++◌, cond, get_or, length, take, drop, refl, ap, sym, arith}
use Rattle.std.specs.Prelude.{map}
use Rattle.std.specs.List.{count_by, flat_map, range_with_len}
use Rattle.std.proofs.lemmas.List.{get_or-drop, get_or-take, length-drop, length-take, take-append-drop}
use Rattle.std.proofs.lemmas.List.Sums.{sum_by-append, sum_by-cons}

abbrev weight : Bool → ℕ
weight b = cond b 1 0

-- one row, where the first place is in column a
count_row : (has : ℕ × ℕ → Bool) (row : ℕ) (bits : List Bool) (a n : ℕ) → length bits ≡ n → ((k : ℕ) → k < n → get_or bits k false ≡ has (a + k, row))
    → count_by (λ mark. mark) bits ≡ count_by has (map (λ column. (column, row)) (range_with_len a n))
count_row has row [] a zero size same = refl
count_row has row [] a (suc n) size same = absurd (omega (arith, size))
count_row has row (b ∷ bits) a zero size same = absurd (omega (arith, size))
count_row has row (b ∷ bits) a (suc n) size same =
    let cells : List (ℕ × ℕ) = map (λ column. (column, row)) (range_with_len (a + 1) n) in
    let here : b ≡ has (a, row) = same 0 (omega arith) ∙ ap (λ (k : ℕ). has (k, row)) (omega arith) in
    let rest : count_by (λ mark. mark) bits ≡ count_by has cells =
    count_row has row bits (a + 1) n (omega (arith, size)) (λ k h. same (suc k) (omega (arith, h)) ∙ ap (λ (c : ℕ). has (c, row)) (omega arith)) in
    let left : count_by (λ mark. mark) (b ∷ bits) ≡ weight b + count_by (λ mark. mark) bits = sum_by-cons (λ (mark : Bool). weight mark) b bits in
    let right : count_by has ((a, row) ∷ cells) ≡ weight (has (a, row)) + count_by has cells = sum_by-cons (λ (c : ℕ × ℕ). weight (has c)) (a, row) cells in
    left ∙ (λ i. weight (here i) + rest i) ∙ sym right

-- so many rows, from a first one on
pub count_rows : (has : ℕ × ℕ → Bool) (across : ℕ) (bits : List Bool) (first down : ℕ) → length bits ≡ down * across
    → ((column row : ℕ) → column < across → row < down → get_or bits (row * across + column) false ≡ has (column, first + row))
    → count_by (λ mark. mark) bits ≡ count_by has (flat_map (λ row. map (λ column. (column, row)) (range_with_len 0 across)) (range_with_len first down))
count_rows has across [] first zero size same = refl
count_rows has across (b ∷ bits) first zero size same = absurd (omega (arith, size))
count_rows has across bits first (suc down) size same =
    let upper : List (ℕ × ℕ) = map (λ column. (column, first)) (range_with_len 0 across) in
    let lower : List (ℕ × ℕ) = flat_map (λ row. map (λ column. (column, row)) (range_with_len 0 across)) (range_with_len (first + 1) down) in
    let here : count_by (λ mark. mark) (take across bits) ≡ count_by has upper =
    count_row has first (take across bits) 0 across (omega (arith, length-take across bits, size))
    (λ k h. get_or-take across bits k false h ∙ ap (λ j. get_or bits j false) (omega arith) ∙ same k 0 h (omega arith) ∙ ap (λ (p : ℕ × ℕ). has p) (λ i. (one k i, none first i))) in
    let rest : count_by (λ mark. mark) (drop across bits) ≡ count_by has lower =
    count_rows has across (drop across bits) (first + 1) down (omega (arith, length-drop across bits, size))
    (λ column row h low. get_or-drop across bits (row * across + column) false ∙ ap (λ j. get_or bits j false) (next across row column)
    ∙ same column (suc row) h (omega (arith, low)) ∙ ap (λ (r : ℕ). has (column, r)) (omega arith)) in
    let left : count_by (λ mark. mark) (take across bits ++ drop across bits) ≡ count_by (λ mark. mark) (take across bits) + count_by (λ mark. mark) (drop across bits) =
    sum_by-append (λ (mark : Bool). weight mark) (take across bits) (drop across bits) in
    let right : count_by has (upper ++ lower) ≡ count_by has upper + count_by has lower = sum_by-append (λ (c : ℕ × ℕ). weight (has c)) upper lower in
    ap (count_by (λ mark. mark)) (sym (take-append-drop across bits)) ∙ left ∙ (λ i. here i + rest i) ∙ sym right
  where
    none : (n : ℕ) → n + 0 ≡ n
    none n = omega arith

    one : (n : ℕ) → n ≡ 0 + n
    one n = omega arith

    next : (across row column : ℕ) → across + (row * across + column) ≡ suc row * across + column
    next across row column = omega arith
