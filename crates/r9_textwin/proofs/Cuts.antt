-- Where the first piece of a text ends.
use Rattle.std.proofs.Common.{rules, ◌≡◌, ℕ, zero, suc, ◌+◌, ◌<◌, ◌≤◌, ◌==◌, min, Bool, true, false, List, [], ◌∷◌, ◌++◌, length, take, drop, refl, sym, ap, ◌∙◌, arith, append_assoc, cond, not, length-append, length-take, ⊎_elim}
use Rattle.std.proofs.lemmas.Bool.{cases_lt, lt-ltb, le-leb, lt-leb}
use Rattle.std.proofs.lemmas.List.{take_all, drop_all}
use Rattle.std.specs.Prelude.{◌||◌, Option, Some, None, nat_lt, position, unwrap_or}
use Rattle.std.specs.List.{position_or_len}
use Rattle.model_client.specs.textwin.Pieces.{cut, pieces}

-- where the first newline stands
abbrev line_len : List ℕ → ℕ
line_len text = position_or_len (λ byte. byte == 10) text

-- how many bytes go on a piece that so many are left for
abbrev taken : (left : ℕ) → List ℕ → ℕ
taken left text = min left (1 + line_len (take left text))

-- the same for a first byte that may be a newline, before a line of so many bytes
abbrev taken_from : (newline : Bool) (left line : ℕ) → ℕ
taken_from newline left line = min (suc left) (1 + cond (not newline) (1 + line) 0)

-- a piece is cut behind its first byte or goes on, and so many bytes are taken
abbrev Cut : (newline full : Bool) (left line most : ℕ) (piece : List ℕ) (byte : ℕ) (text : List ℕ) → Type 0
Cut newline full left line most piece byte text =
    cond (newline || full) ((piece ++ byte ∷ []) ∷ cut most [] text) (cut most (piece ++ byte ∷ []) text)
    ≡ (piece ++ take (taken_from newline left line) (byte ∷ text)) ∷ cut most [] (drop (taken_from newline left line) (byte ∷ text))

one_taken : (n most : ℕ) (piece : List ℕ) (byte : ℕ) (text : List ℕ) → n ≡ 1
    → (piece ++ byte ∷ []) ∷ cut most [] text ≡ (piece ++ take n (byte ∷ text)) ∷ cut most [] (drop n (byte ∷ text))
one_taken n most piece byte text is = rw is refl

at_limit : (newline : Bool) (line most : ℕ) (piece : List ℕ) (byte : ℕ) (text : List ℕ) → Cut newline true 0 line most piece byte text
at_limit true line most piece byte text = one_taken (taken_from true 0 line) most piece byte text (omega arith)
at_limit false line most piece byte text = one_taken (taken_from false 0 line) most piece byte text (omega arith)

rest_is_piece : (most : ℕ) (piece : List ℕ) (byte : ℕ) → cut most (piece ++ byte ∷ []) [] ≡ (piece ++ byte ∷ []) ∷ []
rest_is_piece most [] byte = refl
rest_is_piece most (first ∷ piece) byte = refl

at_rest : (newline : Bool) (left most : ℕ) (piece : List ℕ) (byte : ℕ) → Cut newline false (suc left) 0 most piece byte []
at_rest true left most piece byte = one_taken (taken_from true (suc left) 0) most piece byte [] (omega arith)
at_rest false left most piece byte =
    let two : taken_from false (suc left) 0 ≡ 2 = omega arith in
    rw two (rest_is_piece most piece byte)

goes_on : (newline : Bool) (left line most : ℕ) (piece : List ℕ) (byte : ℕ) (text : List ℕ)
    → cut most (piece ++ byte ∷ []) text ≡ ((piece ++ byte ∷ []) ++ take (min (suc left) (1 + line)) text) ∷ cut most [] (drop (min (suc left) (1 + line)) text)
    → Cut newline false (suc left) line most piece byte text
goes_on true left line most piece byte text later = one_taken (taken_from true (suc left) line) most piece byte text (omega arith)
goes_on false left line most piece byte text later =
    let more : taken_from false (suc left) line ≡ suc (min (suc left) (1 + line)) = omega arith in
    rw more
    (later ∙ ap (λ (xs : List ℕ). xs ∷ cut most [] (drop (min (suc left) (1 + line)) text)) (append_assoc piece (byte ∷ []) (take (min (suc left) (1 + line)) text)))

-- a piece that so many bytes are left for
cut_is : (left most : ℕ) (piece : List ℕ) (byte : ℕ) (text : List ℕ) → length piece + suc left ≡ most
    → cut most piece (byte ∷ text) ≡ (piece ++ take (taken (suc left) (byte ∷ text)) (byte ∷ text)) ∷ cut most [] (drop (taken (suc left) (byte ∷ text)) (byte ∷ text))
cut_is zero most piece byte text fits = rw (le-leb most (length piece + 1) (omega (arith, fits))) (at_limit (byte == 10) (line_len (take 0 text)) most piece byte text)
cut_is (suc left) most piece byte [] fits = rw (lt-leb most (length piece + 1) (omega (arith, fits))) (at_rest (byte == 10) left most piece byte)
cut_is (suc left) most piece byte (next ∷ rest) fits =
    let later = cut_is left most (piece ++ byte ∷ []) next rest (omega (arith, fits, length-append piece (byte ∷ []))) in
    rw (lt-leb most (length piece + 1) (omega (arith, fits)))
    (goes_on (byte == 10) left (line_len (take (suc left) (next ∷ rest))) most piece byte (next ∷ rest) later)

first_is : (text : List ℕ) → 0 < length text → pieces text ≡ take (taken 100 text) text ∷ pieces (drop (taken 100 text) text)
unfolding pieces
first_is [] some = absurd (omega arith)
first_is (byte ∷ text) some = cut_is 99 100 [] byte text refl

take_min : (n : ℕ) (xs : List ℕ) → take (min n (length xs)) xs ≡ take n xs
take_min n xs =
    ⊎_elim
    (λ (long : n < length xs). ap (λ (k : ℕ). take k xs) (omega (arith, long)))
    (λ (short : length xs ≤ n).
    let whole : min n (length xs) ≡ length xs = omega (arith, short) in
    ap (λ (k : ℕ). take k xs) whole ∙ take_all (length xs) xs (omega arith) ∙ sym (take_all n xs short))
    (cases_lt n (length xs))

drop_min : (n : ℕ) (xs : List ℕ) → drop (min n (length xs)) xs ≡ drop n xs
drop_min n xs =
    ⊎_elim
    (λ (long : n < length xs). ap (λ (k : ℕ). drop k xs) (omega (arith, long)))
    (λ (short : length xs ≤ n).
    let whole : min n (length xs) ≡ length xs = omega (arith, short) in
    ap (λ (k : ℕ). drop k xs) whole ∙ drop_all (length xs) xs (omega arith) ∙ sym (drop_all n xs short))
    (cases_lt n (length xs))

-- as many bytes, as far as there are so many
cut_at : (n : ℕ) (text : List ℕ) → 0 < length text → min n (length text) ≡ min (taken 100 text) (length text)
    → pieces text ≡ take n text ∷ pieces (drop (length (take n text)) text)
cut_at n text some same =
    let here : take (taken 100 text) text ≡ take n text = sym (take_min (taken 100 text) text) ∙ ap (λ (k : ℕ). take k text) (sym same) ∙ take_min n text in
    let long : length (take n text) ≡ min (taken 100 text) (length text) = length-take n text ∙ same in
    let there : drop (taken 100 text) text ≡ drop (length (take n text)) text = sym (drop_min (taken 100 text) text) ∙ ap (λ (k : ℕ). drop k text) (sym long) in
    first_is text some ∙ (λ i. here i ∷ pieces (there i))

found_at : (b : Bool) (n at : ℕ) → Some at ≡ cond b (Some n) None → n ≡ at
found_at true n at is = ap (λ (o : Option ℕ). unwrap_or o 0) (sym is)
found_at false n at is = absurd (search (rules, is))

not_found : (b : Bool) (n : ℕ) → None ≡ cond b (Some n) None → b ≡ true → ⊥
not_found true n is less = search (rules, is)
not_found false n is less = search (rules, less)

none_found : (n count : ℕ) → None ≡ cond (nat_lt n count) (Some n) None → count ≤ n
none_found n count is =
    ⊎_elim
    (λ (less : n < count). absurd (not_found (nat_lt n count) n is (lt-ltb n count less)))
    (λ (more : count ≤ n). more)
    (cases_lt n count)

-- the first newline stands among the first bytes
pub at_newline : (text : List ℕ) (most at : ℕ) → most ≡ min 100 (length text) → 0 < length text → at < length (take most text)
    → Some at ≡ position (λ byte. byte == 10) (take most text) → pieces text ≡ take (at + 1) text ∷ pieces (drop (length (take (at + 1) text)) text)
at_newline text most at is some within first =
    let head : take most text ≡ take 100 text = ap (λ (k : ℕ). take k text) is ∙ take_min 100 text in
    let line : line_len (take 100 text) ≡ at = ap line_len (sym head) ∙ found_at (nat_lt (line_len (take most text)) (length (take most text))) (line_len (take most text)) at first in
    cut_at (at + 1) text some (omega (arith, line, within, length-take most text, is))

-- it does not
pub at_most : (text : List ℕ) (most : ℕ) → most ≡ min 100 (length text) → 0 < length text
    → None ≡ position (λ byte. byte == 10) (take most text) → pieces text ≡ take most text ∷ pieces (drop (length (take most text)) text)
at_most text most is some none =
    let head : take most text ≡ take 100 text = ap (λ (k : ℕ). take k text) is ∙ take_min 100 text in
    let line : length (take most text) ≤ line_len (take most text) = none_found (line_len (take most text)) (length (take most text)) none in
    let same : line_len (take most text) ≡ line_len (take 100 text) = ap line_len head in
    cut_at most text some (omega (arith, line, same, length-take most text, is))
