-- Pieces put one after the other.
use Rattle.std.proofs.Common.{◌≡◌, ◌≤◌, ◌+◌, ◌-◌, ℕ, List, ◌++◌, [], length, take, drop, Option, Some, None, refl, sym, ap, ◌∙◌, append_assoc, arith}
use Rattle.std.specs.Option.{option_map}
use Rattle.std.proofs.lemmas.List.{append-nil, take-append-drop, take-take, drop-take, take_all, length-take, length-drop}
use Rattle.r9_outside.specs.outside.Sink.{Appends}

pub nothing_put : (before : Option (List ℕ)) → Appends before [] before
nothing_put None = refl
nothing_put (Some held) = ap (λ (bytes : List ℕ). Some bytes) (sym (append-nil held))

pub both_put : (before : Option (List ℕ)) (p q : List ℕ) (mid after : Option (List ℕ)) → Appends before p mid → Appends mid q after → Appends before (p ++ q) after
both_put None p q mid after first second = second ∙ ap (λ (held : Option (List ℕ)). option_map (λ bytes. bytes ++ q) held) first
both_put (Some held) p q mid after first second =
    second ∙ ap (λ (held : Option (List ℕ)). option_map (λ bytes. bytes ++ q) held) first ∙ ap (λ (bytes : List ℕ). Some bytes) (append_assoc held p q)

take_two : (m n : ℕ) (xs : List ℕ) → take (m + n) xs ≡ take m xs ++ take n (drop m xs)
take_two m n xs =
    sym (take-append-drop m (take (m + n) xs))
    ∙ ap (λ (front : List ℕ). front ++ drop m (take (m + n) xs)) (take-take m (m + n) xs (omega arith))
    ∙ ap (λ (back : List ℕ). take m xs ++ back) (drop-take m n xs)

-- what is left of a piece
abbrev rest_of : List ℕ → ℕ → List ℕ
rest_of piece done = take (length piece - done) (drop done piece)

pub rest_within : (piece : List ℕ) (done n : ℕ) → done ≤ length piece → n ≤ length (rest_of piece done) → done + n ≤ length piece
rest_within piece done n le within = omega (arith, length-take (length piece - done) (drop done piece), length-drop done piece)

-- a piece of which a front was put, and then the front of what was left
pub put_more : (before mid after : Option (List ℕ)) (piece : List ℕ) (done n : ℕ) → done ≤ length piece → n ≤ length (rest_of piece done)
    → Appends before (take done piece) mid → Appends mid (take n (rest_of piece done)) after → Appends before (take (done + n) piece) after
put_more before mid after piece done n le within first second =
    let fits : n ≤ length piece - done = omega (arith, rest_within piece done n le within) in
    let same : take n (rest_of piece done) ≡ take n (drop done piece) = take-take n (length piece - done) (drop done piece) fits in
    both_put before (take done piece) (take n (drop done piece)) mid after first (second ∙ ap (λ (p : List ℕ). option_map (λ bytes. bytes ++ p) mid) same)
    ∙ ap (λ (p : List ℕ). option_map (λ bytes. bytes ++ p) before) (sym (take_two done n piece))

pub all_put : (before after : Option (List ℕ)) (piece : List ℕ) (done : ℕ) → length piece ≤ done → Appends before (take done piece) after → Appends before piece after
all_put before after piece done le put = put ∙ ap (λ (p : List ℕ). option_map (λ bytes. bytes ++ p) before) (take_all done piece le)
