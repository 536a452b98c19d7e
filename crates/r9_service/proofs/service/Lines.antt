-- Lines that are put one after the other.
use Rattle.std.proofs.Common.{◌≡◌, ◌<◌, ◌+◌, ℕ, suc, List, ◌++◌, ◌∷◌, [], length, take, drop, get_or, Option, sym, ap, subst, ◌∙◌, append-nil, arith}
use Rattle.std.specs.List.{flat_map}
use Rattle.std.proofs.lemmas.List.{length-append, take-append-drop, take-append-le, take_more, drop_more}
use Rattle.std.proofs.lemmas.List.Concat.{flat_map-append}
use Rattle.r9_outside.specs.outside.Sink.{Appends, AppendsPart}
use Rattle.r9_outside.proofs.outside.Appended.{both_put, nothing_put}
use Rattle.r9_attend.specs.workers.Lines.{lines_of}
use Rattle.r9_attend.specs.declared.workers.lines.Unplain.{Unplain}

take_behind : (xs ys : List ℕ) (k : ℕ) → take (length xs + k) (xs ++ ys) ≡ xs ++ take k ys
take_behind [] ys k = let same : length {A = ℕ} [] + k ≡ k = omega arith in ap (λ (n : ℕ). take n ys) same
take_behind (x ∷ xs) ys k =
    let more : length (x ∷ xs) + k ≡ suc (length xs + k) = omega arith in
    ap (λ (n : ℕ). take n (x ∷ (xs ++ ys))) more ∙ ap (λ (rest : List ℕ). x ∷ rest) (take_behind xs ys k)

-- nothing of a piece was put
pub none_put : (held : Option (List ℕ)) (q : List ℕ) → AppendsPart held q held
none_put held q = (0, omega arith, nothing_put held)

-- a piece was put, and then a front of the next one
part_behind : (before mid after : Option (List ℕ)) (p q r : List ℕ) → Appends before p mid → AppendsPart mid q after → AppendsPart before (p ++ (q ++ r)) after
part_behind before mid after p q r first second =
    let n : ℕ = second.0 in
    let same : take (length p + n) (p ++ (q ++ r)) ≡ p ++ take n q =
    take_behind p (q ++ r) n ∙ ap (λ (t : List ℕ). p ++ t) (take-append-le n q r second.1) in (
      length p + n,
      omega (arith, second.1, length-append p (q ++ r), length-append q r),
      subst (λ (t : List ℕ). Appends before t after) (sym same) (both_put before p (take n q) mid after first second.2),
    )

lines_split : (xs : List Unplain) (i : ℕ) (d : Unplain) → i < length xs
    → flat_map lines_of xs ≡ flat_map lines_of (take i xs) ++ (lines_of (get_or xs i d) ++ flat_map lines_of (drop (i + 1) xs))
lines_split xs i d lt =
    ap (flat_map lines_of) (sym (take-append-drop i xs) ∙ ap (λ (t : List Unplain). take i xs ++ t) (drop_more xs i d lt))
    ∙ flat_map-append lines_of (take i xs) (get_or xs i d ∷ drop (i + 1) xs)

-- the lines of the first sessions were put, and a front of the next one's
pub part_put : (before mid after : Option (List ℕ)) (xs : List Unplain) (i : ℕ) (d : Unplain) → i < length xs
    → Appends before (flat_map lines_of (take i xs)) mid → AppendsPart mid (lines_of (get_or xs i d)) after → AppendsPart before (flat_map lines_of xs) after
part_put before mid after xs i d lt first second =
    subst (λ (t : List ℕ). AppendsPart before t after) (sym (lines_split xs i d lt))
    (part_behind before mid after (flat_map lines_of (take i xs)) (lines_of (get_or xs i d)) (flat_map lines_of (drop (i + 1) xs)) first second)

-- the next one's were put whole
pub next_put : (before mid after : Option (List ℕ)) (xs : List Unplain) (i : ℕ) (d : Unplain) → i < length xs
    → Appends before (flat_map lines_of (take i xs)) mid → Appends mid (lines_of (get_or xs i d)) after → Appends before (flat_map lines_of (take (i + 1) xs)) after
next_put before mid after xs i d lt first second =
    let x : Unplain = get_or xs i d in
    let more : flat_map lines_of (take (i + 1) xs) ≡ flat_map lines_of (take i xs) ++ lines_of x =
    ap (flat_map lines_of) (take_more xs i d lt)
    ∙ flat_map-append lines_of (take i xs) (x ∷ [])
    ∙ ap (λ (t : List ℕ). flat_map lines_of (take i xs) ++ t) (append-nil (lines_of x)) in
    subst (λ (t : List ℕ). Appends before t after) (sym more) (both_put before (flat_map lines_of (take i xs)) (lines_of x) mid after first second)
