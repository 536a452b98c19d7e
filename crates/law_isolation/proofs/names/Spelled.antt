-- The name of a window tells its path.
use Rattle.std.proofs.Common.{◌≡◌, ◌<◌, ◌≤◌, ◌+◌, ◌%◌, ◌^◌, ℕ, true, false, List, [], ◌∷◌, ◌++◌, length, refl, sym, ap, ◌∙◌, arith, append_assoc}
use Rattle.std.specs.Prelude.{◌==◌, codes}
use Rattle.std.specs.Fmt.{decimal}
use Rattle.std.specs.List.{flat_map, join_by}
use Rattle.std.proofs.lemmas.Bool.{ne_eqb}
use Rattle.std.proofs.lemmas.Fmt.{decimal_by_steps, decimal_injective, decimal_nonempty}
use Rattle.model_rio.specs.rio.Table.{name_by}
use Rattle.law_shown.proofs.fitting.Lists.{Each, each_append, each_then}
use Rattle.law_isolation.specs.names.Named.{IsKept}

-- ---- texts that are cut at a byte

-- a byte that is not the one
abbrev Not : ℕ → ℕ → Type 0
Not c byte = (byte == c) ≡ false

-- bytes begin with it, or there are none
abbrev IsCut : ℕ → List ℕ → Type 0
IsCut c [] = Unit {0}
IsCut c (byte ∷ bytes) = (byte == c) ≡ true

cut : (c : ℕ) (xs ys more rest : List ℕ) → Each (Not c) xs → Each (Not c) ys → IsCut c more → IsCut c rest → xs ++ more ≡ ys ++ rest → (xs ≡ ys) × (more ≡ rest)
cut c [] [] more rest one two begins ends e = (refl, e)
cut c [] (y ∷ ys) [] rest one two begins ends e = absurd cc
cut c [] (y ∷ ys) (m ∷ more) rest one two begins ends e = absurd (let same : m ≡ y = cc in let is : true ≡ false = sym begins ∙ ap (λ (n : ℕ). n == c) same ∙ two.0 in cc)
cut c (x ∷ xs) [] more [] one two begins ends e = absurd cc
cut c (x ∷ xs) [] more (r ∷ rest) one two begins ends e = absurd (let same : r ≡ x = cc in let is : true ≡ false = sym ends ∙ ap (λ (n : ℕ). n == c) same ∙ one.0 in cc)
cut c (x ∷ xs) (y ∷ ys) more rest one two begins ends e =
    let first : x ≡ y = cc in
    let later = cut c xs ys more rest one.1 two.1 begins ends cc in
    (λ i. first i ∷ later.0 i, later.1)

-- ---- numbers

-- the digits of a number are digits
abbrev IsDigit : ℕ → Type 0
IsDigit byte = 48 ≤ byte

digits : (n : ℕ) → n < 2 ^ 64 → Each IsDigit (decimal n)
digits n small = decimal_by_steps (λ n ds. Each IsDigit ds) (λ n lt. (omega arith, tt)) (λ n ds ge are. each_append IsDigit ds ((48 + n % 10) ∷ []) are (omega arith, tt)) n small

no_digit : (c : ℕ) → c < 48 → (n : ℕ) → n < 2 ^ 64 → Each (Not c) (decimal n)
no_digit c low n small = each_then IsDigit (Not c) (λ byte is. ne_eqb byte c (λ e. omega (arith, e, is, low))) (decimal n) (digits n small)

-- ---- paths

abbrev pub IsSmall : ℕ → Type 0
IsSmall n = n < 2 ^ 64

-- the numbers behind the first one, each with the byte before it
abbrev behind : List ℕ → List ℕ
behind ns = flat_map (λ n. codes "/" ++ decimal n) ns

behind_cut : (ns : List ℕ) → IsCut 47 (behind ns)
behind_cut [] = tt
behind_cut (n ∷ ns) = refl

one_more : (n m : ℕ) (ns ms : List ℕ) → IsSmall n → IsSmall m → (behind ns ≡ behind ms → ns ≡ ms) → decimal n ++ behind ns ≡ decimal m ++ behind ms → n ∷ ns ≡ m ∷ ms
one_more n m ns ms small less later e =
    let parts = cut 47 (decimal n) (decimal m) (behind ns) (behind ms) (no_digit 47 (omega arith) n small) (no_digit 47 (omega arith) m less) (behind_cut ns) (behind_cut ms) e in
    let first : n ≡ m = decimal_injective n m small less parts.0 in
    let rest : ns ≡ ms = later parts.1 in
    λ i. first i ∷ rest i

behind_same : (ns ms : List ℕ) → Each IsSmall ns → Each IsSmall ms → behind ns ≡ behind ms → ns ≡ ms
behind_same [] [] small less e = refl
behind_same [] (m ∷ ms) small less e = absurd cc
behind_same (n ∷ ns) [] small less e = absurd cc
behind_same (n ∷ ns) (m ∷ ms) small less e = one_more n m ns ms small.0 less.0 (behind_same ns ms small.1 less.1) cc

no_bytes : (ds rest : List ℕ) → 0 < length ds → [] ≡ ds ++ rest → ⊥
no_bytes [] rest some e = omega (arith, some)
no_bytes (d ∷ ds) rest some e = cc

abbrev joined : List ℕ → List ℕ
joined path = join_by decimal (codes "/") path

joined_same : (ns ms : List ℕ) → Each IsSmall ns → Each IsSmall ms → joined ns ≡ joined ms → ns ≡ ms
joined_same [] [] small less e = refl
joined_same [] (m ∷ ms) small less e = absurd (no_bytes (decimal m) (behind ms) (decimal_nonempty m less.0) e)
joined_same (n ∷ ns) [] small less e = absurd (no_bytes (decimal n) (behind ns) (decimal_nonempty n small.0) (sym e))
joined_same (n ∷ ns) (m ∷ ms) small less e = one_more n m ns ms small.0 less.0 (behind_same ns ms small.1 less.1) e

behind_plain : (ns : List ℕ) → Each IsSmall ns → Each (Not 46) (behind ns)
behind_plain [] small = tt
behind_plain (n ∷ ns) small = (refl, each_append (Not 46) (decimal n) (behind ns) (no_digit 46 (omega arith) n small.0) (behind_plain ns small.1))

joined_plain : (ns : List ℕ) → Each IsSmall ns → Each (Not 46) (joined ns)
joined_plain [] small = tt
joined_plain (n ∷ ns) small = each_append (Not 46) (decimal n) (behind ns) (no_digit 46 (omega arith) n small.0) (behind_plain ns small.1)

-- ---- names

-- names of two paths are two
pub same_path : (ns ms : List ℕ) (g h : ℕ) → Each IsSmall ns → Each IsSmall ms → name_by ns g ≡ name_by ms h → ns ≡ ms
unfolding name_by
same_path ns ms g h small less e =
    let whole : (joined ns ++ 46 ∷ []) ++ decimal g ≡ (joined ms ++ 46 ∷ []) ++ decimal h = cc in
    let text : joined ns ++ 46 ∷ decimal g ≡ joined ms ++ 46 ∷ decimal h = sym (append_assoc (joined ns) (46 ∷ []) (decimal g)) ∙ whole ∙ append_assoc (joined ms) (46 ∷ []) (decimal h) in
    joined_same ns ms small less (cut 46 (joined ns) (joined ms) (46 ∷ decimal g) (46 ∷ decimal h) (joined_plain ns small) (joined_plain ms less) refl refl text).0

-- no session may make the name of a window
pub name_kept : (ns : List ℕ) (g : ℕ) → IsKept (name_by ns g)
unfolding name_by
name_kept ns g = refl
