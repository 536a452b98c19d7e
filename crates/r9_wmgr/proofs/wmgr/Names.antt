-- The name of a window's image, number by number.
use Rattle.std.proofs.Common.{◌≡◌, ℕ, List, [], ◌∷◌, ◌++◌, codes, decimal, refl, sym, ap, ◌∙◌}
use Rattle.std.proofs.lemmas.List.{append-nil, append_assoc}
use Rattle.std.specs.List.{flat_map, join_by}
use Rattle.model_rio.specs.rio.Table.{name_by}
use Rattle.r9_wmgr.specs.wmgr.Names.{slashed}

around : (a b c : List ℕ) → a ++ 47 ∷ (b ++ c) ≡ ((a ++ 47 ∷ []) ++ b) ++ c
around [] b c = refl
around (x ∷ a) b c = ap (λ rest. x ∷ rest) (around a b c)

joined_from : (x : ℕ) (xs : List ℕ) (n : ℕ) → decimal x ++ flat_map (λ y. codes "/" ++ decimal y) (xs ++ n ∷ []) ≡ flat_map slashed (x ∷ xs) ++ decimal n
joined_from x [] n = ap (λ rest. decimal x ++ 47 ∷ rest) (append-nil (decimal n)) ∙ around (decimal x) [] (decimal n)
joined_from x (y ∷ ys) n =
    ap (λ rest. decimal x ++ 47 ∷ rest) (joined_from y ys n) ∙ around (decimal x) (flat_map slashed (y ∷ ys)) (decimal n)

-- the last number stands behind the slashes of the others
pub joined : (xs : List ℕ) (n : ℕ) → join_by decimal (codes "/") (xs ++ n ∷ []) ≡ flat_map slashed xs ++ decimal n
joined [] n = append-nil (decimal n)
joined (x ∷ xs) n = joined_from x xs n

-- a name that is written piece by piece
pub named : (start word above path dot name : List ℕ) (numbers : List ℕ) (n last g : ℕ) → start ≡ [] → word ≡ start ++ codes "window." → above ≡ word ++ flat_map slashed numbers → last ≡ n → path ≡ above ++ decimal last
    → dot ≡ path ++ 46 ∷ [] → name ≡ dot ++ decimal g → name ≡ name_by (numbers ++ n ∷ []) g
unfolding name_by
named start word above path dot name numbers n last g e0 e1 e2 same e3 e4 e5 =
    e5 ∙ ap (λ x. x ++ decimal g) (e4 ∙ ap (λ x. x ++ 46 ∷ [])
    (e3 ∙ ap (λ m. above ++ decimal m) same ∙ ap (λ x. x ++ decimal n) (e2 ∙ ap (λ x. x ++ flat_map slashed numbers) (e1 ∙ ap (λ x. x ++ codes "window.") e0))
    ∙ append_assoc (codes "window.") (flat_map slashed numbers) (decimal n) ∙ ap (λ x. codes "window." ++ x) (sym (joined numbers n))))
