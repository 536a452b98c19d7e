-- Four numbers make a rectangle, and no other number of them.
use Rattle.std.proofs.Common.{◌≡◌, ℕ, ℤ, List, [], ◌∷◌, length, map, Option, Some, None, refl, ap, sym, ◌∙◌, suc, subst, Bor}
use Rattle.std.specs.Option.{option_map}
use Rattle.model_files.specs.wctl.Words.{all_some, signed}
use Rattle.model_files.specs.wctl.Reading.{setting, rectangle}
use Rattle.r9_wctl.specs.declared.wctl.key.Key.TheVariants.{R}
use Rattle.r9_wctl.specs.wctl.Names.{key_word}

pub map_map : {A B C : Type 0} (f : B → C) (g : A → B) (xs : List A) → map f (map g xs) ≡ map (λ x. f (g x)) xs
map_map f g [] = refl
map_map f g (x ∷ xs) = ap (λ rest. f (g x) ∷ rest) (map_map f g xs)

one_more : {A : Type 0} (x : A) (n : ℕ) (o : Option (List A)) → ((xs : List A) → o ≡ Some xs → length xs ≡ n) → (xs : List A) → option_map (λ ys. x ∷ ys) o ≡ Some xs → length xs ≡ suc n
one_more x n None h xs e = absurd (cc e)
one_more x n (Some ys) h xs e = let same : x ∷ ys ≡ xs = cc in subst (λ zs. length zs ≡ suc n) same (ap suc (h ys refl))

length_all_some : {A : Type 0} (os : List (Option A)) (xs : List A) → all_some os ≡ Some xs → length xs ≡ length os
length_all_some [] xs e = let same : [] ≡ xs = cc in subst (λ zs. length zs ≡ 0) same refl
length_all_some (None ∷ os) xs e = absurd (cc e)
length_all_some (Some x ∷ os) xs e = one_more x (length os) (all_some os) (length_all_some os) xs e

by_length : (xs : List ℤ) → (length xs ≡ 4 → ⊥) → None ≡ rectangle (Some xs)
by_length [] h = refl
by_length (a ∷ []) h = refl
by_length (a ∷ b ∷ []) h = refl
by_length (a ∷ b ∷ c ∷ []) h = refl
by_length (a ∷ b ∷ c ∷ d ∷ []) h = absurd (h refl)
by_length (a ∷ b ∷ c ∷ d ∷ e ∷ xs) h = refl

by_all : (n : ℕ) (o : Option (List ℤ)) → ((xs : List ℤ) → o ≡ Some xs → length xs ≡ n) → (n ≡ 4 → ⊥) → None ≡ rectangle o
by_all n None h differs = refl
by_all n (Some xs) h differs = by_length xs (λ e. differs (sym (h xs refl) ∙ e))

pub length_map : {A B : Type 0} (f : A → B) (xs : List A) → length (map f xs) ≡ length xs
length_map f [] = refl
length_map f (x ∷ xs) = ap suc (length_map f xs)

pub not_four : {A : Type 0} (f : A → Option ℤ) (words : List A) → (length words ≡ 4 → ⊥) → None ≡ rectangle (all_some (map f words))
not_four f words differs = by_all (length words) (all_some (map f words)) (λ xs e. length_all_some (map f words) xs e ∙ length_map f words) differs

-- the rectangle among settings
pub setting_r : (words : List (Bor (List ℕ))) → rectangle (all_some (map (λ word. signed word.now) words)) ≡ setting (record { name = key_word R; words = map (λ word. word.now) words })
unfolding setting
setting_r words = ap (λ os. rectangle (all_some os)) (sym (map_map signed (λ word. word.now) words))
