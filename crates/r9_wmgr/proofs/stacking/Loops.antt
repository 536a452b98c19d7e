-- Loops over lists.
use Rattle.std.proofs.Common.{◌≡◌, ◌∙◌, ℕ, suc, ◌+◌, ◌<◌, ◌≤◌, Bool, List, ◌++◌, length, map, take, drop, get_or, ap, add-one, drop-cons, arith}
use Rattle.std.specs.List.{fold, position_or_len}
use Rattle.std.specs.Prelude.{not}
use Rattle.std.proofs.lemmas.List.{append-nil, drop_all, take_all}
use Rattle.std.proofs.lemmas.List.Sums.{prefix_len-le-length}

-- each element was written
pub map_done : {A : Type 0} (f : A → A) (xs ys : List A) (i : ℕ) → length xs ≤ i → ys ≡ map f (take i xs) ++ drop i xs → ys ≡ map f xs
map_done f xs ys i h e =
    e ∙ ap (λ front. map f front ++ drop i xs) (take_all i xs h)
    ∙ ap (λ rest. map f xs ++ rest) (drop_all i xs h) ∙ append-nil (map f xs)

-- the next item of a fold
pub fold_next : {A B : Type 0} (f : B → A → B) (a b : B) (x : A) (xs : List A) (i : ℕ) (d : A)
    → i < length xs → x ≡ get_or xs i d → b ≡ f a x → fold f b (drop (i + 1) xs) ≡ fold f a (drop i xs)
fold_next f a b x xs i d h at e = rw (add-one, drop-cons xs i d) (ap (λ y. fold f y (drop (suc i) xs)) (e ∙ ap (f a) at))

pub place_within : {X : Type 0} (p : X → Bool) (xs : List X) (place : ℕ) → place ≡ position_or_len p xs → place ≤ length xs
place_within p xs place is = omega (arith, is, prefix_len-le-length (λ x. not (p x)) xs)
