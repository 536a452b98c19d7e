-- Loops over lists.
use Rattle.std.proofs.Common.{◌≡◌, [], ◌∷◌, List, ◌++◌, map, refl}
use Rattle.std.specs.List.{fold}

-- one item more of a fold over what is made of items
pub fold_pushed : {A B C : Type 0} (f : B → C → B) (g : A → C) (a : B) (xs : List A) (x : A) → fold f a (map g (xs ++ x ∷ [])) ≡ f (fold f a (map g xs)) (g x)
fold_pushed f g a [] x = refl
fold_pushed f g a (y ∷ ys) x = fold_pushed f g (f a (g y)) ys x
