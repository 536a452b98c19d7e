-- Loops over lists.
use Rattle.std.proofs.Common.{◌≡◌, ◌∙◌, ℕ, suc, ◌+◌, ◌<◌, List, length, drop, get_or, ap, add-one, drop-cons}
use Rattle.std.specs.List.{fold}

-- the next item of a fold
pub fold_next : {A B : Type 0} (f : B → A → B) (a b : B) (x : A) (xs : List A) (i : ℕ) (d : A)
    → i < length xs → x ≡ get_or xs i d → b ≡ f a x → fold f b (drop (i + 1) xs) ≡ fold f a (drop i xs)
fold_next f a b x xs i d h at e = rw (add-one, drop-cons xs i d) (ap (λ y. fold f y (drop (suc i) xs)) (e ∙ ap (f a) at))
