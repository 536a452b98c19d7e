-- One more piece at the end of the pieces so far.
use Rattle.std.proofs.Common.{◌≡◌, ◌+◌, ◌<◌, ℕ, List, [], ◌∷◌, ◌++◌, length, take}
use mathlib.Core.List.{append_assoc, append-nil}
use Rattle.std.specs.List.{flat_map, slice_index_or}
use Rattle.std.proofs.lemmas.List.{take_more}
use Rattle.std.proofs.lemmas.Grind.{flat_map-append}

pub put_more : {A : Type 0} (f : A → List ℕ) (xs : List A) (i : ℕ) (d : A) (start out : List ℕ) → i < length xs
    → out ≡ start ++ flat_map f (take i xs) → out ++ f (slice_index_or xs i d) ≡ start ++ flat_map f (take (i + 1) xs)
put_more f xs i d start out h e =
    rw (e, take_more xs i d h, flat_map-append f (take i xs) (slice_index_or xs i d ∷ [])) (simp (append_assoc, append-nil))
