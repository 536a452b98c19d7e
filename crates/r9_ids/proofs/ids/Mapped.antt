-- Ids as rows: what is found, and what a change leaves.
use Rattle.std.proofs.Common.{◌≡◌, Bool, true, false, cond, List, [], ◌∷◌, length, Some, refl, ap, arith}
use Rattle.std.specs.Prelude.{find, filter, map, option_map}

pub find-map : {T E : Type 0} (of : T → E) (p : E → Bool) (rows : List T) → find p (map of rows) ≡ option_map of (find (λ r. p (of r)) rows)
find-map of p [] = refl
find-map of p (r ∷ rs) = by (find-map of p rs) (p (of r))
  where
    by : find p (map of rs) ≡ option_map of (find (λ s. p (of s)) rs) → (t : Bool) → cond t (Some (of r)) (find p (map of rs)) ≡ option_map of (cond t (Some r) (find (λ s. p (of s)) rs))
    by more true = refl
    by more false = more

pub filter-map : {T E : Type 0} (of : T → E) (p : E → Bool) (rows : List T) → filter p (map of rows) ≡ map of (filter (λ r. p (of r)) rows)
filter-map of p [] = refl
filter-map of p (r ∷ rs) = by (filter-map of p rs) (p (of r))
  where
    by : filter p (map of rs) ≡ map of (filter (λ s. p (of s)) rs) → (t : Bool) → cond t (of r ∷ filter p (map of rs)) (filter p (map of rs)) ≡ map of (cond t (r ∷ filter (λ s. p (of s)) rs) (filter (λ s. p (of s)) rs))
    by more true = ap (λ es. of r ∷ es) more
    by more false = more

pub length-mapped : {T E : Type 0} (of : T → E) (rows : List T) → length rows ≡ length (map of rows)
length-mapped of [] = refl
length-mapped of (r ∷ rs) = let more = length-mapped of rs in omega (arith, more)
