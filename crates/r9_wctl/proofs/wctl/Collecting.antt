-- The parts of a path, read one after the other.
use Rattle.std.proofs.Common.{◌≡◌, ℕ, zero, suc, ◌<◌, List, [], ◌∷◌, ◌++◌, length, map, get_or, Option, Some, None, refl, ap, sym, ◌∙◌, Bor, arith}
use Rattle.std.specs.Iterator.{Yields}
use Rattle.std.specs.Option.{option_map}
use Rattle.std.proofs.lemmas.Iterator.{YieldsList}
use Rattle.std.proofs.lemmas.Iterator.Consumers.{YieldsList-turn, YieldsList-end}
use Rattle.model_text.specs.text.Field.{number}
use Rattle.model_files.specs.wctl.Words.{all_some}
use Rattle.r9_wctl.proofs.wctl.Four.{map_map}

one_pushed : {A : Type 0} (o : Option A) (os more : List (Option A)) (xs : List A) (x : A) → ((ys : List A) → all_some os ≡ Some ys → all_some more ≡ Some (ys ++ x ∷ []))
    → all_some (o ∷ os) ≡ Some xs → all_some (o ∷ more) ≡ Some (xs ++ x ∷ [])
one_pushed None os more xs x h e = absurd (cc e)
one_pushed {A} (Some y) os more xs x h e = by (all_some os) h e
  where
    by : (rest : Option (List A)) → ((ys : List A) → rest ≡ Some ys → all_some more ≡ Some (ys ++ x ∷ [])) → option_map (λ ys. y ∷ ys) rest ≡ Some xs → all_some (Some y ∷ more) ≡ Some (xs ++ x ∷ [])
    by None h e = absurd (cc e)
    by (Some ys) h e = let same : y ∷ ys ≡ xs = cc in ap (option_map (λ zs. y ∷ zs)) (h ys refl) ∙ ap (λ zs. Some (zs ++ x ∷ [])) same

-- one part more that is read
pub all_pushed : {A B : Type 0} (read : B → Option A) (parts : List B) (part : B) (xs : List A) (x : A) → all_some (map read parts) ≡ Some xs → read part ≡ Some x
    → all_some (map read (parts ++ part ∷ [])) ≡ Some (xs ++ x ∷ [])
all_pushed read [] part xs x e is = let none : [] ≡ xs = cc in ap (λ o. all_some (o ∷ [])) is ∙ ap (λ ys. Some (ys ++ x ∷ [])) none
all_pushed read (p ∷ parts) part xs x e is = one_pushed (read p) (map read parts) (map read (parts ++ part ∷ [])) xs x (λ ys so. all_pushed read parts part ys x so is) e

none_after : {A : Type 0} (o : Option A) (os : List (Option A)) → all_some os ≡ None → all_some (o ∷ os) ≡ None
none_after None os e = refl
none_after (Some x) os e = ap (option_map (λ xs. x ∷ xs)) e

none_at : {A B : Type 0} (read : B → Option A) (parts : List B) (k : ℕ) (d : B) → k < length parts → read (get_or parts k d) ≡ None → all_some (map read parts) ≡ None
none_at read [] k d le e = absurd (omega (arith, le))
none_at read (p ∷ parts) zero d le e = ap (λ o. all_some (o ∷ map read parts)) e
none_at read (p ∷ parts) (suc k) d le e = none_after (read p) (map read parts) (none_at read parts k d (omega (arith, le)) e)

-- a part that is no number
pub path_fault : {S : Type 0} {steps : S → Option (Bor (List ℕ)) → S → Type 0} {s : S} {all : List (List ℕ)} (parts : List (Bor (List ℕ))) (t : S) → Yields steps s parts t
    → (r : Option (Bor (List ℕ))) (u : S) (part : Bor (List ℕ)) → r ≡ Some part → steps t r u → number 9 part.now ≡ None → YieldsList steps (λ part. part.now) s all → all_some (map (number 9) all) ≡ None
path_fault {all = all} parts t y r u part is p e road =
    let turn = YieldsList-turn road parts t y r u part is p in
    none_at (number 9) all (length parts) part.now turn.0 (ap (number 9) (sym turn.1) ∙ e)

-- all parts are read
pub path_read : {S : Type 0} {steps : S → Option (Bor (List ℕ)) → S → Type 0} {s : S} {all : List (List ℕ)} (parts : List (Bor (List ℕ))) (t : S) → Yields steps s parts t
    → (r : Option (Bor (List ℕ))) (u : S) (path : List ℕ) → r ≡ None → steps t r u → all_some (map (λ part. number 9 part.now) parts) ≡ Some path → YieldsList steps (λ part. part.now) s all → Some path ≡ all_some (map (number 9) all)
path_read parts t y r u path is p e road =
    let end = YieldsList-end road parts t y r u is p in
    sym e ∙ ap all_some (sym (map_map (number 9) (λ part. part.now) parts)) ∙ ap (λ ws. all_some (map (number 9) ws)) end.0
