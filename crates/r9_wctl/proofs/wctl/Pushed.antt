-- One option more.
use Rattle.std.proofs.Common.{◌≡◌, ℕ, ◌<◌, List, [], ◌∷◌, ◌++◌, length, slice_get, Some, None, arith, length-append, suc, zero, sym, subst, ◌∙◌}
use Rattle.std.proofs.lemmas.Option.{slice_get_past}
use Rattle.model_files.specs.declared.wctl.Choice.{Choice}
use Rattle.r9_wctl.specs.wctl.Small.{AreOptions, IsSmallChoice}

first : (choice c : Choice) → IsSmallChoice choice → Some choice ≡ Some c → IsSmallChoice c
first choice c small e = subst IsSmallChoice (let same : choice ≡ c = cc in same) small

found : (xs : List Choice) (choice : Choice) → ((i : ℕ) (c : Choice) → slice_get xs i ≡ Some c → IsSmallChoice c) → IsSmallChoice choice
    → (i : ℕ) (c : Choice) → slice_get (xs ++ choice ∷ []) i ≡ Some c → IsSmallChoice c
found [] choice all small zero c e = first choice c small e
found [] choice all small (suc i) c e = let none : None ≡ Some c = sym (slice_get_past (choice ∷ []) (suc i) (omega arith)) ∙ e in absurd (cc none)
found (x ∷ xs) choice all small zero c e = all zero c e
found (x ∷ xs) choice all small (suc i) c e = found xs choice (λ j. all (suc j)) small i c e

pub pushed : (xs : List Choice) (choice : Choice) → AreOptions xs → length xs < 1024 → IsSmallChoice choice → AreOptions (xs ++ choice ∷ [])
pushed xs choice are few small = record { few = omega (arith, length-append xs (choice ∷ [])); small = found xs choice are.small small }
