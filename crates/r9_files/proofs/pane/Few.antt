-- No more is read than is asked for.
use Rattle.std.proofs.Common.{◌≡◌, ◌≤◌, ℕ, Bool, true, false, cond, eqb, List, [], ◌∷◌, length, take, Option, Some, None, Result, Ok, Err, ap, arith}
use Rattle.std.specs.Prelude.{IfOk, IfSome}
use Rattle.std.proofs.lemmas.List.{length-take}
use Rattle.model_files.specs.console.Console as console

few_given : (count : ℕ) (lines : List (List ℕ)) (bytes : List ℕ) → Some bytes ≡ console.given count lines → length bytes ≤ count
few_given count [] bytes is = absurd (cc is)
few_given count (line ∷ lines) bytes is = let text : bytes ≡ take count line = cc is in omega (arith, ap length text, length-take count line)

few_by : (count : ℕ) (lines : List (List ℕ)) (b : Bool) (bytes : List ℕ) → Some bytes ≡ cond b (Some []) (console.given count lines) → length bytes ≤ count
few_by count lines true bytes is = let text : bytes ≡ [] = cc is in omega (arith, ap length text)
few_by count lines false bytes is = few_given count lines bytes is

few_read : (count : ℕ) (c : console.Console) (given : Option (List ℕ)) → given ≡ console.read count c → IfSome given (λ bytes. length bytes ≤ count)
unfolding console.read
few_read count c None is = tt
few_read count c (Some bytes) is = few_by count c.ended (eqb count 0) bytes is

pub few_told : {E : Type 0} (count : ℕ) (c : console.Console) (r : Result (Option (List ℕ)) E) → IfOk r (λ given. given ≡ console.read count c) → IfOk r (λ given. IfSome given (λ bytes. length bytes ≤ count))
few_told count c (Ok given) is = few_read count c given is
few_told count c (Err e) is = tt
