-- A number among others that ascend.
use Rattle.std.proofs.Common.{◌≡◌, ℕ, suc, ◌+◌, Bool, true, false, eqb, nat_lt, nat_le, List, [], ◌∷◌, ◌++◌, take, drop, refl, ap, arith}
use Rattle.std.proofs.lemmas.Bool.Decides.{nat_tests}
use Rattle.std.specs.List.{position_or_len}
use Rattle.model_world.specs.Fids.{put}
use Rattle.r9_desktop.specs.Words.{in_front}

-- where it stands: before the first that is not less
abbrev pub place : ℕ → List ℕ → ℕ
place n ns = position_or_len (λ m. nat_le n m) ns

put_by : (n m : ℕ) (ms : List ℕ) (same less within : Bool) → eqb n m ≡ same → nat_lt n m ≡ less → nat_le n m ≡ within → put n ms ≡ take (place n ms) ms ++ in_front n (drop (place n ms) ms)
    → put n (m ∷ ms) ≡ take (place n (m ∷ ms)) (m ∷ ms) ++ in_front n (drop (place n (m ∷ ms)) (m ∷ ms))
put_by n m ms true less true s l w more = rw (w, s) refl
put_by n m ms true less false s l w more = absurd (grind (arith, nat_tests))
put_by n m ms false true true s l w more = rw (w, s, l) refl
put_by n m ms false true false s l w more = absurd (grind (arith, nat_tests))
put_by n m ms false false true s l w more = absurd (grind (arith, nat_tests))
put_by n m ms false false false s l w more =
    let next : 1 + place n ms ≡ suc (place n ms) = omega arith in
    rw (w, s, l, next) (ap (λ rest. m ∷ rest) more)

pub put_at : (n : ℕ) (ns : List ℕ) → put n ns ≡ take (place n ns) ns ++ in_front n (drop (place n ns) ns)
put_at n [] = refl
put_at n (m ∷ ms) = put_by n m ms (eqb n m) (nat_lt n m) (nat_le n m) refl refl refl (put_at n ms)
