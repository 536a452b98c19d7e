-- How many calls workers have, whose shares are parts of so many sessions.
use Rattle.std.proofs.Common.{◌≡◌, ℕ, ◌+◌, ◌-◌, ◌*◌, ◌/◌, ◌%◌, ◌≤◌, ◌<◌, Bool, true, false, List, [], ◌∷◌, length, ap, arith, ⊎_elim, length-append}
use Rattle.std.specs.Prelude.{nat_le, if◌then◌else◌}
use Rattle.std.proofs.Math.Nat.{mul-le-mul, div-add-mod}
use Rattle.std.proofs.lemmas.Bool.Decides.{leb_tells}
use Rattle.r9_attend.specs.workers.Shifts.{Shift, Doors, AtDoors, calls_of, share_of}
use Rattle.r9_attend.proofs.workers.Halves.{doors_length}

module _ {D I O : Type 0} (doors : Doors D I O) (sessions workers : ℕ) where
  share_is : (worker : ℕ) → share_of sessions workers worker + (sessions % workers - worker) ≡ sessions / workers + (sessions % workers + 1 - worker)
  share_is worker = ⊎_elim
      (λ (t : (nat_le worker (sessions % workers) ≡ true) × (worker ≤ sessions % workers)). let one : share_of sessions workers worker ≡ sessions / workers + 1 = ap (λ (b : Bool). sessions / workers + (if b then 1 else 0)) t.0 in omega (arith, one, t.1))
      (λ (t : (nat_le worker (sessions % workers) ≡ false) × (sessions % workers < worker)). let none : share_of sessions workers worker ≡ sessions / workers + 0 = ap (λ (b : Bool). sessions / workers + (if b then 1 else 0)) t.0 in omega (arith, none, t.1))
      (leb_tells worker (sessions % workers))

  most : (worker : ℕ) (shifts : List (Shift I O)) (old new : List D) → AtDoors doors (share_of sessions workers) worker shifts old new
      → length (calls_of shifts) ≤ length shifts * (sessions / workers) + (sessions % workers + 1 - worker)
  most worker [] [] [] at = omega arith
  most worker (shift ∷ shifts) (o ∷ olds) (n ∷ news) at =
      let here = at.0.most in
      let later = most (worker + 1) shifts olds news at.1 in
      let long = length-append shift.calls (calls_of shifts) in
      let share = share_is worker in
      omega arith
  most worker [] [] (n ∷ news) at = absurd at
  most worker [] (o ∷ olds) new at = absurd at
  most worker (shift ∷ shifts) [] new at = absurd at
  most worker (shift ∷ shifts) (o ∷ olds) [] at = absurd at

  -- together they have no more calls than there are sessions
  pub few_calls : (shifts : List (Shift I O)) (old new : List D) → AtDoors doors (share_of sessions workers) 1 shifts old new → length old ≤ workers → length (calls_of shifts) ≤ sessions
  few_calls shifts old new at few =
      let long = doors_length doors (share_of sessions workers) 1 shifts old new at in
      let low : length shifts ≤ workers = omega arith in
      let parts : length shifts * (sessions / workers) ≤ workers * (sessions / workers) = mul-le-mul low (omega arith) in
      omega (arith, most 1 shifts old new at, parts, div-add-mod sessions workers)
