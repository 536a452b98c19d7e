-- The doors that failed.
use Rattle.std.proofs.Common.{◌≡◌, ◌<◌, ◌≤◌, ◌+◌, ◌-◌, ℕ, zero, suc, Bool, true, false, List, ◌∷◌, [], length, take, Some, None, refl, subst, arith}
use Rattle.std.specs.Prelude.{All, if◌then◌else◌, slice_index_or}
use Rattle.std.specs.List.{AllZip}
use Rattle.std.proofs.lemmas.List.{length-take, get_or-take}
use Rattle.std.proofs.lemmas.List.Elements.{All-nil, All-cons}
use Rattle.r9_outside.specs.outside.Count.{Rose}
use Rattle.r9_attend.specs.workers.Shifts.{Shift, Doors, AtDoors, Listened, failed_of}

rose_later : (a b c : ℕ) → a ≤ b → Rose b c → Rose a c
rose_later a b c le rose = omega (arith, le, rose)

module _ {D I O : Type 0} (doors : Doors D I O) where
  -- the count of a worker's door rose
  abbrev pub RoseAt : (old new : List D) (i : ℕ) → Type 0
  RoseAt old new i = (d : D) → Rose (doors.faults (slice_index_or old i d)) (doors.faults (slice_index_or new i d))

  pub failed_at : (share : ℕ → ℕ) (worker : ℕ) (shifts : List (Shift I O)) (old new : List D) → AtDoors doors share worker shifts old new
      → (found : ℕ) → failed_of worker shifts ≡ Some found → (worker ≤ found) × (found < worker + length old) × RoseAt old new (found - worker)
  failed_at share worker [] old new at found is = absurd cc
  failed_at share worker (shift ∷ shifts) [] new at found is = absurd at
  failed_at share worker (shift ∷ shifts) (o ∷ olds) [] at found is = absurd at
  failed_at share worker (shift ∷ shifts) (o ∷ olds) (n ∷ news) at found is = by shift.failed refl is (failed_at share (worker + 1) shifts olds news at.1 found)
    where
      by : (b : Bool) → shift.failed ≡ b → (if b then Some worker else failed_of (worker + 1) shifts) ≡ Some found
          → (failed_of (worker + 1) shifts ≡ Some found → (worker + 1 ≤ found) × (found < worker + 1 + length olds) × RoseAt olds news (found - (worker + 1)))
          → (worker ≤ found) × (found < worker + length (o ∷ olds)) × RoseAt (o ∷ olds) (n ∷ news) (found - worker)
      by true failed is rest =
          let same : worker ≡ found = cc in
          let none : 0 ≡ found - worker = omega (arith, same) in (
            omega (arith, same),
            omega (arith, same),
            subst (λ (i : ℕ). RoseAt (o ∷ olds) (n ∷ news) i) none (λ d. at.0.failed failed),
          )
      by false failed is rest =
          let later = rest is in
          let one : suc (found - (worker + 1)) ≡ found - worker = omega (arith, later.0) in (
            omega (arith, later.0),
            omega (arith, later.1),
            subst (λ (i : ℕ). RoseAt (o ∷ olds) (n ∷ news) i) one later.2,
          )

  pub none_failed : (worker : ℕ) (shifts : List (Shift I O)) → failed_of worker shifts ≡ None → All (λ (shift : Shift I O). shift.failed ≡ false) shifts
  none_failed worker [] is = All-nil (λ (shift : Shift I O). shift.failed ≡ false)
  none_failed worker (shift ∷ shifts) is = by shift.failed refl is (none_failed (worker + 1) shifts)
    where
      by : (b : Bool) → shift.failed ≡ b → (if b then Some worker else failed_of (worker + 1) shifts) ≡ None
          → (failed_of (worker + 1) shifts ≡ None → All (λ (shift : Shift I O). shift.failed ≡ false) shifts) → All (λ (shift : Shift I O). shift.failed ≡ false) (shift ∷ shifts)
      by true failed is rest = absurd cc
      by false failed is rest = All-cons (λ (shift : Shift I O). shift.failed ≡ false) shift shifts failed (rest is)

  -- a listen lowers no count
  listened_at : (xs ys : List D) → AllZip (Listened doors) xs ys → (i : ℕ) (d : D) → doors.faults (slice_index_or xs i d) ≤ doors.faults (slice_index_or ys i d)
  listened_at [] [] all i d = omega arith
  listened_at [] (y ∷ ys) all i d = absurd all
  listened_at (x ∷ xs) [] all i d = absurd all
  listened_at (x ∷ xs) (y ∷ ys) all zero d = all.0.counted
  listened_at (x ∷ xs) (y ∷ ys) all (suc i) d = listened_at xs ys all.1 i d

  -- the count of the door that is named rose since before it was opened
  pub rose_since : (share : ℕ → ℕ) (workers : ℕ) (shifts : List (Shift I O)) (old opened new : List D) → AllZip (Listened doors) old opened
      → AtDoors doors share 1 shifts (take workers opened) (take workers new) → (found : ℕ) → failed_of 1 shifts ≡ Some found
      → (1 ≤ found) × RoseAt old new (found - 1)
  rose_since share workers shifts old opened new listened at found is =
      let failed = failed_at share 1 shifts (take workers opened) (take workers new) at found is in
      let within : found - 1 < workers = omega (arith, failed.0, failed.1, length-take workers opened) in (
        failed.0,
        λ d. rose_later (doors.faults (slice_index_or old (found - 1) d)) (doors.faults (slice_index_or opened (found - 1) d)) (doors.faults (slice_index_or new (found - 1) d))
            (listened_at old opened listened (found - 1) d)
            (subst (λ (x : D). Rose (doors.faults x) (doors.faults (slice_index_or new (found - 1) d))) (get_or-take workers opened (found - 1) d within)
            (subst (λ (x : D). Rose (doors.faults (slice_index_or (take workers opened) (found - 1) d)) (doors.faults x)) (get_or-take workers new (found - 1) d within)
            (failed.2 d))),
      )
