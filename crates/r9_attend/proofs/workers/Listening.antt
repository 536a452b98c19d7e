-- Doors that are asked to listen, one after the other.
use Rattle.std.proofs.Common.{◌≡◌, ℕ, zero, suc, ◌+◌, ◌≤◌, ◌<◌, Bool, true, false, List, [], ◌∷◌, ◌++◌, length, take, drop, set, get_or, refl, sym, ap, ◌∙◌, subst, arith}
use Rattle.std.specs.Prelude.{Option, Some, None, IfSome, Result, Ok, Err, OnErr, is_err}
use mathlib.Core.Logic.{dite}
use native.Mathlib.Decide.{ℕ_discrete}
use Rattle.std.specs.List.{AllZip}
use Rattle.r9_outside.specs.outside.Count.{Rose}
use Rattle.r9_attend.specs.workers.Shifts.{Doors, Listened, NoneFails}

module _ {D I O : Type 0} (doors : Doors D I O) where
  listened_both : (a b c : D) → Listened doors a b → Listened doors b c → Listened doors a c
  listened_both a b c h k = record { ended = k.ended ∙ h.ended; over = k.over ∙ h.over; counted = let x = h.counted in let y = k.counted in omega arith }

  pub none_listened : (xs : List D) → AllZip (Listened doors) xs xs
  none_listened [] = tt
  none_listened (x ∷ xs) = (record { ended = refl; over = refl; counted = omega arith }, none_listened xs)

  pub one_listened : (xs ys : List D) (i : ℕ) (y z : D) → AllZip (Listened doors) xs ys → i < length ys → Listened doors (get_or ys i y) z → AllZip (Listened doors) xs (set ys i z)
  one_listened [] [] i y z h within k = absurd (omega arith)
  one_listened [] (v ∷ ys) i y z h within k = absurd h
  one_listened (x ∷ xs) [] i y z h within k = absurd h
  one_listened (x ∷ xs) (v ∷ ys) zero y z h within k = (listened_both x v z h.0 k, h.1)
  one_listened (x ∷ xs) (v ∷ ys) (suc i) y z h within k = (h.0, one_listened xs ys i y z h.1 (omega arith) k)

same_told : (o : Option Bool) (result fails : Bool) → result ≡ fails → IfSome o (λ f. result ≡ f) → IfSome o (λ f. f ≡ fails)
same_told None result fails e h = tt
same_told (Some f) result fails e h = sym h ∙ e

module _ {D : Type 0} where
  drop_nil : (n : ℕ) → drop {A = D} n [] ≡ []
  drop_nil zero = refl
  drop_nil (suc n) = refl

  drop_next : (xs : List D) (i : ℕ) (z : D) → drop (suc i) (set xs i z) ≡ drop (suc i) xs
  drop_next [] i z = refl
  drop_next (x ∷ xs) zero z = refl
  drop_next (x ∷ xs) (suc i) z = drop_next xs i z

  pub drop_later : (xs : List D) (i : ℕ) (z : D) → drop (i + 1) (set xs i z) ≡ drop (i + 1) xs
  drop_later xs i z = let e : suc i ≡ i + 1 = omega arith in subst (λ k. drop k (set xs i z) ≡ drop k xs) e (drop_next xs i z)

  pub drop_more : (xs ys : List D) (i j : ℕ) → i ≤ j → drop i xs ≡ drop i ys → drop j xs ≡ drop j ys
  drop_more xs ys zero j l e = ap (drop j) e
  drop_more xs ys (suc i) zero l e = absurd (omega arith)
  drop_more [] [] (suc i) (suc j) l e = refl
  drop_more [] (y ∷ ys) (suc i) (suc j) l e = sym (drop_nil j) ∙ drop_more [] ys i j (omega arith) (drop_nil i ∙ e)
  drop_more (x ∷ xs) [] (suc i) (suc j) l e = drop_more xs [] i j (omega arith) (e ∙ sym (drop_nil i)) ∙ drop_nil j
  drop_more (x ∷ xs) (y ∷ ys) (suc i) (suc j) l e = drop_more xs ys i j (omega arith) e

  first_of_drop : (xs : List D) (i : ℕ) (d : D) → get_or (drop i xs) 0 d ≡ get_or xs i d
  first_of_drop xs zero d = refl
  first_of_drop [] (suc i) d = refl
  first_of_drop (x ∷ xs) (suc i) d = first_of_drop xs i d

  any_default : (xs : List D) (i : ℕ) (d e : D) → i < length xs → get_or xs i d ≡ get_or xs i e
  any_default [] i d e within = absurd (omega arith)
  any_default (x ∷ xs) zero d e within = refl
  any_default (x ∷ xs) (suc i) d e within = any_default xs i d e (omega arith)

  what_is_set : (xs : List D) (i : ℕ) (z d : D) → i < length xs → get_or (set xs i z) i d ≡ z
  what_is_set [] i z d within = absurd (omega arith)
  what_is_set (x ∷ xs) zero z d within = refl
  what_is_set (x ∷ xs) (suc i) z d within = what_is_set xs i z d (omega arith)

  untouched : (xs ys : List D) (i : ℕ) (y d : D) → i < length ys → drop i ys ≡ drop i xs → get_or ys i y ≡ get_or xs i d
  untouched xs ys i y d within rest = any_default ys i y d within ∙ (sym (first_of_drop ys i d) ∙ (ap (λ l. get_or l 0 d) rest ∙ first_of_drop xs i d))

  -- a door whose count rose, which was not asked before
  pub rose_at : (faults : D → ℕ) (xs ys : List D) (i j : ℕ) (y z d : D) → j ≡ i → i < length ys → drop i ys ≡ drop i xs → Rose (faults (get_or ys i y)) (faults z) → Rose (faults (get_or xs j d)) (faults (get_or (set ys i z) j d))
  rose_at faults xs ys i j y z d e within rest rose =
      subst (λ k. Rose (faults (get_or xs k d)) (faults (get_or (set ys i z) k d))) (sym e)
      (subst (λ v. Rose (faults (get_or xs i d)) (faults v)) (sym (what_is_set ys i z d within)) (subst (λ v. Rose (faults v) (faults z)) (untouched xs ys i y d within rest) rose))

  -- what it told of the call
  pub told_at : (fails_next : D → Option Bool) (xs ys : List D) (i j : ℕ) (y d : D) (result fails : Bool) → j ≡ i → i < length ys → drop i ys ≡ drop i xs → result ≡ fails → IfSome (fails_next (get_or ys i y)) (λ f. result ≡ f)
      → IfSome (fails_next (get_or xs j d)) (λ f. f ≡ fails)
  told_at fails_next xs ys i j y d result fails e within rest is h =
      subst (λ k. IfSome (fails_next (get_or xs k d)) (λ f. f ≡ fails)) (sym e)
      (subst (λ v. IfSome (fails_next v) (λ f. f ≡ fails)) (untouched xs ys i y d within rest) (same_told (fails_next (get_or ys i y)) result fails is h))

  pub one_more_told : (fails_next : D → Option Bool) (xs : List D) (n : ℕ) → NoneFails fails_next n xs → ((d : D) → IfSome (fails_next (get_or xs n d)) (λ f. f ≡ false)) → NoneFails fails_next (n + 1) xs
  one_more_told fails_next xs n before here i d below = dite (ℕ_discrete i n)
      (λ e. subst (λ k. IfSome (fails_next (get_or xs k d)) (λ f. f ≡ false)) (sym e) (here d)) (λ other. before i d (omega arith))

  pub fewer_told : (fails_next : D → Option Bool) (xs : List D) (n m : ℕ) → m ≤ n → NoneFails fails_next n xs → NoneFails fails_next m xs
  fewer_told fails_next xs n m few h i d below = h i d (omega arith)

  pub take_front : (n : ℕ) (xs ys : List D) → length xs ≡ n → take n (xs ++ ys) ≡ xs
  take_front zero [] ys e = refl
  take_front zero (x ∷ xs) ys e = absurd (omega arith)
  take_front (suc n) [] ys e = absurd (omega arith)
  take_front (suc n) (x ∷ xs) ys e = ap (λ l. x ∷ l) (take_front n xs ys (omega arith))

  pub drop_front : (n : ℕ) (xs ys : List D) → length xs ≡ n → drop n (xs ++ ys) ≡ ys
  drop_front zero [] ys e = refl
  drop_front zero (x ∷ xs) ys e = absurd (omega arith)
  drop_front (suc n) [] ys e = absurd (omega arith)
  drop_front (suc n) (x ∷ xs) ys e = drop_front n xs ys (omega arith)

-- what holds where a result is an error
pub at_error : {A E : Type 0} (r : Result A E) (P : Type 0) → is_err r ≡ true → OnErr r P → P
at_error (Ok x) P e h = absurd cc
at_error (Err x) P e h = h
