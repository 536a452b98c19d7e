-- The screens by number, where one comes.
use Rattle.std.proofs.Common.{◌≡◌, ℕ, zero, suc, ◌+◌, ◌<◌, ◌≤◌, Bool, true, false, cond, List, [], ◌∷◌, ◌++◌, length, Option, Some, None, refl, sym, ap, ◌∙◌, inl, inr, arith}
use Rattle.std.specs.Prelude.{slice_index_or, slice_set, nat_lt}
use Rattle.std.specs.List.{count_by}
use Rattle.std.proofs.lemmas.Bool.{cases_lt}
use Rattle.std.proofs.lemmas.Bool.Decides.{nat_tests}
use Rattle.std.proofs.lemmas.List.{get_or-set_same, length-set, set_past}
use Rattle.model_draw_parts.specs.declared.images.Screen.{Screen as Filled}
use Rattle.model_draw_parts.specs.images.Book.{with_screen}
use Rattle.r9_images.proofs.uses.Counts.{count-end, count-filled}

set-again : {X : Type 0} (xs : List X) (n : ℕ) (x y : X) → slice_set (slice_set xs n x) n y ≡ slice_set xs n y
set-again [] n x y = refl
set-again (z ∷ zs) zero x y = refl
set-again (z ∷ zs) (suc n) x y = ap (λ ys. z ∷ ys) (set-again zs n x y)

with-within : (xs : List (Option Filled)) (n : ℕ) (s : Filled) → n < length xs → with_screen xs n s ≡ slice_set xs n (Some s)
with-within xs n s l = let there : nat_lt n (length xs) ≡ true = grind (arith, nat_tests, l) in rw there refl

with-past : (xs : List (Option Filled)) (n : ℕ) (s : Filled) → length xs ≤ n → with_screen xs n s ≡ xs ++ Some s ∷ []
with-past xs n s l = let past : nat_lt n (length xs) ≡ false = grind (arith, nat_tests, l) in rw past refl

-- the number was emptied first
pub put-emptied : (xs ys : List (Option Filled)) (n : ℕ) (s : Filled) → ys ≡ slice_set xs n None → with_screen ys n s ≡ with_screen xs n s
put-emptied xs ys n s is =
    let long : length ys ≡ length xs = ap length is ∙ length-set xs n None in
    elim (cases_lt n (length xs)) [
      | inl l ↦
          with-within ys n s (omega (arith, l, long)) ∙ ap (λ zs. slice_set zs n (Some s)) is ∙ set-again xs n None (Some s) ∙ sym (with-within xs n s l)
      | inr l ↦ ap (λ zs. with_screen zs n s) (is ∙ set_past xs n None l)
    ]

-- a screen that comes where there was none is counted
pub count-put : (p : Option Filled → Bool) (xs ys : List (Option Filled)) (n : ℕ) (s : Filled) → ys ≡ slice_set xs n None → p None ≡ false
    → count_by p (with_screen ys n s) ≡ cond (p (Some s)) 1 0 + count_by p ys
count-put p xs ys n s is none =
    let long : length ys ≡ length xs = ap length is ∙ length-set xs n None in
    elim (cases_lt n (length ys)) [
      | inl l ↦
          let empty : None ≡ slice_index_or ys n None = sym (ap (λ zs. slice_index_or zs n None) is ∙ get_or-set_same xs n None None (omega (arith, l, long))) in
          ap (count_by p) (with-within ys n s l) ∙ count-filled p ys n s l empty none
      | inr l ↦ ap (count_by p) (with-past ys n s l) ∙ count-end p ys (Some s)
    ]
