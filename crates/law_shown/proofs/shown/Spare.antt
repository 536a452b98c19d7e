-- The numbers of screens that came back stay those of none.
use Rattle.std.proofs.Common.{◌≡◌, ℕ, zero, suc, ◌<◌, ◌≤◌, Bool, true, false, List, [], ◌∷◌, ◌++◌, length, take, Option, Some, None, ◌⊎◌, inl, inr, refl, sym, ap, subst, ◌∙◌, arith}
use Rattle.std.specs.Prelude.{◌-◌, ◌==◌, ◌||◌, is_some, nat_lt, slice_index_or, slice_set, if◌then◌else◌}
use Rattle.std.specs.List.{list_any}
use Rattle.std.proofs.lemmas.Bool.{eqb-true}
use Rattle.std.proofs.lemmas.Bool.Decides.{nat_tests}
use Rattle.std.proofs.lemmas.List.Folds.{list_any-append}
use Rattle.model_draw_parts.specs.declared.images.Screen.{Screen as Filled}
use Rattle.model_draw_parts.specs.declared.images.Thing.{Thing}
use Rattle.model_draw_parts.specs.declared.images.Thing.TheVariants.{Image, Screen}
use Rattle.model_draw_parts.specs.images.Book.{Book, next_screen, screen_numbered, with_screen}
use Rattle.model_draw_parts.specs.images.Release.{Freed, HasScreens, IsFreed, IsOnce, KeepsRest, has_gone, same_thing}
use Rattle.model_draw_parts.proofs.images.Spare.{GivesBack, screens_in}
use Rattle.law_shown.specs.shown.Showing.{AreFree}
use Rattle.law_shown.proofs.shown.Tests.{either_true, first_false, first_true, not-true, not_both, second_false, second_true}

abbrev Slots : Type 0
Slots = List (Option Filled)

eqb_comm : (i j : ℕ) → (i == j) ≡ (j == i)
eqb_comm i j = grind (arith, nat_tests)

same : (n : ℕ) → (n == n) ≡ true
same n = grind (arith, nat_tests)

neither : (a b : Bool) → a ≡ false → b ≡ false → (a || b) ≡ false
neither true b h k = absurd cc
neither false b h k = k

-- a screen that is there has a number that was given out
pub below : (xs : Slots) (s : ℕ) → is_some (slice_index_or xs s None) ≡ true → s < length xs
below [] s h = absurd cc
below (x ∷ xs) zero h = omega arith
below (x ∷ xs) (suc s) h = let more = below xs s h in omega arith

-- ---- what goes comes back

any-screens : (things : List Thing) (s : ℕ) → list_any (λ t. t == s) (screens_in things) ≡ list_any (same_thing (Screen s)) things
any-screens [] s = refl
any-screens (Image i ∷ things) s = any-screens things s
any-screens (Screen t ∷ things) s = λ i. eqb_comm t s i || any-screens things s i

free-gone : (book : Book) (freed : Freed) → HasScreens book → IsFreed book freed → KeepsRest book freed → GivesBack book freed
    → (things : List Thing) → ((s : ℕ) → list_any (same_thing (Screen s)) things ≡ true → has_gone freed (Screen s) ≡ true) → IsOnce things → AreFree freed.book.screens (screens_in things)
free-gone book freed h f k g [] gone once = tt
free-gone book freed h f k g (Image i ∷ things) gone once = free-gone book freed h f k g things (λ s e. gone s e) once.1
free-gone book freed h f k g (Screen s ∷ things) gone once =
    let went = gone s (first_true (s == s) _ (same s)) in
    let there = below book.screens s (h s (f.gone_used (Screen s) went)) in
    let made = g.made in (
      omega arith,
      k.screens s ∙ ap (λ (b : Bool). if b then None else screen_numbered book s) went,
      any-screens things s ∙ once.0,
      free-gone book freed h f k g things (λ t e. gone t (second_true (t == s) _ e)) once.1,
    )

free-both : (book : Book) (freed : Freed) → HasScreens book → IsFreed book freed → KeepsRest book freed → GivesBack book freed
    → (ss : List ℕ) → AreFree book.screens ss → AreFree freed.book.screens (screens_in freed.gone) → AreFree freed.book.screens (ss ++ screens_in freed.gone)
free-both book freed h f k g [] free more = more
free-both book freed h f k g (s ∷ ss) free more =
    let made = g.made in
    let within = free.0 in (
      omega arith,
      by (has_gone freed (Screen s)) refl,
      list_any-append (λ t. t == s) ss (screens_in freed.gone) ∙ neither _ _ free.2 (any-screens freed.gone s ∙ not-true (list_any (same_thing (Screen s)) freed.gone) stays),
      free-both book freed h f k g ss free.3 more,
    )
  where
    by : (b : Bool) → has_gone freed (Screen s) ≡ b → slice_index_or freed.book.screens s None ≡ None
    by true e = k.screens s ∙ ap (λ (b : Bool). if b then None else screen_numbered book s) e
    by false e = k.screens s ∙ ap (λ (b : Bool). if b then None else screen_numbered book s) e ∙ free.1

    stays : has_gone freed (Screen s) ≡ true → ⊥
    stays e = not_both (is_some (screen_numbered book s)) (h s (f.gone_used (Screen s) e)) (ap is_some free.1)

pub spare-freed : (book : Book) (freed : Freed) → AreFree book.screens book.spare → HasScreens book → IsFreed book freed → KeepsRest book freed → GivesBack book freed → AreFree freed.book.screens freed.book.spare
spare-freed book freed spare h f k g =
    subst (AreFree freed.book.screens) (sym g.spare) (free-both book freed h f k g book.spare spare (free-gone book freed h f k g freed.gone (λ s e. e) f.once))

-- ---- a new screen

-- a number that a new screen may get
pub record IsFree (xs : List (Option Filled)) (number : ℕ) : Type 0 where
  pub within : number ≤ length xs
  pub empty : slice_index_or xs number None ≡ None

end_empty : (xs : Slots) → slice_index_or xs (length xs) None ≡ None
end_empty [] = refl
end_empty (x ∷ xs) = end_empty xs

any-take : (p : ℕ → Bool) (ss : List ℕ) (n : ℕ) → list_any p ss ≡ false → list_any p (take n ss) ≡ false
any-take p [] zero h = refl
any-take p [] (suc n) h = refl
any-take p (s ∷ ss) zero h = refl
any-take p (s ∷ ss) (suc n) h = neither (p s) _ (first_false (p s) _ h) (any-take p ss n (second_false (p s) _ h))

take-free : (xs : Slots) (ss : List ℕ) (n : ℕ) → AreFree xs ss → AreFree xs (take n ss)
take-free xs [] zero free = tt
take-free xs [] (suc n) free = tt
take-free xs (s ∷ ss) zero free = tt
take-free xs (s ∷ ss) (suc n) free = (free.0, free.1, any-take (λ t. t == s) ss n free.2, take-free xs ss n free.3)

in-list : (ss : List ℕ) (m d : ℕ) → m < length ss → list_any (λ t. t == slice_index_or ss m d) ss ≡ true
in-list [] m d h = absurd (omega arith)
in-list (s ∷ ss) zero d h = first_true (s == s) _ (same s)
in-list (s ∷ ss) (suc m) d h = second_true (s == slice_index_or ss m d) _ (in-list ss m d (omega arith))

-- the last of them is free, and not among the others
last-free : (xs : Slots) (ss : List ℕ) (m d : ℕ) → length ss ≡ suc m → AreFree xs ss → IsFree xs (slice_index_or ss m d) × (list_any (λ t. t == slice_index_or ss m d) (take m ss) ≡ false)
last-free xs [] m d h free = absurd (omega arith)
last-free xs (s ∷ ss) zero d h free = (record { within = (let within = free.0 in omega arith); empty = free.1 }, refl)
last-free xs (s ∷ ss) (suc m) d h free =
    let more = last-free xs ss m d (omega arith) free.3 in
    let last : ℕ = slice_index_or ss m d in
    let other : (s == last) ≡ false = not-true (s == last) (λ e.
    not_both (list_any (λ t. t == s) ss) (ap (λ n. list_any (λ t. t == n) ss) (eqb-true s last e) ∙ in-list ss m d (omega arith)) free.2) in
    (more.0, neither (s == last) _ other more.1)

pub next-free : (book : Book) → AreFree book.screens book.spare → IsFree book.screens (next_screen book) × (list_any (λ t. t == next_screen book) (take (length book.spare - 1) book.spare) ≡ false)
next-free book spare = by book.spare refl
  where
    by : (ss : List ℕ) → book.spare ≡ ss → IsFree book.screens (slice_index_or book.spare (length book.spare - 1) (length book.screens)) × (list_any (λ t. t == slice_index_or book.spare (length book.spare - 1) (length book.screens)) (take (length book.spare - 1) book.spare) ≡ false)
    by [] e =
        let P : List ℕ → Type 0 = λ ts. IsFree book.screens (slice_index_or ts (length ts - 1) (length book.screens)) × (list_any (λ t. t == slice_index_or ts (length ts - 1) (length book.screens)) (take (length ts - 1) ts) ≡ false) in
        subst P (sym e) (record { within = omega arith; empty = end_empty book.screens }, refl)
    by (s ∷ ss) e =
        let size : length book.spare ≡ suc (length ss) = ap length e in
        let last : length book.spare - 1 ≡ length ss = omega arith in
        let P : ℕ → Type 0 = λ m. IsFree book.screens (slice_index_or book.spare m (length book.screens)) × (list_any (λ t. t == slice_index_or book.spare m (length book.screens)) (take m book.spare) ≡ false) in
        subst P (sym last) (last-free book.screens book.spare (length ss) (length book.screens) size spare)

set-other : (xs : Slots) (n m : ℕ) (x : Option Filled) → (m == n) ≡ false → slice_index_or (slice_set xs n x) m None ≡ slice_index_or xs m None
set-other [] n m x h = refl
set-other (y ∷ xs) zero zero x h = absurd cc
set-other (y ∷ xs) zero (suc m) x h = refl
set-other (y ∷ xs) (suc n) zero x h = refl
set-other (y ∷ xs) (suc n) (suc m) x h = set-other xs n m x (grind (arith, nat_tests))

set-at : (xs : Slots) (n : ℕ) (x : Option Filled) → n < length xs → slice_index_or (slice_set xs n x) n None ≡ x
set-at [] n x h = absurd (omega arith)
set-at (y ∷ xs) zero x h = refl
set-at (y ∷ xs) (suc n) x h = set-at xs n x (omega arith)

set-length : (xs : Slots) (n : ℕ) (x : Option Filled) → length (slice_set xs n x) ≡ length xs
set-length [] n x = refl
set-length (y ∷ xs) zero x = refl
set-length (y ∷ xs) (suc n) x = ap suc (set-length xs n x)

any-set : (p : Option Filled → Bool) (xs : Slots) (n : ℕ) (x : Option Filled) → list_any p (slice_set xs n x) ≡ true → (p x ≡ true) ⊎ (list_any p xs ≡ true)
any-set p [] n x h = inr h
any-set p (y ∷ xs) zero x h = elim (either_true (p x) _ h) [ inl here ↦ inl here | inr there ↦ inr (second_true (p y) _ there) ]
any-set p (y ∷ xs) (suc n) x h = elim (either_true (p y) _ h) [
  | inl here ↦ inr (first_true (p y) _ here)
  | inr there ↦ elim (any-set p xs n x there) [ inl new ↦ inl new | inr old ↦ inr (second_true (p y) _ old) ]
]

-- what stands in the other slots
set-old : (p : Option Filled → Bool) (xs : Slots) (n : ℕ) (x : Option Filled) → p (slice_index_or xs n None) ≡ false → list_any p xs ≡ true → list_any p (slice_set xs n x) ≡ true
set-old p [] n x none h = h
set-old p (y ∷ xs) zero x none h = elim (either_true (p y) _ h) [ inl here ↦ absurd (not_both (p y) here none) | inr there ↦ second_true (p x) _ there ]
set-old p (y ∷ xs) (suc n) x none h = elim (either_true (p y) _ h) [
  | inl here ↦ first_true (p y) _ here
  | inr there ↦ second_true (p y) _ (set-old p xs n x none there)
]

end-other : (xs : Slots) (m : ℕ) (x : Option Filled) → (m == length xs) ≡ false → slice_index_or (xs ++ x ∷ []) m None ≡ slice_index_or xs m None
end-other [] zero x h = absurd cc
end-other [] (suc m) x h = refl
end-other (y ∷ xs) zero x h = refl
end-other (y ∷ xs) (suc m) x h = end-other xs m x (grind (arith, nat_tests))

end-at : (xs : Slots) (x : Option Filled) → slice_index_or (xs ++ x ∷ []) (length xs) None ≡ x
end-at [] x = refl
end-at (y ∷ xs) x = end-at xs x

end-length : (xs : Slots) (x : Option Filled) → length xs ≤ length (xs ++ x ∷ [])
end-length [] x = omega arith
end-length (y ∷ xs) x = let more = end-length xs x in omega arith

-- What the slots are with one more screen.
pub record HasNew (xs next : List (Option Filled)) (number : ℕ) (s : Filled) : Type 0 where
  pub others : (m : ℕ) → (m == number) ≡ false → slice_index_or next m None ≡ slice_index_or xs m None
  pub at : slice_index_or next number None ≡ Some s
  pub size : length xs ≤ length next
  pub any : (p : Option Filled → Bool) → list_any p next ≡ true → (p (Some s) ≡ true) ⊎ (list_any p xs ≡ true)
  pub old : (p : Option Filled → Bool) → p None ≡ false → list_any p xs ≡ true → list_any p next ≡ true

pub has-new : (xs : List (Option Filled)) (number : ℕ) (s : Filled) → IsFree xs number → HasNew xs (with_screen xs number s) number s
has-new xs number s free = by (nat_lt number (length xs)) refl
  where
    by : (b : Bool) → nat_lt number (length xs) ≡ b → HasNew xs (if b then slice_set xs number (Some s) else xs ++ Some s ∷ []) number s
    by true e =
        let less : number < length xs = grind (arith, nat_tests) in
        record {
          others = λ m h. set-other xs number m (Some s) h;
          at = set-at xs number (Some s) less;
          size = (let size = set-length xs number (Some s) in omega arith);
          any = λ p h. any-set p xs number (Some s) h;
          old = λ p none h. set-old p xs number (Some s) (ap p free.empty ∙ none) h;
        }
    by false e =
        let within = free.within in
        let end : number ≡ length xs = grind (arith, nat_tests) in
        record {
          old = λ p none h. list_any-append p xs (Some s ∷ []) ∙ first_true (list_any p xs) _ h;
          others = λ m h. end-other xs m (Some s) (ap (λ n. m == n) (sym end) ∙ h);
          at = ap (λ n. slice_index_or (xs ++ Some s ∷ []) n None) end ∙ end-at xs (Some s);
          size = end-length xs (Some s);
          any = λ p h. elim (either_true (list_any p xs) _ (sym (list_any-append p xs (Some s ∷ [])) ∙ h)) [
            | inl old ↦ inr old
            | inr new ↦ inl (elim (either_true (p (Some s)) false new) [ inl here ↦ here | inr none ↦ absurd cc ])
          ];
        }

free-kept : (xs next : List (Option Filled)) (number : ℕ) (s : Filled) (ss : List ℕ) → HasNew xs next number s → AreFree xs ss → list_any (λ t. t == number) ss ≡ false → AreFree next ss
free-kept xs next number s [] new free h = tt
free-kept xs next number s (t ∷ ss) new free h =
    let within = free.0 in
    let size = new.size in
    (omega arith, new.others t (first_false (t == number) _ h) ∙ free.1, free.2, free-kept xs next number s ss new free.3 (second_false (t == number) _ h))

-- a new screen takes one of them
pub spare-taken : (book : Book) (s : Filled) → AreFree book.screens book.spare → AreFree (with_screen book.screens (next_screen book) s) (take (length book.spare - 1) book.spare)
spare-taken book s spare =
    let next = next-free book spare in
    free-kept book.screens (with_screen book.screens (next_screen book) s) (next_screen book) s (take (length book.spare - 1) book.spare) (has-new book.screens (next_screen book) s next.0)
    (take-free book.screens book.spare (length book.spare - 1) spare) next.1
