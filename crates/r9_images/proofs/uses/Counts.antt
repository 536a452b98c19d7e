-- How often something is in a list, where one item comes or goes.
use Rattle.std.proofs.Common.{◌≡◌, ℕ, ◌+◌, ◌<◌, Bool, true, false, cond, List, [], ◌∷◌, ◌++◌, length, Option, Some, None, refl, sym, ap, subst, ◌∙◌, arith, get_or, set}
use Rattle.std.specs.Prelude.{◌==◌, ◌||◌, find, nat_lt, if◌then◌else◌, slice_index_or, slice_set, IfSome}
use Rattle.std.specs.List.{count_by, list_any, sum_by}
use Rattle.std.proofs.lemmas.Bool.Decides.{nat_tests}
use Rattle.std.proofs.lemmas.List.{get_or_past}
use Rattle.std.proofs.lemmas.List.Sums.{sum_by-cons, sum_by-append, sum_by-set}
use Rattle.model_draw_parts.specs.declared.images.ImageId.{ImageId}
use Rattle.model_draw_parts.specs.declared.images.ScreenId.{ScreenId}
use Rattle.model_draw_parts.specs.declared.images.Screen.{Screen as Filled}
use Rattle.model_draw_parts.specs.images.Book.{comes_before, is_on, put_image_id, put_screen_id}
use Rattle.model_draw_parts.specs.images.Release.{is_image_id, is_screen_id, refers_to}
use Rattle.r9_images.specs.uses.Counts.{is_filled_by}

pub any-count : {X : Type 0} (p : X → Bool) (xs : List X) → nat_lt 0 (count_by p xs) ≡ list_any p xs
any-count p [] = refl
any-count p (x ∷ xs) = ap (λ (k : ℕ). nat_lt 0 k) (sum_by-cons (λ y. cond (p y) 1 0) x xs) ∙ by (p x) (any-count p xs)
  where
    by : (t : Bool) → nat_lt 0 (count_by p xs) ≡ list_any p xs → nat_lt 0 (cond t 1 0 + count_by p xs) ≡ (t || list_any p xs)
    by true more = grind (arith, nat_tests)
    by false more = let none : 0 + count_by p xs ≡ count_by p xs = omega arith in ap (λ (k : ℕ). nat_lt 0 k) none ∙ more

swapped : (a b n m l r : ℕ) → l ≡ a + m → m ≡ b + n → r ≡ a + n → l ≡ b + r
swapped a b n m l r h k p = omega (arith, h, k, p)

pub count-put_image : (q : ImageId → Bool) (e : ImageId) (es : List ImageId) → count_by q (put_image_id e es) ≡ cond (q e) 1 0 + count_by q es
count-put_image q e [] = sum_by-cons (λ x. cond (q x) 1 0) e []
count-put_image q e (x ∷ xs) = by (count-put_image q e xs) (comes_before e.client e.id x.client x.id)
  where
    by : count_by q (put_image_id e xs) ≡ cond (q e) 1 0 + count_by q xs → (t : Bool)
        → count_by q (if t then e ∷ x ∷ xs else x ∷ put_image_id e xs) ≡ cond (q e) 1 0 + count_by q (x ∷ xs)
    by more true = sum_by-cons (λ y. cond (q y) 1 0) e (x ∷ xs)
    by more false =
        swapped (cond (q x) 1 0) (cond (q e) 1 0) (count_by q xs) (count_by q (put_image_id e xs)) (count_by q (x ∷ put_image_id e xs)) (count_by q (x ∷ xs))
        (sum_by-cons (λ y. cond (q y) 1 0) x (put_image_id e xs)) more (sum_by-cons (λ y. cond (q y) 1 0) x xs)

pub count-put_screen : (q : ScreenId → Bool) (e : ScreenId) (es : List ScreenId) → count_by q (put_screen_id e es) ≡ cond (q e) 1 0 + count_by q es
count-put_screen q e [] = sum_by-cons (λ x. cond (q x) 1 0) e []
count-put_screen q e (x ∷ xs) = by (count-put_screen q e xs) (comes_before e.client e.id x.client x.id)
  where
    by : count_by q (put_screen_id e xs) ≡ cond (q e) 1 0 + count_by q xs → (t : Bool)
        → count_by q (if t then e ∷ x ∷ xs else x ∷ put_screen_id e xs) ≡ cond (q e) 1 0 + count_by q (x ∷ xs)
    by more true = sum_by-cons (λ y. cond (q y) 1 0) e (x ∷ xs)
    by more false =
        swapped (cond (q x) 1 0) (cond (q e) 1 0) (count_by q xs) (count_by q (put_screen_id e xs)) (count_by q (x ∷ put_screen_id e xs)) (count_by q (x ∷ xs))
        (sum_by-cons (λ y. cond (q y) 1 0) x (put_screen_id e xs)) more (sum_by-cons (λ y. cond (q y) 1 0) x xs)

some : {X : Type 0} (P : X → Type 0) (o : Option X) (x : X) → o ≡ Some x → (IfSome o P) → P x
some P None x h k = absurd cc
some P (Some y) x h k = let same : y ≡ x = cc in subst P same k

-- an id that goes was counted
pub count-taken_image : (q : ImageId → Bool) (e : ImageId) (es rest : List ImageId) → find (is_image_id e.client e.id) es ≡ Some e
    → IfSome (find (is_image_id e.client e.id) es) (λ x. put_image_id x rest ≡ es) → count_by q es ≡ cond (q e) 1 0 + count_by q rest
count-taken_image q e es rest h back = ap (count_by q) (sym (some (λ x. put_image_id x rest ≡ es) _ e h back)) ∙ count-put_image q e rest

pub count-taken_screen : (q : ScreenId → Bool) (e : ScreenId) (es rest : List ScreenId) → find (is_screen_id e.client e.id) es ≡ Some e
    → IfSome (find (is_screen_id e.client e.id) es) (λ x. put_screen_id x rest ≡ es) → count_by q es ≡ cond (q e) 1 0 + count_by q rest
count-taken_screen q e es rest h back = ap (count_by q) (sym (some (λ x. put_screen_id x rest ≡ es) _ e h back)) ∙ count-put_screen q e rest

-- what is found is counted
pub count-found : {X : Type 0} (p q : X → Bool) (x : X) (xs : List X) → find p xs ≡ Some x → q x ≡ true → 0 < count_by q xs
count-found p q x [] h k = absurd cc
count-found p q x (y ∷ ys) h k =
    let more = sum_by-cons (λ z. cond (q z) 1 0) y ys in
    subst (λ (n : ℕ). 0 < n) (sym more) (by (count-found p q x ys) (p y) h)
  where
    by : (find p ys ≡ Some x → q x ≡ true → 0 < count_by q ys) → (t : Bool) → cond t (Some y) (find p ys) ≡ Some x → 0 < cond (q y) 1 0 + count_by q ys
    by rest true h =
        let same : y ≡ x = cc in
        let is : q y ≡ true = ap q same ∙ k in
        rw is (omega arith)
    by rest false h = let some = rest h k in omega (arith, some)

-- ---- screens

pub refers-count : (i : ℕ) (screens : List (Option Filled)) → list_any (refers_to i) screens ≡ (list_any (is_on i) screens || list_any (is_filled_by i) screens)
refers-count i [] = refl
refers-count i (None ∷ xs) = refers-count i xs
refers-count i (Some s ∷ xs) = by (s.image == i) (s.fill == i) (list_any (is_on i) xs) (list_any (is_filled_by i) xs) (refers-count i xs)
  where
    by : (a b c d : Bool) → list_any (refers_to i) xs ≡ (c || d) → ((a || b) || list_any (refers_to i) xs) ≡ ((a || c) || (b || d))
    by true b c d h = refl
    by false true true d h = refl
    by false true false d h = refl
    by false false c d h = h

-- a screen that goes was counted
pub count-emptied : (p : Option Filled → Bool) (xs : List (Option Filled)) (n : ℕ) (s : Filled) → slice_index_or xs n None ≡ Some s → p None ≡ false
    → count_by p xs ≡ cond (p (Some s)) 1 0 + count_by p (slice_set xs n None)
count-emptied p xs n s is none =
    let f : Option Filled → ℕ = λ x. cond (p x) 1 0 in
    let l : n < length xs = grind (arith, get_or_past) in
    let step : sum_by f (set xs n None) + f (get_or xs n None) ≡ sum_by f xs + f None = sum_by-set f xs n None None l in
    let zero : f None ≡ 0 = rw none refl in
    let old : f (get_or xs n None) ≡ f (Some s) = ap f is in
    omega (arith, step, zero, old)

-- a screen that comes where there was none
pub count-filled : (p : Option Filled → Bool) (xs : List (Option Filled)) (n : ℕ) (s : Filled) → n < length xs → None ≡ slice_index_or xs n None → p None ≡ false
    → count_by p (slice_set xs n (Some s)) ≡ cond (p (Some s)) 1 0 + count_by p xs
count-filled p xs n s l is none =
    let f : Option Filled → ℕ = λ x. cond (p x) 1 0 in
    let step : sum_by f (set xs n (Some s)) + f (get_or xs n None) ≡ sum_by f xs + f (Some s) = sum_by-set f xs n (Some s) None l in
    let zero : f (get_or xs n None) ≡ 0 = ap f (sym is) ∙ (rw none refl) in
    omega (arith, step, zero)

pub count-end : {X : Type 0} (p : X → Bool) (xs : List X) (x : X) → count_by p (xs ++ x ∷ []) ≡ cond (p x) 1 0 + count_by p xs
count-end p xs x =
    let f : _ → ℕ = λ y. cond (p y) 1 0 in
    let ends = sum_by-append f xs (x ∷ []) in
    let one = sum_by-cons f x [] in
    omega (arith, ends, one)

pub same-number : (n : ℕ) → (n == n) ≡ true
same-number n = grind (arith, nat_tests)

pub is-counted : (n all rest : ℕ) → all ≡ cond (n == n) 1 0 + rest → 0 < all
is-counted n all rest h = let one : ◌≡◌ {A = ℕ} (cond (n == n) 1 0) 1 = rw (same-number n) refl in omega (arith, h, one)
