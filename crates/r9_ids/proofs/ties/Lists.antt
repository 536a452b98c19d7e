-- Lists of which one element goes or comes.
use Rattle.std.proofs.Common.{◌≡◌, ◌<◌, ◌≤◌, Bool, true, false, cond, List, [], ◌∷◌, ◌++◌, length, Option, Some, None, refl, sym, ap, subst, ◌∙◌, arith}
use Rattle.std.specs.Prelude.{not, find, filter}
use Rattle.std.specs.Option.{option_or}
use Rattle.r9_ids.specs.ties.Kept.{Each}
use Rattle.std.proofs.lemmas.List.Folds.{find-append}

pub true-false : true ≡ false → ⊥
true-false h = cc

pub or-none : {X : Type 0} (o : Option X) → option_or o None ≡ o
or-none None = refl
or-none (Some x) = refl

pub none-all : {X : Type 0} (p : X → Bool) (xs : List X) → find p xs ≡ None → Each (λ x. p x ≡ false) xs
none-all p [] h = tt
none-all p (x ∷ xs) h = by (none-all p xs) (p x) refl h
  where
    by : (find p xs ≡ None → Each (λ y. p y ≡ false) xs) → (t : Bool) → p x ≡ t → cond t (Some x) (find p xs) ≡ None → (p x ≡ false) × Each (λ y. p y ≡ false) xs
    by more true at h = absurd cc
    by more false at h = (at, more h)

pub all-none : {X : Type 0} (p : X → Bool) (xs : List X) → Each (λ x. p x ≡ false) xs → find p xs ≡ None
all-none p [] h = refl
all-none p (x ∷ xs) h = rw h.0 (all-none p xs h.1)

pub all-found : {X : Type 0} (P : X → Type 0) (p : X → Bool) (xs : List X) (x : X) → Each P xs → find p xs ≡ Some x → P x
all-found P p [] x h found = absurd cc
all-found P p (y ∷ ys) x h found = by (all-found P p ys x h.1) (p y) found
  where
    by : (find p ys ≡ Some x → P x) → (t : Bool) → cond t (Some y) (find p ys) ≡ Some x → P x
    by more true found = let same : y ≡ x = cc in subst (λ z. P z) same h.0
    by more false found = more found

pub found-passes : {X : Type 0} (p : X → Bool) (xs : List X) (x : X) → find p xs ≡ Some x → p x ≡ true
found-passes p [] x h = absurd cc
found-passes p (y ∷ ys) x h = by (found-passes p ys x) (p y) refl h
  where
    by : (find p ys ≡ Some x → p x ≡ true) → (t : Bool) → p y ≡ t → cond t (Some y) (find p ys) ≡ Some x → p x ≡ true
    by more true at h = let same : y ≡ x = cc in rw (← same) at
    by more false at h = more h

pub all-to : {X : Type 0} (P Q : X → Type 0) → ((x : X) → P x → Q x) → (xs : List X) → Each P xs → Each Q xs
all-to P Q f [] h = tt
all-to P Q f (x ∷ xs) h = (f x h.0, all-to P Q f xs h.1)

pub all-filter : {X : Type 0} (P : X → Type 0) (p : X → Bool) (xs : List X) → Each P xs → Each P (filter p xs)
all-filter P p [] h = tt
all-filter P p (x ∷ xs) h = by (p x) (all-filter P p xs h.1)
  where
    by : (t : Bool) → Each P (filter p xs) → Each P (cond t (x ∷ filter p xs) (filter p xs))
    by true more = (h.0, more)
    by false more = more

pub all-more : {X : Type 0} (P : X → Type 0) (xs : List X) (x : X) → Each P xs → P x → Each P (xs ++ x ∷ [])
all-more P [] x h here = (here, tt)
all-more P (y ∷ ys) x h here = (h.0, all-more P ys x h.1 here)

-- one more at the end
pub found-more : {X : Type 0} (p : X → Bool) (xs : List X) (x : X) → (p x ≡ true → find p xs ≡ None) → find p (xs ++ x ∷ []) ≡ cond (p x) (Some x) (find p xs)
found-more p xs x none = find-append p xs (x ∷ []) ∙ by (p x) none
  where
    by : (t : Bool) → (t ≡ true → find p xs ≡ None) → option_or (find p xs) (cond t (Some x) None) ≡ cond t (Some x) (find p xs)
    by true none = rw (none refl) refl
    by false none = or-none (find p xs)

-- without those that pass a test, of which none passes another
pub found-kept : {X : Type 0} (p q : X → Bool) (xs : List X) → Each (λ x. q x ≡ true → p x ≡ false) xs → find p (filter (λ x. not (q x)) xs) ≡ find p xs
found-kept p q [] h = refl
found-kept p q (x ∷ xs) h = by (found-kept p q xs h.1) (q x) refl
  where
    by : find p (filter (λ y. not (q y)) xs) ≡ find p xs → (t : Bool) → q x ≡ t → find p (cond (not t) (x ∷ filter (λ y. not (q y)) xs) (filter (λ y. not (q y)) xs)) ≡ find p (x ∷ xs)
    by more true at = more ∙ rw (h.0 at) refl
    by more false at = ap (λ o. cond (p x) (Some x) o) more

-- without those that pass a test, as all do that pass another
pub found-gone : {X : Type 0} (p q : X → Bool) (xs : List X) → Each (λ x. p x ≡ true → q x ≡ true) xs → find p (filter (λ x. not (q x)) xs) ≡ None
found-gone p q [] h = refl
found-gone p q (x ∷ xs) h = by (found-gone p q xs h.1) (q x) refl
  where
    by : find p (filter (λ y. not (q y)) xs) ≡ None → (t : Bool) → q x ≡ t → find p (cond (not t) (x ∷ filter (λ y. not (q y)) xs) (filter (λ y. not (q y)) xs)) ≡ None
    by more true at = more
    by more false at = pick (p x) refl
      where
        pick : (u : Bool) → p x ≡ u → cond u (Some x) (find p (filter (λ y. not (q y)) xs)) ≡ None
        pick true is = absurd (true-false (sym (h.0 is) ∙ at))
        pick false is = more

-- without those that pass two tests, of which all that pass one pass the other
pub filter-twice : {X : Type 0} (p q : X → Bool) (xs : List X) → Each (λ x. q x ≡ true → p x ≡ true) xs → filter (λ x. not (p x)) (filter (λ x. not (q x)) xs) ≡ filter (λ x. not (p x)) xs
filter-twice p q [] h = refl
filter-twice p q (x ∷ xs) h = by (filter-twice p q xs h.1) (q x) refl
  where
    by : filter (λ y. not (p y)) (filter (λ y. not (q y)) xs) ≡ filter (λ y. not (p y)) xs → (t : Bool) → q x ≡ t
        → filter (λ y. not (p y)) (cond (not t) (x ∷ filter (λ y. not (q y)) xs) (filter (λ y. not (q y)) xs)) ≡ filter (λ y. not (p y)) (x ∷ xs)
    by more true at = more ∙ rw (h.0 at) refl
    by more false at = ap (λ ys. cond (not (p x)) (x ∷ ys) ys) more

pub length-less : {X : Type 0} (p : X → Bool) (xs : List X) → length (filter p xs) ≤ length xs
length-less p [] = omega arith
length-less p (x ∷ xs) = by (p x) (length-less p xs)
  where
    by : (t : Bool) → length (filter p xs) ≤ length xs → length (cond t (x ∷ filter p xs) (filter p xs)) ≤ length (x ∷ xs)
    by true more = omega (arith, more)
    by false more = omega (arith, more)

pub length-fewer : {X : Type 0} (p : X → Bool) (xs : List X) (x : X) → find p xs ≡ Some x → length (filter (λ y. not (p y)) xs) < length xs
length-fewer p [] x h = absurd cc
length-fewer p (y ∷ ys) x h = by (length-fewer p ys x) (length-less (λ z. not (p z)) ys) (p y) h
  where
    by : (find p ys ≡ Some x → length (filter (λ z. not (p z)) ys) < length ys) → length (filter (λ z. not (p z)) ys) ≤ length ys → (t : Bool) → cond t (Some y) (find p ys) ≡ Some x
        → length (cond (not t) (y ∷ filter (λ z. not (p z)) ys) (filter (λ z. not (p z)) ys)) < length (y ∷ ys)
    by more all true h = omega (arith, all)
    by more all false h = let less : length (filter (λ z. not (p z)) ys) < length ys = more h in omega (arith, less)
