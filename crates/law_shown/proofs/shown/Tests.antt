-- What tests say, and what lists keep that others were put into.
use Rattle.std.proofs.Common.{◌≡◌, ℕ, Bool, true, false, cond, List, [], ◌∷◌, Option, Some, None, Ok, Err, ◌⊎◌, inl, inr, refl, sym, ap, ◌∙◌, arith}
use Rattle.std.specs.Prelude.{◌==◌, ◌||◌, ◌&&◌, find, filter, IfOk}
use Rattle.std.specs.List.{list_any}
use Rattle.std.proofs.lemmas.Bool.Decides.{nat_tests}
use Rattle.model_text.specs.text.Outcome.{Outcome, ◌>>=◌, refuse_if, value_or_refuse}

pub either_true : (a b : Bool) → (a || b) ≡ true → (a ≡ true) ⊎ (b ≡ true)
either_true true b h = inl refl
either_true false b h = inr h

pub not_both : (b : Bool) → b ≡ true → b ≡ false → ⊥
not_both true h k = cc
not_both false h k = cc

pub not-true : (b : Bool) → (b ≡ true → ⊥) → b ≡ false
not-true true h = absurd (h refl)
not-true false h = refl

pub not-false : (b : Bool) → (b ≡ false → ⊥) → b ≡ true
not-false true h = refl
not-false false h = absurd (h refl)

pub first_true : (a b : Bool) → a ≡ true → (a || b) ≡ true
first_true true b h = refl
first_true false b h = absurd cc

pub second_true : (a b : Bool) → b ≡ true → (a || b) ≡ true
second_true true b h = refl
second_true false b h = h

pub first_false : (a b : Bool) → (a || b) ≡ false → a ≡ false
first_false true b h = absurd cc
first_false false b h = refl

pub second_false : (a b : Bool) → (a || b) ≡ false → b ≡ false
second_false true b h = absurd cc
second_false false b h = h

pub neither : (a b : Bool) → a ≡ false → b ≡ false → (a || b) ≡ false
neither true b h k = absurd cc
neither false b h k = k

pub both : (a b : Bool) → a ≡ true → b ≡ true → (a && b) ≡ true
both true b h k = k
both false b h k = absurd cc

pub split : (a b : Bool) → (a && b) ≡ true → (a ≡ true) × (b ≡ true)
split true b h = (refl, h)
split false b h = absurd cc

pub same : (n : ℕ) → (n == n) ≡ true
same n = grind (arith, nat_tests)

pub turned : (m n : ℕ) → (m == n) ≡ (n == m)
turned m n = grind (arith, nat_tests)

-- ---- lists

pub find-any : {X : Type 0} (p q : X → Bool) (xs : List X) (x : X) → find p xs ≡ Some x → q x ≡ true → list_any q xs ≡ true
find-any p q [] x h k = absurd cc
find-any {X = X} p q (y ∷ ys) x h k = by (λ e. find-any p q ys x e k) (p y) h
  where
    by : (find p ys ≡ Some x → list_any q ys ≡ true) → (b : Bool) → cond b (Some y) (find p ys) ≡ Some x → list_any q (y ∷ ys) ≡ true
    by more true e = let same : y ≡ x = cc in first_true (q y) _ (ap q same ∙ k)
    by more false e = second_true (q y) _ (more e)

pub find-passes : {X : Type 0} (p : X → Bool) (xs : List X) (x : X) → find p xs ≡ Some x → p x ≡ true
find-passes p [] x e = absurd cc
find-passes p (y ∷ ys) x e = by (find-passes p ys x) (p y) refl e
  where
    by : (find p ys ≡ Some x → p x ≡ true) → (b : Bool) → p y ≡ b → cond b (Some y) (find p ys) ≡ Some x → p x ≡ true
    by more true is e = let same : y ≡ x = cc in ap p (sym same) ∙ is
    by more false is e = more e

pub find-filter : {X : Type 0} (p q : X → Bool) (xs : List X) → ((x : X) → p x ≡ true → q x ≡ true) → find p (filter q xs) ≡ find p xs
find-filter p q [] h = refl
find-filter p q (x ∷ xs) h = by (find-filter p q xs h) (q x) refl (p x) refl
  where
    by : find p (filter q xs) ≡ find p xs → (a : Bool) → q x ≡ a → (b : Bool) → p x ≡ b → find p (cond a (x ∷ filter q xs) (filter q xs)) ≡ cond b (Some x) (find p xs)
    by more true passes b is = λ i. cond (is i) (Some x) (more i)
    by more false fails true is = absurd (let one = h x is in cc)
    by more false fails false is = more

pub find-none : {X : Type 0} (p q : X → Bool) (xs : List X) → ((x : X) → p x ≡ true → q x ≡ false) → find p (filter q xs) ≡ None
find-none p q [] h = refl
find-none p q (x ∷ xs) h = by (find-none p q xs h) (q x) refl (p x) refl
  where
    by : find p (filter q xs) ≡ None → (a : Bool) → q x ≡ a → (b : Bool) → p x ≡ b → find p (cond a (x ∷ filter q xs) (filter q xs)) ≡ None
    by more true passes true is = absurd (let none = h x is in cc)
    by more true passes false is = ap (λ b. cond b (Some x) (find p (filter q xs))) is ∙ more
    by more false fails b is = more

-- ---- what was not refused

pub same_Ok : {A : Type 0} (x y : A) → ◌≡◌ {A = Outcome A} (Ok x) (Ok y) → x ≡ y
same_Ok x y e = cc

pub same_Some : {A : Type 0} (x y : A) → ◌≡◌ {A = Option A} (Some x) (Some y) → x ≡ y
same_Some x y e = cc

pub refuse_ok : {A : Type 0} (b : Bool) (n : ℕ) (next : Unit {0} → Outcome A) (x : A) → (refuse_if b n >>= next) ≡ Ok x → (b ≡ false) × (next tt ≡ Ok x)
refuse_ok true n next x e = absurd cc
refuse_ok false n next x e = (refl, e)

pub value_ok : {A B : Type 0} (o : Option A) (n : ℕ) (next : A → Outcome B) (x : B) → (value_or_refuse o n >>= next) ≡ Ok x → (a : A) × (o ≡ Some a) × (next a ≡ Ok x)
value_ok (Some a) n next x e = (a, refl, e)
value_ok None n next x e = absurd cc

pub then_ok : {A B : Type 0} (o : Outcome A) (next : A → Outcome B) (x : B) → (o >>= next) ≡ Ok x → (a : A) × (o ≡ Ok a) × (next a ≡ Ok x)
then_ok (Ok a) next x e = (a, refl, e)
then_ok (Err n) next x e = absurd cc

-- what comes behind steps that may be refused
pub after_step : {A B : Type 0} (P : B → Type 0) (o : Outcome A) (next : A → Outcome B) → ((x : A) → o ≡ Ok x → IfOk (next x) P) → IfOk (o >>= next) P
after_step P (Ok x) next h = h x refl
after_step P (Err n) next h = tt

-- and behind one of which more is known
pub after_if : {A B : Type 0} (P : B → Type 0) (Q : A → Type 0) (o : Outcome A) (next : A → Outcome B) → IfOk o Q → ((x : A) → Q x → IfOk (next x) P) → IfOk (o >>= next) P
after_if P Q (Ok x) next known further = further x known
after_if P Q (Err n) next known further = tt
