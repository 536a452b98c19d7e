-- A change of one key of a map: what it has there then, and that the others stay.
use Rattle.std.specs.Prelude.{IsSome}
use Rattle.std.proofs.Common.{◌≡◌, ◌<◌, ℕ, Bool, true, false, cond, eqb, List, [], ◌∷◌, Option, Some, None, Ordering, Less, Equal, Greater, nat_cmp, refl, sym, ap, ◌∙◌, arith}
use Rattle.std.specs.Ordering.{match_ordering}
use Rattle.std.proofs.lemmas.Bool.{eqb-true}
use Rattle.model_text.specs.text.Map.{lookup, with, and, without}
use Rattle.model_text.proofs.map.Keys.{eqb-same, not_key, nat_cmp-Equal, nat_cmp-Greater}

-- ---- the other keys

-- an entry in front of two maps in which another key has the same value
same_more : {A : Type 0} (b : Bool) (x : A) (more : Option A) (others : Option A) → more ≡ others → cond b (Some x) more ≡ cond b (Some x) others
same_more b x more others e = ap (λ m. cond b (Some x) m) e

with_by : {A : Type 0} (e : ℕ × A) (es : List (ℕ × A)) (key other : ℕ) (value : A) → (other ≡ key → ⊥) → (b : Bool) → eqb e.0 key ≡ b → lookup (with es key value) other ≡ lookup es other
    → lookup (cond b ((e.0, value) ∷ es) (e ∷ with es key value)) other ≡ lookup (e ∷ es) other
with_by e es key other value apart true at more =
    let none : eqb e.0 other ≡ false = not_key e.0 other (λ is. apart (sym is ∙ eqb-true e.0 key at)) in rw none refl
with_by e es key other value apart false at more = same_more (eqb e.0 other) e.1 _ _ more

pub with-others : {A : Type 0} (es : List (ℕ × A)) (key other : ℕ) (value : A) → (other ≡ key → ⊥) → lookup (with es key value) other ≡ lookup es other
with-others [] key other value apart = refl
with-others (e ∷ es) key other value apart = with_by e es key other value apart (eqb e.0 key) refl (with-others es key other value apart)

and_by : {A : Type 0} (e : ℕ × A) (es : List (ℕ × A)) (key other : ℕ) (value : A) → (other ≡ key → ⊥) → (o : Ordering) → nat_cmp key e.0 ≡ o → lookup (and es key value) other ≡ lookup es other
    → lookup (match_ordering o ((key, value) ∷ e ∷ es) ((e.0, value) ∷ es) (e ∷ and es key value)) other ≡ lookup (e ∷ es) other
and_by e es key other value apart Less at more = let none : eqb key other ≡ false = not_key key other (λ is. apart (sym is)) in rw none refl
and_by e es key other value apart Equal at more =
    let same : key ≡ e.0 = nat_cmp-Equal key e.0 at in
    let none : eqb e.0 other ≡ false = not_key e.0 other (λ is. apart (sym is ∙ sym same)) in rw none refl
and_by e es key other value apart Greater at more = same_more (eqb e.0 other) e.1 _ _ more

pub and-others : {A : Type 0} (es : List (ℕ × A)) (key other : ℕ) (value : A) → (other ≡ key → ⊥) → lookup (and es key value) other ≡ lookup es other
and-others [] key other value apart = let none : eqb key other ≡ false = not_key key other (λ is. apart (sym is)) in rw none refl
and-others (e ∷ es) key other value apart = and_by e es key other value apart (nat_cmp key e.0) refl (and-others es key other value apart)

without_by : {A : Type 0} (e : ℕ × A) (es : List (ℕ × A)) (key other : ℕ) → (other ≡ key → ⊥) → (b : Bool) → eqb e.0 key ≡ b → lookup (without es key) other ≡ lookup es other
    → lookup (cond b es (e ∷ without es key)) other ≡ lookup (e ∷ es) other
without_by e es key other apart true at more =
    let none : eqb e.0 other ≡ false = not_key e.0 other (λ is. apart (sym is ∙ eqb-true e.0 key at)) in rw none refl
without_by e es key other apart false at more = same_more (eqb e.0 other) e.1 _ _ more

pub without-others : {A : Type 0} (es : List (ℕ × A)) (key other : ℕ) → (other ≡ key → ⊥) → lookup (without es key) other ≡ lookup es other
without-others [] key other apart = refl
without-others (e ∷ es) key other apart = without_by e es key other apart (eqb e.0 key) refl (without-others es key other apart)

-- a key with a value is another than one without
pub apart : {A : Type 0} (es : List (ℕ × A)) (key other : ℕ) → IsSome (lookup es key) → lookup es other ≡ None → other ≡ key → ⊥
apart {A = A} es key other some none same = by (lookup es key) some (ap (λ k. lookup es k) (sym same) ∙ none)
  where
    by : (o : Option A) → IsSome o → o ≡ None → ⊥
    by None h e = cc
    by (Some x) h e = cc

-- ---- the key

some_value : {A : Type 0} (x y : A) → Some x ≡ Some y → x ≡ y
some_value x y e = cc

same_by : {A : Type 0} (e : ℕ × A) (es : List (ℕ × A)) (key : ℕ) (value : A) (b : Bool) → cond b (Some e.1) (lookup es key) ≡ Some value → (lookup es key ≡ Some value → with es key value ≡ es)
    → cond b ((e.0, value) ∷ es) (e ∷ with es key value) ≡ e ∷ es
same_by e es key value true at more = ap (λ v. (e.0, v) ∷ es) (sym (some_value e.1 value at))
same_by e es key value false at more = ap (λ rest. e ∷ rest) (more at)

-- the same value of a key changes nothing
pub with-same : {A : Type 0} (es : List (ℕ × A)) (key : ℕ) (value : A) → lookup es key ≡ Some value → with es key value ≡ es
with-same [] key value at = refl
with-same (e ∷ es) key value at = same_by e es key value (eqb e.0 key) at (with-same es key value)

here_by : {A : Type 0} (e : ℕ × A) (es : List (ℕ × A)) (key : ℕ) (value : A) → (o : Ordering) → nat_cmp key e.0 ≡ o → lookup (and es key value) key ≡ Some value
    → lookup (match_ordering o ((key, value) ∷ e ∷ es) ((e.0, value) ∷ es) (e ∷ and es key value)) key ≡ Some value
here_by e es key value Less at more = rw (eqb-same key) refl
here_by e es key value Equal at more = rw (← nat_cmp-Equal key e.0 at) (rw (eqb-same key) refl)
here_by e es key value Greater at more =
    let above : e.0 < key = nat_cmp-Greater key e.0 at in
    let other : eqb e.0 key ≡ false = not_key e.0 key (λ is. omega (arith, is)) in rw other more

pub and-here : {A : Type 0} (es : List (ℕ × A)) (key : ℕ) (value : A) → lookup (and es key value) key ≡ Some value
and-here [] key value = rw (eqb-same key) refl
and-here (e ∷ es) key value = here_by e es key value (nat_cmp key e.0) refl (and-here es key value)

with_here_by : {A : Type 0} (e : ℕ × A) (es : List (ℕ × A)) (key : ℕ) (old value : A) (b : Bool) → eqb e.0 key ≡ b → cond b (Some e.1) (lookup es key) ≡ Some old
    → (lookup es key ≡ Some old → lookup (with es key value) key ≡ Some value) → lookup (cond b ((e.0, value) ∷ es) (e ∷ with es key value)) key ≡ Some value
with_here_by e es key old value true at found more = rw at refl
with_here_by e es key old value false at found more = rw at (more found)

pub with-here : {A : Type 0} (es : List (ℕ × A)) (key : ℕ) (old value : A) → lookup es key ≡ Some old → lookup (with es key value) key ≡ Some value
with-here [] key old value found = cc found
with-here (e ∷ es) key old value found = with_here_by e es key old value (eqb e.0 key) refl found (λ more. with-here es key old value more)
