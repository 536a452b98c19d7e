-- Maps whose keys ascend: a key that was removed is there no more, and each change keeps the order.
use Rattle.std.proofs.Common.{◌≡◌, ◌<◌, ℕ, Bool, true, false, cond, eqb, List, [], ◌∷◌, Option, Some, None, IsSome, Ordering, Less, Equal, Greater, nat_cmp, refl, sym, ap, subst, arith}
use Rattle.std.specs.List.{AllByRecursion}
use Rattle.std.specs.List.Sorted.{IsStrictlySortedBy}
use Rattle.std.specs.Map.{keys_of}
use Rattle.std.specs.Ordering.{match_ordering}
use Rattle.std.proofs.lemmas.Bool.{eqb-true}
use Rattle.std.proofs.lemmas.Map.{keys-set_value}
use Rattle.std.proofs.lemmas.Map.Keys.{sorted_head, sorted_tail}
use Rattle.model_text.specs.text.Map.{is_key, lookup, with, and, without}
use Rattle.model_text.specs.map.Ascending.{AreAbove, Ascend}
use Rattle.model_text.proofs.map.Keys.{eqb-same, not_key, nat_cmp-Less, nat_cmp-Equal, nat_cmp-Greater}

-- no key is found among those above it
above-none : {A : Type 0} (es : List (ℕ × A)) (key : ℕ) → AreAbove key (keys_of es) → lookup es key ≡ None
above-none [] key above = refl
above-none (e ∷ es) key above = let other : eqb e.0 key ≡ false = not_key e.0 key (λ is. omega (arith, is, above.0)) in rw other (above-none es key above.1)

here_gone : {A : Type 0} (e : ℕ × A) (es : List (ℕ × A)) (key : ℕ) → AreAbove e.0 (keys_of es) → lookup (without es key) key ≡ None → (b : Bool) → eqb e.0 key ≡ b
    → lookup (cond b es (e ∷ without es key)) key ≡ None
here_gone e es key above more true at =
    let is : e.0 ≡ key = eqb-true e.0 key at in above-none es key (subst (λ (k : ℕ). AreAbove k (keys_of es)) is above)
here_gone e es key above more false at = rw at more

pub without-here : {A : Type 0} (es : List (ℕ × A)) (key : ℕ) → Ascend (keys_of es) → lookup (without es key) key ≡ None
without-here [] key ascend = refl
without-here (e ∷ es) key ascend = here_gone e es key ascend.0 (without-here es key ascend.1) (eqb e.0 key) refl

-- ---- each change keeps the order

above-less : (n m : ℕ) (ns : List ℕ) → n < m → AreAbove m ns → AreAbove n ns
above-less n m [] less above = tt
above-less n m (k ∷ ks) less above = (omega (arith, above.0), above-less n m ks less above.1)

above_and_by : {A : Type 0} (n : ℕ) (e : ℕ × A) (es : List (ℕ × A)) (key : ℕ) (value : A) → n < key → AreAbove n (keys_of (e ∷ es)) → AreAbove n (keys_of (and es key value)) → (o : Ordering)
    → AreAbove n (keys_of (match_ordering o ((key, value) ∷ e ∷ es) ((e.0, value) ∷ es) (e ∷ and es key value)))
above_and_by n e es key value less above more Less = (less, above)
above_and_by n e es key value less above more Equal = above
above_and_by n e es key value less above more Greater = (above.0, more)

above-and : {A : Type 0} (n : ℕ) (es : List (ℕ × A)) (key : ℕ) (value : A) → n < key → AreAbove n (keys_of es) → AreAbove n (keys_of (and es key value))
above-and n [] key value less above = (less, tt)
above-and n (e ∷ es) key value less above = above_and_by n e es key value less above (above-and n es key value less above.1) (nat_cmp key e.0)

ascend_and_by : {A : Type 0} (e : ℕ × A) (es : List (ℕ × A)) (key : ℕ) (value : A) → Ascend (keys_of (e ∷ es)) → Ascend (keys_of (and es key value)) → (o : Ordering) → nat_cmp key e.0 ≡ o
    → Ascend (keys_of (match_ordering o ((key, value) ∷ e ∷ es) ((e.0, value) ∷ es) (e ∷ and es key value)))
ascend_and_by e es key value ascend more Less at =
    let less : key < e.0 = nat_cmp-Less key e.0 at in ((less, above-less key e.0 (keys_of es) less ascend.0), ascend)
ascend_and_by e es key value ascend more Equal at = ascend
ascend_and_by e es key value ascend more Greater at = (above-and e.0 es key value (nat_cmp-Greater key e.0 at) ascend.0, more)

pub ascend-and : {A : Type 0} (es : List (ℕ × A)) (key : ℕ) (value : A) → Ascend (keys_of es) → Ascend (keys_of (and es key value))
ascend-and [] key value ascend = (tt, tt)
ascend-and (e ∷ es) key value ascend = ascend_and_by e es key value ascend (ascend-and es key value ascend.1) (nat_cmp key e.0) refl

pub ascend-with : {A : Type 0} (es : List (ℕ × A)) (key : ℕ) (value : A) → Ascend (keys_of es) → Ascend (keys_of (with es key value))
ascend-with es key value ascend = subst (λ (ks : List ℕ). Ascend ks) (sym (keys-set_value (is_key key) es value)) ascend

above_without_by : {A : Type 0} (n : ℕ) (e : ℕ × A) (es : List (ℕ × A)) (key : ℕ) → AreAbove n (keys_of (e ∷ es)) → AreAbove n (keys_of (without es key)) → (b : Bool)
    → AreAbove n (keys_of (cond b es (e ∷ without es key)))
above_without_by n e es key above more true = above.1
above_without_by n e es key above more false = (above.0, more)

above-without : {A : Type 0} (n : ℕ) (es : List (ℕ × A)) (key : ℕ) → AreAbove n (keys_of es) → AreAbove n (keys_of (without es key))
above-without n [] key above = above
above-without n (e ∷ es) key above = above_without_by n e es key above (above-without n es key above.1) (eqb e.0 key)

ascend_without_by : {A : Type 0} (e : ℕ × A) (es : List (ℕ × A)) (key : ℕ) → Ascend (keys_of (e ∷ es)) → Ascend (keys_of (without es key)) → (b : Bool)
    → Ascend (keys_of (cond b es (e ∷ without es key)))
ascend_without_by e es key ascend more true = ascend.1
ascend_without_by e es key ascend more false = (above-without e.0 es key ascend.0, more)

pub ascend-without : {A : Type 0} (es : List (ℕ × A)) (key : ℕ) → Ascend (keys_of es) → Ascend (keys_of (without es key))
ascend-without [] key ascend = ascend
ascend-without (e ∷ es) key ascend = ascend_without_by e es key ascend (ascend-without es key ascend.1) (eqb e.0 key)

-- ---- std's maps

above-from_sorted : (k : ℕ) (ks : List ℕ) → AllByRecursion (λ y. nat_cmp k y ≡ Less) ks → AreAbove k ks
above-from_sorted k [] less = tt
above-from_sorted k (m ∷ ms) less = (nat_cmp-Less k m less.0, above-from_sorted k ms less.1)

-- the keys of a map of std's ascend
pub ascend-from_sorted : (ks : List ℕ) → IsStrictlySortedBy nat_cmp ks → Ascend ks
ascend-from_sorted [] sorted = tt
ascend-from_sorted (k ∷ ks) sorted = (above-from_sorted k ks (sorted_head nat_cmp k ks sorted), ascend-from_sorted ks (sorted_tail nat_cmp k ks sorted))

not_found : {A : Type 0} (found : Option A) → IsSome found → found ≡ None → ⊥
not_found None some none = cc
not_found (Some x) some none = cc

and_with_by : {A : Type 0} (e : ℕ × A) (es : List (ℕ × A)) (key : ℕ) (value : A) → Ascend (keys_of (e ∷ es)) → IsSome (lookup (e ∷ es) key)
    → (IsSome (lookup es key) → and es key value ≡ with es key value) → (o : Ordering) → nat_cmp key e.0 ≡ o
    → match_ordering o ((key, value) ∷ e ∷ es) ((e.0, value) ∷ es) (e ∷ and es key value) ≡ with (e ∷ es) key value
and_with_by e es key value ascend some more Less at =
    let less : key < e.0 = nat_cmp-Less key e.0 at in
    absurd (not_found (lookup (e ∷ es) key) some (above-none (e ∷ es) key (less, above-less key e.0 (keys_of es) less ascend.0)))
and_with_by e es key value ascend some more Equal at =
    let here : eqb e.0 key ≡ true = subst (λ (k : ℕ). eqb e.0 k ≡ true) (sym (nat_cmp-Equal key e.0 at)) (eqb-same e.0) in rw here refl
and_with_by e es key value ascend some more Greater at =
    let above : e.0 < key = nat_cmp-Greater key e.0 at in
    let other : eqb e.0 key ≡ false = not_key e.0 key (λ is. omega (arith, is)) in
    rw other (ap (λ rest. e ∷ rest) (more (rw other at some)))

-- a key that is there takes the value
pub and-with : {A : Type 0} (es : List (ℕ × A)) (key : ℕ) (value : A) → Ascend (keys_of es) → IsSome (lookup es key) → and es key value ≡ with es key value
and-with {A = A} [] key value ascend some = absurd (let nothing : Option A = None in not_found nothing some refl)
and-with (e ∷ es) key value ascend some = and_with_by e es key value ascend some (and-with es key value ascend.1) (nat_cmp key e.0) refl
