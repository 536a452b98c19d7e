-- The tests of std's maps at a key are those of maps from numbers.
use Rattle.std.proofs.Common.{◌≡◌, ◌<◌, ℕ, false, true, eqb, List, Less, Equal, Greater, nat_cmp, is_eq, inl, inr, sym, ap, ◌∙◌, arith}
use Rattle.std.specs.Map as map
use Rattle.std.specs.Map.{remove_entry, set_value}
use Rattle.std.specs.BTreeMap.{is_at}
use Rattle.std.specs.Cmp.{nat_cmp_is}
use Rattle.std.proofs.lemmas.Bool.{cases_lt}
use Rattle.std.proofs.lemmas.Bool.Decides.{nat_tests}
use Rattle.model_text.specs.text.Map.{is_key, lookup, with, without}

pub eqb-same : (k : ℕ) → eqb k k ≡ true
eqb-same k = grind (arith, nat_tests)

pub not_key : (a b : ℕ) → (a ≡ b → ⊥) → eqb a b ≡ false
not_key a b other = grind (arith, nat_tests)

-- ---- what the order of two keys says

pub nat_cmp-Less : (x y : ℕ) → nat_cmp x y ≡ Less → x < y
nat_cmp-Less x y at = elim (cases_lt x y) [
  | inl lt ↦ lt
  | inr le ↦ elim (cases_lt y x) [
    | inl lt ↦ let greater : Greater ≡ Less = nat_cmp_is x y Greater lt ∙ at in absurd (cc greater)
    | inr ge ↦ let equal : Equal ≡ Less = nat_cmp_is x y Equal (omega arith) ∙ at in absurd (cc equal)
  ]
]

pub nat_cmp-Equal : (x y : ℕ) → nat_cmp x y ≡ Equal → x ≡ y
nat_cmp-Equal x y at = elim (cases_lt x y) [
  | inl lt ↦ let less : Less ≡ Equal = nat_cmp_is x y Less lt ∙ at in absurd (cc less)
  | inr le ↦ elim (cases_lt y x) [
    | inl lt ↦ let greater : Greater ≡ Equal = nat_cmp_is x y Greater lt ∙ at in absurd (cc greater)
    | inr ge ↦ omega arith
  ]
]

pub nat_cmp-Greater : (x y : ℕ) → nat_cmp x y ≡ Greater → y < x
nat_cmp-Greater x y at = elim (cases_lt y x) [
  | inl lt ↦ lt
  | inr le ↦ elim (cases_lt x y) [
    | inl lt ↦ let less : Less ≡ Greater = nat_cmp_is x y Less lt ∙ at in absurd (cc less)
    | inr ge ↦ let equal : Equal ≡ Greater = nat_cmp_is x y Equal (omega arith) ∙ at in absurd (cc equal)
  ]
]

-- ---- std's maps

-- the test of a key is the order's
pub at_key : (k x : ℕ) → is_at (nat_cmp k) x ≡ is_key k x
at_key k x = elim (cases_lt k x) [
  | inl lt ↦ ap is_eq (sym (nat_cmp_is k x Less lt)) ∙ sym (not_key x k (λ e. omega arith))
  | inr le ↦ elim (cases_lt x k) [
    | inl lt ↦ ap is_eq (sym (nat_cmp_is k x Greater lt)) ∙ sym (not_key x k (λ e. omega arith))
    | inr ge ↦
        let same : k ≡ x = omega arith in
        ap is_eq (sym (nat_cmp_is k x Equal same)) ∙ sym (eqb-same k) ∙ ap (λ n. eqb n k) same
  ]
]

pub lookup_at : {A : Type 0} (es : List (ℕ × A)) (k : ℕ) → map.lookup (is_at (nat_cmp k)) es ≡ lookup es k
lookup_at es k = λ i. map.lookup (λ x. at_key k x i) es

pub without_at : {A : Type 0} (es : List (ℕ × A)) (k : ℕ) → remove_entry (is_at (nat_cmp k)) es ≡ without es k
without_at es k = λ i. remove_entry (λ x. at_key k x i) es

pub with-written : {A : Type 0} (old new : List (ℕ × A)) (k : ℕ) (value : A) → new ≡ set_value (is_at (nat_cmp k)) old value → new ≡ with old k value
with-written old new k value e = e ∙ λ i. set_value (λ x. at_key k x i) old value
