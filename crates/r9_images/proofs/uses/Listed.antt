-- What stands under numbers, in their order, where one comes at the end or one goes.
use Rattle.std.proofs.Common.{◌≡◌, ℕ, zero, suc, ◌+◌, ◌<◌, Bool, true, false, cond, List, [], ◌∷◌, ◌++◌, length, Option, Some, None, refl, sym, ap, ◌∙◌, arith, length-append}
use Rattle.std.specs.Prelude.{find, filter, nat_lt, IfSome}
use Rattle.std.specs.Option.{option_map_or, option_or}
use Rattle.std.specs.List.{count_by}
use Rattle.std.proofs.lemmas.Bool.Decides.{nat_tests}
use Rattle.std.proofs.lemmas.List.{append_assoc}
use Rattle.std.proofs.lemmas.List.Elements.{filter-append}
use Rattle.std.proofs.lemmas.List.Folds.{find-append}
use Rattle.std.proofs.lemmas.List.Sums.{sum_by-cons, sum_by-append}
use Rattle.r9_ids.proofs.sorted.Ascending.{find-hit, find-miss}
use Rattle.r9_images.specs.uses.Windows.{listed}

abbrev one_of : {X : Type 0} → Option X → List X
one_of o = option_map_or (λ x. x ∷ []) o []

listed-same : {X : Type 0} (f g : ℕ → Option X) (n : ℕ) → ((k : ℕ) → k < n → f k ≡ g k) → listed f n ≡ listed g n
listed-same f g zero h = refl
listed-same f g (suc n) h =
    let first = listed-same f g n (λ k l. h k (omega (arith, l))) in
    let last = h n (omega arith) in
    λ i. first i ++ one_of (last i)

-- one more at the end
pub listed-end : {X : Type 0} (f g : ℕ → Option X) (n : ℕ) (x : X) → ((k : ℕ) → k < n → g k ≡ f k) → g n ≡ Some x → listed g (suc n) ≡ listed f n ++ x ∷ []
listed-end f g n x h is = let first = listed-same g f n h in λ i. first i ++ one_of (is i)

-- none passes a test
pub none-listed : {X : Type 0} (p : X → Bool) (f : ℕ → Option X) (n : ℕ) → ((k : ℕ) → k < n → IfSome (f k) (λ x. p x ≡ false)) → find p (listed f n) ≡ None
none-listed p f zero h = refl
none-listed p f (suc n) h = by (f n) (h n (omega arith)) (none-listed p f n (λ k l. h k (omega (arith, l))))
  where
    by : (o : Option _) → IfSome o (λ x. p x ≡ false) → find p (listed f n) ≡ None → find p (listed f n ++ one_of o) ≡ None
    by None miss none = find-append p (listed f n) [] ∙ ap (λ o. option_or o None) none
    by (Some x) miss none = find-append p (listed f n) (x ∷ []) ∙ ap (λ o. option_or o (find p (x ∷ []))) none ∙ find-miss p x [] miss

less-is : (s n : ℕ) → nat_lt s n ≡ true → s < n
less-is s n h = grind (arith, nat_tests)

last-is : (s n : ℕ) → s < suc n → nat_lt s n ≡ false → s ≡ n
last-is s n l h = grind (arith, nat_tests)

-- What is under one number goes, and all others stay.
module _ {X : Type 0} (f g : ℕ → Option X) (s : ℕ) (x : X) (is : f s ≡ Some x) (gone : g s ≡ None) (same : (k : ℕ) → (k ≡ s → ⊥) → g k ≡ f k) where
  split : (n : ℕ) → s < n → (ys : List X) × ((listed f n ≡ listed f s ++ x ∷ ys) × (listed g n ≡ listed f s ++ ys))
  split zero l = absurd (omega (arith, l))
  split (suc n) l = by (split n) (nat_lt s n) refl
    where
      by : (s < n → (ys : List X) × ((listed f n ≡ listed f s ++ x ∷ ys) × (listed g n ≡ listed f s ++ ys))) → (t : Bool) → nat_lt s n ≡ t
          → (ys : List X) × ((listed f (suc n) ≡ listed f s ++ x ∷ ys) × (listed g (suc n) ≡ listed f s ++ ys))
      by more true at =
          let parts = more (less-is s n at) in
          let stays : g n ≡ f n = same n (λ e. let less = less-is s n at in omega (arith, e, less)) in (
            parts.0 ++ one_of (f n),
            (
              ap (λ zs. zs ++ one_of (f n)) parts.1.0 ∙ append_assoc (listed f s) (x ∷ parts.0) (one_of (f n)),
              (λ i. parts.1.1 i ++ one_of (stays i)) ∙ append_assoc (listed f s) parts.0 (one_of (f n)),
            ),
          )
      by more false at =
          let here : n ≡ s = sym (last-is s n l at) in
          let last : f n ≡ Some x = ap f here ∙ is in
          let none : g n ≡ None = ap g here ∙ gone in
          let before : listed g n ≡ listed f s = listed-same g f n (λ k less. same k (λ e. omega (arith, e, less, here))) ∙ ap (listed f) here in
          let start : listed f n ≡ listed f s = ap (listed f) here in
          ([], ((λ i. start i ++ one_of (last i)), (λ i. before i ++ one_of (none i))))

  pub found-taken : (p : X → Bool) (n : ℕ) → s < n → ((k : ℕ) → k < s → IfSome (f k) (λ y. p y ≡ false)) → p x ≡ true → find p (listed f n) ≡ Some x
  found-taken p n l before hit =
      let parts = split n l in
      ap (find p) parts.1.0 ∙ find-append p (listed f s) (x ∷ parts.0) ∙ ap (λ o. option_or o (find p (x ∷ parts.0))) (none-listed p f s before) ∙ find-hit p x parts.0 hit

  pub others-taken : (q : X → Bool) (n : ℕ) → s < n → q x ≡ false → filter q (listed g n) ≡ filter q (listed f n)
  others-taken q n l miss =
      let parts = split n l in
      let skip : filter q (x ∷ parts.0) ≡ filter q parts.0 = rw miss refl in
      ap (filter q) parts.1.1 ∙ filter-append q (listed f s) parts.0
      ∙ sym (ap (filter q) parts.1.0 ∙ filter-append q (listed f s) (x ∷ parts.0) ∙ ap (λ zs. filter q (listed f s) ++ zs) skip)

  pub counted-taken : (q : X → Bool) (n : ℕ) → s < n → count_by q (listed f n) ≡ cond (q x) 1 0 + count_by q (listed g n)
  counted-taken q n l =
      let parts = split n l in
      let weight : X → ℕ = λ y. cond (q y) 1 0 in
      let whole = ap (count_by q) parts.1.0 in
      let rest = ap (count_by q) parts.1.1 in
      let both = sum_by-append weight (listed f s) (x ∷ parts.0) in
      let one = sum_by-cons weight x parts.0 in
      let others = sum_by-append weight (listed f s) parts.0 in
      omega (arith, whole, rest, both, one, others)

  pub fewer-taken : (n : ℕ) → s < n → length (listed f n) ≡ length (listed g n) + 1
  fewer-taken n l =
      let parts = split n l in
      let whole = ap length parts.1.0 in
      let rest = ap length parts.1.1 in
      let both = length-append (listed f s) (x ∷ parts.0) in
      let others = length-append (listed f s) parts.0 in
      omega (arith, whole, rest, both, others)
