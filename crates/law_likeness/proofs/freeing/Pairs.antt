-- The ids of one connection in two books, one by one.
use Rattle.std.proofs.Common.{◌≡◌, ◌&&◌, ℕ, Bool, true, false, List, [], ◌∷◌, Option, Some, None, refl, sym, ap, subst, ◌∙◌, arith, eq-eqb}
use Rattle.std.specs.Prelude.{◌==◌, All, filter, find, get_or, nat_lt, if◌then◌else◌}
use Rattle.std.specs.List.{AllZip}
use Rattle.std.proofs.lemmas.Bool.{eqb-true}
use Rattle.std.proofs.lemmas.Bool.Decides.{nat_tests}
use Rattle.std.proofs.lemmas.List.Elements.{All-filter, All-head, All-tail}
use Rattle.model_draw_parts.specs.images.Book.{comes_before}
use Rattle.law_likeness.specs.agreement.Agreement.{SameOption}
use Rattle.law_shown.proofs.shown.Tests.{both}
use Rattle.law_likeness.specs.making.Standing.{Rise}

lt_apart : (a b : ℕ) → nat_lt a b ≡ true → (b == a) ≡ false
lt_apart a b less = grind (arith, nat_tests)

lt_then : (a b c : ℕ) → nat_lt a b ≡ true → nat_lt b c ≡ true → nat_lt a c ≡ true
lt_then a b c less more = grind (arith, nat_tests)

lt_none : (a b : ℕ) → nat_lt a b ≡ false → nat_lt b a ≡ false → a ≡ b
lt_none a b one other = eqb-true a b (grind (arith, nat_tests))

before_less : (k a b : ℕ) → comes_before k a k b ≡ true → nat_lt a b ≡ true
before_less k a b before = grind (arith, nat_tests)

pub none_found : {X : Type 0} (p : X → Bool) (xs : List X) → All (λ x. p x ≡ false) xs → find p xs ≡ None
none_found p [] all = refl
none_found p (x ∷ xs) all = rw (All-head (λ x. p x ≡ false) x xs all) (none_found p xs (All-tail (λ x. p x ≡ false) x xs all))

second_fails : (a b : Bool) → b ≡ false → (a && b) ≡ false
second_fails true b fails = fails
second_fails false b fails = refl

-- ids that were found and those of the other book, both of these connections
pub record ArePaired {X : Type 0} (client id : X → ℕ) (Q : X → X → Type 0) (k h : ℕ) (x y : X) : Type 0 where
  pub left : client x ≡ k
  pub right : client y ≡ h
  pub ids : id x ≡ id y
  pub same : Q x y

module _ {X : Type 0} (client id : X → ℕ) where
  abbrev key : (k m : ℕ) → X → Bool
  key k m x = (client x == k) && (id x == m)

  -- the ids of one connection
  abbrev OfOne : (k : ℕ) → List X → Type 0
  OfOne k xs = All (λ x. client x ≡ k) xs

  abbrev Climb : List X → Type 0
  Climb [] = Unit {0}
  Climb (x ∷ xs) = All (λ y. nat_lt (id x) (id y) ≡ true) xs × Climb xs

  pub rise_filter : (q : X → Bool) (xs : List X) → Rise client id xs → Rise client id (filter q xs)
  rise_filter q [] rise = tt
  rise_filter q (x ∷ xs) rise = by (q x) (rise_filter q xs rise.1)
    where
      by : (b : Bool) → Rise client id (filter q xs) → Rise client id (if b then x ∷ filter q xs else filter q xs)
      by true more = (All-filter q (λ y. comes_before (client x) (id x) (client y) (id y) ≡ true) xs rise.0, more)
      by false more = more

  climb : (k : ℕ) (xs : List X) → OfOne k xs → Rise client id xs → Climb xs
  climb k [] own rise = tt
  climb k (x ∷ xs) own rise =
      let first : client x ≡ k = All-head (λ x. client x ≡ k) x xs own in
      let rest = All-tail (λ x. client x ≡ k) x xs own in (
        λ i d lt.
            let y : X = get_or xs i d in
            before_less k (id x) (id y)
            (ap (λ (z : ℕ). comes_before z (id x) k (id y)) (sym first) ∙ ap (λ (z : ℕ). comes_before (client x) (id x) z (id y)) (sym (rest i d lt)) ∙ rise.0 i d lt),
        climb k xs rest rise.1,
      )

  none_below : (k m : ℕ) (xs : List X) → All (λ y. nat_lt m (id y) ≡ true) xs → find (key k m) xs ≡ None
  none_below k m xs above = none_found (key k m) xs (λ i d lt. second_fails (client (get_or xs i d) == k) (id (get_or xs i d) == m) (lt_apart m (id (get_or xs i d)) (above i d lt)))

  -- the first one is found, and passed where another is looked for
  found_first : (k : ℕ) (x : X) (xs : List X) → client x ≡ k → find (key k (id x)) (x ∷ xs) ≡ Some x
  found_first k x xs own = rw (both (client x == k) (id x == id x) (eq-eqb (client x) k own) (eq-eqb (id x) (id x) refl)) refl

  passed : (k m : ℕ) (x : X) (xs : List X) → (id x == m) ≡ false → find (key k m) (x ∷ xs) ≡ find (key k m) xs
  passed k m x xs apart = rw (second_fails (client x == k) (id x == m) apart) refl

  module _ (Q : X → X → Type 0) (k h : ℕ) where
    abbrev Found : List X → List X → Type 0
    Found xs ys = (m : ℕ) → SameOption Q (find (key k m) xs) (find (key h m) ys)

    one_none : {P : Type 0} (o q : Option X) (x : X) → SameOption Q o q → o ≡ Some x → q ≡ None → P
    one_none (Some x) (Some y) z both some none = absurd cc
    one_none None None z both some none = absurd cc
    one_none (Some x) None z both some none = absurd both
    one_none None (Some y) z both some none = absurd both

    none_one : {P : Type 0} (o q : Option X) (y : X) → SameOption Q o q → o ≡ None → q ≡ Some y → P
    none_one (Some x) (Some y) z both none some = absurd cc
    none_one None None z both none some = absurd cc
    none_one (Some x) None z both none some = absurd both
    none_one None (Some y) z both none some = absurd both

    some_both : (o q : Option X) (x y : X) → SameOption Q o q → o ≡ Some x → q ≡ Some y → Q x y
    some_both o q x y both left right = subst (λ (r : Option X). SameOption Q (Some x) r) right (subst (λ (r : Option X). SameOption Q r q) left both)

    rest_found : (x y : X) (xs ys : List X) → id x ≡ id y → All (λ z. nat_lt (id x) (id z) ≡ true) xs → All (λ z. nat_lt (id y) (id z) ≡ true) ys → Found (x ∷ xs) (y ∷ ys) → Found xs ys
    rest_found x y xs ys same left right found m = by (id x == m) refl
      where
        by : (is : Bool) → (id x == m) ≡ is → SameOption Q (find (key k m) xs) (find (key h m) ys)
        by true is =
            let at : id x ≡ m = eqb-true (id x) m is in
            rw (
              none_below k m xs (subst (λ (n : ℕ). All (λ z. nat_lt n (id z) ≡ true) xs) at left),
              none_below h m ys (subst (λ (n : ℕ). All (λ z. nat_lt n (id z) ≡ true) ys) (sym same ∙ at) right),
            )
            tt
        by false is =
            subst (λ (o : Option X). SameOption Q o (find (key h m) ys)) (passed k m x xs is)
            (subst (λ (o : Option X). SameOption Q (find (key k m) (x ∷ xs)) o) (passed h m y ys (ap (λ (n : ℕ). n == m) (sym same) ∙ is)) (found m))

    -- one that is lower than all of the others is not among them
    lower : (m : ℕ) (y : X) (ys : List X) → nat_lt m (id y) ≡ true → All (λ z. nat_lt (id y) (id z) ≡ true) ys → (l : ℕ) → find (key l m) (y ∷ ys) ≡ None
    lower m y ys less above l = passed l m y ys (lt_apart m (id y) less) ∙ none_below l m ys (λ i d lt. lt_then m (id y) (id (get_or ys i d)) less (above i d lt))

    pairs_by : (xs ys : List X) → OfOne k xs → OfOne h ys → Climb xs → Climb ys → Found xs ys → AllZip (ArePaired client id Q k h) xs ys
    pairs_by [] [] own other left right found = tt
    pairs_by [] (y ∷ ys) own other left right found =
        none_one (find (key k (id y)) []) (find (key h (id y)) (y ∷ ys)) y (found (id y)) refl (found_first h y ys (All-head (λ z. client z ≡ h) y ys other))
    pairs_by (x ∷ xs) [] own other left right found =
        one_none (find (key k (id x)) (x ∷ xs)) (find (key h (id x)) []) x (found (id x)) (found_first k x xs (All-head (λ z. client z ≡ k) x xs own)) refl
    pairs_by (x ∷ xs) (y ∷ ys) own other left right found = by (nat_lt (id x) (id y)) refl (nat_lt (id y) (id x)) refl (λ more. pairs_by xs ys (All-tail (λ z. client z ≡ k) x xs own) (All-tail (λ z. client z ≡ h) y ys other) left.1 right.1 more)
      where
        first : find (key k (id x)) (x ∷ xs) ≡ Some x
        first = found_first k x xs (All-head (λ z. client z ≡ k) x xs own)

        second : find (key h (id y)) (y ∷ ys) ≡ Some y
        second = found_first h y ys (All-head (λ z. client z ≡ h) y ys other)

        by : (b : Bool) → nat_lt (id x) (id y) ≡ b → (d : Bool) → nat_lt (id y) (id x) ≡ d → (Found xs ys → AllZip (ArePaired client id Q k h) xs ys) → AllZip (ArePaired client id Q k h) (x ∷ xs) (y ∷ ys)
        by true less d any more = one_none _ _ x (found (id x)) first (lower (id x) y ys less right.0 h)
        by false any true less more = none_one _ _ y (found (id y)) (lower (id y) x xs less left.0 k) second
        by false any false other_way more =
            let same : id x ≡ id y = lt_none (id x) (id y) any other_way in (
              record {
                left = All-head (λ z. client z ≡ k) x xs own;
                right = All-head (λ z. client z ≡ h) y ys other;
                ids = same;
                same = some_both _ _ x y (found (id x)) first (ap (λ (m : ℕ). find (key h m) (y ∷ ys)) same ∙ second);
              },
              more (rest_found x y xs ys same left.0 right.0 found),
            )

    pub pairs : (xs ys : List X) → OfOne k xs → OfOne h ys → Rise client id xs → Rise client id ys → Found xs ys → AllZip (ArePaired client id Q k h) xs ys
    pairs xs ys own other left right found = pairs_by xs ys own other (climb k xs own left) (climb h ys other right) found
