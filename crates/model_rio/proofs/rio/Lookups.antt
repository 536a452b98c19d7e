-- What a look-up finds in a list that was changed.
use Rattle.std.proofs.Common.{ap, not, ◌≡◌, ◌≢◌, ◌∙◌, ℕ, suc, ◌+◌, ◌≤◌, ◌==◌, Bool, true, false, cond, List, [], ◌∷◌, map, length, filter, find, Option, Some, None, option_map, All, AllPairs, IsSomeAnd, refl, sym, subst, arith, eq-eqb, ne_eqb}
use Rattle.std.proofs.lemmas.Bool.{cond_both, cond-true, cond-false}
use Rattle.std.proofs.lemmas.List.Elements.{All-cons, All-head, All-tail, All-nil, All-weaker, All-map}
use Rattle.std.proofs.lemmas.List.Kept.{AllPairs-cons}

pub find-all : {X : Type 0} (P : X → Type 0) (p : X → Bool) (xs : List X) (x : X) → All P xs → find p xs ≡ Some x → P x
find-all P p [] x all e = absurd cc
find-all P p (y ∷ ys) x all e = here (p y) (find-all P p ys x (All-tail P y ys all)) e
  where
    here : (b : Bool) → (find p ys ≡ Some x → P x) → cond b (Some y) (find p ys) ≡ Some x → P x
    here true later e = let same : y ≡ x = cc in subst P same (All-head P y ys all)
    here false later e = later e

pub find-passes : {X : Type 0} (p : X → Bool) (xs : List X) (x : X) → find p xs ≡ Some x → p x ≡ true
find-passes p [] x e = absurd cc
find-passes p (y ∷ ys) x e = here (p y) refl (find-passes p ys x) e
  where
    here : (b : Bool) → p y ≡ b → (find p ys ≡ Some x → p x ≡ true) → cond b (Some y) (find p ys) ≡ Some x → p x ≡ true
    here true is later e = let same : y ≡ x = cc in subst (λ z. p z ≡ true) same is
    here false is later e = later e

pub find-map : {X : Type 0} (p : X → Bool) (f : X → X) → ((x : X) → p (f x) ≡ p x) → (xs : List X) → find p (map f xs) ≡ option_map f (find p xs)
find-map p f same [] = refl
find-map p f same (x ∷ xs) = rw (same x) (here (p x) (find-map p f same xs))
  where
    here : (b : Bool) → find p (map f xs) ≡ option_map f (find p xs) → cond b (Some (f x)) (find p (map f xs)) ≡ option_map f (cond b (Some x) (find p xs))
    here true later = refl
    here false later = later

-- a filter that keeps what a test passes
pub find-filter : {X : Type 0} (p q : X → Bool) → ((x : X) → p x ≡ true → q x ≡ true) → (xs : List X) → find p (filter q xs) ≡ find p xs
find-filter p q keeps [] = refl
find-filter p q keeps (x ∷ xs) = here (p x) (q x) refl (keeps x) (find-filter p q keeps xs)
  where
    here : (b c : Bool) → p x ≡ b → (b ≡ true → c ≡ true) → find p (filter q xs) ≡ find p xs → find p (cond c (x ∷ filter q xs) (filter q xs)) ≡ cond b (Some x) (find p xs)
    here true true is kept later = rw is refl
    here true false is kept later = absurd (let e : false ≡ true = kept refl in cc)
    here false true is kept later = rw is later
    here false false is kept later = later

-- a filter that keeps nothing that a test passes
pub find-filter_out : {X : Type 0} (p q : X → Bool) → ((x : X) → p x ≡ true → q x ≡ false) → (xs : List X) → find p (filter q xs) ≡ None
find-filter_out p q loses [] = refl
find-filter_out p q loses (x ∷ xs) = here (p x) (q x) refl (loses x) (find-filter_out p q loses xs)
  where
    here : (b c : Bool) → p x ≡ b → (b ≡ true → c ≡ false) → find p (filter q xs) ≡ None → find p (cond c (x ∷ filter q xs) (filter q xs)) ≡ None
    here true true is lost later = absurd (let e : true ≡ false = lost refl in cc)
    here true false is lost later = later
    here false true is lost later = rw is later
    here false false is lost later = later

pub length-filter_le : {X : Type 0} (q : X → Bool) (xs : List X) → length (filter q xs) ≤ length xs
length-filter_le q [] = omega arith
length-filter_le q (x ∷ xs) = let later : length (filter q xs) ≤ length xs = length-filter_le q xs in cond_both (q x) (x ∷ filter q xs) (filter q xs) (λ ys. length ys ≤ suc (length xs)) (λ e. omega arith) (λ e. omega arith)

-- a filter that loses what a test finds
pub length-filter_out : {X : Type 0} (p q : X → Bool) → ((x : X) → p x ≡ true → q x ≡ false) → (xs : List X) (x : X) → find p xs ≡ Some x → length (filter q xs) + 1 ≤ length xs
length-filter_out p q loses [] x e = absurd cc
length-filter_out p q loses (y ∷ ys) x e = here (p y) refl (length-filter_out p q loses ys x) e
  where
    here : (b : Bool) → p y ≡ b → (find p ys ≡ Some x → length (filter q ys) + 1 ≤ length ys) → cond b (Some y) (find p ys) ≡ Some x → length (cond (q y) (y ∷ filter q ys) (filter q ys)) + 1 ≤ suc (length ys)
    here true is later e = rw (loses y is) (omega (arith, length-filter_le q ys))
    here false is later e = let less = later e in cond_both (q y) (y ∷ filter q ys) (filter q ys) (λ zs. length zs + 1 ≤ suc (length ys)) (λ _. omega arith) (λ _. omega arith)

-- what holds of an element that may have changed
pub All-changed : {X : Type 0} (P : X → Type 0) (f : X → X) → ((x : X) → P x → P (f x)) → (xs : List X) → All P xs → All P (map f xs)
All-changed P f keeps [] all = All-nil P
All-changed P f keeps (x ∷ xs) all = All-cons P (f x) (map f xs) (keeps x (All-head P x xs all)) (All-changed P f keeps xs (All-tail P x xs all))

-- the keys of the elements that have another key
pub map-others : {X : Type 0} (key : X → ℕ) (gone : ℕ) (xs : List X) → map key (filter (λ x. not (key x == gone)) xs) ≡ filter (λ n. not (n == gone)) (map key xs)
map-others key gone [] = refl
map-others key gone (x ∷ xs) = here (not (key x == gone)) (map-others key gone xs)
  where
    here : (b : Bool) → map key (filter (λ y. not (key y == gone)) xs) ≡ filter (λ n. not (n == gone)) (map key xs)
        → map key (cond b (x ∷ filter (λ y. not (key y == gone)) xs) (filter (λ y. not (key y == gone)) xs)) ≡ cond b (key x ∷ filter (λ n. not (n == gone)) (map key xs)) (filter (λ n. not (n == gone)) (map key xs))
    here true later = ap (λ rest. key x ∷ rest) later
    here false later = later

-- ---- facts of each element

pub All-both : {X : Type 0} (P Q R : X → Type 0) → ((x : X) → P x → Q x → R x) → (xs : List X) → All P xs → All Q xs → All R xs
All-both P Q R both xs p q = λ k d within. both _ (p k d within) (q k d within)

pub All-from_map : {X Y : Type 0} (P : Y → Type 0) (f : X → Y) (xs : List X) → All P (map f xs) → All (λ x. P (f x)) xs
All-from_map P f [] all = All-nil (λ y. P (f y))
All-from_map P f (x ∷ xs) all = All-cons (λ y. P (f y)) x xs (All-head P (f x) (map f xs) all) (All-from_map P f xs (All-tail P (f x) (map f xs) all))

pub AllPairs-rest : {X : Type 0} (R : X → X → Type 0) (x : X) (xs : List X) → AllPairs R (x ∷ xs) → AllPairs R xs
AllPairs-rest R x xs all i j d before within = all (suc i) (suc j) d (omega arith) (omega arith)

pub AllPairs-first : {X : Type 0} (R : X → X → Type 0) (x : X) (xs : List X) → AllPairs R (x ∷ xs) → All (R x) xs
AllPairs-first R x xs all k d within = all 0 (suc k) d (omega arith) (omega arith)

-- ---- facts that stand on a look-up

pub found_of : {A : Type 0} (o : Option A) (P : A → Type 0) → IsSomeAnd o P → (x : A) × (o ≡ Some x) × P x
found_of (Some x) P is = (x, refl, is)
found_of None P is = absurd is

pub of_found : {A : Type 0} (o : Option A) (P : A → Type 0) (x : A) → o ≡ Some x → P x → IsSomeAnd o P
of_found o P x e is = subst (λ z. IsSomeAnd z P) (sym e) is

-- an element is the one that is found by its key
abbrev IsOwn : {X : Type 0} → (X → ℕ) → List X → X → Type 0
IsOwn key xs x = find (λ y. key y == key x) xs ≡ Some x

-- so is each where keys differ
pub own : {X : Type 0} (key : X → ℕ) (xs : List X) → AllPairs ◌≢◌ (map key xs) → All (λ x. find (λ y. key y == key x) xs ≡ Some x) xs
own key [] apart = All-nil (IsOwn key [])
own key (x ∷ xs) apart =
    All-cons (IsOwn key (x ∷ xs)) x xs (cond-true (key x == key x) (Some x) (find (λ y. key y == key x) xs) (eq-eqb (key x) (key x) refl))
    (All-both (IsOwn key xs) (λ y. key x ≢ key y) (IsOwn key (x ∷ xs)) (λ y found other. cond-false (key x == key y) (Some x) (find (λ z. key z == key y) xs) (ne_eqb (key x) (key y) other) ∙ found) xs
    (own key xs (AllPairs-rest ◌≢◌ (key x) (map key xs) apart)) (All-from_map (λ n. key x ≢ n) key xs (AllPairs-first ◌≢◌ (key x) (map key xs) apart)))

-- the parts of a made list
pub filtered_out : {X : Type 0} (p : X → Bool) (Q : X → Type 0) (xs : List X) → All Q (filter p xs) → All (λ x. p x ≡ true → Q x) xs
filtered_out p Q [] all = All-nil (λ y. p y ≡ true → Q y)
filtered_out p Q (x ∷ xs) all = here (p x) refl (filtered_out p Q xs) all
  where
    here : (b : Bool) → p x ≡ b → (All Q (filter p xs) → All (λ y. p y ≡ true → Q y) xs) → All Q (cond b (x ∷ filter p xs) (filter p xs)) → All (λ y. p y ≡ true → Q y) (x ∷ xs)
    here true is later all = All-cons (λ y. p y ≡ true → Q y) x xs (λ passes. All-head Q x (filter p xs) all) (later (All-tail Q x (filter p xs) all))
    here false is later all = All-cons (λ y. p y ≡ true → Q y) x xs (λ passes. absurd (let e : true ≡ false = sym passes ∙ is in cc)) (later all)

-- ---- facts of each two elements

pub pairs_mapped : {X : Type 0} (R : X → X → Type 0) (K : X → Type 0) (f : X → X) → ((x y : X) → K x → K y → R x y → R (f x) (f y)) → (xs : List X) → All K xs → AllPairs R xs → AllPairs R (map f xs)
pairs_mapped R K f keeps [] each pairs = λ i j d before within. absurd (omega arith)
pairs_mapped R K f keeps (x ∷ xs) each pairs =
    AllPairs-cons R (f x) (map f xs)
    (All-map (R (f x)) f xs (All-both K (R x) (λ y. R (f x) (f y)) (λ y k r. keeps x y (All-head K x xs each) k r) xs (All-tail K x xs each) (AllPairs-first R x xs pairs)))
    (pairs_mapped R K f keeps xs (All-tail K x xs each) (AllPairs-rest R x xs pairs))

-- an element that is found, and each that a test tells from it
pub pairs_found : {X : Type 0} (R : X → X → Type 0) → ((x y : X) → R x y → R y x) → (p : X → Bool) (xs : List X) (x : X) → AllPairs R xs → find p xs ≡ Some x → All (λ y. p y ≡ false → R x y) xs
pairs_found R flips p [] x pairs e = All-nil (λ y. p y ≡ false → R x y)
pairs_found R flips p (y ∷ ys) x pairs e = here (p y) refl (pairs_found R flips p ys x (AllPairs-rest R y ys pairs)) e
  where
    here : (b : Bool) → p y ≡ b → (find p ys ≡ Some x → All (λ z. p z ≡ false → R x z) ys) → cond b (Some y) (find p ys) ≡ Some x → All (λ z. p z ≡ false → R x z) (y ∷ ys)
    here true is later e =
        let same : y ≡ x = cc in
        All-cons (λ z. p z ≡ false → R x z) y ys (λ fails. absurd (let f : true ≡ false = sym is ∙ fails in cc))
        (subst (λ w. All (λ z. p z ≡ false → R w z) ys) same (All-weaker (R y) (λ z. p z ≡ false → R y z) (λ z r _. r) ys (AllPairs-first R y ys pairs)))
    here false is later e =
        All-cons (λ z. p z ≡ false → R x z) y ys (λ _. flips y x (find-all (R y) p ys x (AllPairs-first R y ys pairs) e)) (later e)
