-- Lists that lose or get elements of which a property does not hold.
use Rattle.std.proofs.Common.{◌≡◌, ◌||◌, ℕ, zero, suc, Bool, true, false, cond, List, [], ◌∷◌, ◌++◌, Some, None, refl, ap}
use Rattle.std.specs.Prelude.{All, filter, find, slice_index_or, slice_set}
use Rattle.std.specs.List.{Contains, list_any}
use Rattle.std.proofs.lemmas.List.Elements.{All-contains, All-contains_itself, All-filter, All-head, All-push, All-tail, All-weaker}

-- ---- what is found in a list that some leave

pub find-but : {X : Type 0} (p q : X → Bool) (xs : List X) → ((x : X) → find p xs ≡ Some x → q x ≡ true) → find p (filter q xs) ≡ find p xs
find-but p q [] stays = refl
find-but {X = X} p q (x ∷ xs) stays = by (find-but p q xs) stays (q x) refl (p x) refl
  where
    by : (((y : X) → find p xs ≡ Some y → q y ≡ true) → find p (filter q xs) ≡ find p xs) → ((y : X) → find p (x ∷ xs) ≡ Some y → q y ≡ true)
        → (b : Bool) → q x ≡ b → (a : Bool) → p x ≡ a → find p (cond b (x ∷ filter q xs) (filter q xs)) ≡ cond a (Some x) (find p xs)
    by more stays true passes true is = rw is refl
    by more stays true passes false is = rw is (more (λ y found. stays y (rw is found)))
    by more stays false fails true is = absurd (let one = stays x (rw is refl) in cc)
    by more stays false fails false is = more (λ y found. stays y (rw is found))

pub any-but : {X : Type 0} (p q : X → Bool) (xs : List X) → All (λ x. p x ≡ true → q x ≡ true) xs → list_any p (filter q xs) ≡ list_any p xs
any-but p q [] all = refl
any-but {X = X} p q (x ∷ xs) all = by (any-but p q xs (All-tail (λ y. p y ≡ true → q y ≡ true) x xs all)) (All-head (λ y. p y ≡ true → q y ≡ true) x xs all) (q x) refl (p x) refl
  where
    by : list_any p (filter q xs) ≡ list_any p xs → (p x ≡ true → q x ≡ true) → (b : Bool) → q x ≡ b → (a : Bool) → p x ≡ a → list_any p (cond b (x ∷ filter q xs) (filter q xs)) ≡ (a || list_any p xs)
    by more stays true passes true is = rw is refl
    by more stays true passes false is = rw is more
    by more stays false fails true is = absurd (let one = stays is in cc)
    by more stays false fails false is = more

-- an element that does not pass goes, and so does nothing that passes
pub any-cleared : {X : Type 0} (p : X → Bool) (d : X) (xs : List X) (n : ℕ) → p d ≡ false → p (slice_index_or xs n d) ≡ false → list_any p (slice_set xs n d) ≡ list_any p xs
any-cleared p d [] n none fails = refl
any-cleared p d (x ∷ xs) zero none fails = rw (none, fails) refl
any-cleared p d (x ∷ xs) (suc n) none fails = ap (λ (b : Bool). p x || b) (any-cleared p d xs n none fails)

-- ---- what was there, of those with a property

-- each element with the property was in the old list
abbrev pub Known : {X : Type 0} → (X → Type 0) → (old new : List X) → Type 0
Known P old new = All (λ x. P x → Contains old x) new

pub known_itself : {X : Type 0} (P : X → Type 0) (xs : List X) → Known P xs xs
known_itself P xs = All-weaker (Contains xs) (λ x. P x → Contains xs x) (λ x is _. is) xs (All-contains_itself xs)

pub known_less : {X : Type 0} (P Q : X → Type 0) (old new : List X) → ((x : X) → Q x → P x) → Known P old new → Known Q old new
known_less P Q old new each known = All-weaker (λ x. P x → Contains old x) (λ x. Q x → Contains old x) (λ x was h. was (each x h)) new known

-- what held of the old ones holds of the new ones
pub carried : {X : Type 0} (P Q : X → Type 0) (old new : List X) → All (λ x. P x → Q x) old → Known P old new → All (λ x. P x → Q x) new
carried P Q old new all known =
    All-weaker (λ x. P x → Contains old x) (λ x. P x → Q x) (λ x was h. All-contains (λ y. P y → Q y) old x all (was h) h) new known

pub known_filter : {X : Type 0} (P : X → Type 0) (q : X → Bool) (xs : List X) → Known P xs (filter q xs)
known_filter P q xs = All-filter q (λ x. P x → Contains xs x) xs (known_itself P xs)

pub known_push : {X : Type 0} (P : X → Type 0) (xs : List X) (x : X) → (P x → ⊥) → Known P xs (xs ++ x ∷ [])
known_push P xs x none = All-push (λ y. P y → Contains xs y) xs x (known_itself P xs) (λ h. absurd (none h))

-- ---- what all pass or none

pub find-nothing : {X : Type 0} (p : X → Bool) (xs : List X) → All (λ x. p x ≡ false) xs → find p xs ≡ None
find-nothing p [] all = refl
find-nothing {X = X} p (x ∷ xs) all =
    let fails : p x ≡ false = All-head (λ y. p y ≡ false) x xs all in
    rw fails (find-nothing p xs (All-tail (λ y. p y ≡ false) x xs all))
