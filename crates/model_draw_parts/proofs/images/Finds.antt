-- Each id and each window of a book stands once, from the empty book on.
use Rattle.std.proofs.Common.{◌≡◌, ℕ, Bool, true, false, cond, List, [], ◌∷◌, ◌++◌, Option, Some, None, refl, sym, ap, ◌∙◌, inl, inr, arith}
use Rattle.std.specs.Prelude.{◌==◌, ◌||◌, ◌&&◌, not, All, find, is_some, if◌then◌else◌}
use Rattle.std.specs.List.{list_any}
use Rattle.std.proofs.lemmas.Bool.{cases_Bool, or_parts}
use Rattle.std.proofs.lemmas.Bool.Decides.{nat_tests}
use Rattle.std.proofs.lemmas.List.Elements.{All-cons, All-head, All-nil, All-push, All-tail, All-weaker}
use Rattle.model_draw_parts.specs.declared.images.ImageId.{ImageId}
use Rattle.model_draw_parts.specs.declared.images.ScreenId.{ScreenId}
use Rattle.model_draw_parts.specs.declared.images.OnScreen.{OnScreen}
use Rattle.model_draw_parts.specs.images.Book.{Book, comes_before, empty_book, image_id, is_image_id_taken, is_screen_id_taken, owner, put_image_id, put_screen_id, screen_id, with_window}
use Rattle.model_draw_parts.specs.images.Release.{FindsAll, is_image_id, is_screen_id}
use Rattle.model_draw_parts.proofs.images.Ties.{find-put}

find-same : {X : Type 0} (p q : X → Bool) (xs : List X) → ((x : X) → p x ≡ q x) → find p xs ≡ find q xs
find-same p q [] h = refl
find-same p q (x ∷ xs) h = rw (h x) (ap (λ o. cond (q x) (Some x) o) (find-same p q xs h))

none : {X : Type 0} (o : Option X) → is_some o ≡ false → o ≡ None
none None h = refl
none (Some x) h = absurd cc

-- where none is found, neither is the first one that, nor one of the rest
first : {X : Type 0} (p : X → Bool) (x : X) (xs : List X) → find p (x ∷ xs) ≡ None → p x ≡ false
first {X = X} p x xs e = by (p x) e
  where
    by : (b : Bool) → cond b (Some x) (find p xs) ≡ None → b ≡ false
    by true e = absurd cc
    by false e = refl

rest : {X : Type 0} (p : X → Bool) (x : X) (xs : List X) → find p (x ∷ xs) ≡ None → find p xs ≡ None
rest {X = X} p x xs e = by (p x) e
  where
    by : (b : Bool) → cond b (Some x) (find p xs) ≡ None → find p xs ≡ None
    by true e = absurd cc
    by false e = e

-- One more is put among those that are each found: it is found itself, and the others as before, since it is like none.
all-put : {X : Type 0} (alike : X → X → Bool) (e : X) (xs ys : List X) → ((P : X → Type 0) → P e → All P xs → All P ys) → ((p : X → Bool) → p e ≡ false → find p ys ≡ find p xs)
    → ((p : X → Bool) → find p xs ≡ None → p e ≡ true → find p ys ≡ Some e) → alike e e ≡ true → ((x y : X) → alike x e ≡ true → alike e y ≡ alike x y)
    → find (alike e) xs ≡ None → All (λ x. find (alike x) xs ≡ Some x) xs → All (λ x. find (alike x) ys ≡ Some x) ys
all-put {X = X} alike e xs ys every other new itself turned free all =
    every (λ x. find (alike x) ys ≡ Some x) (new (alike e) free itself) (All-weaker (λ x. find (alike x) xs ≡ Some x) (λ x. find (alike x) ys ≡ Some x) still xs all)
  where
    still : (x : X) → find (alike x) xs ≡ Some x → find (alike x) ys ≡ Some x
    still x found = elim (cases_Bool (alike x e)) [
      | inl at ↦
          let both : ◌≡◌ {A = Option X} None (Some x) = sym free ∙ find-same (alike e) (alike x) xs (λ y. turned x y at) ∙ found in
          absurd cc
      | inr apart ↦ other (alike x) apart ∙ found
    ]

-- ---- image ids

pub every-image : (P : ImageId → Type 0) (e : ImageId) (xs : List ImageId) → P e → All P xs → All P (put_image_id e xs)
every-image P e [] h all = All-cons P e [] h all
every-image P e (x ∷ xs) h all = by (every-image P e xs h (All-tail P x xs all)) (comes_before e.client e.id x.client x.id)
  where
    by : All P (put_image_id e xs) → (b : Bool) → All P (if b then e ∷ x ∷ xs else x ∷ put_image_id e xs)
    by more true = All-cons P e (x ∷ xs) h all
    by more false = All-cons P x (put_image_id e xs) (All-head P x xs all) more

-- where none was found, the new one is
pub new-image : (p : ImageId → Bool) (e : ImageId) (xs : List ImageId) → find p xs ≡ None → p e ≡ true → find p (put_image_id e xs) ≡ Some e
new-image p e [] none h = rw h refl
new-image p e (x ∷ xs) none h = by (new-image p e xs (rest p x xs none) h) (comes_before e.client e.id x.client x.id)
  where
    by : find p (put_image_id e xs) ≡ Some e → (b : Bool) → find p (if b then e ∷ x ∷ xs else x ∷ put_image_id e xs) ≡ Some e
    by more true = rw h refl
    by more false = rw (first p x xs none) more

alike_images : (c d a b x y : ℕ) → ((c == a) && (d == b)) ≡ true → ((x == c) && (y == d)) ≡ ((x == a) && (y == b))
alike_images c d a b x y h = grind (arith, nat_tests)

itself : (c d : ℕ) → ((c == c) && (d == d)) ≡ true
itself c d = grind (arith, nat_tests)

-- an image id that was not taken
pub put-image : (book : Book) (e : ImageId) → is_image_id_taken book e.client e.id ≡ false → All (λ x. find (is_image_id x.client x.id) book.image_ids ≡ Some x) book.image_ids
    → All (λ x. find (is_image_id x.client x.id) (put_image_id e book.image_ids) ≡ Some x) (put_image_id e book.image_ids)
put-image book e free all =
    all-put (λ (x y : ImageId). is_image_id x.client x.id y) e book.image_ids (put_image_id e book.image_ids) (λ P h k. every-image P e book.image_ids h k) (λ p h. find-put p e book.image_ids h)
    (λ p h k. new-image p e book.image_ids h k) (itself e.client e.id) (λ x y h. alike_images e.client e.id x.client x.id y.client y.id h) untaken all
  where
    own : (id client : ℕ) → ((id == 0) && not (client == 0)) ≡ false → owner client id ≡ client
    own id client h = grind (arith, nat_tests)

    untaken : find (is_image_id e.client e.id) book.image_ids ≡ None
    untaken =
        let parts = or_parts ((e.id == 0) && not (e.client == 0)) (is_some (image_id book e.client e.id)) free in
        ap (λ (c : ℕ). find (λ (x : ImageId). (x.client == c) && (x.id == e.id)) book.image_ids) (sym (own e.id e.client parts.0)) ∙ none (image_id book e.client e.id) parts.1

-- ---- screen ids

pub find-screen : (p : ScreenId → Bool) (e : ScreenId) (xs : List ScreenId) → p e ≡ false → find p (put_screen_id e xs) ≡ find p xs
find-screen p e [] other = rw other refl
find-screen p e (x ∷ xs) other = by (find-screen p e xs other) (comes_before e.client e.id x.client x.id)
  where
    by : find p (put_screen_id e xs) ≡ find p xs → (b : Bool) → find p (if b then e ∷ x ∷ xs else x ∷ put_screen_id e xs) ≡ find p (x ∷ xs)
    by more true = rw other refl
    by more false = ap (λ o. cond (p x) (Some x) o) more

pub any-put_screen : (p : ScreenId → Bool) (e : ScreenId) (xs : List ScreenId) → list_any p (put_screen_id e xs) ≡ (p e || list_any p xs)
any-put_screen p e [] = refl
any-put_screen p e (x ∷ xs) = by (any-put_screen p e xs) (comes_before e.client e.id x.client x.id)
  where
    swapped : (a b c : Bool) → (a || (b || c)) ≡ (b || (a || c))
    swapped true true c = refl
    swapped true false c = refl
    swapped false b c = refl

    by : list_any p (put_screen_id e xs) ≡ (p e || list_any p xs) → (b : Bool) → list_any p (if b then e ∷ x ∷ xs else x ∷ put_screen_id e xs) ≡ (p e || list_any p (x ∷ xs))
    by more true = refl
    by more false = ap (λ b. p x || b) more ∙ swapped (p x) (p e) (list_any p xs)

pub every-screen : (P : ScreenId → Type 0) (e : ScreenId) (xs : List ScreenId) → P e → All P xs → All P (put_screen_id e xs)
every-screen P e [] h all = All-cons P e [] h all
every-screen P e (x ∷ xs) h all = by (every-screen P e xs h (All-tail P x xs all)) (comes_before e.client e.id x.client x.id)
  where
    by : All P (put_screen_id e xs) → (b : Bool) → All P (if b then e ∷ x ∷ xs else x ∷ put_screen_id e xs)
    by more true = All-cons P e (x ∷ xs) h all
    by more false = All-cons P x (put_screen_id e xs) (All-head P x xs all) more

pub new-screen : (p : ScreenId → Bool) (e : ScreenId) (xs : List ScreenId) → find p xs ≡ None → p e ≡ true → find p (put_screen_id e xs) ≡ Some e
new-screen p e [] none h = rw h refl
new-screen p e (x ∷ xs) none h = by (new-screen p e xs (rest p x xs none) h) (comes_before e.client e.id x.client x.id)
  where
    by : find p (put_screen_id e xs) ≡ Some e → (b : Bool) → find p (if b then e ∷ x ∷ xs else x ∷ put_screen_id e xs) ≡ Some e
    by more true = rw h refl
    by more false = rw (first p x xs none) more

-- a screen id that was not taken
pub put-screen : (book : Book) (e : ScreenId) (public : Bool) → is_screen_id_taken book e.client e.id public ≡ false → All (λ x. find (is_screen_id x.client x.id) book.screen_ids ≡ Some x) book.screen_ids
    → All (λ x. find (is_screen_id x.client x.id) (put_screen_id e book.screen_ids) ≡ Some x) (put_screen_id e book.screen_ids)
put-screen book e public free all =
    all-put (λ (x y : ScreenId). is_screen_id x.client x.id y) e book.screen_ids (put_screen_id e book.screen_ids) (λ P h k. every-screen P e book.screen_ids h k) (λ p h. find-screen p e book.screen_ids h)
    (λ p h k. new-screen p e book.screen_ids h k) (itself e.client e.id) (λ x y h. alike_images e.client e.id x.client x.id y.client y.id h) untaken all
  where
    untaken : find (is_screen_id e.client e.id) book.screen_ids ≡ None
    untaken = none (screen_id book e.client e.id) ((or_parts (is_some (screen_id book e.client e.id)) _ free).0)

-- ---- windows

find-end : (p : OnScreen → Bool) (e : OnScreen) (xs : List OnScreen) → p e ≡ false → find p (xs ++ e ∷ []) ≡ find p xs
find-end p e [] other = rw other refl
find-end p e (x ∷ xs) other = ap (λ o. cond (p x) (Some x) o) (find-end p e xs other)

new-end : (p : OnScreen → Bool) (e : OnScreen) (xs : List OnScreen) → find p xs ≡ None → p e ≡ true → find p (xs ++ e ∷ []) ≡ Some e
new-end p e [] none h = rw h refl
new-end p e (x ∷ xs) none h = rw (first p x xs none) (new-end p e xs (rest p x xs none) h)

-- a window that was none
pub put-window : (image : ℕ) (screen : Option ℕ) (ws : List OnScreen) → find (λ v. v.image == image) ws ≡ None → All (λ w. find (λ v. v.image == w.image) ws ≡ Some w) ws
    → All (λ w. find (λ v. v.image == w.image) (with_window image screen ws) ≡ Some w) (with_window image screen ws)
put-window image None ws free all = all
put-window image (Some s) ws free all =
    let e : OnScreen = record { image = image; screen = s } in
    all-put (λ (w v : OnScreen). v.image == w.image) e ws (ws ++ e ∷ []) (λ P h k. All-push P ws e k h) (λ p h. find-end p e ws h) (λ p h k. new-end p e ws h k) (same image) (λ w v h. turned image w.image v.image h) free all
  where
    same : (n : ℕ) → (n == n) ≡ true
    same n = grind (arith, nat_tests)

    turned : (i j k : ℕ) → (i == j) ≡ true → (k == i) ≡ (k == j)
    turned i j k h = grind (arith, nat_tests)

pub finds-empty : FindsAll empty_book
finds-empty = record { image_ids = All-nil _; screen_ids = All-nil _; windows = All-nil _ }
