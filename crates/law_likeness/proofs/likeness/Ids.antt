-- An id more in the books of two devices that are like.
use Rattle.std.proofs.Common.{◌≡◌, ◌<◌, ◌≤◌, ◌^◌, ◌&&◌, ◌||◌, ℕ, Bool, true, false, List, Option, Some, None, refl, sym, ap, ◌∙◌, arith}
use Rattle.std.specs.Prelude.{◌==◌, find, is_some, not, if◌then◌else◌}
use Rattle.std.proofs.lemmas.Bool.{false_from_ne_true, or_parts}
use Rattle.std.proofs.lemmas.Bool.Decides.{nat_tests}
use Rattle.model_draw_parts.specs.declared.images.ImageId.{ImageId}
use Rattle.model_draw_parts.specs.images.Book.{Book, image_id, is_image_id_taken, owner, put_image_id}
use Rattle.model_draw_parts.proofs.images.Finds.{new-image}
use Rattle.model_draw_parts.proofs.images.Ties.{find-put}
use Rattle.model_draw.specs.draw.Orders.{manager}
use Rattle.model_world.specs.Whole.{client}
use Rattle.law_likeness.specs.agreement.Agreement.{SameOption}
use Rattle.law_likeness.specs.likeness.Likeness.{AreLikeBooks, SameId}

-- ---- options

pub each_option : {A B : Type 0} (P Q : A → B → Type 0) → ((x : A) (y : B) → P x y → Q x y) → (o : Option A) (q : Option B) → SameOption P o q → SameOption Q o q
each_option P Q each (Some x) (Some y) both = each x y both
each_option P Q each None None both = tt
each_option P Q each (Some x) None both = absurd both
each_option P Q each None (Some y) both = absurd both

pub same_some : {A B : Type 0} (P : A → B → Type 0) (o : Option A) (q : Option B) → SameOption P o q → is_some o ≡ is_some q
same_some P (Some x) (Some y) both = refl
same_some P None None both = refl
same_some P (Some x) None both = absurd both
same_some P None (Some y) both = absurd both

pub none_there : {A : Type 0} (o : Option A) → is_some o ≡ false → o ≡ None
none_there None h = refl
none_there (Some x) h = absurd cc

-- ---- an id that is put where none such was

pub put_same : (P : ImageId → ImageId → Type 0) (p q : ImageId → Bool) (e f : ImageId) (xs ys : List ImageId) → p e ≡ q f → P e f
    → (p e ≡ true → (find p xs ≡ None) × (find q ys ≡ None)) → SameOption P (find p xs) (find q ys)
    → SameOption P (find p (put_image_id e xs)) (find q (put_image_id f ys))
put_same P p q e f xs ys test one free both = by (p e) refl
  where
    by : (b : Bool) → p e ≡ b → SameOption P (find p (put_image_id e xs)) (find q (put_image_id f ys))
    by true at =
        let none = free at in
        rw (new-image p e xs none.0 at, new-image q f ys none.1 (sym test ∙ at)) one
    by false at = rw (find-put p e xs at, find-put q f ys (sym test ∙ at)) both

-- ---- keys of a session's connections

pub clients_apart : (c n m : ℕ) → (client c n == client c m) ≡ (n == m)
clients_apart c n m = grind (arith, nat_tests)

pub no_manager : (c n : ℕ) → 1 ≤ c → (client c n == manager) ≡ false
no_manager c n counted = grind (arith, nat_tests)

pub owner_own : (k id : ℕ) → (id == 0) ≡ false → owner k id ≡ k
owner_own k id other = rw other refl

pub owner_manager : (id : ℕ) → owner manager id ≡ manager
owner_manager id = by (id == 0)
  where
    by : (b : Bool) → (if b then 0 else manager) ≡ manager
    by true = refl
    by false = refl

-- an id of a connection of a session is none of the manager's
pub apart_manager : (c n id other : ℕ) → 1 ≤ c → ((client c n == owner manager other) && (id == other)) ≡ false
apart_manager c n id other counted = ap (λ (k : ℕ). (client c n == k) && (id == other)) (owner_manager other) ∙ ap (λ (b : Bool). b && (id == other)) (no_manager c n counted)

-- what an id is found by
pub key_is : (c n id m other : ℕ) → (other == 0) ≡ false → ((client c n == owner (client c m) other) && (id == other)) ≡ ((n == m) && (id == other))
key_is c n id m other not_zero =
    ap (λ (k : ℕ). (client c n == k) && (id == other)) (owner_own (client c m) other not_zero) ∙ ap (λ (b : Bool). b && (id == other)) (clients_apart c n m)

-- ---- the books

module _ (Same SameScreen : ℕ → ℕ → Type 0) (c : ℕ) (window : Option (ℕ × List ℕ)) (a b : Book) (like : AreLikeBooks Same SameScreen c window a b) (counted : 1 ≤ c) (n : ℕ) (few : n < 2 ^ 26) where
  zero_taken : (k id : ℕ) → (k == manager) ≡ false → (id == 0) ≡ true → (book : Book) → is_image_id_taken book k id ≡ true
  zero_taken k id other zero book = rw (zero, other) refl

  -- an id is taken in both books or in neither
  pub taken_same : (id : ℕ) → is_image_id_taken a (client c n) id ≡ is_image_id_taken b (client 1 n) id
  taken_same id = by (id == 0) refl
    where
      by : (zero : Bool) → (id == 0) ≡ zero → is_image_id_taken a (client c n) id ≡ is_image_id_taken b (client 1 n) id
      by true is = zero_taken (client c n) id (no_manager c n counted) is a ∙ sym (zero_taken (client 1 n) id (no_manager 1 n (omega arith)) is b)
      by false is =
          ap (λ (x : Bool). (x && not (client c n == 0)) || is_some (image_id a (client c n) id)) is
          ∙ same_some (SameId Same a b) (image_id a (client c n) id) (image_id b (client 1 n) id) (like.ids n id few is)
          ∙ sym (ap (λ (x : Bool). (x && not (client 1 n == 0)) || is_some (image_id b (client 1 n) id)) is)

  -- one that is not taken is not 0, and not known
  pub free_other : (id : ℕ) → is_image_id_taken b (client 1 n) id ≡ false → (id == 0) ≡ false
  free_other id free = false_from_ne_true (id == 0) (λ is. absurd (both (zero_taken (client 1 n) id (no_manager 1 n (omega arith)) is b) free))
    where
      both : {x : Bool} → x ≡ true → x ≡ false → ⊥
      both h k = cc

  pub free_left : (id : ℕ) → is_image_id_taken b (client 1 n) id ≡ false → image_id a (client c n) id ≡ None
  free_left id free =
      none_there (image_id a (client c n) id)
      (or_parts ((id == 0) && not (client c n == 0)) (is_some (image_id a (client c n) id)) (taken_same id ∙ free)).1

  pub free_right : (id : ℕ) → is_image_id_taken b (client 1 n) id ≡ false → image_id b (client 1 n) id ≡ None
  free_right id free =
      none_there (image_id b (client 1 n) id) (or_parts ((id == 0) && not (client 1 n == 0)) (is_some (image_id b (client 1 n) id)) free).1
