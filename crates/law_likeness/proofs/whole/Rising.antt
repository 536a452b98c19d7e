-- Ids ascend still where one more comes that was not there.
use Rattle.std.proofs.Common.{◌≡◌, ℕ, Bool, true, false, cond, List, [], ◌∷◌, Some, refl, sym, ap, ◌∙◌, arith}
use Rattle.std.specs.Prelude.{◌==◌, ◌&&◌, All, find, is_some, not, if◌then◌else◌}
use Rattle.std.proofs.lemmas.Bool.Decides.{nat_tests}
use Rattle.std.proofs.lemmas.List.Elements.{All-cons, All-head, All-nil, All-tail, All-weaker}
use Rattle.model_draw_parts.specs.declared.images.ImageId.{ImageId}
use Rattle.model_draw_parts.specs.declared.images.ScreenId.{ScreenId}
use Rattle.model_draw_parts.specs.images.Book.{Book, comes_before, is_image_id_taken, is_screen_id_taken, owner, put_image_id, put_screen_id, screen_id}
use Rattle.model_draw_parts.specs.images.Release.{is_image_id, is_screen_id}
use Rattle.law_shown.proofs.shown.Tests.{first_false, second_false}
use Rattle.law_likeness.specs.making.Standing.{Rise}
use Rattle.law_likeness.proofs.making.Entries.{all_put, all_put_screen}

before_then : (a b c d e f : ℕ) → comes_before a b c d ≡ true → comes_before c d e f ≡ true → comes_before a b e f ≡ true
before_then a b c d e f one two = grind (arith, nat_tests)

-- two keys are the same, or one stands before the other
before_other : (a b c d : ℕ) → comes_before a b c d ≡ false → ((c == a) && (d == b)) ≡ false → comes_before c d a b ≡ true
before_other a b c d not_before apart = grind (arith, nat_tests)

abbrev RiseImages : List ImageId → Type 0
RiseImages es = Rise (λ (e : ImageId). e.client) (λ e. e.id) es

abbrev RiseScreens : List ScreenId → Type 0
RiseScreens es = Rise (λ (e : ScreenId). e.client) (λ e. e.id) es

pub rise_image : (e : ImageId) (xs : List ImageId) → RiseImages xs → All (λ x. is_image_id e.client e.id x ≡ false) xs → RiseImages (put_image_id e xs)
rise_image e [] rise apart = (All-nil _, tt)
rise_image e (x ∷ xs) rise apart =
    by (rise_image e xs rise.1 (All-tail (λ x. is_image_id e.client e.id x ≡ false) x xs apart)) (comes_before e.client e.id x.client x.id) refl
  where
    by : RiseImages (put_image_id e xs) → (b : Bool) → comes_before e.client e.id x.client x.id ≡ b → RiseImages (if b then e ∷ x ∷ xs else x ∷ put_image_id e xs)
    by more true is = (
      All-cons (λ y. comes_before e.client e.id y.client y.id ≡ true) x xs is
          (All-weaker (λ y. comes_before x.client x.id y.client y.id ≡ true) (λ y. comes_before e.client e.id y.client y.id ≡ true)
          (λ y before. before_then e.client e.id x.client x.id y.client y.id is before) xs rise.0),
      rise,
    )
    by more false is = (
      all_put (λ y. comes_before x.client x.id y.client y.id ≡ true) e xs
          (before_other e.client e.id x.client x.id is (All-head (λ x. is_image_id e.client e.id x ≡ false) x xs apart)) rise.0,
      more,
    )

pub rise_screen : (e : ScreenId) (xs : List ScreenId) → RiseScreens xs → All (λ x. is_screen_id e.client e.id x ≡ false) xs → RiseScreens (put_screen_id e xs)
rise_screen e [] rise apart = (All-nil _, tt)
rise_screen e (x ∷ xs) rise apart =
    by (rise_screen e xs rise.1 (All-tail (λ x. is_screen_id e.client e.id x ≡ false) x xs apart)) (comes_before e.client e.id x.client x.id) refl
  where
    by : RiseScreens (put_screen_id e xs) → (b : Bool) → comes_before e.client e.id x.client x.id ≡ b → RiseScreens (if b then e ∷ x ∷ xs else x ∷ put_screen_id e xs)
    by more true is = (
      All-cons (λ y. comes_before e.client e.id y.client y.id ≡ true) x xs is
          (All-weaker (λ y. comes_before x.client x.id y.client y.id ≡ true) (λ y. comes_before e.client e.id y.client y.id ≡ true)
          (λ y before. before_then e.client e.id x.client x.id y.client y.id is before) xs rise.0),
      rise,
    )
    by more false is = (
      all_put_screen (λ y. comes_before x.client x.id y.client y.id ≡ true) e xs
          (before_other e.client e.id x.client x.id is (All-head (λ x. is_screen_id e.client e.id x ≡ false) x xs apart)) rise.0,
      more,
    )

-- ---- an id that is not taken

-- where none is found, none passes
none_passes : {X : Type 0} (p : X → Bool) (xs : List X) → is_some (find p xs) ≡ false → All (λ x. p x ≡ false) xs
none_passes p [] none = All-nil (λ x. p x ≡ false)
none_passes {X = X} p (x ∷ xs) none = by (λ less. none_passes p xs less) (p x) refl none
  where
    by : (is_some (find p xs) ≡ false → All (λ x. p x ≡ false) xs) → (b : Bool) → p x ≡ b → is_some (cond b (Some x) (find p xs)) ≡ false → All (λ x. p x ≡ false) (x ∷ xs)
    by more true is none = absurd cc
    by more false is none = All-cons (λ x. p x ≡ false) x xs is (more none)

pub untaken_image : (book : Book) (k id : ℕ) → is_image_id_taken book k id ≡ false → All (λ x. is_image_id k id x ≡ false) book.image_ids
untaken_image book k id free =
    none_passes (is_image_id k id) book.image_ids
    (ap (λ (c : ℕ). is_some (find (λ (x : ImageId). (x.client == c) && (x.id == id)) book.image_ids)) (sym (own (first_false ((id == 0) && not (k == 0)) _ free)))
    ∙ second_false ((id == 0) && not (k == 0)) _ free)
  where
    own : ((id == 0) && not (k == 0)) ≡ false → owner k id ≡ k
    own other = grind (arith, nat_tests)

pub untaken_screen : (book : Book) (k id : ℕ) (public : Bool) → is_screen_id_taken book k id public ≡ false → All (λ x. is_screen_id k id x ≡ false) book.screen_ids
untaken_screen book k id public free = none_passes (is_screen_id k id) book.screen_ids (first_false (is_some (screen_id book k id)) _ free)
