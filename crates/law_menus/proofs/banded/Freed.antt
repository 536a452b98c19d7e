-- An id that a name gave is freed again, and the book is as it was before.
use Rattle.std.proofs.Common.{◌≡◌, ◌∙◌, ◌<◌, ℕ, ◌==◌, ◌&&◌, Bool, true, false, cond, not, List, [], ◌∷◌, filter, find, Some, None, Ok, refl, sym, ap, arith}
use Rattle.std.specs.Prelude.{All}
use Rattle.std.specs.List.{list_any}
use Rattle.std.proofs.lemmas.Bool.{ne_eqb}
use Rattle.std.proofs.lemmas.List.Elements.{All-weaker}
use Rattle.model_draw_parts.specs.declared.images.ImageId.{ImageId}
use Rattle.model_draw_parts.specs.declared.images.Tie.{Tie}
use Rattle.model_draw_parts.specs.declared.images.Thing.TheVariants.{Image}
use Rattle.model_draw_parts.specs.images.Book.{Book, add_named, comes_before, image, image_id, put_image_id, tie_of}
use Rattle.model_draw_parts.specs.images.Release.{free_id, freed_image_id, is_image_id, is_tied_by, is_used, nothing_freed, released, with_ties_ended, without_image_id}
use Rattle.model_draw_parts.proofs.images.Finds.{new-image}
use Rattle.model_draw_parts.proofs.images.Steps.{released-none, released-stays}
use Rattle.model_draw_parts.proofs.images.Ties.{find-put}
use Rattle.model_draw.specs.draw.Orders.{manager}
use Rattle.law_shown.proofs.shown.Following.{shown_used}
use Rattle.law_shown.proofs.shown.Tests.{find-any, first_true, same}
use Rattle.law_likeness.proofs.freeing.Freeing.{none_ended}
use Rattle.law_menus.specs.inked.Inked.{IsWindowTie, connection}

-- ---- an id among others

-- where none is found that passes, all are kept that do not
all_kept : (p : ImageId → Bool) (xs : List ImageId) → find p xs ≡ None → filter (λ e. not (p e)) xs ≡ xs
all_kept p [] none = refl
all_kept p (x ∷ xs) none = by (all_kept p xs) (p x) none
  where
    by : (find p xs ≡ None → filter (λ e. not (p e)) xs ≡ xs) → (b : Bool) → cond b (Some x) (find p xs) ≡ None → cond (not b) (x ∷ filter (λ e. not (p e)) xs) (filter (λ e. not (p e)) xs) ≡ x ∷ xs
    by more true none = absurd cc
    by more false none = ap (λ (ys : List ImageId). x ∷ ys) (more none)

-- an id that is put among others and goes again
gone_again : (p : ImageId → Bool) (e : ImageId) (xs : List ImageId) → p e ≡ true → find p xs ≡ None → filter (λ x. not (p x)) (put_image_id e xs) ≡ xs
gone_again p e [] is none = rw is refl
gone_again p e (x ∷ xs) is none = by (gone_again p e xs is) (p x) refl (comes_before e.client e.id x.client x.id) none
  where
    by : (find p xs ≡ None → filter (λ y. not (p y)) (put_image_id e xs) ≡ xs) → (b : Bool) → p x ≡ b → (c : Bool) → cond b (Some x) (find p xs) ≡ None → filter (λ y. not (p y)) (cond c (e ∷ x ∷ xs) (x ∷ put_image_id e xs)) ≡ x ∷ xs
    by more true at c none = absurd cc
    by more false at true none = rw (is, at) (ap (λ (ys : List ImageId). x ∷ ys) (all_kept p xs none))
    by more false at false none = rw at (ap (λ (ys : List ImageId). x ∷ ys) (more none))

-- ---- the id of a name

-- the id 7 of the image with a name
abbrev entry : Tie → ImageId
entry t = record { client = connection; id = 7; image = t.image; tie = Some t.number }

abbrev pub with_named : Book → Tie → Book
with_named book t = record book { image_ids = put_image_id (entry t) book.image_ids }

module _ (book : Book) (name : List ℕ) (t : Tie) (found : tie_of book name ≡ Some t) (free : image_id book connection 7 ≡ None) where
  pub name_adds : add_named book connection 7 name ≡ Ok (with_named book t)
  unfolding add_named
  name_adds = rw (free, found) refl

  entry_there : image_id (with_named book t) connection 7 ≡ Some (entry t)
  entry_there = new-image (λ e. (e.client == connection) && (e.id == 7)) (entry t) book.image_ids free refl

  tied_here : list_any (λ u. u.number == t.number) book.ties ≡ true
  tied_here = find-any _ (λ (u : Tie). u.number == t.number) book.ties t found (same t.number)

  pub named_there : image (with_named book t) connection 7 ≡ Ok t.image
  unfolding image
  named_there = rw (entry_there, tied_here) refl

  -- and the connection's other ids show what they showed
  pub others_there : (id i : ℕ) → 0 < id → id < 7 → image_id book connection id ≡ Some (record { client = connection; id = id; image = i; tie = None }) → image (with_named book t) connection id ≡ Ok i
  unfolding image
  others_there id i some few there =
      let other : (7 == id) ≡ false = ne_eqb 7 id (λ e. omega (arith, e, few)) in
      let nor : (connection == cond (id == 0) 0 connection && 7 == id) ≡ false = rw other (and_none (connection == cond (id == 0) 0 connection)) in
      rw (find-put _ (entry t) book.image_ids nor ∙ there) refl
    where
      and_none : (b : Bool) → (b && false) ≡ false
      and_none true = refl
      and_none false = refl

  -- It is freed, and nothing else goes.
  pub named_freed : (window : ℕ) (e : ImageId) → image_id book manager window ≡ Some e → e.image ≡ t.image → All IsWindowTie book.ties → free_id (with_named book t) connection 7 ≡ Ok (nothing_freed book)
  unfolding free_id
  named_freed window e there same_image ties = rw entry_there (ap Ok all_same)
    where
      less : without_image_id (with_named book t) connection 7 ≡ book
      less = λ i. record book { image_ids = gone_again (is_image_id connection 7) (entry t) book.image_ids refl free i }

      used : is_used book (Image t.image) ≡ true
      used = ap (λ (i : ℕ). is_used book (Image i)) (sym same_image) ∙ shown_used book manager window e there

      releases : freed_image_id (nothing_freed (with_named book t)) (entry t) ≡ nothing_freed book
      releases =
          ap (λ (b : Book). released (nothing_freed b) (Image t.image ∷ [])) less
          ∙ released-stays (nothing_freed book) (Image t.image) [] (first_true (is_used book (Image t.image)) _ used)
          ∙ released-none (nothing_freed book)

      stay : All (λ u. is_tied_by connection 7 u ≡ false) book.ties
      stay = All-weaker IsWindowTie (λ u. is_tied_by connection 7 u ≡ false) (λ u is. ap (λ (k : ℕ). (k == connection) && (u.id == 7)) is.client) book.ties ties

      all_same : with_ties_ended (is_tied_by connection 7) (freed_image_id (nothing_freed (with_named book t)) (entry t)) ≡ nothing_freed book
      all_same = ap (with_ties_ended (is_tied_by connection 7)) releases ∙ none_ended (is_tied_by connection 7) (nothing_freed book) stay
