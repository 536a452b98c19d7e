-- What holds of all ids, with one more among them.
use Rattle.std.proofs.Common.{◌≡◌, ◌<◌, ℕ, Bool, true, false, List, [], ◌∷◌, Some, None, sym, ap, subst, ◌∙◌, eq-eqb}
use Rattle.std.specs.Prelude.{◌==◌, All, find, get_or, if◌then◌else◌}
use Rattle.std.specs.List.{list_any}
use Rattle.std.proofs.lemmas.Bool.{or_parts}
use Rattle.std.proofs.lemmas.List.Elements.{All-cons, All-head, All-nil, All-tail}
use Rattle.model_draw_parts.specs.declared.images.ImageId.{ImageId}
use Rattle.model_draw_parts.specs.declared.images.ScreenId.{ScreenId}
use Rattle.model_draw_parts.specs.declared.images.Tie.{Tie}
use Rattle.model_draw_parts.specs.images.Book.{Book, comes_before, put_image_id, put_screen_id}
use Rattle.law_shown.proofs.shown.Tests.{not_both, same_Some}
use Rattle.law_likeness.specs.likeness.Likeness.{AreNumbered}

pub all_put : (P : ImageId → Type 0) (e : ImageId) (xs : List ImageId) → P e → All P xs → All P (put_image_id e xs)
all_put P e [] one all = All-cons P e [] one (All-nil P)
all_put P e (x ∷ xs) one all = by (all_put P e xs one (All-tail P x xs all)) (comes_before e.client e.id x.client x.id)
  where
    by : All P (put_image_id e xs) → (b : Bool) → All P (if b then e ∷ x ∷ xs else x ∷ put_image_id e xs)
    by more true = All-cons P e (x ∷ xs) one all
    by more false = All-cons P x (put_image_id e xs) (All-head P x xs all) more

pub all_put_screen : (P : ScreenId → Type 0) (e : ScreenId) (xs : List ScreenId) → P e → All P xs → All P (put_screen_id e xs)
all_put_screen P e [] one all = All-cons P e [] one (All-nil P)
all_put_screen P e (x ∷ xs) one all = by (all_put_screen P e xs one (All-tail P x xs all)) (comes_before e.client e.id x.client x.id)
  where
    by : All P (put_screen_id e xs) → (b : Bool) → All P (if b then e ∷ x ∷ xs else x ∷ put_screen_id e xs)
    by more true = All-cons P e (x ∷ xs) one all
    by more false = All-cons P x (put_screen_id e xs) (All-head P x xs all) more

-- where none passes a test, each fails it
pub none_of_all : {X : Type 0} (p : X → Bool) (xs : List X) → list_any p xs ≡ false → All (λ x. p x ≡ false) xs
none_of_all p [] none = All-nil (λ x. p x ≡ false)
none_of_all p (x ∷ xs) none =
    let parts = or_parts (p x) (list_any p xs) none in
    All-cons (λ x. p x ≡ false) x xs parts.0 (none_of_all p xs parts.1)

-- what holds of all holds of one that is found
pub all_found : {X : Type 0} (P : X → Type 0) (p : X → Bool) (xs : List X) (x : X) → All P xs → find p xs ≡ Some x → P x
all_found P p [] x all is = absurd cc
all_found {X = X} P p (y ∷ ys) x all is = by (λ k. all_found P p ys x (All-tail P y ys all) k) (p y) is
  where
    by : (find p ys ≡ Some x → P x) → (b : Bool) → (if b then Some y else find p ys) ≡ Some x → P x
    by more true is = let same : y ≡ x = cc in subst P same (All-head P y ys all)
    by more false is = more is

-- a number is none that a test excludes
pub other_number : {P : Type 0} (n m : ℕ) → (n == m) ≡ false → n ≡ m → P
other_number n m apart is = absurd (not_both (n == m) (eq-eqb n m is) apart)

-- ---- ties

-- a book with another list of windows, and an id more that no name made
pub numbered_plain : (book next : Book) (e : ImageId) → e.tie ≡ None → next.image_ids ≡ put_image_id e book.image_ids → next.ties ≡ book.ties → next.next_tie ≡ book.next_tie
    → AreNumbered book → AreNumbered next
numbered_plain book next e plain ids ties count old = record {
  given = rw (ties, count) old.given;
  once = rw ties old.once;
  known = rw (ids, count) (all_put (λ e. (n : ℕ) → e.tie ≡ Some n → n < book.next_tie) e book.image_ids (λ n is. absurd (let none = sym plain ∙ is in cc)) old.known);
  shown = rw (ids, ties) (all_put (λ e. All (λ t. e.tie ≡ Some t.number → t.image ≡ e.image) book.ties) e book.image_ids
      (λ k d lt is. absurd (let none = sym plain ∙ is in cc)) old.shown);
}

-- an id more that the name of a tie made
pub numbered_named : (book next : Book) (e : ImageId) (s : Tie) (p : Tie → Bool) → find p book.ties ≡ Some s → e.tie ≡ Some s.number → e.image ≡ s.image
    → next.image_ids ≡ put_image_id e book.image_ids → next.ties ≡ book.ties → next.next_tie ≡ book.next_tie → AreNumbered book → AreNumbered next
numbered_named book next e s p found tied image ids ties count old = record {
  given = rw (ties, count) old.given;
  once = rw ties old.once;
  known = rw (ids, count) (all_put (λ e. (n : ℕ) → e.tie ≡ Some n → n < book.next_tie) e book.image_ids
      (λ n is. subst (λ (m : ℕ). m < book.next_tie) (same_Some s.number n (sym tied ∙ is)) (all_found (λ t. t.number < book.next_tie) p book.ties s old.given found)) old.known);
  shown = rw (ids, ties) (all_put (λ e. All (λ t. e.tie ≡ Some t.number → t.image ≡ e.image) book.ties) e book.image_ids
      (λ k d lt is. ap (λ (t : Tie). t.image) (one (get_or book.ties k d) (old.once k d lt) (same_Some s.number (get_or book.ties k d).number (sym tied ∙ is))) ∙ sym image) old.shown);
}
  where
    one : (t : Tie) → find (λ u. u.number == t.number) book.ties ≡ Some t → s.number ≡ t.number → t ≡ s
    one t there is =
        let here = all_found (λ t. find (λ u. u.number == t.number) book.ties ≡ Some t) p book.ties s old.once found in
        same_Some t s (sym there ∙ ap (λ (n : ℕ). find (λ u. u.number == n) book.ties) (sym is) ∙ here)
