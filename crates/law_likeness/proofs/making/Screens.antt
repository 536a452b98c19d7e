-- A book with one more screen.
use Rattle.std.proofs.Common.{◌≡◌, ◌||◌, ℕ, Bool, true, false, List, length, take, Option, Some, None, Ok, inl, inr, refl, sym, ap, subst, ◌∙◌}
use Rattle.std.specs.Prelude.{◌==◌, ◌-◌, find, is_some}
use Rattle.std.specs.List.{list_any}
use Rattle.std.specs.Option.{option_map_or}
use Rattle.std.proofs.lemmas.Bool.{eqb-true, false_from_ne_true}
use Rattle.model_draw_parts.specs.declared.images.ScreenId.{ScreenId}
use Rattle.model_draw_parts.specs.declared.images.Screen.{Screen as Filled}
use Rattle.model_draw_parts.specs.declared.images.Thing.TheVariants.{Screen}
use Rattle.model_draw_parts.specs.images.Book.{Book, is_screen_id_taken, new_screen, next_screen, put_screen_id, screen_id, screen_numbered, with_screen}
use Rattle.model_draw_parts.specs.images.Release.{is_used}
use Rattle.model_draw_parts.proofs.images.Finds.{find-screen, new-screen}
use Rattle.model_draw_parts.proofs.images.Freed.{any-at}
use Rattle.model_draw.specs.draw.World.{World}
use Rattle.model_draw.specs.draw.Orders.{manager}
use Rattle.law_likeness.specs.agreement.Agreement.{SameOption}
use Rattle.law_shown.specs.shown.Showing.{IsOrderly}
use Rattle.law_shown.proofs.shown.Tests.{either_true, first_true, not_both, second_true}
use Rattle.law_shown.proofs.shown.Spare.{HasNew, next-free}
use Rattle.law_shown.proofs.shown.Following.{screen_used}
use Rattle.law_likeness.specs.likeness.Likeness.{is_root}

-- ---- a screen id that is put where none such was

pub screen_put : (P : ScreenId → ScreenId → Type 0) (p q : ScreenId → Bool) (e f : ScreenId) (xs ys : List ScreenId) → p e ≡ q f → P e f
    → (p e ≡ true → (find p xs ≡ None) × (find q ys ≡ None)) → SameOption P (find p xs) (find q ys)
    → SameOption P (find p (put_screen_id e xs)) (find q (put_screen_id f ys))
screen_put P p q e f xs ys test one free both = by (p e) refl
  where
    by : (b : Bool) → p e ≡ b → SameOption P (find p (put_screen_id e xs)) (find q (put_screen_id f ys))
    by true at =
        let none = free at in
        rw (new-screen p e xs none.0 at, new-screen q f ys none.1 (sym test ∙ at)) one
    by false at = rw (find-screen p e xs at, find-screen q f ys (sym test ∙ at)) both

-- ---- a book with one more screen

abbrev pub screened : Book → (k id image fill : ℕ) → Book
screened book k id image fill = record book {
  screen_ids = put_screen_id (record { client = k; id = id; screen = next_screen book; public = false }) book.screen_ids;
  screens = with_screen book.screens (next_screen book) (record { image = image; fill = fill });
  spare = take (length book.spare - 1) book.spare;
}

pub screen_ok : (book : Book) (k id image fill : ℕ) → is_screen_id_taken book k id false ≡ false → new_screen book k id false image fill ≡ Ok (screened book k id image fill)
unfolding new_screen
screen_ok book k id image fill free = rw free refl

pub both_ways : (x y : Bool) → (x ≡ true → y ≡ true) → (y ≡ true → x ≡ true) → x ≡ y
both_ways true y h k = sym (h refl)
both_ways false true h k = k refl
both_ways false false h k = refl

-- what tests of a book's screens say with one more
pub any_new : (xs next : List (Option Filled)) (number : ℕ) (s : Filled) → HasNew xs next number s → (p : Option Filled → Bool) → p None ≡ false → list_any p next ≡ (p (Some s) || list_any p xs)
any_new xs next number s new p none =
    both_ways (list_any p next) (p (Some s) || list_any p xs)
    (λ h. elim (new.any p h) [ inl here ↦ first_true (p (Some s)) _ here | inr old ↦ second_true (p (Some s)) _ old ])
    (λ h. elim (either_true (p (Some s)) _ h) [
      | inl here ↦ any-at p next number None none (ap p new.at ∙ here)
      | inr old ↦ new.old p none old
    ])

-- a number of a screen that is not there
pub record IsNext (book : Book) (n : ℕ) : Type 0 where
  pub empty : screen_numbered book n ≡ None
  pub unused : is_used book (Screen n) ≡ false
  pub not_root : is_root book n ≡ false

pub next_empty : (world : World) → IsOrderly world → IsNext world.book (next_screen world.book)
next_empty world orderly = record { empty = empty; unused = unused; not_root = by (screen_id world.book manager 0) refl }
  where
    empty : screen_numbered world.book (next_screen world.book) ≡ None
    empty = (next-free world.book orderly.spare).0.empty

    unused : is_used world.book (Screen (next_screen world.book)) ≡ false
    unused =
        false_from_ne_true (is_used world.book (Screen (next_screen world.book))) (λ used.
        not_both (is_some (screen_numbered world.book (next_screen world.book))) (orderly.screens (next_screen world.book) used) (ap is_some empty))

    by : (o : Option ScreenId) → screen_id world.book manager 0 ≡ o → option_map_or (λ e. e.screen == next_screen world.book) o false ≡ false
    by None found = refl
    by (Some e) found =
        false_from_ne_true (e.screen == next_screen world.book) (λ at.
        not_both (is_used world.book (Screen (next_screen world.book)))
        (subst (λ (s : ℕ). is_used world.book (Screen s) ≡ true) (eqb-true e.screen (next_screen world.book) at) (screen_used world.book manager 0 e found)) unused)
