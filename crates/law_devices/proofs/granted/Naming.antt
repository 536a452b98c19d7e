-- What the window manager does to its books for the image of a window: one device.
use Rattle.std.proofs.Common.{◌≡◌, ◌||◌, ◌&&◌, ◌+◌, ◌++◌, ℕ, Bool, true, false, List, [], ◌∷◌, Option, Some, None, Ok, refl, ap, ◌∙◌, arith}
use Rattle.std.specs.Prelude.{◌==◌, All, get_or, is_some, not}
use Rattle.std.specs.List.{list_any}
use Rattle.std.specs.Option.{option_map_or}
use Rattle.std.proofs.lemmas.Bool.Decides.{nat_tests}
use Rattle.std.specs.Result.{result_unwrap_or}
use Rattle.std.specs.Str.{bytes_eq}
use Rattle.std.proofs.lemmas.Bool.{eqb-true}
use Rattle.std.proofs.lemmas.List.Elements.{All-filter, filter_passes}
use Rattle.model_text.specs.text.Outcome.{Outcome, ◌>>=◌, refuse_if, value_or_refuse}
use Rattle.model_draw_parts.specs.declared.images.ImageId.{ImageId}
use Rattle.model_draw_parts.specs.declared.images.ScreenId.{ScreenId}
use Rattle.model_draw_parts.specs.declared.images.Thing.TheVariants.{Image, Screen}
use Rattle.model_draw_parts.specs.declared.images.Tie.{Tie}
use Rattle.model_draw_parts.specs.images.Book.{Book, image, image_id, is_kept_name, screen_id, screen_of, tie, tie_of}
use Rattle.model_draw_parts.specs.images.Release.{Freed, is_tied_by, is_used, nothing_freed, released, with_gone}
use Rattle.model_draw_parts.proofs.images.Steps.{released-goes, released-none, released-stays}
use Rattle.model_draw.specs.draw.World.{World}
use Rattle.model_draw.specs.draw.Orders.{image_freed, manager, rio_screen, stands_on, with_window_id, with_window_name}
use Rattle.law_shown.proofs.lasting.Ordering.{free_taken}
use Rattle.law_shown.proofs.shown.Tests.{find-any, first_true, neither, not-true, not_both}
use Rattle.law_likeness.specs.likeness.Likeness.{is_root}
use Rattle.law_likeness.proofs.freeing.Pairs.{none_found}
use Rattle.law_likeness.proofs.making.Making.{entered}
use Rattle.law_others.proofs.managed.Ordering.{id_given}
use Rattle.law_devices.proofs.granted.Untying.{bereft}
use Rattle.law_devices.proofs.granted.Freed.{freed_is}
use Rattle.law_devices.proofs.granted.Granting.{granted, new_id}

-- ---- the root rio's screen

pub root_screen : (w : World) (s : ℕ) → is_root w.book s ≡ true → rio_screen w 0 ≡ s
root_screen w s root = by (screen_id w.book manager 0) root
  where
    by : (o : Option ScreenId) → option_map_or (λ (e : ScreenId). e.screen == s) o false ≡ true → option_map_or (λ (e : ScreenId). e.screen) o 0 ≡ s
    by None is = absurd cc
    by (Some e) is = eqb-true e.screen s is

pub root_there : (w : World) (s : ℕ) → is_root w.book s ≡ true → is_some (screen_id w.book manager 0) ≡ true
root_there w s root = by (screen_id w.book manager 0) root
  where
    by : (o : Option ScreenId) → option_map_or (λ (e : ScreenId). e.screen == s) o false ≡ true → is_some o ≡ true
    by None is = absurd cc
    by (Some e) is = refl

root_used : (book : Book) (s : ℕ) → is_root book s ≡ true → is_used book (Screen s) ≡ true
root_used book s root = by (screen_id book manager 0) refl root
  where
    by : (o : Option ScreenId) → screen_id book manager 0 ≡ o → option_map_or (λ (e : ScreenId). e.screen == s) o false ≡ true → is_used book (Screen s) ≡ true
    by None found at = absurd cc
    by (Some e) found at = first_true _ _ (find-any (λ (z : ScreenId). (z.client == manager) && (z.id == 0)) (λ z. z.screen == s) book.screen_ids e found at)

pub stands_root : (w : World) (i s : ℕ) → screen_of w.book i ≡ Some s → is_root w.book s ≡ true → stands_on w.book i (rio_screen w 0) ≡ true
stands_root w i s on root =
    ap (λ (o : Option ℕ). option_map_or (λ t. t == rio_screen w 0) o false) on ∙ ap (λ (n : ℕ). s == n) (root_screen w s root) ∙ itself s
  where
    itself : (n : ℕ) → (n == n) ≡ true
    itself n = grind (arith, nat_tests)

-- ---- a new image with its name

stale_none : (e : ImageId) → e.tie ≡ None → (book : Book) → (refuse_if (option_map_or (λ number. not (list_any (λ t. t.number == number) book.ties)) e.tie false) 18) ≡ Ok tt
stale_none e plain book = rw plain refl

pub named_given : (book : Book) (serial i s : ℕ) (name : List ℕ) → image_id book manager serial ≡ None → tie_of book name ≡ None
    → with_window_name (with_window_id book serial i s) serial name ≡ granted book serial i s name
unfolding tie image
named_given book serial i s name none free =
    let one : Book = entered book manager serial i (Some s) in
    ap (λ (b : Book). with_window_name b serial name) (id_given book serial i s (free_taken book serial none))
    ∙ ap (λ (o : Option ImageId). result_unwrap_or (tied o (is_some (tie_of book name))) one) (new_id book serial i s name none)
    ∙ ap (λ (o : Option Tie). result_unwrap_or (tied (Some (record { client = manager; id = serial; image = i; tie = None })) (is_some o)) one) free
  where
    tied : Option ImageId → Bool → Outcome Book
    tied o has =
        (value_or_refuse o 4 >>= λ e. refuse_if (option_map_or (λ number. not (list_any (λ t. t.number == number) book.ties)) e.tie false) 18 >>= λ _. Ok e.image)
        >>= λ j. refuse_if (has || is_kept_name manager name) 16 >>= λ _.
        Ok
        (record (entered book manager serial i (Some s)) {
          ties = book.ties ++ record { name = name; number = book.next_tie; image = j; client = manager; id = serial } ∷ [];
          next_tie = book.next_tie + 1;
        })

-- ---- the old image

module _ (w : World) (serial : ℕ) (counted : (serial == 0) ≡ false) (e : ImageId) (found : image_id w.book manager serial ≡ Some e) where
  abbrev x : Book
  x = bereft w.book serial

  -- it stays while something refers to it
  pub freed_used : is_used x (Image e.image) ≡ true → image_freed w.book serial ≡ nothing_freed x
  freed_used used =
      freed_is w.book serial counted e found ∙ released-stays (nothing_freed x) (Image e.image) [] (first_true (is_used x (Image e.image)) _ used) ∙ released-none (nothing_freed x)

  -- and else it goes, and nothing with it
  pub freed_unused : (s : ℕ) → screen_of w.book e.image ≡ Some s → is_root w.book s ≡ true → is_used x (Image e.image) ≡ false → image_freed w.book serial ≡ with_gone (nothing_freed x) (Image e.image)
  freed_unused s on root unused =
      let gone : Freed = with_gone (nothing_freed x) (Image e.image) in
      freed_is w.book serial counted e found ∙ released-goes (nothing_freed x) (Image e.image) [] (neither (is_used x (Image e.image)) false unused refl)
      ∙ ap (λ (o : Option ℕ). released gone (option_map_or (λ t. Screen t ∷ []) o [] ++ [])) on
      ∙ released-stays gone (Screen s) [] (first_true (is_used gone.book (Screen s)) _ (root_used_left s root)) ∙ released-none gone
    where
      root_used_left : (s : ℕ) → is_root w.book s ≡ true → is_used (with_gone (nothing_freed x) (Image e.image)).book (Screen s) ≡ true
      root_used_left s root = root_used (with_gone (nothing_freed x) (Image e.image)).book s root

  -- no name is left that only the window had
  pub none_named : (name : List ℕ) → All (λ t. bytes_eq t.name name ≡ true → is_tied_by manager serial t ≡ true) w.book.ties → tie_of x name ≡ None
  none_named name free =
      none_found (λ (t : Tie). bytes_eq t.name name) x.ties (λ k d lt.
      let t : Tie = get_or x.ties k d in
      not-true (bytes_eq t.name name) (λ at.
      not_both (is_tied_by manager serial t)
      (All-filter (λ t. not (is_tied_by manager serial t)) (λ t. bytes_eq t.name name ≡ true → is_tied_by manager serial t ≡ true) w.book.ties free k d lt at)
      (fails (is_tied_by manager serial t) (filter_passes (λ (t : Tie). not (is_tied_by manager serial t)) w.book.ties k d lt))))
    where
      fails : (b : Bool) → not b ≡ true → b ≡ false
      fails true passes = absurd cc
      fails false passes = refl
