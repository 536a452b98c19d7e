-- A draw device is whole still with one more id for a screen, and with one more screen.
use Rattle.std.proofs.Common.{◌≡◌, ℕ, Bool, true, false, length, take, Option, Some, None, Ok, inl, inr, refl, sym, ap, subst, ◌∙◌}
use Rattle.std.specs.Prelude.{◌-◌, ◌==◌, is_some, option_map}
use Rattle.std.specs.Option.{option_map_or}
use Rattle.std.specs.List.{list_any}
use Rattle.std.proofs.lemmas.Bool.{eqb-true, false_from_ne_true}
use Rattle.model_forest.specs.World.{IsLive}
use Rattle.model_draw_parts.specs.declared.images.Screen.{Screen as Filled}
use Rattle.model_draw_parts.specs.declared.images.ScreenId.{ScreenId}
use Rattle.model_draw_parts.specs.declared.images.Thing.TheVariants.{Image, Screen}
use Rattle.model_draw_parts.specs.images.Book.{Book, is_screen_id_taken, new_screen, next_screen, put_screen_id, screen_numbered, screen_of, with_screen}
use Rattle.model_draw_parts.specs.images.Release.{is_used, refers_to}
use Rattle.model_draw_parts.proofs.images.Finds.{any-put_screen, put-screen}
use Rattle.model_draw.specs.draw.World.{World, with_book}
use Rattle.law_shown.specs.shown.Showing.{AreFree}
use Rattle.law_shown.proofs.shown.Spare.{HasNew, has-new, next-free}
use Rattle.law_shown.proofs.shown.Tests.{either_true, first_true, not_both, refuse_ok, same_Ok, second_true, turned}
use Rattle.law_likeness.specs.making.Standing.{IsStanding, IsWhole, standing_on}
use Rattle.law_likeness.proofs.making.Standing.{stands_used}
use Rattle.law_likeness.proofs.whole.Rising.{rise_screen, untaken_screen}

-- ---- one more id for a screen that is there

pub screen_id_whole : (w : World) (e : ScreenId) (public : Bool) → IsWhole w → is_screen_id_taken w.book e.client e.id public ≡ false → is_some (screen_numbered w.book e.screen) ≡ true
    → IsWhole (with_book w (record w.book { screen_ids = put_screen_id e w.book.screen_ids }))
screen_id_whole w e public whole free there = record {
  standing = record {
    live = λ i used. old.live i used;
    screens = screens;
    stands = old.stands;
    windows = old.windows;
    placed = old.placed;
    finds = record { image_ids = old.finds.image_ids; screen_ids = put-screen w.book e public free old.finds.screen_ids; windows = old.finds.windows };
  };
  listed = record {
    image_ids = whole.listed.image_ids;
    screen_ids = rise_screen e w.book.screen_ids whole.listed.screen_ids (untaken_screen w.book e.client e.id public free);
    own = whole.listed.own;
    clients = whole.listed.clients;
  };
  used = λ i live. whole.used i live;
  screens_used = λ s is. elim (either_true (list_any (λ x. x.screen == s) w.book.screen_ids) _ (whole.screens_used s is)) [
    | inl ids ↦ first_true _ _ (any-put_screen (λ x. x.screen == s) e w.book.screen_ids ∙ second_true (e.screen == s) _ ids)
    | inr on ↦ second_true (list_any (λ x. x.screen == s) (put_screen_id e w.book.screen_ids)) _ on
  ];
}
  where
    old : IsStanding w
    old = whole.standing

    screens : (s : ℕ) → is_used (record w.book { screen_ids = put_screen_id e w.book.screen_ids }) (Screen s) ≡ true → is_some (screen_numbered w.book s) ≡ true
    screens s used = elim (either_true (list_any (λ x. x.screen == s) (put_screen_id e w.book.screen_ids)) _ used) [
      | inl ids ↦ elim (either_true (e.screen == s) _ (sym (any-put_screen (λ x. x.screen == s) e w.book.screen_ids) ∙ ids)) [
        | inl new ↦ subst (λ (n : ℕ). is_some (screen_numbered w.book n) ≡ true) (eqb-true e.screen s new) there
        | inr before ↦ old.screens s (first_true _ _ before)
      ]
      | inr on ↦ old.screens s (second_true (list_any (λ x. x.screen == s) w.book.screen_ids) _ on)
    ]

-- ---- one more screen

module _ (w : World) (whole : IsWhole w) (k id : ℕ) (public : Bool) (image fill : ℕ) (spare : AreFree w.book.screens w.book.spare) (free : is_screen_id_taken w.book k id public ≡ false)
    (ground : is_used w.book (Image image) ≡ true) (filler : is_used w.book (Image fill) ≡ true) where
  abbrev old : IsStanding w
  old = whole.standing

  abbrev number : ℕ
  number = next_screen w.book

  abbrev screen_entry : ScreenId
  screen_entry = record { client = k; id = id; screen = number; public = public }

  abbrev new_one : Filled
  new_one = record { image = image; fill = fill }

  abbrev screened : Book
  screened = record w.book {
    screen_ids = put_screen_id screen_entry w.book.screen_ids;
    screens = with_screen w.book.screens number new_one;
    spare = take (length w.book.spare - 1) w.book.spare;
  }

  new : HasNew w.book.screens (with_screen w.book.screens number new_one) number new_one
  new = has-new w.book.screens number new_one (next-free w.book spare).0

  -- a screen that was there is another
  another : (s : ℕ) → is_some (screen_numbered w.book s) ≡ true → (s == number) ≡ false
  another s there =
      false_from_ne_true (s == number) (λ at.
      not_both (is_some (screen_numbered w.book s)) there (ap (λ (n : ℕ). is_some (screen_numbered w.book n)) (eqb-true s number at) ∙ ap is_some (next-free w.book spare).0.empty))

  stays : (s : ℕ) → is_some (screen_numbered w.book s) ≡ true → screen_numbered screened s ≡ screen_numbered w.book s
  stays s there = new.others s (another s there)

  used_live : (i : ℕ) → is_used screened (Image i) ≡ true → IsLive w.images i
  used_live i used = elim (either_true (list_any (λ e. e.image == i) w.book.image_ids) _ used) [
    | inl ids ↦ old.live i (first_true _ _ ids)
    | inr screens ↦ elim (new.any (refers_to i) screens) [
      | inl at ↦ elim (either_true (image == i) (fill == i) at) [
        | inl is ↦ subst (λ (n : ℕ). IsLive w.images n) (eqb-true image i is) (old.live image ground)
        | inr is ↦ subst (λ (n : ℕ). IsLive w.images n) (eqb-true fill i is) (old.live fill filler)
      ]
      | inr before ↦ old.live i (second_true (list_any (λ e. e.image == i) w.book.image_ids) _ before)
    ]
  ]

  screens : (s : ℕ) → is_used screened (Screen s) ≡ true → is_some (screen_numbered screened s) ≡ true
  screens s used = elim (either_true (list_any (λ e. e.screen == s) (put_screen_id screen_entry w.book.screen_ids)) _ used) [
    | inl ids ↦ elim (either_true (number == s) _ (sym (any-put_screen (λ e. e.screen == s) screen_entry w.book.screen_ids) ∙ ids)) [
      | inl at ↦ subst (λ (n : ℕ). is_some (screen_numbered screened n) ≡ true) (eqb-true number s at) (ap is_some new.at)
      | inr before ↦ still (old.screens s (first_true _ _ before))
    ]
    | inr on ↦ still (old.screens s (second_true (list_any (λ e. e.screen == s) w.book.screen_ids) _ on))
  ]
    where
      still : is_some (screen_numbered w.book s) ≡ true → is_some (screen_numbered screened s) ≡ true
      still there = ap is_some (stays s there) ∙ there

  grounds : (n : ℕ) (o : Option ℕ) → screen_of w.book n ≡ o → option_map (standing_on w.book) o ≡ option_map (standing_on screened) o
  grounds n None on = refl
  grounds n (Some s) on =
      ap (λ (x : Option Filled). Some (record { parent = option_map_or (λ (e : Filled). e.image) x 0; fill = option_map_or (λ (e : Filled). e.fill) x 0 }))
      (sym (stays s (old.screens s (stands_used w.book n s on))))

  live_used : (i : ℕ) → IsLive w.images i → is_used screened (Image i) ≡ true
  live_used i live = elim (either_true (list_any (λ e. e.image == i) w.book.image_ids) _ (whole.used i live)) [
    | inl ids ↦ first_true _ _ ids
    | inr before ↦ second_true (list_any (λ e. e.image == i) w.book.image_ids) _ (new.old (refers_to i) refl before)
  ]

  there_used : (s : ℕ) → is_some (screen_numbered screened s) ≡ true → is_used screened (Screen s) ≡ true
  there_used s there = by (number == s) refl
    where
      by : (is : Bool) → (number == s) ≡ is → is_used screened (Screen s) ≡ true
      by true is = first_true _ _ (any-put_screen (λ e. e.screen == s) screen_entry w.book.screen_ids ∙ first_true (number == s) _ is)
      by false is = elim (either_true (list_any (λ e. e.screen == s) w.book.screen_ids) _ (whole.screens_used s (ap is_some (sym (new.others s (turned s number ∙ is))) ∙ there))) [
        | inl ids ↦ first_true _ _ (any-put_screen (λ e. e.screen == s) screen_entry w.book.screen_ids ∙ second_true (number == s) _ ids)
        | inr on ↦ second_true (list_any (λ e. e.screen == s) (put_screen_id screen_entry w.book.screen_ids)) _ on
      ]

  pub screened_whole : IsWhole (with_book w screened)
  screened_whole = record {
    standing = record {
      live = used_live;
      screens = screens;
      stands = λ n live. old.stands n live ∙ grounds n (screen_of w.book n) refl;
      windows = old.windows;
      placed = old.placed;
      finds = record { image_ids = old.finds.image_ids; screen_ids = put-screen w.book screen_entry public free old.finds.screen_ids; windows = old.finds.windows };
    };
    listed = record {
      image_ids = whole.listed.image_ids;
      screen_ids = rise_screen screen_entry w.book.screen_ids whole.listed.screen_ids (untaken_screen w.book k id public free);
      own = whole.listed.own;
      clients = whole.listed.clients;
    };
    used = live_used;
    screens_used = there_used;
  }

pub new_screen_whole : (w : World) (k id : ℕ) (public : Bool) (image fill : ℕ) (made : Book) → IsWhole w → AreFree w.book.screens w.book.spare → is_used w.book (Image image) ≡ true → is_used w.book (Image fill) ≡ true
    → new_screen w.book k id public image fill ≡ Ok made → IsWhole (with_book w made)
unfolding new_screen
new_screen_whole w k id public image fill made whole spare ground filler e =
    let free = refuse_ok (is_screen_id_taken w.book k id public) 7 _ made e in
    subst (λ (b : Book). IsWhole (with_book w b)) (same_Ok _ made free.1) (screened_whole w whole k id public image fill spare free.0 ground filler)
