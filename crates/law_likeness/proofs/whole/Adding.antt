-- A draw device is whole still with one more image and its id, with one more id, and with other connections or ties.
use Rattle.std.proofs.Common.{◌≡◌, ◌&&◌, ℕ, Bool, true, false, List, [], ◌∷◌, Option, Some, None, inl, inr, refl, sym, ap, subst, ◌∙◌}
use Rattle.std.specs.Prelude.{◌==◌, All, is_some, not, option_map}
use Rattle.std.specs.Map.{keys_of}
use Rattle.std.specs.List.{list_any}
use Rattle.std.proofs.lemmas.Bool.{eqb-true, false_from_ne_true}
use Rattle.std.proofs.lemmas.List.Elements.{All-push, All-weaker}
use Rattle.std.proofs.lemmas.List.Folds.{list_any-append}
use Rattle.model_text.specs.map.Ascending.{Ascend}
use Rattle.model_forest.specs.declared.Standing.{Standing as Stood}
use Rattle.model_forest.specs.declared.Window.{Window}
use Rattle.model_forest.specs.World.{World as Images, IsLive, image_at, parent_of}
use Rattle.model_forest.specs.Numbers.{Numbers}
use Rattle.model_draw_parts.specs.declared.images.ImageId.{ImageId}
use Rattle.model_draw_parts.specs.declared.images.OnScreen.{OnScreen}
use Rattle.model_draw_parts.specs.declared.images.Thing.TheVariants.{Image, Screen}
use Rattle.model_draw_parts.specs.declared.images.Tie.{Tie}
use Rattle.model_draw_parts.specs.images.Book.{Book, is_image_id_taken, put_image_id, screen_numbered, screen_of, with_window}
use Rattle.model_draw_parts.specs.images.Release.{is_used}
use Rattle.model_draw_parts.proofs.images.Finds.{put-image, put-window}
use Rattle.model_draw_parts.proofs.images.Ties.{any-put}
use Rattle.model_draw.specs.draw.World.{Client, World, at_number, with_book}
use Rattle.model_draw.specs.draw.Orders.{manager}
use Rattle.law_shown.proofs.shown.Tests.{either_true, first_false, first_true, not_both, second_true, turned}
use Rattle.law_shown.proofs.lasting.Adding.{window-used}
use Rattle.law_likeness.specs.making.Standing.{IsStanding, IsWhole, standing_on}
use Rattle.law_likeness.proofs.making.Entries.{all_put}
use Rattle.law_likeness.proofs.making.Fresh.{IsFresh, placed_new, placed_other}
use Rattle.law_likeness.proofs.making.Making.{entered, entry}
use Rattle.law_likeness.proofs.whole.Joining.{Joins}
use Rattle.law_likeness.proofs.whole.Resting.{Each}
use Rattle.law_likeness.proofs.whole.Rising.{rise_image, untaken_image}

-- an id 0 that is not taken is the manager's
own_zero : (book : Book) (k id : ℕ) → is_image_id_taken book k id ≡ false → (id == 0) ≡ true → k ≡ manager
own_zero book k id free zero = eqb-true k 0 (by (id == 0) (k == 0) zero (first_false ((id == 0) && not (k == 0)) _ free))
  where
    by : (x y : Bool) → x ≡ true → (x && not y) ≡ false → y ≡ true
    by true true is other = refl
    by true false is other = absurd cc
    by false y is other = absurd cc

pub own_put : (book : Book) (e : ImageId) → is_image_id_taken book e.client e.id ≡ false → All (λ x. (x.id == 0) ≡ true → x.client ≡ manager) book.image_ids
    → All (λ x. (x.id == 0) ≡ true → x.client ≡ manager) (put_image_id e book.image_ids)
own_put book e free own = all_put (λ x. (x.id == 0) ≡ true → x.client ≡ manager) e book.image_ids (own_zero book e.client e.id free) own

-- ---- the same but for the clients, and for the ties

pub clients_whole : (w : World) (clients : List (ℕ × Client)) → Ascend (keys_of clients) → IsWhole w → IsWhole (record w { clients = clients })
clients_whole w clients ascend whole = record {
  standing = record {
    live = whole.standing.live;
    screens = whole.standing.screens;
    stands = whole.standing.stands;
    windows = whole.standing.windows;
    placed = whole.standing.placed;
    finds = whole.standing.finds;
  };
  listed = record { image_ids = whole.listed.image_ids; screen_ids = whole.listed.screen_ids; own = whole.listed.own; clients = ascend };
  used = whole.used;
  screens_used = whole.screens_used;
}

pub ties_whole : (w : World) (ties : List Tie) (next : ℕ) → IsWhole w → IsWhole (with_book w (record w.book { ties = ties; next_tie = next }))
ties_whole w ties next whole = record {
  standing = record {
    live = λ i used. whole.standing.live i used;
    screens = λ s used. whole.standing.screens s used;
    stands = whole.standing.stands;
    windows = whole.standing.windows;
    placed = whole.standing.placed;
    finds = record { image_ids = whole.standing.finds.image_ids; screen_ids = whole.standing.finds.screen_ids; windows = whole.standing.finds.windows };
  };
  listed = record { image_ids = whole.listed.image_ids; screen_ids = whole.listed.screen_ids; own = whole.listed.own; clients = whole.listed.clients };
  used = λ i live. whole.used i live;
  screens_used = λ s there. whole.screens_used s there;
}

-- ---- one more id for an image that is used

pub id_whole : (w : World) (e : ImageId) → IsWhole w → is_image_id_taken w.book e.client e.id ≡ false → is_used w.book (Image e.image) ≡ true
    → IsWhole (with_book w (record w.book { image_ids = put_image_id e w.book.image_ids }))
id_whole w e whole free used = record {
  standing = record {
    live = λ i now. old.live i (was i now);
    screens = λ s now. old.screens s now;
    stands = old.stands;
    windows = old.windows;
    placed = old.placed;
    finds = record { image_ids = put-image w.book e free old.finds.image_ids; screen_ids = old.finds.screen_ids; windows = old.finds.windows };
  };
  listed = record {
    image_ids = rise_image e w.book.image_ids whole.listed.image_ids (untaken_image w.book e.client e.id free);
    screen_ids = whole.listed.screen_ids;
    own = own_put w.book e free whole.listed.own;
    clients = whole.listed.clients;
  };
  used = λ i live. now i (whole.used i live);
  screens_used = λ s there. whole.screens_used s there;
}
  where
    old : IsStanding w
    old = whole.standing

    more : Book
    more = record w.book { image_ids = put_image_id e w.book.image_ids }

    was : (i : ℕ) → is_used more (Image i) ≡ true → is_used w.book (Image i) ≡ true
    was i is = elim (either_true (list_any (λ x. x.image == i) (put_image_id e w.book.image_ids)) _ is) [
      | inl ids ↦ elim (either_true (e.image == i) _ (sym (any-put (λ x. x.image == i) e w.book.image_ids) ∙ ids)) [
        | inl new ↦ subst (λ (n : ℕ). is_used w.book (Image n) ≡ true) (eqb-true e.image i new) used
        | inr before ↦ first_true _ _ before
      ]
      | inr screens ↦ second_true (list_any (λ x. x.image == i) w.book.image_ids) _ screens
    ]

    now : (i : ℕ) → is_used w.book (Image i) ≡ true → is_used more (Image i) ≡ true
    now i is = elim (either_true (list_any (λ x. x.image == i) w.book.image_ids) _ is) [
      | inl ids ↦ first_true _ _ (any-put (λ x. x.image == i) e w.book.image_ids ∙ second_true (e.image == i) _ ids)
      | inr screens ↦ second_true (list_any (λ x. x.image == i) (put_image_id e w.book.image_ids)) _ screens
    ]

-- ---- one more image, and an id for it

placed_each : (P : ℕ → Type 0) (m : ℕ) (s : Option ℕ) (ws : List OnScreen) → P m → All (λ v. P v.image) ws → All (λ v. P v.image) (with_window m s ws)
placed_each P m None ws one all = all
placed_each P m (Some s) ws one all = All-push (λ (v : OnScreen). P v.image) ws (record { image = m; screen = s }) all one

still_on : (m t : ℕ) (s : Option ℕ) (ws : List OnScreen) → list_any (λ v. v.screen == t) ws ≡ true → list_any (λ v. v.screen == t) (with_window m s ws) ≡ true
still_on m t None ws on = on
still_on m t (Some s) ws on = list_any-append (λ v. v.screen == t) ws (record { image = m; screen = s } ∷ []) ∙ first_true (list_any (λ v. v.screen == t) ws) _ on

module _ (w : World) (old : IsStanding w) (images : Images) (m k id : ℕ) (s : Option ℕ) (fresh : IsFresh w.images w.book m) (joins : Joins w.images images m (option_map (standing_on w.book) s))
    (free : is_image_id_taken w.book k id ≡ false) (there : (t : ℕ) → s ≡ Some t → is_some (screen_numbered w.book t) ≡ true) where
  abbrev added : Book
  added = entered w.book k id m s

  -- what lived is another
  apart : (i : ℕ) → IsLive w.images i → (i == m) ≡ false
  apart i live = false_from_ne_true (i == m) (λ at. not_both (is_some (w.images i)) live (ap (λ (n : ℕ). is_some (w.images n)) (eqb-true i m at) ∙ ap is_some fresh.free))

  lives : (i : ℕ) → IsLive w.images i → IsLive images i
  lives i live = joins.others i (apart i live) ∙ live

  -- each image is the new one, or lived
  each : (P : ℕ → Type 0) → P m → ((i : ℕ) → (i == m) ≡ false → IsLive w.images i → P i) → (i : ℕ) → IsLive images i → P i
  each P new before i live = by (i == m) refl
    where
      by : (is : Bool) → (i == m) ≡ is → P i
      by true is = subst P (sym (eqb-true i m is)) new
      by false is = before i is (sym (joins.others i is) ∙ live)

  used_live : (i : ℕ) → is_used added (Image i) ≡ true → IsLive images i
  used_live i used = elim (either_true (list_any (λ e. e.image == i) added.image_ids) _ used) [
    | inl ids ↦ elim (either_true (m == i) _ (sym (any-put (λ e. e.image == i) (entry k id m) w.book.image_ids) ∙ ids)) [
      | inl new ↦ subst (λ (n : ℕ). IsLive images n) (eqb-true m i new) joins.live
      | inr before ↦ lives i (old.live i (first_true _ _ before))
    ]
    | inr there ↦ lives i (old.live i (second_true (list_any (λ e. e.image == i) w.book.image_ids) _ there))
  ]

  stands : (i : ℕ) → IsLive images i → (image_at images i).standing ≡ option_map (standing_on w.book) (screen_of added i)
  stands =
      each (λ i. (image_at images i).standing ≡ option_map (standing_on w.book) (screen_of added i))
      (joins.standing ∙ ap (option_map (standing_on w.book)) (sym (placed_new m s w.book.windows fresh.nowhere)))
      (λ i other live. joins.stand i other ∙ old.stands i live ∙ ap (option_map (standing_on w.book)) (sym (placed_other m i s w.book.windows (turned m i ∙ other))))

  abbrev OnIt : ℕ → ℕ → Type 0
  OnIt i n = IsLive images n × (parent_of images n ≡ Some i)

  windows : (i : ℕ) → IsLive images i → Each (OnIt i) (image_at images i).windows
  windows =
      each (λ i. Each (OnIt i) (image_at images i).windows) (joins.bare (OnIt m))
      (λ i other live.
      joins.listed i other (OnIt i) (λ on. (joins.live, ap (option_map (λ (x : Stood). x.parent)) joins.standing ∙ on))
      (All-weaker (λ (v : Window). IsLive w.images v.image × (parent_of w.images v.image ≡ Some i)) (λ v. OnIt i v.image)
      (λ v one. (lives v.image one.0, ap (option_map (λ (x : Stood). x.parent)) (joins.stand v.image (apart v.image one.0)) ∙ one.1)) (at_number w i).windows (old.windows i live)))

  screens : (t : ℕ) → is_used added (Screen t) ≡ true → is_some (screen_numbered w.book t) ≡ true
  screens t used = elim (either_true (list_any (λ e. e.screen == t) w.book.screen_ids) _ used) [
    | inl ids ↦ old.screens t (first_true _ _ ids)
    | inr on ↦ elim (window-used m t s w.book.windows on) [
      | inl new ↦ there t new
      | inr before ↦ old.screens t (second_true (list_any (λ e. e.screen == t) w.book.screen_ids) _ before)
    ]
  ]

  pub joined_standing : (numbers : Numbers) → IsStanding (record w { images = images; numbers = numbers; book = added })
  joined_standing numbers = record {
    live = used_live;
    screens = screens;
    stands = stands;
    windows = windows;
    placed = placed_each (λ n. IsLive images n) m s w.book.windows joins.live (All-weaker (λ v. IsLive w.images v.image) (λ v. IsLive images v.image) (λ v live. lives v.image live) w.book.windows old.placed);
    finds = record {
      image_ids = put-image w.book (entry k id m) free old.finds.image_ids;
      screen_ids = old.finds.screen_ids;
      windows = put-window m s w.book.windows fresh.nowhere old.finds.windows;
    };
  }

-- what was used is used
pub image_used_still : (book : Book) (k id m : ℕ) (s : Option ℕ) (i : ℕ) → is_used book (Image i) ≡ true → is_used (entered book k id m s) (Image i) ≡ true
image_used_still book k id m s i used = elim (either_true (list_any (λ e. e.image == i) book.image_ids) _ used) [
  | inl ids ↦ first_true _ _ (any-put (λ e. e.image == i) (entry k id m) book.image_ids ∙ second_true (m == i) _ ids)
  | inr there ↦ second_true (list_any (λ e. e.image == i) (entered book k id m s).image_ids) _ there
]

pub screen_used_still : (book : Book) (k id m : ℕ) (s : Option ℕ) (t : ℕ) → is_used book (Screen t) ≡ true → is_used (entered book k id m s) (Screen t) ≡ true
screen_used_still book k id m s t used = elim (either_true (list_any (λ e. e.screen == t) book.screen_ids) _ used) [
  | inl ids ↦ first_true _ _ ids
  | inr on ↦ second_true (list_any (λ e. e.screen == t) book.screen_ids) _ (still_on m t s book.windows on)
]

-- and so is the new image
pub new_used : (book : Book) (k id m : ℕ) (s : Option ℕ) (i : ℕ) → (i == m) ≡ true → is_used (entered book k id m s) (Image i) ≡ true
new_used book k id m s i is = first_true _ _ (any-put (λ e. e.image == i) (entry k id m) book.image_ids ∙ first_true (m == i) _ (turned m i ∙ is))

pub joined_whole : (w : World) (whole : IsWhole w) (images : Images) (m k id : ℕ) (s : Option ℕ) → IsFresh w.images w.book m → Joins w.images images m (option_map (standing_on w.book) s)
    → is_image_id_taken w.book k id ≡ false → ((t : ℕ) → s ≡ Some t → is_some (screen_numbered w.book t) ≡ true) → (numbers : Numbers)
    → IsWhole (record w { images = images; numbers = numbers; book = entered w.book k id m s })
joined_whole w whole images m k id s fresh joins free there numbers = record {
  standing = joined_standing w whole.standing images m k id s fresh joins free there numbers;
  listed = record {
    image_ids = rise_image (entry k id m) w.book.image_ids whole.listed.image_ids (untaken_image w.book k id free);
    screen_ids = whole.listed.screen_ids;
    own = own_put w.book (entry k id m) free whole.listed.own;
    clients = whole.listed.clients;
  };
  used = λ i live. used i live (i == m) refl;
  screens_used = λ t is. screen_used_still w.book k id m s t (whole.screens_used t is);
}
  where
    used : (i : ℕ) → IsLive images i → (b : Bool) → (i == m) ≡ b → is_used (entered w.book k id m s) (Image i) ≡ true
    used i live true is = new_used w.book k id m s i is
    used i live false is = image_used_still w.book k id m s i (whole.used i (sym (joins.others i is) ∙ live))
