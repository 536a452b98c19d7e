-- A client that has made its colours has what it draws the bands of menus with, and the device shows that there is no window.
use Rattle.std.proofs.Common.{◌≡◌, ◌∙◌, ◌<◌, ◌+◌, ℕ, zero, suc, ◌==◌, ◌&&◌, Bool, true, false, cond, ◌⊎◌, inl, inr, List, [], Option, Some, None, option_map, All, is_some, refl, sym, ap, subst, arith, eq-eqb, eqb-true, ne_eqb}
use Rattle.std.specs.Prelude.{slice_index, unwrap_or}
use Rattle.std.proofs.lemmas.List.Elements.{All-nil}
use Rattle.model_pixel.specs.Channels.{colour_of, pack}
use Rattle.model_forest.specs.declared.Standing.{Standing}
use Rattle.model_forest.specs.World.{Image, IsLive, World as Images, image_at, no_image, parent_of}
use Rattle.model_forest.specs.Steps.{after_image, after_set}
use Rattle.model_draw_parts.specs.declared.images.ImageId.{ImageId}
use Rattle.model_draw_parts.specs.declared.images.OnScreen.{OnScreen}
use Rattle.model_draw_parts.specs.declared.images.ScreenId.{ScreenId}
use Rattle.model_draw_parts.specs.declared.images.Tie.{Tie}
use Rattle.model_draw_parts.specs.images.Book.{image_id, owner, screen_numbered}
use Rattle.model_draw_parts.specs.images.Release.{refers_to}
use Rattle.model_rio.specs.rio.Table.{Table, opened}
use Rattle.model_draw.specs.draw.World as draw
use Rattle.model_draw.specs.draw.World.{after_connect, at_number}
use Rattle.model_draw.specs.draw.Act.{Written, written}
use Rattle.model_draw.specs.draw.Orders as orders
use Rattle.model_draw.specs.draw.Orders.{with_root_rio}
use Rattle.law_shown.specs.shown.Showing.{IsOut}
use Rattle.law_shown.proofs.shown.Tests.{either_true, find-passes, split}
use Rattle.law_shown.proofs.lasting.Messages.{connect_still, written_still}
use Rattle.law_shown.specs.fitting.Fitting.{Shows}
use Rattle.law_shown.proofs.fitting.Lists.{Each, all_of, each_found, each_then}
use Rattle.law_shown.proofs.fitting.Opening.{first_orderly, first_shows}
use Rattle.law_shown.proofs.fitting.Stepping.{shows_follow}
use Rattle.law_likeness.specs.likeness.Likeness.{AreNumbered}
use Rattle.law_others.specs.apart.Apart.{IsApart, IsHeld}
use Rattle.law_likeness.specs.whole.Steady.{IsSteady}
use Rattle.law_likeness.proofs.whole.Messages.{connect_whole, written_steady}
use Rattle.law_others.proofs.managed.Starting.{first_whole}
use Rattle.model_world.specs.World.{display_of}
use Rattle.law_text.proofs.client.Writes.{leads_written}
use Rattle.model_clients.specs.page.Text.{rgb24}
use Rattle.law_text.specs.page.Page.{IsColour}
use Rattle.model_clients.specs.bands.Bands.{inks}
use Rattle.model_clients.specs.piloted.History.{colours, display}
use Rattle.law_menus.specs.pens.Pens.{pens}
use Rattle.law_menus.specs.inked.Inked.{IsInked, IsPen, IsWindowTie, connection}
use Rattle.law_menus.specs.inking.Inking.{own_id, with_ink}
use Rattle.law_menus.proofs.inking.Making.{device_is, first_device, first_images, last_device, last_images, leads_inks, with_blue, with_green, with_red, with_white, with_yellow}

-- ---- what the device keeps

abbrev bare : draw.World
bare = with_root_rio (draw.started (display_of display))

abbrev first_table : Table
first_table = opened (display_of display).r

first_steady : IsSteady first_device
first_steady =
    let orderly = first_orderly (display_of display) in
    subst IsSteady device_is
    (record { whole = connect_whole connection bare (first_whole (display_of display)) orderly; orderly = (let follows = connect_still bare connection orderly in follows.orderly) })

first_shown : Shows first_device first_table
first_shown =
    subst (λ (device : draw.World). Shows device first_table) device_is
    (shows_follow bare (after_connect bare connection) first_table (connect_still bare connection (first_orderly (display_of display))) (first_shows (display_of display)))

left_is : (written connection first_device inks None).world ≡ last_device
left_is = let run = leads_written connection first_device last_device inks leads_inks in ap (λ (left : Written). left.world) run.is

last_steady : IsSteady last_device
last_steady = subst IsSteady left_is (written_steady connection first_device inks None refl first_steady)

last_shown : Shows last_device first_table
last_shown =
    subst (λ (device : draw.World). Shows device first_table) left_is
    (shows_follow first_device (written connection first_device inks None).world first_table (written_still connection first_device inks None refl first_steady.orderly) first_shown)

-- ---- the ids

abbrev number : ℕ → ℕ
number id = id + 1

abbrev ids : List ImageId
ids = last_device.book.image_ids

pen : (id : ℕ) → 0 < id → id < 7 → IsPen number (id + 1)
pen id some few = (id, some, few, refl)

not_display : IsPen number 0 → ⊥
not_display is = let same = is.3 in omega (arith, same)

-- those but the display's are of pens
id_pens : Each (λ e. (e.id == 0) ≡ false → IsPen number e.image) ids
id_pens = (
  λ other. absurd (let both : true ≡ false = other in cc both),
  (λ _. pen 1 (omega arith) (omega arith), (λ _. pen 2 (omega arith) (omega arith), (λ _. pen 3 (omega arith) (omega arith), (λ _. pen 4 (omega arith) (omega arith), (λ _. pen 5 (omega arith) (omega arith), (λ _. pen 6 (omega arith) (omega arith), tt)))))),
)

-- and pens are of them
pen_ids : Each (λ e. IsPen number e.image → (e.client ≡ connection) × (0 < e.id)) ids
pen_ids = (
  λ is. absurd (not_display is),
  (λ is. (refl, omega arith), (λ is. (refl, omega arith), (λ is. (refl, omega arith), (λ is. (refl, omega arith), (λ is. (refl, omega arith), (λ is. (refl, omega arith), tt)))))),
)

shown : (k id : ℕ) (e : ImageId) → (k ≡ connection) × (0 < id) → image_id last_device.book k id ≡ Some e → IsPen number e.image
shown k id e is found =
    let test : ImageId → Bool = λ v. (v.client == owner k id) && (v.id == id) in
    let same : e.id ≡ id = eqb-true e.id id (split (e.client == owner k id) (e.id == id) (find-passes test ids e found)).1 in
    let some = is.1 in
    each_found (λ v. (v.id == 0) ≡ false → IsPen number v.image) test ids e id_pens found (ne_eqb e.id 0 (λ none. omega (arith, same, some, none)))

given : (id : ℕ) → 0 < id → id < 7 → image_id last_device.book connection id ≡ Some (own_id id)
given zero some few = absurd (omega (arith, some))
given (suc zero) some few = refl
given (suc (suc zero)) some few = refl
given (suc (suc (suc zero))) some few = refl
given (suc (suc (suc (suc zero)))) some few = refl
given (suc (suc (suc (suc (suc zero))))) some few = refl
given (suc (suc (suc (suc (suc (suc zero)))))) some few = refl
given (suc (suc (suc (suc (suc (suc (suc n))))))) some few = absurd (omega (arith, few))

-- what an id has that is of no tie, and which was given out
record IsUntied (e : ImageId) : Type 0 where
  known : (n : ℕ) → e.tie ≡ Some n → n < 0
  shown : All (λ (t : Tie). e.tie ≡ Some t.number → t.image ≡ e.image) []

is_untied : (e : ImageId) → e.tie ≡ None → IsUntied e
is_untied e none = record {
  known = λ n is. absurd (let both : ◌≡◌ {A = Option ℕ} None (Some n) = sym none ∙ is in cc both);
  shown = All-nil (λ (t : Tie). e.tie ≡ Some t.number → t.image ≡ e.image);
}

untied : Each IsUntied ids
untied = each_then (λ e. e.tie ≡ None) IsUntied is_untied ids (refl, (refl, (refl, (refl, (refl, (refl, (refl, tt)))))))

numbered : AreNumbered last_device.book
numbered = record {
  given = All-nil (λ (t : Tie). t.number < 0);
  once = All-nil _;
  known = all_of (λ e. (n : ℕ) → e.tie ≡ Some n → n < 0) ids (each_then IsUntied (λ e. (n : ℕ) → e.tie ≡ Some n → n < 0) (λ e is. is.known) ids untied);
  shown = all_of (λ e. All (λ (t : Tie). e.tie ≡ Some t.number → t.image ≡ e.image) []) ids (each_then IsUntied (λ e. All (λ (t : Tie). e.tie ≡ Some t.number → t.image ≡ e.image) []) (λ e is. is.shown) ids untied);
}

-- ---- the images

-- the root rio's screen is of none of them
no_screen : (i s : ℕ) → IsPen number i → refers_to i (screen_numbered last_device.book s) ≡ true → ⊥
no_screen i zero is refers = by (either_true (0 == i) (1 == i) refers)
  where
    by : ((0 == i) ≡ true) ⊎ ((1 == i) ≡ true) → ⊥
    by (inl first) = let same = eqb-true 0 i first in let of = is.3 in let some = is.1 in omega (arith, same, of, some)
    by (inr second) = let same = eqb-true 1 i second in let of = is.3 in let some = is.1 in omega (arith, same, of, some)
no_screen i (suc s) is refers = absurd (let both : false ≡ true = refers in cc both)

-- none stands on another
stands_nowhere : (images : Images) (i : ℕ) → (IsLive images i → (image_at images i).standing ≡ None) → parent_of images i ≡ None
stands_nowhere images i stands = by (images i) refl
  where
    by : (o : Option Image) → images i ≡ o → parent_of images i ≡ None
    by (Some x) is = ap (λ (o : Option Standing). option_map (λ s. s.parent) o) (stands (ap is_some is))
    by None is = ap (λ (o : Option Image). option_map (λ (s : Standing). s.parent) (unwrap_or o no_image).standing) is

held_out : (i : ℕ) → IsHeld (pens (IsPen number)) i → IsOut last_device.numbers i
held_out i (inl is) = let same = is.3 in let few = is.2 in record { made = omega (arith, same, few); kept = refl }
held_out i (inr is) = record { made = omega (arith, is); kept = refl }

apart : IsApart (pens (IsPen number)) last_device
apart = record {
  book = record {
    ids = all_of (λ e. IsPen number e.image → (e.client ≡ connection) × (0 < e.id)) ids pen_ids;
    screen_ids = all_of (λ (e : ScreenId). ⊥ → ⊥ × (e.public ≡ false)) last_device.book.screen_ids (λ none. absurd none, tt);
    windows = All-nil (λ (w : OnScreen). ⊥ → IsPen number w.image);
    ties = All-nil (λ (t : Tie). IsPen number t.image → ⊥ × ((t.client ≡ connection) × (0 < t.id)));
    names = λ name t none found. absurd none;
    screens = no_screen;
    shows = shown;
    there = λ s none. absurd none;
    display = not_display;
    named = refl;
    bare = refl;
  };
  stands = λ i p is on. absurd (let none : ◌≡◌ {A = Option ℕ} None (Some p) = sym (stands_nowhere last_images i (last_steady.whole.standing.stands i)) ∙ on in cc none);
  out = held_out;
}

-- ---- the colours

ink_colour : (images : Images) (number color : ℕ) → IsColour (image_at (with_ink images number color) number) (pack rgb24 (colour_of color))
unfolding after_image after_set
ink_colour images number color = rw (eq-eqb number number refl) (record {
  r = refl;
  clipr = refl;
  repl = refl;
  chan = refl;
  canvas = λ p held. ap (λ (b : Bool). cond (b && true) (pack rgb24 (colour_of color)) 0) held;
  windows = refl;
})

white_is : IsColour (at_number last_device 2) (orders.white rgb24)
unfolding after_image after_set
white_is = ink_colour first_images 2 0xffffffff

inks_are : (item : ℕ) → item < 5 → IsColour (at_number last_device (number (2 + item))) (pack rgb24 (colour_of (slice_index colours item)))
unfolding after_image after_set
inks_are zero few = ink_colour with_white 3 0xff0000ff
inks_are (suc zero) few = ink_colour with_red 4 0x00ff00ff
inks_are (suc (suc zero)) few = ink_colour with_green 5 0x0000ffff
inks_are (suc (suc (suc zero))) few = ink_colour with_blue 6 0xffff00ff
inks_are (suc (suc (suc (suc zero)))) few = ink_colour with_yellow 7 0x808080ff
inks_are (suc (suc (suc (suc (suc n))))) few = absurd (omega (arith, few))

-- ---- all of it

pub last_inked : IsInked last_device first_table
last_inked = record {
  steady = last_steady;
  shows = last_shown;
  numbers = numbered;
  ties = All-nil IsWindowTie;
  channels = refl;
  number = number;
  apart = apart;
  ids = given;
  free = refl;
  white = white_is;
  inks = inks_are;
  client = _;
  connected = refl;
  over = refl;
}
