-- The display has its id, stands nowhere and begins at 0, and ties have numbers of their own, whatever sessions and the window manager
-- do.
use Rattle.std.proofs.Common.{◌≡◌, ◌<◌, ◌&&◌, ℕ, Bool, true, false, not, List, [], Option, Some, Ok, Err, inl, inr, refl, sym, ap, subst, ◌∙◌, arith}
use Rattle.std.specs.Prelude.{◌==◌, All, IfOk, is_none, is_some, slice_index_or}
use Rattle.std.specs.Option.{option_map_or}
use Rattle.std.proofs.lemmas.Bool.{cond_both, eqb-true}
use Rattle.std.proofs.lemmas.List.Elements.{All-cons, All-nil}
use Rattle.r9_geom.specs.Geometry.{is_point}
use Rattle.r9_geom.proofs.GeometryLemmas.{true_is_point}
use Rattle.r9_event.specs.declared.event.rio.Order.{Order}
use Rattle.r9_event.specs.declared.event.rio.Order.TheVariants.{Make, Place, Replace, Raise, Lower, Drop, Host, Leave, Size}
use Rattle.model_text.specs.text.Outcome.{Outcome}
use Rattle.model_forest.specs.Steps.{after_image, after_set}
use Rattle.model_forest.specs.World.{origin_point}
use Rattle.model_exchanged.specs.resize.Resize.{after_resize}
use Rattle.model_draw_parts.specs.declared.images.ImageId.{ImageId}
use Rattle.model_draw_parts.specs.declared.images.Tie.{Tie}
use Rattle.model_draw_parts.specs.images.Book.{add_id, image_id, new_screen}
use Rattle.model_draw_parts.specs.dmsg.Message.{Message, LowN}
use Rattle.model_draw.specs.draw.World.{Opening, World, after_connect, after_leave, at_number, started}
use Rattle.model_draw.specs.draw.Act.{act, written}
use Rattle.model_draw.specs.draw.Making.{is_window}
use Rattle.model_alone.specs.alone.Uses.{looked_at}
use Rattle.model_draw.specs.draw.Files.{read_data, write_ctl}
use Rattle.model_draw.specs.draw.Orders.{after_order, fits, has_display, has_window, image_shown, manager, ordered, resize_display, with_root_rio}
use Rattle.law_shown.specs.shown.Showing.{IsOrderly, IsOut}
use Rattle.law_shown.proofs.shown.Tests.{both, not-true, not_both, split}
use Rattle.law_likeness.specs.likeness.Likeness.{AreNumbered, display_id}
use Rattle.law_others.specs.apart.Apart.{IsApart, IsHeld, IsOutside, LooksBeside, Stays}
use Rattle.law_others.specs.others.Others.{IsFurnished, IsNoSize, IsOtherOrder, IsOtherWindow, nothing}
use Rattle.law_others.proofs.others.Messages.{act_stays, connect_stays, leave_stays, read_data_stays, write_ctl_stays}
use Rattle.law_others.proofs.others.Orders.{ordered_stays}
use Rattle.law_others.proofs.others.Writes.{written_stays}

fails : (x y : Bool) → x ≡ false → (x && y) ≡ false
fails x y is = rw is refl

-- each connection but the manager is beside nothing
all_outside : (k : ℕ) → (k == manager) ≡ false → IsOutside nothing k
all_outside k other = record {
  counted = other;
  ids = λ x. record { ids = λ l y none. absurd none; display = fails (k == manager) (x == 0) other };
  none = λ x none. none;
  screen_ids = λ x. record { ids = λ l y none. absurd none; root = fails (k == manager) (x == 0) other };
  names = λ name none. absurd none;
  client = λ none. none;
}

all_looks : (m : Message) → LooksBeside nothing m
all_looks (LowN id name) = λ none. none
all_looks _ = tt

-- ---- what orders that fit tell

not_set : (x : Bool) → not x ≡ true → x ≡ false
not_set true is = absurd cc
not_set false is = refl

-- a window that is there has a serial, and so does a new one
pub has_counted : (w : World) (serial : ℕ) → has_window w serial ≡ true → (serial == 0) ≡ false
has_counted w serial has = not_set (serial == 0) (split (not (serial == 0)) _ (split _ (is_window w (image_shown w serial)) has).0).0

pub new_counted : (w : World) (serial : ℕ) → image_id w.book manager 0 ≡ Some display_id → is_none (image_id w.book manager serial) ≡ true → (serial == 0) ≡ false
new_counted w serial named none =
    not-true (serial == 0) (λ zero.
    not_both (is_none (image_id w.book manager serial)) none
    (ap (λ (n : ℕ). is_none (image_id w.book manager n)) (eqb-true serial 0 zero) ∙ ap (λ (o : Option ImageId). is_none o) named))

-- ---- when a device starts

abbrev first : Opening → World
first opening = with_root_rio (started opening)

first_numbered : (opening : Opening) → AreNumbered (first opening).book
unfolding started with_root_rio add_id new_screen
first_numbered opening = record {
  given = All-nil (λ (t : Tie). t.number < 0);
  once = All-nil _;
  known = All-cons (λ (e : ImageId). (n : ℕ) → e.tie ≡ Some n → n < 0) display_id [] (λ n is. absurd cc) (All-nil (λ (e : ImageId). (n : ℕ) → e.tie ≡ Some n → n < 0));
  shown = All-cons (λ (e : ImageId). All (λ (t : Tie). e.tie ≡ Some t.number → t.image ≡ e.image) []) display_id [] (All-nil _) (All-nil _);
}

pub first_furnished : (opening : Opening) → opening.r.min ≡ origin_point → IsFurnished (first opening)
unfolding started with_root_rio add_id new_screen after_image after_set
first_furnished opening corner = record {
  named = refl;
  out = record { made = (let few : 0 < 2 = omega arith in few); kept = refl };
  bare = refl;
  corner = corner;
  whole = refl;
  numbers = first_numbered opening;
}

-- ---- what sessions do

module _ (w : World) (furnished : IsFurnished w) where
  nothing_apart : IsApart nothing w
  nothing_apart = record {
    book = record {
      ids = λ n d h none. absurd none;
      screen_ids = λ n d h none. absurd none;
      windows = λ n d h none. absurd none;
      ties = λ n d h none. absurd none;
      names = λ name t none found. absurd none;
      screens = λ i s none refers. absurd none;
      shows = λ k x e none found. absurd none;
      there = λ s none. absurd none;
      display = λ none. none;
      named = furnished.named;
      bare = furnished.bare;
    };
    stands = λ i p none stands. absurd none;
    out = λ i held. out i held;
  }
    where
      out : (i : ℕ) → IsHeld nothing i → IsOut w.numbers i
      out i (inl none) = absurd none
      out i (inr is) = subst (IsOut w.numbers) (sym is) furnished.out

  furnished_still : (next : World) → Stays nothing w next → IsFurnished next
  furnished_still next stays = record {
    named = stays.book.display ∙ furnished.named;
    out = stays.out 0 (inr refl) furnished.out;
    bare = stays.book.places 0 (inr refl) ∙ furnished.bare;
    corner = ap (λ r. r.min) stays.shape.r ∙ furnished.corner;
    whole = stays.shape.repl ∙ furnished.whole;
    numbers = stays.numbers furnished.numbers;
  }

  furnished_if : {X : Type 0} (device : X → World) (o : Outcome X) → IfOk o (λ x. Stays nothing w (device x)) → IfOk o (λ x. IsFurnished (device x))
  furnished_if device (Ok x) stays = furnished_still (device x) stays
  furnished_if device (Err n) stays = tt

  module _ (k : ℕ) (other : (k == manager) ≡ false) where
    pub act_furnished : IsOrderly w → (m : Message) (rest : List ℕ) → IfOk (act k w m rest) IsFurnished
    act_furnished orderly m rest = furnished_if (λ x. x) (act k w m rest) (act_stays nothing k (all_outside k other) w nothing_apart furnished.numbers orderly m rest (all_looks m))

    pub written_furnished : IsOrderly w → (bytes : List ℕ) (mark : Option ℕ) → IsFurnished (written k w bytes mark).world
    written_furnished orderly bytes mark =
        furnished_still _ (written_stays nothing k (all_outside k other) w bytes mark nothing_apart furnished.numbers orderly (λ n d h. all_looks (slice_index_or (looked_at k w bytes mark) n d)))

    pub read_data_furnished : (most : ℕ) → IfOk (read_data k w most) (λ got. IsFurnished got.1)
    read_data_furnished most = furnished_if (λ got. got.1) (read_data k w most) (read_data_stays nothing k (all_outside k other) w nothing_apart furnished.numbers most)

    pub write_ctl_furnished : (bytes : List ℕ) → IfOk (write_ctl k w bytes) IsFurnished
    write_ctl_furnished bytes = furnished_if (λ x. x) (write_ctl k w bytes) (write_ctl_stays nothing k (all_outside k other) w nothing_apart furnished.numbers bytes)

    pub connect_furnished : IsFurnished (after_connect w k)
    connect_furnished = furnished_still _ (connect_stays nothing k (all_outside k other) w nothing_apart furnished.numbers)

    pub leave_furnished : IsFurnished (after_leave w k)
    leave_furnished = furnished_still _ (leave_stays nothing k (all_outside k other) w nothing_apart furnished.numbers)

  -- ---- orders

  -- the order is on a window, which has a serial, or ends a connection that is not the manager's
  abbrev pub IsCounted : Order → Type 0
  IsCounted (Make window host r name hide depth) = (window == 0) ≡ false
  IsCounted (Place window at) = (window == 0) ≡ false
  IsCounted (Replace window host r name keep hidden) = (window == 0) ≡ false
  IsCounted (Raise window) = (window == 0) ≡ false
  IsCounted (Lower window) = (window == 0) ≡ false
  IsCounted (Drop window) = (window == 0) ≡ false
  IsCounted (Host window fill) = (window == 0) ≡ false
  IsCounted (Leave client) = (client == manager) ≡ false
  IsCounted (Size width height) = Unit {0}

  beside_nothing : (window : ℕ) → (window == 0) ≡ false → IsOtherWindow nothing window
  beside_nothing window counted = record { counted = counted; id = record { ids = λ k x none. absurd none; display = counted }; none = λ none. none }

  other_order : (order : Order) → IsNoSize order → IsCounted order → IsOtherOrder nothing order
  other_order (Make window host r name hide depth) fixed counted = beside_nothing window counted
  other_order (Place window at) fixed counted = beside_nothing window counted
  other_order (Replace window host r name keep hidden) fixed counted = beside_nothing window counted
  other_order (Raise window) fixed counted = beside_nothing window counted
  other_order (Lower window) fixed counted = beside_nothing window counted
  other_order (Drop window) fixed counted = beside_nothing window counted
  other_order (Host window fill) fixed counted = beside_nothing window counted
  other_order (Leave client) fixed counted = all_outside client counted
  other_order (Size width height) fixed counted = absurd fixed

  pub others_stay : IsOrderly w → (order : Order) → IsNoSize order → IsCounted order → Stays nothing w (ordered w order)
  others_stay orderly order fixed counted =
      ordered_stays nothing (record { screens = λ id none. none; client = λ none. none }) w order nothing_apart furnished.numbers orderly (λ name none. absurd none) (other_order order fixed counted)

  others_furnished : IsOrderly w → (order : Order) → IsNoSize order → IsCounted order → IsFurnished (ordered w order)
  others_furnished orderly order fixed counted = furnished_still _ (others_stay orderly order fixed counted)

  shown_display : image_shown w 0 ≡ 0
  shown_display = ap (λ o. option_map_or (λ e. e.image) o 0) furnished.named

  -- it can get another size
  pub furnished_display : has_display w ≡ true
  furnished_display =
      let known = is_some (image_id w.book manager 0) in
      let apart = not (is_window w 0) in
      let corner = is_point (at_number w 0).r.min origin_point in
      let whole = not (at_number w 0).repl in
      ap (λ (i : ℕ). known && not (is_window w i) && is_point (at_number w i).r.min origin_point && not (at_number w i).repl) shown_display
      ∙ both (known && apart && corner) whole
      (both (known && apart) corner (both known apart (ap (λ o. is_some o) furnished.named) (ap (λ o. not (is_some o)) furnished.bare)) (true_is_point (at_number w 0).r.min origin_point furnished.corner))
      (ap not furnished.whole)

  -- the display begins at 0 whatever its size
  size_furnished : (width height : ℕ) → IsFurnished (ordered w (Size width height))
  unfolding resize_display after_resize
  size_furnished width height =
      cond_both (fits w (Size width height)) (after_order w (Size width height)) w IsFurnished
      (λ _. record {
        named = furnished.named;
        out = furnished.out;
        bare = furnished.bare;
        corner = rw shown_display refl;
        whole = rw shown_display furnished.whole;
        numbers = furnished.numbers;
      })
      (λ _. furnished)

  pub ordered_furnished : IsOrderly w → (order : Order) → IsCounted order → IsFurnished (ordered w order)
  ordered_furnished orderly (Make window host r name hide depth) counted = others_furnished orderly (Make window host r name hide depth) tt counted
  ordered_furnished orderly (Place window at) counted = others_furnished orderly (Place window at) tt counted
  ordered_furnished orderly (Replace window host r name keep hidden) counted = others_furnished orderly (Replace window host r name keep hidden) tt counted
  ordered_furnished orderly (Raise window) counted = others_furnished orderly (Raise window) tt counted
  ordered_furnished orderly (Lower window) counted = others_furnished orderly (Lower window) tt counted
  ordered_furnished orderly (Drop window) counted = others_furnished orderly (Drop window) tt counted
  ordered_furnished orderly (Host window fill) counted = others_furnished orderly (Host window fill) tt counted
  ordered_furnished orderly (Leave client) counted = others_furnished orderly (Leave client) tt counted
  ordered_furnished orderly (Size width height) counted = size_furnished width height
