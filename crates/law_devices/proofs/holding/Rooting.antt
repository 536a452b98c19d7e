-- The session's window stands on the root rio's screen still, and its name is tied, where its image keeps what it has.
use Rattle.std.proofs.Common.{◌≡◌, ◌&&◌, ℕ, Bool, false, List, Option, Some, None, inl, inr, refl, sym, ap, subst, ◌∙◌}
use Rattle.std.specs.Prelude.{◌==◌, All, find, is_some}
use Rattle.std.specs.Option.{option_map_or}
use Rattle.std.specs.Str.{bytes_eq}
use Rattle.model_draw_parts.specs.declared.images.ImageId.{ImageId}
use Rattle.model_draw_parts.specs.declared.images.ScreenId.{ScreenId}
use Rattle.model_draw_parts.specs.declared.images.Tie.{Tie}
use Rattle.model_draw_parts.specs.images.Book.{image_id, screen_id, screen_of}
use Rattle.model_draw.specs.draw.World.{World, after_leave}
use Rattle.model_draw.specs.draw.Orders.{image_shown, manager}
use Rattle.law_shown.specs.shown.Showing.{IsOrderly, IsOut}
use Rattle.law_others.specs.apart.Apart.{IsApart, IsHeld, IsOutside, Stays}
use Rattle.law_others.specs.others.Others.{IsFurnished, nothing}
use Rattle.law_others.proofs.others.Messages.{leave_stays}
use Rattle.law_devices.specs.beside.Rooted.{IsRooted, IsRootedWindow, IsTiedWindow}
use Rattle.law_devices.proofs.holding.Freeing.{Minds, leave_minds}

fails : (x y : Bool) → x ≡ false → (x && y) ≡ false
fails x y is = rw is refl

-- each connection but the manager is beside nothing
pub all_outside : (k : ℕ) → (k == manager) ≡ false → IsOutside nothing k
all_outside k other = record {
  counted = other;
  ids = λ x. record { ids = λ l y none. absurd none; display = fails (k == manager) (x == 0) other };
  none = λ x none. none;
  screen_ids = λ x. record { ids = λ l y none. absurd none; root = fails (k == manager) (x == 0) other };
  names = λ name none. absurd none;
  client = λ none. none;
}

pub nothing_apart : (w : World) → IsFurnished w → IsApart nothing w
nothing_apart w furnished = record {
  book = record {
    ids = λ n d h none. absurd none;
    screen_ids = λ n d h none. absurd none;
    windows = λ n d h none. absurd none;
    ties = λ n d h none. absurd none;
    names = λ name t none found. absurd none;
    screens = λ i s none refers. absurd none;
    shows = λ k x e none found. absurd none;
    there = λ s none. absurd none;
    display = λ none. none;
    named = furnished.named;
    bare = furnished.bare;
  };
  stands = λ i p none stands. absurd none;
  out = λ i held. out i held;
}
  where
    out : (i : ℕ) → IsHeld nothing i → IsOut w.numbers i
    out i (inl none) = absurd none
    out i (inr is) = subst (IsOut w.numbers) (sym is) furnished.out

module _ (window : Option (ℕ × List ℕ)) (w : World) (furnished : IsFurnished w) (tied : IsTiedWindow window w.book) (rooted : IsRootedWindow window w) where
  -- the window has an id
  pub window_known : (serial : ℕ) (name : List ℕ) → window ≡ Some (serial, name) → (e : ImageId) × (image_id w.book manager serial ≡ Some e)
  window_known serial name is = by (image_id w.book manager serial) refl (rooted serial name is).screen (rooted serial name is).on
    where
      by : (o : Option ImageId) → image_id w.book manager serial ≡ o → (s : ℕ) → screen_of w.book (option_map_or (λ (e : ImageId). e.image) o 0) ≡ Some s
          → (e : ImageId) × (image_id w.book manager serial ≡ Some e)
      by (Some e) found s on = (e, found)
      by None found s on = absurd (let no : ◌≡◌ {A = Option ℕ} None (Some s) = sym furnished.bare ∙ on in cc)

  -- all that is kept of the window, where it has an id
  abbrev pub MindsAll : World → Type 0
  MindsAll next = (serial : ℕ) (e : ImageId) → image_id w.book manager serial ≡ Some e → Minds serial e.image w next

  module _ (next : World) (root : screen_id next.book manager 0 ≡ screen_id w.book manager 0) (minds : MindsAll next) where
    pub minds_tied : IsTiedWindow window next.book
    minds_tied serial name is =
        let known = window_known serial name is in
        ap (λ (ts : List Tie). is_some (find (λ t. bytes_eq t.name name) ts)) (minds serial known.0 known.1).ties ∙ tied serial name is

    pub minds_rooted : IsRootedWindow window next
    minds_rooted serial name is =
        let known = window_known serial name is in
        let keeps = minds serial known.0 known.1 in
        let shown : image_shown w serial ≡ known.0.image = ap (λ (o : Option ImageId). option_map_or (λ (e : ImageId). e.image) o 0) known.1 in
        let old : IsRooted w known.0.image = subst (IsRooted w) shown (rooted serial name is) in
        let still : image_shown next serial ≡ known.0.image = ap (λ (o : Option ImageId). option_map_or (λ (e : ImageId). e.image) o 0) keeps.id ∙ shown in
        subst (IsRooted next) (sym still) (record {
          screen = old.screen;
          on = keeps.place ∙ old.on;
          root = ap (λ (o : Option ScreenId). option_map_or (λ (e : ScreenId). e.screen == old.screen) o false) root ∙ old.root;
          near = keeps.near old.near;
        })

  -- ---- a connection ends that made no ties

  module _ (k : ℕ) (other : (k == manager) ≡ false) (orderly : IsOrderly w) (untied : All (λ t. (t.client == k) ≡ false) w.book.ties) where
    left_root : screen_id (after_leave w k).book manager 0 ≡ screen_id w.book manager 0
    left_root = (let stays : Stays nothing w (after_leave w k) = leave_stays nothing k (all_outside k other) w (nothing_apart w furnished) furnished.numbers in stays.book.root)

    minds_left : MindsAll (after_leave w k)
    minds_left serial e found = leave_minds k w serial e found other orderly untied

    pub leave_tied : IsTiedWindow window (after_leave w k).book
    leave_tied = minds_tied (after_leave w k) left_root minds_left

    pub leave_rooted : IsRootedWindow window (after_leave w k)
    leave_rooted = minds_rooted (after_leave w k) left_root minds_left
