-- The session's window stands on the root rio's screen, and its name is tied, wherever the session's part stays.
use Rattle.std.proofs.Common.{◌≡◌, ℕ, false, List, Option, Some, None, inl, refl, sym, ap, subst, ◌∙◌}
use Rattle.std.specs.Prelude.{◌==◌, is_some, unwrap_or}
use Rattle.std.specs.Option.{option_map_or}
use Rattle.model_forest.specs.World.{Image as ImageState, no_image}
use Rattle.model_forest.specs.Steps.{clamped_rect}
use Rattle.model_draw_parts.specs.declared.images.ImageId.{ImageId}
use Rattle.model_draw_parts.specs.declared.images.ScreenId.{ScreenId}
use Rattle.model_draw_parts.specs.images.Book.{image_id, screen_of}
use Rattle.model_draw.specs.draw.World.{World}
use Rattle.model_draw.specs.draw.Orders.{image_shown, manager}
use Rattle.law_likeness.specs.agreement.Agreement.{SameOption}
use Rattle.law_likeness.specs.likeness.Likeness.{AreLike, IsOwned, SameId}
use Rattle.law_others.specs.apart.Apart.{Part, Stays}
use Rattle.law_others.specs.others.Others.{IsBare, part_of}
use Rattle.law_devices.specs.beside.Rooted.{IsRooted, IsRootedWindow, IsTiedWindow}

module _ (Same SameScreen : ℕ → ℕ → Type 0) (c : ℕ) (window : Option (ℕ × List ℕ)) (a b : World) (like : AreLike Same SameScreen c window a b) (bare : IsBare a) (rooted : IsRootedWindow window a) where
  abbrev part : Part
  part = part_of Same SameScreen c window

  -- the window's image is the same
  pub shown_same : (serial : ℕ) (name : List ℕ) → window ≡ Some (serial, name) → (j : ℕ) × Same (image_shown a serial) j
  shown_same serial name is = by (image_id a.book manager serial) (image_id b.book manager serial) (like.books.hold serial name is).id (rooted serial name is).screen (rooted serial name is).on
    where
      by : (o q : Option ImageId) → SameOption (SameId Same a.book b.book) o q → (s : ℕ) → screen_of a.book (option_map_or (λ (e : ImageId). e.image) o 0) ≡ Some s
          → (j : ℕ) × Same (option_map_or (λ (e : ImageId). e.image) o 0) j
      by (Some e) (Some f) one s on = (f.image, one.image)
      by (Some e) None one s on = absurd one
      by None q one s on = absurd (let no : ◌≡◌ {A = Option ℕ} None (Some s) = sym bare ∙ on in cc)

  module _ (next : World) (stays : Stays part a next) where
    shown_still : (serial : ℕ) (name : List ℕ) → window ≡ Some (serial, name) → image_shown next serial ≡ image_shown a serial
    shown_still serial name is = ap (λ (o : Option ImageId). option_map_or (λ (e : ImageId). e.image) o 0) (stays.book.ids manager serial (IsOwned.by_manager name refl is))

    pub rooted_still : IsRootedWindow window next
    rooted_still serial name is =
        let i = image_shown a serial in
        let old : IsRooted a i = rooted serial name is in
        let same = shown_same serial name is in
        let images = stays.images.same i same in
        subst (IsRooted next) (sym (shown_still serial name is)) (record {
          screen = old.screen;
          on = stays.book.places i (inl same) ∙ old.on;
          root = ap (λ (o : Option ScreenId). option_map_or (λ (e : ScreenId). e.screen == old.screen) o false) stays.book.root ∙ old.root;
          near = subst (λ (o : Option ImageState). clamped_rect (unwrap_or o no_image).clipr ≡ (unwrap_or o no_image).clipr) (sym images) old.near;
        })

    pub name_still : IsTiedWindow window a.book → IsTiedWindow window next.book
    name_still tied serial name is = ap is_some (stays.book.ties name (serial, is)) ∙ tied serial name is
