-- The device with its display and the root rio's screen alone.
use Rattle.std.proofs.Common.{◌≡◌, ℕ, zero, suc, Bool, true, false, pos, ◌<ℤ◌, [], ◌∷◌, Option, Some, None, Ok, ◌⊎◌, inl, inr, refl, sym, ap, subst, ◌∙◌, arith}
use Rattle.std.specs.Prelude.{◌^◌, ◌==◌, ◌||◌, find, is_some, unwrap_or, if◌then◌else◌}
use Rattle.std.proofs.lemmas.Bool.{eqb-true}
use Rattle.std.proofs.lemmas.Int.{ints}
use Rattle.std.proofs.lemmas.List.Elements.{All-cons, All-nil}
use Rattle.r9_geom.specs.declared.Rect.{Rect}
use Rattle.r9_geom.specs.Geometry.{HasPoints, IsOrdered, IsRectNearBy}
use Rattle.model_forest.specs.World.{Image, World, no_image}
use Rattle.model_forest.specs.Steps.{after_image, after_set, new_image}
use Rattle.model_forest.proofs.Releasing.{changed-at}
use Rattle.model_draw_parts.specs.declared.images.Thing.TheVariants.{Image as Shown, Screen}
use Rattle.model_draw_parts.specs.declared.images.ImageId.{ImageId}
use Rattle.model_draw_parts.specs.declared.images.ScreenId.{ScreenId}
use Rattle.model_draw_parts.specs.images.Book.{Book, add_id, empty_book, new_screen, screen_numbered}
use Rattle.model_draw_parts.specs.images.Release.{is_image_id, is_screen_id, is_used}
use Rattle.model_draw.specs.draw.Orders.{dot, everywhere}
use Rattle.r9_device.specs.device.Kept.{IsKept, IsPlaced}
use Rattle.r9_device.specs.device.Spare.{AreSpare, are_free}
use Rattle.r9_device.proofs.device.Going.{not_both}
use Rattle.r9_device.proofs.device.Kept.{eqb_comm, kept-same, nowhere-placed}
use Rattle.r9_device.proofs.device.Rects.{ordered-of, wider}

pub near-display : (r : Rect) → r.min.x ≡ pos 0 → r.min.y ≡ pos 0 → IsOrdered r → r.max.x <ℤ pos (2 ^ 32) → r.max.y <ℤ pos (2 ^ 32) → IsRectNearBy (2 ^ 32) r
near-display r left top ordered width height =
    let across = ordered.across in
    let down = ordered.down in
    record {
      min = record { left = omega (arith, ints); right = omega (arith, ints); top = omega (arith, ints); bottom = omega (arith, ints) };
      max = record { left = omega (arith, ints); right = omega (arith, ints); top = omega (arith, ints); bottom = omega (arith, ints) };
    }

abbrev display_book : Book
display_book = record empty_book { image_ids = record { client = 0; id = 0; image = 0; tie = None } ∷ []; windows = [] }

book-is : (book : Book) → add_id empty_book 0 0 0 None ≡ Ok book → display_book ≡ book
unfolding add_id
book-is book e = let same : Ok display_book ≡ Ok book = e in cc

-- the same with the root rio's screen, which image 1 fills
abbrev root_book : Book
root_book = record display_book {
  screen_ids = record { client = 0; id = 0; screen = 0; public = false } ∷ [];
  screens = Some (record { image = 0; fill = 1 }) ∷ [];
  spare = [];
}

root-made : (book : Book) → new_screen display_book 0 0 false 0 1 ≡ Ok book → root_book ≡ book
unfolding new_screen
root-made book e = let same : Ok root_book ≡ Ok book = e in cc

root-is : (first book : Book) → add_id empty_book 0 0 0 None ≡ Ok first → new_screen first 0 0 false 0 1 ≡ Ok book → root_book ≡ book
root-is first book e f = root-made book (ap (λ (b : Book). new_screen b 0 0 false 0 1) (book-is first e) ∙ f)

-- an id is found in it
abbrev IsShown : ImageId → Type 0
IsShown e = find (is_image_id e.client e.id) root_book.image_ids ≡ Some e

abbrev IsScreen : ScreenId → Type 0
IsScreen e = find (is_screen_id e.client e.id) root_book.screen_ids ≡ Some e

-- the display, and the fill
abbrev pub root_images : Rect → (chan raw : ℕ) → World
root_images r chan raw = after_set (after_image (after_image (λ _. None) 0 r chan raw) 1 dot chan raw) 1 true everywhere

-- by number
abbrev root_image : Rect → (chan raw : ℕ) → (is_fill is_display : Bool) → Option Image
root_image r chan raw true b = Some (record (new_image dot chan raw) { repl = true; clipr = everywhere })
root_image r chan raw false true = Some (new_image r chan raw)
root_image r chan raw false false = None

root-image : (r : Rect) (chan raw n : ℕ) → root_images r chan raw n ≡ root_image r chan raw (n == 1) (n == 0)
unfolding after_image after_set
root-image r chan raw n = by (n == 1) (n == 0)
  where
    by : (a b : Bool)
        → (if a then Some (record (new_image dot chan raw) { repl = true; clipr = everywhere }) else if a then Some (new_image dot chan raw) else if b then Some (new_image r chan raw) else None) ≡ root_image r chan raw a b
    by true b = refl
    by false true = refl
    by false false = refl

-- what is used
unused : (n : ℕ) → (n == 1) ≡ false → (n == 0) ≡ false → is_used root_book (Shown n) ≡ false
unused n e f =
    let zero_apart : (0 == n) ≡ false = eqb_comm 0 n ∙ f in
    let one_apart : (1 == n) ≡ false = eqb_comm 1 n ∙ e in
    λ i. (zero_apart i || false) || (((zero_apart i || one_apart i)) || false)

root_used : (n : ℕ) → is_used root_book (Shown n) ≡ true → ((n == 1) ≡ true) ⊎ ((n == 0) ≡ true)
root_used n h = by (n == 1) refl (n == 0) refl
  where
    by : (a : Bool) → (n == 1) ≡ a → (b : Bool) → (n == 0) ≡ b → ((n == 1) ≡ true) ⊎ ((n == 0) ≡ true)
    by true e b f = inl e
    by false e true f = inr f
    by false e false f = absurd (not_both (is_used root_book (Shown n)) h (unused n e f))

-- the fill before it repeats
pub dot-at : (images : World) (i chan raw : ℕ) → after_image images i dot chan raw i ≡ Some (new_image dot chan raw)
unfolding after_image
dot-at images i chan raw = changed-at images i (Some (new_image dot chan raw))

near_dot : IsRectNearBy (2 ^ 32) dot
near_dot = record {
  min = record { left = omega (arith, ints); right = omega (arith, ints); top = omega (arith, ints); bottom = omega (arith, ints) };
  max = record { left = omega (arith, ints); right = omega (arith, ints); top = omega (arith, ints); bottom = omega (arith, ints) };
}

near_everywhere : IsRectNearBy (2 ^ 33) everywhere
near_everywhere = record {
  min = record { left = omega (arith, ints); right = omega (arith, ints); top = omega (arith, ints); bottom = omega (arith, ints) };
  max = record { left = omega (arith, ints); right = omega (arith, ints); top = omega (arith, ints); bottom = omega (arith, ints) };
}

pub dot-points : HasPoints dot
dot-points = record { across = omega (arith, ints); down = omega (arith, ints) }

kept-root : (r : Rect) (chan raw : ℕ) → IsOrdered r → IsRectNearBy (2 ^ 32) r → IsKept (root_images r chan raw) root_book
kept-root r chan raw ordered near = record {
  live = λ n h. ap is_some (root-image r chan raw n) ∙ live (n == 1) (n == 0) (root_used n h);
  placed = λ n. let P : Option Image → Type 0 = λ o. IsPlaced root_book n (unwrap_or o no_image) in subst P (sym (root-image r chan raw n)) (placed n (n == 1) (n == 0));
  screens = λ s h. there s (s == 0) refl h;
  display = refl;
  points = λ n h other.
      let P : Option Image → Type 0 = λ o. HasPoints (unwrap_or o no_image).r in
      subst P (sym (root-image r chan raw n)) (points (n == 1) (n == 0) other (sym (ap is_some (root-image r chan raw n)) ∙ h));
  used = λ n h. used n (n == 1) refl (n == 0) refl (sym (ap is_some (root-image r chan raw n)) ∙ h);
  screens_used = λ s h. screen_used s h;
  finds = record {
    image_ids = All-cons IsShown (record { client = 0; id = 0; image = 0; tie = None }) [] refl (All-nil IsShown);
    screen_ids = All-cons IsScreen (record { client = 0; id = 0; screen = 0; public = false }) [] refl (All-nil IsScreen);
    windows = All-nil _;
  };
}
  where
    live : (a b : Bool) → (a ≡ true) ⊎ (b ≡ true) → is_some (root_image r chan raw a b) ≡ true
    live true b h = refl
    live false true h = refl
    live false false h = elim h [ inl e ↦ absurd cc | inr e ↦ absurd cc ]

    placed : (n : ℕ) (a b : Bool) → IsPlaced root_book n (unwrap_or (root_image r chan raw a b) no_image)
    placed n true b = record { stands = refl; ordered = ordered-of dot dot-points; near = near_dot; clip = near_everywhere }
    placed n false true = record { stands = refl; ordered = ordered; near = near; clip = wider (2 ^ 32) (2 ^ 33) r (omega arith) near }
    placed n false false = nowhere-placed root_book n refl

    points : (a b : Bool) → b ≡ false → is_some (root_image r chan raw a b) ≡ true → HasPoints (unwrap_or (root_image r chan raw a b) no_image).r
    points true b e h = dot-points
    points false true e h = absurd cc
    points false false e h = absurd cc

    used : (n : ℕ) (a : Bool) → (n == 1) ≡ a → (b : Bool) → (n == 0) ≡ b → is_some (root_image r chan raw a b) ≡ true → is_used root_book (Shown n) ≡ true
    used n true e b f h = let is = eqb-true n 1 e in ap (λ m. is_used root_book (Shown m)) is
    used n false e true f h = let is = eqb-true n 0 f in ap (λ m. is_used root_book (Shown m)) is
    used n false e false f h = absurd cc

    there : (s : ℕ) (b : Bool) → (s == 0) ≡ b → is_used root_book (Screen s) ≡ true → is_some (screen_numbered root_book s) ≡ true
    there s true e h = ap (λ n. is_some (screen_numbered root_book n)) (eqb-true s 0 e)
    there s false e h =
        let apart : (0 == s) ≡ false = eqb_comm 0 s ∙ e in
        let none : is_used root_book (Screen s) ≡ false = λ i. (apart i || false) || false in
        absurd (not_both (is_used root_book (Screen s)) h none)

    screen_used : (s : ℕ) → is_some (screen_numbered root_book s) ≡ true → is_used root_book (Screen s) ≡ true
    screen_used zero h = refl
    screen_used (suc zero) h = absurd cc
    screen_used (suc (suc s)) h = absurd cc

pub kept-started : (images : World) (first book : Book) (r : Rect) (chan raw : ℕ) → IsOrdered r → IsRectNearBy (2 ^ 32) r → images ≡ root_images r chan raw
    → add_id empty_book 0 0 0 None ≡ Ok first → new_screen first 0 0 false 0 1 ≡ Ok book → IsKept images book
kept-started images first book r chan raw ordered near is e f =
    let P : Book → Type 0 = λ b. IsKept images b in subst P (root-is first book e f) (kept-same _ images root_book (kept-root r chan raw ordered near) is)

pub spare-started : (first book : Book) → add_id empty_book 0 0 0 None ≡ Ok first → new_screen first 0 0 false 0 1 ≡ Ok book → AreSpare book
unfolding are_free
spare-started first book e f = subst AreSpare (root-is first book e f) refl
