-- A number that no image has: nothing in the book speaks of it.
use Rattle.std.proofs.Common.{◌≡◌, ◌||◌, ℕ, Bool, true, false, cond, List, [], ◌∷◌, Option, Some, None, refl, ap, subst, ◌∙◌}
use Rattle.std.specs.Prelude.{◌==◌, find, is_some, option_map, All}
use Rattle.std.specs.Option.{option_or}
use Rattle.std.specs.List.{list_any}
use Rattle.std.proofs.lemmas.Bool.{eqb-true, false_from_ne_true, or_parts}
use Rattle.std.proofs.lemmas.List.Elements.{All-head, All-tail}
use Rattle.std.proofs.lemmas.List.Folds.{find-append}
use Rattle.model_forest.specs.World.{Image as ImageState, World as Images, IsLive}
use Rattle.model_draw_parts.specs.declared.images.OnScreen.{OnScreen}
use Rattle.model_draw_parts.specs.declared.images.Screen.{Screen as Filled}
use Rattle.model_draw_parts.specs.declared.images.Thing.TheVariants.{Image}
use Rattle.model_draw_parts.specs.images.Book.{Book, has_screen, is_on, screen_numbered, with_window}
use Rattle.model_draw_parts.specs.images.Release.{is_used, refers_to}
use Rattle.model_draw_parts.proofs.images.Freed.{any-at}
use Rattle.model_draw.specs.draw.World.{World, next_image}
use Rattle.law_shown.specs.shown.Showing.{IsOrderly}
use Rattle.law_shown.proofs.shown.Numbers.{next_in}
use Rattle.law_shown.proofs.shown.Tests.{not_both, same}
use Rattle.law_likeness.specs.making.Standing.{IsWhole}

-- no image has the number, and none of the book's does
pub record IsFresh (images : Images) (book : Book) (m : ℕ) : Type 0 where
  pub free : images m ≡ None
  pub unused : is_used book (Image m) ≡ false
  pub nowhere : find (λ w. w.image == m) book.windows ≡ None

none_of : (o : Option ImageState) → (is_some o ≡ true → ⊥) → o ≡ None
none_of None not = refl
none_of (Some x) not = absurd (not refl)

none_found : (images : Images) (m : ℕ) → (IsLive images m → ⊥) → (ws : List OnScreen) → All (λ w. IsLive images w.image) ws → find (λ w. w.image == m) ws ≡ None
none_found images m dead [] all = refl
none_found images m dead (w ∷ ws) all =
    let live : IsLive images w.image = All-head (λ (w : OnScreen). IsLive images w.image) w ws all in
    let other : (w.image == m) ≡ false = false_from_ne_true (w.image == m) (λ is. dead (subst (λ (n : ℕ). IsLive images n) (eqb-true w.image m is) live)) in
    rw other (none_found images m dead ws (All-tail (λ (w : OnScreen). IsLive images w.image) w ws all))

pub fresh_next : (world : World) → IsWhole world → IsOrderly world → IsFresh world.images world.book (next_image world)
fresh_next world whole orderly =
    let dead : IsLive world.images (next_image world) → ⊥ = λ live. next_in world.numbers (orderly.images (next_image world) (whole.used (next_image world) live)) in
    record {
      free = none_of (world.images (next_image world)) dead;
      unused = false_from_ne_true (is_used world.book (Image (next_image world))) (λ used. dead (whole.standing.live (next_image world) used));
      nowhere = none_found world.images (next_image world) dead world.book.windows whole.standing.placed;
    }

-- ---- what the book says of it

pub fresh_screens : (images : Images) (book : Book) (m : ℕ) → IsFresh images book m → list_any (refers_to m) book.screens ≡ false
fresh_screens images book m fresh = (or_parts (list_any (λ e. e.image == m) book.image_ids) (list_any (refers_to m) book.screens) fresh.unused).1

on_refers : (m : ℕ) (ss : List (Option Filled)) → list_any (refers_to m) ss ≡ false → list_any (is_on m) ss ≡ false
on_refers m [] none = refl
on_refers m (None ∷ ss) none = on_refers m ss none
on_refers m (Some s ∷ ss) none =
    let parts = or_parts ((s.image == m) || (s.fill == m)) (list_any (refers_to m) ss) none in
    rw (or_parts (s.image == m) (s.fill == m) parts.0).0 (on_refers m ss parts.1)

pub fresh_host : (images : Images) (book : Book) (m : ℕ) → IsFresh images book m → has_screen book m ≡ false
fresh_host images book m fresh = on_refers m book.screens (fresh_screens images book m fresh)

pub fresh_refers : (images : Images) (book : Book) (m s : ℕ) → IsFresh images book m → refers_to m (screen_numbered book s) ≡ true → ⊥
fresh_refers images book m s fresh is = not_both (list_any (refers_to m) book.screens) (any-at (refers_to m) book.screens s None refl is) (fresh_screens images book m fresh)

-- ---- a window more

abbrev on : (image : ℕ) → Option ℕ → List OnScreen → Option ℕ
on image screen ws = option_map (λ w. w.screen) (find (λ w. w.image == image) ws)

-- another image stands where it stood
pub placed_other : (m i : ℕ) (screen : Option ℕ) (ws : List OnScreen) → (m == i) ≡ false
    → option_map (λ w. w.screen) (find (λ w. w.image == i) (with_window m screen ws)) ≡ option_map (λ w. w.screen) (find (λ w. w.image == i) ws)
placed_other m i None ws other = refl
placed_other m i (Some s) ws other =
    ap (λ (o : Option OnScreen). option_map (λ w. w.screen) o) (find-append (λ (w : OnScreen). w.image == i) ws (record { image = m; screen = s } ∷ [])) ∙ by (find (λ w. w.image == i) ws)
  where
    by : (o : Option OnScreen) → option_map (λ w. w.screen) (option_or o (cond (m == i) (Some (record { image = m; screen = s })) None)) ≡ option_map (λ w. w.screen) o
    by (Some w) = refl
    by None = rw other refl

-- the new image stands on its screen, or nowhere
pub placed_new : (m : ℕ) (screen : Option ℕ) (ws : List OnScreen) → find (λ w. w.image == m) ws ≡ None
    → option_map (λ w. w.screen) (find (λ w. w.image == m) (with_window m screen ws)) ≡ screen
placed_new m None ws none = rw none refl
placed_new m (Some s) ws none =
    ap (λ (o : Option OnScreen). option_map (λ w. w.screen) o) (find-append (λ (w : OnScreen). w.image == m) ws (record { image = m; screen = s } ∷ []))
    ∙ ap (λ (o : Option OnScreen). option_map (λ w. w.screen) (option_or o (cond (m == m) (Some (record { image = m; screen = s })) None))) none
    ∙ ap (λ (b : Bool). option_map (λ (w : OnScreen). w.screen) (cond b (Some (record { image = m; screen = s })) None)) (same m)
