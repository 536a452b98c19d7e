-- What one device keeps of another: the windows and the rios that it shows.
use Rattle.std.proofs.Common.{◌≡◌, ℕ, Bool, true, false, Some, None, refl, sym, ap, ◌∙◌}
use Rattle.std.specs.Prelude.{◌==◌, is_some}
use Rattle.r9_geom.specs.declared.Rect.{Rect}
use Rattle.model_draw_parts.specs.declared.images.ImageId.{ImageId}
use Rattle.model_draw_parts.specs.declared.images.Screen.{Screen as Filled}
use Rattle.model_draw_parts.specs.declared.images.ScreenId.{ScreenId}
use Rattle.model_draw_parts.specs.declared.images.Thing.TheVariants.{Image, Screen}
use Rattle.model_draw_parts.specs.images.Book.{Book, image_id, screen_id, screen_numbered, screen_of}
use Rattle.model_draw_parts.specs.images.Release.{is_used, refers_to}
use Rattle.model_draw_parts.proofs.images.Freed.{any-at}
use Rattle.model_draw.specs.draw.World.{World, at_number}
use Rattle.model_draw.specs.draw.Orders.{manager}
use Rattle.law_shown.specs.shown.Showing.{IsOrderly, ShowsRio, ShowsWindow}
use Rattle.law_shown.proofs.shown.Tests.{find-any, first_true, same, second_true}
use Rattle.law_shown.proofs.shown.Frames.{Lasts, sizes}

-- of none, and of one alone
abbrev pub none : ℕ → Bool
none n = false

abbrev pub only : ℕ → ℕ → Bool
only m n = n == m

-- An orderly device shows what the other showed, but for some windows and the rios of some hosts; and it has no image id that
-- the other did not have, but for those.
pub record Follows (gone closed : ℕ → Bool) (old new : World) : Type 0 where
  pub orderly : IsOrderly new
  pub windows : (serial : ℕ) (r : Rect) → gone serial ≡ false → ShowsWindow old serial r → ShowsWindow new serial r
  pub rios : (host : ℕ) → closed host ≡ false → ShowsRio old host → ShowsRio new host
  pub fresh : (serial : ℕ) → gone serial ≡ false → image_id old.book manager serial ≡ None → image_id new.book manager serial ≡ None

pub follows_then : (gone closed : ℕ → Bool) (a b c : World) → Follows gone closed a b → Follows gone closed b c → Follows gone closed a c
follows_then gone closed a b c one two = record {
  orderly = two.orderly;
  windows = λ serial r at shows. two.windows serial r at (one.windows serial r at shows);
  rios = λ host at shows. two.rios host at (one.rios host at shows);
  fresh = λ serial at none. two.fresh serial at (one.fresh serial at none);
}

pub follows_itself : (gone closed : ℕ → Bool) (a : World) → IsOrderly a → Follows gone closed a a
follows_itself gone closed a orderly = record { orderly = orderly; windows = λ serial r at shows. shows; rios = λ host at shows. shows; fresh = λ serial at none. none }

-- where less is left out
pub follows_but : (gone closed : ℕ → Bool) (a b : World) → Follows none none a b → Follows gone closed a b
follows_but gone closed a b f = record {
  orderly = f.orderly;
  windows = λ serial r at shows. f.windows serial r refl shows;
  rios = λ host at shows. f.rios host refl shows;
  fresh = λ serial at none. f.fresh serial refl none;
}

-- ---- what is used

pub shown_used : (book : Book) (client id : ℕ) (e : ImageId) → image_id book client id ≡ Some e → is_used book (Image e.image) ≡ true
shown_used book client id e found = first_true _ _ (find-any _ (λ y. y.image == e.image) book.image_ids e found (same e.image))

pub screen_used : (book : Book) (client id : ℕ) (e : ScreenId) → screen_id book client id ≡ Some e → is_used book (Screen e.screen) ≡ true
screen_used book client id e found = first_true _ _ (find-any _ (λ y. y.screen == e.screen) book.screen_ids e found (same e.screen))

pub image_used : (book : Book) (s : ℕ) (screen : Filled) → screen_numbered book s ≡ Some screen → is_used book (Image screen.image) ≡ true
image_used book s screen numbered =
    second_true _ _ (any-at (refers_to screen.image) book.screens s None refl (ap (refers_to screen.image) numbered ∙ first_true (screen.image == screen.image) _ (same screen.image)))

pub fill_used : (book : Book) (s : ℕ) (screen : Filled) → screen_numbered book s ≡ Some screen → is_used book (Image screen.fill) ≡ true
fill_used book s screen numbered =
    second_true _ _ (any-at (refers_to screen.fill) book.screens s None refl (ap (refers_to screen.fill) numbered ∙ second_true (screen.image == screen.fill) _ (same screen.fill)))

-- ---- books

-- What a book keeps of another: the manager's ids, but for some, the windows on screens, and the screens.
pub record KeepsBook (gone closed : ℕ → Bool) (old new : Book) : Type 0 where
  pub image_ids : (serial : ℕ) → gone serial ≡ false → image_id new manager serial ≡ image_id old manager serial
  pub screen_ids : (host : ℕ) → closed host ≡ false → screen_id new manager host ≡ screen_id old manager host
  pub stands : (i : ℕ) → is_used old (Image i) ≡ true → is_used new (Image i) ≡ true → is_some (screen_of old i) ≡ true → is_some (screen_of new i) ≡ true
  pub numbered : (s : ℕ) → is_used old (Screen s) ≡ true → is_used new (Screen s) ≡ true → screen_numbered new s ≡ screen_numbered old s

pub keeps_same : (gone closed : ℕ → Bool) (old new : Book) → new ≡ old → KeepsBook gone closed old new
keeps_same gone closed old new is = record {
  image_ids = λ serial at. ap (λ (b : Book). image_id b manager serial) is;
  screen_ids = λ host at. ap (λ (b : Book). screen_id b manager host) is;
  stands = λ i was now on. ap (λ (b : Book). is_some (screen_of b i)) is ∙ on;
  numbered = λ s was now. ap (λ (b : Book). screen_numbered b s) is;
}

pub follows : (gone closed : ℕ → Bool) (old new : World) → new.opening ≡ old.opening → KeepsBook gone closed old.book new.book
    → ((i : ℕ) → is_used old.book (Image i) ≡ true → is_used new.book (Image i) ≡ true → Lasts (at_number old i) (at_number new i)) → IsOrderly new → Follows gone closed old new
follows gone closed old new opening keeps lasts orderly = record {
  orderly = orderly;
  windows = λ serial r at shows.
      let found = keeps.image_ids serial at ∙ shows.found in
      let was = shown_used old.book manager serial shows.id shows.found in
      let now = shown_used new.book manager serial shows.id found in
      let still = lasts shows.id.image was now in
      record {
        counted = shows.counted;
        may = shows.may;
        id = shows.id;
        found = found;
        stands = keeps.stands shows.id.image was now shows.stands;
        size = sizes r (at_number old shows.id.image).r (at_number new shows.id.image).r shows.size still.size;
        rect = still.rect shows.rect;
        chan = still.chan ∙ shows.chan ∙ ap (λ o. o.chan) (sym opening);
      };
  rios = λ host at shows.
      let found = keeps.screen_ids host at ∙ shows.found in
      let numbered = keeps.numbered shows.id.screen (screen_used old.book manager host shows.id shows.found) (screen_used new.book manager host shows.id found) ∙ shows.numbered in
      let was = image_used old.book shows.id.screen shows.screen shows.numbered in
      let now = image_used new.book shows.id.screen shows.screen numbered in
      let still = lasts shows.screen.image was now in
      record {
        id = shows.id;
        found = found;
        screen = shows.screen;
        numbered = numbered;
        chan = still.chan ∙ shows.chan ∙ ap (λ o. o.chan) (sym opening);
      };
  fresh = λ serial at none. keeps.image_ids serial at ∙ none;
}
