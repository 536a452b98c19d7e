-- What a device shows when it starts.
use Rattle.std.proofs.Common.{◌≡◌, ℕ, ◌<◌, Bool, true, false, cond, [], Some, None, refl, ap, subst, arith}
use Rattle.std.specs.Prelude.{◌==◌, ◌&&◌, is_some}
use Rattle.std.proofs.lemmas.Bool.Decides.{nat_tests}
use Rattle.std.proofs.lemmas.List.Elements.{All-cons, All-nil}
use Rattle.model_forest.specs.Steps.{after_image, after_set}
use Rattle.model_draw_parts.specs.declared.images.ImageId.{ImageId}
use Rattle.model_draw_parts.specs.declared.images.Tie.{Tie}
use Rattle.model_draw_parts.specs.declared.images.Thing.TheVariants.{Image, Screen}
use Rattle.model_draw_parts.specs.images.Book.{add_id, image_id, new_screen, owner, screen_numbered}
use Rattle.model_draw_parts.specs.images.Release.{is_used}
use Rattle.model_draw_parts.specs.images.Ties.{shown_by}
use Rattle.model_draw.specs.draw.World.{Opening, World, started}
use Rattle.model_draw.specs.draw.Orders.{manager, with_root_rio}
use Rattle.model_rio.specs.rio.Table.{Rio, Window, no_windows, opened}
use Rattle.law_shown.specs.shown.Showing.{IsOrderly, ShowsRio, ShowsWindow}
use Rattle.law_shown.specs.fitting.Fitting.{Shows}

abbrev first : Opening → World
first opening = with_root_rio (started opening)

pub first_orderly : (opening : Opening) → IsOrderly (first opening)
unfolding started with_root_rio add_id new_screen
first_orderly opening = record {
  ties = record { shown = All-nil (λ (t : Tie). shown_by (first opening).book t.client t.id ≡ Some t.image) };
  images = λ i used. record { made = (let few : i < 2 = low i used in few); kept = refl };
  numbers = tt;
  screens = λ s used. let P : ℕ → Type 0 = λ n. is_some (screen_numbered (first opening).book n) ≡ true in subst P (zero_is s used) refl;
  spare = tt;
}
  where
    low : (i : ℕ) → is_used (first opening).book (Image i) ≡ true → i < 2
    low i used = grind (arith, nat_tests)

    zero_is : (s : ℕ) → is_used (first opening).book (Screen s) ≡ true → 0 ≡ s
    zero_is s used = grind (arith, nat_tests)

pub first_shows : (opening : Opening) → Shows (first opening) (opened opening.r)
unfolding started with_root_rio add_id new_screen after_image after_set
first_shows opening = record {
  rooted = refl;
  windows = All-nil (λ (w : Window). ShowsWindow (first opening) w.serial w.r);
  rios = All-cons (λ (rio : Rio). ShowsRio (first opening) rio.host) (no_windows 0) [] root (All-nil (λ (rio : Rio). ShowsRio (first opening) rio.host));
  fresh = fresh;
}
  where
    root : ShowsRio (first opening) 0
    root = record {
      id = record { client = 0; id = 0; screen = 0; public = false };
      found = refl;
      screen = record { image = 0; fill = 1 };
      numbered = refl;
      chan = refl;
    }

    none_of : (a b : Bool) (e : ImageId) → b ≡ false → cond (a && b) (Some e) None ≡ None
    none_of true b e h = ap (λ (c : Bool). cond c (Some e) None) h
    none_of false b e h = refl

    another : (serial : ℕ) → 0 < serial → (0 == serial) ≡ false
    another serial later = grind (arith, nat_tests)

    fresh : (serial : ℕ) → 0 < serial → image_id (first opening).book manager serial ≡ None
    fresh serial later = none_of (0 == owner manager serial) (0 == serial) (record { client = 0; id = 0; image = 0; tie = None }) (another serial later)
