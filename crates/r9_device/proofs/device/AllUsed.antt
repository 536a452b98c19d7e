-- What is there is what is used.
use Rattle.std.proofs.Common.{◌≡◌, Bool, true, false, Option, Some, None, refl, sym, ap, ◌∙◌}
use Rattle.std.specs.Prelude.{◌==◌, is_some, find, option_map, unwrap_or}
use Rattle.std.proofs.lemmas.List.Elements.{All-weaker}
use Rattle.model_forest.specs.declared.Standing.{Standing}
use Rattle.model_forest.specs.World.{Image, World as Images, IsLive, no_image}
use Rattle.model_draw_parts.specs.declared.images.OnScreen.{OnScreen}
use Rattle.model_draw_parts.specs.declared.images.Thing.TheVariants.{Image as Shown, Screen}
use Rattle.model_draw_parts.specs.images.Book.{Book, screen_numbered}
use Rattle.model_draw_parts.specs.images.Release.{is_used}
use Rattle.model_draw.specs.draw.World.{World}
use Rattle.model_draw.specs.draw.Sound.{IsAllUsed}
use Rattle.r9_device.specs.device.Kept.{IsKept, standing_on}

alike : (a b : Bool) → (a ≡ true → b ≡ true) → (b ≡ true → a ≡ true) → a ≡ b
alike true b h k = sym (h refl)
alike false true h k = k refl
alike false false h k = refl

-- an image that stands somewhere lives
standing_live : (o : Option Image) (s : Standing) → (unwrap_or o no_image).standing ≡ Some s → is_some o ≡ true
standing_live (Some x) s e = refl
standing_live None s e = absurd cc

window_live : (images : Images) (book : Book) (w : OnScreen) → IsKept images book → find (λ v. v.image == w.image) book.windows ≡ Some w → IsLive images w.image
window_live images book w k found =
    standing_live (images w.image) (standing_on book w.screen)
    ((k.placed w.image).stands ∙ ap (λ (o : Option OnScreen). option_map (standing_on book) (option_map (λ v. v.screen) o)) found)

pub all-used : (world : World) → IsKept world.images world.book → IsAllUsed world
all-used world k =
    let finds = k.finds in
    record {
      images = λ i. alike (is_some (world.images i)) (is_used world.book (Shown i)) (k.used i) (k.live i);
      screens = λ s. alike (is_some (screen_numbered world.book s)) (is_used world.book (Screen s)) (k.screens_used s) (k.screens s);
      windows = All-weaker (λ (w : OnScreen). find (λ v. v.image == w.image) world.book.windows ≡ Some w) (λ (w : OnScreen). IsLive world.images w.image) (λ w found. window_live world.images world.book w k found) world.book.windows finds.windows;
      finds = finds;
    }
