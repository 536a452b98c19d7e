-- The world after a release, by its parts.
use Rattle.std.proofs.Common.{◌≡◌, ℕ, List, [], ◌∷◌, refl, sym, ap, subst, ◌∙◌}
use Rattle.std.specs.List.{fold}
use Rattle.model_text.specs.text.Map.{without}
use Rattle.model_forest.specs.World.{World as Images, IsForest}
use Rattle.model_draw_parts.specs.declared.images.Thing.{Thing}
use Rattle.model_draw_parts.specs.declared.images.Thing.TheVariants.{Image, Screen}
use Rattle.model_draw_parts.specs.images.Book.{Book, image_id}
use Rattle.model_draw_parts.specs.images.Release.{Freed, IsFreed, IsInOrder, KeepsRest, leave}
use Rattle.model_draw.specs.draw.World.{World, after_freed, after_leave, with_book, without_thing}
use Rattle.r9_device.specs.device.Gone.{images_without, numbers_without}
use Rattle.r9_device.specs.device.Kept.{IsKept}
use Rattle.model_draw_parts.proofs.images.Complete.{LeavesNone}
use Rattle.r9_device.proofs.device.Kept.{kept-freed}

pub fold-things : (gone : List Thing) (w : World)
    → fold without_thing w gone ≡ record w { images = fold images_without w.images gone; numbers = fold numbers_without w.numbers gone }
fold-things [] w = refl
fold-things (Image i ∷ gone) w = fold-things gone (without_thing w (Image i))
fold-things (Screen s ∷ gone) w = fold-things gone w

-- the world after these things have gone, before the connection changes
abbrev pub released_world : World → Freed → World
released_world w f = record {
  opening = w.opening;
  images = fold images_without w.images f.gone;
  numbers = fold numbers_without w.numbers f.gone;
  book = f.book;
  clients = w.clients;
}

pub left-world : (w : World) (k : ℕ) (f : Freed) → leave w.book k ≡ f → after_leave w k ≡ record (released_world w f) { clients = without w.clients k }
left-world w k f e =
    ap (λ (g : Freed). let left = after_freed w g in let after : World = record left { clients = without left.clients k } in after) e
    ∙ ap (λ (left : World). let after : World = record left { clients = without left.clients k } in after) (fold-things f.gone (with_book w f.book))

pub kept-after : (images next : Images) (book : Book) (f : Freed) → IsKept images book → IsForest images → IsFreed book f → LeavesNone book f → IsInOrder book [] f.gone → KeepsRest book f
    → image_id f.book 0 0 ≡ image_id book 0 0 → next ≡ fold images_without images f.gone → IsKept next f.book
kept-after images next book f k forest is none order rest shown e =
    let P : Images → Type 0 = λ w. IsKept w f.book in subst P (sym e) (kept-freed images book f k forest.parents is none order rest shown)
