-- A window that comes in place of another, which stays where it stands until it goes.
use Rattle.std.specs.Prelude.{◌≡◌, ◌≢◌, ℕ, ◌+◌, ◌==◌, Bool, true, false, List, [], ◌∷◌, Some, IfSome, if◌then◌else◌}
use Rattle.r9_geom.specs.declared.Point.{Point}
use Rattle.r9_geom.specs.declared.Rect.{Rect}
use Rattle.r9_geom.specs.Geometry.{carried, is_empty, meet}
use Rattle.model_forest.specs.declared.Window.{Window}
use Rattle.model_forest.specs.World.{Image, World, fill_of, image_at, parent_of, with_image}
use Rattle.model_forest.specs.View.{view}
use Rattle.model_forest.specs.Stack.{seen, with_windows}
use Rattle.model_forest.specs.Steps.{after_list, carried_rect, outside}

-- a window directly below another of a list
abbrev pub put_below : Window → ℕ → List Window → List Window
put_below w old [] = []
put_below w old (v ∷ ws) = if v.image == old then v ∷ w ∷ ws else v ∷ put_below w old ws

-- a window comes directly below another, which stays where it stands: once that goes it stands where it would in place of it
unfoldable pub after_put_under : World → ℕ → ℕ → Rect → Point → ℕ → Bool → World
after_put_under world i old r corner raw keep =
    let image = image_at world old in
    let pixel = λ (p : Point). if keep then view world old (carried p r.min image.r.min) else raw in
    let window : Image = record {
      r = r;
      clipr = r;
      repl = false;
      chan = image.chan;
      standing = image.standing;
      depth = image.depth;
      canvas = seen r [] pixel;
      windows = [];
    } in
    let first : Window = record { image = i; place = carried_rect r r.min corner } in
    after_list (with_image world i (Some window)) old (put_below first old)

-- the same where it comes on another image, topmost there
unfoldable pub after_put_on : World → (i old parent fill : ℕ) → Rect → Point → ℕ → Bool → World
after_put_on world i old parent fill r corner raw keep =
    let image = image_at world old in
    let pixel = λ (p : Point). if keep then view world old (carried p r.min image.r.min) else raw in
    let window : Image = record {
      r = r;
      clipr = r;
      repl = false;
      chan = (image_at world parent).chan;
      standing = Some (record { parent = parent; fill = fill });
      depth = (image_at world parent).depth + 1;
      canvas = seen r [] pixel;
      windows = [];
    } in
    let first : Window = record { image = i; place = carried_rect r r.min corner } in
    with_windows (with_image world i (Some window)) parent (first ∷ (image_at world parent).windows)

-- a window goes as well from where it stands as from far outside, also once another came on image p: its parent has no point
-- far outside, and no window stands on the image that fills where it stood, nor comes there
pub record LeavesUnseen (world : World) (old p : ℕ) : Type 0 where
  pub off : IfSome (parent_of world old) (λ q. is_empty (meet (carried_rect (image_at world old).r (image_at world old).r.min outside) (image_at world q).r) ≡ true)
  pub bare : (image_at world (fill_of world old)).windows ≡ []
  pub apart : fill_of world old ≢ p
