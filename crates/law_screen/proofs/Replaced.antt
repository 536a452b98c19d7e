-- Windows are placed still once one has got another image.
use Rattle.std.proofs.Common.{◌≡◌, ◌+◌, ℕ, Bool, false, [], ◌∷◌, Option, Some, None, refl, sym, ap, subst, ◌∙◌}
use Rattle.std.specs.Prelude.{◌==◌, option_map, unwrap_or, if◌then◌else◌}
use Rattle.r9_geom.specs.declared.Point.{Point}
use Rattle.r9_geom.specs.declared.Rect.{Rect}
use Rattle.r9_geom.specs.Geometry.{carried}
use Rattle.model_forest.specs.declared.Standing.{Standing}
use Rattle.model_forest.specs.declared.Window.{Window}
use Rattle.model_forest.specs.World.{Image, SameSize, World, image_at, no_image, with_image}
use Rattle.model_forest.specs.View.{view}
use Rattle.model_forest.specs.Stack.{moved, seen, with_windows}
use Rattle.model_forest.specs.Steps.{after_list, after_replace, after_replace_on, carried_rect, outside, put_above}
use Rattle.model_forest.proofs.Listed.{All-put_above}
use Rattle.model_forest.proofs.Placed.{SameSize-carried}
use Rattle.model_forest.proofs.Releasing.{changed-other}
use Rattle.law_screen.proofs.Placed.{ArePlaced, Follows, IsPlaced, first_placed, follows_itself, follows_placed, list_follows, moved_placed, new_placed, size_back, size_then, topmost_follows}

module _ (w : World) (n old : ℕ) (r : Rect) (corner : Point) (raw : ℕ) (keep : Bool) (free : w n ≡ None) (other : (old == n) ≡ false) (placed : ArePlaced w) where
  abbrev image : Image
  image = image_at w old

  abbrev pixel : Point → ℕ
  pixel p = if keep then view w old (carried p r.min image.r.min) else raw

  abbrev first : Window
  first = record { image = n; place = carried_rect r r.min corner }

  -- the old one is as it was
  same : (x : Image) → image_at (with_image w n (Some x)) old ≡ image
  same x = ap (λ (o : Option Image). unwrap_or o no_image) (changed-other w n old (Some x) other)

  -- the old one moves far outside
  away : (more next : World) → SameSize (image_at more old).r image.r → Follows more next → ArePlaced (after_list next old (moved old (carried_rect image.r image.r.min outside)))
  away more next size follows =
      let place = carried_rect image.r image.r.min outside in
      let there = follows_placed more next follows in
      let as_large : SameSize (image_at next old).r image.r = size_then _ _ _ (let stays = follows.stays old in stays.size) size in
      follows_placed next _
      (list_follows next next old (moved old place) (follows_itself next there)
      (λ p stands. moved_placed next old p place (image_at next p).windows (size_then _ _ _ (SameSize-carried image.r image.r.min outside) (size_back _ _ as_large)) (there p)))

  sized : (x : Image) → SameSize (image_at (with_image w n (Some x)) old).r image.r
  sized x = subst (λ (old_image : Image). SameSize old_image.r image.r) (sym (same x)) (record { width = refl; height = refl })

  pub replace_placed : ArePlaced (after_replace w n old r corner raw keep)
  unfolding after_replace
  replace_placed =
      away more (after_list more old (put_above first old)) (sized window)
      (list_follows more more old (put_above first old) (follows_itself more there)
      (λ p stands.
      All-put_above (IsPlaced more p) first old (image_at more p).windows
      (first_placed w n p window first.place (sym (ap (λ (x : Image). option_map (λ (s : Standing). s.parent) x.standing) (same window)) ∙ stands) (SameSize-carried r r.min corner)) (there p)))
    where
      window : Image
      window = record {
        r = r;
        clipr = r;
        repl = false;
        chan = image.chan;
        standing = image.standing;
        depth = image.depth;
        canvas = seen r [] pixel;
        windows = [];
      }

      more : World
      more = with_image w n (Some window)

      there : ArePlaced more
      there = new_placed w n window free refl placed

  pub replace_on_placed : (parent fill : ℕ) → ArePlaced (after_replace_on w n old parent fill r corner raw keep)
  unfolding after_replace_on
  replace_on_placed parent fill =
      away (with_image w n (Some window)) (with_windows (with_image w n (Some window)) parent (first ∷ (image_at w parent).windows)) (sized window)
      (topmost_follows w n parent window first.place free refl refl (SameSize-carried r r.min corner) placed)
    where
      window : Image
      window = record {
        r = r;
        clipr = r;
        repl = false;
        chan = (image_at w parent).chan;
        standing = Some (record { parent = parent; fill = fill });
        depth = (image_at w parent).depth + 1;
        canvas = seen r [] pixel;
        windows = [];
      }
