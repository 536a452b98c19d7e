-- The room for what windows uncover stays enough.
use Rattle.std.proofs.Common.{◌≡◌, ◌∙◌, ℕ, ◌≤◌, Bool, List, Option, Some, None, refl, sym, subst, arith}
use Rattle.std.specs.Prelude.{option_map, unwrap_or}
use Rattle.r9_geom.specs.declared.Rect.{Rect}
use Rattle.r9_geom.specs.Geometry.{area_of}
use Rattle.model_forest.specs.declared.Standing.{Standing}
use Rattle.model_forest.specs.declared.Window.{Window}
use Rattle.model_forest.specs.Steps.{after_set}
use Rattle.model_forest.specs.World.{Image, World, image_at, no_image, with_image}
use Rattle.model_forest.proofs.Changes.{with_image-each}
use Rattle.model_kept.specs.Restack.{with_list}
use Rattle.r9_relist.specs.relist.Leaving.{gone, others}
use Rattle.r9_relist.specs.arrive.Arriving.{bare_window, listed, with_coming}
use Rattle.r9_forest.specs.Room.{HasFillRoom}

-- what is asked for an image
abbrev pub NeedsMost : ℕ → Option Image → Type 0
NeedsMost n slot = (p : ℕ) → option_map (λ (s : Standing). s.parent) (unwrap_or slot no_image).standing ≡ Some p → area_of (unwrap_or slot no_image).r ≤ n

pub fills_put : (world : World) (n i : ℕ) (slot : Option Image) → NeedsMost n slot → HasFillRoom world n → HasFillRoom (with_image world i slot) n
fills_put world n i slot new old = with_image-each world i slot (λ j slot. NeedsMost n slot) new (λ j other. old j)

-- an image that stands nowhere, and none, ask for nothing
pub needs_nothing : (n : ℕ) (slot : Option Image) → (unwrap_or slot no_image).standing ≡ None → NeedsMost n slot
needs_nothing n slot nowhere p stands =
    let none : None ≡ Some p = sym (λ j. option_map (λ (s : Standing). s.parent) (nowhere j)) ∙ stands in
    absurd (cc)

pub fills_same : (old new : World) (n : ℕ) → new ≡ old → HasFillRoom old n → HasFillRoom new n
fills_same old new n same is = subst (λ (w : World). HasFillRoom w n) (sym same) is

pub fills_more : (world : World) (n m : ℕ) → n ≤ m → HasFillRoom world n → HasFillRoom world m
fills_more world n m more is i p stands = let most = is i p stands in omega (arith, most, more)

-- an image is set
pub fills_set : (world : World) (n i : ℕ) (repl : Bool) (clipr : Rect) → HasFillRoom world n → HasFillRoom (after_set world i repl clipr) n
unfolding after_set
fills_set world n i repl clipr is = fills_put world n i (Some (record (image_at world i) { repl = repl; clipr = clipr })) (is i) is

-- a window comes
pub fills_window : (world : World) (n i parent fill : ℕ) (r : Rect) (ws : List Window) → area_of r ≤ n → HasFillRoom world n → HasFillRoom (listed world i parent fill r ws) n
fills_window world n i parent fill r ws most is =
    let more : World = with_coming world i parent fill r in
    let with_it : HasFillRoom more n = fills_put world n i (Some (bare_window world parent fill r)) (λ p stands. most) is in
    fills_put more n parent (Some (record (image_at more parent) { windows = ws })) (with_it parent) with_it

-- a window goes
pub fills_gone : (world : World) (n p i : ℕ) → HasFillRoom world n → HasFillRoom (gone world p i) n
fills_gone world n p i is =
    fills_put (with_list world p (others world p i)) n i None (needs_nothing n None refl)
    (fills_put world n p (Some (record (image_at world p) { windows = others world p i })) (is p) is)
