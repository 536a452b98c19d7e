-- A world without its pixels.
use Rattle.std.proofs.Common.{◌≡◌, ◌∙◌, ℕ, ◌==◌, Bool, true, false, List, Option, Some, None, refl, sym, ap, arith}
use Rattle.std.specs.Prelude.{is_some, option_map, unwrap_or, if◌then◌else◌}
use Rattle.std.proofs.lemmas.Nat.{pow_pos}
use Rattle.r9_geom.specs.declared.Point.{Point}
use Rattle.model_pixel.specs.Channels.{depth}
use Rattle.model_forest.specs.declared.Window.{Window}
use Rattle.model_forest.specs.Stack.{seen, uncovered, with_windows}
use Rattle.model_forest.specs.World.{Image, World, image_at, no_image, with_image, IsForest}
use Rattle.model_forest.proofs.Changes.{World-same}
use Rattle.model_kept.specs.Keeping.{with_kept, Place}
use Rattle.model_kept.specs.Restack.{with_list}
use Rattle.model_kept.proofs.Worlds.{pictured}
use Rattle.r9_locate.specs.numbered.Numbered.{value_at}
use Rattle.r9_locate.specs.declared.locate.lists.Frame.{Frame}
use Rattle.r9_locate.specs.declared.locate.lists.Lists.{Lists}
use Rattle.r9_locate.specs.locate.Lists.{frame_image}
use Rattle.r9_locate.specs.locate.Table.{shape}
use Rattle.r9_relist.proofs.arrive.Canvases.{IsForest-canvas, SameButCanvas}

abbrev pub bare : Image → Image
bare image = record image { canvas = λ _. 0 }

abbrev pub bared : World → World
bared world = λ n. option_map bare (world n)

-- what is told of an image without its pixels is the same
told : {A : Type 0} (tell : Image → A) → ((image : Image) → tell (bare image) ≡ tell image) → (o : Option Image) → tell (unwrap_or (option_map bare o) no_image) ≡ tell (unwrap_or o no_image)
told tell same None = refl
told tell same (Some image) = same image

pub bared_same : (world : World) → SameButCanvas world (bared world)
bared_same world = record {
  live = λ n. lives (world n);
  r = λ n. told (λ im. im.r) (λ im. refl) (world n);
  clipr = λ n. told (λ im. im.clipr) (λ im. refl) (world n);
  repl = λ n. told (λ im. im.repl) (λ im. refl) (world n);
  chan = λ n. told (λ im. im.chan) (λ im. refl) (world n);
  standing = λ n. told (λ im. im.standing) (λ im. refl) (world n);
  deep = λ n. told (λ im. im.depth) (λ im. refl) (world n);
  windows = λ n. told (λ im. im.windows) (λ im. refl) (world n);
}
  where
    lives : (o : Option Image) → is_some (option_map bare o) ≡ is_some o
    lives None = refl
    lives (Some image) = refl

pub bared_forest : (world : World) → IsForest world → IsForest (bared world)
bared_forest world ok =
    IsForest-canvas world (bared world) (bared_same world)
    (λ n p live. let none = blank (world n) p in let some = pow_pos (depth (image_at (bared world) n).chan) in omega (arith, none, some))
    ok
  where
    blank : (o : Option Image) (p : Point) → (unwrap_or (option_map bare o) no_image).canvas p ≡ 0
    blank None p = refl
    blank (Some image) p = refl

pub bared_at : (world : World) (n : ℕ) → image_at (bared world) n ≡ bare (image_at world n)
bared_at world n = at (world n)
  where
    at : (o : Option Image) → unwrap_or (option_map bare o) no_image ≡ bare (unwrap_or o no_image)
    at None = refl
    at (Some image) = refl

-- changes of a world are changes of it
pub bared_image : (world : World) (i : ℕ) (slot : Option Image) → bared (with_image world i slot) ≡ with_image (bared world) i (option_map bare slot)
bared_image world i slot = World-same (bared (with_image world i slot)) (with_image (bared world) i (option_map bare slot)) (λ n. at (n == i) (world n))
  where
    at : (b : Bool) (o : Option Image) → option_map bare (if b then slot else o) ≡ (if b then option_map bare slot else option_map bare o)
    at true o = refl
    at false o = refl

pub bared_windows : (world : World) (p : ℕ) (ws : List Window) → bared (with_windows world p ws) ≡ with_list (bared world) p ws
bared_windows world p ws =
    bared_image world p (Some (record (image_at world p) { windows = ws; canvas = seen (image_at world p).r ws (uncovered world p) }))
    ∙ ap (λ (im : Image). with_image (bared world) p (Some (record im { windows = ws }))) (sym (bared_at world p))

-- the lists of a world with its pixels
pub bared_kept : (shape : World) (kept : Place → ℕ) → bared (with_kept shape kept) ≡ bared shape
bared_kept shape kept = World-same (bared (with_kept shape kept)) (bared shape) (λ n. at n (shape n))
  where
    at : (n : ℕ) (o : Option Image) → option_map bare (option_map {T = Image} (pictured shape kept n) o) ≡ option_map bare o
    at n None = refl
    at n (Some image) = refl

pub bared_lists : (lists : Lists) → bared (shape lists) ≡ shape lists
unfolding shape
bared_lists lists = World-same (bared (shape lists)) (shape lists) (λ n. at (value_at lists.frames n))
  where
    at : (o : Option Frame) → option_map bare (option_map frame_image o) ≡ option_map frame_image o
    at None = refl
    at (Some frame) = refl

pub bared_whole : (lists : Lists) (kept : Place → ℕ) → bared (with_kept (shape lists) kept) ≡ shape lists
bared_whole lists kept = bared_kept (shape lists) kept ∙ bared_lists lists
