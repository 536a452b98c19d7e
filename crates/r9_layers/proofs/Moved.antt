-- Drawings that only move the pixels of an image.
use Rattle.std.proofs.Common.{◌≡◌, ◌∙◌, ℕ, ◌||◌, true, false, Option, Some, None, sym, ap, arith}
use Rattle.std.specs.Prelude.{IfSome, if◌then◌else◌}
use Rattle.std.specs.Int.Bits.{bit_and}
use Rattle.std.proofs.lemmas.Bool.{and_parts}
use Rattle.std.proofs.lemmas.Int.{ints}
use Rattle.r9_geom.specs.declared.Point.{Point}
use Rattle.r9_geom.specs.Geometry.{carried, holds, reduced}
use Rattle.r9_geom.proofs.GeometryLemmas.{same_point}
use Rattle.model_pixel.specs.Composition.{composed_raw}
use Rattle.r9_chan.specs.Op.{number}
use Rattle.r9_locate.specs.declared.info.Info.{Info}
use Rattle.r9_mem.specs.declared.single.Through.{Through}
use Rattle.r9_mem.specs.Through.{IsThrough}
use Rattle.model_forest.specs.Draw.{reaches}
use Rattle.model_forest.specs.View.{at, view}
use Rattle.model_forest.specs.World.{World, image_at}
use Rattle.r9_forest.specs.Told.{info_of}
use Rattle.r9_layers.specs.declared.task.Task.{Task}
use Rattle.r9_layers.specs.Area.{mask_at, mask_chan}
use Rattle.r9_layers.specs.Moved.{IsMoved}

-- an image is drawn onto itself, and the source alone decides
pub moved_since : (world : World) (task : Task) (info : Info) (chan m : ℕ) (through : Through) (o : Option ℕ) → info ≡ info_of (image_at world task.dst) → task.src ≡ task.dst → info.repl ≡ false → chan ≡ mask_chan world task.mask → ((p : Point) → mask_at world task p ≡ m) → IsThrough through info.chan info.chan chan (number task.op) m → IfSome o (λ bits. (dst src mask op m : ℕ) → IsThrough through dst src mask op m → (s d : ℕ) → bit_and s bits ≡ composed_raw dst src mask op s m d) → IfSome o (IsMoved world task)
moved_since world task info chan m through None is same once chan_is all serves found = tt
moved_since world task info chan m through (Some bits) is same once chan_is all serves found =
    let image = image_at world task.dst in
    let no : image.repl ≡ false = sym (ap (λ (told : Info). told.repl) is) ∙ once in
    let dst : image.chan ≡ info.chan = sym (ap (λ (told : Info). told.chan) is) in
    let src : (image_at world task.src).chan ≡ info.chan = ap (λ n. (image_at world n).chan) same ∙ dst in
    record {
      same = same;
      once = no;
      drawn = λ p own.
          let q = carried p task.r.min task.sp in
          let source : at world task.src q ≡ view world task.dst q =
          ap (λ n. at world n q) same ∙ ap (λ b. view world task.dst (if b then reduced image.r q else q)) no in
          (λ j. composed_raw (dst j) (src j) (sym chan_is j) (number task.op) (source j) (all p j) own)
          ∙ sym (found info.chan info.chan chan (number task.op) m serves (view world task.dst q) own);
    }

-- an image that does not repeat gives its own points alone
pub once_inside : (world : World) (i : ℕ) (q : Point) → (image_at world i).repl ≡ false → reaches (image_at world i) q ≡ true → holds (image_at world i).r q ≡ true
once_inside world i q once reached =
    let image = image_at world i in
    let both = and_parts (holds image.clipr q) (image.repl || holds image.r q) reached in
    ap (λ b. b || holds image.r q) (sym once) ∙ both.1

-- what the source gives then is a point of the image
pub moved_inside : (world : World) (task : Task) (bits : ℕ) (q : Point) → IsMoved world task bits → reaches (image_at world task.src) q ≡ true → holds (image_at world task.dst).r q ≡ true
moved_inside world task bits q is reached = once_inside world task.dst q is.once (ap (λ n. reaches (image_at world n) q) (sym is.same) ∙ reached)

-- a point that is carried with another one
pub carried_with : (p a from to : Point) → carried p a (carried a from to) ≡ carried p from to
carried_with p a from to = same_point (carried p a (carried a from to)) (carried p from to) (omega (arith, ints)) (omega (arith, ints))
