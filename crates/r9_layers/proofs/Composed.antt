-- Drawings by SoverD through a full mask.
use Rattle.std.proofs.Common.{◌≡◌, ◌∙◌, ℕ, false, Option, Some, None, sym, ap}
use Rattle.std.specs.Prelude.{IfSome, if◌then◌else◌}
use Rattle.r9_geom.specs.declared.Point.{Point}
use Rattle.r9_geom.specs.Geometry.{carried, reduced}
use Rattle.model_pixel.specs.Composition.{composed_raw}
use Rattle.r9_chan.specs.Op.{number}
use Rattle.r9_locate.specs.declared.info.Info.{Info}
use Rattle.r9_kern.specs.declared.layout.Over.{Over}
use Rattle.r9_kern.specs.Over.{over_of}
use Rattle.r9_mem.specs.declared.single.Through.{Through}
use Rattle.r9_mem.specs.Through.{IsThrough}
use Rattle.model_forest.specs.View.{at, view}
use Rattle.model_forest.specs.World.{World, image_at}
use Rattle.r9_forest.specs.Told.{info_of}
use Rattle.r9_layers.specs.declared.task.Task.{Task}
use Rattle.r9_layers.specs.Area.{mask_at, mask_chan}
use Rattle.r9_layers.specs.Over.{IsOver}

pub over_since : (world : World) (task : Task) (info : Info) (dst chan m : ℕ) (through : Through) (o : Option Over) → info ≡ info_of (image_at world task.src) → info.repl ≡ false → dst ≡ (image_at world task.dst).chan → chan ≡ mask_chan world task.mask → ((p : Point) → mask_at world task p ≡ m) → IsThrough through dst info.chan chan (number task.op) m → IfSome o (λ over. (dst src mask op m : ℕ) → IsThrough through dst src mask op m → (s d : ℕ) → over_of over s d ≡ composed_raw dst src mask op s m d) → IfSome o (IsOver world task)
over_since world task info dst chan m through None is once dst_is chan_is all serves found = tt
over_since world task info dst chan m through (Some over) is once dst_is chan_is all serves found =
    let image = image_at world task.src in
    let no : image.repl ≡ false = sym (ap (λ (told : Info). told.repl) is) ∙ once in
    let src : image.chan ≡ info.chan = sym (ap (λ (told : Info). told.chan) is) in
    record {
      once = no;
      drawn = λ p own.
          let q = carried p task.r.min task.sp in
          let source : at world task.src q ≡ view world task.src q = ap (λ b. view world task.src (if b then reduced image.r q else q)) no in
          (λ j. composed_raw (sym dst_is j) (src j) (sym chan_is j) (number task.op) (source j) (all p j) own)
          ∙ sym (found dst info.chan chan (number task.op) m serves (view world task.src q) own);
    }
