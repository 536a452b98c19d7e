use Rattle.std.proofs.Common.{sym, subst}
use Rattle.r9_draw.specs.declared.draw.draw.Draw.{Draw}
use Rattle.r9_draw.specs.draw.World.{marked_in, marks_of, world_of, writes_of}
use Rattle.r9_desktop.specs.Marks.{AreCounted, IsBegun}
use Rattle.r9_desktop.proofs.Display.{near}
use Rattle.r9_desktop.proofs.Marks.{begun_here, counted_none}
use Rattle.r9_desktop.proofs.desktop.Desktop.start.Goals as goal

pub new-requires-2 : goal.new-requires-2
new-requires-2 c = near c.args.r c.requires.left c.requires.top c.requires.ordered c.requires.width c.requires.height

pub invariant_of-result : goal.invariant_of-result
invariant_of-result c =
    let made : Draw = c.in_ok-device.device in
    let device : Draw = c.look.new.self in
    let looked = c.look.ensures in
    let here = begun_here device (world_of made) (marked_in made) (marks_of made) (writes_of made) looked.world looked.marks looked.count looked.writes looked.here looked.nowhere in
    record {
      begun = subst (λ (d : Draw). IsBegun d device) (sym c.begun-spending.ensures.began) here;
      counted = subst (λ (d : Draw). AreCounted d device c.begun-spending.result.pixels) (sym c.begun-spending.ensures.began) (counted_none (writes_of device) c.begun-spending.result.pixels);
    }
