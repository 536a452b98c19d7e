use Rattle.std.proofs.Common.{ℕ, Option, Some, None, ap, ◌∙◌, sym}
use Rattle.std.specs.Option.{unwrap_or}
use Rattle.model_draw.specs.draw.Act.{Written, no_memory}
use Rattle.model_world.specs.Whole.{client}
use Rattle.model_alone.specs.alone.Lone.{LoneDesktop, with_device, written_alone}
use Rattle.r9_files.specs.around.Words.{mark_after}
use Rattle.r9_draw.specs.draw.World.{world_of}
use Rattle.r9_isol.specs.isol.World.{desktop_of, parts_of}
use Rattle.r9_isol.proofs.isol.Marked.{first_written}
use Rattle.r9_isol.proofs.isol.desktop.Desktop.write_all.Goals as goal

pub returns-then-wrote-clause-written : goal.returns-then-wrote-clause-written
unfolding desktop_of
returns-then-wrote-clause-written c =
    let d : LoneDesktop = parts_of c.args.self.now in
    let k = client 1 c.args.connection in
    let is = first_written k c.in_ok-wrote.wrote.done (world_of c.args.self.now.device) (world_of c.write.new.device) c.args.bytes.now
    (rw c.client.ensures at c.in_ok-wrote.ensures.short c.if-wrote.true) in
    ap (λ (short : Option ℕ). (with_device d (written_alone k d.device c.args.bytes.now (mark_after None short)).0, (written_alone k d.device c.args.bytes.now (mark_after None short)).1)) c.ended.ensures.short
    ∙ ap (λ (w : Written). (with_device d w.world, Some (unwrap_or w.refusal no_memory))) is
    ∙ ap (λ (refusal : Option ℕ). (with_device d (world_of c.write.new.device), refusal)) (sym c.ended.ensures.refusal)
