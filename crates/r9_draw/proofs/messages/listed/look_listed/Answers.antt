use Rattle.std.proofs.Common.{◌≡◌, true, [], sym, subst}
use Rattle.std.specs.Prelude.{is_ok}
use Rattle.model_draw.specs.draw.Act.{act}
use Rattle.r9_dmsg.specs.declared.listed.Listed.{Listed}
use Rattle.r9_dmsg.specs.Listed.{listed_message}
use Rattle.r9_device.specs.device.World.{world_of}
use Rattle.r9_draw.proofs.messages.Strings.{accepted-writing}
use Rattle.r9_draw.proofs.messages.listed.look_listed.Goals as goal

pub returns-in_ok-lettering-in-Write-clause-accepted : goal.returns-in_ok-lettering-in-Write-clause-accepted
returns-in_ok-lettering-in-Write-clause-accepted c =
    let w = world_of c.args.device.now in
    let P : Listed → Type 0 = λ l. is_ok (act c.args.client w (listed_message l) []) ≡ true in
    subst P (sym c.in-Write.is) (accepted-writing c.args.client w c.in-Write.asked _ c.in_ok-lettering-in-Write.ensures.drawn)
