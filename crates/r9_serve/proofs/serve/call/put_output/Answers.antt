use Rattle.r9_hall.specs.hall.WorldView.{world_in}
use Rattle.r9_serve.proofs.replay.Screens.{output_part}
use Rattle.r9_serve.proofs.serve.call.put_output.Goals as goal

pub returns-in_err-put_screen-clause-part : goal.returns-in_err-put_screen-clause-part
returns-in_err-put_screen-clause-part g c =
    output_part _ _ _ c.args.screen _ (world_in c.args.ended.now.world) c.if-screen.true c.in_ok-put_lines.ensures.ok.0 c.in_err-put_screen.ensures.part

pub returns-in_ok-put_screen-clause-part : goal.returns-in_ok-put_screen-clause-part
returns-in_ok-put_screen-clause-part g c =
    output_part _ _ _ c.args.screen _ (world_in c.args.ended.now.world) c.if-screen.true c.in_ok-put_lines.ensures.ok.0 c.in_ok-put_screen.ensures.part
