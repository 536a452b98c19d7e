use Rattle.std.proofs.Common.{◌∙◌, ap}
use Rattle.model_draw.specs.draw.Orders.{carried_out}
use Rattle.model_world.specs.Desktop.{Desktop}
use Rattle.r9_draw.specs.draw.World.{world_of}
use Rattle.r9_wmgr.specs.wmgr.Acts.{act_of}
use Rattle.r9_desktop.proofs.desktop.Desktop.step.Goals as goal

pub returns-in_ok-follow-in-Ok-clause-clients : goal.returns-in_ok-follow-in-Ok-clause-clients
returns-in_ok-follow-in-Ok-clause-clients c =
    ap (λ (d : Desktop). d.device.clients) c.in_ok-follow-in-Ok.ensures.followed
    ∙ ap (λ (d : Desktop). (carried_out d.device c.in-Ok.step.orders).clients) c.notice_size.ensures.noticed
    ∙ c.orders_keep_connections.ensures (world_of c.args.self.now.device) c.in-Ok.step.orders
    (c.acts_end_no_connection.ensures c.args.self.now.manager (act_of c.args.act) _ c.in-Ok.ensures.done)
