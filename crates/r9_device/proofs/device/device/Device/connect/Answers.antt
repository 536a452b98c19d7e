use Rattle.r9_device.proofs.device.Manager.{manager-inserted}
use Rattle.r9_device.proofs.device.device.Device.connect.Goals as goal

pub invariant_of-self-clause-manager : goal.invariant_of-self-clause-manager
invariant_of-self-clause-manager c =
    manager-inserted c.insert.result c.args.self.now.clients.entries c.insert.new.self.entries c.args.client c.new-begun.result c.insert.ensures.entries c.insert.ensures.err c.requires.some c.args.self.now.manager
