use Rattle.std.proofs.Common.{sym, subst, ap, length, ◌<◌, arith}
use Rattle.r9_wctl.specs.wctl.Small.{AreOptions}
use Rattle.r9_wctl.proofs.wctl.Pushed.{pushed}
use Rattle.r9_wctl.proofs.wctl.options.Options.push.Goals as goal

pub invariant_of-self-2 : goal.invariant_of-self-2
invariant_of-self-2 c =
    let few : length c.self.inside.items.items < 1024 = omega (arith, ap length c.self.view_is) in
    subst AreOptions (sym c.in_ok-push.ensures.items) (pushed c.self.inside.items.items c.args.choice c.self.invariant few c.requires.small)
