use Rattle.std.proofs.Common.{◌≡◌, ◌++◌, ◌-◌, ◌∙◌, ℕ, List, length, take, drop, ap, arith, length-drop, take_all}
use Rattle.std.proofs.lemmas.Result.{IfOk-weaker}
use Rattle.r9_event.specs.declared.event.own.Use.{Use}
use Rattle.r9_hall.proofs.seen.Hosts.{hosts_added}
use Rattle.r9_hall.proofs.seen.ending.push_new_hosts.Goals as goal

rest : (hosts : List ℕ) → take (length hosts - 1) (drop 1 hosts) ≡ drop 1 hosts
rest hosts = take_all (length hosts - 1) (drop 1 hosts) (omega (arith, length-drop 1 hosts))

pub returns : goal.returns
returns c =
    IfOk-weaker c.push_hosts.result _ _
    (λ _ is. λ table next before after.
    is ∙ ap (λ (added : List Use). c.args.uses.now ++ added) (hosts_added c.args.before.now c.args.after.now _ table next after (rest c.args.after.now) before))
    c.push_hosts.ensures
