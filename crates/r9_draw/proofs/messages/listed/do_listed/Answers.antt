use Rattle.std.proofs.Common.{◌≡◌, ◌≤◌, ℕ, true, [], Ok, OnOk, sym, subst}
use Rattle.std.specs.Prelude.{◌+◌, is_ok}
use Rattle.model_draw.specs.cost.Cost.{message_cost}
use Rattle.model_draw.specs.draw.Act.{act}
use Rattle.r9_dmsg.specs.declared.listed.Listed.{Listed}
use Rattle.r9_dmsg.specs.Listed.{listed_message}
use Rattle.r9_device.specs.device.World.{world_of}
use Rattle.r9_draw.proofs.messages.Costs.{writing-cost}
use Rattle.r9_draw.proofs.messages.Restacking.{accepted-shows, restacked-done}
use Rattle.r9_draw.proofs.messages.listed.do_listed.Goals as goal

pub restack-requires : goal.restack-requires
restack-requires g c =
    let w = world_of c.args.device.now in
    let P : Listed → Type 0 = λ l. is_ok (act c.args.client w (listed_message l) []) ≡ true in
    accepted-shows c.args.client w c.in-Restack.asked (subst P c.in-Restack.is c.requires.accepted)

pub returns-in-Restack-clause-done : goal.returns-in-Restack-clause-done
returns-in-Restack-clause-done g c =
    let w = world_of c.args.device.now in
    let next = world_of c.restack.new.device in
    let P : Listed → Type 0 = λ l. is_ok (act c.args.client w (listed_message l) []) ≡ true in
    let Q : Listed → Type 0 = λ l. OnOk c.restack.result (act c.args.client w (listed_message l) [] ≡ Ok next) in
    subst Q (sym c.in-Restack.is) (restacked-done c.restack.result c.args.client w next c.in-Restack.asked (subst P c.in-Restack.is c.requires.accepted) c.restack.ensures.restacked)

pub returns-in-Restack-clause-steps : goal.returns-in-Restack-clause-steps
unfolding message_cost
returns-in-Restack-clause-steps g c =
    let P : Listed → Type 0 = λ l. c.restack.new.steps ≤ c.args.steps.now + message_cost c.args.client (world_of c.args.device.now) (listed_message l) in
    subst P (sym c.in-Restack.is) c.restack.ensures.steps

pub returns-in-Write-clause-steps : goal.returns-in-Write-clause-steps
returns-in-Write-clause-steps g c =
    let w = world_of c.args.device.now in
    let P : Listed → Type 0 = λ l. c.write_string.new.steps ≤ c.args.steps.now + message_cost c.args.client w (listed_message l) in
    subst P (sym c.in-Write.is) (subst (λ (n : ℕ). c.write_string.new.steps ≤ c.args.steps.now + n) (sym (writing-cost c.args.client w c.in-Write.asked)) c.write_string.ensures.steps)
