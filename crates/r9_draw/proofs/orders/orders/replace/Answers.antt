use Rattle.std.proofs.Common.{◌≡◌, ◌≤◌, ◌+◌, ℕ, true, OnOk, sym, subst}
use Rattle.r9_event.specs.declared.event.rio.Order.{Order}
use Rattle.r9_event.specs.declared.event.rio.Order.TheVariants.{Replace}
use Rattle.model_draw.specs.cost.Cost.{order_cost, replacing}
use Rattle.model_draw.specs.draw.World.{World}
use Rattle.model_draw.specs.draw.Orders.{replace_window}
use Rattle.r9_device.specs.device.World.{world_of}
use Rattle.r9_draw.specs.orders.Ordering.{is_used_by_id}
use Rattle.r9_draw.proofs.orders.Windows.{cost-where, ordered-not, ordered-where, replace-fits, rio-by-id}
use Rattle.r9_draw.proofs.orders.orders.replace.Goals as goal

pub replace_window-requires-clause-window : goal.replace_window-requires-clause-window
replace_window-requires-clause-window g c =
    let w = world_of c.args.device.now in
    (replace-fits w c.args.window c.args.host c.args.r c.args.name.now c.args.keep c.args.hidden (sym (c.in-Some.ensures.fits c.args.name.now))).0

pub replace_window-requires-clause-screen : goal.replace_window-requires-clause-screen
replace_window-requires-clause-screen g c =
    let w = world_of c.args.device.now in
    let passed = replace-fits w c.args.window c.args.host c.args.r c.args.name.now c.args.keep c.args.hidden (sym (c.in-Some.ensures.fits c.args.name.now)) in
    subst (λ (s : ℕ). is_used_by_id w.book s ≡ true) (sym c.in-Some.ensures.screen) (rio-by-id w c.args.host passed.1)

pub returns-in-Some-clause-ordered : goal.returns-in-Some-clause-ordered
returns-in-Some-clause-ordered g c =
    let w = world_of c.args.device.now in
    let next = c.in-Some.ensures in
    let told : replace_window w c.args.window c.args.host c.in-Some.next.r c.args.name.now c.in-Some.next.keep c.in-Some.next.hidden ≡ replace_window w c.args.window c.args.host c.args.r c.args.name.now c.args.keep c.args.hidden =
    λ i. replace_window w c.args.window c.args.host (next.rect i) c.args.name.now (next.keep i) (next.hidden i) in
    ordered-where c.replace_window.result w (world_of c.replace_window.new.device) (Replace c.args.window c.args.host c.args.r c.args.name.now c.args.keep c.args.hidden) (sym (next.fits c.args.name.now))
    (subst (λ (v : World). OnOk c.replace_window.result (world_of c.replace_window.new.device ≡ v)) told (c.replace_window.ensures.replaced c.args.host next.screen))

pub returns-in-Some-clause-steps : goal.returns-in-Some-clause-steps
unfolding order_cost
returns-in-Some-clause-steps g c =
    let w = world_of c.args.device.now in
    let next = c.in-Some.ensures in
    let order : Order = Replace c.args.window c.args.host c.args.r c.args.name.now c.args.keep c.args.hidden in
    let told : replacing w c.args.window c.args.host c.in-Some.next.r c.in-Some.next.keep ≡ order_cost w order = λ i. replacing w c.args.window c.args.host (next.rect i) (next.keep i) in
    cost-where c.replace_window.result w order c.args.steps.now c.replace_window.new.steps (sym (next.fits c.args.name.now))
    (subst (λ (n : ℕ). OnOk c.replace_window.result (c.replace_window.new.steps ≤ c.args.steps.now + n)) told (c.replace_window.ensures.steps c.args.host next.screen))

pub returns-in-None-clause-ordered : goal.returns-in-None-clause-ordered
returns-in-None-clause-ordered g c =
    ordered-not (world_of c.args.device.now) (Replace c.args.window c.args.host c.args.r c.args.name.now c.args.keep c.args.hidden) (sym (c.in-None.ensures.fits c.args.name.now))
