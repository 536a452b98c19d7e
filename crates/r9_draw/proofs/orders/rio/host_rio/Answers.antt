use Rattle.std.proofs.Common.{◌≡◌, ◌≤◌, ◌+◌, ℕ, sym, subst, ap, ◌∙◌, arith}
use Rattle.r9_device.specs.declared.device.device.Device.{Device}
use Rattle.r9_device.specs.device.World.{moment_of, world_of, writes_of}
use Rattle.r9_draw.proofs.orders.Hosting.{filled, filled-else, filled-then, host-rect, host-root, hosted}
use Rattle.r9_draw.proofs.orders.rio.host_rio.Goals as goal
use Rattle.std.specs.Prelude.{if◌then◌else◌}
use Rattle.r9_geom.specs.Geometry.{area_of}
use Rattle.model_draw.specs.cost.Cost.{rect_shown}
use Rattle.model_draw.specs.draw.Orders.{inside_border}
use Rattle.r9_draw.proofs.orders.Costs.{fill-else, fill-then, hosted-within}
use Rattle.r9_draw.proofs.orders.rio.host_rio.Goals.{else-fill, then-fill}

pub fill_window-requires : goal.fill_window-requires
fill_window-requires g c = host-rect (world_of c.args.device.now) c.args.window c.args.fill c.requires

pub open_rio-requires : goal.open_rio-requires
open_rio-requires g c =
    let w = world_of c.args.device.now in
    let first : world_of c.if-fill.device ≡ filled w c.args.window c.args.fill = elim c.if-fill.branch [
      | then-fill v ↦ filled-then w _ c.args.window c.args.fill v.if-fill.true (ap (λ (d : Device). world_of d) v.device-is ∙ v.fill_window.ensures.filled)
      | else-fill v ↦ filled-else w _ c.args.window c.args.fill v.if-fill.false (ap (λ (d : Device). world_of d) v.device-is)
    ] in
    host-root w (world_of c.if-fill.device) (world_of c.close_rio.new.device) c.args.window c.args.fill c.requires first c.in_ok-close_rio.ensures.closed

pub returns-clause-hosted : goal.returns-clause-hosted
returns-clause-hosted g c =
    let w = world_of c.args.device.now in
    let first : world_of c.if-fill.device ≡ filled w c.args.window c.args.fill = elim c.if-fill.branch [
      | then-fill v ↦ filled-then w _ c.args.window c.args.fill v.if-fill.true (ap (λ (d : Device). world_of d) v.device-is ∙ v.fill_window.ensures.filled)
      | else-fill v ↦ filled-else w _ c.args.window c.args.fill v.if-fill.false (ap (λ (d : Device). world_of d) v.device-is)
    ] in
    hosted c.open_rio.result w (world_of c.if-fill.device) (world_of c.close_rio.new.device) (world_of c.open_rio.new.device) c.args.window c.args.fill first c.in_ok-close_rio.ensures.closed c.open_rio.ensures.opened

pub returns-clause-steps : goal.returns-clause-steps
returns-clause-steps g c =
    let w = world_of c.args.device.now in
    let first : world_of c.if-fill.device ≡ filled w c.args.window c.args.fill = elim c.if-fill.branch [
      | then-fill v ↦ filled-then w _ c.args.window c.args.fill v.if-fill.true (ap (λ (d : Device). world_of d) v.device-is ∙ v.fill_window.ensures.filled)
      | else-fill v ↦ filled-else w _ c.args.window c.args.fill v.if-fill.false (ap (λ (d : Device). world_of d) v.device-is)
    ] in
    let most : c.if-fill.steps ≤ c.args.steps.now + (if c.args.fill then area_of (inside_border (rect_shown w c.args.window)) else 0) = elim c.if-fill.branch [
      | then-fill v ↦ fill-then w c.args.window c.args.fill c.args.steps.now c.if-fill.steps v.if-fill.true (subst (λ (n : ℕ). n ≤ c.args.steps.now + area_of (inside_border (rect_shown w c.args.window))) (sym v.steps-is) v.fill_window.ensures.steps)
      | else-fill v ↦ fill-else w c.args.window c.args.fill c.args.steps.now c.if-fill.steps v.if-fill.false v.steps-is
    ] in
    hosted-within c.open_rio.result w (world_of c.if-fill.device) c.args.window c.args.fill c.args.steps.now c.if-fill.steps c.close_rio.new.steps c.args.device.now.kept c.requires first most c.in_ok-close_rio.ensures.steps

pub returns-in_err-close_rio-clause-moment : goal.returns-in_err-close_rio-clause-moment
returns-in_err-close_rio-clause-moment g c =
    let first : moment_of c.if-fill.device ≡ moment_of c.args.device.now = elim c.if-fill.branch [
      | then-fill v ↦ ap (λ (d : Device). moment_of d) v.device-is ∙ v.fill_window.ensures.moment
      | else-fill v ↦ ap (λ (d : Device). moment_of d) v.device-is
    ] in
    c.close_rio.ensures.moment ∙ first

pub returns-in_err-close_rio-clause-writes : goal.returns-in_err-close_rio-clause-writes
returns-in_err-close_rio-clause-writes g c =
    let first : writes_of c.if-fill.device + c.args.steps.now ≡ writes_of c.args.device.now + c.if-fill.steps = elim c.if-fill.branch [
      | then-fill v ↦ let device = ap (λ (d : Device). writes_of d) v.device-is in let steps = v.steps-is in omega (arith, device, steps, v.fill_window.ensures.writes)
      | else-fill v ↦ let device = ap (λ (d : Device). writes_of d) v.device-is in let steps = v.steps-is in omega (arith, device, steps)
    ] in
    omega (arith, first, c.close_rio.ensures.writes)

pub returns-clause-moment : goal.returns-clause-moment
returns-clause-moment g c =
    let first : moment_of c.if-fill.device ≡ moment_of c.args.device.now = elim c.if-fill.branch [
      | then-fill v ↦ ap (λ (d : Device). moment_of d) v.device-is ∙ v.fill_window.ensures.moment
      | else-fill v ↦ ap (λ (d : Device). moment_of d) v.device-is
    ] in
    c.open_rio.ensures.moment ∙ c.close_rio.ensures.moment ∙ first

pub returns-clause-writes : goal.returns-clause-writes
returns-clause-writes g c =
    let first : writes_of c.if-fill.device + c.args.steps.now ≡ writes_of c.args.device.now + c.if-fill.steps = elim c.if-fill.branch [
      | then-fill v ↦ let device = ap (λ (d : Device). writes_of d) v.device-is in let steps = v.steps-is in omega (arith, device, steps, v.fill_window.ensures.writes)
      | else-fill v ↦ let device = ap (λ (d : Device). writes_of d) v.device-is in let steps = v.steps-is in omega (arith, device, steps)
    ] in
    omega (arith, first, c.close_rio.ensures.writes, c.open_rio.ensures.writes)
