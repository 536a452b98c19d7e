use Rattle.std.proofs.Common.{List, map, ap, ◌∙◌}
use Rattle.r9_locate.specs.declared.info.ImageNo.{ImageNo}
use Rattle.r9_layers.specs.Forest.{world}
use Rattle.r9_device.specs.device.World.{world_of}
use Rattle.r9_draw.specs.messages.Restacking.{ids_of}
use Rattle.r9_draw.proofs.messages.Costs.{group-cost}
use Rattle.r9_draw.proofs.messages.Restacking.{group-stands}
use Rattle.r9_device.proofs.device.Raising.{kept-lowered, kept-raised}
use Rattle.r9_draw.proofs.messages.window.restack.Goals as goal

pub raise-requires : goal.raise-requires
raise-requires g c =
    let before = c.args.device.now in
    record { windows = group-stands c.args.client (world_of before) (ids_of c.args.asked.now) c.deref.result.now before.kept c.requires (ap (λ (xs : List ImageNo). map (λ i. i.0) xs) c.deref.ensures.value ∙ c.in_ok-group.ensures) }

pub invariant_of-device-clause-kept : goal.invariant_of-device-clause-kept
invariant_of-device-clause-kept g c =
    let before = c.args.device.now in
    let windows = group-stands c.args.client (world_of before) (ids_of c.args.asked.now) c.deref.result.now before.kept c.requires (ap (λ (xs : List ImageNo). map (λ i. i.0) xs) c.deref.ensures.value ∙ c.in_ok-group.ensures) in
    kept-raised c.raise.result (world before.forest) (world c.raise.new.self) before.book.book c.deref.result.now before.kept c.keeps.ensures windows c.raise.ensures.raised c.raise.ensures.err

pub lower-requires : goal.lower-requires
lower-requires g c =
    let before = c.args.device.now in
    record {
      windows = group-stands c.args.client (world_of before) (ids_of c.args.asked.now) c.deref-else-asked-ne0.result.now before.kept c.requires
          (ap (λ (xs : List ImageNo). map (λ i. i.0) xs) c.deref-else-asked-ne0.ensures.value ∙ c.in_ok-group.ensures);
    }

pub invariant_of-device-else-asked-ne0-clause-kept : goal.invariant_of-device-else-asked-ne0-clause-kept
invariant_of-device-else-asked-ne0-clause-kept g c =
    let before = c.args.device.now in
    let windows = group-stands c.args.client (world_of before) (ids_of c.args.asked.now) c.deref-else-asked-ne0.result.now before.kept c.requires
    (ap (λ (xs : List ImageNo). map (λ i. i.0) xs) c.deref-else-asked-ne0.ensures.value ∙ c.in_ok-group.ensures) in
    kept-lowered c.lower.result (world before.forest) (world c.lower.new.self) before.book.book c.deref-else-asked-ne0.result.now before.kept c.keeps.ensures windows c.lower.ensures.lowered c.lower.ensures.err

pub returns-then-asked-ne0-clause-steps : goal.returns-then-asked-ne0-clause-steps
returns-then-asked-ne0-clause-steps g c =
    group-cost c.args.client (world_of c.args.device.now) (ids_of c.args.asked.now) _ c.args.steps.now c.raise.new.steps c.requires (ap (λ (xs : List ImageNo). map (λ i. i.0) xs) c.deref.ensures.value ∙ c.in_ok-group.ensures) c.raise.ensures.steps

pub returns-clause-steps : goal.returns-clause-steps
returns-clause-steps g c =
    group-cost c.args.client (world_of c.args.device.now) (ids_of c.args.asked.now) _ c.args.steps.now c.lower.new.steps c.requires (ap (λ (xs : List ImageNo). map (λ i. i.0) xs) c.deref-else-asked-ne0.ensures.value ∙ c.in_ok-group.ensures)
    c.lower.ensures.steps
