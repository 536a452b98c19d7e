use Rattle.std.proofs.Common.{ℕ, [], ◌∷◌, ap, arith}
use Rattle.model_forest.specs.Stack.{after_raise}
use Rattle.r9_layers.specs.Forest.{numbers, world}
use Rattle.r9_device.specs.device.World.{world_of}
use Rattle.r9_draw.proofs.orders.Hosting.{changed, window-group}
use Rattle.r9_device.proofs.device.Raising.{kept-raised}
use Rattle.std.proofs.lemmas.List.Sums.{sum_by-cons}
use Rattle.r9_geom.specs.Geometry.{area_of}
use Rattle.model_draw.specs.draw.World.{at_number}
use Rattle.r9_draw.proofs.orders.window.raise_window.Goals as goal

pub raise-requires : goal.raise-requires
raise-requires g c =
    let before = c.args.device.now in
    record { windows = window-group (world_of before) c.args.window c.image_shown-image.result before.kept c.requires c.image_shown-image.ensures.shown }

pub invariant_of-device-clause-kept : goal.invariant_of-device-clause-kept
invariant_of-device-clause-kept g c =
    let before = c.args.device.now in
    let i = c.image_shown-image.result in
    kept-raised c.raise.result (world before.forest) (world c.raise.new.self) before.book.book (i ∷ []) before.kept c.keeps.ensures
    (window-group (world_of before) c.args.window i before.kept c.requires c.image_shown-image.ensures.shown) c.raise.ensures.raised c.raise.ensures.err

pub returns-clause-raised : goal.returns-clause-raised
returns-clause-raised g c =
    let w = world_of c.args.device.now in
    changed c.raise.result w (world c.raise.new.self) _ _ (numbers c.raise.new.self) c.raise.ensures.raised (ap (λ (n : ℕ). after_raise w.images (n ∷ [])) c.image_shown-image.ensures.shown)
    c.raise.ensures.numbers

pub returns-clause-steps : goal.returns-clause-steps
returns-clause-steps g c =
    let w = world_of c.args.device.now in
    let one = sum_by-cons (λ (n : ℕ). area_of (at_number w n).r) c.image_shown-image.result.0 [] in
    let same = ap (λ (n : ℕ). area_of (at_number w n).r) c.image_shown-image.ensures.shown in
    omega (arith, one, same, c.raise.ensures.steps)
