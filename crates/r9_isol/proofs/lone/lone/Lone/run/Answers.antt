use Rattle.model_alone.specs.alone.Lone.{first_lone_world, lone, lone_from}
use Rattle.r9_isol.specs.lone.LoneView.{world_of}
use Rattle.r9_isol.proofs.lone.Stepped.{all_taken, sound_at, step_taken}
use Rattle.r9_isol.proofs.lone.lone.Lone.run.Goals as goal

pub step-requires-clause-sound : goal.step-requires-clause-sound
step-requires-clause-sound c =
    sound_at c.args.items.now c.as_slice-step-items.result.now c.loop-step.step-index c.step-item.result c.as_slice.result.now c.requires c.as_slice-step-items.ensures c.loop-step-test.true c.step-item.is c.as_slice.ensures

pub loop-step-preserved : goal.loop-step-preserved
loop-step-preserved c = (
  c.in_ok-step.ensures.linked,
  step_taken (world_of c.loop-step.lone) (world_of c.step.new.self) c.args.items.now c.as_slice-step-items.result.now c.loop-step.step-index c.step-item.result c.as_slice.result.now
      c.loop-step.replies.items c.step.new.replies.items (lone_from (first_lone_world c.args.opening.now) c.args.items.now)
      c.as_slice-step-items.ensures c.loop-step-test.true c.step-item.is c.as_slice.ensures c.in_ok-step.ensures.world c.in_ok-step.ensures.replies c.loop-step.invariant.1,
)

pub returns : goal.returns
unfolding lone
returns c =
    all_taken (world_of c.loop-step.lone) c.args.items.now c.as_slice-step-items.result.now c.loop-step.step-index c.loop-step.replies.items (lone_from (first_lone_world c.args.opening.now) c.args.items.now)
    c.as_slice-step-items.ensures c.loop-step-test.false c.loop-step.invariant.1
