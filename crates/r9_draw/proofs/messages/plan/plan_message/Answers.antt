use Rattle.std.proofs.Common.{rules}
use Rattle.std.proofs.lemmas.Result.{IfOk-from_err}
use Rattle.model_draw.specs.draw.Act.{act}
use Rattle.r9_device.specs.device.World.{world_of}
use Rattle.r9_draw.proofs.messages.Planned.{A-planned, F-planned, O-planned, O-refused, S-planned, b-planned, c-planned, d-planned, f-planned, handed, i-planned, o-planned, planned-at, r-planned, refused-at, y-planned}
use Rattle.r9_draw.proofs.messages.plan.plan_message.Goals as goal

pub returns-in_ok-making-in-LowB : goal.returns-in_ok-making-in-LowB
returns-in_ok-making-in-LowB c =
    let told = planned-at c.args.client (world_of c.args.device.now) c.args.rest.now _ _ _ c.in-LowB.is (b-planned _ _ _ _ _ _ _ _ _ _ _ _ c.in_ok-making-in-LowB.ensures.made c.in_ok-making-in-LowB.ensures.ready c.in_ok-making-in-LowB.ensures.cost) in
    record { acts = told.acts; behind = told.left; within = told.within; ready = told.ready; spare = told.spare; refused = tt; cost = told.cost }

pub returns-in_err-making-in-LowB : goal.returns-in_err-making-in-LowB
unfolding act
returns-in_err-making-in-LowB c =
    let result = c.from_residual.result in
    let is = c.from_residual.ensures in
    record {
      acts = IfOk-from_err result _ is.0;
      behind = IfOk-from_err result _ is.0;
      within = IfOk-from_err result _ is.0;
      ready = IfOk-from_err result _ is.0;
      spare = IfOk-from_err result _ is.0;
      refused = handed _ result _ is.1 (refused-at c.args.client (world_of c.args.device.now) c.args.rest.now _ _ _ c.in-LowB.is c.in_err-making-in-LowB.ensures.refused);
      cost = IfOk-from_err result _ is.0;
    }

pub returns-in_ok-image-in-LowC : goal.returns-in_ok-image-in-LowC
returns-in_ok-image-in-LowC c =
    let told = planned-at c.args.client (world_of c.args.device.now) c.args.rest.now _ _ _ c.in-LowC.is (c-planned _ _ _ _ _ _ _ c.in_ok-image-in-LowC.ensures.set c.in_ok-image-in-LowC.ensures.ready) in
    record { acts = told.acts; behind = told.left; within = told.within; ready = told.ready; spare = told.spare; refused = tt; cost = told.cost }

pub returns-in_err-image-in-LowC : goal.returns-in_err-image-in-LowC
unfolding act
returns-in_err-image-in-LowC c =
    let result = c.from_residual-in_err-image-in-LowC.result in
    let is = c.from_residual-in_err-image-in-LowC.ensures in
    record {
      acts = IfOk-from_err result _ is.0;
      behind = IfOk-from_err result _ is.0;
      within = IfOk-from_err result _ is.0;
      ready = IfOk-from_err result _ is.0;
      spare = IfOk-from_err result _ is.0;
      refused = handed _ result _ is.1 (refused-at c.args.client (world_of c.args.device.now) c.args.rest.now _ _ _ c.in-LowC.is c.in_err-image-in-LowC.ensures.refused);
      cost = IfOk-from_err result _ is.0;
    }

pub returns-in_ok-task-in-LowD : goal.returns-in_ok-task-in-LowD
returns-in_ok-task-in-LowD c =
    let told = planned-at c.args.client (world_of c.args.device.now) c.args.rest.now _ _ _ c.in-LowD.is (d-planned _ _ _ _ _ _ _ _ _ _ c.in_ok-task-in-LowD.ensures.drawn c.in_ok-task-in-LowD.ensures.ready c.in_ok-task-in-LowD.ensures.drawing c.in_ok-task-in-LowD.ensures.target c.in_ok-task-in-LowD.ensures.rect) in
    record { acts = told.acts; behind = told.left; within = told.within; ready = told.ready; spare = told.spare; refused = tt; cost = told.cost }

pub returns-in_err-task-in-LowD : goal.returns-in_err-task-in-LowD
unfolding act
returns-in_err-task-in-LowD c =
    let result = c.from_residual-in_err-task-in-LowD.result in
    let is = c.from_residual-in_err-task-in-LowD.ensures in
    record {
      acts = IfOk-from_err result _ is.0;
      behind = IfOk-from_err result _ is.0;
      within = IfOk-from_err result _ is.0;
      ready = IfOk-from_err result _ is.0;
      spare = IfOk-from_err result _ is.0;
      refused = handed _ result _ is.1 (refused-at c.args.client (world_of c.args.device.now) c.args.rest.now _ _ _ c.in-LowD.is c.in_err-task-in-LowD.ensures.refused);
      cost = IfOk-from_err result _ is.0;
    }

pub returns-in_ok-free-in-LowF : goal.returns-in_ok-free-in-LowF
returns-in_ok-free-in-LowF c =
    let told = planned-at c.args.client (world_of c.args.device.now) c.args.rest.now _ _ _ c.in-LowF.is (f-planned _ _ _ _ c.in_ok-free-in-LowF.ensures.freed c.in_ok-free-in-LowF.ensures.ready) in
    record { acts = told.acts; behind = told.left; within = told.within; ready = told.ready; spare = told.spare; refused = tt; cost = told.cost }

pub returns-in_err-free-in-LowF : goal.returns-in_err-free-in-LowF
unfolding act
returns-in_err-free-in-LowF c =
    let result = c.from_residual-in_err-free-in-LowF.result in
    let is = c.from_residual-in_err-free-in-LowF.ensures in
    record {
      acts = IfOk-from_err result _ is.0;
      behind = IfOk-from_err result _ is.0;
      within = IfOk-from_err result _ is.0;
      ready = IfOk-from_err result _ is.0;
      spare = IfOk-from_err result _ is.0;
      refused = handed _ result _ is.1 (refused-at c.args.client (world_of c.args.device.now) c.args.rest.now _ _ _ c.in-LowF.is c.in_err-free-in-LowF.ensures.refused);
      cost = IfOk-from_err result _ is.0;
    }

pub returns-in_ok-free_screen-in-UpF : goal.returns-in_ok-free_screen-in-UpF
returns-in_ok-free_screen-in-UpF c =
    let told = planned-at c.args.client (world_of c.args.device.now) c.args.rest.now _ _ _ c.in-UpF.is (F-planned _ _ _ _ c.in_ok-free_screen-in-UpF.ensures.freed c.in_ok-free_screen-in-UpF.ensures.ready) in
    record { acts = told.acts; behind = told.left; within = told.within; ready = told.ready; spare = told.spare; refused = tt; cost = told.cost }

pub returns-in_err-free_screen-in-UpF : goal.returns-in_err-free_screen-in-UpF
unfolding act
returns-in_err-free_screen-in-UpF c =
    let result = c.from_residual-in_err-free_screen-in-UpF.result in
    let is = c.from_residual-in_err-free_screen-in-UpF.ensures in
    record {
      acts = IfOk-from_err result _ is.0;
      behind = IfOk-from_err result _ is.0;
      within = IfOk-from_err result _ is.0;
      ready = IfOk-from_err result _ is.0;
      spare = IfOk-from_err result _ is.0;
      refused = handed _ result _ is.1 (refused-at c.args.client (world_of c.args.device.now) c.args.rest.now _ _ _ c.in-UpF.is c.in_err-free_screen-in-UpF.ensures.refused);
      cost = IfOk-from_err result _ is.0;
    }

pub returns-in_ok-screening-in-UpA : goal.returns-in_ok-screening-in-UpA
returns-in_ok-screening-in-UpA c =
    let told = planned-at c.args.client (world_of c.args.device.now) c.args.rest.now _ _ _ c.in-UpA.is (A-planned _ _ _ _ _ _ _ _ c.in_ok-screening-in-UpA.ensures.made c.in_ok-screening-in-UpA.ensures.ready) in
    record { acts = told.acts; behind = told.left; within = told.within; ready = told.ready; spare = told.spare; refused = tt; cost = told.cost }

pub returns-in_err-screening-in-UpA : goal.returns-in_err-screening-in-UpA
unfolding act
returns-in_err-screening-in-UpA c =
    let result = c.from_residual-in_err-screening-in-UpA.result in
    let is = c.from_residual-in_err-screening-in-UpA.ensures in
    record {
      acts = IfOk-from_err result _ is.0;
      behind = IfOk-from_err result _ is.0;
      within = IfOk-from_err result _ is.0;
      ready = IfOk-from_err result _ is.0;
      spare = IfOk-from_err result _ is.0;
      refused = handed _ result _ is.1 (refused-at c.args.client (world_of c.args.device.now) c.args.rest.now _ _ _ c.in-UpA.is c.in_err-screening-in-UpA.ensures.refused);
      cost = IfOk-from_err result _ is.0;
    }

pub returns-in_ok-screen-in-UpS : goal.returns-in_ok-screen-in-UpS
returns-in_ok-screen-in-UpS c =
    let told = planned-at c.args.client (world_of c.args.device.now) c.args.rest.now _ _ _ c.in-UpS.is (S-planned _ _ _ _ _ _ c.in_ok-screen-in-UpS.ensures.shared c.in_ok-screen-in-UpS.ensures.ready) in
    record { acts = told.acts; behind = told.left; within = told.within; ready = told.ready; spare = told.spare; refused = tt; cost = told.cost }

pub returns-in_err-screen-in-UpS : goal.returns-in_err-screen-in-UpS
unfolding act
returns-in_err-screen-in-UpS c =
    let result = c.from_residual-in_err-screen-in-UpS.result in
    let is = c.from_residual-in_err-screen-in-UpS.ensures in
    record {
      acts = IfOk-from_err result _ is.0;
      behind = IfOk-from_err result _ is.0;
      within = IfOk-from_err result _ is.0;
      ready = IfOk-from_err result _ is.0;
      spare = IfOk-from_err result _ is.0;
      refused = handed _ result _ is.1 (refused-at c.args.client (world_of c.args.device.now) c.args.rest.now _ _ _ c.in-UpS.is c.in_err-screen-in-UpS.ensures.refused);
      cost = IfOk-from_err result _ is.0;
    }

pub returns-in_ok-making_font-in-LowI : goal.returns-in_ok-making_font-in-LowI
returns-in_ok-making_font-in-LowI c =
    let told = planned-at c.args.client (world_of c.args.device.now) c.args.rest.now _ _ _ c.in-LowI.is (i-planned _ _ _ _ _ _ c.in_ok-making_font-in-LowI.ensures.made) in
    record { acts = told.acts; behind = told.left; within = told.within; ready = told.ready; spare = told.spare; refused = tt; cost = told.cost }

pub returns-in_err-making_font-in-LowI : goal.returns-in_err-making_font-in-LowI
unfolding act
returns-in_err-making_font-in-LowI c =
    let result = c.from_residual-in_err-making_font-in-LowI.result in
    let is = c.from_residual-in_err-making_font-in-LowI.ensures in
    record {
      acts = IfOk-from_err result _ is.0;
      behind = IfOk-from_err result _ is.0;
      within = IfOk-from_err result _ is.0;
      ready = IfOk-from_err result _ is.0;
      spare = IfOk-from_err result _ is.0;
      refused = handed _ result _ is.1 (refused-at c.args.client (world_of c.args.device.now) c.args.rest.now _ _ _ c.in-LowI.is c.in_err-making_font-in-LowI.ensures.refused);
      cost = IfOk-from_err result _ is.0;
    }

pub returns-in_ok-image-in-LowO : goal.returns-in_ok-image-in-LowO
returns-in_ok-image-in-LowO c =
    let told = planned-at c.args.client (world_of c.args.device.now) c.args.rest.now _ _ _ c.in-LowO.is (o-planned _ _ _ _ _ _ _ c.in_ok-image-in-LowO.ensures.moved c.in_ok-image-in-LowO.ensures.found c.in_ok-image-in-LowO.ensures.ready) in
    record { acts = told.acts; behind = told.left; within = told.within; ready = told.ready; spare = told.spare; refused = tt; cost = told.cost }

pub returns-in_err-image-in-LowO : goal.returns-in_err-image-in-LowO
unfolding act
returns-in_err-image-in-LowO c =
    let result = c.from_residual-in_err-image-in-LowO.result in
    let is = c.from_residual-in_err-image-in-LowO.ensures in
    record {
      acts = IfOk-from_err result _ is.0;
      behind = IfOk-from_err result _ is.0;
      within = IfOk-from_err result _ is.0;
      ready = IfOk-from_err result _ is.0;
      spare = IfOk-from_err result _ is.0;
      refused = handed _ result _ is.1 (refused-at c.args.client (world_of c.args.device.now) c.args.rest.now _ _ _ c.in-LowO.is c.in_err-image-in-LowO.ensures.refused);
      cost = IfOk-from_err result _ is.0;
    }

pub returns-in_ok-image-in-LowR : goal.returns-in_ok-image-in-LowR
returns-in_ok-image-in-LowR c =
    let told = planned-at c.args.client (world_of c.args.device.now) c.args.rest.now _ _ _ c.in-LowR.is (r-planned _ _ _ _ _ _ c.in_ok-image-in-LowR.ensures.pending c.in_ok-image-in-LowR.ensures.ready) in
    record { acts = told.acts; behind = told.left; within = told.within; ready = told.ready; spare = told.spare; refused = tt; cost = told.cost }

pub returns-in_err-image-in-LowR : goal.returns-in_err-image-in-LowR
unfolding act
returns-in_err-image-in-LowR c =
    let result = c.from_residual-in_err-image-in-LowR.result in
    let is = c.from_residual-in_err-image-in-LowR.ensures in
    record {
      acts = IfOk-from_err result _ is.0;
      behind = IfOk-from_err result _ is.0;
      within = IfOk-from_err result _ is.0;
      ready = IfOk-from_err result _ is.0;
      spare = IfOk-from_err result _ is.0;
      refused = handed _ result _ is.1 (refused-at c.args.client (world_of c.args.device.now) c.args.rest.now _ _ _ c.in-LowR.is c.in_err-image-in-LowR.ensures.refused);
      cost = IfOk-from_err result _ is.0;
    }

pub returns-in_ok-image-in-LowY : goal.returns-in_ok-image-in-LowY
returns-in_ok-image-in-LowY c =
    let told = planned-at c.args.client (world_of c.args.device.now) c.args.rest.now _ _ _ c.in-LowY.is (y-planned _ _ _ _ _ _ _ c.in_ok-image-in-LowY.ensures.written c.in_ok-image-in-LowY.ensures.found c.in_ok-image-in-LowY.ensures.ready) in
    record { acts = told.acts; behind = told.left; within = told.within; ready = told.ready; spare = told.spare; refused = tt; cost = told.cost }

pub returns-in_err-image-in-LowY : goal.returns-in_err-image-in-LowY
unfolding act
returns-in_err-image-in-LowY c =
    let result = c.from_residual-in_err-image-in-LowY.result in
    let is = c.from_residual-in_err-image-in-LowY.ensures in
    record {
      acts = IfOk-from_err result _ is.0;
      behind = IfOk-from_err result _ is.0;
      within = IfOk-from_err result _ is.0;
      ready = IfOk-from_err result _ is.0;
      spare = IfOk-from_err result _ is.0;
      refused = handed _ result _ is.1 (refused-at c.args.client (world_of c.args.device.now) c.args.rest.now _ _ _ c.in-LowY.is c.in_err-image-in-LowY.ensures.refused);
      cost = IfOk-from_err result _ is.0;
    }

pub returns-in-Some : goal.returns-in-Some
returns-in-Some c =
    let told = planned-at c.args.client (world_of c.args.device.now) c.args.rest.now _ _ _ c.in-UpO.is (O-planned _ _ _ _ _ c.in-Some.ensures.found (c.in-Some.ensures.within (search rules))) in
    record { acts = told.acts; behind = told.left; within = told.within; ready = told.ready; spare = told.spare; refused = tt; cost = told.cost }

pub returns-in-None : goal.returns-in-None
returns-in-None c = record {
  acts = tt;
  behind = tt;
  within = tt;
  ready = tt;
  spare = tt;
  refused = refused-at c.args.client (world_of c.args.device.now) c.args.rest.now _ _ _ c.in-UpO.is (O-refused _ _ _ _ c.in-None.ensures.none);
  cost = tt;
}
