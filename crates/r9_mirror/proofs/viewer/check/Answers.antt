use Rattle.std.proofs.Common.{Option, Ok, IfSome, arith, subst, sym}
use Rattle.std.proofs.lemmas.Result.{err_from_is_err_and}
use Rattle.model_client.specs.mirror.Frames.{viewed}
use Rattle.r9_mirror.specs.declared.place.Place.{Place}
use Rattle.r9_mirror.specs.declared.place.Step.{Step}
use Rattle.r9_mirror.specs.Left.{stepped, IsFurther, IsPlace, Leaves, Tells}
use Rattle.r9_mirror.proofs.Screens.{starts}
use Rattle.r9_mirror.proofs.viewer.check.Goals as goal

pub steps-init : goal.steps-init
steps-init c =
    let text = c.args.text.now in
    record {
      place = subst (IsPlace text) (sym c.new-place.ensures) (record { within = omega arith; lawful = c.requires });
      left = λ before same.
          (before, subst (λ (place : Place). Leaves c.args.chan text place before (viewed c.args.chan before text)) (sym c.new-place.ensures) (starts c.args.chan text c.args.size before same));
    }

pub returns-in_err-next-clause-last : goal.returns-in_err-next-clause-last
returns-in_err-next-clause-last c = λ before same.
    let was = c.steps.invariant.left before same in
    let p = err_from_is_err_and c.from_residual.result c.from_residual.ensures.1 in
    rw (p.1, p.2) (c.in_err-next.ensures.tells was.0 (viewed c.args.chan before c.args.text.now) was.1)

pub steps-preserved : goal.steps-preserved
steps-preserved c =
    let chan = c.args.chan in
    let text = c.args.text.now in
    record {
      place = (subst (λ (o : Option (Step × Place)). IfSome o (λ x. IsFurther chan text c.steps.place x.1 x.0)) c.in-Some.is c.in_ok-next.ensures.further).stands;
      left = λ before same.
          let was = c.steps.invariant.left before same in (
            stepped chan c.in-Some.field-0-0 was.0,
            subst (λ (o : Option (Step × Place)). Tells chan text was.0 (viewed chan before text) (Ok o)) c.in-Some.is (c.in_ok-next.ensures.tells was.0 (viewed chan before text) was.1),
          );
    }

pub returns-clause-last : goal.returns-clause-last
returns-clause-last c = λ before same.
    let chan = c.args.chan in
    let text = c.args.text.now in
    let was = c.steps.invariant.left before same in (
      was.0,
      subst (λ (o : Option (Step × Place)). Tells chan text was.0 (viewed chan before text) (Ok o)) c.in_default.is (c.in_ok-next.ensures.tells was.0 (viewed chan before text) was.1),
      was.1.size,
    )
