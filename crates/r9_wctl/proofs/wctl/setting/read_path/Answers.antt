use Rattle.std.proofs.Common.{◌∙◌, sym, ap, Some, rules, tests, ◌==◌}
use Rattle.std.proofs.lemmas.Iterator.Consumers.{YieldsList-at}
use Rattle.std.proofs.lemmas.Iterator.Splits.{YieldsList-from_slice_split}
use Rattle.model_text.specs.text.Field.{number}
use Rattle.r9_wctl.proofs.wctl.Collecting.{all_pushed, path_fault, path_read}
use Rattle.r9_wctl.proofs.wctl.setting.read_path.Goals as goal

pub returns-in_default : goal.returns-in_default
returns-in_default c = record {
  path = sym (path_fault c.loop-part.yielded _ c.loop-part.yielded_by _ _ c.in-Some.part c.in-Some.is c.next.ensures.steps (sym c.digits.ensures.value ∙ c.in_default.is)
      (YieldsList-at c.into_iter-part-iterator.ensures.into_iter_gives (YieldsList-from_slice_split _ (λ byte. byte == 47) c.args.word.now c.split-part-items.ensures.rest c.split-part-items.ensures.done c.split-part-items.ensures.closure (λ x r q k. search (rules, tests)))));
}

pub loop-part-preserved : goal.loop-part-preserved
loop-part-preserved c =
    all_pushed (λ part. number 9 part.now) c.loop-part.yielded c.in-Some.part c.loop-part.path c.in-Some-digits.number c.loop-part.invariant (sym c.digits.ensures.value ∙ c.in-Some-digits.is)
    ∙ ap Some (sym c.in_ok-push.ensures.ok)

pub returns : goal.returns
returns c = record {
  path = path_read c.loop-part.yielded _ c.loop-part.yielded_by _ _ c.loop-part.path c.in-None.is c.next.ensures.steps c.loop-part.invariant
      (YieldsList-at c.into_iter-part-iterator.ensures.into_iter_gives (YieldsList-from_slice_split _ (λ byte. byte == 47) c.args.word.now c.split-part-items.ensures.rest c.split-part-items.ensures.done c.split-part-items.ensures.closure (λ x r q k. search (rules, tests))));
}
