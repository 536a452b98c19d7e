use Rattle.std.proofs.Common.{◌∙◌, sym}
use Rattle.r9_wctl.proofs.wctl.Gathering.{stops_first, stops_second, goes_on, ends}
use Rattle.r9_wctl.proofs.wctl.gathered.gather.Goals as goal

pub returns-in_default-2 : goal.returns-in_default-2
returns-in_default-2 c = stops_first c.args.verb c.args.with_id c.loop-rest.gathered c.loop-rest.rest.now c.args.words.now _ _ c.in-len1-up.len_at_least c.loop-rest.invariant c.in_default-2.is c.in_ok-setting.ensures.value

pub returns-in_default-3 : goal.returns-in_default-3
returns-in_default-3 c = stops_second c.args.verb c.args.with_id c.loop-rest.gathered c.loop-rest.rest.now c.args.words.now _ _ c.in-Some.setting c.in-Some.len c.in-len1-up.len_at_least c.loop-rest.invariant c.in-Some.is c.in_ok-setting.ensures.value (sym c.in_default-3.is ∙ c.in_ok-next.ensures.value)

pub loop-rest-preserved : goal.loop-rest-preserved
loop-rest-preserved c =
    goes_on c.args.verb c.args.with_id c.loop-rest.gathered c.in-Some-2.next c.loop-rest.rest.now c.args.words.now _ _ c.in-Some.setting c.in-Some.len c.in-len1-up.len_at_least c.loop-rest.invariant c.in-Some.is
    c.in_ok-setting.ensures.value (sym c.in-Some-2.is ∙ c.in_ok-next.ensures.value) (rw c.in-Some-2.is at c.in_ok-next.ensures.few) (rw c.in-Some.is at c.in_ok-setting.ensures.len)

pub returns : goal.returns
returns c = ends c.args.verb c.args.with_id c.loop-rest.gathered c.loop-rest.rest.now c.args.words.now c.in_default.len_below c.loop-rest.invariant
