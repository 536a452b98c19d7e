use Rattle.std.proofs.Common.{arith, ap, ◌∙◌, map}
use Rattle.std.proofs.lemmas.List.{get_or_default, with_items_is}
use Rattle.std.proofs.lemmas.List.Edits.{map_over_more}
use Rattle.model_rio.specs.rio.Step.{changed}
use Rattle.r9_wmgr.specs.stacking.Changes.{by}
use Rattle.r9_wmgr.proofs.stacking.Loops.{map_done}
use Rattle.r9_wmgr.proofs.stacking.lists.change_rios.Goals as goal

pub loop-rio-preserved : goal.loop-rio-preserved
loop-rio-preserved c =
    rw c.changed.ensures
    (map_over_more (changed c.args.host (by c.args.change)) c.deref_mut-rio-items.result.now c.loop-rio.rio-items c.loop-rio.rio-index _ c.loop-rio-test.true c.loop-rio.invariant
    (get_or_default c.loop-rio.rio-items c.loop-rio.rio-index _ _ (omega (arith, c.loop-rio.auto.rio-items))))

pub returns : goal.returns
returns c =
    with_items_is c.args.rios.now c.loop-rio.rio-items (omega (arith, c.loop-rio.auto.rio-items, c.deref_mut-rio-items.ensures.len))
    ∙ map_done (changed c.args.host (by c.args.change)) c.deref_mut-rio-items.result.now c.loop-rio.rio-items c.loop-rio.rio-index c.loop-rio-test.false c.loop-rio.invariant
    ∙ ap (map (changed c.args.host (by c.args.change))) c.deref_mut-rio-items.ensures.value
