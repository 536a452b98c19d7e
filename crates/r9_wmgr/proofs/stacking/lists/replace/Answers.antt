use Rattle.std.proofs.Common.{arith, ap, ◌∙◌, map}
use Rattle.std.proofs.lemmas.List.{get_or_default, with_items_is}
use Rattle.std.proofs.lemmas.List.Edits.{map_over_more}
use Rattle.std.specs.Prelude.{◌==◌, if◌then◌else◌}
use Rattle.r9_event.specs.declared.window.Window.{Window}
use Rattle.r9_wmgr.proofs.stacking.Loops.{map_done}
use Rattle.r9_wmgr.proofs.stacking.lists.replace.Goals as goal

pub loop-v-preserved : goal.loop-v-preserved
loop-v-preserved c =
    rw c.replace_one.ensures
    (map_over_more ((λ (v : Window). if v.serial == c.args.w.now.serial then c.args.w.now else v)) c.deref_mut-v-items.result.now c.loop-v.v-items c.loop-v.v-index _ c.loop-v-test.true c.loop-v.invariant
    (get_or_default c.loop-v.v-items c.loop-v.v-index _ _ (omega (arith, c.loop-v.auto.v-items))))

pub returns : goal.returns
returns c =
    with_items_is c.args.windows.now c.loop-v.v-items (omega (arith, c.loop-v.auto.v-items, c.deref_mut-v-items.ensures.len))
    ∙ map_done ((λ (v : Window). if v.serial == c.args.w.now.serial then c.args.w.now else v)) c.deref_mut-v-items.result.now c.loop-v.v-items c.loop-v.v-index c.loop-v-test.false c.loop-v.invariant
    ∙ ap (map ((λ (v : Window). if v.serial == c.args.w.now.serial then c.args.w.now else v))) c.deref_mut-v-items.ensures.value
