use Rattle.std.proofs.Common.{◌≡◌, ◌≤◌, ◌∙◌, List, [], sym, subst, ap}
use Rattle.std.specs.Prelude.{◌==◌}
use Rattle.std.specs.List.{count_by}
use Rattle.model_forest.specs.declared.Window.{Window}
use Rattle.model_forest.specs.Stack.{without}
use Rattle.model_forest.specs.World.{World, IsLive}
use Rattle.model_kept.specs.Keeping.{HasOnePlaces, IsStanding}
use Rattle.model_kept.specs.Restack.{with_list}
use Rattle.r9_locate.specs.locate.Lists.{IsNearby}
use Rattle.r9_locate.specs.locate.Table.{shape}
use Rattle.r9_relist.specs.relist.Leaving.{others}
use Rattle.r9_relist.proofs.relist.Emptied.{empty_near, empty_places, empty_standing, list_again}
use Rattle.r9_relist.proofs.relist.Uncovering.{live_below, near_then, places_then, standing_then}
use Rattle.r9_relist.proofs.relist.Relisted.{list_live}
use Rattle.r9_relist.proofs.relist.leaving.unlist.Goals as goal
use Rattle.r9_relist.proofs.relist.leaving.unlist.Goals.{After-set_windows-windows, After-leave_out}

-- the lists where the image has no window
emptied : (c : After-set_windows-windows) → shape c.set_windows-windows.new.self ≡ with_list (shape c.args.lists.now) c.args.p []
emptied c = c.set_windows-windows.ensures.world ∙ ap (λ (ws : List Window). with_list (shape c.args.lists.now) c.args.p ws) c.new.ensures.items

-- and those with the others
then_is : (c : After-leave_out) → shape c.set_windows-windows.new.self ≡ with_list (shape c.args.lists.now) c.args.p [] → with_list (shape c.set_windows-windows.new.self) c.args.p c.leave_out.new.windows.items ≡ with_list (shape c.args.lists.now) c.args.p (others (shape c.args.lists.now) c.args.p c.args.w)
then_is c empty =
    (λ j. with_list (empty j) c.args.p ((c.leave_out.ensures ∙ ap (without c.args.w) c.set_windows-windows.ensures.had) j))
    ∙ list_again (shape c.args.lists.now) c.args.p [] (others (shape c.args.lists.now) c.args.p c.args.w)

pub set_windows-windows-requires-clause-live : goal.set_windows-windows-requires-clause-live
set_windows-windows-requires-clause-live c = live_below (shape c.args.lists.now) c.args.p c.args.w c.requires

pub set_windows-windows-requires-clause-standing : goal.set_windows-windows-requires-clause-standing
set_windows-windows-requires-clause-standing c =
    let world = shape c.args.lists.now in
    subst (λ (ws : List Window). IsStanding (with_list world c.args.p ws)) (sym c.new.ensures.items)
    (empty_standing world c.args.p c.requires.before (live_below world c.args.p c.args.w c.requires))

pub set_windows-windows-requires-clause-places : goal.set_windows-windows-requires-clause-places
set_windows-windows-requires-clause-places c =
    let world = shape c.args.lists.now in
    subst (λ (ws : List Window). HasOnePlaces (with_list world c.args.p ws)) (sym c.new.ensures.items)
    (empty_places world c.args.p c.requires.before)

pub set_windows-windows-requires-clause-near : goal.set_windows-windows-requires-clause-near
set_windows-windows-requires-clause-near c =
    let world = shape c.args.lists.now in
    subst (λ (ws : List Window). IsNearby (with_list world c.args.p ws)) (sym c.new.ensures.items)
    (empty_near world c.args.p c.requires.before (live_below world c.args.p c.args.w c.requires))

pub leave_out-requires : goal.leave_out-requires
leave_out-requires c =
    let world = shape c.args.lists.now in
    let once = c.requires.before.once c.args.p c.args.w (live_below world c.args.p c.args.w c.requires) in
    subst (λ (ws : List Window). count_by (λ (v : Window). v.image == c.args.w) ws ≤ 1) (sym c.set_windows-windows.ensures.had) once

pub set_windows-requires-clause-live : goal.set_windows-requires-clause-live
set_windows-requires-clause-live c =
    let world = shape c.args.lists.now in
    let live = live_below world c.args.p c.args.w c.requires in
    subst (λ (w : World). IsLive w c.args.p) (sym (emptied (goal.at.set_windows-requires-clause-live c).After-set_windows-windows)) (list_live world c.args.p c.args.p [] live ∙ live)

pub set_windows-requires-clause-standing : goal.set_windows-requires-clause-standing
set_windows-requires-clause-standing c =
    subst IsStanding (sym (then_is (goal.at.set_windows-requires-clause-standing c).After-leave_out (emptied (goal.at.set_windows-requires-clause-standing c).After-set_windows-windows))) (standing_then (shape c.args.lists.now) c.args.p c.args.w c.requires)

pub set_windows-requires-clause-places : goal.set_windows-requires-clause-places
set_windows-requires-clause-places c =
    subst HasOnePlaces (sym (then_is (goal.at.set_windows-requires-clause-places c).After-leave_out (emptied (goal.at.set_windows-requires-clause-places c).After-set_windows-windows))) (places_then (shape c.args.lists.now) c.args.p c.args.w c.requires)

pub set_windows-requires-clause-near : goal.set_windows-requires-clause-near
set_windows-requires-clause-near c =
    subst IsNearby (sym (then_is (goal.at.set_windows-requires-clause-near c).After-leave_out (emptied (goal.at.set_windows-requires-clause-near c).After-set_windows-windows))) (near_then (shape c.args.lists.now) c.args.p c.args.w c.requires)

pub returns-clause-world : goal.returns-clause-world
returns-clause-world c = c.set_windows.ensures.world ∙ then_is (goal.at.returns-clause-world c).After-leave_out (emptied (goal.at.returns-clause-world c).After-set_windows-windows)
