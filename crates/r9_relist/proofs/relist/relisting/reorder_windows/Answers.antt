use Rattle.std.proofs.Common.{◌≡◌, ◌∙◌, ◌≤◌, List, sym, subst, ap}
use Rattle.std.specs.Prelude.{◌||◌}
use Rattle.std.proofs.lemmas.Bool.{or_right}
use Rattle.model_forest.specs.declared.Window.{Window}
use Rattle.model_forest.specs.Stack.{with_windows}
use Rattle.model_forest.specs.World.{World, IsForest}
use Rattle.model_kept.specs.Keeping.{with_kept}
use Rattle.model_kept.specs.Restack.{with_list}
use Rattle.r9_locate.specs.locate.Table.{shape}
use Rattle.r9_pixels.specs.Kept.{has_place, kept_at, spare_in, wanted_in}
use Rattle.r9_pixels.specs.Places.{in_hidden, HasTakenOff}
use Rattle.r9_restack.specs.Moving.{IsReordering, IsSameTop}
use Rattle.r9_relist.proofs.relist.Off.{ordered_given, ordered_taken}
use Rattle.r9_relist.proofs.relist.relisting.reorder_windows.Goals as goal

pub order_pixels-requires-clause-order : goal.order_pixels-requires-clause-order
order_pixels-requires-clause-order g c = subst (IsReordering (shape c.args.lists.now) c.args.p) (sym c.deref.ensures.value) c.requires.order

pub order_pixels-requires-clause-forest : goal.order_pixels-requires-clause-forest
order_pixels-requires-clause-forest g c = subst (λ (ws : List Window). IsForest (with_list (shape c.args.lists.now) c.args.p ws)) (sym c.deref.ensures.value) c.requires.forest

pub order_pixels-requires-clause-outside : goal.order_pixels-requires-clause-outside
order_pixels-requires-clause-outside g c = λ z inside none.
    subst (λ (ws : List Window). IsSameTop (shape c.args.lists.now) c.args.p ws z) (sym c.deref.ensures.value) (c.requires.outside z inside none)

pub order_pixels-requires-clause-spare : goal.order_pixels-requires-clause-spare
order_pixels-requires-clause-spare g c =
    subst (λ (ws : List Window). wanted_in c.args.pixels.now (shape c.args.lists.now) c.args.p ws ≤ spare_in c.args.pixels.now) (sym c.deref.ensures.value) c.requires.spare

pub order_pixels-requires-clause-still : goal.order_pixels-requires-clause-still
order_pixels-requires-clause-still g c =
    let world = shape c.args.lists.now in
    subst (λ (ws : List Window). HasTakenOff world c.args.p ws 0 c.args.areas.now (has_place c.args.pixels.now)) (sym c.deref.ensures.value)
    (ordered_taken world c.args.p c.args.list.items c.requires.order c.args.areas.now c.requires.outside c.requires.before (has_place c.args.pixels.now) c.requires.cells)

pub settle-requires-clause-still : goal.settle-requires-clause-still
settle-requires-clause-still g c =
    let world = shape c.args.lists.now in
    ordered_given world c.args.p c.args.list.items c.requires.order c.args.areas.now c.requires.outside c.requires.before (has_place c.args.pixels.now) c.requires.cells c.requires.forest (has_place c.order_pixels.new.pixels)
    (λ place. c.order_pixels.ensures.has place ∙ ap (λ (ws : List Window). has_place c.args.pixels.now place || in_hidden world c.args.p ws place) c.deref.ensures.value)

pub settle-requires-clause-live : goal.settle-requires-clause-live
settle-requires-clause-live g c = c.requires.order.live

pub settle-requires-clause-hidden : goal.settle-requires-clause-hidden
settle-requires-clause-hidden g c = λ place hidden.
    c.order_pixels.ensures.has place
    ∙ or_right (has_place c.args.pixels.now place) (in_hidden (shape c.args.lists.now) c.args.p c.deref.result.now place)
    (ap (λ (ws : List Window). in_hidden (shape c.args.lists.now) c.args.p ws place) c.deref.ensures.value ∙ hidden)

pub returns-clause-world : goal.returns-clause-world
returns-clause-world g c =
    let kept = kept_at c.order_pixels.new.pixels in
    let old = shape c.args.lists.now in
    c.settle.ensures.kept
    ∙ ap (λ (w : World). with_kept w kept) c.settle.ensures.lists
    ∙ subst (λ (ws : List Window). with_kept (with_list old c.args.p ws) kept ≡ with_windows (with_kept old (kept_at c.args.pixels.now)) c.args.p ws) c.deref.ensures.value c.order_pixels.ensures.moved
