use Rattle.std.proofs.Common.{◌≡◌, ◌∙◌, ◌≤◌, false, List, sym, subst, ap}
use Rattle.std.specs.Prelude.{◌||◌}
use Rattle.std.specs.Option.{option_map_or}
use Rattle.std.proofs.lemmas.Bool.{or_right}
use Rattle.model_forest.specs.declared.Window.{Window}
use Rattle.model_forest.specs.Stack.{with_windows}
use Rattle.model_forest.specs.World.{World, image_at}
use Rattle.model_kept.specs.Cells.{cell_of, cell_part, hides_on}
use Rattle.model_kept.specs.Keeping.{is_top, with_kept, Place}
use Rattle.model_kept.specs.Restack.{with_list}
use Rattle.r9_locate.specs.locate.Table.{shape}
use Rattle.r9_pixels.specs.Kept.{has_place, kept_at, spare_in, wanted_in}
use Rattle.r9_pixels.specs.Places.{in_hidden}
use Rattle.r9_restack.specs.Stacks.{IsFront}
use Rattle.r9_relist.specs.relist.Relisting.{IsRelisting}
use Rattle.r9_relist.proofs.relist.Lists.{lists_places}
use Rattle.r9_relist.proofs.relist.Off.{hidden_given}
use Rattle.r9_relist.proofs.relist.relisting.hide.Goals as goal
use Rattle.r9_relist.proofs.relist.relisting.hide.Goals.{After-conceal_pixels-from}

pub conceal_pixels-from-requires-clause-change : goal.conceal_pixels-from-requires-clause-change
conceal_pixels-from-requires-clause-change g c = subst (IsRelisting (shape c.args.lists.now) c.args.p c.args.w) (sym c.deref.ensures.value) c.requires.change

pub conceal_pixels-from-requires-clause-hidden : goal.conceal_pixels-from-requires-clause-hidden
conceal_pixels-from-requires-clause-hidden g c = λ z inside. ap (λ (ws : List Window). is_top ws c.args.w z) c.deref.ensures.value ∙ c.requires.hidden z inside

pub conceal_pixels-from-requires-clause-spare : goal.conceal_pixels-from-requires-clause-spare
conceal_pixels-from-requires-clause-spare g c =
    subst (λ (ws : List Window). wanted_in c.args.pixels.now (shape c.args.lists.now) c.args.p ws ≤ spare_in c.args.pixels.now) (sym c.deref.ensures.value) c.requires.spare

-- which places there are then
taken : (g : _) (c : After-conceal_pixels-from g) → c.deref.result.now ≡ c.args.list.items → (place : Place) → has_place c.conceal_pixels-from.new.pixels place ≡ (has_place c.args.pixels.now place || in_hidden (shape c.args.lists.now) c.args.p c.args.list.items place)
taken g c is place = c.conceal_pixels-from.ensures.has place ∙ ap (λ (ws : List Window). has_place c.args.pixels.now place || in_hidden (shape c.args.lists.now) c.args.p ws place) is

pub settle-requires-clause-live : goal.settle-requires-clause-live
settle-requires-clause-live g c = c.requires.change.live

pub settle-requires-clause-forest : goal.settle-requires-clause-forest
settle-requires-clause-forest g c = c.requires.change.forest

pub settle-requires-clause-hidden : goal.settle-requires-clause-hidden
settle-requires-clause-hidden g c = λ place hidden.
    taken g (goal.at.settle-requires-clause-hidden g c).After-conceal_pixels-from c.deref.ensures.value place
    ∙ or_right (has_place c.args.pixels.now place) (in_hidden (shape c.args.lists.now) c.args.p c.args.list.items place) hidden

pub settle-requires-clause-still : goal.settle-requires-clause-still
settle-requires-clause-still g c =
    let world = shape c.args.lists.now in
    let is = c.requires.change in
    let at = goal.at.settle-requires-clause-still g c in
    let from = c.conceal_pixels-from.result in
    hidden_given world c.args.p c.args.w c.args.list.items is (lists_places c.args.lists.now c.args.p is.live) (has_place c.args.pixels.now) (has_place c.conceal_pixels-from.new.pixels)
    (λ i x other stands inside.
    let r = (image_at world i).r in
    c.requires.cells i c.args.p x stands inside ∙ ap (λ o. option_map_or (λ n. hides_on world n i (cell_part r (cell_of r x))) o false) stands)
    (taken g at.After-conceal_pixels-from c.deref.ensures.value)
    from (subst (λ (ws : List Window). IsFront (image_at world c.args.p).windows ws c.args.w from) c.deref.ensures.value c.conceal_pixels-from.ensures.front)
    c.args.area.now c.requires.place c.requires.hidden

pub returns-clause-world : goal.returns-clause-world
returns-clause-world g c =
    let kept = kept_at c.conceal_pixels-from.new.pixels in
    let old = shape c.args.lists.now in
    c.settle.ensures.kept
    ∙ ap (λ (w : World). with_kept w kept) c.settle.ensures.lists
    ∙ subst (λ (ws : List Window). with_kept (with_list old c.args.p ws) kept ≡ with_windows (with_kept old (kept_at c.args.pixels.now)) c.args.p ws) c.deref.ensures.value c.conceal_pixels-from.ensures.moved
