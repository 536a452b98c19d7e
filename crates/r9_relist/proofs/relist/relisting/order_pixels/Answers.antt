use Rattle.std.proofs.Common.{◌∙◌, Bool, ℕ, refl, sym, subst, ap}
use Rattle.model_forest.specs.Stack.{with_windows}
use Rattle.model_forest.specs.World.{image_at}
use Rattle.model_kept.specs.Keeping.{with_kept, Place}
use Rattle.model_kept.specs.Restack.{fill_of_top, with_list}
use Rattle.model_kept.proofs.Once.{places-forest}
use Rattle.model_kept.proofs.Worlds.{restacked-world, standing-forest}
use Rattle.r9_locate.specs.locate.Forms.{HasBits}
use Rattle.r9_locate.specs.locate.Table.{shape}
use Rattle.r9_pixels.specs.Kept.{has_place, kept_at}
use Rattle.r9_relist.proofs.relist.Relisted.{relist_bits, relist_on, relist_ones, relist_orders, relist_others}
use Rattle.r9_relist.proofs.relist.Surfaces.{surface_has, unshown_has}
use Rattle.r9_relist.proofs.relist.relisting.order_pixels.Goals as goal

pub take_hidden-requires-clause-live : goal.take_hidden-requires-clause-live
take_hidden-requires-clause-live g c = c.requires.order.live

pub take_hidden-requires-clause-windows : goal.take_hidden-requires-clause-windows
take_hidden-requires-clause-windows g c = relist_on (shape c.args.lists.now) c.args.p c.args.new.now c.requires.order.live c.requires.forest

pub take_hidden-requires-clause-one : goal.take_hidden-requires-clause-one
take_hidden-requires-clause-one g c = relist_ones (shape c.args.lists.now) c.args.p c.args.new.now c.requires.order.live c.requires.forest

pub reorder-requires-clause-places : goal.reorder-requires-clause-places
reorder-requires-clause-places g c =
    let world = shape c.args.lists.now in
    let live = c.requires.order.live in
    relist_orders world c.args.p c.args.new.now live c.requires.forest (has_place c.args.pixels.now) (has_place c.take_hidden.new.self) c.requires.order.places
    (λ z h. surface_has c.args.pixels.now world c.requires.before c.requires.forms c.requires.cells (image_at world c.args.p).depth c.args.p z refl live h)
    (λ i x stands inside none. unshown_has world (has_place c.args.pixels.now) i c.args.p x c.requires.before c.requires.cells stands inside none)
    c.take_hidden.ensures.has

pub reorder-requires-clause-bits : goal.reorder-requires-clause-bits
reorder-requires-clause-bits g c =
    subst (HasBits (shape c.args.lists.now)) (sym (c.take_hidden.ensures.forms ∙ c.requires.forms))
    (relist_bits (shape c.args.lists.now) c.args.p c.args.new.now c.requires.order.live c.requires.forest)

pub returns-clause-others : goal.returns-clause-others
returns-clause-others g c =
    relist_others (shape c.args.lists.now) c.args.p c.args.new.now c.requires.order.live c.requires.forest (has_place c.args.pixels.now) (has_place c.reorder.new.pixels)
    (λ i q x other stands inside. c.requires.cells i q x stands inside)
    (λ place. ap (λ (has : Place → Bool). has place) c.reorder.ensures.has ∙ c.take_hidden.ensures.has place)

pub returns-clause-has : goal.returns-clause-has
returns-clause-has g c = λ place. ap (λ (has : Place → Bool). has place) c.reorder.ensures.has ∙ c.take_hidden.ensures.has place

pub returns-clause-moved : goal.returns-clause-moved
returns-clause-moved g c =
    let world = shape c.args.lists.now in
    let new = with_list world c.args.p c.args.new.now in
    restacked-world world c.args.p c.args.new.now (kept_at c.take_hidden.new.self) (kept_at c.reorder.new.pixels) c.requires.order.live (standing-forest new c.requires.forest) (places-forest new c.requires.forest)
    (c.reorder.ensures.moved (fill_of_top (with_kept world (kept_at c.take_hidden.new.self)) c.args.p))
    ∙ ap (λ (kept : Place → ℕ). with_windows (with_kept world kept) c.args.p c.args.new.now) c.take_hidden.ensures.kept
