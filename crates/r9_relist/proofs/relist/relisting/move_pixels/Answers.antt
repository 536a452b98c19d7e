use Rattle.std.proofs.Common.{◌∙◌, ◌<◌, ◌^◌, ℕ, Bool, Option, inl, sym, subst, ap}
use Rattle.std.proofs.lemmas.Bool.{or_right}
use Rattle.model_forest.proofs.Changes.{live-standing}
use Rattle.model_kept.specs.Keeping.{own, Place}
use Rattle.r9_locate.specs.locate.Forms.{bits_in, Form, HasBits}
use Rattle.r9_locate.specs.locate.Table.{shape}
use Rattle.r9_pixels.specs.Kept.{has_place, kept_at}
use Rattle.r9_pixels.specs.Places.{in_hidden}
use Rattle.r9_relist.proofs.relist.Lists.{lists_places}
use Rattle.r9_relist.proofs.relist.Relisted.{relist_bits, relist_corners, relist_hidden, relist_on, relist_one, relist_ones, relist_ordered, relist_others, relist_places, relist_rect, relist_stand, relist_stands, relisted_world}
use Rattle.r9_relist.proofs.relist.Tops.{others_places, others_top}
use Rattle.r9_relist.proofs.relist.relisting.move_pixels.Goals as goal

pub take_hidden-requires-clause-live : goal.take_hidden-requires-clause-live
take_hidden-requires-clause-live g c = c.requires.change.live

pub take_hidden-requires-clause-windows : goal.take_hidden-requires-clause-windows
take_hidden-requires-clause-windows g c = relist_on (shape c.args.lists.now) c.args.p c.args.new.now c.requires.change.live c.requires.change.forest

pub take_hidden-requires-clause-one : goal.take_hidden-requires-clause-one
take_hidden-requires-clause-one g c = relist_ones (shape c.args.lists.now) c.args.p c.args.new.now c.requires.change.live c.requires.change.forest

pub restack-requires-clause-change : goal.restack-requires-clause-change
restack-requires-clause-change g c =
    let is = c.requires.change in
    record {
      live = is.live;
      places = λ i z other inside top. inl (others_places (shape c.args.lists.now) c.args.p c.args.w c.args.new.now (lists_places c.args.lists.now c.args.p is.live) is.others i other);
      stand = relist_stand (shape c.args.lists.now) c.args.p c.args.new.now is.live is.forest;
      one = relist_one (shape c.args.lists.now) c.args.p c.args.new.now is.live is.forest;
    }

pub restack-requires-clause-above : goal.restack-requires-clause-above
restack-requires-clause-above g c = c.requires.change.stands

pub restack-requires-clause-outside : goal.restack-requires-clause-outside
restack-requires-clause-outside g c = λ z inside away none. others_top (shape c.args.lists.now) c.args.p c.args.w c.args.new.now (lists_places c.args.lists.now c.args.p c.requires.change.live) c.requires.change.others c.args.area.now c.requires.place z inside away none

pub restack-requires-clause-near_new : goal.restack-requires-clause-near_new
restack-requires-clause-near_new g c = relist_corners (shape c.args.lists.now) c.args.p c.args.new.now c.requires.change.live c.requires.change.forest

pub restack-requires-clause-places : goal.restack-requires-clause-places
restack-requires-clause-places g c =
    relist_places (shape c.args.lists.now) c.args.p c.args.new.now c.requires.change.live c.requires.change.forest c.args.w (has_place c.args.pixels.now) (has_place c.take_hidden.new.self) (others_places (shape c.args.lists.now) c.args.p c.args.w c.args.new.now (lists_places c.args.lists.now c.args.p c.requires.change.live) c.requires.change.others) c.requires.places c.take_hidden.ensures.has

pub restack-requires-clause-bits : goal.restack-requires-clause-bits
restack-requires-clause-bits g c =
    subst (HasBits (shape c.args.lists.now)) (sym (c.take_hidden.ensures.forms ∙ c.requires.forms))
    (relist_bits (shape c.args.lists.now) c.args.p c.args.new.now c.requires.change.live c.requires.change.forest)

pub restack-requires-clause-given : goal.restack-requires-clause-given
restack-requires-clause-given g c = subst (λ (forms : ℕ → Option Form). (x : _) → g.S.Source.given c.args.source.now x < 2 ^ bits_in forms c.args.p) (sym c.take_hidden.ensures.forms) c.requires.given

pub restack-requires-clause-fill : goal.restack-requires-clause-fill
restack-requires-clause-fill g c = subst (λ (forms : ℕ → Option Form). (x : _) → g.S.Source.fill c.args.source.now x < 2 ^ bits_in forms c.args.p) (sym c.take_hidden.ensures.forms) c.requires.fill

pub restack-requires-clause-live : goal.restack-requires-clause-live
restack-requires-clause-live g c = live-standing (shape c.args.lists.now) c.args.w c.args.p c.requires.change.stands

pub restack-requires-clause-own_ordered : goal.restack-requires-clause-own_ordered
restack-requires-clause-own_ordered g c = relist_ordered (shape c.args.lists.now) c.args.p c.args.new.now c.requires.change.live c.requires.change.forest c.args.w c.requires.change.stands

pub restack-requires-clause-corner : goal.restack-requires-clause-corner
restack-requires-clause-corner g c = (relist_rect (shape c.args.lists.now) c.args.p c.args.new.now c.requires.change.live c.requires.change.forest c.args.w c.requires.change.stands).min

pub restack-requires-clause-stands : goal.restack-requires-clause-stands
restack-requires-clause-stands g c = λ z inside. relist_stands (shape c.args.lists.now) c.args.p c.args.new.now c.requires.change.live c.requires.change.forest c.args.w z c.requires.change.stands inside

pub restack-requires-clause-own_places : goal.restack-requires-clause-own_places
restack-requires-clause-own_places g c = λ z inside unshown.
    c.take_hidden.ensures.has (own c.args.w z)
    ∙ or_right (has_place c.args.pixels.now (own c.args.w z)) (in_hidden (shape c.args.lists.now) c.args.p c.args.new.now (own c.args.w z))
    (relist_hidden (shape c.args.lists.now) c.args.p c.args.new.now c.requires.change.live c.requires.change.forest c.args.w z c.requires.change.stands inside unshown)

pub returns-clause-others : goal.returns-clause-others
returns-clause-others g c =
    relist_others (shape c.args.lists.now) c.args.p c.args.new.now c.requires.change.live c.requires.change.forest (has_place c.args.pixels.now) (has_place c.restack.new.pixels) c.requires.places.others
    (λ place. ap (λ (has : Place → Bool). has place) c.restack.ensures.has ∙ c.take_hidden.ensures.has place)

pub returns-clause-has : goal.returns-clause-has
returns-clause-has g c = λ place. ap (λ (has : Place → Bool). has place) c.restack.ensures.has ∙ c.take_hidden.ensures.has place

pub returns-clause-moved : goal.returns-clause-moved
returns-clause-moved g c before was =
    relisted_world (shape c.args.lists.now) c.args.p c.args.w c.args.new.now (g.S.Source.given c.args.source.now) (g.S.Source.fill c.args.source.now) (kept_at c.args.pixels.now) before (kept_at c.restack.new.pixels)
    c.requires.change.live c.requires.change.forest was
    (c.restack.ensures.moved before (λ place other. was.others place other ∙ ap (λ (kept : Place → ℕ). kept place) (sym c.take_hidden.ensures.kept)) was.pixels)
