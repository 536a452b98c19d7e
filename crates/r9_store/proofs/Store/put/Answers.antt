use Rattle.std.proofs.Common.{◌-◌, ◌∙◌, ap, set, arith}
use Rattle.r9_store.proofs.Slots.{flag_below, held_flag, put_count, put_held, tile-put}
use Rattle.r9_store.proofs.Store.put.Goals as goal

pub index_mut-requires : goal.index_mut-requires
index_mut-requires g c =
    let held = held_flag c.self.inside.flags.items c.self.inside.tiles.items c.self.inside.room c.t.inside.0 c.args.t c.args.self.now c.self.view_is c.t.view_is c.self.invariant.0.same c.requires.held in
    omega (arith, flag_below c.self.inside.flags.items c.t.inside.0 held, c.self.invariant.0.same, c.self.inside.tiles.ok.0)

pub returns-clause-pixels : goal.returns-clause-pixels
returns-clause-pixels g c u q =
    let old = c.index_mut.result.now in
    let held = held_flag c.self.inside.flags.items c.self.inside.tiles.items c.self.inside.room c.t.inside.0 c.args.t c.args.self.now c.self.view_is c.t.view_is c.self.invariant.0.same c.requires.held in
    rw (← c.self.view_is, ← c.t.view_is)
    (tile-put c.self.inside.flags.items c.self.inside.tiles.items c.t.inside.0 old c.put_at.new.tile c.self.invariant.0.same held c.index_mut.ensures.value c.args.p c.args.raw
    (c.put_at.ensures.pixels ∙ ap (λ n. set old n c.args.raw) c.place_of.ensures.value) c.put_at.ensures.len c.requires.inside u q)

pub returns-clause-same : goal.returns-clause-same
returns-clause-same g c u = rw (← c.self.view_is) (put_held c.self.inside.flags.items c.self.inside.tiles.items c.t.inside.0 c.put_at.new.tile c.self.invariant.0.same u)

pub returns-clause-held : goal.returns-clause-held
returns-clause-held g c = rw (← c.self.view_is) (put_count c.self.inside.flags.items c.self.inside.tiles.items c.t.inside.0 c.put_at.new.tile c.self.invariant.0.same)

pub returns-clause-spare : goal.returns-clause-spare
returns-clause-spare g c = rw (← c.self.view_is) (ap (λ n. c.self.inside.room - n) (put_count c.self.inside.flags.items c.self.inside.tiles.items c.t.inside.0 c.put_at.new.tile c.self.invariant.0.same))
