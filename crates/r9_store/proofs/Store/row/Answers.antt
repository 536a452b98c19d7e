use Rattle.std.proofs.Common.{◌+◌, ◌∙◌, [], ap, sym, arith}
use Rattle.std.specs.Prelude.{slice_index}
use Rattle.std.specs.Option.{unwrap_or}
use Rattle.r9_geom.specs.Geometry.{distance}
use Rattle.r9_store.specs.Tiles.{place_of}
use Rattle.r9_store.proofs.Rows.{place_along, run_fits, start_in}
use Rattle.r9_store.proofs.Slots.{flag_below, held_flag, slot_is}
use Rattle.r9_store.proofs.Store.row.Goals as goal

pub index-requires : goal.index-requires
index-requires c =
    let held = held_flag c.self.inside.flags.items c.self.inside.tiles.items c.self.inside.room c.t.inside.0 c.args.t c.args.self.now c.self.view_is c.t.view_is c.self.invariant.0.same c.requires.held in
    omega (arith, flag_below c.self.inside.flags.items c.t.inside.0 held, c.self.invariant.0.same, c.self.inside.tiles.ok.0)

pub place_of-requires : goal.place_of-requires
place_of-requires c = start_in c.args.at c.args.len (omega (arith, c.if-len-eq0.false)) c.requires.inside

pub run-requires : goal.run-requires
run-requires c =
    let fits = run_fits c.args.at c.args.len (omega (arith, c.if-len-eq0.false)) c.requires.inside in
    omega (arith, fits, c.place_of.ensures.value)

pub returns-clause-pixels : goal.returns-clause-pixels
returns-clause-pixels c p h =
    let held = held_flag c.self.inside.flags.items c.self.inside.tiles.items c.self.inside.room c.t.inside.0 c.args.t c.args.self.now c.self.view_is c.t.view_is c.self.invariant.0.same c.requires.held in
    let slot = slot_is c.self.inside.flags.items c.self.inside.tiles.items c.t.inside.0 c.index.result.now c.self.invariant.0.same held c.index.ensures in
    let place = place_along c.args.at p c.args.len c.requires.inside h in
    rw (← c.self.view_is, ← c.t.view_is, c.requires.inside p h)
    (c.run.ensures.pixels (distance c.args.at.x p.x) place.0
    ∙ ap (slice_index c.index.result.now) (ap (λ n. n + distance c.args.at.x p.x) c.place_of.ensures.value ∙ sym place.1)
    ∙ sym (ap (λ tile. slice_index (unwrap_or tile []) (place_of p)) slot))
