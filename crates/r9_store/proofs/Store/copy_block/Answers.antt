use Rattle.std.proofs.Common.{◌-◌, arith, ◌≡◌, ◌∙◌, ℕ, true, ap, sym, subst}
use Rattle.std.specs.Prelude.{slice_index}
use Rattle.r9_geom.specs.declared.Point.{Point}
use Rattle.r9_geom.specs.Geometry.{carried, holds}
use Rattle.r9_plane.specs.Blocks.{number_in, HasRows}
use Rattle.r9_plane.specs.Pixels.{pixel_at}
use Rattle.r9_store.specs.Tiles.{cell, place_of}
use Rattle.r9_store.proofs.Blocks.{carried_back, carried_corner, carried_place, carried_rows, few_points, ordered_of}
use Rattle.r9_store.proofs.Slots.{flag_below, held_flag, put_count, put_held, tile-put_at}
use Rattle.r9_store.proofs.Store.copy_block.Goals as goal

pub index_mut-requires : goal.index_mut-requires
index_mut-requires g c =
    let held = held_flag c.self.inside.flags.items c.self.inside.tiles.items c.self.inside.room c.t.inside.0 c.args.t c.args.self.now c.self.view_is c.t.view_is c.self.invariant.0.same c.requires.held in
    omega (arith, flag_below c.self.inside.flags.items c.t.inside.0 held, c.self.invariant.0.same, c.self.inside.tiles.ok.0)

pub place_of-place-requires : goal.place_of-place-requires
place_of-place-requires g c = carried_corner c.args.from.now c.args.at c.requires.some c.requires.inside

pub copy_part-requires-clause-ordered : goal.copy_part-requires-clause-ordered
copy_part-requires-clause-ordered g c = ordered_of c.args.from.now c.requires.some

pub copy_part-requires-clause-rows : goal.copy_part-requires-clause-rows
copy_part-requires-clause-rows g c =
    subst (λ (place : ℕ). HasRows c.args.from.now place 32 1024) (sym c.place_of-place.ensures.value) (carried_rows c.args.from.now c.args.at c.requires.some c.requires.inside)

pub count_points-requires-clause-ordered : goal.count_points-requires-clause-ordered
count_points-requires-clause-ordered g c = ordered_of c.args.from.now c.requires.some

pub count_points-requires-clause-few : goal.count_points-requires-clause-few
count_points-requires-clause-few g c = few_points c.args.from.now (place_of c.args.at) (carried_rows c.args.from.now c.args.at c.requires.some c.requires.inside)

pub returns-clause-pixels : goal.returns-clause-pixels
returns-clause-pixels g c u q =
    let from = c.args.from.now in
    let plane = c.args.plane.now in
    let moved = λ (p : Point). carried p c.args.at from.min in
    let at : (p : Point) → holds from p ≡ true → number_in from c.place_of-place.result 32 p ≡ place_of (carried p from.min c.args.at) =
    (λ p h. ap (λ (place : ℕ). number_in from place 32 p) c.place_of-place.ensures.value ∙ carried_place from c.args.at p c.requires.some c.requires.inside h) in
    let held = held_flag c.self.inside.flags.items c.self.inside.tiles.items c.self.inside.room c.t.inside.0 c.args.t c.args.self.now c.self.view_is c.t.view_is c.self.invariant.0.same c.requires.held in
    rw (← c.self.view_is, ← c.t.view_is)
    (tile-put_at c.self.inside.flags.items c.self.inside.tiles.items c.t.inside.0 c.index_mut.result.now c.copy_part.new.tile c.self.invariant.0.same held c.index_mut.ensures.value (λ p. holds from (moved p))
    (λ (p : Point). pixel_at plane (moved p))
    (λ p h. ap (holds cell) (sym (carried_back p c.args.at from.min)) ∙ c.requires.inside (moved p) h)
    (record {
      written = λ p h.
          ap (slice_index c.copy_part.new.tile) (ap place_of (sym (carried_back p c.args.at from.min)) ∙ sym (at (moved p) h))
          ∙ c.copy_part.ensures.pixels (moved p) h;
      others = λ n apart. c.copy_part.ensures.others n (λ p h same.
          apart (carried p from.min c.args.at) (ap (holds from) (carried_back p from.min c.args.at) ∙ h) (same ∙ at p h));
    }) u q)

pub returns-clause-same : goal.returns-clause-same
returns-clause-same g c u = rw (← c.self.view_is) (put_held c.self.inside.flags.items c.self.inside.tiles.items c.t.inside.0 c.copy_part.new.tile c.self.invariant.0.same u)

pub returns-clause-held : goal.returns-clause-held
returns-clause-held g c = rw (← c.self.view_is) (put_count c.self.inside.flags.items c.self.inside.tiles.items c.t.inside.0 c.copy_part.new.tile c.self.invariant.0.same)

pub returns-clause-spare : goal.returns-clause-spare
returns-clause-spare g c = rw (← c.self.view_is) (ap (λ n. c.self.inside.room - n) (put_count c.self.inside.flags.items c.self.inside.tiles.items c.t.inside.0 c.copy_part.new.tile c.self.invariant.0.same))
