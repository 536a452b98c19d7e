use Rattle.std.proofs.Common.{◌-◌, arith, ◌≡◌, ◌∙◌, ℕ, true, ap, sym, subst}
use Rattle.std.specs.Prelude.{slice_index}
use Rattle.r9_geom.specs.declared.Point.{Point}
use Rattle.r9_geom.specs.Geometry.{holds}
use Rattle.r9_plane.specs.Blocks.{number_in, HasRows}
use Rattle.r9_store.specs.Tiles.{place_of}
use Rattle.r9_store.proofs.Blocks.{corner_in, few_points, ordered_of, place_in, rows_fit}
use Rattle.r9_store.proofs.Slots.{flag_below, held_flag, put_count, put_held, tile-put_at}
use Rattle.r9_store.proofs.Store.put_block.Goals as goal

pub index_mut-requires : goal.index_mut-requires
index_mut-requires g c =
    let held = held_flag c.self.inside.flags.items c.self.inside.tiles.items c.self.inside.room c.t.inside.0 c.args.t c.args.self.now c.self.view_is c.t.view_is c.self.invariant.0.same c.requires.held in
    omega (arith, flag_below c.self.inside.flags.items c.t.inside.0 held, c.self.invariant.0.same, c.self.inside.tiles.ok.0)

pub place_of-place-requires : goal.place_of-place-requires
place_of-place-requires g c = corner_in c.args.r.now c.requires.some c.requires.inside

pub put_part-requires-clause-ordered : goal.put_part-requires-clause-ordered
put_part-requires-clause-ordered g c = ordered_of c.args.r.now c.requires.some

pub put_part-requires-clause-rows : goal.put_part-requires-clause-rows
put_part-requires-clause-rows g c =
    subst (λ (place : ℕ). HasRows c.args.r.now place 32 1024) (sym c.place_of-place.ensures.value) (rows_fit c.args.r.now c.requires.some c.requires.inside)

pub count_points-requires-clause-ordered : goal.count_points-requires-clause-ordered
count_points-requires-clause-ordered g c = ordered_of c.args.r.now c.requires.some

pub count_points-requires-clause-few : goal.count_points-requires-clause-few
count_points-requires-clause-few g c = few_points c.args.r.now (place_of c.args.r.now.min) (rows_fit c.args.r.now c.requires.some c.requires.inside)

pub returns-clause-pixels : goal.returns-clause-pixels
returns-clause-pixels g c u q =
    let r = c.args.r.now in
    let first = corner_in r c.requires.some c.requires.inside in
    let at : (p : Point) → holds r p ≡ true → number_in r c.place_of-place.result 32 p ≡ place_of p =
    (λ p h. ap (λ (place : ℕ). number_in r place 32 p) c.place_of-place.ensures.value ∙ place_in r p first h (c.requires.inside p h)) in
    let held = held_flag c.self.inside.flags.items c.self.inside.tiles.items c.self.inside.room c.t.inside.0 c.args.t c.args.self.now c.self.view_is c.t.view_is c.self.invariant.0.same c.requires.held in
    rw (← c.self.view_is, ← c.t.view_is)
    (tile-put_at c.self.inside.flags.items c.self.inside.tiles.items c.t.inside.0 c.index_mut.result.now c.put_part.new.tile c.self.invariant.0.same held c.index_mut.ensures.value (holds r)
    (λ (p : Point). slice_index c.args.raws.now (number_in r c.args.first c.args.width p))
    c.requires.inside
    (record {
      written = λ p h. ap (slice_index c.put_part.new.tile) (sym (at p h)) ∙ c.put_part.ensures.pixels p h;
      others = λ n apart. c.put_part.ensures.others n (λ p h same. apart p h (same ∙ at p h));
    }) u q)

pub returns-clause-same : goal.returns-clause-same
returns-clause-same g c u = rw (← c.self.view_is) (put_held c.self.inside.flags.items c.self.inside.tiles.items c.t.inside.0 c.put_part.new.tile c.self.invariant.0.same u)

pub returns-clause-held : goal.returns-clause-held
returns-clause-held g c = rw (← c.self.view_is) (put_count c.self.inside.flags.items c.self.inside.tiles.items c.t.inside.0 c.put_part.new.tile c.self.invariant.0.same)

pub returns-clause-spare : goal.returns-clause-spare
returns-clause-spare g c = rw (← c.self.view_is) (ap (λ n. c.self.inside.room - n) (put_count c.self.inside.flags.items c.self.inside.tiles.items c.t.inside.0 c.put_part.new.tile c.self.invariant.0.same))
