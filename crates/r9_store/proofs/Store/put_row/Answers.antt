use Rattle.std.proofs.Common.{◌-◌, ◌+◌, ◌∙◌, ap, sym, arith, length, refl}
use Rattle.std.specs.Prelude.{slice_index}
use Rattle.r9_geom.specs.declared.Point.{Point}
use Rattle.r9_geom.specs.Geometry.{distance}
use Rattle.r9_store.proofs.Rows.{run_fits, some_of, start_in}
use Rattle.r9_store.proofs.Slots.{flag_below, held_flag, put_count, put_held, tile-put_row}
use Rattle.r9_store.proofs.Store.put_row.Goals as goal

pub index_mut-requires : goal.index_mut-requires
index_mut-requires g c =
    let held = held_flag c.self.inside.flags.items c.self.inside.tiles.items c.self.inside.room c.t.inside.0 c.args.t c.args.self.now c.self.view_is c.t.view_is c.self.invariant.0.same c.requires.held in
    omega (arith, flag_below c.self.inside.flags.items c.t.inside.0 held, c.self.invariant.0.same, c.self.inside.tiles.ok.0)

pub place_of-first-requires : goal.place_of-first-requires
place_of-first-requires g c = start_in c.args.at (length c.args.raws.now) (some_of (length c.args.raws.now) c.is_empty.ensures c.if-is_empty.false) c.requires.inside

pub put_run-requires : goal.put_run-requires
put_run-requires g c =
    let fits = run_fits c.args.at (length c.args.raws.now) (some_of (length c.args.raws.now) c.is_empty.ensures c.if-is_empty.false) c.requires.inside in
    omega (arith, fits, c.place_of-first.ensures.value)

pub returns-clause-pixels : goal.returns-clause-pixels
returns-clause-pixels g c u q =
    let held = held_flag c.self.inside.flags.items c.self.inside.tiles.items c.self.inside.room c.t.inside.0 c.args.t c.args.self.now c.self.view_is c.t.view_is c.self.invariant.0.same c.requires.held in
    rw (← c.self.view_is, ← c.t.view_is)
    (tile-put_row c.self.inside.flags.items c.self.inside.tiles.items c.t.inside.0 c.index_mut.result.now c.put_run.new.tile c.self.invariant.0.same held c.index_mut.ensures.value c.args.at (length c.args.raws.now)
    (slice_index c.args.raws.now) (λ (p : Point). slice_index c.args.raws.now (distance c.args.at.x p.x))
    c.requires.inside
    (record {
      written = λ i h. ap (λ n. slice_index c.put_run.new.tile (n + i)) (sym c.place_of-first.ensures.value) ∙ c.put_run.ensures.written i h;
      others = λ n apart. c.put_run.ensures.others n (λ i h same. apart i h (same ∙ ap (λ f. f + i) c.place_of-first.ensures.value));
    }) (λ _ _. refl) u q)

pub returns-clause-same : goal.returns-clause-same
returns-clause-same g c u = rw (← c.self.view_is) (put_held c.self.inside.flags.items c.self.inside.tiles.items c.t.inside.0 c.put_run.new.tile c.self.invariant.0.same u)

pub returns-clause-held : goal.returns-clause-held
returns-clause-held g c = rw (← c.self.view_is) (put_count c.self.inside.flags.items c.self.inside.tiles.items c.t.inside.0 c.put_run.new.tile c.self.invariant.0.same)

pub returns-clause-spare : goal.returns-clause-spare
returns-clause-spare g c = rw (← c.self.view_is) (ap (λ n. c.self.inside.room - n) (put_count c.self.inside.flags.items c.self.inside.tiles.items c.t.inside.0 c.put_run.new.tile c.self.invariant.0.same))
