use Rattle.std.proofs.Common.{◌-◌, ◌+◌, ◌∙◌, ap, sym, arith, ℕ}
use Rattle.std.specs.Prelude.{slice_index}
use Rattle.r9_geom.specs.declared.Point.{Point}
use Rattle.r9_geom.specs.Geometry.{carried}
use Rattle.r9_plane.specs.Pixels.{along, pixel_at}
use Rattle.r9_store.proofs.Rows.{along_carried, run_fits, start_in}
use Rattle.r9_store.proofs.Slots.{flag_below, held_flag, put_count, put_held, tile-put_row}
use Rattle.r9_store.proofs.Store.copy_row.Goals as goal

pub index_mut-requires : goal.index_mut-requires
index_mut-requires g c =
    let held = held_flag c.self.inside.flags.items c.self.inside.tiles.items c.self.inside.room c.t.inside.0 c.args.t c.args.self.now c.self.view_is c.t.view_is c.self.invariant.0.same c.requires.held in
    omega (arith, flag_below c.self.inside.flags.items c.t.inside.0 held, c.self.invariant.0.same, c.self.inside.tiles.ok.0)

pub place_of-first-requires : goal.place_of-first-requires
place_of-first-requires g c = start_in c.args.at c.args.len (omega (arith, c.if-len-eq0.false)) c.requires.inside

pub copy_run-requires-clause-fits : goal.copy_run-requires-clause-fits
copy_run-requires-clause-fits g c =
    let fits = run_fits c.args.at c.args.len (omega (arith, c.if-len-eq0.false)) c.requires.inside in
    omega (arith, fits, c.place_of-first.ensures.value)

pub returns-clause-pixels : goal.returns-clause-pixels
returns-clause-pixels g c u q =
    let plane = c.args.plane.now in
    let from = c.args.from in
    let held = held_flag c.self.inside.flags.items c.self.inside.tiles.items c.self.inside.room c.t.inside.0 c.args.t c.args.self.now c.self.view_is c.t.view_is c.self.invariant.0.same c.requires.held in
    rw (← c.self.view_is, ← c.t.view_is)
    (tile-put_row c.self.inside.flags.items c.self.inside.tiles.items c.t.inside.0 c.index_mut.result.now c.copy_run.new.tile c.self.invariant.0.same held c.index_mut.ensures.value c.args.at c.args.len
    (λ (i : ℕ). pixel_at plane (along from i)) (λ (p : Point). pixel_at plane (carried p c.args.at from))
    c.requires.inside
    (record {
      written = λ i h. ap (λ n. slice_index c.copy_run.new.tile (n + i)) (sym c.place_of-first.ensures.value) ∙ c.copy_run.ensures.written i h;
      others = λ n apart. c.copy_run.ensures.others n (λ i h same. apart i h (same ∙ ap (λ f. f + i) c.place_of-first.ensures.value));
    })
    (λ p h. ap (pixel_at plane) (along_carried c.args.at from p c.args.len h)) u q)

pub returns-clause-same : goal.returns-clause-same
returns-clause-same g c u = rw (← c.self.view_is) (put_held c.self.inside.flags.items c.self.inside.tiles.items c.t.inside.0 c.copy_run.new.tile c.self.invariant.0.same u)

pub returns-clause-held : goal.returns-clause-held
returns-clause-held g c = rw (← c.self.view_is) (put_count c.self.inside.flags.items c.self.inside.tiles.items c.t.inside.0 c.copy_run.new.tile c.self.invariant.0.same)

pub returns-clause-spare : goal.returns-clause-spare
returns-clause-spare g c = rw (← c.self.view_is) (ap (λ n. c.self.inside.room - n) (put_count c.self.inside.flags.items c.self.inside.tiles.items c.t.inside.0 c.copy_run.new.tile c.self.invariant.0.same))
