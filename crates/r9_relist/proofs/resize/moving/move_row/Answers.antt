use Rattle.std.proofs.Common.{◌≡◌, ◌∙◌, ℕ, ◌+◌, ◌≤◌, length, length-append, length-drop, take, drop, lit≤, ◌^◌, refl, sym, subst, ap, arith}
use Rattle.std.proofs.lemmas.List.{length-take-le}
use Rattle.r9_geom.specs.declared.Point.{Point}
use Rattle.r9_geom.specs.Geometry.{IsNear}
use Rattle.r9_geom.proofs.GeometryLemmas.{near_wider}
use Rattle.r9_plane.specs.Pixels.{along, pixel_at, rect_of}
use Rattle.r9_plane.proofs.PlaneLemmas.{along_holds}
use Rattle.r9_locate.specs.locate.Table.{shape}
use Rattle.r9_pixels.specs.Kept.{kept_at}
use Rattle.r9_restack.specs.Moving.{more, IsFresh}
use Rattle.r9_restack.proofs.Parting.{fresh_part, more_none, more_two}
use Rattle.r9_relist.specs.resize.Moves.{HasPlacesFor, IsMovedFor}
use Rattle.r9_relist.proofs.resize.Moved.{moved_same}
use Rattle.r9_relist.proofs.resize.moving.move_row.Goals as goal

pub loop-done-init : goal.loop-done-init
loop-done-init g c = record {
  within = omega arith;
  moved = λ before also fresh m. moved_same (shape c.args.lists.now) c.args.i (rect_of c.args.had.now) (pixel_at c.args.had.now) c.requires.live c.requires.forest before (kept_at c.args.pixels.now) also (more c.args.at 0 also) (λ z. more_none c.args.at z also) m;
  long = refl;
  has = refl;
  forms = refl;
  steps = omega arith;
  moment = refl;
  writes = refl;
}

pub move_part-requires-clause-near : goal.move_part-requires-clause-near
move_part-requires-clause-near g c =
    subst IsNear (sym c.along-q.ensures) (c.requires.near (along c.args.at c.loop-done.done) (along_holds c.args.at c.args.n c.loop-done.done c.loop-done-test.true))

pub move_part-requires-clause-forms : goal.move_part-requires-clause-forms
move_part-requires-clause-forms g c = c.loop-done.invariant.forms ∙ c.requires.forms

pub move_part-requires-clause-places : goal.move_part-requires-clause-places
move_part-requires-clause-places g c = subst (HasPlacesFor (shape c.args.lists.now) c.args.i (rect_of c.args.had.now)) (sym c.loop-done.invariant.has) c.requires.places

pub returns-clause-moved : goal.returns-clause-moved
returns-clause-moved g c before also fresh m =
    let end : c.loop-done.done ≡ c.args.n = omega (arith, c.loop-done-test.false, c.loop-done.invariant.within) in
    subst (λ (n : ℕ). IsMovedFor (shape c.args.lists.now) c.args.i (rect_of c.args.had.now) (pixel_at c.args.had.now) before (kept_at c.loop-done.pixels) (more c.args.at n also)) end
    (c.loop-done.invariant.moved before also fresh m)

pub along-q-requires-clause-near : goal.along-q-requires-clause-near
along-q-requires-clause-near g c = near_wider (2 ^ 40) (2 ^ 42) c.args.at (lit≤ tt) c.requires.start

pub loop-done-preserved : goal.loop-done-preserved
loop-done-preserved g c =
    let w = shape c.args.lists.now in
    let done = c.loop-done.done in
    let len = c.steady_top-len.result in
    let fits : done + len ≤ c.args.n = omega (arith, c.steady_top-len.ensures.most, c.steady-alike.ensures.most, c.steady.ensures.most, c.min.ensures, c.loop-done.invariant.within) in
    let long : length (take len c.loop-done.block) ≡ len = length-take-le len c.loop-done.block (omega (arith, c.steady_top-len.ensures.most, c.steady-alike.ensures.most, c.steady.ensures.most, c.min.ensures, c.loop-done.invariant.long)) in
    record {
      within = fits;
      moved = λ before also fresh m.
          let so_far = c.loop-done.invariant.moved before also fresh m in
          let q_is : c.along-q.result ≡ along c.args.at done = c.along-q.ensures in
          let ready : IsFresh c.along-q.result (length (take len c.loop-done.block)) (more c.args.at done also) = subst (λ (q : Point). IsFresh q (length (take len c.loop-done.block)) (more c.args.at done also)) (sym q_is) (subst (λ n. IsFresh (along c.args.at done) n (more c.args.at done also)) (sym long) (fresh_part c.args.at c.args.n done len also fits fresh)) in
          moved_same w c.args.i (rect_of c.args.had.now) (pixel_at c.args.had.now) c.requires.live c.requires.forest before (kept_at c.move_part.new.pixels) (more c.along-q.result (length (take len c.loop-done.block)) (more c.args.at done also)) (more c.args.at (done + len) also)
          (λ z. more_two c.args.at z done len also ∙ ap (λ q. more q len (more c.args.at done also) z) (sym q_is) ∙ ap (λ n. more c.along-q.result n (more c.args.at done also) z) (sym long))
          (c.move_part.ensures.moved before (more c.args.at done also) ready so_far);
      long = omega (arith, length-append c.move_part.new.raws (drop len c.loop-done.block), length-drop len c.loop-done.block, c.move_part.auto.raws, long, c.loop-done.invariant.long, c.steady_top-len.ensures.most, c.steady-alike.ensures.most, c.steady.ensures.most, c.min.ensures);
      has = c.move_part.ensures.has ∙ c.loop-done.invariant.has;
      forms = c.move_part.ensures.forms ∙ c.loop-done.invariant.forms;
      steps = omega (arith, c.move_part.ensures.steps, c.loop-done.invariant.steps, long);
      moment = c.move_part.ensures.moment ∙ c.loop-done.invariant.moment;
      writes = omega (arith, c.move_part.ensures.writes, c.loop-done.invariant.writes);
    }
