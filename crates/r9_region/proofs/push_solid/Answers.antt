use Rattle.std.proofs.Common.{◌≡◌, ◌∙◌, ◌+◌, ap, sym, refl, false}
use Rattle.std.proofs.lemmas.List.Elements.{All-push}
use Rattle.std.proofs.lemmas.List.{take_all}
use Rattle.r9_geom.specs.Geometry.{is_empty}
use Rattle.r9_region.specs.Region.{how_many_hold}
use Rattle.r9_region.proofs.Points.{nowhere, push_step, skip_step}
use Rattle.r9_region.proofs.push_solid.Goals as goal
use Rattle.r9_region.proofs.push_solid.Goals.{then-not-is_empty+in_ok-push, else-not-is_empty}

pub loop-piece-preserved : goal.loop-piece-preserved
loop-piece-preserved c =
    elim c.if-not-is_empty.branch [
      | then-not-is_empty+in_ok-push w ↦ rw (w.out-is, w.in_ok-push.ensures.items) (
        λ p. push_step (how_many_hold c.args.out.now.items p) c.loop-piece.out.items _ _ nowhere p c.loop-piece-test.true (c.loop-piece.invariant.0 p),
        λ solid. All-push (λ part. is_empty part ≡ false) _ _ (c.loop-piece.invariant.1 solid) (sym w.if-not-is_empty.ensures.exact),
      )
      | else-not-is_empty w ↦ rw w.out-is (
        λ p. skip_step (how_many_hold c.args.out.now.items p) c.loop-piece.out.items _ _ nowhere p c.loop-piece-test.true (w.if-not-is_empty.ensures.points.0 refl p) (c.loop-piece.invariant.0 p),
        c.loop-piece.invariant.1,
      )
    ]

pub returns-clause-points : goal.returns-clause-points
returns-clause-points c p =
    c.loop-piece.invariant.0 p
    ∙ ap (λ pieces. how_many_hold c.args.out.now.items p + how_many_hold pieces p) (take_all c.loop-piece.piece-index c.args.pieces.now c.loop-piece-test.false)
