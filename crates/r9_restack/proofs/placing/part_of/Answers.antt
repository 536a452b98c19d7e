use Rattle.std.proofs.Common.{◌≡◌, ◌∙◌, Bool, true, false, Some, refl, sym, ap}
use Rattle.std.specs.Prelude.{◌&&◌}
use Rattle.r9_geom.specs.declared.Point.{Point}
use Rattle.r9_geom.specs.Geometry.{holds}
use Rattle.r9_shown.specs.Shown.{block}
use Rattle.r9_restack.specs.Placing.{shows}
use Rattle.r9_restack.specs.Showing.{shows_in}
use Rattle.r9_restack.specs.Stacks.{after_of}
use Rattle.r9_restack.proofs.Showing.{out_of, shown_none, shown_some, shows_is}
use Rattle.r9_restack.proofs.Steady.{block_fewer}
use Rattle.r9_restack.proofs.placing.part_of.Goals as goal
use Rattle.r9_restack.proofs.placing.part_of.Goals.{After-is_after}

-- whether it shows there
shows_here : (c : After-is_after) (z : Point) → holds (block c.args.q c.run_of-run.result.extent.columns c.run_of-run.result.extent.rows) z ≡ true → shows c.args.below.now (after_of c.args.stacks.now) c.args.w z ≡ (holds c.args.below.now c.args.q && shows_in c.run_of-run.result.tops c.args.w)
shows_here c z inside =
    let run = c.run_of-run.result in
    let wider = block_fewer c.args.q z run.extent.columns run.extent.rows c.cut-within.result.columns c.cut-within.result.rows c.run_of-run.ensures.most c.run_of-run.ensures.most_rows inside in
    shows_is c.args.below.now c.args.stacks.now c.args.w z run.tops c.requires.apart (c.run_of-run.ensures.same z inside)
    ∙ ap (λ b. b && shows_in run.tops c.args.w) (c.cut-within.ensures.same z wider)

and_false : (a b : Bool) → b ≡ false → (a && b) ≡ false
and_false true b e = e
and_false false b e = refl

pub returns-then-not-holds-clause-same : goal.returns-then-not-holds-clause-same
returns-then-not-holds-clause-same c z inside =
    shown_none c.args.below.now c.args.area.now c.args.stacks.now c.args.w z
    (out_of c.args.below.now c.args.stacks.now c.args.w z (c.cut-within.ensures.same z inside ∙ sym c.holds.ensures ∙ c.if-not-holds.true))

pub returns-then-not-is_after-clause-same : goal.returns-then-not-is_after-clause-same
returns-then-not-is_after-clause-same c z inside =
    shown_none c.args.below.now c.args.area.now c.args.stacks.now c.args.w z
    (shows_here (goal.at.returns-then-not-is_after-clause-same c).After-is_after z inside
    ∙ and_false (holds c.args.below.now c.args.q) (shows_in c.run_of-run.result.tops c.args.w) (sym c.is_after.ensures ∙ c.if-not-is_after.true))

pub returns-clause-same : goal.returns-clause-same
returns-clause-same c z inside =
    let run = c.run_of-run.result in
    let wider = block_fewer c.args.q z c.cut.result.columns c.cut.result.rows run.extent.columns run.extent.rows c.cut.ensures.most c.cut.ensures.most_rows inside in
    let here : holds c.args.below.now c.args.q ≡ true = sym c.holds.ensures ∙ c.if-not-holds.false in
    let after : shows_in run.tops c.args.w ≡ true = sym c.is_after.ensures ∙ c.if-not-is_after.false in
    shown_some c.args.below.now c.args.area.now c.args.stacks.now c.args.w z
    (shows_here (goal.at.returns-clause-same c).After-is_after z wider ∙ (λ j. here j && after j))
    ∙ ap Some (λ j. record { done = (c.cut.ensures.same z inside ∙ sym c.holds-2.ensures) j; tops = c.run_of-run.ensures.same z wider j })
