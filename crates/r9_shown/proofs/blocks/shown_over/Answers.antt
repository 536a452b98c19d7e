use Rattle.std.proofs.Common.{◌≡◌, ◌∙◌, true, false, take, sym, ap}
use Rattle.std.specs.Prelude.{◌&&◌}
use Rattle.r9_geom.specs.Geometry.{holds}
use Rattle.model_forest.specs.View.{is_bare}
use Rattle.r9_shown.proofs.Keepers.{block_within}
use Rattle.r9_shown.proofs.blocks.shown_over.Goals as goal

pub returns-then-not-holds-clause-same : goal.returns-then-not-holds-clause-same
returns-then-not-holds-clause-same c z h =
    let out : holds c.args.below.now.r z ≡ false = c.cut-within.ensures.same z h ∙ sym c.holds.ensures ∙ c.if-not-holds.true in
    ap (λ t. t && is_bare (take c.args.at c.args.below.now.windows.items) z) out

pub returns-clause-same : goal.returns-clause-same
returns-clause-same c z h =
    let within = block_within c.args.q z c.cover_over.result.extent.columns c.cover_over.result.extent.rows c.cut-within.result.columns c.cut-within.result.rows c.cover_over.ensures.most c.cover_over.ensures.most_rows h in
    let in_it : holds c.args.below.now.r z ≡ true = c.cut-within.ensures.same z within ∙ sym c.holds.ensures ∙ c.if-not-holds.false in
    ap (λ t. t && is_bare (take c.args.at c.args.below.now.windows.items) z) in_it
    ∙ ap (λ ws. is_bare (take c.args.at ws) z) (sym c.deref.ensures.value)
    ∙ c.cover_over.ensures.same z h
