use Rattle.std.proofs.Common.{subst, sym, ◌^◌, arith}
use Rattle.std.proofs.lemmas.Int.{ints}
use Rattle.r9_geom.specs.Geometry.{IsRectNearBy}
use Rattle.r9_geom.proofs.GeometryLemmas.{same_rect}
use Rattle.r9_draw.proofs.strings.Strings.{background_near}
use Rattle.r9_draw.proofs.strings.drawing.background_rect.Goals as goal

pub returns-clause-value : goal.returns-clause-value
returns-clause-value c = same_rect _ _ (omega (arith, ints)) (omega (arith, ints)) (omega (arith, ints)) (omega (arith, ints))

pub returns-clause-near : goal.returns-clause-near
returns-clause-near c =
    subst (IsRectNearBy (2 ^ 34)) (sym (returns-clause-value c))
    (background_near c.args.p c.args.end c.args.ascent c.args.font_r.now (omega (arith, ints)) c.requires.p c.requires.end c.requires.font)
