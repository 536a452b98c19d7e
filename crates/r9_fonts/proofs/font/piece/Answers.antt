use Rattle.std.proofs.Common.{ap, refl, subst, sym, ◌∙◌, arith}
use Rattle.std.proofs.lemmas.Int.{ints}
use Rattle.r9_geom.specs.Geometry.{at_min}
use Rattle.r9_fonts.specs.Near.{IsPieceNearBy}
use Rattle.r9_fonts.proofs.Strings.{piece_near, same_point, same_piece}
use Rattle.r9_fonts.proofs.font.piece.Goals as goal

pub returns-clause-value : goal.returns-clause-value
returns-clause-value c =
    same_piece _ _ (c.at_min.ensures ∙ ap (at_min c.args.cell.r) (same_point _ _ (omega (arith, ints)) (omega (arith, ints)))) (same_point _ _ (omega (arith, ints)) (omega (arith, ints))) refl

pub returns-clause-near : goal.returns-clause-near
returns-clause-near c n m wide pen source cell =
    subst (IsPieceNearBy m) (sym (returns-clause-value c))
    (piece_near c.args.ascent c.args.p c.args.sp c.args.cell n m (omega (arith, ints)) (omega (arith, ints)) (omega (arith, ints)) wide pen source cell)
