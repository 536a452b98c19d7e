use Rattle.std.proofs.Common.{◌∙◌, ◌^◌, refl, subst, sym, ap, arith, rules}
use Rattle.std.specs.Prelude.{All}
use Rattle.std.proofs.lemmas.List.Elements.{All-nil, All-push}
use Rattle.r9_geom.specs.declared.Point.{Point}
use Rattle.model_draw_parts.specs.fonts.Font.{piece}
use Rattle.r9_fonts.specs.Near.{IsPieceNearBy}
use Rattle.r9_fonts.proofs.Strings.{next_laid, next_end, no_more, arrived, has_one, near_one, same_layout, nearer}
use Rattle.r9_fonts.proofs.font.laid_out.Goals as goal

pub loop-index-init : goal.loop-index-init
loop-index-init c = record {
  pen = λ n k. nearer n _ _ (omega arith) k;
  source = λ n k. nearer n _ _ (omega arith) k;
  line = refl;
  near = λ n m wide pen source cells. subst (All (IsPieceNearBy m)) (sym c.in_ok-pieces.ensures.items) (All-nil (IsPieceNearBy m));
  laid = search rules;
  end = search rules;
}

pub loop-index-preserved : goal.loop-index-preserved
loop-index-preserved c = record {
  pen = λ n k. c.advanced-pen.ensures.near _ _ (omega arith) (c.loop-index.invariant.pen n k);
  source = λ n k. c.advanced-source.ensures.near _ _ (omega arith) (c.loop-index.invariant.source n k);
  line = ap (λ (p : Point). p.y) c.advanced-pen.ensures.value ∙ c.loop-index.invariant.line;
  near = λ n m wide pen source cells.
      let most = c.requires.few in
      let one = c.piece.ensures.near n m wide (nearer _ _ _ (omega arith) (c.loop-index.invariant.pen n pen)) (nearer _ _ _ (omega arith) (c.loop-index.invariant.source n source)) (near_one n c.args.font.now _ c.cell-cell.result (has_one c.args.font.now c.args.indices.now c.loop-index.index-index _ c.loop-index-test.true refl c.requires.within) c.cell-cell.ensures.value cells) in
      subst (All (IsPieceNearBy m)) (sym c.in_ok-push.ensures.items) (All-push (IsPieceNearBy m) c.loop-index.pieces.items _ (c.loop-index.invariant.near n m wide pen source cells) one);
  laid =
      next_laid c.args.font.now.ascent c.args.font.now.cells c.args.indices.now c.loop-index.index-index _ _ c.loop-index.pieces.items _ c.cell-cell.result _ _ _ _ c.loop-index-test.true c.cell-cell.ensures.value c.in_ok-push.ensures.items (c.piece.ensures.value ∙ ap (λ a. piece a c.loop-index.pen c.loop-index.source c.cell-cell.result) c.ascent-ascent.ensures) c.advanced-pen.ensures.value c.advanced-source.ensures.value c.loop-index.invariant.laid;
  end =
      next_end c.args.font.now.cells c.args.indices.now c.loop-index.index-index _ _ c.cell-cell.result _ c.loop-index-test.true c.cell-cell.ensures.value c.advanced-pen.ensures.value c.loop-index.invariant.end;
}

pub returns-clause-value : goal.returns-clause-value
returns-clause-value c =
    same_layout _ _ (c.into.ensures ∙ no_more c.args.font.now.ascent c.args.font.now.cells c.args.indices.now c.loop-index.index-index _ _ _ _ c.loop-index-test.false c.loop-index.invariant.laid) (arrived c.args.font.now.cells c.args.indices.now c.loop-index.index-index _ _ c.loop-index-test.false c.loop-index.invariant.end)

pub returns-clause-near : goal.returns-clause-near
returns-clause-near c n m wide pen source cells = subst (All (IsPieceNearBy m)) (sym c.into.ensures) (c.loop-index.invariant.near n m wide pen source cells)

pub returns-clause-end : goal.returns-clause-end
returns-clause-end c n m wide pen =
    let most = c.requires.few in
    nearer _ _ _ (omega arith) (c.loop-index.invariant.pen n pen)

pub piece-requires : goal.piece-requires
piece-requires c =
    let most = c.requires.few in
    record {
      p = nearer _ _ _ (omega arith) (c.loop-index.invariant.pen (2 ^ 33) c.requires.p);
      sp = nearer _ _ _ (omega arith) (c.loop-index.invariant.source (2 ^ 33) c.requires.sp);
      cell = c.cell-cell.ensures.near;
    }

pub advanced-pen-requires : goal.advanced-pen-requires
advanced-pen-requires c =
    let most = c.requires.few in
    nearer _ _ _ (omega arith) (c.loop-index.invariant.pen (2 ^ 33) c.requires.p)

pub advanced-source-requires : goal.advanced-source-requires
advanced-source-requires c =
    let most = c.requires.few in
    nearer _ _ _ (omega arith) (c.loop-index.invariant.source (2 ^ 33) c.requires.sp)

pub cell-cell-requires : goal.cell-cell-requires
cell-cell-requires c = has_one c.args.font.now c.args.indices.now c.loop-index.index-index _ c.loop-index-test.true refl c.requires.within
