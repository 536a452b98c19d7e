use Rattle.std.proofs.Common.{◌≡◌, ◌∙◌, ◌+◌, ◌*◌, ◌<◌, ◌++◌, ◌∷◌, [], ℕ, List, true, false, ap, sym, subst, append-nil, arith}
use Rattle.std.specs.Prelude.{All, filter}
use Rattle.std.proofs.lemmas.List.Elements.{All-push}
use Rattle.r9_geom.specs.Geometry.{height, width}
use Rattle.r9_marks.specs.marks.Cells.{cells_in}
use Rattle.model_mirror.specs.Sent.{sent_after}
use Rattle.r9_hall.specs.hall.WorldView.{display_in}
use Rattle.r9_serve.specs.declared.sending.cells.Cell.{Cell}
use Rattle.r9_serve.specs.sending.Cells.{pairs_of, IsCellOf}
use Rattle.r9_serve.proofs.sending.Lists.{columns_more, pairs_push, row_to, rows_more}
use Rattle.r9_serve.proofs.sending.cells.Sending.cells.Goals as goal
use Rattle.r9_serve.proofs.sending.cells.Sending.cells.Goals.{then-sends+in_ok-push, else-sends}

pub loop-column-preserved : goal.loop-column-preserved
loop-column-preserved c =
    let sending = c.args.self.now in
    let display = display_in c.args.world.now in
    let p = λ (cell : ℕ × ℕ). sent_after sending.resized sending.old sending.new display.marked cell.0 cell.1 in
    let before = c.loop-column.cells.items in
    let row = c.loop-row.row in
    let column = c.loop-column.column in
    let here : Cell = record { column = column; row = row } in
    let rows = filter p (cells_in c.cells_over-across.result row) in
    let inside : IsCellOf display.r here = record {
      column = omega (arith, c.loop-column-test.true, c.cells_over-across.ensures, c.width.ensures, ap width c.display-r.ensures.r);
      row = omega (arith, c.loop-row-test.true, c.cells_over-down.ensures, c.height.ensures, ap height c.display-r.ensures.r);
    } in
    elim c.if-sends.branch [
      | then-sends+in_ok-push w ↦
          let now : c.if-sends.cells.items ≡ before ++ here ∷ [] = ap (λ v. v.items) w.cells-is ∙ w.in_ok-push.ensures.items in
          record {
            cells = ap pairs_of now ∙ pairs_push before here ∙ columns_more p rows (pairs_of before) row column true c.loop-column.invariant.cells (sym w.if-sends.true ∙ c.sends.ensures);
            within = subst (All (IsCellOf display.r)) (sym now) (All-push (IsCellOf display.r) before here c.loop-column.invariant.within inside);
          }
      | else-sends w ↦
          let now : c.if-sends.cells.items ≡ before = ap (λ v. v.items) w.cells-is in
          record {
            cells = ap pairs_of now ∙ sym (append-nil (pairs_of before)) ∙ columns_more p rows (pairs_of before) row column false c.loop-column.invariant.cells (sym w.if-sends.false ∙ c.sends.ensures);
            within = subst (All (IsCellOf display.r)) (sym now) c.loop-column.invariant.within;
          }
    ]

pub loop-row-preserved : goal.loop-row-preserved
loop-row-preserved c =
    let sending = c.args.self.now in
    let display = display_in c.args.world.now in
    let p = λ (cell : ℕ × ℕ). sent_after sending.resized sending.old sending.new display.marked cell.0 cell.1 in
    let across = c.cells_over-across.result in
    let row = c.loop-row.row in
    let all : c.loop-column.column ≡ across = omega (arith, c.loop-column-test.false, c.loop-column.auto.column-end) in
    record {
      cells = c.loop-column.invariant.cells ∙ ap (λ (n : ℕ). filter p (cells_in across row) ++ filter p (row_to row n)) all ∙ sym (rows_more p across row);
      within = c.loop-column.invariant.within;
    }
