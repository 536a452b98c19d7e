use Rattle.std.proofs.Common.{◌≡◌, ◌∙◌, ◌-◌, ◌/◌, true, false, ap, sym, arith, ⊎_elim}
use Rattle.std.specs.Prelude.{◌&&◌, ◌||◌}
use Rattle.std.proofs.lemmas.Bool.{and_from, and_parts, both_ways, cases_Bool}
use Rattle.std.proofs.lemmas.Nat.{mul-le}
use Rattle.r9_marks.specs.marks.Cells.{touches}
use Rattle.r9_marks.specs.marks.Marks.{marked}
use Rattle.r9_marks.proofs.marks.MarkLemmas.{cell_touched, cells_few, touch_tells}
use Rattle.r9_marks.proofs.marks.Marks.mark.Goals as goal

pub returns-clause-marks : goal.returns-clause-marks
returns-clause-marks c k r =
    let a = c.args in
    let here = touches a.column a.width k && touches a.row a.height r in
    let old = marked a.self.now k r in
    let end = c.cells_over-end.ensures in
    let bottom = c.cells_over-bottom.ensures in
    ⊎_elim
    (λ (h : here ≡ true).
    let both = and_parts _ _ h in
    let across = touch_tells a.column a.width k both.0 in
    let down = touch_tells a.row a.height r both.1 in
    c.mark_block.ensures.here k r across.0 (omega (arith, end, across.1)) down.0 (omega (arith, bottom, down.1)) ∙ sym (ap (λ b. b || old) h))
    (λ (h : here ≡ false).
    c.mark_block.ensures.others k r
    (λ low high under over.
    both_ways here h
    (and_from _ _
    (cell_touched a.column a.width k c.requires.wide low (omega (arith, end, high)))
    (cell_touched a.row a.height r c.requires.tall under (omega (arith, bottom, over)))))
    ∙ sym (ap (λ b. b || old) h))
    (cases_Bool here)

pub returns-clause-few : goal.returns-clause-few
returns-clause-few c =
    let a = c.args in
    let columns = cells_few a.column a.width c.requires.wide in
    let rows = cells_few a.row a.height c.requires.tall in
    let fewer = mul-le (c.cells_over-end.result - a.column / 32) (c.cells_over-bottom.result - a.row / 32) a.width a.height (omega (arith, columns, c.cells_over-end.ensures)) (omega (arith, rows, c.cells_over-bottom.ensures)) in
    omega (arith, fewer, c.mark_block.ensures.few)
