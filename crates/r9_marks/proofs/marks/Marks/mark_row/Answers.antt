use Rattle.std.proofs.Common.{◌≡◌, ◌∙◌, ◌<◌, ◌≤◌, ℕ, ap, arith, ⊎_elim}
use Rattle.std.proofs.lemmas.Bool.{cases_lt}
use Rattle.r9_marks.specs.marks.Marks.{marked}
use Rattle.r9_marks.proofs.marks.Marks.mark_row.Goals as goal

pub loop-column-preserved : goal.loop-column-preserved
loop-column-preserved c =
    let inv = c.loop-column.invariant in
    let column = c.loop-column.column in
    record {
      here = λ k low high.
          ⊎_elim
          (λ (h : k < column). c.mark_cell.ensures.others k c.args.row (λ same _. absurd (omega (arith, h, same))) ∙ inv.here k low h)
          (λ (h : column ≤ k). let same : k ≡ column = omega (arith, h, high) in ap (λ (n : ℕ). marked c.mark_cell.new.self n c.args.row) same ∙ c.mark_cell.ensures.here)
          (cases_lt k column);
      others = λ k r out.
          c.mark_cell.ensures.others k r (λ same is. out is (omega (arith, same)) (omega (arith, same)))
          ∙ inv.others k r (λ is low high. out is low (omega (arith, high)));
      few = omega (arith, c.mark_cell.ensures.few, inv.few);
      across = c.mark_cell.ensures.across ∙ inv.across;
      down = c.mark_cell.ensures.down ∙ inv.down;
    }
