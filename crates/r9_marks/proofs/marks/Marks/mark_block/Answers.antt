use Rattle.std.proofs.Common.{◌≡◌, ◌∙◌, ◌-◌, ◌<◌, ◌≤◌, ap, arith, ⊎_elim}
use Rattle.std.proofs.lemmas.Bool.{cases_lt}
use Rattle.r9_marks.specs.marks.Marks.{marked}
use Rattle.r9_marks.proofs.marks.MarkLemmas.{row_more}
use Rattle.r9_marks.proofs.marks.Marks.mark_block.Goals as goal

pub loop-row-preserved : goal.loop-row-preserved
loop-row-preserved c =
    let inv = c.loop-row.invariant in
    let row = c.loop-row.row in
    record {
      here = λ k r low high under over.
          ⊎_elim
          (λ (h : r < row). c.mark_row.ensures.others k r (λ same _ _. absurd (omega (arith, h, same))) ∙ inv.here k r low high under h)
          (λ (h : row ≤ r). let same : r ≡ row = omega (arith, h, over) in ap (marked c.mark_row.new.self k) same ∙ c.mark_row.ensures.here k low high)
          (cases_lt r row);
      others = λ k r out.
          c.mark_row.ensures.others k r (λ same low high. out low high (omega (arith, same)) (omega (arith, same)))
          ∙ inv.others k r (λ low high under over. out low high under (omega (arith, over)));
      few = omega (arith, c.mark_row.ensures.few, inv.few, row_more (c.args.end - c.args.first) row c.args.top c.loop-row.auto.row);
      across = c.mark_row.ensures.across ∙ inv.across;
      down = c.mark_row.ensures.down ∙ inv.down;
    }
