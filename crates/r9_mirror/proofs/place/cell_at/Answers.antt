use Rattle.std.proofs.Common.{◌≡◌, ◌∙◌, ◌+◌, ap, sym, arith, take, drop, ℕ, Some}
use Rattle.std.proofs.lemmas.List.{take_rest}
use Rattle.model_client.specs.mirror.Picture.{with_rows}
use Rattle.model_client.specs.mirror.Lines as model
use Rattle.model_client.specs.mirror.Frames.{cells}
use Rattle.r9_mirror.specs.declared.lines.Size.{Size}
use Rattle.r9_mirror.specs.Words.{words_of}
use Rattle.r9_mirror.specs.Sizes.{blank_of, cell_of}
use Rattle.r9_mirror.proofs.Numbers.{cell_same}
use Rattle.r9_mirror.proofs.Steps.{one_cell}
use Rattle.r9_mirror.proofs.place.cell_at.Goals as goal

pub returns-clause-cell : goal.returns-clause-cell
returns-clause-cell c = λ n picture s.
    let cell = c.in-Some-cell_in.cell in
    let text = c.args.text.now in
    let words = words_of c.in-Some.line.now in
    let is : model.cell_in picture words ≡ Some (cell_of cell) =
    cell_same picture words ∙ ap (λ (size : Size). model.cell_in (blank_of size) words) s ∙ sym c.in-Some-cell_in.ensures.cell in
    rw take_rest
    (one_cell n c.args.chan c.args.first c.args.at c.in-Some.start text words picture (cell_of cell) c.in-Some.ensures.line is
    (omega (arith, c.if-cell-first.false)) (omega (arith, c.in-Some.ensures.within, c.rows_len-len.ensures, c.if-rest-len.false))
    ∙ ap (λ (len : ℕ). cells n c.args.chan (cell.order + 1) (with_rows c.args.chan cell.r (take len (drop c.in-Some.start text)) picture) text (c.in-Some.start + len)) (sym c.rows_len-len.ensures))
