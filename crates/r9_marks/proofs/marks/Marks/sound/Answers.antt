use Rattle.std.proofs.Common.{◌≡◌, ◌+◌, ◌*◌, ℕ, false, get_or, sym, ap, ◌∙◌, arith}
use Rattle.std.specs.Prelude.{◌&&◌}
use Rattle.std.proofs.lemmas.Bool.{lt-ltb}
use Rattle.r9_marks.specs.marks.Marks.{marked}
use Rattle.r9_marks.proofs.marks.CountLemmas.{count_rows}
use Rattle.r9_marks.proofs.marks.Marks.sound.Goals as goal

pub returns : goal.returns
returns c =
    let marks = c.args.self.now in
    count_rows (λ cell. marked marks cell.0 cell.1) marks.across marks.bits.items 0 marks.down (omega (arith, marks.bits.ok.0, marks.sized))
    (λ column row h low.
    let here : get_or marks.bits.items ((0 + row) * marks.across + column) false ≡ marked marks column (0 + row) = sym (ap (λ b. b && get_or marks.bits.items ((0 + row) * marks.across + column) false) (lt-ltb column marks.across h)) in
    ap (λ (r : ℕ). get_or marks.bits.items (r * marks.across + column) false) (omega arith) ∙ here)
