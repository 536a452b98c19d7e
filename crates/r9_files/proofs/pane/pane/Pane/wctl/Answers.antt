use Rattle.std.proofs.Common.{length, ap, arith}
use Rattle.std.proofs.lemmas.List.{length-append}
use Rattle.r9_files.proofs.pane.pane.Pane.wctl.Goals as goal

pub returns-clause-short : goal.returns-clause-short
returns-clause-short c =
    omega (
      arith,
      ap length c.new-text.ensures,
      c.in_ok-push_number.ensures.short,
      c.in_ok-push_number-2.ensures.short,
      c.in_ok-push_number-3.ensures.short,
      c.in_ok-push_number-4.ensures.short,
      ap length c.in_ok-push_all.ensures.ok,
      length-append c.push_number-4.new.out c.current_word.result.now,
      c.current_word.ensures.short,
      ap length c.in_ok-push_all-2.ensures.ok,
      length-append c.push_all.new.self c.hidden_word.result.now,
      c.hidden_word.ensures.short,
    )
