use Rattle.std.proofs.Common.{◌∙◌, ℕ, ap, sym, subst}
use Rattle.r9_desktop.specs.declared.spending.Spending.{Spending}
use Rattle.r9_desktop.specs.Marks.{display_in, IsMarked}
use Rattle.r9_desktop.specs.World.{began_of, display_of}
use Rattle.r9_desktop.proofs.Marks.{turn_marks}
use Rattle.r9_desktop.proofs.desktop.Desktop.take_turn.Goals as goal

pub returns-clause-marks : goal.returns-clause-marks
unfolding began_of display_of
returns-clause-marks c nowhere =
    let desktop = c.args.self.now in
    let then = desktop.spending.began.value in
    subst (λ (n : ℕ). IsMarked (display_in then) (display_in desktop.device) n) (sym (c.pixels.ensures.value ∙ ap (λ (s : Spending). s.pixels) c.replace-spending.ensures.value))
    (turn_marks then desktop.device desktop.spending.pixels desktop.begun desktop.counted c.since.ensures.since c.since.ensures.few c.since.ensures.most nowhere)
