use Rattle.std.proofs.Common.{sym, ap, ◌∙◌}
use Rattle.model_text.proofs.map.Keys.{without_at}
use Rattle.r9_event.specs.declared.event.rio.Note.{Note}
use Rattle.model_world.specs.Desktop.{panes_told}
use Rattle.r9_desktop.proofs.telling.tell_pane.Goals as goal

pub returns-in-Deleted : goal.returns-in-Deleted
returns-in-Deleted c =
    let before = c.args.panes.now.entries in
    c.remove.ensures.entries ∙ without_at before c.args.window ∙ ap (λ (note : Note). panes_told before (c.args.window, note)) (sym c.in-Deleted.is)
