use Rattle.r9_serve.proofs.mirroring.run.gather_laws.Goals as goal

pub returns : goal.returns
returns c = record {
  display = c.each_history_has_a_display.ensures.display;
  paid = c.another_size_is_paid.ensures;
  sized = c.frames_show_what_they_send.ensures.sized;
  changed = c.frames_show_what_they_send.ensures.changed;
}
