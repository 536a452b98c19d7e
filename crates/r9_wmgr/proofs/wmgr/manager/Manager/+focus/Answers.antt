use Rattle.std.proofs.Common.{◌∙◌, sym}
use Rattle.r9_wmgr.proofs.wmgr.Levels.{focus-zero, focus-none, focus-host, focus-window}
use Rattle.r9_wmgr.proofs.wmgr.manager.Manager.+focus.Goals as goal

pub returns-then-levels-eq0 : goal.returns-then-levels-eq0
returns-then-levels-eq0 t c = sym (focus-zero _ _ _ c.if-levels-eq0.true)

pub returns-in_err-serial : goal.returns-in_err-serial
returns-in_err-serial t c = c.from_residual.ensures ∙ sym (focus-none _ _ _ (sym c.current_of.ensures ∙ c.in_err-serial.was))

pub returns-then-is_host : goal.returns-then-is_host
returns-then-is_host t c = c.focus.ensures ∙ sym (focus-host _ _ _ _ c.if-levels-eq0.false (sym c.current_of.ensures ∙ c.in_ok-serial.was) (sym c.if-is_host.ensures))

pub returns-else-is_host : goal.returns-else-is_host
returns-else-is_host t c = sym (focus-window _ _ _ _ c.if-levels-eq0.false (sym c.current_of.ensures ∙ c.in_ok-serial.was) (sym c.if-is_host.ensures))
