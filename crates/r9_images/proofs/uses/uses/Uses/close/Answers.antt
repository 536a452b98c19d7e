use Rattle.std.proofs.Common.{sym, ◌∙◌}
use Rattle.r9_images.proofs.uses.Parts.{le-trans}
use Rattle.r9_images.proofs.uses.uses.Uses.close.Goals as goal

pub returns-in_err-screen-clause-screen : goal.returns-in_err-screen-clause-screen
returns-in_err-screen-clause-screen c = c.from_residual.ensures ∙ sym c.in_err-screen.was ∙ c.take_window.ensures.screen

pub returns-in_err-screen-clause-closed : goal.returns-in_err-screen-clause-closed
returns-in_err-screen-clause-closed c = c.take_window.ensures.none c.in_err-screen.was

pub returns-clause-screen : goal.returns-clause-screen
returns-clause-screen c = sym c.in_ok-screen.was ∙ c.take_window.ensures.screen

pub returns-clause-closed : goal.returns-clause-closed
returns-clause-closed c = c.take_windows.ensures.closed ∙ c.take_window.ensures.others

pub returns-clause-known : goal.returns-clause-known
returns-clause-known c = λ q known. c.take_windows.ensures.known q (c.take_window.ensures.known q known)

pub returns-clause-room : goal.returns-clause-room
returns-clause-room c = le-trans _ _ _ c.take_window.ensures.room c.take_windows.ensures.room

pub returns-clause-more : goal.returns-clause-more
returns-clause-more c = le-trans _ _ _ c.take_window.ensures.more c.take_windows.ensures.more
