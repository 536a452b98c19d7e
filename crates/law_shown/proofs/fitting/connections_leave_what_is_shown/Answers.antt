use Rattle.model_draw.specs.draw.World.{after_connect, after_leave}
use Rattle.model_draw.specs.draw.Act.{written}
use Rattle.law_shown.proofs.lasting.Messages.{connect_still, leave_still, written_still}
use Rattle.law_shown.proofs.fitting.Stepping.{shows_follow}
use Rattle.law_shown.proofs.fitting.connections_leave_what_is_shown.Goals as goal

pub returns : goal.returns
returns c = record {
  write = λ k device table bytes mark other orderly shows. shows_follow device (written k device bytes mark).world table (written_still k device bytes mark other orderly) shows;
  begin = λ k device table orderly shows. shows_follow device (after_connect device k) table (connect_still device k orderly) shows;
  end = λ k device table other orderly shows. shows_follow device (after_leave device k) table (leave_still device k other orderly) shows;
}
