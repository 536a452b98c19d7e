use Rattle.std.proofs.Common.{refl}
use Rattle.law_shown.proofs.lasting.Messages.{leave_still, written_still}
use Rattle.law_shown.proofs.lasting.connections_leave_windows_and_rios.Goals as goal

pub returns : goal.returns
returns c = record {
  orderly = λ k device bytes mark other orderly. (written_still k device bytes mark other orderly).orderly;
  windows = λ k device bytes mark window r other orderly shows. (written_still k device bytes mark other orderly).windows window r refl shows;
  rios = λ k device bytes mark host other orderly shows. (written_still k device bytes mark other orderly).rios host refl shows;
  left = λ k device other orderly. (leave_still device k other orderly).orderly;
  left_windows = λ k device window r other orderly shows. (leave_still device k other orderly).windows window r refl shows;
  left_rios = λ k device host other orderly shows. (leave_still device k other orderly).rios host refl shows;
}
