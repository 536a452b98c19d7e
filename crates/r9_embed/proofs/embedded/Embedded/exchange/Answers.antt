use Rattle.std.proofs.Common.{◌≡◌, Option, Some, None, ap}
use Rattle.std.specs.Prelude.{IfNone}
use Rattle.r9_embed.specs.declared.embedded.Done.{Done}
use Rattle.r9_embed.specs.declared.embedded.Embedded.{Embedded}
use Rattle.r9_embed.proofs.embedded.Embedded.exchange.Goals as goal

-- a display that is as it was has its hall as it was
same_hall : (taken : Option Done) (now old : Embedded) → IfNone taken (now ≡ old) → IfNone taken (now.hall ≡ old.hall)
same_hall None now old same = ap (λ (d : Embedded). d.hall) same
same_hall (Some done) now old same = tt

pub returns-clause-done : goal.returns-clause-done
returns-clause-done c = record {
  between = c.message.new.self.hall;
  heard = c.in_ok-heard.ensures.done;
  taken = c.take_behind-taken.ensures.taken;
  went = c.take_behind-taken.ensures.went;
  untaken = same_hall c.take_behind-taken.result c.take_behind-taken.new.self c.message.new.self c.take_behind-taken.ensures.untaken;
  none = c.take_behind-taken.ensures.none;
}
