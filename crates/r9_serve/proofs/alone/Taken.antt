-- What a text that was read tells of the input.
use Rattle.std.proofs.Common.{◌≡◌, ℕ, List, Option}
use Rattle.r9_event.specs.declared.event.event.Opening.{Opening}
use Rattle.r9_event.specs.declared.event.event.Reply.{Reply}
use Rattle.model_history.specs.records.Record.{text_limit}
use Rattle.r9_outside.specs.input.Taken.{HasRead}
use Rattle.r9_serve.proofs.replay.Taking.{had_record}
use Rattle.r9_serve.specs.alone.Answers.{AreLoneReplies, WasNotAlone}
use Rattle.r9_serve.specs.alone.Texts.{AreLoneRepliesTo, IsNotAloneIn}

pub were_lone_replies : (opening : Opening) (c : ℕ) (left : Option (List ℕ)) (text shown : List ℕ) (after : Option (List ℕ)) (given : List Reply) → HasRead text_limit left text after → shown ≡ text
    → AreLoneRepliesTo opening c shown given → AreLoneReplies opening c left given
were_lone_replies opening c left text shown after given read is are = record {
  events = are.events;
  had = had_record left text shown after are.events read is are.is_record are.one;
  alone = are.alone;
  are_lone = are.are_lone;
  are_its = are.are_its;
}

pub was_not_alone : (opening : Opening) (c : ℕ) (left : Option (List ℕ)) (text shown : List ℕ) (after : Option (List ℕ)) (entry reason : ℕ) → HasRead text_limit left text after → shown ≡ text
    → IsNotAloneIn opening c shown entry reason → WasNotAlone opening c left entry reason
was_not_alone opening c left text shown after entry reason read is not_alone = record {
  events = not_alone.events;
  had = had_record left text shown after not_alone.events read is not_alone.is_record not_alone.one;
  is = not_alone.is;
}
