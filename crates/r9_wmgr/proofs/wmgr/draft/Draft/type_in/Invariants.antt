use Rattle.std.proofs.Common.{◌≡◌, map}
use Rattle.std.specs.List.{fold}
use Rattle.std.specs.Char.{encode_utf8}
use Rattle.model_rio.specs.rio.Step.{noted}
use Rattle.r9_event.specs.declared.event.rio.Note.TheVariants as note
use Rattle.r9_wmgr.proofs.wmgr.draft.Draft.type_in.Given as goal

abbrev pub invariant-loop-c : goal.invariant-loop-c
invariant-loop-c l = l.self ≡ fold (λ step key. noted l.serial (note.Key key) step) l.initial.self (map encode_utf8 l.yielded)
