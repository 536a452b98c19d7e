-- The text of an input is shown, or the input is told to be bad.
use Rattle.std.proofs.Common.{◌≡◌, ◌∙◌, ℕ, List, Option, Some, Result, Ok, Err, sym, ap, subst, Bor}
use Rattle.std.specs.Prelude.{IfOk, IfSome}
use Rattle.r9_outside.specs.input.Taken.{HasRead}
use Rattle.r9_outside.proofs.input.Taking.{whole_text}
use Rattle.r9_clients.specs.textfile.Input.{input_of, limit}
use Rattle.r9_clients.proofs.textfile.Sizes.{input_is}
use Rattle.r9_clients.specs.typing.Record.{IsTextRecord}
use Rattle.r9_opts.specs.declared.job.Job.{Job}
use Rattle.r9_opts.specs.declared.job.Job.TheVariants.{Replay, Mirror, Serve, Alone, Text, Desk, Gen}
use Rattle.r9_serve.specs.serve.Run.{Ask, AskForText, IsFirstOutput, WasTextShown}
use Rattle.r9_serve.proofs.serve.Asking.{desk_not_text, text_not_gen, text_not_record, text_not_serve}
use Rattle.r9_serve.proofs.serve.Refusing.{not_bad}

-- bytes that are an input are all that was left
pub text_shown : {E : Type 0} (columns rows : ℕ) (left : Option (List ℕ)) (read seen : List ℕ) (after : Option (List ℕ)) (made : Result (List ℕ) E) → HasRead limit left read after → seen ≡ read
    → IfOk made (λ lines. IsTextRecord columns rows seen lines) → IfOk made (λ lines. WasTextShown columns rows left lines)
text_shown columns rows left read seen after (Ok lines) has same shown =
    let has_seen = subst (λ (bytes : List ℕ). HasRead limit left bytes after) (sym same) has in
    record { bytes = seen; told = whole_text limit left seen after has_seen (input_is seen shown.input shown.read).0; shown = shown }
text_shown columns rows left read seen after (Err fault) has same shown = tt

-- an input that is none gave no output, and no other job was asked for
pub had_no_text : (words : List (Bor (List ℕ))) (job : Job) (left : Option (List ℕ)) (bytes lines : List ℕ) (place : ℕ) → left ≡ Some bytes → input_of bytes ≡ Err place → AskForText words
    → Ask words job → IsFirstOutput job left lines → ⊥
had_no_text words (Text columns rows) left bytes lines place told is shows ask out =
    let same : bytes ≡ out.bytes = subst (λ (l : Option (List ℕ)). IfSome l (λ all. all ≡ out.bytes)) told out.told in
    not_bad input_of bytes out.shown.input place (ap input_of same ∙ out.shown.read) is
had_no_text words (Replay opening screen) left bytes lines place told is shows ask out = text_not_record words shows (Replay opening screen, ask, tt)
had_no_text words (Mirror opening) left bytes lines place told is shows ask out = text_not_record words shows (Mirror opening, ask, tt)
had_no_text words (Gen number) left bytes lines place told is shows ask out = text_not_gen words number shows ask
had_no_text words (Serve opening listen workers conns) left bytes lines place told is shows ask out = text_not_serve words shows (Serve opening listen workers conns, ask, tt)
had_no_text words Desk left bytes lines place told is shows ask out = desk_not_text words (Desk, ask, tt) shows
had_no_text words (Alone opening session) left bytes lines place told is shows ask out = text_not_record words shows (Alone opening session, ask, tt)
