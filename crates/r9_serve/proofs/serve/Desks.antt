-- The events of an input are followed, or the input is told to be bad.
use Rattle.std.proofs.Common.{◌≡◌, ◌∙◌, ◌≤◌, ◌<◌, ℕ, List, length, Option, Some, Result, Ok, Err, sym, ap, subst, Bor, ⊎_elim}
use Rattle.std.specs.Prelude.{IfOk, IfSome}
use Rattle.std.proofs.lemmas.Bool.{cases_lt}
use Rattle.model_files.specs.declared.mouse.Mouse.{Mouse}
use Rattle.r9_outside.specs.input.Taken.{HasRead}
use Rattle.r9_outside.proofs.input.Taking.{whole_text}
use Rattle.r9_clients.specs.deskfile.Events.{events_of, limit}
use Rattle.r9_clients.proofs.deskfile.Limit.{too_long}
use Rattle.r9_clients.specs.pointing.Record.{IsDeskRecord}
use Rattle.r9_opts.specs.declared.job.Job.{Job}
use Rattle.r9_opts.specs.declared.job.Job.TheVariants.{Replay, Mirror, Serve, Alone, Text, Desk, Gen}
use Rattle.r9_serve.specs.serve.Run.{Ask, AskForDesk, IsFirstOutput, WasPiloted}
use Rattle.r9_serve.proofs.serve.Asking.{desk_not_gen, desk_not_record, desk_not_serve, desk_not_text}
use Rattle.r9_serve.proofs.serve.Refusing.{not_bad}

-- events are shorter than the limit
short : (bytes : List ℕ) (events : List Mouse) → events_of bytes ≡ Ok events → length bytes < limit
short bytes events is = ⊎_elim (λ (less : length bytes < limit). less) (λ (long : limit ≤ length bytes). not_bad events_of bytes events limit is (too_long bytes long)) (cases_lt (length bytes) limit)

-- bytes that are events are all that was left
pub piloted : {E : Type 0} (left : Option (List ℕ)) (read seen : List ℕ) (after : Option (List ℕ)) (made : Result (List ℕ) E) → HasRead limit left read after → seen ≡ read
    → IfOk made (λ lines. IsDeskRecord seen lines) → IfOk made (λ lines. WasPiloted left lines)
piloted left read seen after (Ok lines) has same is =
    let has_seen = subst (λ (bytes : List ℕ). HasRead limit left bytes after) (sym same) has in
    record { bytes = seen; told = whole_text limit left seen after has_seen (short seen is.events is.read); piloted = is }
piloted left read seen after (Err fault) has same is = tt

-- an input that is none gave no output, and no other job was asked for
pub had_no_events : (words : List (Bor (List ℕ))) (job : Job) (left : Option (List ℕ)) (bytes lines : List ℕ) (place : ℕ) → left ≡ Some bytes → events_of bytes ≡ Err place → AskForDesk words
    → Ask words job → IsFirstOutput job left lines → ⊥
had_no_events words Desk left bytes lines place told is points ask out =
    let same : bytes ≡ out.bytes = subst (λ (l : Option (List ℕ)). IfSome l (λ all. all ≡ out.bytes)) told out.told in
    not_bad events_of bytes out.piloted.events place (ap events_of same ∙ out.piloted.read) is
had_no_events words (Text columns rows) left bytes lines place told is points ask out = desk_not_text words points (Text columns rows, ask, tt)
had_no_events words (Replay opening screen) left bytes lines place told is points ask out = desk_not_record words points (Replay opening screen, ask, tt)
had_no_events words (Mirror opening) left bytes lines place told is points ask out = desk_not_record words points (Mirror opening, ask, tt)
had_no_events words (Gen number) left bytes lines place told is points ask out = desk_not_gen words number points ask
had_no_events words (Serve opening listen workers conns) left bytes lines place told is points ask out = desk_not_serve words points (Serve opening listen workers conns, ask, tt)
had_no_events words (Alone opening session) left bytes lines place told is points ask out = desk_not_record words points (Alone opening session, ask, tt)
