-- What a session's answer to a message promises.
use Rattle.std.specs.Prelude.{◌≡◌, ◌⊎◌, ◌==◌, ◌&&◌, not, ℕ, Bool, true, false, Option, Some, Result, Ok, Err, None, IfSome, option_map}
use Rattle.model_text.specs.text.Map.{lookup}
use Rattle.model_text.specs.text.Outcome.{Outcome}
use Rattle.model_files.specs.wire.Message.{R, T, Tread, Twrite, no_tag, tag_of_t}
use Rattle.model_files.specs.wire.Spelling.{FitsR}
use Rattle.model_world.specs.Session.{Session}
use Rattle.model_world.specs.Answer.{Taking, Ignored, TooLong, Closes, Reads, is_version}
use Rattle.model_world.specs.Waiting.{waits_for}
use Rattle.model_world.specs.Fids.{Done, Left, is_bound, is_full}
use Rattle.r9_wire.specs.declared.message.Rmsg.{Rmsg}
use Rattle.r9_wire.specs.View.{r_of}
use Rattle.r9_files.specs.declared.files.fault.Fault.{Fault}
use Rattle.r9_files.specs.declared.files.fault.Fault.TheVariants as fault
use Rattle.r9_files.specs.around.Words.{mark_after}
use Rattle.r9_session.specs.declared.taking.Taking.{Taking as CodeTaking}
use Rattle.r9_session.specs.declared.taking.Taking.TheVariants as taking
use Rattle.r9_session.specs.declared.writing.Answered.{Answered}

-- What is answered is what is defined: the session after it and a reply that can be written, or a refusal, which leaves
-- the session as it was. Nothing is said where memory ran out.
abbrev pub IsAnswer : (old : Session) (found : Result Rmsg Fault) (new : Session) → Outcome Done → Type 0
IsAnswer old (Ok reply) new defined = (defined ≡ Ok (record { session = new; reply = r_of reply })) × FitsR (r_of reply)
IsAnswer old (Err (fault.Refused n)) new defined = (defined ≡ Err n) × (new ≡ old)
IsAnswer old (Err fault.Memory) new defined = Unit {0}

-- the same of a message that reaches what is outside
abbrev pub IsReach : {S : Type 0} → (old : Session) (before : S) (found : Result Rmsg Fault) (new : Session) (after : S) → Outcome (Left S) → Type 0
IsReach old before (Ok reply) new after defined = (defined ≡ Ok (record { session = new; rest = after; reply = Some (r_of reply) })) × FitsR (r_of reply)
IsReach old before (Err (fault.Refused n)) new after defined = (defined ≡ Err n) × (new ≡ old) × (after ≡ before)
IsReach old before (Err fault.Memory) new after defined = Unit {0}

-- the same of one whose reply is known where it is not refused
abbrev pub IsDone : {S : Type 0} → (old : Session) (before : S) (reply : R) (found : Result (Unit {0}) Fault) (new : Session) (after : S) → Outcome (Left S) → Type 0
IsDone old before reply (Ok _) new after defined = defined ≡ Ok (record { session = new; rest = after; reply = Some reply })
IsDone old before reply (Err (fault.Refused n)) new after defined = (defined ≡ Err n) × (new ≡ old) × (after ≡ before)
IsDone old before reply (Err fault.Memory) new after defined = Unit {0}

-- the same of a read, which may have no reply yet
abbrev pub IsReadEnd : {S : Type 0} → (old : Session) (before : S) (found : Result (Option Rmsg) Fault) (new : Session) (after : S) → Outcome (Left S) → Type 0
IsReadEnd old before (Ok reply) new after defined = (defined ≡ Ok (record { session = new; rest = after; reply = option_map r_of reply })) × IfSome reply (λ reply. FitsR (r_of reply))
IsReadEnd old before (Err (fault.Refused n)) new after defined = (defined ≡ Err n) × (new ≡ old) × (after ≡ before)
IsReadEnd old before (Err fault.Memory) new after defined = Unit {0}

-- the same of one that may be a data write: what is defined has the mark with which it stands in the history
abbrev pub IsReply : {S : Type 0} → (mark : Option ℕ) (old : Session) (before : S) (found : Result Answered Fault) (new : Session) (after : S)
    → (Option ℕ → Outcome (Left S)) → Type 0
IsReply mark old before (Ok a) new after defined = (defined (mark_after mark a.short) ≡ Ok (record { session = new; rest = after; reply = option_map r_of a.reply })) × IfSome a.reply (λ reply. FitsR (r_of reply))
IsReply mark old before (Err (fault.Refused n)) new after defined = (defined mark ≡ Err n) × (new ≡ old) × (after ≡ before)
IsReply mark old before (Err fault.Memory) new after defined = Unit {0}

-- a fid can be bound: it is free and there is room for it, or the refusal tells why not
abbrev pub IsFree : Session → (fid : ℕ) → Result (Unit {0}) Fault → Type 0
IsFree session fid (Ok _) = (is_bound session fid ≡ false) × (is_full session ≡ false)
IsFree session fid (Err (fault.Refused n)) = ((is_bound session fid ≡ true) × (n ≡ 33)) ⊎ ((is_bound session fid ≡ false) × (is_full session ≡ true) × (n ≡ 44))
IsFree session fid (Err fault.Memory) = ⊥

-- whether a message lacks its tag, and whether it lacks a version
abbrev pub lacks_tag : T → Bool
lacks_tag m = not (is_version m) && (tag_of_t m == no_tag)

abbrev pub lacks_version : Session → T → Bool
lacks_version session m = not (is_version m) && not session.agreed

-- a message lacks neither, or the refusal tells what it lacks
abbrev pub IsBegun : Session → T → Result (Unit {0}) Fault → Type 0
IsBegun session m (Ok _) = (lacks_tag m ≡ false) × (lacks_version session m ≡ false)
IsBegun session m (Err (fault.Refused n)) = ((lacks_tag m ≡ true) × (n ≡ 30)) ⊎ ((lacks_tag m ≡ false) × (lacks_version session m ≡ true) × (n ≡ 31))
IsBegun session m (Err fault.Memory) = ⊥

-- a message reads an open file, or writes it
abbrev pub uses_file : T → Bool
uses_file (Tread tag fid offset count) = true
uses_file (Twrite tag fid offset bytes) = true
uses_file _ = false

-- where it reads, no read waits that has its tag
abbrev pub IsNewTag : Session → T → Type 0
IsNewTag session (Tread tag fid offset count) = waits_for session tag ≡ false
IsNewTag session _ = Unit {0}

-- how the code takes the bytes of a message
abbrev pub taking_of : CodeTaking → Taking
taking_of taking.Ignored = Ignored
taking_of taking.TooLong = TooLong
taking_of taking.Closes = Closes
taking_of taking.Reads = Reads

-- the fid is bound to a file and is not open
abbrev pub IsClosed : Session → (fid : ℕ) → Type 0
IsClosed session fid = option_map (λ found. found.mode) (lookup session.fids fid) ≡ Some None
