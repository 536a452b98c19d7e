-- What a write of a fid promises.
use Rattle.std.specs.Prelude.{◌≡◌, ℕ, not, List, Option, None, Result, Ok, Err}
use Rattle.model_text.specs.text.Outcome.{Outcome, ◌>>=◌, refuse_if, value_or_refuse}
use Rattle.model_history.specs.words.Values.{sides_of}
use Rattle.model_files.specs.mouse.Pointer.{pointer_of}
use Rattle.model_world.specs.Outside.{Outside}
use Rattle.model_world.specs.Writing.{are_keys, line_of, raw_asked, snarf_written, with_raw_asked}
use Rattle.r9_files.specs.around.Words.{mark_after}
use Rattle.r9_files.specs.declared.files.fault.Fault.{Fault}
use Rattle.r9_files.specs.declared.files.fault.Fault.TheVariants as fault
use Rattle.r9_files.specs.declared.around.wrote.Wrote.{Wrote}

-- what a write leaves outside, and the refusal of one that may leave something all the same
abbrev pub left_with : {S : Type 0} → S → Option ℕ → S × Option ℕ
left_with after refusal = (after, refusal)

-- what is left is what is defined, with the mark with which the write stands in the history
abbrev pub IsWritten : {S : Type 0} → (mark : Option ℕ) (before : S) (found : Result Wrote Fault) (after : S) → (Option ℕ → Outcome (S × Option ℕ)) → Type 0
IsWritten mark before (Ok w) after defined = defined (mark_after mark w.short) ≡ Ok (left_with after w.refusal)
IsWritten mark before (Err (fault.Refused n)) after defined = (defined mark ≡ Err n) × (after ≡ before)
IsWritten mark before (Err fault.Memory) after defined = Unit {0}

-- the same of what leaves nothing where it is refused
abbrev pub IsDone : {S : Type 0} → (before : S) (found : Result (Unit {0}) Fault) (after : S) → Outcome S → Type 0
IsDone before (Ok _) after defined = defined ≡ Ok after
IsDone before (Err (fault.Refused n)) after defined = (defined ≡ Err n) × (after ≡ before)
IsDone before (Err fault.Memory) after defined = Unit {0}

-- a write that left nothing undone
abbrev pub whole_of : (found : Result (Unit {0}) Fault) → Result Wrote Fault
whole_of (Ok _) = Ok (record { refusal = None; short = None; told = None })
whole_of (Err f) = Err f

-- what a write of the snarf of a rio leaves
abbrev pub snarf_left : {S : Type 0} → Outside S → S → (host offset : ℕ) → List ℕ → Outcome S
snarf_left outside rest host offset bytes =
    snarf_written (outside.snarf rest host) offset bytes >>= λ new. Ok (outside.with_snarf rest host new)

-- what a text that tells an event of the mouse leaves
abbrev pub mouse_left : {S : Type 0} → Outside S → S → List ℕ → Outcome S
mouse_left outside rest bytes = value_or_refuse (pointer_of bytes) 51 >>= λ e. Ok (outside.mouse rest e)

-- what characters that are typed leave
abbrev pub keys_left : {S : Type 0} → Outside S → S → List ℕ → Outcome S
keys_left outside rest bytes = refuse_if (not (are_keys bytes)) 51 >>= λ _. Ok (outside.keys rest bytes)

-- what a text that spells a size of the display leaves
abbrev pub size_left : {S : Type 0} → Outside S → S → List ℕ → Outcome S
size_left outside rest bytes = value_or_refuse (sides_of (line_of bytes)) 51 >>= λ size. outside.with_size rest size

-- what a write to `consctl` leaves
abbrev pub raw_left : {S : Type 0} → Outside S → S → (window : ℕ) → List ℕ → Outcome S
raw_left outside rest window bytes = raw_asked (line_of bytes) >>= λ asked. Ok (with_raw_asked outside rest window asked)
