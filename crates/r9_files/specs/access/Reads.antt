-- What a read of an open file promises.
use Rattle.std.specs.Prelude.{◌≡◌, ℕ, Bool, true, List, Option, Some, None, Result, Ok, Err}
use Rattle.model_text.specs.text.Outcome.{Outcome}
use Rattle.model_draw.specs.imgfile.ImageFile.{file_part}
use Rattle.model_files.specs.console.Console as console
use Rattle.model_rio.specs.window.Heard.{winid_text}
use Rattle.model_files.specs.declared.tree.Kind.{Kind}
use Rattle.model_files.specs.declared.tree.Kind.TheVariants as kind
use Rattle.model_files.specs.tree.Node.{Node}
use Rattle.model_files.specs.tree.Tree.{is_of_connection}
use Rattle.model_world.specs.Session.{Fid}
use Rattle.model_world.specs.Outside.{Outside}
use Rattle.model_world.specs.Reading.{Given, given_by, at_offset, ctl_read, mouse_len, size_text, wctl_len}
use Rattle.r9_memory.specs.declared.Memory.{Memory}
use Rattle.r9_files.specs.declared.files.fault.Fault.{Fault}
use Rattle.r9_files.specs.declared.files.fault.Fault.TheVariants as fault

-- the connection that a file belongs to, where it belongs to one, lives outside
abbrev pub HasClient : {S : Type 0} → (has : (connection : ℕ) → S → Bool) → Node → S → Type 0
HasClient has node rest = is_of_connection node.kind ≡ true → has node.connection rest ≡ true

-- What is given is what is defined, with what the fid keeps and what is left outside. Where the read waits, and where it is
-- refused, fid and outside are as before. Nothing is said where memory ran out.
abbrev pub IsFileRead : {S : Type 0} → (old : Fid) (before : S) (found : Result (Option (List ℕ)) Fault) (new : Fid) (after : S) → Outcome (Option (Given S)) → Type 0
IsFileRead old before (Ok (Some bytes)) new after defined = defined ≡ Ok (Some (given_by new after bytes))
IsFileRead old before (Ok None) new after defined = (defined ≡ Ok None) × (new ≡ old) × (after ≡ before)
IsFileRead old before (Err (fault.Refused n)) new after defined = (defined ≡ Err n) × (new ≡ old) × (after ≡ before)
IsFileRead old before (Err fault.Memory) new after defined = Unit {0}

-- the same of what a file gives now that may have nothing to give
abbrev pub IsGivenNow : {S : Type 0} → (old : Fid) (before : S) (found : Result (Option (List ℕ)) Memory) (new : Fid) (after : S) → Option (Given S) → Type 0
IsGivenNow old before (Ok (Some bytes)) new after defined = defined ≡ Some (given_by new after bytes)
IsGivenNow old before (Ok None) new after defined = (defined ≡ None) × (new ≡ old) × (after ≡ before)
IsGivenNow old before (Err _) new after defined = Unit {0}

-- what a file gives where a read changes nothing
abbrev pub IsTold : (found : Result (List ℕ) Fault) → Outcome (List ℕ) → Type 0
IsTold (Ok bytes) defined = defined ≡ Ok bytes
IsTold (Err (fault.Refused n)) defined = defined ≡ Err n
IsTold (Err fault.Memory) defined = Unit {0}

-- what a read gives of a file that it leaves as it is; None of a file that a read may change, or where it may wait
abbrev pub told_of : {S : Type 0} → Outside S → S → Node → (offset count : ℕ) → Kind → Option (Outcome (List ℕ))
told_of outside rest node offset count kind.Ctl = Some (ctl_read outside rest node offset count)
told_of outside rest node offset count kind.Screen = Some (Ok (file_part (outside.picture rest node.serial) offset count))
told_of outside rest node offset count kind.Snarf = Some (Ok (at_offset (outside.snarf rest node.serial) offset count))
told_of outside rest node offset count kind.Hwsize = Some (Ok (at_offset (size_text (outside.size rest)) offset count))
told_of outside rest node offset count kind.Label = Some (Ok (at_offset (outside.pane rest node.serial).label offset count))
told_of outside rest node offset count kind.Text = Some (Ok (at_offset (console.text (outside.pane rest node.serial).console) offset count))
told_of outside rest node offset count kind.Winid = Some (Ok (at_offset (winid_text (outside.pane rest node.serial).known) offset count))
told_of outside rest node offset count kind.Winname = Some (Ok (at_offset (outside.pane rest node.serial).known.name offset count))
told_of outside rest node offset count kind.Picture = Some (Ok (file_part (outside.picture rest node.serial) offset count))
told_of outside rest node offset count _ = None

abbrev pub IsToldOf : (found : Option (Result (List ℕ) Fault)) → Option (Outcome (List ℕ)) → Type 0
IsToldOf (Some read) (Some defined) = IsTold read defined
IsToldOf None None = Unit {0}
IsToldOf _ _ = ⊥

-- so many bytes at least have to be asked for of what may wait
abbrev pub least_of : Kind → ℕ
least_of kind.Mouse = mouse_len
least_of kind.Wctl = wctl_len
least_of _ = 0
