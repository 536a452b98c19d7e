-- What is told of the messages of a data write that a session answered.
use Rattle.std.specs.Prelude.{◌≡◌, ℕ, List, Option, Some, None}
use Rattle.model_text.specs.text.Map.{lookup}
use Rattle.model_files.specs.wire.Message.{T, Twrite}
use Rattle.model_files.specs.declared.tree.Kind.TheVariants.{Data}
use Rattle.model_world.specs.Session.{Fid, Session}
use Rattle.r9_files.specs.declared.around.wrote.Told.{Told}
use Rattle.r9_files.specs.around.Words.{AreTold, Tells}

-- a write of the fid, with the mark with which it stands in the history: where the fid stands for a `data` file
abbrev pub IsToldWrite : {S : Type 0} → Tells S → Session → S → (number : ℕ) → List ℕ → (mark : Option ℕ) → (told : Option Told) → Type 0
IsToldWrite tells session rest number bytes mark told =
    (fid : Fid) → lookup session.fids number ≡ Some fid → fid.node.kind ≡ Data → AreTold told (tells fid.node.connection rest bytes mark)

-- the message is such a write
abbrev pub IsToldOf : {S : Type 0} → Tells S → Session → S → (mark : Option ℕ) → (told : Option Told) → T → Type 0
IsToldOf tells session rest mark told (Twrite tag fid offset bytes) = IsToldWrite tells session rest fid bytes mark told
IsToldOf tells session rest mark told m = Unit {0}

-- the bytes of a message spell such a write
abbrev pub IsToldRead : {S : Type 0} → Tells S → Session → S → (mark : Option ℕ) → (told : Option Told) → Option T → Type 0
IsToldRead tells session rest mark told (Some m) = IsToldOf tells session rest mark told m
IsToldRead tells session rest mark told None = Unit {0}
