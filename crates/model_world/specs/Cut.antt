-- A data write that stops before its end, for want of memory.
use Rattle.std.specs.Prelude.{◌≡◌, ◌⊎◌, ℕ, true, List, Option, Some}
use Rattle.r9_event.specs.declared.event.event.Event.{Event}
use Rattle.r9_event.specs.declared.event.event.Event.TheVariants.{Msg}
use Rattle.model_text.specs.text.Map.{lookup}
use Rattle.model_files.specs.wire.Message.{T, Twrite}
use Rattle.model_files.specs.wire.Reading.{message_of}
use Rattle.model_files.specs.declared.tree.Kind.TheVariants.{Data}
use Rattle.model_files.specs.tree.Node.{writes}
use Rattle.model_draw.specs.draw.Act.{no_memory}
use Rattle.model_draw.specs.draw.Memory.{MayRunOut}
use Rattle.model_world.specs.Session.{Fid, Session}
use Rattle.model_world.specs.Fids.{is_kind}
use Rattle.model_world.specs.Reading.{is_open_for}
use Rattle.model_world.specs.Answer.{answer}
use Rattle.model_world.specs.Refusal.{IsRefused}
use Rattle.model_world.specs.Outside.{Outside}
use Rattle.model_world.specs.Desktop.{Desktop}
use Rattle.model_world.specs.Whole.{client, desktop_for}
use Rattle.model_world.specs.World.{World}

-- Where a data write of a connection may want memory: in the message behind so many of those that its bytes spell.
abbrev pub Wants : Type 0 → Type 1
Wants S = (connection : ℕ) → S → List ℕ → ℕ → Type 0

-- A write of an open `data` file may stop after k of its draw messages: its mark says so, or the message behind them may want
-- memory.
pub record IsCutWrite {S : Type 0} (wants : Wants S) (session : Session) (rest : S) (number : ℕ) (bytes : List ℕ) (mark : Option ℕ) (k : ℕ) : Type 0 where
  pub fid : Fid
  pub bound : lookup session.fids number ≡ Some fid
  pub opened : is_open_for writes fid ≡ true
  pub is_data : is_kind Data fid.node.kind ≡ true
  pub cause : (mark ≡ Some k) ⊎ wants fid.node.connection rest bytes k

-- the message is such a write
abbrev pub IsCut : {S : Type 0} → Wants S → Session → S → (mark : Option ℕ) → (k : ℕ) → T → Type 0
IsCut wants session rest mark k (Twrite tag fid offset bytes) = IsCutWrite wants session rest fid bytes mark k
IsCut wants session rest mark k _ = ⊥

-- the bytes of a message spell such a write
pub record IsCutSpelled {S : Type 0} (wants : Wants S) (session : Session) (rest : S) (bytes : List ℕ) (mark : Option ℕ) (k : ℕ) : Type 0 where
  pub m : T
  pub spelled : message_of bytes ≡ Some m
  pub cut : IsCut wants session rest mark k m

-- and with the mark k the reply to it is the refusal of want of memory
pub record IsCutMessage {S : Type 0} (outside : Outside S) (wants : Wants S) (session : Session) (rest : S) (bytes : List ℕ) (mark : Option ℕ) (k : ℕ) : Type 0 where
  pub spells : IsCutSpelled wants session rest bytes mark k
  pub refused : IsRefused no_memory (answer outside session rest bytes (Some k)).reply

-- ---- of a whole server

abbrev pub wants_for : (session : ℕ) → Wants Desktop
wants_for session = λ connection desktop bytes k. MayRunOut (client session connection) desktop.device bytes k

-- the event is such a message to a session that lives
pub record IsCutServed (world : World) (c : ℕ) (bytes : List ℕ) (mark : Option ℕ) (k : ℕ) : Type 0 where
  pub session : Session
  pub lives : lookup world.sessions c ≡ Some session
  pub cut : IsCutMessage (desktop_for c) (wants_for c) session world.desktop bytes mark k

abbrev pub IsCutEvent : World → Event → ℕ → Type 0
IsCutEvent world (Msg c bytes mark) k = IsCutServed world c bytes mark k
IsCutEvent world event k = ⊥

-- The event, with the mark with which it stands in a history, is a message to a session that lives, and the reply to it is the
-- refusal of want of memory.
pub record IsWantingServed (world : World) (c : ℕ) (bytes : List ℕ) (mark : Option ℕ) : Type 0 where
  pub session : Session
  pub lives : lookup world.sessions c ≡ Some session
  pub refused : IsRefused no_memory (answer (desktop_for c) session world.desktop bytes mark).reply

abbrev pub IsWantingEvent : World → Event → Type 0
IsWantingEvent world (Msg c bytes mark) = IsWantingServed world c bytes mark
IsWantingEvent world event = ⊥
