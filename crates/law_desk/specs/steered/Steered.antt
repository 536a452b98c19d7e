-- The writes of a desk's texts, and what they do (rio(4), mouse(3)).
use Rattle.std.specs.Prelude.{◌≡◌, List, [], ◌∷◌, map, false, Ok}
use Rattle.model_files.specs.wire.Message.{R, T}
use Rattle.model_files.specs.declared.wctl.Choice.{Choice}
use Rattle.model_files.specs.declared.wctl.Choice.TheVariants as choice
use Rattle.model_files.specs.wctl.Command as wctl
use Rattle.model_files.specs.declared.mouse.Mouse.{Mouse}
use Rattle.model_rio.specs.rio.Act as act
use Rattle.model_rio.specs.rio.Rio.{rio}
use Rattle.model_rio.specs.rio.Step.{Step}
use Rattle.model_draw.specs.draw.World.{after_connect}
use Rattle.model_draw.specs.draw.Orders.{carried_out}
use Rattle.law_shown.specs.fitting.Fitting.{IsSpelled}
use Rattle.model_client.specs.declared.desk.Act.{Act}
use Rattle.model_client.specs.declared.desk.Act.TheVariants.{Delete, Hide, Move, New, Nothing, Pass, Resize}
use Rattle.model_client.specs.declared.desk.Text.{Text}
use Rattle.model_client.specs.declared.desk.Text.TheVariants.{Mousein, Wctl}
use Rattle.model_client.specs.desk.Table.{Desk, start}
use Rattle.model_client.specs.desk.Asked.{asked}
use Rattle.model_client.specs.desk.Pilot.{after, after_all, pilot, written}
use Rattle.r9_event.specs.declared.event.event.Event.TheVariants.{Begin}
use Rattle.r9_event.specs.declared.event.event.Opening.{Opening}
use Rattle.model_world.specs.Desktop.{Desktop, first_desktop}
use Rattle.model_world.specs.Whole.{client}
use Rattle.model_world.specs.World.{World, display_of, opened}
use Rattle.model_world.specs.Replay.{step}
use Rattle.model_clients.specs.client.Pointing.{point_replies, to_point}
use Rattle.model_clients.specs.client.Saying.{hello, welcome}
use Rattle.law_text.specs.client.Saying.{AreAnswered}
use Rattle.model_clients.specs.piloted.Following.{HasWindows}
use Rattle.law_desk.specs.piloted.Following.{IsDeskIn}
use Rattle.model_clients.specs.piloted.History.{Write, writes, written_all}

-- a text goes to `mousein`, which is fid 1, or to `wctl`, which is fid 2
abbrev pub write_of : Text → Write
write_of (Mousein bytes) = (1, bytes)
write_of (Wctl bytes) = (2, bytes)

abbrev pub messages : List Text → List T
messages texts = map (λ text. writes (write_of text)) texts

abbrev pub replies_to : List Text → List R
replies_to texts = map (λ text. written_all (write_of text)) texts

-- an act of rio's that does what a desk asks
abbrev pub IsActOf : Act → act.Act → Type 0
IsActOf Nothing how = ⊥
IsActOf (Pass raised) how = (e : Mouse) × (how ≡ act.Mouse e)
IsActOf (New r) how = how ≡ act.New 0 (choice.R r ∷ []) false
IsActOf (Resize window r) how = how ≡ act.Command window (wctl.Resize (choice.R r ∷ []))
IsActOf (Move pane by) how = (options : List Choice) × (how ≡ act.Command pane.number (wctl.Move options))
IsActOf (Delete window) how = how ≡ act.Command window wctl.Delete
IsActOf (Hide pane) how = how ≡ act.Command pane.number wctl.Hide

-- An act did what is asked, and was not refused: the windows are those that it left, and the draw device has its orders.
pub record IsTaken (asks : Act) (old new : Desktop) : Type 0 where
  pub how : act.Act
  pub is : IsActOf asks how
  pub spelled : IsSpelled how
  pub step : Step
  pub acted : rio old.table how ≡ Ok step
  pub table : new.table ≡ step.table
  pub device : new.device ≡ carried_out old.device step.orders

-- What a desk asks is done by an act, or it asks nothing.
pub data Takes (asks : Act) (old new : Desktop) : Type 0 where
  rests : asks ≡ Nothing → new ≡ old → Takes asks old new
  takes : IsTaken asks old new → Takes asks old new

-- What a desk writes for an event is answered, each text by the number of its bytes, and the windows are then those of its table, by an
-- act of rio's at most.
pub record IsSteered (d : Desk) (e : Mouse) (world : World) : Type 0 where
  pub left : World
  pub answered : AreAnswered world (messages (written d e)) left (replies_to (written d e))
  pub at : IsDeskIn (after d e) left
  pub taken : Takes (asked d e).act world.desktop left.desktop

-- So it is with all that a desk writes for a list of events.
pub record AreSteered (events : List Mouse) (world : World) : Type 0 where
  pub left : World
  pub answered : AreAnswered world (messages (pilot events)) left (replies_to (pilot events))
  pub at : IsDeskIn (after_all events) left
  pub windows : HasWindows (after_all events) left.desktop.table

-- A client that begins and opens its files is answered without an error, and there is no window then; the draw device has its
-- connection.
pub record IsBegun (opening : Opening) : Type 0 where
  pub left : World
  pub answered : AreAnswered (step (opened opening) (Begin 1)).world (hello ∷ to_point) left (welcome ∷ point_replies)
  pub at : IsDeskIn start left
  pub table : left.desktop.table ≡ (first_desktop (display_of opening)).table
  pub device : left.desktop.device ≡ after_connect (first_desktop (display_of opening)).device (client 1 1)
