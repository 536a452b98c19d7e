-- What sessions answer leaves the draw device of such a place with their connections, and refuses nothing for want of memory but by the
-- reply to a write.
use Rattle.std.proofs.Common.{◌≡◌, ℕ, Bool, true, false, List, [], Option, Some, None, Ok, Err, refl, subst, arith}
use Rattle.std.specs.Prelude.{if◌then◌else◌}
use Rattle.model_text.specs.text.Outcome.{Outcome, ◌>>=◌, value_or_refuse}
use Rattle.model_files.specs.wire.Message.{T, Twrite}
use Rattle.model_files.specs.wctl.Command.{Wctl}
use Rattle.model_files.specs.wctl.Command as wctl
use Rattle.model_files.specs.wctl.Reading.{command_of}
use Rattle.model_files.specs.wctl.Rectangle.{applied}
use Rattle.model_files.specs.tree.Attach.{Attach, Whole, Existing, Fresh, Unknown}
use Rattle.model_draw.specs.draw.World as draw
use Rattle.model_draw.specs.draw.Act.{no_memory}
use Rattle.model_draw.specs.draw.Files.{read_data, write_ctl}
use Rattle.model_rio.specs.window.Heard.{Heard}
use Rattle.model_world.specs.Session.{Session}
use Rattle.model_world.specs.Answer.{answer_to, read_or_not}
use Rattle.model_world.specs.Fids.{Left, cleared}
use Rattle.model_world.specs.Waiting.{one_answered}
use Rattle.model_world.specs.Refusal.{IsRefused}
use Rattle.model_world.specs.Links.{IsLinked, KeepsOthers, is_connected}
use Rattle.model_world.specs.Whole.{client}
use Rattle.model_world.proofs.Others.{IsOther, IsTold, behind_step, value_by}
use Rattle.model_world.proofs.Connections.{Keeps, KeepsRead, read_data_kept, within_kept, write_ctl_kept, written_kept}
use Rattle.model_world.proofs.Desktops.{choice_told, data_told, read_ctl_told}
use Rattle.model_world.proofs.Kept.{IsSame, KeepsConnections}
use Rattle.model_world.proofs.Links.{left_others}
use Rattle.model_world.proofs.Answers.{HoldsSome, cleared_left, one_holds, read_leaves}
use Rattle.model_world.proofs.Wanting.{Spares, SparesOf, answer_spares, refused_otherwise}
use Rattle.model_alone.specs.alone.Lone.{LoneDesktop, attached_alone, commanded_alone, heard_alone, lone_desktop, refused_by_rectangle, is_window, window_heard, with_device, written_alone}

abbrev pub device_of : LoneDesktop → draw.World
device_of desktop = desktop.device

abbrev IsStill : LoneDesktop → LoneDesktop → Type 0
IsStill = IsSame 1 lone_desktop device_of

rectangle_still : (desktop : LoneDesktop) (serial : ℕ) (what : Wctl) → IsOther (IsStill desktop) (refused_by_rectangle desktop serial what)
rectangle_still desktop serial (wctl.Resize options) = behind_step _ (value_or_refuse (applied false options _) 47) _ (value_by _ 47 (λ e. omega (arith, e))) (λ _. refl)
rectangle_still desktop serial (wctl.Move options) = behind_step _ (value_or_refuse (applied true options _) 47) _ (value_by _ 47 (λ e. omega (arith, e))) (λ _. refl)
rectangle_still desktop serial _ = refl

command_still : (desktop : LoneDesktop) (serial : ℕ) (text : List ℕ) → IsOther (IsStill desktop) (commanded_alone desktop serial text)
unfolding commanded_alone
command_still desktop serial text =
    behind_step _ (value_or_refuse (command_of false text) 47) _ (value_by _ 47 (λ e. omega (arith, e))) (λ command. rectangle_still desktop serial command.what)

attached_still : (desktop : LoneDesktop) (asked : Attach) → IsOther (λ (made : LoneDesktop × ℕ). IsStill desktop made.0) (attached_alone desktop asked)
attached_still desktop (Fresh path text) = behind_step _ (value_or_refuse desktop.made 41) _ (value_by _ 41 (λ e. omega (arith, e))) (λ _. refl)
attached_still desktop Whole = λ e. omega (arith, e)
attached_still desktop Unknown = λ e. omega (arith, e)
attached_still desktop (Existing path) = λ e. omega (arith, e)

heard_still : (desktop : LoneDesktop) (serial : ℕ) (h : Heard) → IsStill desktop (heard_alone desktop serial h)
heard_still desktop serial h = by (is_window desktop serial)
  where
    by : (b : Bool) → IsStill desktop (if b then record desktop { window = window_heard desktop.window h } else desktop)
    by true = refl
    by false = refl

written_still : (k : ℕ) (desktop : LoneDesktop) (bytes : List ℕ) (mark : Option ℕ) → IsStill desktop (with_device desktop (written_alone k desktop.device bytes mark).0)
written_still k desktop bytes None = written_kept k desktop.device bytes None
written_still k desktop bytes (Some n) = within_kept n k desktop.device None 0 bytes

read_still : (k : ℕ) (desktop : LoneDesktop) (most : ℕ)
    → IsOther (λ (got : List ℕ × LoneDesktop). IsStill desktop got.1) (read_data k desktop.device most >>= λ got. Ok (got.0, with_device desktop got.1))
read_still k desktop most = by (read_data k desktop.device most) (read_data_kept k desktop.device most) (data_told k desktop.device most)
  where
    by : (o : Outcome (List ℕ × draw.World)) → KeepsRead desktop.device o → IsTold o → IsOther (λ (got : List ℕ × LoneDesktop). IsStill desktop got.1) (o >>= λ got. Ok (got.0, with_device desktop got.1))
    by (Ok got) kept other = kept
    by (Err n) kept other = other

chosen_still : (k : ℕ) (desktop : LoneDesktop) (bytes : List ℕ) → IsOther (IsStill desktop) (write_ctl k desktop.device bytes >>= λ device. Ok (with_device desktop device))
chosen_still k desktop bytes = by (write_ctl k desktop.device bytes) (write_ctl_kept k desktop.device bytes) (choice_told k desktop.device bytes)
  where
    by : (o : Outcome draw.World) → Keeps desktop.device o → IsTold o → IsOther (IsStill desktop) (o >>= λ device. Ok (with_device desktop device))
    by (Ok device) kept other = kept
    by (Err n) kept other = other

keeps : KeepsConnections 1 lone_desktop device_of
keeps = record {
  attached = attached_still;
  left = λ desktop windows. refl;
  hear = heard_still;
  command = command_still;
  device_command = λ desktop text e. omega (arith, e);
  mouse = λ desktop e. refl;
  keys = λ desktop typed. refl;
  with_size = λ desktop size. refl;
  with_snarf = λ desktop host bytes. refl;
  connect = λ desktop n. refl;
  leave = λ desktop n. refl;
  write_data = λ desktop n bytes mark. written_still (client 1 n) desktop bytes mark;
  read_data = λ desktop n most. read_still (client 1 n) desktop most;
  read_ctl = λ desktop n. read_ctl_told (client 1 n) desktop.device n;
  write_ctl = λ desktop n bytes. chosen_still (client 1 n) desktop bytes;
}

pub leave_leaves : (m n : ℕ) (desktop : LoneDesktop) → (m ≡ n → ⊥) → is_connected (lone_desktop.leave desktop n).device (client 1 m) ≡ is_connected desktop.device (client 1 m)
leave_leaves m n desktop apart = left_others desktop.device (client 1 n) (client 1 m) (λ same. apart (omega (arith, same)))

pub answer_links : (session : Session) (desktop : LoneDesktop) (mark : Option ℕ) (m : Option T) (after : Left LoneDesktop) → IsLinked 1 session.made session.connections desktop.device
    → read_or_not lone_desktop session desktop mark m ≡ Ok after
    → IsLinked 1 after.session.made after.session.connections after.rest.device × KeepsOthers 1 desktop.device after.rest.device
answer_links session desktop mark m after linked is = let holds = read_leaves 1 lone_desktop device_of keeps session desktop mark m after linked is in (holds.linked, holds.others)

pub late_links : (session : Session) (desktop : LoneDesktop) (after : Left LoneDesktop) → IsLinked 1 session.made session.connections desktop.device
    → one_answered lone_desktop session desktop ≡ Some after
    → IsLinked 1 after.session.made after.session.connections after.rest.device × KeepsOthers 1 desktop.device after.rest.device
late_links session desktop after linked is =
    let holds = subst (λ (o : Option (Left LoneDesktop)). HoldsSome 1 lone_desktop device_of keeps desktop o) is (one_holds 1 lone_desktop device_of keeps session desktop linked) in (holds.linked, holds.others)

pub cleared_links : (session : Session) (desktop : LoneDesktop) → IsLinked 1 session.made session.connections desktop.device
    → IsLinked 1 session.made [] (cleared lone_desktop session desktop).1.device × KeepsOthers 1 desktop.device (cleared lone_desktop session desktop).1.device
cleared_links session desktop linked = cleared_left 1 lone_desktop device_of keeps session desktop linked

pub refuses_otherwise : (session : Session) (desktop : LoneDesktop) (mark : Option ℕ) (m : Option T) → read_or_not lone_desktop session desktop mark m ≡ Err no_memory → ⊥
refuses_otherwise session desktop mark m is = refused_otherwise 1 lone_desktop device_of keeps session desktop mark m no_memory is refl

spared : (m : T) (after : Left LoneDesktop) → ((tag fid offset : ℕ) (bytes : List ℕ) → m ≡ Twrite tag fid offset bytes → ⊥) → SparesOf m after → Spares after
spared (Twrite tag fid offset bytes) after other spares = absurd (other tag fid offset bytes refl)
spared m after other spares = spares

pub answers_otherwise : (session : Session) (desktop : LoneDesktop) (mark : Option ℕ) (m : T) (after : Left LoneDesktop) → ((tag fid offset : ℕ) (bytes : List ℕ) → m ≡ Twrite tag fid offset bytes → ⊥)
    → answer_to lone_desktop session desktop mark m ≡ Ok after → IsRefused no_memory after.reply → ⊥
answers_otherwise session desktop mark m after other is =
    spared m after other (subst (λ (o : Outcome (Left LoneDesktop)). IsOther (SparesOf m) o) is (answer_spares 1 lone_desktop device_of keeps session desktop mark m))
