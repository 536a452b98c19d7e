-- What sessions do with the windows leaves the draw device its connections, and is not refused for want of memory.
use Rattle.std.proofs.Common.{◌≡◌, ◌∙◌, ℕ, true, false, not, List, [], ◌∷◌, length, Option, Ok, Err, refl, ap, arith}
use Rattle.std.specs.Prelude.{◌==◌, nat_lt}
use Rattle.std.specs.Int.{w32, from_le_bytes}
use Rattle.std.specs.List.{fold}
use Rattle.std.specs.Map.{keys_of}
use Rattle.std.proofs.lemmas.Bool.{cond_both}
use Rattle.model_text.specs.text.Outcome.{Outcome, ◌>>=◌, refuse_if, value_or_refuse}
use Rattle.model_history.specs.declared.words.Size.{Size}
use Rattle.model_files.specs.wctl.Command.{Wctl}
use Rattle.model_files.specs.wctl.Command as wctl
use Rattle.model_files.specs.wctl.Reading.{command_of}
use Rattle.model_files.specs.declared.mouse.Mouse.{Mouse as Pointer}
use Rattle.model_files.specs.tree.Attach.{Attach, Whole, Existing, Fresh, Unknown}
use Rattle.model_draw_parts.specs.images.Book.{Book, image, image_id, is_stale}
use Rattle.model_rio.specs.rio.Table.{Table, found, is_host}
use Rattle.model_rio.specs.rio.Act as act
use Rattle.model_rio.specs.rio.Rio.{rio}
use Rattle.model_rio.specs.rio.Step.{Step}
use Rattle.model_draw.specs.draw.World as draw
use Rattle.model_draw.specs.draw.Act.{no_memory}
use Rattle.model_draw.specs.draw.Files.{is_known, read_ctl, read_data, write_ctl}
use Rattle.model_world.specs.Desktop.{Desktop, is_user, stepped, stepped_if, stepped_or, users_of, without_user}
use Rattle.model_world.specs.Whole.{attached, client, commanded, ctl_written, data_read, desktop_for, device_commanded, device_commanded_by, host_of, left_one, made_by, moused, resized, serial_of, typed, window_made, with_device, written_data}
use Rattle.model_world.proofs.Others.{IsOther, IsTold, behind_known, behind_step, refused_by, value_by}
use Rattle.model_world.proofs.Orders.{IsFair, rio_fair}
use Rattle.model_world.proofs.Kept.{KeepsConnections}
use Rattle.model_world.proofs.Connections.{Keeps, KeepsRead, numbers_of, carried_out_kept, read_data_kept, write_ctl_kept, written_kept}

-- the device has the same connections
abbrev IsSame : Desktop → Desktop → Type 0
IsSame before after = numbers_of after.device ≡ numbers_of before.device

-- ---- steps of the windows

stepped_same : (desktop : Desktop) (step : Step) → IsFair step → IsSame desktop (stepped desktop step)
unfolding stepped
stepped_same desktop step fair = ap (λ (clients : List (ℕ × draw.Client)). keys_of clients) (carried_out_kept desktop.device step.orders fair)

stepped_or_same : (desktop : Desktop) (o : Outcome Step) → IsOther IsFair o → IsOther (IsSame desktop) (stepped_or desktop o)
stepped_or_same desktop (Ok step) fair = stepped_same desktop step fair
stepped_or_same desktop (Err n) other = other

stepped_if_same : (desktop : Desktop) (o : Outcome Step) → IsOther IsFair o → IsSame desktop (stepped_if desktop o)
stepped_if_same desktop (Ok step) fair = stepped_same desktop step fair
stepped_if_same desktop (Err n) other = refl

-- ---- commands

host_told : (table : Table) (path : List ℕ) (n : ℕ) → (n ≡ no_memory → ⊥) → IsTold (host_of table path n)
host_told table [] n other = tt
host_told table (number ∷ numbers) n other =
    behind_step _ (value_or_refuse (found table (number ∷ numbers)) n) _ (value_by _ n other) (λ serial.
    behind_step _ (refuse_if (not (is_host table serial)) n) _ (refused_by _ n other) (λ _. tt))

made_by_same : (desktop : Desktop) (host : ℕ) (what : Wctl) → IsOther (IsSame desktop) (made_by desktop host what)
made_by_same desktop host (wctl.New options hide) = stepped_or_same desktop (rio desktop.table (act.New host options hide)) (rio_fair desktop.table (act.New host options hide))
made_by_same desktop host _ = λ e. omega (arith, e)

command_same : (desktop : Desktop) (window : ℕ) (what : Wctl) → IsOther (IsSame desktop) (stepped_or desktop (rio desktop.table (act.Command window what)))
command_same desktop window what = stepped_or_same desktop (rio desktop.table (act.Command window what)) (rio_fair desktop.table (act.Command window what))

commanded_same : (desktop : Desktop) (window : ℕ) (text : List ℕ) → IsOther (IsSame desktop) (commanded desktop window text)
unfolding commanded
commanded_same desktop window text =
    behind_step _ (value_or_refuse (command_of false text) 47) _ (value_by _ 47 (λ e. omega (arith, e))) (λ command. command_same desktop window command.what)

-- a command to the window of a path
window_same : (desktop : Desktop) (path : List ℕ) (what : Wctl)
    → IsOther (IsSame desktop) (serial_of desktop.table path 47 >>= λ window. stepped_or desktop (rio desktop.table (act.Command window what)))
window_same desktop path what =
    behind_step _ (serial_of desktop.table path 47) _ (value_by _ 47 (λ e. omega (arith, e))) (λ window. command_same desktop window what)

device_by_same : (desktop : Desktop) (path : List ℕ) (what : Wctl) → IsOther (IsSame desktop) (device_commanded_by desktop path what)
device_by_same desktop path (wctl.New options hide) =
    behind_step _ (host_of desktop.table path 47) _ (host_told desktop.table path 47 (λ e. omega (arith, e))) (λ host.
    stepped_or_same desktop (rio desktop.table (act.New host options hide)) (rio_fair desktop.table (act.New host options hide)))
device_by_same desktop path what = window_same desktop path what

device_commanded_same : (desktop : Desktop) (text : List ℕ) → IsOther (IsSame desktop) (device_commanded desktop text)
unfolding device_commanded
device_commanded_same desktop text =
    behind_step _ (value_or_refuse (command_of true text) 47) _ (value_by _ 47 (λ e. omega (arith, e))) (λ command. device_by_same desktop command.id command.what)

-- ---- attaching, and leaving

abbrev IsMadeSame : Desktop → Desktop × ℕ → Type 0
IsMadeSame desktop made = IsSame desktop made.0

window_made_same : (desktop : Desktop) (path text : List ℕ) → IsOther (IsMadeSame desktop) (window_made desktop path text)
unfolding window_made
window_made_same desktop path text =
    behind_step _ (host_of desktop.table path 41) _ (host_told desktop.table path 41 (λ e. omega (arith, e))) (λ host.
    behind_step _ (value_or_refuse (command_of false text) 47) _ (value_by _ 47 (λ e. omega (arith, e))) (λ command.
    behind_known _ (IsSame desktop) (made_by desktop host command.what) _ (made_by_same desktop host command.what) (λ next same. same)))

attached_same : (session : ℕ) (desktop : Desktop) (name : Attach) → IsOther (IsMadeSame desktop) (attached session desktop name)
unfolding attached
attached_same session desktop Whole = refl
attached_same session desktop Unknown = λ e. omega (arith, e)
attached_same session desktop (Existing path) = behind_step _ (serial_of desktop.table path 41) _ (value_by _ 41 (λ e. omega (arith, e))) (λ _. refl)
attached_same session desktop (Fresh path text) = behind_known _ (IsMadeSame desktop) (window_made desktop path text) _ (window_made_same desktop path text) (λ made same. same)

left_one_same : (session : ℕ) (desktop : Desktop) (window : ℕ) → IsSame desktop (left_one session desktop window)
unfolding left_one
left_one_same session desktop window =
    let left : Desktop = record desktop { users = without_user desktop.users window session } in
    let gone : Desktop = stepped_if left (rio left.table (act.Gone window)) in
    cond_both (not (is_user desktop.users window session)) desktop _ (IsSame desktop) (λ _. refl) (λ _.
    cond_both (length (users_of left.users window) == 0) gone left (IsSame desktop) (λ _. stepped_if_same left (rio left.table (act.Gone window)) (rio_fair left.table (act.Gone window))) (λ _. refl))

left_same : (session : ℕ) (windows : List ℕ) (desktop : Desktop) → IsSame desktop (fold (left_one session) desktop windows)
left_same session [] desktop = refl
left_same session (window ∷ windows) desktop = left_same session windows (left_one session desktop window) ∙ left_one_same session desktop window

-- ---- input

moused_same : (desktop : Desktop) (e : Pointer) → IsSame desktop (moused desktop e)
unfolding moused
moused_same desktop e = stepped_if_same desktop (rio desktop.table (act.Mouse e)) (rio_fair desktop.table (act.Mouse e))

typed_same : (desktop : Desktop) (keys : List ℕ) → IsSame desktop (typed desktop keys)
unfolding typed
typed_same desktop keys = stepped_if_same desktop (rio desktop.table (act.Keys keys)) (rio_fair desktop.table (act.Keys keys))

resized_same : (desktop : Desktop) (size : Size) → IsOther (IsSame desktop) (resized desktop size)
unfolding resized
resized_same desktop size = stepped_or_same desktop (rio desktop.table (act.Size size.width size.height)) (rio_fair desktop.table (act.Size size.width size.height))

-- ---- the draw device

written_data_same : (k : ℕ) (desktop : Desktop) (bytes : List ℕ) (mark : Option ℕ) → IsSame desktop (written_data k desktop bytes mark).0
unfolding written_data
written_data_same k desktop bytes mark = written_kept k desktop.device bytes mark

image_told : (book : Book) (k id : ℕ) → IsTold (image book k id)
unfolding image
image_told book k id =
    behind_step _ (value_or_refuse (image_id book k id) 4) _ (value_by _ 4 (λ e. omega (arith, e))) (λ e.
    behind_step _ (refuse_if (is_stale book e) 18) _ (refused_by _ 18 (λ e. omega (arith, e))) (λ _. tt))

pub read_ctl_told : (k : ℕ) (device : draw.World) (number : ℕ) → IsTold (read_ctl k device number)
unfolding read_ctl
read_ctl_told k device number = behind_step _ (image device.book k (draw.client_of device k).described) _ (image_told device.book k (draw.client_of device k).described) (λ _. tt)

pub data_told : (k : ℕ) (device : draw.World) (most : ℕ) → IsTold (read_data k device most)
unfolding read_data
data_told k device most =
    behind_step _ (refuse_if (length (draw.client_of device k).pending == 0) 26) _ (refused_by _ 26 (λ e. omega (arith, e))) (λ _.
    behind_step _ (refuse_if (nat_lt most (length (draw.client_of device k).pending)) 25) _ (refused_by _ 25 (λ e. omega (arith, e))) (λ _. tt))

pub choice_told : (k : ℕ) (device : draw.World) (bytes : List ℕ) → IsTold (write_ctl k device bytes)
unfolding write_ctl
choice_told k device bytes =
    behind_step _ (refuse_if (not (length bytes == 4)) 27) _ (refused_by _ 27 (λ e. omega (arith, e))) (λ _.
    behind_step _ (refuse_if (not (is_known device k (from_le_bytes w32 bytes))) 4) _ (refused_by _ 4 (λ e. omega (arith, e))) (λ _. tt))

abbrev IsReadSame : Desktop → List ℕ × Desktop → Type 0
IsReadSame desktop got = IsSame desktop got.1

data_read_same : (k : ℕ) (desktop : Desktop) (most : ℕ) → IsOther (IsReadSame desktop) (data_read k desktop most)
unfolding data_read
data_read_same k desktop most = by (read_data k desktop.device most) (read_data_kept k desktop.device most) (data_told k desktop.device most)
  where
    by : (o : Outcome (List ℕ × draw.World)) → KeepsRead desktop.device o → IsTold o → IsOther (IsReadSame desktop) (o >>= λ got. Ok (got.0, with_device desktop got.1))
    by (Ok got) kept other = kept
    by (Err n) kept other = other

ctl_written_same : (k : ℕ) (desktop : Desktop) (bytes : List ℕ) → IsOther (IsSame desktop) (ctl_written k desktop bytes)
unfolding ctl_written
ctl_written_same k desktop bytes = by (write_ctl k desktop.device bytes) (write_ctl_kept k desktop.device bytes) (choice_told k desktop.device bytes)
  where
    by : (o : Outcome draw.World) → Keeps desktop.device o → IsTold o → IsOther (IsSame desktop) (o >>= λ device. Ok (with_device desktop device))
    by (Ok device) kept other = kept
    by (Err n) kept other = other

-- ---- all calls

abbrev pub device_of : Desktop → draw.World
device_of desktop = desktop.device

pub keeps_connections : (c : ℕ) → KeepsConnections c (desktop_for c) device_of
keeps_connections c = record {
  attached = attached_same c;
  left = λ desktop windows. left_same c windows desktop;
  hear = λ desktop window h. refl;
  command = commanded_same;
  device_command = device_commanded_same;
  mouse = moused_same;
  keys = typed_same;
  with_size = resized_same;
  with_snarf = λ desktop host bytes. refl;
  connect = λ desktop n. refl;
  leave = λ desktop n. refl;
  write_data = λ desktop n bytes mark. written_data_same (client c n) desktop bytes mark;
  read_data = λ desktop n most. data_read_same (client c n) desktop most;
  read_ctl = λ desktop n. read_ctl_told (client c n) desktop.device n;
  write_ctl = λ desktop n bytes. ctl_written_same (client c n) desktop bytes;
}
