-- What a session answers leaves the reads that wait at other windows asleep.
use Rattle.std.proofs.Common.{◌≡◌, ℕ, Bool, true, false, not, List, [], ◌∷◌, ◌++◌, length, Option, Some, None, Ok, Err, IfSome, refl, sym, ap, subst}
use Rattle.std.specs.Prelude.{◌==◌, ◌&&◌, filter, map, is_none, is_some, nat_le, nat_lt, IfOk}
use Rattle.std.specs.List.{fold}
use Rattle.std.specs.Option.{option_map, option_map_or}
use Rattle.std.proofs.lemmas.Bool.{cond_both}
use Rattle.model_text.specs.text.Outcome.{Outcome, ◌>>=◌, refuse_if, value_or_refuse}
use Rattle.model_text.specs.text.Map.{lookup, without}
use Rattle.model_files.specs.wire.Message.{T, R, Tversion, Tauth, Tattach, Tflush, Twalk, Topen, Tcreate, Tread, Twrite, Tclunk, Tremove, Tstat, Twstat, Rclunk, no_fid, no_tag, tag_of_t}
use Rattle.model_files.specs.wire.Reading.{message_of, tag_of}
use Rattle.model_history.specs.words.Values.{sides_of}
use Rattle.model_files.specs.mouse.Pointer.{pointer_of}
use Rattle.model_files.specs.mouse.Queue.{answer_text}
use Rattle.model_files.specs.console.Console as console
use Rattle.model_rio.specs.window.Heard.{MouseRead, ConsoleRead, MouseHeld, ConsctlHeld, Labelled, Written, Raw, wctl_answer, wctl_text}
use Rattle.model_files.specs.tree.Attach.{attach_of}
use Rattle.model_files.specs.declared.tree.Kind.{Kind}
use Rattle.model_files.specs.declared.tree.Kind.TheVariants as kind
use Rattle.model_files.specs.tree.Node.{Node, is_directory, may, reads, writes}
use Rattle.model_files.specs.tree.Listing.{stats}
use Rattle.model_files.specs.tree.Tree.{check_live}
use Rattle.model_draw.specs.draw.Act.{written}
use Rattle.model_draw.specs.draw.Files.{read_data, write_ctl}
use Rattle.model_draw.specs.cost.Cost.{leave_cost, messages_cost}
use Rattle.model_world.specs.Session.{Fid, Wait, Session}
use Rattle.model_world.specs.Desktop.{Desktop}
use Rattle.model_world.specs.Whole.{attached, client, commanded, ctl_written, data_read, desktop_for, device_commanded, left_one, moused, resized, typed, written_data}
use Rattle.model_world.specs.Refusal.{refusal}
use Rattle.model_world.specs.Fids.{Done, Left, beside, cleared, fid_of, fids_gone, is_bound, is_full, is_kept, is_kind, left_by, let_go, settled, with_held}
use Rattle.model_world.specs.Walking.{attach_answer, is_taken, most_made, open_answer, opened, opened_new, walk_answer}
use Rattle.model_world.specs.Reading.{Given, count_within, ctl_read, directory_read, file_read, given_in, given_now, is_open_for, most_waiting, mouse_len, node_read, read_answer, read_ended, wctl_len}
use Rattle.model_world.specs.Writing.{are_keys, file_written, line_of, raw_asked, snarf_written, whole_or_refused, with_raw_asked, write_answer}
use Rattle.model_world.specs.Waiting.{answered_or, awaited, first_of, given_or_refused, one_answered, wait_answer}
use Rattle.model_world.specs.Answer.{Taking, Ignored, TooLong, Closes, Reads, agreed_on, answer, answer_read, answer_to, asks_for_9p, clunk_answer, denied, is_version, read_or_not, replied, stat_answer, taken, taking, version_answer}
use Rattle.model_world.specs.Sleeping.{written_at, written_in, written_to}
use Rattle.model_world.proofs.Others.{after_if, after_step}
use Rattle.model_world.proofs.Windows.{IsQuiet, Leaves, LeavesBut, LeavesMade, attached_leaves, beside_leaves, but, commanded_leaves, cost_leaves, device_commanded_leaves, device_leaves, hear_others, hear_quiet, left_leaves, leaves_same, leaves_then, moused_leaves, quiet_leaves, resized_leaves, sleeps_same, typed_leaves}

-- ---- files that one fid at a time has open

held_leaves : (c : ℕ) (held : Bool) (desktop : Desktop) (node : Node) → Leaves desktop (with_held (desktop_for c) held desktop node)
held_leaves c held desktop node =
    let mouse = (desktop_for c).hear desktop node.serial (MouseHeld held) in
    let consctl = (desktop_for c).hear desktop node.serial (ConsctlHeld held) in
    cond_both (is_kind kind.Mouse node.kind) mouse _ (Leaves desktop) (λ _. quiet_leaves desktop mouse (hear_quiet c desktop node.serial (MouseHeld held) refl)) (λ _.
    cond_both (is_kind kind.Consctl node.kind) consctl desktop (Leaves desktop) (λ _. quiet_leaves desktop consctl (hear_quiet c desktop node.serial (ConsctlHeld held) refl)) (λ _. leaves_same desktop))

let_go_leaves : (c : ℕ) (desktop : Desktop) (fid : Fid) → Leaves desktop (let_go (desktop_for c) desktop fid)
let_go_leaves c desktop fid = cond_both (is_some fid.mode) _ _ (Leaves desktop) (λ _. held_leaves c false desktop fid.node) (λ _. leaves_same desktop)

all_let_go_leaves : (c : ℕ) (gone : List Fid) (desktop : Desktop) → Leaves desktop (fold (let_go (desktop_for c)) desktop gone)
all_let_go_leaves c [] desktop = leaves_same desktop
all_let_go_leaves c (fid ∷ gone) desktop =
    let next = let_go (desktop_for c) desktop fid in
    leaves_then desktop next (fold (let_go (desktop_for c)) next gone) (let_go_leaves c desktop fid) (all_let_go_leaves c gone next)

-- ---- fids go

ended_leaves : (c : ℕ) (ns : List ℕ) (desktop : Desktop) → Leaves desktop (fold (desktop_for c).leave desktop ns)
ended_leaves c [] desktop = leaves_same desktop
ended_leaves c (n ∷ ns) desktop =
    let next = (desktop_for c).leave desktop n in
    leaves_then desktop next (fold (desktop_for c).leave next ns) (cost_leaves desktop next.device (leave_cost desktop.device (client c n))) (ended_leaves c ns next)

settled_leaves : (c : ℕ) (session : Session) (desktop : Desktop) → Leaves desktop (settled (desktop_for c) session desktop).1
unfolding settled
settled_leaves c session desktop = ended_leaves c (filter (λ n. not (is_kept session n)) session.connections) desktop

gone_leaves : (c : ℕ) (session : Session) (desktop : Desktop) (gone : List Fid) → Leaves desktop (fids_gone (desktop_for c) session desktop gone).1
unfolding fids_gone
gone_leaves c session desktop gone =
    let ended = settled (desktop_for c) session desktop in
    let windows = left_by ended.0 gone in
    let let_all : Desktop = fold (let_go (desktop_for c)) ended.1 gone in
    let after : Desktop = fold (left_one c) let_all windows in
    leaves_then desktop ended.1 after (settled_leaves c session desktop) (leaves_then ended.1 let_all after (all_let_go_leaves c gone ended.1) (left_leaves c windows let_all))

pub cleared_leaves : (c : ℕ) (session : Session) (desktop : Desktop) → Leaves desktop (cleared (desktop_for c) session desktop).1
cleared_leaves c session desktop = gone_leaves c (record session { fids = []; waiting = [] }) desktop (map (λ entry. entry.1) session.fids)

-- ---- reads

abbrev IsGivenQuiet : Desktop → Option (Given Desktop) → Type 0
IsGivenQuiet desktop o = IfSome o (λ got. IsQuiet desktop got.rest)

quiet_same : (desktop : Desktop) → IsQuiet desktop desktop
quiet_same desktop = (refl, sleeps_same desktop)

text_quiet : (desktop : Desktop) (given : List ℕ → Given Desktop) (text : Option (List ℕ)) → ((bytes : List ℕ) → IsQuiet desktop (given bytes).rest) → IsGivenQuiet desktop (option_map given text)
text_quiet desktop given None quiet = tt
text_quiet desktop given (Some bytes) quiet = quiet bytes

given_now_quiet : (c : ℕ) (desktop : Desktop) (fid : Fid) (count : ℕ) (k : Kind) → IsGivenQuiet desktop (given_now (desktop_for c) desktop fid count k)
given_now_quiet c desktop fid count kind.Mouse =
    text_quiet desktop _ (answer_text ((desktop_for c).pane desktop fid.node.serial).mouse) (λ _. hear_quiet c desktop fid.node.serial MouseRead refl)
given_now_quiet c desktop fid count kind.Cons =
    text_quiet desktop _ (console.read count ((desktop_for c).pane desktop fid.node.serial).console) (λ _. hear_quiet c desktop fid.node.serial (ConsoleRead count) refl)
given_now_quiet c desktop fid count kind.Wctl = text_quiet desktop _ (wctl_answer fid.told (wctl_text ((desktop_for c).pane desktop fid.node.serial).known)) (λ _. quiet_same desktop)
given_now_quiet c desktop fid count _ = tt

abbrev LeavesGiven : Desktop → Option (Given Desktop) → Type 0
LeavesGiven desktop o = IfSome o (λ got. Leaves desktop got.rest)

now_leaves : (c : ℕ) (desktop : Desktop) (fid : Fid) (count : ℕ) (k : Kind) → LeavesGiven desktop (given_now (desktop_for c) desktop fid count k)
now_leaves c desktop fid count k = by (given_now (desktop_for c) desktop fid count k) (given_now_quiet c desktop fid count k)
  where
    by : (o : Option (Given Desktop)) → IsGivenQuiet desktop o → LeavesGiven desktop o
    by None quiet = tt
    by (Some got) quiet = quiet_leaves desktop got.rest quiet

given_in_leaves : (c : ℕ) (desktop : Desktop) (fid : Fid) (least count : ℕ) (k : Kind) → IfOk (given_in (desktop_for c) desktop fid least count k) (LeavesGiven desktop)
given_in_leaves c desktop fid least count k = after_step _ (refuse_if (nat_lt count least) 46) _ (λ _ _. now_leaves c desktop fid count k)

data_leaves : (k : ℕ) (desktop : Desktop) (most : ℕ) → IfOk (data_read k desktop most) (λ got. Leaves desktop got.1)
unfolding data_read
data_leaves k desktop most = after_step _ (read_data k desktop.device most) _ (λ got _. device_leaves desktop got.1)

file_read_leaves : (c : ℕ) (desktop : Desktop) (fid : Fid) (offset count : ℕ) (k : Kind) → IfOk (file_read (desktop_for c) desktop fid offset count k) (LeavesGiven desktop)
file_read_leaves c desktop fid offset count kind.Ctl = after_step _ (ctl_read (desktop_for c) desktop fid.node offset count) _ (λ _ _. leaves_same desktop)
file_read_leaves c desktop fid offset count kind.Data =
    after_if _ (λ (got : List ℕ × Desktop). Leaves desktop got.1) (data_read (client c fid.node.connection) desktop count) _ (data_leaves (client c fid.node.connection) desktop count) (λ got leaves. leaves)
file_read_leaves c desktop fid offset count kind.Screen = leaves_same desktop
file_read_leaves c desktop fid offset count kind.Snarf = leaves_same desktop
file_read_leaves c desktop fid offset count kind.Hwsize = leaves_same desktop
file_read_leaves c desktop fid offset count kind.Label = leaves_same desktop
file_read_leaves c desktop fid offset count kind.Text = leaves_same desktop
file_read_leaves c desktop fid offset count kind.Winid = leaves_same desktop
file_read_leaves c desktop fid offset count kind.Winname = leaves_same desktop
file_read_leaves c desktop fid offset count kind.Picture = leaves_same desktop
file_read_leaves c desktop fid offset count kind.Mouse = given_in_leaves c desktop fid mouse_len count kind.Mouse
file_read_leaves c desktop fid offset count kind.Wctl = given_in_leaves c desktop fid wctl_len count kind.Wctl
file_read_leaves c desktop fid offset count kind.Cons = now_leaves c desktop fid count kind.Cons
file_read_leaves c desktop fid offset count _ = tt

node_read_leaves : (c : ℕ) (connections : List ℕ) (desktop : Desktop) (fid : Fid) (offset count : ℕ) → IfOk (node_read (desktop_for c) connections desktop fid offset count) (LeavesGiven desktop)
node_read_leaves c connections desktop fid offset count =
    cond_both (is_directory fid.node) _ _ (λ o. IfOk o (LeavesGiven desktop))
    (λ _. after_step _ (directory_read (stats ((desktop_for c).view desktop connections fid.node) fid.node) fid offset count) _ (λ _ _. leaves_same desktop))
    (λ _. file_read_leaves c desktop fid offset count fid.node.kind)

-- ---- writes

abbrev LeavesWritten : ℕ → Desktop → Desktop × Option ℕ → Type 0
LeavesWritten window desktop after = LeavesBut window desktop after.0

whole_leaves : (window : ℕ) (desktop : Desktop) (o : Outcome Desktop) → IfOk o (LeavesBut window desktop) → IfOk (whole_or_refused o) (LeavesWritten window desktop)
whole_leaves window desktop (Ok next) leaves = leaves
whole_leaves window desktop (Err n) leaves = tt

whole_but : (window : ℕ) (desktop : Desktop) (o : Outcome Desktop) → IfOk o (Leaves desktop) → IfOk (whole_or_refused o) (LeavesWritten window desktop)
whole_but window desktop (Ok next) leaves = but window desktop next leaves
whole_but window desktop (Err n) leaves = tt

raw_leaves : (c : ℕ) (desktop : Desktop) (window : ℕ) (asked : Option Bool) → LeavesBut window desktop (with_raw_asked (desktop_for c) desktop window asked)
raw_leaves c desktop window None = but window desktop desktop (leaves_same desktop)
raw_leaves c desktop window (Some raw) = hear_others c desktop window (Raw raw)

ctl_leaves : (k : ℕ) (desktop : Desktop) (bytes : List ℕ) → IfOk (ctl_written k desktop bytes) (Leaves desktop)
unfolding ctl_written
ctl_leaves k desktop bytes = after_step _ (write_ctl k desktop.device bytes) _ (λ device _. device_leaves desktop device)

written_data_leaves : (k : ℕ) (desktop : Desktop) (bytes : List ℕ) (mark : Option ℕ) → Leaves desktop (written_data k desktop bytes mark).0
unfolding written_data
written_data_leaves k desktop bytes mark =
    let after = written k desktop.device bytes mark in
    cost_leaves desktop after.world (messages_cost after.done k desktop.device bytes)

file_written_leaves : (c : ℕ) (desktop : Desktop) (node : Node) (offset : ℕ) (bytes : List ℕ) (mark : Option ℕ) (k : Kind)
    → IfOk (file_written (desktop_for c) desktop node offset bytes mark k) (LeavesWritten node.serial desktop)
file_written_leaves c desktop node offset bytes mark kind.Ctl =
    whole_but node.serial desktop (ctl_written (client c node.connection) desktop bytes) (ctl_leaves (client c node.connection) desktop bytes)
file_written_leaves c desktop node offset bytes mark kind.Data = but node.serial desktop _ (written_data_leaves (client c node.connection) desktop bytes mark)
file_written_leaves c desktop node offset bytes mark kind.Mousein =
    whole_but node.serial desktop (value_or_refuse (pointer_of bytes) 51 >>= λ e. Ok (moused desktop e))
    (after_step _ (value_or_refuse (pointer_of bytes) 51) _ (λ e _. moused_leaves desktop e))
file_written_leaves c desktop node offset bytes mark kind.Kbdin =
    whole_but node.serial desktop (refuse_if (not (are_keys bytes)) 51 >>= λ _. Ok (typed desktop bytes))
    (after_step _ (refuse_if (not (are_keys bytes)) 51) _ (λ _ _. typed_leaves desktop bytes))
file_written_leaves c desktop node offset bytes mark kind.Hwsize =
    whole_but node.serial desktop (value_or_refuse (sides_of (line_of bytes)) 51 >>= λ size. resized desktop size)
    (after_step _ (value_or_refuse (sides_of (line_of bytes)) 51) _ (λ size _. resized_leaves desktop size))
file_written_leaves c desktop node offset bytes mark kind.Snarf =
    let old = (desktop_for c).snarf desktop node.serial in
    whole_but node.serial desktop (snarf_written old offset bytes >>= λ new. Ok ((desktop_for c).with_snarf desktop node.serial new))
    (after_step _ (snarf_written old offset bytes) _ (λ new _. beside_leaves desktop desktop.device desktop.users ((desktop_for c).with_snarf desktop node.serial new).snarfs desktop.cost))
file_written_leaves c desktop node offset bytes mark kind.DeviceWctl = whole_but node.serial desktop (device_commanded desktop bytes) (device_commanded_leaves desktop bytes)
file_written_leaves c desktop node offset bytes mark kind.Cons = hear_others c desktop node.serial (Written bytes)
file_written_leaves c desktop node offset bytes mark kind.Consctl =
    whole_leaves node.serial desktop (raw_asked (line_of bytes) >>= λ asked. Ok (with_raw_asked (desktop_for c) desktop node.serial asked))
    (after_step _ (raw_asked (line_of bytes)) _ (λ asked _. raw_leaves c desktop node.serial asked))
file_written_leaves c desktop node offset bytes mark kind.Mouse = but node.serial desktop desktop (leaves_same desktop)
file_written_leaves c desktop node offset bytes mark kind.Label = hear_others c desktop node.serial (Labelled bytes)
file_written_leaves c desktop node offset bytes mark kind.Wctl = whole_but node.serial desktop (commanded desktop node.serial bytes) (commanded_leaves desktop node.serial bytes)
file_written_leaves c desktop node offset bytes mark _ = tt

-- ---- each message

abbrev LeavesIf : Desktop → Outcome (Left Desktop) → Type 0
LeavesIf desktop o = IfOk o (λ l. Leaves desktop l.rest)

abbrev ButIf : ℕ → Desktop → Outcome (Left Desktop) → Type 0
ButIf wrote desktop o = IfOk o (λ l. LeavesBut wrote desktop l.rest)

but_if : (wrote : ℕ) (desktop : Desktop) (o : Outcome (Left Desktop)) → LeavesIf desktop o → ButIf wrote desktop o
but_if wrote desktop (Ok l) leaves = but wrote desktop l.rest leaves
but_if wrote desktop (Err n) leaves = tt

beside_if : (desktop : Desktop) (o : Outcome Done) → LeavesIf desktop (beside desktop o)
beside_if desktop (Ok d) = leaves_same desktop
beside_if desktop (Err n) = tt

version_leaves : (c : ℕ) (session : Session) (desktop : Desktop) (tag msize : ℕ) (version : List ℕ) → LeavesIf desktop (version_answer (desktop_for c) session desktop tag msize version)
unfolding version_answer
version_leaves c session desktop tag msize version =
    after_step _ (refuse_if (nat_lt msize 256) 48) _ (λ _ _. agreed (cleared (desktop_for c) session desktop) (cleared_leaves c session desktop))
  where
    agreed : (after : Session × Desktop) → Leaves desktop after.1 → Leaves desktop (agreed_on tag msize version after).rest
    agreed after leaves = cond_both (asks_for_9p version) _ _ (λ (l : Left Desktop). Leaves desktop l.rest) (λ _. leaves) (λ _. leaves)

attach_leaves : (c : ℕ) (session : Session) (desktop : Desktop) (tag fid afid : ℕ) (aname : List ℕ) → LeavesIf desktop (attach_answer (desktop_for c) session desktop tag fid afid aname)
unfolding attach_answer
attach_leaves c session desktop tag fid afid aname =
    after_step _ (refuse_if (not (afid == no_fid)) 40) _ (λ _ _.
    after_step _ (refuse_if (is_bound session fid) 33) _ (λ _ _.
    after_step _ (refuse_if (is_full session) 44) _ (λ _ _.
    after_if _ (LeavesMade desktop) (attached c desktop (attach_of aname)) _ (attached_leaves c desktop (attach_of aname)) (λ root leaves. leaves))))

opened_leaves : (c : ℕ) (session : Session) (desktop : Desktop) (tag number mode : ℕ) (fid : Fid) → Leaves desktop (opened (desktop_for c) session desktop tag number mode fid).rest
opened_leaves c session desktop tag number mode fid =
    cond_both (is_kind kind.New fid.node.kind) (opened_new (desktop_for c) session desktop tag number mode fid) _ (λ (l : Left Desktop). Leaves desktop l.rest)
    (λ _. device_leaves desktop (opened_new (desktop_for c) session desktop tag number mode fid).rest.device) (λ _. held_leaves c true desktop fid.node)

open_leaves : (c : ℕ) (session : Session) (desktop : Desktop) (tag number mode : ℕ) → LeavesIf desktop (open_answer (desktop_for c) session desktop tag number mode)
unfolding open_answer
open_leaves c session desktop tag number mode =
    after_step _ (fid_of session number) _ (λ fid _.
    after_step _ (refuse_if (is_some fid.mode) 36) _ (λ _ _.
    after_step _ (check_live ((desktop_for c).view desktop session.connections fid.node) fid.node) _ (λ _ _.
    after_step _ (refuse_if (not (may fid.node mode)) 38) _ (λ _ _.
    after_step _ (refuse_if (is_taken (desktop_for c) session desktop fid.node) 43) _ (λ _ _.
    after_step _ (refuse_if (is_kind kind.New fid.node.kind && nat_le most_made session.made) 44) _ (λ _ _. opened_leaves c session desktop tag number mode fid))))))

end_leaves : (session : Session) (desktop : Desktop) (tag number count : ℕ) (got : Option (Given Desktop)) → LeavesGiven desktop got → LeavesIf desktop (read_ended session desktop tag number count got)
end_leaves session desktop tag number count (Some got) leaves = leaves
end_leaves session desktop tag number count None leaves = after_step _ (refuse_if (nat_le most_waiting (length session.waiting)) 45) _ (λ _ _. leaves_same desktop)

read_leaves : (c : ℕ) (session : Session) (desktop : Desktop) (tag number offset count : ℕ) → LeavesIf desktop (read_answer (desktop_for c) session desktop tag number offset count)
unfolding read_answer
read_leaves c session desktop tag number offset count =
    after_step _ (fid_of session number) _ (λ fid _.
    after_step _ (refuse_if (is_none fid.mode) 37) _ (λ _ _.
    after_step _ (refuse_if (not (is_open_for reads fid)) 38) _ (λ _ _.
    after_step _ (check_live ((desktop_for c).view desktop session.connections fid.node) fid.node) _ (λ _ _.
    after_if _ (LeavesGiven desktop) (node_read (desktop_for c) session.connections desktop fid offset (count_within session count)) _
    (node_read_leaves c session.connections desktop fid offset (count_within session count)) (λ got leaves. end_leaves session desktop tag number (count_within session count) got leaves)))))

found_serial : (session : Session) (number : ℕ) (fid : Fid) → fid_of session number ≡ Ok fid → option_map_or (λ (f : Fid). f.node.serial) (lookup session.fids number) 0 ≡ fid.node.serial
found_serial session number fid is = by (lookup session.fids number) is
  where
    by : (o : Option Fid) → value_or_refuse o 32 ≡ Ok fid → option_map_or (λ (f : Fid). f.node.serial) o 0 ≡ fid.node.serial
    by (Some f) e = let same : f ≡ fid = cc in ap (λ (f : Fid). f.node.serial) same
    by None e = absurd (cc e)

write_leaves : (c : ℕ) (session : Session) (desktop : Desktop) (tag number offset : ℕ) (bytes : List ℕ) (mark : Option ℕ)
    → ButIf (written_to session (Some (Twrite tag number offset bytes))) desktop (write_answer (desktop_for c) session desktop tag number offset bytes mark)
unfolding write_answer
write_leaves c session desktop tag number offset bytes mark =
    after_step _ (fid_of session number) _ (λ fid is.
    after_step _ (refuse_if (is_none fid.mode) 37) _ (λ _ _.
    after_step _ (refuse_if (not (is_open_for writes fid)) 38) _ (λ _ _.
    after_step _ (check_live ((desktop_for c).view desktop session.connections fid.node) fid.node) _ (λ _ _.
    after_if _ (LeavesWritten fid.node.serial desktop) (file_written (desktop_for c) desktop fid.node offset bytes mark fid.node.kind) _
    (file_written_leaves c desktop fid.node offset bytes mark fid.node.kind)
    (λ after leaves. subst (λ (n : ℕ). LeavesBut n desktop after.0) (sym (found_serial session number fid is)) leaves)))))

clunk_leaves : (c : ℕ) (session : Session) (desktop : Desktop) (number : ℕ) (reply : R) → LeavesIf desktop (clunk_answer (desktop_for c) session desktop number reply)
unfolding clunk_answer
clunk_leaves c session desktop number reply =
    after_step _ (fid_of session number) _ (λ fid _. gone_leaves c (record session { fids = without session.fids number }) desktop (fid ∷ []))

answer_to_leaves : (c : ℕ) (session : Session) (desktop : Desktop) (mark : Option ℕ) (m : T) → ButIf (written_to session (Some m)) desktop (answer_to (desktop_for c) session desktop mark m)
answer_to_leaves c session desktop mark (Tversion tag msize version) = but_if 0 desktop _ (version_leaves c session desktop tag msize version)
answer_to_leaves c session desktop mark (Tauth tag afid uname aname) = tt
answer_to_leaves c session desktop mark (Tattach tag fid afid uname aname) = but_if 0 desktop _ (attach_leaves c session desktop tag fid afid aname)
answer_to_leaves c session desktop mark (Tflush tag oldtag) = but 0 desktop desktop (leaves_same desktop)
answer_to_leaves c session desktop mark (Twalk tag fid newfid names) = but_if 0 desktop _ (beside_if desktop (walk_answer (desktop_for c) session desktop tag fid newfid names))
answer_to_leaves c session desktop mark (Topen tag fid mode) = but_if 0 desktop _ (open_leaves c session desktop tag fid mode)
answer_to_leaves c session desktop mark (Tcreate tag fid name perm mode) = but_if 0 desktop _ (beside_if desktop (denied session fid))
answer_to_leaves c session desktop mark (Tread tag fid offset count) = but_if 0 desktop _ (read_leaves c session desktop tag fid offset count)
answer_to_leaves c session desktop mark (Twrite tag fid offset bytes) = write_leaves c session desktop tag fid offset bytes mark
answer_to_leaves c session desktop mark (Tclunk tag fid) = but_if 0 desktop _ (clunk_leaves c session desktop fid (Rclunk tag))
answer_to_leaves c session desktop mark (Tremove tag fid) = but_if 0 desktop _ (clunk_leaves c session desktop fid (refusal tag 38))
answer_to_leaves c session desktop mark (Tstat tag fid) = but_if 0 desktop _ (beside_if desktop (stat_answer (desktop_for c) session desktop tag fid))
answer_to_leaves c session desktop mark (Twstat tag fid stat) = but_if 0 desktop _ (beside_if desktop (denied session fid))

read_or_not_leaves : (c : ℕ) (session : Session) (desktop : Desktop) (mark : Option ℕ) (m : Option T) → ButIf (written_to session m) desktop (read_or_not (desktop_for c) session desktop mark m)
unfolding answer_read
read_or_not_leaves c session desktop mark None = tt
read_or_not_leaves c session desktop mark (Some m) =
    after_step _ (refuse_if (not (is_version m) && (tag_of_t m == no_tag)) 30) _ (λ _ _.
    after_step _ (refuse_if (not (is_version m) && not session.agreed) 31) _ (λ _ _. answer_to_leaves c session desktop mark m))

replied_leaves : (wrote : ℕ) (session : Session) (desktop : Desktop) (tag : ℕ) (o : Outcome (Left Desktop)) → ButIf wrote desktop o → LeavesBut wrote desktop (replied session desktop tag o).rest
replied_leaves wrote session desktop tag (Ok l) leaves = leaves
replied_leaves wrote session desktop tag (Err n) leaves = but wrote desktop desktop (leaves_same desktop)

pub answer_leaves : (c : ℕ) (session : Session) (desktop : Desktop) (bytes : List ℕ) (mark : Option ℕ) → LeavesBut (written_at session bytes) desktop (answer (desktop_for c) session desktop bytes mark).rest
unfolding answer written_at
answer_leaves c session desktop bytes mark = by (taking session bytes)
  where
    by : (t : Taking) → LeavesBut (written_in session bytes t) desktop (taken (desktop_for c) session desktop bytes mark t).rest
    by Ignored = but 0 desktop desktop (leaves_same desktop)
    by TooLong = but 0 desktop desktop (leaves_same desktop)
    by Closes = but 0 desktop _ (cleared_leaves c session desktop)
    by Reads = replied_leaves (written_to session (message_of bytes)) session desktop (tag_of bytes) _ (read_or_not_leaves c session desktop mark (message_of bytes))

-- ---- late answers

abbrev IsLateQuiet : Desktop → Option (Left Desktop) → Type 0
IsLateQuiet desktop o = IfSome o (λ l. IsQuiet desktop l.rest)

late_quiet : (c : ℕ) (session : Session) (desktop : Desktop) (tag : ℕ) (wait : Wait) (fid : Outcome Fid) (later : Option (Left Desktop)) → IsLateQuiet desktop later
    → IsLateQuiet desktop (answered_or session desktop tag wait (given_or_refused (desktop_for c) desktop wait.count fid) later)
late_quiet c session desktop tag wait (Err n) later quiet = quiet_same desktop
late_quiet c session desktop tag wait (Ok fid) later quiet = by (given_now (desktop_for c) desktop fid wait.count fid.node.kind) (given_now_quiet c desktop fid wait.count fid.node.kind)
  where
    by : (o : Option (Given Desktop)) → IsGivenQuiet desktop o → IsLateQuiet desktop (answered_or session desktop tag wait (option_map Ok o) later)
    by None is = quiet
    by (Some got) is = is

first_quiet : (c : ℕ) (session : Session) (desktop : Desktop) (before after : List (ℕ × Wait)) → IsLateQuiet desktop (first_of (desktop_for c) session desktop before after)
unfolding first_of wait_answer
first_quiet c session desktop before [] = tt
first_quiet c session desktop before ((tag, wait) ∷ after) =
    late_quiet c (record session { waiting = before ++ after }) desktop tag wait (awaited (desktop_for c) session desktop wait) _ (first_quiet c session desktop (before ++ (tag, wait) ∷ []) after)

pub one_quiet : (c : ℕ) (session : Session) (desktop : Desktop) (after : Left Desktop) → one_answered (desktop_for c) session desktop ≡ Some after → IsQuiet desktop after.rest
one_quiet c session desktop after is =
    let P : Option (Left Desktop) → Type 0 = λ o. IsLateQuiet desktop o in subst P is (first_quiet c session desktop [] session.waiting)
