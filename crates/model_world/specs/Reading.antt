-- Reading what is open (read(5), draw(3), rio(4)).
use Rattle.std.specs.Prelude.{ℕ, ◌+◌, ◌-◌, ◌==◌, ◌&&◌, pos, Bool, false, not, min, nat_le, nat_lt, is_none, List, [], ◌∷◌, ◌++◌, length, take, drop, Option, Some, None, Ok, Err, if◌then◌else◌}
use Rattle.std.specs.List.{concat}
use Rattle.std.specs.Option.{option_map, option_map_or}
use Rattle.model_draw.specs.imgfile.ImageFile.{file_part}
use Rattle.model_text.specs.text.Field.{number_field}
use Rattle.model_text.specs.text.Outcome.{Outcome, ◌>>=◌, refuse_if}
use Rattle.model_history.specs.declared.words.Size.{Size}
use Rattle.model_files.specs.wire.Message.{Rread}
use Rattle.model_files.specs.mouse.Queue.{answer_text}
use Rattle.model_files.specs.console.Console as console
use Rattle.model_rio.specs.window.Heard.{MouseRead, ConsoleRead, wctl_answer, wctl_text, winid_text}
use Rattle.model_files.specs.declared.tree.Kind.{Kind}
use Rattle.model_files.specs.declared.tree.Kind.TheVariants as kind
use Rattle.model_files.specs.tree.Node.{Node, reads, is_directory}
use Rattle.model_files.specs.tree.Tree.{check_live}
use Rattle.model_files.specs.tree.Listing.{stats, fitting}
use Rattle.model_world.specs.Session.{Kept, Fid, Wait, Session}
use Rattle.model_world.specs.Outside.{Outside}
use Rattle.model_world.specs.Fids.{Left, left, unanswered, fid_of, with_fid}

-- only the read that follows the last one goes on
abbrev pub goes_on : Option Kept → (offset : ℕ) → Outcome Kept
goes_on None offset = Err 39
goes_on (Some kept) offset = if kept.next == offset then Ok kept else Err 39

-- As many whole stats as fit, and what is left of the listing: 46 where some are left and none fits.
unfoldable pub given : Kept → (count : ℕ) → Outcome (Kept × List ℕ)
given kept count = do
  _ ← refuse_if (not (length kept.left == 0) && (length (fitting count kept.left) == 0)) 46
  Ok (
    record {
      left = drop (length (fitting count kept.left)) kept.left;
      next = kept.next + length (concat (fitting count kept.left));
    },
    concat (fitting count kept.left),
  )

-- a read that gives from there, and what the fid keeps after it
abbrev pub read_from : Kept → Fid → (count : ℕ) → Outcome (Fid × List ℕ)
read_from kept fid count = given kept count >>= λ got. Ok (record fid { kept = Some got.0 }, got.1)

-- a read that goes on
abbrev pub read_further : Fid → (offset count : ℕ) → Outcome (Fid × List ℕ)
read_further fid offset count = goes_on fid.kept offset >>= λ kept. read_from kept fid count

-- a read of a directory whose listing is this: all anew at the front
unfoldable pub directory_read : (anew : List (List ℕ)) → Fid → (offset count : ℕ) → Outcome (Fid × List ℕ)
directory_read anew fid offset count =
    if offset == 0 then read_from (record { left = anew; next = 0 }) fid count else read_further fid offset count

abbrev pub is_open_for : (ℕ → Bool) → Fid → Bool
is_open_for test fid = option_map_or test fid.mode false

-- so many bytes tell what ctl describes
abbrev pub ctl_len : ℕ
ctl_len = 144

-- ctl tells all at its front, and nothing behind it
unfoldable pub ctl_read : {S : Type 0} → Outside S → S → Node → (offset count : ℕ) → Outcome (List ℕ)
ctl_read outside rest node offset count =
    if not (offset == 0) then Ok []
    else refuse_if (nat_lt count ctl_len) 25 >>= λ _. outside.read_ctl rest node.connection

-- both sides of the display
abbrev pub size_text : Size → List ℕ
size_text size = number_field (pos size.width) ++ number_field (pos size.height)

-- the bytes of what a file has, from an offset on
abbrev pub at_offset : (contents : List ℕ) → (offset count : ℕ) → List ℕ
at_offset contents offset count = take count (drop offset contents)

-- what a read leaves of its fid and outside, and the bytes that it gives
pub record Given (S : Type 0) : Type 0 where
  pub fid : Fid
  pub rest : S
  pub bytes : List ℕ

abbrev pub given_by : {S : Type 0} → Fid → S → List ℕ → Given S
given_by fid rest bytes = record { fid = fid; rest = rest; bytes = bytes }

-- so many bytes hold what wctl tells
abbrev pub wctl_len : ℕ
wctl_len = 72

-- so many bytes hold an event of the mouse
abbrev pub mouse_len : ℕ
mouse_len = 49

-- ---- reads that may wait

-- What a file gives now that may have nothing to give, and None where its read waits: an event of the mouse, of the console an
-- ended line, the text of `wctl` where it is not the one that the fid gave last. A read of `refresh` always waits.
abbrev pub given_now : {S : Type 0} → Outside S → S → Fid → (count : ℕ) → Kind → Option (Given S)
given_now outside rest fid count kind.Mouse =
    option_map (given_by fid (outside.hear rest fid.node.serial MouseRead)) (answer_text (outside.pane rest fid.node.serial).mouse)
given_now outside rest fid count kind.Cons =
    option_map (given_by fid (outside.hear rest fid.node.serial (ConsoleRead count))) (console.read count (outside.pane rest fid.node.serial).console)
given_now outside rest fid count kind.Wctl =
    option_map (λ text. given_by (record fid { told = Some text }) rest text) (wctl_answer fid.told (wctl_text (outside.pane rest fid.node.serial).known))
given_now outside rest fid count _ = None

-- the same where fewer bytes than that do not do
abbrev pub given_in : {S : Type 0} → Outside S → S → Fid → (least count : ℕ) → Kind → Outcome (Option (Given S))
given_in outside rest fid least count kind = refuse_if (nat_lt count least) 46 >>= λ _. Ok (given_now outside rest fid count kind)

-- ---- each file

-- bytes that a read gives at once, and that change nothing
abbrev pub told_now : {S : Type 0} → Fid → S → List ℕ → Outcome (Option (Given S))
told_now fid rest bytes = Ok (Some (given_by fid rest bytes))

-- What a file gives, told anew by each read; None where the read waits.
abbrev pub file_read : {S : Type 0} → Outside S → S → Fid → (offset count : ℕ) → Kind → Outcome (Option (Given S))
file_read outside rest fid offset count kind.Ctl = ctl_read outside rest fid.node offset count >>= told_now fid rest
file_read outside rest fid offset count kind.Data =
    outside.read_data rest fid.node.connection count >>= λ got. told_now fid got.1 got.0
file_read outside rest fid offset count kind.Screen =
    told_now fid rest (file_part (outside.picture rest fid.node.serial) offset count)
file_read outside rest fid offset count kind.Snarf =
    told_now fid rest (at_offset (outside.snarf rest fid.node.serial) offset count)
file_read outside rest fid offset count kind.Hwsize =
    told_now fid rest (at_offset (size_text (outside.size rest)) offset count)
file_read outside rest fid offset count kind.Label =
    told_now fid rest (at_offset (outside.pane rest fid.node.serial).label offset count)
file_read outside rest fid offset count kind.Text =
    told_now fid rest (at_offset (console.text (outside.pane rest fid.node.serial).console) offset count)
file_read outside rest fid offset count kind.Winid =
    told_now fid rest (at_offset (winid_text (outside.pane rest fid.node.serial).known) offset count)
file_read outside rest fid offset count kind.Winname =
    told_now fid rest (at_offset (outside.pane rest fid.node.serial).known.name offset count)
file_read outside rest fid offset count kind.Picture =
    told_now fid rest (file_part (outside.picture rest fid.node.serial) offset count)
file_read outside rest fid offset count kind.Mouse = given_in outside rest fid mouse_len count kind.Mouse
file_read outside rest fid offset count kind.Wctl = given_in outside rest fid wctl_len count kind.Wctl
file_read outside rest fid offset count kind = Ok (given_now outside rest fid count kind)

-- a directory gives of its listing, and the fid keeps the rest of it
abbrev pub node_read : {S : Type 0} → Outside S → (connections : List ℕ) → S → Fid → (offset count : ℕ) → Outcome (Option (Given S))
node_read outside connections rest fid offset count =
    if is_directory fid.node
    then (directory_read (stats (outside.view rest connections fid.node) fid.node) fid offset count >>= λ got. told_now got.0 rest got.1)
    else file_read outside rest fid offset count fid.node.kind

-- ---- the reply to a read

-- so many reads of a session wait at most
abbrev pub most_waiting : ℕ
most_waiting = 64

-- a read that waits from now on is the last to have come
abbrev pub parked : Session → (tag : ℕ) → Wait → Session
parked session tag wait = record session { waiting = session.waiting ++ (tag, wait) ∷ [] }

-- A read that gives something is answered. One that has nothing to give waits, where not too many do.
abbrev pub read_ended : {S : Type 0} → Session → S → (tag fid count : ℕ) → Option (Given S) → Outcome (Left S)
read_ended session rest tag number count (Some got) = Ok (left (with_fid session number got.fid, got.rest) (Rread tag got.bytes))
read_ended session rest tag number count None = do
  _ ← refuse_if (nat_le most_waiting (length session.waiting)) 45
  Ok (unanswered (parked session tag (record { fid = number; count = count }), rest))

-- at most what a message holds is given
abbrev pub count_within : Session → (count : ℕ) → ℕ
count_within session count = min count (session.msize - 11)

-- A read is answered, or waits.
unfoldable pub read_answer : {S : Type 0} → Outside S → Session → S → (tag fid offset count : ℕ) → Outcome (Left S)
read_answer outside session rest tag number offset count = do
  fid ← fid_of session number
  _ ← refuse_if (is_none fid.mode) 37
  _ ← refuse_if (not (is_open_for reads fid)) 38
  _ ← check_live (outside.view rest session.connections fid.node) fid.node
  got ← node_read outside session.connections rest fid offset (count_within session count)
  read_ended session rest tag number (count_within session count) got
