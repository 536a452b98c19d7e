-- Writing what is open (write(5), draw(3), rio(4)).
use Rattle.std.specs.Prelude.{ℕ, ◌+◌, ◌-◌, ◌==◌, ◌^◌, ◌&&◌, ◌||◌, Bool, true, false, not, is_none, nat_le, List, ◌++◌, length, take, slice_index, codes, Option, Some, None, Ok, Err, if◌then◌else◌}
use Rattle.std.specs.List.{list_any}
use Rattle.std.specs.Str.{bytes_eq, is_utf8, chars}
use Rattle.model_text.specs.text.Outcome.{Outcome, ◌>>=◌, refuse_if, value_or_refuse}
use Rattle.model_history.specs.words.Values.{sides_of}
use Rattle.model_files.specs.wire.Message.{R, Rwrite}
use Rattle.model_files.specs.mouse.Pointer.{pointer_of}
use Rattle.model_rio.specs.window.Heard.{Raw, Written, Labelled}
use Rattle.model_files.specs.declared.tree.Kind.{Kind}
use Rattle.model_files.specs.declared.tree.Kind.TheVariants as kind
use Rattle.model_files.specs.tree.Node.{Node, writes}
use Rattle.model_files.specs.tree.Tree.{check_live}
use Rattle.model_world.specs.Session.{Session}
use Rattle.model_world.specs.Outside.{Outside}
use Rattle.model_world.specs.Refusal.{refusal}
use Rattle.model_world.specs.Fids.{Left, left, fid_of}
use Rattle.model_world.specs.Reading.{is_open_for}

-- so many bytes of snarf are kept at most
abbrev pub most_snarf : ℕ
most_snarf = 2 ^ 20

-- A write at the front of snarf replaces it, and one at its end goes on. Elsewhere, and past the most that is kept, it is 39.
abbrev pub snarf_written : (old : List ℕ) → (offset : ℕ) → List ℕ → Outcome (List ℕ)
snarf_written old offset bytes =
    if offset == 0 then (if nat_le (length bytes) most_snarf then Ok bytes else Err 39)
    else if (offset == length old) && nat_le (length old + length bytes) most_snarf then Ok (old ++ bytes)
    else Err 39

-- so many characters are typed by one write at most
abbrev pub most_keys : ℕ
most_keys = 64

-- 1 to 64 characters of UTF-8, none of them 0
unfoldable pub are_keys : List ℕ → Bool
are_keys bytes =
    is_utf8 bytes && nat_le 1 (length (chars bytes)) && nat_le (length (chars bytes)) most_keys && not (list_any (λ byte. byte == 0) bytes)

-- a text without the newline that may end it
abbrev pub line_of : List ℕ → List ℕ
line_of text = if slice_index text (length text - 1) == 10 then take (length text - 1) text else text

-- What a word written to `consctl` makes of raw mode: `holdon` and `holdoff` leave it. Another word is 47.
abbrev pub raw_asked : (word : List ℕ) → Outcome (Option Bool)
raw_asked word =
    if bytes_eq word (codes "rawon") then Ok (Some true)
    else if bytes_eq word (codes "rawoff") then Ok (Some false)
    else if bytes_eq word (codes "holdon") || bytes_eq word (codes "holdoff") then Ok None
    else Err 47

abbrev pub with_raw_asked : {S : Type 0} → Outside S → S → (window : ℕ) → Option Bool → S
with_raw_asked outside rest window None = rest
with_raw_asked outside rest window (Some raw) = outside.hear rest window (Raw raw)

-- a write that leaves nothing where it is refused
abbrev pub whole_or_refused : {S : Type 0} → Outcome S → Outcome (S × Option ℕ)
whole_or_refused defined = defined >>= λ next. Ok (next, None)

-- What a write leaves outside, and the refusal of one that may leave something all the same. A write to `mouse` has no effect, and no
-- other files open for writing.
abbrev pub file_written : {S : Type 0} → Outside S → S → Node → (offset : ℕ) → List ℕ → Option ℕ → Kind → Outcome (S × Option ℕ)
file_written outside rest node offset bytes mark kind.Ctl = whole_or_refused (outside.write_ctl rest node.connection bytes)
file_written outside rest node offset bytes mark kind.Data = Ok (outside.write_data rest node.connection bytes mark)
file_written outside rest node offset bytes mark kind.Mousein =
    whole_or_refused (value_or_refuse (pointer_of bytes) 51 >>= λ e. Ok (outside.mouse rest e))
file_written outside rest node offset bytes mark kind.Kbdin =
    whole_or_refused (refuse_if (not (are_keys bytes)) 51 >>= λ _. Ok (outside.keys rest bytes))
file_written outside rest node offset bytes mark kind.Hwsize =
    whole_or_refused (value_or_refuse (sides_of (line_of bytes)) 51 >>= λ size. outside.with_size rest size)
file_written outside rest node offset bytes mark kind.Snarf =
    whole_or_refused (snarf_written (outside.snarf rest node.serial) offset bytes >>= λ new. Ok (outside.with_snarf rest node.serial new))
file_written outside rest node offset bytes mark kind.DeviceWctl = whole_or_refused (outside.device_command rest bytes)
file_written outside rest node offset bytes mark kind.Cons = Ok (outside.hear rest node.serial (Written bytes), None)
file_written outside rest node offset bytes mark kind.Consctl =
    whole_or_refused (raw_asked (line_of bytes) >>= λ asked. Ok (with_raw_asked outside rest node.serial asked))
file_written outside rest node offset bytes mark kind.Mouse = Ok (rest, None)
file_written outside rest node offset bytes mark kind.Label = Ok (outside.hear rest node.serial (Labelled bytes), None)
file_written outside rest node offset bytes mark kind.Wctl = whole_or_refused (outside.command rest node.serial bytes)
file_written outside rest node offset bytes mark _ = Err 38

abbrev pub write_reply : (tag count : ℕ) → Option ℕ → R
write_reply tag count None = Rwrite tag count
write_reply tag count (Some n) = refusal tag n

unfoldable pub write_answer : {S : Type 0} → Outside S → Session → S → (tag fid offset : ℕ) → List ℕ → Option ℕ → Outcome (Left S)
write_answer outside session rest tag number offset bytes mark = do
  fid ← fid_of session number
  _ ← refuse_if (is_none fid.mode) 37
  _ ← refuse_if (not (is_open_for writes fid)) 38
  _ ← check_live (outside.view rest session.connections fid.node) fid.node
  after ← file_written outside rest fid.node offset bytes mark fid.node.kind
  Ok (left (session, after.0) (write_reply tag (length bytes) after.1))
