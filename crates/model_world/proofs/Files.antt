-- What a read or a write of a file leaves the draw device, and that it is not refused for want of memory where that changes nothing.
use Rattle.std.proofs.Common.{ℕ, Bool, not, List, length, Option, Some, None, Ok, Err, refl, arith}
use Rattle.std.specs.Prelude.{◌+◌, ◌==◌, ◌&&◌, ◌||◌, codes, nat_le, nat_lt}
use Rattle.std.specs.Option.{option_map}
use Rattle.std.specs.Str.{bytes_eq}
use Rattle.model_text.specs.text.Outcome.{Outcome, ◌>>=◌, refuse_if, value_or_refuse}
use Rattle.model_history.specs.words.Values.{sides_of}
use Rattle.model_files.specs.mouse.Pointer.{pointer_of}
use Rattle.model_files.specs.mouse.Queue.{answer_text}
use Rattle.model_files.specs.console.Console as console
use Rattle.model_rio.specs.window.Heard.{ConsoleRead, Labelled, MouseRead, Raw, Written, wctl_answer, wctl_text}
use Rattle.model_files.specs.declared.tree.Kind.{Kind}
use Rattle.model_files.specs.declared.tree.Kind.TheVariants as kind
use Rattle.model_files.specs.tree.Node.{Node, is_directory}
use Rattle.model_files.specs.tree.Listing.{fitting, stats}
use Rattle.model_draw.specs.draw.World as draw
use Rattle.model_world.specs.Session.{Fid, Kept}
use Rattle.model_world.specs.Outside.{Outside}
use Rattle.model_world.specs.Reading.{Given, ctl_len, ctl_read, directory_read, file_read, given, given_in, given_now, goes_on, mouse_len, node_read, read_from, wctl_len}
use Rattle.model_world.specs.Writing.{are_keys, file_written, line_of, most_snarf, raw_asked, snarf_written, whole_or_refused, with_raw_asked}
use Rattle.model_world.proofs.Others.{IsOther, IsTold, behind_known, behind_step, by_case, refused_by, value_by}
use Rattle.model_world.proofs.Kept.{IsReadSame, IsSame, KeepsConnections}

module _ {S : Type 0} (c : ℕ) (outside : Outside S) (device : S → draw.World) (keeps : KeepsConnections c outside device) where
  -- ---- reads

  given_told : (kept : Kept) (count : ℕ) → IsTold (given kept count)
  unfolding given
  given_told kept count =
      behind_step _ (refuse_if (not (length kept.left == 0) && (length (fitting count kept.left) == 0)) 46) _ (refused_by _ 46 (λ e. omega (arith, e))) (λ _. tt)

  from_told : (kept : Kept) (fid : Fid) (count : ℕ) → IsTold (read_from kept fid count)
  from_told kept fid count = behind_step _ (given kept count) _ (given_told kept count) (λ _. tt)

  on_told : (kept : Option Kept) (offset : ℕ) → IsTold (goes_on kept offset)
  on_told None offset = λ e. omega (arith, e)
  on_told (Some kept) offset = by_case _ (kept.next == offset) _ _ tt (λ e. omega (arith, e))

  directory_told : (anew : List (List ℕ)) (fid : Fid) (offset count : ℕ) → IsTold (directory_read anew fid offset count)
  unfolding directory_read
  directory_told anew fid offset count =
      by_case _ (offset == 0) _ _
      (from_told (record { left = anew; next = 0 }) fid count)
      (behind_step _ (goes_on fid.kept offset) _ (on_told fid.kept offset) (λ kept. from_told kept fid count))

  ctl_told : (rest : S) (node : Node) (offset count : ℕ) → IsTold (ctl_read outside rest node offset count)
  unfolding ctl_read
  ctl_told rest node offset count =
      by_case _ (not (offset == 0)) _ _ tt
      (behind_step _ (refuse_if (nat_lt count ctl_len) 25) _ (refused_by _ 25 (λ e. omega (arith, e))) (λ _. keeps.read_ctl rest node.connection))

  -- what is given leaves the device its connections
  abbrev pub IsGivenSame : S → Option (Given S) → Type 0
  IsGivenSame rest None = Unit {0}
  IsGivenSame rest (Some got) = IsSame c outside device rest got.rest

  text_same : (rest : S) (given : List ℕ → Given S) (text : Option (List ℕ)) → ((bytes : List ℕ) → IsSame c outside device rest (given bytes).rest) → IsGivenSame rest (option_map given text)
  text_same rest given None same = tt
  text_same rest given (Some bytes) same = same bytes

  pub given_now_same : (rest : S) (fid : Fid) (count : ℕ) (k : Kind) → IsGivenSame rest (given_now outside rest fid count k)
  given_now_same rest fid count kind.Mouse = text_same rest _ (answer_text (outside.pane rest fid.node.serial).mouse) (λ _. keeps.hear rest fid.node.serial MouseRead)
  given_now_same rest fid count kind.Cons = text_same rest _ (console.read count (outside.pane rest fid.node.serial).console) (λ _. keeps.hear rest fid.node.serial (ConsoleRead count))
  given_now_same rest fid count kind.Wctl = text_same rest _ (wctl_answer fid.told (wctl_text (outside.pane rest fid.node.serial).known)) (λ _. refl)
  given_now_same rest fid count _ = tt

  given_in_same : (rest : S) (fid : Fid) (least count : ℕ) (k : Kind) → IsOther (IsGivenSame rest) (given_in outside rest fid least count k)
  given_in_same rest fid least count k =
      behind_step _ (refuse_if (nat_lt count least) 46) _ (refused_by _ 46 (λ e. omega (arith, e))) (λ _. given_now_same rest fid count k)

  file_read_same : (rest : S) (fid : Fid) (offset count : ℕ) (k : Kind) → IsOther (IsGivenSame rest) (file_read outside rest fid offset count k)
  file_read_same rest fid offset count kind.Ctl = behind_step _ (ctl_read outside rest fid.node offset count) _ (ctl_told rest fid.node offset count) (λ _. refl)
  file_read_same rest fid offset count kind.Data =
      behind_known _ (IsReadSame c outside device rest) (outside.read_data rest fid.node.connection count) _ (keeps.read_data rest fid.node.connection count) (λ got same. same)
  file_read_same rest fid offset count kind.Screen = refl
  file_read_same rest fid offset count kind.Snarf = refl
  file_read_same rest fid offset count kind.Hwsize = refl
  file_read_same rest fid offset count kind.Label = refl
  file_read_same rest fid offset count kind.Text = refl
  file_read_same rest fid offset count kind.Winid = refl
  file_read_same rest fid offset count kind.Winname = refl
  file_read_same rest fid offset count kind.Picture = refl
  file_read_same rest fid offset count kind.Mouse = given_in_same rest fid mouse_len count kind.Mouse
  file_read_same rest fid offset count kind.Wctl = given_in_same rest fid wctl_len count kind.Wctl
  file_read_same rest fid offset count kind.Cons = given_now_same rest fid count kind.Cons
  file_read_same rest fid offset count _ = tt

  pub node_read_same : (connections : List ℕ) (rest : S) (fid : Fid) (offset count : ℕ) → IsOther (IsGivenSame rest) (node_read outside connections rest fid offset count)
  node_read_same connections rest fid offset count =
      by_case _ (is_directory fid.node) _ _
      (behind_step _ (directory_read (stats (outside.view rest connections fid.node) fid.node) fid offset count) _
      (directory_told (stats (outside.view rest connections fid.node) fid.node) fid offset count) (λ _. refl))
      (file_read_same rest fid offset count fid.node.kind)

  -- ---- writes

  abbrev pub IsAfterSame : S → S × Option ℕ → Type 0
  IsAfterSame rest after = IsSame c outside device rest after.0

  whole_same : (rest : S) (o : Outcome S) → IsOther (IsSame c outside device rest) o → IsOther (IsAfterSame rest) (whole_or_refused o)
  whole_same rest (Ok next) same = same
  whole_same rest (Err n) other = other

  snarf_told : (old : List ℕ) (offset : ℕ) (bytes : List ℕ) → IsTold (snarf_written old offset bytes)
  snarf_told old offset bytes =
      by_case _ (offset == 0) _ _
      (by_case _ (nat_le (length bytes) most_snarf) _ _ tt (λ e. omega (arith, e)))
      (by_case _ ((offset == length old) && nat_le (length old + length bytes) most_snarf) _ _ tt (λ e. omega (arith, e)))

  raw_told : (word : List ℕ) → IsTold (raw_asked word)
  raw_told word =
      by_case _ (bytes_eq word (codes "rawon")) _ _ tt
      (by_case _ (bytes_eq word (codes "rawoff")) _ _ tt
      (by_case _ (bytes_eq word (codes "holdon") || bytes_eq word (codes "holdoff")) _ _ tt (λ e. omega (arith, e))))

  raw_same : (rest : S) (window : ℕ) (asked : Option Bool) → IsSame c outside device rest (with_raw_asked outside rest window asked)
  raw_same rest window None = refl
  raw_same rest window (Some raw) = keeps.hear rest window (Raw raw)

  pub file_written_same : (rest : S) (node : Node) (offset : ℕ) (bytes : List ℕ) (mark : Option ℕ) (k : Kind)
      → IsOther (IsAfterSame rest) (file_written outside rest node offset bytes mark k)
  file_written_same rest node offset bytes mark kind.Ctl =
      whole_same rest (outside.write_ctl rest node.connection bytes) (keeps.write_ctl rest node.connection bytes)
  file_written_same rest node offset bytes mark kind.Data = keeps.write_data rest node.connection bytes mark
  file_written_same rest node offset bytes mark kind.Mousein =
      whole_same rest (value_or_refuse (pointer_of bytes) 51 >>= λ e. Ok (outside.mouse rest e))
      (behind_step _ (value_or_refuse (pointer_of bytes) 51) _ (value_by _ 51 (λ e. omega (arith, e))) (λ e. keeps.mouse rest e))
  file_written_same rest node offset bytes mark kind.Kbdin =
      whole_same rest (refuse_if (not (are_keys bytes)) 51 >>= λ _. Ok (outside.keys rest bytes))
      (behind_step _ (refuse_if (not (are_keys bytes)) 51) _ (refused_by _ 51 (λ e. omega (arith, e))) (λ _. keeps.keys rest bytes))
  file_written_same rest node offset bytes mark kind.Hwsize =
      whole_same rest (value_or_refuse (sides_of (line_of bytes)) 51 >>= λ size. outside.with_size rest size)
      (behind_step _ (value_or_refuse (sides_of (line_of bytes)) 51) _ (value_by _ 51 (λ e. omega (arith, e))) (λ size. keeps.with_size rest size))
  file_written_same rest node offset bytes mark kind.Snarf =
      let old = outside.snarf rest node.serial in
      whole_same rest (snarf_written old offset bytes >>= λ new. Ok (outside.with_snarf rest node.serial new))
      (behind_step _ (snarf_written old offset bytes) _ (snarf_told old offset bytes) (λ new. keeps.with_snarf rest node.serial new))
  file_written_same rest node offset bytes mark kind.DeviceWctl = whole_same rest (outside.device_command rest bytes) (keeps.device_command rest bytes)
  file_written_same rest node offset bytes mark kind.Cons = keeps.hear rest node.serial (Written bytes)
  file_written_same rest node offset bytes mark kind.Consctl =
      whole_same rest (raw_asked (line_of bytes) >>= λ asked. Ok (with_raw_asked outside rest node.serial asked))
      (behind_step _ (raw_asked (line_of bytes)) _ (raw_told (line_of bytes)) (λ asked. raw_same rest node.serial asked))
  file_written_same rest node offset bytes mark kind.Mouse = refl
  file_written_same rest node offset bytes mark kind.Label = keeps.hear rest node.serial (Labelled bytes)
  file_written_same rest node offset bytes mark kind.Wctl = whole_same rest (outside.command rest node.serial bytes) (keeps.command rest node.serial bytes)
  file_written_same rest node offset bytes mark _ = λ e. omega (arith, e)
