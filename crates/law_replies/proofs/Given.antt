-- What a read gives fits into a message.
use Rattle.std.proofs.Common.{◌≡◌, ◌<◌, ◌≤◌, ◌+◌, ◌-◌, ℕ, Bool, true, false, leb, List, [], ◌∷◌, length, take, drop, Option, Some, None, Ok, Err, inl, inr, refl, arith, length-append, length-take}
use Rattle.std.specs.Prelude.{◌&&◌, ◌==◌, IfOk, IfSome, not, nat_le, nat_lt, if◌then◌else◌}
use Rattle.std.specs.List.{concat}
use Rattle.std.specs.Option.{option_map}
use Rattle.std.specs.Str.{bytes_eq}
use Rattle.std.proofs.lemmas.Bool.{cond_both, leb-true, leb-false, ltb-false}
use Rattle.model_text.specs.text.Outcome.{Outcome, ◌>>=◌, refuse_if}
use Rattle.model_files.specs.declared.mouse.Mouse.{Mouse as Pointer}
use Rattle.model_files.specs.mouse.Pointer.{text}
use Rattle.model_files.specs.mouse.Queue.{answer}
use Rattle.model_files.specs.console.Console as console
use Rattle.model_files.specs.declared.tree.Kind.{Kind}
use Rattle.model_files.specs.declared.tree.Kind.TheVariants as kind
use Rattle.model_files.specs.tree.Node.{Node, is_directory}
use Rattle.model_files.specs.tree.Listing.{fitting, stats}
use Rattle.model_rio.specs.window.Heard.{ConsoleRead, Known, MouseRead, wctl_answer, wctl_text}
use Rattle.model_draw.specs.draw.Files.{description, read_ctl, read_data}
use Rattle.model_draw.specs.draw.World.{World as Device, at_number, client_of, look, with_client}
use Rattle.model_world.specs.Session.{Fid, Kept}
use Rattle.model_world.specs.Outside.{Outside}
use Rattle.model_world.specs.Reading.{Given, ctl_len, ctl_read, directory_read, file_read, given, given_by, given_in, given_now, goes_on, mouse_len, node_read, read_from, wctl_len}
use Rattle.model_world.specs.Desktop.{Desktop}
use Rattle.model_world.specs.Whole.{client, data_read, desktop_for, with_device}
use Rattle.model_world.proofs.Others.{after_if, after_step}
use Rattle.law_replies.specs.Answers.{IsWideText, of_image, of_mouse, of_window}
use Rattle.law_replies.proofs.Lengths.{FitsRead}

-- what an outside tells of the draw device fits
pub record Tells {S : Type 0} (outside : Outside S) : Type 0 where
  pub pixels : (rest : S) (n most : ℕ) → IfOk (outside.read_data rest n most) (λ got. length got.0 ≤ most)
  pub ctl : (rest : S) (n msize : ℕ) → 256 ≤ msize → IfOk (outside.read_ctl rest n) (FitsRead msize)

-- bytes that fit unless they are wide
narrow : (bytes : List ℕ) (n msize : ℕ) → n + 11 ≤ msize → (n < length bytes → IsWideText bytes) → FitsRead msize bytes
narrow bytes n msize room wide = by (leb (length bytes) n) refl
  where
    by : (b : Bool) → leb (length bytes) n ≡ b → FitsRead msize bytes
    by true is = let few = leb-true (length bytes) n is in inl (omega (arith, few, room))
    by false is = inr (wide (leb-false (length bytes) n is))

pub mouse_fits : (letter : ℕ) (e : Pointer) (msize : ℕ) → 256 ≤ msize → FitsRead msize (text letter e)
mouse_fits letter e msize least = narrow (text letter e) 49 msize (omega (arith, least)) (λ long. of_mouse letter e refl long)

pub wctl_fits : (known : Known) (msize : ℕ) → 256 ≤ msize → FitsRead msize (wctl_text known)
wctl_fits known msize least = narrow (wctl_text known) 72 msize (omega (arith, least)) (λ long. of_window known refl long)

data_short : (k : ℕ) (desktop : Desktop) (most : ℕ) → IfOk (data_read k desktop most) (λ got. length got.0 ≤ most)
unfolding data_read read_data
data_short k desktop most = by (refuse_if (length (client_of desktop.device k).pending == 0) 26) (nat_lt most (length (client_of desktop.device k).pending)) refl
  where
    pending : List ℕ
    pending = (client_of desktop.device k).pending

    read : Outcome (List ℕ × Device)
    read = Ok (pending, with_client desktop.device k (record (client_of desktop.device k) { pending = [] }))

    by : (some : Outcome (Unit {0})) (b : Bool) → nat_lt most (length pending) ≡ b
        → IfOk ((some >>= λ _. refuse_if b 25 >>= λ _. read) >>= λ got. Ok (got.0, with_device desktop got.1)) (λ (got : List ℕ × Desktop). length got.0 ≤ most)
    by (Ok _) true is = tt
    by (Ok _) false is = ltb-false most (length pending) is
    by (Err n) b is = tt

ctl_told : (k n msize : ℕ) (device : Device) → 256 ≤ msize → IfOk (read_ctl k device n) (FitsRead msize)
unfolding read_ctl
ctl_told k n msize device least = after_step _ (look device k (client_of device k).described) _ (λ i _.
    let id = (client_of device k).described in
    narrow (description n id (at_number device i)) 144 msize (omega (arith, least)) (λ long. of_image n id (at_number device i) refl long))

pub desktop_tells : (c : ℕ) → Tells (desktop_for c)
desktop_tells c = record {
  pixels = λ desktop n most. data_short (client c n) desktop most;
  ctl = λ desktop n msize least. ctl_told (client c n) n msize desktop.device least;
}

-- ---- the console, and parts of files

read_short : (count : ℕ) (c : console.Console) → IfSome (console.read count c) (λ bytes. length bytes ≤ count)
unfolding console.read
read_short count c = cond_both (count == 0) (Some []) (console.given count c.ended) (λ (o : Option (List ℕ)). IfSome o (λ bytes. length bytes ≤ count)) (λ _. omega arith) (λ _. given c.ended)
  where
    given : (lines : List (List ℕ)) → IfSome (console.given count lines) (λ bytes. length bytes ≤ count)
    given [] = tt
    given (line ∷ lines) = omega (arith, length-take count line)

fitting_short : (count : ℕ) (pieces : List (List ℕ)) → length (concat (fitting count pieces)) ≤ count
fitting_short count [] = omega arith
fitting_short count (piece ∷ pieces) = by (nat_le (length piece) count) refl (fitting_short (count - length piece) pieces)
  where
    by : (b : Bool) → nat_le (length piece) count ≡ b → length (concat (fitting (count - length piece) pieces)) ≤ count - length piece
        → length (concat (if b then piece ∷ fitting (count - length piece) pieces else [])) ≤ count
    by true is more = let few = leb-true (length piece) count is in omega (arith, few, more, length-append piece (concat (fitting (count - length piece) pieces)))
    by false is more = omega arith

given_short : (kept : Kept) (count : ℕ) → IfOk (given kept count) (λ got. length got.1 ≤ count)
unfolding given
given_short kept count =
    after_step _ (refuse_if (not (length kept.left == 0) && (length (fitting count kept.left) == 0)) 46) _ (λ _ _. fitting_short count kept.left)

from_short : (kept : Kept) (fid : Fid) (count : ℕ) → IfOk (read_from kept fid count) (λ got. length got.1 ≤ count)
from_short kept fid count = after_if _ (λ (got : Kept × List ℕ). length got.1 ≤ count) (given kept count) _ (given_short kept count) (λ got short. short)

directory_short : (anew : List (List ℕ)) (fid : Fid) (offset count : ℕ) → IfOk (directory_read anew fid offset count) (λ got. length got.1 ≤ count)
unfolding directory_read
directory_short anew fid offset count =
    cond_both (offset == 0) _ _ (λ (o : Outcome (Fid × List ℕ)). IfOk o (λ got. length got.1 ≤ count))
    (λ _. from_short (record { left = anew; next = 0 }) fid count)
    (λ _. after_step _ (goes_on fid.kept offset) _ (λ kept _. from_short kept fid count))

module _ {S : Type 0} (outside : Outside S) (tells : Tells outside) (msize : ℕ) (least : 256 ≤ msize) where
  -- what was given fits
  abbrev pub IsGivenFit : Given S → Type 0
  IsGivenFit got = FitsRead msize got.bytes

  taken_fits : (fid : Fid) (rest : S) (file : List ℕ) (offset count : ℕ) → count + 11 ≤ msize → IsGivenFit (given_by fid rest (take count (drop offset file)))
  taken_fits fid rest file offset count room = inl (omega (arith, room, length-take count (drop offset file)))

  -- ---- what is given now, or waits

  event_fits : (fid : Fid) (rest : S) (o : Option (ℕ × Pointer)) → IfSome (option_map (given_by fid rest) (option_map (λ (a : ℕ × Pointer). text a.0 a.1) o)) IsGivenFit
  event_fits fid rest None = tt
  event_fits fid rest (Some (letter, e)) = mouse_fits letter e msize least

  line_fits : (fid : Fid) (rest : S) (count : ℕ) (o : Option (List ℕ)) → count + 11 ≤ msize → IfSome o (λ bytes. length bytes ≤ count) → IfSome (option_map (given_by fid rest) o) IsGivenFit
  line_fits fid rest count None room short = tt
  line_fits fid rest count (Some bytes) room short = inl (omega (arith, room, short))

  state_fits : (fid : Fid) (rest : S) (told : Option (List ℕ)) (known : Known) → IfSome (option_map (λ text. given_by (record fid { told = Some text }) rest text) (wctl_answer told (wctl_text known))) IsGivenFit
  state_fits fid rest None known = wctl_fits known msize least
  state_fits fid rest (Some last) known = by (bytes_eq last (wctl_text known))
    where
      by : (b : Bool) → IfSome (option_map (λ text. given_by (record fid { told = Some text }) rest text) (if b then None else Some (wctl_text known))) IsGivenFit
      by true = tt
      by false = wctl_fits known msize least

  pub now_fits : (rest : S) (fid : Fid) (count : ℕ) (k : Kind) → count + 11 ≤ msize → IfSome (given_now outside rest fid count k) IsGivenFit
  now_fits rest fid count kind.Mouse room = event_fits fid (outside.hear rest fid.node.serial MouseRead) (answer (outside.pane rest fid.node.serial).mouse)
  now_fits rest fid count kind.Cons room =
      line_fits fid (outside.hear rest fid.node.serial (ConsoleRead count)) count (console.read count (outside.pane rest fid.node.serial).console) room (read_short count (outside.pane rest fid.node.serial).console)
  now_fits rest fid count kind.Wctl room = state_fits fid rest fid.told (outside.pane rest fid.node.serial).known
  now_fits rest fid count _ room = tt

  -- ---- each file

  abbrev IsReadFit : Option (Given S) → Type 0
  IsReadFit o = IfSome o IsGivenFit

  in_fits : (rest : S) (fid : Fid) (at_least count : ℕ) (k : Kind) → count + 11 ≤ msize → IfOk (given_in outside rest fid at_least count k) IsReadFit
  in_fits rest fid at_least count k room = after_step _ (refuse_if (nat_lt count at_least) 46) _ (λ _ _. now_fits rest fid count k room)

  ctl_fits : (rest : S) (node : Node) (offset count : ℕ) → IfOk (ctl_read outside rest node offset count) (FitsRead msize)
  unfolding ctl_read
  ctl_fits rest node offset count =
      cond_both (not (offset == 0)) _ _ (λ (o : Outcome (List ℕ)). IfOk o (FitsRead msize)) (λ _. inl (omega (arith, least)))
      (λ _. after_step _ (refuse_if (nat_lt count ctl_len) 25) _ (λ _ _. tells.ctl rest node.connection msize least))

  file_fits : (rest : S) (fid : Fid) (offset count : ℕ) (k : Kind) → count + 11 ≤ msize → IfOk (file_read outside rest fid offset count k) IsReadFit
  file_fits rest fid offset count kind.Ctl room = after_if _ (FitsRead msize) (ctl_read outside rest fid.node offset count) _ (ctl_fits rest fid.node offset count) (λ bytes fits. fits)
  file_fits rest fid offset count kind.Data room =
      after_if _ (λ (got : List ℕ × S). length got.0 ≤ count) (outside.read_data rest fid.node.connection count) _ (tells.pixels rest fid.node.connection count) (λ got short. inl (omega (arith, room, short)))
  file_fits rest fid offset count kind.Screen room = taken_fits fid rest _ offset count room
  file_fits rest fid offset count kind.Snarf room = taken_fits fid rest _ offset count room
  file_fits rest fid offset count kind.Hwsize room = taken_fits fid rest _ offset count room
  file_fits rest fid offset count kind.Label room = taken_fits fid rest _ offset count room
  file_fits rest fid offset count kind.Text room = taken_fits fid rest _ offset count room
  file_fits rest fid offset count kind.Winid room = taken_fits fid rest _ offset count room
  file_fits rest fid offset count kind.Winname room = taken_fits fid rest _ offset count room
  file_fits rest fid offset count kind.Picture room = taken_fits fid rest _ offset count room
  file_fits rest fid offset count kind.Mouse room = in_fits rest fid mouse_len count kind.Mouse room
  file_fits rest fid offset count kind.Wctl room = in_fits rest fid wctl_len count kind.Wctl room
  file_fits rest fid offset count kind.Cons room = now_fits rest fid count kind.Cons room
  file_fits rest fid offset count _ room = tt

  pub node_fits : (connections : List ℕ) (rest : S) (fid : Fid) (offset count : ℕ) → count + 11 ≤ msize → IfOk (node_read outside connections rest fid offset count) (λ o. IfSome o IsGivenFit)
  node_fits connections rest fid offset count room =
      cond_both (is_directory fid.node) _ _ (λ (o : Outcome (Option (Given S))). IfOk o IsReadFit)
      (λ _. after_if _ (λ (got : Fid × List ℕ). length got.1 ≤ count) (directory_read (stats (outside.view rest connections fid.node) fid.node) fid offset count) _
      (directory_short (stats (outside.view rest connections fid.node) fid.node) fid offset count) (λ got short. inl (omega (arith, room, short))))
      (λ _. file_fits rest fid offset count fid.node.kind room)
