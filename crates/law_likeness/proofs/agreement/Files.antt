-- Over outsides that are alike, files give and take alike.
use Rattle.std.proofs.Common.{◌≡◌, ℕ, Bool, true, false, List, [], Option, Some, None, Ok, refl}
use Rattle.std.specs.Prelude.{◌==◌, IsTrue, nat_lt, not, if◌then◌else◌}
use Rattle.model_text.specs.text.Outcome.{Outcome, ◌>>=◌, refuse_if}
use Rattle.model_files.specs.mouse.Queue.{answer_text}
use Rattle.model_files.specs.console.Console as console
use Rattle.model_rio.specs.window.Heard.{ConsoleRead, Labelled, MouseRead, Raw, Written, wctl_answer, wctl_text}
use Rattle.model_files.specs.declared.tree.Kind.{Kind}
use Rattle.model_files.specs.declared.tree.Kind.TheVariants as kind
use Rattle.model_files.specs.tree.Node.{Node, is_directory, row}
use Rattle.model_files.specs.tree.Tree.{check_live}
use Rattle.model_files.specs.tree.Listing.{stats}
use Rattle.model_world.specs.Session.{Fid}
use Rattle.model_world.specs.Outside.{Outside}
use Rattle.model_world.specs.Reading.{Given, ctl_len, ctl_read, directory_read, file_read, given_in, given_now, mouse_len, node_read, told_now, wctl_len}
use Rattle.model_world.specs.Writing.{file_written, line_of, raw_asked, with_raw_asked}
use Rattle.law_likeness.specs.agreement.Agreement.{Alike, Ask, Describes, IsPlain, MayRead, MayWrite, SameOption, SameOutcome, TellsOf, is_own}
use Rattle.law_likeness.proofs.agreement.Relations.{bind_alike, check_alike, equal_alike, if_alike, map_alike}
use Rattle.law_likeness.proofs.agreement.Trees.{lives_where_fine, stats_same}

-- the same fid and bytes, and states that are so related
pub record SameGiven {S T : Type 0} (Same : S → T → Type 0) (a : Given S) (b : Given T) : Type 0 where
  pub fid : a.fid ≡ b.fid
  pub bytes : a.bytes ≡ b.bytes
  pub rest : Same a.rest b.rest

module _ {S T : Type 0} (outer : Outside S) (inner : Outside T) (Same Later : S → T → Type 0) (HasWindow HasConnection : ℕ → Type 0) (May : S → Ask → Type 0) (alike : Alike outer inner Same Later HasWindow HasConnection May) where
  -- ---- reads

  -- what a read gives, or that it waits
  abbrev pub Gives : Option (Given S) → Option (Given T) → Type 0
  Gives a b = SameOption (SameGiven Same) a b

  pub given_alike : (s : S) (t : T) (fid : Fid) (count : ℕ) (of : Kind) → Same s t → HasWindow fid.node.serial → TellsOf (row of).owner fid.node.serial
      → Gives (given_now outer s fid count of) (given_now inner t fid count of)
  unfolding row
  given_alike s t fid count kind.Mouse same has some = rw (alike.pane s t same fid.node.serial has some)
      (map_alike (SameGiven Same) _ _ (answer_text (inner.pane t fid.node.serial).mouse) (λ bytes. record { fid = refl; bytes = refl; rest = alike.hear s t same fid.node.serial MouseRead tt has }))
  given_alike s t fid count kind.Cons same has some = rw (alike.pane s t same fid.node.serial has some)
      (map_alike (SameGiven Same) _ _ (console.read count (inner.pane t fid.node.serial).console) (λ bytes. record { fid = refl; bytes = refl; rest = alike.hear s t same fid.node.serial (ConsoleRead count) tt has }))
  given_alike s t fid count kind.Wctl same has some = rw (alike.pane s t same fid.node.serial has some)
      (map_alike (SameGiven Same) _ _ (wctl_answer fid.told (wctl_text (inner.pane t fid.node.serial).known)) (λ text. record { fid = refl; bytes = refl; rest = same }))
  given_alike s t fid count _ same has some = tt

  given_in_alike : (s : S) (t : T) (fid : Fid) (least count : ℕ) (of : Kind) → Same s t → HasWindow fid.node.serial → TellsOf (row of).owner fid.node.serial
      → SameOutcome Gives (given_in outer s fid least count of) (given_in inner t fid least count of)
  given_in_alike s t fid least count of same has some =
      check_alike Gives (refuse_if (nat_lt count least) 46) _ _ (λ _ _. given_alike s t fid count of same has some)

  ctl_same : (s : S) (t : T) (node : Node) (offset count : ℕ) → Same s t → HasConnection node.connection → MayRead outer HasWindow HasConnection May s node offset count kind.Ctl
      → ctl_read outer s node offset count ≡ ctl_read inner t node offset count
  unfolding ctl_read
  ctl_same s t node offset count same has may = by (offset == 0) (nat_lt count ctl_len) may
    where
      -- at the front, where there is room
      by : (front short : Bool) → (front ≡ true → short ≡ false → May s (Describes node.connection))
          → ◌≡◌ {A = Outcome (List ℕ)} (if not front then Ok [] else refuse_if short 25 >>= λ _. outer.read_ctl s node.connection) (if not front then Ok [] else refuse_if short 25 >>= λ _. inner.read_ctl t node.connection)
      by false short may = refl
      by true true may = refl
      by true false may = alike.read_ctl s t same node.connection has (may refl refl)

  -- a window of a kind of files that tell of one lives, where a node of them was not refused
  abbrev Lives : S → List ℕ → Node → Kind → Type 0
  Lives s connections node of = TellsOf (row of).owner node.serial × ((u : Unit {0}) × (check_live (outer.view s connections node) node ≡ Ok u))

  file_alike : (connections : List ℕ) (s : S) (t : T) (fid : Fid) (offset count : ℕ) (of : Kind) → Same s t → IsTrue (is_own of) → IsPlain HasWindow HasConnection fid.node
      → Lives s connections fid.node of → MayRead outer HasWindow HasConnection May s fid.node offset count of → SameOutcome Gives (file_read outer s fid offset count of) (file_read inner t fid offset count of)
  unfolding row
  file_alike connections s t fid offset count kind.Ctl same own plain lives may =
      equal_alike Gives _ _ (told_now fid s) (told_now fid t) (ctl_same s t fid.node offset count same plain.connection may) (λ bytes. record { fid = refl; bytes = refl; rest = same })
  file_alike connections s t fid offset count kind.Data same own plain lives may =
      bind_alike (λ a b. (a.0 ≡ b.0) × Same a.1 b.1) Gives (outer.read_data s fid.node.connection count) (inner.read_data t fid.node.connection count) _ _
      (alike.read_data s t same fid.node.connection count plain.connection) (λ a b p. record { fid = refl; bytes = p.0; rest = p.1 })
  file_alike connections s t fid offset count kind.Screen same own plain lives may = absurd cc
  file_alike connections s t fid offset count kind.Snarf same own plain lives may = absurd cc
  file_alike connections s t fid offset count kind.Hwsize same own plain lives may = absurd cc
  file_alike connections s t fid offset count kind.Label same own plain lives may = rw (alike.pane s t same fid.node.serial plain.window lives.0) (record { fid = refl; bytes = refl; rest = same })
  file_alike connections s t fid offset count kind.Text same own plain lives may = rw (alike.pane s t same fid.node.serial plain.window lives.0) (record { fid = refl; bytes = refl; rest = same })
  file_alike connections s t fid offset count kind.Winid same own plain lives may = rw (alike.pane s t same fid.node.serial plain.window lives.0) (record { fid = refl; bytes = refl; rest = same })
  file_alike connections s t fid offset count kind.Winname same own plain lives may = rw (alike.pane s t same fid.node.serial plain.window lives.0) (record { fid = refl; bytes = refl; rest = same })
  file_alike connections s t fid offset count kind.Picture same own plain lives may =
      rw (alike.picture s t same connections fid.node plain.window (lives_where_fine (outer.view s connections fid.node) fid.node lives.1.0 lives.0 lives.1.1)) (record { fid = refl; bytes = refl; rest = same })
  file_alike connections s t fid offset count kind.Mouse same own plain lives may = given_in_alike s t fid mouse_len count kind.Mouse same plain.window lives.0
  file_alike connections s t fid offset count kind.Wctl same own plain lives may = given_in_alike s t fid wctl_len count kind.Wctl same plain.window lives.0
  file_alike connections s t fid offset count kind.Cons same own plain lives may = given_alike s t fid count kind.Cons same plain.window lives.0
  file_alike connections s t fid offset count _ same own plain lives may = tt

  pub node_alike : (connections : List ℕ) (s : S) (t : T) (fid : Fid) (offset count : ℕ) → Same s t → IsTrue (is_own fid.node.kind) → IsPlain HasWindow HasConnection fid.node
      → (u : Unit {0}) → check_live (outer.view s connections fid.node) fid.node ≡ Ok u → MayRead outer HasWindow HasConnection May s fid.node offset count fid.node.kind
      → SameOutcome Gives (node_read outer connections s fid offset count) (node_read inner connections t fid offset count)
  node_alike connections s t fid offset count same own plain u fine may =
      if_alike Gives (is_directory fid.node) _ _ _ _
      (rw (stats_same _ _ fid.node (alike.view s t same connections fid.node plain) plain.kind)
      (check_alike Gives (directory_read (stats (inner.view t connections fid.node) fid.node) fid offset count) _ _ (λ got _.
      record { fid = refl; bytes = refl; rest = same })))
      (file_alike connections s t fid offset count fid.node.kind same own plain (plain.place, (u, fine)) may)

  -- ---- writes

  -- what a write leaves: later the same, and the same refusal
  abbrev pub Leaves : S × Option ℕ → T × Option ℕ → Type 0
  Leaves a b = Later a.0 b.0 × (a.1 ≡ b.1)

  raw_alike : (s : S) (t : T) (window : ℕ) (asked : Option Bool) → Same s t → HasWindow window → Same (with_raw_asked outer s window asked) (with_raw_asked inner t window asked)
  raw_alike s t window None same has = same
  raw_alike s t window (Some raw) same has = alike.hear s t same window (Raw raw) tt has

  pub written_alike : (connections : List ℕ) (s : S) (t : T) (node : Node) (offset : ℕ) (bytes : List ℕ) (mark told : Option ℕ) (of : Kind) → Same s t → IsTrue (is_own of)
      → IsPlain HasWindow HasConnection node → Lives s connections node of → MayWrite outer HasWindow HasConnection May s node bytes mark told of
      → SameOutcome Leaves (file_written outer s node offset bytes mark of) (file_written inner t node offset bytes told of)
  unfolding row
  written_alike connections s t node offset bytes mark told kind.Ctl same own plain lives may =
      bind_alike Same Leaves (outer.write_ctl s node.connection bytes) (inner.write_ctl t node.connection bytes) _ _
      (alike.write_ctl s t same node.connection bytes plain.connection may) (λ a b p. (alike.unchanged a b p, refl))
  written_alike connections s t node offset bytes mark told kind.Data same own plain lives may =
      let w = alike.write_data s t same node.connection bytes mark told plain.connection may in (alike.unchanged _ _ w.0, w.1)
  written_alike connections s t node offset bytes mark told kind.Cons same own plain lives may = (alike.unchanged _ _ (alike.hear s t same node.serial (Written bytes) tt plain.window), refl)
  written_alike connections s t node offset bytes mark told kind.Consctl same own plain lives may =
      bind_alike Same Leaves _ _ _ _
      (check_alike Same (raw_asked (line_of bytes)) (λ asked. Ok (with_raw_asked outer s node.serial asked)) (λ asked. Ok (with_raw_asked inner t node.serial asked)) (λ asked _. raw_alike s t node.serial asked same plain.window))
      (λ a b p. (alike.unchanged a b p, refl))
  written_alike connections s t node offset bytes mark told kind.Mouse same own plain lives may = (alike.unchanged s t same, refl)
  written_alike connections s t node offset bytes mark told kind.Label same own plain lives may = (alike.unchanged _ _ (alike.hear s t same node.serial (Labelled bytes) tt plain.window), refl)
  written_alike connections s t node offset bytes mark told kind.Wctl same own plain lives may =
      bind_alike Later Leaves (outer.command s node.serial bytes) (inner.command t node.serial bytes) _ _
      (alike.command s t same connections node plain.window (lives_where_fine (outer.view s connections node) node lives.1.0 lives.0 lives.1.1) bytes may) (λ a b p. (p, refl))
  written_alike connections s t node offset bytes mark told kind.Mousein same own plain lives may = absurd cc
  written_alike connections s t node offset bytes mark told kind.Kbdin same own plain lives may = absurd cc
  written_alike connections s t node offset bytes mark told kind.Snarf same own plain lives may = absurd cc
  written_alike connections s t node offset bytes mark told kind.DeviceWctl same own plain lives may = absurd cc
  written_alike connections s t node offset bytes mark told kind.Hwsize same own plain lives may = absurd cc
  written_alike connections s t node offset bytes mark told _ same own plain lives may = refl
