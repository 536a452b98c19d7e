-- A write that reaches the `data` file of a connection is answered, and leaves what the files of windows have.
use Rattle.std.proofs.Common.{◌≡◌, ℕ, Bool, true, false, List, length, Option, Some, Ok, Err, refl, ap, ◌∙◌}
use Rattle.std.specs.Prelude.{◌==◌, not, is_none}
use Rattle.model_text.specs.text.Outcome.{Outcome, ◌>>=◌, refuse_if}
use Rattle.model_files.specs.wire.Message.{Twrite, no_tag}
use Rattle.model_files.specs.declared.tree.Kind.{Kind}
use Rattle.model_files.specs.declared.tree.Kind.TheVariants.{Data}
use Rattle.model_files.specs.tree.Node.{Node, writes}
use Rattle.model_files.specs.tree.Tree.{check_live}
use Rattle.model_world.specs.Session.{Fid, Session}
use Rattle.model_world.specs.Fids.{Left, fid_of, left}
use Rattle.model_world.specs.Reading.{is_open_for}
use Rattle.model_world.specs.Writing.{file_written, write_answer, write_reply}
use Rattle.model_world.specs.Answer.{answer_read, read_or_not}
use Rattle.model_world.specs.Desktop.{Desktop}
use Rattle.model_world.specs.Whole.{client, desktop_for, written_data}
use Rattle.model_alone.specs.alone.Uses.{reached_file}

-- what a data write leaves, with its reply
abbrev pub data_left : (c : ℕ) → Session → Desktop → (tag : ℕ) → List ℕ → (mark : Option ℕ) → Node → Left Desktop
data_left c session desktop tag bytes mark node =
    let after = written_data (client c node.connection) desktop bytes mark in left (session, after.0) (write_reply tag (length bytes) after.1)

pub data_answered : (c : ℕ) (session : Session) (desktop : Desktop) (tag number offset : ℕ) (bytes : List ℕ) (mark : Option ℕ) (node : Node) → reached_file c session desktop number ≡ Ok node → node.kind ≡ Data
    → write_answer (desktop_for c) session desktop tag number offset bytes mark ≡ Ok (data_left c session desktop tag bytes mark node)
unfolding write_answer
data_answered c session desktop tag number offset bytes mark node reached is = by (fid_of session number) reached
  where
    ended : Node → Kind → Outcome (Left Desktop)
    ended n k = file_written (desktop_for c) desktop n offset bytes mark k >>= λ after. Ok (left (session, after.0) (write_reply tag (length bytes) after.1))

    at_node : (n : Node) → (let o : Outcome Node = Ok n in o) ≡ Ok node → ended n n.kind ≡ Ok (data_left c session desktop tag bytes mark node)
    at_node n e = let same : n ≡ node = cc in ap (λ (m : Node). ended m m.kind) same ∙ ap (λ (k : Kind). ended node k) is

    lives : (o : Outcome (Unit {0})) (n : Node) → (o >>= λ _. Ok n) ≡ Ok node → (o >>= λ _. ended n n.kind) ≡ Ok (data_left c session desktop tag bytes mark node)
    lives (Ok x) n e = at_node n e
    lives (Err refusal) n e = absurd cc

    written : (b : Bool) (n : Node) → (refuse_if b 38 >>= λ _. check_live ((desktop_for c).view desktop session.connections n) n >>= λ _. Ok n) ≡ Ok node
        → (refuse_if b 38 >>= λ _. check_live ((desktop_for c).view desktop session.connections n) n >>= λ _. ended n n.kind) ≡ Ok (data_left c session desktop tag bytes mark node)
    written true n e = absurd cc
    written false n e = lives (check_live ((desktop_for c).view desktop session.connections n) n) n e

    opened : (closed : Bool) (fid : Fid) → (refuse_if closed 37 >>= λ _. refuse_if (not (is_open_for writes fid)) 38 >>= λ _. check_live ((desktop_for c).view desktop session.connections fid.node) fid.node >>= λ _. Ok fid.node) ≡ Ok node
        → (refuse_if closed 37 >>= λ _. refuse_if (not (is_open_for writes fid)) 38 >>= λ _. check_live ((desktop_for c).view desktop session.connections fid.node) fid.node >>= λ _. ended fid.node fid.node.kind)
        ≡ Ok (data_left c session desktop tag bytes mark node)
    opened true fid e = absurd cc
    opened false fid e = written (not (is_open_for writes fid)) fid.node e

    by : (o : Outcome Fid)
        → (o >>= λ fid. refuse_if (is_none fid.mode) 37 >>= λ _. refuse_if (not (is_open_for writes fid)) 38 >>= λ _. check_live ((desktop_for c).view desktop session.connections fid.node) fid.node >>= λ _. Ok fid.node) ≡ Ok node
        → (o >>= λ fid. refuse_if (is_none fid.mode) 37 >>= λ _. refuse_if (not (is_open_for writes fid)) 38 >>= λ _. check_live ((desktop_for c).view desktop session.connections fid.node) fid.node >>= λ _. ended fid.node fid.node.kind)
        ≡ Ok (data_left c session desktop tag bytes mark node)
    by (Ok fid) e = opened (is_none fid.mode) fid e
    by (Err refusal) e = absurd cc

-- where its session has agreed on a version, and it has a tag
pub data_read : (c : ℕ) (session : Session) (desktop : Desktop) (tag number offset : ℕ) (bytes : List ℕ) (mark : Option ℕ) (node : Node) → session.agreed ≡ true → (tag == no_tag) ≡ false
    → reached_file c session desktop number ≡ Ok node → node.kind ≡ Data
    → read_or_not (desktop_for c) session desktop mark (Some (Twrite tag number offset bytes)) ≡ Ok (data_left c session desktop tag bytes mark node)
unfolding answer_read
data_read c session desktop tag number offset bytes mark node agreed tagged reached is =
    let last = write_answer (desktop_for c) session desktop tag number offset bytes mark in
    ap (λ (b : Bool). refuse_if b 30 >>= λ _. refuse_if (not session.agreed) 31 >>= λ _. last) tagged
    ∙ ap (λ (b : Bool). refuse_if (not b) 31 >>= λ _. last) agreed
    ∙ data_answered c session desktop tag number offset bytes mark node reached is

-- the files of windows have what they had
pub data_panes : (c : ℕ) (session : Session) (desktop : Desktop) (tag : ℕ) (bytes : List ℕ) (mark : Option ℕ) (node : Node) → (data_left c session desktop tag bytes mark node).rest.panes ≡ desktop.panes
unfolding written_data
data_panes c session desktop tag bytes mark node = refl
