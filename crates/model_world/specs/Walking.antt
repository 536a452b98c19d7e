-- Attaching, walking and opening (attach(5), walk(5), open(5)).
use Rattle.std.specs.Prelude.{ℕ, ◌+◌, ◌==◌, ◌&&◌, ◌||◌, Bool, true, not, is_some, nat_le, List, [], ◌∷◌, ◌++◌, length, map, Option, Some, None, Ok, Err, if◌then◌else◌}
use Rattle.std.specs.List.{list_any}
use Rattle.model_text.specs.text.Outcome.{Outcome, ◌>>=◌, refuse_if}
use Rattle.model_files.specs.wire.Message.{Rattach, Rwalk, Ropen, no_fid}
use Rattle.model_files.specs.tree.Node.{Node, qid, may}
use Rattle.model_files.specs.tree.Attach.{attach_of}
use Rattle.model_files.specs.declared.tree.Kind.TheVariants.{New, Ctl, Consctl, Mouse}
use Rattle.model_files.specs.tree.Tree.{View, root_of, check_live, walk}
use Rattle.model_world.specs.Session.{Fid, Session, fid_at}
use Rattle.model_text.specs.text.Map.{with}
use Rattle.model_world.specs.Outside.{Outside}
use Rattle.model_world.specs.Fids.{Done, done, Left, left, fid_of, with_fid, and_fid, is_bound, is_full, is_kind, is_open_on, with_held}

-- ---- attach

-- Authentication is not served. The name asks for the device tree, for a window's, or for that of a new window.
unfoldable pub attach_answer : {S : Type 0} → Outside S → Session → S → (tag fid afid : ℕ) → List ℕ → Outcome (Left S)
attach_answer outside session rest tag fid afid aname = do
  _ ← refuse_if (not (afid == no_fid)) 40
  _ ← refuse_if (is_bound session fid) 33
  _ ← refuse_if (is_full session) 44
  root ← outside.attached rest (attach_of aname)
  Ok (left (and_fid session fid (fid_at (root_of root.1)), root.0) (Rattach tag (qid (root_of root.1))))

-- ---- walk

abbrev pub after_node : Node → List Node × Option ℕ → List Node × Option ℕ
after_node node more = (node ∷ more.0, more.1)

abbrev pub walk_on : Outcome Node → (Node → List Node × Option ℕ) → List Node × Option ℕ
walk_on (Err n) further = ([], Some n)
walk_on (Ok next) further = after_node next (further next)

-- the nodes of a walk of several names, as far as it goes, and the refusal of the name that it stops at
abbrev pub walked : (Node → View) → Node → List (List ℕ) → List Node × Option ℕ
walked view node [] = ([], None)
walked view node (name ∷ names) = walk_on (walk (view node) node name) (λ next. walked view next names)

abbrev pub last : Node → List Node → Node
last node [] = node
last node (next ∷ nodes) = last next nodes

-- newfid stands for a file; it may be fid itself
abbrev pub rebound : Session → (fid newfid : ℕ) → Node → Session
rebound session fid newfid node =
    if newfid == fid then with_fid session newfid (fid_at node) else and_fid session newfid (fid_at node)

-- A walk that went all the way binds newfid. One that stopped at its first name is refused, and one that stopped later
-- tells how far it came.
abbrev pub walk_ended : Session → (tag fid newfid : ℕ) → Node → List Node × Option ℕ → Outcome Done
walk_ended session tag fid newfid node (nodes, None) = Ok (done (rebound session fid newfid (last node nodes)) (Rwalk tag (map qid nodes)))
walk_ended session tag fid newfid node ([], Some n) = Err n
walk_ended session tag fid newfid node (next ∷ nodes, Some n) = Ok (done session (Rwalk tag (map qid (next ∷ nodes))))

unfoldable pub walk_answer : {S : Type 0} → Outside S → Session → S → (tag fid newfid : ℕ) → List (List ℕ) → Outcome Done
walk_answer outside session rest tag fid newfid names = do
  from ← fid_of session fid
  _ ← refuse_if (is_some from.mode) 36
  _ ← refuse_if (not (newfid == fid) && is_bound session newfid) 33
  _ ← refuse_if (not (newfid == fid) && is_full session) 44
  walk_ended session tag fid newfid from.node (walked (outside.view rest session.connections) from.node names)

-- ---- open

-- so many connections of a session live at once at most, and so many may be made
abbrev pub most_at_once : ℕ
most_at_once = 4

abbrev pub most_made : ℕ
most_made = 67108863

-- The session has all its connections, or the one ctl of a connection, or the `mouse` or `consctl` of a window is open already.
abbrev pub is_taken : {S : Type 0} → Outside S → Session → S → Node → Bool
is_taken outside session rest node =
    (is_kind New node.kind && nat_le most_at_once (length session.connections))
    || (is_kind Ctl node.kind && list_any (λ entry. (entry.1.node.connection == node.connection) && is_open_on Ctl entry.1) session.fids)
    || (is_kind Mouse node.kind && (outside.pane rest node.serial).mouse_held)
    || (is_kind Consctl node.kind && (outside.pane rest node.serial).consctl_held)

-- the ctl of a connection, which an open of new becomes
abbrev pub ctl_of : Node → ℕ → Node
ctl_of node connection = record { kind = Ctl; connection = connection; serial = 0; root = node.root }

-- a connection begins, and its ctl is open
abbrev pub opened_new : {S : Type 0} → Outside S → Session → S → (tag number mode : ℕ) → Fid → Left S
opened_new outside session rest tag number mode fid =
    let n = session.made + 1 in
    let ctl = ctl_of fid.node n in
    left (
      record session {
        fids = with session.fids number (record fid { node = ctl; mode = Some mode });
        connections = session.connections ++ n ∷ [];
        made = n;
      },
      outside.connect rest n,
    )
    (Ropen tag (qid ctl) 0)

abbrev pub opened : {S : Type 0} → Outside S → Session → S → (tag number mode : ℕ) → Fid → Left S
opened outside session rest tag number mode fid =
    if is_kind New fid.node.kind then opened_new outside session rest tag number mode fid
    else left (with_fid session number (record fid { mode = Some mode }), with_held outside true rest fid.node) (Ropen tag (qid fid.node) 0)

-- 38 what its permissions forbid does not open; 43 what is taken; 44 no number is left for another connection
unfoldable pub open_answer : {S : Type 0} → Outside S → Session → S → (tag fid mode : ℕ) → Outcome (Left S)
open_answer outside session rest tag number mode = do
  fid ← fid_of session number
  _ ← refuse_if (is_some fid.mode) 36
  _ ← check_live (outside.view rest session.connections fid.node) fid.node
  _ ← refuse_if (not (may fid.node mode)) 38
  _ ← refuse_if (is_taken outside session rest fid.node) 43
  _ ← refuse_if (is_kind New fid.node.kind && nat_le most_made session.made) 44
  Ok (opened outside session rest tag number mode fid)
