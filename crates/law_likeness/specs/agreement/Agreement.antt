-- When two outsides answer a session alike.
use Rattle.std.specs.Prelude.{◌≡◌, ◌≤◌, ◌==◌, ◌&&◌, ℕ, Bool, true, false, not, nat_lt, All, IsTrue, is_none, is_some, List, Option, Some, None, Ok, Err}
use Rattle.model_text.specs.text.Outcome.{Outcome}
use Rattle.model_files.specs.wire.Message.{T, Tattach, Twalk, Tread, Twrite, no_fid, no_tag, tag_of_t}
use Rattle.model_files.specs.wire.Reading.{message_of}
use Rattle.model_rio.specs.window.Heard.{Heard, Noted, Raw, Written, Labelled, MouseRead, ConsoleRead, MouseHeld, ConsctlHeld}
use Rattle.model_files.specs.declared.tree.Kind.{Kind}
use Rattle.model_files.specs.declared.tree.Kind.TheVariants as kind
use Rattle.model_files.specs.tree.Node.{Node, Owner, OfSession, OfConnection, OfRio, OfWindow, row, reads, writes}
use Rattle.model_files.specs.tree.Tree.{View, check_live}
use Rattle.model_files.specs.tree.Attach.{Attach, attach_of}
use Rattle.model_world.specs.Session.{Session, Fid}
use Rattle.model_world.specs.Outside.{Outside}
use Rattle.model_world.specs.Fids.{Left, fid_of, is_bound, is_full}
use Rattle.model_world.specs.Walking.{most_made, walked}
use Rattle.model_world.specs.Reading.{count_within, ctl_len, is_open_for}
use Rattle.model_world.specs.Answer.{Reads, is_version, taking}

-- both are refused by the same number, or neither is and the values are so related
abbrev pub SameOutcome : {A B : Type 0} → (A → B → Type 0) → Outcome A → Outcome B → Type 0
SameOutcome Same (Ok a) (Ok b) = Same a b
SameOutcome Same (Err n) (Err m) = n ≡ m
SameOutcome Same (Ok a) (Err m) = ⊥
SameOutcome Same (Err n) (Ok b) = ⊥

-- both or neither, and then so related
abbrev pub SameOption : {A B : Type 0} → (A → B → Type 0) → Option A → Option B → Type 0
SameOption Same (Some a) (Some b) = Same a b
SameOption Same None None = Unit {0}
SameOption Same (Some a) None = ⊥
SameOption Same None (Some b) = ⊥

-- the same is seen of a node, but for the windows of a rio
pub record SameView (v w : View) : Type 0 where
  pub connections : v.connections ≡ w.connections
  pub host : v.host ≡ w.host
  pub live : v.live ≡ w.live

-- ---- what a session has for itself

-- a node that is not in the directory of windows
abbrev pub is_plain : Kind → Bool
is_plain kind.Wsys = false
is_plain kind.Listed = false
is_plain _ = true

-- a node of what a session has for itself: its window's files and its connections'
abbrev pub is_own : Kind → Bool
is_own kind.Device = false
is_own kind.Wsys = false
is_own kind.Listed = false
is_own kind.Screen = false
is_own kind.Snarf = false
is_own kind.Mousein = false
is_own kind.Kbdin = false
is_own kind.DeviceWctl = false
is_own kind.Hwsize = false
is_own _ = true

-- a window's files tell of a window, and other files of none
abbrev pub TellsOf : Owner → (serial : ℕ) → Type 0
TellsOf OfWindow serial = (serial == 0) ≡ false
TellsOf OfSession serial = serial ≡ 0
TellsOf OfConnection serial = serial ≡ 0
TellsOf OfRio serial = serial ≡ 0

-- what a session does at its window, and not what the window manager tells it
abbrev pub IsDone : Heard → Type 0
IsDone (Noted note) = ⊥
IsDone (Raw raw) = Unit {0}
IsDone (Written bytes) = Unit {0}
IsDone (Labelled bytes) = Unit {0}
IsDone MouseRead = Unit {0}
IsDone (ConsoleRead count) = Unit {0}
IsDone (MouseHeld held) = Unit {0}
IsDone (ConsctlHeld held) = Unit {0}

-- what a session may ask of its outside
pub data Ask : Type 0 where
  -- the tree of a name
  Attaches : (asked : Attach) → Ask
  -- what its window's `wctl` is to do
  Commands : (text : List ℕ) → Ask
  -- a data write of a connection, with its mark, and the mark with which it is told where the session is alone
  Draws : (n : ℕ) (bytes : List ℕ) (mark told : Option ℕ) → Ask
  -- what the ctl of a connection is to describe
  Chooses : (n : ℕ) (bytes : List ℕ) → Ask
  -- what it tells
  Describes : (n : ℕ) → Ask

-- `HasWindow` are the serials of the session's windows, and 0, and `HasConnection` the numbers of its connections, and 0.
module _ (HasWindow HasConnection : ℕ → Type 0) where
  -- a node outside of the directory of windows, of a window and a connection of the session
  pub record IsPlain (node : Node) : Type 0 where
    pub kind : IsTrue (is_plain node.kind)
    pub window : HasWindow node.serial
    pub place : TellsOf (row node.kind).owner node.serial
    pub connection : HasConnection node.connection

  -- it is plain, and where it is open it is the session's own
  pub record IsOwnFid (fid : Fid) : Type 0 where
    pub plain : IsPlain fid.node
    pub own : is_some fid.mode ≡ true → IsTrue (is_own fid.node.kind)

  -- a session has only what is its own
  pub record KeepsToItself (session : Session) : Type 0 where
    pub fids : All (λ (entry : ℕ × Fid). IsOwnFid entry.1) session.fids
    pub connections : All HasConnection session.connections

-- `May` is what the session may ask in a state and be answered as if it were alone.
module _ {S : Type 0} (outside : Outside S) (HasWindow HasConnection : ℕ → Type 0) (May : S → Ask → Type 0) where
  abbrev pub MayWrite : S → Node → List ℕ → (mark told : Option ℕ) → Kind → Type 0
  MayWrite s node bytes mark told kind.Ctl = May s (Chooses node.connection bytes)
  MayWrite s node bytes mark told kind.Data = May s (Draws node.connection bytes mark told)
  MayWrite s node bytes mark told kind.Wctl = May s (Commands bytes)
  MayWrite s node bytes mark told _ = Unit {0}

  abbrev pub MayRead : S → Node → (offset count : ℕ) → Kind → Type 0
  MayRead s node offset count kind.Ctl = (offset == 0) ≡ true → nat_lt count ctl_len ≡ false → May s (Describes node.connection)
  MayRead s node offset count _ = Unit {0}

  -- A message keeps to what its session has for itself, as far as it is not refused before that matters.
  abbrev pub IsPrivate : Session → S → (mark told : Option ℕ) → T → Type 0
  IsPrivate session s mark told (Tattach tag fid afid uname aname) =
      (afid == no_fid) ≡ true → is_bound session fid ≡ false → is_full session ≡ false → May s (Attaches (attach_of aname))
  IsPrivate session s mark told (Twalk tag fid newfid names) =
      (from : Fid) → fid_of session fid ≡ Ok from → is_some from.mode ≡ false → (not (newfid == fid) && is_bound session newfid) ≡ false
      → (not (newfid == fid) && is_full session) ≡ false
      → All (IsPlain HasWindow HasConnection) (walked (outside.view s session.connections) from.node names).0
  IsPrivate session s mark told (Tread tag fid offset count) =
      (f : Fid) → fid_of session fid ≡ Ok f → is_none f.mode ≡ false → is_open_for reads f ≡ true
      → check_live (outside.view s session.connections f.node) f.node ≡ Ok tt → MayRead s f.node offset (count_within session count) f.node.kind
  IsPrivate session s mark told (Twrite tag fid offset bytes) =
      (f : Fid) → fid_of session fid ≡ Ok f → is_none f.mode ≡ false → is_open_for writes f ≡ true
      → check_live (outside.view s session.connections f.node) f.node ≡ Ok tt → MayWrite s f.node bytes mark told f.node.kind
  IsPrivate session s mark told _ = Unit {0}

  abbrev pub IsPrivateIf : Session → S → (mark told : Option ℕ) → Option T → Type 0
  IsPrivateIf session s mark told None = Unit {0}
  IsPrivateIf session s mark told (Some m) =
      (not (is_version m) && (tag_of_t m == no_tag)) ≡ false → (not (is_version m) && not session.agreed) ≡ false → IsPrivate session s mark told m

  -- so does what bytes spell, where they are read
  abbrev pub ArePrivate : Session → S → (mark told : Option ℕ) → List ℕ → Type 0
  ArePrivate session s mark told bytes = taking session bytes ≡ Reads → IsPrivateIf session s mark told (message_of bytes)

-- ---- alike

-- the same session and reply, and states that are so related
pub record SameLeft {S T : Type 0} (Same : S → T → Type 0) (a : Left S) (b : Left T) : Type 0 where
  pub session : a.session ≡ b.session
  pub reply : a.reply ≡ b.reply
  pub rest : Same a.rest b.rest

-- Two outsides answer a session alike at states between which `Same` holds, where it asks only what it may, on nodes that are plain
-- and tell of no other window than its own. What it asks of its windows may leave states between which only `Later` holds: in
-- one of them the effect shows at once, in the other when it is told.
pub record Alike {S T : Type 0} (outer : Outside S) (inner : Outside T) (Same Later : S → T → Type 0) (HasWindow HasConnection : ℕ → Type 0) (May : S → Ask → Type 0) : Type 0 where
  pub numbers : (n : ℕ) → n ≤ most_made → HasConnection n
  pub unchanged : (s : S) (t : T) → Same s t → Later s t
  pub view :
      (s : S) (t : T) → Same s t → (connections : List ℕ) (node : Node) → IsPlain HasWindow HasConnection node
      → SameView (outer.view s connections node) (inner.view t connections node)
  pub pane : (s : S) (t : T) → Same s t → (window : ℕ) → HasWindow window → (window == 0) ≡ false → outer.pane s window ≡ inner.pane t window
  pub hear :
      (s : S) (t : T) → Same s t → (window : ℕ) (h : Heard) → IsDone h → HasWindow window → Same (outer.hear s window h) (inner.hear t window h)
  -- of a window that lives
  pub picture :
      (s : S) (t : T) → Same s t → (connections : List ℕ) (node : Node) → HasWindow node.serial → (outer.view s connections node).live ≡ true
      → outer.picture s node.serial ≡ inner.picture t node.serial
  pub connect : (s : S) (t : T) → Same s t → (n : ℕ) → HasConnection n → Same (outer.connect s n) (inner.connect t n)
  pub leave : (s : S) (t : T) → Same s t → (n : ℕ) → HasConnection n → Same (outer.leave s n) (inner.leave t n)
  pub write_data :
      (s : S) (t : T) → Same s t → (n : ℕ) (bytes : List ℕ) (mark told : Option ℕ) → HasConnection n → May s (Draws n bytes mark told)
      → Same (outer.write_data s n bytes mark).0 (inner.write_data t n bytes told).0
      × ((outer.write_data s n bytes mark).1 ≡ (inner.write_data t n bytes told).1)
  pub read_data :
      (s : S) (t : T) → Same s t → (n most : ℕ) → HasConnection n
      → SameOutcome (λ a b. (a.0 ≡ b.0) × Same a.1 b.1) (outer.read_data s n most) (inner.read_data t n most)
  pub read_ctl : (s : S) (t : T) → Same s t → (n : ℕ) → HasConnection n → May s (Describes n) → outer.read_ctl s n ≡ inner.read_ctl t n
  pub write_ctl :
      (s : S) (t : T) → Same s t → (n : ℕ) (bytes : List ℕ) → HasConnection n → May s (Chooses n bytes)
      → SameOutcome Same (outer.write_ctl s n bytes) (inner.write_ctl t n bytes)
  pub left : (s : S) (t : T) → Same s t → (windows : List ℕ) → Later (outer.left s windows) (inner.left t windows)
  pub attached :
      (s : S) (t : T) → Same s t → (asked : Attach) → May s (Attaches asked)
      → SameOutcome (λ a b. Later a.0 b.0 × (a.1 ≡ b.1)) (outer.attached s asked) (inner.attached t asked)
  -- to a window that lives
  pub command :
      (s : S) (t : T) → Same s t → (connections : List ℕ) (node : Node) → HasWindow node.serial → (outer.view s connections node).live ≡ true
      → (text : List ℕ) → May s (Commands text) → SameOutcome Later (outer.command s node.serial text) (inner.command t node.serial text)
