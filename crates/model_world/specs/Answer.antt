-- What a session answers to a message (intro(5), version(5), flush(5)).
use Rattle.std.specs.Prelude.{ℕ, ◌==◌, ◌&&◌, Bool, true, false, not, is_some, min, nat_lt, List, length, codes, Option, Some, None, Ok, Err, if◌then◌else◌}
use Rattle.std.specs.List.{before_first}
use Rattle.std.specs.Str.{bytes_eq}
use Rattle.model_text.specs.text.Outcome.{Outcome, ◌>>=◌, refuse_if}
use Rattle.model_files.specs.wire.Message.{T, Tversion, Tauth, Tattach, Tflush, Twalk, Topen, Tcreate, Tread, Twrite, Tclunk, Tremove, Tstat, Twstat, R, Rversion, Rflush, Rclunk, Rstat, no_tag, tag_of_t}
use Rattle.model_files.specs.wire.Reading.{message_of, kind_of, tag_of}
use Rattle.model_files.specs.tree.Tree.{check_live, stat}
use Rattle.model_world.specs.Session.{Session, max_msize}
use Rattle.model_world.specs.Outside.{Outside}
use Rattle.model_world.specs.Refusal.{refusal}
use Rattle.model_world.specs.Fids.{Done, done, Left, left, unanswered, beside, fid_of, clunked, cleared}
use Rattle.model_world.specs.Walking.{attach_answer, walk_answer, open_answer}
use Rattle.model_world.specs.Reading.{read_answer}
use Rattle.model_world.specs.Writing.{write_answer}
use Rattle.model_world.specs.Waiting.{waits_for, flushed}

-- Whether a text asks for this protocol: what stands before the first period counts.
abbrev pub asks_for_9p : List ℕ → Bool
asks_for_9p version = bytes_eq (before_first (λ byte. byte == 46) version) (codes "9P2000")

-- the smaller message size is agreed on, or no version; the session's fids and connections are gone
abbrev pub agreed_on : {S : Type 0} → (tag msize : ℕ) → List ℕ → Session × S → Left S
agreed_on tag msize version after =
    if asks_for_9p version
    then left (record after.0 { msize = min msize max_msize; agreed = true }, after.1) (Rversion tag (min msize max_msize) (codes "9P2000"))
    else left (record after.0 { msize = max_msize; agreed = false }, after.1) (Rversion tag (min msize max_msize) (codes "unknown"))

-- A Tversion begins the session anew, but for the numbers of its connections. Reads that wait go without a reply.
unfoldable pub version_answer : {S : Type 0} → Outside S → Session → S → (tag msize : ℕ) → List ℕ → Outcome (Left S)
version_answer outside session rest tag msize version = do
  _ ← refuse_if (nat_lt msize 256) 48
  Ok (agreed_on tag msize version (cleared outside session rest))

-- a remove is refused, and its fid goes as by a clunk
unfoldable pub clunk_answer : {S : Type 0} → Outside S → Session → S → ℕ → R → Outcome (Left S)
clunk_answer outside session rest number reply = do
  fid ← fid_of session number
  Ok (left (clunked outside session rest number fid) reply)

unfoldable pub stat_answer : {S : Type 0} → Outside S → Session → S → (tag fid : ℕ) → Outcome Done
stat_answer outside session rest tag number = do
  fid ← fid_of session number
  _ ← check_live (outside.view rest session.connections fid.node) fid.node
  Ok (done session (Rstat tag (stat (outside.view rest session.connections fid.node) fid.node)))

-- creating files and changing stats is refused
abbrev pub denied : Session → ℕ → Outcome Done
denied session number = fid_of session number >>= λ _. Err 38

-- each message of a session that has agreed on a version
abbrev pub answer_to : {S : Type 0} → Outside S → Session → S → Option ℕ → T → Outcome (Left S)
answer_to outside session rest mark (Tversion tag msize version) = version_answer outside session rest tag msize version
answer_to outside session rest mark (Tauth tag afid uname aname) = Err 40
answer_to outside session rest mark (Tattach tag fid afid uname aname) = attach_answer outside session rest tag fid afid aname
answer_to outside session rest mark (Tflush tag oldtag) = beside rest (Ok (done (flushed session oldtag) (Rflush tag)))
answer_to outside session rest mark (Twalk tag fid newfid names) = beside rest (walk_answer outside session rest tag fid newfid names)
answer_to outside session rest mark (Topen tag fid mode) = open_answer outside session rest tag fid mode
answer_to outside session rest mark (Tcreate tag fid name perm mode) = beside rest (denied session fid)
answer_to outside session rest mark (Tread tag fid offset count) = read_answer outside session rest tag fid offset count
answer_to outside session rest mark (Twrite tag fid offset bytes) = write_answer outside session rest tag fid offset bytes mark
answer_to outside session rest mark (Tclunk tag fid) = clunk_answer outside session rest fid (Rclunk tag)
answer_to outside session rest mark (Tremove tag fid) = clunk_answer outside session rest fid (refusal tag 38)
answer_to outside session rest mark (Tstat tag fid) = beside rest (stat_answer outside session rest tag fid)
answer_to outside session rest mark (Twstat tag fid stat) = beside rest (denied session fid)

abbrev pub is_version : T → Bool
is_version (Tversion _ _ _) = true
is_version _ = false

-- every message but a Tversion needs a tag and an agreed version
unfoldable pub answer_read : {S : Type 0} → Outside S → Session → S → Option ℕ → T → Outcome (Left S)
answer_read outside session rest mark m = do
  _ ← refuse_if (not (is_version m) && (tag_of_t m == no_tag)) 30
  _ ← refuse_if (not (is_version m) && not session.agreed) 31
  answer_to outside session rest mark m

abbrev pub read_or_not : {S : Type 0} → Outside S → Session → S → Option ℕ → Option T → Outcome (Left S)
read_or_not outside session rest mark None = Err 30
read_or_not outside session rest mark (Some m) = answer_read outside session rest mark m

-- a refusal changes nothing
abbrev pub replied : {S : Type 0} → Session → S → ℕ → Outcome (Left S) → Left S
replied session rest tag (Err n) = left (session, rest) (refusal tag n)
replied session rest tag (Ok after) = after

-- ---- how the bytes of a message are taken

pub data Taking : Type 0 where
  -- not at all: the session is closed
  Ignored : Taking
  -- as longer than was agreed
  TooLong : Taking
  -- as the end of the session, since its tag is that of a read that waits
  Closes : Taking
  -- as what they spell
  Reads : Taking

-- the kind of a Tversion
abbrev pub version_kind : ℕ
version_kind = 100

-- no tag of a read that waits may come again, but with a Tversion, after which none waits
abbrev pub taking : Session → List ℕ → Taking
taking session bytes =
    if is_some session.closed then Ignored
    else if nat_lt session.msize (length bytes) then TooLong
    else if not (kind_of bytes == version_kind) && waits_for session (tag_of bytes) then Closes
    else Reads

-- a session that is closed has nothing any more, and lives until it ends
abbrev pub closed_by : {S : Type 0} → (tag : ℕ) → Session × S → Session × S
closed_by tag after = (record after.0 { closed = Some tag }, after.1)

abbrev pub taken : {S : Type 0} → Outside S → Session → S → List ℕ → Option ℕ → Taking → Left S
taken outside session rest bytes mark Ignored = unanswered (session, rest)
taken outside session rest bytes mark TooLong = left (session, rest) (refusal (tag_of bytes) 30)
taken outside session rest bytes mark Closes = unanswered (closed_by (tag_of bytes) (cleared outside session rest))
taken outside session rest bytes mark Reads = replied session rest (tag_of bytes) (read_or_not outside session rest mark (message_of bytes))

-- What the bytes of a message leave of a session and of the outside, and its reply, if it has one now. A mark tells that memory ran
-- out in a data write after so many draw messages.
unfoldable pub answer : {S : Type 0} → Outside S → Session → S → List ℕ → Option ℕ → Left S
answer outside session rest bytes mark = taken outside session rest bytes mark (taking session bytes)
