-- What a message leaves of its session: by which tag it is closed, and how long its next message may be.
use Rattle.std.proofs.Common.{◌≡◌, ℕ, Bool, true, false, List, [], ◌∷◌, Option, Some, None, Ok, Err, refl, ap, ◌∙◌, min}
use Rattle.std.specs.Prelude.{◌&&◌, ◌==◌, IfOk, codes, is_none, is_some, length, not, nat_le, nat_lt, if◌then◌else◌}
use Rattle.std.specs.Option.{option_map_or}
use Rattle.std.proofs.lemmas.Bool.{cond_both}
use Rattle.model_text.specs.text.Map.{without}
use Rattle.model_text.specs.text.Outcome.{Outcome, ◌>>=◌, refuse_if}
use Rattle.model_files.specs.wire.Message.{T, Tversion, Tauth, Tattach, Tflush, Twalk, Topen, Tcreate, Tread, Twrite, Tclunk, Tremove, Tstat, Twstat, R, Rclunk, Rversion, no_fid, no_tag, tag_of_t}
use Rattle.model_files.specs.wire.Reading.{kind_of, message_of, tag_of}
use Rattle.model_files.specs.declared.tree.Kind.TheVariants.{New}
use Rattle.model_files.specs.tree.Attach.{attach_of}
use Rattle.model_files.specs.tree.Node.{Node, may, reads, writes}
use Rattle.model_files.specs.tree.Tree.{check_live}
use Rattle.model_world.specs.Session.{Fid, Session, max_msize}
use Rattle.model_world.specs.Outside.{Outside}
use Rattle.model_world.specs.Refusal.{refusal}
use Rattle.model_world.specs.Fids.{Done, Left, beside, cleared, fid_of, fids_gone, is_bound, is_full, is_kind, left, settled}
use Rattle.model_world.specs.Walking.{attach_answer, is_taken, most_made, open_answer, walk_answer, walk_ended, walked}
use Rattle.model_world.specs.Reading.{Given, count_within, is_open_for, most_waiting, node_read, read_answer, read_ended}
use Rattle.model_world.specs.Writing.{file_written, write_answer}
use Rattle.model_world.specs.Waiting.{waits_for}
use Rattle.model_world.specs.Answer.{Taking, Ignored, TooLong, Closes, Reads, answer, answer_read, answer_to, asks_for_9p, clunk_answer, denied, is_version, read_or_not, replied, stat_answer, taken, taking, version_answer, version_kind}
use Rattle.model_world.specs.Replay.{closing_tag}
use Rattle.model_world.proofs.Others.{after_step}
use Rattle.model_world.proofs.Remains.{reply_remains}
use Rattle.model_world.proofs.Closed.{closed-ignores}
use Rattle.model_served.specs.served.Served.{first_of, size_after, size_agreed}

-- ---- the size, by each message but a Tversion

abbrev SameIf : {S : Type 0} → Session → Outcome (Left S) → Type 0
SameIf session o = IfOk o (λ after. after.session.msize ≡ session.msize)

abbrev SameDone : Session → Outcome Done → Type 0
SameDone session o = IfOk o (λ d. d.session.msize ≡ session.msize)

beside_same : {S : Type 0} (session : Session) (rest : S) (o : Outcome Done) → SameDone session o → SameIf session (beside rest o)
beside_same session rest (Ok d) same = same
beside_same session rest (Err n) same = tt

attach_same : {S : Type 0} (outside : Outside S) (session : Session) (rest : S) (tag fid afid : ℕ) (aname : List ℕ) → SameIf session (attach_answer outside session rest tag fid afid aname)
unfolding attach_answer
attach_same outside session rest tag fid afid aname =
    after_step _ (refuse_if (not (afid == no_fid)) 40) _ (λ _ _.
    after_step _ (refuse_if (is_bound session fid) 33) _ (λ _ _.
    after_step _ (refuse_if (is_full session) 44) _ (λ _ _.
    after_step _ (outside.attached rest (attach_of aname)) _ (λ _ _. refl))))

-- newfid stands for another file
either_same : (session : Session) (b : Bool) (x y : Session) → x.msize ≡ session.msize → y.msize ≡ session.msize → (if b then x else y).msize ≡ session.msize
either_same session true x y this other = this
either_same session false x y this other = other

walked_same : (session : Session) (tag fid newfid : ℕ) (node : Node) (nodes : List Node) (o : Option ℕ) → SameDone session (walk_ended session tag fid newfid node (nodes, o))
walked_same session tag fid newfid node nodes None = either_same session (newfid == fid) _ _ refl refl
walked_same session tag fid newfid node [] (Some n) = tt
walked_same session tag fid newfid node (next ∷ nodes) (Some n) = refl

walk_same : {S : Type 0} (outside : Outside S) (session : Session) (rest : S) (tag fid newfid : ℕ) (names : List (List ℕ)) → SameDone session (walk_answer outside session rest tag fid newfid names)
unfolding walk_answer
walk_same outside session rest tag fid newfid names =
    after_step _ (fid_of session fid) _ (λ from _.
    after_step _ (refuse_if (is_some from.mode) 36) _ (λ _ _.
    after_step _ (refuse_if (not (newfid == fid) && is_bound session newfid) 33) _ (λ _ _.
    after_step _ (refuse_if (not (newfid == fid) && is_full session) 44) _ (λ _ _.
    walked_same session tag fid newfid from.node (walked (outside.view rest session.connections) from.node names).0 (walked (outside.view rest session.connections) from.node names).1))))

open_same : {S : Type 0} (outside : Outside S) (session : Session) (rest : S) (tag number mode : ℕ) → SameIf session (open_answer outside session rest tag number mode)
unfolding open_answer
open_same {S = S} outside session rest tag number mode =
    after_step _ (fid_of session number) _ (λ fid _.
    after_step _ (refuse_if (is_some fid.mode) 36) _ (λ _ _.
    after_step _ (check_live (outside.view rest session.connections fid.node) fid.node) _ (λ _ _.
    after_step _ (refuse_if (not (may fid.node mode)) 38) _ (λ _ _.
    after_step _ (refuse_if (is_taken outside session rest fid.node) 43) _ (λ _ _.
    after_step _ (refuse_if (is_kind New fid.node.kind && nat_le most_made session.made) 44) _ (λ _ _.
    cond_both (is_kind New fid.node.kind) _ _ (λ (after : Left S). after.session.msize ≡ session.msize) (λ _. refl) (λ _. refl)))))))

read_end_same : {S : Type 0} (session : Session) (rest : S) (tag number count : ℕ) (got : Option (Given S)) → SameIf session (read_ended session rest tag number count got)
read_end_same session rest tag number count (Some got) = refl
read_end_same session rest tag number count None = after_step _ (refuse_if (nat_le most_waiting (length session.waiting)) 45) _ (λ _ _. refl)

read_same : {S : Type 0} (outside : Outside S) (session : Session) (rest : S) (tag number offset count : ℕ) → SameIf session (read_answer outside session rest tag number offset count)
unfolding read_answer
read_same outside session rest tag number offset count =
    after_step _ (fid_of session number) _ (λ fid _.
    after_step _ (refuse_if (is_none fid.mode) 37) _ (λ _ _.
    after_step _ (refuse_if (not (is_open_for reads fid)) 38) _ (λ _ _.
    after_step _ (check_live (outside.view rest session.connections fid.node) fid.node) _ (λ _ _.
    after_step _ (node_read outside session.connections rest fid offset (count_within session count)) _ (λ got _. read_end_same session rest tag number (count_within session count) got)))))

write_same : {S : Type 0} (outside : Outside S) (session : Session) (rest : S) (tag number offset : ℕ) (bytes : List ℕ) (mark : Option ℕ) → SameIf session (write_answer outside session rest tag number offset bytes mark)
unfolding write_answer
write_same outside session rest tag number offset bytes mark =
    after_step _ (fid_of session number) _ (λ fid _.
    after_step _ (refuse_if (is_none fid.mode) 37) _ (λ _ _.
    after_step _ (refuse_if (not (is_open_for writes fid)) 38) _ (λ _ _.
    after_step _ (check_live (outside.view rest session.connections fid.node) fid.node) _ (λ _ _.
    after_step _ (file_written outside rest fid.node offset bytes mark fid.node.kind) _ (λ _ _. refl)))))

gone_same : {S : Type 0} (outside : Outside S) (session : Session) (rest : S) (gone : List Fid) → (fids_gone outside session rest gone).0.msize ≡ session.msize
unfolding fids_gone settled
gone_same outside session rest gone = refl

clunk_same : {S : Type 0} (outside : Outside S) (session : Session) (rest : S) (number : ℕ) (reply : R) → SameIf session (clunk_answer outside session rest number reply)
unfolding clunk_answer
clunk_same outside session rest number reply = after_step _ (fid_of session number) _ (λ fid _. gone_same outside (record session { fids = without session.fids number }) rest (fid ∷ []))

stat_same : {S : Type 0} (outside : Outside S) (session : Session) (rest : S) (tag number : ℕ) → SameDone session (stat_answer outside session rest tag number)
unfolding stat_answer
stat_same outside session rest tag number =
    after_step _ (fid_of session number) _ (λ fid _.
    after_step _ (check_live (outside.view rest session.connections fid.node) fid.node) _ (λ _ _. refl))

denied_same : (session : Session) (number : ℕ) → SameDone session (denied session number)
denied_same session number = after_step _ (fid_of session number) _ (λ _ _. tt)

-- ---- a message that is read

abbrev IsSized : {S : Type 0} → (msize : ℕ) → Session → S → (tag : ℕ) → Outcome (Left S) → Type 0
IsSized msize session rest tag o = (replied session rest tag o).session.msize ≡ msize

same_sized : {S : Type 0} (session : Session) (rest : S) (tag : ℕ) (o : Outcome (Left S)) → SameIf session o → IsSized session.msize session rest tag o
same_sized session rest tag (Ok after) same = same
same_sized session rest tag (Err n) same = refl

version_by : {S : Type 0} (session : Session) (rest : S) (tag : ℕ) (short ours : Bool) (x y : Left S)
    → IsSized (if short then session.msize else if ours then x.session.msize else y.session.msize) session rest tag (refuse_if short 48 >>= λ _. Ok (if ours then x else y))
version_by session rest tag true ours x y = refl
version_by session rest tag false true x y = refl
version_by session rest tag false false x y = refl

version_sized : {S : Type 0} (outside : Outside S) (session : Session) (rest : S) (tag : ℕ) (mark : Option ℕ) (number asked : ℕ) (version : List ℕ)
    → IsSized (size_agreed session.msize (Tversion number asked version)) session rest tag (answer_read outside session rest mark (Tversion number asked version))
unfolding answer_read version_answer
version_sized outside session rest tag mark number asked version =
    let after = cleared outside session rest in
    version_by session rest tag (nat_lt asked 256) (asks_for_9p version)
    (left (record after.0 { msize = min asked max_msize; agreed = true }, after.1) (Rversion number (min asked max_msize) (codes "9P2000")))
    (left (record after.0 { msize = max_msize; agreed = false }, after.1) (Rversion number (min asked max_msize) (codes "unknown")))

-- what needs a tag and an agreed version
needing_sized : {S : Type 0} (outside : Outside S) (session : Session) (rest : S) (tag : ℕ) (mark : Option ℕ) (m : T) → SameIf session (answer_to outside session rest mark m)
    → IsSized session.msize session rest tag (answer_read outside session rest mark m)
unfolding answer_read
needing_sized outside session rest tag mark m same = same_sized session rest tag (answer_read outside session rest mark m)
    (after_step _ (refuse_if (not (is_version m) && (tag_of_t m == no_tag)) 30) _ (λ _ _.
    after_step _ (refuse_if (not (is_version m) && not session.agreed) 31) _ (λ _ _. same)))

message_sized : {S : Type 0} (outside : Outside S) (session : Session) (rest : S) (tag : ℕ) (mark : Option ℕ) (m : T) → IsSized (size_agreed session.msize m) session rest tag (answer_read outside session rest mark m)
message_sized outside session rest tag mark (Tversion number msize version) = version_sized outside session rest tag mark number msize version
message_sized outside session rest tag mark (Tauth number afid uname aname) = needing_sized outside session rest tag mark (Tauth number afid uname aname) tt
message_sized outside session rest tag mark (Tattach number fid afid uname aname) = needing_sized outside session rest tag mark (Tattach number fid afid uname aname) (attach_same outside session rest number fid afid aname)
message_sized outside session rest tag mark (Tflush number oldtag) = needing_sized outside session rest tag mark (Tflush number oldtag) refl
message_sized outside session rest tag mark (Twalk number fid newfid names) =
    needing_sized outside session rest tag mark (Twalk number fid newfid names) (beside_same session rest (walk_answer outside session rest number fid newfid names) (walk_same outside session rest number fid newfid names))
message_sized outside session rest tag mark (Topen number fid mode) = needing_sized outside session rest tag mark (Topen number fid mode) (open_same outside session rest number fid mode)
message_sized outside session rest tag mark (Tcreate number fid name perm mode) = needing_sized outside session rest tag mark (Tcreate number fid name perm mode) (beside_same session rest (denied session fid) (denied_same session fid))
message_sized outside session rest tag mark (Tread number fid offset count) = needing_sized outside session rest tag mark (Tread number fid offset count) (read_same outside session rest number fid offset count)
message_sized outside session rest tag mark (Twrite number fid offset bytes) = needing_sized outside session rest tag mark (Twrite number fid offset bytes) (write_same outside session rest number fid offset bytes mark)
message_sized outside session rest tag mark (Tclunk number fid) = needing_sized outside session rest tag mark (Tclunk number fid) (clunk_same outside session rest fid (Rclunk number))
message_sized outside session rest tag mark (Tremove number fid) = needing_sized outside session rest tag mark (Tremove number fid) (clunk_same outside session rest fid (refusal number 38))
message_sized outside session rest tag mark (Tstat number fid) = needing_sized outside session rest tag mark (Tstat number fid) (beside_same session rest (stat_answer outside session rest number fid) (stat_same outside session rest number fid))
message_sized outside session rest tag mark (Twstat number fid stat) = needing_sized outside session rest tag mark (Twstat number fid stat) (beside_same session rest (denied session fid) (denied_same session fid))

bytes_sized : {S : Type 0} (outside : Outside S) (session : Session) (rest : S) (tag : ℕ) (mark : Option ℕ) (o : Option T)
    → IsSized (option_map_or (size_agreed session.msize) o session.msize) session rest tag (read_or_not outside session rest mark o)
bytes_sized outside session rest tag mark None = refl
bytes_sized outside session rest tag mark (Some m) = message_sized outside session rest tag mark m

-- ---- all messages

-- a message closes its session where none closed it before
pub answer_closed : {S : Type 0} (outside : Outside S) (session : Session) (rest : S) (bytes : List ℕ) (mark : Option ℕ)
    → (answer outside session rest bytes mark).session.closed ≡ first_of session.closed (closing_tag bytes (taking session bytes))
unfolding answer
answer_closed {S = S} outside session rest bytes mark = by session.closed refl
  where
    unclosed : session.closed ≡ None → (t : Taking) → (taken outside session rest bytes mark t).session.closed ≡ closing_tag bytes t
    unclosed none Ignored = none
    unclosed none TooLong = none
    unclosed none Closes = refl
    unclosed none Reads = (reply_remains outside session rest mark bytes).closed ∙ none

    by : (o : Option ℕ) → session.closed ≡ o → (answer outside session rest bytes mark).session.closed ≡ first_of o (closing_tag bytes (taking session bytes))
    by (Some tag) at = ap (λ (after : Left S). after.session.closed) (closed-ignores outside session rest bytes mark (ap (λ (o : Option ℕ). is_some o) at)) ∙ at
    by None none = unclosed none (taking session bytes)

-- one that does not close its session leaves it the size that it agrees on
pub answer_size : {S : Type 0} (outside : Outside S) (session : Session) (rest : S) (bytes : List ℕ) (mark : Option ℕ) → session.closed ≡ None → closing_tag bytes (taking session bytes) ≡ None
    → (answer outside session rest bytes mark).session.msize ≡ size_after session.msize bytes
unfolding answer
answer_size outside session rest bytes mark open_still none =
    by (is_some session.closed) (nat_lt session.msize (length bytes)) (not (kind_of bytes == version_kind) && waits_for session (tag_of bytes)) (ap (λ (o : Option ℕ). is_some o) open_still) none
  where
    by : (closed long waits : Bool) → closed ≡ false → closing_tag bytes (if closed then Ignored else if long then TooLong else if waits then Closes else Reads) ≡ None
        → (taken outside session rest bytes mark (if closed then Ignored else if long then TooLong else if waits then Closes else Reads)).session.msize
        ≡ (if long then session.msize else option_map_or (size_agreed session.msize) (message_of bytes) session.msize)
    by true long waits never none = absurd (cc never)
    by false true waits never none = refl
    by false false true never none = absurd (cc none)
    by false false false never none = bytes_sized outside session rest (tag_of bytes) mark (message_of bytes)
