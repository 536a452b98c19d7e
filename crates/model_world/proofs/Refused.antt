-- A refusal leaves all as it was.
use Rattle.std.proofs.Common.{◌≡◌, ℕ, Bool, true, false, List, [], ◌∷◌, Option, Some, None, Ok, Err, refl, sym, ap, subst, ◌∙◌}
use Rattle.std.specs.Prelude.{◌&&◌, ◌==◌, length, not, is_none, is_some, nat_le, nat_lt, IfOk, if◌then◌else◌}
use Rattle.std.specs.Option.{option_map_or}
use Rattle.model_text.specs.text.Outcome.{Outcome, ◌>>=◌, refuse_if, value_or_refuse}
use Rattle.model_text.specs.text.Map.{lookup}
use Rattle.model_files.specs.wire.Message.{T, Tversion, Tauth, Tattach, Tflush, Twalk, Topen, Tcreate, Tread, Twrite, Tclunk, Tremove, Tstat, Twstat, R, no_fid, no_tag, tag_of_t}
use Rattle.model_files.specs.wire.Reading.{message_of, tag_of}
use Rattle.model_history.specs.words.Values.{sides_of}
use Rattle.model_files.specs.mouse.Pointer.{pointer_of}
use Rattle.model_files.specs.declared.tree.Kind.{Kind}
use Rattle.model_files.specs.declared.tree.Kind.TheVariants.{New}
use Rattle.model_files.specs.declared.tree.Kind.TheVariants as kind
use Rattle.model_files.specs.tree.Attach.{attach_of}
use Rattle.model_files.specs.tree.Node.{Node, may, reads, row, writes}
use Rattle.model_files.specs.tree.Tree.{check_live}
use Rattle.model_world.specs.Session.{Fid, Session}
use Rattle.model_world.specs.Outside.{Outside}
use Rattle.model_world.specs.Refusal.{refusal}
use Rattle.model_world.specs.Fids.{Done, Left, left, beside, fid_of, is_bound, is_full, is_kind}
use Rattle.model_world.specs.Walking.{attach_answer, is_taken, most_made, open_answer, walk_answer, walk_ended, walked}
use Rattle.model_world.specs.Reading.{Given, count_within, is_open_for, most_waiting, node_read, read_answer, read_ended}
use Rattle.model_world.specs.Writing.{are_keys, file_written, line_of, raw_asked, snarf_written, whole_or_refused, with_raw_asked, write_answer, write_reply}
use Rattle.model_world.specs.Answer.{Taking, Ignored, TooLong, Closes, Reads, answer, answer_read, answer_to, asks_for_9p, clunk_answer, denied, is_version, read_or_not, replied, stat_answer, taken, taking, version_answer}
use Rattle.model_world.specs.Refused.{is_error, may_leave, may_leave_of}
use Rattle.model_world.proofs.Others.{after_step, some_is}

-- what is not refused is answered by no error
abbrev IsPlainReply : Option R → Type 0
IsPlainReply (Some reply) = is_error reply ≡ false
IsPlainReply None = Unit {0}

abbrev IsPlain : {S : Type 0} → Outcome (Left S) → Type 0
IsPlain o = IfOk o (λ after. IsPlainReply after.reply)

abbrev IsPlainDone : Outcome Done → Type 0
IsPlainDone o = IfOk o (λ d. is_error d.reply ≡ false)

plain-beside : {S : Type 0} (rest : S) (o : Outcome Done) → IsPlainDone o → IsPlain (beside rest o)
plain-beside rest (Ok d) h = h
plain-beside rest (Err n) h = tt

plain-if : {S : Type 0} (b : Bool) (x y : Left S) → IsPlainReply x.reply → IsPlainReply y.reply → IsPlainReply (let z : Left S = if b then x else y in z.reply)
plain-if true x y h k = h
plain-if false x y h k = k

plain-walk : (session : Session) (tag fid newfid : ℕ) (node : Node) (nodes : List Node) (o : Option ℕ) → IsPlainDone (walk_ended session tag fid newfid node (nodes, o))
plain-walk session tag fid newfid node nodes None = refl
plain-walk session tag fid newfid node [] (Some n) = tt
plain-walk session tag fid newfid node (next ∷ nodes) (Some n) = refl

plain-version : {S : Type 0} (outside : Outside S) (session : Session) (rest : S) (tag msize : ℕ) (version : List ℕ) → IsPlain (version_answer outside session rest tag msize version)
unfolding version_answer
plain-version outside session rest tag msize version = after_step _ (refuse_if (nat_lt msize 256) 48) _ (λ _ _. plain-if (asks_for_9p version) _ _ refl refl)

plain-attach : {S : Type 0} (outside : Outside S) (session : Session) (rest : S) (tag fid afid : ℕ) (aname : List ℕ) → IsPlain (attach_answer outside session rest tag fid afid aname)
unfolding attach_answer
plain-attach outside session rest tag fid afid aname =
    after_step _ (refuse_if (not (afid == no_fid)) 40) _ (λ _ _.
    after_step _ (refuse_if (is_bound session fid) 33) _ (λ _ _.
    after_step _ (refuse_if (is_full session) 44) _ (λ _ _.
    after_step _ (outside.attached rest (attach_of aname)) _ (λ _ _. refl))))

plain-walked : {S : Type 0} (outside : Outside S) (session : Session) (rest : S) (tag fid newfid : ℕ) (names : List (List ℕ)) → IsPlainDone (walk_answer outside session rest tag fid newfid names)
unfolding walk_answer
plain-walked outside session rest tag fid newfid names =
    after_step _ (fid_of session fid) _ (λ from _.
    after_step _ (refuse_if (is_some from.mode) 36) _ (λ _ _.
    after_step _ (refuse_if (not (newfid == fid) && is_bound session newfid) 33) _ (λ _ _.
    after_step _ (refuse_if (not (newfid == fid) && is_full session) 44) _ (λ _ _. plain-walk session tag fid newfid from.node (walked (outside.view rest session.connections) from.node names).0 (walked (outside.view rest session.connections) from.node names).1))))

plain-opened : {S : Type 0} (outside : Outside S) (session : Session) (rest : S) (tag number mode : ℕ) → IsPlain (open_answer outside session rest tag number mode)
unfolding open_answer
plain-opened outside session rest tag number mode =
    after_step _ (fid_of session number) _ (λ fid _.
    after_step _ (refuse_if (is_some fid.mode) 36) _ (λ _ _.
    after_step _ (check_live (outside.view rest session.connections fid.node) fid.node) _ (λ _ _.
    after_step _ (refuse_if (not (may fid.node mode)) 38) _ (λ _ _.
    after_step _ (refuse_if (is_taken outside session rest fid.node) 43) _ (λ _ _.
    after_step _ (refuse_if (is_kind New fid.node.kind && nat_le most_made session.made) 44) _ (λ _ _. plain-if (is_kind New fid.node.kind) _ _ refl refl))))))

plain-end : {S : Type 0} (session : Session) (rest : S) (tag number count : ℕ) (got : Option (Given S)) → IsPlain (read_ended session rest tag number count got)
plain-end session rest tag number count (Some got) = refl
plain-end session rest tag number count None = after_step _ (refuse_if (nat_le most_waiting (length session.waiting)) 45) _ (λ _ _. tt)

plain-read : {S : Type 0} (outside : Outside S) (session : Session) (rest : S) (tag number offset count : ℕ) → IsPlain (read_answer outside session rest tag number offset count)
unfolding read_answer
plain-read outside session rest tag number offset count =
    after_step _ (fid_of session number) _ (λ fid _.
    after_step _ (refuse_if (is_none fid.mode) 37) _ (λ _ _.
    after_step _ (refuse_if (not (is_open_for reads fid)) 38) _ (λ _ _.
    after_step _ (check_live (outside.view rest session.connections fid.node) fid.node) _ (λ _ _.
    after_step _ (node_read outside session.connections rest fid offset (count_within session count)) _ (λ got _. plain-end session rest tag number (count_within session count) got)))))

-- only a write to data leaves something that it refuses
plain-file : {S : Type 0} (outside : Outside S) (session : Session) (rest : S) (tag : ℕ) (node : Node) (offset : ℕ) (bytes : List ℕ) (mark : Option ℕ) (k : Kind) → is_kind kind.Data k ≡ false
    → IsPlain (file_written outside rest node offset bytes mark k >>= λ after. Ok (left (session, after.0) (write_reply tag (length bytes) after.1)))
unfolding row
plain-file {S = S} outside session rest tag node offset bytes mark k other = by k other
  where
    whole : (o : Outcome S) → IsPlain (whole_or_refused o >>= λ (after : S × Option ℕ). Ok (left (session, after.0) (write_reply tag (length bytes) after.1)))
    whole (Ok next) = refl
    whole (Err n) = tt

    by : (k : Kind) → is_kind kind.Data k ≡ false → IsPlain (file_written outside rest node offset bytes mark k >>= λ after. Ok (left (session, after.0) (write_reply tag (length bytes) after.1)))
    by kind.Ctl other = whole (outside.write_ctl rest node.connection bytes)
    by kind.Data other = absurd (cc other)
    by kind.Mousein other = whole (value_or_refuse (pointer_of bytes) 51 >>= λ e. Ok (outside.mouse rest e))
    by kind.Kbdin other = whole (refuse_if (not (are_keys bytes)) 51 >>= λ _. Ok (outside.keys rest bytes))
    by kind.Hwsize other = whole (value_or_refuse (sides_of (line_of bytes)) 51 >>= λ size. outside.with_size rest size)
    by kind.Snarf other = whole (snarf_written (outside.snarf rest node.serial) offset bytes >>= λ new. Ok (outside.with_snarf rest node.serial new))
    by kind.DeviceWctl other = whole (outside.device_command rest bytes)
    by kind.Cons other = refl
    by kind.Consctl other = whole (raw_asked (line_of bytes) >>= λ asked. Ok (with_raw_asked outside rest node.serial asked))
    by kind.Mouse other = refl
    by kind.Label other = refl
    by kind.Wctl other = whole (outside.command rest node.serial bytes)
    by _ other = tt

found : (session : Session) (number : ℕ) (fid : Fid) → fid_of session number ≡ Ok fid → lookup session.fids number ≡ Some fid
found session number fid e = by (lookup session.fids number) e
  where
    by : (o : Option Fid) → value_or_refuse o 32 ≡ Ok fid → o ≡ Some fid
    by None e = absurd cc
    by (Some x) e = cc

plain-write : {S : Type 0} (outside : Outside S) (session : Session) (rest : S) (tag number offset : ℕ) (bytes : List ℕ) (mark : Option ℕ)
    → option_map_or (λ (f : Fid). is_kind kind.Data f.node.kind) (lookup session.fids number) false ≡ false → IsPlain (write_answer outside session rest tag number offset bytes mark)
unfolding write_answer
plain-write outside session rest tag number offset bytes mark other =
    after_step _ (fid_of session number) _ (λ fid at.
    after_step _ (refuse_if (is_none fid.mode) 37) _ (λ _ _.
    after_step _ (refuse_if (not (is_open_for writes fid)) 38) _ (λ _ _.
    after_step _ (check_live (outside.view rest session.connections fid.node) fid.node) _ (λ _ _.
    plain-file outside session rest tag fid.node offset bytes mark fid.node.kind (ap (λ (o : Option Fid). option_map_or (λ (f : Fid). is_kind kind.Data f.node.kind) o false) (sym (found session number fid at)) ∙ other)))))

plain-clunk : {S : Type 0} (outside : Outside S) (session : Session) (rest : S) (number : ℕ) (reply : R) → is_error reply ≡ false → IsPlain (clunk_answer outside session rest number reply)
unfolding clunk_answer
plain-clunk outside session rest number reply h = after_step _ (fid_of session number) _ (λ _ _. h)

-- a remove of a fid that is not bound is refused
plain-remove : {S : Type 0} (outside : Outside S) (session : Session) (rest : S) (number : ℕ) (reply : R) → is_some (lookup session.fids number) ≡ false → IsPlain (clunk_answer outside session rest number reply)
unfolding clunk_answer
plain-remove outside session rest number reply none = after_step _ (fid_of session number) _ (λ fid at. let there = ap is_some (found session number fid at) in absurd cc)

plain-stat : {S : Type 0} (outside : Outside S) (session : Session) (rest : S) (tag number : ℕ) → IsPlainDone (stat_answer outside session rest tag number)
unfolding stat_answer
plain-stat outside session rest tag number =
    after_step _ (fid_of session number) _ (λ fid _.
    after_step _ (check_live (outside.view rest session.connections fid.node) fid.node) _ (λ _ _. refl))

plain-denied : (session : Session) (number : ℕ) → IsPlainDone (denied session number)
plain-denied session number = after_step _ (fid_of session number) _ (λ _ _. tt)

plain-answer : {S : Type 0} (outside : Outside S) (session : Session) (rest : S) (mark : Option ℕ) (m : T) → may_leave session m ≡ false → IsPlain (answer_to outside session rest mark m)
plain-answer outside session rest mark (Tversion tag msize version) h = plain-version outside session rest tag msize version
plain-answer outside session rest mark (Tauth tag afid uname aname) h = tt
plain-answer outside session rest mark (Tattach tag fid afid uname aname) h = plain-attach outside session rest tag fid afid aname
plain-answer outside session rest mark (Tflush tag oldtag) h = refl
plain-answer outside session rest mark (Twalk tag fid newfid names) h = plain-beside rest _ (plain-walked outside session rest tag fid newfid names)
plain-answer outside session rest mark (Topen tag fid mode) h = plain-opened outside session rest tag fid mode
plain-answer outside session rest mark (Tcreate tag fid name perm mode) h = plain-beside rest _ (plain-denied session fid)
plain-answer outside session rest mark (Tread tag fid offset count) h = plain-read outside session rest tag fid offset count
plain-answer outside session rest mark (Twrite tag fid offset bytes) h = plain-write outside session rest tag fid offset bytes mark h
plain-answer outside session rest mark (Tclunk tag fid) h = plain-clunk outside session rest fid _ refl
plain-answer outside session rest mark (Tremove tag fid) h = plain-remove outside session rest fid _ h
plain-answer outside session rest mark (Tstat tag fid) h = plain-beside rest _ (plain-stat outside session rest tag fid)
plain-answer outside session rest mark (Twstat tag fid stat) h = plain-beside rest _ (plain-denied session fid)

plain-read_answer : {S : Type 0} (outside : Outside S) (session : Session) (rest : S) (mark : Option ℕ) (m : T) → may_leave session m ≡ false → IsPlain (answer_read outside session rest mark m)
unfolding answer_read
plain-read_answer outside session rest mark m h =
    after_step _ (refuse_if (not (is_version m) && (tag_of_t m == no_tag)) 30) _ (λ _ _.
    after_step _ (refuse_if (not (is_version m) && not session.agreed) 31) _ (λ _ _. plain-answer outside session rest mark m h))

plain-or_not : {S : Type 0} (outside : Outside S) (session : Session) (rest : S) (mark : Option ℕ) (o : Option T) → option_map_or (may_leave session) o false ≡ false → IsPlain (read_or_not outside session rest mark o)
plain-or_not outside session rest mark None h = tt
plain-or_not outside session rest mark (Some m) h = plain-read_answer outside session rest mark m h

replied-same : {S : Type 0} (session : Session) (rest : S) (tag : ℕ) (o : Outcome (Left S)) (reply : R) → IsPlain o → (replied session rest tag o).reply ≡ Some reply → is_error reply ≡ true
    → replied session rest tag o ≡ left (session, rest) reply
replied-same session rest tag (Err n) reply h at e = ap (λ (r : R). left (session, rest) r) (some_is (refusal tag n) reply at)
replied-same session rest tag (Ok after) reply h at e = let plain : is_error reply ≡ false = subst IsPlainReply at h in absurd cc

pub refusal-leaves : {S : Type 0} (outside : Outside S) (session : Session) (rest : S) (bytes : List ℕ) (mark : Option ℕ) (reply : R) → may_leave_of session bytes ≡ false
    → (answer outside session rest bytes mark).reply ≡ Some reply → is_error reply ≡ true → answer outside session rest bytes mark ≡ left (session, rest) reply
unfolding answer
refusal-leaves outside session rest bytes mark reply h at e = by (taking session bytes) at
  where
    by : (t : Taking) → (taken outside session rest bytes mark t).reply ≡ Some reply → taken outside session rest bytes mark t ≡ left (session, rest) reply
    by Ignored at = absurd (cc at)
    by TooLong at = ap (λ (r : R). left (session, rest) r) (some_is (refusal (tag_of bytes) 30) reply at)
    by Closes at = absurd (cc at)
    by Reads at = replied-same session rest (tag_of bytes) (read_or_not outside session rest mark (message_of bytes)) reply (plain-or_not outside session rest mark (message_of bytes) h) at e

-- ---- a write leaves its session

abbrev KeepsSession : {S : Type 0} → Session → Outcome (Left S) → Type 0
KeepsSession session o = IfOk o (λ after. after.session ≡ session)

keeps-write : {S : Type 0} (outside : Outside S) (session : Session) (rest : S) (tag number offset : ℕ) (bytes : List ℕ) (mark : Option ℕ) → KeepsSession session (write_answer outside session rest tag number offset bytes mark)
unfolding write_answer
keeps-write outside session rest tag number offset bytes mark =
    after_step _ (fid_of session number) _ (λ fid _.
    after_step _ (refuse_if (is_none fid.mode) 37) _ (λ _ _.
    after_step _ (refuse_if (not (is_open_for writes fid)) 38) _ (λ _ _.
    after_step _ (check_live (outside.view rest session.connections fid.node) fid.node) _ (λ _ _.
    after_step _ (file_written outside rest fid.node offset bytes mark fid.node.kind) _ (λ _ _. refl)))))

keeps-read : {S : Type 0} (outside : Outside S) (session : Session) (rest : S) (mark : Option ℕ) (tag number offset : ℕ) (bytes : List ℕ) → KeepsSession session (answer_read outside session rest mark (Twrite tag number offset bytes))
unfolding answer_read
keeps-read outside session rest mark tag number offset bytes =
    after_step _ (refuse_if (not (is_version (Twrite tag number offset bytes)) && (tag == no_tag)) 30) _ (λ _ _.
    after_step _ (refuse_if (not (is_version (Twrite tag number offset bytes)) && not session.agreed) 31) _ (λ _ _. keeps-write outside session rest tag number offset bytes mark))

replied-keeps : {S : Type 0} (session : Session) (rest : S) (tag : ℕ) (o : Outcome (Left S)) → KeepsSession session o → (replied session rest tag o).session ≡ session
replied-keeps session rest tag (Err n) h = refl
replied-keeps session rest tag (Ok after) h = h

pub write-leaves : {S : Type 0} (outside : Outside S) (session : Session) (rest : S) (bytes : List ℕ) (mark : Option ℕ) (tag fid offset : ℕ) (written : List ℕ) (reply : R)
    → message_of bytes ≡ Some (Twrite tag fid offset written) → (answer outside session rest bytes mark).reply ≡ Some reply → (answer outside session rest bytes mark).session ≡ session
unfolding answer
write-leaves outside session rest bytes mark tag fid offset written reply spelled at = by (taking session bytes) at
  where
    read : (o : Option T) → o ≡ Some (Twrite tag fid offset written) → KeepsSession session (read_or_not outside session rest mark o)
    read o e = rw e (keeps-read outside session rest mark tag fid offset written)

    by : (t : Taking) → (taken outside session rest bytes mark t).reply ≡ Some reply → (taken outside session rest bytes mark t).session ≡ session
    by Ignored at = refl
    by TooLong at = refl
    by Closes at = absurd (cc at)
    by Reads at = replied-keeps session rest (tag_of bytes) (read_or_not outside session rest mark (message_of bytes)) (read (message_of bytes) spelled)
