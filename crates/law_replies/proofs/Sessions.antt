-- What a message leaves of its session: which reads wait, and that its reply fits.
use Rattle.std.proofs.Common.{◌≡◌, ◌<◌, ◌≤◌, ◌+◌, ◌^◌, ℕ, Bool, true, false, cond, min, List, [], ◌∷◌, ◌++◌, length, map, All, Option, Some, None, Ok, Err, refl, sym, ap, subst, arith, lit≤}
use Rattle.std.specs.Prelude.{◌&&◌, ◌==◌, IfOk, IfSome, codes, count_by, filter, is_none, is_some, nat_le, nat_lt, not, if◌then◌else◌}
use Rattle.std.proofs.lemmas.Bool.{cond_both, ltb-false}
use Rattle.std.proofs.lemmas.List.{length-map}
use Rattle.std.proofs.lemmas.List.Elements.{All-filter, All-nil, All-push}
use Rattle.std.proofs.lemmas.List.Sums.{sum_by-append, sum_by-cons}
use Rattle.model_text.specs.text.Map.{without}
use Rattle.model_text.specs.text.Number.{AreBytes}
use Rattle.model_text.specs.text.Outcome.{Outcome, refuse_if}
use Rattle.model_files.specs.wire.Message.{T, Tversion, Tauth, Tattach, Tflush, Twalk, Topen, Tcreate, Tread, Twrite, Tclunk, Tremove, Tstat, Twstat, R, Rclunk, Rstat, no_fid, no_tag, tag_of_t}
use Rattle.model_files.specs.wire.Reading.{message_of, tag_of}
use Rattle.model_files.specs.wire.Spelling.{FitsT}
use Rattle.model_files.proofs.wire.Laws.{t_takes}
use Rattle.model_files.specs.declared.tree.Kind.TheVariants.{New}
use Rattle.model_files.specs.tree.Attach.{attach_of}
use Rattle.model_files.specs.tree.Node.{Node, may, qid, reads, writes}
use Rattle.model_files.specs.tree.Tree.{View, check_live, stat, stat_named, walk}
use Rattle.model_world.specs.Session.{Fid, Session, Wait}
use Rattle.model_world.specs.Outside.{Outside}
use Rattle.model_world.specs.Refusal.{refusal}
use Rattle.model_world.specs.Fids.{Done, Left, beside, cleared, fid_of, fids_gone, is_bound, is_full, is_kind, settled}
use Rattle.model_world.specs.Walking.{attach_answer, is_taken, most_made, open_answer, walk_answer, walk_ended, walk_on, walked}
use Rattle.model_world.specs.Reading.{Given, count_within, is_open_for, most_waiting, node_read, read_answer, read_ended}
use Rattle.model_world.specs.Writing.{file_written, write_answer, write_reply}
use Rattle.model_world.specs.Waiting.{flushed}
use Rattle.model_world.specs.Answer.{Taking, Ignored, TooLong, Closes, Reads, answer, answer_read, answer_to, asks_for_9p, clunk_answer, denied, is_version, read_or_not, replied, stat_answer, taken, taking, version_answer}
use Rattle.model_world.specs.Standing.{tag_of_r}
use Rattle.model_world.proofs.Others.{after_if, after_step}
use Rattle.model_world.proofs.Links.{cleared_is}
use Rattle.model_world.proofs.Tags.{message_tag}
use Rattle.law_replies.specs.Tags.{waiting_with}
use Rattle.law_replies.proofs.Lengths.{Fits, FitsRead, attach_fits, clunk_fits, error_fits, flush_fits, open_fits, read_fits, stat_fits, version_fits, walk_fits, write_fits}
use Rattle.law_replies.proofs.Given.{Tells, node_fits}

-- ---- sessions

-- a read that waits has a tag, and asks for no more than fits
pub record IsHeld (msize : ℕ) (read : ℕ × Wait) : Type 0 where
  pub tag : read.0 < 2 ^ 16
  pub room : read.1.count + 11 ≤ msize

pub record IsSized (session : Session) : Type 0 where
  pub least : 256 ≤ session.msize
  pub held : All (IsHeld session.msize) session.waiting

same_held : (msize next : ℕ) (reads more : List (ℕ × Wait)) → next ≡ msize → more ≡ reads → All (IsHeld msize) reads → All (IsHeld next) more
same_held msize next reads more size same held =
    subst (λ (n : ℕ). All (IsHeld n) more) (sym size) (subst (λ (rs : List (ℕ × Wait)). All (IsHeld msize) rs) (sym same) held)

abbrev pub one_if : Bool → ℕ
one_if b = cond b 1 0

-- whether there is a reply with this tag, as a number
abbrev pub replied_with : (t : ℕ) → Option R → ℕ
replied_with t None = 0
replied_with t (Some r) = one_if (tag_of_r r == t)

-- what a message with this tag leaves, and its reply
pub record Goes (tag : ℕ) (before after : Session) (reply : Option R) : Type 0 where
  pub sized : IsSized after
  pub owed : (t : ℕ) → replied_with t reply + waiting_with after t ≤ waiting_with before t + one_if (tag == t)
  pub fits : IfSome reply (λ r. (tag_of_r r ≡ tag) × Fits after.msize r)

abbrev GoesIf : {S : Type 0} → (tag : ℕ) → Session → Outcome (Left S) → Type 0
GoesIf tag session o = IfOk o (λ after. Goes tag session after.session after.reply)

abbrev GoesDone : (tag : ℕ) → Session → Outcome Done → Type 0
GoesDone tag session o = IfOk o (λ d. Goes tag session d.session (Some d.reply))

-- the same reads wait
same_goes : (tag : ℕ) (before after : Session) (r : R) → IsSized before → after.msize ≡ before.msize → after.waiting ≡ before.waiting → tag_of_r r ≡ tag → Fits before.msize r → Goes tag before after (Some r)
same_goes tag before after r is size same tagged fits = record {
  sized = record { least = subst (λ (n : ℕ). 256 ≤ n) (sym size) is.least; held = same_held before.msize after.msize before.waiting after.waiting size same is.held };
  owed = λ t.
      let a : one_if (tag_of_r r == t) ≡ one_if (tag == t) = ap (λ (k : ℕ). one_if (k == t)) tagged in
      let b : waiting_with after t ≡ waiting_with before t = ap (λ (reads : List (ℕ × Wait)). count_by (λ read. read.0 == t) reads) same in
      omega (arith, a, b);
  fits = (tagged, subst (λ (n : ℕ). Fits n r) (sym size) fits);
}

-- none waits
none_goes : (tag : ℕ) (before after : Session) (r : R) → 256 ≤ after.msize → after.waiting ≡ [] → tag_of_r r ≡ tag → Fits after.msize r → Goes tag before after (Some r)
none_goes tag before after r least none tagged fits = record {
  sized = record { least = least; held = same_held after.msize after.msize [] after.waiting refl none (All-nil (IsHeld after.msize)) };
  owed = λ t.
      let a : one_if (tag_of_r r == t) ≡ one_if (tag == t) = ap (λ (k : ℕ). one_if (k == t)) tagged in
      let b : waiting_with after t ≡ 0 = ap (λ (reads : List (ℕ × Wait)). count_by (λ read. read.0 == t) reads) none in
      omega (arith, a, b);
  fits = (tagged, fits);
}

beside_goes : {S : Type 0} (tag : ℕ) (session : Session) (rest : S) (o : Outcome Done) → GoesDone tag session o → GoesIf tag session (beside rest o)
beside_goes tag session rest (Ok d) goes = goes
beside_goes tag session rest (Err n) goes = tt

-- ---- each message

not_refused : (b : Bool) (n : ℕ) → refuse_if b n ≡ Ok tt → b ≡ false
not_refused true n e = absurd (cc e)
not_refused false n e = refl

version_goes : {S : Type 0} (outside : Outside S) (session : Session) (rest : S) (tag msize : ℕ) (version : List ℕ) → GoesIf tag session (version_answer outside session rest tag msize version)
unfolding version_answer
version_goes {S = S} outside session rest tag msize version =
    let none : (cleared outside session rest).0.waiting ≡ [] = ap (λ (after : Session × S). after.0.waiting) (cleared_is outside session rest) in
    after_step _ (refuse_if (nat_lt msize 256) 48) _ (λ _ at.
    let least : 256 ≤ msize = ltb-false msize 256 (not_refused (nat_lt msize 256) 48 at) in
    let agreed : 256 ≤ min msize 65560 = omega (arith, least) in
    cond_both (asks_for_9p version) _ _ (λ (after : Left S). Goes tag session after.session after.reply)
    (λ _. none_goes tag session _ _ agreed none refl (version_fits (min msize 65560) tag (min msize 65560) (codes "9P2000") (lit≤ tt) agreed))
    (λ _. none_goes tag session _ _ (lit≤ tt) none refl (version_fits 65560 tag (min msize 65560) (codes "unknown") (lit≤ tt) (lit≤ tt))))

attach_goes : {S : Type 0} (outside : Outside S) (session : Session) (rest : S) (tag fid afid : ℕ) (aname : List ℕ) → IsSized session → GoesIf tag session (attach_answer outside session rest tag fid afid aname)
unfolding attach_answer
attach_goes outside session rest tag fid afid aname is =
    after_step _ (refuse_if (not (afid == no_fid)) 40) _ (λ _ _.
    after_step _ (refuse_if (is_bound session fid) 33) _ (λ _ _.
    after_step _ (refuse_if (is_full session) 44) _ (λ _ _.
    after_step _ (outside.attached rest (attach_of aname)) _ (λ _ _. same_goes tag session _ _ is refl refl refl (attach_fits session.msize tag _ is.least)))))

-- newfid stands for another file
rebound_goes : (tag : ℕ) (session : Session) (b : Bool) (x y : Session) (reply : R) → IsSized session → x.msize ≡ session.msize → x.waiting ≡ session.waiting → y.msize ≡ session.msize → y.waiting ≡ session.waiting → tag_of_r reply ≡ tag
    → Fits session.msize reply → Goes tag session (if b then x else y) (Some reply)
rebound_goes tag session true x y reply is size waiting other another tagged fits = same_goes tag session x reply is size waiting tagged fits
rebound_goes tag session false x y reply is size waiting other another tagged fits = same_goes tag session y reply is other another tagged fits

walked_short : (view : Node → View) (node : Node) (names : List (List ℕ)) → length (walked view node names).0 ≤ length names
walked_short view node [] = omega arith
walked_short view node (name ∷ names) = by (walk (view node) node name) (λ next. walked_short view next names)
  where
    by : (o : Outcome Node) → ((next : Node) → length (walked view next names).0 ≤ length names) → length (walk_on o (λ next. walked view next names)).0 ≤ length (name ∷ names)
    by (Ok next) short = let more = short next in omega (arith, more)
    by (Err n) short = omega arith

ended_goes : (session : Session) (tag fid newfid : ℕ) (node : Node) (nodes : List Node) (o : Option ℕ) → IsSized session → length nodes ≤ 16 → GoesDone tag session (walk_ended session tag fid newfid node (nodes, o))
ended_goes session tag fid newfid node nodes None is few =
    rebound_goes tag session (newfid == fid) _ _ _ is refl refl refl refl refl (walk_fits session.msize tag (map qid nodes) (omega (arith, few, length-map nodes qid)) is.least)
ended_goes session tag fid newfid node [] (Some n) is few = tt
ended_goes session tag fid newfid node (next ∷ nodes) (Some n) is few =
    same_goes tag session _ _ is refl refl refl (walk_fits session.msize tag (map qid (next ∷ nodes)) (omega (arith, few, length-map (next ∷ nodes) qid)) is.least)

walk_goes : {S : Type 0} (outside : Outside S) (session : Session) (rest : S) (tag fid newfid : ℕ) (names : List (List ℕ)) → IsSized session → length names ≤ 16
    → GoesDone tag session (walk_answer outside session rest tag fid newfid names)
unfolding walk_answer
walk_goes outside session rest tag fid newfid names is few =
    after_step _ (fid_of session fid) _ (λ from _.
    after_step _ (refuse_if (is_some from.mode) 36) _ (λ _ _.
    after_step _ (refuse_if (not (newfid == fid) && is_bound session newfid) 33) _ (λ _ _.
    after_step _ (refuse_if (not (newfid == fid) && is_full session) 44) _ (λ _ _.
    let short = walked_short (outside.view rest session.connections) from.node names in
    ended_goes session tag fid newfid from.node (walked (outside.view rest session.connections) from.node names).0 (walked (outside.view rest session.connections) from.node names).1 is (omega (arith, few, short))))))

open_goes : {S : Type 0} (outside : Outside S) (session : Session) (rest : S) (tag number mode : ℕ) → IsSized session → GoesIf tag session (open_answer outside session rest tag number mode)
unfolding open_answer
open_goes {S = S} outside session rest tag number mode is =
    after_step _ (fid_of session number) _ (λ fid _.
    after_step _ (refuse_if (is_some fid.mode) 36) _ (λ _ _.
    after_step _ (check_live (outside.view rest session.connections fid.node) fid.node) _ (λ _ _.
    after_step _ (refuse_if (not (may fid.node mode)) 38) _ (λ _ _.
    after_step _ (refuse_if (is_taken outside session rest fid.node) 43) _ (λ _ _.
    after_step _ (refuse_if (is_kind New fid.node.kind && nat_le most_made session.made) 44) _ (λ _ _.
    cond_both (is_kind New fid.node.kind) _ _ (λ (after : Left S). Goes tag session after.session after.reply)
    (λ _. same_goes tag session _ _ is refl refl refl (open_fits session.msize tag _ 0 is.least)) (λ _. same_goes tag session _ _ is refl refl refl (open_fits session.msize tag _ 0 is.least))))))))

-- ---- reads and flushes

pub with_one : (t : ℕ) (reads : List (ℕ × Wait)) (read : ℕ × Wait) → count_by (λ (r : ℕ × Wait). r.0 == t) (reads ++ read ∷ []) ≡ count_by (λ (r : ℕ × Wait). r.0 == t) reads + one_if (read.0 == t)
with_one t reads read =
    let f : ℕ × Wait → ℕ = λ r. cond (r.0 == t) 1 0 in
    omega (arith, sum_by-append f reads (read ∷ []), sum_by-cons f read [])

read_end_goes : {S : Type 0} (session : Session) (rest : S) (tag number count : ℕ) (got : Option (Given S)) → IsSized session → tag < 2 ^ 16 → count + 11 ≤ session.msize → IfSome got (λ g. FitsRead session.msize g.bytes)
    → GoesIf tag session (read_ended session rest tag number count got)
read_end_goes session rest tag number count (Some got) is small room fits = same_goes tag session _ _ is refl refl refl (read_fits session.msize tag got.bytes fits)
read_end_goes session rest tag number count None is small room fits = after_step _ (refuse_if (nat_le most_waiting (length session.waiting)) 45) _ (λ _ _.
    let wait : Wait = record { fid = number; count = count } in
    record {
      sized = record { least = is.least; held = All-push (IsHeld session.msize) session.waiting (tag, wait) is.held (record { tag = small; room = room }) };
      owed = λ t. omega (arith, with_one t session.waiting (tag, wait));
      fits = tt;
    })

read_goes : {S : Type 0} (outside : Outside S) (tells : Tells outside) (session : Session) (rest : S) (tag number offset count : ℕ) → IsSized session → tag < 2 ^ 16
    → GoesIf tag session (read_answer outside session rest tag number offset count)
unfolding read_answer
read_goes {S = S} outside tells session rest tag number offset count is small =
    let least = is.least in
    let room : count_within session count + 11 ≤ session.msize = omega (arith, least) in
    after_step _ (fid_of session number) _ (λ fid _.
    after_step _ (refuse_if (is_none fid.mode) 37) _ (λ _ _.
    after_step _ (refuse_if (not (is_open_for reads fid)) 38) _ (λ _ _.
    after_step _ (check_live (outside.view rest session.connections fid.node) fid.node) _ (λ _ _.
    after_if _ (λ (o : Option (Given S)). IfSome o (λ g. FitsRead session.msize g.bytes)) (node_read outside session.connections rest fid offset (count_within session count)) _
    (node_fits outside tells session.msize is.least session.connections rest fid offset (count_within session count) room)
    (λ got fits. read_end_goes session rest tag number (count_within session count) got is small room fits)))))

fewer : {A : Type 0} (test p : A → Bool) (xs : List A) → count_by test (filter p xs) ≤ count_by test xs
fewer test p [] = omega arith
fewer {A = A} test p (x ∷ xs) = by (p x) (fewer test p xs)
  where
    f : A → ℕ
    f y = cond (test y) 1 0

    by : (b : Bool) → count_by test (filter p xs) ≤ count_by test xs → count_by test (cond b (x ∷ filter p xs) (filter p xs)) ≤ count_by test (x ∷ xs)
    by true less = omega (arith, less, sum_by-cons f x xs, sum_by-cons f x (filter p xs))
    by false less = omega (arith, less, sum_by-cons f x xs)

flush_goes : (session : Session) (tag oldtag : ℕ) (r : R) → IsSized session → tag_of_r r ≡ tag → Fits session.msize r → Goes tag session (flushed session oldtag) (Some r)
flush_goes session tag oldtag r is tagged fits = record {
  sized = record { least = is.least; held = All-filter (λ (read : ℕ × Wait). not (read.0 == oldtag)) (IsHeld session.msize) session.waiting is.held };
  owed = λ t.
      let a : one_if (tag_of_r r == t) ≡ one_if (tag == t) = ap (λ (k : ℕ). one_if (k == t)) tagged in
      let b = fewer (λ (read : ℕ × Wait). read.0 == t) (λ read. not (read.0 == oldtag)) session.waiting in
      omega (arith, a, b);
  fits = (tagged, fits);
}

-- ---- writes and clunks

write_reply_fits : (msize tag count : ℕ) (o : Option ℕ) → 256 ≤ msize → (tag_of_r (write_reply tag count o) ≡ tag) × Fits msize (write_reply tag count o)
write_reply_fits msize tag count None least = (refl, write_fits msize tag count least)
write_reply_fits msize tag count (Some n) least = (refl, error_fits msize tag n least)

write_goes : {S : Type 0} (outside : Outside S) (session : Session) (rest : S) (tag number offset : ℕ) (bytes : List ℕ) (mark : Option ℕ) → IsSized session → GoesIf tag session (write_answer outside session rest tag number offset bytes mark)
unfolding write_answer
write_goes outside session rest tag number offset bytes mark is =
    after_step _ (fid_of session number) _ (λ fid _.
    after_step _ (refuse_if (is_none fid.mode) 37) _ (λ _ _.
    after_step _ (refuse_if (not (is_open_for writes fid)) 38) _ (λ _ _.
    after_step _ (check_live (outside.view rest session.connections fid.node) fid.node) _ (λ _ _.
    after_step _ (file_written outside rest fid.node offset bytes mark fid.node.kind) _ (λ after _.
    let said = write_reply_fits session.msize tag (length bytes) after.1 is.least in
    same_goes tag session _ _ is refl refl said.0 said.1)))))

gone_msize : {S : Type 0} (outside : Outside S) (session : Session) (rest : S) (gone : List Fid) → (fids_gone outside session rest gone).0.msize ≡ session.msize
unfolding fids_gone settled
gone_msize outside session rest gone = refl

gone_waiting : {S : Type 0} (outside : Outside S) (session : Session) (rest : S) (gone : List Fid) → (fids_gone outside session rest gone).0.waiting ≡ session.waiting
unfolding fids_gone settled
gone_waiting outside session rest gone = refl

clunk_goes : {S : Type 0} (outside : Outside S) (session : Session) (rest : S) (tag number : ℕ) (r : R) → IsSized session → tag_of_r r ≡ tag → Fits session.msize r → GoesIf tag session (clunk_answer outside session rest number r)
unfolding clunk_answer
clunk_goes outside session rest tag number r is tagged fits =
    after_step _ (fid_of session number) _ (λ fid _.
    let left = record session { fids = without session.fids number } in
    same_goes tag session _ r is (gone_msize outside left rest (fid ∷ [])) (gone_waiting outside left rest (fid ∷ [])) tagged fits)

stat_is_short : (msize tag : ℕ) (view : View) (node : Node) → 256 ≤ msize → Fits msize (Rstat tag (stat view node))
unfolding stat stat_named
stat_is_short msize tag view node least = stat_fits msize tag (stat view node) (lit≤ tt) (lit≤ tt) (lit≤ tt) least

stat_goes : {S : Type 0} (outside : Outside S) (session : Session) (rest : S) (tag number : ℕ) → IsSized session → GoesDone tag session (stat_answer outside session rest tag number)
unfolding stat_answer
stat_goes outside session rest tag number is =
    after_step _ (fid_of session number) _ (λ fid _.
    after_step _ (check_live (outside.view rest session.connections fid.node) fid.node) _ (λ _ _.
    same_goes tag session _ _ is refl refl refl (stat_is_short session.msize tag (outside.view rest session.connections fid.node) fid.node is.least)))

denied_goes : (tag : ℕ) (session : Session) (number : ℕ) → GoesDone tag session (denied session number)
denied_goes tag session number = after_step _ (fid_of session number) _ (λ _ _. tt)

-- ---- all messages

message_goes : {S : Type 0} (outside : Outside S) (tells : Tells outside) (session : Session) (rest : S) (mark : Option ℕ) (m : T) → IsSized session → tag_of_t m < 2 ^ 16 → FitsT m
    → GoesIf (tag_of_t m) session (answer_to outside session rest mark m)
message_goes outside tells session rest mark (Tversion tag msize version) is small fits = version_goes outside session rest tag msize version
message_goes outside tells session rest mark (Tauth tag afid uname aname) is small fits = tt
message_goes outside tells session rest mark (Tattach tag fid afid uname aname) is small fits = attach_goes outside session rest tag fid afid aname is
message_goes outside tells session rest mark (Tflush tag oldtag) is small fits = flush_goes session tag oldtag _ is refl (flush_fits session.msize tag is.least)
message_goes outside tells session rest mark (Twalk tag fid newfid names) is small fits =
    beside_goes tag session rest (walk_answer outside session rest tag fid newfid names) (walk_goes outside session rest tag fid newfid names is fits.0)
message_goes outside tells session rest mark (Topen tag fid mode) is small fits = open_goes outside session rest tag fid mode is
message_goes outside tells session rest mark (Tcreate tag fid name perm mode) is small fits = beside_goes tag session rest (denied session fid) (denied_goes tag session fid)
message_goes outside tells session rest mark (Tread tag fid offset count) is small fits = read_goes outside tells session rest tag fid offset count is small
message_goes outside tells session rest mark (Twrite tag fid offset bytes) is small fits = write_goes outside session rest tag fid offset bytes mark is
message_goes outside tells session rest mark (Tclunk tag fid) is small fits = clunk_goes outside session rest tag fid (Rclunk tag) is refl (clunk_fits session.msize tag is.least)
message_goes outside tells session rest mark (Tremove tag fid) is small fits = clunk_goes outside session rest tag fid (refusal tag 38) is refl (error_fits session.msize tag 38 is.least)
message_goes outside tells session rest mark (Tstat tag fid) is small fits = beside_goes tag session rest (stat_answer outside session rest tag fid) (stat_goes outside session rest tag fid is)
message_goes outside tells session rest mark (Twstat tag fid stat) is small fits = beside_goes tag session rest (denied session fid) (denied_goes tag session fid)

read_message_goes : {S : Type 0} (outside : Outside S) (tells : Tells outside) (session : Session) (rest : S) (mark : Option ℕ) (m : T) → IsSized session → tag_of_t m < 2 ^ 16 → FitsT m
    → GoesIf (tag_of_t m) session (answer_read outside session rest mark m)
unfolding answer_read
read_message_goes outside tells session rest mark m is small fits =
    after_step _ (refuse_if (not (is_version m) && (tag_of_t m == no_tag)) 30) _ (λ _ _.
    after_step _ (refuse_if (not (is_version m) && not session.agreed) 31) _ (λ _ _. message_goes outside tells session rest mark m is small fits))

pub tag_small : (bytes : List ℕ) → AreBytes bytes → tag_of bytes < 2 ^ 16
tag_small bytes are = let low = are 5 in let high = are 6 in omega (arith, low, high)

bytes_go : {S : Type 0} (outside : Outside S) (tells : Tells outside) (session : Session) (rest : S) (mark : Option ℕ) (bytes : List ℕ) (o : Option T) → message_of bytes ≡ o → IsSized session → AreBytes bytes
    → GoesIf (tag_of bytes) session (read_or_not outside session rest mark o)
bytes_go outside tells session rest mark bytes None e is are = tt
bytes_go outside tells session rest mark bytes (Some m) e is are =
    let tag : tag_of_t m ≡ tag_of bytes = message_tag bytes m e in
    let small : tag_of_t m < 2 ^ 16 = subst (λ (t : ℕ). t < 2 ^ 16) (sym tag) (tag_small bytes are) in
    subst (λ (t : ℕ). GoesIf t session (answer_read outside session rest mark m)) tag (read_message_goes outside tells session rest mark m is small (t_takes bytes m are e).fits)

reply_goes : {S : Type 0} (outside : Outside S) (tells : Tells outside) (session : Session) (rest : S) (mark : Option ℕ) (bytes : List ℕ) → IsSized session → AreBytes bytes
    → (let after : Left S = replied session rest (tag_of bytes) (read_or_not outside session rest mark (message_of bytes)) in Goes (tag_of bytes) session after.session after.reply)
reply_goes {S = S} outside tells session rest mark bytes is are = by (read_or_not outside session rest mark (message_of bytes)) (bytes_go outside tells session rest mark bytes (message_of bytes) refl is are)
  where
    by : (o : Outcome (Left S)) → GoesIf (tag_of bytes) session o → (let after : Left S = replied session rest (tag_of bytes) o in Goes (tag_of bytes) session after.session after.reply)
    by (Ok after) goes = goes
    by (Err n) goes = same_goes (tag_of bytes) session session (refusal (tag_of bytes) n) is refl refl refl (error_fits session.msize (tag_of bytes) n is.least)

-- what the bytes of a message leave of a session, and the reply
pub answer_goes : {S : Type 0} (outside : Outside S) (tells : Tells outside) (session : Session) (rest : S) (bytes : List ℕ) (mark : Option ℕ) → IsSized session → AreBytes bytes
    → (let after : Left S = answer outside session rest bytes mark in Goes (tag_of bytes) session after.session after.reply)
unfolding answer
answer_goes {S = S} outside tells session rest bytes mark is are = by (taking session bytes)
  where
    tag : ℕ
    tag = tag_of bytes

    size : (cleared outside session rest).0.msize ≡ session.msize
    size = ap (λ (after : Session × S). after.0.msize) (cleared_is outside session rest)

    none : (cleared outside session rest).0.waiting ≡ []
    none = ap (λ (after : Session × S). after.0.waiting) (cleared_is outside session rest)

    by : (t : Taking) → (let after : Left S = taken outside session rest bytes mark t in Goes tag session after.session after.reply)
    by Ignored = record { sized = is; owed = λ t. omega arith; fits = tt }
    by TooLong = same_goes tag session session (refusal tag 30) is refl refl refl (error_fits session.msize tag 30 is.least)
    by Closes = record {
      sized = record {
        least = subst (λ (n : ℕ). 256 ≤ n) (sym size) is.least;
        held = same_held session.msize (cleared outside session rest).0.msize [] (cleared outside session rest).0.waiting size none (All-nil (IsHeld session.msize));
      };
      owed = λ t. let b : count_by (λ (read : ℕ × Wait). read.0 == t) (cleared outside session rest).0.waiting ≡ 0 = ap (λ (reads : List (ℕ × Wait)). count_by (λ read. read.0 == t) reads) none in omega (arith, b);
      fits = tt;
    }
    by Reads = reply_goes outside tells session rest mark bytes is are
