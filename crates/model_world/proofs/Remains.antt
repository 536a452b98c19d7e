-- What a message leaves of its session: whether it is closed, and which reads wait.
use Rattle.std.proofs.Common.{◌≡◌, ◌≤◌, ℕ, Bool, true, false, eqb, List, [], ◌∷◌, ◌++◌, Option, Some, None, Ok, Err, refl, sym, ap, subst, ◌∙◌, arith, length-append}
use Rattle.std.specs.Prelude.{◌||◌, ◌&&◌, ◌==◌, IfOk, IfSome, cond, filter, is_none, is_some, length, not, nat_le, nat_lt, if◌then◌else◌}
use Rattle.std.specs.List.{list_any}
use Rattle.std.proofs.lemmas.Bool.{cond_both}
use Rattle.std.proofs.lemmas.Bool.Decides.{nat_tests}
use Rattle.std.proofs.lemmas.List.Folds.{list_any-append}
use Rattle.model_text.specs.text.Map.{without}
use Rattle.model_text.specs.text.Outcome.{Outcome, refuse_if}
use Rattle.model_files.specs.wire.Message.{T, Tversion, Tauth, Tattach, Tflush, Twalk, Topen, Tcreate, Tread, Twrite, Tclunk, Tremove, Tstat, Twstat, R, Rclunk, no_fid, no_tag, tag_of_t}
use Rattle.model_files.specs.wire.Reading.{message_of, tag_of}
use Rattle.model_text.proofs.map.Keys.{not_key}
use Rattle.model_files.specs.declared.tree.Kind.TheVariants.{New}
use Rattle.model_files.specs.tree.Attach.{attach_of}
use Rattle.model_files.specs.tree.Node.{Node, may, reads, writes}
use Rattle.model_files.specs.tree.Tree.{check_live}
use Rattle.model_world.specs.Session.{Fid, Session, Wait}
use Rattle.model_world.specs.Outside.{Outside}
use Rattle.model_world.specs.Refusal.{refusal}
use Rattle.model_world.specs.Fids.{Done, Left, beside, fid_of, fids_gone, is_bound, is_full, is_kind, settled}
use Rattle.model_world.specs.Walking.{attach_answer, is_taken, most_made, open_answer, walk_answer, walk_ended, walked}
use Rattle.model_world.specs.Reading.{Given, count_within, is_open_for, most_waiting, node_read, read_answer, read_ended}
use Rattle.model_world.specs.Writing.{file_written, write_answer, write_reply}
use Rattle.model_world.specs.Waiting.{flushed, waits_for}
use Rattle.model_world.specs.Answer.{answer_read, answer_to, asks_for_9p, clunk_answer, denied, is_version, read_or_not, replied, stat_answer, version_answer}
use Rattle.model_world.specs.Standing.{tag_of_r}
use Rattle.model_world.proofs.Others.{after_step}
use Rattle.model_world.proofs.Links.{cleared_is}
use Rattle.model_world.proofs.Tags.{message_tag}

-- It closes no session, none but its own read begins to wait, and the reply has its tag.
pub record Remains (tag : ℕ) (before after : Session) (reply : Option R) : Type 0 where
  pub closed : after.closed ≡ before.closed
  pub others : (t : ℕ) → (t ≡ tag → ⊥) → waits_for before t ≡ false → waits_for after t ≡ false
  pub few : length before.waiting ≤ most_waiting → length after.waiting ≤ most_waiting
  pub tagged : IfSome reply (λ r. tag_of_r r ≡ tag)

abbrev pub RemainsIf : {S : Type 0} → (tag : ℕ) → Session → Outcome (Left S) → Type 0
RemainsIf tag session o = IfOk o (λ after. Remains tag session after.session after.reply)

abbrev RemainsDone : (tag : ℕ) → Session → Outcome Done → Type 0
RemainsDone tag session o = IfOk o (λ d. Remains tag session d.session (Some d.reply))

-- the same reads wait
same_reads : (tag : ℕ) (before after : Session) (reply : R) → after.closed ≡ before.closed → after.waiting ≡ before.waiting → tag_of_r reply ≡ tag → Remains tag before after (Some reply)
same_reads tag before after reply closed waiting tagged = record {
  closed = closed;
  others = λ t other none. ap (λ (waits : List (ℕ × Wait)). list_any (λ read. read.0 == t) waits) waiting ∙ none;
  few = λ few. subst (λ (waits : List (ℕ × Wait)). length waits ≤ most_waiting) (sym waiting) few;
  tagged = tagged;
}

-- no read waits
no_reads : (tag : ℕ) (before after : Session) (reply : R) → after.closed ≡ before.closed → after.waiting ≡ [] → tag_of_r reply ≡ tag → Remains tag before after (Some reply)
no_reads tag before after reply closed waiting tagged = record {
  closed = closed;
  others = λ t other none. ap (λ (waits : List (ℕ × Wait)). list_any (λ read. read.0 == t) waits) waiting;
  few = λ few. subst (λ (waits : List (ℕ × Wait)). length waits ≤ most_waiting) (sym waiting) (omega arith);
  tagged = tagged;
}

beside_remains : {S : Type 0} (tag : ℕ) (session : Session) (rest : S) (o : Outcome Done) → RemainsDone tag session o → RemainsIf tag session (beside rest o)
beside_remains tag session rest (Ok d) remains = remains
beside_remains tag session rest (Err n) remains = tt

-- ---- each message

version_remains : {S : Type 0} (outside : Outside S) (session : Session) (rest : S) (tag msize : ℕ) (version : List ℕ) → RemainsIf tag session (version_answer outside session rest tag msize version)
unfolding version_answer
version_remains {S = S} outside session rest tag msize version =
    let is = cleared_is outside session rest in
    let closed = ap (λ (after : Session × S). after.0.closed) is in
    let waiting = ap (λ (after : Session × S). after.0.waiting) is in
    after_step _ (refuse_if (nat_lt msize 256) 48) _ (λ _ _.
    cond_both (asks_for_9p version) _ _ (λ (after : Left S). Remains tag session after.session after.reply) (λ _. no_reads tag session _ _ closed waiting refl) (λ _. no_reads tag session _ _ closed waiting refl))

attach_remains : {S : Type 0} (outside : Outside S) (session : Session) (rest : S) (tag fid afid : ℕ) (aname : List ℕ) → RemainsIf tag session (attach_answer outside session rest tag fid afid aname)
unfolding attach_answer
attach_remains outside session rest tag fid afid aname =
    after_step _ (refuse_if (not (afid == no_fid)) 40) _ (λ _ _.
    after_step _ (refuse_if (is_bound session fid) 33) _ (λ _ _.
    after_step _ (refuse_if (is_full session) 44) _ (λ _ _.
    after_step _ (outside.attached rest (attach_of aname)) _ (λ _ _. same_reads tag session _ _ refl refl refl))))

-- newfid stands for another file
rebound_remains : (tag : ℕ) (session : Session) (b : Bool) (x y : Session) (reply : R) → x.closed ≡ session.closed → x.waiting ≡ session.waiting → y.closed ≡ session.closed → y.waiting ≡ session.waiting → tag_of_r reply ≡ tag
    → Remains tag session (if b then x else y) (Some reply)
rebound_remains tag session true x y reply closed waiting other another tagged = same_reads tag session x reply closed waiting tagged
rebound_remains tag session false x y reply closed waiting other another tagged = same_reads tag session y reply other another tagged

ended_remains : (session : Session) (tag fid newfid : ℕ) (node : Node) (nodes : List Node) (o : Option ℕ) → RemainsDone tag session (walk_ended session tag fid newfid node (nodes, o))
ended_remains session tag fid newfid node nodes None = rebound_remains tag session (newfid == fid) _ _ _ refl refl refl refl refl
ended_remains session tag fid newfid node [] (Some n) = tt
ended_remains session tag fid newfid node (next ∷ nodes) (Some n) = same_reads tag session _ _ refl refl refl

walk_remains : {S : Type 0} (outside : Outside S) (session : Session) (rest : S) (tag fid newfid : ℕ) (names : List (List ℕ)) → RemainsDone tag session (walk_answer outside session rest tag fid newfid names)
unfolding walk_answer
walk_remains outside session rest tag fid newfid names =
    after_step _ (fid_of session fid) _ (λ from _.
    after_step _ (refuse_if (is_some from.mode) 36) _ (λ _ _.
    after_step _ (refuse_if (not (newfid == fid) && is_bound session newfid) 33) _ (λ _ _.
    after_step _ (refuse_if (not (newfid == fid) && is_full session) 44) _ (λ _ _.
    ended_remains session tag fid newfid from.node (walked (outside.view rest session.connections) from.node names).0 (walked (outside.view rest session.connections) from.node names).1))))

open_remains : {S : Type 0} (outside : Outside S) (session : Session) (rest : S) (tag number mode : ℕ) → RemainsIf tag session (open_answer outside session rest tag number mode)
unfolding open_answer
open_remains {S = S} outside session rest tag number mode =
    after_step _ (fid_of session number) _ (λ fid _.
    after_step _ (refuse_if (is_some fid.mode) 36) _ (λ _ _.
    after_step _ (check_live (outside.view rest session.connections fid.node) fid.node) _ (λ _ _.
    after_step _ (refuse_if (not (may fid.node mode)) 38) _ (λ _ _.
    after_step _ (refuse_if (is_taken outside session rest fid.node) 43) _ (λ _ _.
    after_step _ (refuse_if (is_kind New fid.node.kind && nat_le most_made session.made) 44) _ (λ _ _.
    cond_both (is_kind New fid.node.kind) _ _ (λ (after : Left S). Remains tag session after.session after.reply) (λ _. same_reads tag session _ _ refl refl refl) (λ _. same_reads tag session _ _ refl refl refl)))))))

-- ---- reads and flushes

not_refused : (b : Bool) (n : ℕ) → refuse_if b n ≡ Ok tt → b ≡ false
not_refused true n e = absurd (cc e)
not_refused false n e = refl

parked_others : (session : Session) (tag t : ℕ) (wait : Wait) → (t ≡ tag → ⊥) → waits_for session t ≡ false → list_any (λ (read : ℕ × Wait). read.0 == t) (session.waiting ++ (tag, wait) ∷ []) ≡ false
parked_others session tag t wait other none =
    let apart : eqb tag t ≡ false = not_key tag t (λ is. other (sym is)) in
    list_any-append (λ (read : ℕ × Wait). read.0 == t) session.waiting ((tag, wait) ∷ [])
    ∙ ap (λ (b : Bool). b || ((tag == t) || false)) none ∙ ap (λ (b : Bool). b || false) apart

read_end_remains : {S : Type 0} (session : Session) (rest : S) (tag number count : ℕ) (got : Option (Given S)) → RemainsIf tag session (read_ended session rest tag number count got)
read_end_remains session rest tag number count (Some got) = same_reads tag session _ _ refl refl refl
read_end_remains session rest tag number count None = after_step _ (refuse_if (nat_le most_waiting (length session.waiting)) 45) _ (λ _ at.
    let room : nat_le most_waiting (length session.waiting) ≡ false = not_refused (nat_le most_waiting (length session.waiting)) 45 at in
    record {
      closed = refl;
      others = λ t other none. parked_others session tag t (record { fid = number; count = count }) other none;
      few = λ few. grind (arith, nat_tests, length-append);
      tagged = tt;
    })

read_remains : {S : Type 0} (outside : Outside S) (session : Session) (rest : S) (tag number offset count : ℕ) → RemainsIf tag session (read_answer outside session rest tag number offset count)
unfolding read_answer
read_remains outside session rest tag number offset count =
    after_step _ (fid_of session number) _ (λ fid _.
    after_step _ (refuse_if (is_none fid.mode) 37) _ (λ _ _.
    after_step _ (refuse_if (not (is_open_for reads fid)) 38) _ (λ _ _.
    after_step _ (check_live (outside.view rest session.connections fid.node) fid.node) _ (λ _ _.
    after_step _ (node_read outside session.connections rest fid offset (count_within session count)) _ (λ got _. read_end_remains session rest tag number (count_within session count) got)))))

any_still : {A : Type 0} (test p : A → Bool) (xs : List A) → list_any test xs ≡ false → list_any test (filter p xs) ≡ false
any_still test p [] none = refl
any_still {A = A} test p (x ∷ xs) none = by (test x) (p x) refl none (any_still test p xs)
  where
    by : (a b : Bool) → test x ≡ a → (a || list_any test xs) ≡ false → (list_any test xs ≡ false → list_any test (filter p xs) ≡ false) → list_any test (cond b (x ∷ filter p xs) (filter p xs)) ≡ false
    by true b at none more = absurd (cc none)
    by false true at none more = ap (λ (c : Bool). c || list_any test (filter p xs)) at ∙ more none
    by false false at none more = more none

fewer : {A : Type 0} (p : A → Bool) (xs : List A) → length (filter p xs) ≤ length xs
fewer p [] = omega arith
fewer {A = A} p (x ∷ xs) = by (p x) (fewer p xs)
  where
    by : (b : Bool) → length (filter p xs) ≤ length xs → length (cond b (x ∷ filter p xs) (filter p xs)) ≤ length (x ∷ xs)
    by true less = omega (arith, less)
    by false less = omega (arith, less)

flush_remains : (session : Session) (tag oldtag : ℕ) (reply : R) → tag_of_r reply ≡ tag → Remains tag session (flushed session oldtag) (Some reply)
flush_remains session tag oldtag reply tagged = record {
  closed = refl;
  others = λ t other none. any_still (λ (read : ℕ × Wait). read.0 == t) (λ read. not (read.0 == oldtag)) session.waiting none;
  few = λ few. omega (arith, few, fewer (λ (read : ℕ × Wait). not (read.0 == oldtag)) session.waiting);
  tagged = tagged;
}

-- ---- writes and clunks

write_tagged : (tag count : ℕ) (o : Option ℕ) → tag_of_r (write_reply tag count o) ≡ tag
write_tagged tag count None = refl
write_tagged tag count (Some n) = refl

write_remains : {S : Type 0} (outside : Outside S) (session : Session) (rest : S) (tag number offset : ℕ) (bytes : List ℕ) (mark : Option ℕ) → RemainsIf tag session (write_answer outside session rest tag number offset bytes mark)
unfolding write_answer
write_remains outside session rest tag number offset bytes mark =
    after_step _ (fid_of session number) _ (λ fid _.
    after_step _ (refuse_if (is_none fid.mode) 37) _ (λ _ _.
    after_step _ (refuse_if (not (is_open_for writes fid)) 38) _ (λ _ _.
    after_step _ (check_live (outside.view rest session.connections fid.node) fid.node) _ (λ _ _.
    after_step _ (file_written outside rest fid.node offset bytes mark fid.node.kind) _ (λ after _. same_reads tag session _ _ refl refl (write_tagged tag (length bytes) after.1))))))

gone_closed : {S : Type 0} (outside : Outside S) (session : Session) (rest : S) (gone : List Fid) → (fids_gone outside session rest gone).0.closed ≡ session.closed
unfolding fids_gone settled
gone_closed outside session rest gone = refl

gone_waiting : {S : Type 0} (outside : Outside S) (session : Session) (rest : S) (gone : List Fid) → (fids_gone outside session rest gone).0.waiting ≡ session.waiting
unfolding fids_gone settled
gone_waiting outside session rest gone = refl

clunk_remains : {S : Type 0} (outside : Outside S) (session : Session) (rest : S) (tag number : ℕ) (reply : R) → tag_of_r reply ≡ tag → RemainsIf tag session (clunk_answer outside session rest number reply)
unfolding clunk_answer
clunk_remains outside session rest tag number reply tagged =
    after_step _ (fid_of session number) _ (λ fid _.
    let left = record session { fids = without session.fids number } in
    same_reads tag session _ reply (gone_closed outside left rest (fid ∷ [])) (gone_waiting outside left rest (fid ∷ [])) tagged)

stat_remains : {S : Type 0} (outside : Outside S) (session : Session) (rest : S) (tag number : ℕ) → RemainsDone tag session (stat_answer outside session rest tag number)
unfolding stat_answer
stat_remains outside session rest tag number =
    after_step _ (fid_of session number) _ (λ fid _.
    after_step _ (check_live (outside.view rest session.connections fid.node) fid.node) _ (λ _ _. same_reads tag session _ _ refl refl refl))

denied_remains : (tag : ℕ) (session : Session) (number : ℕ) → RemainsDone tag session (denied session number)
denied_remains tag session number = after_step _ (fid_of session number) _ (λ _ _. tt)

-- ---- all messages

message_remains : {S : Type 0} (outside : Outside S) (session : Session) (rest : S) (mark : Option ℕ) (m : T) → RemainsIf (tag_of_t m) session (answer_to outside session rest mark m)
message_remains outside session rest mark (Tversion tag msize version) = version_remains outside session rest tag msize version
message_remains outside session rest mark (Tauth tag afid uname aname) = tt
message_remains outside session rest mark (Tattach tag fid afid uname aname) = attach_remains outside session rest tag fid afid aname
message_remains outside session rest mark (Tflush tag oldtag) = flush_remains session tag oldtag _ refl
message_remains outside session rest mark (Twalk tag fid newfid names) = beside_remains tag session rest (walk_answer outside session rest tag fid newfid names) (walk_remains outside session rest tag fid newfid names)
message_remains outside session rest mark (Topen tag fid mode) = open_remains outside session rest tag fid mode
message_remains outside session rest mark (Tcreate tag fid name perm mode) = beside_remains tag session rest (denied session fid) (denied_remains tag session fid)
message_remains outside session rest mark (Tread tag fid offset count) = read_remains outside session rest tag fid offset count
message_remains outside session rest mark (Twrite tag fid offset bytes) = write_remains outside session rest tag fid offset bytes mark
message_remains outside session rest mark (Tclunk tag fid) = clunk_remains outside session rest tag fid (Rclunk tag) refl
message_remains outside session rest mark (Tremove tag fid) = clunk_remains outside session rest tag fid (refusal tag 38) refl
message_remains outside session rest mark (Tstat tag fid) = beside_remains tag session rest (stat_answer outside session rest tag fid) (stat_remains outside session rest tag fid)
message_remains outside session rest mark (Twstat tag fid stat) = beside_remains tag session rest (denied session fid) (denied_remains tag session fid)

read_message_remains : {S : Type 0} (outside : Outside S) (session : Session) (rest : S) (mark : Option ℕ) (m : T) → RemainsIf (tag_of_t m) session (answer_read outside session rest mark m)
unfolding answer_read
read_message_remains outside session rest mark m =
    after_step _ (refuse_if (not (is_version m) && (tag_of_t m == no_tag)) 30) _ (λ _ _.
    after_step _ (refuse_if (not (is_version m) && not session.agreed) 31) _ (λ _ _. message_remains outside session rest mark m))

bytes_remain : {S : Type 0} (outside : Outside S) (session : Session) (rest : S) (mark : Option ℕ) (bytes : List ℕ) (o : Option T) → message_of bytes ≡ o → RemainsIf (tag_of bytes) session (read_or_not outside session rest mark o)
bytes_remain outside session rest mark bytes None is = tt
bytes_remain outside session rest mark bytes (Some m) is =
    subst (λ (tag : ℕ). RemainsIf tag session (answer_read outside session rest mark m)) (message_tag bytes m is) (read_message_remains outside session rest mark m)

-- a message that is read
pub reply_remains : {S : Type 0} (outside : Outside S) (session : Session) (rest : S) (mark : Option ℕ) (bytes : List ℕ)
    → (let after : Left S = replied session rest (tag_of bytes) (read_or_not outside session rest mark (message_of bytes)) in Remains (tag_of bytes) session after.session after.reply)
reply_remains {S = S} outside session rest mark bytes = by (read_or_not outside session rest mark (message_of bytes)) (bytes_remain outside session rest mark bytes (message_of bytes) refl)
  where
    by : (o : Outcome (Left S)) → RemainsIf (tag_of bytes) session o → (let after : Left S = replied session rest (tag_of bytes) o in Remains (tag_of bytes) session after.session after.reply)
    by (Ok after) remains = remains
    by (Err n) remains = same_reads (tag_of bytes) session session (refusal (tag_of bytes) n) refl refl refl
