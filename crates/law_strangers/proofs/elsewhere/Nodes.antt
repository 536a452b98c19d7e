-- A session's fids stand for files of one sort after each message too, where its attaches and walks lead to such.
use Rattle.std.proofs.Common.{◌≡◌, ℕ, ◌==◌, ◌+◌, Bool, true, false, List, [], ◌∷◌, Option, Some, None, is_some, Ok, Err, refl, subst, Ordering, Less, Equal, Greater, nat_cmp}
use Rattle.std.specs.Prelude.{All, IfOk, IfSome, length, map, nat_le, nat_lt, not, is_none, ◌&&◌, if◌then◌else◌}
use Rattle.std.specs.Option.{option_map}
use Rattle.std.specs.Ordering.{match_ordering}
use Rattle.std.proofs.lemmas.Bool.{cond_both}
use Rattle.std.proofs.lemmas.List.Elements.{All-cons, All-head, All-nil, All-tail}
use Rattle.std.proofs.lemmas.Map.Entries.{All-lookup}
use Rattle.model_text.specs.text.Outcome.{Outcome, ◌>>=◌, refuse_if, value_or_refuse}
use Rattle.model_text.specs.text.Map.{and, is_key, lookup, without}
use Rattle.model_files.specs.wire.Message.{T, Tattach, Twalk, Topen, Twrite, Tversion, Tauth, Tflush, Tcreate, Tread, Tclunk, Tremove, Tstat, Twstat, R, Rclunk, no_fid, no_tag, tag_of_t}
use Rattle.model_files.specs.declared.tree.Kind.{Kind}
use Rattle.model_files.specs.declared.tree.Kind.TheVariants as kind
use Rattle.model_files.specs.tree.Node.{Node, is_directory, may, reads, writes}
use Rattle.model_files.specs.tree.Tree.{check_live}
use Rattle.model_world.specs.Session.{Fid, Kept, Session, fid_at}
use Rattle.model_world.specs.Outside.{Outside}
use Rattle.model_world.specs.Fids.{Done, Left, and_fid, beside, cleared, fid_of, fids_gone, is_bound, is_full, is_kind, settled, with_fid}
use Rattle.model_world.specs.Walking.{ctl_of, is_taken, last, most_made, open_answer, opened, attach_answer, rebound, walk_answer, walk_ended, walked}
use Rattle.model_world.specs.Answer.{Taking, Ignored, TooLong, Closes, Reads, agreed_on, answer, answer_read, answer_to, asks_for_9p, clunk_answer, denied, is_version, read_or_not, replied, stat_answer, taken, taking, version_answer}
use Rattle.model_world.specs.Reading.{Given, count_within, ctl_read, directory_read, file_read, given, given_in, given_now, goes_on, is_open_for, most_waiting, mouse_len, node_read, read_answer, read_ended, read_from, read_further, told_now, wctl_len}
use Rattle.model_world.specs.Writing.{file_written, write_answer}
use Rattle.model_world.specs.Refusal.{refusal}
use Rattle.model_files.specs.mouse.Queue.{answer_text}
use Rattle.model_files.specs.console.Console as console
use Rattle.model_rio.specs.window.Heard.{wctl_answer, wctl_text}
use Rattle.model_files.specs.tree.Listing.{stats}
use Rattle.model_alone.specs.alone.Uses.{is_name_looked_at}
use Rattle.model_files.specs.wire.Reading.{message_of, tag_of}
use Rattle.law_likeness.proofs.agreement.Keeping.{all-with}
use Rattle.law_likeness.proofs.agreement.Relations.{not_refused}
use Rattle.model_world.proofs.Others.{after_if, after_step}
use Rattle.model_files.specs.tree.Attach.{attach_of}
use Rattle.model_files.specs.tree.Tree.{root_of}

-- ---- finite maps

all_and : {A : Type 0} (P : A → Type 0) (es : List (ℕ × A)) (key : ℕ) (value : A) → All (λ (e : ℕ × A). P e.1) es → P value → All (λ (e : ℕ × A). P e.1) (and es key value)
all_and {A = A} P [] key value all is = All-cons (λ (e : ℕ × A). P e.1) (key, value) [] is (All-nil (λ (e : ℕ × A). P e.1))
all_and {A = A} P (e ∷ es) key value all is = by (nat_cmp key e.0) (all_and P es key value (All-tail (λ (e : ℕ × A). P e.1) e es all) is)
  where
    here : P e.1
    here = All-head (λ (e : ℕ × A). P e.1) e es all

    rest : All (λ (e : ℕ × A). P e.1) es
    rest = All-tail (λ (e : ℕ × A). P e.1) e es all

    by : (o : Ordering) → All (λ (e : ℕ × A). P e.1) (and es key value) → All (λ (e : ℕ × A). P e.1) (match_ordering o ((key, value) ∷ e ∷ es) ((e.0, value) ∷ es) (e ∷ and es key value))
    by Less more = All-cons (λ (e : ℕ × A). P e.1) (key, value) (e ∷ es) is all
    by Equal more = All-cons (λ (e : ℕ × A). P e.1) (e.0, value) es is rest
    by Greater more = All-cons (λ (e : ℕ × A). P e.1) e (and es key value) here more

all_without : {A : Type 0} (P : A → Type 0) (es : List (ℕ × A)) (key : ℕ) → All (λ (e : ℕ × A). P e.1) es → All (λ (e : ℕ × A). P e.1) (without es key)
all_without P [] key all = all
all_without {A = A} P (e ∷ es) key all = by (is_key key e.0) (all_without P es key (All-tail (λ (e : ℕ × A). P e.1) e es all))
  where
    by : (b : Bool) → All (λ (e : ℕ × A). P e.1) (without es key) → All (λ (e : ℕ × A). P e.1) (if b then es else e ∷ without es key)
    by true more = All-tail (λ (e : ℕ × A). P e.1) e es all
    by false more = All-cons (λ (e : ℕ × A). P e.1) e (without es key) (All-head (λ (e : ℕ × A). P e.1) e es all) more

mapped : {A B : Type 0} (P : B → Type 0) (o : Option A) (f : A → B) → ((x : A) → P (f x)) → IfSome (option_map f o) P
mapped P None f each = tt
mapped P (Some x) f each = each x

-- `Such`: of the sort. The ctl of a connection that an open makes is of the same sort as the file that was opened.
module _ {S : Type 0} (outside : Outside S) (Such : Node → Type 0) (connects : (node : Node) (n : ℕ) → Such node → Such (ctl_of node n)) where
  abbrev IsSuch : Fid → Type 0
  IsSuch fid = Such fid.node

  abbrev pub Keeps : Session → Type 0
  Keeps session = All (λ (entry : ℕ × Fid). Such entry.1.node) session.fids

  abbrev KeepsLeft : Outcome (Left S) → Type 0
  KeepsLeft o = IfOk o (λ l. Keeps l.session)

  abbrev KeepsDone : Outcome Done → Type 0
  KeepsDone o = IfOk o (λ d. Keeps d.session)

  pub bound_such : (session : Session) → Keeps session → (number : ℕ) (fid : Fid) → fid_of session number ≡ Ok fid → Such fid.node
  bound_such session keeps number fid is = by (lookup session.fids number) (All-lookup IsSuch (is_key number) session.fids keeps) is
    where
      by : (o : Option Fid) → IfSome o IsSuch → value_or_refuse o 32 ≡ Ok fid → Such fid.node
      by (Some f) such is = let same : f ≡ fid = cc in subst IsSuch same such
      by None such is = absurd cc

  -- ---- fids that go

  gone_keeps : (session : Session) (rest : S) (gone : List Fid) → Keeps session → Keeps (fids_gone outside session rest gone).0
  unfolding fids_gone settled
  gone_keeps session rest gone keeps = keeps

  cleared_keeps : (session : Session) (rest : S) → Keeps (cleared outside session rest).0
  cleared_keeps session rest = gone_keeps (record session { fids = []; waiting = [] }) rest (map (λ entry. entry.1) session.fids) (All-nil (λ (entry : ℕ × Fid). Such entry.1.node))

  clunk_keeps : (session : Session) (rest : S) (number : ℕ) (reply : R) → Keeps session → KeepsLeft (clunk_answer outside session rest number reply)
  unfolding clunk_answer
  clunk_keeps session rest number reply keeps =
      after_step (λ l. Keeps l.session) (fid_of session number) _ (λ fid _.
      gone_keeps (record session { fids = without session.fids number }) rest (fid ∷ []) (all_without IsSuch session.fids number keeps))

  version_keeps : (session : Session) (rest : S) (tag msize : ℕ) (version : List ℕ) → KeepsLeft (version_answer outside session rest tag msize version)
  unfolding version_answer
  version_keeps session rest tag msize version = after_step (λ l. Keeps l.session) (refuse_if (nat_lt msize 256) 48) _ (λ _ _. by (asks_for_9p version) refl)
    where
      gone : Keeps (cleared outside session rest).0
      gone = cleared_keeps session rest

      by : (b : Bool) → asks_for_9p version ≡ b → Keeps (agreed_on tag msize version (cleared outside session rest)).session
      by true at = rw at gone
      by false at = rw at gone

  -- ---- attaches, walks and opens

  attach_keeps : (session : Session) (rest : S) (tag fid afid : ℕ) (aname : List ℕ) → Keeps session
      → (is_name_looked_at session fid afid ≡ true → (root : S × ℕ) → outside.attached rest (attach_of aname) ≡ Ok root → Such (root_of root.1))
      → KeepsLeft (attach_answer outside session rest tag fid afid aname)
  unfolding attach_answer
  attach_keeps session rest tag fid afid aname keeps leads =
      after_step (λ l. Keeps l.session) (refuse_if (not (afid == no_fid)) 40) _ (λ u unkeyed.
      after_step (λ l. Keeps l.session) (refuse_if (is_bound session fid) 33) _ (λ v free.
      after_step (λ l. Keeps l.session) (refuse_if (is_full session) 44) _ (λ w room.
      after_step (λ l. Keeps l.session) (outside.attached rest (attach_of aname)) _ (λ root is.
      all_and IsSuch session.fids fid (fid_at (root_of root.1)) keeps
      (leads (looked (afid == no_fid) (is_bound session fid) (is_full session) (not_refused (not (afid == no_fid)) 40 u unkeyed) (not_refused (is_bound session fid) 33 v free) (not_refused (is_full session) 44 w room)) root is)))))
    where
      looked : (a b c : Bool) → not a ≡ false → b ≡ false → c ≡ false → (a && not b && not c) ≡ true
      looked true false false x y z = refl
      looked false b c x y z = absurd cc
      looked true true c x y z = absurd cc
      looked true false true x y z = absurd cc

  last_such : (node : Node) (nodes : List Node) → Such node → All Such nodes → Such (last node nodes)
  last_such node [] such all = such
  last_such node (next ∷ nodes) such all = last_such next nodes (All-head Such next nodes all) (All-tail Such next nodes all)

  rebound_keeps : (session : Session) (fid newfid : ℕ) (node : Node) → Keeps session → Such node → Keeps (rebound session fid newfid node)
  rebound_keeps session fid newfid node keeps such =
      cond_both (newfid == fid) (with_fid session newfid (fid_at node)) (and_fid session newfid (fid_at node)) Keeps
      (λ _. all-with IsSuch session.fids newfid (fid_at node) keeps such)
      (λ _. all_and IsSuch session.fids newfid (fid_at node) keeps such)

  ended_keeps : (session : Session) (tag fid newfid : ℕ) (node : Node) (w : List Node × Option ℕ) → Keeps session → Such node → All Such w.0 → KeepsDone (walk_ended session tag fid newfid node w)
  ended_keeps session tag fid newfid node (nodes, None) keeps such all = rebound_keeps session fid newfid (last node nodes) keeps (last_such node nodes such all)
  ended_keeps session tag fid newfid node ([], Some n) keeps such all = tt
  ended_keeps session tag fid newfid node (next ∷ nodes, Some n) keeps such all = keeps

  walk_keeps : (session : Session) (rest : S) (tag fid newfid : ℕ) (names : List (List ℕ)) → Keeps session
      → ((from : Fid) → fid_of session fid ≡ Ok from → is_some from.mode ≡ false → (not (newfid == fid) && is_bound session newfid) ≡ false → (not (newfid == fid) && is_full session) ≡ false
      → All Such (walked (outside.view rest session.connections) from.node names).0)
      → KeepsDone (walk_answer outside session rest tag fid newfid names)
  unfolding walk_answer
  walk_keeps session rest tag fid newfid names keeps walks =
      after_step (λ d. Keeps d.session) (fid_of session fid) _ (λ from is.
      after_step (λ d. Keeps d.session) (refuse_if (is_some from.mode) 36) _ (λ u closed.
      after_step (λ d. Keeps d.session) (refuse_if (not (newfid == fid) && is_bound session newfid) 33) _ (λ v free.
      after_step (λ d. Keeps d.session) (refuse_if (not (newfid == fid) && is_full session) 44) _ (λ w room.
      ended_keeps session tag fid newfid from.node (walked (outside.view rest session.connections) from.node names) keeps (bound_such session keeps fid from is)
      (walks from is (not_refused (is_some from.mode) 36 u closed) (not_refused (not (newfid == fid) && is_bound session newfid) 33 v free) (not_refused (not (newfid == fid) && is_full session) 44 w room))))))

  opened_keeps : (session : Session) (rest : S) (tag number mode : ℕ) (fid : Fid) → Keeps session → Such fid.node → Keeps (opened outside session rest tag number mode fid).session
  opened_keeps session rest tag number mode fid keeps such = by (is_kind kind.New fid.node.kind) refl
    where
      by : (new : Bool) → is_kind kind.New fid.node.kind ≡ new → Keeps (opened outside session rest tag number mode fid).session
      by true is = rw is (all-with IsSuch session.fids number (record fid { node = ctl_of fid.node (session.made + 1); mode = Some mode }) keeps (connects fid.node (session.made + 1) such))
      by false is = rw is (all-with IsSuch session.fids number (record fid { mode = Some mode }) keeps such)

  open_keeps : (session : Session) (rest : S) (tag number mode : ℕ) → Keeps session → KeepsLeft (open_answer outside session rest tag number mode)
  unfolding open_answer
  open_keeps session rest tag number mode keeps =
      after_step (λ l. Keeps l.session) (fid_of session number) _ (λ fid is.
      after_step (λ l. Keeps l.session) (refuse_if (is_some fid.mode) 36) _ (λ _ _.
      after_step (λ l. Keeps l.session) (check_live (outside.view rest session.connections fid.node) fid.node) _ (λ _ _.
      after_step (λ l. Keeps l.session) (refuse_if (not (may fid.node mode)) 38) _ (λ _ _.
      after_step (λ l. Keeps l.session) (refuse_if (is_taken outside session rest fid.node) 43) _ (λ _ _.
      after_step (λ l. Keeps l.session) (refuse_if (is_kind kind.New fid.node.kind && nat_le most_made session.made) 44) _ (λ _ _.
      opened_keeps session rest tag number mode fid keeps (bound_such session keeps number fid is)))))))

  -- ---- reads and writes

  abbrev GivesSome : Option (Given S) → Type 0
  GivesSome given = IfSome given (λ got. Such got.fid.node)

  given_such : (rest : S) (fid : Fid) (count : ℕ) (of : Kind) → Such fid.node → GivesSome (given_now outside rest fid count of)
  given_such rest fid count kind.Mouse such = mapped (λ got. Such got.fid.node) (answer_text (outside.pane rest fid.node.serial).mouse) _ (λ text. such)
  given_such rest fid count kind.Cons such = mapped (λ got. Such got.fid.node) (console.read count (outside.pane rest fid.node.serial).console) _ (λ text. such)
  given_such rest fid count kind.Wctl such = mapped (λ got. Such got.fid.node) (wctl_answer fid.told (wctl_text (outside.pane rest fid.node.serial).known)) _ (λ text. such)
  given_such rest fid count _ such = tt

  abbrev GivesSuch : Outcome (Option (Given S)) → Type 0
  GivesSuch o = IfOk o GivesSome

  in_such : (rest : S) (fid : Fid) (least count : ℕ) (of : Kind) → Such fid.node → GivesSuch (given_in outside rest fid least count of)
  in_such rest fid least count of such = after_step GivesSome (refuse_if (nat_lt count least) 46) _ (λ _ _. given_such rest fid count of such)

  file_such : (rest : S) (fid : Fid) (offset count : ℕ) (of : Kind) → Such fid.node → GivesSuch (file_read outside rest fid offset count of)
  file_such rest fid offset count kind.Ctl such = after_step GivesSome (ctl_read outside rest fid.node offset count) _ (λ _ _. such)
  file_such rest fid offset count kind.Data such = after_step GivesSome (outside.read_data rest fid.node.connection count) _ (λ _ _. such)
  file_such rest fid offset count kind.Screen such = such
  file_such rest fid offset count kind.Snarf such = such
  file_such rest fid offset count kind.Hwsize such = such
  file_such rest fid offset count kind.Label such = such
  file_such rest fid offset count kind.Text such = such
  file_such rest fid offset count kind.Winid such = such
  file_such rest fid offset count kind.Winname such = such
  file_such rest fid offset count kind.Picture such = such
  file_such rest fid offset count kind.Mouse such = in_such rest fid mouse_len count kind.Mouse such
  file_such rest fid offset count kind.Wctl such = in_such rest fid wctl_len count kind.Wctl such
  file_such rest fid offset count kind.Cons such = given_such rest fid count kind.Cons such
  file_such rest fid offset count _ such = tt

  from_such : (kept : Kept) (fid : Fid) (count : ℕ) → Such fid.node → IfOk (read_from kept fid count) (λ got. Such got.0.node)
  from_such kept fid count such = after_step (λ (got : Fid × List ℕ). Such got.0.node) (given kept count) _ (λ _ _. such)

  directory_such : (anew : List (List ℕ)) (fid : Fid) (offset count : ℕ) → Such fid.node → IfOk (directory_read anew fid offset count) (λ got. Such got.0.node)
  unfolding directory_read
  directory_such anew fid offset count such =
      cond_both (offset == 0) (read_from (record { left = anew; next = 0 }) fid count) (read_further fid offset count) (λ o. IfOk o (λ (got : Fid × List ℕ). Such got.0.node))
      (λ _. from_such (record { left = anew; next = 0 }) fid count such)
      (λ _. after_step (λ (got : Fid × List ℕ). Such got.0.node) (goes_on fid.kept offset) _ (λ kept _. from_such kept fid count such))

  node_such : (connections : List ℕ) (rest : S) (fid : Fid) (offset count : ℕ) → Such fid.node → GivesSuch (node_read outside connections rest fid offset count)
  node_such connections rest fid offset count such =
      cond_both (is_directory fid.node) (directory_read (stats (outside.view rest connections fid.node) fid.node) fid offset count >>= λ got. told_now got.0 rest got.1) (file_read outside rest fid offset count fid.node.kind)
      GivesSuch
      (λ _. after_if GivesSome (λ (got : Fid × List ℕ). Such got.0.node) (directory_read (stats (outside.view rest connections fid.node) fid.node) fid offset count) _
      (directory_such (stats (outside.view rest connections fid.node) fid.node) fid offset count such) (λ got is. is))
      (λ _. file_such rest fid offset count fid.node.kind such)

  end_keeps : (session : Session) (rest : S) (tag number count : ℕ) (got : Option (Given S)) → Keeps session → GivesSome got → KeepsLeft (read_ended session rest tag number count got)
  end_keeps session rest tag number count (Some got) keeps such = all-with IsSuch session.fids number got.fid keeps such
  end_keeps session rest tag number count None keeps such = after_step (λ l. Keeps l.session) (refuse_if (nat_le most_waiting (length session.waiting)) 45) _ (λ _ _. keeps)

  read_keeps : (session : Session) (rest : S) (tag number offset count : ℕ) → Keeps session → KeepsLeft (read_answer outside session rest tag number offset count)
  unfolding read_answer
  read_keeps session rest tag number offset count keeps =
      after_step (λ l. Keeps l.session) (fid_of session number) _ (λ fid is.
      after_step (λ l. Keeps l.session) (refuse_if (is_none fid.mode) 37) _ (λ _ _.
      after_step (λ l. Keeps l.session) (refuse_if (not (is_open_for reads fid)) 38) _ (λ _ _.
      after_step (λ l. Keeps l.session) (check_live (outside.view rest session.connections fid.node) fid.node) _ (λ _ _.
      after_if (λ l. Keeps l.session) GivesSome (node_read outside session.connections rest fid offset (count_within session count)) _
      (node_such session.connections rest fid offset (count_within session count) (bound_such session keeps number fid is)) (λ got such. end_keeps session rest tag number (count_within session count) got keeps such)))))

  write_keeps : (session : Session) (rest : S) (tag number offset : ℕ) (bytes : List ℕ) (mark : Option ℕ) → Keeps session → KeepsLeft (write_answer outside session rest tag number offset bytes mark)
  unfolding write_answer
  write_keeps session rest tag number offset bytes mark keeps =
      after_step (λ l. Keeps l.session) (fid_of session number) _ (λ fid is.
      after_step (λ l. Keeps l.session) (refuse_if (is_none fid.mode) 37) _ (λ _ _.
      after_step (λ l. Keeps l.session) (refuse_if (not (is_open_for writes fid)) 38) _ (λ _ _.
      after_step (λ l. Keeps l.session) (check_live (outside.view rest session.connections fid.node) fid.node) _ (λ _ _.
      after_step (λ l. Keeps l.session) (file_written outside rest fid.node offset bytes mark fid.node.kind) _ (λ _ _. keeps)))))

  -- ---- each message

  -- what must be so of attaches and walks
  abbrev pub Leads : Session → S → T → Type 0
  Leads session rest (Tattach tag fid afid uname aname) = is_name_looked_at session fid afid ≡ true → (root : S × ℕ) → outside.attached rest (attach_of aname) ≡ Ok root → Such (root_of root.1)
  Leads session rest (Twalk tag fid newfid names) =
      (from : Fid) → fid_of session fid ≡ Ok from → is_some from.mode ≡ false → (not (newfid == fid) && is_bound session newfid) ≡ false → (not (newfid == fid) && is_full session) ≡ false
      → All Such (walked (outside.view rest session.connections) from.node names).0
  Leads session rest _ = Unit {0}

  beside_keeps : (rest : S) (o : Outcome Done) → KeepsDone o → KeepsLeft (beside rest o)
  beside_keeps rest (Ok d) keeps = keeps
  beside_keeps rest (Err n) keeps = tt

  stat_keeps : (session : Session) (rest : S) (tag fid : ℕ) → Keeps session → KeepsDone (stat_answer outside session rest tag fid)
  unfolding stat_answer
  stat_keeps session rest tag number keeps =
      after_step (λ d. Keeps d.session) (fid_of session number) _ (λ fid _.
      after_step (λ d. Keeps d.session) (check_live (outside.view rest session.connections fid.node) fid.node) _ (λ _ _. keeps))

  to_keeps : (session : Session) (rest : S) (mark : Option ℕ) (m : T) → Keeps session → Leads session rest m → KeepsLeft (answer_to outside session rest mark m)
  to_keeps session rest mark (Tversion tag msize version) keeps leads = version_keeps session rest tag msize version
  to_keeps session rest mark (Tauth tag afid uname aname) keeps leads = tt
  to_keeps session rest mark (Tattach tag fid afid uname aname) keeps leads = attach_keeps session rest tag fid afid aname keeps leads
  to_keeps session rest mark (Tflush tag oldtag) keeps leads = keeps
  to_keeps session rest mark (Twalk tag fid newfid names) keeps leads = beside_keeps rest (walk_answer outside session rest tag fid newfid names) (walk_keeps session rest tag fid newfid names keeps leads)
  to_keeps session rest mark (Topen tag fid mode) keeps leads = open_keeps session rest tag fid mode keeps
  to_keeps session rest mark (Tcreate tag fid name perm mode) keeps leads = beside_keeps rest (denied session fid) (after_step (λ d. Keeps d.session) (fid_of session fid) _ (λ _ _. tt))
  to_keeps session rest mark (Tread tag fid offset count) keeps leads = read_keeps session rest tag fid offset count keeps
  to_keeps session rest mark (Twrite tag fid offset bytes) keeps leads = write_keeps session rest tag fid offset bytes mark keeps
  to_keeps session rest mark (Tclunk tag fid) keeps leads = clunk_keeps session rest fid (Rclunk tag) keeps
  to_keeps session rest mark (Tremove tag fid) keeps leads = clunk_keeps session rest fid (refusal tag 38) keeps
  to_keeps session rest mark (Tstat tag fid) keeps leads = beside_keeps rest (stat_answer outside session rest tag fid) (stat_keeps session rest tag fid keeps)
  to_keeps session rest mark (Twstat tag fid stat) keeps leads = beside_keeps rest (denied session fid) (after_step (λ d. Keeps d.session) (fid_of session fid) _ (λ _ _. tt))

  replied_keeps : (session : Session) (rest : S) (tag : ℕ) (o : Outcome (Left S)) → Keeps session → KeepsLeft o → Keeps (replied session rest tag o).session
  replied_keeps session rest tag (Ok l) keeps is = is
  replied_keeps session rest tag (Err n) keeps is = keeps

  abbrev pub LeadsIf : Session → S → Option T → Type 0
  LeadsIf session rest None = Unit {0}
  LeadsIf session rest (Some m) = (not (is_version m) && (tag_of_t m == no_tag)) ≡ false → (not (is_version m) && not session.agreed) ≡ false → Leads session rest m

  or_keeps : (session : Session) (rest : S) (mark : Option ℕ) (m : Option T) → Keeps session → LeadsIf session rest m → KeepsLeft (read_or_not outside session rest mark m)
  unfolding answer_read
  or_keeps session rest mark None keeps leads = tt
  or_keeps session rest mark (Some m) keeps leads =
      after_step (λ l. Keeps l.session) (refuse_if (not (is_version m) && (tag_of_t m == no_tag)) 30) _ (λ u tagged.
      after_step (λ l. Keeps l.session) (refuse_if (not (is_version m) && not session.agreed) 31) _ (λ v agreed.
      to_keeps session rest mark m keeps (leads (not_refused (not (is_version m) && (tag_of_t m == no_tag)) 30 u tagged) (not_refused (not (is_version m) && not session.agreed) 31 v agreed))))

  -- What the bytes of a message leave.
  pub answer_keeps_such : (session : Session) (rest : S) (bytes : List ℕ) (mark : Option ℕ) → Keeps session → (taking session bytes ≡ Reads → LeadsIf session rest (message_of bytes)) → Keeps (answer outside session rest bytes mark).session
  unfolding answer
  answer_keeps_such session rest bytes mark keeps leads = by (taking session bytes) leads
    where
      by : (how : Taking) → (how ≡ Reads → LeadsIf session rest (message_of bytes)) → Keeps (taken outside session rest bytes mark how).session
      by Ignored leads = keeps
      by TooLong leads = keeps
      by Closes leads = cleared_keeps session rest
      by Reads leads = replied_keeps session rest (tag_of bytes) (read_or_not outside session rest mark (message_of bytes)) keeps (or_keeps session rest mark (message_of bytes) keeps (leads refl))
