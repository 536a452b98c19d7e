-- A session that is alone has only what is its own after each message too.
use Rattle.std.proofs.Common.{◌≡◌, ℕ, ◌==◌, ◌+◌, ◌≤◌, Bool, true, false, List, [], ◌∷◌, Option, Some, None, is_some, Ok, Err, refl, subst, arith, inl, Ordering, Less, Equal, Greater, nat_cmp, ◌++◌}
use Rattle.std.specs.Prelude.{All, IfOk, IfSome, IsTrue, length, map, nat_le, nat_lt, not, is_none, ◌&&◌, if◌then◌else◌}
use Rattle.std.specs.Option.{option_map}
use Rattle.std.specs.Ordering.{match_ordering}
use Rattle.std.proofs.lemmas.Bool.{cond_both}
use Rattle.std.proofs.lemmas.Bool.Decides.{nat_tests}
use Rattle.std.proofs.lemmas.List.Elements.{All-append, All-cons, All-filter, All-head, All-nil, All-tail, All-weaker}
use Rattle.std.proofs.lemmas.Map.Entries.{All-lookup}
use Rattle.model_text.specs.text.Outcome.{Outcome, ◌>>=◌, refuse_if, value_or_refuse}
use Rattle.model_text.specs.text.Map.{and, is_key, lookup, without}
use Rattle.model_files.specs.wire.Message.{T, Tattach, Twalk, Topen, Twrite, Tversion, Tauth, Tflush, Tcreate, Tread, Tclunk, Tremove, Tstat, Twstat, R, Rclunk, no_fid, no_tag, tag_of_t}
use Rattle.model_files.specs.declared.tree.Kind.{Kind}
use Rattle.model_files.specs.declared.tree.Kind.TheVariants as kind
use Rattle.model_files.specs.tree.Node.{Node, is_directory, may, reads, row, writes}
use Rattle.model_files.specs.tree.Tree.{check_live}
use Rattle.model_world.specs.Session.{Fid, Kept, Session, Wait, fid_at}
use Rattle.model_world.specs.Outside.{Outside}
use Rattle.model_world.specs.Fids.{Done, Left, and_fid, beside, cleared, fid_of, fids_gone, is_bound, is_full, is_kept, is_kind, settled, with_fid}
use Rattle.model_world.specs.Walking.{ctl_of, is_taken, last, most_made, open_answer, opened, attach_answer, rebound, walk_answer, walk_ended, walked}
use Rattle.law_likeness.specs.agreement.Agreement.{IsOwnFid, KeepsToItself, is_own}
use Rattle.model_world.specs.Answer.{Taking, Ignored, TooLong, Closes, Reads, agreed_on, answer, answer_read, answer_to, asks_for_9p, clunk_answer, denied, is_version, read_or_not, replied, stat_answer, taken, taking, version_answer}
use Rattle.model_world.specs.Reading.{Given, count_within, ctl_read, directory_read, file_read, given, given_in, given_now, goes_on, is_open_for, most_waiting, mouse_len, node_read, read_answer, read_ended, read_from, read_further, told_now, wctl_len}
use Rattle.model_world.specs.Writing.{file_written, write_answer}
use Rattle.model_world.specs.Refusal.{refusal}
use Rattle.model_world.specs.Waiting.{answered_or, awaited, first_of, given_or_refused, one_answered, wait_answer}
use Rattle.model_files.specs.mouse.Queue.{answer_text}
use Rattle.model_files.specs.console.Console as console
use Rattle.model_rio.specs.window.Heard.{wctl_answer, wctl_text}
use Rattle.model_files.specs.tree.Listing.{stats}
use Rattle.model_alone.specs.alone.Uses.{is_name_looked_at}
use Rattle.model_files.specs.wire.Reading.{message_of, tag_of}
use Rattle.law_likeness.proofs.agreement.Keeping.{all-with}
use Rattle.law_likeness.proofs.agreement.Relations.{not_refused}
use Rattle.model_world.proofs.Others.{after_if, after_step}
use Rattle.law_strangers.specs.followed.Following.{HasConnection, HasWindow}
use Rattle.law_strangers.proofs.private.Walks.{IsMine}

-- a fid of the session's own, which is open on its own alone
pub record IsMineFid (own : Option ℕ) (fid : Fid) : Type 0 where
  pub node : IsMine own fid.node
  pub opened : is_some fid.mode ≡ true → IsTrue (is_own fid.node.kind)

-- what the session has
pub record KeepsMine (own : Option ℕ) (session : Session) : Type 0 where
  pub fids : All (λ (entry : ℕ × Fid). IsMineFid own entry.1) session.fids
  pub connections : All HasConnection session.connections

pub keeps_itself : (own : Option ℕ) (session : Session) → KeepsMine own session → KeepsToItself (HasWindow own) HasConnection session
keeps_itself own session is = record {
  fids = All-weaker (λ (entry : ℕ × Fid). IsMineFid own entry.1) (λ (entry : ℕ × Fid). IsOwnFid (HasWindow own) HasConnection entry.1) (λ entry mine. record { plain = mine.node.plain; own = mine.opened }) session.fids is.fids;
  connections = is.connections;
}

-- ---- finite maps

all_and : {A : Type 0} (P : A → Type 0) (es : List (ℕ × A)) (key : ℕ) (value : A) → All (λ (e : ℕ × A). P e.1) es → P value → All (λ (e : ℕ × A). P e.1) (and es key value)
all_and {A = A} P [] key value all is = All-cons (λ (e : ℕ × A). P e.1) (key, value) [] is (All-nil (λ (e : ℕ × A). P e.1))
all_and {A = A} P (e ∷ es) key value all is = by (nat_cmp key e.0) (all_and P es key value (All-tail (λ (e : ℕ × A). P e.1) e es all) is)
  where
    here : P e.1
    here = All-head (λ (e : ℕ × A). P e.1) e es all

    rest : All (λ (e : ℕ × A). P e.1) es
    rest = All-tail (λ (e : ℕ × A). P e.1) e es all

    by : (o : Ordering) → All (λ (e : ℕ × A). P e.1) (and es key value) → All (λ (e : ℕ × A). P e.1) (match_ordering o ((key, value) ∷ e ∷ es) ((e.0, value) ∷ es) (e ∷ and es key value))
    by Less more = All-cons (λ (e : ℕ × A). P e.1) (key, value) (e ∷ es) is all
    by Equal more = All-cons (λ (e : ℕ × A). P e.1) (e.0, value) es is rest
    by Greater more = All-cons (λ (e : ℕ × A). P e.1) e (and es key value) here more

all_without : {A : Type 0} (P : A → Type 0) (es : List (ℕ × A)) (key : ℕ) → All (λ (e : ℕ × A). P e.1) es → All (λ (e : ℕ × A). P e.1) (without es key)
all_without P [] key all = all
all_without {A = A} P (e ∷ es) key all = by (is_key key e.0) (all_without P es key (All-tail (λ (e : ℕ × A). P e.1) e es all))
  where
    by : (b : Bool) → All (λ (e : ℕ × A). P e.1) (without es key) → All (λ (e : ℕ × A). P e.1) (if b then es else e ∷ without es key)
    by true more = All-tail (λ (e : ℕ × A). P e.1) e es all
    by false more = All-cons (λ (e : ℕ × A). P e.1) e (without es key) (All-head (λ (e : ℕ × A). P e.1) e es all) more

mapped : {A B : Type 0} (P : B → Type 0) (o : Option A) (f : A → B) → ((x : A) → P (f x)) → IfSome (option_map f o) P
mapped P None f each = tt
mapped P (Some x) f each = each x

module _ {S : Type 0} (outside : Outside S) (own : Option ℕ) where
  abbrev Mine : ℕ × Fid → Type 0
  Mine entry = IsMineFid own entry.1

  abbrev Keeps : Session → Type 0
  Keeps session = KeepsMine own session

  abbrev KeepsLeft : Outcome (Left S) → Type 0
  KeepsLeft o = IfOk o (λ l. Keeps l.session)

  abbrev KeepsDone : Outcome Done → Type 0
  KeepsDone o = IfOk o (λ d. Keeps d.session)

  pub bound_mine : (session : Session) → Keeps session → (number : ℕ) (fid : Fid) → fid_of session number ≡ Ok fid → IsMineFid own fid
  bound_mine session keeps number fid is = by (lookup session.fids number) (All-lookup (IsMineFid own) (is_key number) session.fids keeps.fids) is
    where
      by : (o : Option Fid) → IfSome o (IsMineFid own) → value_or_refuse o 32 ≡ Ok fid → IsMineFid own fid
      by (Some f) mine is = let same : f ≡ fid = cc in subst (IsMineFid own) same mine
      by None mine is = absurd cc

  closed_mine : (node : Node) → IsMine own node → IsMineFid own (fid_at node)
  closed_mine node mine = record { node = mine; opened = λ is. absurd cc }

  -- ---- fids that go

  gone_keeps : (session : Session) (rest : S) (gone : List Fid) → Keeps session → Keeps (fids_gone outside session rest gone).0
  unfolding fids_gone settled
  gone_keeps session rest gone keeps = record { fids = keeps.fids; connections = All-filter (is_kept session) HasConnection session.connections keeps.connections }

  pub cleared_keeps : (session : Session) (rest : S) → Keeps session → Keeps (cleared outside session rest).0
  cleared_keeps session rest keeps =
      gone_keeps (record session { fids = []; waiting = [] }) rest (map (λ entry. entry.1) session.fids) (record { fids = All-nil Mine; connections = keeps.connections })

  clunk_keeps : (session : Session) (rest : S) (number : ℕ) (reply : R) → Keeps session → KeepsLeft (clunk_answer outside session rest number reply)
  unfolding clunk_answer
  clunk_keeps session rest number reply keeps =
      after_step (λ l. Keeps l.session) (fid_of session number) _ (λ fid _.
      gone_keeps (record session { fids = without session.fids number }) rest (fid ∷ []) (record { fids = all_without (IsMineFid own) session.fids number keeps.fids; connections = keeps.connections }))

  version_keeps : (session : Session) (rest : S) (tag msize : ℕ) (version : List ℕ) → Keeps session → KeepsLeft (version_answer outside session rest tag msize version)
  unfolding version_answer
  version_keeps session rest tag msize version keeps = after_step (λ l. Keeps l.session) (refuse_if (nat_lt msize 256) 48) _ (λ _ _. by (asks_for_9p version) refl)
    where
      gone : Keeps (cleared outside session rest).0
      gone = cleared_keeps session rest keeps

      by : (b : Bool) → asks_for_9p version ≡ b → Keeps (agreed_on tag msize version (cleared outside session rest)).session
      by true at = rw at (record { fids = gone.fids; connections = gone.connections })
      by false at = rw at (record { fids = gone.fids; connections = gone.connections })

  -- ---- walks

  last_mine : (node : Node) (nodes : List Node) → IsMine own node → All (IsMine own) nodes → IsMine own (last node nodes)
  last_mine node [] mine all = mine
  last_mine node (next ∷ nodes) mine all = last_mine next nodes (All-head (IsMine own) next nodes all) (All-tail (IsMine own) next nodes all)

  rebound_keeps : (session : Session) (fid newfid : ℕ) (node : Node) → Keeps session → IsMine own node → Keeps (rebound session fid newfid node)
  rebound_keeps session fid newfid node keeps mine =
      cond_both (newfid == fid) (with_fid session newfid (fid_at node)) (and_fid session newfid (fid_at node)) Keeps
      (λ _. record { fids = all-with (IsMineFid own) session.fids newfid (fid_at node) keeps.fids (closed_mine node mine); connections = keeps.connections })
      (λ _. record { fids = all_and (IsMineFid own) session.fids newfid (fid_at node) keeps.fids (closed_mine node mine); connections = keeps.connections })

  ended_keeps : (session : Session) (tag fid newfid : ℕ) (node : Node) (w : List Node × Option ℕ) → Keeps session → IsMine own node → All (IsMine own) w.0 → KeepsDone (walk_ended session tag fid newfid node w)
  ended_keeps session tag fid newfid node (nodes, None) keeps mine all = rebound_keeps session fid newfid (last node nodes) keeps (last_mine node nodes mine all)
  ended_keeps session tag fid newfid node ([], Some n) keeps mine all = tt
  ended_keeps session tag fid newfid node (next ∷ nodes, Some n) keeps mine all = keeps

  walk_keeps : (session : Session) (rest : S) (tag fid newfid : ℕ) (names : List (List ℕ)) → Keeps session
      → ((from : Fid) → fid_of session fid ≡ Ok from → is_some from.mode ≡ false → (not (newfid == fid) && is_bound session newfid) ≡ false → (not (newfid == fid) && is_full session) ≡ false
      → All (IsMine own) (walked (outside.view rest session.connections) from.node names).0)
      → KeepsDone (walk_answer outside session rest tag fid newfid names)
  unfolding walk_answer
  walk_keeps session rest tag fid newfid names keeps walks =
      after_step (λ d. Keeps d.session) (fid_of session fid) _ (λ from is.
      after_step (λ d. Keeps d.session) (refuse_if (is_some from.mode) 36) _ (λ u closed.
      after_step (λ d. Keeps d.session) (refuse_if (not (newfid == fid) && is_bound session newfid) 33) _ (λ v free.
      after_step (λ d. Keeps d.session) (refuse_if (not (newfid == fid) && is_full session) 44) _ (λ w room.
      ended_keeps session tag fid newfid from.node (walked (outside.view rest session.connections) from.node names) keeps (bound_mine session keeps fid from is).node
      (walks from is (not_refused (is_some from.mode) 36 u closed) (not_refused (not (newfid == fid) && is_bound session newfid) 33 v free) (not_refused (not (newfid == fid) && is_full session) 44 w room))))))

  -- ---- opens

  new_mine : (node : Node) (n : ℕ) → HasConnection n → IsMine own node → IsMine own (ctl_of node n)
  unfolding row
  new_mine node n few mine = record { plain = record { kind = refl; window = inl refl; place = refl; connection = few }; inside = refl; root = mine.root; counted = mine.counted }

  opened_keeps : (session : Session) (rest : S) (tag number mode : ℕ) (fid : Fid) (new : Bool) → is_kind kind.New fid.node.kind ≡ new → Keeps session → IsMineFid own fid → IsTrue (is_own fid.node.kind)
      → (new ≡ true → session.made + 1 ≤ most_made) → Keeps (opened outside session rest tag number mode fid).session
  opened_keeps session rest tag number mode fid true is keeps mine owns few =
      let n = session.made + 1 in
      let one : HasConnection n = (let most = few refl in omega (arith, most)) in
      rw is (record {
        fids = all-with (IsMineFid own) session.fids number (record fid { node = ctl_of fid.node n; mode = Some mode }) keeps.fids (record { node = new_mine fid.node n one mine.node; opened = λ _. refl });
        connections = All-append HasConnection session.connections (n ∷ []) keeps.connections (All-cons HasConnection n [] one (All-nil HasConnection));
      })
  opened_keeps session rest tag number mode fid false is keeps mine owns few =
      rw is (record { fids = all-with (IsMineFid own) session.fids number (record fid { mode = Some mode }) keeps.fids (record { node = mine.node; opened = λ _. owns }); connections = keeps.connections })

  below_most : (new : Bool) (made : ℕ) → (new && nat_le most_made made) ≡ false → new ≡ true → made + 1 ≤ most_made
  below_most true made fine is = grind (arith, nat_tests)
  below_most false made fine is = absurd cc

  opens_keep : (session : Session) (rest : S) (tag number mode : ℕ) → Keeps session → ((fid : Fid) → fid_of session number ≡ Ok fid → IsTrue (is_own fid.node.kind)) → KeepsLeft (open_answer outside session rest tag number mode)
  unfolding open_answer
  opens_keep session rest tag number mode keeps own_kind =
      after_step (λ l. Keeps l.session) (fid_of session number) _ (λ fid is.
      after_step (λ l. Keeps l.session) (refuse_if (is_some fid.mode) 36) _ (λ _ _.
      after_step (λ l. Keeps l.session) (check_live (outside.view rest session.connections fid.node) fid.node) _ (λ _ _.
      after_step (λ l. Keeps l.session) (refuse_if (not (may fid.node mode)) 38) _ (λ _ _.
      after_step (λ l. Keeps l.session) (refuse_if (is_taken outside session rest fid.node) 43) _ (λ _ _.
      after_step (λ l. Keeps l.session) (refuse_if (is_kind kind.New fid.node.kind && nat_le most_made session.made) 44) _ (λ u fine.
      opened_keeps session rest tag number mode fid (is_kind kind.New fid.node.kind) refl keeps (bound_mine session keeps number fid is) (own_kind fid is)
      (below_most (is_kind kind.New fid.node.kind) session.made (not_refused (is_kind kind.New fid.node.kind && nat_le most_made session.made) 44 u fine))))))))

  -- what is done is of its own
  open_keeps : (session : Session) (rest : S) (tag number mode : ℕ) → Keeps session
      → ((next : Left S) → open_answer outside session rest tag number mode ≡ Ok next → (fid : Fid) → fid_of session number ≡ Ok fid → IsTrue (is_own fid.node.kind))
      → KeepsLeft (open_answer outside session rest tag number mode)
  open_keeps session rest tag number mode keeps owns = by (open_answer outside session rest tag number mode) refl
    where
      by : (o : Outcome (Left S)) → open_answer outside session rest tag number mode ≡ o → KeepsLeft o
      by (Err n) e = tt
      by (Ok next) e = subst KeepsLeft e (opens_keep session rest tag number mode keeps (owns next e))

  -- ---- reads and writes

  given_mine : (rest : S) (fid : Fid) (count : ℕ) (of : Kind) → IsMineFid own fid → IfSome (given_now outside rest fid count of) (λ got. IsMineFid own got.fid)
  given_mine rest fid count kind.Mouse mine = mapped (λ got. IsMineFid own got.fid) (answer_text (outside.pane rest fid.node.serial).mouse) _ (λ text. mine)
  given_mine rest fid count kind.Cons mine = mapped (λ got. IsMineFid own got.fid) (console.read count (outside.pane rest fid.node.serial).console) _ (λ text. mine)
  given_mine rest fid count kind.Wctl mine = mapped (λ got. IsMineFid own got.fid) (wctl_answer fid.told (wctl_text (outside.pane rest fid.node.serial).known)) _ (λ text. record { node = mine.node; opened = mine.opened })
  given_mine rest fid count _ mine = tt

  abbrev GivesMine : Outcome (Option (Given S)) → Type 0
  GivesMine o = IfOk o (λ given. IfSome given (λ got. IsMineFid own got.fid))

  in_mine : (rest : S) (fid : Fid) (least count : ℕ) (of : Kind) → IsMineFid own fid → GivesMine (given_in outside rest fid least count of)
  in_mine rest fid least count of mine = after_step (λ given. IfSome given (λ got. IsMineFid own got.fid)) (refuse_if (nat_lt count least) 46) _ (λ _ _. given_mine rest fid count of mine)

  file_mine : (rest : S) (fid : Fid) (offset count : ℕ) (of : Kind) → IsMineFid own fid → GivesMine (file_read outside rest fid offset count of)
  file_mine rest fid offset count kind.Ctl mine = after_step (λ given. IfSome given (λ got. IsMineFid own got.fid)) (ctl_read outside rest fid.node offset count) _ (λ _ _. mine)
  file_mine rest fid offset count kind.Data mine = after_step (λ given. IfSome given (λ got. IsMineFid own got.fid)) (outside.read_data rest fid.node.connection count) _ (λ _ _. mine)
  file_mine rest fid offset count kind.Screen mine = mine
  file_mine rest fid offset count kind.Snarf mine = mine
  file_mine rest fid offset count kind.Hwsize mine = mine
  file_mine rest fid offset count kind.Label mine = mine
  file_mine rest fid offset count kind.Text mine = mine
  file_mine rest fid offset count kind.Winid mine = mine
  file_mine rest fid offset count kind.Winname mine = mine
  file_mine rest fid offset count kind.Picture mine = mine
  file_mine rest fid offset count kind.Mouse mine = in_mine rest fid mouse_len count kind.Mouse mine
  file_mine rest fid offset count kind.Wctl mine = in_mine rest fid wctl_len count kind.Wctl mine
  file_mine rest fid offset count kind.Cons mine = given_mine rest fid count kind.Cons mine
  file_mine rest fid offset count _ mine = tt

  from_mine : (kept : Kept) (fid : Fid) (count : ℕ) → IsMineFid own fid → IfOk (read_from kept fid count) (λ got. IsMineFid own got.0)
  from_mine kept fid count mine = after_step (λ (got : Fid × List ℕ). IsMineFid own got.0) (given kept count) _ (λ _ _. record { node = mine.node; opened = mine.opened })

  directory_mine : (anew : List (List ℕ)) (fid : Fid) (offset count : ℕ) → IsMineFid own fid → IfOk (directory_read anew fid offset count) (λ got. IsMineFid own got.0)
  unfolding directory_read
  directory_mine anew fid offset count mine =
      cond_both (offset == 0) (read_from (record { left = anew; next = 0 }) fid count) (read_further fid offset count) (λ o. IfOk o (λ (got : Fid × List ℕ). IsMineFid own got.0))
      (λ _. from_mine (record { left = anew; next = 0 }) fid count mine)
      (λ _. after_step (λ (got : Fid × List ℕ). IsMineFid own got.0) (goes_on fid.kept offset) _ (λ kept _. from_mine kept fid count mine))

  node_mine : (connections : List ℕ) (rest : S) (fid : Fid) (offset count : ℕ) → IsMineFid own fid → GivesMine (node_read outside connections rest fid offset count)
  node_mine connections rest fid offset count mine =
      cond_both (is_directory fid.node) (directory_read (stats (outside.view rest connections fid.node) fid.node) fid offset count >>= λ got. told_now got.0 rest got.1) (file_read outside rest fid offset count fid.node.kind)
      (λ o. IfOk o (λ given. IfSome given (λ got. IsMineFid own got.fid)))
      (λ _. after_if (λ given. IfSome given (λ got. IsMineFid own got.fid)) (λ (got : Fid × List ℕ). IsMineFid own got.0) (directory_read (stats (outside.view rest connections fid.node) fid.node) fid offset count) _
      (directory_mine (stats (outside.view rest connections fid.node) fid.node) fid offset count mine) (λ got is. is))
      (λ _. file_mine rest fid offset count fid.node.kind mine)

  end_keeps : (session : Session) (rest : S) (tag number count : ℕ) (got : Option (Given S)) → Keeps session → IfSome got (λ g. IsMineFid own g.fid) → KeepsLeft (read_ended session rest tag number count got)
  end_keeps session rest tag number count (Some got) keeps mine = record { fids = all-with (IsMineFid own) session.fids number got.fid keeps.fids mine; connections = keeps.connections }
  end_keeps session rest tag number count None keeps mine =
      after_step (λ l. Keeps l.session) (refuse_if (nat_le most_waiting (length session.waiting)) 45) _ (λ _ _. record { fids = keeps.fids; connections = keeps.connections })

  read_keeps : (session : Session) (rest : S) (tag number offset count : ℕ) → Keeps session → KeepsLeft (read_answer outside session rest tag number offset count)
  unfolding read_answer
  read_keeps session rest tag number offset count keeps =
      after_step (λ l. Keeps l.session) (fid_of session number) _ (λ fid is.
      after_step (λ l. Keeps l.session) (refuse_if (is_none fid.mode) 37) _ (λ _ _.
      after_step (λ l. Keeps l.session) (refuse_if (not (is_open_for reads fid)) 38) _ (λ _ _.
      after_step (λ l. Keeps l.session) (check_live (outside.view rest session.connections fid.node) fid.node) _ (λ _ _.
      after_if (λ l. Keeps l.session) (λ given. IfSome given (λ got. IsMineFid own got.fid)) (node_read outside session.connections rest fid offset (count_within session count)) _
      (node_mine session.connections rest fid offset (count_within session count) (bound_mine session keeps number fid is)) (λ got mine. end_keeps session rest tag number (count_within session count) got keeps mine)))))

  write_keeps : (session : Session) (rest : S) (tag number offset : ℕ) (bytes : List ℕ) (mark : Option ℕ) → Keeps session → KeepsLeft (write_answer outside session rest tag number offset bytes mark)
  unfolding write_answer
  write_keeps session rest tag number offset bytes mark keeps =
      after_step (λ l. Keeps l.session) (fid_of session number) _ (λ fid is.
      after_step (λ l. Keeps l.session) (refuse_if (is_none fid.mode) 37) _ (λ _ _.
      after_step (λ l. Keeps l.session) (refuse_if (not (is_open_for writes fid)) 38) _ (λ _ _.
      after_step (λ l. Keeps l.session) (check_live (outside.view rest session.connections fid.node) fid.node) _ (λ _ _.
      after_step (λ l. Keeps l.session) (file_written outside rest fid.node offset bytes mark fid.node.kind) _ (λ _ _. keeps)))))

  -- ---- each message but an attach that is looked at

  -- what must be so of walks and opens
  abbrev pub Asks : Session → S → T → Type 0
  Asks session rest (Tattach tag fid afid uname aname) = is_name_looked_at session fid afid ≡ true → ⊥
  Asks session rest (Twalk tag fid newfid names) =
      (from : Fid) → fid_of session fid ≡ Ok from → is_some from.mode ≡ false → (not (newfid == fid) && is_bound session newfid) ≡ false → (not (newfid == fid) && is_full session) ≡ false
      → All (IsMine own) (walked (outside.view rest session.connections) from.node names).0
  Asks session rest (Topen tag fid mode) =
      (next : Left S) → open_answer outside session rest tag fid mode ≡ Ok next → (f : Fid) → fid_of session fid ≡ Ok f → IsTrue (is_own f.node.kind)
  Asks session rest _ = Unit {0}

  beside_keeps : (rest : S) (o : Outcome Done) → KeepsDone o → KeepsLeft (beside rest o)
  beside_keeps rest (Ok d) keeps = keeps
  beside_keeps rest (Err n) keeps = tt

  attach_keeps : (session : Session) (rest : S) (tag fid afid : ℕ) (aname : List ℕ) → (is_name_looked_at session fid afid ≡ true → ⊥) → KeepsLeft (attach_answer outside session rest tag fid afid aname)
  unfolding attach_answer
  attach_keeps session rest tag fid afid aname none =
      after_step (λ l. Keeps l.session) (refuse_if (not (afid == no_fid)) 40) _ (λ u unkeyed.
      after_step (λ l. Keeps l.session) (refuse_if (is_bound session fid) 33) _ (λ v free.
      after_step (λ l. Keeps l.session) (refuse_if (is_full session) 44) _ (λ w room.
      absurd (none (looked (afid == no_fid) (is_bound session fid) (is_full session) (not_refused (not (afid == no_fid)) 40 u unkeyed) (not_refused (is_bound session fid) 33 v free) (not_refused (is_full session) 44 w room))))))
    where
      looked : (a b c : Bool) → not a ≡ false → b ≡ false → c ≡ false → (a && not b && not c) ≡ true
      looked true false false x y z = refl
      looked false b c x y z = absurd cc
      looked true true c x y z = absurd cc
      looked true false true x y z = absurd cc

  stat_keeps : (session : Session) (rest : S) (tag fid : ℕ) → Keeps session → KeepsDone (stat_answer outside session rest tag fid)
  unfolding stat_answer
  stat_keeps session rest tag number keeps =
      after_step (λ d. Keeps d.session) (fid_of session number) _ (λ fid _.
      after_step (λ d. Keeps d.session) (check_live (outside.view rest session.connections fid.node) fid.node) _ (λ _ _. keeps))

  to_keeps : (session : Session) (rest : S) (mark : Option ℕ) (m : T) → Keeps session → Asks session rest m → KeepsLeft (answer_to outside session rest mark m)
  to_keeps session rest mark (Tversion tag msize version) keeps asks = version_keeps session rest tag msize version keeps
  to_keeps session rest mark (Tauth tag afid uname aname) keeps asks = tt
  to_keeps session rest mark (Tattach tag fid afid uname aname) keeps asks = attach_keeps session rest tag fid afid aname asks
  to_keeps session rest mark (Tflush tag oldtag) keeps asks = record { fids = keeps.fids; connections = keeps.connections }
  to_keeps session rest mark (Twalk tag fid newfid names) keeps asks = beside_keeps rest (walk_answer outside session rest tag fid newfid names) (walk_keeps session rest tag fid newfid names keeps asks)
  to_keeps session rest mark (Topen tag fid mode) keeps asks = open_keeps session rest tag fid mode keeps asks
  to_keeps session rest mark (Tcreate tag fid name perm mode) keeps asks = beside_keeps rest (denied session fid) (after_step (λ d. Keeps d.session) (fid_of session fid) _ (λ _ _. tt))
  to_keeps session rest mark (Tread tag fid offset count) keeps asks = read_keeps session rest tag fid offset count keeps
  to_keeps session rest mark (Twrite tag fid offset bytes) keeps asks = write_keeps session rest tag fid offset bytes mark keeps
  to_keeps session rest mark (Tclunk tag fid) keeps asks = clunk_keeps session rest fid (Rclunk tag) keeps
  to_keeps session rest mark (Tremove tag fid) keeps asks = clunk_keeps session rest fid (refusal tag 38) keeps
  to_keeps session rest mark (Tstat tag fid) keeps asks = beside_keeps rest (stat_answer outside session rest tag fid) (stat_keeps session rest tag fid keeps)
  to_keeps session rest mark (Twstat tag fid stat) keeps asks = beside_keeps rest (denied session fid) (after_step (λ d. Keeps d.session) (fid_of session fid) _ (λ _ _. tt))

  -- ---- what the bytes of a message leave

  replied_keeps : (session : Session) (rest : S) (tag : ℕ) (o : Outcome (Left S)) → Keeps session → KeepsLeft o → Keeps (replied session rest tag o).session
  replied_keeps session rest tag (Ok l) keeps is = is
  replied_keeps session rest tag (Err n) keeps is = keeps

  abbrev pub AsksIf : Session → S → Option T → Type 0
  AsksIf session rest None = Unit {0}
  AsksIf session rest (Some m) = (not (is_version m) && (tag_of_t m == no_tag)) ≡ false → (not (is_version m) && not session.agreed) ≡ false → Asks session rest m

  or_keeps : (session : Session) (rest : S) (mark : Option ℕ) (m : Option T) → Keeps session → AsksIf session rest m → KeepsLeft (read_or_not outside session rest mark m)
  unfolding answer_read
  or_keeps session rest mark None keeps asks = tt
  or_keeps session rest mark (Some m) keeps asks =
      after_step (λ l. Keeps l.session) (refuse_if (not (is_version m) && (tag_of_t m == no_tag)) 30) _ (λ u tagged.
      after_step (λ l. Keeps l.session) (refuse_if (not (is_version m) && not session.agreed) 31) _ (λ v agreed.
      to_keeps session rest mark m keeps (asks (not_refused (not (is_version m) && (tag_of_t m == no_tag)) 30 u tagged) (not_refused (not (is_version m) && not session.agreed) 31 v agreed))))

  pub answer_keeps : (session : Session) (rest : S) (bytes : List ℕ) (mark : Option ℕ) → Keeps session → (taking session bytes ≡ Reads → AsksIf session rest (message_of bytes)) → Keeps (answer outside session rest bytes mark).session
  unfolding answer
  answer_keeps session rest bytes mark keeps asks = by (taking session bytes) asks
    where
      by : (how : Taking) → (how ≡ Reads → AsksIf session rest (message_of bytes)) → Keeps (taken outside session rest bytes mark how).session
      by Ignored asks = keeps
      by TooLong asks = keeps
      by Closes asks = (let gone = cleared_keeps session rest keeps in record { fids = gone.fids; connections = gone.connections })
      by Reads asks = replied_keeps session rest (tag_of bytes) (read_or_not outside session rest mark (message_of bytes)) keeps (or_keeps session rest mark (message_of bytes) keeps (asks refl))

  -- ---- late answers

  late_mine : (session : Session) (rest : S) (tag : ℕ) (wait : Wait) (o : Outcome Fid) (later : Option (Left S)) → Keeps session → IfOk o (IsMineFid own) → IfSome later (λ l. Keeps l.session)
      → IfSome (answered_or session rest tag wait (given_or_refused outside rest wait.count o) later) (λ l. Keeps l.session)
  late_mine session rest tag wait (Err n) later keeps mine more = keeps
  late_mine session rest tag wait (Ok fid) later keeps mine more = by (given_now outside rest fid wait.count fid.node.kind) (given_mine rest fid wait.count fid.node.kind mine)
    where
      by : (o : Option (Given S)) → IfSome o (λ got. IsMineFid own got.fid) → IfSome (answered_or session rest tag wait (option_map Ok o) later) (λ l. Keeps l.session)
      by None given = more
      by (Some got) given = record { fids = all-with (IsMineFid own) session.fids wait.fid got.fid keeps.fids given; connections = keeps.connections }

  awaited_mine : (session : Session) (rest : S) (wait : Wait) → Keeps session → IfOk (awaited outside session rest wait) (IsMineFid own)
  awaited_mine session rest wait keeps =
      after_step (IsMineFid own) (fid_of session wait.fid) _ (λ fid is.
      after_step (IsMineFid own) (check_live (outside.view rest session.connections fid.node) fid.node) _ (λ _ _. bound_mine session keeps wait.fid fid is))

  first_mine : (session : Session) (rest : S) (before after : List (ℕ × Wait)) → Keeps session → IfSome (first_of outside session rest before after) (λ l. Keeps l.session)
  unfolding first_of wait_answer
  first_mine session rest before [] keeps = tt
  first_mine session rest before ((tag, wait) ∷ after) keeps =
      late_mine (record session { waiting = before ++ after }) rest tag wait (awaited outside session rest wait) _ (record { fids = keeps.fids; connections = keeps.connections })
      (awaited_mine session rest wait keeps) (first_mine session rest (before ++ (tag, wait) ∷ []) after keeps)

  pub one_mine : (session : Session) (rest : S) (left : Left S) → Keeps session → one_answered outside session rest ≡ Some left → Keeps left.session
  one_mine session rest left keeps is = subst (λ (o : Option (Left S)). IfSome o (λ l. Keeps l.session)) is (first_mine session rest [] session.waiting keeps)
