-- The reply that refuses for want of memory, and no other reply, is that refusal.
use Rattle.std.proofs.Common.{◌≡◌, ℕ, Bool, true, false, eqb, List, [], ◌∷◌, Option, Some, None, Ok, Err, refl, arith}
use Rattle.std.specs.Prelude.{◌||◌, ◌&&◌, ◌==◌, codes, length, not, is_none, is_some, nat_le, nat_lt, if◌then◌else◌}
use Rattle.std.specs.Str.{bytes_eq}
use Rattle.std.proofs.lemmas.Bool.{eqb-true}
use Rattle.std.proofs.lemmas.Slice.Eq.{bytes_eq-Decides}
use Rattle.model_text.specs.text.Outcome.{Outcome, refuse_if}
use Rattle.model_text.specs.text.Map.{lookup}
use Rattle.model_files.specs.wire.Message.{T, Tversion, Tauth, Tattach, Tflush, Twalk, Topen, Tcreate, Tread, Twrite, Tclunk, Tremove, Tstat, Twstat, R, Rclunk, no_fid, no_tag, tag_of_t}
use Rattle.model_files.specs.declared.tree.Kind.TheVariants.{New}
use Rattle.model_files.specs.tree.Attach.{attach_of}
use Rattle.model_files.specs.tree.Node.{Node, is_directory, may, reads, writes}
use Rattle.model_files.specs.tree.Tree.{View, check_live, is_ended, is_gone, walk}
use Rattle.model_draw.specs.draw.World as draw
use Rattle.model_draw.specs.draw.Act.{no_memory}
use Rattle.model_world.specs.Session.{Session}
use Rattle.model_world.specs.Outside.{Outside}
use Rattle.model_world.specs.Refusal.{IsRefused, Refuses, draw_texts, file_texts, refusal, refusal_text, text_in}
use Rattle.model_world.specs.Fids.{Done, Left, beside, fid_of, is_bound, is_full, is_kind}
use Rattle.model_world.specs.Walking.{attach_answer, is_taken, most_made, open_answer, walk_answer, walk_ended, walk_on, walked}
use Rattle.model_world.specs.Reading.{Given, count_within, is_open_for, most_waiting, node_read, read_answer, read_ended}
use Rattle.model_world.specs.Writing.{file_written, write_answer}
use Rattle.model_world.specs.Answer.{answer_read, answer_to, asks_for_9p, clunk_answer, denied, is_version, read_or_not, stat_answer, version_answer}
pub use Rattle.model_world.proofs.Others.{IsOther}
use Rattle.model_world.proofs.Others.{IsTold, behind_known, behind_step, by_case, refused_by, value_by}
use Rattle.model_world.proofs.Kept.{IsMadeSame, KeepsConnections}
use Rattle.model_world.proofs.Files.{IsAfterSame, IsGivenSame, file_written_same, node_read_same}

-- ---- its text is that of no other number

-- no row but that of a number has the text
abbrev is_only_at : List ℕ → ℕ → List (ℕ × List ℕ) → Bool
is_only_at text k [] = true
is_only_at text k (row ∷ rows) = (eqb row.0 k || not (bytes_eq row.1 text)) && is_only_at text k rows

second : (a b : Bool) → (a && b) ≡ true → b ≡ true
second true b e = e
second false b e = cc e

of_row : (text : List ℕ) (k n : ℕ) (own : List ℕ) (rest : Bool) → ((eqb n k || not (bytes_eq own text)) && rest) ≡ true → own ≡ text → n ≡ k
of_row text k n own rest only same = by (eqb n k) (bytes_eq own text) rest refl ((bytes_eq-Decides own text).1 same) only
  where
    by : (a b c : Bool) → eqb n k ≡ a → b ≡ true → ((a || not b) && c) ≡ true → n ≡ k
    by true b c at is e = eqb-true n k at
    by false true c at is e = absurd cc
    by false false c at is e = absurd cc

number_of_text : (text : List ℕ) (k : ℕ) (rows : List (ℕ × List ℕ)) (n : ℕ) → is_only_at text k rows ≡ true → ([] ≡ text → ⊥) → text_in rows n ≡ text → n ≡ k
number_of_text text k [] n only some same = absurd (some same)
number_of_text text k (row ∷ rows) n only some same =
    by (eqb row.0 n) refl same (number_of_text text k rows n (second (eqb row.0 k || not (bytes_eq row.1 text)) (is_only_at text k rows) only) some)
  where
    by : (b : Bool) → eqb row.0 n ≡ b → (if b then row.1 else text_in rows n) ≡ text → (text_in rows n ≡ text → n ≡ k) → n ≡ k
    by true at own further =
        let is : row.0 ≡ n = eqb-true row.0 n at in
        let here : row.0 ≡ k = of_row text k row.0 row.1 (is_only_at text k rows) only own in
        omega (arith, is, here)
    by false at own further = further own

pub only_wanting : (n : ℕ) → refusal_text n ≡ refusal_text no_memory → n ≡ no_memory
unfolding refusal_text
only_wanting n same = by (nat_lt n 30) same
  where
    text : List ℕ
    text = codes "image memory allocation failed"

    by : (b : Bool) → (if b then text_in draw_texts n else text_in file_texts n) ≡ text → n ≡ no_memory
    by true own = number_of_text text no_memory draw_texts n refl (λ none. absurd (cc none)) own
    by false own = number_of_text text no_memory file_texts n refl (λ none. absurd (cc none)) own

-- so the refusal of another number is another
pub not_wanting : (tag n : ℕ) → (n ≡ no_memory → ⊥) → Refuses no_memory (refusal tag n) → ⊥
not_wanting tag n other same = other (only_wanting n same)

-- ---- what is refused, and why

fid_told : (session : Session) (number : ℕ) → IsTold (fid_of session number)
fid_told session number = value_by (lookup session.fids number) 32 (λ e. omega (arith, e))

live_told : (view : View) (node : Node) → IsTold (check_live view node)
unfolding check_live
live_told view node =
    behind_step _ (refuse_if (is_gone view node) 42) _ (refused_by _ 42 (λ e. omega (arith, e))) (λ _. refused_by (is_ended view node) 34 (λ e. omega (arith, e)))

-- ---- walks

step_told : (view : View) (node : Node) (name : List ℕ) → IsTold (walk view node name)
unfolding walk
step_told view node name =
    behind_step _ (check_live view node) _ (live_told view node) (λ _.
    behind_step _ (refuse_if (not (is_directory node)) 35) _ (refused_by _ 35 (λ e. omega (arith, e))) (λ _.
    by_case _ (bytes_eq name (codes "..")) _ _ tt (value_by _ 34 (λ e. omega (arith, e)))))

abbrev IsOtherEnd : Option ℕ → Type 0
IsOtherEnd None = Unit {0}
IsOtherEnd (Some n) = n ≡ no_memory → ⊥

walked_on : (o : Outcome Node) (further : Node → List Node × Option ℕ) → IsTold o → ((next : Node) → IsOtherEnd (further next).1) → IsOtherEnd (walk_on o further).1
walked_on (Ok next) further other more = more next
walked_on (Err n) further other more = other

walked_told : (view : Node → View) (node : Node) (names : List (List ℕ)) → IsOtherEnd (walked view node names).1
walked_told view node [] = tt
walked_told view node (name ∷ names) = walked_on (walk (view node) node name) (λ next. walked view next names) (step_told (view node) node name) (λ next. walked_told view next names)

-- ---- replies that are others

abbrev pub Spares : {S : Type 0} → Left S → Type 0
Spares after = IsRefused no_memory after.reply → ⊥

abbrev SparesDone : Done → Type 0
SparesDone done = Refuses no_memory done.reply → ⊥

beside_spares : {S : Type 0} (rest : S) (o : Outcome Done) → IsOther SparesDone o → IsOther Spares (beside rest o)
beside_spares rest (Ok done) other = other
beside_spares rest (Err n) other = other

either_spares : {S : Type 0} (b : Bool) (x y : Left S) → Spares x → Spares y → Spares (if b then x else y)
either_spares true x y is other = is
either_spares false x y is other = other

ended_spares : (session : Session) (tag fid newfid : ℕ) (node : Node) (nodes : List Node) (o : Option ℕ) → IsOtherEnd o → IsOther SparesDone (walk_ended session tag fid newfid node (nodes, o))
ended_spares session tag fid newfid node nodes None other = λ none. none
ended_spares session tag fid newfid node [] (Some n) other = other
ended_spares session tag fid newfid node (next ∷ nodes) (Some n) other = λ none. none

-- the reply to what is no write is another
abbrev pub SparesOf : {S : Type 0} → T → Left S → Type 0
SparesOf (Twrite tag fid offset bytes) after = Unit {0}
SparesOf m after = Spares after

module _ {S : Type 0} (c : ℕ) (outside : Outside S) (device : S → draw.World) (keeps : KeepsConnections c outside device) where
  version_spares : (session : Session) (rest : S) (tag msize : ℕ) (version : List ℕ) → IsOther Spares (version_answer outside session rest tag msize version)
  unfolding version_answer
  version_spares session rest tag msize version =
      behind_step _ (refuse_if (nat_lt msize 256) 48) _ (refused_by _ 48 (λ e. omega (arith, e))) (λ _. either_spares (asks_for_9p version) _ _ (λ none. none) (λ none. none))

  attach_spares : (session : Session) (rest : S) (tag fid afid : ℕ) (aname : List ℕ) → IsOther Spares (attach_answer outside session rest tag fid afid aname)
  unfolding attach_answer
  attach_spares session rest tag fid afid aname =
      behind_step _ (refuse_if (not (afid == no_fid)) 40) _ (refused_by _ 40 (λ e. omega (arith, e))) (λ _.
      behind_step _ (refuse_if (is_bound session fid) 33) _ (refused_by _ 33 (λ e. omega (arith, e))) (λ _.
      behind_step _ (refuse_if (is_full session) 44) _ (refused_by _ 44 (λ e. omega (arith, e))) (λ _.
      behind_known _ (IsMadeSame c outside device rest) (outside.attached rest (attach_of aname)) _ (keeps.attached rest (attach_of aname)) (λ _ _. λ none. none))))

  walk_spares : (session : Session) (rest : S) (tag fid newfid : ℕ) (names : List (List ℕ)) → IsOther SparesDone (walk_answer outside session rest tag fid newfid names)
  unfolding walk_answer
  walk_spares session rest tag fid newfid names =
      let view = outside.view rest session.connections in
      behind_step _ (fid_of session fid) _ (fid_told session fid) (λ from.
      behind_step _ (refuse_if (is_some from.mode) 36) _ (refused_by _ 36 (λ e. omega (arith, e))) (λ _.
      behind_step _ (refuse_if (not (newfid == fid) && is_bound session newfid) 33) _ (refused_by _ 33 (λ e. omega (arith, e))) (λ _.
      behind_step _ (refuse_if (not (newfid == fid) && is_full session) 44) _ (refused_by _ 44 (λ e. omega (arith, e))) (λ _.
      ended_spares session tag fid newfid from.node (walked view from.node names).0 (walked view from.node names).1 (walked_told view from.node names)))))

  open_spares : (session : Session) (rest : S) (tag number mode : ℕ) → IsOther Spares (open_answer outside session rest tag number mode)
  unfolding open_answer
  open_spares session rest tag number mode =
      behind_step _ (fid_of session number) _ (fid_told session number) (λ fid.
      behind_step _ (refuse_if (is_some fid.mode) 36) _ (refused_by _ 36 (λ e. omega (arith, e))) (λ _.
      behind_step _ (check_live (outside.view rest session.connections fid.node) fid.node) _ (live_told (outside.view rest session.connections fid.node) fid.node) (λ _.
      behind_step _ (refuse_if (not (may fid.node mode)) 38) _ (refused_by _ 38 (λ e. omega (arith, e))) (λ _.
      behind_step _ (refuse_if (is_taken outside session rest fid.node) 43) _ (refused_by _ 43 (λ e. omega (arith, e))) (λ _.
      behind_step _ (refuse_if (is_kind New fid.node.kind && nat_le most_made session.made) 44) _ (refused_by _ 44 (λ e. omega (arith, e))) (λ _.
      either_spares (is_kind New fid.node.kind) _ _ (λ none. none) (λ none. none)))))))

  stat_spares : (session : Session) (rest : S) (tag number : ℕ) → IsOther SparesDone (stat_answer outside session rest tag number)
  unfolding stat_answer
  stat_spares session rest tag number =
      behind_step _ (fid_of session number) _ (fid_told session number) (λ fid.
      behind_step _ (check_live (outside.view rest session.connections fid.node) fid.node) _ (live_told (outside.view rest session.connections fid.node) fid.node) (λ _. λ none. none))

  denied_spares : (session : Session) (number : ℕ) → IsOther SparesDone (denied session number)
  denied_spares session number = behind_step _ (fid_of session number) _ (fid_told session number) (λ _. λ e. omega (arith, e))

  clunk_spares : (session : Session) (rest : S) (number : ℕ) (reply : R) → (Refuses no_memory reply → ⊥) → IsOther Spares (clunk_answer outside session rest number reply)
  unfolding clunk_answer
  clunk_spares session rest number reply other = behind_step _ (fid_of session number) _ (fid_told session number) (λ _. other)

  -- ---- reads and writes

  end_spares : (session : Session) (rest : S) (tag number count : ℕ) (got : Option (Given S)) → IsOther Spares (read_ended session rest tag number count got)
  end_spares session rest tag number count (Some got) = λ none. none
  end_spares session rest tag number count None =
      behind_step _ (refuse_if (nat_le most_waiting (length session.waiting)) 45) _ (refused_by _ 45 (λ e. omega (arith, e))) (λ _. λ none. none)

  read_spares : (session : Session) (rest : S) (tag number offset count : ℕ) → IsOther Spares (read_answer outside session rest tag number offset count)
  unfolding read_answer
  read_spares session rest tag number offset count =
      behind_step _ (fid_of session number) _ (fid_told session number) (λ fid.
      behind_step _ (refuse_if (is_none fid.mode) 37) _ (refused_by _ 37 (λ e. omega (arith, e))) (λ _.
      behind_step _ (refuse_if (not (is_open_for reads fid)) 38) _ (refused_by _ 38 (λ e. omega (arith, e))) (λ _.
      behind_step _ (check_live (outside.view rest session.connections fid.node) fid.node) _ (live_told (outside.view rest session.connections fid.node) fid.node) (λ _.
      behind_known _ (IsGivenSame c outside device keeps rest) (node_read outside session.connections rest fid offset (count_within session count)) _
      (node_read_same c outside device keeps session.connections rest fid offset (count_within session count)) (λ got _. end_spares session rest tag number (count_within session count) got)))))

  write_told : (session : Session) (rest : S) (tag number offset : ℕ) (bytes : List ℕ) (mark : Option ℕ) → IsTold (write_answer outside session rest tag number offset bytes mark)
  unfolding write_answer
  write_told session rest tag number offset bytes mark =
      behind_step _ (fid_of session number) _ (fid_told session number) (λ fid.
      behind_step _ (refuse_if (is_none fid.mode) 37) _ (refused_by _ 37 (λ e. omega (arith, e))) (λ _.
      behind_step _ (refuse_if (not (is_open_for writes fid)) 38) _ (refused_by _ 38 (λ e. omega (arith, e))) (λ _.
      behind_step _ (check_live (outside.view rest session.connections fid.node) fid.node) _ (live_told (outside.view rest session.connections fid.node) fid.node) (λ _.
      behind_known _ (IsAfterSame c outside device keeps rest) (file_written outside rest fid.node offset bytes mark fid.node.kind) _
      (file_written_same c outside device keeps rest fid.node offset bytes mark fid.node.kind) (λ _ _. tt)))))

  -- ---- each message

  pub answer_spares : (session : Session) (rest : S) (mark : Option ℕ) (m : T) → IsOther (SparesOf m) (answer_to outside session rest mark m)
  answer_spares session rest mark (Tversion tag msize version) = version_spares session rest tag msize version
  answer_spares session rest mark (Tauth tag afid uname aname) = λ e. omega (arith, e)
  answer_spares session rest mark (Tattach tag fid afid uname aname) = attach_spares session rest tag fid afid aname
  answer_spares session rest mark (Tflush tag oldtag) = λ none. none
  answer_spares session rest mark (Twalk tag fid newfid names) = beside_spares rest _ (walk_spares session rest tag fid newfid names)
  answer_spares session rest mark (Topen tag fid mode) = open_spares session rest tag fid mode
  answer_spares session rest mark (Tcreate tag fid name perm mode) = beside_spares rest _ (denied_spares session fid)
  answer_spares session rest mark (Tread tag fid offset count) = read_spares session rest tag fid offset count
  answer_spares session rest mark (Twrite tag fid offset bytes) = write_told session rest tag fid offset bytes mark
  answer_spares session rest mark (Tclunk tag fid) = clunk_spares session rest fid (Rclunk tag) (λ none. none)
  answer_spares session rest mark (Tremove tag fid) = clunk_spares session rest fid (refusal tag 38) (not_wanting tag 38 (λ e. omega (arith, e)))
  answer_spares session rest mark (Tstat tag fid) = beside_spares rest _ (stat_spares session rest tag fid)
  answer_spares session rest mark (Twstat tag fid stat) = beside_spares rest _ (denied_spares session fid)

  read_told : (session : Session) (rest : S) (mark : Option ℕ) (m : T) → IsOther (SparesOf m) (answer_read outside session rest mark m)
  unfolding answer_read
  read_told session rest mark m =
      behind_step _ (refuse_if (not (is_version m) && (tag_of_t m == no_tag)) 30) _ (refused_by _ 30 (λ e. omega (arith, e))) (λ _.
      behind_step _ (refuse_if (not (is_version m) && not session.agreed) 31) _ (refused_by _ 31 (λ e. omega (arith, e))) (λ _. answer_spares session rest mark m))

  other_of : (m : T) (o : Outcome (Left S)) (n : ℕ) → IsOther (SparesOf m) o → o ≡ Err n → n ≡ no_memory → ⊥
  other_of m (Ok x) n other is = absurd cc
  other_of m (Err k) n other is = let at : k ≡ n = cc in λ same. other (omega (arith, at, same))

  -- no message is refused for want of memory, but by the reply to a write
  pub refused_otherwise : (session : Session) (rest : S) (mark : Option ℕ) (o : Option T) (n : ℕ) → read_or_not outside session rest mark o ≡ Err n → n ≡ no_memory → ⊥
  refused_otherwise session rest mark None n is = let at : 30 ≡ n = cc in λ same. omega (arith, at, same)
  refused_otherwise session rest mark (Some m) n is = other_of m (answer_read outside session rest mark m) n (read_told session rest mark m) is
