-- What a session answers leaves the draw device with its connections.
use Rattle.std.proofs.Common.{◌≡◌, ◌<◌, ◌+◌, ◌&&◌, ℕ, Bool, true, false, not, List, [], ◌∷◌, ◌++◌, Option, Some, None, Ok, Err, refl, sym, ap, subst, ◌∙◌, arith}
use Rattle.std.specs.Prelude.{filter, map, is_none, is_some, nat_le, nat_lt, min, length, codes, IfOk, if◌then◌else◌, ◌==◌}
use Rattle.std.specs.List.{fold}
use Rattle.std.specs.Option.{option_map}
use Rattle.std.proofs.lemmas.Grind.{common_steps}
use Rattle.std.proofs.lemmas.Bool.Decides.{nat_tests}
use Rattle.model_text.specs.text.Outcome.{Outcome, ◌>>=◌, refuse_if}
use Rattle.model_text.specs.text.Map.{without}
use Rattle.model_files.specs.wire.Message.{T, Rversion, Ropen, Rclunk, Tversion, Tauth, Tattach, Tflush, Twalk, Topen, Tcreate, Tread, Twrite, Tclunk, Tremove, Tstat, Twstat, R, no_fid, no_tag, tag_of_t}
use Rattle.model_files.specs.wire.Reading.{message_of, tag_of}
use Rattle.model_files.specs.declared.tree.Kind.TheVariants.{New}
use Rattle.model_files.specs.tree.Attach.{attach_of}
use Rattle.model_files.specs.tree.Node.{Node, qid, may, reads, writes}
use Rattle.model_files.specs.tree.Tree.{check_live}
use Rattle.model_draw.specs.draw.World as draw
use Rattle.model_world.specs.Session.{Fid, Session, Wait, max_msize}
use Rattle.model_world.specs.Outside.{Outside}
use Rattle.model_world.specs.Refusal.{refusal}
use Rattle.model_world.specs.Fids.{with_fid, with_held, let_go, Done, Left, left, beside, fid_of, fids_gone, is_bound, is_full, is_kind, is_kept, left_by, settled, cleared}
use Rattle.model_world.specs.Walking.{attach_answer, walk_answer, walk_ended, open_answer, opened, opened_new, is_taken, most_made}
use Rattle.model_world.specs.Reading.{Given, count_within, given_now, is_open_for, most_waiting, node_read, read_answer, read_ended}
use Rattle.model_world.specs.Writing.{file_written, write_answer}
use Rattle.model_world.specs.Waiting.{answered_or, awaited, first_of, given_or_refused, one_answered, wait_answer}
use Rattle.model_world.specs.Answer.{Taking, Ignored, TooLong, Closes, Reads, taken, taking, asks_for_9p, agreed_on, version_answer, clunk_answer, stat_answer, denied, answer_to, answer_read, is_version, read_or_not, replied, answer}
use Rattle.model_world.specs.Links.{IsLinked, KeepsOthers}
use Rattle.model_world.proofs.Others.{after_known, after_step}
use Rattle.model_world.proofs.Connections.{numbers_of}
use Rattle.model_world.proofs.Links.{begun_linked, begun_others, filter_none, kept_linked, kept_others, same_linked, same_others, within_filter}
use Rattle.model_world.proofs.Kept.{IsMadeSame, IsSame, KeepsConnections, all_let_go_same, device_left, held_same}
use Rattle.model_world.proofs.Files.{IsAfterSame, IsGivenSame, file_written_same, given_now_same, node_read_same}

module _ {S : Type 0} (c : ℕ) (outside : Outside S) (device : S → draw.World) (keeps : KeepsConnections c outside device) where
  -- the device has the session's connections still, and those of the others
  pub record Holds (rest : S) (l : Left S) : Type 0 where
    pub linked : IsLinked c l.session.made l.session.connections (device l.rest)
    pub others : KeepsOthers c (device rest) (device l.rest)

  abbrev pub HoldsIf : S → Outcome (Left S) → Type 0
  HoldsIf rest o = IfOk o (λ l. Holds rest l)

  abbrev pub HoldsSome : S → Option (Left S) → Type 0
  HoldsSome rest (Some l) = Holds rest l
  HoldsSome rest None = Unit {0}

  -- the session has the same connections, and the device too
  abbrev Stays : Session → S → Left S → Type 0
  Stays session rest l =
      (l.session.made ≡ session.made) × (l.session.connections ≡ session.connections) × (numbers_of (device l.rest) ≡ numbers_of (device rest))

  abbrev StaysIf : Session → S → Outcome (Left S) → Type 0
  StaysIf session rest o = IfOk o (λ l. Stays session rest l)

  abbrev StaysAlone : Session → Outcome Done → Type 0
  StaysAlone session (Ok d) = (d.session.made ≡ session.made) × (d.session.connections ≡ session.connections)
  StaysAlone session (Err n) = Unit {0}

  stayed : (session : Session) (rest : S) (o : Outcome (Left S)) → IsLinked c session.made session.connections (device rest) → StaysIf session rest o → HoldsIf rest o
  stayed session rest (Ok l) linked stays = record {
    linked = subst (λ (made : ℕ). IsLinked c made l.session.connections (device l.rest)) (sym stays.0)
        (subst (λ (connections : List ℕ). IsLinked c session.made connections (device l.rest)) (sym stays.1) (same_linked c session.made session.connections (device rest) (device l.rest) stays.2 linked));
    others = same_others c (device rest) (device l.rest) stays.2;
  }
  stayed session rest (Err n) linked stays = tt

  beside_stays : (session : Session) (rest : S) (o : Outcome Done) → StaysAlone session o → StaysIf session rest (beside rest o)
  beside_stays session rest (Ok d) stays = (stays.0, stays.1, refl)
  beside_stays session rest (Err n) stays = tt

  -- ---- messages that stay within their session

  ended_stays : (session : Session) (tag fid newfid : ℕ) (node : Node) (o : List Node × Option ℕ) → StaysAlone session (walk_ended session tag fid newfid node o)
  ended_stays session tag fid newfid node (nodes, None) =
      elim (newfid == fid) as (λ b. StaysAlone session (walk_ended session tag fid newfid node (nodes, None))) [ true ↦ grind (arith, common_steps) | false ↦ grind (arith, common_steps) ]
  ended_stays session tag fid newfid node ([], Some n) = tt
  ended_stays session tag fid newfid node (next ∷ nodes, Some n) = (refl, refl)

  walk_stays : (session : Session) (rest : S) (tag fid newfid : ℕ) (names : List (List ℕ)) → StaysAlone session (walk_answer outside session rest tag fid newfid names)
  unfolding walk_answer
  walk_stays session rest tag fid newfid names = grind (arith, common_steps, ended_stays)

  stat_stays : (session : Session) (rest : S) (tag fid : ℕ) → StaysAlone session (stat_answer outside session rest tag fid)
  unfolding stat_answer
  stat_stays session rest tag fid = grind (arith, common_steps)

  denied_stays : (session : Session) (fid : ℕ) → StaysAlone session (denied session fid)
  denied_stays session fid = grind (arith, common_steps)

  -- ---- attaches, reads and writes

  attach_stays : (session : Session) (rest : S) (tag fid afid : ℕ) (aname : List ℕ) → StaysIf session rest (attach_answer outside session rest tag fid afid aname)
  unfolding attach_answer
  attach_stays session rest tag fid afid aname =
      after_step _ (refuse_if (not (afid == no_fid)) 40) _ (λ _ _.
      after_step _ (refuse_if (is_bound session fid) 33) _ (λ _ _.
      after_step _ (refuse_if (is_full session) 44) _ (λ _ _.
      after_known _ (IsMadeSame c outside device rest) (outside.attached rest (attach_of aname)) _ (keeps.attached rest (attach_of aname)) (λ root same. (refl, refl, same)))))

  end_stays : (session : Session) (rest : S) (tag number count : ℕ) (got : Option (Given S)) → IsGivenSame c outside device keeps rest got → StaysIf session rest (read_ended session rest tag number count got)
  end_stays session rest tag number count (Some got) same = (refl, refl, same)
  end_stays session rest tag number count None same = after_step _ (refuse_if (nat_le most_waiting (length session.waiting)) 45) _ (λ _ _. (refl, refl, refl))

  read_stays : (session : Session) (rest : S) (tag number offset count : ℕ) → StaysIf session rest (read_answer outside session rest tag number offset count)
  unfolding read_answer
  read_stays session rest tag number offset count =
      after_step _ (fid_of session number) _ (λ fid _.
      after_step _ (refuse_if (is_none fid.mode) 37) _ (λ _ _.
      after_step _ (refuse_if (not (is_open_for reads fid)) 38) _ (λ _ _.
      after_step _ (check_live (outside.view rest session.connections fid.node) fid.node) _ (λ _ _.
      after_known _ (IsGivenSame c outside device keeps rest) (node_read outside session.connections rest fid offset (count_within session count)) _
      (node_read_same c outside device keeps session.connections rest fid offset (count_within session count)) (λ got same. end_stays session rest tag number (count_within session count) got same)))))

  write_stays : (session : Session) (rest : S) (tag number offset : ℕ) (bytes : List ℕ) (mark : Option ℕ)
      → StaysIf session rest (write_answer outside session rest tag number offset bytes mark)
  unfolding write_answer
  write_stays session rest tag number offset bytes mark =
      after_step _ (fid_of session number) _ (λ fid _.
      after_step _ (refuse_if (is_none fid.mode) 37) _ (λ _ _.
      after_step _ (refuse_if (not (is_open_for writes fid)) 38) _ (λ _ _.
      after_step _ (check_live (outside.view rest session.connections fid.node) fid.node) _ (λ _ _.
      after_known _ (IsAfterSame c outside device keeps rest) (file_written outside rest fid.node offset bytes mark fid.node.kind) _
      (file_written_same c outside device keeps rest fid.node offset bytes mark fid.node.kind) (λ after same. (refl, refl, same))))))

  -- ---- fids go

  -- the device has the connections that a session still has, and those of the others
  abbrev pub AreLeft : S → Session × S → Type 0
  AreLeft rest after = IsLinked c after.0.made after.0.connections (device after.1) × KeepsOthers c (device rest) (device after.1)

  pub settled_holds : (session : Session) (rest : S) → IsLinked c session.made session.connections (device rest) → AreLeft rest (settled outside session rest)
  unfolding settled
  settled_holds session rest linked =
      let gone = filter (λ k. not (is_kept session k)) session.connections in
      let is = sym (device_left c outside device keeps gone rest) in (
        subst (λ (d : draw.World). IsLinked c session.made (filter (is_kept session) session.connections) d) is
            (kept_linked c session.made session.connections (device rest) (is_kept session) linked),
        subst (λ (d : draw.World). KeepsOthers c (device rest) d) is
            (kept_others c session.made session.connections gone (device rest) linked (within_filter (λ k. not (is_kept session k)) session.made session.connections linked.counted.within)),
      )

  pub gone_holds : (session : Session) (rest : S) (gone : List Fid) → IsLinked c session.made session.connections (device rest)
      → AreLeft rest (fids_gone outside session rest gone)
  unfolding fids_gone
  gone_holds session rest gone linked =
      let ended = settled outside session rest in
      let holds = settled_holds session rest linked in
      let windows = left_by ended.0 gone in
      let let_all : S = fold (let_go outside) ended.1 gone in
      let after : S = outside.left let_all windows in
      let same : IsSame c outside device ended.1 after = keeps.left let_all windows ∙ all_let_go_same c outside device keeps gone ended.1 in (
        same_linked c ended.0.made ended.0.connections (device ended.1) (device after) same holds.0,
        λ k other. same_others c (device ended.1) (device after) same k other ∙ holds.1 k other,
      )

  clunk_holds : (session : Session) (rest : S) (number : ℕ) (reply : R) → IsLinked c session.made session.connections (device rest)
      → HoldsIf rest (clunk_answer outside session rest number reply)
  unfolding clunk_answer
  clunk_holds session rest number reply linked =
      after_step _ (fid_of session number) _ (λ fid _.
      let holds = gone_holds (record session { fids = without session.fids number }) rest (fid ∷ []) linked in record { linked = holds.0; others = holds.1 })

  -- ---- all fids go

  none_kept : (session : Session) (rest : S) → (cleared outside session rest).0.connections ≡ []
  unfolding fids_gone settled
  none_kept session rest = filter_none session.connections

  made_still : (session : Session) (rest : S) → (cleared outside session rest).0.made ≡ session.made
  unfolding fids_gone settled
  made_still session rest = refl

  -- the device has no connection of the session any more
  pub cleared_left : (session : Session) (rest : S) → IsLinked c session.made session.connections (device rest)
      → IsLinked c session.made [] (device (cleared outside session rest).1) × KeepsOthers c (device rest) (device (cleared outside session rest).1)
  cleared_left session rest linked =
      let after = cleared outside session rest in
      let holds = gone_holds (record session { fids = []; waiting = [] }) rest (map (λ entry. entry.1) session.fids) linked in (
        subst (λ (connections : List ℕ). IsLinked c session.made connections (device after.1)) (none_kept session rest)
            (subst (λ (made : ℕ). IsLinked c made after.0.connections (device after.1)) (made_still session rest) holds.0),
        holds.1,
      )

  agreed_holds : (tag msize : ℕ) (version : List ℕ) (rest : S) (after : Session × S) → AreLeft rest after → Holds rest (agreed_on tag msize version after)
  agreed_holds tag msize version rest after holds =
      elim (asks_for_9p version) as (λ b. Holds rest (
      if b
      then left (record after.0 { msize = min msize max_msize; agreed = true }, after.1) (Rversion tag (min msize max_msize) (codes "9P2000"))
      else left (record after.0 { msize = max_msize; agreed = false }, after.1) (Rversion tag (min msize max_msize) (codes "unknown"))
      )) [
        | true ↦ record { linked = holds.0; others = holds.1 }
        | false ↦ record { linked = holds.0; others = holds.1 }
      ]

  version_holds : (session : Session) (rest : S) (tag msize : ℕ) (version : List ℕ) → IsLinked c session.made session.connections (device rest)
      → HoldsIf rest (version_answer outside session rest tag msize version)
  unfolding version_answer
  version_holds session rest tag msize version linked =
      after_step _ (refuse_if (nat_lt msize 256) 48) _ (λ _ _.
      agreed_holds tag msize version rest (cleared outside session rest)
      (gone_holds (record session { fids = []; waiting = [] }) rest (map (λ entry. entry.1) session.fids) linked))

  -- ---- an open

  opened_holds : (session : Session) (rest : S) (tag number mode : ℕ) (fid : Fid) → IsLinked c session.made session.connections (device rest)
      → (is_kind New fid.node.kind && nat_le most_made session.made) ≡ false → Holds rest (opened outside session rest tag number mode fid)
  opened_holds session rest tag number mode fid linked room = by (is_kind New fid.node.kind) refl
    where
      by : (b : Bool) → is_kind New fid.node.kind ≡ b → Holds rest (
          if b then opened_new outside session rest tag number mode fid
          else left (with_fid session number (record fid { mode = Some mode }), with_held outside true rest fid.node) (Ropen tag (qid fid.node) 0)
          )
      by true at =
          let more : nat_le most_made session.made ≡ false = ap (λ (b : Bool). b && nat_le most_made session.made) (sym at) ∙ room in
          let few : session.made < most_made = grind (arith, nat_tests) in
          let begun = keeps.connect rest (session.made + 1) in
          record {
            linked = subst (λ (d : draw.World). IsLinked c (session.made + 1) (session.connections ++ (session.made + 1) ∷ []) d) (sym begun) (begun_linked c session.made session.connections (device rest) (omega arith) linked);
            others = subst (λ (d : draw.World). KeepsOthers c (device rest) d) (sym begun) (begun_others c (session.made + 1) (device rest) (omega arith));
          }
      by false at =
          let after = with_held outside true rest fid.node in
          let same = held_same c outside device keeps true rest fid.node in
          record {
            linked = same_linked c session.made session.connections (device rest) (device after) same linked;
            others = same_others c (device rest) (device after) same;
          }

  not_refused : (b : Bool) → refuse_if b 44 ≡ Ok tt → b ≡ false
  not_refused true e = absurd (cc e)
  not_refused false e = refl

  open_holds : (session : Session) (rest : S) (tag number mode : ℕ) → IsLinked c session.made session.connections (device rest)
      → HoldsIf rest (open_answer outside session rest tag number mode)
  unfolding open_answer
  open_holds session rest tag number mode linked =
      after_step _ (fid_of session number) _ (λ fid _.
      after_step _ (refuse_if (is_some fid.mode) 36) _ (λ _ _.
      after_step _ (check_live (outside.view rest session.connections fid.node) fid.node) _ (λ _ _.
      after_step _ (refuse_if (not (may fid.node mode)) 38) _ (λ _ _.
      after_step _ (refuse_if (is_taken outside session rest fid.node) 43) _ (λ _ _.
      after_step _ (refuse_if (is_kind New fid.node.kind && nat_le most_made session.made) 44) _ (λ _ at.
      opened_holds session rest tag number mode fid linked (not_refused _ at)))))))

  -- ---- each message

  answer_to_holds : (session : Session) (rest : S) (mark : Option ℕ) (m : T) → IsLinked c session.made session.connections (device rest)
      → HoldsIf rest (answer_to outside session rest mark m)
  answer_to_holds session rest mark (Tversion tag msize version) linked = version_holds session rest tag msize version linked
  answer_to_holds session rest mark (Tauth tag afid uname aname) linked = tt
  answer_to_holds session rest mark (Tattach tag fid afid uname aname) linked =
      stayed session rest (attach_answer outside session rest tag fid afid aname) linked (attach_stays session rest tag fid afid aname)
  answer_to_holds session rest mark (Tflush tag oldtag) linked = record { linked = linked; others = λ k other. refl }
  answer_to_holds session rest mark (Twalk tag fid newfid names) linked =
      stayed session rest (beside rest (walk_answer outside session rest tag fid newfid names)) linked (beside_stays session rest (walk_answer outside session rest tag fid newfid names) (walk_stays session rest tag fid newfid names))
  answer_to_holds session rest mark (Topen tag fid mode) linked = open_holds session rest tag fid mode linked
  answer_to_holds session rest mark (Tcreate tag fid name perm mode) linked =
      stayed session rest (beside rest (denied session fid)) linked (beside_stays session rest (denied session fid) (denied_stays session fid))
  answer_to_holds session rest mark (Tread tag fid offset count) linked =
      stayed session rest (read_answer outside session rest tag fid offset count) linked (read_stays session rest tag fid offset count)
  answer_to_holds session rest mark (Twrite tag fid offset bytes) linked =
      stayed session rest (write_answer outside session rest tag fid offset bytes mark) linked (write_stays session rest tag fid offset bytes mark)
  answer_to_holds session rest mark (Tclunk tag fid) linked = clunk_holds session rest fid (Rclunk tag) linked
  answer_to_holds session rest mark (Tremove tag fid) linked = clunk_holds session rest fid (refusal tag 38) linked
  answer_to_holds session rest mark (Tstat tag fid) linked =
      stayed session rest (beside rest (stat_answer outside session rest tag fid)) linked (beside_stays session rest (stat_answer outside session rest tag fid) (stat_stays session rest tag fid))
  answer_to_holds session rest mark (Twstat tag fid stat) linked =
      stayed session rest (beside rest (denied session fid)) linked (beside_stays session rest (denied session fid) (denied_stays session fid))

  guarded : (rest : S) (a b : Outcome (Unit {0})) (o : Outcome (Left S)) → HoldsIf rest o → HoldsIf rest (a >>= λ _. b >>= λ _. o)
  guarded rest (Ok _) (Ok _) o holds = holds
  guarded rest (Ok _) (Err n) o holds = tt
  guarded rest (Err n) b o holds = tt

  read_holds : (session : Session) (rest : S) (mark : Option ℕ) (m : T) → IsLinked c session.made session.connections (device rest)
      → HoldsIf rest (answer_read outside session rest mark m)
  unfolding answer_read
  read_holds session rest mark m linked =
      guarded rest
      (refuse_if (not (is_version m) && (tag_of_t m == no_tag)) 30)
      (refuse_if (not (is_version m) && not session.agreed) 31)
      (answer_to outside session rest mark m)
      (answer_to_holds session rest mark m linked)

  read_or_not_holds : (session : Session) (rest : S) (mark : Option ℕ) (m : Option T) → IsLinked c session.made session.connections (device rest)
      → HoldsIf rest (read_or_not outside session rest mark m)
  read_or_not_holds session rest mark None linked = tt
  read_or_not_holds session rest mark (Some m) linked = read_holds session rest mark m linked

  pub read_leaves : (session : Session) (rest : S) (mark : Option ℕ) (m : Option T) (l : Left S) → IsLinked c session.made session.connections (device rest)
      → read_or_not outside session rest mark m ≡ Ok l → Holds rest l
  read_leaves session rest mark m l linked is = subst (λ (o : Outcome (Left S)). HoldsIf rest o) is (read_or_not_holds session rest mark m linked)

  replied_holds : (session : Session) (rest : S) (tag : ℕ) (o : Outcome (Left S)) → IsLinked c session.made session.connections (device rest) → HoldsIf rest o
      → Holds rest (replied session rest tag o)
  replied_holds session rest tag (Ok l) linked holds = holds
  replied_holds session rest tag (Err n) linked holds = record { linked = linked; others = λ k other. refl }

  pub answer_holds : (session : Session) (rest : S) (bytes : List ℕ) (mark : Option ℕ) → IsLinked c session.made session.connections (device rest)
      → Holds rest (answer outside session rest bytes mark)
  unfolding answer
  answer_holds session rest bytes mark linked =
      by (taking session bytes)
    where
      by : (t : Taking) → Holds rest (taken outside session rest bytes mark t)
      by Ignored = record { linked = linked; others = λ k other. refl }
      by TooLong = record { linked = linked; others = λ k other. refl }
      by Closes =
          let holds = gone_holds (record session { fids = []; waiting = [] }) rest (map (λ entry. entry.1) session.fids) linked in
          record { linked = holds.0; others = holds.1 }
      by Reads = replied_holds session rest (tag_of bytes) _ linked (read_or_not_holds session rest mark (message_of bytes) linked)

  -- ---- reads that waited

  late_holds : (session : Session) (rest : S) (tag : ℕ) (wait : Wait) (fid : Outcome Fid) (later : Option (Left S))
      → IsLinked c session.made session.connections (device rest) → HoldsSome rest later
      → HoldsSome rest (answered_or session rest tag wait (given_or_refused outside rest wait.count fid) later)
  late_holds session rest tag wait (Err n) later linked holds = record { linked = linked; others = λ k other. refl }
  late_holds session rest tag wait (Ok fid) later linked holds =
      by (given_now outside rest fid wait.count fid.node.kind) (given_now_same c outside device keeps rest fid wait.count fid.node.kind)
    where
      by : (o : Option (Given S)) → IsGivenSame c outside device keeps rest o → HoldsSome rest (answered_or session rest tag wait (option_map Ok o) later)
      by None same = holds
      by (Some got) same = record {
        linked = same_linked c session.made session.connections (device rest) (device got.rest) same linked;
        others = same_others c (device rest) (device got.rest) same;
      }

  first_holds : (session : Session) (rest : S) (before after : List (ℕ × Wait)) → IsLinked c session.made session.connections (device rest)
      → HoldsSome rest (first_of outside session rest before after)
  unfolding first_of wait_answer
  first_holds session rest before [] linked = tt
  first_holds session rest before ((tag, wait) ∷ after) linked =
      late_holds (record session { waiting = before ++ after }) rest tag wait (awaited outside session rest wait) _ linked
      (first_holds session rest (before ++ (tag, wait) ∷ []) after linked)

  pub one_holds : (session : Session) (rest : S) → IsLinked c session.made session.connections (device rest)
      → HoldsSome rest (one_answered outside session rest)
  one_holds session rest linked = first_holds session rest [] session.waiting linked
