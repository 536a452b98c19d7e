-- Over outsides that are alike, a session answers alike.
use Rattle.std.proofs.Common.{◌≡◌, ◌≤◌, ℕ, Bool, true, false, List, [], ◌∷◌, ◌++◌, Option, Some, None, Ok, Err, refl, sym, ap, subst, arith}
use Rattle.std.specs.Prelude.{All, IfSome, filter, is_none, is_some, length, map, min, nat_le, nat_lt, not, ◌==◌, ◌&&◌, ◌+◌}
use Rattle.std.specs.Option.{option_map}
use Rattle.std.proofs.lemmas.Bool.Decides.{nat_tests}
use Rattle.std.proofs.lemmas.List.Elements.{All-cons, All-filter, All-map, All-nil}
use Rattle.std.proofs.lemmas.Map.Entries.{All-lookup}
use Rattle.model_text.specs.text.Outcome.{Outcome, ◌>>=◌, refuse_if, value_or_refuse}
use Rattle.model_text.specs.text.Map.{is_key, lookup, without}
use Rattle.model_files.specs.wire.Message.{R, Rattach, Rclunk, Rflush, Ropen, Rread, Rstat, Rversion, no_fid, no_tag, tag_of_t}
use Rattle.model_files.specs.wire.Message as wire
use Rattle.model_files.specs.wire.Reading.{message_of, tag_of}
use Rattle.model_files.specs.declared.tree.Kind.TheVariants.{Consctl, Mouse, New}
use Rattle.model_files.specs.declared.tree.Kind.{Kind}
use Rattle.model_files.specs.tree.Node.{Node, may, qid, reads, row, writes}
use Rattle.model_files.specs.tree.Attach.{attach_of}
use Rattle.model_files.specs.tree.Tree.{check_live, root_of, stat}
use Rattle.model_rio.specs.window.Heard.{ConsctlHeld, MouseHeld}
use Rattle.model_rio.specs.window.Pane.{Pane}
use Rattle.model_world.specs.Session.{Fid, Session, Wait, fid_at, max_msize}
use Rattle.model_world.specs.Outside.{Outside}
use Rattle.model_world.specs.Refusal.{refusal}
use Rattle.model_world.specs.Fids.{Done, Left, and_fid, beside, cleared, fid_of, fids_gone, is_bound, is_full, is_kept, is_kind, let_go, settled, with_fid, with_held}
use Rattle.model_world.specs.Walking.{attach_answer, is_taken, most_made, open_answer, opened, walk_answer, walk_ended, walked}
use Rattle.model_world.specs.Reading.{Given, count_within, is_open_for, most_waiting, node_read, read_answer, read_ended}
use Rattle.model_world.specs.Writing.{file_written, write_answer, write_reply}
use Rattle.model_world.specs.Waiting.{answered_or, awaited, first_of, given_or_refused, late_reply, one_answered, wait_answer}
use Rattle.model_world.specs.Answer.{Taking, Ignored, TooLong, Closes, Reads, agreed_on, answer, answer_read, answer_to, asks_for_9p, clunk_answer, denied, is_version, read_or_not, replied, stat_answer, taken, taking, version_answer}
use Rattle.law_likeness.specs.agreement.Agreement.{Alike, ArePrivate, Ask, Attaches, IsOwnFid, IsPlain, IsPrivate, IsPrivateIf, KeepsToItself, MayRead, MayWrite, SameLeft, SameOption, SameOutcome, TellsOf}
use Rattle.law_likeness.proofs.agreement.Relations.{bind_alike, check_alike, equal_alike, fold_alike, if_so, known_alike, not_refused, weaken}
use Rattle.law_likeness.proofs.agreement.Trees.{check_live_same, stat_same, walked_same}
use Rattle.law_likeness.proofs.agreement.Files.{SameGiven, given_alike, node_alike, written_alike}

module _ {S T : Type 0} (outer : Outside S) (inner : Outside T) (Same Later : S → T → Type 0) (HasWindow HasConnection : ℕ → Type 0) (May : S → Ask → Type 0) (alike : Alike outer inner Same Later HasWindow HasConnection May) where
  abbrev Own : Fid → Type 0
  Own fid = IsOwnFid HasWindow HasConnection fid

  abbrev Keeps : Session → Type 0
  Keeps session = KeepsToItself HasWindow HasConnection session

  -- ---- the session's fids

  found_own : (found : Option Fid) (n : ℕ) (fid : Fid) → IfSome found Own → value_or_refuse found n ≡ Ok fid → Own fid
  found_own (Some f) n fid own is = let same : f ≡ fid = cc in subst Own same own
  found_own None n fid own is = absurd cc

  own_of : (session : Session) → Keeps session → (number : ℕ) (fid : Fid) → fid_of session number ≡ Ok fid → Own fid
  own_of session keeps number fid is = found_own (lookup session.fids number) 32 fid (All-lookup Own (is_key number) session.fids keeps.fids) is

  live_same : (session : Session) (s : S) (t : T) (fid : Fid) → Same s t → Own fid
      → check_live (outer.view s session.connections fid.node) fid.node ≡ check_live (inner.view t session.connections fid.node) fid.node
  live_same session s t fid same own = check_live_same _ _ fid.node (alike.view s t same session.connections fid.node own.plain)

  -- ---- fids that go

  held_alike : (held : Bool) (s : S) (t : T) (node : Node) → HasWindow node.serial → Same s t → Same (with_held outer held s node) (with_held inner held t node)
  held_alike held s t node has same =
      if_so Same (is_kind Mouse node.kind) _ _ _ _ (alike.hear s t same node.serial (MouseHeld held) tt has)
      (if_so Same (is_kind Consctl node.kind) _ _ _ _ (alike.hear s t same node.serial (ConsctlHeld held) tt has) same)

  let_go_alike : (s : S) (t : T) (fid : Fid) → Own fid → Same s t → Same (let_go outer s fid) (let_go inner t fid)
  let_go_alike s t fid own same = if_so Same (is_some fid.mode) _ _ _ _ (held_alike false s t fid.node own.plain.window same) same

  pub gone_alike : (session : Session) (s : S) (t : T) (gone : List Fid) → Same s t → All HasConnection session.connections → All Own gone
      → ((fids_gone outer session s gone).0 ≡ (fids_gone inner session t gone).0) × Later (fids_gone outer session s gone).1 (fids_gone inner session t gone).1
  unfolding fids_gone settled
  gone_alike session s t gone same has own =
      let ended = fold_alike Same HasConnection outer.leave inner.leave (λ s t n has same. alike.leave s t same n has)
      (filter (λ n. not (is_kept session n)) session.connections) s t (All-filter (λ n. not (is_kept session n)) HasConnection session.connections has) same in
      let closed = fold_alike Same Own (let_go outer) (let_go inner) let_go_alike gone _ _ own ended in
      (refl, alike.left _ _ closed _)

  all_own : (session : Session) → Keeps session → All Own (map (λ entry. entry.1) session.fids)
  all_own session keeps = All-map Own (λ entry. entry.1) session.fids keeps.fids

  cleared_alike : (session : Session) (s : S) (t : T) → Same s t → Keeps session
      → ((cleared outer session s).0 ≡ (cleared inner session t).0) × Later (cleared outer session s).1 (cleared inner session t).1
  cleared_alike session s t same keeps =
      gone_alike (record session { fids = []; waiting = [] }) s t (map (λ entry. entry.1) session.fids) same keeps.connections (all_own session keeps)

  clunk_alike : (session : Session) (s : S) (t : T) (number : ℕ) (reply : R) → Same s t → Keeps session
      → SameOutcome (SameLeft Later) (clunk_answer outer session s number reply) (clunk_answer inner session t number reply)
  unfolding clunk_answer
  clunk_alike session s t number reply same keeps =
      check_alike (SameLeft Later) (fid_of session number) _ _ (λ fid is.
      let gone = gone_alike (record session { fids = without session.fids number }) s t (fid ∷ []) same keeps.connections
      (All-cons Own fid [] (own_of session keeps number fid is) (All-nil Own)) in
      record { session = gone.0; reply = refl; rest = gone.1 })

  -- ---- versions and attaches

  agreed_alike : (tag msize : ℕ) (version : List ℕ) (asks : Bool) (a : Session × S) (b : Session × T) → a.0 ≡ b.0 → Later a.1 b.1 → asks_for_9p version ≡ asks
      → SameLeft Later (agreed_on tag msize version a) (agreed_on tag msize version b)
  agreed_alike tag msize version true a b e later asks = rw asks (record { session = ap (λ (session : Session). record session { msize = min msize max_msize; agreed = true }) e; reply = refl; rest = later })
  agreed_alike tag msize version false a b e later asks = rw asks (record { session = ap (λ (session : Session). record session { msize = max_msize; agreed = false }) e; reply = refl; rest = later })

  version_alike : (session : Session) (s : S) (t : T) (tag msize : ℕ) (version : List ℕ) → Same s t → Keeps session
      → SameOutcome (SameLeft Later) (version_answer outer session s tag msize version) (version_answer inner session t tag msize version)
  unfolding version_answer
  version_alike session s t tag msize version same keeps =
      let gone = cleared_alike session s t same keeps in
      check_alike (SameLeft Later) (refuse_if (nat_lt msize 256) 48) _ _ (λ _ _.
      agreed_alike tag msize version (asks_for_9p version) _ _ gone.0 gone.1 refl)

  is_so : (b : Bool) → not b ≡ false → b ≡ true
  is_so true off = refl
  is_so false off = absurd cc

  attach_alike : (session : Session) (s : S) (t : T) (tag fid afid : ℕ) (aname : List ℕ) → Same s t
      → ((afid == no_fid) ≡ true → is_bound session fid ≡ false → is_full session ≡ false → May s (Attaches (attach_of aname)))
      → SameOutcome (SameLeft Later) (attach_answer outer session s tag fid afid aname) (attach_answer inner session t tag fid afid aname)
  unfolding attach_answer
  attach_alike session s t tag fid afid aname same asks =
      check_alike (SameLeft Later) (refuse_if (not (afid == no_fid)) 40) _ _ (λ u none.
      check_alike (SameLeft Later) (refuse_if (is_bound session fid) 33) _ _ (λ v free.
      check_alike (SameLeft Later) (refuse_if (is_full session) 44) _ _ (λ w room.
      bind_alike (λ a b. Later a.0 b.0 × (a.1 ≡ b.1)) (SameLeft Later) (outer.attached s (attach_of aname)) (inner.attached t (attach_of aname)) _ _
      (alike.attached s t same (attach_of aname) (asks (is_so (afid == no_fid) (not_refused (not (afid == no_fid)) 40 u none)) (not_refused (is_bound session fid) 33 v free) (not_refused (is_full session) 44 w room))) (λ a b p. record {
        session = ap (λ (root : ℕ). and_fid session fid (fid_at (root_of root))) p.1;
        reply = ap (λ (root : ℕ). Some (Rattach tag (qid (root_of root)))) p.1;
        rest = p.0;
      }))))

  -- ---- messages that stay within their session

  beside_alike : (s : S) (t : T) (d e : Outcome Done) → Same s t → d ≡ e → SameOutcome (SameLeft Later) (beside s d) (beside t e)
  beside_alike s t (Ok d) e same is = rw (sym is) (record { session = refl; reply = refl; rest = alike.unchanged s t same })
  beside_alike s t (Err n) e same is = rw (sym is) refl

  bind_same : {A C : Type 0} (x : Outcome A) (f g : A → Outcome C) → ((a : A) → x ≡ Ok a → f a ≡ g a) → (x >>= f) ≡ (x >>= g)
  bind_same (Ok a) f g each = each a refl
  bind_same (Err n) f g each = refl

  walk_same : (session : Session) (s : S) (t : T) (tag fid newfid : ℕ) (names : List (List ℕ)) → Same s t → Keeps session
      → ((from : Fid) → fid_of session fid ≡ Ok from → is_some from.mode ≡ false → (not (newfid == fid) && is_bound session newfid) ≡ false → (not (newfid == fid) && is_full session) ≡ false
      → All (IsPlain HasWindow HasConnection) (walked (outer.view s session.connections) from.node names).0)
      → walk_answer outer session s tag fid newfid names ≡ walk_answer inner session t tag fid newfid names
  unfolding walk_answer
  walk_same session s t tag fid newfid names same keeps plain =
      bind_same (fid_of session fid) _ _ (λ from is.
      bind_same (refuse_if (is_some from.mode) 36) _ _ (λ u closed.
      bind_same (refuse_if (not (newfid == fid) && is_bound session newfid) 33) _ _ (λ v free.
      bind_same (refuse_if (not (newfid == fid) && is_full session) 44) _ _ (λ w room.
      ap (walk_ended session tag fid newfid from.node)
      (walked_same HasWindow HasConnection (outer.view s session.connections) (inner.view t session.connections) (alike.view s t same session.connections) names from.node
      (own_of session keeps fid from is).plain
      (plain from is (not_refused (is_some from.mode) 36 u closed) (not_refused (not (newfid == fid) && is_bound session newfid) 33 v free) (not_refused (not (newfid == fid) && is_full session) 44 w room)))))))

  stat_is : (session : Session) (s : S) (t : T) (tag number : ℕ) → Same s t → Keeps session → stat_answer outer session s tag number ≡ stat_answer inner session t tag number
  unfolding stat_answer
  stat_is session s t tag number same keeps =
      bind_same (fid_of session number) _ _ (λ fid is.
      let own = own_of session keeps number fid is in
      rw (live_same session s t fid same own, stat_same _ _ fid.node (alike.view s t same session.connections fid.node own.plain) own.plain.kind) refl)

  -- ---- opens

  -- what is asked of the pane of a file of a kind
  held_same : (of node : Kind) (x y : Bool) → (is_kind of node ≡ true → x ≡ y) → (is_kind of node && x) ≡ (is_kind of node && y)
  held_same of node x y same = by (is_kind of node) refl
    where
      by : (b : Bool) → is_kind of node ≡ b → (b && x) ≡ (b && y)
      by true is = same is
      by false is = refl

  -- a `mouse` or a `consctl` is one of a window
  mouse_place : (of : Kind) (serial : ℕ) → is_kind Mouse of ≡ true → TellsOf (row of).owner serial → (serial == 0) ≡ false
  unfolding row
  mouse_place Mouse serial is place = place
  mouse_place _ serial is place = absurd (cc is)

  consctl_place : (of : Kind) (serial : ℕ) → is_kind Consctl of ≡ true → TellsOf (row of).owner serial → (serial == 0) ≡ false
  unfolding row
  consctl_place Consctl serial is place = place
  consctl_place _ serial is place = absurd (cc is)

  taken_same : (session : Session) (s : S) (t : T) (node : Node) → Same s t → IsPlain HasWindow HasConnection node → is_taken outer session s node ≡ is_taken inner session t node
  taken_same session s t node same plain =
      rw (
        held_same Mouse node.kind (outer.pane s node.serial).mouse_held (inner.pane t node.serial).mouse_held
            (λ is. ap (λ (p : Pane). p.mouse_held) (alike.pane s t same node.serial plain.window (mouse_place node.kind node.serial is plain.place))),
        held_same Consctl node.kind (outer.pane s node.serial).consctl_held (inner.pane t node.serial).consctl_held
            (λ is. ap (λ (p : Pane). p.consctl_held) (alike.pane s t same node.serial plain.window (consctl_place node.kind node.serial is plain.place))),
      ) refl

  below_most : (new : Bool) (made : ℕ) → refuse_if (new && nat_le most_made made) 44 ≡ Ok tt → new ≡ true → made + 1 ≤ most_made
  below_most true made fine is = by (nat_le most_made made) refl fine
    where
      by : (b : Bool) → nat_le most_made made ≡ b → refuse_if b 44 ≡ Ok tt → made + 1 ≤ most_made
      by false less fine = grind (arith, nat_tests)
      by true less fine = absurd cc
  below_most false made fine is = absurd cc

  opened_alike : (session : Session) (s : S) (t : T) (tag number mode : ℕ) (fid : Fid) (new : Bool) → is_kind New fid.node.kind ≡ new → Same s t → Own fid
      → (new ≡ true → session.made + 1 ≤ most_made)
      → SameLeft Same (opened outer session s tag number mode fid) (opened inner session t tag number mode fid)
  opened_alike session s t tag number mode fid true is same own few =
      rw is (record { session = refl; reply = refl; rest = alike.connect s t same (session.made + 1) (alike.numbers (session.made + 1) (few refl)) })
  opened_alike session s t tag number mode fid false is same own few =
      rw is (record { session = refl; reply = refl; rest = held_alike true s t fid.node own.plain.window same })

  open_alike : (session : Session) (s : S) (t : T) (tag number mode : ℕ) → Same s t → Keeps session
      → SameOutcome (SameLeft Same) (open_answer outer session s tag number mode) (open_answer inner session t tag number mode)
  unfolding open_answer
  open_alike session s t tag number mode same keeps =
      check_alike (SameLeft Same) (fid_of session number) _ _ (λ fid is.
      let own = own_of session keeps number fid is in
      check_alike (SameLeft Same) (refuse_if (is_some fid.mode) 36) _ _ (λ _ _.
      equal_alike (SameLeft Same) _ _ _ _ (live_same session s t fid same own) (λ _.
      check_alike (SameLeft Same) (refuse_if (not (may fid.node mode)) 38) _ _ (λ _ _.
      equal_alike (SameLeft Same) _ _ _ _ (ap (λ b. refuse_if b 43) (taken_same session s t fid.node same own.plain)) (λ _.
      check_alike (SameLeft Same) (refuse_if (is_kind New fid.node.kind && nat_le most_made session.made) 44) _ _ (λ _ fine.
      opened_alike session s t tag number mode fid (is_kind New fid.node.kind) refl same own (λ new. below_most (is_kind New fid.node.kind) session.made fine new)))))))

  -- ---- reads and writes

  is_opened : (mode : Option ℕ) → refuse_if (is_none mode) 37 ≡ Ok tt → is_some mode ≡ true
  is_opened None fine = absurd cc
  is_opened (Some m) fine = refl

  read_done : (session : Session) (s : S) (t : T) (tag number count : ℕ) (a : Option (Given S)) (b : Option (Given T)) → Same s t → SameOption (SameGiven Same) a b
      → SameOutcome (SameLeft Same) (read_ended session s tag number count a) (read_ended session t tag number count b)
  read_done session s t tag number count (Some a) (Some b) same p =
      record { session = ap (with_fid session number) p.fid; reply = ap (λ bytes. Some (Rread tag bytes)) p.bytes; rest = p.rest }
  read_done session s t tag number count None None same p =
      check_alike (SameLeft Same) (refuse_if (nat_le most_waiting (length session.waiting)) 45) _ _ (λ _ _. record { session = refl; reply = refl; rest = same })
  read_done session s t tag number count (Some a) None same p = absurd p
  read_done session s t tag number count None (Some b) same p = absurd p

  read_alike : (session : Session) (s : S) (t : T) (tag number offset count : ℕ) → Same s t → Keeps session
      → ((f : Fid) → fid_of session number ≡ Ok f → is_none f.mode ≡ false → is_open_for reads f ≡ true
      → check_live (outer.view s session.connections f.node) f.node ≡ Ok tt → MayRead outer HasWindow HasConnection May s f.node offset (count_within session count) f.node.kind)
      → SameOutcome (SameLeft Same) (read_answer outer session s tag number offset count) (read_answer inner session t tag number offset count)
  unfolding read_answer
  read_alike session s t tag number offset count same keeps asks =
      check_alike (SameLeft Same) (fid_of session number) _ _ (λ fid is.
      let own = own_of session keeps number fid is in
      check_alike (SameLeft Same) (refuse_if (is_none fid.mode) 37) _ _ (λ v fine.
      check_alike (SameLeft Same) (refuse_if (not (is_open_for reads fid)) 38) _ _ (λ w opened.
      known_alike (SameLeft Same) _ _ _ _ (live_same session s t fid same own) (λ u live.
      bind_alike (SameOption (SameGiven Same)) (SameLeft Same) (node_read outer session.connections s fid offset (count_within session count)) (node_read inner session.connections t fid offset (count_within session count)) _ _
      (node_alike outer inner Same Later HasWindow HasConnection May alike session.connections s t fid offset (count_within session count) same (own.own (is_opened fid.mode fine)) own.plain u live
      (asks fid is (not_refused (is_none fid.mode) 37 v fine) (is_so (is_open_for reads fid) (not_refused (not (is_open_for reads fid)) 38 w opened)) live)) (λ a b p.
      read_done session s t tag number (count_within session count) a b same p)))))

  write_alike : (session : Session) (s : S) (t : T) (tag number offset : ℕ) (bytes : List ℕ) (mark told : Option ℕ) → Same s t → Keeps session
      → ((f : Fid) → fid_of session number ≡ Ok f → is_none f.mode ≡ false → is_open_for writes f ≡ true
      → check_live (outer.view s session.connections f.node) f.node ≡ Ok tt → MayWrite outer HasWindow HasConnection May s f.node bytes mark told f.node.kind)
      → SameOutcome (SameLeft Later) (write_answer outer session s tag number offset bytes mark) (write_answer inner session t tag number offset bytes told)
  unfolding write_answer
  write_alike session s t tag number offset bytes mark told same keeps asks =
      check_alike (SameLeft Later) (fid_of session number) _ _ (λ fid is.
      let own = own_of session keeps number fid is in
      check_alike (SameLeft Later) (refuse_if (is_none fid.mode) 37) _ _ (λ v fine.
      check_alike (SameLeft Later) (refuse_if (not (is_open_for writes fid)) 38) _ _ (λ w opened.
      known_alike (SameLeft Later) _ _ _ _ (live_same session s t fid same own) (λ u live.
      bind_alike (λ a b. Later a.0 b.0 × (a.1 ≡ b.1)) (SameLeft Later) (file_written outer s fid.node offset bytes mark fid.node.kind) (file_written inner t fid.node offset bytes told fid.node.kind) _ _
      (written_alike outer inner Same Later HasWindow HasConnection May alike session.connections s t fid.node offset bytes mark told fid.node.kind same (own.own (is_opened fid.mode fine)) own.plain
      (own.plain.place, (u, live)) (asks fid is (not_refused (is_none fid.mode) 37 v fine) (is_so (is_open_for writes fid) (not_refused (not (is_open_for writes fid)) 38 w opened)) live)) (λ a b p.
      record { session = refl; reply = ap (λ n. Some (write_reply tag (length bytes) n)) p.1; rest = p.0 })))))

  -- ---- a whole message

  later : (a : Left S) (b : Left T) → SameLeft Same a b → SameLeft Later a b
  later a b p = record { session = p.session; reply = p.reply; rest = alike.unchanged _ _ p.rest }

  soon : (x : Outcome (Left S)) (y : Outcome (Left T)) → SameOutcome (SameLeft Same) x y → SameOutcome (SameLeft Later) x y
  soon x y p = weaken (SameLeft Same) (SameLeft Later) x y later p

  abbrev Private : Session → S → (mark told : Option ℕ) → wire.T → Type 0
  Private session s mark told m = IsPrivate outer HasWindow HasConnection May session s mark told m

  to_alike : (session : Session) (s : S) (t : T) (mark told : Option ℕ) (m : wire.T) → Same s t → Keeps session → Private session s mark told m
      → SameOutcome (SameLeft Later) (answer_to outer session s mark m) (answer_to inner session t told m)
  to_alike session s t mark told (wire.Tversion tag msize version) same keeps private = version_alike session s t tag msize version same keeps
  to_alike session s t mark told (wire.Tauth tag afid uname aname) same keeps private = refl
  to_alike session s t mark told (wire.Tattach tag fid afid uname aname) same keeps private = attach_alike session s t tag fid afid aname same private
  to_alike session s t mark told (wire.Tflush tag oldtag) same keeps private = record { session = refl; reply = refl; rest = alike.unchanged s t same }
  to_alike session s t mark told (wire.Twalk tag fid newfid names) same keeps private =
      beside_alike s t (walk_answer outer session s tag fid newfid names) (walk_answer inner session t tag fid newfid names) same (walk_same session s t tag fid newfid names same keeps private)
  to_alike session s t mark told (wire.Topen tag fid mode) same keeps private = soon _ _ (open_alike session s t tag fid mode same keeps)
  to_alike session s t mark told (wire.Tcreate tag fid name perm mode) same keeps private = beside_alike s t (denied session fid) (denied session fid) same refl
  to_alike session s t mark told (wire.Tread tag fid offset count) same keeps private = soon _ _ (read_alike session s t tag fid offset count same keeps private)
  to_alike session s t mark told (wire.Twrite tag fid offset bytes) same keeps private = write_alike session s t tag fid offset bytes mark told same keeps private
  to_alike session s t mark told (wire.Tclunk tag fid) same keeps private = clunk_alike session s t fid (Rclunk tag) same keeps
  to_alike session s t mark told (wire.Tremove tag fid) same keeps private = clunk_alike session s t fid (refusal tag 38) same keeps
  to_alike session s t mark told (wire.Tstat tag fid) same keeps private =
      beside_alike s t (stat_answer outer session s tag fid) (stat_answer inner session t tag fid) same (stat_is session s t tag fid same keeps)
  to_alike session s t mark told (wire.Twstat tag fid stat) same keeps private = beside_alike s t (denied session fid) (denied session fid) same refl

  or_not_alike : (session : Session) (s : S) (t : T) (mark told : Option ℕ) (m : Option wire.T) → Same s t → Keeps session
      → IsPrivateIf outer HasWindow HasConnection May session s mark told m
      → SameOutcome (SameLeft Later) (read_or_not outer session s mark m) (read_or_not inner session t told m)
  unfolding answer_read
  or_not_alike session s t mark told None same keeps private = refl
  or_not_alike session s t mark told (Some m) same keeps private =
      check_alike (SameLeft Later) (refuse_if (not (is_version m) && (tag_of_t m == no_tag)) 30) _ _ (λ u tagged.
      check_alike (SameLeft Later) (refuse_if (not (is_version m) && not session.agreed) 31) _ _ (λ v agreed.
      to_alike session s t mark told m same keeps
      (private (not_refused (not (is_version m) && (tag_of_t m == no_tag)) 30 u tagged) (not_refused (not (is_version m) && not session.agreed) 31 v agreed))))

  replied_alike : (session : Session) (s : S) (t : T) (tag : ℕ) (x : Outcome (Left S)) (y : Outcome (Left T)) → Same s t → SameOutcome (SameLeft Later) x y
      → SameLeft Later (replied session s tag x) (replied session t tag y)
  replied_alike session s t tag (Ok a) (Ok b) same p = p
  replied_alike session s t tag (Err n) (Err m) same p = record { session = refl; reply = ap (λ n. Some (refusal tag n)) p; rest = alike.unchanged s t same }
  replied_alike session s t tag (Ok a) (Err m) same p = absurd p
  replied_alike session s t tag (Err n) (Ok b) same p = absurd p

  taken_alike : (session : Session) (s : S) (t : T) (bytes : List ℕ) (mark told : Option ℕ) (how : Taking) → Same s t → Keeps session
      → (how ≡ Reads → IsPrivateIf outer HasWindow HasConnection May session s mark told (message_of bytes))
      → SameLeft Later (taken outer session s bytes mark how) (taken inner session t bytes told how)
  taken_alike session s t bytes mark told Ignored same keeps private = record { session = refl; reply = refl; rest = alike.unchanged s t same }
  taken_alike session s t bytes mark told TooLong same keeps private = record { session = refl; reply = refl; rest = alike.unchanged s t same }
  taken_alike session s t bytes mark told Closes same keeps private =
      let gone = cleared_alike session s t same keeps in
      record { session = ap (λ (session : Session). record session { closed = Some (tag_of bytes) }) gone.0; reply = refl; rest = gone.1 }
  taken_alike session s t bytes mark told Reads same keeps private =
      replied_alike session s t (tag_of bytes) _ _ same (or_not_alike session s t mark told (message_of bytes) same keeps (private refl))

  -- each message is answered alike
  pub answer_alike : (session : Session) (s : S) (t : T) (bytes : List ℕ) (mark told : Option ℕ) → Same s t → Keeps session
      → ArePrivate outer HasWindow HasConnection May session s mark told bytes
      → SameLeft Later (answer outer session s bytes mark) (answer inner session t bytes told)
  unfolding answer
  answer_alike session s t bytes mark told same keeps private = taken_alike session s t bytes mark told (taking session bytes) same keeps private

  -- ---- waiting reads

  awaited_same : (session : Session) (s : S) (t : T) (wait : Wait) → Same s t → Keeps session → awaited outer session s wait ≡ awaited inner session t wait
  awaited_same session s t wait same keeps =
      bind_same (fid_of session wait.fid) _ _ (λ fid is.
      ap (λ (live : Outcome (Unit {0})). live >>= λ _. Ok fid) (live_same session s t fid same (own_of session keeps wait.fid fid is)))

  live_own : (live : Outcome (Unit {0})) (a b : Fid) → Own a → (live >>= λ _. Ok a) ≡ Ok b → Own b
  live_own (Ok u) a b own is = let same : a ≡ b = cc in subst Own same own
  live_own (Err n) a b own is = absurd cc

  bound_own : (session : Session) (t : T) (found : Outcome Fid) (f : Fid) → ((g : Fid) → found ≡ Ok g → Own g)
      → (found >>= λ fid. check_live (inner.view t session.connections fid.node) fid.node >>= λ _. Ok fid) ≡ Ok f → Own f
  bound_own session t (Ok fid) f own is = live_own (check_live (inner.view t session.connections fid.node) fid.node) fid f (own fid refl) is
  bound_own session t (Err n) f own is = absurd cc

  abbrev Ready : Option (Outcome (Given S)) → Option (Outcome (Given T)) → Type 0
  Ready a b = SameOption (SameOutcome (SameGiven Same)) a b

  ok_ready : (a : Option (Given S)) (b : Option (Given T)) → SameOption (SameGiven Same) a b → Ready (option_map Ok a) (option_map Ok b)
  ok_ready (Some a) (Some b) p = p
  ok_ready None None p = tt
  ok_ready (Some a) None p = absurd p
  ok_ready None (Some b) p = absurd p

  refused_alike : (s : S) (t : T) (count : ℕ) (fid : Outcome Fid) → Same s t → ((f : Fid) → fid ≡ Ok f → Own f) → Ready (given_or_refused outer s count fid) (given_or_refused inner t count fid)
  refused_alike s t count (Err n) same own = refl
  refused_alike s t count (Ok fid) same own = ok_ready _ _ (given_alike outer inner Same Later HasWindow HasConnection May alike s t fid count fid.node.kind same (own fid refl).plain.window (own fid refl).plain.place)

  wait_alike : (session : Session) (s : S) (t : T) (wait : Wait) → Same s t → Keeps session → Ready (wait_answer outer session s wait) (wait_answer inner session t wait)
  unfolding wait_answer
  wait_alike session s t wait same keeps =
      rw (awaited_same session s t wait same keeps)
      (refused_alike s t wait.count (awaited inner session t wait) same (λ f is. bound_own session t (fid_of session wait.fid) f (own_of session keeps wait.fid) is))

  late_alike : (session : Session) (s : S) (t : T) (tag : ℕ) (wait : Wait) (a : Outcome (Given S)) (b : Outcome (Given T)) → Same s t → SameOutcome (SameGiven Same) a b
      → SameLeft Same (late_reply session s tag wait a) (late_reply session t tag wait b)
  late_alike session s t tag wait (Ok a) (Ok b) same p = record { session = ap (with_fid session wait.fid) p.fid; reply = ap (λ bytes. Some (Rread tag bytes)) p.bytes; rest = p.rest }
  late_alike session s t tag wait (Err n) (Err m) same p = record { session = refl; reply = ap (λ n. Some (refusal tag n)) p; rest = same }
  late_alike session s t tag wait (Ok a) (Err m) same p = absurd p
  late_alike session s t tag wait (Err n) (Ok b) same p = absurd p

  turn_alike : (session : Session) (s : S) (t : T) (tag : ℕ) (wait : Wait) (a : Option (Outcome (Given S))) (b : Option (Outcome (Given T))) (f : Option (Left S)) (g : Option (Left T))
      → Same s t → Ready a b → SameOption (SameLeft Same) f g → SameOption (SameLeft Same) (answered_or session s tag wait a f) (answered_or session t tag wait b g)
  turn_alike session s t tag wait (Some a) (Some b) f g same p more = late_alike session s t tag wait a b same p
  turn_alike session s t tag wait None None f g same p more = more
  turn_alike session s t tag wait (Some a) None f g same p more = absurd p
  turn_alike session s t tag wait None (Some b) f g same p more = absurd p

  first_alike : (session : Session) (s : S) (t : T) (before after : List (ℕ × Wait)) → Same s t → Keeps session
      → SameOption (SameLeft Same) (first_of outer session s before after) (first_of inner session t before after)
  unfolding first_of
  first_alike session s t before [] same keeps = tt
  first_alike session s t before ((tag, wait) ∷ after) same keeps =
      turn_alike (record session { waiting = before ++ after }) s t tag wait _ _ _ _ same (wait_alike session s t wait same keeps) (first_alike session s t (before ++ (tag, wait) ∷ []) after same keeps)

  -- the same read that waits is answered first, and alike, or none is
  pub one_alike : (session : Session) (s : S) (t : T) → Same s t → Keeps session → SameOption (SameLeft Same) (one_answered outer session s) (one_answered inner session t)
  one_alike session s t same keeps = first_alike session s t [] session.waiting same keeps
