-- Where a session has no fid any more, the window that it alone used is gone.
use Rattle.std.proofs.Common.{◌≡◌, ◌∙◌, ℕ, ◌==◌, ◌+◌, Bool, true, false, not, List, [], ◌∷◌, ◌++◌, fold, length, map, Option, Some, None, is_some, Ok, Err, refl, sym, ap, subst, eqb-true}
use Rattle.std.specs.Prelude.{All, IfOk, IfSome, filter, is_none, nat_le, nat_lt, ◌&&◌, ◌||◌, if◌then◌else◌}
use Rattle.std.specs.List.{list_any}
use Rattle.std.specs.Option.{option_map}
use Rattle.std.proofs.lemmas.Bool.{cond_both}
use Rattle.std.proofs.lemmas.List.Elements.{All-head}
use Rattle.std.proofs.lemmas.Map.Entries.{All-lookup}
use Rattle.std.proofs.Common.{Ordering, Less, Equal, Greater, nat_cmp}
use Rattle.std.specs.Ordering.{match_ordering}
use Rattle.model_text.specs.text.Outcome.{Outcome, refuse_if, value_or_refuse}
use Rattle.model_text.specs.text.Map.{and, is_key, lookup, with, without}
use Rattle.model_text.proofs.map.Keys.{eqb-same}
use Rattle.model_files.specs.wire.Message.{T, Tattach, Twalk, Topen, Twrite, Tversion, Tauth, Tflush, Tcreate, Tread, Tclunk, Tremove, Tstat, Twstat, R, Rclunk, no_fid, no_tag, tag_of_t}
use Rattle.model_files.specs.wire.Reading.{message_of, tag_of}
use Rattle.model_files.specs.declared.tree.Kind.TheVariants as kind
use Rattle.model_files.specs.tree.Node.{Node, may, reads, writes}
use Rattle.model_files.specs.tree.Tree.{check_live}
use Rattle.model_world.specs.Outside.{Outside}
use Rattle.model_world.specs.Waiting.{answered_or, awaited, first_of, given_or_refused, one_answered, wait_answer}
use Rattle.model_world.specs.Session.{Wait, Fid, Session, fid_at}
use Rattle.model_world.specs.Desktop.{Desktop}
use Rattle.model_world.specs.Refusal.{refusal}
use Rattle.model_world.specs.Fids.{Done, Left, and_fid, beside, cleared, fid_of, fids_gone, has_root, is_bound, is_full, is_kept, is_kind, left_by, let_go, put, settled, with_fid}
use Rattle.model_world.specs.Walking.{attach_answer, ctl_of, is_taken, last, most_made, open_answer, opened, rebound, walk_answer, walk_ended, walked}
use Rattle.model_world.specs.Reading.{Given, count_within, given_now, is_open_for, most_waiting, node_read, read_answer, read_ended}
use Rattle.model_world.specs.Writing.{file_written, write_answer}
use Rattle.model_world.specs.Answer.{Taking, Ignored, TooLong, Closes, Reads, agreed_on, answer, answer_read, answer_to, asks_for_9p, clunk_answer, denied, is_version, read_or_not, replied, stat_answer, taken, taking, version_answer}
use Rattle.model_world.specs.Whole.{desktop_for}
use Rattle.model_world.proofs.Others.{after_step}
use Rattle.law_likeness.proofs.agreement.Relations.{not_refused}
use Rattle.model_alone.specs.alone.Uses.{is_name_looked_at}
use Rattle.law_strangers.proofs.steady.Messages.{all_leave, all_let_go, each_answer_keeps}
use Rattle.law_strangers.proofs.users.Users.{IsLost, IsUsedBy, all_own_left, lost_all, lost_attached, own_all}

-- ---- lists

some_with : {A : Type 0} (es : List (ℕ × A)) (key : ℕ) (value : A) → (es ≡ [] → ⊥) → with es key value ≡ [] → ⊥
some_with [] key value some none = some none
some_with (e ∷ es) key value some none = by (is_key key e.0) none
  where
    by : (b : Bool) → (if b then (e.0, value) ∷ es else e ∷ with es key value) ≡ [] → ⊥
    by true none = cc none
    by false none = cc none

pub some_and : {A : Type 0} (es : List (ℕ × A)) (key : ℕ) (value : A) → and es key value ≡ [] → ⊥
some_and [] key value none = cc none
some_and {A = A} (e ∷ es) key value none = by (nat_cmp key e.0) none
  where
    by : (o : Ordering) → match_ordering o ((key, value) ∷ e ∷ es) ((e.0, value) ∷ es) (e ∷ and es key value) ≡ [] → ⊥
    by Less none = cc none
    by Equal none = cc none
    by Greater none = cc none

abbrev has : (n : ℕ) → List ℕ → Bool
has n ns = list_any (λ m. m == n) ns

first_has : (a b : Bool) → a ≡ true → (a || b) ≡ true
first_has true b is = refl
first_has false b is = absurd cc

later_has : (a b : Bool) → b ≡ true → (a || b) ≡ true
later_has true b is = refl
later_has false b is = is

-- a number stands in an ascending list once it was put
put_here : (n : ℕ) (ms : List ℕ) → has n (put n ms) ≡ true
put_here n [] = first_has (n == n) false (eqb-same n)
put_here n (m ∷ ms) = by (n == m) refl (put_here n ms)
  where
    by : (b : Bool) → (n == m) ≡ b → has n (put n ms) ≡ true → has n (if b then m ∷ ms else if nat_lt n m then n ∷ m ∷ ms else m ∷ put n ms) ≡ true
    by true at more = first_has (m == n) (has n ms) (subst (λ (k : ℕ). (k == n) ≡ true) (eqb-true n m at) (eqb-same n))
    by false at more =
        cond_both (nat_lt n m) (n ∷ m ∷ ms) (m ∷ put n ms) (λ (l : List ℕ). has n l ≡ true) (λ _. first_has (n == n) (has n (m ∷ ms)) (eqb-same n)) (λ _. later_has (m == n) (has n (put n ms)) more)

-- and still once another was
put_still : (n k : ℕ) (ms : List ℕ) → has n ms ≡ true → has n (put k ms) ≡ true
put_still n k [] is = absurd cc
put_still n k (m ∷ ms) is = by (k == m) (put_still n k ms)
  where
    later : (b : Bool) → (b || has n ms) ≡ true → (has n ms ≡ true → has n (put k ms) ≡ true) → (b || has n (put k ms)) ≡ true
    later true is more = refl
    later false is more = more is

    by : (b : Bool) → (has n ms ≡ true → has n (put k ms) ≡ true) → has n (if b then m ∷ ms else if nat_lt k m then k ∷ m ∷ ms else m ∷ put k ms) ≡ true
    by true more = is
    by false more = cond_both (nat_lt k m) (k ∷ m ∷ ms) (m ∷ put k ms) (λ (l : List ℕ). has n l ≡ true) (λ _. later_has (k == n) (has n (m ∷ ms)) is) (λ _. later (m == n) is more)

all_still : (n : ℕ) (fids : List Fid) (ms : List ℕ) → has n ms ≡ true → has n (fold (λ windows (fid : Fid). put fid.node.root windows) ms fids) ≡ true
all_still n [] ms is = is
all_still n (fid ∷ fids) ms is = all_still n fids (put fid.node.root ms) (put_still n fid.node.root ms is)

has_filter : (p : ℕ → Bool) (n : ℕ) (ms : List ℕ) → p n ≡ true → has n ms ≡ true → has n (filter p ms) ≡ true
has_filter p n [] passes is = absurd cc
has_filter p n (m ∷ ms) passes is = by (m == n) refl is (has_filter p n ms passes)
  where
    by : (b : Bool) → (m == n) ≡ b → (b || has n ms) ≡ true → (has n ms ≡ true → has n (filter p ms) ≡ true) → has n (if p m then m ∷ filter p ms else filter p ms) ≡ true
    by true at is more =
        let there : p m ≡ true = ap p (eqb-true m n at) ∙ passes in
        ap (λ (b : Bool). has n (if b then m ∷ filter p ms else filter p ms)) there ∙ first_has (m == n) (has n (filter p ms)) at
    by false at is more = cond_both (p m) (m ∷ filter p ms) (filter p ms) (λ (l : List ℕ). has n l ≡ true) (λ _. later_has (m == n) (has n (filter p ms)) (more is)) (λ _. more is)

-- ---- fids that go

module _ (c window : ℕ) (counted : (window == 0) ≡ false) where
  -- where no fid of the session is left
  abbrev pub LostIfEmpty : Session → Desktop → Type 0
  LostIfEmpty session s = session.fids ≡ [] → IsLost window s

  leaves_it : (session : Session) (fid : Fid) (gone : List Fid) → session.fids ≡ [] → fid.node.root ≡ window → has window (left_by session (fid ∷ gone)) ≡ true
  leaves_it session fid gone none root = has_filter (λ w. not (w == 0) && not (has_root session w)) window (fold (λ windows (f : Fid). put f.node.root windows) [] (fid ∷ gone)) passes there
    where
      passes : (not (window == 0) && not (has_root session window)) ≡ true
      passes = ap (λ (b : Bool). not b && not (has_root session window)) counted ∙ ap (λ (fids : List (ℕ × Fid)). not (list_any (λ entry. entry.1.node.root == window) fids)) none

      there : has window (fold (λ windows (f : Fid). put f.node.root windows) [] (fid ∷ gone)) ≡ true
      there = all_still window gone (put fid.node.root []) (subst (λ (n : ℕ). has n (put fid.node.root []) ≡ true) root (put_here fid.node.root []))

  gone_lost : (session : Session) (s : Desktop) (fid : Fid) (gone : List Fid) → session.fids ≡ [] → fid.node.root ≡ window → IsUsedBy c window s → IsLost window (fids_gone (desktop_for c) session s (fid ∷ gone)).1
  unfolding fids_gone settled
  gone_lost session s fid gone none root used =
      let ended : Desktop = fold (desktop_for c).leave s (filter (λ n. not (is_kept session n)) session.connections) in
      let let_all : Desktop = fold (let_go (desktop_for c)) ended (fid ∷ gone) in
      all_own_left c window (left_by (settled (desktop_for c) session s).0 (fid ∷ gone)) let_all
      (leaves_it (settled (desktop_for c) session s).0 fid gone none root)
      (all_let_go (desktop_for c) (IsUsedBy c window) (own_all c window) (fid ∷ gone) ended
      (all_leave (desktop_for c) (IsUsedBy c window) (own_all c window) (filter (λ n. not (is_kept session n)) session.connections) s used))

  -- each fid comes from an attach of the window
  abbrev pub AllRooted : Session → Type 0
  AllRooted session = All (λ (entry : ℕ × Fid). entry.1.node.root ≡ window) session.fids

  module _ (session : Session) (s : Desktop) (rooted : AllRooted session) (used : IsUsedBy c window s) where
    -- all fids go where there are some
    pub cleared_lost : (session.fids ≡ [] → ⊥) → IsLost window (cleared (desktop_for c) session s).1
    cleared_lost some = by session.fids rooted some
      where
        by : (fids : List (ℕ × Fid)) → All (λ (entry : ℕ × Fid). entry.1.node.root ≡ window) fids → (fids ≡ [] → ⊥)
            → IsLost window (fids_gone (desktop_for c) (record session { fids = []; waiting = [] }) s (map (λ entry. entry.1) fids)).1
        by [] all some = absurd (some refl)
        by (entry ∷ fids) all some =
            gone_lost (record session { fids = []; waiting = [] }) s entry.1 (map (λ entry. entry.1) fids) refl (All-head (λ (entry : ℕ × Fid). entry.1.node.root ≡ window) entry fids all) used

    bound_rooted : (number : ℕ) (fid : Fid) → fid_of session number ≡ Ok fid → fid.node.root ≡ window
    bound_rooted number fid is = by (lookup session.fids number) (All-lookup (λ (f : Fid). f.node.root ≡ window) (is_key number) session.fids rooted) is
      where
        by : (o : Option Fid) → IfSome o (λ (f : Fid). f.node.root ≡ window) → value_or_refuse o 32 ≡ Ok fid → fid.node.root ≡ window
        by (Some f) root e = let same : f ≡ fid = cc in subst (λ (g : Fid). g.node.root ≡ window) same root
        by None root e = absurd cc

    module _ (some : session.fids ≡ [] → ⊥) where
      abbrev Leaves : Outcome (Left Desktop) → Type 0
      Leaves o = IfOk o (λ l. LostIfEmpty l.session l.rest)

      abbrev Stays : Outcome Done → Type 0
      Stays o = IfOk o (λ d. d.session.fids ≡ [] → ⊥)

      clunk_leaves : (number : ℕ) (reply : R) → Leaves (clunk_answer (desktop_for c) session s number reply)
      unfolding clunk_answer fids_gone settled
      clunk_leaves number reply =
          after_step (λ l. LostIfEmpty l.session l.rest) (fid_of session number) _ (λ fid is none. gone_lost (record session { fids = without session.fids number }) s fid [] none (bound_rooted number fid is) used)

      version_leaves : (tag msize : ℕ) (version : List ℕ) → Leaves (version_answer (desktop_for c) session s tag msize version)
      unfolding version_answer
      version_leaves tag msize version = after_step (λ l. LostIfEmpty l.session l.rest) (refuse_if (nat_lt msize 256) 48) _ (λ _ _. by (asks_for_9p version) refl)
        where
          by : (b : Bool) → asks_for_9p version ≡ b → LostIfEmpty (agreed_on tag msize version (cleared (desktop_for c) session s)).session (agreed_on tag msize version (cleared (desktop_for c) session s)).rest
          by true at = rw at (λ none. cleared_lost some)
          by false at = rw at (λ none. cleared_lost some)

      attach_leaves : (tag fid afid : ℕ) (aname : List ℕ) → (is_name_looked_at session fid afid ≡ true → ⊥) → Leaves (attach_answer (desktop_for c) session s tag fid afid aname)
      unfolding attach_answer
      attach_leaves tag fid afid aname fresh =
          after_step (λ l. LostIfEmpty l.session l.rest) (refuse_if (not (afid == no_fid)) 40) _ (λ u unkeyed.
          after_step (λ l. LostIfEmpty l.session l.rest) (refuse_if (is_bound session fid) 33) _ (λ v free.
          after_step (λ l. LostIfEmpty l.session l.rest) (refuse_if (is_full session) 44) _ (λ w room.
          absurd (fresh (looked (afid == no_fid) (is_bound session fid) (is_full session) (not_refused (not (afid == no_fid)) 40 u unkeyed) (not_refused (is_bound session fid) 33 v free) (not_refused (is_full session) 44 w room))))))
        where
          looked : (a b c : Bool) → not a ≡ false → b ≡ false → c ≡ false → (a && not b && not c) ≡ true
          looked true false false x y z = refl
          looked false b c x y z = absurd cc
          looked true true c x y z = absurd cc
          looked true false true x y z = absurd cc

      -- ---- messages that leave a fid

      rebound_some : (fid newfid : ℕ) (node : Node) → (rebound session fid newfid node).fids ≡ [] → ⊥
      rebound_some fid newfid node =
          cond_both (newfid == fid) (with_fid session newfid (fid_at node)) (and_fid session newfid (fid_at node)) (λ (t : Session). t.fids ≡ [] → ⊥) (λ _. some_with session.fids newfid (fid_at node) some) (λ _. some_and session.fids newfid (fid_at node))

      ended_stays : (tag fid newfid : ℕ) (node : Node) (w : List Node × Option ℕ) → Stays (walk_ended session tag fid newfid node w)
      ended_stays tag fid newfid node (nodes, None) = rebound_some fid newfid (last node nodes)
      ended_stays tag fid newfid node ([], Some n) = tt
      ended_stays tag fid newfid node (next ∷ nodes, Some n) = some

      walk_stays : (tag fid newfid : ℕ) (names : List (List ℕ)) → Stays (walk_answer (desktop_for c) session s tag fid newfid names)
      unfolding walk_answer
      walk_stays tag fid newfid names =
          after_step (λ (d : Done). d.session.fids ≡ [] → ⊥) (fid_of session fid) _ (λ from _.
          after_step (λ (d : Done). d.session.fids ≡ [] → ⊥) (refuse_if (is_some from.mode) 36) _ (λ _ _.
          after_step (λ (d : Done). d.session.fids ≡ [] → ⊥) (refuse_if (not (newfid == fid) && is_bound session newfid) 33) _ (λ _ _.
          after_step (λ (d : Done). d.session.fids ≡ [] → ⊥) (refuse_if (not (newfid == fid) && is_full session) 44) _ (λ _ _.
          ended_stays tag fid newfid from.node (walked ((desktop_for c).view s session.connections) from.node names)))))

      beside_leaves : (o : Outcome Done) → Stays o → Leaves (beside s o)
      beside_leaves (Ok d) stays = λ none. absurd (stays none)
      beside_leaves (Err n) stays = tt

      opened_leaves : (tag number mode : ℕ) (fid : Fid) → LostIfEmpty (opened (desktop_for c) session s tag number mode fid).session (opened (desktop_for c) session s tag number mode fid).rest
      opened_leaves tag number mode fid = by (is_kind kind.New fid.node.kind) refl
        where
          by : (new : Bool) → is_kind kind.New fid.node.kind ≡ new → LostIfEmpty (opened (desktop_for c) session s tag number mode fid).session (opened (desktop_for c) session s tag number mode fid).rest
          by true at = rw at (λ none. absurd (some_with session.fids number (record fid { node = ctl_of fid.node (session.made + 1); mode = Some mode }) some none))
          by false at = rw at (λ none. absurd (some_with session.fids number (record fid { mode = Some mode }) some none))

      open_leaves : (tag number mode : ℕ) → Leaves (open_answer (desktop_for c) session s tag number mode)
      unfolding open_answer
      open_leaves tag number mode =
          after_step (λ l. LostIfEmpty l.session l.rest) (fid_of session number) _ (λ fid _.
          after_step (λ l. LostIfEmpty l.session l.rest) (refuse_if (is_some fid.mode) 36) _ (λ _ _.
          after_step (λ l. LostIfEmpty l.session l.rest) (check_live ((desktop_for c).view s session.connections fid.node) fid.node) _ (λ _ _.
          after_step (λ l. LostIfEmpty l.session l.rest) (refuse_if (not (may fid.node mode)) 38) _ (λ _ _.
          after_step (λ l. LostIfEmpty l.session l.rest) (refuse_if (is_taken (desktop_for c) session s fid.node) 43) _ (λ _ _.
          after_step (λ l. LostIfEmpty l.session l.rest) (refuse_if (is_kind kind.New fid.node.kind && nat_le most_made session.made) 44) _ (λ _ _.
          opened_leaves tag number mode fid))))))

      end_leaves : (tag number count : ℕ) (got : Option (Given Desktop)) → Leaves (read_ended session s tag number count got)
      end_leaves tag number count (Some got) = λ none. absurd (some_with session.fids number got.fid some none)
      end_leaves tag number count None = after_step (λ l. LostIfEmpty l.session l.rest) (refuse_if (nat_le most_waiting (length session.waiting)) 45) _ (λ _ _ none. absurd (some none))

      read_leaves : (tag number offset count : ℕ) → Leaves (read_answer (desktop_for c) session s tag number offset count)
      unfolding read_answer
      read_leaves tag number offset count =
          after_step (λ l. LostIfEmpty l.session l.rest) (fid_of session number) _ (λ fid _.
          after_step (λ l. LostIfEmpty l.session l.rest) (refuse_if (is_none fid.mode) 37) _ (λ _ _.
          after_step (λ l. LostIfEmpty l.session l.rest) (refuse_if (not (is_open_for reads fid)) 38) _ (λ _ _.
          after_step (λ l. LostIfEmpty l.session l.rest) (check_live ((desktop_for c).view s session.connections fid.node) fid.node) _ (λ _ _.
          after_step (λ l. LostIfEmpty l.session l.rest) (node_read (desktop_for c) session.connections s fid offset (count_within session count)) _ (λ got _.
          end_leaves tag number (count_within session count) got)))))

      write_leaves : (tag number offset : ℕ) (bytes : List ℕ) (mark : Option ℕ) → Leaves (write_answer (desktop_for c) session s tag number offset bytes mark)
      unfolding write_answer
      write_leaves tag number offset bytes mark =
          after_step (λ l. LostIfEmpty l.session l.rest) (fid_of session number) _ (λ fid _.
          after_step (λ l. LostIfEmpty l.session l.rest) (refuse_if (is_none fid.mode) 37) _ (λ _ _.
          after_step (λ l. LostIfEmpty l.session l.rest) (refuse_if (not (is_open_for writes fid)) 38) _ (λ _ _.
          after_step (λ l. LostIfEmpty l.session l.rest) (check_live ((desktop_for c).view s session.connections fid.node) fid.node) _ (λ _ _.
          after_step (λ l. LostIfEmpty l.session l.rest) (file_written (desktop_for c) s fid.node offset bytes mark fid.node.kind) _ (λ _ _ none. absurd (some none))))))

      stat_stays : (tag fid : ℕ) → Stays (stat_answer (desktop_for c) session s tag fid)
      unfolding stat_answer
      stat_stays tag number =
          after_step (λ (d : Done). d.session.fids ≡ [] → ⊥) (fid_of session number) _ (λ fid _.
          after_step (λ (d : Done). d.session.fids ≡ [] → ⊥) (check_live ((desktop_for c).view s session.connections fid.node) fid.node) _ (λ _ _. some))

      denied_stays : (fid : ℕ) → Stays (denied session fid)
      denied_stays fid = after_step (λ (d : Done). d.session.fids ≡ [] → ⊥) (fid_of session fid) _ (λ _ _. tt)

      -- no attach is looked at
      abbrev pub IsNoAttach : T → Type 0
      IsNoAttach (Tattach tag fid afid uname aname) = is_name_looked_at session fid afid ≡ true → ⊥
      IsNoAttach _ = Unit {0}

      to_leaves : (mark : Option ℕ) (m : T) → IsNoAttach m → Leaves (answer_to (desktop_for c) session s mark m)
      to_leaves mark (Tversion tag msize version) fresh = version_leaves tag msize version
      to_leaves mark (Tauth tag afid uname aname) fresh = tt
      to_leaves mark (Tattach tag fid afid uname aname) fresh = attach_leaves tag fid afid aname fresh
      to_leaves mark (Tflush tag oldtag) fresh = λ none. absurd (some none)
      to_leaves mark (Twalk tag fid newfid names) fresh = beside_leaves (walk_answer (desktop_for c) session s tag fid newfid names) (walk_stays tag fid newfid names)
      to_leaves mark (Topen tag fid mode) fresh = open_leaves tag fid mode
      to_leaves mark (Tcreate tag fid name perm mode) fresh = beside_leaves (denied session fid) (denied_stays fid)
      to_leaves mark (Tread tag fid offset count) fresh = read_leaves tag fid offset count
      to_leaves mark (Twrite tag fid offset bytes) fresh = write_leaves tag fid offset bytes mark
      to_leaves mark (Tclunk tag fid) fresh = clunk_leaves fid (Rclunk tag)
      to_leaves mark (Tremove tag fid) fresh = clunk_leaves fid (refusal tag 38)
      to_leaves mark (Tstat tag fid) fresh = beside_leaves (stat_answer (desktop_for c) session s tag fid) (stat_stays tag fid)
      to_leaves mark (Twstat tag fid stat) fresh = beside_leaves (denied session fid) (denied_stays fid)

      -- what is known of a message that is read: no attach of it is looked at
      abbrev pub AttachesNone : Option T → Type 0
      AttachesNone o = (m : T) → o ≡ Some m → (not (is_version m) && (tag_of_t m == no_tag)) ≡ false → (not (is_version m) && not session.agreed) ≡ false → IsNoAttach m

      or_leaves : (mark : Option ℕ) (o : Option T) → AttachesNone o → Leaves (read_or_not (desktop_for c) session s mark o)
      unfolding answer_read
      or_leaves mark None fresh = tt
      or_leaves mark (Some m) fresh =
          after_step (λ l. LostIfEmpty l.session l.rest) (refuse_if (not (is_version m) && (tag_of_t m == no_tag)) 30) _ (λ u tagged.
          after_step (λ l. LostIfEmpty l.session l.rest) (refuse_if (not (is_version m) && not session.agreed) 31) _ (λ v agreed.
          to_leaves mark m (fresh m refl (not_refused (not (is_version m) && (tag_of_t m == no_tag)) 30 u tagged) (not_refused (not (is_version m) && not session.agreed) 31 v agreed))))

      replied_leaves : (tag : ℕ) (o : Outcome (Left Desktop)) → Leaves o → LostIfEmpty (replied session s tag o).session (replied session s tag o).rest
      replied_leaves tag (Ok l) leaves = leaves
      replied_leaves tag (Err n) leaves = λ none. absurd (some none)

      pub some_answer : (bytes : List ℕ) (mark : Option ℕ) → (taking session bytes ≡ Reads → AttachesNone (message_of bytes)) → LostIfEmpty (answer (desktop_for c) session s bytes mark).session (answer (desktop_for c) session s bytes mark).rest
      unfolding answer
      some_answer bytes mark fresh = by (taking session bytes) fresh
        where
          by : (how : Taking) → (how ≡ Reads → AttachesNone (message_of bytes)) → LostIfEmpty (taken (desktop_for c) session s bytes mark how).session (taken (desktop_for c) session s bytes mark how).rest
          by Ignored fresh = λ none. absurd (some none)
          by TooLong fresh = λ none. absurd (some none)
          by Closes fresh = λ none. cleared_lost some
          by Reads fresh = replied_leaves (tag_of bytes) (read_or_not (desktop_for c) session s mark (message_of bytes)) (or_leaves mark (message_of bytes) (fresh refl))

    -- Where the session has no fid any more after a message, the window is gone.
    pub answer_empties : LostIfEmpty session s → (bytes : List ℕ) (mark : Option ℕ) → (taking session bytes ≡ Reads → (some : session.fids ≡ [] → ⊥) → AttachesNone some (message_of bytes))
        → LostIfEmpty (answer (desktop_for c) session s bytes mark).session (answer (desktop_for c) session s bytes mark).rest
    answer_empties before bytes mark fresh = by session.fids refl
      where
        by : (fids : List (ℕ × Fid)) → session.fids ≡ fids → LostIfEmpty (answer (desktop_for c) session s bytes mark).session (answer (desktop_for c) session s bytes mark).rest
        by [] none = λ _. each_answer_keeps (desktop_for c) (IsLost window) (lost_all c window) (lost_attached c window) session s bytes mark (before none)
        by (entry ∷ fids) at = (let some : session.fids ≡ [] → ⊥ = λ none. absurd (let two : ◌≡◌ {A = List (ℕ × Fid)} (entry ∷ fids) [] = sym at ∙ none in cc) in some_answer some bytes mark (λ reads. fresh reads some))

-- ---- late answers

module _ {S : Type 0} (outside : Outside S) where
  abbrev SomeIfSome : Session → Option (Left S) → Type 0
  SomeIfSome session o = IfSome o (λ l. (session.fids ≡ [] → ⊥) → l.session.fids ≡ [] → ⊥)

  late_some : (session : Session) (s : S) (tag : ℕ) (wait : Wait) (o : Outcome Fid) (later : Option (Left S)) → SomeIfSome session later → SomeIfSome session (answered_or session s tag wait (given_or_refused outside s wait.count o) later)
  late_some session s tag wait (Err n) later more = λ some. some
  late_some session s tag wait (Ok fid) later more = by (given_now outside s fid wait.count fid.node.kind)
    where
      by : (o : Option (Given S)) → SomeIfSome session (answered_or session s tag wait (option_map Ok o) later)
      by None = more
      by (Some got) = some_with session.fids wait.fid got.fid

  first_some : (session : Session) (s : S) (before after : List (ℕ × Wait)) → SomeIfSome session (first_of outside session s before after)
  unfolding first_of wait_answer
  first_some session s before [] = tt
  first_some session s before ((tag, wait) ∷ after) =
      late_some (record session { waiting = before ++ after }) s tag wait (awaited outside session s wait) _ (first_some session s (before ++ (tag, wait) ∷ []) after)

  -- A late answer takes no fid away.
  pub one_some : (session : Session) (s : S) (left : Left S) → one_answered outside session s ≡ Some left → (session.fids ≡ [] → ⊥) → left.session.fids ≡ [] → ⊥
  one_some session s left is = subst (SomeIfSome session) is (first_some session s [] session.waiting)
