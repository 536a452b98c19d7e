-- A message of a session that is alone is answered alike, and leaves what is known of the session.
use Rattle.std.proofs.Common.{◌≡◌, ◌∙◌, ℕ, ◌==◌, ◌+◌, ◌<◌, Bool, true, false, List, [], ◌∷◌, ◌++◌, fold, Option, Some, None, is_some, Ok, Err, refl, sym, ap, subst, eqb-true}
use Rattle.std.specs.Prelude.{not, is_none, ◌&&◌, ◌||◌, if◌then◌else◌}
use Rattle.std.specs.List.{cons_option, filter_map}
use Rattle.std.specs.Option.{option_map, option_map_or, unwrap_or}
use Rattle.std.proofs.lemmas.List.Elements.{All-weaker}
use Rattle.r9_event.specs.declared.event.event.Event.TheVariants.{Msg}
use Rattle.r9_event.specs.declared.event.event.Reply.{Reply}
use Rattle.r9_event.specs.declared.event.own.Item.{Item}
use Rattle.r9_event.specs.declared.event.own.Item.TheVariants.{Sent}
use Rattle.r9_event.specs.declared.event.own.Use.{Use}
use Rattle.r9_event.specs.declared.event.own.Use.TheVariants as uses
use Rattle.model_text.specs.text.Map.{lookup}
use Rattle.model_text.specs.text.Outcome.{Outcome}
use Rattle.model_text.proofs.map.Ascending.{ascend-with}
use Rattle.model_text.proofs.map.Keys.{eqb-same}
use Rattle.model_text.proofs.map.Maps.{and-here, with-here}
use Rattle.model_rio.specs.window.Pane.{Pane}
use Rattle.model_files.specs.wire.Message.{T, Rattach, Tattach, Twalk, Topen, Twrite, Tversion, Tauth, Tflush, Tcreate, Tread, Tclunk, Tremove, Tstat, Twstat, no_fid, no_tag, tag_of_t}
use Rattle.model_files.specs.wire.Reading.{message_of}
use Rattle.model_rio.specs.rio.Table.{Rio, Table, Window, is_host, window_of}
use Rattle.model_draw.specs.draw.World as draw
use Rattle.model_files.specs.tree.Attach.{Attach, Whole, Existing, Fresh, Unknown, attach_of}
use Rattle.model_files.specs.tree.Node.{qid, reads, writes}
use Rattle.model_files.specs.tree.Tree.{root_of}
use Rattle.model_world.specs.Session.{Fid, Session, fid_at}
use Rattle.model_world.specs.Desktop.{Desktop, stepped}
use Rattle.model_world.specs.Fids.{Left, and_fid, is_full, left}
use Rattle.model_world.specs.Reading.{count_within}
use Rattle.model_world.specs.Answer.{Taking, Ignored, TooLong, Closes, Reads, answer, is_version, taking}
use Rattle.model_world.specs.Walking.{open_answer, walk_answer}
use Rattle.model_world.specs.Whole as whole
use Rattle.model_world.specs.Whole.{desktop_for, used_by}
use Rattle.model_world.specs.World.{World}
use Rattle.model_world.specs.Replay.{Turn, closing_tag, reply_to, served, settled, step, with_left}
use Rattle.model_alone.specs.alone.Isolated.{replies_to}
use Rattle.model_alone.specs.alone.Own.{Judged, Watched, after_use, effective, judged, judged_by, noted, only_if, reasons, reasons_from}
use Rattle.model_alone.specs.alone.Uses.{attach_used, bytes_used, event_used, file_reached, if_bound, if_done, is_fresh, is_in_root, is_name_looked_at, message_used, new_hosts, read_used, reading_used, window_at, write_used}
use Rattle.model_alone.specs.alone.Lone.{LoneWorld, lone_step}
use Rattle.model_alone.proofs.alone.Histories.{lone_after}
use Rattle.law_strangers.specs.followed.Devices.{AreNamesFree, IsDeviceLike}
use Rattle.law_strangers.specs.followed.Following.{SameWindows}
use Rattle.law_strangers.proofs.private.Keeping.{IsMineFid, KeepsMine}
use Rattle.law_strangers.proofs.private.Privacy.{IsNoFreshAttach}
use Rattle.law_strangers.proofs.events.Messages.{IsWith}
use Rattle.law_strangers.proofs.events.Messages as events
use Rattle.law_strangers.proofs.turns.Turns.{turned_with}
use Rattle.law_strangers.proofs.unnoticed.Late.{KeepsWindows, settled_windows}
use Rattle.law_strangers.proofs.users.Emptied.{AllRooted}
use Rattle.law_strangers.proofs.users.Worlds.{IsServed}
use Rattle.law_isolation.proofs.attached.Making.{new_made}
use Rattle.law_isolation.proofs.attached.Attaching.{IsAttach, IsFresh, attach_alike, attach_answered, attach_refused, attach_some, fresh_of, none_mine}
use Rattle.law_isolation.proofs.attached.Attaching as attaching
use Rattle.law_isolation.proofs.phases.Living.{IsUsed, settled_used, turned_used}
use Rattle.law_isolation.proofs.phases.Living as living

-- ---- uses

-- no reason of uses, and of the first of them
first_part : (own : Bool) (seen : Watched) (xs ys : List Use) → reasons_from own seen (xs ++ ys) ≡ [] → reasons_from own seen xs ≡ []
first_part own seen [] ys fine = refl
first_part own seen (x ∷ xs) ys fine =
    let two = parts (reasons own seen x) (reasons_from own (after_use own seen x) (xs ++ ys)) fine in
    ap (λ (ns : List ℕ). ns ++ reasons_from own (after_use own seen x) xs) two.0 ∙ first_part own (after_use own seen x) xs ys two.1
  where
    parts : (ns ms : List ℕ) → ns ++ ms ≡ [] → (ns ≡ []) × (ms ≡ [])
    parts [] ms none = (refl, none)
    parts (n ∷ ns) ms none = absurd cc

-- a session that has attached is known as well as it ever is
all_known : (seen : Watched) → seen.attached ≡ true → (used : List Use) → fold (after_use true) seen used ≡ seen
all_known seen attached [] = refl
all_known seen attached (u ∷ used) = ap (λ (w : Watched). fold (after_use true) w used) (one u) ∙ all_known seen attached used
  where
    one : (u : Use) → after_use true seen u ≡ seen
    one (uses.Attach fresh window root) = rw attached refl
    one (uses.Name window) = refl
    one (uses.Walk window) = refl
    one (uses.Host window) = refl
    one (uses.Own reason) = refl

-- rios that start make no window known
hosts_known : (seen : Watched) (table : Table) (rios : List Rio) → fold (after_use true) seen (filter_map (λ rio. if is_host table rio.host then None else Some (uses.Host rio.host)) rios) ≡ seen
hosts_known seen table [] = refl
hosts_known seen table (r ∷ rios) = by (is_host table r.host) (hosts_known seen table rios)
  where
    rest : List Use
    rest = filter_map (λ rio. if is_host table rio.host then None else Some (uses.Host rio.host)) rios

    by : (b : Bool) → fold (after_use true) seen rest ≡ seen → fold (after_use true) seen (cons_option (if b then None else Some (uses.Host r.host)) rest) ≡ seen
    by true more = more
    by false more = more

done_none : {A : Type 0} (o : Outcome A) (used : List Use) → used ≡ [] → if_done o used ≡ []
done_none (Ok x) used none = none
done_none (Err n) used none = refl

not_looked : (b : Bool) (used : List Use) → (b ≡ true → ⊥) → (if b then used else []) ≡ []
not_looked true used none = absurd (none refl)
not_looked false used none = refl

module _ (session : Session) where
  -- no attach is looked at
  abbrev pub NoAttach : T → Type 0
  NoAttach (Tattach tag fid afid uname aname) = is_name_looked_at session fid afid ≡ true → ⊥
  NoAttach _ = Unit {0}

  -- so where the message is not refused at once
  abbrev pub NoneRead : Option T → Type 0
  NoneRead o = (m : T) → o ≡ Some m → (not (is_version m) && (tag_of_t m == no_tag)) ≡ false → (not (is_version m) && not session.agreed) ≡ false → NoAttach m

if_true : {A : Type 0} (b : Bool) (used : List A) → (b ≡ true → used ≡ []) → (if b then used else []) ≡ []
if_true true used none = none refl
if_true false used none = refl

both_true : (a b : Bool) → (a && not b) ≡ true → (a ≡ true) × (b ≡ false)
both_true true false is = (refl, refl)
both_true true true is = absurd cc
both_true false b is = absurd cc

module _ (c : ℕ) (s : Desktop) (session after : Session) (table : Table) (mark : Option ℕ) (empty : session.fids ≡ []) where
  bound_none : (fid : ℕ) (used : Fid → List Use) → if_bound session fid used ≡ []
  bound_none fid used = ap (λ (fids : List (ℕ × Fid)). option_map_or used (lookup fids fid) []) empty

  reached_none : (allows : ℕ → Bool) (fid : ℕ) → file_reached allows c session s fid ≡ Err 32
  reached_none allows fid = rw empty refl

  -- a session without fids uses nothing, but by an attach
  message_none : (m : T) → NoAttach session m → message_used c session s after table mark m ≡ []
  message_none (Tattach tag fid afid uname aname) none = not_looked (is_name_looked_at session fid afid) (attach_used table aname (window_at after fid) ∷ []) none
  message_none (Twalk tag fid newfid names) none = done_none (walk_answer (desktop_for c) session s tag fid newfid names) _ (bound_none fid _)
  message_none (Topen tag fid mode) none = done_none (open_answer (desktop_for c) session s tag fid mode) _ (bound_none fid _)
  message_none (Twrite tag fid offset bytes) none = ap (write_used c s bytes mark) (reached_none writes fid)
  message_none (Tversion tag msize version) none = refl
  message_none (Tauth tag afid uname aname) none = refl
  message_none (Tflush tag oldtag) none = refl
  message_none (Tcreate tag fid name perm mode) none = refl
  message_none (Tread tag fid offset count) none = ap (reading_used c s offset (count_within session count)) (reached_none reads fid)
  message_none (Tclunk tag fid) none = refl
  message_none (Tremove tag fid) none = refl
  message_none (Tstat tag fid) none = refl
  message_none (Twstat tag fid stat) none = refl

  version_off : (v b : Bool) → b ≡ false → (not v && b) ≡ false
  version_off true b off = refl
  version_off false b off = off

  read_none : (o : Option T) → NoneRead session o → read_used c session s after table mark o ≡ []
  read_none None none = refl
  read_none (Some m) none = if_true (session.agreed && not (tag_of_t m == no_tag)) (message_used c session s after table mark m) (λ is.
      (let two = both_true session.agreed (tag_of_t m == no_tag) is in
      message_none m (none m refl (version_off (is_version m) (tag_of_t m == no_tag) two.1) (version_off (is_version m) (not session.agreed) (ap not two.0)))))

  pub bytes_none : (bytes : List ℕ) (how : Taking) → (how ≡ Reads → NoneRead session (message_of bytes)) → bytes_used c session s after table mark bytes how ≡ []
  bytes_none bytes Ignored none = refl
  bytes_none bytes TooLong none = refl
  bytes_none bytes Closes none = refl
  bytes_none bytes Reads none = read_none (message_of bytes) (none refl)

-- ---- a session that lives

module _ (c : ℕ) (begin : 0 < c) (Like : Option (ℕ × ℕ) → Option (ℕ × List ℕ) → draw.World → draw.World → Type 0) (Named : draw.World → Table → List (ℕ × Pane) → Type 0) (laws : IsDeviceLike c Like) (names : AreNamesFree Named) where
  -- Both worlds are the same to the session; until its first attach it has no window; and it alone uses the one that it has.
  pub record IsLiving (world : World) (lone : LoneWorld) (seen : Watched) : Type 0 where
    pub with : IsWith c begin Like Named laws names seen world lone
    pub unattached : seen.attached ≡ false → seen.window ≡ None
    pub used : (window : ℕ) → seen.window ≡ Some window → IsUsed c window world

  -- a window that the session has
  pub counted_of : (seen : Watched) (world : World) (lone : LoneWorld) → IsWith c begin Like Named laws names seen world lone → (window : ℕ) → seen.window ≡ Some window → (window == 0) ≡ false
  counted_of seen world lone is window its = by seen.window its is.same.window
    where
      by : (o : Option ℕ) → o ≡ Some window → SameWindows world.desktop lone.desktop o → (window == 0) ≡ false
      by None e same = absurd cc
      by (Some n) e same = let it : n ≡ window = cc in subst (λ (k : ℕ). (k == 0) ≡ false) it same.counted

  pub rooted_of : (own : Option ℕ) (session : Session) → KeepsMine own session → (window : ℕ) (counted_so : (window == 0) ≡ false) → own ≡ Some window → AllRooted c window counted_so session
  rooted_of own session mine window counted_so its =
      All-weaker (λ (entry : ℕ × Fid). IsMineFid own entry.1) (λ (entry : ℕ × Fid). entry.1.node.root ≡ window) (λ entry is. root entry.1.node.root is.node.root) session.fids mine.fids
    where
      root : (n : ℕ) → own ≡ Some n → n ≡ window
      root n e = let two : ◌≡◌ {A = Option ℕ} (Some n) (Some window) = sym e ∙ its in cc

  module _ (world : World) (lone : LoneWorld) (seen : Watched) (is : IsLiving world lone seen) (begun : ℕ) (served_so : IsServed begun world) (bytes : List ℕ) (mark : Option ℕ) where
    abbrev session : Session
    session = lone.session

    abbrev after : Left Desktop
    after = answer (desktop_for c) session world.desktop bytes mark

    abbrev next : World
    next = with_left world c after

    abbrev final : World
    final = (settled next).0

    abbrev all_replies : List Reply
    all_replies = reply_to c after.reply ++ (settled next).1

    abbrev left_session : Session
    left_session = unwrap_or (lookup final.sessions c) session

    abbrev used : List Use
    used = bytes_used c session world.desktop left_session final.desktop.table mark bytes (taking session bytes) ++ new_hosts world.desktop.table final.desktop.table

    abbrev known_after : Watched
    known_after = fold (after_use true) seen used

    -- what the session is told
    abbrev told_items : List Item
    told_items = Sent bytes (effective bytes mark all_replies) ∷ noted known_after final.desktop.notes

    abbrev turn_world : World
    turn_world = record final { desktop = record final.desktop { notes = []; cost = 0 } }

    -- how the event is judged, from its turn
    abbrev judged_turn : Turn → Judged
    judged_turn turn = judged_by c seen (event_used world turn.world (Msg c bytes mark)) turn.notes turn.replies (Msg c bytes mark)

    abbrev judged_known : Watched → Judged
    judged_known known = record { reasons = reasons_from true seen used; items = Sent bytes (effective bytes mark all_replies) ∷ noted known final.desktop.notes; seen = known }

    judged_so : judged_turn (served world c bytes mark (Some session)) ≡ judged_known known_after
    unfolding judged_by event_used
    judged_so = rw (eqb-same c, is.with.lives) refl

    step_so : step world (Msg c bytes mark) ≡ served world c bytes mark (Some session)
    step_so = ap (served world c bytes mark) is.with.lives

    abbrev IsAlikeAs : Turn → Judged → Type 0
    IsAlikeAs turn j = (replies_to c turn.replies ≡ (lone_after lone j.items).1) × IsLiving turn.world (lone_after lone j.items).0 j.seen

    -- The message is answered alike, and the session lives on.
    abbrev pub IsOwnAlike : Type 0
    IsOwnAlike = IsAlikeAs (step world (Msg c bytes mark)) (judged c world seen (Msg c bytes mark))

    own_alike : (known : Watched) → known_after ≡ known → IsAlikeAs (served world c bytes mark (Some session)) (judged_known known) → IsOwnAlike
    own_alike known so alike =
        subst (λ (turn : Turn). IsAlikeAs turn (judged_turn turn)) (sym step_so)
        (subst (IsAlikeAs (served world c bytes mark (Some session))) (sym (judged_so ∙ ap judged_known so)) alike)

    reasons_so : (judged c world seen (Msg c bytes mark)).reasons ≡ [] → reasons_from true seen used ≡ []
    reasons_so fine = sym (ap (λ (j : Judged). j.reasons) judged_so) ∙ ap (λ (turn : Turn). (judged_turn turn).reasons) (sym step_so) ∙ fine

    -- ---- no attach

    module _ (fine : reasons_from true seen used ≡ []) (none : taking session bytes ≡ Reads → NoneRead session (message_of bytes)) where
      -- the session is known no better
      known_same : known_after ≡ seen
      known_same = by seen.attached refl
        where
          by : (b : Bool) → seen.attached ≡ b → known_after ≡ seen
          by true attached = all_known seen attached used
          by false attached =
              let mine = subst (λ (o : Option ℕ). KeepsMine o session) (is.unattached attached) is.with.mine in
              ap (λ (us : List Use). fold (after_use true) seen (us ++ new_hosts world.desktop.table final.desktop.table))
              (bytes_none c world.desktop session left_session final.desktop.table mark (none_mine session mine) bytes (taking session bytes) none)
              ∙ hosts_known seen world.desktop.table final.desktop.table.rios

      fresh_of_message : (m : T) → NoAttach session m → IsNoFreshAttach c begin Like Named laws names seen session m
      fresh_of_message (Tattach tag fid afid uname aname) none = none
      fresh_of_message (Twalk tag fid newfid names) none = tt
      fresh_of_message (Topen tag fid mode) none = tt
      fresh_of_message (Twrite tag fid offset data_bytes) none = tt
      fresh_of_message (Tversion tag msize version) none = tt
      fresh_of_message (Tauth tag afid uname aname) none = tt
      fresh_of_message (Tflush tag oldtag) none = tt
      fresh_of_message (Tcreate tag fid name perm mode) none = tt
      fresh_of_message (Tread tag fid offset count) none = tt
      fresh_of_message (Tclunk tag fid) none = tt
      fresh_of_message (Tremove tag fid) none = tt
      fresh_of_message (Tstat tag fid) none = tt
      fresh_of_message (Twstat tag fid stat) none = tt

      both : (replies_to c all_replies ≡ (lone_step lone (events.items c begin Like Named laws names seen world lone is.with served_so.quiet bytes mark)).1)
          × IsWith c begin Like Named laws names seen final (lone_step lone (events.items c begin Like Named laws names seen world lone is.with served_so.quiet bytes mark)).0
      both =
          events.own_message c begin Like Named laws names seen world lone is.with served_so.quiet bytes mark left_session final.desktop.table
          (λ reads m spelled tagged agreed. fresh_of_message m (none reads m spelled tagged agreed))
          (first_part true seen (bytes_used c session world.desktop left_session final.desktop.table mark bytes (taking session bytes)) (new_hosts world.desktop.table final.desktop.table) fine)

      message_used_so : (window : ℕ) → seen.window ≡ Some window → IsUsed c window turn_world
      message_used_so window its =
          let some = counted_of seen world lone is.with window its in
          living.own_message c window some world served_so.well.order (is.used window its) session is.with.lives (rooted_of seen.window session is.with.mine window some its) bytes mark
          (λ reads m spelled tagged agreed. of_message window its m (none reads m spelled tagged agreed))
        where
          of_message : (window : ℕ) (its : seen.window ≡ Some window) (m : T) → NoAttach session m
              → living.NoAttach c window (counted_of seen world lone is.with window its) world served_so.well.order (is.used window its) session is.with.lives (rooted_of seen.window session is.with.mine window (counted_of seen world lone is.with window its) its) m
          of_message window its (Tattach tag fid afid uname aname) none = none
          of_message window its (Twalk tag fid newfid names) none = tt
          of_message window its (Topen tag fid mode) none = tt
          of_message window its (Twrite tag fid offset data_bytes) none = tt
          of_message window its (Tversion tag msize version) none = tt
          of_message window its (Tauth tag afid uname aname) none = tt
          of_message window its (Tflush tag oldtag) none = tt
          of_message window its (Tcreate tag fid name perm mode) none = tt
          of_message window its (Tread tag fid offset count) none = tt
          of_message window its (Tclunk tag fid) none = tt
          of_message window its (Tremove tag fid) none = tt
          of_message window its (Tstat tag fid) none = tt
          of_message window its (Twstat tag fid stat) none = tt

      plain_alike : IsOwnAlike
      plain_alike = own_alike seen known_same (
        both.0,
        record {
          with = turned_with c begin Like Named laws names seen final (lone_step lone (events.items c begin Like Named laws names seen world lone is.with served_so.quiet bytes mark)).0 both.1 all_replies (closing_tag bytes (taking session bytes));
          unattached = is.unattached;
          used = message_used_so;
        },
      )

    -- ---- the attach that gives the window

    module _ (tag fid afid : ℕ) (uname aname : List ℕ) (attach : IsAttach session bytes tag fid afid uname aname) (fine : reasons_from true seen used ≡ []) where
      abbrev hosts : List Use
      hosts = new_hosts world.desktop.table final.desktop.table

      abbrev window_left : Option ℕ
      window_left = window_at left_session fid

      abbrev in_root : Bool
      in_root = is_in_root final.desktop.table window_left

      abbrev attach_use : Use
      attach_use = uses.Attach (is_fresh (attach_of aname)) window_left in_root

      agreed_so : (b : Bool) → not b ≡ false → b ≡ true
      agreed_so true off = refl
      agreed_so false off = absurd cc

      reads_so : (session.agreed && not (tag == no_tag)) ≡ true
      reads_so = rw (agreed_so session.agreed attach.agreed, attach.tagged) refl

      used_so : used ≡ attach_use ∷ hosts
      used_so =
          ap (λ (us : List Use). us ++ hosts)
          (ap (bytes_used c session world.desktop left_session final.desktop.table mark bytes) attach.reads
          ∙ ap (read_used c session world.desktop left_session final.desktop.table mark) attach.spelled
          ∙ ap (λ (b : Bool). if b then message_used c session world.desktop left_session final.desktop.table mark (Tattach tag fid afid uname aname) else []) reads_so
          ∙ ap (λ (b : Bool). if b then attach_use ∷ [] else []) attach.looked)

      -- what the first attach of a session that is alone is like
      facts : (attached fresh : Bool) (window : Option ℕ) (root : Bool) (more : List ℕ) → (if attached then 1 ∷ [] else if not fresh then 1 ∷ [] else if is_none window then 2 ∷ [] else only_if (not root) 11) ++ more ≡ []
          → (attached ≡ false) × (fresh ≡ true) × (is_none window ≡ false) × (root ≡ true)
      facts false true (Some n) true more none = (refl, refl, refl, refl)
      facts true fresh window root more none = absurd cc
      facts false false window root more none = absurd cc
      facts false true None root more none = absurd cc
      facts false true (Some n) false more none = absurd cc

      known_facts : (seen.attached ≡ false) × (is_fresh (attach_of aname) ≡ true) × (is_none window_left ≡ false) × (in_root ≡ true)
      known_facts =
          facts seen.attached (is_fresh (attach_of aname)) window_left in_root (reasons_from true (after_use true seen attach_use) hosts)
          (sym (ap (reasons_from true seen) used_so) ∙ fine)

      no_window : seen.window ≡ None
      no_window = is.unattached known_facts.0

      kept : KeepsWindows next final c
      kept = settled_windows next c (ascend-with world.sessions c after.session served_so.well.order)

      -- what the attach led to is known after all late answers
      window_known : window_left ≡ window_at after.session fid
      window_known = by (lookup final.sessions c) (kept.windows fid ∙ ap (option_map (λ (t : Session). window_at t fid)) (with-here world.sessions c session after.session is.with.lives))
        where
          by : (o : Option Session) → option_map (λ t. window_at t fid) o ≡ Some (window_at after.session fid) → window_at (unwrap_or o session) fid ≡ window_at after.session fid
          by (Some t) e = cc
          by None e = absurd cc

      -- it is not refused
      unbound : window_at session fid ≡ None
      unbound = by (lookup session.fids fid) (off (afid == no_fid) (fid == no_fid) (is_some (lookup session.fids fid)) (is_full session) attach.looked)
        where
          off : (a b e d : Bool) → (a && not (b || e) && not d) ≡ true → e ≡ false
          off true false false d is = refl
          off true true e d is = absurd cc
          off true false true d is = absurd cc
          off false b e d is = absurd cc

          by : (o : Option Fid) → is_some o ≡ false → option_map_or (λ f. if f.node.root == 0 then None else Some f.node.root) o None ≡ None
          by None is = refl
          by (Some f) is = absurd cc

      not_refused : (n : ℕ) → whole.attached c world.desktop (attach_of aname) ≡ Err n → ⊥
      not_refused n e =
          let none : window_left ≡ None = window_known ∙ ap (λ (l : Left Desktop). window_at l.session fid) (attach_refused (desktop_for c) session world.desktop bytes mark tag fid afid uname aname attach n e) ∙ unbound in
          let two : true ≡ false = sym (ap is_none none) ∙ known_facts.2 in
          cc two

      module _ (root : Desktop × ℕ) (given : whole.attached c world.desktop (attach_of aname) ≡ Ok root) (path text : List ℕ) (asked : attach_of aname ≡ Fresh path text) where
        fresh : IsFresh c world.desktop root
        fresh = fresh_of c world.desktop root path text (subst (λ (a : Attach). whole.attached c world.desktop a ≡ Ok root) asked given)

        abbrev known : Watched
        known = record { attached = true; window = Some root.1 }

        counted_root : (root.1 == 0) ≡ false
        counted_root = attaching.counted c begin Like Named laws names seen world lone is.with no_window served_so.quiet served_so.well bytes mark tag fid afid uname aname attach path text asked root given fresh

        serial_root : root.1 ≡ world.desktop.table.serials + 1
        serial_root = attaching.serial c begin Like Named laws names seen world lone is.with no_window served_so.quiet served_so.well bytes mark tag fid afid uname aname attach path text asked root given fresh

        answered : after ≡ left (and_fid session fid (fid_at (root_of root.1)), root.0) (Rattach tag (qid (root_of root.1)))
        answered = attach_answered (desktop_for c) session world.desktop bytes mark tag fid afid uname aname attach root given

        window_so : window_left ≡ Some root.1
        window_so =
            window_known ∙ ap (λ (l : Left Desktop). window_at l.session fid) answered
            ∙ ap (λ (o : Option Fid). option_map_or (λ f. if f.node.root == 0 then None else Some f.node.root) o None) (and-here session.fids fid (fid_at (root_of root.1)))
            ∙ root_so
          where
            root_so : (if (root_of root.1).root == 0 then None else Some (root_of root.1).root) ≡ Some root.1
            root_so = rw (counted_root, counted_root) refl

        table_so : final.desktop.table ≡ fresh.step.table
        unfolding stepped
        table_so = kept.table ∙ ap (λ (l : Left Desktop). l.rest.table) answered ∙ ap (λ (r : Desktop × ℕ). r.0.table) fresh.left_so

        home : fresh.host ≡ 0
        home =
            let made = new_made world.desktop.table fresh.host fresh.options fresh.hide fresh.step fresh.done in
            let there : window_of fresh.step.table root.1 ≡ Some made.window = ap (window_of fresh.step.table) serial_root ∙ made.there in
            let rooted : (made.window.host == 0) ≡ true =
            sym (ap (λ (o : Option Window). option_map_or (λ w. w.host == 0) o false) there) ∙ sym (ap (λ (t : Table). is_in_root t (Some root.1)) table_so) ∙ sym (ap (is_in_root final.desktop.table) window_so) ∙ known_facts.3 in
            sym made.home ∙ eqb-true made.window.host 0 rooted

        known_so : known_after ≡ known
        known_so =
            ap (fold (after_use true) seen) used_so
            ∙ ap (λ (w : Watched). fold (after_use true) w hosts) (ap (λ (b : Bool). if b then seen else record { attached = true; window = window_left }) known_facts.0 ∙ ap (λ (w : Option ℕ). record { attached = true; window = w }) window_so)
            ∙ hosts_known known world.desktop.table final.desktop.table.rios

        told_alike : (replies_to c all_replies ≡ (lone_step lone (Sent bytes (effective bytes mark all_replies) ∷ noted known final.desktop.notes)).1)
            × IsWith c begin Like Named laws names known final (lone_step lone (Sent bytes (effective bytes mark all_replies) ∷ noted known final.desktop.notes)).0
        told_alike =
            attach_alike c begin Like Named laws names seen world lone is.with no_window served_so.quiet served_so.well bytes mark tag fid afid uname aname attach path text asked root given fresh home (effective bytes mark all_replies)

        used_root : IsUsed c root.1 turn_world
        used_root = turned_used c root.1 final (settled_used c root.1 next (ascend-with world.sessions c after.session served_so.well.order) (record {
          used = attaching.attach_used c begin Like Named laws names seen world lone is.with no_window served_so.quiet served_so.well bytes mark tag fid afid uname aname attach path text asked root given fresh home served_so.well.regular;
          empty = λ own there none.
              (let two : ◌≡◌ {A = Option Session} (Some after.session) (Some own) = sym (with-here world.sessions c session after.session is.with.lives) ∙ there in
              let same : after.session ≡ own = cc in
              absurd (attach_some c begin Like Named laws names seen world lone is.with no_window served_so.quiet served_so.well bytes mark tag fid afid uname aname attach path text asked root given fresh home (ap (λ (t : Session). t.fids) same ∙ none)));
        }))

        given_alike : IsOwnAlike
        given_alike = own_alike known known_so (
          told_alike.0,
          record {
            with = turned_with c begin Like Named laws names known final (lone_step lone (Sent bytes (effective bytes mark all_replies) ∷ noted known final.desktop.notes)).0 told_alike.1 all_replies (closing_tag bytes (taking session bytes));
            unattached = λ off. absurd cc;
            used = λ window its. (let same : root.1 ≡ window = cc in subst (λ (n : ℕ). IsUsed c n turn_world) same used_root);
          },
        )

      of_fresh : (a : Attach) → is_fresh a ≡ true → (path : List ℕ) × (text : List ℕ) × (a ≡ Fresh path text)
      of_fresh (Fresh path text) is = (path, text, refl)
      of_fresh Whole is = absurd cc
      of_fresh (Existing path) is = absurd cc
      of_fresh Unknown is = absurd cc

      attach_own : IsOwnAlike
      attach_own = by (whole.attached c world.desktop (attach_of aname)) refl
        where
          by : (o : Outcome (Desktop × ℕ)) → whole.attached c world.desktop (attach_of aname) ≡ o → IsOwnAlike
          by (Err n) e = absurd (not_refused n e)
          by (Ok root) e = let name = of_fresh (attach_of aname) known_facts.1 in given_alike root e name.0 name.1 name.2

    -- ---- each message

    message_alike : reasons_from true seen used ≡ [] → (o : Option T) → message_of bytes ≡ o → IsOwnAlike
    message_alike fine (Some (Tattach tag fid afid uname aname)) spelled = by (taking session bytes) refl
      where
        plain : (taking session bytes ≡ Reads → (tag == no_tag) ≡ false → not session.agreed ≡ false → is_name_looked_at session fid afid ≡ true → ⊥) → IsOwnAlike
        plain none = plain_alike fine (λ reads m at tagged agreed. message_none reads m (sym spelled ∙ at) tagged agreed)
          where
            message_none : taking session bytes ≡ Reads → (m : T) → ◌≡◌ {A = Option T} (Some (Tattach tag fid afid uname aname)) (Some m) → (not (is_version m) && (tag_of_t m == no_tag)) ≡ false → (not (is_version m) && not session.agreed) ≡ false → NoAttach session m
            message_none reads m at tagged agreed =
                let same : Tattach tag fid afid uname aname ≡ m = cc in
                subst (λ (n : T). (not (is_version n) && (tag_of_t n == no_tag)) ≡ false → (not (is_version n) && not session.agreed) ≡ false → NoAttach session n) same (λ t a looked. none reads t a looked) tagged agreed

        tests : taking session bytes ≡ Reads → (a n l : Bool) → not session.agreed ≡ a → (tag == no_tag) ≡ n → is_name_looked_at session fid afid ≡ l → IsOwnAlike
        tests reads false false true a n l = attach_own tag fid afid uname aname (record { reads = reads; spelled = spelled; tagged = n; agreed = a; looked = l }) fine
        tests reads true n l a n_so l_so = plain (λ _ tagged agreed looked. absurd (let two : true ≡ false = sym a ∙ agreed in cc))
        tests reads false true l a n_so l_so = plain (λ _ tagged agreed looked. absurd (let two : true ≡ false = sym n_so ∙ tagged in cc))
        tests reads false false false a n_so l_so = plain (λ _ tagged agreed looked. absurd (let two : false ≡ true = sym l_so ∙ looked in cc))

        by : (how : Taking) → taking session bytes ≡ how → IsOwnAlike
        by Reads at = tests at (not session.agreed) (tag == no_tag) (is_name_looked_at session fid afid) refl refl refl
        by Ignored at = plain (λ reads _ _ _. absurd (let two : Ignored ≡ Reads = sym at ∙ reads in cc))
        by TooLong at = plain (λ reads _ _ _. absurd (let two : TooLong ≡ Reads = sym at ∙ reads in cc))
        by Closes at = plain (λ reads _ _ _. absurd (let two : Closes ≡ Reads = sym at ∙ reads in cc))
    message_alike fine None spelled = plain_alike fine (λ reads m at tagged agreed. absurd (let two : ◌≡◌ {A = Option T} None (Some m) = sym spelled ∙ at in cc))
    message_alike fine (Some m) spelled = plain_alike fine (λ reads n at tagged agreed. other n (sym spelled ∙ at))
      where
        other : (n : T) → ◌≡◌ {A = Option T} (Some m) (Some n) → NoAttach session n
        other n at = let same : m ≡ n = cc in subst (NoAttach session) same tt

    -- Each message of the session that gives no reason.
    pub own_message_alike : (judged c world seen (Msg c bytes mark)).reasons ≡ [] → IsOwnAlike
    own_message_alike fine = message_alike (reasons_so fine) (message_of bytes) refl
