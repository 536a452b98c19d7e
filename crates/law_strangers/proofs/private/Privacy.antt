-- Where an event gives no reason, what its session asks is what it may ask where it is alone.
use Rattle.std.proofs.Common.{◌≡◌, ℕ, ◌==◌, ◌<◌, Bool, true, false, List, [], ◌∷◌, Option, Some, None, is_some, Ok, refl, sym, subst, inl, inr}
use Rattle.std.specs.Prelude.{◌⊎◌, All, nat_lt, not, is_none, ◌&&◌, if◌then◌else◌}
use Rattle.std.specs.List.{flat_map}
use Rattle.std.specs.Option.{option_map_or}
use Rattle.std.proofs.lemmas.List.Elements.{All-nil, All-weaker}
use Rattle.r9_event.specs.declared.event.own.Use.{Use}
use Rattle.r9_event.specs.declared.event.own.Use.TheVariants as uses
use Rattle.model_text.specs.text.Outcome.{Outcome, value_or_refuse}
use Rattle.model_text.specs.text.Map.{lookup}
use Rattle.model_rio.specs.window.Pane.{Pane}
use Rattle.model_files.specs.wire.Message.{T, Tattach, Twalk, Topen, Twrite, Tversion, Tauth, Tflush, Tcreate, Tread, Tclunk, Tremove, Tstat, Twstat}
use Rattle.model_rio.specs.rio.Table.{Table}
use Rattle.model_draw.specs.draw.World as draw
use Rattle.model_draw.specs.draw.World.{client_of}
use Rattle.model_draw.specs.draw.Act.{written}
use Rattle.model_files.specs.declared.tree.Kind.{Kind}
use Rattle.model_files.specs.declared.tree.Kind.TheVariants as kind
use Rattle.model_files.specs.tree.Node.{Node, reads, writes}
use Rattle.model_files.specs.tree.Tree.{View, check_live}
use Rattle.model_world.specs.Session.{Fid, Session}
use Rattle.model_world.specs.Fids.{Done, fid_of, is_bound, is_full}
use Rattle.model_world.specs.Walking.{walk_answer, walk_ended, walked}
use Rattle.model_world.specs.Reading.{count_within, ctl_len, is_open_for}
use Rattle.model_world.specs.Desktop.{Desktop}
use Rattle.model_world.specs.Whole.{client, desktop_for, view_of}
use Rattle.law_likeness.specs.agreement.Agreement.{IsPlain, IsPrivate, MayRead, MayWrite}
use Rattle.model_alone.specs.alone.Own.{Watched, reasons_from}
use Rattle.model_alone.specs.alone.Uses.{asks_for_windows, contents_used, file_of_read, file_reached, file_used, if_bound, if_done, is_name_looked_at, look_used, looked_at, message_used, reached_file, reading_used, step_used, tells_size, write_used}
use Rattle.model_alone.specs.alone.Lone.{LoneDesktop}
use Rattle.law_strangers.specs.followed.Devices.{AreNamesFree, IsDeviceLike, KeepsWithin, told_mark}
use Rattle.law_strangers.specs.followed.Following.{HasConnection, HasWindow, May, SameDesktops, named_in}
use Rattle.law_strangers.proofs.followed.Outsides.{view_same}
use Rattle.law_strangers.proofs.private.Reasons.{each_fine, own_message}
use Rattle.law_strangers.proofs.private.Walks.{IsMine, walked_mine}

module _ (c : ℕ) (begin : 0 < c) (Like : Option (ℕ × ℕ) → Option (ℕ × List ℕ) → draw.World → draw.World → Type 0) (Named : draw.World → Table → List (ℕ × Pane) → Type 0) (laws : IsDeviceLike c Like) (names : AreNamesFree Named) (seen : Watched) where
  abbrev Have : Desktop → LoneDesktop → Type 0
  Have s t = SameDesktops Like Named seen.window s t

  -- the message gives no reason
  abbrev pub IsFine : Session → Desktop → (after : Session) → Table → (mark : Option ℕ) → T → Type 0
  IsFine session s after table mark m = reasons_from true seen (message_used c session s after table mark m) ≡ []

  -- the session's fids stand for what is its own
  abbrev pub AllMine : Session → Type 0
  AllMine session = (number : ℕ) (fid : Fid) → fid_of session number ≡ Ok fid → IsMine seen.window fid.node

  -- ---- walks

  home : (s : Desktop) (t : LoneDesktop) → Have s t → (connections : List ℕ) (node : Node) → IsMine seen.window node → ((desktop_for c).view s connections node).host ≡ 0
  home s t same connections node mine = (view_same c begin Like Named laws names seen.window s t same connections node mine.plain).host

  seen_connections : (s : Desktop) (connections : List ℕ) (node : Node) → All HasConnection connections → All HasConnection ((desktop_for c).view s connections node).connections
  unfolding view_of
  seen_connections s connections node all = all

  pub bound_is : (session : Session) (number : ℕ) (fid : Fid) → fid_of session number ≡ Ok fid → lookup session.fids number ≡ Some fid
  bound_is session number fid is = by (lookup session.fids number) is
    where
      by : (o : Option Fid) → value_or_refuse o 32 ≡ Ok fid → o ≡ Some fid
      by (Some f) is = cc
      by None is = absurd cc

  ended_fine : (session : Session) (tag fid newfid : ℕ) (node : Node) (w : List Node × Option ℕ) (used : List Use) → reasons_from true seen (if_done (walk_ended session tag fid newfid node w) used) ≡ [] → (w.0 ≡ []) ⊎ (reasons_from true seen used ≡ [])
  ended_fine session tag fid newfid node (nodes, None) used fine = inr fine
  ended_fine session tag fid newfid node ([], Some n) used fine = inl refl
  ended_fine session tag fid newfid node (next ∷ nodes, Some n) used fine = inr fine

  pub walk_private : (session : Session) (s : Desktop) (t : LoneDesktop) → Have s t → All HasConnection session.connections → AllMine session → (tag fid newfid : ℕ) (names : List (List ℕ)) (from : Fid) → fid_of session fid ≡ Ok from
      → is_some from.mode ≡ false → (not (newfid == fid) && is_bound session newfid) ≡ false → (not (newfid == fid) && is_full session) ≡ false
      → reasons_from true seen (if_done (walk_answer (desktop_for c) session s tag fid newfid names) (if_bound session fid (λ f. flat_map step_used (walked ((desktop_for c).view s session.connections) f.node names).0))) ≡ []
      → All (IsMine seen.window) (walked ((desktop_for c).view s session.connections) from.node names).0
  unfolding walk_answer
  walk_private session s t same connections mine tag fid newfid names from is closed free room fine =
      by (ended_fine session tag fid newfid from.node (walked view from.node names) (flat_map step_used (walked view from.node names).0) here)
    where
      view : Node → View
      view = (desktop_for c).view s session.connections

      answer : walk_answer (desktop_for c) session s tag fid newfid names ≡ walk_ended session tag fid newfid from.node (walked view from.node names)
      answer = rw (is, closed, free, room) refl

      here : reasons_from true seen (if_done (walk_ended session tag fid newfid from.node (walked view from.node names)) (flat_map step_used (walked view from.node names).0)) ≡ []
      here =
          subst (λ (o : Option Fid). reasons_from true seen (if_done (walk_ended session tag fid newfid from.node (walked view from.node names)) (option_map_or (λ f. flat_map step_used (walked view f.node names).0) o [])) ≡ []) (bound_is session fid from is)
          (subst (λ (o : Outcome Done). reasons_from true seen (if_done o (if_bound session fid (λ f. flat_map step_used (walked view f.node names).0))) ≡ []) answer fine)

      by : ((walked view from.node names).0 ≡ []) ⊎ (reasons_from true seen (flat_map step_used (walked view from.node names).0) ≡ []) → All (IsMine seen.window) (walked view from.node names).0
      by (inl none) = subst (All (IsMine seen.window)) (sym none) (All-nil (IsMine seen.window))
      by (inr quiet) = walked_mine seen.window seen view (home s t same session.connections) (λ node. seen_connections s session.connections node connections) names from.node (mine fid from is) quiet

  -- ---- writes

  asks_off : (b : Bool) → reasons_from true seen (if b then uses.Own 9 ∷ [] else []) ≡ [] → b ≡ false
  asks_off true fine = absurd cc
  asks_off false fine = refl

  file_private : (s : Desktop) (t : LoneDesktop) → Have s t → (node : Node) (bytes : List ℕ) (mark told : Option ℕ) (of : Kind) → reasons_from true seen (file_used c s node bytes mark of) ≡ []
      → (of ≡ kind.Data → told ≡ told_mark mark (written (client c node.connection) s.device bytes mark).refusal)
      → MayWrite (desktop_for c) (HasWindow seen.window) HasConnection (May c seen.window) s node bytes mark told of
  file_private s t same node bytes mark told kind.Ctl fine is = tt
  file_private s t same node bytes mark told kind.Data fine is = (
    All-weaker (λ m. reasons_from true seen (look_used s.panes m) ≡ []) (KeepsWithin (named_in s seen.window)) (λ m quiet. own_message s seen same.order m quiet) (looked_at (client c node.connection) s.device bytes mark)
        (each_fine true seen s.panes (looked_at (client c node.connection) s.device bytes mark) fine),
    is refl,
  )
  file_private s t same node bytes mark told kind.Wctl fine is = asks_off (asks_for_windows bytes) fine
  file_private s t same node bytes mark told _ fine is = tt

  -- ---- reads

  size_off : (b : Bool) → reasons_from true seen (if b then uses.Own 12 ∷ [] else []) ≡ [] → b ≡ false
  size_off true fine = absurd cc
  size_off false fine = refl

  -- a read of `ctl` at its front that has room tells of no display whose size has changed
  told_off : (sized front short zero : Bool) → (sized && front && not short && zero) ≡ false → front ≡ true → short ≡ false → (sized && zero) ≡ false
  told_off true true false zero off first room = off
  told_off false front short zero off first room = refl
  told_off true false short zero off first room = absurd cc
  told_off true true true zero off first room = absurd cc

  contents_private : (s : Desktop) (node : Node) (offset count : ℕ) (of : Kind) → reasons_from true seen (contents_used c s node offset count of) ≡ []
      → MayRead (desktop_for c) (HasWindow seen.window) HasConnection (May c seen.window) s node offset count of
  contents_private s node offset count kind.Ctl fine =
      told_off s.sized (offset == 0) (nat_lt count ctl_len) ((client_of s.device (client c node.connection)).described == 0) (size_off (tells_size (client c node.connection) s offset count) fine)
  contents_private s node offset count _ fine = tt

  -- the mark with which the session is told is the one that took effect
  abbrev pub IsToldMark : Session → Desktop → (mark told : Option ℕ) → T → Type 0
  IsToldMark session s mark told (Twrite tag fid offset bytes) =
      (f : Fid) → fid_of session fid ≡ Ok f → is_none f.mode ≡ false → is_open_for writes f ≡ true → check_live ((desktop_for c).view s session.connections f.node) f.node ≡ Ok tt
      → f.node.kind ≡ kind.Data → told ≡ told_mark mark (written (client c f.node.connection) s.device bytes mark).refusal
  IsToldMark session s mark told _ = Unit {0}

  -- no attach is looked at
  abbrev pub IsNoFreshAttach : Session → T → Type 0
  IsNoFreshAttach session (Tattach tag fid afid uname aname) = is_name_looked_at session fid afid ≡ true → ⊥
  IsNoFreshAttach session _ = Unit {0}

  reach : (allows : ℕ → Bool) (session : Session) (s : Desktop) (fid : ℕ) (f : Fid) → fid_of session fid ≡ Ok f → is_none f.mode ≡ false → is_open_for allows f ≡ true
      → check_live ((desktop_for c).view s session.connections f.node) f.node ≡ Ok tt → file_reached allows c session s fid ≡ Ok f.node
  reach allows session s fid f is opened allowed live = rw (is, opened, allowed, live) refl

  -- What the message asks is what the session may ask.
  pub message_private : (session : Session) (s : Desktop) (t : LoneDesktop) (after : Session) (table : Table) (mark told : Option ℕ) (m : T) → Have s t → All HasConnection session.connections → AllMine session
      → IsFine session s after table mark m → IsToldMark session s mark told m → IsNoFreshAttach session m
      → IsPrivate (desktop_for c) (HasWindow seen.window) HasConnection (May c seen.window) session s mark told m
  message_private session s t after table mark told (Tattach tag fid afid uname aname) same connections mine fine marked none = λ unkeyed free room. none (rw (unkeyed, free, room) refl)
  message_private session s t after table mark told (Twalk tag fid newfid names) same connections mine fine marked none = λ from is closed free room.
      All-weaker (IsMine seen.window) (IsPlain (HasWindow seen.window) HasConnection) (λ node is. is.plain) (walked ((desktop_for c).view s session.connections) from.node names).0
      (walk_private session s t same connections mine tag fid newfid names from is closed free room fine)
  message_private session s t after table mark told (Twrite tag fid offset bytes) same connections mine fine marked none = λ f is opened writing live.
      (let reached : reached_file c session s fid ≡ Ok f.node = reach writes session s fid f is opened writing live in
      file_private s t same f.node bytes mark told f.node.kind (subst (λ (o : Outcome Node). reasons_from true seen (write_used c s bytes mark o) ≡ []) reached fine) (λ of. marked f is opened writing live of))
  message_private session s t after table mark told (Tversion tag msize version) same connections mine fine marked none = tt
  message_private session s t after table mark told (Tauth tag afid uname aname) same connections mine fine marked none = tt
  message_private session s t after table mark told (Tflush tag oldtag) same connections mine fine marked none = tt
  message_private session s t after table mark told (Topen tag fid mode) same connections mine fine marked none = tt
  message_private session s t after table mark told (Tcreate tag fid name perm mode) same connections mine fine marked none = tt
  message_private session s t after table mark told (Tread tag fid offset count) same connections mine fine marked none = λ f is opened reading live.
      (let reached : file_of_read c session s fid ≡ Ok f.node = reach reads session s fid f is opened reading live in
      contents_private s f.node offset (count_within session count) f.node.kind
      (subst (λ (o : Outcome Node). reasons_from true seen (reading_used c s offset (count_within session count) o) ≡ []) reached fine))
  message_private session s t after table mark told (Tclunk tag fid) same connections mine fine marked none = tt
  message_private session s t after table mark told (Tremove tag fid) same connections mine fine marked none = tt
  message_private session s t after table mark told (Tstat tag fid) same connections mine fine marked none = tt
  message_private session s t after table mark told (Twstat tag fid stat) same connections mine fine marked none = tt
