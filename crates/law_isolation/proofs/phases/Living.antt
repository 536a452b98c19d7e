-- While a session lives it alone uses its window, and has none where it has no fid any more.
use Rattle.std.proofs.Common.{◌≡◌, ◌∙◌, ℕ, eqb, ◌==◌, Bool, true, false, List, [], ◌∷◌, Option, Some, None, refl, sym, ap, subst}
use Rattle.std.specs.Prelude.{not, ◌&&◌}
use Rattle.std.proofs.lemmas.Bool.{eqb-false, eqb-true}
use Rattle.model_text.specs.text.Map.{and, lookup, with, without}
use Rattle.model_text.proofs.map.Ascending.{ascend-with, ascend-without}
use Rattle.model_text.proofs.map.Maps.{and-others, with-here, with-others, without-others}
use Rattle.model_files.specs.wire.Message.{T, Tattach, Twalk, Topen, Twrite, Tversion, Tauth, Tflush, Tcreate, Tread, Tclunk, Tremove, Tstat, Twstat, no_tag, tag_of_t}
use Rattle.model_files.specs.wire.Reading.{message_of}
use Rattle.model_files.specs.tree.Attach.{attach_of}
use Rattle.model_files.specs.tree.Node.{Node}
use Rattle.model_files.specs.tree.Tree.{root_of}
use Rattle.model_world.specs.Session.{Fid, Session, fresh}
use Rattle.model_world.specs.Desktop.{Desktop}
use Rattle.model_world.specs.Fids.{Left, cleared}
use Rattle.model_world.specs.Answer.{Reads, answer, is_version, taking}
use Rattle.model_world.specs.Walking.{ctl_of}
use Rattle.model_world.specs.Waiting.{one_answered}
use Rattle.model_world.specs.Whole.{desktop_for}
use Rattle.model_world.specs.World.{World}
use Rattle.model_world.specs.Standing.{AreInOrder}
use Rattle.model_world.specs.Replay.{ended, first_answered, served, settled, waiting_in, with_left}
use Rattle.model_world.proofs.Settling.{IfNext, all_in, first_leaves, settled_keeps}
use Rattle.model_alone.specs.alone.Uses.{is_name_looked_at}
use Rattle.law_strangers.proofs.strangers.Late.{IsAway}
use Rattle.law_strangers.proofs.elsewhere.Nodes.{LeadsIf}
use Rattle.law_strangers.proofs.steady.Messages.{MessageKeepsIf, answer_keeps, cleared_keeps, each_answer_keeps, one_keeps}
use Rattle.law_strangers.proofs.users.Users.{IsLost, IsUsedBy, lost_all, lost_attached, own_all, used_all, used_attached}
use Rattle.law_strangers.proofs.users.Emptied.{AllRooted, answer_empties, cleared_lost, one_some}

module _ (c window : ℕ) where
  -- Session c alone uses the window, which is gone where that session has no fid.
  pub record IsUsed (world : World) : Type 0 where
    pub used : IsUsedBy c window world.desktop
    pub empty : (session : Session) → lookup world.sessions c ≡ Some session → session.fids ≡ [] → IsLost window world.desktop

  -- ---- late answers

  abbrev IsSo : World → Type 0
  IsSo world = AreInOrder world × IsUsed world

  -- the session with a late answer of its own
  own_late : (world : World) (session : Session) (after : Left Desktop) → IsUsed world → lookup world.sessions c ≡ Some session → one_answered (desktop_for c) session world.desktop ≡ Some after → IsUsed (with_left world c after)
  own_late world session after is at answered = record {
    used = one_keeps (desktop_for c) (IsUsedBy c window) (own_all c window) session world.desktop after is.used answered;
    empty = λ next there none. by next there none session.fids refl;
  }
    where
      by : (next : Session) → lookup (with world.sessions c after.session) c ≡ Some next → next.fids ≡ [] → (fids : List (ℕ × Fid)) → session.fids ≡ fids → IsLost window after.rest
      by next there none [] was = one_keeps (desktop_for c) (IsLost window) (lost_all c window) session world.desktop after (is.empty session at was) answered
      by next there none (entry ∷ fids) was =
          let two : ◌≡◌ {A = Option Session} (Some after.session) (Some next) = sym (with-here world.sessions c session after.session at) ∙ there in
          let same : after.session ≡ next = cc in
          absurd (one_some (desktop_for c) session world.desktop after answered (λ empty. absurd (let no : ◌≡◌ {A = List (ℕ × Fid)} (entry ∷ fids) [] = sym was ∙ empty in cc)) (ap (λ (t : Session). t.fids) same ∙ none))

  -- another session leaves it so
  other_left : (world : World) (d : ℕ) (after : Left Desktop) → (d ≡ c → ⊥) → IsUsedBy c window after.rest → (IsLost window world.desktop → IsLost window after.rest) → IsUsed world → IsUsed (with_left world d after)
  other_left world d after other used lost is = record {
    used = used;
    empty = λ session there none. lost (is.empty session (sym (with-others world.sessions d c after.session (λ same. other (sym same))) ∙ there) none);
  }

  late_used : (world : World) → IsSo world → IfNext IsSo (first_answered world world.sessions)
  late_used world is = first_leaves IsSo world world.sessions (all_in world.sessions is.0) (λ d session after at answered. (ascend-with world.sessions d after.session is.0, by d session after at answered (eqb d c) refl))
    where
      by : (d : ℕ) (session : Session) (after : Left Desktop) → lookup world.sessions d ≡ Some session → one_answered (desktop_for d) session world.desktop ≡ Some after → (b : Bool) → eqb d c ≡ b → IsUsed (with_left world d after)
      by d session after at answered true here =
          let same : d ≡ c = eqb-true d c here in
          subst (λ (k : ℕ). IsUsed (with_left world k after)) (sym same)
          (own_late world session after is.1 (subst (λ (k : ℕ). lookup world.sessions k ≡ Some session) same at) (subst (λ (k : ℕ). one_answered (desktop_for k) session world.desktop ≡ Some after) same answered))
      by d session after at answered false here =
          let other = eqb-false d c here in
          other_left world d after other (one_keeps (desktop_for d) (IsUsedBy c window) (used_all c window d other) session world.desktop after is.1.used answered)
          (λ lost. one_keeps (desktop_for d) (IsLost window) (lost_all d window) session world.desktop after lost answered) is.1

  pub settled_used : (world : World) → AreInOrder world → IsUsed world → IsUsed (settled world).0
  settled_used world order is = (settled_keeps IsSo late_used (waiting_in world) world (order, is)).1

  -- what is told is told
  pub turned_used : (world : World) → IsUsed world → IsUsed (record world { desktop = record world.desktop { notes = []; cost = 0 } })
  turned_used world is = record {
    used = record { sound = is.used.sound; given = is.used.given; alone = is.used.alone };
    empty = λ session there none. (let lost = is.empty session there none in record { sound = lost.sound; given = lost.given; gone = lost.gone });
  }

  -- ---- another session

  -- an attach leads elsewhere
  leads_apart : (own : Option ℕ) → own ≡ Some window → (window == 0) ≡ false → (root : ℕ) → IsAway own (root_of root) → window ≡ root → ⊥
  leads_apart own its counted root away same = by (root == 0) refl
    where
      by : (b : Bool) → (root == 0) ≡ b → ⊥
      by true at = absurd (let two : true ≡ false = sym at ∙ ap (λ (n : ℕ). n == 0) (sym same) ∙ counted in cc)
      by false at = away.root (its ∙ ap Some same ∙ sym (ap Some (root_is at)))
        where
          root_is : (root == 0) ≡ false → (root_of root).root ≡ root
          root_is off = rw off refl

  module _ (counted : (window == 0) ≡ false) (world : World) (order : AreInOrder world) (is : IsUsed world) (d : ℕ) (other : d ≡ c → ⊥) where
    module _ (session : Session) (lives : lookup world.sessions d ≡ Some session) (bytes : List ℕ) (mark : Option ℕ) (own : Option ℕ) (its : own ≡ Some window) (connects : (node : Node) (n : ℕ) → IsAway own node → IsAway own (ctl_of node n)) where
      keeps_if : (o : Option T) → LeadsIf (desktop_for d) (IsAway own) connects session world.desktop o → MessageKeepsIf (desktop_for d) (IsUsedBy c window) (used_all c window d other) session world.desktop o
      keeps_if None leads = tt
      keeps_if (Some (Tattach tag fid afid uname aname)) leads = λ tagged agreed looked root at.
          used_attached c window d other world.desktop (attach_of aname) root (leads_apart own its counted root.1 (leads tagged agreed looked root at)) at is.used
      keeps_if (Some (Twalk tag fid newfid names)) leads = λ tagged agreed. tt
      keeps_if (Some (Topen tag fid mode)) leads = λ tagged agreed. tt
      keeps_if (Some (Twrite tag fid offset data_bytes)) leads = λ tagged agreed. tt
      keeps_if (Some (Tversion tag msize version)) leads = λ tagged agreed. tt
      keeps_if (Some (Tauth tag afid uname aname)) leads = λ tagged agreed. tt
      keeps_if (Some (Tflush tag oldtag)) leads = λ tagged agreed. tt
      keeps_if (Some (Tcreate tag fid name perm mode)) leads = λ tagged agreed. tt
      keeps_if (Some (Tread tag fid offset count)) leads = λ tagged agreed. tt
      keeps_if (Some (Tclunk tag fid)) leads = λ tagged agreed. tt
      keeps_if (Some (Tremove tag fid)) leads = λ tagged agreed. tt
      keeps_if (Some (Tstat tag fid)) leads = λ tagged agreed. tt
      keeps_if (Some (Twstat tag fid stat)) leads = λ tagged agreed. tt

      -- Its message leaves it so, where its attaches lead elsewhere.
      pub other_message : (taking session bytes ≡ Reads → LeadsIf (desktop_for d) (IsAway own) connects session world.desktop (message_of bytes)) → IsUsed (served world d bytes mark (Some session)).world
      other_message leads =
          let after = answer (desktop_for d) session world.desktop bytes mark in
          let next = with_left world d after in
          turned_used (settled next).0
          (settled_used next (ascend-with world.sessions d after.session order)
          (other_left world d after other
          (answer_keeps (desktop_for d) (IsUsedBy c window) (used_all c window d other) session world.desktop bytes mark (λ reads. keeps_if (message_of bytes) (leads reads)) is.used)
          (λ lost. each_answer_keeps (desktop_for d) (IsLost window) (lost_all d window) (lost_attached d window) session world.desktop bytes mark lost) is))

    -- and so does its end.
    pub other_end : (o : Option Session) → lookup world.sessions d ≡ o → IsUsed (ended world d o).world
    other_end None lives = turned_used world is
    other_end (Some session) lives =
        let next : World = record world { desktop = (cleared (desktop_for d) session world.desktop).1; sessions = without world.sessions d } in
        turned_used (settled next).0
        (settled_used next (ascend-without world.sessions d order) (record {
          used = cleared_keeps (desktop_for d) (IsUsedBy c window) (used_all c window d other) session world.desktop is.used;
          empty = λ own there none. cleared_keeps (desktop_for d) (IsLost window) (lost_all d window) session world.desktop (is.empty own (sym (without-others world.sessions d c (λ same. other (sym same))) ∙ there) none);
        }))

    pub other_begins : IsUsed (record world { desktop = record world.desktop { notes = []; cost = 0 }; sessions = and world.sessions d fresh })
    other_begins = (let after = turned_used world is in record { used = after.used; empty = λ own there none. after.empty own (sym (and-others world.sessions d c fresh (λ same. other (sym same))) ∙ there) none })

  -- ---- the session itself

  module _ (counted : (window == 0) ≡ false) (world : World) (order : AreInOrder world) (is : IsUsed world) (session : Session) (lives : lookup world.sessions c ≡ Some session) (rooted : AllRooted c window counted session) where
    abbrev pub NoAttach : T → Type 0
    NoAttach (Tattach tag fid afid uname aname) = is_name_looked_at session fid afid ≡ true → ⊥
    NoAttach _ = Unit {0}

    -- what is known of a message that is read: no attach of it is looked at
    abbrev pub AttachesNone : Option T → Type 0
    AttachesNone o = (m : T) → o ≡ Some m → (not (is_version m) && (tag_of_t m == no_tag)) ≡ false → (not (is_version m) && not session.agreed) ≡ false → NoAttach m

    own_keeps_if : (o : Option T) → AttachesNone o → MessageKeepsIf (desktop_for c) (IsUsedBy c window) (own_all c window) session world.desktop o
    own_keeps_if None none = tt
    own_keeps_if (Some (Tattach tag fid afid uname aname)) none = λ tagged agreed looked root at. absurd (none (Tattach tag fid afid uname aname) refl tagged agreed looked)
    own_keeps_if (Some (Twalk tag fid newfid names)) none = λ tagged agreed. tt
    own_keeps_if (Some (Topen tag fid mode)) none = λ tagged agreed. tt
    own_keeps_if (Some (Twrite tag fid offset data_bytes)) none = λ tagged agreed. tt
    own_keeps_if (Some (Tversion tag msize version)) none = λ tagged agreed. tt
    own_keeps_if (Some (Tauth tag afid uname aname)) none = λ tagged agreed. tt
    own_keeps_if (Some (Tflush tag oldtag)) none = λ tagged agreed. tt
    own_keeps_if (Some (Tcreate tag fid name perm mode)) none = λ tagged agreed. tt
    own_keeps_if (Some (Tread tag fid offset count)) none = λ tagged agreed. tt
    own_keeps_if (Some (Tclunk tag fid)) none = λ tagged agreed. tt
    own_keeps_if (Some (Tremove tag fid)) none = λ tagged agreed. tt
    own_keeps_if (Some (Tstat tag fid)) none = λ tagged agreed. tt
    own_keeps_if (Some (Twstat tag fid stat)) none = λ tagged agreed. tt

    -- A message of its own that is no attach leaves it so.
    pub own_message : (bytes : List ℕ) (mark : Option ℕ) → (taking session bytes ≡ Reads → AttachesNone (message_of bytes)) → IsUsed (served world c bytes mark (Some session)).world
    own_message bytes mark none =
        let after = answer (desktop_for c) session world.desktop bytes mark in
        let next = with_left world c after in
        turned_used (settled next).0
        (settled_used next (ascend-with world.sessions c after.session order) (record {
          used = answer_keeps (desktop_for c) (IsUsedBy c window) (own_all c window) session world.desktop bytes mark (λ reads. own_keeps_if (message_of bytes) (none reads)) is.used;
          empty = λ own there empty.
              (let two : ◌≡◌ {A = Option Session} (Some after.session) (Some own) = sym (with-here world.sessions c session after.session lives) ∙ there in
              let same : after.session ≡ own = cc in
              answer_empties c window counted session world.desktop rooted is.used (is.empty session lives) bytes mark (λ reads some m spelled tagged agreed. none_of m (none reads m spelled tagged agreed)) (ap (λ (t : Session). t.fids) same ∙ empty));
        }))
      where
        none_of : (m : T) → NoAttach m → NoAttach m
        none_of m none = none

    -- The window is gone once the session ended.
    pub own_end : IsLost window (cleared (desktop_for c) session world.desktop).1
    own_end = by session.fids refl
      where
        by : (fids : List (ℕ × Fid)) → session.fids ≡ fids → IsLost window (cleared (desktop_for c) session world.desktop).1
        by [] none = cleared_keeps (desktop_for c) (IsLost window) (lost_all c window) session world.desktop (is.empty session lives none)
        by (entry ∷ fids) at = cleared_lost c window counted session world.desktop rooted is.used (λ none. absurd (let two : ◌≡◌ {A = List (ℕ × Fid)} (entry ∷ fids) [] = sym at ∙ none in cc))
