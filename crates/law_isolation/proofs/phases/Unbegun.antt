-- Before a session begins both worlds stay the same to it.
use Rattle.std.proofs.Common.{◌≡◌, ◌∙◌, ℕ, ◌<◌, ◌≤◌, List, [], ◌∷◌, fold, Option, Some, None, refl, sym, ap, subst, arith}
use Rattle.std.specs.Prelude.{All}
use Rattle.std.proofs.lemmas.List.Elements.{All-cons, All-nil}
use Rattle.r9_event.specs.declared.event.event.Event.{Event}
use Rattle.r9_event.specs.declared.event.event.Event.TheVariants.{Begin, Msg, Take, End, Stop}
use Rattle.r9_event.specs.declared.event.rio.Note.{Note}
use Rattle.model_text.specs.text.Map.{lookup, without}
use Rattle.model_text.proofs.map.Ascending.{ascend-with, ascend-without}
use Rattle.model_text.proofs.map.Maps.{with-others, without-others}
use Rattle.model_draw_parts.specs.dmsg.Message.{Message, LowN}
use Rattle.model_rio.specs.window.Pane.{Pane}
use Rattle.model_files.specs.wire.Message.{T, Tattach, Twalk, Topen, Twrite, Tversion, Tauth, Tflush, Tcreate, Tread, Tclunk, Tremove, Tstat, Twstat}
use Rattle.model_files.specs.wire.Reading.{message_of}
use Rattle.model_rio.specs.rio.Table.{Table}
use Rattle.model_draw.specs.draw.World as draw
use Rattle.model_world.specs.Session.{Fid, Session}
use Rattle.model_world.specs.Desktop.{Desktop}
use Rattle.model_world.specs.Fids.{Left, cleared}
use Rattle.model_world.specs.Answer.{answer}
use Rattle.model_world.specs.Links.{AreLinked}
use Rattle.model_world.specs.Whole.{client, desktop_for}
use Rattle.model_world.specs.World.{World}
use Rattle.model_world.specs.Standing.{AreInOrder}
use Rattle.model_world.specs.Replay.{ended, first_answered, served, settled, step, waiting_in, with_left}
use Rattle.model_world.proofs.Answers.{HoldsSome, answer_holds, one_holds}
use Rattle.model_world.proofs.Desktops.{device_of, keeps_connections}
use Rattle.model_world.proofs.Settling.{IfNext, all_in, first_leaves, settled_keeps}
use Rattle.model_world.proofs.Steps.{gone_linked, linked_of, replied_linked}
use Rattle.model_alone.specs.alone.Own.{unseen}
use Rattle.model_alone.specs.alone.Uses.{looked_at}
use Rattle.model_alone.specs.alone.Lone.{LoneDesktop, noted_alone}
use Rattle.law_others.specs.told.Telling.{notes_of}
use Rattle.law_strangers.specs.followed.Devices.{AreNamesFree, IsDeviceLike, LeavesName}
use Rattle.law_strangers.specs.followed.Following.{SameDesktops}
use Rattle.law_strangers.proofs.followed.Stepping.{notes_none}
use Rattle.law_strangers.proofs.strangers.Late.{IsAway, one_away}
use Rattle.law_strangers.proofs.strangers.Strangers.{LeavesNamesIf, answer_reached, cleared_told}
use Rattle.law_strangers.proofs.turns.Ends.{counted_few}
use Rattle.law_strangers.proofs.turns.Turns.{quiet_same}
use Rattle.law_strangers.proofs.users.Worlds.{IsServed, above}

-- of no window all are away
pub none_away : (fids : List (ℕ × Fid)) → All (λ (entry : ℕ × Fid). IsAway None entry.1.node) fids
none_away [] = All-nil (λ (entry : ℕ × Fid). IsAway None entry.1.node)
none_away (entry ∷ fids) = All-cons (λ (entry : ℕ × Fid). IsAway None entry.1.node) entry fids (record { serial = λ is. absurd cc; root = λ is. absurd cc }) (none_away fids)

-- and no message looks up its name
none_left : (m : Message) → LeavesName None m
none_left (LowN id name) = λ serial is. absurd cc
none_left _ = tt

all_left : (ms : List Message) → All (LeavesName None) ms
all_left [] = All-nil (LeavesName None)
all_left (m ∷ ms) = All-cons (LeavesName None) m ms (none_left m) (all_left ms)

module _ (c : ℕ) (begin : 0 < c) (Like : Option (ℕ × ℕ) → Option (ℕ × List ℕ) → draw.World → draw.World → Type 0) (Named : draw.World → Table → List (ℕ × Pane) → Type 0) (laws : IsDeviceLike c Like) (names : AreNamesFree Named) (t : LoneDesktop) where
  abbrev pub Have : Desktop → Type 0
  Have s = SameDesktops Like Named None s t

  abbrev Told : Desktop → Type 0
  Told s = SameDesktops Like Named None s (fold noted_alone t (notes_of None s.notes))

  told_have : (s : Desktop) → Told s → Have s
  told_have s is = subst (λ (notes : List Note). SameDesktops Like Named None s (fold noted_alone t notes)) (notes_none s.notes) is

  have_told : (s : Desktop) → Have s → Told s
  have_told s is = subst (λ (notes : List Note). SameDesktops Like Named None s (fold noted_alone t notes)) (sym (notes_none s.notes)) is

  quiet_have : (s : Desktop) → Have s → Have (record s { notes = []; cost = 0 })
  quiet_have s is = quiet_same c begin Like Named laws names unseen s t is

  -- ---- late answers

  record IsBefore (world : World) : Type 0 where
    order : AreInOrder world
    linked : AreLinked world.desktop.device world.sessions
    absent : lookup world.sessions c ≡ None
    same : Have world.desktop

  lives_other : (world : World) (d : ℕ) (session : Session) → lookup world.sessions c ≡ None → lookup world.sessions d ≡ Some session → d ≡ c → ⊥
  lives_other world d session none at same = absurd (let two : ◌≡◌ {A = Option Session} None (Some session) = sym none ∙ ap (lookup world.sessions) (sym same) ∙ at in cc)

  late_before : (world : World) → IsBefore world → IfNext IsBefore (first_answered world world.sessions)
  late_before world is =
      first_leaves IsBefore world world.sessions (all_in world.sessions is.order) (λ d session after at answered. record {
        order = ascend-with world.sessions d after.session is.order;
        linked = replied_linked world d session after is.linked at
            (subst (λ (o : Option (Left Desktop)). HoldsSome d (desktop_for d) device_of (keeps_connections d) world.desktop o) answered (one_holds d (desktop_for d) device_of (keeps_connections d) session world.desktop (linked_of world.desktop.device world.sessions d session is.linked at)));
        absent = with-others world.sessions d c after.session (λ same. lives_other world d session is.absent at (sym same)) ∙ is.absent;
        same = (one_away c begin Like Named laws names None d t world.desktop session after is.same (record { fids = none_away session.fids; counted = is.linked.counted d session at }) answered).same;
      })

  settled_before : (world : World) → IsBefore world → Have (settled world).0.desktop
  settled_before world is = (settled_keeps IsBefore late_before (waiting_in world) world is).same

  -- ---- messages

  leaves : (d : ℕ) (first : 1 ≤ d) (other : d ≡ c → ⊥) (session : Session) (s : Desktop) (mark : Option ℕ) (o : Option T) → LeavesNamesIf c begin Like Named laws names None d first other t session s mark o
  leaves d first other session s mark None = tt
  leaves d first other session s mark (Some (Twrite tag fid offset bytes)) = λ tagged agreed f is opened writing live of. all_left (looked_at (client d f.node.connection) s.device bytes mark)
  leaves d first other session s mark (Some (Tattach tag fid afid uname aname)) = λ tagged agreed. tt
  leaves d first other session s mark (Some (Twalk tag fid newfid names)) = λ tagged agreed. tt
  leaves d first other session s mark (Some (Topen tag fid mode)) = λ tagged agreed. tt
  leaves d first other session s mark (Some (Tversion tag msize version)) = λ tagged agreed. tt
  leaves d first other session s mark (Some (Tauth tag afid uname aname)) = λ tagged agreed. tt
  leaves d first other session s mark (Some (Tflush tag oldtag)) = λ tagged agreed. tt
  leaves d first other session s mark (Some (Tcreate tag fid name perm mode)) = λ tagged agreed. tt
  leaves d first other session s mark (Some (Tread tag fid offset count)) = λ tagged agreed. tt
  leaves d first other session s mark (Some (Tclunk tag fid)) = λ tagged agreed. tt
  leaves d first other session s mark (Some (Tremove tag fid)) = λ tagged agreed. tt
  leaves d first other session s mark (Some (Tstat tag fid)) = λ tagged agreed. tt
  leaves d first other session s mark (Some (Twstat tag fid stat)) = λ tagged agreed. tt

  module _ (world : World) (begun : ℕ) (served_so : IsServed begun world) (absent : lookup world.sessions c ≡ None) (same : Have world.desktop) where
    one_below : (d : ℕ) → 0 < d → 1 ≤ d
    one_below d more = omega (arith, more)

    answered_before : (d : ℕ) (bytes : List ℕ) (mark : Option ℕ) (o : Option Session) → lookup world.sessions d ≡ o → Have (served world d bytes mark o).world.desktop
    answered_before d bytes mark None at = quiet_have world.desktop same
    answered_before d bytes mark (Some session) at = quiet_have (settled next).0.desktop (settled_before next (record {
      order = ascend-with world.sessions d after.session served_so.well.order;
      linked = replied_linked world d session after served_so.linked at (answer_holds d (desktop_for d) device_of (keeps_connections d) session world.desktop bytes mark (linked_of world.desktop.device world.sessions d session served_so.linked at));
      absent = with-others world.sessions d c after.session (λ here. other (sym here)) ∙ absent;
      same = told_have after.rest
          (answer_reached c begin Like Named laws names None d first other t session world.desktop bytes mark (counted_few session.made session.connections (served_so.linked.counted d session at)) (none_away session.fids)
          (λ reads. leaves d first other session world.desktop mark (message_of bytes)) (λ window is. absurd (cc is)) (have_told world.desktop same) (λ window is. absurd (cc is)));
    }))
      where
        other : d ≡ c → ⊥
        other = lives_other world d session absent at

        first : 1 ≤ d
        first = one_below d (above world.sessions d session served_so.well.begun at)

        after : Left Desktop
        after = answer (desktop_for d) session world.desktop bytes mark

        next : World
        next = with_left world d after

    ended_before : (d : ℕ) (o : Option Session) → lookup world.sessions d ≡ o → Have (ended world d o).world.desktop
    ended_before d None at = quiet_have world.desktop same
    ended_before d (Some session) at = quiet_have (settled next).0.desktop (settled_before next (record {
      order = ascend-without world.sessions d served_so.well.order;
      linked = gone_linked world d session served_so.linked at;
      absent = without-others world.sessions d c (λ here. other (sym here)) ∙ absent;
      same = told_have next.desktop
          (cleared_told c begin Like Named laws names None d first other t session world.desktop (counted_few session.made session.connections (served_so.linked.counted d session at)) (none_away session.fids) (have_told world.desktop same));
    }))
      where
        other : d ≡ c → ⊥
        other = lives_other world d session absent at

        first : 1 ≤ d
        first = one_below d (above world.sessions d session served_so.well.begun at)

        next : World
        next = record world { desktop = (cleared (desktop_for d) session world.desktop).1; sessions = without world.sessions d }

    -- Each event leaves both worlds the same to a session that has not begun.
    pub before_step : (event : Event) → Have (step world event).world.desktop
    before_step (Begin d) = quiet_have world.desktop same
    before_step (Msg d bytes mark) = answered_before d bytes mark (lookup world.sessions d) refl
    before_step (Take d) = quiet_have world.desktop same
    before_step (End d) = ended_before d (lookup world.sessions d) refl
    before_step Stop = quiet_have world.desktop same
