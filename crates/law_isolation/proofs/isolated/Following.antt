-- Each event that gives no reason is answered alike: before a session begins, while it lives, and after it ended.
use Rattle.std.proofs.Common.{◌≡◌, ◌∙◌, ℕ, eqb, ◌==◌, ◌+◌, ◌<◌, ◌≤◌, Bool, true, false, List, [], ◌++◌, ◌⊎◌, inl, inr, Option, Some, None, refl, sym, ap, subst, arith}
use Rattle.std.specs.Prelude.{Contains}
use Rattle.std.proofs.lemmas.Bool.{eqb-false, eqb-true}
use Rattle.std.proofs.lemmas.List.Elements.{All-nil}
use Rattle.r9_event.specs.declared.event.event.Event.{Event}
use Rattle.r9_event.specs.declared.event.event.Event.TheVariants.{Begin, Msg, Take, End, Stop}
use Rattle.r9_event.specs.declared.event.event.Opening.{Opening}
use Rattle.r9_event.specs.declared.event.own.Item.{Item}
use Rattle.model_text.specs.text.Map.{lookup, without}
use Rattle.model_text.proofs.map.Ascending.{ascend-and, ascend-without, without-here}
use Rattle.model_text.proofs.map.Keys.{eqb-same, not_key}
use Rattle.model_text.proofs.map.Maps.{and-here, and-others}
use Rattle.model_rio.specs.window.Pane.{Pane}
use Rattle.model_history.specs.event.Legal.{Allowed, Roll, no_sessions, roll_after}
use Rattle.model_rio.specs.rio.Table.{Table}
use Rattle.model_draw.specs.draw.World as draw
use Rattle.model_world.specs.Session.{Fid, Session, fresh}
use Rattle.model_world.specs.Fids.{cleared}
use Rattle.model_world.specs.Whole.{desktop_for}
use Rattle.model_world.specs.World.{World, opened}
use Rattle.model_world.specs.Standing.{AreInOrder}
use Rattle.model_world.specs.Replay.{ended, served, settled, step, waiting_in}
use Rattle.model_world.proofs.Steps.{begun_rolled, next_of}
use Rattle.model_alone.specs.alone.Isolated.{IsIsolated, replies_to}
use Rattle.model_alone.specs.alone.Own.{Watched, is_by, judged, judged_by, noted, reasons_from, unseen}
use Rattle.model_alone.specs.alone.Uses.{event_used, new_hosts, session_used}
use Rattle.model_alone.specs.alone.Lone.{LoneWorld, first_lone_world}
use Rattle.model_alone.proofs.alone.Histories.{IsFollowed, isolated_by, lone_after}
use Rattle.law_strangers.specs.followed.Devices.{AreNamesFree, IsDeviceLike}
use Rattle.law_strangers.specs.followed.Following.{HasConnection, SameDesktops}
use Rattle.law_strangers.proofs.private.Keeping.{IsMineFid, KeepsMine}
use Rattle.law_strangers.proofs.strangers.Late.{IsElsewhere}
use Rattle.law_strangers.proofs.events.Messages.{IsWith}
use Rattle.law_strangers.proofs.events.Opening.{first_same}
use Rattle.law_strangers.proofs.turns.Turns.{IsEventAlike, begun_alike, quiet_same, stopped_alike, taken_alike}
use Rattle.law_strangers.proofs.turns.Ends.{ended_alike}
use Rattle.law_strangers.proofs.unnoticed.Messages.{IsAlive, counted, leads, others_message_alike}
use Rattle.law_strangers.proofs.elsewhere.Walks.{ctl_away}
use Rattle.law_strangers.proofs.users.Users.{IsLost}
use Rattle.law_strangers.proofs.users.Worlds.{IsServed, opened_served, step_served}
use Rattle.law_isolation.proofs.phases.Absent.{AreCounted, IsOff, absent_step, absent_within, counted_after, judged_others, live_first, noted_none, off_after, off_ended, off_lives}
use Rattle.law_isolation.proofs.phases.Unbegun.{before_step, none_away}
use Rattle.law_isolation.proofs.phases.Ended.{IsWindowLost, lost_step, settled_lost}
use Rattle.law_isolation.proofs.phases.Living.{IsUsed, other_begins, other_end, other_message, own_end, turned_used}
use Rattle.law_isolation.proofs.isolated.Own.{IsLiving, counted_of, own_message_alike, rooted_of}

module _ (c : ℕ) (begin : 0 < c) (Like : Option (ℕ × ℕ) → Option (ℕ × List ℕ) → draw.World → draw.World → Type 0) (Named : draw.World → Table → List (ℕ × Pane) → Type 0) (laws : IsDeviceLike c Like) (names : AreNamesFree Named) where
  -- ---- phases

  -- the session has not begun
  record IsUnbegun (roll : Roll) (world : World) (lone : LoneWorld) (seen : Watched) : Type 0 where
    later : roll.begun < c
    off : IsOff c roll
    unseen_so : seen ≡ unseen
    fresh_so : lone.session ≡ fresh
    same : SameDesktops Like Named None world.desktop lone.desktop

  -- it lives
  record IsBegun (roll : Roll) (world : World) (lone : LoneWorld) (seen : Watched) : Type 0 where
    begun : c ≤ roll.begun
    living : IsLiving c begin Like Named laws names world lone seen

  -- it has ended
  record IsOver (roll : Roll) (world : World) (seen : Watched) : Type 0 where
    begun : c ≤ roll.begun
    off : IsOff c roll
    absent : lookup world.sessions c ≡ None
    lost : IsWindowLost seen world

  abbrev Phase : Roll → World → LoneWorld → Watched → Type 0
  Phase roll world lone seen = IsUnbegun roll world lone seen ⊎ (IsBegun roll world lone seen ⊎ IsOver roll world seen)

  -- What is known of the server, and of the session in it and in its own world.
  record Holds (roll : Roll) (world : World) (lone : LoneWorld) (seen : Watched) : Type 0 where
    served : IsServed roll.begun world
    counted : AreCounted roll
    phase : Phase roll world lone seen

  module _ (roll : Roll) (world : World) (lone : LoneWorld) (seen : Watched) (served_so : IsServed roll.begun world) (counted_so : AreCounted roll) where
    abbrev Followed : Event → Type 0
    Followed event = IsFollowed c Holds roll world lone seen event

    -- what the server keeps
    served_after : (event : Event) → Allowed roll event → IsServed (roll_after roll event).begun (step world event).world
    served_after event allowed = subst (λ (n : ℕ). IsServed n (step world event).world) (sym (begun_rolled roll event)) (step_served world roll.begun event (next_of roll event allowed.1) served_so)

    -- what an event shows is what is followed
    followed_as : (event : Event) → Allowed roll event → (items : List Item) (known : Watched) → (judged c world seen event).items ≡ items → (judged c world seen event).seen ≡ known
        → replies_to c (step world event).replies ≡ (lone_after lone items).1 → Phase (roll_after roll event) (step world event).world (lone_after lone items).0 known → Followed event
    followed_as event allowed items known items_so known_so replies phase = record {
      replies = replies ∙ sym (ap (λ (its : List Item). (lone_after lone its).1) items_so);
      rest = record {
        served = served_after event allowed;
        counted = counted_after roll event allowed.1 counted_so;
        phase = subst (λ (w : Watched). Phase (roll_after roll event) (step world event).world (lone_after lone (judged c world seen event).items).0 w) (sym known_so)
            (subst (λ (its : List Item). Phase (roll_after roll event) (step world event).world (lone_after lone its).0 known) (sym items_so) phase);
      };
    }

    other_event : (d : ℕ) → (d ≡ c → ⊥) → (d == c) ≡ false
    other_event d other = not_key d c other

    -- ---- before it begins

    module _ (is : IsUnbegun roll world lone seen) where
      absent_so : lookup world.sessions c ≡ None
      absent_so = served_so.known c is.later

      -- an event of another session
      unbegun_other : (event : Event) → is_by c event ≡ false → Allowed roll event → (roll_after roll event).begun < c → Followed event
      unbegun_other event other allowed later =
          let absent = absent_step c world event other served_so.well.order absent_so in
          let shown = judged_others c world seen event other in
          let none : noted seen (step world event).notes ≡ [] = noted_none seen (step world event).notes (λ window its. absurd (let two : ◌≡◌ {A = Option ℕ} None (Some window) = sym (ap (λ (w : Watched). w.window) is.unseen_so) ∙ its in cc)) in
          followed_as event allowed [] seen (shown.0 ∙ none) shown.1 absent.replies (inl (record {
            later = later;
            off = off_after c roll event other is.off;
            unseen_so = is.unseen_so;
            fresh_so = is.fresh_so;
            same = before_step c begin Like Named laws names lone.desktop world roll.begun served_so absent_so is.same event;
          }))

      fresh_mine : (session : Session) → session ≡ fresh → KeepsMine None session
      fresh_mine session so = subst (KeepsMine None) (sym so) (record { fids = All-nil (λ (entry : ℕ × Fid). IsMineFid None entry.1); connections = All-nil HasConnection })

      -- it begins
      begins_own : Allowed roll (Begin c) → Followed (Begin c)
      unfolding judged_by event_used
      begins_own allowed = followed_as (Begin c) allowed [] seen (ap (noted seen) served_so.quiet) refl refl (inr (inl (record {
        begun = omega arith;
        living = record {
          with = record {
            lives = and-here world.sessions c fresh ∙ ap Some (sym is.fresh_so);
            same = subst (λ (o : Option ℕ). SameDesktops Like Named o (record world.desktop { notes = []; cost = 0 }) lone.desktop) (sym window_none) (quiet_same c begin Like Named laws names unseen world.desktop lone.desktop is.same);
            mine = subst (λ (o : Option ℕ). KeepsMine o lone.session) (sym window_none) (fresh_mine lone.session is.fresh_so);
            order = ascend-and world.sessions c fresh served_so.well.order;
            elsewhere = λ d session other at. subst (λ (o : Option ℕ). IsElsewhere o session) (sym window_none) (record {
              fids = none_away session.fids;
              counted = served_so.linked.counted d session (sym (and-others world.sessions c d fresh other) ∙ at);
            });
          };
          unattached = λ _. window_none;
          used = λ window its. absurd (let two : ◌≡◌ {A = Option ℕ} None (Some window) = sym window_none ∙ its in cc);
        };
      })))
        where
          window_none : seen.window ≡ None
          window_none = ap (λ (w : Watched). w.window) is.unseen_so

      unbegun_followed : (event : Event) → Allowed roll event → Followed event
      unbegun_followed (Begin d) allowed = by (eqb d c) refl
        where
          by : (b : Bool) → eqb d c ≡ b → Followed (Begin d)
          by true at = let same : d ≡ c = eqb-true d c at in subst Followed (sym (ap Begin same)) (begins_own (subst (Allowed roll) (ap Begin same) allowed))
          by false at =
              let other : d ≡ c → ⊥ = eqb-false d c at in
              let next = allowed.1.0 in
              let before = is.later in
              unbegun_other (Begin d) (other_event d other) allowed (below next before other)
            where
              below : d ≡ roll.begun + 1 → roll.begun < c → (d ≡ c → ⊥) → d < c
              below next before other = omega (arith, next, before, other)
      unbegun_followed (Msg d bytes mark) allowed = unbegun_other (Msg d bytes mark) (other_event d (λ same. off_lives c roll is.off (subst (λ (k : ℕ). Contains roll.live k) same allowed.1.0))) allowed is.later
      unbegun_followed (Take d) allowed = unbegun_other (Take d) (other_event d (λ same. let given = allowed.1.1 in let before = is.later in omega (arith, same, given, before))) allowed is.later
      unbegun_followed (End d) allowed = unbegun_other (End d) (other_event d (λ same. off_lives c roll is.off (subst (λ (k : ℕ). Contains roll.live k) same allowed.1))) allowed is.later
      unbegun_followed Stop allowed = unbegun_other Stop refl allowed is.later

    -- ---- after it ended

    -- sessions that begin are more
    begun_more : (event : Event) → Allowed roll event → c ≤ roll.begun → c ≤ (roll_after roll event).begun
    begun_more (Begin d) allowed few = (let next = allowed.1.0 in omega (arith, next, few))
    begun_more (Msg d bytes mark) allowed few = few
    begun_more (Take d) allowed few = few
    begun_more (End d) allowed few = few
    begun_more Stop allowed few = few

    module _ (is : IsOver roll world seen) where
      over_other : (event : Event) → is_by c event ≡ false → Allowed roll event → Followed event
      over_other event other allowed =
          let absent = absent_step c world event other served_so.well.order is.absent in
          let shown = judged_others c world seen event other in
          let lost = lost_step seen world event served_so.well.order served_so.quiet is.lost in
          followed_as event allowed [] seen (shown.0 ∙ lost.0) shown.1 absent.replies (inr (inr (record {
            begun = begun_more event allowed is.begun;
            off = off_after c roll event other is.off;
            absent = absent.absent;
            lost = lost.1;
          })))

      over_taken : (d : ℕ) → Allowed roll (Take d) → Followed (Take d)
      unfolding judged_by event_used
      over_taken d allowed = followed_as (Take d) allowed [] seen (ap (noted seen) served_so.quiet) refl refl (inr (inr (record {
        begun = is.begun;
        off = is.off;
        absent = is.absent;
        lost = λ window its. (let lost = is.lost window its in record { sound = lost.sound; given = lost.given; gone = lost.gone });
      })))

      over_followed : (event : Event) → Allowed roll event → Followed event
      over_followed (Begin d) allowed = over_other (Begin d) (other_event d (λ same. let next = allowed.1.0 in let few = is.begun in omega (arith, same, next, few))) allowed
      over_followed (Msg d bytes mark) allowed = over_other (Msg d bytes mark) (other_event d (λ same. off_lives c roll is.off (subst (λ (k : ℕ). Contains roll.live k) same allowed.1.0))) allowed
      over_followed (Take d) allowed = over_taken d allowed
      over_followed (End d) allowed = over_other (End d) (other_event d (λ same. off_lives c roll is.off (subst (λ (k : ℕ). Contains roll.live k) same allowed.1))) allowed
      over_followed Stop allowed = over_other Stop refl allowed

    -- ---- while it lives

    module _ (is : IsBegun roll world lone seen) where
      with_so : IsWith c begin Like Named laws names seen world lone
      with_so = is.living.with

      alive : IsAlive c begin Like Named laws names seen world lone
      alive = record {
        with = with_so;
        quiet = served_so.quiet;
        waits = served_so.waits;
        linked = served_so.linked;
        given = λ window its. (is.living.used window its).used.given;
      }

      counted_window : (window : ℕ) → seen.window ≡ Some window → (window == 0) ≡ false
      counted_window window its = counted_of c begin Like Named laws names seen world lone with_so window its

      -- an event that is answered alike, and makes the session known no better
      alike_followed : (event : Event) → Allowed roll event → IsEventAlike c begin Like Named laws names seen world lone event → ((window : ℕ) → seen.window ≡ Some window → IsUsed c window (step world event).world) → Followed event
      alike_followed event allowed alike used = record {
        replies = alike.turn.replies;
        rest = record {
          served = served_after event allowed;
          counted = counted_after roll event allowed.1 counted_so;
          phase = inr (inl (record {
            begun = begun_more event allowed is.begun;
            living = subst (IsLiving c begin Like Named laws names (step world event).world (lone_after lone (judged c world seen event).items).0) (sym alike.seen_so) (record { with = alike.turn.rest; unattached = is.living.unattached; used = used });
          }));
        };
      }

      -- a message of another session
      module _ (d : ℕ) (other : d ≡ c → ⊥) (bytes : List ℕ) (mark : Option ℕ) (allowed : Allowed roll (Msg d bytes mark)) (fine : (judged c world seen (Msg d bytes mark)).reasons ≡ []) where
        first : 1 ≤ d
        first = live_first roll counted_so d allowed.1.0

        Fine : Option Session → Type 0
        Fine o = reasons_from false seen (session_used d world (served world d bytes mark o).world bytes mark o ++ new_hosts world.desktop.table (served world d bytes mark o).world.desktop.table) ≡ []

        fine_so : Fine (lookup world.sessions d)
        unfolding judged_by event_used Fine
        fine_so = subst (λ (b : Bool). reasons_from b seen (session_used d world (step world (Msg d bytes mark)).world bytes mark (lookup world.sessions d) ++ new_hosts world.desktop.table (step world (Msg d bytes mark)).world.desktop.table) ≡ []) (other_event d other) fine

        message_used_so : (window : ℕ) → seen.window ≡ Some window → (o : Option Session) → lookup world.sessions d ≡ o → Fine o → IsUsed c window (served world d bytes mark o).world
        unfolding Fine
        message_used_so window its None at fine = turned_used c window world (is.living.used window its)
        message_used_so window its (Some session) at fine =
            other_message c window (counted_window window its) world served_so.well.order (is.living.used window its) d other session at bytes mark seen.window its
            (ctl_away seen.window (counted c begin Like Named laws names seen world lone alive d first other bytes mark))
            (leads c begin Like Named laws names seen world lone alive d first other bytes mark session at fine)

        other_message_followed : Followed (Msg d bytes mark)
        other_message_followed =
            alike_followed (Msg d bytes mark) allowed (others_message_alike c begin Like Named laws names seen world lone alive d first other bytes mark fine) (λ window its. message_used_so window its (lookup world.sessions d) refl fine_so)

      own_message_followed : (bytes : List ℕ) (mark : Option ℕ) → Allowed roll (Msg c bytes mark) → (judged c world seen (Msg c bytes mark)).reasons ≡ [] → Followed (Msg c bytes mark)
      own_message_followed bytes mark allowed fine =
          let alike = own_message_alike c begin Like Named laws names world lone seen is.living roll.begun served_so bytes mark fine in
          record {
            replies = alike.0;
            rest = record { served = served_after (Msg c bytes mark) allowed; counted = counted_so; phase = inr (inl (record { begun = is.begun; living = alike.1 })) };
          }

      -- ---- its end

      abbrev gone : World
      gone = record world { desktop = (cleared (desktop_for c) lone.session world.desktop).1; sessions = without world.sessions c }

      gone_order : AreInOrder gone
      gone_order = ascend-without world.sessions c served_so.well.order

      gone_late : (replies_to c (settled gone).1 ≡ []) × (lookup (settled gone).0.sessions c ≡ None)
      gone_late = absent_within c (waiting_in gone) gone gone_order (without-here world.sessions c served_so.well.order)

      gone_lost : (window : ℕ) → seen.window ≡ Some window → IsLost window (record (settled gone).0.desktop { notes = []; cost = 0 })
      gone_lost window its =
          let some = counted_window window its in
          let end = own_end c window some world served_so.well.order (is.living.used window its) lone.session with_so.lives (rooted_of c begin Like Named laws names seen.window lone.session with_so.mine window some its) in
          let lost = settled_lost window gone gone_order end in
          record { sound = lost.sound; given = lost.given; gone = lost.gone }

      ends_own : Allowed roll (End c) → Followed (End c)
      unfolding judged_by event_used
      ends_own allowed = followed_as (End c) allowed [] seen (rw (eqb-same c) refl) refl
          (subst (λ (o : Option Session). replies_to c (ended world c o).replies ≡ []) (sym with_so.lives) gone_late.0)
          (inr (inr (record {
            begun = is.begun;
            off = off_ended c roll;
            absent = subst (λ (o : Option Session). lookup (ended world c o).world.sessions c ≡ None) (sym with_so.lives) gone_late.1;
            lost = subst (λ (o : Option Session). IsWindowLost seen (ended world c o).world) (sym with_so.lives) gone_lost;
          })))

      begun_followed : (event : Event) → Allowed roll event → (judged c world seen event).reasons ≡ [] → Followed event
      begun_followed (Begin d) allowed fine =
          let other : d ≡ c → ⊥ = λ same. (let next = allowed.1.0 in let few = is.begun in omega (arith, same, next, few)) in
          alike_followed (Begin d) allowed (begun_alike c begin Like Named laws names seen world lone with_so served_so.quiet d other)
          (λ window its. other_begins c window (counted_window window its) world served_so.well.order (is.living.used window its) d other)
      begun_followed (Msg d bytes mark) allowed fine = by (eqb d c) refl
        where
          by : (b : Bool) → eqb d c ≡ b → Followed (Msg d bytes mark)
          by true at =
              let same : d ≡ c = eqb-true d c at in
              subst (λ (k : ℕ). Followed (Msg k bytes mark)) (sym same) (own_message_followed bytes mark (subst (λ (k : ℕ). Allowed roll (Msg k bytes mark)) same allowed) (subst (λ (k : ℕ). (judged c world seen (Msg k bytes mark)).reasons ≡ []) same fine))
          by false at = other_message_followed d (eqb-false d c at) bytes mark allowed fine
      begun_followed (Take d) allowed fine = alike_followed (Take d) allowed (taken_alike c begin Like Named laws names seen world lone with_so served_so.quiet d) (λ window its. turned_used c window world (is.living.used window its))
      begun_followed (End d) allowed fine = by (eqb d c) refl
        where
          by : (b : Bool) → eqb d c ≡ b → Followed (End d)
          by true at = let same : d ≡ c = eqb-true d c at in subst Followed (sym (ap End same)) (ends_own (subst (Allowed roll) (ap End same) allowed))
          by false at =
              let other = eqb-false d c at in
              alike_followed (End d) allowed (ended_alike c begin Like Named laws names seen world lone with_so served_so.quiet d (live_first roll counted_so d allowed.1) other served_so.waits)
              (λ window its. other_end c window (counted_window window its) world served_so.well.order (is.living.used window its) d other (lookup world.sessions d) refl)
      begun_followed Stop allowed fine = alike_followed Stop allowed (stopped_alike c begin Like Named laws names seen world lone with_so served_so.quiet) (λ window its. turned_used c window world (is.living.used window its))

  -- ---- each event

  follows : (roll : Roll) (world : World) (lone : LoneWorld) (seen : Watched) (event : Event) → Holds roll world lone seen → Allowed roll event → (judged c world seen event).reasons ≡ [] → IsFollowed c Holds roll world lone seen event
  follows roll world lone seen event holds allowed fine = by holds.phase
    where
      by : Phase roll world lone seen → IsFollowed c Holds roll world lone seen event
      by (inl is) = unbegun_followed roll world lone seen holds.served holds.counted is event allowed
      by (inr (inl is)) = begun_followed roll world lone seen holds.served holds.counted is event allowed fine
      by (inr (inr is)) = over_followed roll world lone seen holds.served holds.counted is event allowed

  starts : (opening : Opening) → Holds no_sessions (opened opening) (first_lone_world opening) unseen
  starts opening = record {
    served = opened_served opening;
    counted = tt;
    phase = inl (record { later = begin; off = tt; unseen_so = refl; fresh_so = refl; same = first_same c Like Named laws names opening });
  }

  -- A session is isolated in each history, where some relation between draw devices keeps the laws of devices, and some invariant keeps
  -- the names of windows free.
  pub isolated : (opening : Opening) (events : List Event) → IsIsolated opening events c
  isolated opening events = isolated_by c Holds follows opening (starts opening) events
