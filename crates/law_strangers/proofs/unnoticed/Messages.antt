-- A message of another session that gives no reason.
use Rattle.std.proofs.Common.{◌≡◌, ◌∙◌, ℕ, eqb, ◌==◌, ◌<◌, ◌≤◌, Bool, true, false, List, [], ◌∷◌, ◌++◌, find, fold, Option, Some, None, is_some, Ok, refl, sym, ap, subst, arith}
use Rattle.std.specs.Prelude.{not, ◌&&◌, if◌then◌else◌}
use Rattle.std.specs.List.{cons_option, filter_map}
use Rattle.std.specs.Option.{option_map, unwrap_or}
use Rattle.std.proofs.lemmas.Bool.{eqb-false, eqb-true}
use Rattle.r9_event.specs.declared.event.event.Event.TheVariants.{Msg}
use Rattle.r9_event.specs.declared.event.own.Use.{Use}
use Rattle.r9_event.specs.declared.event.own.Use.TheVariants as uses
use Rattle.r9_event.specs.declared.event.rio.Note.{Note}
use Rattle.model_text.specs.text.Map.{lookup}
use Rattle.model_text.proofs.map.Ascending.{ascend-with}
use Rattle.model_text.proofs.map.Keys.{not_key}
use Rattle.model_text.proofs.map.Maps.{with-here, with-others}
use Rattle.model_rio.specs.window.Pane.{Pane}
use Rattle.model_files.specs.wire.Message.{T, Tattach, Twalk, Topen, Twrite, Tversion, Tauth, Tflush, Tcreate, Tread, Tclunk, Tremove, Tstat, Twstat, no_tag, tag_of_t}
use Rattle.model_files.specs.wire.Reading.{message_of}
use Rattle.model_rio.specs.rio.Table.{Rio, Table, is_host, rio_of}
use Rattle.model_draw.specs.draw.World as draw
use Rattle.model_world.specs.Session.{Session}
use Rattle.model_world.specs.Fids.{Left}
use Rattle.model_world.specs.Walking.{attach_answer}
use Rattle.model_world.specs.Answer.{Reads, Taking, answer, answer_read, is_version, taking}
use Rattle.model_world.specs.Desktop.{Desktop}
use Rattle.model_world.specs.Links.{AreLinked}
use Rattle.model_world.specs.Whole.{desktop_for}
use Rattle.model_world.specs.World.{World}
use Rattle.model_world.specs.Standing.{AllWaitOn}
use Rattle.model_world.specs.Replay.{closing_tag, reply_to, served, settled, step, with_left}
use Rattle.model_world.proofs.Answers.{answer_holds}
use Rattle.model_world.proofs.Desktops.{device_of, keeps_connections}
use Rattle.model_world.proofs.Steps.{linked_of}
use Rattle.law_others.proofs.orders.Answers.{answer_drawn}
use Rattle.law_others.proofs.orders.Leading.{IsLed, led_itself, led_keeps}
use Rattle.model_alone.specs.alone.Isolated.{replies_to}
use Rattle.model_alone.specs.alone.Own.{Watched, after_use, judged, judged_by, noted, reasons_from}
use Rattle.model_alone.specs.alone.Uses.{bytes_used, event_used, new_hosts, read_used, session_used, window_at}
use Rattle.model_alone.specs.alone.Lone.{LoneDesktop, LoneWorld, noted_alone}
use Rattle.model_alone.proofs.alone.Histories.{lone_after, replies-append}
use Rattle.law_strangers.proofs.isolation.Settling.{others-reply}
use Rattle.law_others.specs.told.Telling.{notes_of}
use Rattle.law_strangers.specs.followed.Devices.{AreNamesFree, IsDeviceLike}
use Rattle.law_strangers.specs.followed.Following.{SameDesktops, SameWindows}
use Rattle.law_strangers.proofs.strangers.Late.{IsAway, IsElsewhere}
use Rattle.law_strangers.proofs.strangers.Strangers.{answer_reached}
use Rattle.law_strangers.proofs.events.Leaving.{bytes_leave}
use Rattle.law_strangers.proofs.events.Messages.{IsWith}
use Rattle.law_strangers.proofs.turns.Turns.{IsEventAlike, IsLeft, IsTurnAlike, others_followed, silent_alike, turned_with}
use Rattle.law_strangers.proofs.turns.Ends.{counted_few}
use Rattle.law_strangers.proofs.elsewhere.Nodes.{LeadsIf, answer_keeps_such, bound_such}
use Rattle.law_strangers.proofs.elsewhere.Walks.{IsKnownStill, ctl_away, message_leads, not_its, others_parts}
use Rattle.law_strangers.proofs.unnoticed.Late.{KeepsWindows, settled_windows}

-- another session's uses make no window known
known_still : (seen : Watched) (used : List Use) → fold (after_use false) seen used ≡ seen
known_still seen [] = refl
known_still seen (u ∷ used) = known_still seen used

-- no rio that started runs in the session's window
hosts_other : (seen : Watched) (table : Table) (window : ℕ) (rios : List Rio) → seen.window ≡ Some window → is_host table window ≡ false
    → reasons_from false seen (filter_map (λ rio. if is_host table rio.host then None else Some (uses.Host rio.host)) rios) ≡ [] → find (λ rio. rio.host == window) rios ≡ None
hosts_other seen table window [] its bare fine = refl
hosts_other seen table window (r ∷ rios) its bare fine = by (is_host table r.host) refl fine (hosts_other seen table window rios its bare)
  where
    rest : List Use
    rest = filter_map (λ rio. if is_host table rio.host then None else Some (uses.Host rio.host)) rios

    by : (b : Bool) → is_host table r.host ≡ b → reasons_from false seen (cons_option (if b then None else Some (uses.Host r.host)) rest) ≡ [] → (reasons_from false seen rest ≡ [] → find (λ rio. rio.host == window) rios ≡ None)
        → (if r.host == window then Some r else find (λ rio. rio.host == window) rios) ≡ None
    by true is fine more = rw (not_key r.host window (λ same. absurd (let two : true ≡ false = sym is ∙ ap (is_host table) same ∙ bare in cc two))) (more fine)
    by false is fine more =
        let parts = others_parts seen (uses.Host r.host ∷ []) rest fine in
        rw (not_key r.host window (λ same. not_its seen r.host 10 [] parts.0 (its ∙ ap Some (sym same)))) (more parts.1)

module _ (c : ℕ) (begin : 0 < c) (Like : Option (ℕ × ℕ) → Option (ℕ × List ℕ) → draw.World → draw.World → Type 0) (Named : draw.World → Table → List (ℕ × Pane) → Type 0) (laws : IsDeviceLike c Like) (names : AreNamesFree Named) (seen : Watched) where
  abbrev Have : Desktop → LoneDesktop → Type 0
  Have s t = SameDesktops Like Named seen.window s t

  abbrev With : World → LoneWorld → Type 0
  With world lone = IsWith c begin Like Named laws names seen world lone

  -- what is known before each event of a session that has its window or none yet
  pub record IsAlive (world : World) (lone : LoneWorld) : Type 0 where
    pub with : With world lone
    pub quiet : world.desktop.notes ≡ []
    pub waits : AllWaitOn world
    pub linked : AreLinked world.desktop.device world.sessions
    pub given : (window : ℕ) → seen.window ≡ Some window → window ≤ world.desktop.table.serials

  module _ (world : World) (lone : LoneWorld) (is : IsAlive world lone) (d : ℕ) (first : 1 ≤ d) (other : d ≡ c → ⊥) (bytes : List ℕ) (mark : Option ℕ) where
    bare_in : (t : LoneDesktop) (own : Option ℕ) → SameWindows world.desktop t own → (window : ℕ) → own ≡ Some window → is_host world.desktop.table window ≡ false
    bare_in t None same window e = absurd cc
    bare_in t (Some n) same window e = let it : n ≡ window = cc in subst (λ (k : ℕ). is_host world.desktop.table k ≡ false) it same.bare

    counted_in : (t : LoneDesktop) (own : Option ℕ) → SameWindows world.desktop t own → own ≡ Some 0 → ⊥
    counted_in t None same e = cc e
    counted_in t (Some n) same e =
        let it : n ≡ 0 = cc in
        let two : (0 == 0) ≡ false = subst (λ (k : ℕ). (k == 0) ≡ false) it same.counted in cc two

    pub counted : seen.window ≡ Some 0 → ⊥
    counted = counted_in lone.desktop seen.window is.with.same.window

    bare : (window : ℕ) → seen.window ≡ Some window → is_host world.desktop.table window ≡ false
    bare = bare_in lone.desktop seen.window is.with.same.window

    module _ (session : Session) (lives : lookup world.sessions d ≡ Some session) where
      abbrev after : Left Desktop
      after = answer (desktop_for d) session world.desktop bytes mark

      abbrev next : World
      next = with_left world d after

      abbrev final : World
      final = (settled next).0

      away : IsElsewhere seen.window session
      away = is.with.elsewhere d session other lives

      kept : KeepsWindows next final d
      kept = settled_windows next d (ascend-with world.sessions d after.session is.with.order)

      -- what the attaches of the session led to is known after all late answers
      windows_known : (n : ℕ) → window_at (unwrap_or (lookup final.sessions d) session) n ≡ window_at after.session n
      windows_known n = by (lookup final.sessions d) (kept.windows n ∙ ap (option_map (λ (t : Session). window_at t n)) (with-here world.sessions d session after.session lives))
        where
          by : (o : Option Session) → option_map (λ t. window_at t n) o ≡ Some (window_at after.session n) → window_at (unwrap_or o session) n ≡ window_at after.session n
          by (Some t) e = cc
          by None e = absurd cc

      module _ (fine : reasons_from false seen (bytes_used d session world.desktop (unwrap_or (lookup final.sessions d) session) final.desktop.table mark bytes (taking session bytes) ++ new_hosts world.desktop.table final.desktop.table) ≡ []) where
        parts : (reasons_from false seen (bytes_used d session world.desktop (unwrap_or (lookup final.sessions d) session) final.desktop.table mark bytes (taking session bytes)) ≡ []) × (reasons_from false seen (new_hosts world.desktop.table final.desktop.table) ≡ [])
        parts = others_parts seen (bytes_used d session world.desktop (unwrap_or (lookup final.sessions d) session) final.desktop.table mark bytes (taking session bytes)) (new_hosts world.desktop.table final.desktop.table) fine

        bare_after : (window : ℕ) → seen.window ≡ Some window → is_host after.rest.table window ≡ false
        bare_after window its = ap is_some none
          where
            zero_below : 0 < d
            zero_below = omega (arith, first)

            root : after.rest.table.root.host ≡ 0
            root = (answer_drawn (IsLed world.desktop) (led_keeps world.desktop) d session world.desktop bytes mark zero_below (led_itself world.desktop is.with.same.drawn)).drawn.sound.root

            apart : (after.rest.table.root.host == window) ≡ false
            apart = not_key after.rest.table.root.host window (λ same. counted (its ∙ ap Some (sym same ∙ root)))

            rest : find (λ (rio : Rio). rio.host == window) after.rest.table.rios ≡ None
            rest =
                hosts_other seen world.desktop.table window after.rest.table.rios its (bare window its)
                (subst (λ (t : Table). reasons_from false seen (new_hosts world.desktop.table t) ≡ []) kept.table parts.1)

            none : rio_of after.rest.table window ≡ None
            none = rw (apart, rest) refl

        attach_answered : (tag fid afid : ℕ) (uname aname : List ℕ) → message_of bytes ≡ Some (Tattach tag fid afid uname aname) → taking session bytes ≡ Reads → (tag == no_tag) ≡ false → not session.agreed ≡ false
            → (l : Left Desktop) → attach_answer (desktop_for d) session world.desktop tag fid afid aname ≡ Ok l → after.session ≡ l.session
        unfolding answer answer_read
        attach_answered tag fid afid uname aname spelled reads tagged agreed l e = rw (reads, spelled, tagged, agreed, e) refl

        -- an attach that is answered leaves the session so
        attach_known : (m : T) → message_of bytes ≡ Some m → taking session bytes ≡ Reads → (not (is_version m) && (tag_of_t m == no_tag)) ≡ false → (not (is_version m) && not session.agreed) ≡ false
            → IsKnownStill seen counted d world.desktop is.with.same.drawn.sound bare (unwrap_or (lookup final.sessions d) session) session m
        attach_known (Tattach tag fid afid uname aname) spelled reads tagged agreed = λ l e. windows_known fid ∙ ap (λ (t : Session). window_at t fid) (attach_answered tag fid afid uname aname spelled reads tagged agreed l e)
        attach_known (Twalk tag fid newfid walks) spelled reads tagged agreed = tt
        attach_known (Topen tag fid mode) spelled reads tagged agreed = tt
        attach_known (Twrite tag fid offset data_written) spelled reads tagged agreed = tt
        attach_known (Tversion tag msize version) spelled reads tagged agreed = tt
        attach_known (Tauth tag afid uname aname) spelled reads tagged agreed = tt
        attach_known (Tflush tag oldtag) spelled reads tagged agreed = tt
        attach_known (Tcreate tag fid name perm mode) spelled reads tagged agreed = tt
        attach_known (Tread tag fid offset count) spelled reads tagged agreed = tt
        attach_known (Tclunk tag fid) spelled reads tagged agreed = tt
        attach_known (Tremove tag fid) spelled reads tagged agreed = tt
        attach_known (Tstat tag fid) spelled reads tagged agreed = tt
        attach_known (Twstat tag fid stat) spelled reads tagged agreed = tt

        -- Its attaches and walks lead to no file of the session's window.
        pub leads : taking session bytes ≡ Reads → LeadsIf (desktop_for d) (IsAway seen.window) (ctl_away seen.window counted) session world.desktop (message_of bytes)
        leads reads = by (message_of bytes) refl (subst (λ (how : Taking). reasons_from false seen (bytes_used d session world.desktop (unwrap_or (lookup final.sessions d) session) final.desktop.table mark bytes how) ≡ []) reads parts.0)
          where
            by : (o : Option T) → message_of bytes ≡ o → reasons_from false seen (read_used d session world.desktop (unwrap_or (lookup final.sessions d) session) final.desktop.table mark o) ≡ []
                → LeadsIf (desktop_for d) (IsAway seen.window) (ctl_away seen.window counted) session world.desktop o
            by None spelled quiet = tt
            by (Some m) spelled quiet = λ tagged agreed.
                message_leads seen counted d world.desktop is.with.same.drawn.sound bare session (unwrap_or (lookup final.sessions d) session) final.desktop.table mark m
                (bound_such (desktop_for d) (IsAway seen.window) (ctl_away seen.window counted) session away.fids) (attach_known m spelled reads tagged agreed) tagged agreed quiet

        elsewhere : IsElsewhere seen.window after.session
        elsewhere = record {
          fids = answer_keeps_such (desktop_for d) (IsAway seen.window) (ctl_away seen.window counted) session world.desktop bytes mark away.fids leads;
          counted = (answer_holds d (desktop_for d) device_of (keeps_connections d) session world.desktop bytes mark (linked_of world.desktop.device world.sessions d session is.linked lives)).linked.counted;
        }

        left : IsLeft c begin Like Named laws names seen world next lone
        left = record {
          lives = with-others world.sessions d c after.session (λ same. other (sym same)) ∙ is.with.lives;
          same = λ t same.
              answer_reached c begin Like Named laws names seen.window d first other t session world.desktop bytes mark (counted_few session.made session.connections away.counted) away.fids
              (bytes_leave c begin Like Named laws names seen d first other t session world.desktop same (unwrap_or (lookup final.sessions d) session) final.desktop.table bytes mark parts.0) is.given
              (subst (λ (notes : List (ℕ × Note)). Have world.desktop (fold noted_alone t (notes_of seen.window notes))) (sym is.quiet) same) bare_after;
          order = ascend-with world.sessions d after.session is.with.order;
          elsewhere = λ e stranger apart at. by e stranger apart at (eqb e d) refl;
        }
          where
            by : (e : ℕ) (stranger : Session) → (e ≡ c → ⊥) → lookup next.sessions e ≡ Some stranger → (b : Bool) → eqb e d ≡ b → IsElsewhere seen.window stranger
            by e stranger apart at true here =
                let same : e ≡ d = eqb-true e d here in
                let two : ◌≡◌ {A = Option Session} (Some after.session) (Some stranger) = sym (with-here world.sessions d session after.session lives) ∙ ap (lookup next.sessions) (sym same) ∙ at in
                let it : after.session ≡ stranger = cc in
                subst (IsElsewhere seen.window) it elsewhere
            by e stranger apart at false here = is.with.elsewhere e stranger apart (sym (with-others world.sessions d e after.session (eqb-false e d here)) ∙ at)

        both : (replies_to c (settled next).1 ≡ (lone_after lone (noted seen final.desktop.notes)).1) × With final (lone_after lone (noted seen final.desktop.notes)).0
        both = others_followed c begin Like Named laws names seen world next lone is.with left is.waits

        session_turn : IsTurnAlike c begin Like Named laws names seen lone (served world d bytes mark (Some session)) (noted seen final.desktop.notes)
        session_turn = record {
          replies = replies-append c (reply_to d after.reply) (settled next).1 ∙ ap (λ (here : List (List ℕ)). here ++ replies_to c (settled next).1) (others-reply c d after.reply other) ∙ both.0;
          rest = turned_with c begin Like Named laws names seen final (lone_after lone (noted seen final.desktop.notes)).0 both.1 (reply_to d after.reply ++ (settled next).1) (closing_tag bytes (taking session bytes));
          quiet = refl;
        }

    message_turn : (o : Option Session) → lookup world.sessions d ≡ o
        → reasons_from false seen (session_used d world (served world d bytes mark o).world bytes mark o ++ new_hosts world.desktop.table (served world d bytes mark o).world.desktop.table) ≡ []
        → IsTurnAlike c begin Like Named laws names seen lone (served world d bytes mark o) (noted seen (served world d bytes mark o).notes)
    message_turn None lives fine = subst (IsTurnAlike c begin Like Named laws names seen lone (served world d bytes mark None)) (sym (ap (noted seen) is.quiet)) (silent_alike c begin Like Named laws names seen world lone is.with)
    message_turn (Some session) lives fine = session_turn session lives fine

    -- A message of another session that gives no reason is answered alike, and both worlds are the same to the session after it.
    pub others_message_alike : (judged c world seen (Msg d bytes mark)).reasons ≡ [] → IsEventAlike c begin Like Named laws names seen world lone (Msg d bytes mark)
    unfolding judged_by event_used
    others_message_alike fine = record {
      turn = rw (apart, known) (message_turn (lookup world.sessions d) refl quiet);
      seen_so = rw apart known;
    }
      where
        apart : (d == c) ≡ false
        apart = not_key d c other

        used : List Use
        used = session_used d world (step world (Msg d bytes mark)).world bytes mark (lookup world.sessions d) ++ new_hosts world.desktop.table (step world (Msg d bytes mark)).world.desktop.table

        known : fold (after_use false) seen used ≡ seen
        known = known_still seen used

        quiet : reasons_from false seen used ≡ []
        quiet = subst (λ (b : Bool). reasons_from b seen used ≡ []) apart fine
