-- A message of another session.
use Rattle.std.proofs.Common.{◌≡◌, ◌∙◌, ℕ, eqb, ◌==◌, ◌<◌, ◌≤◌, Bool, true, false, List, [], ◌∷◌, ◌++◌, fold, Option, Some, None, refl, sym, ap, subst}
use Rattle.std.specs.Prelude.{All, if◌then◌else◌}
use Rattle.std.specs.List.{cons_option}
use Rattle.std.specs.Option.{option_map_or}
use Rattle.std.proofs.lemmas.Bool.{eqb-false, eqb-true}
use Rattle.r9_event.specs.declared.event.event.Reply.{Reply}
use Rattle.r9_event.specs.declared.event.own.Item.{Item}
use Rattle.r9_event.specs.declared.event.own.Item.TheVariants.{Noted}
use Rattle.r9_event.specs.declared.event.rio.Note.{Note}
use Rattle.model_text.specs.text.Map.{lookup}
use Rattle.model_text.proofs.map.Ascending.{ascend-with}
use Rattle.model_text.proofs.map.Maps.{with-here, with-others}
use Rattle.model_rio.specs.window.Pane.{Pane}
use Rattle.model_files.specs.wire.Reading.{message_of}
use Rattle.model_rio.specs.rio.Table.{Table, is_host}
use Rattle.model_draw.specs.draw.World as draw
use Rattle.model_world.specs.Session.{Session}
use Rattle.model_world.specs.Fids.{Left}
use Rattle.model_world.specs.Answer.{Reads, answer, taking}
use Rattle.model_world.specs.Desktop.{Desktop}
use Rattle.model_world.specs.Whole.{desktop_for}
use Rattle.model_world.specs.World.{World}
use Rattle.model_world.specs.Standing.{AllWaitOn, AreInOrder}
use Rattle.model_world.specs.Replay.{reply_to, settled, with_left}
use Rattle.model_alone.specs.alone.Isolated.{replies_to}
use Rattle.model_alone.specs.alone.Own.{Watched, noted}
use Rattle.model_alone.specs.alone.Lone.{LoneDesktop, LoneWorld, all_settled, and_replies, answered_alone, lone_step, made_in, noted_alone, notes_in, with_notes}
use Rattle.model_alone.proofs.alone.Histories.{replies-append}
use Rattle.law_strangers.proofs.isolation.Settling.{others-reply}
use Rattle.law_others.specs.told.Telling.{notes_of}
use Rattle.law_strangers.specs.followed.Devices.{AreNamesFree, IsDeviceLike}
use Rattle.law_strangers.specs.followed.Following.{HasConnection, SameDesktops, SameWindows}
use Rattle.law_strangers.proofs.strangers.Late.{IsElsewhere}
use Rattle.law_strangers.proofs.strangers.Strangers.{LeavesNamesIf, answer_reached}
use Rattle.law_strangers.proofs.events.Messages.{IsWith, notes_same, settled_still, settled_with}

-- a step of notes alone answers nothing first
nothing_sent : (seen : Watched) (notes : List (ℕ × Note)) (world : LoneWorld) → answered_alone world (noted seen notes) ≡ (world, [])
nothing_sent seen [] world = refl
nothing_sent seen (n ∷ notes) world = by (option_map_or (λ window. window == n.0) seen.window false) (nothing_sent seen notes world)
  where
    by : (b : Bool) → answered_alone world (noted seen notes) ≡ (world, []) → answered_alone world (cons_option (if b then Some (Noted n.1) else None) (noted seen notes)) ≡ (world, [])
    by true more = refl
    by false more = more

module _ (c : ℕ) (begin : 0 < c) (Like : Option (ℕ × ℕ) → Option (ℕ × List ℕ) → draw.World → draw.World → Type 0) (Named : draw.World → Table → List (ℕ × Pane) → Type 0) (laws : IsDeviceLike c Like) (names : AreNamesFree Named) (seen : Watched) where
  abbrev Have : Desktop → LoneDesktop → Type 0
  Have s t = SameDesktops Like Named seen.window s t

  abbrev With : World → LoneWorld → Type 0
  With world lone = IsWith c begin Like Named laws names seen world lone

  module _ (world : World) (lone : LoneWorld) (is : With world lone) (d : ℕ) (first : 1 ≤ d) (other : d ≡ c → ⊥) (session : Session) (lives : lookup world.sessions d ≡ Some session) (bytes : List ℕ) (mark : Option ℕ) where
    abbrev pub after : Left Desktop
    after = answer (desktop_for d) session world.desktop bytes mark

    abbrev pub next : World
    next = with_left world d after

    -- what the session is told
    abbrev pub items : List Item
    items = noted seen (settled next).0.desktop.notes

    -- in its own world, where an attach would give this window
    abbrev told_world : Option ℕ → List Note → LoneWorld
    told_world made notes = with_notes (record lone { desktop = record lone.desktop { made = made } }) notes

    -- What is known of the message of another session: it looks up no name of the session's window, starts no rio in it, and leaves that
    -- session elsewhere.
    pub record IsApart : Type 0 where
      pub quiet : world.desktop.notes ≡ []
      pub connections : All HasConnection session.connections
      pub leaves : (t : LoneDesktop) → taking session bytes ≡ Reads → LeavesNamesIf c begin Like Named laws names seen.window d first other t session world.desktop mark (message_of bytes)
      pub given : (window : ℕ) → seen.window ≡ Some window → window ≤ world.desktop.table.serials
      pub bare : (window : ℕ) → seen.window ≡ Some window → is_host after.rest.table window ≡ false
      pub away : IsElsewhere seen.window after.session

    module _ (apart : IsApart) where
      -- what the session sees once its own world took the notes
      seen_after : (t : LoneDesktop) → Have world.desktop t → Have after.rest (fold noted_alone t (notes_of seen.window after.rest.notes))
      seen_after t same =
          answer_reached c begin Like Named laws names seen.window d first other t session world.desktop bytes mark apart.connections (is.elsewhere d session other lives).fids (apart.leaves t) apart.given
          (subst (λ (notes : List (ℕ × Note)). Have world.desktop (fold noted_alone t (notes_of seen.window notes))) (sym apart.quiet) same) apart.bare

      elsewhere_after : (e : ℕ) (stranger : Session) → (e ≡ c → ⊥) → lookup next.sessions e ≡ Some stranger → IsElsewhere seen.window stranger
      elsewhere_after e stranger away at = by (eqb e d) refl
        where
          by : (b : Bool) → eqb e d ≡ b → IsElsewhere seen.window stranger
          by true here =
              let same : e ≡ d = eqb-true e d here in
              let two : ◌≡◌ {A = Option Session} (Some after.session) (Some stranger) = sym (with-here world.sessions d session after.session lives) ∙ ap (lookup next.sessions) (sym same) ∙ at in
              let it : after.session ≡ stranger = cc in
              subst (IsElsewhere seen.window) it apart.away
          by false here = is.elsewhere e stranger away (sym (with-others world.sessions d e after.session (eqb-false e d here)) ∙ at)

      lives_after : lookup next.sessions c ≡ Some lone.session
      lives_after = with-others world.sessions d c after.session (λ same. other (sym same)) ∙ is.lives

      order_after : AreInOrder next
      order_after = ascend-with world.sessions d after.session is.order

      replies_after : (more : List Reply) → replies_to c (reply_to d after.reply ++ more) ≡ replies_to c more
      replies_after more = replies-append c (reply_to d after.reply) more ∙ ap (λ (first : List (List ℕ)). first ++ replies_to c more) (others-reply c d after.reply other)

      -- The session's own world takes the notes of its window, and gives the replies that the session gets.
      pub heard_message : (replies_to c (reply_to d after.reply ++ (settled next).1) ≡ (lone_step lone items).1) × With (settled next).0 (lone_step lone items).0
      unfolding lone_step
      heard_message = (
        replies_after (settled next).1 ∙ ends.0 ∙ ap (λ (l : LoneWorld). (all_settled l).1) taken
            ∙ sym (ap (λ (a : LoneWorld × List (List ℕ)). (and_replies a.1 (all_settled (with_notes a.0 (notes_in items)))).1) answered),
        subst (λ (l : LoneWorld). With (settled next).0 l)
            (ap (λ (l : LoneWorld). (all_settled l).0) taken ∙ sym (ap (λ (a : LoneWorld × List (List ℕ)). (and_replies a.1 (all_settled (with_notes a.0 (notes_in items)))).0) answered)) ends.1,
      )
        where
          made : Option ℕ
          made = made_in items

          t : LoneDesktop
          t = record lone.desktop { made = made }

          windows : (o : Option ℕ) → SameWindows world.desktop lone.desktop o → SameWindows world.desktop t o
          windows None same = same
          windows (Some n) same = record { alone = same.alone; rect = same.rect; root = same.root; bare = same.bare; counted = same.counted }

          both : With next (told_world made (notes_of seen.window after.rest.notes))
          both = record {
            lives = lives_after;
            same = seen_after t (record { drawn = is.same.drawn; order = is.same.order; names = is.same.names; window = windows seen.window is.same.window; device = is.same.device });
            mine = is.mine;
            order = order_after;
            elsewhere = elsewhere_after;
          }

          ends : (replies_to c (settled next).1 ≡ (all_settled (told_world made (notes_of seen.window after.rest.notes))).1) × With (settled next).0 (all_settled (told_world made (notes_of seen.window after.rest.notes))).0
              × ((settled next).0.desktop.notes ≡ next.desktop.notes)
          ends = settled_with c begin Like Named laws names seen next (told_world made (notes_of seen.window after.rest.notes)) both

          taken : told_world made (notes_of seen.window after.rest.notes) ≡ told_world made (notes_in items)
          taken = ap (told_world made) (ap (notes_of seen.window) (sym ends.2) ∙ sym (notes_same seen (settled next).0.desktop.notes))

          answered : answered_alone (record lone { desktop = t }) items ≡ (record lone { desktop = t }, [])
          answered = nothing_sent seen (settled next).0.desktop.notes (record lone { desktop = t })

      -- Where the session is told nothing, it gets no reply, and its own world stays as it is.
      pub unheard_message : notes_of seen.window after.rest.notes ≡ [] → AllWaitOn world → (replies_to c (reply_to d after.reply ++ (settled next).1) ≡ []) × With (settled next).0 lone
      unheard_message none waits = (
        replies_after (settled next).1 ∙ ends.0 ∙ ap (λ (l : LoneWorld × List (List ℕ)). l.1) still_so,
        subst (With (settled next).0) (ap (λ (l : LoneWorld × List (List ℕ)). l.0) still_so) ends.1,
      )
        where
          both : With next lone
          both = record {
            lives = lives_after;
            same = subst (λ (notes : List Note). Have after.rest (fold noted_alone lone.desktop notes)) none (seen_after lone.desktop is.same);
            mine = is.mine;
            order = order_after;
            elsewhere = elsewhere_after;
          }

          ends : (replies_to c (settled next).1 ≡ (all_settled lone).1) × With (settled next).0 (all_settled lone).0 × ((settled next).0.desktop.notes ≡ next.desktop.notes)
          ends = settled_with c begin Like Named laws names seen next lone both

          still_so : all_settled lone ≡ (lone, [])
          still_so = settled_still c begin Like Named laws names seen world lone is waits
