-- The end of another session.
use Rattle.std.proofs.Common.{◌≡◌, ◌∙◌, ℕ, eqb, ◌<◌, ◌≤◌, ◌^◌, Bool, true, false, List, [], ◌∷◌, fold, Option, Some, None, refl, sym, ap, subst, arith}
use Rattle.std.specs.Prelude.{All}
use Rattle.std.proofs.lemmas.Bool.{eqb-false, eqb-true}
use Rattle.std.proofs.lemmas.List.Elements.{All-cons, All-nil}
use Rattle.r9_event.specs.declared.event.event.Event.TheVariants.{End}
use Rattle.r9_event.specs.declared.event.rio.Note.{Note}
use Rattle.model_text.specs.text.Map.{lookup, without}
use Rattle.model_text.proofs.map.Ascending.{ascend-without, without-here}
use Rattle.model_text.proofs.map.Keys.{not_key}
use Rattle.model_text.proofs.map.Maps.{without-others}
use Rattle.model_rio.specs.window.Pane.{Pane}
use Rattle.model_rio.specs.rio.Table.{Table}
use Rattle.model_draw.specs.draw.World as draw
use Rattle.model_world.specs.Session.{Session}
use Rattle.model_world.specs.Fids.{cleared}
use Rattle.model_world.specs.Links.{AreCounted, AreWithin}
use Rattle.model_world.specs.Whole.{desktop_for}
use Rattle.model_world.specs.World.{World}
use Rattle.model_world.specs.Standing.{AllWaitOn}
use Rattle.model_world.specs.Replay.{ended, settled}
use Rattle.model_alone.specs.alone.Isolated.{replies_to}
use Rattle.model_alone.specs.alone.Own.{Watched, judged_by, noted}
use Rattle.model_alone.specs.alone.Uses.{event_used}
use Rattle.model_alone.specs.alone.Lone.{LoneWorld, noted_alone}
use Rattle.model_alone.proofs.alone.Histories.{lone_after}
use Rattle.law_others.specs.told.Telling.{notes_of}
use Rattle.law_strangers.specs.followed.Devices.{AreNamesFree, IsDeviceLike}
use Rattle.law_strangers.specs.followed.Following.{HasConnection, SameDesktops}
use Rattle.law_strangers.proofs.strangers.Late.{IsElsewhere}
use Rattle.law_strangers.proofs.strangers.Strangers.{cleared_told}
use Rattle.law_strangers.proofs.events.Messages.{IsWith}
use Rattle.law_strangers.proofs.turns.Turns.{IsEventAlike, IsLeft, IsTurnAlike, others_followed, silent_alike, turned_with}

all_few : (made : ℕ) (ns : List ℕ) → made < 2 ^ 26 → AreWithin made ns → All HasConnection ns
all_few made [] few within = All-nil HasConnection
all_few made (n ∷ ns) few within = All-cons HasConnection n ns (omega (arith, few, within.0)) (all_few made ns few within.1)

-- the connections of a session are few enough for numbers of their own
pub counted_few : (made : ℕ) (connections : List ℕ) → AreCounted made connections → All HasConnection connections
counted_few made connections is = all_few made connections is.few is.within

module _ (c : ℕ) (begin : 0 < c) (Like : Option (ℕ × ℕ) → Option (ℕ × List ℕ) → draw.World → draw.World → Type 0) (Named : draw.World → Table → List (ℕ × Pane) → Type 0) (laws : IsDeviceLike c Like) (names : AreNamesFree Named) (seen : Watched) where
  abbrev With : World → LoneWorld → Type 0
  With world lone = IsWith c begin Like Named laws names seen world lone

  module _ (world : World) (lone : LoneWorld) (is : With world lone) (quiet : world.desktop.notes ≡ []) (d : ℕ) (first : 1 ≤ d) (other : d ≡ c → ⊥) where
    -- what is left once all that goes with its fids has gone
    abbrev without_session : Session → World
    without_session session = record world { desktop = (cleared (desktop_for d) session world.desktop).1; sessions = without world.sessions d }

    gone_left : (session : Session) → lookup world.sessions d ≡ Some session → IsLeft c begin Like Named laws names seen world (without_session session) lone
    gone_left session lives = record {
      lives = without-others world.sessions d c (λ same. other (sym same)) ∙ is.lives;
      same = λ t same.
          cleared_told c begin Like Named laws names seen.window d first other t session world.desktop (counted_few session.made session.connections away.counted) away.fids
          (subst (λ (notes : List (ℕ × Note)). SameDesktops Like Named seen.window world.desktop (fold noted_alone t (notes_of seen.window notes))) (sym quiet) same);
      order = ascend-without world.sessions d is.order;
      elsewhere = λ e stranger apart at. by e stranger apart at (eqb e d) refl;
    }
      where
        away : IsElsewhere seen.window session
        away = is.elsewhere d session other lives

        by : (e : ℕ) (stranger : Session) → (e ≡ c → ⊥) → lookup (without world.sessions d) e ≡ Some stranger → (b : Bool) → eqb e d ≡ b → IsElsewhere seen.window stranger
        by e stranger apart at true here =
            let same : e ≡ d = eqb-true e d here in
            let none : ◌≡◌ {A = Option Session} None (Some stranger) = sym (without-here world.sessions d is.order) ∙ ap (lookup (without world.sessions d)) (sym same) ∙ at in absurd cc
        by e stranger apart at false here = is.elsewhere e stranger apart (sym (without-others world.sessions d e (eqb-false e d here)) ∙ at)

    ended_turn : AllWaitOn world → (o : Option Session) → lookup world.sessions d ≡ o → IsTurnAlike c begin Like Named laws names seen lone (ended world d o) (noted seen (ended world d o).notes)
    ended_turn waits None lives = subst (IsTurnAlike c begin Like Named laws names seen lone (ended world d None)) (sym (ap (noted seen) quiet)) (silent_alike c begin Like Named laws names seen world lone is)
    ended_turn waits (Some session) lives = record { replies = both.0; rest = turned_with c begin Like Named laws names seen (settled next).0 (lone_after lone (noted seen (settled next).0.desktop.notes)).0 both.1 (settled next).1 None; quiet = refl }
      where
        next : World
        next = without_session session

        both : (replies_to c (settled next).1 ≡ (lone_after lone (noted seen (settled next).0.desktop.notes)).1) × With (settled next).0 (lone_after lone (noted seen (settled next).0.desktop.notes)).0
        both = others_followed c begin Like Named laws names seen world next lone is (gone_left session lives) waits

    -- Another session ends.
    pub ended_alike : AllWaitOn world → IsEventAlike c begin Like Named laws names seen world lone (End d)
    unfolding judged_by event_used
    ended_alike waits = record {
      turn = rw (not_key d c other) (ended_turn waits (lookup world.sessions d) refl);
      seen_so = refl;
    }
