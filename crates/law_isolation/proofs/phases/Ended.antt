-- After a session ended nothing is told to its window any more.
use Rattle.std.proofs.Common.{◌≡◌, ℕ, false, List, [], Option, Some, None, ap}
use Rattle.r9_event.specs.declared.event.event.Event.{Event}
use Rattle.r9_event.specs.declared.event.event.Event.TheVariants.{Begin, Msg, Take, End, Stop}
use Rattle.r9_event.specs.declared.event.rio.Note.{Note}
use Rattle.model_text.specs.text.Map.{lookup, without}
use Rattle.model_text.proofs.map.Ascending.{ascend-with, ascend-without}
use Rattle.model_rio.specs.rio.Notes.{is_told}
use Rattle.model_world.specs.Session.{Session}
use Rattle.model_world.specs.Fids.{cleared}
use Rattle.model_world.specs.Answer.{answer}
use Rattle.model_world.specs.Whole.{desktop_for}
use Rattle.model_world.specs.World.{World}
use Rattle.model_world.specs.Standing.{AreInOrder}
use Rattle.model_world.specs.Replay.{ended, first_answered, served, settled, step, waiting_in, with_left}
use Rattle.model_world.proofs.Settling.{IfNext, all_in, first_leaves, settled_keeps}
use Rattle.model_alone.specs.alone.Own.{Watched, noted}
use Rattle.law_strangers.proofs.steady.Messages.{cleared_keeps, each_answer_keeps, one_keeps}
use Rattle.law_strangers.proofs.users.Users.{IsLost, IsSilent, lost_all, silent_all, silent_attached}
use Rattle.law_isolation.proofs.phases.Absent.{noted_none}

module _ (window : ℕ) where
  abbrev IsSo : World → Type 0
  IsSo world = AreInOrder world × IsSilent window world.desktop

  late_silent : (world : World) → IsSo world → IfNext IsSo (first_answered world world.sessions)
  late_silent world is =
      first_leaves IsSo world world.sessions (all_in world.sessions is.0) (λ d session after at answered. (
        ascend-with world.sessions d after.session is.0,
        one_keeps (desktop_for d) (IsSilent window) (silent_all d window) session world.desktop after is.1 answered,
      ))

  settled_silent : (world : World) → IsSo world → IsSilent window (settled world).0.desktop
  settled_silent world is = (settled_keeps IsSo late_silent (waiting_in world) world is).1

  -- late answers leave a window that does not live
  pub settled_lost : (world : World) → AreInOrder world → IsLost window world.desktop → IsLost window (settled world).0.desktop
  settled_lost world order is = (settled_keeps (λ next. AreInOrder next × IsLost window next.desktop) late (waiting_in world) world (order, is)).1
    where
      late : (next : World) → AreInOrder next × IsLost window next.desktop → IfNext (λ after. AreInOrder after × IsLost window after.desktop) (first_answered next next.sessions)
      late next was =
          first_leaves (λ after. AreInOrder after × IsLost window after.desktop) next next.sessions (all_in next.sessions was.0) (λ d session after at answered. (
            ascend-with next.sessions d after.session was.0,
            one_keeps (desktop_for d) (IsLost window) (lost_all d window) session next.desktop after was.1 answered,
          ))

  -- what a turn leaves and tells
  pub record IsTurnSilent (world : World) (notes : List (ℕ × Note)) : Type 0 where
    pub lost : IsLost window world.desktop
    pub quiet : is_told window notes ≡ false

  turned_silent : (world : World) → IsSilent window world.desktop → IsTurnSilent (record world { desktop = record world.desktop { notes = []; cost = 0 } }) world.desktop.notes
  turned_silent world is = record { lost = record { sound = is.lost.sound; given = is.lost.given; gone = is.lost.gone }; quiet = is.quiet }

  still_silent : (world : World) → world.desktop.notes ≡ [] → IsLost window world.desktop → IsSilent window world.desktop
  still_silent world quiet lost = record { lost = lost; quiet = ap (is_told window) quiet }

  served_silent : (world : World) (d : ℕ) (bytes : List ℕ) (mark : Option ℕ) (o : Option Session) → IsSo world → IsTurnSilent (served world d bytes mark o).world (served world d bytes mark o).notes
  served_silent world d bytes mark None is = turned_silent world is.1
  served_silent world d bytes mark (Some session) is =
      let after = answer (desktop_for d) session world.desktop bytes mark in
      let next = with_left world d after in
      turned_silent (settled next).0
      (settled_silent next (ascend-with world.sessions d after.session is.0, each_answer_keeps (desktop_for d) (IsSilent window) (silent_all d window) (silent_attached d window) session world.desktop bytes mark is.1))

  ended_silent : (world : World) (d : ℕ) (o : Option Session) → IsSo world → IsTurnSilent (ended world d o).world (ended world d o).notes
  ended_silent world d None is = turned_silent world is.1
  ended_silent world d (Some session) is =
      let next : World = record world { desktop = (cleared (desktop_for d) session world.desktop).1; sessions = without world.sessions d } in
      turned_silent (settled next).0 (settled_silent next (ascend-without world.sessions d is.0, cleared_keeps (desktop_for d) (IsSilent window) (silent_all d window) session world.desktop is.1))

  -- A window that does not live is told nothing by an event.
  pub step_silent : (world : World) (event : Event) → AreInOrder world → world.desktop.notes ≡ [] → IsLost window world.desktop → IsTurnSilent (step world event).world (step world event).notes
  step_silent world (Begin d) order quiet lost = (let is = turned_silent world (still_silent world quiet lost) in record { lost = record { sound = is.lost.sound; given = is.lost.given; gone = is.lost.gone }; quiet = is.quiet })
  step_silent world (Msg d bytes mark) order quiet lost = served_silent world d bytes mark (lookup world.sessions d) (order, still_silent world quiet lost)
  step_silent world (Take d) order quiet lost = turned_silent world (still_silent world quiet lost)
  step_silent world (End d) order quiet lost = ended_silent world d (lookup world.sessions d) (order, still_silent world quiet lost)
  step_silent world Stop order quiet lost = turned_silent world (still_silent world quiet lost)

-- its window, if it had one, does not live
abbrev pub IsWindowLost : Watched → World → Type 0
IsWindowLost seen world = (window : ℕ) → seen.window ≡ Some window → IsLost window world.desktop

-- What an event leaves of it and tells.
pub lost_step : (seen : Watched) (world : World) (event : Event) → AreInOrder world → world.desktop.notes ≡ [] → IsWindowLost seen world → (noted seen (step world event).notes ≡ []) × IsWindowLost seen (step world event).world
lost_step seen world event order quiet lost = (
  noted_none seen (step world event).notes (λ window its. (step_silent window world event order quiet (lost window its)).quiet),
  λ window its. (step_silent window world event order quiet (lost window its)).lost,
)
