-- What a hall stores, and whether it has stopped.
use Rattle.std.proofs.Common.{◌≡◌, ◌+◌, ◌-◌, Bool, true, false, List, length, refl, sym, ap, ◌∙◌, arith, length-drop}
use Rattle.std.specs.Prelude.{◌↔◌, IsTrue, not}
use Rattle.r9_event.specs.declared.event.event.Event.TheVariants.{Stop}
use Rattle.r9_event.specs.declared.event.event.Entry.{Entry}
use Rattle.model_history.specs.event.Legal.{Roll, roll_of}
use Rattle.model_history.specs.event.Journal.{events_of}
use Rattle.r9_lock.specs.Histories.{Stores}
use Rattle.r9_hall.specs.hall.HallView.{AllowedNext, HallValue, StandsFor}

pub stores : (h : HallValue) (history : List Entry) → StandsFor h history → Stores history (h.first - 1 + length h.stored) h.first h.stored
stores h history is =
    let counted : h.first - 1 + length h.stored ≡ length history = omega (arith, is.from, is.to, ap length is.stored, length-drop (h.first - 1) history) in
    record { counted = counted; from = is.from; to = omega (arith, is.from, is.to, counted); kept = is.stored }

pub stopped : (h : HallValue) (can : Bool) → (IsTrue can ↔ AllowedNext h Stop) → (history : List Entry) → StandsFor h history → not can ≡ (roll_of (events_of history)).stopped
stopped h can is history stands = by can is h.roll.stopped refl ∙ ap (λ (r : Roll). r.stopped) stands.roll
  where
    by : (b : Bool) → (IsTrue b ↔ AllowedNext h Stop) → (stops : Bool) → h.roll.stopped ≡ stops → not b ≡ h.roll.stopped
    by true is stops at = sym (is.0 refl).0.0
    by false is true at = sym at
    by false is false at = let two : false ≡ true = is.1 ((at, tt), λ _. refl) in absurd (cc two)
