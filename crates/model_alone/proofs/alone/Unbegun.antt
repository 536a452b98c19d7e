-- A session that never begins is alone, and is told nothing.
use Rattle.std.proofs.Common.{◌≡◌, ◌+◌, ℕ, false, List, [], ◌∷◌, Option, Some, None, refl}
use Rattle.std.specs.Prelude.{All}
use Rattle.std.specs.List.{fold}
use Rattle.std.proofs.lemmas.List.Elements.{All-head, All-tail}
use Rattle.r9_event.specs.declared.event.event.Event.{Event}
use Rattle.r9_event.specs.declared.event.event.Event.TheVariants.{Begin, Msg, Take, End, Stop}
use Rattle.r9_event.specs.declared.event.event.Opening.{Opening}
use Rattle.r9_event.specs.declared.event.event.Reply.{Reply}
use Rattle.r9_event.specs.declared.event.own.Use.{Use}
use Rattle.r9_event.specs.declared.event.own.Use.TheVariants as uses
use Rattle.r9_event.specs.declared.event.rio.Note.{Note}
use Rattle.model_world.specs.World.{World, opened}
use Rattle.model_world.specs.Replay.{step}
use Rattle.model_alone.specs.alone.Uses.{event_used}
use Rattle.model_alone.specs.alone.Own.{Judged, after_use, first_reason, is_by, is_its, judged, judged_by, judged_from, not_alone, noted, own, reasons, reasons_from, steps_of, told, unseen}

-- no window is its
its_none : (window : Option ℕ) → is_its unseen window ≡ false
its_none None = refl
its_none (Some serial) = refl

use_gives_none : (used : Use) → reasons false unseen used ≡ []
use_gives_none (uses.Attach fresh window root) = rw (its_none window) refl
use_gives_none (uses.Name window) = rw (its_none window) refl
use_gives_none (uses.Walk window) = refl
use_gives_none (uses.Host window) = refl
use_gives_none (uses.Own reason) = refl

none_known : (used : List Use) → fold (after_use false) unseen used ≡ unseen
none_known [] = refl
none_known (u ∷ used) = none_known used

none_given : (used : List Use) → reasons_from false unseen used ≡ []
none_given [] = refl
none_given (u ∷ used) = rw (use_gives_none u) (none_given used)

none_noted : (notes : List (ℕ × Note)) → noted unseen notes ≡ []
none_noted [] = refl
none_noted (n ∷ notes) = none_noted notes

none_told : (c : ℕ) (replies : List Reply) (notes : List (ℕ × Note)) (event : Event) → is_by c event ≡ false → told c unseen replies notes event ≡ []
none_told c replies notes (Begin d) other = none_noted notes
none_told c replies notes (Msg d bytes mark) other = rw (other) (none_noted notes)
none_told c replies notes (Take d) other = none_noted notes
none_told c replies notes (End d) other = rw (other) (none_noted notes)
none_told c replies notes Stop other = none_noted notes

abbrev nothing : Judged
nothing = record { reasons = []; items = []; seen = unseen }

by_nothing : (c : ℕ) (used : List Use) (notes : List (ℕ × Note)) (replies : List Reply) (event : Event) → is_by c event ≡ false
    → judged_by c unseen used notes replies event ≡ nothing
unfolding judged_by
by_nothing c used notes replies event other =
    rw (other, none_given used, none_known used, none_told c replies notes event other) refl

judged_nothing : (c : ℕ) (world : World) (event : Event) → is_by c event ≡ false → judged c world unseen event ≡ nothing
judged_nothing c world event other =
    by_nothing c (event_used world (step world event).world event) (step world event).notes (step world event).replies event other

abbrev IsNone : List Judged → Type 0
IsNone all = ((place : ℕ) → first_reason place all ≡ None) × (steps_of all ≡ [])

from_nothing : (c : ℕ) (world : World) (events : List Event) → All (λ event. is_by c event ≡ false) events → IsNone (judged_from c world unseen events)
from_nothing c world [] others = (λ place. refl, refl)
from_nothing c world (event ∷ events) others =
    let here = judged_nothing c world event (All-head (λ event. is_by c event ≡ false) event events others) in
    let further = from_nothing c (step world event).world events (All-tail (λ event. is_by c event ≡ false) event events others) in
    rw here (λ place. further.0 (place + 1), further.1)

pub unbegun_alone : (opening : Opening) (c : ℕ) (events : List Event) → All (λ event. is_by c event ≡ false) events → not_alone opening c events ≡ None
unbegun_alone opening c events others = (from_nothing c (opened opening) events others).0 1

pub unbegun_told : (opening : Opening) (c : ℕ) (events : List Event) → All (λ event. is_by c event ≡ false) events → own opening c events ≡ []
unbegun_told opening c events others = (from_nothing c (opened opening) events others).1
