-- When a session is alone with its window, and what it is told then.
--
-- A session is not alone from the first event on by which one of these is so:
--   1   it attaches again, or by a name that asks for no new window
--   2   its first attach is refused
--   3   another session attaches its window
--   4   another session looks up a name of its window's image
--   5   another session walks into its window through `wsys`
--   6   it opens `screen` or `snarf`, or walks to or opens `wsys`
--   7   it names the display in a draw message, or chooses it by a write of `ctl`
--   8   it shares a screen, ties a name, or looks up a name that its window does not have
--   9   it writes to `wctl` for a window more, or for a rio in its window
--   10  its window becomes the host of a rio
--   11  its window is none of the root rio
--   12  it reads `ctl` of the display after the display has changed its size
use Rattle.std.specs.Prelude.{ℕ, ◌+◌, ◌==◌, Bool, true, false, not, is_none, List, [], ◌∷◌, ◌++◌, filter, map, min, Option, Some, None, if◌then◌else◌}
use Rattle.std.specs.List.{fold, filter_map}
use Rattle.std.specs.Option.{option_map_or}
use Rattle.std.specs.Str.{bytes_eq}
use Rattle.r9_event.specs.declared.event.event.Event.{Event}
use Rattle.r9_event.specs.declared.event.event.Event.TheVariants.{Begin, Msg, Take, End, Stop}
use Rattle.r9_event.specs.declared.event.event.Opening.{Opening}
use Rattle.r9_event.specs.declared.event.event.Reply.{Reply}
use Rattle.r9_event.specs.declared.event.own.Use.{Use}
use Rattle.r9_event.specs.declared.event.own.Use.TheVariants as uses
use Rattle.r9_event.specs.declared.event.own.Item.{Item}
use Rattle.r9_event.specs.declared.event.own.Item.TheVariants.{Sent, Noted}
use Rattle.r9_event.specs.declared.event.rio.Note.{Note}
use Rattle.model_files.specs.wire.Reading.{tag_of}
use Rattle.model_files.specs.wire.Spelling.{spelling_of_r}
use Rattle.model_draw.specs.draw.Act.{no_memory}
use Rattle.model_world.specs.Refusal.{refusal}
use Rattle.model_world.specs.World.{World, opened}
use Rattle.model_world.specs.Replay.{step}
use Rattle.model_alone.specs.alone.Uses.{event_used}

-- what is known of a session so far: whether the name of an attach of its was looked at, and the window that the first such gave
pub record Watched : Type 0 where
  pub attached : Bool
  pub window : Option ℕ

abbrev pub unseen : Watched
unseen = record { attached = false; window = None }

-- the event is the session's own
abbrev pub is_by : (c : ℕ) → Event → Bool
is_by c (Begin d) = d == c
is_by c (Msg d bytes mark) = d == c
is_by c (Take d) = d == c
is_by c (End d) = d == c
is_by c Stop = false

-- the window is the session's
abbrev pub is_its : Watched → (window : Option ℕ) → Bool
is_its seen None = false
is_its seen (Some serial) = option_map_or (λ window. window == serial) seen.window false

-- ---- reasons

abbrev pub only_if : Bool → (reason : ℕ) → List ℕ
only_if holds reason = if holds then reason ∷ [] else []

-- the reasons that an attach of the session itself gives
abbrev pub attach_reasons : Watched → (fresh : Bool) → (window : Option ℕ) → (root : Bool) → List ℕ
attach_reasons seen fresh window root =
    if seen.attached then 1 ∷ []
    else if not fresh then 1 ∷ []
    else if is_none window then 2 ∷ []
    else only_if (not root) 11

-- the reasons that a use by the session itself gives
abbrev pub own_reasons : Watched → Use → List ℕ
own_reasons seen (uses.Attach fresh window root) = attach_reasons seen fresh window root
own_reasons seen (uses.Name window) = only_if (not (is_its seen window)) 8
own_reasons seen (uses.Walk window) = []
own_reasons seen (uses.Host window) = only_if (is_its seen (Some window)) 10
own_reasons seen (uses.Own reason) = reason ∷ []

-- those that a use by another session gives
abbrev pub others_reasons : Watched → Use → List ℕ
others_reasons seen (uses.Attach fresh window root) = only_if (is_its seen window) 3
others_reasons seen (uses.Name window) = only_if (is_its seen window) 4
others_reasons seen (uses.Walk window) = only_if (is_its seen (Some window)) 5
others_reasons seen (uses.Host window) = only_if (is_its seen (Some window)) 10
others_reasons seen (uses.Own reason) = []

abbrev pub reasons : (own : Bool) → Watched → Use → List ℕ
reasons own seen used = if own then own_reasons seen used else others_reasons seen used

-- the session's first attach gives it its window
abbrev pub after_use : (own : Bool) → Watched → Use → Watched
after_use true seen (uses.Attach fresh window root) = if seen.attached then seen else record { attached = true; window = window }
after_use own seen used = seen

abbrev pub reasons_from : (own : Bool) → Watched → List Use → List ℕ
reasons_from own seen [] = []
reasons_from own seen (used ∷ more) = reasons own seen used ++ reasons_from own (after_use own seen used) more

-- ---- what the session is told

-- a mark stands where it took effect: there the message is refused for want of memory
abbrev pub effective : List ℕ → (mark : Option ℕ) → List Reply → Option ℕ
effective bytes mark [] = None
effective bytes mark (reply ∷ replies) =
    if bytes_eq reply.bytes (spelling_of_r (refusal (tag_of bytes) no_memory)) then mark else None

-- its own message
abbrev pub sent : (c : ℕ) → List Reply → Event → List Item
sent c replies (Msg d bytes mark) = if d == c then Sent bytes (effective bytes mark replies) ∷ [] else []
sent c replies event = []

-- the notes of its window
abbrev pub noted : Watched → List (ℕ × Note) → List Item
noted seen notes = filter_map (λ told. if is_its seen (Some told.0) then Some (Noted told.1) else None) notes

-- Its message stands first. Of its end it is told nothing.
abbrev pub told : (c : ℕ) → Watched → List Reply → List (ℕ × Note) → Event → List Item
told c seen replies notes (End d) = if d == c then [] else noted seen notes
told c seen replies notes event = sent c replies event ++ noted seen notes

-- ---- over a history

-- what an event shows of a session: why it is not alone, what it is told, and what is known of it then
pub record Judged : Type 0 where
  pub reasons : List ℕ
  pub items : List Item
  pub seen : Watched

unfoldable pub judged_by : (c : ℕ) → Watched → List Use → List (ℕ × Note) → List Reply → Event → Judged
judged_by c seen used notes replies event =
    let known = fold (after_use (is_by c event)) seen used in
    record {
      reasons = reasons_from (is_by c event) seen used;
      items = told c known replies notes event;
      seen = known;
    }

abbrev pub judged : (c : ℕ) → World → Watched → Event → Judged
judged c world seen event =
    let turn = step world event in judged_by c seen (event_used world turn.world event) turn.notes turn.replies event

abbrev pub judged_from : (c : ℕ) → World → Watched → List Event → List Judged
judged_from c world seen [] = []
judged_from c world seen (event ∷ events) =
    judged c world seen event ∷ judged_from c (step world event).world (judged c world seen event).seen events

-- what each event of a history shows of a session
abbrev pub all_judged : Opening → (c : ℕ) → List Event → List Judged
all_judged opening c events = judged_from c (opened opening) unseen events

abbrev pub is_empty : {A : Type 0} → List A → Bool
is_empty [] = true
is_empty (x ∷ xs) = false

-- a step for each event of which the session is told something
abbrev pub steps_of : List Judged → List (List Item)
steps_of all = filter (λ items. not (is_empty items)) (map (λ j. j.items) all)

-- what a session is told in a history
abbrev pub own : Opening → (c : ℕ) → List Event → List (List Item)
own opening c events = steps_of (all_judged opening c events)

abbrev pub lowest : List ℕ → ℕ
lowest [] = 0
lowest (n ∷ []) = n
lowest (n ∷ ns) = min n (lowest ns)

-- the place of the first event that gives reasons, and the lowest of them
abbrev pub first_reason : (place : ℕ) → List Judged → Option (ℕ × ℕ)
first_reason place [] = None
first_reason place (j ∷ more) = if is_empty j.reasons then first_reason (place + 1) more else Some (place, lowest j.reasons)

-- By which event, counted from 1, and for which reason a session is not alone with its window; None where it is.
abbrev pub not_alone : Opening → (c : ℕ) → List Event → Option (ℕ × ℕ)
not_alone opening c events = first_reason 1 (all_judged opening c events)
