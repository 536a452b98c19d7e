-- A session that is watched, and what an entry of the history shows of it.
use Rattle.std.specs.Prelude.{◌≡◌, ℕ, ◌++◌, true, false, List, [], ◌∷◌, if◌then◌else◌}
use Rattle.r9_event.specs.declared.event.event.Did.{Did}
use Rattle.r9_event.specs.declared.event.event.Entry.{Entry}
use Rattle.r9_event.specs.declared.event.own.Item.{Item}
use Rattle.model_world.specs.Replay.{marked}
use Rattle.model_alone.specs.alone.Own.{Judged, Watched, is_empty, judged_by, lowest}
use Rattle.r9_isol.specs.declared.watch.watch.Watch.TheInside as watch
use Rattle.r9_isol.specs.declared.watch.watch.WatchFault.{WatchFault}
use Rattle.r9_isol.specs.declared.watch.watch.WatchFault.TheVariants.{NotAlone, Memory}
use Rattle.r9_isol.specs.watch.Words.{watched_of}

-- the session's number, what is known of it, and the steps of what it was told
pub record Watching : Type 0 where
  pub session : ℕ
  pub seen : Watched
  pub items : List (List Item)

abbrev pub watching_of : watch.Inside → Watching
watching_of w = record { session = w.session; seen = watched_of w.seen; items = w.items }

-- what an entry shows by what it gave, as it stands in the history
abbrev pub shown : Watching → Entry → Did → Judged
shown w entry did = judged_by w.session w.seen did.uses did.notes did.replies (marked entry.event did.short)

-- one step more, if it has items
abbrev pub with_step : List (List Item) → List Item → List (List Item)
with_step steps items = if is_empty items then steps else steps ++ items ∷ []

-- what is watched after an event that gave no reason
abbrev pub after_judged : Watching → Judged → Watching
after_judged w judged = record w { seen = judged.seen; items = with_step w.items judged.items }

-- the entry of this number gives reasons, and this is the lowest; memory runs out only where it gives none
abbrev pub IsNotAlone : (number : ℕ) → Judged → WatchFault → Type 0
IsNotAlone number judged (NotAlone entry reason) = (entry ≡ number) × (is_empty judged.reasons ≡ false) × (reason ≡ lowest judged.reasons)
IsNotAlone number judged Memory = is_empty judged.reasons ≡ true
