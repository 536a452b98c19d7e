-- What an act counts is at most what it is told to have counted.
use Rattle.std.proofs.Common.{◌≡◌, ◌≤◌, ◌+◌, ◌∷◌, ◌++◌, ℕ, Bool, true, false, List, [], arith}
use Rattle.std.specs.Prelude.{MatchBool}
use Rattle.r9_event.specs.declared.event.event.Entry.{Entry}
use Rattle.r9_event.specs.declared.event.ask.Answer.{Answer}
use Rattle.r9_lock.specs.declared.chronicle.Acted.{Acted}
use Rattle.model_history.specs.event.Journal.{events_of}
use Rattle.model_world.specs.Replay.{replay, step}
use Rattle.r9_hall.specs.hall.Acts.{IsCounted}
use Rattle.r9_hall.specs.hall.HallView.{HallValue, StandsFor}

-- at most the cost of an entry, or nothing
abbrev bounded : (h now : HallValue) (before : List Entry) (entered : Bool) (count : ℕ) → Type 0
bounded h now before entered count =
    MatchBool entered ((entry : Entry) × StandsFor now (before ++ entry ∷ []) × (count ≤ 0 + (step (replay h.opening (events_of before)) entry.event).cost)) (count ≡ 0)

fewer_bounded : (h now : HallValue) (before : List Entry) (entered : Bool) (told count : ℕ) → told ≤ count → bounded h now before entered count → bounded h now before entered told
fewer_bounded h now before true told count fewer is =
    let most : count ≤ 0 + (step (replay h.opening (events_of before)) is.0.event).cost = is.2 in (is.0, is.1, omega (arith, fewer, most))
fewer_bounded h now before false told count fewer is = let none : count ≡ 0 = is in omega (arith, fewer, none)

-- fewer were counted
pub counted_fewer : (h now : HallValue) (acted : Acted Answer) (told count : ℕ) → told ≤ count → IsCounted h acted now 0 count → IsCounted h acted now 0 told
counted_fewer h now acted told count fewer is before stands = fewer_bounded h now before acted.entered told count fewer (is before stands)
