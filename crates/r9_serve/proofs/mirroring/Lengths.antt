-- A record is longer than its history.
use Rattle.std.proofs.Common.{ℕ, ◌≤◌, ◌<◌, ◌^◌, List, [], ◌∷◌, length, inl, inr, ap, arith}
use Rattle.std.specs.List.{flat_map}
use Rattle.std.proofs.lemmas.List.{length-append}
use Rattle.r9_event.specs.declared.event.event.Event.{Event}
use Rattle.model_history.specs.records.Line.{event_line, event_text, line}
use Rattle.model_history.specs.records.Record.{header, header_from, IsRecord, IsSpelled}

lines_long : (events : List Event) → length events ≤ length (flat_map event_line events)
lines_long [] = omega arith
lines_long (event ∷ events) =
    let here = length-append (event_text event) (10 ∷ []) in
    omega (arith, here, length-append (event_line event) (flat_map event_line events), lines_long events)

spelled_long : (text : List ℕ) (events : List Event) → IsSpelled text events → length events ≤ length text
spelled_long text events (inl is) = omega (arith, ap length is, length-append (line header) (flat_map event_line events), lines_long events)
spelled_long text events (inr is) = omega (arith, ap length is, length-append (line (header_from 1)) (flat_map event_line events), lines_long events)

pub record_few : (text : List ℕ) (events : List Event) → IsRecord text events → length events < 2 ^ 40
record_few text events is = (let long = spelled_long text events is.spelled in let short = is.short in omega (arith, long, short))
