-- A made record that is run: what its events cost, and the tiles that they leave.
use Rattle.std.proofs.Common.{◌≡◌, ◌≤◌, ◌+◌, ℕ, List, [], ◌∷◌, Result, Ok, Err, IfOk, length, max, sym, ap, subst, ◌∙◌, arith}
use Rattle.r9_event.specs.declared.event.event.Event.{Event}
use Rattle.r9_event.specs.declared.event.event.Opening.{Opening}
use Rattle.r9_memory.specs.declared.Memory.{Memory}
use Rattle.model_history.specs.generator.Record.{generated}
use Rattle.model_world.specs.World.{World}
use Rattle.model_world.specs.Replay.{costs, costs_from, replay, replies, step, world_from}
use Rattle.r9_serve.specs.serve.Made.{CountsMade, count_lines, made_for, most_tiles, most_tiles_from, tiles_in}
use Rattle.r9_serve.specs.declared.serve.generate.Counts.{Counts}

-- so many pixels were written, and what the events that are left cost is within the whole
pub costs_after : (world next : World) (events rest : List Event) (event : Event) (old new total : ℕ)
    → events ≡ event ∷ rest → next ≡ (step world event).world → new ≤ old + (step world event).cost
    → old + costs_from world events ≤ total → new + costs_from next rest ≤ total
costs_after world next events rest event old new total is goes less so_far =
    let here : costs_from world events ≡ (step world event).cost + costs_from (step world event).world rest = ap (λ (es : List Event). costs_from world es) is in
    let there : costs_from next rest ≡ costs_from (step world event).world rest = ap (λ (w : World). costs_from w rest) goes in
    omega (arith, here, there, less, so_far)

-- before any event
pub most_first : (world first : World) (events : List Event) (most : ℕ) → most ≡ 0 → world ≡ first → max most (most_tiles_from world events) ≡ most_tiles_from first events
most_first world first events most none is =
    let same : most_tiles_from world events ≡ most_tiles_from first events = ap (λ (w : World). most_tiles_from w events) is in
    omega (arith, none, same)

-- so many tiles there were at most, and those after the events that are left make the most of all
pub most_after : (world next : World) (events rest : List Event) (event : Event) (most more total tiles : ℕ)
    → events ≡ event ∷ rest → next ≡ (step world event).world → tiles ≡ tiles_in next → more ≡ max most tiles
    → max most (most_tiles_from world events) ≡ total → max more (most_tiles_from next rest) ≡ total
most_after world next events rest event most more total tiles is goes are counted so_far =
    let here : most_tiles_from world events ≡ max (tiles_in (step world event).world) (most_tiles_from (step world event).world rest) =
    ap (λ (es : List Event). most_tiles_from world es) is in
    let there : most_tiles_from next rest ≡ most_tiles_from (step world event).world rest = ap (λ (w : World). most_tiles_from w rest) goes in
    let now : tiles ≡ tiles_in (step world event).world = are ∙ ap (λ (w : World). tiles_in w) goes in
    omega (arith, here, there, now, counted, so_far)

-- no event is left
pub costs_end : (world : World) (events : List Event) (written count total : ℕ) → events ≡ [] → count ≤ written → written + costs_from world events ≤ total → count ≤ total
costs_end world events written count total none less so_far = let here : costs_from world events ≡ 0 = ap (λ (es : List Event). costs_from world es) none in omega (arith, here, less, so_far)

pub most_end : (world : World) (events : List Event) (most total : ℕ) → events ≡ [] → max most (most_tiles_from world events) ≡ total → most ≡ total
most_end world events most total none so_far = let here : most_tiles_from world events ≡ 0 = ap (λ (es : List Event). most_tiles_from world es) none in omega (arith, here, so_far)

pub tiles_end : (world last : World) (events : List Event) (tiles : ℕ) → events ≡ [] → tiles ≡ tiles_in world → world_from world events ≡ last → tiles ≡ tiles_in last
tiles_end world last events tiles none are led = are ∙ ap (λ (w : World). tiles_in w) (sym (ap (λ (es : List Event). world_from world es) none) ∙ led)

-- what was counted of the record of a number
pub made_counted : (number : ℕ) (opening : Opening) (events : List Event) (result : Result Counts Memory) → opening ≡ made_for → events ≡ generated number
    → IfOk result (λ n. n.events ≡ length events) → IfOk result (λ n. n.replies ≡ length (replies opening events)) → IfOk result (λ n. n.pixels ≤ costs opening events)
    → IfOk result (λ n. n.tiles ≡ tiles_in (replay opening events)) → IfOk result (λ n. n.most ≡ most_tiles opening events)
    → IfOk result (λ n. CountsMade number (count_lines n.events n.replies n.pixels n.tiles n.most))
made_counted number opening events (Err e) shown made all given cheap tiles most = tt
made_counted number opening events (Ok n) shown made all given cheap tiles most =
    let P : Opening × List Event → Type 0 = λ r. (n.events ≡ length r.1) × (n.replies ≡ length (replies r.0 r.1)) × (n.pixels ≤ costs r.0 r.1) × (n.tiles ≡ tiles_in (replay r.0 r.1)) × (n.most ≡ most_tiles r.0 r.1) in
    let so : P (made_for, generated number) = subst P (λ i. (shown i, made i)) (all, given, cheap, tiles, most) in
    record { pixels = n.pixels; cheap = so.2; are_lines = λ i. count_lines (so.0 i) (so.1 i) n.pixels (so.3 i) (so.4 i) }
