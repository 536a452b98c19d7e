-- All that a desk writes for a list of events is answered without an error, and leaves rio the windows of its table.
use Rattle.std.proofs.Common.{◌≡◌, ◌∙◌, ◌≤◌, ◌+◌, ◌^◌, ℕ, ◌==◌, List, [], ◌∷◌, ◌++◌, length, filter, fold, take, All, refl, sym, ap, subst, arith, eq-eqb}
use Rattle.std.proofs.lemmas.List.{length-take, map-append}
use Rattle.std.proofs.lemmas.List.Elements.{All-take}
use Rattle.model_files.specs.wire.Message.{R, T}
use Rattle.model_rio.specs.rio.Table.{Table, Window, windows_in}
use Rattle.law_shown.proofs.fitting.Lists.{Each, each_of}
use Rattle.model_files.specs.declared.mouse.Mouse.{Mouse}
use Rattle.model_client.specs.declared.desk.Text.{Text}
use Rattle.model_client.specs.desk.Table.{Desk, start}
use Rattle.model_client.specs.desk.Pilot.{after, after_all, pilot, written, written_from}
use Rattle.model_world.specs.World.{World}
use Rattle.law_text.specs.client.Saying.{AreAnswered}
use Rattle.law_text.proofs.client.Saying.{all_said, nothing_said}
use Rattle.model_clients.specs.piloted.Following.{HasWindows, hidden_panes, pane_by, seen_panes}
use Rattle.law_desk.specs.piloted.Following.{Follows, IsDeskIn, IsEvent}
use Rattle.model_clients.specs.piloted.History.{writes, written_all}
use Rattle.law_desk.proofs.piloted.Plain.{are_own}
use Rattle.law_desk.specs.ready.Ready.{IsReady}
use Rattle.law_desk.proofs.ready.Kept.{ready_after, starts}
use Rattle.law_desk.specs.steered.Steered.{AreSteered, messages, replies_to, write_of}
use Rattle.law_desk.proofs.steered.Event.{steered}

-- ---- the windows of the root rio

all_in_root : (ws : List Window) → Each (λ w. w.host ≡ 0) ws → filter (λ w. w.host == 0) ws ≡ ws
all_in_root [] root = refl
all_in_root (w ∷ ws) root = rw (eq-eqb w.host 0 root.0) (ap (λ (vs : List Window). w ∷ vs) (all_in_root ws root.1))

pub has_windows : (d : Desk) (table : Table) → Follows d table → HasWindows d table
has_windows d table is =
    let same : windows_in table 0 ≡ table.windows = all_in_root table.windows (are_own d table is).root in
    record {
      visible = ap seen_panes same ∙ is.visible;
      hidden = λ number. ap (λ (ws : List Window). pane_by number (hidden_panes ws)) same ∙ is.hidden number;
      count = ap (λ (ws : List Window). length (hidden_panes ws)) same ∙ is.count;
    }

-- ---- event by event

-- what is written from some table on
record IsRun (d : Desk) (events : List Mouse) (world : World) : Type 0 where
  left : World
  answered : AreAnswered world (messages (written_from d events)) left (replies_to (written_from d events))
  at : IsDeskIn (fold after d events) left

run : (k : ℕ) (d : Desk) (world : World) (events : List Mouse) → IsDeskIn d world → IsReady k d → Each IsEvent events → k + length events ≤ 10 ^ 8 → IsRun d events world
run k d world [] at ready each few = record { left = world; answered = nothing_said world; at = at }
run k d world (e ∷ events) at ready each few =
    let first = steered k d e world at ready each.0 (omega (arith, few)) in
    let rest = run (k + 1) (after d e) first.left events first.at (ready_after k d e ready each.0) each.1 (omega (arith, few)) in
    let said : messages (written d e ++ written_from (after d e) events) ≡ messages (written d e) ++ messages (written_from (after d e) events) =
    map-append (λ (text : Text). writes (write_of text)) (written d e) (written_from (after d e) events)
    in
    let told : replies_to (written d e ++ written_from (after d e) events) ≡ replies_to (written d e) ++ replies_to (written_from (after d e) events) =
    map-append (λ (text : Text). written_all (write_of text)) (written d e) (written_from (after d e) events)
    in
    record {
      left = rest.left;
      answered = subst (λ (ms : List T). AreAnswered world ms rest.left (replies_to (written_from d (e ∷ events)))) (sym said)
          (subst (λ (rs : List R). AreAnswered world (messages (written d e) ++ messages (written_from (after d e) events)) rest.left rs) (sym told)
          (all_said world first.left rest.left (messages (written d e)) (messages (written_from (after d e) events)) (replies_to (written d e)) (replies_to (written_from (after d e) events)) first.answered rest.answered));
      at = rest.at;
    }

-- The list of events, from a world where there is no window yet.
pub all_steered : (events : List Mouse) (world : World) → IsDeskIn start world → All IsEvent events → length events ≤ 10 ^ 8 → AreSteered events world
unfolding after_all pilot
all_steered events world at are few =
    let is = run 0 start world events at starts (each_of IsEvent events are) (omega (arith, few)) in
    record { left = is.left; answered = is.answered; at = is.at; windows = has_windows (fold after start events) is.left.desktop.table is.at.follows }

-- So it is after any first events of a list: what is written for them leaves the windows of the table then.
pub so_far : (events : List Mouse) (world : World) → IsDeskIn start world → All IsEvent events → length events ≤ 10 ^ 8 → (k : ℕ) → AreSteered (take k events) world
so_far events world at are few k =
    let short = length-take k events in
    all_steered (take k events) world at (All-take IsEvent k events are) (omega (arith, few, short))
