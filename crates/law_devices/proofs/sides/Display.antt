-- Each desktop that a history leads to has the display with which the history began, but for its size.
use Rattle.std.proofs.Common.{◌≡◌, ℕ, true, List, None, refl, ap, ◌∙◌}
use Rattle.std.specs.Prelude.{option_map}
use Rattle.r9_event.specs.declared.event.event.Event.{Event}
use Rattle.r9_event.specs.declared.event.event.Opening.{Opening}
use Rattle.model_history.specs.event.Legal.{IsLegal}
use Rattle.model_rio.proofs.rio.Orders.{acts_keep_connections}
use Rattle.law_others.proofs.sized.Acts.{box_height, box_width}
use Rattle.model_forest.specs.World.{IsLive, parent_of}
use Rattle.model_forest.specs.declared.Standing.{Standing}
use Rattle.model_forest.specs.Steps.{after_image, after_set}
use Rattle.model_draw_parts.specs.images.Book.{add_id, new_screen}
use Rattle.model_draw.specs.draw.World.{World, at_number, started}
use Rattle.model_draw.specs.draw.Orders.{is_side, manager, with_root_rio}
use Rattle.law_shown.proofs.shown.Following.{shown_used}
use Rattle.law_likeness.specs.likeness.Likeness.{display_id}
use Rattle.law_likeness.specs.making.Standing.{standing_on}
use Rattle.law_others.proofs.managed.Starting.{first_whole}
use Rattle.law_others.proofs.others.Display.{first_furnished}
use Rattle.law_shown.proofs.fitting.Opening.{first_orderly}
use Rattle.model_world.specs.Desktop.{Desktop, stepped}
use Rattle.model_world.specs.Replay.{replay}
use Rattle.model_world.specs.World.{display_of, opened}
use Rattle.law_others.specs.orders.Leading.{Leads, acts, there, uses}
use Rattle.law_others.proofs.orders.Histories.{history_leads}
use Rattle.law_devices.specs.sides.Display.{HasDisplay}
use Rattle.law_devices.proofs.sides.Keeping.{HasSides, IsKept, orders_kept, orders_sided, used_kept, used_sided}

first_sides : (opening : Opening) → is_side opening.width ≡ true → is_side opening.height ≡ true → HasSides opening.chan (at_number (opened opening).desktop.device 0)
unfolding started with_root_rio add_id new_screen after_image after_set
first_sides opening wide high = record {
  wide = ap (λ (n : ℕ). is_side n) (box_width opening.width opening.height) ∙ wide;
  high = ap (λ (n : ℕ). is_side n) (box_height opening.width opening.height) ∙ high;
  chan_is = refl;
}

first_kept : (opening : Opening) → IsKept (opened opening).desktop.device
first_kept opening = record {
  steady = record { whole = first_whole (display_of opening); orderly = first_orderly (display_of opening) };
  furnished = first_furnished (display_of opening) refl;
}

led_kept : (start desktop : Desktop) → IsKept start.device → Leads start desktop → IsKept desktop.device
unfolding stepped
led_kept start desktop kept there = kept
led_kept start desktop kept (acts before a step leads spelled e fit) = orders_kept step.orders before.device fit (acts_keep_connections before.table a step e) (led_kept start before kept leads)
led_kept start desktop kept (uses before next leads table used) = used_kept before.device next.device used (led_kept start before kept leads)

led_sided : (chan : ℕ) (start desktop : Desktop) → IsKept start.device → HasSides chan (at_number start.device 0) → Leads start desktop → HasSides chan (at_number desktop.device 0)
unfolding stepped
led_sided chan start desktop kept sides there = sides
led_sided chan start desktop kept sides (acts before a step leads spelled e fit) =
    orders_sided chan step.orders before.device fit (acts_keep_connections before.table a step e) (led_kept start before kept leads) (led_sided chan start before kept sides leads)
led_sided chan start desktop kept sides (uses before next leads table used) = used_sided chan before.device next.device used (led_kept start before kept leads) (led_sided chan start before kept sides leads)

-- ---- each history

pub history_kept : (opening : Opening) (events : List Event) → IsLegal events → IsKept (replay opening events).desktop.device
history_kept opening events legal = led_kept (opened opening).desktop (replay opening events).desktop (first_kept opening) (history_leads opening events legal)

-- what is used lives
kept_live : (w : World) → IsKept w → IsLive w.images 0
kept_live w kept = (let standing = kept.steady.whole.standing in standing.live 0 (shown_used w.book manager 0 display_id kept.furnished.named))

-- and what lives stands where the book has it
kept_nowhere : (w : World) → IsKept w → parent_of w.images 0 ≡ None
kept_nowhere w kept =
    let standing = kept.steady.whole.standing in
    ap (option_map (λ (s : Standing). s.parent)) (standing.stands 0 (kept_live w kept) ∙ ap (option_map (standing_on w.book)) kept.furnished.bare)

pub history_nowhere : (opening : Opening) (events : List Event) → IsLegal events → parent_of (replay opening events).desktop.device.images 0 ≡ None
history_nowhere opening events legal = kept_nowhere (replay opening events).desktop.device (history_kept opening events legal)

pub history_display : (opening : Opening) (events : List Event) → is_side opening.width ≡ true → is_side opening.height ≡ true → IsLegal events → HasDisplay opening.chan (replay opening events).desktop.device
history_display opening events wide high legal =
    let w = (replay opening events).desktop.device in
    let kept = history_kept opening events legal in
    let sides = led_sided opening.chan (opened opening).desktop (replay opening events).desktop (first_kept opening) (first_sides opening wide high) (history_leads opening events legal) in
    record {
      live = kept_live w kept;
      nowhere = kept_nowhere w kept;
      corner = kept.furnished.corner;
      wide = sides.wide;
      high = sides.high;
      chan_is = sides.chan_is;
    }
