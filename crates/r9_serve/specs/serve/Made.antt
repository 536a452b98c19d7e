-- What is told of a made record.
use Rattle.std.specs.Prelude.{◌≡◌, ◌≤◌, ℕ, List, [], ◌∷◌, ◌++◌, codes, length, max}
use Rattle.std.specs.Fmt.{decimal}
use Rattle.r9_event.specs.declared.event.event.Event.{Event}
use Rattle.r9_event.specs.declared.event.event.Opening.{Opening}
use Rattle.model_draw.specs.cost.Cells.{cells}
use Rattle.model_history.specs.generator.Record.{generated, rgb24}
use Rattle.model_history.specs.records.Line.{line}
use Rattle.model_world.specs.Replay.{costs, replay, replies, step}
use Rattle.model_world.specs.World.{World, opened}

-- the display on which a made record is answered, 640x480 of x8r8g8b8
abbrev pub made_for : Opening
made_for = record { width = 640; height = 480; chan = rgb24 }

-- how many tiles keep hidden pixels
abbrev pub tiles_in : World → ℕ
tiles_in world = cells world.desktop.device

-- the most of them after any of these events; 0 without an event
abbrev pub most_tiles_from : World → List Event → ℕ
most_tiles_from world [] = 0
most_tiles_from world (event ∷ events) = max (tiles_in (step world event).world) (most_tiles_from (step world event).world events)

abbrev pub most_tiles : Opening → List Event → ℕ
most_tiles opening events = most_tiles_from (opened opening) events

-- a line for each count
abbrev pub count_lines : (events given pixels tiles most : ℕ) → List ℕ
count_lines events given pixels tiles most =
    line (codes "events " ++ decimal events) ++ line (codes "replies " ++ decimal given) ++ line (codes "pixels " ++ decimal pixels)
    ++ line (codes "tiles " ++ decimal tiles) ++ line (codes "most " ++ decimal most)

-- Of the record of a number it tells how many events it has, how many replies they get, how many pixels were written, which are at most
-- what the events cost, and how many tiles kept hidden pixels after the last event, and at most after any.
pub record CountsMade (number : ℕ) (lines : List ℕ) : Type 0 where
  pub pixels : ℕ
  pub cheap : pixels ≤ costs made_for (generated number)
  pub are_lines : lines ≡ count_lines (length (generated number)) (length (replies made_for (generated number))) pixels (tiles_in (replay made_for (generated number))) (most_tiles made_for (generated number))
