-- What the server has after an event.
use Rattle.std.specs.Prelude.{ℕ, pos, List, []}
use Rattle.r9_event.specs.declared.event.event.Opening.{Opening}
use Rattle.model_draw.specs.draw.World as draw
use Rattle.model_world.specs.Session.{Session}
use Rattle.model_world.specs.Desktop.{Desktop, first_desktop}

-- the opening, what all sessions share, and the live sessions by number
pub record World : Type 0 where
  pub opening : Opening
  pub desktop : Desktop
  pub sessions : List (ℕ × Session)

-- the display with which the draw device starts
abbrev pub display_of : Opening → draw.Opening
display_of opening = record {
  r = record {
    min = record { x = pos 0; y = pos 0 };
    max = record { x = pos opening.width; y = pos opening.height };
  };
  chan = opening.chan;
}

abbrev pub opened : Opening → World
opened opening = record { opening = opening; desktop = first_desktop (display_of opening); sessions = [] }
