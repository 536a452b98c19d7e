-- What the answer to a message tells of what it did, by which what the message used is seen.
use Rattle.std.specs.Prelude.{◌≡◌, ◌==◌, ℕ, false, is_some, List, Option}
use Rattle.std.specs.Option.{option_map_or}
use Rattle.model_draw.specs.draw.Act.{no_memory, written}
use Rattle.model_world.specs.Desktop.{Desktop}
use Rattle.model_world.specs.Whole.{client}
use Rattle.model_alone.specs.used.Look.{Look, Draws}
use Rattle.r9_files.specs.declared.around.wrote.Told.{Told}
use Rattle.r9_files.specs.around.Words.{AreTold}
use Rattle.r9_desktop.specs.Words.{AreDone}

-- Of a data write it tells what the draw device did, and whether memory ran out; and the files of windows have what they had.
pub record IsDrawn (k : ℕ) (before after : Desktop) (bytes : List ℕ) (mark : Option ℕ) (told : Option Told) (short : Option ℕ) : Type 0 where
  pub told_are : AreTold told (AreDone k before.device bytes mark)
  pub short_is : is_some short ≡ option_map_or (λ n. n == no_memory) (written k before.device bytes mark).refusal false
  pub panes_are : after.panes ≡ before.panes

-- the message was seen so before it was answered
abbrev pub IsTelling : (c : ℕ) → (before after : Desktop) → (mark : Option ℕ) → (told : Option Told) → (short : Option ℕ) → Look → Type 0
IsTelling c before after mark told short (Draws connection bytes) = IsDrawn (client c connection) before after bytes mark told short
IsTelling c before after mark told short look = Unit {0}
