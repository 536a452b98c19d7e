-- What frames leave of a picture when reading stands at a place among them.
use Rattle.std.specs.Prelude.{ℕ, ◌≡◌, ◌+◌, ◌*◌, ◌==◌, ◌≤◌, ◌<◌, IsTrue, IfSome, List, length, Option, Some, None, Result, Ok, Err, if◌then◌else◌}
use Rattle.std.specs.Option.{option_map}
use Rattle.r9_geom.specs.declared.Point.{Point}
use Rattle.r9_geom.specs.Geometry.{height, holds, IsOrdered, IsRectNear}
use Rattle.model_text.specs.text.Outcome.{Outcome, ◌>>=◌}
use Rattle.model_pixel.specs.Channels.{depth}
use Rattle.model_pixel.specs.Rows.{row_bytes}
use Rattle.model_client.specs.mirror.Picture.{Picture, area, with_rows}
use Rattle.model_client.specs.mirror.Frames.{cells, frames}
use Rattle.r9_mirror.specs.declared.lines.Size.{Size}
use Rattle.r9_mirror.specs.declared.place.Place.{Place}
use Rattle.r9_mirror.specs.declared.place.Step.{Step}
use Rattle.r9_mirror.specs.declared.place.Step.TheVariants.{Frame, Cell}
use Rattle.r9_mirror.specs.Sizes.{blank_of, size_of, IsLawful}

-- the picture of zero bits, or the one before
abbrev pub or_blank : Option Size → Option Picture → Option Picture
or_blank (Some size) picture = Some (blank_of size)
or_blank None picture = picture

-- the picture after a step
abbrev pub stepped : (chan : ℕ) → Step → Option Picture → Option Picture
stepped chan (Frame blank) picture = or_blank blank picture
stepped chan (Cell r rows) picture = option_map (with_rows chan r rows.now) picture

-- the picture after the cells of a frame that are still to come, and the place behind them
abbrev pub cells_left : (chan : ℕ) → Place → Option Picture → List ℕ → Outcome (Option Picture × ℕ)
cells_left chan place (Some picture) text =
    cells place.left chan place.first picture text place.at >>= λ next. Ok (Some next.0, next.1)
cells_left chan place None text = if place.left == 0 then Ok (None, place.at) else Err place.at

-- The text from a place on makes this outcome of a picture: it has the cells that are still to come, and then frames, of
-- which enough are counted.
pub record Leaves (chan : ℕ) (text : List ℕ) (place : Place) (picture : Option Picture) (outcome : Outcome (Option Picture)) : Type 0 where
  pub size : option_map size_of picture ≡ place.size
  pub most : ℕ
  pub enough : length text ≤ place.at + most
  pub left : (cells_left chan place picture text >>= λ next. frames most chan next.0 text next.1) ≡ outcome

-- what an answer of a step that is no end tells
abbrev pub Leads : (chan : ℕ) → List ℕ → Option Picture → Outcome (Option Picture) → Result (Step × Place) ℕ → Type 0
Leads chan text picture outcome (Ok (step, next)) = Leaves chan text next (stepped chan step picture) outcome
Leads chan text picture outcome (Err place) = outcome ≡ Err place

-- what an answer of a step tells of the outcome
abbrev pub Tells : (chan : ℕ) → List ℕ → Option Picture → Outcome (Option Picture) → Result (Option (Step × Place)) ℕ → Type 0
Tells chan text picture outcome (Ok (Some (step, next))) = Leaves chan text next (stepped chan step picture) outcome
Tells chan text picture outcome (Ok None) = outcome ≡ Ok picture
Tells chan text picture outcome (Err place) = outcome ≡ Err place

-- a place in the text, where the picture may have this size
pub record IsPlace (text : List ℕ) (place : Place) : Type 0 where
  pub within : place.at ≤ length text
  pub lawful : IfSome place.size IsLawful

-- the size after a step, and rows that a picture of it has room for
abbrev pub Keeps : (chan : ℕ) → (before after : Option Size) → Step → Type 0
Keeps chan before after (Frame (Some size)) = after ≡ Some size
Keeps chan before after (Frame None) = after ≡ before
Keeps chan before after (Cell r rows) =
    (after ≡ before) × IsRectNear r × IsOrdered r × (length rows.now ≡ row_bytes r (depth chan) * height r)
    × IfSome after (λ size. (p : Point) → IsTrue (holds r p) → IsTrue (holds (area 0 0 size.width size.height) p))

-- a step leads on
pub record IsFurther (chan : ℕ) (text : List ℕ) (place next : Place) (step : Step) : Type 0 where
  pub stands : IsPlace text next
  pub further : place.at < next.at
  pub keeps : Keeps chan place.size next.size step
