-- Which messages may want memory, so that a write may stop before them.
use Rattle.std.specs.Prelude.{◌≡◌, ℕ, zero, suc, Bool, true, false, nat_le, List, Option, Some, None, Ok, Err}
use Rattle.std.specs.Result.{result_ok}
use Rattle.std.specs.Option.{option_map_or}
use Rattle.r9_geom.specs.Geometry.{meet, area_of}
use Rattle.model_draw_parts.specs.dmsg.Message.{Message, LowC, LowD, UpD, UpO, LowV}
use Rattle.model_draw_parts.specs.dmsg.Reading.{first_message}
use Rattle.model_draw.specs.draw.World.{World, look, at_number}
use Rattle.model_draw.specs.draw.Act.{one_message, spelled}

-- A message that takes no memory: one of the letters c, D, O and v, or a `d` whose rectangle, cut to the target's, has at
-- most as many points as the display had at the start.
abbrev pub takes_no_memory : ℕ → World → Message → Bool
takes_no_memory k world (LowC dstid repl clipr) = true
takes_no_memory k world (LowD dstid srcid maskid dstr srcp maskp) =
    option_map_or (λ i. nat_le (area_of (meet dstr (at_number world i).r)) (area_of world.opening.r))
    (result_ok (look world k dstid))
    true
takes_no_memory k world (UpD debug) = true
takes_no_memory k world (UpO op) = true
takes_no_memory k world LowV = true
takes_no_memory k world m = false

-- the world after so many messages of a write, and the bytes behind them, where none of them is refused
abbrev pub reached : ℕ → ℕ → World → List ℕ → Option (World × List ℕ)
reached zero k world bytes = Some (world, bytes)
reached (suc n) k world bytes =
    elim (one_message k world None 0 bytes) [ Ok next ↦ reached n k next.0 next.1 | Err refusal ↦ None ]

-- behind so many messages of a write stands one that is not refused and may want memory
pub record MayRunOut (k : ℕ) (world : World) (bytes : List ℕ) (n : ℕ) : Type 0 where
  pub at : World
  pub rest : List ℕ
  pub m : Message
  pub behind : List ℕ
  pub next : World × List ℕ
  pub reaches : reached n k world bytes ≡ Some (at, rest)
  pub spells : spelled (first_message rest) ≡ Ok (m, behind)
  pub accepted : one_message k at None 0 rest ≡ Ok next
  pub wants : takes_no_memory k at m ≡ false
