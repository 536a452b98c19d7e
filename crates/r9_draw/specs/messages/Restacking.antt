-- What a `t` asks for, and the world after it where it is not refused.
use Rattle.std.specs.Prelude.{◌≡◌, ◌/◌, ℕ, true, List, [], length, is_ok, if◌then◌else◌}
use Rattle.std.specs.Int.{w32}
use Rattle.std.specs.Result.{result_unwrap_or}
use Rattle.model_draw_parts.specs.dmsg.Reading.{numbers_of}
use Rattle.model_forest.specs.Stack.{after_lower, after_raise}
use Rattle.model_draw.specs.draw.World.{World, with_images}
use Rattle.model_draw.specs.draw.Making.{flag}
use Rattle.model_draw.specs.draw.Moving.{look_windows}
use Rattle.r9_dmsg.specs.declared.restacking.Restacking.{Restacking}

-- the ids that it names
abbrev pub ids_of : Restacking → List ℕ
ids_of asked = numbers_of w32 (length asked.ids.now / 4) asked.ids.now

-- each of them shows a window
abbrev pub ShowWindows : ℕ → World → Restacking → Type 0
ShowWindows k world asked = is_ok (look_windows world k (ids_of asked)) ≡ true

-- and these are the windows, in their order
abbrev pub group_of : ℕ → World → Restacking → List ℕ
group_of k world asked = result_unwrap_or (look_windows world k (ids_of asked)) []

unfoldable pub after_restacking : ℕ → World → Restacking → World
after_restacking k world asked =
    with_images world
    (if flag asked.top then after_raise world.images (group_of k world asked) else after_lower world.images (group_of k world asked))
