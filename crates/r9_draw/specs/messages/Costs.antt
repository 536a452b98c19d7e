-- What a message costs that is not refused (draw(3)).
use Rattle.std.specs.Prelude.{ℕ, is_some, if◌then◌else◌}
use Rattle.r9_geom.specs.Geometry.{area_of}
use Rattle.model_draw.specs.cost.Cost.{coming, drawing_cost, going_all, window_moved}
use Rattle.model_draw.specs.draw.World.{World, client_of}
use Rattle.model_draw.specs.draw.Writing.{s_alone, unmasked}
use Rattle.r9_draw.specs.declared.messages.plan.Making.{Making}
use Rattle.r9_draw.specs.declared.messages.plan.Plan.{Plan}
use Rattle.r9_draw.specs.declared.messages.plan.Plan.TheVariants.{Make, Draw, Free, FreeScreen, LoadCell, Move, Write}
use Rattle.r9_draw.specs.messages.Plans.{drawing_by, freed_by, screen_freed_by}

-- a window comes where the image has a screen
abbrev pub making_cost : Making → ℕ
making_cost m = if is_some m.screen then coming m.r else 0

abbrev pub plan_cost : ℕ → World → Plan → ℕ
plan_cost k world (Make m) = making_cost m
plan_cost k world (Draw t) = drawing_cost world.images (drawing_by (client_of world k).op t)
plan_cost k world (Free id) = going_all world.images (freed_by world k id).gone
plan_cost k world (FreeScreen id) = going_all world.images (screen_freed_by world k id).gone
plan_cost k world (LoadCell l) = drawing_cost world.images (unmasked l.cache.0 l.r l.r l.src.0 l.sp s_alone)
plan_cost k world (Move image rmin scr) = window_moved world image.0
plan_cost k world (Write image r len) = area_of r
plan_cost k world _ = 0
