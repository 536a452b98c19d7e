-- What a draw device keeps whatever connections and the window manager do.
use Rattle.model_draw.specs.draw.World.{World}
use Rattle.law_shown.specs.shown.Showing.{IsOrderly}
use Rattle.law_likeness.specs.making.Standing.{IsWhole}

pub record IsSteady (world : World) : Type 0 where
  pub whole : IsWhole world
  pub orderly : IsOrderly world
