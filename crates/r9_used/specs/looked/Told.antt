-- What is told of a write to the draw device so that its bytes can be read again.
use Rattle.std.specs.Prelude.{◌≡◌, ℕ, List, Option}
use Rattle.model_draw.specs.draw.World.{World}
use Rattle.model_draw.specs.draw.Act.{written}
use Rattle.model_alone.specs.alone.Uses.{most_looked_at}
use Rattle.model_draw.specs.looked.Rows.{rows_within}

-- how many of its messages are looked at, and how many bytes the rows have of each `y` that was done
pub record IsTold (k : ℕ) (device : World) (bytes : List ℕ) (mark : Option ℕ) (most : ℕ) (rows : List ℕ) : Type 0 where
  pub most_is : most ≡ most_looked_at (written k device bytes mark)
  pub rows_are : rows ≡ rows_within (written k device bytes mark).done k device bytes
