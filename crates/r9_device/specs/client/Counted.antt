-- What callers see of the sizes of a connection's images.
use Rattle.std.specs.Prelude.{ℕ, List}

-- what each image id counts, and for how many more there is room
pub record Counted : Type 0 where
  pub entries : List (ℕ × ℕ)
  pub room : ℕ
