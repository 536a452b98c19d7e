-- Numbers of at most 7 digits in the options of a command.
use Rattle.std.specs.Prelude.{ℕ, ℤ, pos, neg_ℤ, ◌≤ℤ◌, ◌≤◌, List, length, slice_get, Some, ◌≡◌}
use Rattle.model_files.specs.declared.wctl.Amount.{Amount}
use Rattle.model_files.specs.declared.wctl.Amount.TheVariants.{Is, Plus, Minus}
use Rattle.model_files.specs.declared.wctl.Choice.{Choice}
use Rattle.model_files.specs.declared.wctl.Choice.TheVariants.{R, Minx, Miny, Maxx, Maxy, Dx, Dy}
use Rattle.r9_geom.specs.declared.Rect.{Rect}

pub record IsSmall (n : ℤ) : Type 0 where
  pub low : neg_ℤ (pos 9999999) ≤ℤ n
  pub high : n ≤ℤ pos 9999999

pub record IsSmallRect (r : Rect) : Type 0 where
  pub left : IsSmall r.min.x
  pub top : IsSmall r.min.y
  pub right : IsSmall r.max.x
  pub bottom : IsSmall r.max.y

abbrev pub number_of : Amount → ℤ
number_of (Is n) = n
number_of (Plus n) = n
number_of (Minus n) = n

abbrev pub IsSmallChoice : Choice → Type 0
IsSmallChoice (R r) = IsSmallRect r
IsSmallChoice (Minx a) = IsSmall (number_of a)
IsSmallChoice (Miny a) = IsSmall (number_of a)
IsSmallChoice (Maxx a) = IsSmall (number_of a)
IsSmallChoice (Maxy a) = IsSmall (number_of a)
IsSmallChoice (Dx a) = IsSmall (number_of a)
IsSmallChoice (Dy a) = IsSmall (number_of a)

-- at most 1,024 options, each with small numbers
pub record AreOptions (options : List Choice) : Type 0 where
  pub few : length options ≤ 1024
  pub small : (i : ℕ) (choice : Choice) → slice_get options i ≡ Some choice → IsSmallChoice choice
