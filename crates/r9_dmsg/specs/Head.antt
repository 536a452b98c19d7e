-- A string's head as the definitions read it.
use Rattle.std.specs.Prelude.{ℕ, ◌^◌}
use Rattle.r9_geom.specs.Geometry.{IsNearBy, IsRectNearBy}
use Rattle.r9_geom.specs.declared.Point.{Point}
use Rattle.r9_geom.specs.declared.Rect.{Rect}
use Rattle.r9_dmsg.specs.declared.writing.Head.{Head}

abbrev pub head_of : Head → ℕ × (ℕ × (ℕ × (Point × (Rect × Point))))
head_of head = (head.dstid, (head.srcid, (head.fontid, (head.p, (head.clipr, head.sp)))))

-- the numbers of its points and of its rectangle are of 32 bits
pub record IsNearHead (head : Head) : Type 0 where
  pub p : IsNearBy (2 ^ 31) head.p
  pub clipr : IsRectNearBy (2 ^ 31) head.clipr
  pub sp : IsNearBy (2 ^ 31) head.sp
