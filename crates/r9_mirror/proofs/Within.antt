-- Numbers that are a cell of a picture lie in it.
use Rattle.std.proofs.Common.{◌≡◌, ℕ, true, ◌+◌, ◌-◌, ◌*◌, ◌%◌, ◌<◌, ◌==◌, arith, pos, min}
use Rattle.std.specs.Prelude.{nat_lt, ◌&&◌}
use Rattle.std.proofs.lemmas.Int.{ints}
use Rattle.std.proofs.lemmas.Bool.{and_parts, ltb-true, eqb-true}
use Rattle.r9_geom.proofs.GeometryLemmas.{bounds_of, holds_from, distance_is}
use Rattle.model_client.specs.mirror.Picture.{area, is_cell}
use Rattle.r9_mirror.specs.declared.lines.Size.{Size}
use Rattle.r9_mirror.specs.Sizes.{blank_of, IsLawful, IsWithin}

pub record Fits (size : Size) (x y width height : ℕ) : Type 0 where
  pub across : x < size.width
  pub down : y < size.height
  pub wide : width ≡ min 32 (size.width - x)
  pub tall : height ≡ min 32 (size.height - y)

pub fits : (size : Size) (x y width height : ℕ) → is_cell (blank_of size) x y width height ≡ true → Fits size x y width height
fits size x y width height is =
    let rows = and_parts ((x % 32 == 0) && (y % 32 == 0) && nat_lt x size.width && nat_lt y size.height && (width == min 32 (size.width - x))) (height == min 32 (size.height - y)) is in
    let columns = and_parts ((x % 32 == 0) && (y % 32 == 0) && nat_lt x size.width && nat_lt y size.height) (width == min 32 (size.width - x)) rows.0 in
    let down = and_parts ((x % 32 == 0) && (y % 32 == 0) && nat_lt x size.width) (nat_lt y size.height) columns.0 in
    let across = and_parts ((x % 32 == 0) && (y % 32 == 0)) (nat_lt x size.width) down.0 in
    record {
      across = ltb-true x size.width across.1;
      down = ltb-true y size.height down.1;
      wide = eqb-true width (min 32 (size.width - x)) columns.1;
      tall = eqb-true height (min 32 (size.height - y)) rows.1;
    }

pub lies : (size : Size) (x y width height : ℕ) → IsLawful size → Fits size x y width height → IsWithin size (record { order = 2048 * y + x; r = area x y width height })
lies size x y width height lawful f =
    record {
      order = omega (arith, f.across, f.down, lawful.width, lawful.height);
      near = record {
        min = record { left = omega (arith, ints); right = omega (arith, ints, f.across, lawful.width); top = omega (arith, ints); bottom = omega (arith, ints, f.down, lawful.height) };
        max = record { left = omega (arith, ints); right = omega (arith, ints, f.across, f.wide, lawful.width); top = omega (arith, ints); bottom = omega (arith, ints, f.down, f.tall, lawful.height) };
      };
      ordered = record { across = omega (arith, ints); down = omega (arith, ints) };
      few = let d = distance_is (pos y) (pos (y + height)) (omega (arith, ints)) in omega (arith, ints, d, f.tall);
      inside = λ p h.
          let at = bounds_of (area x y width height) p h in
          holds_from (area 0 0 size.width size.height) p
          (record {
            left = omega (arith, ints, at.left);
            right = omega (arith, ints, at.right, f.across, f.wide);
            top = omega (arith, ints, at.top);
            bottom = omega (arith, ints, at.bottom, f.down, f.tall);
          });
    }
