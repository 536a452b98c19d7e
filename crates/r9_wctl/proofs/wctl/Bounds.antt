-- Edges stay in reach while options are applied.
use Rattle.std.proofs.Common.{ℕ, ℤ, ◌+ℤ◌, ◌-ℤ◌, ◌≤ℤ◌, ◌+◌, ◌^◌, ◌≤◌, Bool, true, false, cond, refl, arith}
use Rattle.std.proofs.lemmas.Int.{ints}
use Rattle.r9_geom.specs.declared.Rect.{Rect}
use Rattle.r9_geom.specs.Geometry.{IsRectNear}
use Rattle.model_files.specs.declared.wctl.Amount.{Amount}
use Rattle.model_files.specs.declared.wctl.Amount.TheVariants.{Is, Plus, Minus}
use Rattle.model_files.specs.declared.wctl.Choice.{Choice}
use Rattle.model_files.specs.declared.wctl.Choice.TheVariants.{R, Minx, Miny, Maxx, Maxy, Dx, Dy}
use Rattle.model_files.specs.wctl.Rectangle.{given, after_choice}
use Rattle.r9_wctl.specs.wctl.Small.{IsSmall, IsSmallChoice, number_of}
use Rattle.r9_wctl.specs.wctl.Reach.{IsWithin, IsFar, IsFarRect, reach, IsSpan, IsReached}

-- an amount takes a quantity no further than its number
with_amount : (n : ℕ) (z : ℤ) (a : Amount) → IsWithin n z → IsSmall (number_of a) → IsWithin (n + 10000000) (given z a)
with_amount n z (Is m) w s = record { low = omega (arith, ints, w.low, s.low); high = omega (arith, ints, w.high, s.high) }
with_amount n z (Plus m) w s = record { low = omega (arith, ints, w.low, s.low); high = omega (arith, ints, w.high, s.high) }
with_amount n z (Minus m) w s = record { low = omega (arith, ints, w.low, s.high); high = omega (arith, ints, w.high, s.low) }

wider : (m n : ℕ) (z : ℤ) → m ≤ n → IsWithin m z → IsWithin n z
wider m n z le w = record { low = omega (arith, ints, w.low); high = omega (arith, ints, w.high) }

between : (n m : ℕ) (y z : ℤ) → IsWithin n y → IsWithin m z → IsWithin (n + m) (z -ℤ y)
between n m y z v w = record { low = omega (arith, ints, v.high, w.low); high = omega (arith, ints, v.low, w.high) }

stays : (moves : Bool) (k : ℕ) (low high : ℤ) → IsSpan moves k low high → IsSpan moves (k + 1) low high
stays moves k low high s = record {
  edge = wider (reach k) (reach (k + 1)) low (omega arith) s.edge;
  size = wider (reach k + reach k) (reach (k + 1) + reach (k + 1)) (high -ℤ low) (omega arith) s.size;
  end = λ e. wider (reach k) (reach (k + 1)) high (omega arith) (s.end e);
}

same_within : (n : ℕ) (y z : ℤ) → y ≤ℤ z → z ≤ℤ y → IsWithin n y → IsWithin n z
same_within n y z le ge w = record { low = omega (arith, ints, w.low, le); high = omega (arith, ints, w.high, ge) }

low_moves : (k : ℕ) (low high other : ℤ) → IsSpan true k low high → IsWithin (reach (k + 1)) other → IsSpan true (k + 1) other (high +ℤ (other -ℤ low))
low_moves k low high other s w = record {
  edge = w;
  size = wider (reach k + reach k) (reach (k + 1) + reach (k + 1)) _ (omega arith) (same_within _ (high -ℤ low) _ (omega (arith, ints)) (omega (arith, ints)) s.size);
  end = λ e. absurd cc;
}

low_stays : (k : ℕ) (low high other : ℤ) → IsSpan false k low high → IsWithin (reach (k + 1)) other → IsSpan false (k + 1) other high
low_stays k low high other s w =
    let end : IsWithin (reach (k + 1)) high = wider (reach k) (reach (k + 1)) high (omega arith) (s.end refl) in
    record { edge = w; size = between _ _ other high w end; end = λ e. end }

low_edge : (moves : Bool) (k : ℕ) (low high : ℤ) (a : Amount) → IsSpan moves k low high → IsSmall (number_of a)
    → IsSpan moves (k + 1) (given low a) (cond moves (high +ℤ (given low a -ℤ low)) high)
low_edge true k low high a s small = low_moves k low high (given low a) s (wider _ _ _ (omega arith) (with_amount (reach k) low a s.edge small))
low_edge false k low high a s small = low_stays k low high (given low a) s (wider _ _ _ (omega arith) (with_amount (reach k) low a s.edge small))

-- the size with another upper edge
new_size : (k : ℕ) (low high : ℤ) (a : Amount) → IsWithin (reach k) low → IsWithin (reach k + reach k) (high -ℤ low) → IsSmall (number_of a) → IsWithin (reach (k + 1) + reach (k + 1)) (given high a -ℤ low)
new_size k low high (Is m) e w s = record { low = omega (arith, ints, e.high, s.low); high = omega (arith, ints, e.low, s.high) }
new_size k low high (Plus m) e w s = record { low = omega (arith, ints, w.low, s.low); high = omega (arith, ints, w.high, s.high) }
new_size k low high (Minus m) e w s = record { low = omega (arith, ints, w.low, s.high); high = omega (arith, ints, w.high, s.low) }

high_edge : (moves : Bool) (k : ℕ) (low high : ℤ) (a : Amount) → IsSpan moves k low high → IsSmall (number_of a) → IsSpan moves (k + 1) low (given high a)
high_edge moves k low high a s small = record {
  edge = wider (reach k) (reach (k + 1)) low (omega arith) s.edge;
  size = new_size k low high a s.edge s.size small;
  end = λ e. wider _ _ _ (omega arith) (with_amount (reach k) high a (s.end e) small);
}

-- the upper edge with another size
new_end : (k : ℕ) (low high : ℤ) (a : Amount) → IsWithin (reach k) low → IsWithin (reach k) high → IsSmall (number_of a) → IsWithin (reach (k + 1)) (low +ℤ given (high -ℤ low) a)
new_end k low high (Is m) e w s = record { low = omega (arith, ints, e.low, s.low); high = omega (arith, ints, e.high, s.high) }
new_end k low high (Plus m) e w s = record { low = omega (arith, ints, w.low, s.low); high = omega (arith, ints, w.high, s.high) }
new_end k low high (Minus m) e w s = record { low = omega (arith, ints, w.low, s.high); high = omega (arith, ints, w.high, s.low) }

sized : (moves : Bool) (k : ℕ) (low high : ℤ) (a : Amount) → IsSpan moves k low high → IsSmall (number_of a) → IsSpan moves (k + 1) low (low +ℤ given (high -ℤ low) a)
sized moves k low high a s small =
    let size : IsWithin (reach k + reach k + 10000000) (given (high -ℤ low) a) = with_amount (reach k + reach k) (high -ℤ low) a s.size small in
    record {
      edge = wider (reach k) (reach (k + 1)) low (omega arith) s.edge;
      size = wider (reach k + reach k + 10000000) _ _ (omega arith) (same_within _ (given (high -ℤ low) a) _ (omega (arith, ints)) (omega (arith, ints)) size);
      end = λ e. new_end k low high a s.edge (s.end e) small;
    }

small_span : (moves : Bool) (k : ℕ) (low high : ℤ) → IsSmall low → IsSmall high → IsSpan moves k low high
small_span moves k low high s t = record {
  edge = record { low = omega (arith, ints, s.low); high = omega (arith, ints, s.high) };
  size = record { low = omega (arith, ints, s.high, t.low); high = omega (arith, ints, s.low, t.high) };
  end = λ e. record { low = omega (arith, ints, t.low); high = omega (arith, ints, t.high) };
}

pub reached-step : (moves : Bool) (k : ℕ) (r : Rect) (choice : Choice) → IsReached moves k r → IsSmallChoice choice → IsReached moves (k + 1) (after_choice moves r choice)
reached-step moves k r (R other) h s = record {
  across = small_span moves (k + 1) other.min.x other.max.x s.left s.right;
  down = small_span moves (k + 1) other.min.y other.max.y s.top s.bottom;
}
reached-step moves k r (Minx a) h s = record { across = low_edge moves k r.min.x r.max.x a h.across s; down = stays moves k r.min.y r.max.y h.down }
reached-step moves k r (Miny a) h s = record { across = stays moves k r.min.x r.max.x h.across; down = low_edge moves k r.min.y r.max.y a h.down s }
reached-step moves k r (Maxx a) h s = record { across = high_edge moves k r.min.x r.max.x a h.across s; down = stays moves k r.min.y r.max.y h.down }
reached-step moves k r (Maxy a) h s = record { across = stays moves k r.min.x r.max.x h.across; down = high_edge moves k r.min.y r.max.y a h.down s }
reached-step moves k r (Dx a) h s = record { across = sized moves k r.min.x r.max.x a h.across s; down = stays moves k r.min.y r.max.y h.down }
reached-step moves k r (Dy a) h s = record { across = stays moves k r.min.x r.max.x h.across; down = sized moves k r.min.y r.max.y a h.down s }

far_end : (moves : Bool) (k : ℕ) (low high : ℤ) → k ≤ 1024 → IsSpan moves k low high → IsFar low × IsFar high
far_end moves k low high le s = (
  wider (reach k) (2 ^ 50) low (omega arith) s.edge,
  record { low = omega (arith, ints, s.edge.low, s.size.low); high = omega (arith, ints, s.edge.high, s.size.high) },
)

pub reached-far : (moves : Bool) (k : ℕ) (r : Rect) → k ≤ 1024 → IsReached moves k r → IsFarRect r
reached-far moves k r le h =
    let x = far_end moves k r.min.x r.max.x le h.across in
    let y = far_end moves k r.min.y r.max.y le h.down in
    record { left = x.0; top = y.0; right = x.1; bottom = y.1 }

near_span : (moves : Bool) (low high : ℤ) → IsWithin (2 ^ 40) low → IsWithin (2 ^ 40) high → IsSpan moves 0 low high
near_span moves low high v w = record { edge = wider (2 ^ 40) (reach 0) low (omega arith) v; size = between _ _ low high v w; end = λ e. wider (2 ^ 40) (reach 0) high (omega arith) w }

pub near-reached : (moves : Bool) (r : Rect) → IsRectNear r → IsReached moves 0 r
near-reached moves r near = record {
  across = near_span moves r.min.x r.max.x (record { low = near.min.left; high = near.min.right }) (record { low = near.max.left; high = near.max.right });
  down = near_span moves r.min.y r.max.y (record { low = near.min.top; high = near.min.bottom }) (record { low = near.max.top; high = near.max.bottom });
}

pub given_far : (z : ℤ) (a : Amount) → IsWithin (2 ^ 51) z → IsSmall (number_of a) → IsWithin (2 ^ 52) (given z a)
given_far z a w s = wider (2 ^ 51 + 10000000) (2 ^ 52) (given z a) (omega arith) (with_amount (2 ^ 51) z a w s)

pub side_far : (low high : ℤ) → IsFar low → IsFar high → IsWithin (2 ^ 51) (high -ℤ low)
side_far low high v w = wider (2 ^ 50 + 2 ^ 50) (2 ^ 51) (high -ℤ low) (omega arith) (between (2 ^ 50) (2 ^ 50) low high v w)

pub moved_far : (low other : ℤ) → IsFar low → IsWithin (2 ^ 52) other → IsWithin (2 ^ 53) (other -ℤ low)
moved_far low other v w = wider (2 ^ 50 + 2 ^ 52) (2 ^ 53) (other -ℤ low) (omega arith) (between (2 ^ 50) (2 ^ 52) low other v w)
