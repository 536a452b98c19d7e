-- Rows of a rectangle among those of a picture.
use Rattle.std.proofs.Common.{◌≡◌, ◌∙◌, ℕ, ◌+◌, ◌*◌, ◌<◌, ◌≤◌, true, false, length, refl, sym, ap, subst, arith}
use Rattle.std.specs.Prelude.{slice_index, if◌then◌else◌}
use Rattle.std.proofs.lemmas.Int.{ints}
use Rattle.std.proofs.lemmas.Nat.{mul-le}
use Rattle.r9_geom.specs.declared.Point.{Point}
use Rattle.r9_geom.specs.declared.Rect.{Rect}
use Rattle.r9_geom.specs.Geometry.{area_of, distance, height, holds, is_empty, width, IsOrdered}
use Rattle.r9_geom.proofs.GeometryLemmas.{bounds_of, distance_is}
use Rattle.r9_plane.specs.Blocks.{number_in, HasRows}
use Rattle.r9_plane.specs.Pixels.{number_of}
use Rattle.r9_restack.specs.Giving.{IsSupply}
use Rattle.r9_restack.specs.declared.giving.Supply.TheVariants.{Plain, Rows, Untold}
use Rattle.r9_put.specs.declared.fills.gathered.Picture.{Picture}
use Rattle.r9_put.specs.fills.Gathered.{pictured}
use Rattle.r9_put.proofs.fills.Runs.{is_within, IsWithin}

pub rows_within : (own r : Rect) (across count start : ℕ) → IsOrdered own → across ≡ width own → area_of own ≤ count → is_empty r ≡ false → ((p : Point) → holds r p ≡ true → holds own p ≡ true) → start ≡ distance own.min.y r.min.y * across + distance own.min.x r.min.x → HasRows r start across count
rows_within own r across count start ordered wide enough solid inside start_is =
    let is : IsWithin r own = is_within r own solid inside in
    let across_own = distance_is own.min.x own.max.x ordered.across in
    let down_own = distance_is own.min.y own.max.y ordered.down in
    let left = distance_is own.min.x r.min.x is.low.left in
    let top = distance_is own.min.y r.min.y is.low.top in
    let across_r = distance_is r.min.x r.max.x (omega (arith, ints, is.across)) in
    let down_r = distance_is r.min.y r.max.y (omega (arith, ints, is.down)) in
    let few : distance own.min.x r.min.x + width r ≤ width own = omega (arith, ints, across_own, left, across_r, is.high.right) in
    let low : distance own.min.y r.min.y + height r ≤ height own = omega (arith, ints, down_own, top, down_r, is.high.bottom) in
    record {
      narrow = omega (arith, few, wide);
      fits = λ row below.
          let line : ℕ = distance own.min.y r.min.y + row in
          let up : line + 1 ≤ height own = omega (arith, below, low) in
          let all = mul-le (line + 1) (width own) (height own) (width own) up (omega arith) in
          let one : (line + 1) * width own ≡ line * width own + width own = grind arith in
          let turned : height own * width own ≡ width own * height own = grind arith in
          let lines : line * width own ≡ distance own.min.y r.min.y * width own + row * width own = grind arith in
          let first : distance own.min.y r.min.y * across ≡ distance own.min.y r.min.y * width own = ap (λ n. distance own.min.y r.min.y * n) wide in
          let more : row * across ≡ row * width own = ap (λ n. row * n) wide in
          omega (arith, start_is, all, one, turned, lines, first, more, few, enough);
    }

pub number_within : (own r : Rect) (across start : ℕ) (p : Point) → across ≡ width own → is_empty r ≡ false → ((p : Point) → holds r p ≡ true → holds own p ≡ true) → start ≡ distance own.min.y r.min.y * across + distance own.min.x r.min.x → holds r p ≡ true → number_of own p ≡ number_in r start across p
number_within own r across start p wide solid inside start_is h =
    let is : IsWithin r own = is_within r own solid inside in
    let b = bounds_of r p h in
    let left = distance_is own.min.x r.min.x is.low.left in
    let top = distance_is own.min.y r.min.y is.low.top in
    let here_x = distance_is r.min.x p.x b.left in
    let here_y = distance_is r.min.y p.y b.top in
    let there_x = distance_is own.min.x p.x (omega (arith, ints, is.low.left, b.left)) in
    let there_y = distance_is own.min.y p.y (omega (arith, ints, is.low.top, b.top)) in
    let column : distance own.min.x p.x ≡ distance own.min.x r.min.x + distance r.min.x p.x = omega (arith, ints, left, here_x, there_x) in
    let line : distance own.min.y p.y ≡ distance own.min.y r.min.y + distance r.min.y p.y = omega (arith, ints, top, here_y, there_y) in
    let own_line : distance own.min.y p.y * width own ≡ (distance own.min.y r.min.y + distance r.min.y p.y) * across = (λ j. line j * sym wide j) in
    let parts : (distance own.min.y r.min.y + distance r.min.y p.y) * across ≡ distance own.min.y r.min.y * across + distance r.min.y p.y * across = grind arith in
    omega (arith, start_is, column, own_line, parts)

-- nothing is told
pub supply_untold : (pixels : Point → ℕ) (r : Rect) → IsSupply Untold pixels r
supply_untold pixels r = record {
  plain = λ raw e p h. cc;
  enough = λ raws first across e. absurd (cc);
  rows = λ raws first across e p h. cc;
}

-- one raw pixel
pub supply_plain : (pixels : Point → ℕ) (r : Rect) (raw : ℕ) → ((p : Point) → pixels p ≡ raw) → IsSupply (Plain raw) pixels r
supply_plain pixels r raw all = record {
  plain = λ other e p h. let same : raw ≡ other = cc in all p ∙ same;
  enough = λ raws first across e. absurd (cc);
  rows = λ raws first across e p h. cc;
}

-- rows of a picture
pub supply_rows : (picture : Picture) (r : Rect) (start across : ℕ) → IsOrdered picture.r → area_of picture.r ≤ length picture.raws.now → across ≡ width picture.r → is_empty r ≡ false → ((p : Point) → holds r p ≡ true → holds picture.r p ≡ true) → start ≡ distance picture.r.min.y r.min.y * across + distance picture.r.min.x r.min.x → IsSupply (Rows picture.raws start across) (pictured picture) r
supply_rows picture r start across ordered enough wide solid inside start_is = record {
  plain = λ raw e p h. cc;
  enough = λ raws first width e.
      let begins : start ≡ first = cc in
      let wide_is : across ≡ width = cc in
      let same : picture.raws ≡ raws = cc in
      subst (λ (xs : _). HasRows r first width (length xs.now)) same
      (subst (λ w. HasRows r first w (length picture.raws.now)) wide_is
      (subst (λ s. HasRows r s across (length picture.raws.now)) begins
      (rows_within picture.r r across (length picture.raws.now) start ordered wide enough solid inside start_is)));
  rows = λ raws first width e p h.
      let begins : start ≡ first = cc in
      let wide_is : across ≡ width = cc in
      let same : picture.raws ≡ raws = cc in
      ap (λ b. if b then slice_index picture.raws.now (number_of picture.r p) else 0) (inside p h)
      ∙ ap (slice_index picture.raws.now) (number_within picture.r r across start p wide solid inside start_is h)
      ∙ (λ j. slice_index (same j).now (number_in r (begins j) (wide_is j) p));
}

-- the first pixel of a rectangle within another is one of its
pub corner_fits : (own r : Rect) → IsOrdered own → is_empty r ≡ false → ((p : Point) → holds r p ≡ true → holds own p ≡ true) → distance own.min.y r.min.y * width own + distance own.min.x r.min.x ≤ area_of own
corner_fits own r ordered solid inside =
    let start = distance own.min.y r.min.y * width own + distance own.min.x r.min.x in
    let is : IsWithin r own = is_within r own solid inside in
    let down_r = distance_is r.min.y r.max.y (omega (arith, ints, is.down)) in
    let some : 0 < height r = omega (arith, ints, down_r, is.down) in
    let fits = (rows_within own r (width own) (area_of own) start ordered refl (omega arith) solid inside refl).fits 0 some in
    omega (arith, fits)
