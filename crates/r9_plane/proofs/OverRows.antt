-- Pixels that are composed where they stand.
use Rattle.std.proofs.Common.{refl, subst, length, ◌≤◌, ◌≡◌, ◌∙◌, ℕ, ◌+◌, ◌*◌, ◌<◌, Bool, true, false, List, take, drop, get_or, pos, ◌+ℤ◌, ap, sym, arith}
use Rattle.std.specs.Prelude.{if◌then◌else◌}
use Rattle.std.proofs.lemmas.Bool.{cond-false, cond-true, cases_Bool, false_from_ne_true}
use Rattle.std.proofs.lemmas.Int.{ints}
use Rattle.std.proofs.lemmas.List.{get_or-take, get_or-drop}
use Rattle.std.proofs.Common.{⊎_elim}
use borrow.Rule.Slice.PartMut.{put_mid}
use Rattle.r9_geom.specs.declared.Point.{Point}
use Rattle.r9_geom.specs.declared.Rect.{Rect}
use Rattle.r9_geom.specs.Geometry.{distance, holds, strip, width}
use Rattle.r9_geom.proofs.GeometryLemmas.{band, bounds_of, distance_is, same_point}
use Rattle.model_pixel.specs.Rows.{raw_at}
use Rattle.r9_plane.specs.Pixels.{along}
use Rattle.r9_plane.proofs.PackedLemmas.{raw_at_whole}
use Rattle.r9_plane.proofs.RunLemmas.{little-moved, stretch_put, whole_copied, Copied, Stretch}

-- a pixel of a run of bytes
pub run_raw : (xs : List ℕ) (first count start len i : ℕ) → start ≡ first * 4 → len ≡ count * 4 → i < count → raw_at 32 (take len (drop start xs)) i ≡ raw_at 32 xs (first + i)
run_raw xs first count start len i begins size less =
    raw_at_whole 32 4 (take len (drop start xs)) i (omega arith) (omega arith)
    ∙ little-moved 4 (take len (drop start xs)) xs (4 * i) (4 * (first + i))
    (λ j small. get_or-take len (drop start xs) (4 * i + j) 0 (omega arith) ∙ get_or-drop start xs (4 * i + j) 0 ∙ ap (λ n. get_or xs n 0) (omega arith))
    ∙ sym (raw_at_whole 32 4 xs (first + i) (omega arith) (omega arith))

-- bytes of a run that are put in its place
pub run_put : (old ys : List ℕ) (first count len : ℕ) → len ≡ count * 4 → length ys ≡ len → (first + count) * 32 ≤ 8 * length old → Copied 32 first count (raw_at 32 ys) old (put_mid (first * 4) len old ys)
run_put old ys first count len is size fits =
    let new = put_mid (first * 4) len old ys in
    let put = stretch_put old ys (first * 4) len size (omega (arith, fits, is)) in
    let copied = whole_copied 32 first count 0 old new ys refl (omega arith) (subst (λ (n : ℕ). Stretch old new ys (first * 4) n 0) is put) in
    record { written = λ i less. copied.written i less ∙ ap (raw_at 32 ys) (omega arith); others = copied.others }

-- a point of a row, so many from its start
pub along_row : (at q : Point) (n : ℕ) → holds (strip at n) q ≡ true → along at (distance at.x q.x) ≡ q
along_row at q n h =
    let b = bounds_of (strip at n) q h in
    let d = distance_is at.x q.x b.left in
    same_point (along at (distance at.x q.x)) q d (omega (arith, ints, b.top, b.bottom))

-- a row is not among those above it
pub below_band : (r : Rect) (at q : Point) (n : ℕ) → at.y ≡ r.min.y +ℤ pos n → holds (strip at (width r)) q ≡ true → holds (band r n) q ≡ false
below_band r at q n y h =
    let b = bounds_of (strip at (width r)) q h in
    false_from_ne_true _ (λ above. let k = bounds_of (band r n) q above in absurd (omega (arith, ints, b.top, b.bottom, y, k.bottom)))

pub where_true : (b : Bool) (x y z : ℕ) → (b ≡ true → x ≡ y) → (if b then x else z) ≡ (if b then y else z)
where_true b x y z same =
    ⊎_elim
    (λ (h : b ≡ true). cond-true b x z h ∙ same h ∙ sym (cond-true b y z h))
    (λ (h : b ≡ false). cond-false b x z h ∙ sym (cond-false b y z h))
    (cases_Bool b)
