-- Pixels side by side that a picture has all.
use Rattle.std.proofs.Common.{◌≡◌, ◌∙◌, ℕ, ◌+◌, ◌-◌, ◌<◌, List, true, take, drop, get_or, sym, ap, arith}
use Rattle.std.specs.Prelude.{if◌then◌else◌}
use Rattle.std.proofs.lemmas.Int.{ints}
use Rattle.r9_geom.specs.declared.Point.{Point}
use Rattle.r9_geom.specs.declared.Rect.{Rect}
use Rattle.r9_geom.specs.Geometry.{holds}
use Rattle.r9_geom.proofs.GeometryLemmas.{bounds_of, holds_from}
use Rattle.r9_plane.specs.Pixels.{along, number_of}
use Rattle.r9_plane.proofs.PlaneLemmas.{number_along}
use Rattle.r9_locate.proofs.locate.Locating.{along_none}
use Rattle.r9_locate.proofs.locate.Parts.{get_or-part}

-- the numbers of a run follow each other
pub numbers_along : (r : Rect) (q : Point) (k first : ℕ) → holds r (along q 0) ≡ true → first ≡ number_of r (along q 0) → number_of r (along q k) ≡ first + k
numbers_along r q k first inside is =
    let start = along_none q in
    number_along r q k (ap (holds r) (sym start) ∙ inside) ∙ ap (λ n. n + k) (ap (number_of r) (sym start) ∙ sym is)

-- between two points of a row that a rectangle holds it holds all
pub holds_between : (r : Rect) (q : Point) (k last : ℕ) → k < last + 1 → holds r (along q 0) ≡ true → holds r (along q last) ≡ true → holds r (along q k) ≡ true
holds_between r q k last below low high =
    let a = bounds_of r (along q 0) low in
    let b = bounds_of r (along q last) high in
    holds_from r (along q k) (record { left = omega (arith, ints, a.left); right = omega (arith, ints, b.right, below); top = a.top; bottom = a.bottom })

pub lent_pixel : (r : Rect) (raws : List ℕ) (q : Point) (first last count k : ℕ) → last + 1 ≡ first + count → k < count → holds r (along q k) ≡ true → number_of r (along q k) ≡ first + k → get_or (take (last + 1 - first) (drop first raws)) k 0 ≡ (if holds r (along q k) then get_or raws (number_of r (along q k)) 0 else 0)
lent_pixel r raws q first last count k long below inside number =
    get_or-part raws first (last + 1 - first) k (omega (arith, long, below))
    ∙ ap (λ n. get_or raws n 0) (sym number)
    ∙ ap (λ b. if b then get_or raws (number_of r (along q k)) 0 else 0) (sym inside)
