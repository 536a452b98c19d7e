-- Pixels side by side that are copied part by part.
use Rattle.std.proofs.Common.{◌≡◌, ◌∙◌, ℕ, ◌+◌, ◌-◌, ◌<◌, ◌≤◌, true, false, ap, sym, arith, ⊎_elim}
use Rattle.std.specs.Prelude.{if◌then◌else◌}
use Rattle.std.proofs.lemmas.Bool.{cases_Bool, cases_lt, false≢true}
use Rattle.std.proofs.lemmas.Int.{ints}
use Rattle.r9_geom.specs.declared.Point.{Point}
use Rattle.r9_geom.specs.Geometry.{carried, holds, strip}
use Rattle.r9_geom.proofs.GeometryLemmas.{bounds_of, holds_from, same_point, same_tests}
use Rattle.r9_plane.specs.Pixels.{along}
use Rattle.r9_plane.proofs.PlaneLemmas.{along_holds}
use Rattle.r9_locate.proofs.locate.Locating.{along-along, strip_at}

pub carried_along : (at from : Point) (n : ℕ) → carried (along at n) at from ≡ along from n
carried_along at from n = same_point (carried (along at n) at from) (along from n) (omega (arith, ints)) (omega (arith, ints))

-- pixels side by side, and then those next to them
pub grown : (at : Point) (done len : ℕ) (f old mid new : Point → ℕ) → ((q : Point) → mid q ≡ (if holds (strip at done) q then f q else old q)) → ((q : Point) → holds (strip (along at done) len) q ≡ true → new q ≡ f q) → ((q : Point) → holds (strip (along at done) len) q ≡ false → new q ≡ mid q) → (q : Point) → new q ≡ (if holds (strip at (done + len)) q then f q else old q)
grown at done len f old mid new before here there q =
    ⊎_elim
    (λ (h : holds (strip (along at done) len) q ≡ true). here q h ∙ sym (ap (λ b. if b then f q else old q) (inside h)))
    (λ (h : holds (strip (along at done) len) q ≡ false). there q h ∙ before q ∙ ap (λ b. if b then f q else old q) (sym (same h)))
    (cases_Bool (holds (strip (along at done) len) q))
  where
    inside : holds (strip (along at done) len) q ≡ true → holds (strip at (done + len)) q ≡ true
    inside h =
        let b = bounds_of (strip (along at done) len) q h in
        holds_from (strip at (done + len)) q (record { left = omega (arith, ints, b.left); right = omega (arith, ints, b.right); top = omega (arith, ints, b.top); bottom = omega (arith, ints, b.bottom) })

    same : holds (strip (along at done) len) q ≡ false → holds (strip at (done + len)) q ≡ holds (strip at done) q
    same none =
        same_tests (holds (strip at (done + len)) q) (holds (strip at done) q)
        (λ h.
        let found = strip_at at q (done + len) h in
        ⊎_elim
        (λ (early : found.0 < done). ap (holds (strip at done)) found.2 ∙ along_holds at done found.0 early)
        (λ (late : done ≤ found.0).
        let j = found.0 - done in
        let is : found.0 ≡ done + j = omega arith in
        let next : q ≡ along (along at done) j = found.2 ∙ ap (along at) is ∙ sym (along-along at done j) in
        absurd (false≢true (sym none ∙ ap (holds (strip (along at done) len)) next ∙ along_holds (along at done) len j (omega (arith, found.1, late)))))
        (cases_lt found.0 done))
        (λ h.
        let b = bounds_of (strip at done) q h in
        holds_from (strip at (done + len)) q (record { left = omega (arith, ints, b.left); right = omega (arith, ints, b.right); top = omega (arith, ints, b.top); bottom = omega (arith, ints, b.bottom) }))
