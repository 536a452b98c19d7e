use Rattle.std.proofs.Common.{◌≡◌, ◌*◌, ◌<◌, ℕ, ap, sym, subst, ◌∙◌}
use Rattle.std.proofs.Math.Nat.{mul_comm}
use Rattle.r9_geom.specs.Geometry.{height, width}
use Rattle.model_pixel.specs.Rows.{raw_at}
use Rattle.r9_plane.specs.Pixels.{pixel_at}
use Rattle.r9_plane.proofs.PlaneLemmas.{filled_pixels}
use Rattle.r9_plane.proofs.plane.Plane.new.Goals as goal

pub returns-clause-pixels : goal.returns-clause-pixels
unfolding pixel_at
returns-clause-pixels c =
    let count : height c.args.r * width c.args.r ≡ c.in-Some.count =
    mul_comm _ _ ∙ (λ i. sym c.width-columns.ensures i * sym c.height.ensures i) ∙ sym c.in-Some.ensures.1 in
    let bytes = c.in_ok-bytes.bytes.items in
    filled_pixels c.args.r c.args.chan c.args.raw bytes
    (λ n below.
    ap (λ d. raw_at d bytes n) (sym c.depth-depth.ensures.value)
    ∙ c.in_ok-bytes.ensures.pixels n (subst (λ (m : ℕ). n < m) count below))
