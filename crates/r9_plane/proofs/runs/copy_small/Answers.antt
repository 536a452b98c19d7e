use Rattle.std.proofs.Common.{◌≡◌, ◌+◌, ◌-◌, ◌/◌, ◌%◌, ℕ, subst, arith}
use Rattle.std.proofs.Math.Nat.{div-add-mod}
use Rattle.model_pixel.specs.Rows.{raw_at}
use Rattle.r9_plane.proofs.RunLemmas.{Copied, copied_thrice}
use Rattle.r9_plane.proofs.runs.copy_small.Goals as goal
use Rattle.r9_plane.proofs.runs.copy_small.Goals.{After-copy_pixels-3}

-- the pixels up to a whole byte, the whole bytes, and the rest
copied : (c : After-copy_pixels-3) → Copied c.args.depth c.args.first c.args.count (λ i. raw_at c.args.depth c.args.from.now (c.args.from_first + i)) c.args.bytes.now c.copy_pixels-3.new.bytes
copied c =
    let per = 8 / c.args.depth in
    let head = (per - c.args.first % per) % per in
    let rest = (c.args.count - head) % per in
    let whole = c.args.count - head - rest in
    let all = copied_thrice c.args.depth c.args.first head whole rest c.args.from_first c.args.from.now
    c.args.bytes.now c.copy_pixels-2.new.bytes c.copy_bytes.new.bytes c.copy_pixels-3.new.bytes
    (record { written = c.copy_pixels-2.ensures.written; others = c.copy_pixels-2.ensures.others })
    (record { written = c.copy_bytes.ensures.written; others = c.copy_bytes.ensures.others })
    (record { written = c.copy_pixels-3.ensures.written; others = c.copy_pixels-3.ensures.others }) in
    let parts = div-add-mod (c.args.count - head) per in
    let end : head + whole + rest ≡ c.args.count = omega (arith, c.if-count-head.false, parts) in
    subst (λ (n : ℕ). Copied c.args.depth c.args.first n (λ i. raw_at c.args.depth c.args.from.now (c.args.from_first + i)) c.args.bytes.now c.copy_pixels-3.new.bytes) end all

pub returns-clause-written : goal.returns-clause-written
returns-clause-written c = (copied (goal.at.returns-clause-written c).After-copy_pixels-3).written

pub returns-clause-others : goal.returns-clause-others
returns-clause-others c = (copied (goal.at.returns-clause-others c).After-copy_pixels-3).others
