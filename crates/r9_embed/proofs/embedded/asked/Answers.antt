use Rattle.std.proofs.Common.{◌≤◌, ℕ, subst, arith}
use Rattle.r9_hall.specs.hall.Acts.{IsCounted}
use Rattle.r9_embed.proofs.Counts.{counted_fewer}
use Rattle.r9_embed.proofs.embedded.asked.Goals as goal

pub returns : goal.returns
returns g c =
    let old = c.args.hall.now in
    let now = c.act-acted.new.self in
    let acted = c.act-acted.result in
    let count = c.act-acted.new.pixels in
    let few : c.count.result ≤ count = omega (arith, c.count.ensures) in
    record {
      opening = c.act-acted.ensures.opening;
      first = c.act-acted.ensures.first;
      history = c.act-acted.ensures.history;
      counted = counted_fewer old now acted c.count.result count few (subst (λ (from : ℕ). IsCounted old acted now from count) c.new-pixels.ensures c.act-acted.ensures.pixels);
      whole = c.act-acted.ensures.whole;
    }
