use Rattle.std.proofs.Common.{◌≡◌, ◌≤◌, ℕ, List, length, sym, subst, rules}
use Rattle.r9_geom.specs.Geometry.{natural}
use Rattle.law_desk.specs.bands.Bands.{bands}
use Rattle.r9_clients.proofs.pointing.Lengths.{bands_short}
use Rattle.r9_clients.proofs.pointing.bands.bands.Goals as goal

pub returns-clause-short : goal.returns-clause-short
unfolding bands
returns-clause-short c =
    let is : c.push_all.new.self ≡ bands c.args.window (natural c.args.at.x) (natural c.args.at.y) = search rules in
    subst (λ (bytes : List ℕ). length bytes ≤ 300) (sym is) (bands_short c.args.window (natural c.args.at.x) (natural c.args.at.y) c.ranges.window.fits)
