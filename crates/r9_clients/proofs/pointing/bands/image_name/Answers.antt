use Rattle.std.proofs.Common.{◌≡◌, ◌<◌, ◌^◌, ℕ, List, length, sym, subst, arith}
use Rattle.r9_clients.proofs.pointing.Lengths.{name, name_few}
use Rattle.r9_clients.proofs.pointing.bands.image_name.Goals as goal

pub returns-clause-short : goal.returns-clause-short
returns-clause-short c =
    let is : c.push_all.new.self ≡ name c.args.window = grind (arith, c.in_ok-push_all.ensures.ok, c.in_ok-push_decimal.ensures.ok, c.in_ok-name.ensures) in
    subst (λ (bytes : List ℕ). length bytes < 2 ^ 8) (sym is) (name_few c.args.window c.ranges.window.fits)
