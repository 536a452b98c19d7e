use Rattle.std.proofs.Common.{◌≡◌, Bool, true, false, ◌&&◌, nat_le, ap, sym, ◌∙◌, arith}
use Rattle.std.proofs.lemmas.Bool.{le-leb}
use Rattle.std.proofs.lemmas.Bool.Decides.{nat_tests}
use Rattle.r9_tree.proofs.KindNumbers.{of_connection_numbered}
use Rattle.r9_tree.proofs.walking.is_of_connection.Goals as goal

pub returns-then-kind-ge4 : goal.returns-then-kind-ge4
returns-then-kind-ge4 c =
    let from : nat_le 4 c.args.kind ≡ true = le-leb 4 c.args.kind c.if-kind-ge4.true in
    sym (ap (λ (b : Bool). b && nat_le c.args.kind 7) from) ∙ of_connection_numbered c.args.kind (omega arith)

pub returns-else-kind-ge4 : goal.returns-else-kind-ge4
returns-else-kind-ge4 c =
    let below : nat_le 4 c.args.kind ≡ false = grind (arith, nat_tests) in
    below
    ∙ sym (ap (λ (b : Bool). b && nat_le c.args.kind 7) below)
    ∙ of_connection_numbered c.args.kind (omega arith)
