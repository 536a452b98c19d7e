use Rattle.std.proofs.Common.{sym, ap, subst}
use Rattle.r9_restack.specs.Giving.{IsSupply}
use Rattle.r9_put.specs.declared.fills.gathered.Content.{Content}
use Rattle.r9_put.specs.fills.Content.{content}
use Rattle.r9_put.proofs.fills.Supplied.{supply_plain}
use Rattle.r9_put.proofs.fills.gathered.Content.supply.Goals as goal

pub returns-in-Shown : goal.returns-in-Shown
returns-in-Shown c = subst (λ (s : Content). IsSupply c.rows.result (content s) c.args.r.now) (sym c.in-Shown.is) c.rows.ensures

pub returns-in-Plain : goal.returns-in-Plain
returns-in-Plain c = supply_plain (content c.args.self.now) c.args.r.now c.in-Plain.raw (λ p. ap (λ (s : Content). content s p) c.in-Plain.is)
