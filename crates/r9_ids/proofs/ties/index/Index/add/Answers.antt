use Rattle.std.proofs.Common.{ℕ, List, Some, cond, ap, ◌∙◌}
use Rattle.std.specs.Str.{bytes_eq}
use Rattle.r9_ids.specs.ties.Kept.{named}
use Rattle.r9_ids.proofs.ties.Names.{named-updates}
use Rattle.r9_ids.proofs.ties.index.Index.add.Goals as goal

pub returns-clause-names : goal.returns-clause-names
returns-clause-names c = λ q.
    named-updates c.take_text-key_text.result.items c.args.self.now.names c.insert-2.new.self (Some c.args.number) c.in-Ok-insert.ensures.updates q
    ∙ ap (λ (bs : List ℕ). cond (bytes_eq bs q) (Some c.args.number) (named c.args.self.now.names q)) c.take_text-key_text.ensures
