use Rattle.std.proofs.Common.{◌≡◌, ℕ, List, Option, None, cond, ap, subst, ◌∙◌}
use Rattle.std.specs.Option.{MatchOption}
use Rattle.std.specs.Str.{bytes_eq}
use Rattle.model_draw_parts.specs.declared.images.Tie.{Tie}
use Rattle.r9_ids.specs.ties.Kept.{named}
use Rattle.r9_ids.proofs.ties.index.Index.remove.Goals as goal

pub returns-clause-names : goal.returns-clause-names
returns-clause-names c =
    let P : Option Tie → Type 0 =
    λ o. MatchOption o (c.remove_name.new.names ≡ c.args.self.now.names) (λ t. (q : List ℕ) → named c.remove_name.new.names q ≡ cond (bytes_eq t.name q) None (named c.args.self.now.names q)) in
    subst P c.in-Some.ensures.value
    (λ q. c.remove_name.ensures.names q ∙ ap (λ (bs : List ℕ). cond (bytes_eq bs q) None (named c.args.self.now.names q)) c.as_slice.ensures)
