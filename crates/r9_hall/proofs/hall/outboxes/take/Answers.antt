use Rattle.std.proofs.Common.{rules, ◌≡◌, ℕ, List, None, eqb, ap, refl, sym, ◌∙◌}
use Rattle.model_text.specs.text.Map.{lookup, without}
use Rattle.r9_hall.specs.hall.Outboxes.{waiting}
use Rattle.r9_hall.proofs.hall.Posts.{left}
use Rattle.r9_hall.proofs.hall.outboxes.take.Goals as goal

pub returns-in-Some-clause-left : goal.returns-in-Some-clause-left
returns-in-Some-clause-left c = λ other.
    let before = c.args.outboxes.now.entries in
    let removed : c.remove.new.self.entries ≡ without before c.args.session = search rules in
    let gone : lookup c.remove.new.self.entries c.args.session ≡ None = search rules in
    ap (λ (o : List (ℕ × List ℕ)). waiting o other) removed
    ∙ left before c.args.session other (ap (λ (o : List (ℕ × List ℕ)). lookup o c.args.session) (sym removed) ∙ gone) (eqb c.args.session other) refl

pub returns-in-None-clause-left : goal.returns-in-None-clause-left
returns-in-None-clause-left c = λ other.
    let before = c.args.outboxes.now.entries in
    let removed : c.remove.new.self.entries ≡ without before c.args.session = search rules in
    let gone : lookup c.remove.new.self.entries c.args.session ≡ None = search rules in
    ap (λ (o : List (ℕ × List ℕ)). waiting o other) removed
    ∙ left before c.args.session other (ap (λ (o : List (ℕ × List ℕ)). lookup o c.args.session) (sym removed) ∙ gone) (eqb c.args.session other) refl
