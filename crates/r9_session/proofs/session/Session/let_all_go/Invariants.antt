use Rattle.std.proofs.Common.{◌≡◌, ℕ, map}
use Rattle.std.specs.List.{fold}
use Rattle.model_world.specs.Fids.{let_go}
use Rattle.r9_session.proofs.session.Session.let_all_go.Given as goal

abbrev pub invariant-loop-entry : goal.invariant-loop-entry
invariant-loop-entry g l = (number : ℕ) → fold (let_go (g.O.Outside.outside number)) (g.O.Outside.state l.outside) (map (λ entry. entry.1) l.entry-iterator)
    ≡ fold (let_go (g.O.Outside.outside number)) (g.O.Outside.state l.fn.outside) (map (λ entry. entry.1) l.self.fids)
