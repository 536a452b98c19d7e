use Rattle.std.proofs.Common.{rules, ◌≡◌, ◌∙◌, Some, sym, ap, subst}
use Rattle.model_text.specs.text.Map.{lookup}
use Rattle.model_world.specs.Session.{Session}
use Rattle.model_world.specs.Sleeping.{has_place}
use Rattle.r9_session.specs.SessionView.{IsSession}
use Rattle.r9_session.proofs.Keeping.{closed_more, kept_with}
use Rattle.r9_session.proofs.Places.{covered_nowhere}
use Rattle.r9_session.proofs.Bound.{closed_of}
use Rattle.r9_session.proofs.session.Session.open_as.Goals as goal
use Rattle.r9_session.proofs.session.Session.open_as.Goals.{in-Some, in_default}

pub invariant_of-self : goal.invariant_of-self
invariant_of-self c = elim c.match-get_mut.branch [
  | in-Some w ↦ subst IsSession (sym w.self-inside-is) (record {
    within = c.self.invariant.within;
    kept =
        let found = w.in-Some.found.now in
        let at : lookup c.self.inside.fids c.args.fid ≡ Some found = search rules in
        kept_with c.self.inside.fids c.self.inside.connections c.args.fid found w.open_as.new.self at (λ n. closed_more n found w.open_as.new.self (closed_of c.args.self.now c.args.fid found c.requires.closed (ap (λ (s : Session). lookup s.fids c.args.fid) (sym c.self.view_is) ∙ at))) c.self.invariant.kept;
    covered =
        let found = w.in-Some.found.now in
        let at : lookup c.self.inside.fids c.args.fid ≡ Some found = search rules in
        covered_nowhere c.self.inside.fids c.self.inside.waiting c.self.inside.places c.args.fid found w.open_as.new.self at (ap has_place w.open_as.ensures ∙ c.requires.nowhere) c.self.invariant.covered;
  })
  | in_default w ↦ subst IsSession (sym w.self-inside-is) c.self.invariant
]
