use Rattle.std.proofs.Common.{rules, ◌≡◌, ◌∙◌, Some, sym, ap, subst}
use Rattle.model_text.specs.text.Map.{lookup}
use Rattle.r9_session.specs.SessionView.{IsSession}
use Rattle.model_world.specs.Session.{Fid}
use Rattle.model_world.specs.Fids.{keeps}
use Rattle.r9_session.proofs.Keeping.{kept_with, opened_keeps}
use Rattle.r9_session.proofs.Places.{covered_same}
use Rattle.r9_session.proofs.session.Session.set_mode.Goals as goal
use Rattle.r9_session.proofs.session.Session.set_mode.Goals.{in-Some, in_default}

pub invariant_of-self : goal.invariant_of-self
invariant_of-self c = elim c.match-get_mut.branch [
  | in-Some w ↦ subst IsSession (sym w.self-inside-is) (record {
    within = c.self.invariant.within;
    kept =
        let found = w.in-Some.found.now in
        let at : lookup c.self.inside.fids c.args.fid ≡ Some found = search rules in
        kept_with c.self.inside.fids c.self.inside.connections c.args.fid found w.open.new.self at (λ n is. ap (keeps n) w.open.ensures ∙ opened_keeps n c.args.mode found is) c.self.invariant.kept;
    covered =
        let found = w.in-Some.found.now in
        let at : lookup c.self.inside.fids c.args.fid ≡ Some found = search rules in
        covered_same c.self.inside.fids c.self.inside.waiting c.self.inside.places c.args.fid found w.open.new.self at (ap (λ (f : Fid). f.node) w.open.ensures) c.self.invariant.covered;
  })
  | in_default w ↦ subst IsSession (sym w.self-inside-is) c.self.invariant
]
