use Rattle.std.proofs.Common.{rules, ◌≡◌, ℕ, List, Option, Some, IfSome, refl, subst, sym}
use Rattle.model_text.specs.text.Map.{lookup, with}
use Rattle.model_world.specs.Session.{Fid, Session}
use Rattle.model_world.specs.Reading.{given_now}
use Rattle.r9_session.specs.Reads.{IsGivenOf}
use Rattle.r9_session.proofs.Keeping.{kept_with, same_keeps}
use Rattle.r9_session.proofs.Places.{covered_same}
use Rattle.r9_session.proofs.Readings.{given_of}
use Rattle.r9_session.proofs.session.Session.give.Goals as goal

pub returns-in-Some-clause-given : goal.returns-in-Some-clause-given
returns-in-Some-clause-given g c =
    let old : Session = record { msize = c.self.inside.msize; agreed = c.self.inside.agreed; closed = c.self.inside.closed; fids = c.self.inside.fids; waiting = c.self.inside.waiting; connections = c.self.inside.connections; made = c.self.inside.made } in
    let found = c.in-Some.found.now in
    let after = c.read_now.new.fid in
    let fids : List (ℕ × Fid) = with c.self.inside.fids c.args.fid after in
    let at : lookup c.self.inside.fids c.args.fid ≡ Some found = search rules in
    let before = g.O.Outside.state c.args.outside.now in
    let rest = g.O.Outside.state c.read_now.new.outside in
    let defined = λ (f : Fid). given_now (g.O.Outside.outside c.args.number) before f c.args.count f.node.kind in
    let given = given_of old before rest c.args.fid c.read_now.result found after fids (defined found) at c.read_now.ensures.given refl in
    let told : IfSome (lookup c.self.inside.fids c.args.fid) (λ f. IsGivenOf old before c.args.fid c.read_now.result (record old { fids = fids }) rest (defined f)) =
    subst (λ (o : Option Fid). IfSome o (λ f. IsGivenOf old before c.args.fid c.read_now.result (record old { fids = fids }) rest (defined f))) (sym at) given in
    subst (λ (s : Session). IfSome (lookup s.fids c.args.fid) (λ f. IsGivenOf s before c.args.fid c.read_now.result (record old { fids = fids }) rest (defined f))) c.self.view_is told

pub invariant_of-self : goal.invariant_of-self
invariant_of-self g c =
    let found = c.in-Some.found.now in
    let at : lookup c.self.inside.fids c.args.fid ≡ Some found = search rules in
    record {
      within = c.self.invariant.within;
      kept = kept_with c.self.inside.fids c.self.inside.connections c.args.fid found c.read_now.new.fid at (λ n. same_keeps n found c.read_now.new.fid c.read_now.ensures.file c.read_now.ensures.mode) c.self.invariant.kept;
      covered = covered_same c.self.inside.fids c.self.inside.waiting c.self.inside.places c.args.fid found c.read_now.new.fid at c.read_now.ensures.file c.self.invariant.covered;
    }
