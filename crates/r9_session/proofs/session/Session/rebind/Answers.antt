use Rattle.std.proofs.Common.{rules, ◌≡◌, ◌∙◌, Some, sym, ap, subst}
use Rattle.model_text.specs.text.Map.{lookup}
use Rattle.model_world.specs.Session.{Fid, Session}
use Rattle.model_world.specs.Links.{is_among}
use Rattle.r9_session.specs.SessionView.{IsSession}
use Rattle.r9_session.proofs.Keeping.{closed_more, kept_with}
use Rattle.r9_session.proofs.Places.{covered_more, covered_with}
use Rattle.r9_session.proofs.Bound.{closed_of}
use Rattle.r9_session.proofs.session.Session.rebind.Goals as goal
use Rattle.r9_session.proofs.session.Session.rebind.Goals.{in-Some+in-Some-1, in-Some+in-None-1, in_default}

pub invariant_of-self-2 : goal.invariant_of-self-2
invariant_of-self-2 c = elim c.match-get_mut.branch [
  | in-Some+in-Some-1 w ↦ subst IsSession (sym w.self-inside-is) (record {
    within = c.self.invariant.within;
    kept =
        let found = w.in-Some.found.now in
        let at : lookup c.self.inside.fids c.args.fid ≡ Some found = search rules in
        kept_with c.self.inside.fids c.self.inside.connections c.args.fid found w.at.result at (λ n. closed_more n found w.at.result (closed_of c.args.self.now c.args.fid found c.requires.closed (ap (λ (s : Session). lookup s.fids c.args.fid) (sym c.self.view_is) ∙ at))) c.self.invariant.kept;
    covered =
        let found = w.in-Some.found.now in
        let at : lookup c.self.inside.fids c.args.fid ≡ Some found = search rules in
        covered_with c.self.inside.fids c.self.inside.waiting c.self.inside.places c.place_fid.new.places c.args.fid found w.at.result at
        (λ awaited placed. ap (λ (f : Fid). is_among c.place_fid.new.places f.node.serial) w.at.ensures ∙ c.in_ok-place_fid.ensures.here awaited)
        c.place_fid.ensures.kept c.self.invariant.covered;
  })
  | in-Some+in-None-1 w ↦ subst IsSession (sym w.self-inside-is) (record {
    within = c.self.invariant.within;
    kept =
        let found = w.in-Some.found.now in
        let at : lookup c.self.inside.fids c.args.fid ≡ Some found = search rules in
        kept_with c.self.inside.fids c.self.inside.connections c.args.fid found w.at.result at (λ n. closed_more n found w.at.result (closed_of c.args.self.now c.args.fid found c.requires.closed (ap (λ (s : Session). lookup s.fids c.args.fid) (sym c.self.view_is) ∙ at))) c.self.invariant.kept;
    covered =
        let found = w.in-Some.found.now in
        let at : lookup c.self.inside.fids c.args.fid ≡ Some found = search rules in
        covered_with c.self.inside.fids c.self.inside.waiting c.self.inside.places c.place_fid.new.places c.args.fid found w.at.result at
        (λ awaited placed. ap (λ (f : Fid). is_among c.place_fid.new.places f.node.serial) w.at.ensures ∙ c.in_ok-place_fid.ensures.here awaited)
        c.place_fid.ensures.kept c.self.invariant.covered;
  })
  | in_default w ↦ subst IsSession (sym w.self-inside-is) (record {
    within = c.self.invariant.within;
    kept = c.self.invariant.kept;
    covered = covered_more c.self.inside.fids c.self.inside.waiting c.self.inside.places c.place_fid.new.places c.place_fid.ensures.kept c.self.invariant.covered;
  })
]
