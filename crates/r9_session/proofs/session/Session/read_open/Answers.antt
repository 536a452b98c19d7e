use Rattle.std.proofs.Common.{rules, ◌≡◌, ℕ, List, Option, Some, IfSome, refl, subst, sym}
use Rattle.model_text.specs.text.Map.{lookup, with}
use Rattle.model_world.specs.Session.{Fid, Session}
use Rattle.model_world.specs.Reading.{file_read}
use Rattle.r9_session.specs.Reads.{IsReadOf}
use Rattle.r9_session.proofs.Keeping.{kept_with, same_keeps}
use Rattle.r9_session.proofs.Places.{covered_same}
use Rattle.r9_session.proofs.Readings.{file_read_of}
use Rattle.r9_session.proofs.session.Session.read_open.Goals as goal

pub returns-in-Some-clause-read : goal.returns-in-Some-clause-read
returns-in-Some-clause-read g c =
    let old : Session = record { msize = c.self.inside.msize; agreed = c.self.inside.agreed; closed = c.self.inside.closed; fids = c.self.inside.fids; waiting = c.self.inside.waiting; connections = c.self.inside.connections; made = c.self.inside.made } in
    let found = c.in-Some.found.now in
    let after = c.read_file.new.fid in
    let fids : List (ℕ × Fid) = with c.self.inside.fids c.args.fid after in
    let at : lookup c.self.inside.fids c.args.fid ≡ Some found = search rules in
    let before = g.O.Outside.state c.args.outside.now in
    let rest = g.O.Outside.state c.read_file.new.outside in
    let defined = λ (f : Fid). file_read (g.O.Outside.outside c.args.number) before f c.args.offset c.args.count f.node.kind in
    let read = file_read_of old before rest c.args.fid c.read_file.result found after fids (defined found) at c.read_file.ensures.read refl in
    let told : IfSome (lookup c.self.inside.fids c.args.fid) (λ f. IsReadOf old before c.args.fid c.read_file.result (record old { fids = fids }) rest (defined f)) =
    subst (λ (o : Option Fid). IfSome o (λ f. IsReadOf old before c.args.fid c.read_file.result (record old { fids = fids }) rest (defined f))) (sym at) read in
    subst (λ (s : Session). IfSome (lookup s.fids c.args.fid) (λ f. IsReadOf s before c.args.fid c.read_file.result (record old { fids = fids }) rest (defined f))) c.self.view_is told

pub invariant_of-self : goal.invariant_of-self
invariant_of-self g c =
    let found = c.in-Some.found.now in
    let at : lookup c.self.inside.fids c.args.fid ≡ Some found = search rules in
    record {
      within = c.self.invariant.within;
      kept = kept_with c.self.inside.fids c.self.inside.connections c.args.fid found c.read_file.new.fid at (λ n. same_keeps n found c.read_file.new.fid c.read_file.ensures.file c.read_file.ensures.mode) c.self.invariant.kept;
      covered = covered_same c.self.inside.fids c.self.inside.waiting c.self.inside.places c.args.fid found c.read_file.new.fid at c.read_file.ensures.file c.self.invariant.covered;
    }
