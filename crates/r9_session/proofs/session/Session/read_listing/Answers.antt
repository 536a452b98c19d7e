use Rattle.std.proofs.Common.{rules, ◌≡◌, ℕ, List, Option, Some, IfSome, refl, subst, sym}
use Rattle.model_files.specs.tree.Listing.{stats}
use Rattle.model_text.specs.text.Map.{lookup, with}
use Rattle.model_world.specs.Session.{Fid, Session}
use Rattle.model_world.specs.Reading.{directory_read}
use Rattle.r9_tree.specs.View.{view_of}
use Rattle.r9_session.specs.Reads.{IsListed}
use Rattle.r9_session.proofs.Keeping.{kept_with, same_keeps}
use Rattle.r9_session.proofs.Places.{covered_same}
use Rattle.r9_session.proofs.Readings.{read_of}
use Rattle.r9_session.proofs.session.Session.read_listing.Goals as goal

pub returns-in-Some-clause-read : goal.returns-in-Some-clause-read
returns-in-Some-clause-read c =
    let old : Session = record { msize = c.self.inside.msize; agreed = c.self.inside.agreed; closed = c.self.inside.closed; fids = c.self.inside.fids; waiting = c.self.inside.waiting; connections = c.self.inside.connections; made = c.self.inside.made } in
    let fids : List (ℕ × Fid) = with c.self.inside.fids c.args.fid c.read.new.self in
    let at : lookup c.self.inside.fids c.args.fid ≡ Some c.in-Some.found.now = search rules in
    let defined = λ (found : Fid). directory_read (stats (view_of c.args.view.now) found.node) found c.args.offset c.args.count in
    let read = read_of old c.args.fid c.read.result c.in-Some.found.now c.read.new.self fids (defined c.in-Some.found.now) at c.read.ensures.read c.read.ensures.kept refl in
    let told : IfSome (lookup c.self.inside.fids c.args.fid) (λ found. IsListed old c.args.fid c.read.result (record old { fids = fids }) (defined found)) =
    subst (λ (o : Option Fid). IfSome o (λ found. IsListed old c.args.fid c.read.result (record old { fids = fids }) (defined found))) (sym at) read in
    subst (λ (s : Session). IfSome (lookup s.fids c.args.fid) (λ found. IsListed s c.args.fid c.read.result (record old { fids = fids }) (defined found))) c.self.view_is told

pub invariant_of-self : goal.invariant_of-self
invariant_of-self c =
    let found = c.in-Some.found.now in
    let at : lookup c.self.inside.fids c.args.fid ≡ Some found = search rules in
    record {
      within = c.self.invariant.within;
      kept = kept_with c.self.inside.fids c.self.inside.connections c.args.fid found c.read.new.self at (λ n. same_keeps n found c.read.new.self c.read.ensures.file c.read.ensures.mode) c.self.invariant.kept;
      covered = covered_same c.self.inside.fids c.self.inside.waiting c.self.inside.places c.args.fid found c.read.new.self at c.read.ensures.file c.self.invariant.covered;
    }
