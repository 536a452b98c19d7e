use Rattle.std.proofs.Common.{◌≡◌, ◌∙◌, ℕ, List, sym, ap, subst}
use Rattle.std.specs.Prelude.{filter}
use Rattle.std.specs.Map.{keys_of}
use Rattle.model_text.specs.text.Map.{without}
use Rattle.model_text.specs.map.Ascending.{Ascend}
use Rattle.model_world.specs.Session.{Fid, Session}
use Rattle.model_world.specs.Fids.{is_kept}
use Rattle.r9_session.specs.Clients.{without_fid}
use Rattle.r9_session.specs.SessionView.{AreKept}
use Rattle.r9_session.specs.Places.{AreCovered}
use Rattle.r9_session.proofs.Places.{covered_without}
use Rattle.r9_session.proofs.Keeping.{kept_again}
use Rattle.r9_session.proofs.session.Session.clunk.Goals as goal

pub invariant_of-self : goal.invariant_of-self
invariant_of-self g c =
    let session = c.args.self.now in
    let gone = without_fid session c.args.fid in
    let is : c.settle.new.self ≡ record session { connections = filter (is_kept gone) session.connections } = c.in_ok-settle.ensures.session in
    let connections : c.self-2.inside.connections ≡ filter (is_kept gone) session.connections = ap (λ (s : Session). s.connections) (c.self-2.view_is ∙ is) in
    let fids : c.clunk.new.self ≡ gone.fids = c.clunk.ensures.rest ∙ ap (λ (s : Session). without s.fids c.args.fid) (c.self-2.view_is ∙ is) in
    record {
      within = c.self-2.invariant.within;
      kept = subst (λ (ns : List ℕ). AreKept c.clunk.new.self ns) (sym connections) (subst (λ (fs : List (ℕ × Fid)). AreKept fs (filter (is_kept gone) session.connections)) (sym fids) (kept_again gone session.connections));
      covered = subst (λ (fs : List (ℕ × Fid)). AreCovered fs c.self-2.inside.waiting c.self-2.inside.places) (sym c.clunk.ensures.rest)
          (covered_without c.self-2.inside.fids c.self-2.inside.waiting c.self-2.inside.places c.args.fid (subst (λ (s : Session). Ascend (keys_of s.fids)) (sym c.self-2.view_is) c.ascends.ensures) c.self-2.invariant.covered);
    }
