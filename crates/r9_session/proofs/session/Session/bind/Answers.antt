use Rattle.std.proofs.Common.{◌≡◌, ◌∙◌, ℕ, true, List, None, sym, ap, subst}
use Rattle.model_text.specs.text.Map.{lookup}
use Rattle.model_world.specs.Session.{Fid, Session}
use Rattle.model_world.specs.Links.{is_among}
use Rattle.r9_session.specs.SessionView.{AreKept}
use Rattle.r9_session.specs.Places.{AreCovered, is_awaited}
use Rattle.r9_session.proofs.Places.{covered_and, covered_more}
use Rattle.r9_session.proofs.Keeping.{kept_and}
use Rattle.r9_session.proofs.Bound.{free_of}
use Rattle.r9_session.proofs.session.Session.bind.Goals as goal
use Rattle.r9_session.proofs.session.Session.bind.Goals.{in-Ok, in-Err-Refused, in-Err-Memory}

pub invariant_of-self-2 : goal.invariant_of-self-2
invariant_of-self-2 c =
    let fids = c.self.inside.fids in
    let connections = c.self.inside.connections in
    let free : lookup fids c.args.fid ≡ None = ap (λ (s : Session). lookup s.fids c.args.fid) c.self.view_is ∙ free_of c.args.self.now c.args.fid c.requires.bound in
    let kept : AreKept c.bind.new.self connections = elim c.match-bind.branch [
      | in-Ok w ↦ subst (λ (fs : List (ℕ × Fid)). AreKept fs connections) (sym w.in-Ok.ensures.bound) (kept_and fids connections c.args.fid c.at.result free c.self.invariant.kept)
      | in-Err-Refused w ↦ subst (λ (fs : List (ℕ × Fid)). AreKept fs connections) (sym w.in-Err-Refused.ensures.kept) c.self.invariant.kept
      | in-Err-Memory w ↦ subst (λ (fs : List (ℕ × Fid)). AreKept fs connections) (sym w.in-Err-Memory.ensures.kept) c.self.invariant.kept
    ] in
    let waiting = c.self.inside.waiting in
    let places = c.place_fid.new.places in
    let here : is_awaited waiting c.args.fid ≡ true → is_among places c.at.result.node.serial ≡ true =
    λ awaited. ap (λ (f : Fid). is_among places f.node.serial) c.at.ensures ∙ c.in_ok-place_fid.ensures.here awaited in
    let again : AreCovered fids waiting places = covered_more fids waiting c.self.inside.places places c.place_fid.ensures.kept c.self.invariant.covered in
    let covered : AreCovered c.bind.new.self waiting places = elim c.match-bind.branch [
      | in-Ok w ↦ subst (λ (fs : List (ℕ × Fid)). AreCovered fs waiting places) (sym w.in-Ok.ensures.bound)
          (covered_and fids waiting c.self.inside.places places c.args.fid c.at.result here c.place_fid.ensures.kept c.self.invariant.covered)
      | in-Err-Refused w ↦ subst (λ (fs : List (ℕ × Fid)). AreCovered fs waiting places) (sym w.in-Err-Refused.ensures.kept) again
      | in-Err-Memory w ↦ subst (λ (fs : List (ℕ × Fid)). AreCovered fs waiting places) (sym w.in-Err-Memory.ensures.kept) again
    ] in
    record { within = c.self.invariant.within; kept = kept; covered = covered }
