use Rattle.std.proofs.Common.{rules, ◌≡◌, ◌∙◌, ◌≤◌, ℕ, List, length, get_or, Option, Ok, Err, IfSome, sym, ap, subst, arith}
use Rattle.std.specs.Prelude.{max}
use Rattle.model_files.specs.wire.Message.{R, Rread}
use Rattle.model_files.specs.wire.Spelling.{FitsR}
use Rattle.model_world.specs.Session.{Session, Wait}
use Rattle.model_world.specs.Waiting.{wait_answer}
use Rattle.r9_files.specs.declared.files.fault.Fault.{Fault}
use Rattle.r9_wire.specs.View.{r_of}
use Rattle.r9_session.specs.Reads.{IsAwaited}
use Rattle.r9_session.specs.Places.{AreCovered}
use Rattle.r9_session.proofs.Places.{covered_remove}
use Rattle.r9_session.proofs.Awaited.{gets_bytes, gets_refusal, waiting_read, waiting_without, waits_on}
use Rattle.r9_session.proofs.session.Session.answer_at.Goals as goal
use Rattle.r9_session.proofs.session.Session.answer_at.Goals.{in-Ok-Some, in-Err-Refused+in_ok-reply-in-Err-Refused}

pub returns-in-Ok-None : goal.returns-in-Ok-None
returns-in-Ok-None g c =
    let session = c.args.self.now in
    let rest = g.O.Outside.state c.args.outside.now in
    let read = c.index-as_slice-place.result in
    let wait : Wait = record { fid = c.wait.inside.fid; count = c.wait.inside.count } in
    let stands : get_or session.waiting c.args.place read ≡ read = sym (c.index-as_slice-place.is ∙ ap (λ (reads : List (ℕ × Wait)). get_or reads c.args.place read) (c.as_slice.ensures.value ∙ ap (λ (s : Session). s.waiting) c.self.view_is)) in
    let at : get_or session.waiting c.args.place read ≡ waiting_read read.0 wait = stands ∙ (λ j. waiting_read read.0 (sym c.wait.view_is j)) in
    let defined = wait_answer (g.O.Outside.outside c.args.number) session rest wait in
    let got = subst (λ (given : Option (List ℕ)). IsAwaited session rest wait.fid (Ok given) c.read_again.new.self (g.O.Outside.state c.read_again.new.outside) defined) c.in-Ok-None.field-0-is c.in-Ok-None.ensures.read in
    (waits_on (g.O.Outside.outside c.args.number) session rest c.args.place read.0 wait read c.requires at got.0, got.1, got.2)

pub returns : goal.returns
returns g c =
    let session = c.args.self.now in
    let rest = g.O.Outside.state c.args.outside.now in
    let read = c.index-as_slice-place.result in
    let wait : Wait = record { fid = c.wait.inside.fid; count = c.wait.inside.count } in
    let stands : get_or session.waiting c.args.place read ≡ read = sym (c.index-as_slice-place.is ∙ ap (λ (reads : List (ℕ × Wait)). get_or reads c.args.place read) (c.as_slice.ensures.value ∙ ap (λ (s : Session). s.waiting) c.self.view_is)) in
    let at : get_or session.waiting c.args.place read ≡ waiting_read read.0 wait = stands ∙ (λ j. waiting_read read.0 (sym c.wait.view_is j)) in
    let base : Session = record { msize = c.self-2.inside.msize; agreed = c.self-2.inside.agreed; closed = c.self-2.inside.closed; fids = c.self-2.inside.fids; waiting = c.self-2.inside.waiting; connections = c.self-2.inside.connections; made = c.self-2.inside.made } in
    let left : record base { waiting = c.remove.new.self } ≡ waiting_without c.read_again.new.self c.args.place =
    ap (λ (reads : List (ℕ × Wait)). record base { waiting = reads }) c.remove.ensures.rest ∙ ap (λ (s : Session). waiting_without s c.args.place) c.self-2.view_is in
    let defined = wait_answer (g.O.Outside.outside c.args.number) session rest wait in
    elim c.match-read_again.branch [
      | in-Ok-Some w ↦
          let got = subst (λ (given : Option (List ℕ)). IsAwaited session rest wait.fid (Ok given) c.read_again.new.self (g.O.Outside.state c.read_again.new.outside) defined) w.in-Ok-Some.field-0-is w.in-Ok-Some.ensures.read in
          let short = subst (λ (given : Option (List ℕ)). IfSome given (λ bytes. length bytes ≤ max wait.count 128)) w.in-Ok-Some.field-0-is w.in-Ok-Some.ensures.short in
          let told = ap r_of w.reply-is in
          let is : r_of c.match-read_again.reply ≡ Rread read.0 w.in-Ok-Some.bytes = rw w.in-Ok-Some.field-0-is at told in
          let few = c.wait.invariant in (
            gets_bytes (g.O.Outside.outside c.args.number) session c.read_again.new.self (record base { waiting = c.remove.new.self }) rest (g.O.Outside.state c.read_again.new.outside) c.args.place read.0 wait read w.in-Ok-Some.bytes (r_of c.match-read_again.reply)
                c.requires at got left is,
            subst (λ (reply : R). FitsR reply) (sym is) (search (arith, rules)),
          )
      | in-Err-Refused+in_ok-reply-in-Err-Refused w ↦
          let got = subst (λ (fault : Fault). IsAwaited session rest wait.fid (Err fault) c.read_again.new.self (g.O.Outside.state c.read_again.new.outside) defined) w.in-Err-Refused.field-0-is w.in-Err-Refused.ensures.read in
          let is = ap r_of w.reply-is ∙ w.in_ok-reply-in-Err-Refused.ensures.reply in (
            gets_refusal (g.O.Outside.outside c.args.number) session c.read_again.new.self (record base { waiting = c.remove.new.self }) rest (g.O.Outside.state c.read_again.new.outside) c.args.place read.0 wait read w.in-Err-Refused.refused (r_of c.match-read_again.reply)
                c.requires at got left is,
            subst (λ (reply : R). FitsR reply) (sym (ap r_of w.reply-is)) w.in_ok-reply-in-Err-Refused.ensures.fits,
          )
    ]

pub invariant_of-self : goal.invariant_of-self
invariant_of-self g c = record {
  within = c.self-2.invariant.within;
  kept = c.self-2.invariant.kept;
  covered = subst (λ (reads : List (ℕ × Wait)). AreCovered c.self-2.inside.fids reads c.self-2.inside.places) (sym c.remove.ensures.rest)
      (covered_remove c.self-2.inside.fids c.self-2.inside.waiting c.self-2.inside.places c.args.place c.self-2.invariant.covered);
}
