use Rattle.std.proofs.Common.{◌≡◌, ℕ, List, None, refl, sym, subst, ◌∙◌}
use Rattle.r9_event.specs.declared.event.event.Event.TheVariants.{End}
use Rattle.r9_event.specs.declared.event.event.Reply.{Reply}
use Rattle.model_text.specs.text.Map.{lookup}
use Rattle.model_text.proofs.map.Keys.{without_at}
use Rattle.model_world.specs.Session.{Session}
use Rattle.model_world.specs.Sleeping.{stirred}
use Rattle.r9_desktop.specs.World.{began_of, desktop_of}
use Rattle.r9_hall.specs.hall.Settling.{AreWoken, IsSettled}
use Rattle.r9_hall.specs.hall.StateView.{IsMade, world_with}
use Rattle.r9_hall.specs.declared.hall.sessions.Sessions.{Sessions}
use Rattle.r9_hall.proofs.hall.States.{absent_made, gone_made, left_asked, left_linked}
use Rattle.r9_hall.proofs.hall.sessions.Sessions.end.Goals.{then-branch+in_ok-asked+in_ok-settle, else-branch}
use Rattle.r9_hall.proofs.hall.sessions.Sessions.end.Goals as goal

pub settle-requires-clause-linked : goal.settle-requires-clause-linked
settle-requires-clause-linked c =
    let before : List (ℕ × Session) = c.args.self.now.live.entries in
    left_linked c.args.session before c.remove.new.self.entries (desktop_of c.args.self.now.desktop) (desktop_of c.leave.new.desktop) (lookup before c.args.session) c.in_ok-leave.field-0
    c.requires.linked refl c.if-branch.true c.in_ok-leave.ensures.left (c.remove.ensures.entries ∙ without_at before c.args.session)

pub settle-requires-clause-asked : goal.settle-requires-clause-asked
settle-requires-clause-asked c =
    let before : List (ℕ × Session) = c.args.self.now.live.entries in
    let gone = c.remove.ensures.entries ∙ without_at before c.args.session in
    let desktop = desktop_of c.args.self.now.desktop in
    let left = desktop_of c.leave.new.desktop in
    let lived = c.in_ok-leave.field-0 in
    left_asked c.args.session before c.remove.new.self.entries desktop left (lookup before c.args.session) lived c.deref.result.now c.requires.linked c.requires.quiet refl c.if-branch.true c.in_ok-leave.ensures.left gone
    (left_linked c.args.session before c.remove.new.self.entries desktop left (lookup before c.args.session) lived c.requires.linked refl c.if-branch.true c.in_ok-leave.ensures.left gone)
    (subst (λ (l : List ℕ). AreWoken c.args.session (stirred left.notes 0) c.remove.new.self.entries l) (sym c.deref.ensures.value) c.in_ok-asked.ensures)

pub returns-clause-made : goal.returns-clause-made
returns-clause-made c = λ opening.
    let before = c.args.self.now in
    let session = c.args.session in
    let P : Sessions × List Reply → Type 0 = λ made. IsMade opening before (End session) (record { replies = made.1; uses = c.new.result; short = None; closed = None }) made.0 in
    elim c.if-branch.branch [
      | then-branch+in_ok-asked+in_ok-settle w ↦
          let gone : Sessions = record { live = w.remove.new.self; desktop = c.leave.new.desktop } in
          subst P (λ i. (sym w.self-is i, sym w.replies-is i))
          (gone_made opening before gone w.settle.new.self session (lookup before.live.entries session) c.in_ok-leave.field-0 w.settle.new.replies c.new.result refl w.if-branch.true c.in_ok-leave.ensures.left
          (w.remove.ensures.entries ∙ without_at before.live.entries session)
          (subst (λ (replies : List Reply). IsSettled (world_with opening gone) replies (world_with opening w.settle.new.self) w.settle.new.replies) c.new-replies.ensures (w.in_ok-settle.ensures.settled opening)))
      | else-branch w ↦
          subst P (λ i. (sym w.self-is i, sym (w.replies-is ∙ c.new-replies.ensures) i))
          (absent_made opening before (record { live = before.live; desktop = c.leave.new.desktop }) session (lookup before.live.entries session) c.in_ok-leave.field-0 c.new.result refl w.if-branch.false c.in_ok-leave.ensures.left refl)
    ]

pub returns-clause-began : goal.returns-clause-began
returns-clause-began c =
    let P : Sessions → Type 0 = λ after. began_of after.desktop ≡ began_of c.args.self.now.desktop in
    elim c.if-branch.branch [
      | then-branch+in_ok-asked+in_ok-settle w ↦ subst P (sym w.self-is) (w.settle.ensures.began ∙ c.leave.ensures.began)
      | else-branch w ↦ subst P (sym w.self-is) c.leave.ensures.began
    ]
