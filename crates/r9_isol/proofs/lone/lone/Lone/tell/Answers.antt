use Rattle.std.proofs.Common.{◌+◌, ap, sym, subst}
use Rattle.model_world.specs.Links.{IsLinked}
use Rattle.model_alone.specs.alone.Lone.{LoneDesktop}
use Rattle.r9_isol.specs.isol.World.{desktop_of}
use Rattle.r9_isol.specs.declared.lone.lone.Lone.{Lone}
use Rattle.r9_isol.specs.lone.LoneView.{world_of, IsLinkedWorld}
use Rattle.r9_isol.proofs.lone.Stepped.{item_passed, note_linked, note_told, ToldSoFar}
use Rattle.r9_isol.proofs.lone.lone.Lone.tell.Goals.{in-Noted+in_ok-note, in_default}
use Rattle.r9_isol.proofs.lone.lone.Lone.tell.Goals as goal

pub loop-item-preserved : goal.loop-item-preserved
loop-item-preserved c =
    let before = c.loop-item.self in
    let P : Lone → Type 0 = λ l. IsLinkedWorld (world_of l) × ToldSoFar (world_of c.args.self.now) c.args.items.now (c.loop-item.item-index + 1) (world_of l) in
    elim c.match-item.branch [
      | in-Noted+in_ok-note w ↦
          subst P (sym w.self-is) (
            subst (λ (d : LoneDesktop). IsLinked 1 before.session.made before.session.connections d.device) (sym w.in_ok-note.ensures)
                (note_linked before.session.made before.session.connections (desktop_of before.desktop) w.in-Noted.note c.loop-item.invariant.0),
            note_told (world_of c.args.self.now) (world_of before) (world_of (record before { desktop = w.note.new.self })) c.args.items.now c.loop-item.item-index c.item-item.result w.in-Noted.note
                c.loop-item-test.true c.item-item.is w.in-Noted.is (ap (λ (d : LoneDesktop). record (world_of before) { desktop = d }) w.in_ok-note.ensures) c.loop-item.invariant.1,
          )
      | in_default w ↦
          subst P (sym w.self-is) (
            c.loop-item.invariant.0,
            item_passed (world_of c.args.self.now) (world_of before) c.args.items.now c.loop-item.item-index c.item-item.result c.loop-item-test.true c.item-item.is w.in_default.not-Noted c.loop-item.invariant.1,
          )
    ]
