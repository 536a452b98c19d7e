-- A desk's table is ready at the start, and each event of the mouse on the display leaves it so.
use Rattle.std.proofs.Common.{◌≤◌, ◌+◌, ℕ, Bool, Some, None, arith}
use Rattle.model_files.specs.declared.mouse.Mouse.{Mouse}
use Rattle.model_client.specs.declared.desk.Act.{Act}
use Rattle.model_client.specs.declared.desk.Act.TheVariants.{Delete, Hide, Move, New, Nothing, Pass, Resize}
use Rattle.model_client.specs.desk.Table.{Desk, done, start}
use Rattle.model_client.specs.desk.Asked.{asked, spot}
use Rattle.model_client.specs.desk.Pilot.{after}
use Rattle.r9_geom.specs.Geometry.{shifted}
use Rattle.law_desk.specs.piloted.Following.{IsEvent, is_over}
use Rattle.law_desk.specs.ready.Ready.{ArePanes, IsOnDisplay, IsReady}
use Rattle.law_desk.proofs.ready.Lists.{are_kept, are_more, are_placed, are_raised}
use Rattle.law_desk.proofs.ready.Fair.{IsFair, MayDo, fair}

pub starts : IsReady 0 start
starts = record { panes = tt; room = omega arith; few = omega arith; able = tt }

pub on_display : (e : Mouse) → IsEvent e → IsOnDisplay (spot e)
on_display e event = record { x = record { at = event.left; is = event.x; within = event.wide }; y = record { at = event.top; is = event.y; within = event.high } }

module _ (over : Bool) (d : Desk) (panes : ArePanes d.next d.visible) where
  done_panes : (asks : Act) → MayDo over d asks → ArePanes (done asks d).next (done asks d).visible
  unfolding done
  done_panes Nothing does = panes
  done_panes (Pass None) does = panes
  done_panes (Pass (Some pane)) does = are_raised d.next pane d.visible does panes
  done_panes (New r) does = are_more d.next r d.visible does.0.fits panes
  done_panes (Resize window r) does = are_placed d.next window r d.visible does.1.fits panes
  done_panes (Move pane by) does = are_placed d.next pane.number (shifted pane.r by) d.visible does.fits panes
  done_panes (Delete window) does = are_kept d.next _ d.visible panes
  done_panes (Hide pane) does = are_kept d.next _ d.visible panes

done_next : (d : Desk) (asks : Act) → (done asks d).next ≤ d.next + 1
unfolding done
done_next d Nothing = omega arith
done_next d (Pass raised) = omega arith
done_next d (New r) = omega arith
done_next d (Resize window r) = omega arith
done_next d (Move pane by) = omega arith
done_next d (Delete window) = omega arith
done_next d (Hide pane) = omega arith

-- what the desk asks for can be done
pub asks_fair : (k : ℕ) (d : Desk) (e : Mouse) → IsReady k d → IsEvent e → IsFair (is_over d.mode d.last) d e.buttons (asked d e)
unfolding asked
asks_fair k d e ready event = fair d e (on_display e event) ready.panes d.mode ready.room ready.able

pub ready_after : (k : ℕ) (d : Desk) (e : Mouse) → IsReady k d → IsEvent e → IsReady (k + 1) (after d e)
unfolding after
ready_after k d e ready event =
    let is = asks_fair k d e ready event in
    let few = ready.few in
    let more = done_next d (asked d e).act in
    record { panes = done_panes (is_over d.mode d.last) d ready.panes (asked d e).act is.does; room = is.room; few = omega (arith, few, more); able = is.able }
