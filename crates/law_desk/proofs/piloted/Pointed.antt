-- An event that goes to the windows is written, answered without an error, and does to them what the desk's table says.
use Rattle.std.proofs.Common.{◌≡◌, ◌∙◌, ◌==◌, ◌&&◌, false, [], ◌∷◌, length, refl, sym, ap, subst, arith}
use Rattle.model_files.specs.declared.mouse.Mouse.{Mouse}
use Rattle.model_files.specs.mouse.Pointer.{text}
use Rattle.model_client.specs.declared.desk.Act.TheVariants.{Pass}
use Rattle.model_client.specs.declared.desk.Ask.{Ask}
use Rattle.model_client.specs.declared.desk.Mode.{Mode}
use Rattle.model_client.specs.declared.desk.Mode.TheVariants.{Idle}
use Rattle.model_client.specs.declared.desk.Text.TheVariants.{Mousein}
use Rattle.model_client.specs.desk.Table.{Desk, done}
use Rattle.model_client.specs.desk.Asked.{ask, asked, asked_in}
use Rattle.model_client.specs.desk.Asked as desk
use Rattle.model_client.specs.desk.Spelled.{spelled}
use Rattle.model_client.specs.desk.Pilot.{after, written}
use Rattle.model_files.specs.wire.Message.{Rwrite}
use Rattle.model_world.specs.World.{World}
use Rattle.model_world.specs.Desktop.{stepped}
use Rattle.model_world.specs.Whole.{moused}
use Rattle.model_world.specs.Replay.{Turn, step}
use Rattle.law_text.specs.client.Pointing.{point, pointer}
use Rattle.model_clients.specs.client.Saying.{says}
use Rattle.law_text.specs.client.Saying.{answered, world_left}
use Rattle.law_text.proofs.client.Pointing.{pointed}
use Rattle.law_text.proofs.client.Saying.{stays}
use Rattle.law_desk.specs.piloted.Following.{Follows, IsDeskIn, IsEvent}
use Rattle.law_desk.proofs.piloted.Events.{pointer_again, text_len}
use Rattle.law_desk.proofs.piloted.Passing.{passed, passed_follows}

-- what the desk asks for
pub passes : (d : Desk) (e : Mouse) → d.mode ≡ Idle → ((e.buttons == 4) && (d.last == 0)) ≡ false → asked d e ≡ ask (Pass (desk.raised d e)) Idle
unfolding asked
passes d e idle other = ap (λ (mode : Mode). asked_in mode d e) idle ∙ rw other refl

pub table_after : (d : Desk) (e : Mouse) → d.mode ≡ Idle → ((e.buttons == 4) && (d.last == 0)) ≡ false → after d e ≡ passed d e
unfolding after done
table_after d e idle other = ap (λ (a : Ask). record (done a.act d) { last = e.buttons; mode = a.mode }) (passes d e idle other)

pub text_after : (d : Desk) (e : Mouse) → d.mode ≡ Idle → ((e.buttons == 4) && (d.last == 0)) ≡ false → written d e ≡ Mousein (text 109 e) ∷ []
unfolding written spelled
text_after d e idle other = ap (λ (a : Ask). spelled a.act e) (passes d e idle other)

-- the write of an event is answered so, and leaves the windows of the desk's table
pub record IsWritten (d : Desk) (e : Mouse) (world : World) : Type 0 where
  pub texts : written d e ≡ Mousein (text 109 e) ∷ []
  pub is : step world (says (point (text 109 e))) ≡ answered world (pointer, moused world.desktop e) (Rwrite 1 (length (text 109 e)))
  pub at : IsDeskIn (after d e) (step world (says (point (text 109 e)))).world

pub passed_on : (d : Desk) (e : Mouse) (world : World) → IsDeskIn d world → IsEvent e → d.mode ≡ Idle → ((e.buttons == 4) && (d.last == 0)) ≡ false → IsWritten d e world
unfolding moused stepped
passed_on d e world at event idle other =
    let turn = pointed world (text 109 e) e at.alone (pointer_again e event) (omega (arith, text_len e event)) in
    record {
      texts = text_after d e idle other;
      is = turn;
      at = subst (λ (w : World). IsDeskIn (after d e) w) (sym (ap (λ (t : Turn). t.world) turn)) (record {
        alone = stays world (pointer, moused world.desktop e) refl refl refl;
        follows = subst (λ (next : Desk). Follows next (world_left world (pointer, moused world.desktop e)).desktop.table) (sym (table_after d e idle other))
            (passed_follows d world.desktop.table e at.follows idle);
      });
    }
