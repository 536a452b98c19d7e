-- What a desk says before the first event is answered without an error, and leaves it what it draws the bands of menus with.
use Rattle.std.proofs.Common.{◌∙◌, [], ◌∷◌, length, refl, sym, subst}
use Rattle.r9_event.specs.declared.event.event.Event.TheVariants.{Begin}
use Rattle.model_files.specs.wire.Message.{Rwrite}
use Rattle.model_rio.specs.rio.Table.{Table}
use Rattle.model_draw.specs.draw.World as draw
use Rattle.model_world.specs.World.{World, opened}
use Rattle.model_world.specs.Whole.{with_device}
use Rattle.model_world.specs.Replay.{step}
use Rattle.model_clients.specs.client.Pointing.{point_replies, to_point}
use Rattle.law_text.specs.client.Pointing.{paint, pointer}
use Rattle.model_clients.specs.client.Saying.{hello, welcome}
use Rattle.law_text.specs.client.Saying.{drawn, world_left}
use Rattle.law_text.proofs.client.Pointing.{painted}
use Rattle.law_text.proofs.client.Saying.{all_said, nothing_said, stays, then_said}
use Rattle.law_text.proofs.client.Writes.{Leads}
use Rattle.model_clients.specs.bands.Bands.{inks}
use Rattle.model_clients.specs.piloted.History.{display, writes, written_all}
use Rattle.law_desk.proofs.steered.Opening.{begun}
use Rattle.law_menus.specs.inked.Inked.{IsInked, connection}
use Rattle.law_menus.specs.inking.Inking.{IsOpened}
use Rattle.law_menus.proofs.inking.Making.{device_is, inks_short, last_device, leads_inks}
use Rattle.law_menus.proofs.inking.Inks.{last_inked}

pub opened_inked : IsOpened
opened_inked =
    let first : World = (step (opened display) (Begin 1)).world in
    let is = begun display in
    let leads = subst (λ (device : draw.World). Leads connection device last_device inks) (sym (is.device ∙ device_is)) leads_inks in
    let left : World = world_left is.left (pointer, with_device is.left.desktop last_device) in
    record {
      left = left;
      answered = all_said first is.left left (hello ∷ to_point) (writes (4, inks) ∷ []) (welcome ∷ point_replies) (written_all (4, inks) ∷ []) is.answered
          (then_said is.left left (paint inks) [] (pointer, drawn connection is.left.desktop last_device inks) (Rwrite 1 (length inks)) [] (painted is.left inks last_device is.at.alone leads inks_short) (nothing_said left));
      at = record { alone = stays is.left (pointer, with_device is.left.desktop last_device) refl refl refl; follows = is.at.follows };
      inked = subst (λ (table : Table). IsInked last_device table) (sym is.table) last_inked;
    }
