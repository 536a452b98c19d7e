-- A client that has begun and opened its files is where a desk starts.
use Rattle.std.proofs.Common.{◌≡◌, refl}
use Rattle.std.proofs.lemmas.List.Elements.{All-nil}
use Rattle.r9_event.specs.declared.event.event.Event.TheVariants.{Begin}
use Rattle.r9_event.specs.declared.event.event.Opening.{Opening}
use Rattle.model_rio.specs.rio.Table.{Window}
use Rattle.model_rio.proofs.rio.Soundness.{opened_sound}
use Rattle.model_world.specs.World.{World, display_of, opened}
use Rattle.model_world.specs.Replay.{step}
use Rattle.model_clients.specs.client.Pointing.{point_replies, to_point}
use Rattle.law_text.specs.client.Pointing.{pointer, with_connection}
use Rattle.model_clients.specs.client.Saying.{hello, welcome}
use Rattle.law_text.specs.client.Saying.{greeted, world_left}
use Rattle.law_text.proofs.client.Pointing.{points}
use Rattle.law_text.proofs.client.Saying.{agreed_on_version, stays, then_said}
use Rattle.law_desk.specs.steered.Steered.{IsBegun}

pub begun : (opening : Opening) → IsBegun opening
begun opening =
    let first : World = (step (opened opening) (Begin 1)).world in
    let second : World = world_left first (greeted, first.desktop) in
    let last : World = world_left second (pointer, with_connection second.desktop) in
    record {
      left = last;
      answered = then_said first last hello to_point (greeted, first.desktop) welcome point_replies (agreed_on_version first refl) (points second (stays first (greeted, first.desktop) refl refl refl));
      at = record {
        alone = stays second (pointer, with_connection second.desktop) refl refl refl;
        follows = record {
          sound = opened_sound (display_of opening).r;
          alone = refl;
          own = All-nil (λ (w : Window). w.number ≡ w.serial);
          visible = refl;
          hidden = λ number. refl;
          count = refl;
          next = refl;
          given = refl;
          hold = refl;
        };
      };
      table = refl;
      device = refl;
    }
