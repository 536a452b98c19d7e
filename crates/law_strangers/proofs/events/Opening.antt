-- At the opening both worlds are the same to a session.
use Rattle.std.proofs.Common.{ℕ, List, Option, None, refl}
use Rattle.r9_event.specs.declared.event.event.Opening.{Opening}
use Rattle.model_rio.specs.window.Pane.{Pane}
use Rattle.model_rio.specs.rio.Table.{Table}
use Rattle.model_rio.proofs.rio.Soundness.{opened_sound}
use Rattle.model_draw.specs.draw.World as draw
use Rattle.law_shown.proofs.fitting.Opening.{first_orderly, first_shows}
use Rattle.law_others.proofs.others.Display.{first_furnished}
use Rattle.model_world.specs.World.{display_of, opened}
use Rattle.model_alone.specs.alone.Lone.{first_lone_world}
use Rattle.law_strangers.specs.followed.Devices.{AreNamesFree, IsDeviceLike}
use Rattle.law_strangers.specs.followed.Following.{SameDesktops}

pub first_same : (c : ℕ) (Like : Option (ℕ × ℕ) → Option (ℕ × List ℕ) → draw.World → draw.World → Type 0) (Named : draw.World → Table → List (ℕ × Pane) → Type 0) → IsDeviceLike c Like → AreNamesFree Named → (opening : Opening)
    → SameDesktops Like Named None (opened opening).desktop (first_lone_world opening).desktop
first_same c Like Named laws names opening = record {
  drawn = record { sound = opened_sound (display_of opening).r; orderly = first_orderly (display_of opening); furnished = first_furnished (display_of opening) refl; shows = first_shows (display_of opening) };
  order = tt;
  names = names.start (display_of opening);
  window = refl;
  device = laws.start opening;
}
