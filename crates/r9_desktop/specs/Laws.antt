-- What sessions answer leaves a desktop with their connections, and refuses nothing for want of memory but by the reply to a write.
use Rattle.std.proofs.Common.{◌≡◌, ℕ, List, [], Option, Some, Ok, Err, refl, subst, arith}
use Rattle.model_text.specs.text.Outcome.{Outcome}
use Rattle.model_files.specs.wire.Message.{T, Twrite}
use Rattle.model_files.specs.tree.Node.{Node}
use Rattle.model_draw.specs.draw.Act.{no_memory}
use Rattle.model_world.specs.Session.{Session}
use Rattle.model_world.specs.Answer.{answer_to, read_or_not}
use Rattle.model_world.specs.Fids.{Left, cleared}
use Rattle.model_world.specs.Waiting.{one_answered}
use Rattle.model_world.specs.Refusal.{IsRefused}
use Rattle.model_world.specs.Desktop.{Desktop}
use Rattle.model_world.specs.Links.{IsLinked, KeepsOthers, is_connected}
use Rattle.model_world.specs.Whole.{client, desktop_for, view_of}
use Rattle.model_world.proofs.Links.{left_others}
use Rattle.model_world.proofs.Desktops.{device_of, keeps_connections}
use Rattle.model_world.proofs.Answers.{HoldsSome, cleared_left, one_holds, read_leaves}
use Rattle.model_world.proofs.Wanting.{IsOther, Spares, SparesOf, answer_spares, refused_otherwise}

pub view_has : (c : ℕ) (desktop : Desktop) (connections : List ℕ) (node : Node) → ((desktop_for c).view desktop connections node).connections ≡ connections
unfolding view_of
view_has c desktop connections node = refl

pub leave_leaves : (c m n : ℕ) (desktop : Desktop) → (m ≡ n → ⊥) → is_connected ((desktop_for c).leave desktop n).device (client c m) ≡ is_connected desktop.device (client c m)
leave_leaves c m n desktop apart = left_others desktop.device (client c n) (client c m) (λ same. apart (omega (arith, same)))

pub answer_links : (c : ℕ) (session : Session) (desktop : Desktop) (mark : Option ℕ) (m : Option T) (after : Left Desktop) → IsLinked c session.made session.connections desktop.device
    → read_or_not (desktop_for c) session desktop mark m ≡ Ok after
    → IsLinked c after.session.made after.session.connections after.rest.device × KeepsOthers c desktop.device after.rest.device
answer_links c session desktop mark m after linked is = let holds = read_leaves c (desktop_for c) device_of (keeps_connections c) session desktop mark m after linked is in (holds.linked, holds.others)

pub late_links : (c : ℕ) (session : Session) (desktop : Desktop) (after : Left Desktop) → IsLinked c session.made session.connections desktop.device
    → one_answered (desktop_for c) session desktop ≡ Some after
    → IsLinked c after.session.made after.session.connections after.rest.device × KeepsOthers c desktop.device after.rest.device
late_links c session desktop after linked is =
    let holds = subst (λ (o : Option (Left Desktop)). HoldsSome c (desktop_for c) device_of (keeps_connections c) desktop o) is (one_holds c (desktop_for c) device_of (keeps_connections c) session desktop linked) in (holds.linked, holds.others)

pub cleared_links : (c : ℕ) (session : Session) (desktop : Desktop) → IsLinked c session.made session.connections desktop.device
    → IsLinked c session.made [] (cleared (desktop_for c) session desktop).1.device × KeepsOthers c desktop.device (cleared (desktop_for c) session desktop).1.device
cleared_links c session desktop linked = cleared_left c (desktop_for c) device_of (keeps_connections c) session desktop linked

pub refuses_otherwise : (c : ℕ) (session : Session) (desktop : Desktop) (mark : Option ℕ) (m : Option T) → read_or_not (desktop_for c) session desktop mark m ≡ Err no_memory → ⊥
refuses_otherwise c session desktop mark m is = refused_otherwise c (desktop_for c) device_of (keeps_connections c) session desktop mark m no_memory is refl

spared : (m : T) (after : Left Desktop) → ((tag fid offset : ℕ) (bytes : List ℕ) → m ≡ Twrite tag fid offset bytes → ⊥) → SparesOf m after → Spares after
spared (Twrite tag fid offset bytes) after other spares = absurd (other tag fid offset bytes refl)
spared m after other spares = spares

pub answers_otherwise : (c : ℕ) (session : Session) (desktop : Desktop) (mark : Option ℕ) (m : T) (after : Left Desktop) → ((tag fid offset : ℕ) (bytes : List ℕ) → m ≡ Twrite tag fid offset bytes → ⊥)
    → answer_to (desktop_for c) session desktop mark m ≡ Ok after → IsRefused no_memory after.reply → ⊥
answers_otherwise c session desktop mark m after other is =
    spared m after other (subst (λ (o : Outcome (Left Desktop)). IsOther (SparesOf m) o) is (answer_spares c (desktop_for c) device_of (keeps_connections c) session desktop mark m))
