-- A client opens what it points and commands with, and points and commands.
use Rattle.std.proofs.Common.{◌≡◌, ◌≤◌, ℕ, true, false, List, [], ◌∷◌, codes, length, map, Some, Ok, refl, arith}
use Rattle.model_files.specs.declared.tree.Kind.{Kind}
use Rattle.model_files.specs.declared.tree.Kind.TheVariants.{Consctl, Ctl, Data, Device, DeviceWctl, Mouse, Mousein, New}
use Rattle.model_files.specs.tree.Node.{may, qid, row}
use Rattle.model_files.specs.tree.Tree.{check_live}
use Rattle.model_files.specs.declared.mouse.Mouse.{Mouse as Pointer}
use Rattle.model_files.specs.mouse.Pointer.{pointer_of}
use Rattle.model_files.specs.wire.Message.{Rattach, Ropen, Rwalk, Rwrite, Tattach, Topen, Twalk, no_fid}
use Rattle.model_draw.specs.draw.World as draw
use Rattle.model_world.specs.Session.{Session, fid_at}
use Rattle.model_world.specs.Fids.{is_kind}
use Rattle.model_world.specs.Desktop.{Desktop}
use Rattle.model_world.specs.Whole.{client, device_commanded, moused, view_of}
use Rattle.model_world.specs.World.{World}
use Rattle.model_world.specs.Replay.{step}
use Rattle.model_clients.specs.client.Files.{data_way, file, new_way, to_data, to_new}
use Rattle.law_text.specs.client.Files.{open_on}
use Rattle.model_clients.specs.client.Saying.{says}
use Rattle.law_text.specs.client.Saying.{AreAnswered, IsClient, answered, drawn, greeted, world_left}
use Rattle.model_clients.specs.client.Pointing.{point_replies, to_point}
use Rattle.law_text.specs.client.Pointing.{command, paint, point, pointer, with_connection}
use Rattle.law_text.proofs.client.Saying.{nothing_said, said, stays, then_said}
use Rattle.law_text.proofs.client.May.{may_attach_device, may_open, may_walk_data, may_walk_mousein, may_walk_new, may_walk_wctl, may_write}
use Rattle.law_text.proofs.client.Walking.{device_data, device_mousein, device_new, device_wctl}
use Rattle.law_text.proofs.client.Answering.{attached_device, opened_file, opened_new, walked_to, wrote_data, wrote_device_wctl, wrote_mousein}
use Rattle.law_text.proofs.client.Writes.{Leads, leads_written}

-- ---- opening

-- what the client has after each message
abbrev attached : Session
attached = record greeted { fids = (0, fid_at (file 0 Device 0)) ∷ [] }

abbrev at_mousein : Session
at_mousein = record greeted { fids = (0, fid_at (file 0 Device 0)) ∷ (1, fid_at (file 0 Mousein 0)) ∷ [] }

abbrev on_mousein : Session
on_mousein = record greeted { fids = (0, fid_at (file 0 Device 0)) ∷ (1, open_on (file 0 Mousein 0) 1) ∷ [] }

abbrev at_wctl : Session
at_wctl = record greeted { fids = (0, fid_at (file 0 Device 0)) ∷ (1, open_on (file 0 Mousein 0) 1) ∷ (2, fid_at (file 0 DeviceWctl 0)) ∷ [] }

abbrev on_wctl : Session
on_wctl = record greeted { fids = (0, fid_at (file 0 Device 0)) ∷ (1, open_on (file 0 Mousein 0) 1) ∷ (2, open_on (file 0 DeviceWctl 0) 1) ∷ [] }

abbrev at_new : Session
at_new = record greeted {
  fids = (0, fid_at (file 0 Device 0)) ∷ (1, open_on (file 0 Mousein 0) 1) ∷ (2, open_on (file 0 DeviceWctl 0) 1) ∷ (3, fid_at (file 0 New 0)) ∷ [];
}

abbrev on_ctl : Session
on_ctl = record greeted {
  fids = (0, fid_at (file 0 Device 0)) ∷ (1, open_on (file 0 Mousein 0) 1) ∷ (2, open_on (file 0 DeviceWctl 0) 1) ∷ (3, open_on (file 0 Ctl 1) 2) ∷ [];
  connections = 1 ∷ [];
  made = 1;
}

abbrev at_data : Session
at_data = record greeted {
  fids = (0, fid_at (file 0 Device 0)) ∷ (1, open_on (file 0 Mousein 0) 1) ∷ (2, open_on (file 0 DeviceWctl 0) 1) ∷ (3, open_on (file 0 Ctl 1) 2) ∷ (4, fid_at (file 0 Data 1)) ∷ [];
  connections = 1 ∷ [];
  made = 1;
}

abbrev told : Desktop → Desktop
told desktop = record desktop { notes = []; cost = 0 }

mousein_opens : (session : Session) (desktop : Desktop) → check_live (view_of desktop.table session.connections (file 0 Mousein 0)) (file 0 Mousein 0) ≡ Ok tt
unfolding view_of check_live row
mousein_opens session desktop = refl

wctl_opens : (session : Session) (desktop : Desktop) → check_live (view_of desktop.table session.connections (file 0 DeviceWctl 0)) (file 0 DeviceWctl 0) ≡ Ok tt
unfolding view_of check_live row
wctl_opens session desktop = refl

data_opens : (desktop : Desktop) → check_live (view_of desktop.table (1 ∷ []) (file 0 Data 1)) (file 0 Data 1) ≡ Ok tt
unfolding view_of check_live row
data_opens desktop = refl

-- a file of this kind may be open more than once
abbrev IsPlain : Kind → Type 0
IsPlain kind = (is_kind New kind ≡ false) × (is_kind Ctl kind ≡ false) × (is_kind Mouse kind ≡ false) × (is_kind Consctl kind ≡ false)

plain_mousein : IsPlain Mousein
unfolding row
plain_mousein = (refl, refl, refl, refl)

plain_wctl : IsPlain DeviceWctl
unfolding row
plain_wctl = (refl, refl, refl, refl)

plain_data : IsPlain Data
unfolding row
plain_data = (refl, refl, refl, refl)

may_mousein : may (file 0 Mousein 0) 1 ≡ true
unfolding may row
may_mousein = refl

may_wctl : may (file 0 DeviceWctl 0) 1 ≡ true
unfolding may row
may_wctl = refl

may_data : may (file 0 Data 1) 2 ≡ true
unfolding may row
may_data = refl

-- All is answered without an error, and the client has its files.
pub points : (world : World) → IsClient world greeted → AreAnswered world to_point (world_left world (pointer, with_connection world.desktop)) point_replies
points world client =
    let desktop : Desktop = world.desktop in
    let later : Desktop = with_connection desktop in
    let w1 : World = world_left world (attached, desktop) in
    let w2 : World = world_left w1 (at_mousein, told desktop) in
    let w3 : World = world_left w2 (on_mousein, told desktop) in
    let w4 : World = world_left w3 (at_wctl, told desktop) in
    let w5 : World = world_left w4 (on_wctl, told desktop) in
    let w6 : World = world_left w5 (at_new, told desktop) in
    let w7 : World = world_left w6 (on_ctl, later) in
    let w8 : World = world_left w7 (at_data, later) in
    let w9 : World = world_left w8 (pointer, later) in
    then_said world w9 (Tattach 1 0 no_fid [] []) _ (attached, desktop) (Rattach 1 (qid (file 0 Device 0))) _
    (said world greeted (Tattach 1 0 no_fid [] []) (attached, desktop) (Rattach 1 (qid (file 0 Device 0))) client (may_attach_device greeted 0 refl (omega arith)) (attached_device greeted desktop 1 0 [] refl refl) refl)
    (then_said w1 w9 (Twalk 1 0 1 (codes "mousein" ∷ [])) _ (at_mousein, told desktop) (Rwalk 1 (map qid (file 0 Mousein 0 ∷ []))) _
    (said w1 attached (Twalk 1 0 1 (codes "mousein" ∷ [])) (at_mousein, told desktop) (Rwalk 1 (map qid (file 0 Mousein 0 ∷ []))) (stays world (attached, desktop) refl refl refl) (may_walk_mousein attached 0 1 refl (omega arith) (omega arith))
    (walked_to attached (told desktop) 1 0 1 (codes "mousein" ∷ []) (file 0 Device 0) (file 0 Mousein 0 ∷ []) refl refl refl refl (device_mousein desktop.table [])) refl)
    (then_said w2 w9 (Topen 1 1 1) _ (on_mousein, told desktop) (Ropen 1 (qid (file 0 Mousein 0)) 0) _
    (said w2 at_mousein (Topen 1 1 1) (on_mousein, told desktop) (Ropen 1 (qid (file 0 Mousein 0)) 0) (stays w1 (at_mousein, told desktop) refl refl refl) (may_open at_mousein 1 1 refl (omega arith) (omega arith))
    (opened_file at_mousein (told desktop) 1 1 1 (file 0 Mousein 0) refl (mousein_opens at_mousein (told desktop)) may_mousein plain_mousein.0 plain_mousein.1 plain_mousein.2 plain_mousein.3) refl)
    (then_said w3 w9 (Twalk 1 0 2 (codes "wctl" ∷ [])) _ (at_wctl, told desktop) (Rwalk 1 (map qid (file 0 DeviceWctl 0 ∷ []))) _
    (said w3 on_mousein (Twalk 1 0 2 (codes "wctl" ∷ [])) (at_wctl, told desktop) (Rwalk 1 (map qid (file 0 DeviceWctl 0 ∷ []))) (stays w2 (on_mousein, told desktop) refl refl refl) (may_walk_wctl on_mousein 0 2 refl (omega arith) (omega arith))
    (walked_to on_mousein (told desktop) 1 0 2 (codes "wctl" ∷ []) (file 0 Device 0) (file 0 DeviceWctl 0 ∷ []) refl refl refl refl (device_wctl desktop.table [])) refl)
    (then_said w4 w9 (Topen 1 2 1) _ (on_wctl, told desktop) (Ropen 1 (qid (file 0 DeviceWctl 0)) 0) _
    (said w4 at_wctl (Topen 1 2 1) (on_wctl, told desktop) (Ropen 1 (qid (file 0 DeviceWctl 0)) 0) (stays w3 (at_wctl, told desktop) refl refl refl) (may_open at_wctl 2 1 refl (omega arith) (omega arith))
    (opened_file at_wctl (told desktop) 1 2 1 (file 0 DeviceWctl 0) refl (wctl_opens at_wctl (told desktop)) may_wctl plain_wctl.0 plain_wctl.1 plain_wctl.2 plain_wctl.3) refl)
    (then_said w5 w9 (Twalk 1 0 3 to_new) _ (at_new, told desktop) (Rwalk 1 (map qid (new_way 0))) _
    (said w5 on_wctl (Twalk 1 0 3 to_new) (at_new, told desktop) (Rwalk 1 (map qid (new_way 0))) (stays w4 (on_wctl, told desktop) refl refl refl) (may_walk_new on_wctl 0 3 refl (omega arith) (omega arith))
    (walked_to on_wctl (told desktop) 1 0 3 to_new (file 0 Device 0) (new_way 0) refl refl refl refl (device_new desktop.table [])) refl)
    (then_said w6 w9 (Topen 1 3 2) _ (on_ctl, later) (Ropen 1 (qid (file 0 Ctl 1)) 0) _
    (said w6 at_new (Topen 1 3 2) (on_ctl, later) (Ropen 1 (qid (file 0 Ctl 1)) 0) (stays w5 (at_new, told desktop) refl refl refl) (may_open at_new 3 2 refl (omega arith) (omega arith))
    (opened_new at_new (told desktop) 1 3 0 refl refl refl) refl)
    (then_said w7 w9 (Twalk 1 0 4 to_data) _ (at_data, later) (Rwalk 1 (map qid (data_way 0))) _
    (said w7 on_ctl (Twalk 1 0 4 to_data) (at_data, later) (Rwalk 1 (map qid (data_way 0))) (stays w6 (on_ctl, later) refl refl refl) (may_walk_data on_ctl 0 4 refl (omega arith) (omega arith))
    (walked_to on_ctl later 1 0 4 to_data (file 0 Device 0) (data_way 0) refl refl refl refl (device_data desktop.table)) refl)
    (then_said w8 w9 (Topen 1 4 2) [] (pointer, later) (Ropen 1 (qid (file 0 Data 1)) 0) []
    (said w8 at_data (Topen 1 4 2) (pointer, later) (Ropen 1 (qid (file 0 Data 1)) 0) (stays w7 (at_data, later) refl refl refl) (may_open at_data 4 2 refl (omega arith) (omega arith))
    (opened_file at_data later 1 4 2 (file 0 Data 1) refl (data_opens later) may_data plain_data.0 plain_data.1 plain_data.2 plain_data.3) refl)
    (nothing_said w9)))))))))

-- ---- then

-- an event of the mouse goes to the windows
pub pointed : (world : World) (bytes : List ℕ) (e : Pointer) → IsClient world pointer → pointer_of bytes ≡ Some e → length bytes ≤ 65537
    → step world (says (point bytes)) ≡ answered world (pointer, moused world.desktop e) (Rwrite 1 (length bytes))
pointed world bytes e client told short =
    said world pointer (point bytes) (pointer, moused world.desktop e) (Rwrite 1 (length bytes)) client (may_write pointer 1 bytes refl (omega arith) short)
    (wrote_mousein pointer world.desktop 1 1 0 1 0 bytes e refl refl told) refl

-- a command that is not refused is carried out
pub ordered : (world : World) (bytes : List ℕ) (next : Desktop) → IsClient world pointer → device_commanded world.desktop bytes ≡ Ok next → length bytes ≤ 65537
    → step world (says (command bytes)) ≡ answered world (pointer, next) (Rwrite 1 (length bytes))
ordered world bytes next client done short =
    said world pointer (command bytes) (pointer, next) (Rwrite 1 (length bytes)) client (may_write pointer 2 bytes refl (omega arith) short)
    (wrote_device_wctl pointer world.desktop next 1 2 0 1 0 bytes refl refl done) refl

-- draw messages that are not refused do what they do one after the other
pub painted : (world : World) (bytes : List ℕ) (after : draw.World) → IsClient world pointer → Leads (client 1 1) world.desktop.device after bytes → length bytes ≤ 65537
    → step world (says (paint bytes)) ≡ answered world (pointer, drawn (client 1 1) world.desktop after bytes) (Rwrite 1 (length bytes))
painted world bytes after alone leads short =
    let run = leads_written (client 1 1) world.desktop.device after bytes leads in
    said world pointer (paint bytes) (pointer, drawn (client 1 1) world.desktop after bytes) (Rwrite 1 (length bytes)) alone (may_write pointer 4 bytes refl (omega arith) short)
    (wrote_data pointer world.desktop 1 4 0 1 2 0 run.done bytes after refl refl refl run.is) refl
