-- What each message of a client is answered.
use Rattle.std.proofs.Common.{◌≡◌, ◌+◌, ℕ, true, false, not, eqb, List, [], ◌∷◌, ◌++◌, length, Some, None, Ok, refl}
use Rattle.std.specs.Prelude.{Bool, is_some, map, nat_le}
use Rattle.std.specs.List.{list_any}
use Rattle.std.proofs.lemmas.Bool.{and_right}
use Rattle.model_text.specs.text.Map.{lookup, with}
use Rattle.model_files.specs.declared.wctl.Choice.{Choice}
use Rattle.model_files.specs.wctl.Command as wctl
use Rattle.model_files.specs.wctl.Reading.{command_of}
use Rattle.model_files.specs.declared.mouse.Mouse.{Mouse as Pointer}
use Rattle.model_files.specs.mouse.Pointer.{pointer_of}
use Rattle.model_rio.specs.rio.Act as act
use Rattle.model_rio.specs.rio.Rio.{rio}
use Rattle.model_rio.specs.rio.Step.{Step}
use Rattle.model_rio.specs.rio.Table.{window_of}
use Rattle.model_files.specs.tree.Attach.{Fresh, attach_of}
use Rattle.model_files.specs.declared.tree.Kind.TheVariants.{Consctl, Ctl, Data, DeviceWctl, Mouse, Mousein, New, Wctl}
use Rattle.model_files.specs.tree.Node.{Node, may, qid, row, writes}
use Rattle.model_files.specs.tree.Tree.{check_live, root_of}
use Rattle.model_files.specs.wire.Message.{Rattach, Ropen, Rwalk, Rwrite, Tattach, Topen, Twalk, Twrite, no_fid}
use Rattle.model_draw.specs.draw.World as draw
use Rattle.model_draw.specs.draw.Act.{written}
use Rattle.model_world.specs.Session.{Session, fid_at}
use Rattle.model_world.specs.Fids.{and_fid, is_bound, is_full, is_kind, left, with_fid}
use Rattle.model_world.specs.Answer.{answer_to}
use Rattle.model_world.specs.Desktop.{Desktop, stepped}
use Rattle.model_world.specs.Walking.{attach_answer, ctl_of, last, most_at_once, most_made, open_answer, walk_answer, walked}
use Rattle.model_world.specs.Whole.{attached, client, commanded, desktop_for, device_commanded, moused, used_by, view_of, window_made, with_device, written_data}
use Rattle.model_world.specs.Writing.{write_answer}
use Rattle.model_clients.specs.client.Files.{file, own_file}
use Rattle.law_text.specs.client.Files.{open_on}
use Rattle.law_text.specs.client.Saying.{drawn}

-- ---- attaching

pub attached_device : (session : Session) (desktop : Desktop) (tag fid : ℕ) (uname : List ℕ) → is_bound session fid ≡ false → is_full session ≡ false
    → answer_to (desktop_for 1) session desktop None (Tattach tag fid no_fid uname []) ≡ Ok (left (and_fid session fid (fid_at (root_of 0)), desktop) (Rattach tag (qid (root_of 0))))
unfolding attach_answer attached attach_of
attached_device session desktop tag fid uname bound full = rw (bound, full) refl

-- the window of an attach by a command
pub made_window : (desktop : Desktop) (text : List ℕ) (options : List Choice) (hide : Bool) (id : List ℕ) (step : Step)
    → command_of false text ≡ Some (record { what = wctl.New options hide; id = id }) → rio desktop.table (act.New 0 options hide) ≡ Ok step
    → window_made desktop [] text ≡ Ok (stepped desktop step, (stepped desktop step).table.serials)
unfolding window_made
made_window desktop text options hide id step command stepped = rw (command, stepped) refl

pub attached_window : (session : Session) (desktop next : Desktop) (window tag fid : ℕ) (uname name text : List ℕ) → is_bound session fid ≡ false → is_full session ≡ false
    → attach_of name ≡ Fresh [] text → window_made desktop [] text ≡ Ok (next, window)
    → answer_to (desktop_for 1) session desktop None (Tattach tag fid no_fid uname name)
    ≡ Ok (left (and_fid session fid (fid_at (root_of window)), (used_by 1 (next, window)).0) (Rattach tag (qid (root_of window))))
unfolding attach_answer attached
attached_window session desktop next window tag fid uname name text bound full fresh made = rw (bound, full, fresh, made) refl

-- ---- walking and opening

pub walked_to : (session : Session) (desktop : Desktop) (tag fid newfid : ℕ) (names : List (List ℕ)) (from : Node) (nodes : List Node) → lookup session.fids fid ≡ Some (fid_at from)
    → eqb newfid fid ≡ false → is_bound session newfid ≡ false → is_full session ≡ false → walked (view_of desktop.table session.connections) from names ≡ (nodes, None)
    → answer_to (desktop_for 1) session desktop None (Twalk tag fid newfid names) ≡ Ok (left (and_fid session newfid (fid_at (last from nodes)), desktop) (Rwalk tag (map qid nodes)))
unfolding walk_answer
walked_to session desktop tag fid newfid names from nodes found other bound full went = rw (found, other, bound, full, went, other) refl

-- a connection begins
pub opened_new : (session : Session) (desktop : Desktop) (tag fid root : ℕ) → lookup session.fids fid ≡ Some (fid_at (file root New 0))
    → nat_le most_at_once (length session.connections) ≡ false → nat_le most_made session.made ≡ false
    → answer_to (desktop_for 1) session desktop None (Topen tag fid 2)
    ≡ Ok (left (
      record session {
        fids = with session.fids fid (open_on (ctl_of (file root New 0) (session.made + 1)) 2);
        connections = session.connections ++ (session.made + 1) ∷ [];
        made = session.made + 1;
      },
      with_device desktop (draw.after_connect desktop.device (client 1 (session.made + 1))),
    )
    (Ropen tag (qid (ctl_of (file root New 0) (session.made + 1))) 0))
unfolding open_answer may row view_of check_live
opened_new session desktop tag fid root found few made = rw (found, few, made) refl

-- another file
pub opened_file : (session : Session) (desktop : Desktop) (tag fid mode : ℕ) (node : Node) → lookup session.fids fid ≡ Some (fid_at node)
    → check_live (view_of desktop.table session.connections node) node ≡ Ok tt → may node mode ≡ true
    → is_kind New node.kind ≡ false → is_kind Ctl node.kind ≡ false → is_kind Mouse node.kind ≡ false → is_kind Consctl node.kind ≡ false
    → answer_to (desktop_for 1) session desktop None (Topen tag fid mode) ≡ Ok (left (with_fid session fid (open_on node mode), desktop) (Ropen tag (qid node) 0))
unfolding open_answer
opened_file session desktop tag fid mode node found lives allowed new ctl mouse consctl = rw (found, lives, allowed, new, ctl, mouse, consctl) refl

-- ---- writing

-- draw messages that are not refused
pub wrote_data : (session : Session) (desktop : Desktop) (tag fid root connection mode offset done : ℕ) (bytes : List ℕ) (next : draw.World)
    → lookup session.fids fid ≡ Some (open_on (file root Data connection) mode) → writes mode ≡ true → list_any (λ n. eqb n connection) session.connections ≡ true
    → written (client 1 connection) desktop.device bytes None ≡ record { world = next; done = done; refusal = None }
    → answer_to (desktop_for 1) session desktop None (Twrite tag fid offset bytes) ≡ Ok (left (session, drawn (client 1 connection) desktop next bytes) (Rwrite tag (length bytes)))
unfolding write_answer written_data view_of check_live row
wrote_data session desktop tag fid root connection mode offset done bytes next found opened lives wrote = rw (found, opened, lives, wrote) refl

-- a command to the device's `wctl`
pub wrote_device_wctl : (session : Session) (desktop next : Desktop) (tag fid root mode offset : ℕ) (text : List ℕ) → lookup session.fids fid ≡ Some (open_on (file root DeviceWctl 0) mode)
    → writes mode ≡ true → device_commanded desktop text ≡ Ok next
    → answer_to (desktop_for 1) session desktop None (Twrite tag fid offset text) ≡ Ok (left (session, next) (Rwrite tag (length text)))
unfolding write_answer view_of check_live row
wrote_device_wctl session desktop next tag fid root mode offset text found opened commanded = rw (found, opened, commanded) refl

-- a command to a window's
pub wrote_wctl : (session : Session) (desktop next : Desktop) (tag fid window mode offset : ℕ) (text : List ℕ) → lookup session.fids fid ≡ Some (open_on (own_file window Wctl) mode)
    → writes mode ≡ true → is_some (window_of desktop.table window) ≡ true → commanded desktop window text ≡ Ok next
    → answer_to (desktop_for 1) session desktop None (Twrite tag fid offset text) ≡ Ok (left (session, next) (Rwrite tag (length text)))
unfolding write_answer view_of check_live row
wrote_wctl session desktop next tag fid window mode offset text found opened lives commanded =
    rw (found, opened, lives, and_right (not (eqb window 0)) false refl, commanded) refl

-- an event of the mouse
pub wrote_mousein : (session : Session) (desktop : Desktop) (tag fid root mode offset : ℕ) (text : List ℕ) (e : Pointer) → lookup session.fids fid ≡ Some (open_on (file root Mousein 0) mode)
    → writes mode ≡ true → pointer_of text ≡ Some e
    → answer_to (desktop_for 1) session desktop None (Twrite tag fid offset text) ≡ Ok (left (session, moused desktop e) (Rwrite tag (length text)))
unfolding write_answer view_of check_live row
wrote_mousein session desktop tag fid root mode offset text e found opened told = rw (found, opened, told) refl
