-- Where an event of another session gives no reason, its draw messages look up no name of the session's window.
use Rattle.std.proofs.Common.{◌≡◌, ℕ, ◌==◌, ◌<◌, ◌≤◌, Bool, true, false, List, [], Option, Some, None, Ok, refl, subst}
use Rattle.std.specs.Prelude.{All, not, is_none, ◌&&◌, if◌then◌else◌}
use Rattle.std.proofs.lemmas.List.Elements.{All-weaker}
use Rattle.r9_event.specs.declared.event.own.Use.{Use}
use Rattle.model_text.specs.text.Outcome.{Outcome}
use Rattle.model_rio.specs.window.Pane.{Pane}
use Rattle.model_files.specs.wire.Message.{T, Tattach, Twalk, Topen, Twrite, Tversion, Tauth, Tflush, Tcreate, Tread, Tclunk, Tremove, Tstat, Twstat, no_tag, tag_of_t}
use Rattle.model_files.specs.wire.Reading.{message_of}
use Rattle.model_rio.specs.rio.Table.{Table}
use Rattle.model_draw.specs.draw.World as draw
use Rattle.model_files.specs.declared.tree.Kind.{Kind}
use Rattle.model_files.specs.declared.tree.Kind.TheVariants as kind
use Rattle.model_files.specs.tree.Node.{Node, writes}
use Rattle.model_files.specs.tree.Tree.{check_live}
use Rattle.model_world.specs.Session.{Fid, Session}
use Rattle.model_world.specs.Fids.{fid_of}
use Rattle.model_world.specs.Reading.{is_open_for}
use Rattle.model_world.specs.Answer.{Taking, Reads, is_version, taking}
use Rattle.model_world.specs.Desktop.{Desktop}
use Rattle.model_world.specs.Whole.{client, desktop_for}
use Rattle.model_alone.specs.alone.Own.{Watched, reasons_from}
use Rattle.model_alone.specs.alone.Uses.{bytes_used, file_used, look_used, looked_at, message_used, reached_file, read_used, write_used}
use Rattle.model_alone.specs.alone.Lone.{LoneDesktop}
use Rattle.law_strangers.specs.followed.Devices.{AreNamesFree, IsDeviceLike, LeavesName}
use Rattle.law_strangers.specs.followed.Following.{SameDesktops, named_in}
use Rattle.law_strangers.proofs.private.Reasons.{each_fine, others_message}
use Rattle.law_strangers.proofs.strangers.Strangers.{LeavesNames, LeavesNamesIf}

module _ (c : ℕ) (begin : 0 < c) (Like : Option (ℕ × ℕ) → Option (ℕ × List ℕ) → draw.World → draw.World → Type 0) (Named : draw.World → Table → List (ℕ × Pane) → Type 0) (laws : IsDeviceLike c Like) (names : AreNamesFree Named) (seen : Watched) (d : ℕ) (first : 1 ≤ d) (other : d ≡ c → ⊥) (t : LoneDesktop) where
  file_leaves : (s : Desktop) → SameDesktops Like Named seen.window s t → (node : Node) (bytes : List ℕ) (mark : Option ℕ) (of : Kind) → of ≡ kind.Data → reasons_from false seen (file_used d s node bytes mark of) ≡ []
      → All (LeavesName (named_in s seen.window)) (looked_at (client d node.connection) s.device bytes mark)
  file_leaves s same node bytes mark kind.Data is fine =
      All-weaker (λ m. reasons_from false seen (look_used s.panes m) ≡ []) (LeavesName (named_in s seen.window))
      (λ m quiet. others_message s seen same.order (λ m n p q. names.apart s.device s.table s.panes m n p q same.names) m quiet) (looked_at (client d node.connection) s.device bytes mark)
      (each_fine false seen s.panes (looked_at (client d node.connection) s.device bytes mark) fine)
  file_leaves s same node bytes mark _ is fine = absurd (cc is)

  leaves : (session : Session) (s : Desktop) → SameDesktops Like Named seen.window s t → (after : Session) (table : Table) (mark : Option ℕ) (m : T) → (not (is_version m) && (tag_of_t m == no_tag)) ≡ false → (not (is_version m) && not session.agreed) ≡ false
      → reasons_from false seen (read_used d session s after table mark (Some m)) ≡ [] → LeavesNames c begin Like Named laws names seen.window d first other t session s mark m
  leaves session s same after table mark (Twrite tag fid offset bytes) tagged agreed fine = λ f is opened writing live of.
      file_leaves s same f.node bytes mark f.node.kind of
      (subst (λ (o : Outcome Node). reasons_from false seen (write_used d s bytes mark o) ≡ []) (reach f is opened writing live) (used session.agreed (tag == no_tag) agreed tagged (message_used d session s after table mark (Twrite tag fid offset bytes)) fine))
    where
      used : (a n : Bool) → not a ≡ false → n ≡ false → (xs : List Use) → reasons_from false seen (if a && not n then xs else []) ≡ [] → reasons_from false seen xs ≡ []
      used true false x y xs fine = fine
      used false n x y xs fine = absurd cc
      used true true x y xs fine = absurd cc

      reach : (f : Fid) → fid_of session fid ≡ Ok f → is_none f.mode ≡ false → is_open_for writes f ≡ true → check_live ((desktop_for d).view s session.connections f.node) f.node ≡ Ok tt → reached_file d session s fid ≡ Ok f.node
      reach f is opened writing live = rw (is, opened, writing, live) refl
  leaves session s same after table mark (Tattach tag fid afid uname aname) tagged agreed fine = tt
  leaves session s same after table mark (Twalk tag fid newfid walks) tagged agreed fine = tt
  leaves session s same after table mark (Topen tag fid mode) tagged agreed fine = tt
  leaves session s same after table mark (Tversion tag msize version) tagged agreed fine = tt
  leaves session s same after table mark (Tauth tag afid uname aname) tagged agreed fine = tt
  leaves session s same after table mark (Tflush tag oldtag) tagged agreed fine = tt
  leaves session s same after table mark (Tcreate tag fid name perm mode) tagged agreed fine = tt
  leaves session s same after table mark (Tread tag fid offset count) tagged agreed fine = tt
  leaves session s same after table mark (Tclunk tag fid) tagged agreed fine = tt
  leaves session s same after table mark (Tremove tag fid) tagged agreed fine = tt
  leaves session s same after table mark (Tstat tag fid) tagged agreed fine = tt
  leaves session s same after table mark (Twstat tag fid stat) tagged agreed fine = tt

  pub bytes_leave : (session : Session) (s : Desktop) → SameDesktops Like Named seen.window s t → (after : Session) (table : Table) (bytes : List ℕ) (mark : Option ℕ) → reasons_from false seen (bytes_used d session s after table mark bytes (taking session bytes)) ≡ []
      → taking session bytes ≡ Reads → LeavesNamesIf c begin Like Named laws names seen.window d first other t session s mark (message_of bytes)
  bytes_leave session s same after table bytes mark fine reads = by (message_of bytes) (subst (λ (how : Taking). reasons_from false seen (bytes_used d session s after table mark bytes how) ≡ []) reads fine)
    where
      by : (o : Option T) → reasons_from false seen (read_used d session s after table mark o) ≡ [] → LeavesNamesIf c begin Like Named laws names seen.window d first other t session s mark o
      by None fine = tt
      by (Some m) fine = λ tagged agreed. leaves session s same after table mark m tagged agreed fine
