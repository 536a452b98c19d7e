-- A message of the session itself that gives no reason, where it has its window or has not asked for one.
use Rattle.std.proofs.Common.{◌≡◌, ℕ, ◌==◌, ◌<◌, true, false, List, [], Option, Some, None, Ok, refl, subst}
use Rattle.std.specs.Prelude.{IsTrue, not, ◌&&◌}
use Rattle.std.specs.Option.{option_map_or}
use Rattle.model_text.specs.text.Outcome.{Outcome}
use Rattle.model_rio.specs.window.Pane.{Pane}
use Rattle.model_files.specs.wire.Message.{T, Tattach, Twalk, Topen, Twrite, Tversion, Tauth, Tflush, Tcreate, Tread, Tclunk, Tremove, Tstat, Twstat, no_tag, tag_of_t}
use Rattle.model_files.specs.wire.Reading.{message_of}
use Rattle.model_rio.specs.rio.Table.{Table}
use Rattle.model_draw.specs.draw.World as draw
use Rattle.model_files.specs.declared.tree.Kind.{Kind}
use Rattle.model_files.specs.declared.tree.Kind.TheVariants as kind
use Rattle.model_world.specs.Session.{Fid, Session}
use Rattle.model_world.specs.Fids.{Left, fid_of}
use Rattle.model_world.specs.Walking.{open_answer}
use Rattle.model_world.specs.Answer.{Reads, answer, is_version, taking}
use Rattle.model_world.specs.Desktop.{Desktop}
use Rattle.model_world.specs.Whole.{desktop_for}
use Rattle.law_likeness.specs.agreement.Agreement.{IsPrivateIf, SameLeft, is_own, is_plain}
use Rattle.law_likeness.proofs.agreement.Sessions.{answer_alike}
use Rattle.model_alone.specs.alone.Own.{Watched, reasons_from}
use Rattle.model_alone.specs.alone.Uses.{if_bound, if_done, open_used}
use Rattle.model_alone.specs.alone.Lone.{LoneDesktop, lone_desktop}
use Rattle.law_strangers.specs.followed.Devices.{AreNamesFree, IsDeviceLike}
use Rattle.law_strangers.specs.followed.Following.{HasConnection, HasWindow, May, SameAtFirst, SameDesktops, SameOnceTold}
use Rattle.law_strangers.proofs.followed.Answers.{alike}
use Rattle.law_strangers.proofs.private.Privacy.{AllMine, IsFine, IsNoFreshAttach, IsToldMark, bound_is, message_private, walk_private}
use Rattle.law_strangers.proofs.private.Walks.{is_inside}
use Rattle.law_strangers.proofs.private.Keeping.{Asks, AsksIf, KeepsMine, answer_keeps, bound_mine, keeps_itself}

-- a file of the session's own, where its open gives no reason
opens_own : (seen : Watched) (of : Kind) → IsTrue (is_inside of) → IsTrue (is_plain of) → reasons_from true seen (open_used of) ≡ [] → IsTrue (is_own of)
opens_own seen kind.Device inside plain fine = absurd cc
opens_own seen kind.Wsys inside plain fine = absurd cc
opens_own seen kind.Listed inside plain fine = absurd cc
opens_own seen kind.Screen inside plain fine = absurd cc
opens_own seen kind.Snarf inside plain fine = absurd cc
opens_own seen kind.Mousein inside plain fine = absurd cc
opens_own seen kind.Kbdin inside plain fine = absurd cc
opens_own seen kind.DeviceWctl inside plain fine = absurd cc
opens_own seen kind.Hwsize inside plain fine = absurd cc
opens_own seen _ inside plain fine = refl

module _ (c : ℕ) (begin : 0 < c) (Like : Option (ℕ × ℕ) → Option (ℕ × List ℕ) → draw.World → draw.World → Type 0) (Named : draw.World → Table → List (ℕ × Pane) → Type 0) (laws : IsDeviceLike c Like) (names : AreNamesFree Named) (seen : Watched) where
  abbrev First : Desktop → LoneDesktop → Type 0
  First s t = SameAtFirst Like Named seen.window s t

  abbrev Told : Desktop → LoneDesktop → Type 0
  Told s t = SameOnceTold Like Named seen.window s t

  -- what is known of a message of the session: it gives no reason, its mark is told where it took effect, and it is no attach that
  -- is looked at
  pub record IsQuiet (session : Session) (s : Desktop) (after : Session) (table : Table) (mark told : Option ℕ) (m : T) : Type 0 where
    pub fine : IsFine c begin Like Named laws names seen session s after table mark m
    pub marked : IsToldMark c begin Like Named laws names seen session s mark told m
    pub fresh : IsNoFreshAttach c begin Like Named laws names seen session m

  all_mine : (session : Session) → KeepsMine seen.window session → AllMine c begin Like Named laws names seen session
  all_mine session keeps number fid is = (bound_mine lone_desktop seen.window session keeps number fid is).node

  open_asks : (session : Session) (s : Desktop) (tag number mode : ℕ) → KeepsMine seen.window session
      → reasons_from true seen (if_done (open_answer (desktop_for c) session s tag number mode) (if_bound session number (λ f. open_used f.node.kind))) ≡ []
      → (next : Left Desktop) → open_answer (desktop_for c) session s tag number mode ≡ Ok next → (f : Fid) → fid_of session number ≡ Ok f → IsTrue (is_own f.node.kind)
  open_asks session s tag number mode keeps fine next done f is =
      let mine = all_mine session keeps number f is in
      let bound = bound_is c begin Like Named laws names seen session number f is in
      let one : reasons_from true seen (if_bound session number (λ f. open_used f.node.kind)) ≡ [] = subst (λ (o : Outcome (Left Desktop)). reasons_from true seen (if_done o (if_bound session number (λ f. open_used f.node.kind))) ≡ []) done fine in
      opens_own seen f.node.kind mine.inside mine.plain.kind (subst (λ (o : Option Fid). reasons_from true seen (option_map_or (λ (g : Fid). open_used g.node.kind) o []) ≡ []) bound one)

  own_asks : (session : Session) (s : Desktop) (t : LoneDesktop) (after : Session) (table : Table) (mark told : Option ℕ) (m : T) → SameDesktops Like Named seen.window s t → KeepsMine seen.window session
      → IsQuiet session s after table mark told m → Asks (desktop_for c) seen.window session s m
  own_asks session s t after table mark told (Tattach tag fid afid uname aname) same keeps quiet = quiet.fresh
  own_asks session s t after table mark told (Twalk tag fid newfid walks) same keeps quiet = λ from is closed free room.
      walk_private c begin Like Named laws names seen session s t same keeps.connections (all_mine session keeps) tag fid newfid walks from is closed free room quiet.fine
  own_asks session s t after table mark told (Topen tag fid mode) same keeps quiet = open_asks session s tag fid mode keeps quiet.fine
  own_asks session s t after table mark told (Twrite tag fid offset bytes) same keeps quiet = tt
  own_asks session s t after table mark told (Tversion tag msize version) same keeps quiet = tt
  own_asks session s t after table mark told (Tauth tag afid uname aname) same keeps quiet = tt
  own_asks session s t after table mark told (Tflush tag oldtag) same keeps quiet = tt
  own_asks session s t after table mark told (Tcreate tag fid name perm mode) same keeps quiet = tt
  own_asks session s t after table mark told (Tread tag fid offset count) same keeps quiet = tt
  own_asks session s t after table mark told (Tclunk tag fid) same keeps quiet = tt
  own_asks session s t after table mark told (Tremove tag fid) same keeps quiet = tt
  own_asks session s t after table mark told (Tstat tag fid) same keeps quiet = tt
  own_asks session s t after table mark told (Twstat tag fid stat) same keeps quiet = tt

  -- what is known of bytes that the session reads
  abbrev pub AreQuiet : Session → Desktop → (after : Session) → Table → (mark told : Option ℕ) → Option T → Type 0
  AreQuiet session s after table mark told None = Unit {0}
  AreQuiet session s after table mark told (Some m) =
      (not (is_version m) && (tag_of_t m == no_tag)) ≡ false → (not (is_version m) && not session.agreed) ≡ false → IsQuiet session s after table mark told m

  if_private : (session : Session) (s : Desktop) (t : LoneDesktop) (after : Session) (table : Table) (mark told : Option ℕ) (m : Option T) → SameDesktops Like Named seen.window s t → KeepsMine seen.window session
      → AreQuiet session s after table mark told m → IsPrivateIf (desktop_for c) (HasWindow seen.window) HasConnection (May c seen.window) session s mark told m
  if_private session s t after table mark told None same keeps quiet = tt
  if_private session s t after table mark told (Some m) same keeps quiet = λ tagged agreed.
      (let is = quiet tagged agreed in message_private c begin Like Named laws names seen session s t after table mark told m same keeps.connections (all_mine session keeps) is.fine is.marked is.fresh)

  if_asks : (session : Session) (s : Desktop) (t : LoneDesktop) (after : Session) (table : Table) (mark told : Option ℕ) (m : Option T) → SameDesktops Like Named seen.window s t → KeepsMine seen.window session
      → AreQuiet session s after table mark told m → AsksIf (desktop_for c) seen.window session s m
  if_asks session s t after table mark told None same keeps quiet = tt
  if_asks session s t after table mark told (Some m) same keeps quiet = λ tagged agreed. own_asks session s t after table mark told m same keeps (quiet tagged agreed)

  -- The session is answered alike, and then has only what is its own.
  pub own_message_alike : (session : Session) (s : Desktop) (t : LoneDesktop) (bytes : List ℕ) (after : Session) (table : Table) (mark told : Option ℕ) → First s t → KeepsMine seen.window session
      → (taking session bytes ≡ Reads → AreQuiet session s after table mark told (message_of bytes))
      → SameLeft Told (answer (desktop_for c) session s bytes mark) (answer lone_desktop session t bytes told) × KeepsMine seen.window (answer (desktop_for c) session s bytes mark).session
  own_message_alike session s t bytes after table mark told is keeps quiet = (
    answer_alike (desktop_for c) lone_desktop First Told (HasWindow seen.window) HasConnection (May c seen.window) (alike c begin Like Named laws names seen.window) session s t bytes mark told is
        (keeps_itself seen.window session keeps) (λ reads. if_private session s t after table mark told (message_of bytes) is.same keeps (quiet reads)),
    answer_keeps (desktop_for c) seen.window session s bytes mark keeps (λ reads. if_asks session s t after table mark told (message_of bytes) is.same keeps (quiet reads)),
  )
