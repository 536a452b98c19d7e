-- A session's fids, what a message leaves, and what goes with a fid (intro(5), clunk(5)).
use Rattle.std.specs.Prelude.{ℕ, ◌==◌, ◌&&◌, ◌||◌, Bool, false, not, is_some, nat_le, nat_lt, List, [], ◌∷◌, length, filter, map, Option, Some, None, Ok, Err, if◌then◌else◌}
use Rattle.std.specs.List.{fold, list_any}
use Rattle.model_text.specs.text.Outcome.{Outcome, value_or_refuse}
use Rattle.model_text.specs.text.Map.{lookup, with, and, without}
use Rattle.model_files.specs.wire.Message.{R, no_fid}
use Rattle.model_files.specs.declared.tree.Kind.{Kind}
use Rattle.model_files.specs.declared.tree.Kind.TheVariants.{Ctl, Data, Refresh, Consctl, Mouse}
use Rattle.model_rio.specs.window.Heard.{MouseHeld, ConsctlHeld}
use Rattle.model_files.specs.tree.Node.{Node, row}
use Rattle.model_world.specs.Session.{Fid, Session}
use Rattle.model_world.specs.Outside.{Outside}

-- what a message that stays within its session leaves of it, and the reply
pub record Done : Type 0 where
  pub session : Session
  pub reply : R

abbrev pub done : Session → R → Done
done session reply = record { session = session; reply = reply }

-- what a message leaves of its session and of the outside, and the reply, if it has one now
pub record Left (S : Type 0) : Type 0 where
  pub session : Session
  pub rest : S
  pub reply : Option R

abbrev pub left : {S : Type 0} → Session × S → R → Left S
left after reply = record { session = after.0; rest = after.1; reply = Some reply }

-- what is left by a message that has no reply, or none yet
abbrev pub unanswered : {S : Type 0} → Session × S → Left S
unanswered after = record { session = after.0; rest = after.1; reply = None }

-- nothing outside has changed
abbrev pub beside : {S : Type 0} → S → Outcome Done → Outcome (Left S)
beside rest (Ok d) = Ok (record { session = d.session; rest = rest; reply = Some d.reply })
beside rest (Err n) = Err n

-- 32 where there is no such fid
abbrev pub fid_of : Session → ℕ → Outcome Fid
fid_of session n = value_or_refuse (lookup session.fids n) 32

-- a fid that is bound stands for another file, or is open
abbrev pub with_fid : Session → ℕ → Fid → Session
with_fid session n fid = record session { fids = with session.fids n fid }

-- a fid more
abbrev pub and_fid : Session → ℕ → Fid → Session
and_fid session n fid = record session { fids = and session.fids n fid }

abbrev pub is_bound : Session → ℕ → Bool
is_bound session n = (n == no_fid) || is_some (lookup session.fids n)

-- 1,024 fids are bound
abbrev pub is_full : Session → Bool
is_full session = nat_le 1024 (length session.fids)

-- ---- connections, which live while a fid is open on one of their files

abbrev pub is_kind : Kind → Kind → Bool
is_kind a b = (row a).number == (row b).number

-- it is open, and its file is of this kind
abbrev pub is_open_on : Kind → Fid → Bool
is_open_on kind fid = is_some fid.mode && is_kind kind fid.node.kind

-- it keeps a connection alive
abbrev pub keeps : ℕ → Fid → Bool
keeps connection fid =
    (fid.node.connection == connection) && (is_open_on Ctl fid || is_open_on Data fid || is_open_on Refresh fid)

-- some fid keeps the connection alive
abbrev pub is_kept : Session → ℕ → Bool
is_kept session connection = list_any (λ entry. keeps connection entry.1) session.fids

-- the connections that no fid keeps alive any more end, in ascending order
unfoldable pub settled : {S : Type 0} → Outside S → Session → S → Session × S
settled outside session rest = (
  record session { connections = filter (is_kept session) session.connections },
  fold outside.leave rest (filter (λ n. not (is_kept session n)) session.connections),
)

-- ---- windows, which live while an attach that named them has a fid

-- a number in an ascending list, once
abbrev pub put : ℕ → List ℕ → List ℕ
put n [] = n ∷ []
put n (m ∷ ms) = if n == m then m ∷ ms else if nat_lt n m then n ∷ m ∷ ms else m ∷ put n ms

-- some fid of the session has a window as the root of its attach
abbrev pub has_root : Session → (window : ℕ) → Bool
has_root session window = list_any (λ entry. entry.1.node.root == window) session.fids

-- the windows at the roots of these fids, in ascending serial, but for those that the session still has
abbrev pub left_by : Session → (gone : List Fid) → List ℕ
left_by session gone =
    filter (λ window. not (window == 0) && not (has_root session window))
    (fold (λ windows (fid : Fid). put fid.node.root windows) [] gone)

-- ---- the files of a window that one fid at a time has open

-- a fid has such a file open from now on, or has it open no more
abbrev pub with_held : {S : Type 0} → Outside S → (held : Bool) → S → Node → S
with_held outside held rest node =
    if is_kind Mouse node.kind then outside.hear rest node.serial (MouseHeld held)
    else if is_kind Consctl node.kind then outside.hear rest node.serial (ConsctlHeld held)
    else rest

-- a fid goes, which may be open
abbrev pub let_go : {S : Type 0} → Outside S → S → Fid → S
let_go outside rest fid = if is_some fid.mode then with_held outside false rest fid.node else rest

-- What goes with fids that have gone from a session: the connections that they alone kept alive, then what they had open for
-- themselves, and with it raw mode, and then the session's use of the windows at their roots.
unfoldable pub fids_gone : {S : Type 0} → Outside S → Session → S → (gone : List Fid) → Session × S
fids_gone outside session rest gone =
    let ended = settled outside session rest in
    (ended.0, outside.left (fold (let_go outside) ended.1 gone) (left_by ended.0 gone))

-- a fid goes
abbrev pub clunked : {S : Type 0} → Outside S → Session → S → ℕ → Fid → Session × S
clunked outside session rest n fid =
    fids_gone outside (record session { fids = without session.fids n }) rest (fid ∷ [])

-- all fids go, and with them all connections; the reads that wait go without a reply
abbrev pub cleared : {S : Type 0} → Outside S → Session → S → Session × S
cleared outside session rest =
    fids_gone outside (record session { fids = []; waiting = [] }) rest (map (λ entry. entry.1) session.fids)
