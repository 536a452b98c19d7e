-- What an event used, from what is seen of it in turn.
use Rattle.std.specs.Prelude.{is_some, find}
use Rattle.std.specs.List.{cons_option, filter_map}
use Rattle.std.proofs.Common.{◌≡◌, ◌⊎◌, inl, inr, ℕ, Bool, true, false, cond, eqb, List, [], ◌∷◌, ◌++◌, Option, Some, None, Result, Ok, Err, IfOk, IfSome, refl, sym, ap, ◌∙◌, arith, append_assoc}
use Rattle.std.proofs.lemmas.Bool.Decides.{nat_tests}
use Rattle.r9_event.specs.declared.event.event.Event.{Event}
use Rattle.r9_event.specs.declared.event.event.Event.TheVariants.{Begin, Msg, Take, End, Stop}
use Rattle.r9_event.specs.declared.event.event.Opening.{Opening}
use Rattle.r9_event.specs.declared.event.event.Reply.{Reply}
use Rattle.r9_event.specs.declared.event.own.Use.{Use}
use Rattle.r9_event.specs.declared.event.own.Use.TheVariants as uses
use Rattle.r9_memory.specs.declared.Memory.{Memory}
use Rattle.r9_event.specs.declared.window.Rio.{Rio}
use Rattle.model_text.specs.text.Map.{lookup, with}
use Rattle.model_rio.specs.rio.Table.{Table, is_host}
use Rattle.model_world.specs.Session.{Session}
use Rattle.model_world.specs.Desktop.{Desktop}
use Rattle.model_world.specs.Replay.{marked, served, settled_after, step, turned}
use Rattle.model_world.specs.World.{World}
use Rattle.model_alone.specs.alone.Uses.{event_used, new_hosts, session_used}
use Rattle.model_alone.specs.used.Look.{used_last}
use Rattle.model_alone.proofs.used.Turns.{seen_in_turn}
use Rattle.r9_files.specs.around.Words.{mark_after}
use Rattle.r9_desktop.specs.World.{desktop_of}
use Rattle.r9_hall.specs.seen.View.{hosts_of, look_of}
use Rattle.r9_hall.specs.hall.Settling.{world_of, IsSettled}
use Rattle.r9_hall.specs.hall.StateView.{IsMade, IsServed, world_with}
use Rattle.r9_hall.specs.hall.Watching.{IsSeenOf}
use Rattle.r9_hall.specs.declared.hall.sessions.Made.{Made}
use Rattle.r9_hall.specs.declared.hall.sessions.Own.{Own}
use Rattle.r9_hall.specs.declared.hall.sessions.Sessions.{Sessions}
use Rattle.r9_hall.specs.declared.hall.watching.Sight.{Sight}

-- ---- no message of a session that lives

same : (n : ℕ) → eqb n n ≡ true
same n = grind (arith, nat_tests)

-- a rio is among others
among : (rio : Rio) (xs ys : List Rio) → is_some (find (λ (r : Rio). eqb r.host rio.host) (xs ++ rio ∷ ys)) ≡ true
among rio [] ys = by (eqb rio.host rio.host) (same rio.host)
  where
    by : (b : Bool) → b ≡ true → is_some (cond b (Some rio) (find (λ (r : Rio). eqb r.host rio.host) ys)) ≡ true
    by true e = refl
    by false e = absurd (cc e)
among rio (x ∷ xs) ys = by (eqb x.host rio.host) (among rio xs ys)
  where
    by : (b : Bool) → is_some (find (λ (r : Rio). eqb r.host rio.host) (xs ++ rio ∷ ys)) ≡ true → is_some (cond b (Some x) (find (λ (r : Rio). eqb r.host rio.host) (xs ++ rio ∷ ys))) ≡ true
    by true there = refl
    by false there = there

new_among : (table : Table) (xs ys : List Rio) → table.rios ≡ xs ++ ys → filter_map (λ (rio : Rio). cond (is_host table rio.host) None (Some (uses.Host rio.host))) ys ≡ []
new_among table xs [] split = refl
new_among table xs (rio ∷ ys) split =
    let known : is_host table rio.host ≡ true =
    ap (λ (rios : List Rio). is_some (find (λ (r : Rio). eqb r.host rio.host) (table.root ∷ rios))) split ∙ among rio (table.root ∷ xs) ys in
    by (is_host table rio.host) known (new_among table (xs ++ rio ∷ []) ys (split ∙ sym (append_assoc xs (rio ∷ []) ys)))
  where
    others : List Use
    others = filter_map (λ (r : Rio). cond (is_host table r.host) None (Some (uses.Host r.host))) ys

    by : (b : Bool) → b ≡ true → others ≡ [] → cons_option (cond b None (Some (uses.Host rio.host))) others ≡ []
    by true e later = later
    by false e later = absurd (cc e)

none_new : (table : Table) → new_hosts table table ≡ []
none_new table = new_among table [] table.rios refl

pub absent_used : (world next : World) (c : ℕ) (found : Option Session) (bytes : List ℕ) (mark : Option ℕ) → lookup world.sessions c ≡ found → found ≡ None → next.desktop.table ≡ world.desktop.table
    → [] ≡ event_used world next (marked (Msg c bytes mark) None)
unfolding event_used
absent_used world next c found bytes mark at none same =
    sym (none_new world.desktop.table) ∙ (λ i. new_hosts world.desktop.table (sym same i))
    ∙ ap (λ (o : Option Session). session_used c world next bytes mark o ++ new_hosts world.desktop.table next.desktop.table) (sym (at ∙ none))

pub unserved_used : (opening : Opening) (before after : Sessions) (c : ℕ) (found : Option Session) (bytes : List ℕ) (mark : Option ℕ) → lookup before.live.entries c ≡ found
    → IsServed c found before.live.entries (desktop_of before.desktop) bytes mark None after.live.entries (desktop_of after.desktop)
    → [] ≡ event_used (world_with opening before) (world_with opening after) (marked (Msg c bytes mark) None)
unserved_used opening before after c None bytes mark at served = absent_used (world_with opening before) (world_with opening after) c None bytes mark at refl (ap (λ (d : Desktop). d.table) served.1)
unserved_used opening before after c (Some session) bytes mark at served = absurd served

-- ---- a message of a session that lives

marked_as : (c : ℕ) (bytes : List ℕ) (mark short : Option ℕ) → marked (Msg c bytes mark) short ≡ Msg c bytes (mark_after mark short)
marked_as c bytes mark None = refl
marked_as c bytes mark (Some k) = refl

pub served_used : (world next : World) (c : ℕ) (found : Option Session) (bytes : List ℕ) (mark : Option ℕ) (own : Own) (sight : Option Sight) (after : List (ℕ × Session)) (rest : Desktop) (used : List Use) → lookup world.sessions c ≡ found
    → IsServed c found world.sessions world.desktop bytes mark (Some own) after rest → IsSeenOf c found world.desktop bytes mark (Some own) sight
    → IfSome sight (λ s. (table : Table) → s.hosts.items ≡ hosts_of table → used ≡ s.uses ++ used_last (lookup next.sessions c) next.desktop.table (look_of s.look) ++ new_hosts table next.desktop.table)
    → used ≡ event_used world next (marked (Msg c bytes mark) own.short)
unfolding event_used
served_used world next c None bytes mark own sight after rest used at served seen is = absurd served
served_used world next c (Some session) bytes mark own None after rest used at served seen is = absurd seen
served_used world next c (Some session) bytes mark own (Some sight) after rest used at served seen is =
    let hosts = new_hosts world.desktop.table next.desktop.table in
    is world.desktop.table seen.hosts_are
    ∙ (λ i. seen.uses_are i ++ used_last (lookup next.sessions c) next.desktop.table (seen.look_is i) ++ hosts)
    ∙ ap (λ (l : List Use). l ++ hosts) (sym (seen_in_turn c world next bytes (mark_after mark own.short) session))
    ∙ ap (λ (o : Option Session). session_used c world next bytes (mark_after mark own.short) o ++ hosts) (sym at)
    ∙ ap (λ (e : Event). event_used world next e) (sym (marked_as c bytes mark own.short))

pub served_made : (opening : Opening) (before mid after : Sessions) (c : ℕ) (found : Option Session) (bytes : List ℕ) (mark : Option ℕ) (own : Own) (replies : List Reply) (used : List Use)
    → lookup before.live.entries c ≡ found → IsServed c found before.live.entries (desktop_of before.desktop) bytes mark (Some own) mid.live.entries (desktop_of mid.desktop)
    → IsSettled (world_with opening mid) own.replies (world_with opening after) replies
    → IsMade opening before (marked (Msg c bytes mark) own.short) (record { replies = replies; uses = used; short = own.short; closed = own.closed }) after
served_made opening before mid after c None bytes mark own replies used at gives settled = absurd gives
served_made opening before mid after c (Some session) bytes mark own replies used at gives settled =
    let gave = gives.2 in
    record {
      step_is = ap (λ (e : Event). step (world_with opening before) e) (marked_as c bytes mark own.short)
          ∙ ap (λ (o : Option Session). served (world_with opening before) c bytes (mark_after mark own.short) o) at
          ∙ (λ i. settled_after (world_of opening (sym (gives.1 ∙ ap (λ (s : Session). with before.live.entries c s) gave.session_is) i) (sym gave.left_is i)) (sym gave.replies_are i) (sym gave.closed_is i))
          ∙ (λ i. turned (sym settled.world i) (sym settled.replies_are i) own.closed);
    }

-- ---- other events

pub begun_used : (world next : World) (c : ℕ) (short : Option ℕ) → event_used world next (marked (Begin c) short) ≡ []
unfolding event_used
begun_used world next c None = refl
begun_used world next c (Some k) = refl

pub took_used : (world next : World) (c : ℕ) (short : Option ℕ) → event_used world next (marked (Take c) short) ≡ []
unfolding event_used
took_used world next c None = refl
took_used world next c (Some k) = refl

pub stopped_used : (world next : World) (short : Option ℕ) → event_used world next (marked Stop short) ≡ []
unfolding event_used
stopped_used world next None = refl
stopped_used world next (Some k) = refl

pub ended_used : (world next : World) (c : ℕ) (short : Option ℕ) → event_used world next (marked (End c) short) ≡ []
unfolding event_used
ended_used world next c None = refl
ended_used world next c (Some k) = refl

-- what is silent is one of these
pub silent_used : (before after : Sessions) (event : Event) (used : List Use) (short : Option ℕ) → ((c : ℕ) × (event ≡ Take c)) ⊎ (event ≡ Stop) → used ≡ [] → (opening : Opening)
    → used ≡ event_used (world_with opening before) (world_with opening after) (marked event short)
silent_used before after event used short (inl took) none opening =
    none ∙ sym (took_used (world_with opening before) (world_with opening after) took.0 short) ∙ (λ i. event_used (world_with opening before) (world_with opening after) (marked (sym took.1 i) short))
silent_used before after event used short (inr stops) none opening =
    none ∙ sym (stopped_used (world_with opening before) (world_with opening after) short) ∙ (λ i. event_used (world_with opening before) (world_with opening after) (marked (sym stops i) short))

pub unused_made : (before after : Sessions) (event same : Event) (result : Result Made Memory) → event ≡ same → ((world next : World) (short : Option ℕ) → event_used world next (marked same short) ≡ [])
    → IfOk result (λ made. made.uses ≡ []) → IfOk result (λ made. (opening : Opening) → made.uses ≡ event_used (world_with opening before) (world_with opening after) (marked event made.short))
unused_made before after event same (Err e) is none unused = tt
unused_made before after event same (Ok made) is none unused = λ opening.
    unused ∙ sym (none (world_with opening before) (world_with opening after) made.short) ∙ (λ i. event_used (world_with opening before) (world_with opening after) (marked (sym is i) made.short))

-- ---- what windows were told is taken

told_used : (world next : World) (event : Event) → event_used world next event ≡ event_used world (record next { desktop = record next.desktop { notes = []; cost = 0 } }) event
unfolding event_used
told_used world next (Begin c) = refl
told_used world next (Msg c bytes mark) = refl
told_used world next (Take c) = refl
told_used world next (End c) = refl
told_used world next Stop = refl

pub turn_used : (opening : Opening) (before kept after : Sessions) (event : Event) (used made : List Use) → used ≡ made → made ≡ event_used (world_with opening before) (world_with opening kept) event
    → desktop_of after.desktop ≡ record (desktop_of kept.desktop) { notes = []; cost = 0 } → after.live.entries ≡ kept.live.entries
    → used ≡ event_used (world_with opening before) (world_with opening after) event
turn_used opening before kept after event used made is was left live =
    is ∙ was ∙ told_used (world_with opening before) (world_with opening kept) event ∙ (λ i. event_used (world_with opening before) (world_of opening (sym live i) (sym left i)) event)
