-- What is said for one after the other.
use Rattle.std.proofs.Common.{◌≡◌, ◌∙◌, ◌≤◌, ◌<◌, ◌+◌, ℕ, suc, List, [], ◌∷◌, ◌++◌, length, map, drop, get_or, sym, subst, arith, drop-cons}
use Rattle.std.specs.List.{flat_map}
use Rattle.std.proofs.lemmas.List.{drop_all, map-append}
use Rattle.std.proofs.lemmas.Simd.{map-map}
use Rattle.model_files.specs.wire.Message.{T}
use Rattle.model_files.specs.declared.mouse.Mouse.{Mouse}
use Rattle.model_client.specs.desk.Table.{Desk, start}
use Rattle.model_client.specs.desk.Pilot.{after, written}
use Rattle.law_desk.specs.piloted.Following.{IsEvent}
use Rattle.model_clients.specs.piloted.History.{Write, writes}
use Rattle.law_desk.specs.ready.Ready.{IsReady}
use Rattle.law_desk.proofs.ready.Kept.{ready_after, starts}
use Rattle.law_desk.specs.steered.Steered.{write_of}
use Rattle.law_menus.specs.menus.Writes.{bands_after, writes_for, writes_from}
use Rattle.r9_clients.specs.saying.Lines.{IsSaid}
use Rattle.r9_clients.proofs.saying.Said.{said_more, said_nothing}
use Rattle.r9_clients.specs.pointing.Said.{said_for_all}

-- ---- each of a list

-- What was said so far, and then what is said for the rest, is what is said for all.
abbrev pub SaysRest : {X : Type 0} → (X → T) → (all : List X) (index : ℕ) (before out : List ℕ) → Type 0
SaysRest says all index before out = (after : List ℕ) → IsSaid out after (map says (drop index all)) → IsSaid before after (map says all)

pub one_more : {X : Type 0} (says : X → T) (all : List X) (index : ℕ) (x : X) (before out next : List ℕ) → index < length all → x ≡ get_or all index x
    → SaysRest says all index before out → IsSaid out next (says x ∷ []) → SaysRest says all (index + 1) before next
one_more says all index x before out next within is rest said after more =
    let step : index + 1 ≡ suc index = omega arith in
    let cut : drop index all ≡ x ∷ drop (index + 1) all = drop-cons all index x within ∙ (λ i. sym is i ∷ drop (sym step i) all) in
    rest after (subst (λ (xs : List _). IsSaid out after (map says xs)) (sym cut) (said_more (says x ∷ []) (map says (drop (index + 1) all)) out next after said more))

pub all_said : {X : Type 0} (says : X → T) (all : List X) (index : ℕ) (before out : List ℕ) → length all ≤ index → SaysRest says all index before out → IsSaid before out (map says all)
all_said says all index before out end rest = rest out (subst (λ (xs : List _). IsSaid out out (map says xs)) (sym (drop_all index all end)) (said_nothing out))

-- ---- events

said-append : (first : List Write) (more : List (List Write)) → map writes (flat_map (λ some. some) (first ∷ more)) ≡ map writes first ++ map writes (flat_map (λ some. some) more)
said-append first more = map-append writes first (flat_map (λ some. some) more)

pub event_said : (d : Desk) (e : Mouse) (before between out : List ℕ) → IsSaid before between (map (λ text. writes (write_of text)) (written d e))
    → IsSaid between out (map writes (bands_after d.mode (after d e).mode)) → IsSaid before out (map writes (writes_for d e))
unfolding writes_for
event_said d e before between out texts menu =
    let split : map writes (map write_of (written d e) ++ bands_after d.mode (after d e).mode) ≡ map writes (map write_of (written d e)) ++ map writes (bands_after d.mode (after d e).mode) =
    map-append writes (map write_of (written d e)) (bands_after d.mode (after d e).mode)
    in
    let joined : map writes (map write_of (written d e)) ≡ map (λ text. writes (write_of text)) (written d e) = map-map writes write_of (written d e) in
    subst (IsSaid before out) (sym split)
    (said_more (map writes (map write_of (written d e))) (map writes (bands_after d.mode (after d e).mode)) before between out (subst (IsSaid before between) (sym joined) texts) menu)

-- The table after so many events, and what was said for them: where what is said for the rest follows, all is said.
pub record IsSoFar (events : List Mouse) (index : ℕ) (before out : List ℕ) (d : Desk) : Type 0 where
  pub ready : IsReady index d
  pub goes_on : (after : List ℕ) → IsSaid out after (said_for_all d (drop index events)) → IsSaid before after (said_for_all start events)

pub begins : (events : List Mouse) (before : List ℕ) → IsSoFar events 0 before before start
begins events before = record { ready = starts; goes_on = λ after said. said }

pub goes : (events : List Mouse) (index : ℕ) (none : Mouse) (before out next : List ℕ) (d : Desk) → index < length events → IsEvent (get_or events index none) → IsSoFar events index before out d
    → IsSaid out next (map writes (writes_for d (get_or events index none))) → IsSoFar events (index + 1) before next (after d (get_or events index none))
goes events index none before out next d within event so_far said =
    let e = get_or events index none in
    let step : index + 1 ≡ suc index = omega arith in
    let rest : List Mouse = drop (index + 1) events in
    let cut : drop index events ≡ e ∷ rest = drop-cons events index none within ∙ (λ i. e ∷ drop (sym step i) events) in
    record {
      ready = ready_after index d e so_far.ready event;
      goes_on = λ then_ more. so_far.goes_on then_
          (subst (λ (es : List Mouse). IsSaid out then_ (said_for_all d es)) (sym cut)
          (subst (IsSaid out then_) (sym (said-append (writes_for d e) (writes_from (after d e) rest)))
          (said_more (map writes (writes_for d e)) (said_for_all (after d e) rest) out next then_ said more)));
    }

pub ends : (events : List Mouse) (index : ℕ) (before out : List ℕ) (d : Desk) → length events ≤ index → IsSoFar events index before out d → IsSaid before out (said_for_all start events)
ends events index before out d end so_far =
    so_far.goes_on out (subst (λ (es : List Mouse). IsSaid out out (said_for_all d es)) (sym (drop_all index events end)) (said_nothing out))
