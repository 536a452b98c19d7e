-- Lines tell the events whose lines they are.
use Rattle.std.proofs.Common.{◌≡◌, ℕ, zero, suc, ◌≤◌, List, [], ◌∷◌, length, Option, Some, None, IfSome, IfNone, refl, sym, ap, subst, ◌∙◌, arith}
use Rattle.std.specs.List.{AllByRecursion, flat_map}
use Rattle.std.proofs.lemmas.List.{length-append}
use Rattle.model_history.specs.event.Legal.{Roll, AllowedFrom, no_sessions, roll_after}
use Rattle.model_history.specs.records.Line.{event_line}
use Rattle.model_history.specs.records.Record.{IsRecord}
use Rattle.r9_event.specs.declared.event.event.Event.{Event}
use Rattle.r9_journal.specs.Header.{IsHeaded}
use Rattle.r9_journal.specs.Reading.{IsSmall, cut, event_of}
use Rattle.r9_journal.specs.Rest.{events_by, events_in, AreLinesOf}
use Rattle.r9_journal.proofs.Cuts.{pair_of}
use Rattle.r9_journal.proofs.Headers.{one_header, spelled_headed}
use Rattle.r9_journal.proofs.Texts.{event_again}
use Rattle.r9_journal.proofs.Records.{IsSmallRoll, small_event, small_after, none_small, cut_line, some_line}

events_again : (most : ℕ) (events : List Event) → AllByRecursion IsSmall events → length events ≤ most → events_by most (flat_map event_line events) ≡ events
unfolding events_by
events_again zero [] small short = refl
events_again (suc most) [] small short = refl
events_again zero (e ∷ es) small short = absurd (omega (arith, short))
events_again (suc most) (e ∷ es) small short =
    rw (cut_line e (flat_map event_line es) small.0, event_again e small.0, events_again most es small.1 (omega (arith, short))) refl

few_lines : (events : List Event) → length events ≤ length (flat_map event_line events)
few_lines [] = omega arith
few_lines (e ∷ events) = omega (arith, few_lines events, some_line e, length-append (event_line e) (flat_map event_line events))

pub all_told : (events : List Event) (lines : List ℕ) → AreLinesOf events lines → events_in lines ≡ events
all_told events lines are =
    ap (λ (t : List ℕ). events_in t) are.0 ∙ events_again (length (flat_map event_line events)) events are.1 (few_lines events)

pub told_again : (events : List Event) (lines : List ℕ) → AreLinesOf events lines → AreLinesOf (events_in lines) lines
told_again events lines are = subst (λ (es : List Event). AreLinesOf es lines) (sym (all_told events lines are)) are

small_events : (roll : Roll) (events : List Event) → IsSmallRoll roll → AllowedFrom roll events → AllByRecursion IsSmall events
small_events roll [] small legal = tt
small_events roll (e ∷ events) small legal =
    (small_event roll e small legal.0, small_events (roll_after roll e) events (small_after roll e small legal.0) legal.1)

-- a record is its header and the lines of its events
pub are_lines : (text lines : List ℕ) (n : ℕ) (events : List Event) → IsRecord text events → IsHeaded text n lines → AreLinesOf events lines
are_lines text lines n events is h = (
  (one_header text n 1 _ _ h (spelled_headed text events is.spelled)).2,
  small_events no_sessions events none_small is.legal,
)

-- ---- the first line

pub none_left : (events : List Event) (lines : List ℕ) → AreLinesOf events lines → cut 10 lines ≡ None → events ≡ []
none_left [] lines are none = refl
none_left (e ∷ es) lines are none =
    let found : None ≡ Some _ = sym none ∙ ap (λ (t : List ℕ). cut 10 t) are.0 ∙ cut_line e (flat_map event_line es) are.1.0 in absurd (cc found)

-- the first line tells the first event, and what stands behind it the others
pub record IsFirst (events : List Event) (line behind : List ℕ) : Type 0 where
  pub first : Event
  pub others : List Event
  pub are : events ≡ first ∷ others
  pub told : event_of line ≡ Some first
  pub lines : AreLinesOf others behind

pub first_line : (events : List Event) (lines line behind : List ℕ) → AreLinesOf events lines → cut 10 lines ≡ Some (line, behind) → IsFirst events line behind
first_line [] lines line behind are at =
    let found : None ≡ Some (line, behind) = ap (λ (t : List ℕ). cut 10 t) (sym are.0) ∙ at in absurd (cc found)
first_line (e ∷ es) lines line behind are at =
    let parts = pair_of _ _ (sym at ∙ ap (λ (t : List ℕ). cut 10 t) are.0 ∙ cut_line e (flat_map event_line es) are.1.0) in
    record {
      first = e;
      others = es;
      are = refl;
      told = ap (λ (t : List ℕ). event_of t) parts.0 ∙ event_again e are.1.0;
      lines = (parts.1, are.1.1);
    }

same_event : (x y : Event) → Some x ≡ Some y → x ≡ y
same_event x y e = cc

-- what a line told, by what was found of it
pub popped : (old events : List Event) (lines line behind : List ℕ) (found : Option Event) → old ≡ events → AreLinesOf events lines → cut 10 lines ≡ Some (line, behind)
    → found ≡ event_of line → IfSome found (λ event. old ≡ event ∷ events_in behind)
popped old events lines line behind None same are at told = tt
popped old events lines line behind (Some event) same are at told =
    let first = first_line events lines line behind are at in
    same ∙ first.are ∙ ap (λ (e : Event). e ∷ first.others) (sym (same_event event first.first (told ∙ first.told)))
    ∙ ap (λ (es : List Event). event ∷ es) (sym (all_told first.others behind first.lines))

pub not_popped : (old events : List Event) (lines line behind : List ℕ) (found : Option Event) → AreLinesOf events lines → cut 10 lines ≡ Some (line, behind)
    → found ≡ event_of line → IfNone found (old ≡ [])
not_popped old events lines line behind None are at told =
    let first = first_line events lines line behind are at in
    let none : None ≡ Some first.first = told ∙ first.told in absurd (cc none)
not_popped old events lines line behind (Some event) are at told = tt
