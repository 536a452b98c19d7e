-- A session that does not live gets no reply, and what another session's event shows of it.
use Rattle.std.proofs.Common.{◌≡◌, ◌≢◌, ◌∙◌, ℕ, zero, suc, ◌==◌, Bool, true, false, List, [], ◌∷◌, ◌++◌, fold, Option, Some, None, refl, sym, ap, ◌<◌, ◌≤◌, arith}
use Rattle.std.specs.Prelude.{Contains, IfSome, ◌||◌, not, if◌then◌else◌}
use Rattle.std.specs.List.{cons_option}
use Rattle.std.specs.Option.{option_map_or}
use Rattle.std.proofs.lemmas.Bool.{eqb-false}
use Rattle.std.proofs.lemmas.List.Elements.{All-contains}
use Rattle.r9_event.specs.declared.event.event.Event.{Event}
use Rattle.r9_event.specs.declared.event.event.Event.TheVariants.{Begin, Msg, Take, End, Stop}
use Rattle.r9_event.specs.declared.event.event.Reply.{Reply}
use Rattle.r9_event.specs.declared.event.own.Item.TheVariants.{Noted}
use Rattle.r9_event.specs.declared.event.own.Use.{Use}
use Rattle.r9_event.specs.declared.event.rio.Note.{Note}
use Rattle.model_text.specs.text.Map.{lookup, without}
use Rattle.model_text.proofs.map.Ascending.{ascend-with, ascend-without}
use Rattle.model_text.proofs.map.Keys.{not_key}
use Rattle.model_text.proofs.map.Maps.{and-others, with-others, without-others}
use Rattle.model_history.specs.event.Legal.{AllowedTo, Roll, roll_after}
use Rattle.model_rio.specs.rio.Notes.{is_told}
use Rattle.model_world.specs.Session.{Session, fresh}
use Rattle.model_world.specs.Fids.{cleared}
use Rattle.model_world.specs.Answer.{answer}
use Rattle.model_world.specs.Whole.{desktop_for}
use Rattle.model_world.specs.World.{World}
use Rattle.model_world.specs.Standing.{AreInOrder}
use Rattle.model_world.specs.Replay.{and_replies, ended, first_answered, reply_to, served, settled, settled_within, step, waiting_in, with_left}
use Rattle.model_world.proofs.Settling.{all_in, first_gives}
use Rattle.law_shown.proofs.fitting.Lists.{Each, all_of, each_append, each_filter}
use Rattle.model_alone.specs.alone.Isolated.{replies_to}
use Rattle.model_alone.specs.alone.Own.{Watched, after_use, is_by, judged, judged_by, noted, told}
use Rattle.model_alone.specs.alone.Uses.{event_used}
use Rattle.model_alone.proofs.alone.Histories.{replies-append}
use Rattle.law_strangers.proofs.isolation.Settling.{others-reply}

-- ---- replies

module _ (c : ℕ) where
  -- a session that lives is another
  lives_other : (world : World) (d : ℕ) (session : Session) → lookup world.sessions c ≡ None → lookup world.sessions d ≡ Some session → d ≢ c
  lives_other world d session none at same = absurd (let two : ◌≡◌ {A = Option Session} None (Some session) = sym none ∙ ap (lookup world.sessions) (sym same) ∙ at in cc)

  IsSilentNext : World × List Reply → Type 0
  IsSilentNext next = (replies_to c next.1 ≡ []) × (lookup next.0.sessions c ≡ None) × AreInOrder next.0

  pub absent_within : (most : ℕ) (world : World) → AreInOrder world → lookup world.sessions c ≡ None → (replies_to c (settled_within most world).1 ≡ []) × (lookup (settled_within most world).0.sessions c ≡ None)
  unfolding settled_within IsSilentNext
  absent_within zero world order none = (refl, none)
  absent_within (suc most) world order none =
      by (λ next. absent_within most next) (first_answered world world.sessions)
      (first_gives IsSilentNext world world.sessions (all_in world.sessions order) (λ d session after at answered. (
        others-reply c d after.reply (lives_other world d session none at),
        with-others world.sessions d c after.session (λ same. lives_other world d session none at (sym same)) ∙ none,
        ascend-with world.sessions d after.session order,
      )))
    where
      by : ((next : World) → AreInOrder next → lookup next.sessions c ≡ None → (replies_to c (settled_within most next).1 ≡ []) × (lookup (settled_within most next).0.sessions c ≡ None))
          → (o : Option (World × List Reply)) → IfSome o IsSilentNext
          → (replies_to c (option_map_or (λ next. and_replies next.1 (settled_within most next.0)) o (world, [])).1 ≡ []) × (lookup (option_map_or (λ next. and_replies next.1 (settled_within most next.0)) o (world, [])).0.sessions c ≡ None)
      by further None is = (refl, none)
      by further (Some next) is =
          let rest = further next.0 is.2 is.1 in
          (replies-append c next.1 (settled_within most next.0).1 ∙ ap (λ (first : List (List ℕ)). first ++ replies_to c (settled_within most next.0).1) is.0 ∙ rest.0, rest.1)

  -- what an event of another session leaves and answers to a session that does not live
  pub record IsAbsent (world : World) (event : Event) : Type 0 where
    pub replies : replies_to c (step world event).replies ≡ []
    pub absent : lookup (step world event).world.sessions c ≡ None

  served_absent : (world : World) (d : ℕ) (bytes : List ℕ) (mark : Option ℕ) (o : Option Session) → AreInOrder world → lookup world.sessions c ≡ None → lookup world.sessions d ≡ o
      → (replies_to c (served world d bytes mark o).replies ≡ []) × (lookup (served world d bytes mark o).world.sessions c ≡ None)
  served_absent world d bytes mark None order none at = (refl, none)
  served_absent world d bytes mark (Some session) order none at =
      let after = answer (desktop_for d) session world.desktop bytes mark in
      let other = lives_other world d session none at in
      let next = with_left world d after in
      let late = absent_within (waiting_in next) next (ascend-with world.sessions d after.session order) (with-others world.sessions d c after.session (λ same. other (sym same)) ∙ none) in
      (replies-append c (reply_to d after.reply) (settled next).1 ∙ ap (λ (first : List (List ℕ)). first ++ replies_to c (settled next).1) (others-reply c d after.reply other) ∙ late.0, late.1)

  ended_absent : (world : World) (d : ℕ) (o : Option Session) → AreInOrder world → lookup world.sessions c ≡ None → lookup world.sessions d ≡ o
      → (replies_to c (ended world d o).replies ≡ []) × (lookup (ended world d o).world.sessions c ≡ None)
  ended_absent world d None order none at = (refl, none)
  ended_absent world d (Some session) order none at =
      let next : World = record world { desktop = (cleared (desktop_for d) session world.desktop).1; sessions = without world.sessions d } in
      absent_within (waiting_in next) next (ascend-without world.sessions d order) (without-others world.sessions d c (λ same. lives_other world d session none at (sym same)) ∙ none)

  pub absent_step : (world : World) (event : Event) → is_by c event ≡ false → AreInOrder world → lookup world.sessions c ≡ None → IsAbsent world event
  absent_step world (Begin d) other order none = record { replies = refl; absent = and-others world.sessions d c fresh (λ same. eqb-false d c other (sym same)) ∙ none }
  absent_step world (Msg d bytes mark) other order none = (let is = served_absent world d bytes mark (lookup world.sessions d) order none refl in record { replies = is.0; absent = is.1 })
  absent_step world (Take d) other order none = record { replies = refl; absent = none }
  absent_step world (End d) other order none = (let is = ended_absent world d (lookup world.sessions d) order none refl in record { replies = is.0; absent = is.1 })
  absent_step world Stop other order none = record { replies = refl; absent = none }

  -- ---- what is judged

  known_still : (seen : Watched) (used : List Use) → fold (after_use false) seen used ≡ seen
  known_still seen [] = refl
  known_still seen (u ∷ used) = known_still seen used

  told_others : (seen : Watched) (replies : List Reply) (notes : List (ℕ × Note)) (event : Event) → is_by c event ≡ false → told c seen replies notes event ≡ noted seen notes
  told_others seen replies notes (Begin d) other = refl
  told_others seen replies notes (Msg d bytes mark) other = rw other refl
  told_others seen replies notes (Take d) other = refl
  told_others seen replies notes (End d) other = rw other refl
  told_others seen replies notes Stop other = refl

  -- an event of another session tells the notes of the window, and makes no window known
  pub judged_others : (world : World) (seen : Watched) (event : Event) → is_by c event ≡ false → ((judged c world seen event).items ≡ noted seen (step world event).notes) × ((judged c world seen event).seen ≡ seen)
  unfolding judged_by
  judged_others world seen event other =
      let known = known_still seen (event_used world (step world event).world event) in
      rw (other, known) (told_others seen (step world event).replies (step world event).notes event other, refl)

-- no notes of a window that is told nothing
pub noted_none : (seen : Watched) (notes : List (ℕ × Note)) → ((window : ℕ) → seen.window ≡ Some window → is_told window notes ≡ false) → noted seen notes ≡ []
noted_none seen notes quiet = by seen.window quiet
  where
    off : (a b : ℕ) → (b == a) ≡ false → (a == b) ≡ false
    off a b is = not_key a b (λ same. eqb-false b a is (sym same))

    by : (own : Option ℕ) → ((window : ℕ) → own ≡ Some window → is_told window notes ≡ false) → noted (record seen { window = own }) notes ≡ []
    by None quiet = none notes
      where
        none : (notes : List (ℕ × Note)) → noted (record seen { window = None }) notes ≡ []
        none [] = refl
        none (n ∷ notes) = none notes
    by (Some window) quiet = all notes (quiet window refl)
      where
        all : (notes : List (ℕ × Note)) → is_told window notes ≡ false → noted (record seen { window = Some window }) notes ≡ []
        all [] is = refl
        all (n ∷ notes) is =
            let two = either (n.0 == window) (is_told window notes) is in
            ap (λ (b : Bool). cons_option (if b then Some (Noted n.1) else None) (noted (record seen { window = Some window }) notes)) (off window n.0 two.0) ∙ all notes two.1
          where
            either : (a b : Bool) → (a || b) ≡ false → (a ≡ false) × (b ≡ false)
            either false b is = (refl, is)
            either true b is = absurd cc

-- ---- the roll

-- the session is not among those that live
abbrev pub IsOff : (c : ℕ) → Roll → Type 0
IsOff c roll = Each (λ d. d ≢ c) roll.live

pub off_lives : (c : ℕ) (roll : Roll) → IsOff c roll → Contains roll.live c → ⊥
off_lives c roll off live = All-contains (λ d. d ≢ c) roll.live c (all_of (λ d. d ≢ c) roll.live off) live refl

pub off_after : (c : ℕ) (roll : Roll) (event : Event) → is_by c event ≡ false → IsOff c roll → IsOff c (roll_after roll event)
off_after c roll (Begin d) other off = each_append (λ d. d ≢ c) roll.live (d ∷ []) off (eqb-false d c other, tt)
off_after c roll (Msg d bytes mark) other off = off
off_after c roll (Take d) other off = off
off_after c roll (End d) other off = each_filter (λ d. d ≢ c) (λ d. d ≢ c) (λ e. not (e == d)) (λ e _ is. is) roll.live off
off_after c roll Stop other off = off

all_each : (ns : List ℕ) → Each (λ (n : ℕ). Unit {0}) ns
all_each [] = tt
all_each (n ∷ ns) = (tt, all_each ns)

-- nor after it ended
pub off_ended : (c : ℕ) (roll : Roll) → IsOff c (roll_after roll (End c))
off_ended c roll = each_filter (λ (n : ℕ). Unit {0}) (λ d. d ≢ c) (λ e. not (e == c)) (λ e is _. eqb-false e c (off (e == c) is)) roll.live (all_each roll.live)
  where
    off : (b : Bool) → not b ≡ true → b ≡ false
    off true is = absurd cc
    off false is = refl

-- sessions are counted from 1
abbrev pub AreCounted : Roll → Type 0
AreCounted roll = Each (λ d. 0 < d) roll.live

pub counted_after : (roll : Roll) (event : Event) → AllowedTo roll event → AreCounted roll → AreCounted (roll_after roll event)
counted_after roll (Begin d) allowed are = each_append (λ e. 0 < e) roll.live (d ∷ []) are (let next = allowed.0 in omega (arith, next), tt)
counted_after roll (Msg d bytes mark) allowed are = are
counted_after roll (Take d) allowed are = are
counted_after roll (End d) allowed are = each_filter (λ e. 0 < e) (λ e. 0 < e) (λ e. not (e == d)) (λ e _ is. is) roll.live are
counted_after roll Stop allowed are = are

pub live_first : (roll : Roll) → AreCounted roll → (d : ℕ) → Contains roll.live d → 1 ≤ d
live_first roll are d live = let more = All-contains (λ e. 0 < e) roll.live d (all_of (λ e. 0 < e) roll.live are) live in omega (arith, more)
