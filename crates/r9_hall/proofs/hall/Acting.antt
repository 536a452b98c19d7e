-- What a session asks of a hall, as the server of its history may do it.
use Rattle.std.proofs.Common.{◌≡◌, ◌≤◌, ◌<◌, ◌+◌, ◌^◌, inl, inr, ℕ, Bool, true, false, List, [], ◌∷◌, ◌++◌, Option, Some, None, Result, Ok, Err, IfOk, IsOk, length, refl, sym, ap, subst, ◌∙◌, arith, length-append}
use Rattle.std.specs.Prelude.{◌≢◌, IfSome, IsFalse, IsSome, Contains, MatchBool, filter, not, ◌==◌, if◌then◌else◌}
use Rattle.std.proofs.lemmas.Bool.{eqb-true}
use Rattle.std.proofs.lemmas.List.{nil_from_length}
use Rattle.r9_event.specs.declared.event.event.Event.{Event}
use Rattle.r9_event.specs.declared.event.event.Event.TheVariants.{Begin, Msg, Take, End, Stop}
use Rattle.r9_event.specs.declared.event.event.Entry.{Entry}
use Rattle.r9_event.specs.declared.event.event.Opening.{Opening}
use Rattle.r9_event.specs.declared.event.event.Did.{Did}
use Rattle.r9_event.specs.declared.event.event.Reply.{Reply}
use Rattle.r9_event.specs.declared.event.ask.Ask.{Ask}
use Rattle.r9_event.specs.declared.event.ask.Ask.TheVariants as ask
use Rattle.r9_event.specs.declared.event.ask.Answer.{Answer}
use Rattle.r9_event.specs.declared.event.ask.Answer.TheVariants.{Nothing, Over, Began, Ended, Crowded, Memory, Taken}
use Rattle.r9_lock.specs.declared.chronicle.Acted.{Acted}
use Rattle.model_text.specs.text.Map.{lookup}
use Rattle.model_text.proofs.map.Keys.{not_key}
use Rattle.model_history.specs.event.Legal.{Allowed, AllowedTo, IsLegal, Roll, no_sessions, roll_after, roll_of}
use Rattle.model_history.specs.event.Journal.{events_of}
use Rattle.model_history.proofs.event.Rolls.{roll_from-push}
use Rattle.model_served.specs.session.Acts.{Enters, GivesUp, IsCrowded, May, Stays, roll_at}
use Rattle.model_served.specs.session.Server.{IsOver, messages_of}
use Rattle.model_world.specs.Session.{Session}
use Rattle.model_world.specs.World.{World, opened}
use Rattle.model_world.specs.Replay.{bytes_for, marked, outbox, replay, step, waiting_after}
use Rattle.model_world.proofs.Histories.{waiting_from-push}
use Rattle.model_served.specs.served.Served.{closed_from, journal_of, served}
use Rattle.model_served.proofs.served.Kept.{kept_closed, kept_size, live_there, same_closed}
use Rattle.model_served.proofs.served.Pushed.{by_history}
use Rattle.model_served.proofs.served.Rolls.{ended_begun, living_begun}
use Rattle.model_served.proofs.served.Seen.{history_order}
use Rattle.model_served.proofs.served.Silent.{IsMute, step_mute}
use Rattle.r9_hall.specs.hall.Acts.{HasGivenUp, IsAct, IsCounted, IsDone, IsHeard, IsMadeOf, answer_by}
use Rattle.r9_hall.specs.hall.HallView.{AllowedNext, HallValue, IsAsStored, OfHistories, StandsFor, StandsForMore}
use Rattle.r9_hall.specs.hall.Outboxes.{waiting}
use Rattle.r9_hall.specs.hall.WorldView.{world_in}
use Rattle.r9_hall.proofs.hall.Halls.{roll_next, unbroken}

-- ---- entering, and not

pub refused : (b : Bool) {P : Type 0} → b ≡ false → (P → b ≡ true) → P → ⊥
refused b is test holds = let two : false ≡ true = sym is ∙ test holds in cc two

pub none_waits : (waits : List ℕ) (b : Bool) → b ≡ (length waits == 0) → b ≡ true → waits ≡ []
none_waits waits b is empty = nil_from_length waits (eqb-true (length waits) 0 (sym is ∙ empty))

-- what an act is does not turn on what it rings
abbrev pub told : Answer → Acted Answer
told answer = record { answer = answer; entered = false; rings = 0 }

abbrev pub made : Answer → Acted Answer
made answer = record { answer = answer; entered = true; rings = 0 }

enters : (h : HallValue) (event : Event) (before : List Entry) → StandsFor h before → Allowed h.roll event → Enters event before (before ++ record { number = length before + 1; event = event } ∷ [])
enters h event before stands allowed = record { allowed = subst (λ (r : Roll). Allowed r event) stands.roll allowed; one_more = refl }

stays : (h : HallValue) (before : List Entry) → StandsFor h before → IsFalse h.roll.stopped → Stays before before
stays h before stands going = record { on = subst (λ (r : Roll). IsFalse r.stopped) stands.roll going; same = refl }

-- an event that may not come next in a hall that goes on is not allowed
not_allowed : (h : HallValue) (event : Event) (before : List Entry) → StandsFor h before → IsFalse h.roll.stopped → h.broken ≡ false → (AllowedNext h event → ⊥) → AllowedTo (roll_at before) event → ⊥
not_allowed h event before stands going whole never allowed = never ((going, subst (λ (r : Roll). AllowedTo r event) (sym stands.roll) allowed), λ broken. unbroken h.broken whole broken)

-- an event that stands in the history as it is, whatever memory there was
entered_as : (h now : HallValue) (event : Event) (did : Did) → ((short : Option ℕ) → marked event short ≡ event) → IsMadeOf h event did now → (before : List Entry) → StandsFor h before
    → (after : List Entry) × StandsFor now after × Enters event before after × ((entry : Entry) × (after ≡ before ++ entry ∷ []))
entered_as h now event did same is before stands =
    let entry : Entry = record { number = length before + 1; event = event } in
    let more : StandsForMore h event now = subst (λ (e : Event). StandsForMore h e now) (same did.short) is.entered in
    let allowed : Allowed h.roll event = subst (λ (e : Event). Allowed h.roll e) (same did.short) is.allowed.0 in
    (before ++ entry ∷ [], more before stands, enters h event before stands allowed, (entry, refl))

stop_marked : (short : Option ℕ) → marked Stop short ≡ Stop
stop_marked None = refl
stop_marked (Some k) = refl

-- a Stop, which takes no memory
pub stop_entered : {E : Type 0} (h now : HallValue) (result : Result Did E) → IsOk result → IfOk result (λ did. IsMadeOf h Stop did now) → StandsForMore h Stop now
stop_entered h now (Err e) ok is = absurd (cc ok)
stop_entered h now (Ok did) ok is = subst (λ (e : Event). StandsForMore h e now) (stop_marked did.short) is.entered

-- ---- giving up

gives_up : (h now next : HallValue) (entered : Bool) → IsFalse h.roll.stopped → IsAsStored h now → HasGivenUp now next entered → (before : List Entry) → StandsFor h before
    → (after : List Entry) × StandsFor next after × GivesUp before after × MatchBool entered ((entry : Entry) × (after ≡ before ++ entry ∷ [])) (after ≡ before)
gives_up h now next true going stored given before stands =
    let entry : Entry = record { number = length before + 1; event = Stop } in
    (before ++ entry ∷ [], given before (stored.stands before stands), inr (enters h Stop before stands (going, tt)), (entry, refl))
gives_up h now next false going stored given before stands = (before, given before (stored.stands before stands), inl refl, refl)

-- after want of memory in an event: a Stop, or nothing
pub gave_up_act : (h now next : HallValue) (asked : Ask) (acted : Acted Answer) → ((before after : List Entry) → GivesUp before after → May (served h.opening) before asked Memory after)
    → acted.answer ≡ Memory → IsFalse h.roll.stopped → IsAsStored h now → HasGivenUp now next acted.entered → IsAct h asked acted next
gave_up_act h now next asked acted may is going stored given before stands =
    let left = gives_up h now next acted.entered going stored given before stands in
    (left.0, left.1, subst (λ (a : Answer). May (served h.opening) before asked a left.0) (sym is) (may before left.0 left.2), left.3)

-- ---- what is counted

-- an event was made
pub made_counted : (h now : HallValue) (event : Event) (did : Did) (acted : Acted Answer) (old new : ℕ) → acted.entered ≡ true → IsMadeOf h event did now → h.broken ≡ false
    → OfHistories h (λ events. new ≤ old + (step (replay h.opening events) (marked event did.short)).cost) → IsCounted h acted now old new
made_counted h now event did acted old new entered is whole less before stands =
    let entry : Entry = record { number = length before + 1; event = marked event did.short } in
    subst (λ (b : Bool). MatchBool b ((e : Entry) × StandsFor now (before ++ e ∷ []) × (new ≤ old + (step (replay h.opening (events_of before)) e.event).cost)) (new ≡ old)) (sym entered)
    (entry, is.entered before stands, less whole before stands)

-- a Stop was made, or nothing
quiet : (h next : HallValue) (entered : Bool) (old new : ℕ) → HasGivenUp h next entered → new ≡ old → (before : List Entry) → StandsFor h before
    → MatchBool entered ((entry : Entry) × StandsFor next (before ++ entry ∷ []) × (new ≤ old + (step (replay h.opening (events_of before)) entry.event).cost)) (new ≡ old)
quiet h next true old new given silent before stands = (record { number = length before + 1; event = Stop }, given before stands, omega (arith, silent))
quiet h next false old new given silent before stands = silent

pub quiet_counted : (h next : HallValue) (acted : Acted Answer) (old new : ℕ) → HasGivenUp h next acted.entered → new ≡ old → IsCounted h acted next old new
quiet_counted h next acted old new given silent = quiet h next acted.entered old new given silent

-- after an event that was not made
pub gave_up_counted : (h now next : HallValue) (acted : Acted Answer) (old mid new : ℕ) → IsAsStored h now → HasGivenUp now next acted.entered → mid ≡ old → new ≡ mid
    → IsCounted h acted next old new
gave_up_counted h now next acted old mid new stored given none silent = quiet_counted h next acted old new (as_given acted.entered given) (silent ∙ none)
  where
    as_given : (entered : Bool) → HasGivenUp now next entered → HasGivenUp h next entered
    as_given true more = λ before stands. more before (stored.stands before stands)
    as_given false on = λ before stands. on before (stored.stands before stands)

-- ---- Begin

few_left : (live : List ℕ) (c : ℕ) → length (filter (λ d. not (d == c)) live) ≤ length live
few_left [] c = omega arith
few_left (d ∷ live) c = by (few_left live c) (not (d == c))
  where
    by : length (filter (λ e. not (e == c)) live) ≤ length live → (b : Bool) → length (if b then d ∷ filter (λ e. not (e == c)) live else filter (λ e. not (e == c)) live) ≤ length (d ∷ live)
    by fewer true = omega (arith, fewer)
    by fewer false = omega (arith, fewer)

few_after : (roll : Roll) (event : Event) → AllowedTo roll event → length roll.live ≤ 1024 → length (roll_after roll event).live ≤ 1024
few_after roll (Begin c) allowed few = omega (arith, allowed.2, length-append roll.live (c ∷ []))
few_after roll (Msg c bytes mark) allowed few = few
few_after roll (Take c) allowed few = few
few_after roll (End c) allowed few = let left = few_left roll.live c in omega (arith, few, left)
few_after roll Stop allowed few = few

-- at most 1,024 sessions live
few_live : (events : List Event) → IsLegal events → length (roll_of events).live ≤ 1024
few_live = by_history (λ es. length (roll_of es).live ≤ 1024) (omega arith) (λ before event _ allowed few.
    subst (λ (r : Roll). length r.live ≤ 1024) (sym (roll_from-push no_sessions before event)) (few_after (roll_of before) event allowed.1 few))

crowded : (h : HallValue) (before : List Entry) → StandsFor h before → IsFalse h.roll.stopped → IsCrowded h.roll → May (served h.opening) before ask.Begin Crowded before
crowded h before stands going full = (stays h before stands going, subst (λ (r : Roll). IsCrowded r) stands.roll full)

-- so many live that one more may not begin
pub all_live_act : (h : HallValue) (c : ℕ) → IsFalse h.roll.stopped → h.broken ≡ false → c ≡ h.roll.begun + 1 → c < 2 ^ 32 → (AllowedNext h (Begin c) → ⊥) → IsAct h ask.Begin (told Crowded) h
all_live_act h c going whole is fits never before stands =
    let few : length h.roll.live ≤ 1024 = subst (λ (r : Roll). length r.live ≤ 1024) (sym stands.roll) (few_live (events_of before) stands.legal) in
    let many : length h.roll.live < 1024 → ⊥ = λ less. never ((going, (is, fits, less)), λ broken. unbroken h.broken whole broken) in
    (before, stands, crowded h before stands going (inl (omega (arith, few, many))), refl)

begin_marked : (c : ℕ) (short : Option ℕ) → marked (Begin c) short ≡ Begin c
begin_marked c None = refl
begin_marked c (Some k) = refl

pub began_act : (h now : HallValue) (c : ℕ) (did : Did) → IsMadeOf h (Begin c) did now → IsAct h ask.Begin (made (Began c)) now
began_act h now c did is before stands = entered_as h now (Begin c) did (begin_marked c) is before stands

-- ---- End

end_marked : (c : ℕ) (short : Option ℕ) → marked (End c) short ≡ End c
end_marked c None = refl
end_marked c (Some k) = refl

pub ended_act : (h now : HallValue) (c : ℕ) (did : Did) → IsMadeOf h (End c) did now → IsAct h (ask.End c) (made Ended) now
ended_act h now c did is before stands = entered_as h now (End c) did (end_marked c) is before stands

-- ---- Msg

msg_marked : (c : ℕ) (bytes : List ℕ) (short : Option ℕ) → marked (Msg c bytes None) short ≡ Msg c bytes short
msg_marked c bytes None = refl
msg_marked c bytes (Some k) = refl

-- the answer is that of the session, which lives
heard_may : (opening : Opening) (c : ℕ) (bytes : List ℕ) (mark : Option ℕ) (before after : List Entry) (answer : Answer) (found : Option Session) → Enters (Msg c bytes mark) before after → IfSome mark ((served opening).cut (events_of before) c bytes) → IsLegal (events_of after)
    → lookup (replay opening (events_of after)).sessions c ≡ found → IsSome found → IsHeard found answer → May (served opening) before (ask.Msg c bytes) answer after
heard_may opening c bytes mark before after answer None enters cut legal at lives heard = absurd (cc lives)
heard_may opening c bytes mark before after answer (Some session) enters cut legal at lives heard =
    let events = events_of after in
    let shut : session.closed ≡ closed_from (opened opening) events c None = kept_closed opening events c session legal at in
    subst (λ (a : Answer). May (served opening) before (ask.Msg c bytes) a after) (sym heard) (by session.closed refl shut (kept_size opening events c session legal at))
  where
    by : (closed : Option ℕ) → session.closed ≡ closed → session.closed ≡ closed_from (opened opening) (events_of after) c None
        → (session.closed ≡ None → session.msize ≡ (served opening).limit (messages_of c (events_of after))) → May (served opening) before (ask.Msg c bytes) (answer_by closed session.msize) after
    by None is shut size = ((mark, enters, cut), sym shut ∙ is, size is)
    by (Some tag) is shut size = ((mark, enters, cut), sym shut ∙ is)

lives_on : (h now : HallValue) (c : ℕ) (bytes : List ℕ) (mark : Option ℕ) (before : List Entry) → StandsFor h before → StandsFor now (before ++ record { number = length before + 1; event = Msg c bytes mark } ∷ [])
    → Allowed h.roll (Msg c bytes mark) → IsSome (lookup (replay now.opening (events_of (before ++ record { number = length before + 1; event = Msg c bytes mark } ∷ []))).sessions c)
lives_on h now c bytes mark before stands after allowed =
    let entry : Entry = record { number = length before + 1; event = Msg c bytes mark } in
    let lives : Contains (roll_of (events_of before)).live c = subst (λ (r : Roll). Contains r.live c) stands.roll allowed.1.0 in
    (live_there now.opening (events_of (before ++ entry ∷ [])) c after.legal).0 (subst (λ (r : Roll). Contains r.live c) (sym (roll_next before entry)) lives)

pub heard_act : (h now : HallValue) (c : ℕ) (bytes : List ℕ) (did : Did) (answer : Answer) → IsMadeOf h (Msg c bytes None) did now → now.opening ≡ h.opening → h.broken ≡ false → now.broken ≡ false
    → IsHeard (lookup (world_in now.world).sessions c) answer → IsAct h (ask.Msg c bytes) (made answer) now
heard_act h now c bytes did answer is opening was whole heard before stands =
    let event = Msg c bytes did.short in
    let cut : IfSome did.short ((served now.opening).cut (events_of before) c bytes) =
    subst (λ (o : Opening). IfSome did.short ((served o).cut (events_of before) c bytes)) (sym opening) (is.short was before stands) in
    let entry : Entry = record { number = length before + 1; event = event } in
    let entered : StandsForMore h event now = subst (λ (e : Event). StandsForMore h e now) (msg_marked c bytes did.short) is.entered in
    let allowed : Allowed h.roll event = subst (λ (e : Event). Allowed h.roll e) (msg_marked c bytes did.short) is.allowed.0 in
    let after = entered before stands in
    let heard_there : IsHeard (lookup (replay now.opening (events_of (before ++ entry ∷ []))).sessions c) answer = subst (λ (w : World). IsHeard (lookup w.sessions c) answer) (after.led whole).world heard in
    let may : May (served now.opening) before (ask.Msg c bytes) answer (before ++ entry ∷ []) =
    heard_may now.opening c bytes did.short before (before ++ entry ∷ []) answer _ (enters h event before stands allowed) cut after.legal refl (lives_on h now c bytes did.short before stands after allowed) heard_there in
    (before ++ entry ∷ [], after, subst (λ (o : Opening). May (served o) before (ask.Msg c bytes) answer (before ++ entry ∷ [])) opening may, (entry, refl))

-- ---- Look

-- nothing waits for it, and nothing has closed it
abbrev IsUnheardOf : Opening → (c : ℕ) → List Event → Type 0
IsUnheardOf opening c events = (outbox (journal_of opening events) c ≡ []) × (closed_from (opened opening) events c None ≡ None)

mute_there : (found : Option Session) → (IsSome found → ⊥) → IsMute found
mute_there None never = tt
mute_there (Some session) never = absurd (never refl)

not_told : (c : ℕ) (event : Event) (waits : List ℕ) (replies : List Reply) → waits ≡ [] → bytes_for c replies ≡ [] → waiting_after c waits event replies ≡ []
not_told c (Begin d) waits replies none silent = λ i. none i ++ silent i
not_told c (Msg d bytes mark) waits replies none silent = λ i. none i ++ silent i
not_told c (Take d) waits replies none silent = by (d == c)
  where
    by : (b : Bool) → (if b then [] else waits) ≡ []
    by true = refl
    by false = none
not_told c (End d) waits replies none silent = λ i. none i ++ silent i
not_told c Stop waits replies none silent = λ i. none i ++ silent i

not_closed : (c : ℕ) (world : World) (events : List Event) (roll : Roll) (event : Event) → AllowedTo roll event → (Contains roll.live c → ⊥) → closed_from world events c None ≡ None → closed_from world (events ++ event ∷ []) c None ≡ None
not_closed c world events roll (Begin d) allowed never none = same_closed world events (Begin d) c refl ∙ none
not_closed c world events roll (Msg d bytes mark) allowed never none =
    same_closed world events (Msg d bytes mark) c (not_key d c (λ same. never (subst (Contains roll.live) same allowed.0))) ∙ none
not_closed c world events roll (Take d) allowed never none = same_closed world events (Take d) c refl ∙ none
not_closed c world events roll (End d) allowed never none = same_closed world events (End d) c refl ∙ none
not_closed c world events roll Stop allowed never none = same_closed world events Stop c refl ∙ none

begun_grows : (roll : Roll) (event : Event) → AllowedTo roll event → roll.begun ≤ (roll_after roll event).begun
begun_grows roll (Begin d) allowed = omega (arith, allowed.0)
begun_grows roll (Msg d bytes mark) allowed = omega arith
begun_grows roll (Take d) allowed = omega arith
begun_grows roll (End d) allowed = omega arith
begun_grows roll Stop allowed = omega arith

unheard_of : (opening : Opening) (c : ℕ) (events : List Event) → IsLegal events → (AllowedTo (roll_of events) (Take c) → ⊥) → IsUnheardOf opening c events
unheard_of opening c = by_history (λ es. (AllowedTo (roll_of es) (Take c) → ⊥) → IsUnheardOf opening c es) (λ _. (refl, refl)) (λ before event legal allowed is never.
    let grown = begun_grows (roll_of before) event allowed.1 in
    let rolled = roll_from-push no_sessions before event in
    let none : AllowedTo (roll_of before) (Take c) → ⊥ = λ begun. never (subst (λ (r : Roll). AllowedTo r (Take c)) (sym rolled) (begun.0, omega (arith, begun.1, grown))) in
    let dead : Contains (roll_of before).live c → ⊥ = λ lives. none (living_begun before legal c lives) in
    let was = is none in
    let world = replay opening before in
    let silent : bytes_for c (step world event).replies ≡ [] = step_mute c world event (history_order opening before) (mute_there (lookup world.sessions c) (λ there. dead ((live_there opening before c legal).1 there))) in (
      waiting_from-push (opened opening) before event c [] ∙ not_told c event (outbox (journal_of opening before) c) (step world event).replies was.0 silent,
      not_closed c (opened opening) before (roll_of before) event allowed.1 dead was.1,
    ))

not_over : (opening : Opening) (c : ℕ) (events : List Event) → (Contains events (End c) → ⊥) → closed_from (opened opening) events c None ≡ None → IsOver (served opening) events c → ⊥
not_over opening c events going unclosed (inl ended) = going ended
not_over opening c events going unclosed (inr closed) = let two : None ≡ Some closed.0 = sym unclosed ∙ closed.1 in absurd (cc two)

-- a session that has not begun
pub unbegun_act : (h : HallValue) (c : ℕ) → IsFalse h.roll.stopped → h.broken ≡ false → (AllowedNext h (Take c) → ⊥) → IsAct h (ask.Look c) (told Nothing) h
unbegun_act h c going whole never before stands =
    let none : AllowedTo (roll_of (events_of before)) (Take c) → ⊥ = not_allowed h (Take c) before stands going whole never in
    let silent = unheard_of h.opening c (events_of before) stands.legal none in
    (before, stands, (stays h before stands going, silent.0, not_over h.opening c (events_of before) (λ ended. let gone = (ended_begun (events_of before) c stands.legal).0 ended in none (gone.0, gone.1)) silent.1), refl)

take_marked : (c : ℕ) (short : Option ℕ) → marked (Take c) short ≡ Take c
take_marked c None = refl
take_marked c (Some k) = refl

pub some_wait : (waits : List ℕ) (b : Bool) → b ≡ (length waits == 0) → b ≡ false → waits ≢ []
some_wait waits b is some none = let two : false ≡ true = sym some ∙ is ∙ ap (λ (w : List ℕ). length w == 0) none in cc two

-- what waits for a session is handed out
pub taken_act : (h now : HallValue) (c : ℕ) (did : Did) (bytes waits : List ℕ) → IsMadeOf h (Take c) did now → h.broken ≡ false → bytes ≡ waiting h.outboxes c
    → OfHistories h (λ events. waits ≡ outbox (journal_of h.opening events) c) → waits ≢ [] → IsAct h (ask.Look c) (made (Taken bytes)) now
taken_act h now c did bytes waits is whole given held some before stands =
    let entry : Entry = record { number = length before + 1; event = Take c } in
    let entered : StandsForMore h (Take c) now = subst (λ (e : Event). StandsForMore h e now) (take_marked c did.short) is.entered in
    let allowed : Allowed h.roll (Take c) = subst (λ (e : Event). Allowed h.roll e) (take_marked c did.short) is.allowed.0 in
    let there : waiting h.outboxes c ≡ outbox (journal_of h.opening (events_of before)) c = (stands.led whole).outboxes c in
    (before ++ entry ∷ [], entered before stands, (enters h (Take c) before stands allowed, given ∙ there, λ none. some (held whole before stands ∙ sym there ∙ sym given ∙ none)), (entry, refl))

-- of a session that has begun
over_done : (opening : Opening) (c : ℕ) (events : List Event) (found : Option Session) → IsLegal events → AllowedTo (roll_of events) (Take c) → lookup (replay opening events).sessions c ≡ found → IsDone found → IsOver (served opening) events c
over_done opening c events None legal begun at done =
    inl ((ended_begun events c legal).1 (begun.0, begun.1, λ lives. let there : IsSome {T = Session} None = subst (λ (o : Option Session). IsSome o) at ((live_there opening events c legal).0 lives) in absurd (cc there)))
over_done opening c events (Some session) legal begun at done = by session.closed refl done
  where
    by : (closed : Option ℕ) → session.closed ≡ closed → IsSome session.closed → IsOver (served opening) events c
    by None is some = let none : IsSome {T = ℕ} None = subst (λ (o : Option ℕ). IsSome o) is some in absurd (cc none)
    by (Some tag) is some = inr (tag, sym (kept_closed opening events c session legal at) ∙ is)

open_on : (opening : Opening) (c : ℕ) (events : List Event) (found : Option Session) → IsLegal events → lookup (replay opening events).sessions c ≡ found → (IsDone found → ⊥) → IsOver (served opening) events c → ⊥
open_on opening c events None legal at unclosed = absurd (unclosed tt)
open_on opening c events (Some session) legal at unclosed =
    not_over opening c events (λ ended. ((ended_begun events c legal).0 ended).2 ((live_there opening events c legal).1 (subst (λ (o : Option Session). IsSome o) (sym at) refl)))
    (sym (kept_closed opening events c session legal at) ∙ is_none session.closed unclosed)
  where
    is_none : (o : Option ℕ) → (IsSome o → ⊥) → o ≡ None
    is_none None never = refl
    is_none (Some tag) never = absurd (never refl)

-- nothing waits
empty_there : (h : HallValue) (c : ℕ) (waits : List ℕ) (before : List Entry) → StandsFor h before → h.broken ≡ false → OfHistories h (λ events. waits ≡ outbox (journal_of h.opening events) c) → waits ≡ []
    → outbox (journal_of h.opening (events_of before)) c ≡ []
empty_there h c waits before stands whole is none = sym (is whole before stands) ∙ none

pub over_act : (h : HallValue) (c : ℕ) (waits : List ℕ) → IsFalse h.roll.stopped → h.broken ≡ false → AllowedNext h (Take c) → OfHistories h (λ events. waits ≡ outbox (journal_of h.opening events) c) → waits ≡ []
    → IsDone (lookup (world_in h.world).sessions c) → IsAct h (ask.Look c) (told Over) h
over_act h c waits going whole allowed is none done before stands =
    let there : IsDone (lookup (replay h.opening (events_of before)).sessions c) = subst (λ (w : World). IsDone (lookup w.sessions c)) (stands.led whole).world done in
    let begun : AllowedTo (roll_of (events_of before)) (Take c) = subst (λ (r : Roll). AllowedTo r (Take c)) stands.roll allowed.0.1 in
    (before, stands, (stays h before stands going, empty_there h c waits before stands whole is none, over_done h.opening c (events_of before) _ stands.legal begun refl there), refl)

pub nothing_act : (h : HallValue) (c : ℕ) (waits : List ℕ) → IsFalse h.roll.stopped → h.broken ≡ false → OfHistories h (λ events. waits ≡ outbox (journal_of h.opening events) c) → waits ≡ []
    → (IsDone (lookup (world_in h.world).sessions c) → ⊥) → IsAct h (ask.Look c) (told Nothing) h
nothing_act h c waits going whole is none unclosed before stands =
    let there : IsDone (lookup (replay h.opening (events_of before)).sessions c) → ⊥ = subst (λ (w : World). IsDone (lookup w.sessions c) → ⊥) (stands.led whole).world unclosed in
    (before, stands, (stays h before stands going, empty_there h c waits before stands whole is none, open_on h.opening c (events_of before) _ stands.legal refl there), refl)
