-- A session's end.
use Rattle.std.proofs.Common.{◌≡◌, ℕ, zero, ◌≤◌, Bool, true, false, List, [], ◌∷◌, ◌++◌, refl, sym, ap, ◌∙◌, subst, arith, ⊎_elim, inl, inr}
use Rattle.std.specs.Prelude.{◌⊎◌, Option, Result, Ok, Err, All, Contains, IfOk, IfErr, IsTrue}
use Rattle.std.proofs.lemmas.List.{append-nil}
use Rattle.std.proofs.lemmas.List.Elements.{All-nil, All-weaker, Contains-append_right}
use Rattle.r9_event.specs.declared.event.event.Event.{Event}
use Rattle.r9_event.specs.declared.event.event.Event.TheVariants.{Begin, Msg, Take, End, Stop}
use Rattle.r9_event.specs.declared.event.event.Entry.{Entry}
use Rattle.r9_event.specs.declared.event.ask.Ask.TheVariants as ask
use Rattle.r9_event.specs.declared.event.ask.Answer.{Answer}
use Rattle.r9_event.specs.declared.event.ask.Answer.TheVariants.{Began, Went, Duplicate, Closed, Taken, Nothing, Over, Ended, Crowded, Memory}
use Rattle.r9_lock.specs.Passes.{Known}
use Rattle.model_history.specs.event.Legal.{Roll, roll_after, roll_from, no_sessions}
use Rattle.model_history.specs.event.Journal.{events_of}
use Rattle.model_served.specs.session.Server.{Server, is_msg, is_take}
use Rattle.model_served.specs.session.Acts.{Enters}
use Rattle.r9_attend.specs.declared.attend.ends.ReadEnd.{ReadEnd}
use Rattle.r9_attend.specs.declared.attend.ends.ReadEnd.TheVariants as reader
use Rattle.r9_attend.specs.declared.attend.ends.WriteEnd.{WriteEnd}
use Rattle.r9_attend.specs.declared.attend.ends.WriteEnd.TheVariants as writer
use Rattle.r9_outside.specs.outside.Count.{Rose}
use Rattle.r9_attend.specs.attend.Passes.{GoesOn, made_since, IsOwn, Turned, NotTurned}
use Rattle.r9_attend.specs.attend.Sessions.{HasEnded, Reads, EndsAt, IsRead, IsWritten, IsReaders, IsWriters}
use Rattle.r9_attend.specs.attend.Steps.{IsTold, IsSpent, HasRead, HasWritten}
use Rattle.r9_attend.proofs.attend.Growing.{goes_both, All-since, own_back, since_is, turn_begins, seen_entered, All-entered, All-stayed}
use Rattle.r9_attend.proofs.attend.Served.{events_has, ended_where}

-- all has stopped where a stop stands
stopped_where : (roll : Roll) (events : List Event) → (roll_from roll events).stopped ≡ true → (roll.stopped ≡ true) ⊎ Contains events Stop
stopped_where roll [] e = inl e
stopped_where roll (event ∷ events) e = ⊎_elim (λ (h : (roll_after roll event).stopped ≡ true). here event h) (λ (h : Contains events Stop). inr (Contains-append_right (event ∷ []) events Stop h)) (stopped_where (roll_after roll event) events e)
  where
    here : (event : Event) → (roll_after roll event).stopped ≡ true → (roll.stopped ≡ true) ⊎ Contains (event ∷ events) Stop
    here (Begin c) h = inl h
    here (Msg c bytes mark) h = inl h
    here (Take c) h = inl h
    here (End c) h = inl h
    here Stop h = inr (zero, omega arith, refl)

pub stop_where : (events : List Event) → (roll_from no_sessions events).stopped ≡ true → Contains events Stop
stop_where events e = ⊎_elim (λ (h : false ≡ true). absurd cc) (λ (h : Contains events Stop). h) (stopped_where no_sessions events e)

module _ (s : Server) (c : ℕ) (old new : Known Entry) where
  abbrev pub IsEnding : ℕ × Entry → Type 0
  IsEnding m = (m.1.event ≡ End c) ⊎ (m.1.event ≡ Stop)

  made_by : (answer : Answer) → Turned s (ask.End c) answer old new → All IsEnding (made_since old new)
  made_by Ended t = All-entered s (ask.End c) Ended old new t IsEnding (End c) t.may (λ n. inl refl)
  made_by Closed t = All-stayed s (ask.End c) Closed old new t IsEnding t.may.0.same
  made_by Memory t = ⊎_elim
      (λ (h : (t.before ++ t.entry ≡ t.before) × IsTrue (roll_from no_sessions (events_of t.before)).stopped). All-stayed s (ask.End c) Memory old new t IsEnding h.0)
      (λ (h : Enters Stop t.before (t.before ++ t.entry)). All-entered s (ask.End c) Memory old new t IsEnding Stop h (λ n. inr refl))
      t.may
  made_by (Began d) t = absurd t.may
  made_by (Went msize) t = absurd t.may
  made_by (Duplicate tag) t = absurd t.may
  made_by (Taken bytes) t = absurd t.may
  made_by Nothing t = absurd t.may
  made_by Over t = absurd t.may
  made_by Crowded t = absurd t.may

  pub end_made : (result : Result Answer ℕ) → IfOk result (λ answer. Turned s (ask.End c) answer old new) → IfErr result (λ count. NotTurned count old new) → All IsEnding (made_since old new)
  end_made (Ok answer) t n = made_by answer t
  end_made (Err count) t n = subst (All IsEnding) (sym (since_is old new [] (n.made ∙ sym (append-nil old.made)))) (All-nil IsEnding)

  -- the history has this event more
  last_seen : (answer : Answer) (t : Turned s (ask.End c) answer old new) (event : Event) → Enters event t.before (t.before ++ t.entry) → Contains (events_of new.seen) event
  last_seen answer t event e =
      subst (λ l. Contains l event) (sym (seen_entered s (ask.End c) answer old new t event e)) (Contains-append_right (events_of t.before) (event ∷ []) event (zero, omega arith, refl))

  ended_by : Contains (events_of old.seen) (Begin c) → (answer : Answer) → Turned s (ask.End c) answer old new → HasEnded c new
  ended_by begun Ended t = inl (last_seen Ended t (End c) t.may)
  ended_by begun Closed t =
      inl (events_has (End c) (turn_begins s (ask.End c) Closed old new t) (ended_where c (events_of t.before) (events_has (Begin c) t.begins begun) t.may.1))
  ended_by begun Memory t = inr (inl (⊎_elim
      (λ (h : (t.before ++ t.entry ≡ t.before) × IsTrue (roll_from no_sessions (events_of t.before)).stopped). events_has Stop (turn_begins s (ask.End c) Memory old new t) (stop_where (events_of t.before) h.1))
      (λ (h : Enters Stop t.before (t.before ++ t.entry)). last_seen Memory t Stop h)
      t.may))
  ended_by begun (Began d) t = absurd t.may
  ended_by begun (Went msize) t = absurd t.may
  ended_by begun (Duplicate tag) t = absurd t.may
  ended_by begun (Taken bytes) t = absurd t.may
  ended_by begun Nothing t = absurd t.may
  ended_by begun Over t = absurd t.may
  ended_by begun Crowded t = absurd t.may

  pub end_ended : (result : Result Answer ℕ) → IfOk result (λ answer. Turned s (ask.End c) answer old new) → IfErr result (λ count. NotTurned count old new) → Contains (events_of old.seen) (Begin c) → HasEnded c new
  end_ended (Ok answer) t n begun = ended_by begun answer t
  end_ended (Err count) t n begun = inr (inr (let l = n.large in let m = n.least in omega arith))

-- what was told stays true
pub told_on : (s : Server) (c : ℕ) (p q : Known Entry) → GoesOn p q → (end : ReadEnd) → IsTold s c end p → IsTold s c end q
told_on s c p q g reader.Closed t = events_has (End c) g.seen t
told_on s c p q g (reader.Spent count) t = (t.0, let l = g.least in let m = t.1 in omega arith)
told_on s c p q g reader.Crowded t = absurd t
told_on s c p q g reader.Ended t = tt
told_on s c p q g (reader.Cut n) t = tt
told_on s c p q g (reader.BadSize size) t = tt
told_on s c p q g (reader.Duplicate tag) t = tt
told_on s c p q g reader.ReadFault t = tt
told_on s c p q g reader.Memory t = tt

-- an end and a stop are no message
pub no_message_made : (c : ℕ) (old new : Known Entry) → All (λ m. (m.1.event ≡ End c) ⊎ (m.1.event ≡ Stop)) (made_since old new) → (such : Event → Bool) → such (End c) ≡ false → such Stop ≡ false → All (λ m. such m.1.event ≡ false) (made_since old new)
no_message_made c old new all such e f =
    All-weaker (λ m. (m.1.event ≡ End c) ⊎ (m.1.event ≡ Stop)) (λ m. such m.1.event ≡ false)
    (λ m h. ⊎_elim (λ (k : m.1.event ≡ End c). ap such k ∙ e) (λ (k : m.1.event ≡ Stop). ap such k ∙ f) h) (made_since old new) all

-- ---- all that a reader and a writer leave

module _ (s : Server) (c : ℕ) (start old new : Known Entry) (goes : GoesOn old new) (ending : All (λ m. (m.1.event ≡ End c) ⊎ (m.1.event ≡ Stop)) (made_since old new)) where
  pub read_ended : {I : Type 0} (left : I → Option (List ℕ)) (faults : I → ℕ) (end : ReadEnd) (input_old input : I) → (end ≡ reader.Closed → ⊥) → GoesOn start old
      → All (λ m. (is_msg c m.1.event ≡ true) ⊎ (m.1.event ≡ Stop)) (made_since start old) → IsTold s c end old → HasEnded c new
      → (end ≡ reader.ReadFault → Rose (faults input_old) (faults input)) → faults input_old ≤ faults input → ((end ≡ reader.ReadFault → ⊥) → faults input ≡ faults input_old)
      → ((bytes : List ℕ) × Reads (left input_old) bytes (left input) × EndsAt end (left input_old) bytes × ((history : List Entry) → IsOwn (is_msg c) old.seen (made_since start old) history → IsRead s c end bytes (events_of history)))
      → HasRead left faults s c end start new input_old input
  read_ended left faults end input_old input not_closed goes_first made told ended failed counted steady read = record {
    pass = goes_both start old new goes_first goes;
    made = All-since (IsReaders c) start old new goes_first goes
        (All-weaker (λ m. (is_msg c m.1.event ≡ true) ⊎ (m.1.event ≡ Stop)) (IsReaders c) (λ m h. ⊎_elim (λ (k : is_msg c m.1.event ≡ true). inl k) (λ (k : m.1.event ≡ Stop). inr (inr k)) h) (made_since start old) made)
        (All-weaker (λ m. (m.1.event ≡ End c) ⊎ (m.1.event ≡ Stop)) (IsReaders c) (λ m h. inr h) (made_since old new) ending);
    alone = λ e. absurd (not_closed e);
    ended = ended;
    told = told_on s c old new goes end told;
    failed = failed;
    counted = counted;
    steady = steady;
    bytes = read.0;
    reads = read.1;
    at_end = read.2;
    read = λ history own. read.3 history (own_back (is_msg c) start old new goes_first goes (no_message_made c old new ending (is_msg c) refl refl) history own);
  }

-- a writer that did not end the session
pub written_so : (s : Server) (c : ℕ) (start new : Known Entry) {O : Type 0} (held : O → Option (List ℕ)) (unflushed : O → Bool) (faults : O → ℕ) (end : WriteEnd) (output_old output : O) → GoesOn start new
    → All (λ m. (is_take c m.1.event ≡ true) ⊎ (m.1.event ≡ Stop)) (made_since start new) → IsSpent end new
    → (end ≡ writer.WriteFault → Rose (faults output_old) (faults output)) → faults output_old ≤ faults output
    → (end ≡ writer.Done → (unflushed output ≡ false) ⊎ (output ≡ output_old))
    → ((history : List Entry) → IsOwn (is_take c) new.seen (made_since start new) history → IsWritten s c end (held output_old) (held output) (events_of history))
    → HasWritten held unflushed faults s c end start new output_old output
written_so s c start new held unflushed faults end output_old output goes made spent failed counted flushed out = record {
  pass = goes;
  made = All-weaker (λ m. (is_take c m.1.event ≡ true) ⊎ (m.1.event ≡ Stop)) (IsWriters c) (λ m h. ⊎_elim (λ (k : is_take c m.1.event ≡ true). inl k) (λ (k : m.1.event ≡ Stop). inr (inr k)) h) (made_since start new) made;
  ends = inr (inr made);
  spent = spent;
  failed = failed;
  counted = counted;
  flushed = flushed;
  out = out;
}

-- a reader whose session the writer had ended
pub read_closed : (s : Server) (c : ℕ) (start new : Known Entry) {I : Type 0} (left : I → Option (List ℕ)) (faults : I → ℕ) (input_old input : I) → GoesOn start new
    → All (λ m. (is_msg c m.1.event ≡ true) ⊎ (m.1.event ≡ Stop)) (made_since start new) → IsTold s c reader.Closed new
    → faults input ≡ faults input_old
    → ((bytes : List ℕ) × Reads (left input_old) bytes (left input) × EndsAt reader.Closed (left input_old) bytes × ((history : List Entry) → IsOwn (is_msg c) new.seen (made_since start new) history → IsRead s c reader.Closed bytes (events_of history)))
    → HasRead left faults s c reader.Closed start new input_old input
read_closed s c start new left faults input_old input goes made told steady read = record {
  pass = goes;
  made = All-weaker (λ m. (is_msg c m.1.event ≡ true) ⊎ (m.1.event ≡ Stop)) (IsReaders c) (λ m h. ⊎_elim (λ (k : is_msg c m.1.event ≡ true). inl k) (λ (k : m.1.event ≡ Stop). inr (inr k)) h) (made_since start new) made;
  alone = λ e. made;
  ended = inl told;
  told = told;
  failed = λ e. absurd cc;
  counted = omega (arith, steady);
  steady = λ _. steady;
  bytes = read.0;
  reads = read.1;
  at_end = read.2;
  read = read.3;
}

-- the same, of what a closure left
pub read_left : {I : Type 0} (left : I → Option (List ℕ)) (faults : I → ℕ) (s : Server) (c : ℕ) (end : ReadEnd) (start p q : Known Entry) (input_old input input' : I) → HasRead left faults s c end start p input_old input → p ≡ q → input ≡ input'
    → HasRead left faults s c end start q input_old input'
read_left left faults s c end start p q input_old input input' h e f = subst (λ k. HasRead left faults s c end start k input_old input') e (subst (λ i. HasRead left faults s c end start p input_old i) f h)
