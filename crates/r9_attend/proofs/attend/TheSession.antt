-- A session from its begin on.
use Rattle.std.proofs.Common.{◌≡◌, ℕ, zero, suc, ◌+◌, ◌<◌, Bool, true, false, List, [], ◌∷◌, ◌++◌, length, refl, sym, ap, ◌∙◌, subst, arith, ⊎_elim, inl, inr}
use Rattle.std.specs.Prelude.{◌⊎◌, Option, All, Contains}
use Rattle.std.proofs.lemmas.List.{append-nil}
use Rattle.std.proofs.lemmas.List.Elements.{All-weaker, All-append, All-nil, All-contains, Contains-append_left, Contains-append_right, Contains-append_cases}
use Rattle.std.proofs.lemmas.Bool.{eq-eqb}
use Rattle.atomic_table.specs.Seated.{TableId}
use Rattle.r9_event.specs.declared.event.event.Event.{Event}
use Rattle.r9_event.specs.declared.event.event.Event.TheVariants.{Begin, Msg, Take, End, Stop}
use Rattle.r9_event.specs.declared.event.event.Entry.{Entry}
use Rattle.r9_event.specs.declared.event.ask.Ask.TheVariants as ask
use Rattle.r9_event.specs.declared.event.ask.Answer.TheVariants as answer
use Rattle.r9_lock.specs.Histories.{numbered}
use Rattle.r9_lock.specs.Passes.{Known}
use Rattle.model_history.specs.event.Journal.{events_of}
use Rattle.model_served.specs.session.Server.{Server, is_of, is_msg, is_take}
use Rattle.model_served.specs.session.Acts.{Enters}
use Rattle.r9_attend.specs.declared.attend.ends.ReadEnd.{ReadEnd}
use Rattle.r9_attend.specs.declared.attend.ends.ReadEnd.TheVariants as reader
use Rattle.r9_attend.specs.declared.attend.ends.WriteEnd.{WriteEnd}
use Rattle.r9_attend.specs.declared.attend.ends.WriteEnd.TheVariants as writer
use Rattle.r9_attend.specs.attend.Passes.{GoesOn, made_since, IsOwn, Turned}
use Rattle.r9_attend.specs.attend.Sessions.{Reads, EndsAt, IsRead, IsWritten, IsReaders, IsWriters, IsSessions, IsMade, IsTheirs, IsReady}
use Rattle.r9_attend.specs.attend.Steps.{HasRead, HasWritten, IsTold, NotBegun, HasBegun}
use Rattle.r9_lock.proofs.Lists.{Contains-numbered}
use Rattle.r9_attend.proofs.attend.Growing.{since_is, since_two, goes_both, turn_made, turn_entered, seen_entered, All-entered, All-stayed}

msg_of : (c : ℕ) (event : Event) → is_msg c event ≡ true → is_of c event ≡ true
msg_of c (Msg d bytes mark) e = e
msg_of c (Begin d) e = absurd cc
msg_of c (Take d) e = absurd cc
msg_of c (End d) e = absurd cc
msg_of c Stop e = absurd cc

take_of : (c : ℕ) (event : Event) → is_take c event ≡ true → is_of c event ≡ true
take_of c (Take d) e = e
take_of c (Begin d) e = absurd cc
take_of c (Msg d bytes mark) e = absurd cc
take_of c (End d) e = absurd cc
take_of c Stop e = absurd cc

msg_no_take : (c : ℕ) (event : Event) → is_msg c event ≡ true → is_take c event ≡ true → ⊥
msg_no_take c (Msg d bytes mark) e f = absurd cc
msg_no_take c (Begin d) e f = absurd cc
msg_no_take c (Take d) e f = absurd cc
msg_no_take c (End d) e f = absurd cc
msg_no_take c Stop e f = absurd cc

other : (such : Event → Bool) (event is : Event) → such is ≡ false → event ≡ is → such event ≡ true → ⊥
other such event is none e passes = let wrong : true ≡ false = sym passes ∙ ap such e ∙ none in absurd cc

-- an event of a history with its number
numbered_event : (n : ℕ) (xs : List Entry) (event : Event) → Contains (events_of xs) event → (m : ℕ × Entry) × Contains (numbered n xs) m × (m.1.event ≡ event)
numbered_event n [] event h = let k : h.0 < 0 = h.1 in absurd (omega arith)
numbered_event n (x ∷ xs) event h = go (λ k. numbered_event (n + 1) xs event k) (Contains-append_cases (x.event ∷ []) (events_of xs) event h)
  where
    here : Contains (x.event ∷ []) event → x.event ≡ event
    here (zero, within, is) = is
    here (suc k, within, is) = absurd (omega arith)

    go : (Contains (events_of xs) event → (m : ℕ × Entry) × Contains (numbered (n + 1) xs) m × (m.1.event ≡ event)) → Contains (x.event ∷ []) event ⊎ Contains (events_of xs) event
        → (m : ℕ × Entry) × Contains (numbered n (x ∷ xs)) m × (m.1.event ≡ event)
    go later (inl k) = ((n, x), (zero, omega arith, refl), here k)
    go later (inr k) = let r = later k in (r.0, Contains-append_right ((n, x) ∷ []) (numbered (n + 1) xs) r.0 r.1, r.2)

only_begin : (s : Server) (c : ℕ) (old new : Known Entry) (t : Turned s ask.Begin (answer.Began c) old new) → made_since old new ≡ (length t.before + 1, record { number = length t.before + 1; event = Begin c }) ∷ []
only_begin s c old new t = turn_made s ask.Begin (answer.Began c) old new t ∙ ap (numbered (length t.before + 1)) (turn_entered s ask.Begin (answer.Began c) old new t (Begin c) t.may)

-- a session that began in a turn has its begin among what the pass made
pub begin_made : (s : Server) (c : ℕ) (old new : Known Entry) → HasBegun s c old new → IsMade (made_since old new) (Begin c)
begin_made s c old new h =
    let t = h.turn in
    let first : ℕ × Entry = (length t.before + 1, record { number = length t.before + 1; event = Begin c }) in
    let both = since_two old h.begun new (record { rest = numbered (length t.before + 1) t.entry; is = t.made }) h.on.made in
    let here : Contains (made_since old h.begun) first = subst (λ l. Contains l first) (sym (only_begin s c old h.begun t)) (zero, omega arith, refl) in
    (first, subst (λ l. Contains l first) (sym both) (Contains-append_left (made_since old h.begun) (made_since h.begun new) first here), refl)

module _ (s : Server) (c : ℕ) (r₀ r₁ r₂ w₀ w₁ : Known Entry) (t : Turned s ask.Begin (answer.Began c) r₀ r₁) (g : GoesOn r₀ r₁) where
  begun_made : made_since r₀ r₁ ≡ (length t.before + 1, record { number = length t.before + 1; event = Begin c }) ∷ []
  begun_made = only_begin s c r₀ r₁ t

  pub begun_ready : (id : TableId) → r₀.lock ≡ id → IsReady id c r₁
  begun_ready id e = record {
    lock = g.lock ∙ e;
    begun = subst (λ l. Contains l (Begin c)) (sym (seen_entered s ask.Begin (answer.Began c) r₀ r₁ t (Begin c) t.may)) (Contains-append_right (events_of t.before) (Begin c ∷ []) (Begin c) (zero, omega arith, refl));
  }

  module _ {I O : Type 0} (left : I → Option (List ℕ)) (faults : I → ℕ) (held : O → Option (List ℕ)) (unflushed : O → Bool) (faults' : O → ℕ) (read : ReadEnd) (written : WriteEnd) (in₀ in₁ : I) (out₀ out₁ : O)
      (hr : HasRead left faults s c read r₁ r₂ in₀ in₁) (hw : HasWritten held unflushed faults' s c written w₀ w₁ out₀ out₁) where
    all_made : made_since r₀ r₂ ≡ made_since r₀ r₁ ++ made_since r₁ r₂
    all_made = since_two r₀ r₁ r₂ g.made hr.pass.made

    pub both_go : GoesOn r₀ r₂ × GoesOn w₀ w₁
    both_go = (goes_both r₀ r₁ r₂ g hr.pass, hw.pass)

    pub began : HasBegun s c r₀ r₂
    began = record { begun = r₁; turn = t; on = hr.pass }

    pub made_theirs : All (IsSessions c) (made_since r₀ r₂) × All (IsSessions c) (made_since w₀ w₁)
    made_theirs = (
      subst (All (IsSessions c)) (sym all_made) (All-append (IsSessions c) (made_since r₀ r₁) (made_since r₁ r₂)
          (All-entered s ask.Begin (answer.Began c) r₀ r₁ t (IsSessions c) (Begin c) t.may (λ n. inl (eq-eqb c c refl)))
          (All-weaker (IsReaders c) (IsSessions c) (λ m h. ⊎_elim (λ (k : is_msg c m.1.event ≡ true). inl (msg_of c m.1.event k))
          (λ (k : (m.1.event ≡ End c) ⊎ (m.1.event ≡ Stop)). ⊎_elim (λ (e : m.1.event ≡ End c). inl (ap (is_of c) e ∙ eq-eqb c c refl)) (λ (e : m.1.event ≡ Stop). inr e) k) h) (made_since r₁ r₂) hr.made)),
      All-weaker (IsWriters c) (IsSessions c) (λ m h. ⊎_elim (λ (k : is_take c m.1.event ≡ true). inl (take_of c m.1.event k))
          (λ (k : (m.1.event ≡ End c) ⊎ (m.1.event ≡ Stop)). ⊎_elim (λ (e : m.1.event ≡ End c). inl (ap (is_of c) e ∙ eq-eqb c c refl)) (λ (e : m.1.event ≡ Stop). inr e) k) h) (made_since w₀ w₁) hw.made,
    )

    -- an entry of the session is the begin, the reader's, or the writer's
    which : (history : List Entry) → IsTheirs c r₀ r₂ w₀ w₁ history → (m : ℕ × Entry) → Contains (numbered 1 history) m → is_of c m.1.event ≡ true
        → (m.1.event ≡ Begin c) ⊎ (Contains (made_since r₁ r₂) m ⊎ Contains (made_since w₀ w₁) m)
    which history own m has e = ⊎_elim
        (λ (h : Contains (made_since r₀ r₂) m). ⊎_elim
        (λ (k : Contains (made_since r₀ r₁) m). inl (first (subst (λ l. Contains l m) begun_made k)))
        (λ (k : Contains (made_since r₁ r₂) m). inr (inl k))
        (Contains-append_cases (made_since r₀ r₁) (made_since r₁ r₂) m (subst (λ l. Contains l m) all_made h)))
        (λ (h : Contains (made_since w₀ w₁) m). inr (inr h))
        (Contains-append_cases (made_since r₀ r₂) (made_since w₀ w₁) m (own.theirs m has e))
      where
        first : Contains ((length t.before + 1, record { number = length t.before + 1; event = Begin c }) ∷ []) m → m.1.event ≡ Begin c
        first (zero, within, is) = ap (λ (z : ℕ × Entry). z.1.event) (sym is)
        first (suc k, within, is) = absurd (omega arith)

    readers_own : (history : List Entry) → IsTheirs c r₀ r₂ w₀ w₁ history → IsOwn (is_msg c) r₂.seen (made_since r₁ r₂) history
    readers_own history own = record {
      begins = own.reader_seen;
      own = λ m has e. ⊎_elim
          (λ (h : m.1.event ≡ Begin c). absurd (other (is_msg c) m.1.event (Begin c) refl h e))
          (λ (h : Contains (made_since r₁ r₂) m ⊎ Contains (made_since w₀ w₁) m). ⊎_elim (λ (k : Contains (made_since r₁ r₂) m). k)
          (λ (k : Contains (made_since w₀ w₁) m). absurd (no_writer m e (All-contains (IsWriters c) (made_since w₀ w₁) m hw.made k))) h)
          (which history own m has (msg_of c m.1.event e));
    }
      where
        no_writer : (m : ℕ × Entry) → is_msg c m.1.event ≡ true → IsWriters c m → ⊥
        no_writer m e w = ⊎_elim (λ (k : is_take c m.1.event ≡ true). msg_no_take c m.1.event e k)
            (λ (k : (m.1.event ≡ End c) ⊎ (m.1.event ≡ Stop)). ⊎_elim (λ (f : m.1.event ≡ End c). other (is_msg c) m.1.event (End c) refl f e) (λ (f : m.1.event ≡ Stop). other (is_msg c) m.1.event Stop refl f e) k) w

    writers_own : (history : List Entry) → IsTheirs c r₀ r₂ w₀ w₁ history → IsOwn (is_take c) w₁.seen (made_since w₀ w₁) history
    writers_own history own = record {
      begins = own.writer_seen;
      own = λ m has e. ⊎_elim
          (λ (h : m.1.event ≡ Begin c). absurd (other (is_take c) m.1.event (Begin c) refl h e))
          (λ (h : Contains (made_since r₁ r₂) m ⊎ Contains (made_since w₀ w₁) m). ⊎_elim
          (λ (k : Contains (made_since r₁ r₂) m). absurd (no_reader m e (All-contains (IsReaders c) (made_since r₁ r₂) m hr.made k)))
          (λ (k : Contains (made_since w₀ w₁) m). k) h)
          (which history own m has (take_of c m.1.event e));
    }
      where
        no_reader : (m : ℕ × Entry) → is_take c m.1.event ≡ true → IsReaders c m → ⊥
        no_reader m e w = ⊎_elim (λ (k : is_msg c m.1.event ≡ true). msg_no_take c m.1.event k e)
            (λ (k : (m.1.event ≡ End c) ⊎ (m.1.event ≡ Stop)). ⊎_elim (λ (f : m.1.event ≡ End c). other (is_take c) m.1.event (End c) refl f e) (λ (f : m.1.event ≡ Stop). other (is_take c) m.1.event Stop refl f e) k) w

    pub all_told : IsTold s c read r₂
    all_told = hr.told

    pub theirs_read : (bytes : List ℕ) × Reads (left in₀) bytes (left in₁) × EndsAt read (left in₀) bytes × ((history : List Entry) → IsTheirs c r₀ r₂ w₀ w₁ history → IsRead s c read bytes (events_of history))
    theirs_read = (hr.bytes, hr.reads, hr.at_end, λ history own. hr.read history (readers_own history own))

    pub theirs_written : (history : List Entry) → IsTheirs c r₀ r₂ w₀ w₁ history → IsWritten s c written (held out₀) (held out₁) (events_of history)
    theirs_written history own = hw.out history (writers_own history own)

    -- a closed session was ended by the writer
    pub theirs_closed : read ≡ reader.Closed → (history : List Entry) → IsTheirs c r₀ r₂ w₀ w₁ history → IsMade (made_since w₀ w₁) (End c) × ((written ≡ writer.WriteFault) ⊎ (written ≡ writer.Memory))
    theirs_closed e history own =
        let at = numbered_event 1 r₂.seen (End c) (subst (λ end. IsTold s c end r₂) e hr.told) in
        let in_history = Contains-numbered 1 own.reader_seen at.0 at.1 in
        let made : Contains (made_since w₀ w₁) at.0 = ⊎_elim
        (λ (h : at.0.1.event ≡ Begin c). let wrong : End c ≡ Begin c = sym at.2 ∙ h in absurd cc)
        (λ (h : Contains (made_since r₁ r₂) at.0 ⊎ Contains (made_since w₀ w₁) at.0). ⊎_elim
        (λ (k : Contains (made_since r₁ r₂) at.0). absurd (no_end (is_msg c) at.0.1.event refl at.2 (All-contains (λ m. (is_msg c m.1.event ≡ true) ⊎ (m.1.event ≡ Stop)) (made_since r₁ r₂) at.0 (hr.alone e) k)))
        (λ (k : Contains (made_since w₀ w₁) at.0). k) h)
        (which history own at.0 in_history (ap (is_of c) at.2 ∙ eq-eqb c c refl)) in (
          (at.0, made, at.2),
          ⊎_elim
              (λ (h : written ≡ writer.WriteFault). inl h)
              (λ (h : (written ≡ writer.Memory) ⊎ All (λ m. (is_take c m.1.event ≡ true) ⊎ (m.1.event ≡ Stop)) (made_since w₀ w₁)). ⊎_elim (λ (k : written ≡ writer.Memory). inr k)
              (λ (k : All (λ m. (is_take c m.1.event ≡ true) ⊎ (m.1.event ≡ Stop)) (made_since w₀ w₁)).
              absurd (no_end (is_take c) at.0.1.event refl at.2 (All-contains (λ m. (is_take c m.1.event ≡ true) ⊎ (m.1.event ≡ Stop)) (made_since w₀ w₁) at.0 k made))) h)
              hw.ends,
        )
      where
        no_end : (such : Event → Bool) (event : Event) → such (End c) ≡ false → event ≡ End c → (such event ≡ true) ⊎ (event ≡ Stop) → ⊥
        no_end such event none is h = ⊎_elim (λ (k : such event ≡ true). other such event (End c) none is k) (λ (k : event ≡ Stop). let wrong : End c ≡ Stop = sym is ∙ k in absurd cc) h

-- ---- no session

module _ (s : Server) (old new : Known Entry) where
  abbrev IsStop : ℕ × Entry → Type 0
  IsStop m = m.1.event ≡ Stop

  pub none_read : (end : WriteEnd) → NotBegun s reader.ReadFault end old new → ⊥
  none_read end h = h

  pub none_written : (end : ReadEnd) → NotBegun s end writer.WriteFault old new → ⊥
  none_written reader.Crowded h = h
  none_written reader.Memory h = h
  none_written (reader.Spent n) h = h
  none_written reader.Ended h = h
  none_written (reader.Cut n) h = h
  none_written (reader.BadSize n) h = h
  none_written (reader.Duplicate n) h = h
  none_written reader.ReadFault h = h
  none_written reader.Closed h = h

  pub none_made : (end : ReadEnd) (end' : WriteEnd) → NotBegun s end end' old new → All IsStop (made_since old new)
  none_made reader.Crowded writer.Crowded t = All-stayed s ask.Begin answer.Crowded old new t IsStop t.may.0.same
  none_made reader.Memory writer.Memory t = ⊎_elim
      (λ (h : t.before ++ t.entry ≡ t.before). All-stayed s ask.Begin answer.Memory old new t IsStop h)
      (λ (h : Enters Stop t.before (t.before ++ t.entry)). All-entered s ask.Begin answer.Memory old new t IsStop Stop h (λ n. refl))
      t.may
  none_made (reader.Spent n) (writer.Spent m) t = subst (All IsStop) (sym (since_is old new [] (t.1.made ∙ sym (append-nil old.made)))) (All-nil IsStop)
  none_made reader.Crowded writer.Done t = absurd t
  none_made reader.Crowded writer.WriteFault t = absurd t
  none_made reader.Crowded writer.Memory t = absurd t
  none_made reader.Crowded (writer.Spent m) t = absurd t
  none_made reader.Memory writer.Done t = absurd t
  none_made reader.Memory writer.WriteFault t = absurd t
  none_made reader.Memory writer.Crowded t = absurd t
  none_made reader.Memory (writer.Spent m) t = absurd t
  none_made (reader.Spent n) writer.Done t = absurd t
  none_made (reader.Spent n) writer.WriteFault t = absurd t
  none_made (reader.Spent n) writer.Crowded t = absurd t
  none_made (reader.Spent n) writer.Memory t = absurd t
  none_made reader.Ended w t = absurd t
  none_made (reader.Cut n) w t = absurd t
  none_made (reader.BadSize n) w t = absurd t
  none_made (reader.Duplicate n) w t = absurd t
  none_made reader.ReadFault w t = absurd t
  none_made reader.Closed w t = absurd t
