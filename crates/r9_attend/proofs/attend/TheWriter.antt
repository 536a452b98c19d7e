-- Steps of the writer.
use Rattle.std.proofs.Common.{◌≡◌, ℕ, ◌+◌, ◌≤◌, Bool, true, false, cond, List, [], ◌∷◌, ◌++◌, length, take, refl, sym, ap, ◌∙◌, subst, arith, append_assoc, ⊎_elim, inl, inr}
use Rattle.std.specs.Prelude.{◌⊎◌, Err, All, Contains, Option, Some}
use Rattle.std.specs.List.{AllByRecursion}
use Rattle.std.specs.Option.{option_map}
use Rattle.std.proofs.Math.Seq.{take-append-add}
use Rattle.std.proofs.lemmas.List.{append-nil, take_all, length-append}
use Rattle.std.proofs.lemmas.List.Elements.{All-nil, All-weaker, Contains-append_left}
use Rattle.std.proofs.lemmas.Bool.{eq-eqb}
use Rattle.r9_event.specs.declared.event.event.Event.{Event}
use Rattle.r9_event.specs.declared.event.event.Event.TheVariants.{Begin, Msg, Take, End, Stop}
use Rattle.r9_event.specs.declared.event.event.Entry.{Entry}
use Rattle.r9_event.specs.declared.event.ask.Ask.TheVariants as ask
use Rattle.r9_event.specs.declared.event.ask.Answer.TheVariants as answer
use Rattle.r9_lock.specs.Passes.{Known, known_of}
use Rattle.r9_outside.specs.outside.Sink.{Appends, AppendsPart}
use Rattle.r9_outside.proofs.outside.Appended.{nothing_put, both_put}
use Rattle.model_history.specs.event.Legal.{Roll, AllowedFrom, IsLegal, roll_after, no_sessions}
use Rattle.model_history.specs.event.Journal.{events_of}
use Rattle.model_served.specs.session.Server.{Server, IsServer, handed, takes_from, takes, is_take, IsOver}
use Rattle.model_served.specs.session.Acts.{Enters}
use Rattle.r9_attend.specs.declared.attend.ends.WriteEnd.{WriteEnd}
use Rattle.r9_attend.specs.declared.attend.ends.WriteEnd.TheVariants.{Done, WriteFault, Memory, Spent, Crowded}
use Rattle.r9_attend.specs.attend.Passes.{GoesOn, made_since, IsOwn, Turned}
use Rattle.r9_attend.specs.attend.Sessions.{IsWritten}
use Rattle.r9_attend.specs.attend.Steps.{IsLooked, IsPut, Writing, IsSpent}
use Rattle.r9_attend.proofs.attend.Growing.{since_none, goes_same, goes_both, All-since, since_is, turn_numbers, seen_entered, seen_stayed, All-entered, All-stayed, Behind, behind, behind_none, own_before, own_back, since_few}
use Rattle.r9_attend.proofs.attend.Served.{events_prefix, events_append}

-- ---- what is taken

module _ (s : Server) (c : ℕ) where
  takes_from-append : (before xs ys : List Event) → takes_from s c before (xs ++ ys) ≡ takes_from s c before xs ++ takes_from s c (before ++ xs) ys
  takes_from-append before [] ys = ap (λ l. takes_from s c l ys) (sym (append-nil before))
  takes_from-append before (x ∷ xs) ys =
      ap (λ l. handed s c before x ++ l) (takes_from-append (before ++ x ∷ []) xs ys ∙ ap (λ l. takes_from s c (before ++ x ∷ []) xs ++ takes_from s c l ys) (append_assoc before (x ∷ []) xs))
      ∙ sym (append_assoc (handed s c before x) (takes_from s c (before ++ x ∷ []) xs) (takes_from s c (before ++ x ∷ xs) ys))

  nothing_handed : (before : List Event) (event : Event) → is_take c event ≡ false → handed s c before event ≡ []
  nothing_handed before (Take d) e = ap (λ (b : Bool). cond b (s.outbox before c) []) e
  nothing_handed before (Begin d) e = refl
  nothing_handed before (Msg d bytes mark) e = refl
  nothing_handed before (End d) e = refl
  nothing_handed before Stop e = refl

  nothing_taken : (before : List Event) (rest : List Entry) → AllByRecursion (λ (x : Entry). is_take c x.event ≡ false) rest → takes_from s c before (events_of rest) ≡ []
  nothing_taken before [] none = refl
  nothing_taken before (x ∷ rest) none =
      ap (λ l. l ++ takes_from s c (before ++ x.event ∷ []) (events_of rest)) (nothing_handed before x.event none.0) ∙ nothing_taken (before ++ x.event ∷ []) rest none.1

  pub takes_behind : (seen history : List Entry) → Behind (is_take c) seen history → takes s c (events_of history) ≡ takes s c (events_of seen)
  takes_behind seen history b =
      ap (takes s c) (ap events_of b.is ∙ events_append seen b.rest) ∙ takes_from-append [] (events_of seen) (events_of b.rest)
      ∙ ap (λ l. takes s c (events_of seen) ++ l) (nothing_taken (events_of seen) b.rest b.none) ∙ append-nil (takes s c (events_of seen))

  pub takes_more : (events : List Event) → takes s c (events ++ Take c ∷ []) ≡ takes s c events ++ s.outbox events c
  takes_more events =
      takes_from-append [] events (Take c ∷ [])
      ∙ ap (λ l. takes s c events ++ l) (append-nil (handed s c events (Take c)) ∙ ap (λ (b : Bool). cond b (s.outbox events c) []) (eq-eqb c c refl))

  -- ---- once a session is over it gets no reply

  module _ (lawful : IsServer s) where
    still_over : (events : List Event) (event : Event) → IsOver s events c → IsOver s (events ++ event ∷ []) c
    still_over events event over = ⊎_elim
        (λ (h : Contains events (End c)). inl (Contains-append_left events (event ∷ []) (End c) h))
        (λ (h : (tag : ℕ) × (s.closed events c ≡ Some tag)). inr (h.0, lawful.stays events event c h.0 h.1))
        over

    legal_front : (roll : Roll) (xs ys : List Event) → AllowedFrom roll (xs ++ ys) → AllowedFrom roll xs
    legal_front roll [] ys legal = tt
    legal_front roll (x ∷ xs) ys legal = (legal.0, legal_front (roll_after roll x) xs ys legal.1)

    quiet_from : (before events : List Event) → IsLegal (before ++ events) → IsOver s before c → s.replied (before ++ events) c ≡ s.replied before c
    quiet_from before [] legal over = ap (λ l. s.replied l c) (append-nil before)
    quiet_from before (e ∷ events) legal over =
        let same : before ++ (e ∷ events) ≡ (before ++ e ∷ []) ++ events = sym (append_assoc before (e ∷ []) events) in
        let legal' : IsLegal ((before ++ e ∷ []) ++ events) = subst IsLegal same legal in
        ap (λ l. s.replied l c) same
        ∙ quiet_from (before ++ e ∷ []) events legal' (still_over before e over)
        ∙ lawful.quiet before e c (legal_front no_sessions (before ++ e ∷ []) events legal') over

    over_behind : (events rest : List Event) → IsOver s events c → IsOver s (events ++ rest) c
    over_behind events [] over = subst (λ l. IsOver s l c) (sym (append-nil events)) over
    over_behind events (e ∷ rest) over = subst (λ l. IsOver s l c) (append_assoc events (e ∷ []) rest) (over_behind (events ++ e ∷ []) rest (still_over events e over))

    all_taken : (seen history : List Entry) → Behind (is_take c) seen history → s.outbox (events_of seen) c ≡ [] → IsOver s (events_of seen) c → IsLegal (events_of history) → s.replied (events_of history) c ≡ takes s c (events_of history)
    all_taken seen history b empty over legal =
        let is : events_of history ≡ events_of seen ++ events_of b.rest = ap events_of b.is ∙ events_append seen b.rest in
        ap (λ l. s.replied l c) is ∙ quiet_from (events_of seen) (events_of b.rest) (subst IsLegal is legal) over
        ∙ lawful.all (events_of seen) c ∙ ap (λ l. takes s c (events_of seen) ++ l) empty ∙ append-nil (takes s c (events_of seen))
        ∙ sym (takes_behind seen history b)

-- ---- bytes put

pub all_part : (before after : Option (List ℕ)) (piece : List ℕ) → Appends before piece after → AppendsPart before piece after
all_part before after piece put = (length piece, omega arith, put ∙ ap (λ p. option_map (λ held. held ++ p) before) (sym (take_all (length piece) piece (omega arith))))

part_more : (before mid after : Option (List ℕ)) (xs ys : List ℕ) → Appends before xs mid → AppendsPart mid ys after → AppendsPart before (xs ++ ys) after
part_more before mid after xs ys put part = (
  length xs + part.0,
  (let l = part.1 in omega (arith, length-append xs ys)),
  both_put before xs (take part.0 ys) mid after put part.2 ∙ ap (λ p. option_map (λ held. held ++ p) before) (sym (take-append-add xs ys part.0)),
)

module _ (s : Server) (lawful : IsServer s) (c : ℕ) where
  pub writing_first : (p : Known Entry) (held : Option (List ℕ)) → Writing s c p p held held
  writing_first p held = record {
    pass = goes_same p;
    made = subst (All (λ m. is_take c m.1.event ≡ true)) (sym (since_none p)) (All-nil (λ m. is_take c m.1.event ≡ true));
    so_far = λ history own. subst (λ l. Appends held l held) (sym (nothing_taken s c [] history (behind_none (is_take c) p history own))) (nothing_put held);
  }

  module _ (start old : Known Entry) (held_old held : Option (List ℕ)) (w : Writing s c start old held_old held) where
    -- after a wait
    pub writing_waited : (new : Known Entry) → new ≡ known_of old new.least → old.least ≤ new.least → Writing s c start new held_old held
    writing_waited new is more = subst (λ n. Writing s c start n held_old held) (sym is) record {
      pass = record { lock = w.pass.lock; shares = w.pass.shares; least = let l = w.pass.least in omega arith; seen = w.pass.seen; made = w.pass.made };
      made = w.made;
      so_far = w.so_far;
    }

    module _ (new : Known Entry) (goes : GoesOn old new) where
      -- nothing was taken in a turn
      silent : All (λ m. is_take c m.1.event ≡ false) (made_since old new) → (history : List Entry) → IsOwn (is_take c) new.seen (made_since start new) history → Appends held_old (takes s c (events_of history)) held
      silent none history own = w.so_far history (own_back (is_take c) start old new w.pass goes none history own)

      pub writing_nothing : Turned s (ask.Look c) answer.Nothing old new → Writing s c start new held_old held
      writing_nothing t = record {
        pass = goes_both start old new w.pass goes;
        made = All-since (λ m. is_take c m.1.event ≡ true) start old new w.pass goes w.made (All-stayed s (ask.Look c) answer.Nothing old new t (λ m. is_take c m.1.event ≡ true) t.may.0.same);
        so_far = silent (All-stayed s (ask.Look c) answer.Nothing old new t (λ m. is_take c m.1.event ≡ false) t.may.0.same);
      }

      -- a piece was taken
      module _ (bytes : List ℕ) (t : Turned s (ask.Look c) (answer.Taken bytes) old new) where
        taken_made : All (λ m. is_take c m.1.event ≡ true) (made_since start new)
        taken_made = All-since (λ m. is_take c m.1.event ≡ true) start old new w.pass goes w.made
            (All-entered s (ask.Look c) (answer.Taken bytes) old new t (λ m. is_take c m.1.event ≡ true) (Take c) t.may.0 (λ n. eq-eqb c c refl))

        pub put_made : All (λ m. (is_take c m.1.event ≡ true) ⊎ (m.1.event ≡ Stop)) (made_since start new)
        put_made = All-weaker (λ m. is_take c m.1.event ≡ true) (λ m. (is_take c m.1.event ≡ true) ⊎ (m.1.event ≡ Stop)) (λ m h. inl h) (made_since start new) taken_made

        taken_before : (history : List Entry) → IsOwn (is_take c) new.seen (made_since start new) history
            → Appends held_old (takes s c (events_of t.before)) held × (takes s c (events_of history) ≡ takes s c (events_of t.before) ++ bytes)
        taken_before history own =
            let b = behind (is_take c) new.seen (made_since start new) history (since_few (is_take c) start new (length new.seen) (turn_numbers s (ask.Look c) (answer.Taken bytes) old new t)) own in (
              w.so_far t.before (own_before (is_take c) s (ask.Look c) (answer.Taken bytes) start old new t w.pass goes history own),
              takes_behind s c new.seen history b ∙ ap (takes s c) (seen_entered s (ask.Look c) (answer.Taken bytes) old new t (Take c) t.may.0)
                  ∙ takes_more s c (events_of t.before) ∙ ap (λ l. takes s c (events_of t.before) ++ l) (sym t.may.1),
            )

        pub writing_put : (held_then : Option (List ℕ)) → Appends held bytes held_then → Writing s c start new held_old held_then
        writing_put held_then put = record {
          pass = goes_both start old new w.pass goes;
          made = taken_made;
          so_far = λ history own. let b = taken_before history own in
              subst (λ l. Appends held_old l held_then) (sym b.1) (both_put held_old (takes s c (events_of t.before)) bytes held held_then b.0 put);
        }

        pub put_written : (end : WriteEnd) (held_then : Option (List ℕ)) (unflushed : Bool) → IsPut held bytes held_then unflushed (Some end) → (history : List Entry) → IsOwn (is_take c) new.seen (made_since start new) history
            → IsWritten s c end held_old held_then (events_of history)
        put_written end held_then unflushed put history own = go end put
          where
            part : AppendsPart held bytes held_then → AppendsPart held_old (takes s c (events_of history)) held_then
            part p = let b = taken_before history own in subst (λ l. AppendsPart held_old l held_then) (sym b.1) (part_more held_old held held_then (takes s c (events_of t.before)) bytes b.0 p)

            go : (end : WriteEnd) → IsPut held bytes held_then unflushed (Some end) → IsWritten s c end held_old held_then (events_of history)
            go WriteFault p = part p
            go Memory p = part p
            go Done p = absurd p
            go (Spent count) p = absurd p
            go Crowded p = absurd p

      -- ---- the ends that a turn answers

      abbrev Made : ℕ × Entry → Type 0
      Made m = (is_take c m.1.event ≡ true) ⊎ (m.1.event ≡ Stop)

      pub looked_made : (end : WriteEnd) → IsLooked s c (Err end) old new → All Made (made_since start new)
      looked_made end t = All-since Made start old new w.pass goes (All-weaker (λ m. is_take c m.1.event ≡ true) Made (λ m h. inl h) (made_since start old) w.made) (go end t)
        where
          go : (end : WriteEnd) → IsLooked s c (Err end) old new → All Made (made_since old new)
          go Done t = All-stayed s (ask.Look c) answer.Over old new t Made t.may.0.same
          go Memory t = ⊎_elim
              (λ (h : t.before ++ t.entry ≡ t.before). All-stayed s (ask.Look c) answer.Memory old new t Made h)
              (λ (h : Enters Stop t.before (t.before ++ t.entry)). All-entered s (ask.Look c) answer.Memory old new t Made Stop h (λ n. inr refl))
              t.may
          go (Spent count) t = subst (All Made) (sym (since_is old new [] (t.made ∙ sym (append-nil old.made)))) (All-nil Made)
          go WriteFault t = absurd t
          go Crowded t = absurd t

      pub looked_spent : (end : WriteEnd) → IsLooked s c (Err end) old new → IsSpent end new
      looked_spent (Spent count) t = (t.large, t.least)
      looked_spent Done t = tt
      looked_spent Memory t = tt
      looked_spent WriteFault t = tt
      looked_spent Crowded t = t

      pub looked_written : (end : WriteEnd) → IsLooked s c (Err end) old new → (history : List Entry) → IsOwn (is_take c) new.seen (made_since start new) history → IsWritten s c end held_old held (events_of history)
      looked_written Done t history own =
          let put = silent (All-stayed s (ask.Look c) answer.Over old new t (λ m. is_take c m.1.event ≡ false) t.may.0.same) history own in
          let b = behind (is_take c) new.seen (made_since start new) history (since_few (is_take c) start new (length new.seen) (turn_numbers s (ask.Look c) answer.Over old new t)) own in
          let same = seen_stayed s (ask.Look c) answer.Over old new t t.may.0.same in
          let over : IsOver s (events_of new.seen) c = subst (λ l. IsOver s (events_of l) c) (sym same) t.may.2 in (
            put,
            subst (λ l. IsOver s l c) (sym (events_prefix own.begins).is) (over_behind s c lawful (events_of new.seen) (events_prefix own.begins).rest over),
            all_taken s c lawful new.seen history b (subst (λ l. s.outbox (events_of l) c ≡ []) (sym same) t.may.1) over,
          )
      looked_written Memory t history own =
          all_part held_old held (takes s c (events_of history)) (silent (⊎_elim
          (λ (h : t.before ++ t.entry ≡ t.before). All-stayed s (ask.Look c) answer.Memory old new t (λ m. is_take c m.1.event ≡ false) h)
          (λ (h : Enters Stop t.before (t.before ++ t.entry)). All-entered s (ask.Look c) answer.Memory old new t (λ m. is_take c m.1.event ≡ false) Stop h (λ n. refl))
          t.may) history own)
      looked_written (Spent count) t history own = silent (subst (All (λ m. is_take c m.1.event ≡ false)) (sym (since_is old new [] (t.made ∙ sym (append-nil old.made)))) (All-nil (λ m. is_take c m.1.event ≡ false))) history own
      looked_written WriteFault t history own = absurd t
      looked_written Crowded t history own = absurd t

pub put_spent : (before : Option (List ℕ)) (piece : List ℕ) (after : Option (List ℕ)) (unflushed : Bool) (pass : Known Entry) (end : WriteEnd) → IsPut before piece after unflushed (Some end) → IsSpent end pass
put_spent before piece after unflushed pass WriteFault p = tt
put_spent before piece after unflushed pass Memory p = tt
put_spent before piece after unflushed pass Done p = absurd p
put_spent before piece after unflushed pass (Spent count) p = absurd p
put_spent before piece after unflushed pass Crowded p = p
