-- Whole messages, without a fault, lead to plain ends.
use Rattle.std.proofs.Common.{◌≡◌, ℕ, List, [], ◌∷◌, ◌++◌, length, drop, refl, sym, ap, ◌∙◌, subst, append_assoc, ⊎_elim, inl, inr}
use Rattle.std.specs.Prelude.{◌⊎◌, Option, Some}
use Rattle.std.specs.List.{concat}
use Rattle.std.proofs.Math.Seq.{drop-append_seam}
use Rattle.std.proofs.lemmas.List.{append-nil, append_cancel_left, drop-append-le}
use Rattle.std.proofs.lemmas.List.Folds.{concat-append}
use Rattle.r9_event.specs.declared.event.event.Event.{Event}
use Rattle.r9_lock.specs.Passes.{Known}
use Rattle.r9_event.specs.declared.event.event.Entry.{Entry}
use Rattle.model_files.specs.frame.Frame.{Cut, Frame, NeedMore, BadSize, first}
use Rattle.model_files.specs.frame.Stream.{messages, messages_from}
use Rattle.model_files.proofs.frame.Laws.{frame_stays, frame_within, bad_stays}
use Rattle.model_files.proofs.frame.StreamLaws.{messages_begin}
use Rattle.model_served.specs.session.Server.{Server, messages_of}
use Rattle.r9_attend.specs.declared.attend.ends.ReadEnd.{ReadEnd}
use Rattle.r9_attend.specs.declared.attend.ends.ReadEnd.TheVariants as reader
use Rattle.r9_attend.specs.declared.attend.ends.WriteEnd.{WriteEnd}
use Rattle.r9_attend.specs.declared.attend.ends.WriteEnd.TheVariants as writer
use Rattle.r9_attend.specs.attend.Sessions.{Reads, EndsAt, IsRead, IsPlain, RanOut, RanOutWriting, EndsPlainly}
use Rattle.r9_attend.specs.attend.Steps.{IsTold, IsSpent}

module _ (limit : List (List ℕ) → ℕ) where
  -- a front of a stream whose messages are these has them at the front of all that follows
  pub goes_on : (before sent : List (List ℕ)) (held more : List ℕ) → messages limit before (concat sent ++ held) ≡ sent
      → messages limit before ((concat sent ++ held) ++ more) ≡ sent ++ messages limit (before ++ sent) (held ++ more)
  goes_on before [] held more e = ap (λ b. messages limit b (held ++ more)) (sym (append-nil before))
  goes_on before (frame ∷ sent) held more e =
      go (λ rest. goes_on (before ++ frame ∷ []) sent held more rest) (first (limit before) bytes) refl (sym (messages_begin limit before bytes) ∙ e)
    where
      bytes : List ℕ
      bytes = concat (frame ∷ sent) ++ held

      parts : bytes ≡ frame ++ (concat sent ++ held)
      parts = ap (λ l. l ++ held) (concat-append (frame ∷ []) sent ∙ ap (λ l. l ++ concat sent) (append-nil frame)) ∙ append_assoc frame (concat sent) held

      behind : drop (length frame) bytes ≡ concat sent ++ held
      behind = ap (drop (length frame)) parts ∙ drop-append_seam frame (concat sent ++ held)

      Behind : Type 0
      Behind = messages limit (before ++ frame ∷ []) (concat sent ++ held) ≡ sent
          → messages limit (before ++ frame ∷ []) ((concat sent ++ held) ++ more) ≡ sent ++ messages limit ((before ++ frame ∷ []) ++ sent) (held ++ more)

      go : Behind → (cut : Cut) → first (limit before) bytes ≡ cut → messages_from limit before bytes cut ≡ frame ∷ sent
          → messages limit before (bytes ++ more) ≡ (frame ∷ sent) ++ messages limit (before ++ frame ∷ sent) (held ++ more)
      go on NeedMore is e = absurd cc
      go on (BadSize size) is e = absurd cc
      go on (Frame f) is e =
          let same : f ≡ frame = cc in
          let is' : first (limit before) bytes ≡ Frame frame = is ∙ ap Frame same in
          let rest : messages limit (before ++ f ∷ []) (drop (length f) bytes) ≡ sent = cc in
          let rest' : messages limit (before ++ frame ∷ []) (concat sent ++ held) ≡ sent =
          ap (messages limit (before ++ frame ∷ [])) (sym behind) ∙ ap (λ k. messages limit (before ++ k ∷ []) (drop (length k) bytes)) (sym same) ∙ rest in
          messages_begin limit before (bytes ++ more)
          ∙ ap (messages_from limit before (bytes ++ more)) (frame_stays (limit before) bytes more frame is')
          ∙ ap (λ l. frame ∷ messages limit (before ++ frame ∷ []) l) (drop-append-le (length frame) bytes more (frame_within (limit before) bytes frame is') ∙ ap (λ l. l ++ more) behind)
          ∙ ap (λ l. frame ∷ l) (on rest')
          ∙ ap (λ b. frame ∷ (sent ++ messages limit b (held ++ more))) (append_assoc before (frame ∷ []) sent)

  -- nothing is held behind all messages of bytes that are whole messages
  pub none_held : (sent : List (List ℕ)) (held : List ℕ) → messages limit [] (concat sent ++ held) ≡ sent → concat (messages limit [] (concat sent ++ held)) ≡ concat sent ++ held → held ≡ []
  none_held sent held all whole = sym (append_cancel_left (concat sent) [] held (append-nil (concat sent) ∙ ap concat (sym all) ∙ whole))

  pub needs : (most : ℕ) → first most [] ≡ NeedMore
  unfolding first
  needs most = refl

  -- behind a bad size no more messages come
  pub bad_all : (sent : List (List ℕ)) (held more : List ℕ) (size : ℕ) → messages limit [] (concat sent ++ held) ≡ sent → first (limit sent) held ≡ BadSize size
      → messages limit [] ((concat sent ++ held) ++ more) ≡ sent
  bad_all sent held more size all bad =
      let stays : first (limit sent) (held ++ more) ≡ BadSize size = bad_stays (limit sent) size held more bad in
      let none : messages limit sent (held ++ more) ≡ [] = messages_begin limit sent (held ++ more) ∙ ap (messages_from limit sent (held ++ more)) stays in
      goes_on [] sent held more all ∙ ap (λ l. sent ++ l) none ∙ append-nil sent

  -- such bytes have no bad size behind their messages
  pub none_bad : (sent : List (List ℕ)) (held more : List ℕ) (size : ℕ) → messages limit [] (concat sent ++ held) ≡ sent → first (limit sent) held ≡ BadSize size
      → concat (messages limit [] ((concat sent ++ held) ++ more)) ≡ (concat sent ++ held) ++ more → ⊥
  none_bad sent held more size all bad whole =
      let stays : first (limit sent) (held ++ more) ≡ BadSize size = bad_stays (limit sent) size held more bad in
      let is : messages limit [] ((concat sent ++ held) ++ more) ≡ sent = bad_all sent held more size all bad in
      let nothing : held ++ more ≡ [] = sym (append_cancel_left (concat sent) [] (held ++ more) (append-nil (concat sent) ∙ ap concat (sym is) ∙ whole ∙ append_assoc (concat sent) held more)) in
      let need : first (limit sent) (held ++ more) ≡ NeedMore = ap (first (limit sent)) nothing ∙ needs (limit sent) in
      absurd cc

module _ (s : Server) (c : ℕ) (left after : Option (List ℕ)) (bytes : List ℕ) (history : List Event) (pass : Known Entry) (plain : IsPlain s c left history) where
  told_left : Reads left bytes after → (rest : List ℕ) × (plain.bytes ≡ bytes ++ rest) × (after ≡ Some rest)
  told_left reads = subst (λ l. Reads l bytes after) plain.told reads

  -- a reader that counted sure fault
  pub plain_reader : (end : ReadEnd) → IsRead s c end bytes history → Reads left bytes after → EndsAt end left bytes → IsTold s c end pass → (end ≡ reader.ReadFault → ⊥)
      → (end ≡ reader.Ended) ⊎ (end ≡ reader.Closed) ⊎ RanOut end
  plain_reader reader.Ended read reads at_end told sure = inl refl
  plain_reader (reader.Cut n) read reads at_end told sure =
      let all : plain.bytes ≡ bytes = subst (λ l. EndsAt (reader.Cut n) l bytes) plain.told at_end in
      let sent = messages_of c history in
      let held = read.sent.1.0 in
      let joined = read.sent.1.1 in
      let whole : concat (messages s.limit [] (concat sent ++ held)) ≡ concat sent ++ held = subst (λ l. concat (messages s.limit [] l) ≡ l) (all ∙ sym joined) plain.whole in
      absurd (read.sent.1.3 (none_held s.limit sent held (ap (messages s.limit []) joined ∙ read.sent.0) whole))
  plain_reader (reader.BadSize size) read reads at_end told sure =
      let sent = messages_of c history in
      let held = read.sent.1.0 in
      let joined = read.sent.1.1 in
      let more = told_left reads in
      let all : plain.bytes ≡ (concat sent ++ held) ++ more.0 = more.1 ∙ ap (λ l. l ++ more.0) (sym joined) in
      absurd (none_bad s.limit sent held more.0 size (ap (messages s.limit []) joined ∙ read.sent.0) read.sent.1.2 (subst (λ l. concat (messages s.limit [] l) ≡ l) all plain.whole))
  plain_reader (reader.Duplicate tag) read reads at_end told sure = let closed = read.closed in let open_ = plain.unclosed in absurd cc
  plain_reader reader.ReadFault read reads at_end told sure = absurd (sure refl)
  plain_reader reader.Closed read reads at_end told sure = inr (inl refl)
  plain_reader reader.Memory read reads at_end told sure = inr (inr tt)
  plain_reader (reader.Spent n) read reads at_end told sure = inr (inr tt)
  plain_reader reader.Crowded read reads at_end told sure = absurd told

-- a writer that counted sure fault
pub plain_writer : (end : WriteEnd) (pass : Known Entry) → IsSpent end pass → (end ≡ writer.WriteFault → ⊥) → (end ≡ writer.Done) ⊎ RanOutWriting end
plain_writer writer.Done pass spent sure = inl refl
plain_writer writer.WriteFault pass spent sure = absurd (sure refl)
plain_writer writer.Memory pass spent sure = inr tt
plain_writer (writer.Spent n) pass spent sure = inr tt
plain_writer writer.Crowded pass spent sure = absurd spent

-- both ends
pub plain_both : (read : ReadEnd) (written : WriteEnd) → (read ≡ reader.Ended) ⊎ (read ≡ reader.Closed) ⊎ RanOut read → (written ≡ writer.Done) ⊎ RanOutWriting written
    → (read ≡ reader.Closed → (written ≡ writer.WriteFault) ⊎ (written ≡ writer.Memory)) → (written ≡ writer.WriteFault → ⊥) → EndsPlainly read written
plain_both read written r w closed sure = ⊎_elim
    (λ (d : written ≡ writer.Done). ⊎_elim
    (λ (e : read ≡ reader.Ended). inl (e, d))
    (λ (h : (read ≡ reader.Closed) ⊎ RanOut read). ⊎_elim
    (λ (k : read ≡ reader.Closed). ⊎_elim
    (λ (f : written ≡ writer.WriteFault). absurd (sure f))
    (λ (m : written ≡ writer.Memory). absurd cc)
    (closed k))
    (λ (o : RanOut read). inr (inl o)) h) r)
    (λ (o : RanOutWriting written). inr (inr o))
    w
