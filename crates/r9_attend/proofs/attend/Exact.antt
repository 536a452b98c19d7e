-- The end to which bytes lead.
use Rattle.std.proofs.Common.{◌≡◌, ℕ, List, [], ◌∷◌, ◌++◌, length, drop, refl, sym, ap, ◌∙◌, append_assoc, inl, inr}
use Rattle.std.specs.Prelude.{Option, Some, None}
use Rattle.std.specs.List.{concat}
use Rattle.std.proofs.Math.Seq.{drop-append_seam}
use Rattle.std.proofs.lemmas.List.{append-nil}
use Rattle.r9_event.specs.declared.event.event.Event.{Event}
use Rattle.r9_event.specs.declared.event.event.Entry.{Entry}
use Rattle.r9_lock.specs.Passes.{Known}
use Rattle.model_files.specs.frame.Frame.{NeedMore, first}
use Rattle.model_files.specs.frame.Frame as cut
use Rattle.model_files.specs.frame.Stream.{messages}
use Rattle.model_files.proofs.frame.Laws.{bad_stays}
use Rattle.model_served.specs.session.Server.{Server, messages_of}
use Rattle.r9_attend.specs.declared.attend.ends.ReadEnd.{ReadEnd}
use Rattle.r9_attend.specs.declared.attend.ends.ReadEnd.TheVariants.{Ended, Cut, BadSize, Duplicate, ReadFault, Closed, Memory, Spent, Crowded}
use Rattle.r9_attend.specs.declared.attend.ends.WriteEnd.{WriteEnd}
use Rattle.r9_attend.specs.declared.attend.ends.WriteEnd.TheVariants as writer
use Rattle.r9_attend.specs.attend.Sessions.{Reads, EndsAt, IsRead, rest_of, end_at, end_of, IsExactEnd, IsExactWriteEnd}
use Rattle.r9_attend.specs.attend.Steps.{IsTold, IsSpent}
use Rattle.r9_attend.proofs.attend.Complete.{needs, bad_all}

module _ (limit : List (List ℕ) → ℕ) (sent : List (List ℕ)) (rest bytes : List ℕ) (joined : concat sent ++ rest ≡ bytes) (all : messages limit [] bytes ≡ sent) where
  left_is : rest_of limit bytes ≡ rest
  left_is = ap (λ l. drop (length (concat l)) bytes) all ∙ (ap (drop (length (concat sent))) (sym joined) ∙ drop-append_seam (concat sent) rest)

  -- bytes of which these are the messages, and behind which this is left
  leads : (front : cut.Cut) → first (limit sent) rest ≡ front → end_of limit bytes ≡ end_at front rest
  leads front is = ap (λ l. end_at (first (limit (messages limit [] bytes)) l) l) left_is ∙ (ap (λ l. end_at (first (limit l) rest) rest) all ∙ ap (λ (k : cut.Cut). end_at k rest) is)

  cut_at : (rest : List ℕ) → (rest ≡ [] → ⊥) → end_at NeedMore rest ≡ Cut (length rest)
  cut_at [] some = absurd (some refl)
  cut_at (x ∷ rest) some = refl

  cut_leads : (n : ℕ) → n ≡ length rest → (rest ≡ [] → ⊥) → first (limit sent) rest ≡ NeedMore → Cut n ≡ end_of limit bytes
  cut_leads n long some need = ap Cut long ∙ sym (leads NeedMore need ∙ cut_at rest some)

  ended_leads : rest ≡ [] → Ended ≡ end_of limit bytes
  ended_leads none = sym (leads NeedMore (ap (first (limit sent)) none ∙ needs limit (limit sent)) ∙ ap (end_at NeedMore) none)

module _ (s : Server) (c : ℕ) (after : Option (List ℕ)) (bytes : List ℕ) (history : List Event) (pass : Known Entry) where
  pub exact_reader : (left : Option (List ℕ)) (end : ReadEnd) → IsRead s c end bytes history → Reads left bytes after → EndsAt end left bytes → IsTold s c end pass → IsExactEnd s left end
  exact_reader None end read reads at_end told = tt
  exact_reader (Some all) Ended read reads at_end told =
      inl (ended_leads s.limit (messages_of c history) [] all (append-nil (concat (messages_of c history)) ∙ (read.sent.1 ∙ sym at_end)) (ap (messages s.limit []) at_end ∙ read.sent.0) refl)
  exact_reader (Some all) (Cut n) read reads at_end told =
      let held = read.sent.1 in
      inl (cut_leads s.limit (messages_of c history) held.0 all (held.1 ∙ sym at_end) (ap (messages s.limit []) at_end ∙ read.sent.0) n held.2 held.3 held.4)
  exact_reader (Some all) (BadSize size) read reads at_end told =
      let sent = messages_of c history in
      let held = read.sent.1 in
      let joined : all ≡ (concat sent ++ held.0) ++ reads.0 = reads.1 ∙ ap (λ l. l ++ reads.0) (sym held.1) in
      let is : messages s.limit [] all ≡ sent = ap (messages s.limit []) joined ∙ bad_all s.limit sent held.0 reads.0 size (ap (messages s.limit []) held.1 ∙ read.sent.0) held.2 in
      inl (sym (leads s.limit sent (held.0 ++ reads.0) all (sym (joined ∙ append_assoc (concat sent) held.0 reads.0)) is (cut.BadSize size) (bad_stays (s.limit sent) size held.0 reads.0 held.2)))
  exact_reader (Some all) Crowded read reads at_end told = absurd told
  exact_reader (Some all) (Duplicate tag) read reads at_end told = inr tt
  exact_reader (Some all) ReadFault read reads at_end told = inr tt
  exact_reader (Some all) Closed read reads at_end told = inr tt
  exact_reader (Some all) Memory read reads at_end told = inr tt
  exact_reader (Some all) (Spent count) read reads at_end told = inr tt

pub exact_writer : (end : WriteEnd) (pass : Known Entry) → IsSpent end pass → IsExactWriteEnd end
exact_writer writer.Done pass spent = inl refl
exact_writer writer.WriteFault pass spent = inr (inl refl)
exact_writer writer.Memory pass spent = inr (inr tt)
exact_writer (writer.Spent n) pass spent = inr (inr tt)
exact_writer writer.Crowded pass spent = absurd spent
