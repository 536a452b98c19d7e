-- Steps of the reader.
use Rattle.std.proofs.Common.{◌≡◌, ℕ, true, false, List, [], ◌∷◌, ◌++◌, length, take, drop, refl, sym, ap, ◌∙◌, subst, arith, append_assoc, ⊎_elim, inl, inr}
use Rattle.std.specs.Prelude.{◌⊎◌, Err, All, Contains, Option, Some, None, IfSome}
use Rattle.std.specs.List.{concat}
use Rattle.std.proofs.lemmas.List.{append-nil, take-append-drop}
use Rattle.std.proofs.lemmas.List.Elements.{All-nil, All-weaker}
use Rattle.std.proofs.lemmas.Bool.{eq-eqb}
use Rattle.r9_event.specs.declared.event.event.Event.TheVariants as event
use Rattle.r9_event.specs.declared.event.event.Entry.{Entry}
use Rattle.r9_event.specs.declared.event.ask.Ask.TheVariants as ask
use Rattle.r9_event.specs.declared.event.ask.Answer.{Answer}
use Rattle.r9_event.specs.declared.event.ask.Answer.TheVariants as answer
use Rattle.r9_lock.specs.Passes.{Known}
use Rattle.r9_outside.specs.outside.Source.{TakesFront}
use Rattle.model_files.specs.frame.Frame.{Framing, given, left, first}
use Rattle.model_files.specs.frame.Frame as cut
use Rattle.model_text.specs.text.Number.{AreBytes}
use Rattle.model_history.specs.event.Journal.{events_of}
use Rattle.model_served.specs.session.Server.{Server, IsServer, messages_of, is_msg}
use Rattle.model_served.specs.session.Acts.{Enters}
use Rattle.r9_lock.proofs.Lists.{prefix_trans}
use Rattle.r9_attend.specs.declared.attend.ends.ReadEnd.{ReadEnd}
use Rattle.r9_attend.specs.declared.attend.ends.ReadEnd.TheVariants.{Ended, Cut, BadSize, Duplicate, ReadFault, Closed, Memory, Spent, Crowded}
use Rattle.r9_attend.specs.attend.Passes.{GoesOn, made_since, IsOwn, Turned}
use Rattle.r9_attend.specs.attend.Sessions.{Reads, EndsAt, IsRead}
use Rattle.r9_attend.specs.attend.Steps.{IsSent, Cuts, SoFar, Reading, IsFed, IsTold}
use Rattle.r9_attend.proofs.attend.Growing.{since_none, goes_same, goes_both, All-since, since_is, turn_begins, turn_numbers, seen_entered, All-entered, All-stayed, behind, behind_none, own_before, own_back, since_few}
use Rattle.r9_attend.proofs.attend.Cutting.{cuts_none, cuts_fed, cuts_frame, cuts_need, cuts_bad, cuts_front, cuts_front_now}
use Rattle.r9_attend.proofs.attend.Served.{events_prefix, events_has, frame_message, ended_where, messages_behind, messages_more, no_messages, closed_behind, closed_none}

-- ---- what a source gives

pub reads_none : (left : Option (List ℕ)) → Reads left [] left
reads_none None = tt
reads_none (Some bytes) = (bytes, refl, refl)

pub reads_taken : (before after : Option (List ℕ)) (n : ℕ) (buffer : List ℕ) → IfSome before (λ bytes. TakesFront bytes n buffer after) → Reads before (take n buffer) after
reads_taken None after n buffer t = tt
reads_taken (Some left) after n buffer t = (drop n left, sym (take-append-drop n left) ∙ ap (λ l. l ++ drop n left) (sym t.given), t.after)

pub reads_end : (before after : Option (List ℕ)) (n : ℕ) (buffer : List ℕ) → n ≡ 0 → IfSome before (λ bytes. TakesFront bytes n buffer after) → Reads before [] after
reads_end before after n buffer e t = reads_taken before after 0 buffer (subst (λ k. IfSome before (λ bytes. TakesFront bytes k buffer after)) e t)

pub all_read : (before after : Option (List ℕ)) (bytes piece : List ℕ) → Reads before bytes after → IfSome after (λ left. left ≡ []) → piece ≡ [] → IfSome before (λ left. left ≡ bytes ++ piece)
all_read None after bytes piece r e none = tt
all_read (Some left) after bytes piece r e none =
    let none_left : r.0 ≡ [] = subst (λ o. IfSome o (λ (left : List ℕ). left ≡ [])) r.2 e in
    r.1 ∙ ap (λ l. bytes ++ l) (none_left ∙ sym none)

pub reads_both : (a b c : Option (List ℕ)) (xs ys : List ℕ) → Reads a xs b → Reads b ys c → Reads a (xs ++ ys) c
reads_both None b c xs ys r q = tt
reads_both (Some left) b c xs ys r q =
    let t : Reads (Some r.0) ys c = subst (λ o. Reads o ys c) r.2 q in
    (t.0, r.1 ∙ ap (λ l. xs ++ l) t.1 ∙ sym (append_assoc xs ys t.0), t.2)

-- ---- framings

given_fine : (f : Framing) → f.bad ≡ None → given f ≡ first f.limit f.held
given_fine f e = ap (λ (b : Option ℕ). given (record { held = f.held; limit = f.limit; bad = b })) e

module _ (s : Server) (lawful : IsServer s) (c : ℕ) where
  -- ---- the start

  pub reading_first : (p : Known Entry) (framer : Framing) (source : Option (List ℕ)) → framer ≡ record { held = []; limit = 65560; bad = None } → Reading s c p p framer source source
  reading_first p framer source e = record {
    pass = goes_same p;
    made = subst (All (λ m. is_msg c m.1.event ≡ true)) (sym (since_none p)) (All-nil (λ m. is_msg c m.1.event ≡ true));
    small = let l = ap (λ (f : Framing). f.limit) e in omega arith;
    fine = ap (λ (f : Framing). f.bad) e;
    bytes = [];
    reads = reads_none source;
    so_far = λ history own.
        let none = behind_none (is_msg c) p history own in
        let no = no_messages c history none in
        record {
          closed = closed_none c s lawful history none;
          limit = ap (λ (f : Framing). f.limit) e ∙ sym (ap s.limit no ∙ lawful.first_limit);
          cuts = subst (λ l. Cuts s.limit l framer.held []) (sym no) (subst (λ l. Cuts s.limit [] l []) (sym (ap (λ (f : Framing). f.held) e)) (cuts_none s.limit));
        };
  }

  module _ (start old : Known Entry) (framer : Framing) (left_old left_now : Option (List ℕ)) (r : Reading s c start old framer left_old left_now) where
    frame_first : (frame : List ℕ) → given framer ≡ cut.Frame frame → (sent : List (List ℕ)) → framer.limit ≡ s.limit sent → first (s.limit sent) framer.held ≡ cut.Frame frame
    frame_first frame g sent l = ap (λ n. first n framer.held) (sym l) ∙ sym (given_fine framer r.fine) ∙ g

    -- a message was sent that changed no more than the history
    module _ (frame : List ℕ) (g : given framer ≡ cut.Frame frame) (new : Known Entry) (answer : Answer) (t : Turned s (ask.Msg c frame) answer old new) (goes : GoesOn old new) where
      pub record Sent (history : List Entry) : Type 0 where
        pub so_far : SoFar s c framer r.bytes (events_of t.before)
        pub messages : messages_of c (events_of history) ≡ messages_of c (events_of t.before) ++ frame ∷ []
        pub closed : s.closed (events_of history) c ≡ s.closed (events_of new.seen) c
        pub cuts : Cuts s.limit (messages_of c (events_of history)) (drop (length frame) framer.held) r.bytes

      pub sent_one : ((mark : Option ℕ) × (events_of new.seen ≡ events_of t.before ++ event.Msg c frame mark ∷ [])) → (history : List Entry) → IsOwn (is_msg c) new.seen (made_since start new) history → Sent history
      sent_one entered history own =
          let so_far = r.so_far t.before (own_before (is_msg c) s (ask.Msg c frame) answer start old new t r.pass goes history own) in
          let b = behind (is_msg c) new.seen (made_since start new) history (since_few (is_msg c) start new (length new.seen) (turn_numbers s (ask.Msg c frame) answer old new t)) own in
          let messages : messages_of c (events_of history) ≡ messages_of c (events_of t.before) ++ frame ∷ [] =
          messages_behind c new.seen history b ∙ ap (messages_of c) entered.1 ∙ messages_more c (events_of t.before) frame entered.0 in
          record {
            so_far = so_far;
            messages = messages;
            closed = closed_behind c s lawful new.seen history b;
            cuts = subst (λ l. Cuts s.limit l (drop (length frame) framer.held) r.bytes) (sym messages)
                (cuts_frame s.limit (messages_of c (events_of t.before)) framer.held r.bytes frame so_far.cuts (frame_first frame g (messages_of c (events_of t.before)) so_far.limit));
          }

    -- a message went, and the limit is set
    pub reading_sent : (frame : List ℕ) → given framer ≡ cut.Frame frame → (new : Known Entry) (msize : ℕ) → Turned s (ask.Msg c frame) (answer.Went msize) old new → GoesOn old new
        → (behind_frame after : Framing) → behind_frame ≡ left framer → after ≡ record behind_frame { limit = msize } → Reading s c start new after left_old left_now
    reading_sent frame g new msize t goes behind_frame after is_left is_set =
        let entered = seen_entered s (ask.Msg c frame) (answer.Went msize) old new t (event.Msg c frame t.may.0.0) t.may.0.1 in
        let now : after ≡ record { held = drop (length frame) framer.held; limit = msize; bad = framer.bad } =
        is_set ∙ ap (λ (f : Framing). let h : Framing = record f { limit = msize } in h) (is_left ∙ ap (λ (k : cut.Cut). cut.left_by framer k) g) in
        let size : msize ≡ s.limit (messages_of c (events_of new.seen)) = t.may.2 ∙ ap (λ l. s.limit (messages_of c (events_of l))) (sym t.seen) in
        record {
          pass = goes_both start old new r.pass goes;
          made = All-since (λ m. is_msg c m.1.event ≡ true) start old new r.pass goes r.made
              (All-entered s (ask.Msg c frame) (answer.Went msize) old new t (λ m. is_msg c m.1.event ≡ true) (event.Msg c frame t.may.0.0) t.may.0.1 (λ n. eq-eqb c c refl));
          small = let l = ap (λ (f : Framing). f.limit) now in let m = lawful.limited (messages_of c (events_of new.seen)) in omega arith;
          fine = ap (λ (f : Framing). f.bad) now ∙ r.fine;
          bytes = r.bytes;
          reads = r.reads;
          so_far = λ history own.
              let one = sent_one frame g new (answer.Went msize) t goes (t.may.0.0, entered) history own in
              let b = behind (is_msg c) new.seen (made_since start new) history (since_few (is_msg c) start new (length new.seen) (turn_numbers s (ask.Msg c frame) (answer.Went msize) old new t)) own in
              record {
                closed = one.closed ∙ ap (λ l. s.closed (events_of l) c) t.seen ∙ t.may.1;
                limit = ap (λ (f : Framing). f.limit) now ∙ size ∙ ap s.limit (sym (messages_behind c new.seen history b));
                cuts = subst (λ l. Cuts s.limit (messages_of c (events_of history)) l r.bytes) (sym (ap (λ (f : Framing). f.held) now)) one.cuts;
              };
        }

    -- a piece was fed
    pub reading_fed : (framer' after : Framing) → framer' ≡ left framer → given framer ≡ cut.NeedMore → (piece : List ℕ) (left_then : Option (List ℕ)) → Reads left_now piece left_then
        → after ≡ record framer' { held = framer'.held ++ piece } → Reading s c start old after left_old left_then
    reading_fed framer' after is_left g piece left_then reads fed =
        let same : framer' ≡ framer = is_left ∙ ap (λ (k : cut.Cut). cut.left_by framer k) g in
        let now : after ≡ record framer { held = framer.held ++ piece } = fed ∙ ap (λ (f : Framing). let h : Framing = record f { held = f.held ++ piece } in h) same in
        record {
          pass = r.pass;
          made = r.made;
          small = let l = ap (λ (f : Framing). f.limit) now in let m = r.small in omega arith;
          fine = ap (λ (f : Framing). f.bad) now ∙ r.fine;
          bytes = r.bytes ++ piece;
          reads = reads_both left_old left_now left_then r.bytes piece r.reads reads;
          so_far = λ history own.
              let so_far = r.so_far history own in
              record {
                closed = so_far.closed;
                limit = ap (λ (f : Framing). f.limit) now ∙ so_far.limit;
                cuts = subst (λ l. Cuts s.limit (messages_of c (events_of history)) l (r.bytes ++ piece)) (sym (ap (λ (f : Framing). f.held) now))
                    (cuts_fed s.limit (messages_of c (events_of history)) framer.held r.bytes piece so_far.cuts);
              };
        }

    -- ---- ends

    need : given framer ≡ cut.NeedMore → (sent : List (List ℕ)) → framer.limit ≡ s.limit sent → first (s.limit sent) framer.held ≡ cut.NeedMore
    need g sent l = ap (λ n. first n framer.held) (sym l) ∙ sym (given_fine framer r.fine) ∙ g

    -- nothing could be taken from the source
    pub filled_read : (framer' after : Framing) → framer' ≡ left framer → given framer ≡ cut.NeedMore → (end : ReadEnd) (bytes : List ℕ) → IsFed framer' left_now bytes (Some end) after
        → (history : List Entry) → IsOwn (is_msg c) old.seen (made_since start old) history → IsRead s c end (r.bytes ++ bytes) (events_of history)
    filled_read framer' after is_left g end bytes fed history own = go end fed
      where
        so_far : SoFar s c framer r.bytes (events_of history)
        so_far = r.so_far history own

        sent : List (List ℕ)
        sent = messages_of c (events_of history)

        same : framer' ≡ framer
        same = is_left ∙ ap (λ (k : cut.Cut). cut.left_by framer k) g

        needs : first (s.limit sent) framer.held ≡ cut.NeedMore
        needs = need g sent so_far.limit

        all_then : bytes ≡ [] → r.bytes ≡ r.bytes ++ bytes
        all_then e = sym (append-nil r.bytes) ∙ ap (λ l. r.bytes ++ l) (sym e)

        cuts_then : bytes ≡ [] → Cuts s.limit sent framer.held (r.bytes ++ bytes)
        cuts_then e = subst (Cuts s.limit sent framer.held) (all_then e) so_far.cuts

        held_is : framer'.held ≡ framer.held
        held_is = ap (λ (f : Framing). f.held) same

        go : (end : ReadEnd) → IsFed framer' left_now bytes (Some end) after → IsRead s c end (r.bytes ++ bytes) (events_of history)
        go Ended f = record {
          sent = (
            cuts_need s.limit sent framer.held (r.bytes ++ bytes) (cuts_then f.0) needs,
            sym (append-nil (concat sent)) ∙ ap (λ l. concat sent ++ l) (sym (sym held_is ∙ f.1)) ∙ (cuts_then f.0).joined,
          );
          closed = so_far.closed;
          last = tt;
        }
        go (Cut n) f = record {
          sent = (
            cuts_need s.limit sent framer.held (r.bytes ++ bytes) (cuts_then f.0) needs,
            (framer.held, (cuts_then f.0).joined, f.1 ∙ ap length held_is, (λ e. f.2 (held_is ∙ e)), needs),
          );
          closed = so_far.closed;
          last = tt;
        }
        go ReadFault f = record { sent = cuts_need s.limit sent framer.held (r.bytes ++ bytes) (cuts_then f) needs; closed = so_far.closed; last = tt }
        go Memory f = record { sent = cuts_front s.limit sent framer.held r.bytes bytes so_far.cuts; closed = so_far.closed; last = tt }
        go (BadSize size) f = absurd f
        go (Duplicate tag) f = absurd f
        go Closed f = absurd f
        go (Spent count) f = absurd f
        go Crowded f = absurd f

    pub filled_end : (framer' after : Framing) (end : ReadEnd) (bytes : List ℕ) → IsFed framer' left_now bytes (Some end) after → EndsAt end left_old (r.bytes ++ bytes)
    filled_end framer' after Ended bytes f = all_read left_old left_now r.bytes bytes r.reads f.2 f.0
    filled_end framer' after (Cut n) bytes f = all_read left_old left_now r.bytes bytes r.reads f.3 f.0
    filled_end framer' after ReadFault bytes f = tt
    filled_end framer' after Memory bytes f = tt
    filled_end framer' after (BadSize size) bytes f = tt
    filled_end framer' after (Duplicate tag) bytes f = tt
    filled_end framer' after Closed bytes f = tt
    filled_end framer' after (Spent count) bytes f = tt
    filled_end framer' after Crowded bytes f = tt

    -- the next size is bad
    pub bad_read : (size : ℕ) → given framer ≡ cut.BadSize size → (history : List Entry) → IsOwn (is_msg c) old.seen (made_since start old) history → IsRead s c (BadSize size) r.bytes (events_of history)
    bad_read size g history own =
        let so_far = r.so_far history own in
        let bad : first (s.limit (messages_of c (events_of history))) framer.held ≡ cut.BadSize size = ap (λ n. first n framer.held) (sym so_far.limit) ∙ sym (given_fine framer r.fine) ∙ g in
        record {
          sent = (cuts_bad s.limit (messages_of c (events_of history)) framer.held r.bytes size so_far.cuts bad, (framer.held, so_far.cuts.joined, bad));
          closed = so_far.closed;
          last = tt;
        }

    -- there was no memory for a message
    pub short_read : (history : List Entry) → IsOwn (is_msg c) old.seen (made_since start old) history → IsRead s c Memory r.bytes (events_of history)
    short_read history own =
        let so_far = r.so_far history own in
        record { sent = cuts_front_now s.limit (messages_of c (events_of history)) framer.held r.bytes so_far.cuts; closed = so_far.closed; last = tt }

    -- ---- the ends that a turn answers

    module _ (frame : List ℕ) (g : given framer ≡ cut.Frame frame) (new : Known Entry) (goes : GoesOn old new) where
      -- no message was made
      silent : All (λ m. is_msg c m.1.event ≡ false) (made_since old new) → (history : List Entry) → IsOwn (is_msg c) new.seen (made_since start new) history → SoFar s c framer r.bytes (events_of history)
      silent none history own = r.so_far history (own_back (is_msg c) start old new r.pass goes none history own)

      pub sent_read : (end : ReadEnd) → IsSent s c frame (Err end) old new → (history : List Entry) → IsOwn (is_msg c) new.seen (made_since start new) history → IsRead s c end r.bytes (events_of history)
      sent_read (Duplicate tag) t history own =
          let entered = seen_entered s (ask.Msg c frame) (answer.Duplicate tag) old new t (event.Msg c frame t.may.0.0) t.may.0.1 in
          let one = sent_one frame g new (answer.Duplicate tag) t goes (t.may.0.0, entered) history own in
          record {
            sent = cuts_front_now s.limit (messages_of c (events_of history)) (drop (length frame) framer.held) r.bytes one.cuts;
            closed = one.closed ∙ ap (λ l. s.closed (events_of l) c) t.seen ∙ t.may.1;
            last = (events_of t.before, frame, events_prefix (prefix_trans (turn_begins s (ask.Msg c frame) (answer.Duplicate tag) old new t) own.begins), one.so_far.closed, one.messages);
          }
      sent_read Closed t history own =
          let f = silent (All-stayed s (ask.Msg c frame) answer.Closed old new t (λ m. is_msg c m.1.event ≡ false) t.may.0.same) history own in
          record { sent = cuts_front_now s.limit (messages_of c (events_of history)) framer.held r.bytes f.cuts; closed = f.closed; last = tt }
      sent_read Memory t history own =
          let f = silent (⊎_elim
          (λ (h : t.before ++ t.entry ≡ t.before). All-stayed s (ask.Msg c frame) answer.Memory old new t (λ m. is_msg c m.1.event ≡ false) h)
          (λ (h : Enters event.Stop t.before (t.before ++ t.entry)). All-entered s (ask.Msg c frame) answer.Memory old new t (λ m. is_msg c m.1.event ≡ false) event.Stop h (λ n. refl))
          t.may) history own in
          record { sent = cuts_front_now s.limit (messages_of c (events_of history)) framer.held r.bytes f.cuts; closed = f.closed; last = tt }
      sent_read (Spent count) t history own =
          let f = silent (subst (All (λ m. is_msg c m.1.event ≡ false)) (sym (since_is old new [] (t.made ∙ sym (append-nil old.made)))) (All-nil (λ m. is_msg c m.1.event ≡ false))) history own in
          record { sent = cuts_front_now s.limit (messages_of c (events_of history)) framer.held r.bytes f.cuts; closed = f.closed; last = tt }
      sent_read Ended t history own = absurd t
      sent_read (Cut n) t history own = absurd t
      sent_read (BadSize size) t history own = absurd t
      sent_read ReadFault t history own = absurd t
      sent_read Crowded t history own = absurd t

      pub sent_end : (end : ReadEnd) → IsSent s c frame (Err end) old new → EndsAt end left_old r.bytes
      sent_end (Duplicate tag) t = tt
      sent_end Closed t = tt
      sent_end Memory t = tt
      sent_end (Spent count) t = tt
      sent_end Ended t = absurd t
      sent_end (Cut n) t = absurd t
      sent_end (BadSize size) t = tt
      sent_end ReadFault t = tt
      sent_end Crowded t = tt

      -- what was made
      abbrev Made : ℕ × Entry → Type 0
      Made m = (is_msg c m.1.event ≡ true) ⊎ (m.1.event ≡ event.Stop)

      pub sent_made : (end : ReadEnd) → IsSent s c frame (Err end) old new → All Made (made_since start new)
      sent_made end t = All-since Made start old new r.pass goes (All-weaker (λ m. is_msg c m.1.event ≡ true) Made (λ m h. inl h) (made_since start old) r.made) (go end t)
        where
          go : (end : ReadEnd) → IsSent s c frame (Err end) old new → All Made (made_since old new)
          go (Duplicate tag) t = All-entered s (ask.Msg c frame) (answer.Duplicate tag) old new t Made (event.Msg c frame t.may.0.0) t.may.0.1 (λ n. inl (eq-eqb c c refl))
          go Closed t = All-stayed s (ask.Msg c frame) answer.Closed old new t Made t.may.0.same
          go Memory t = ⊎_elim
              (λ (h : t.before ++ t.entry ≡ t.before). All-stayed s (ask.Msg c frame) answer.Memory old new t Made h)
              (λ (h : Enters event.Stop t.before (t.before ++ t.entry)). All-entered s (ask.Msg c frame) answer.Memory old new t Made event.Stop h (λ n. inr refl))
              t.may
          go (Spent count) t = subst (All Made) (sym (since_is old new [] (t.made ∙ sym (append-nil old.made)))) (All-nil Made)
          go Ended t = absurd t
          go (Cut n) t = absurd t
          go (BadSize size) t = absurd t
          go ReadFault t = absurd t
          go Crowded t = absurd t

      -- what the turn says
      pub sent_told : AreBytes frame → Contains (events_of start.seen) (event.Begin c) → (end : ReadEnd) → IsSent s c frame (Err end) old new → IsTold s c end new
      sent_told are begun (Duplicate tag) t = tt
      sent_told are begun Closed t =
          let message = frame_message framer.limit framer.held frame (sym (given_fine framer r.fine) ∙ g) r.small are in
          let has : Contains (events_of t.before) (event.Begin c) = events_has (event.Begin c) (prefix_trans r.pass.seen t.begins) begun in
          events_has (event.End c) (turn_begins s (ask.Msg c frame) answer.Closed old new t) (ended_where c (events_of t.before) has (λ lives. t.may.1 (lives, message, tt)))
      sent_told are begun Memory t = tt
      sent_told are begun (Spent count) t = (t.large, t.least)
      sent_told are begun Ended t = absurd t
      sent_told are begun (Cut n) t = absurd t
      sent_told are begun (BadSize size) t = absurd t
      sent_told are begun ReadFault t = absurd t
      sent_told are begun Crowded t = absurd t
