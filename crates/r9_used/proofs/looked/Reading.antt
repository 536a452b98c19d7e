-- The messages of a write that are looked at are those that are read again.
use Rattle.std.proofs.Common.{◌≡◌, ℕ, zero, suc, Bool, true, false, ◌==◌, ◌+◌, ◌≤◌, cond, List, [], ◌∷◌, ◌++◌, length, drop, Option, Some, None, Result, Ok, Err, OnOk, refl, sym, ap, ◌∙◌, arith, append_assoc}
use Rattle.std.proofs.lemmas.List.{append-nil}
use Rattle.std.specs.List.{flat_map}
use Rattle.std.specs.Option.{option_map_or}
use Rattle.r9_event.specs.declared.event.own.Use.{Use}
use Rattle.model_text.specs.text.Outcome.{Outcome, ◌>>=◌, refuse_if}
use Rattle.model_draw_parts.specs.dmsg.Message.{Message}
use Rattle.model_draw_parts.specs.dmsg.Message.{spelled_len}
use Rattle.model_draw_parts.specs.dmsg.Reading.{First, IsMessage, IsShort, IsUnknown, IsUnsupported, first_message}
use Rattle.model_draw.specs.draw.World.{World}
use Rattle.model_draw.specs.draw.Act.{Written, act, behind, is_marked, no_memory, one_message, spelled, written}
use Rattle.model_draw.specs.draw.Memory.{reached}
use Rattle.model_rio.specs.window.Pane.{Pane}
use Rattle.model_draw.specs.looked.Rows.{rows_of, rows_within}
use Rattle.model_draw.specs.looked.Again.{behind_by, messages_read, rows_left}
use Rattle.model_draw.proofs.looked.Done.{by_rows, written_reaches}
use Rattle.model_alone.specs.alone.Uses.{look_used, looked_at, messages_within, most_looked_at}
use Rattle.r9_used.specs.looked.Firsts.{IsLooked, IsNone, is_write}
use Rattle.r9_used.specs.looked.Told.{IsTold}
use Rattle.r9_used.specs.declared.looked.first.First.{First as Known}
use Rattle.r9_dmsg.specs.declared.message.Dmsg.{Dmsg}
use Rattle.r9_dmsg.specs.declared.message.DmsgFault.{DmsgFault}
use Rattle.r9_dmsg.specs.declared.message.DmsgFault.TheVariants as fault
use Rattle.r9_dmsg.specs.declared.listed.Listed.{Listed}
use Rattle.r9_dmsg.specs.declared.writing.Background.{Background}
use Rattle.r9_dmsg.specs.declared.listed.Listed.TheVariants as listed
use Rattle.r9_dmsg.specs.Listed.{has_list, listed_len, listed_message, writing_in}
use Rattle.r9_dmsg.specs.View.{message_in}
use Rattle.std.specs.Prelude.{◌↔◌, IsErrOf}
use Rattle.std.specs.Option.{option_map}
use Rattle.model_draw_parts.specs.dmsg.Message.{LowS, LowX}

-- ---- with the device, and without it

-- the last message that is looked at, done or not
last_read : (k : ℕ) (w : World) (bytes : List ℕ) → messages_within 1 k w bytes ≡ messages_read 1 [] bytes
last_read k w bytes = by (spelled (first_message bytes))
  where
    none : (m : Message × List ℕ) (o : Outcome World) → (let l : List Message = elim o [ Ok next ↦ messages_within 0 k next (behind k w m.0 m.1) | Err refusal ↦ [] ] in l) ≡ []
    none m (Ok next) = refl
    none m (Err refusal) = refl

    by : (o : Outcome (Message × List ℕ))
        → (let l : List Message = elim o [
          | Ok m ↦ m.0 ∷ elim (act k w m.0 m.1) [ Ok next ↦ messages_within 0 k next (behind k w m.0 m.1) | Err refusal ↦ [] ]
          | Err refusal ↦ []
        ] in l)
        ≡ (let l : List Message = elim o [ Ok m ↦ m.0 ∷ messages_read 0 (rows_left m.0 []) (behind_by m.0 [] m.1) | Err refusal ↦ [] ] in l)
    by (Ok m) = ap (λ (l : List Message). m.0 ∷ l) (none m (act k w m.0 m.1))
    by (Err refusal) = refl

-- behind a message that was done
behind_read : (most k : ℕ) (w : World) (m : Message) (rest rows : List ℕ) → messages_read most rows (behind k w m rest) ≡ messages_read most (rows_left m (rows_of k w m rest ++ rows)) (behind_by m (rows_of k w m rest ++ rows) rest)
behind_read most k w m rest rows =
    let both = by_rows k w m rest rows in
    λ i. messages_read most (sym both.0 i) (sym both.1 i)

-- what follows on a message that was read, and on bytes that may spell one
abbrev after_act : (k : ℕ) → World → Message × List ℕ → Outcome World → Outcome (World × List ℕ)
after_act k w m o = o >>= λ x. refuse_if (is_marked None 0) no_memory >>= λ _. Ok (x, behind k w m.0 m.1)

abbrev after_first : (k : ℕ) → World → Outcome (Message × List ℕ) → Outcome (World × List ℕ)
after_first k w o = o >>= λ m. after_act k w m (act k w m.0 m.1)

abbrev reached_by : (done k : ℕ) → Outcome (World × List ℕ) → Option (World × List ℕ)
reached_by done k o = elim o [ Ok next ↦ reached done k next.0 next.1 | Err refusal ↦ None ]

abbrev rows_by : (done k : ℕ) → (first : List ℕ) → Outcome (World × List ℕ) → List ℕ
rows_by done k first o = elim o [ Ok next ↦ first ++ rows_within done k next.0 next.1 | Err refusal ↦ [] ]

abbrev rows_at : (k : ℕ) → World → Outcome (Message × List ℕ) → List ℕ
rows_at k w o = elim o [ Ok m ↦ rows_of k w m.0 m.1 | Err refusal ↦ [] ]

abbrev within_by : (most k : ℕ) → World → Message × List ℕ → Outcome World → List Message
within_by most k w m o = elim o [ Ok next ↦ messages_within most k next (behind k w m.0 m.1) | Err refusal ↦ [] ]

abbrev within_first : (most k : ℕ) → World → Outcome (Message × List ℕ) → List Message
within_first most k w o = elim o [ Ok m ↦ m.0 ∷ within_by most k w m (act k w m.0 m.1) | Err refusal ↦ [] ]

abbrev read_first : (most : ℕ) → (rows : List ℕ) → Outcome (Message × List ℕ) → List Message
read_first most rows o = elim o [ Ok m ↦ m.0 ∷ messages_read most (rows_left m.0 rows) (behind_by m.0 rows m.1) | Err refusal ↦ [] ]

read_again : (most done k : ℕ) (w : World) (bytes : List ℕ) (at : World × List ℕ) → reached done k w bytes ≡ Some at → most ≤ done + 1
    → messages_within most k w bytes ≡ messages_read most (rows_within done k w bytes) bytes
unfolding one_message
read_again zero done k w bytes at r h = refl
read_again (suc zero) zero k w bytes at r h = last_read k w bytes
read_again (suc (suc most)) zero k w bytes at r h = absurd (omega (arith, h))
read_again (suc most) (suc done) k w bytes at r h =
    by (λ v b e. read_again most done k v b at e (omega (arith, h))) (spelled (first_message bytes)) r
  where
    acted : ((v : World) (b : List ℕ) → reached done k v b ≡ Some at → messages_within most k v b ≡ messages_read most (rows_within done k v b) b) → (m : Message × List ℕ) (o : Outcome World)
        → reached_by done k (after_act k w m o) ≡ Some at
        → within_by most k w m o
        ≡ messages_read most (rows_left m.0 (rows_by done k (rows_of k w m.0 m.1) (after_act k w m o))) (behind_by m.0 (rows_by done k (rows_of k w m.0 m.1) (after_act k w m o)) m.1)
    acted more m (Ok next) r = more next (behind k w m.0 m.1) r ∙ behind_read most k w m.0 m.1 (rows_within done k next (behind k w m.0 m.1))
    acted more m (Err refusal) r = absurd cc

    by : ((v : World) (b : List ℕ) → reached done k v b ≡ Some at → messages_within most k v b ≡ messages_read most (rows_within done k v b) b) → (o : Outcome (Message × List ℕ))
        → reached_by done k (after_first k w o) ≡ Some at → within_first most k w o ≡ read_first most (rows_by done k (rows_at k w o) (after_first k w o)) o
    by more (Ok m) r = ap (λ (l : List Message). m.0 ∷ l) (acted more m (act k w m.0 m.1) r)
    by more (Err refusal) r = absurd cc

most_within : (after : Written) → most_looked_at after ≤ after.done + 1
most_within after = by (option_map_or (λ n. n == no_memory) after.refusal false)
  where
    by : (b : Bool) → cond b after.done (after.done + 1) ≤ after.done + 1
    by true = omega arith
    by false = omega arith

-- the messages of a write that are looked at are those that are read again by what is told of it
pub looked_again : (k : ℕ) (device : World) (bytes : List ℕ) (mark : Option ℕ) (most : ℕ) (rows : List ℕ) → IsTold k device bytes mark most rows → looked_at k device bytes mark ≡ messages_read most rows bytes
unfolding looked_at
looked_again k device bytes mark most rows told =
    let done = (written k device bytes mark).done in
    let at = written_reaches k device bytes mark in
    read_again (most_looked_at (written k device bytes mark)) done k device bytes at.0 at.1 (most_within (written k device bytes mark))
    ∙ λ i. messages_read (sym told.most_is i) (sym told.rows_are i) bytes

-- ---- one by one

-- no message stands first
pub reads_none : (panes : List (ℕ × Pane)) (left : ℕ) (rows bytes : List ℕ) (before after : List Use) → IsNone bytes before after → after ≡ before ++ flat_map (look_used panes) (messages_read left rows bytes)
reads_none panes zero rows bytes before after is = is.kept ∙ sym (append-nil before)
reads_none panes (suc left) rows bytes before after is =
    is.kept ∙ sym (append-nil before)
    ∙ ap (λ (l : List Message). before ++ flat_map (look_used panes) l)
    (ap (λ (o : Outcome (Message × List ℕ)). let l : List Message = elim o [ Ok m ↦ m.0 ∷ messages_read left (rows_left m.0 rows) (behind_by m.0 rows m.1) | Err refusal ↦ [] ] in l) (sym is.spells))

-- one stands first, and what is read behind it
pub reads_first : (panes : List (ℕ × Pane)) (left : ℕ) (rows bytes : List ℕ) (before after : List Use) (first : Known) (is : IsLooked panes bytes before first after)
    → before ++ flat_map (look_used panes) (messages_read (suc left) rows bytes)
    ≡ after ++ flat_map (look_used panes) (messages_read left (rows_left is.message rows) (behind_by is.message rows (drop first.len bytes)))
reads_first panes left rows bytes before after first is =
    let more = messages_read left (rows_left is.message rows) (behind_by is.message rows (drop first.len bytes)) in
    ap (λ (l : List Message). before ++ flat_map (look_used panes) l)
    (ap (λ (o : Outcome (Message × List ℕ)). let l : List Message = elim o [ Ok m ↦ m.0 ∷ messages_read left (rows_left m.0 rows) (behind_by m.0 rows m.1) | Err refusal ↦ [] ] in l) is.spells)
    ∙ sym (append_assoc before (look_used panes is.message) (flat_map (look_used panes) more))
    ∙ ap (λ (l : List Use). l ++ flat_map (look_used panes) more) (sym is.uses_are)

-- ---- what stands first

-- where no message was read that has no list, none stands there
pub none_stands : (bytes : List ℕ) (e : DmsgFault) → (let r : Result Dmsg DmsgFault = Err e in IsErrOf r fault.Short ↔ (first_message bytes ≡ IsShort))
    → (let r : Result Dmsg DmsgFault = Err e in IsErrOf r fault.Unknown ↔ (first_message bytes ≡ IsUnknown))
    → (let r : Result Dmsg DmsgFault = Err e in IsErrOf r fault.Unsupported ↔ (first_message bytes ≡ IsUnsupported))
    → (let r : Result Dmsg DmsgFault = Err e in IsErrOf r fault.Memory → option_map has_list (message_in (first_message bytes)) ≡ Some true)
    → ((m : Message) (rest : List ℕ) → first_message bytes ≡ IsMessage m rest → has_list m ≡ false) → (n : ℕ) × (spelled (first_message bytes) ≡ Err n)
none_stands bytes fault.Short short unknown unsupported memory plain = (1, ap spelled (short.0 refl))
none_stands bytes fault.Unknown short unknown unsupported memory plain = (2, ap spelled (unknown.0 refl))
none_stands bytes fault.Unsupported short unknown unsupported memory plain = (3, ap spelled (unsupported.0 refl))
none_stands bytes fault.Memory short unknown unsupported memory plain = absurd (by (first_message bytes) refl (memory refl))
  where
    listed : (b : Bool) → b ≡ false → Some b ≡ Some true → ⊥
    listed true plainly has = absurd cc
    listed false plainly has = absurd cc

    by : (f : First) → first_message bytes ≡ f → option_map has_list (message_in f) ≡ Some true → ⊥
    by (IsMessage m rest) e has = listed (has_list m) (plain m rest e) has
    by IsShort e has = absurd cc
    by IsUnknown e has = absurd cc
    by IsUnsupported e has = absurd cc

pub looked_plain : (panes : List (ℕ × Pane)) (bytes : List ℕ) (before after : List Use) (m : Message) (len : ℕ) (rows : Bool) → first_message bytes ≡ IsMessage m (drop (spelled_len m) bytes)
    → spelled_len m ≤ length bytes → len ≡ spelled_len m → rows ≡ is_write m → after ≡ before ++ look_used panes m → IsLooked panes bytes before (record { len = len; has_rows = rows }) after
looked_plain panes bytes before after m len rows e within same write used = record {
  message = m;
  spells = ap spelled e ∙ λ i. Ok (m, drop (sym same i) bytes);
  within = omega (arith, same, within);
  write = write;
  uses_are = used;
}

listed_reads : (l : Listed) → false ≡ is_write (listed_message l)
listed_reads (listed.Restack t) = refl
listed_reads (listed.Name n) = refl
listed_reads (listed.UseName n) = refl
listed_reads (listed.Write a) = by a.background
  where
    by : (b : Option Background) → false ≡ is_write (option_map_or (λ b. LowX (writing_in a) b.id b.p) b (LowS (writing_in a)))
    by None = refl
    by (Some b) = refl

pub looked_listed : (panes : List (ℕ × Pane)) (bytes : List ℕ) (before after : List Use) (l : Listed) (len : ℕ) → first_message bytes ≡ IsMessage (listed_message l) (drop (listed_len l) bytes)
    → listed_len l ≤ length bytes → len ≡ listed_len l → after ≡ before ++ look_used panes (listed_message l) → IsLooked panes bytes before (record { len = len; has_rows = false }) after
looked_listed panes bytes before after l len e within same used = record {
  message = listed_message l;
  spells = ap spelled e ∙ λ i. Ok (listed_message l, drop (sym same i) bytes);
  within = omega (arith, same, within);
  write = listed_reads l;
  uses_are = used;
}

-- what follows where all went well
pub where_ok : {E : Type 0} (r : Result (Unit {0}) E) (P Q : Type 0) → (P → Q) → OnOk r P → OnOk r Q
where_ok (Ok x) P Q f p = f p
where_ok (Err e) P Q f p = tt
