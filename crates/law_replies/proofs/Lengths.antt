-- How long replies are.
use Rattle.std.proofs.Common.{◌≡◌, ◌≤◌, ◌+◌, ◌*◌, ◌⊎◌, ℕ, Bool, true, false, leb, List, [], ◌∷◌, ◌++◌, length, max, inl, inr, refl, arith, lit≤, length-append}
use Rattle.std.specs.Prelude.{◌==◌, nat_lt, if◌then◌else◌}
use Rattle.std.specs.List.{flat_map}
use Rattle.std.proofs.lemmas.Bool.{cond_both, leb-true, leb-false}
use Rattle.model_text.specs.text.Number.{two_bytes, four_bytes}
use Rattle.model_files.specs.wire.Message.{Qid, Stat, R, Rversion, Rattach, Rflush, Rwalk, Ropen, Rread, Rwrite, Rclunk, Rstat}
use Rattle.model_files.specs.wire.Spelling.{message, qid_bytes, sized, spelling_of_r, stat_body, stat_bytes}
use Rattle.model_world.specs.Refusal.{draw_texts, file_texts, refusal, refusal_text, text_in}
use Rattle.law_replies.specs.Answers.{IsWide, IsWideText}

-- the reply is no longer than this, or tells a number that is wider than its field
abbrev pub Fits : (msize : ℕ) → R → Type 0
Fits msize r = (length (spelling_of_r r) ≤ msize) ⊎ IsWide r

abbrev pub FitsRead : (msize : ℕ) → List ℕ → Type 0
FitsRead msize bytes = (length bytes + 11 ≤ msize) ⊎ IsWideText bytes

message_long : (kind tag : ℕ) (body : List ℕ) → length (message kind tag body) ≡ 7 + length body
unfolding message
message_long kind tag body = omega arith

qid_long : (qid : Qid) → length (qid_bytes qid) ≡ 13
unfolding qid_bytes
qid_long qid = omega arith

qids_long : (qids : List Qid) → length (flat_map qid_bytes qids) ≡ 13 * length qids
qids_long [] = refl
qids_long (qid ∷ qids) = omega (arith, length-append (qid_bytes qid) (flat_map qid_bytes qids), qid_long qid, qids_long qids)

-- ---- texts of refusals

longest : List (ℕ × List ℕ) → ℕ
longest [] = 0
longest (row ∷ rows) = max (length row.1) (longest rows)

text_in_short : (rows : List (ℕ × List ℕ)) (n : ℕ) → length (text_in rows n) ≤ longest rows
unfolding longest
text_in_short [] n = omega arith
text_in_short (row ∷ rows) n = by (row.0 == n) (text_in_short rows n)
  where
    by : (b : Bool) → length (text_in rows n) ≤ longest rows → length (if b then row.1 else text_in rows n) ≤ max (length row.1) (longest rows)
    by true short = omega arith
    by false short = omega (arith, short)

draw_short : longest draw_texts ≤ 100
unfolding longest
draw_short = lit≤ tt

file_short : longest file_texts ≤ 100
unfolding longest
file_short = lit≤ tt

text_short : (n : ℕ) → length (refusal_text n) ≤ 100
unfolding refusal_text
text_short n =
    cond_both (nat_lt n 30) (text_in draw_texts n) (text_in file_texts n) (λ (text : List ℕ). length text ≤ 100)
    (λ _. let a = text_in_short draw_texts n in let b = draw_short in omega (arith, a, b))
    (λ _. let a = text_in_short file_texts n in let b = file_short in omega (arith, a, b))

-- ---- each reply

sized_long : (bytes : List ℕ) → length (sized bytes) ≡ 2 + length bytes
unfolding sized
sized_long bytes = omega arith

pub error_fits : (msize tag n : ℕ) → 256 ≤ msize → Fits msize (refusal tag n)
error_fits msize tag n least = let short = text_short n in inl (omega (arith, message_long 107 tag (sized (refusal_text n)), sized_long (refusal_text n)))

pub attach_fits : (msize tag : ℕ) (qid : Qid) → 256 ≤ msize → Fits msize (Rattach tag qid)
attach_fits msize tag qid least = inl (omega (arith, message_long 105 tag (qid_bytes qid), qid_long qid))

pub flush_fits : (msize tag : ℕ) → 256 ≤ msize → Fits msize (Rflush tag)
flush_fits msize tag least = inl (omega (arith, message_long 109 tag []))

pub clunk_fits : (msize tag : ℕ) → 256 ≤ msize → Fits msize (Rclunk tag)
clunk_fits msize tag least = inl (omega (arith, message_long 121 tag []))

pub write_fits : (msize tag count : ℕ) → 256 ≤ msize → Fits msize (Rwrite tag count)
write_fits msize tag count least = inl (omega (arith, message_long 119 tag (four_bytes count)))

pub open_fits : (msize tag : ℕ) (qid : Qid) (iounit : ℕ) → 256 ≤ msize → Fits msize (Ropen tag qid iounit)
open_fits msize tag qid iounit least = inl (omega (arith, message_long 113 tag (qid_bytes qid ++ four_bytes iounit), length-append (qid_bytes qid) (four_bytes iounit), qid_long qid))

pub walk_fits : (msize tag : ℕ) (qids : List Qid) → length qids ≤ 16 → 256 ≤ msize → Fits msize (Rwalk tag qids)
walk_fits msize tag qids few least =
    inl (omega (arith, message_long 111 tag (two_bytes (length qids) ++ flat_map qid_bytes qids), length-append (two_bytes (length qids)) (flat_map qid_bytes qids), qids_long qids))

pub version_fits : (msize tag size : ℕ) (version : List ℕ) → length version ≤ 100 → 256 ≤ msize → Fits msize (Rversion tag size version)
version_fits msize tag size version short least =
    inl (omega (arith, message_long 101 tag (four_bytes size ++ sized version), length-append (four_bytes size) (sized version), sized_long version))

pub read_fits : (msize tag : ℕ) (bytes : List ℕ) → FitsRead msize bytes → Fits msize (Rread tag bytes)
read_fits msize tag bytes (inl short) =
    inl (omega (arith, short, message_long 117 tag (four_bytes (length bytes) ++ bytes), length-append (four_bytes (length bytes)) bytes))
read_fits msize tag bytes (inr wide) = inr wide

stat_long : (s : Stat) → length (stat_body s) ≡ 47 + length s.name + length s.uid + length s.gid + length s.muid
unfolding stat_body
stat_long s = simp (length-append, sized_long, qid_long) (omega arith)

pub stat_fits : (msize tag : ℕ) (s : Stat) → length s.uid ≤ 4 → length s.gid ≤ 4 → length s.muid ≤ 4 → 256 ≤ msize → Fits msize (Rstat tag s)
stat_fits msize tag s uid gid muid least = by (leb (length s.name) 11) refl
  where
    by : (b : Bool) → leb (length s.name) 11 ≡ b → Fits msize (Rstat tag s)
    by true is =
        let few = leb-true (length s.name) 11 is in
        inl (omega (arith, few, message_long 125 tag (sized (stat_bytes s)), sized_long (stat_bytes s), sized_long (stat_body s), stat_long s))
    by false is = inr (leb-false (length s.name) 11 is)
