-- Qids, stats, and the bodies of replies.
use Rattle.std.proofs.Common.{◌≡◌, ℕ, ◌*◌, ◌^◌, ◌<◌, ◌≤◌, cond, eqb, List, [], ◌∷◌, ◌++◌, length, Option, refl, sym, ap, subst, ◌∙◌, append_assoc, arith}
use Rattle.std.specs.Int.{w32}
use Rattle.std.specs.List.{All, flat_map}
use Rattle.std.proofs.lemmas.List.{length-append}
use Rattle.model_text.specs.text.Number.{two_bytes, four_bytes, eight_bytes}
use Rattle.model_text.specs.text.Reading.{◌&◌, number_at}
use Rattle.model_text.proofs.text.Fields.{IsField, Takes, pair_field, wide32}
use Rattle.model_files.specs.wire.Message.{Qid, Stat, R, Rversion, Rattach, Rerror, Rflush, Rwalk, Ropen, Rread, Rwrite, Rclunk, Rstat}
use Rattle.model_files.specs.wire.Spelling.{sized, string, IsString, qid_bytes, qids_bytes, IsQid, stat_body, stat_bytes, spelling_of_r, SizesStat, FitsStat, SizesR, FitsR}
use Rattle.model_files.specs.wire.Reading.{counted_at, string_at, qid_at, qids_at, stat_body_at, stat_at, within, nothing_at, r_version, r_attach, r_error, r_flush, r_walk, r_open, r_read, r_write, r_clunk, r_stat, reply_body_at}
use Rattle.model_files.proofs.wire.Parts.{some_is, same_field, refit_field, made_field, field8, field16, field32, field64, counted_field, length-sized, string_field, listed_field, within_field}
use Rattle.model_files.proofs.wire.Bodies.{HasBody, TakesBody, body_takes, body_again, or_else, none_taken}

-- ---- qids

pub qid_field : IsField qid_at qid_bytes IsQid
unfolding qid_at qid_bytes
qid_field =
    refit_field _ _ _ _ (made_field _ _ _ _ (λ (q : Qid). (q.kind, (q.vers, q.path))) (pair_field _ _ _ _ _ _ field8 (pair_field _ _ _ _ _ _ field32 field64)) (λ x. refl) (λ y. refl))
    (λ q f. (f.0, f.1.0, f.1.1)) (λ q f. (f.0, (f.1, f.2)))

pub length-qid : (qid : Qid) → length (qid_bytes qid) ≡ 13
unfolding qid_bytes
length-qid qid = refl

qids_field : IsField qids_at qids_bytes (λ qids. (length qids ≤ 16) × All IsQid qids)
unfolding qids_at
qids_field = listed_field qid_at qid_bytes IsQid qid_field

length-qids : (qids : List Qid) → length (flat_map qid_bytes qids) ≡ 13 * length qids
length-qids [] = omega arith
length-qids (qid ∷ qids) =
    let more : length (flat_map qid_bytes qids) ≡ 13 * length qids = length-qids qids in
    omega (arith, length-append (qid_bytes qid) (flat_map qid_bytes qids), length-qid qid)

-- ---- stats

abbrev StatParts : Type 0
StatParts = ℕ × (ℕ × (Qid × (ℕ × (ℕ × (ℕ × (ℕ × (List ℕ × (List ℕ × (List ℕ × List ℕ)))))))))

abbrev parts_of_stat : Stat → StatParts
parts_of_stat s = (s.kind, (s.dev, (s.qid, (s.mode, (s.atime, (s.mtime, (s.length, (s.name, (s.uid, (s.gid, s.muid))))))))))

-- the four texts, one behind the other
four_texts : (a b c d : List ℕ) → a ++ b ++ c ++ d ≡ a ++ (b ++ (c ++ d))
four_texts a b c d = append_assoc (a ++ b) c d ∙ append_assoc a b (c ++ d)

stat_spelled : (s : Stat) → two_bytes s.kind ++ (four_bytes s.dev ++ (qid_bytes s.qid ++ (four_bytes s.mode ++ (four_bytes s.atime ++ (four_bytes s.mtime ++ (eight_bytes s.length
    ++ (string s.name ++ (string s.uid ++ (string s.gid ++ string s.muid))))))))) ≡ stat_body s
unfolding stat_body qid_bytes
stat_spelled s =
    ap (λ (texts : List ℕ). two_bytes s.kind ++ (four_bytes s.dev ++ (qid_bytes s.qid ++ (four_bytes s.mode ++ (four_bytes s.atime ++ (four_bytes s.mtime ++ (eight_bytes s.length ++ texts)))))))
    (sym (four_texts (string s.name) (string s.uid) (string s.gid) (string s.muid)))

pub stat_body_field : IsField stat_body_at stat_body (λ s. SizesStat s × IsString s.name × IsString s.uid × IsString s.gid × IsString s.muid)
unfolding stat_body_at
stat_body_field =
    same_field _ _ stat_body _
    (refit_field _ _ _ _
    (made_field _ _ _ _ parts_of_stat
    (pair_field _ _ _ _ _ _ field16 (pair_field _ _ _ _ _ _ field32 (pair_field _ _ _ _ _ _ qid_field (pair_field _ _ _ _ _ _ field32 (pair_field _ _ _ _ _ _ field32
    (pair_field _ _ _ _ _ _ field32 (pair_field _ _ _ _ _ _ field64 (pair_field _ _ _ _ _ _ string_field (pair_field _ _ _ _ _ _ string_field (pair_field _ _ _ _ _ _ string_field string_field))))))))))
    (λ x. refl) (λ y. refl))
    (λ s f. ((f.0, f.1.0, f.1.1.0, f.1.1.1.0, f.1.1.1.1.0, f.1.1.1.1.1.0, f.1.1.1.1.1.1.0), f.1.1.1.1.1.1.1.0, f.1.1.1.1.1.1.1.1.0, f.1.1.1.1.1.1.1.1.1.0, f.1.1.1.1.1.1.1.1.1.1))
    (λ s f. (f.0.0, (f.0.1, (f.0.2, (f.0.3, (f.0.4, (f.0.5, (f.0.6, (f.1, (f.2, (f.3, f.4))))))))))))
    (λ s fits. stat_spelled s)

-- a stat, which has its size before it
pub stat_field : IsField stat_at stat_bytes (λ s. SizesStat s × FitsStat s)
unfolding stat_at
stat_field =
    refit_field _ _ _ _ (within_field stat_body_at stat_body _ stat_body_field)
    (λ s f. (f.0.0, (f.0.1, f.0.2, f.0.3, f.0.4, f.1))) (λ s f. ((f.0, f.1.0, f.1.1, f.1.2, f.1.3), f.1.4))

-- ---- bodies

nothing_field : IsField nothing_at (λ _. []) (λ _. Unit {0})
nothing_field = record {
  takes = λ bytes x rest are e.
      let is : (tt, bytes) ≡ (x, rest) = some_is (tt, bytes) (x, rest) e in
      subst (λ (p : Unit {0} × List ℕ). Takes bytes [] p.1 × Unit {0}) is (record { parts = refl; rest_bytes = are }, tt);
  again = λ x rest fits. refl;
}

long_field : IsField (counted_at w32) (λ bytes. four_bytes (length bytes) ++ bytes) (λ bytes. length bytes < 2 ^ 32)
long_field = counted_field w32 (2 ^ 32) wide32

version_field : IsField (number_at w32 & string_at) (λ x. four_bytes x.0 ++ string x.1) (λ x. (x.0 < 2 ^ 32) × IsString x.1)
version_field = pair_field _ _ _ _ _ _ field32 string_field

open_field : IsField (qid_at & number_at w32) (λ x. qid_bytes x.0 ++ four_bytes x.1) (λ x. IsQid x.0 × (x.1 < 2 ^ 32))
open_field = pair_field _ _ _ _ _ _ qid_field field32

told_field : IsField (within stat_at) (λ s. sized (stat_bytes s)) (λ s. (SizesStat s × FitsStat s) × (length (stat_bytes s) < 2 ^ 16))
told_field = within_field stat_at stat_bytes _ stat_field

abbrev TakesR : (kind : ℕ) (read : ℕ → List ℕ → Option R) → Type 0
TakesR kind read = TakesBody spelling_of_r (λ m. SizesR m × FitsR m) kind read

version_takes : TakesR 101 r_version
unfolding r_version
version_takes tag body m lt are small e =
    body_takes spelling_of_r _ 101 tag _ _ _ (λ (x : ℕ × List ℕ). Rversion tag x.0 x.1) version_field (λ x. refl) (λ x f s. ((lt, f.0), f.1)) body m are small e

attach_takes : TakesR 105 r_attach
unfolding r_attach
attach_takes tag body m lt are small e = body_takes spelling_of_r _ 105 tag _ _ _ (λ (x : Qid). Rattach tag x) qid_field (λ x. refl) (λ x f s. ((lt, f), tt)) body m are small e

error_takes : TakesR 107 r_error
unfolding r_error
error_takes tag body m lt are small e = body_takes spelling_of_r _ 107 tag _ _ _ (λ (x : List ℕ). Rerror tag x) string_field (λ x. refl) (λ x f s. (lt, f)) body m are small e

flush_takes : TakesR 109 r_flush
unfolding r_flush
flush_takes tag body m lt are small e = body_takes spelling_of_r _ 109 tag _ _ _ (λ (x : Unit {0}). Rflush tag) nothing_field (λ x. refl) (λ x f s. (lt, tt)) body m are small e

walk_takes : TakesR 111 r_walk
unfolding r_walk
walk_takes tag body m lt are small e = body_takes spelling_of_r _ 111 tag _ _ _ (λ (x : List Qid). Rwalk tag x) qids_field (λ x. refl) (λ x f s. ((lt, f.1), f.0)) body m are small e

open_takes : TakesR 113 r_open
unfolding r_open
open_takes tag body m lt are small e = body_takes spelling_of_r _ 113 tag _ _ _ (λ (x : Qid × ℕ). Ropen tag x.0 x.1) open_field (λ x. refl) (λ x f s. ((lt, f.0, f.1), tt)) body m are small e

read_takes : TakesR 117 r_read
unfolding r_read
read_takes tag body m lt are small e = body_takes spelling_of_r _ 117 tag _ _ _ (λ (x : List ℕ). Rread tag x) long_field (λ x. refl) (λ x f s. (lt, omega (arith, s))) body m are small e

write_takes : TakesR 119 r_write
unfolding r_write
write_takes tag body m lt are small e = body_takes spelling_of_r _ 119 tag _ _ _ (λ (x : ℕ). Rwrite tag x) field32 (λ x. refl) (λ x f s. ((lt, f), tt)) body m are small e

clunk_takes : TakesR 121 r_clunk
unfolding r_clunk
clunk_takes tag body m lt are small e = body_takes spelling_of_r _ 121 tag _ _ _ (λ (x : Unit {0}). Rclunk tag) nothing_field (λ x. refl) (λ x f s. (lt, tt)) body m are small e

stat_takes : TakesR 125 r_stat
unfolding r_stat
stat_takes tag body m lt are small e =
    body_takes spelling_of_r _ 125 tag _ _ _ (λ (x : Stat). Rstat tag x) told_field (λ x. refl) (λ x f s. ((lt, f.0.0), (f.0.1, f.1))) body m are small e

pub replies_take : (kind : ℕ) → TakesBody spelling_of_r (λ m. SizesR m × FitsR m) kind (reply_body_at kind)
unfolding reply_body_at
replies_take kind =
    or kind 101 version_takes (or kind 105 attach_takes (or kind 107 error_takes (or kind 109 flush_takes (or kind 111 walk_takes (or kind 113 open_takes (or kind 117 read_takes
    (or kind 119 write_takes (or kind 121 clunk_takes (or kind 125 stat_takes (none_taken _ _ kind))))))))))
  where
    or : (kind one : ℕ) {first others : ℕ → List ℕ → Option R} → TakesR one first → TakesR kind others → TakesR kind (cond (eqb kind one) first others)
    or kind one {first} {others} takes_first takes_others = or_else spelling_of_r (λ m. SizesR m × FitsR m) kind one first others takes_first takes_others

pub replies_again : (m : R) → SizesR m → FitsR m → HasBody reply_body_at spelling_of_r m
unfolding reply_body_at r_version r_attach r_error r_flush r_walk r_open r_read r_write r_clunk r_stat
replies_again (Rversion tag msize version) n f =
    body_again reply_body_at spelling_of_r 101 tag _ _ _ (λ (x : ℕ × List ℕ). Rversion tag x.0 x.1) version_field (msize, version) (n.1, f)
    (omega arith) n.0 (omega (arith, length-sized version, f.1)) refl refl
replies_again (Rattach tag qid) n f =
    body_again reply_body_at spelling_of_r 105 tag _ _ _ (λ (x : Qid). Rattach tag x) qid_field qid n.1 (omega arith) n.0 (omega (arith, length-qid qid)) refl refl
replies_again (Rerror tag ename) n f =
    body_again reply_body_at spelling_of_r 107 tag _ _ _ (λ (x : List ℕ). Rerror tag x) string_field ename f (omega arith) n (omega (arith, length-sized ename, f.1)) refl refl
replies_again (Rflush tag) n f =
    body_again reply_body_at spelling_of_r 109 tag _ _ _ (λ (x : Unit {0}). Rflush tag) nothing_field tt tt (omega arith) n (omega arith) refl refl
replies_again (Rwalk tag qids) n f =
    body_again reply_body_at spelling_of_r 111 tag _ _ _ (λ (x : List Qid). Rwalk tag x) qids_field qids (f, n.1) (omega arith) n.0 (omega (arith, length-qids qids, f)) refl refl
replies_again (Ropen tag qid iounit) n f =
    body_again reply_body_at spelling_of_r 113 tag _ _ _ (λ (x : Qid × ℕ). Ropen tag x.0 x.1) open_field (qid, iounit) (n.1, n.2)
    (omega arith) n.0 (omega (arith, length-append (qid_bytes qid) (four_bytes iounit), length-qid qid)) refl refl
replies_again (Rread tag bytes) n f =
    body_again reply_body_at spelling_of_r 117 tag _ _ _ (λ (x : List ℕ). Rread tag x) long_field bytes (omega (arith, f)) (omega arith) n (omega (arith, f)) refl refl
replies_again (Rwrite tag count) n f =
    body_again reply_body_at spelling_of_r 119 tag _ _ _ (λ (x : ℕ). Rwrite tag x) field32 count n.1 (omega arith) n.0 (omega arith) refl refl
replies_again (Rclunk tag) n f =
    body_again reply_body_at spelling_of_r 121 tag _ _ _ (λ (x : Unit {0}). Rclunk tag) nothing_field tt tt (omega arith) n (omega arith) refl refl
replies_again (Rstat tag stat) n f =
    body_again reply_body_at spelling_of_r 125 tag _ _ _ (λ (x : Stat). Rstat tag x) told_field stat ((n.1, f.0), f.1) (omega arith) n.0 (omega (arith, length-sized (stat_bytes stat), f.1)) refl refl
