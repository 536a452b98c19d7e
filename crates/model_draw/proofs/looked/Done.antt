-- The messages of a write that were done: what is reached behind them, and the lengths of their rows one by one.
use Rattle.std.proofs.Common.{◌≡◌, ℕ, zero, suc, Bool, true, false, ◌+◌, ◌-◌, ◌≤◌, List, [], ◌∷◌, ◌++◌, length, drop, Option, Some, None, Ok, Err, refl, sym, ap, ◌∙◌, arith, append_assoc, length-drop}
use Rattle.std.proofs.lemmas.List.{append-nil}
use Rattle.model_text.specs.text.Outcome.{Outcome, ◌>>=◌, refuse_if}
use Rattle.model_draw_parts.specs.dmsg.Message.{Message, LowY}
use Rattle.model_draw_parts.specs.dmsg.Reading.{first_message}
use Rattle.model_draw.specs.draw.World.{World}
use Rattle.model_draw.specs.draw.Act.{Written, act, behind, is_marked, no_memory, one_message, spelled, written, written_within}
use Rattle.model_draw.specs.draw.Memory.{reached}
use Rattle.model_draw.specs.looked.Rows.{rows_first, rows_of, rows_within}
use Rattle.model_draw.specs.looked.Again.{behind_by, rows_left}

-- ---- what is reached

-- a message that is done with a mark is done without it
end_marked : (b : Bool) (x next : World × List ℕ) → (refuse_if b no_memory >>= λ _. Ok x) ≡ Ok next → (refuse_if (is_marked None 0) no_memory >>= λ _. Ok x) ≡ Ok next
end_marked true x next e = absurd cc
end_marked false x next e = e

pub done_unmarked : (k : ℕ) (w : World) (mark : Option ℕ) (done : ℕ) (bytes : List ℕ) (next : World × List ℕ) → one_message k w mark done bytes ≡ Ok next → one_message k w None 0 bytes ≡ Ok next
unfolding one_message
done_unmarked k w mark done bytes next e = by (spelled (first_message bytes)) e
  where
    acted : (o : Outcome World) (m : Message × List ℕ) → (o >>= λ x. refuse_if (is_marked mark done) no_memory >>= λ _. Ok (x, behind k w m.0 m.1)) ≡ Ok next
        → (o >>= λ x. refuse_if (is_marked None 0) no_memory >>= λ _. Ok (x, behind k w m.0 m.1)) ≡ Ok next
    acted (Ok x) m e = end_marked (is_marked mark done) (x, behind k w m.0 m.1) next e
    acted (Err n) m e = e

    by : (o : Outcome (Message × List ℕ)) → (o >>= λ m. act k w m.0 m.1 >>= λ x. refuse_if (is_marked mark done) no_memory >>= λ _. Ok (x, behind k w m.0 m.1)) ≡ Ok next
        → (o >>= λ m. act k w m.0 m.1 >>= λ x. refuse_if (is_marked None 0) no_memory >>= λ _. Ok (x, behind k w m.0 m.1)) ≡ Ok next
    by (Ok m) e = acted (act k w m.0 m.1) m e
    by (Err n) e = e

-- from some message on so many were done, and what is behind them is reached
record HasDone (k : ℕ) (w : World) (bytes : List ℕ) (from to : ℕ) : Type 0 where
  more : ℕ
  at : World × List ℕ
  sum : from + more ≡ to
  reaches : reached more k w bytes ≡ Some at

done_from : (steps k : ℕ) (w : World) (mark : Option ℕ) (done : ℕ) (bytes : List ℕ) → HasDone k w bytes done (written_within steps k w mark done bytes).done
done_from zero k w mark done bytes = record { more = 0; at = (w, bytes); sum = omega arith; reaches = refl }
done_from (suc steps) k w mark done [] = record { more = 0; at = (w, []); sum = omega arith; reaches = refl }
done_from (suc steps) k w mark done (byte ∷ bytes) = by (λ v b. done_from steps k v mark (done + 1) b) (one_message k w mark done (byte ∷ bytes)) refl
  where
    by : ((v : World) (b : List ℕ) → HasDone k v b (done + 1) (written_within steps k v mark (done + 1) b).done) → (o : Outcome (World × List ℕ)) → one_message k w mark done (byte ∷ bytes) ≡ o
        → HasDone k w (byte ∷ bytes) done (let r : Written = elim o [ Ok next ↦ written_within steps k next.0 mark (done + 1) next.1 | Err refusal ↦ record { world = w; done = done; refusal = Some refusal } ] in r).done
    by more (Ok next) e =
        let later = more next.0 next.1 in
        record {
          more = suc later.more;
          at = later.at;
          sum = (let s = later.sum in omega (arith, s));
          reaches =
              ap (λ (o : Outcome (World × List ℕ)). let p : Option (World × List ℕ) = elim o [ Ok x ↦ reached later.more k x.0 x.1 | Err refusal ↦ None ] in p)
              (done_unmarked k w mark done (byte ∷ bytes) next e)
              ∙ later.reaches;
        }
    by more (Err n) e = record { more = 0; at = (w, byte ∷ bytes); sum = omega arith; reaches = refl }

-- what is behind the messages of a write that were done is reached
pub written_reaches : (k : ℕ) (w : World) (bytes : List ℕ) (mark : Option ℕ) → (at : World × List ℕ) × (reached (written k w bytes mark).done k w bytes ≡ Some at)
unfolding written
written_reaches k w bytes mark =
    let all = done_from (length bytes) k w mark 0 bytes in
    (all.at, (let s : all.more ≡ (written_within (length bytes) k w mark 0 bytes).done = (let e = all.sum in omega (arith, e)) in ap (λ n. reached n k w bytes) (sym s)) ∙ all.reaches)

-- ---- rows

drop_len : (n : ℕ) (xs : List ℕ) → drop (length xs - length (drop n xs)) xs ≡ drop n xs
drop_len zero xs = ap (λ n. drop n xs) (let e : length xs - length xs ≡ 0 = omega arith in e)
drop_len (suc n) [] = refl
drop_len (suc n) (x ∷ xs) =
    let cut = length-drop n xs in
    let e : suc (length xs) - length (drop n xs) ≡ suc (length xs - length (drop n xs)) = omega (arith, cut) in
    ap (λ m. drop m (x ∷ xs)) e ∙ drop_len n xs

-- the lengths behind those of a message, and the bytes behind it by its own
pub by_rows : (k : ℕ) (w : World) (m : Message) (rest more : List ℕ) → (rows_left m (rows_of k w m rest ++ more) ≡ more) × (behind_by m (rows_of k w m rest ++ more) rest ≡ behind k w m rest)
unfolding behind
by_rows k w (LowY id r) rest more = (refl, drop_len _ rest)
by_rows k w _ rest more = (refl, refl)

-- the lengths where one message more is done
pub rows_more : (n k : ℕ) (w at : World) (bytes rest : List ℕ) (next : World × List ℕ) → reached n k w bytes ≡ Some (at, rest) → one_message k at None 0 rest ≡ Ok next
    → rows_within (suc n) k w bytes ≡ rows_within n k w bytes ++ rows_first k at rest
rows_more zero k w at bytes rest next r e =
    let same_at : w ≡ at = (let e : (w, bytes) ≡ (at, rest) = cc in ap (λ (p : World × List ℕ). p.0) e) in
    let same_rest : bytes ≡ rest = (let e : (w, bytes) ≡ (at, rest) = cc in ap (λ (p : World × List ℕ). p.1) e) in
    let first : one_message k w None 0 bytes ≡ Ok next = (λ i. one_message k (same_at i) None 0 (same_rest i)) ∙ e in
    ap (λ (o : Outcome (World × List ℕ)). let l : List ℕ = elim o [ Ok x ↦ rows_first k w bytes ++ rows_within 0 k x.0 x.1 | Err refusal ↦ [] ] in l) first
    ∙ append-nil (rows_first k w bytes) ∙ (λ i. rows_first k (same_at i) (same_rest i))
rows_more (suc n) k w at bytes rest next r e = by (λ v b. rows_more n k v at b rest next) (one_message k w None 0 bytes) refl r
  where
    by : ((v : World) (b : List ℕ) → reached n k v b ≡ Some (at, rest) → one_message k at None 0 rest ≡ Ok next → rows_within (suc n) k v b ≡ rows_within n k v b ++ rows_first k at rest)
        → (o : Outcome (World × List ℕ)) → one_message k w None 0 bytes ≡ o
        → (let p : Option (World × List ℕ) = elim o [ Ok x ↦ reached n k x.0 x.1 | Err refusal ↦ None ] in p) ≡ Some (at, rest)
        → (let l : List ℕ = elim o [ Ok x ↦ rows_first k w bytes ++ rows_within (suc n) k x.0 x.1 | Err refusal ↦ [] ] in l)
        ≡ (let l : List ℕ = elim o [ Ok x ↦ rows_first k w bytes ++ rows_within n k x.0 x.1 | Err refusal ↦ [] ] in l) ++ rows_first k at rest
    by more (Ok x) is r = ap (λ (l : List ℕ). rows_first k w bytes ++ l) (more x.0 x.1 r e) ∙ sym (append_assoc (rows_first k w bytes) (rows_within n k x.0 x.1) (rows_first k at rest))
    by more (Err refusal) is r = absurd cc
