-- One write of messages, step by step.
use Rattle.std.proofs.Common.{◌≡◌, ℕ, zero, suc, Bool, true, false, ◌+◌, ◌<◌, ◌≤◌, List, [], ◌∷◌, ◌++◌, length, drop, Option, Some, None, Ok, Err, ◌⊎◌, inl, inr, refl, sym, ap, ◌∙◌, arith, length-drop}
use Rattle.std.specs.Prelude.{is_ok, IsSome}
use Rattle.std.specs.Option.{option_map_or}
use Rattle.std.proofs.lemmas.Bool.{eqb-true}
use Rattle.std.proofs.lemmas.Bool.Decides.{nat_tests}
use Rattle.model_text.specs.text.Map.{lookup}
use Rattle.model_text.specs.text.Outcome.{Outcome, ◌>>=◌, refuse_if}
use Rattle.model_draw_parts.specs.dmsg.Message.{Message}
use Rattle.model_draw_parts.specs.dmsg.Reading.{first_message}
use Rattle.model_draw.specs.draw.World.{World}
use Rattle.model_draw.specs.draw.Act.{Written, act, behind, is_marked, no_memory, one_message, spelled, written, written_within}
use Rattle.model_draw.specs.draw.Memory.{MayRunOut, reached}
use Rattle.model_draw.specs.looked.Rows.{rows_first, rows_within}
use Rattle.model_draw.proofs.looked.Done.{rows_more}
use Rattle.r9_draw.specs.draw.Steps.{IsDone, IsRefused, IsShortOf}

-- ---- a message with a mark

-- the end of a message that is accepted, where it is marked or not
with_mark : Bool → World × List ℕ → Outcome (World × List ℕ)
with_mark b next = refuse_if b no_memory >>= λ _. Ok next

marked_by : Bool → ℕ → World → List ℕ → Outcome (World × List ℕ)
marked_by b k w bytes = spelled (first_message bytes) >>= λ m. act k w m.0 m.1 >>= λ next. with_mark b (next, behind k w m.0 m.1)

marked-is : (k : ℕ) (w : World) (mark : Option ℕ) (done : ℕ) (bytes : List ℕ) → one_message k w mark done bytes ≡ marked_by (is_marked mark done) k w bytes
unfolding one_message marked_by with_mark
marked-is k w mark done bytes = refl

unmarked-is : (k : ℕ) (w : World) (bytes : List ℕ) → one_message k w None 0 bytes ≡ marked_by false k w bytes
unfolding one_message marked_by with_mark
unmarked-is k w bytes = refl

end_err : {A : Type 0} (o : Outcome A) (f : A → World × List ℕ) (b : Bool) (n : ℕ) → (o >>= λ x. with_mark false (f x)) ≡ Err n → (o >>= λ x. with_mark b (f x)) ≡ Err n
unfolding with_mark
end_err (Ok x) f b n e = absurd cc
end_err (Err m) f b n e = e

err_any : (k : ℕ) (w : World) (bytes : List ℕ) (b : Bool) (n : ℕ) → marked_by false k w bytes ≡ Err n → marked_by b k w bytes ≡ Err n
unfolding marked_by
err_any k w bytes b n e = by (spelled (first_message bytes)) e
  where
    by : (o : Outcome (Message × List ℕ)) → (o >>= λ m. act k w m.0 m.1 >>= λ next. with_mark false (next, behind k w m.0 m.1)) ≡ Err n → (o >>= λ m. act k w m.0 m.1 >>= λ next. with_mark b (next, behind k w m.0 m.1)) ≡ Err n
    by (Ok m) e = end_err (act k w m.0 m.1) (λ next. (next, behind k w m.0 m.1)) b n e
    by (Err r) e = e

end_ok : {A : Type 0} (o : Outcome A) (f : A → World × List ℕ) → is_ok (o >>= λ x. with_mark false (f x)) ≡ true → (o >>= λ x. with_mark true (f x)) ≡ Err no_memory
unfolding with_mark
end_ok (Ok x) f e = refl
end_ok (Err m) f e = absurd cc

ok_marked : (k : ℕ) (w : World) (bytes : List ℕ) → is_ok (marked_by false k w bytes) ≡ true → marked_by true k w bytes ≡ Err no_memory
unfolding marked_by
ok_marked k w bytes e = by (spelled (first_message bytes)) e
  where
    by : (o : Outcome (Message × List ℕ)) → is_ok (o >>= λ m. act k w m.0 m.1 >>= λ next. with_mark false (next, behind k w m.0 m.1)) ≡ true → (o >>= λ m. act k w m.0 m.1 >>= λ next. with_mark true (next, behind k w m.0 m.1)) ≡ Err no_memory
    by (Ok m) e = end_ok (act k w m.0 m.1) (λ next. (next, behind k w m.0 m.1)) e
    by (Err r) e = absurd cc

pub message-unmarked : (k : ℕ) (w : World) (mark : Option ℕ) (done : ℕ) (bytes : List ℕ) → is_marked mark done ≡ false → one_message k w mark done bytes ≡ one_message k w None 0 bytes
message-unmarked k w mark done bytes e = marked-is k w mark done bytes ∙ ap (λ b. marked_by b k w bytes) e ∙ sym (unmarked-is k w bytes)

pub message-refused : (k : ℕ) (w : World) (mark : Option ℕ) (done : ℕ) (bytes : List ℕ) (n : ℕ) → one_message k w None 0 bytes ≡ Err n → one_message k w mark done bytes ≡ Err n
message-refused k w mark done bytes n e = marked-is k w mark done bytes ∙ err_any k w bytes (is_marked mark done) n (sym (unmarked-is k w bytes) ∙ e)

message-marked : (k : ℕ) (w : World) (mark : Option ℕ) (done : ℕ) (bytes : List ℕ) → is_marked mark done ≡ true → is_ok (one_message k w None 0 bytes) ≡ true → one_message k w mark done bytes ≡ Err no_memory
message-marked k w mark done bytes m e =
    marked-is k w mark done bytes ∙ ap (λ b. marked_by b k w bytes) m ∙ ok_marked k w bytes (ap is_ok (sym (unmarked-is k w bytes)) ∙ e)

-- ---- steps of a write

pub goes_on : (fuel k : ℕ) (w : World) (mark : Option ℕ) (done : ℕ) (bytes : List ℕ) (next : World × List ℕ) → 0 < length bytes → one_message k w mark done bytes ≡ Ok next
    → written_within (suc fuel) k w mark done bytes ≡ written_within fuel k next.0 mark (done + 1) next.1
goes_on fuel k w mark done [] next some e = absurd (omega (arith, some))
goes_on fuel k w mark done (byte ∷ bytes) next some e =
    ap (λ (o : Outcome (World × List ℕ)). let r : Written = elim o [ Ok x ↦ written_within fuel k x.0 mark (done + 1) x.1 | Err r ↦ record { world = w; done = done; refusal = Some r } ] in r) e

pub stops : (fuel k : ℕ) (w : World) (mark : Option ℕ) (done : ℕ) (bytes : List ℕ) (n : ℕ) → 0 < length bytes → one_message k w mark done bytes ≡ Err n
    → written_within (suc fuel) k w mark done bytes ≡ record { world = w; done = done; refusal = Some n }
stops fuel k w mark done [] n some e = absurd (omega (arith, some))
stops fuel k w mark done (byte ∷ bytes) n some e =
    ap (λ (o : Outcome (World × List ℕ)). let r : Written = elim o [ Ok x ↦ written_within fuel k x.0 mark (done + 1) x.1 | Err r ↦ record { world = w; done = done; refusal = Some r } ] in r) e

pub ends : (fuel k : ℕ) (w : World) (mark : Option ℕ) (done : ℕ) → written_within fuel k w mark done [] ≡ record { world = w; done = done; refusal = None }
ends zero k w mark done = refl
ends (suc fuel) k w mark done = refl

pub reached-more : (n k : ℕ) (w at : World) (bytes rest : List ℕ) (next : World × List ℕ) → reached n k w bytes ≡ Some (at, rest) → one_message k at None 0 rest ≡ Ok next → reached (suc n) k w bytes ≡ Some next
reached-more zero k w at bytes rest next r e =
    let same_at : w ≡ at = ap (λ (o : Option (World × List ℕ)). option_map_or (λ p. p.0) o w) r in
    let same_rest : bytes ≡ rest = ap (λ (o : Option (World × List ℕ)). option_map_or (λ p. p.1) o bytes) r in
    let first : one_message k w None 0 bytes ≡ Ok next = (λ i. one_message k (same_at i) None 0 (same_rest i)) ∙ e in
    ap (λ (o : Outcome (World × List ℕ)). let r : Option (World × List ℕ) = elim o [ Ok x ↦ Some (x.0, x.1) | Err r ↦ None ] in r) first
reached-more (suc n) k w at bytes rest next r e = by (λ v b. reached-more n k v at b rest next) (one_message k w None 0 bytes) r
  where
    by : ((v : World) (b : List ℕ) → reached n k v b ≡ Some (at, rest) → one_message k at None 0 rest ≡ Ok next → reached (suc n) k v b ≡ Some next)
        → (o : Outcome (World × List ℕ)) → (let p : Option (World × List ℕ) = elim o [ Ok x ↦ reached n k x.0 x.1 | Err refusal ↦ None ] in p) ≡ Some (at, rest)
        → (let p : Option (World × List ℕ) = elim o [ Ok x ↦ reached (suc n) k x.0 x.1 | Err refusal ↦ None ] in p) ≡ Some next
    by more (Ok x) r = more x.0 x.1 r e
    by more (Err refusal) r = absurd cc

-- ---- what holds between two messages

pub record IsWriting (k : ℕ) (before : World) (bytes : List ℕ) (mark : Option ℕ) (now : World) (rest : List ℕ) (done : ℕ) : Type 0 where
  pub fuel : ℕ
  pub enough : length rest ≤ fuel
  pub plain : written k before bytes mark ≡ written_within fuel k now mark done rest
  pub marked : (n : ℕ) → done ≤ n → written k before bytes (Some n) ≡ written_within fuel k now (Some n) done rest
  pub reaches : reached done k before bytes ≡ Some (now, rest)
  pub within : length rest + done ≤ length bytes
  pub first : done ≡ 0 → now ≡ before
  pub live : IsSome (lookup now.clients k)

pub begins : (k : ℕ) (w : World) (bytes : List ℕ) (mark : Option ℕ) → IsSome (lookup w.clients k) → IsWriting k w bytes mark w bytes 0
unfolding written
begins k w bytes mark live = record {
  fuel = length bytes;
  enough = omega arith;
  plain = refl;
  marked = λ n h. refl;
  reaches = refl;
  within = omega arith;
  first = λ e. refl;
  live = live;
}

mark_above : (n done : ℕ) → done + 1 ≤ n → is_marked (Some n) done ≡ false
mark_above n done h = grind (arith, nat_tests)

fuel-suc : (fuel : ℕ) → 0 < fuel → (f : ℕ) × (fuel ≡ suc f)
fuel-suc zero h = absurd (omega (arith, h))
fuel-suc (suc f) h = (f, refl)

pub step-done : (k : ℕ) (before : World) (bytes : List ℕ) (mark : Option ℕ) (now next : World) (rest : List ℕ) (done len : ℕ) → IsWriting k before bytes mark now rest done → 0 < length rest
    → IsDone k now rest (is_marked mark done) len next → IsWriting k before bytes mark next (drop len rest) (done + 1)
step-done k before bytes mark now next rest done len w some d =
    let f = fuel-suc w.fuel (let enough = w.enough in omega arith) in
    let one : 0 < len = d.some in
    let within : len ≤ length rest = d.within in
    let cut = length-drop len rest in
    let enough = w.enough in
    let before_within = w.within in
    record {
      fuel = f.0;
      enough = (let e = f.1 in omega (arith, cut, e, enough, one, within));
      plain = w.plain ∙ ap (λ n. written_within n k now mark done rest) f.1 ∙ goes_on f.0 k now mark done rest (next, drop len rest) some (message-unmarked k now mark done rest d.unmarked ∙ d.done);
      marked = λ n h.
          w.marked n (omega arith) ∙ ap (λ m. written_within m k now (Some n) done rest) f.1
          ∙ goes_on f.0 k now (Some n) done rest (next, drop len rest) some (message-unmarked k now (Some n) done rest (mark_above n done h) ∙ d.done);
      reaches =
          (let more : done + 1 ≡ suc done = omega arith in ap (λ n. reached n k before bytes) more)
          ∙ reached-more done k before now bytes rest (next, drop len rest) w.reaches d.done;
      within = omega (arith, cut, before_within, one, within);
      first = λ e. absurd (omega arith);
      live = d.live;
    }

pub rows-done : (k : ℕ) (before : World) (bytes : List ℕ) (now next : World) (rest : List ℕ) (done len : ℕ) (marked : Bool) (rows after : List ℕ) → reached done k before bytes ≡ Some (now, rest)
    → IsDone k now rest marked len next → rows ≡ rows_within done k before bytes → after ≡ rows ++ rows_first k now rest → after ≡ rows_within (done + 1) k before bytes
rows-done k before bytes now next rest done len marked rows after reaches d known e =
    let more : suc done ≡ done + 1 = omega arith in
    e ∙ ap (λ l. l ++ rows_first k now rest) known ∙ sym (rows_more done k before now bytes rest (next, drop len rest) reaches d.done) ∙ ap (λ n. rows_within n k before bytes) more

pub ended : (k : ℕ) (before : World) (bytes : List ℕ) (mark : Option ℕ) (now : World) (rest : List ℕ) (done : ℕ) → IsWriting k before bytes mark now rest done → rest ≡ []
    → written k before bytes mark ≡ record { world = now; done = done; refusal = None }
ended k before bytes mark now rest done w e = w.plain ∙ ap (λ xs. written_within w.fuel k now mark done xs) e ∙ ends w.fuel k now mark done

pub refused : (k : ℕ) (before : World) (bytes : List ℕ) (mark : Option ℕ) (now next : World) (rest : List ℕ) (done n : ℕ) → IsWriting k before bytes mark now rest done → 0 < length rest
    → IsRefused k now rest n next → written k before bytes mark ≡ record { world = next; done = done; refusal = Some n }
refused k before bytes mark now next rest done n w some r =
    let f = fuel-suc w.fuel (let enough = w.enough in omega arith) in
    w.plain ∙ ap (λ m. written_within m k now mark done rest) f.1 ∙ stops f.0 k now mark done rest n some (message-refused k now mark done rest n r.refused)
    ∙ λ i. record { world = sym r.kept i; done = done; refusal = Some n }

mark_here : (n : ℕ) → is_marked (Some n) n ≡ true
mark_here n = grind (arith, nat_tests)

pub short-written : (k : ℕ) (before : World) (bytes : List ℕ) (mark : Option ℕ) (now next : World) (rest : List ℕ) (done : ℕ) (b : Bool) → IsWriting k before bytes mark now rest done → 0 < length rest
    → IsShortOf k now rest b next → written k before bytes (Some done) ≡ record { world = next; done = done; refusal = Some no_memory }
short-written k before bytes mark now next rest done b w some s =
    let f = fuel-suc w.fuel (let enough = w.enough in omega arith) in
    w.marked done (omega arith) ∙ ap (λ m. written_within m k now (Some done) done rest) f.1
    ∙ stops f.0 k now (Some done) done rest no_memory some (message-marked k now (Some done) done rest (mark_here done) s.accepted)
    ∙ λ i. record { world = sym s.kept i; done = done; refusal = Some no_memory }

mark_is : (mark : Option ℕ) (done : ℕ) → is_marked mark done ≡ true → mark ≡ Some done
mark_is None done e = absurd cc
mark_is (Some n) done e = ap Some (eqb-true n done e)

pub runs-out : (k : ℕ) (before now : World) (bytes rest : List ℕ) (done : ℕ) → reached done k before bytes ≡ Some (now, rest) → MayRunOut k now rest 0 → MayRunOut k before bytes done
runs-out k before now bytes rest done r m = record {
  at = m.at;
  rest = m.rest;
  m = m.m;
  behind = m.behind;
  next = m.next;
  reaches = r ∙ m.reaches;
  spells = m.spells;
  accepted = m.accepted;
  wants = m.wants;
}

pub short-cause : (k : ℕ) (before : World) (bytes : List ℕ) (mark : Option ℕ) (now next : World) (rest : List ℕ) (done : ℕ) → IsWriting k before bytes mark now rest done
    → IsShortOf k now rest (is_marked mark done) next → (mark ≡ Some done) ⊎ MayRunOut k before bytes done
short-cause k before bytes mark now next rest done w s = elim s.cause [
  | inl m ↦ inl (mark_is mark done m)
  | inr m ↦ inr (runs-out k before now bytes rest done w.reaches m)
]

pub first-memory : (k : ℕ) (before : World) (bytes : List ℕ) (mark : Option ℕ) (now next : World) (rest : List ℕ) (done : ℕ) → IsWriting k before bytes mark now rest done
    → IsShortOf k now rest (is_marked mark done) next → done ≡ 0 → is_marked mark done ≡ false → (next ≡ before) × ((n : ℕ) × MayRunOut k before bytes n)
first-memory k before bytes mark now next rest done w s none unmarked = (
  s.kept ∙ w.first none,
  elim s.cause [
    | inl m ↦ let both : true ≡ false = sym m ∙ unmarked in absurd cc
    | inr m ↦ (done, runs-out k before now bytes rest done w.reaches m)
  ],
)
