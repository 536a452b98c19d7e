-- What stands before the first such byte of a text.
use Rattle.std.proofs.Common.{◌≡◌, ◌≢◌, ℕ, zero, suc, ◌+◌, ◌-◌, ◌<◌, inl, inr, true, false, eqb, List, [], ◌∷◌, ◌++◌, length, get_or, take, drop, Option, Some, None, refl, sym, ap, subst, ◌∙◌, arith}
use Rattle.std.specs.List.{AllByRecursion}
use Rattle.std.proofs.lemmas.Bool.{eqb-true}
use Rattle.std.proofs.lemmas.Bool.Decides.{nat_tests}
use Rattle.std.proofs.lemmas.List.{take_all, length-drop}
use Rattle.model_text.proofs.text.Fields.{chosen}
use Rattle.r9_journal.specs.Reading.{cut, with_front}

-- no byte of the list is the mark
abbrev pub Lacks : ℕ → List ℕ → Type 0
Lacks mark bytes = AllByRecursion (λ byte. byte ≢ mark) bytes

pub Lacks-append : (mark : ℕ) (xs ys : List ℕ) → Lacks mark xs → Lacks mark ys → Lacks mark (xs ++ ys)
Lacks-append mark [] ys h k = k
Lacks-append mark (x ∷ xs) ys h k = (h.0, Lacks-append mark xs ys h.1 k)

with_front_some : (byte : ℕ) (read : Option (List ℕ × List ℕ)) (line rest : List ℕ) → with_front byte read ≡ Some (line, rest) → (front : List ℕ) × (read ≡ Some (front, rest)) × (byte ∷ front ≡ line)
with_front_some byte None line rest e = absurd cc
with_front_some byte (Some x) line rest e =
    let pair : (byte ∷ x.0, x.1) ≡ (line, rest) = cc in
    (x.0, ap (λ (r : List ℕ). Some (x.0, r)) (ap (λ (p : List ℕ × List ℕ). p.1) pair), ap (λ (p : List ℕ × List ℕ). p.0) pair)

pub cut_takes : (mark : ℕ) (text line rest : List ℕ) → cut mark text ≡ Some (line, rest) → text ≡ line ++ mark ∷ rest
cut_takes mark [] line rest e = absurd cc
cut_takes mark (b ∷ text) line rest e = elim (chosen (eqb b mark) _ _ (Some (line, rest)) e) [
  | inl end ↦
      let pair : ([], text) ≡ (line, rest) = some_is ([], text) (line, rest) end.1 in
      subst (λ (p : List ℕ × List ℕ). b ∷ text ≡ p.0 ++ mark ∷ p.1) pair (ap (λ (n : ℕ). n ∷ text) (eqb-true _ _ end.0))
  | inr on ↦
      let more = with_front_some b (cut mark text) line rest on.1 in
      subst (λ (l : List ℕ). b ∷ text ≡ l ++ mark ∷ rest) more.2 (ap (λ (t : List ℕ). b ∷ t) (cut_takes mark text more.0 rest more.1))
]
  where
    some_is : (x y : List ℕ × List ℕ) → Some x ≡ Some y → x ≡ y
    some_is x y e = cc

pub not_mark : (b mark : ℕ) → b ≢ mark → eqb b mark ≡ false
not_mark b mark other = grind (arith, nat_tests)

pub is_mark : (b mark : ℕ) → b ≡ mark → eqb b mark ≡ true
is_mark b mark same = grind (arith, nat_tests)

pub cut_again : (mark : ℕ) (line rest : List ℕ) → Lacks mark line → cut mark (line ++ mark ∷ rest) ≡ Some (line, rest)
cut_again mark [] rest others = rw (is_mark mark mark refl) refl
cut_again mark (b ∷ line) rest others = rw (not_mark b mark others.0, cut_again mark line rest others.1) refl

pub cut_lacking : (mark : ℕ) (text : List ℕ) → Lacks mark text → cut mark text ≡ None
cut_lacking mark [] others = refl
cut_lacking mark (b ∷ text) others = rw (not_mark b mark others.0, cut_lacking mark text others.1) refl

-- what a search for the first mark finds
cut_at_drop : (mark : ℕ) (text : List ℕ) (at : ℕ) → at < length text → ((k : ℕ) → k < at → get_or text k 0 ≢ mark) → get_or text at 0 ≡ mark → cut mark text ≡ Some (take at text, drop (at + 1) text)
cut_at_drop mark [] at lt before is = absurd (omega arith)
cut_at_drop mark (b ∷ text) zero lt before is = rw (is_mark b mark is) refl
cut_at_drop mark (b ∷ text) (suc at) lt before is =
    let here : b ≢ mark = before 0 (omega arith) in
    let more : cut mark text ≡ Some (take at text, drop (at + 1) text) = cut_at_drop mark text at (omega arith) (λ k lt. before (suc k) (omega arith)) is in
    let next : suc at + 1 ≡ suc (at + 1) = omega arith in
    rw (not_mark b mark here, more, next) refl

pub cut_at : (mark : ℕ) (text : List ℕ) (at : ℕ) → at < length text → ((k : ℕ) → k < at → get_or text k 0 ≢ mark) → get_or text at 0 ≡ mark → Some (take at text, take (length text - (at + 1)) (drop (at + 1) text)) ≡ cut mark text
cut_at mark text at lt before is =
    let whole : take (length text - (at + 1)) (drop (at + 1) text) ≡ drop (at + 1) text = take_all _ _ (omega (arith, length-drop (at + 1) text)) in
    ap (λ (rest : List ℕ). Some (take at text, rest)) whole ∙ sym (cut_at_drop mark text at lt before is)

pub cut_none : (mark : ℕ) (text : List ℕ) → ((k : ℕ) → k < length text → get_or text k 0 ≢ mark) → cut mark text ≡ None
cut_none mark [] others = refl
cut_none mark (b ∷ text) others =
    let here : b ≢ mark = others 0 (omega arith) in
    rw (not_mark b mark here, cut_none mark text (λ k lt. others (suc k) (omega arith))) refl

pub pair_of : (x y : List ℕ × List ℕ) → Some x ≡ Some y → (x.0 ≡ y.0) × (x.1 ≡ y.1)
pair_of x y e = let same : x ≡ y = cc in (ap (λ (p : List ℕ × List ℕ). p.0) same, ap (λ (p : List ℕ × List ℕ). p.1) same)
