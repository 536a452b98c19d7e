-- What a pass is after each call.
use Rattle.std.proofs.Common.{◌≡◌, ℕ, zero, suc, ◌+◌, ◌≤◌, ◌<◌, ◌^◌, max, List, [], ◌∷◌, ◌++◌, length, sym, refl, ap, ◌∙◌, subst, arith, ⊎_elim}
use Rattle.std.specs.Prelude.{All, Contains}
use Rattle.std.proofs.lemmas.List.Elements.{All-append, All-weaker, All-nil}
use Rattle.atomic_table.specs.Table.{Me}
use Rattle.r9_lock.specs.Histories.{IsPrefix, numbered, longer, shorter}
use Rattle.r9_lock.specs.declared.view.View.{View}
use Rattle.r9_lock.specs.Turns.{joined, IsPass, Looks, left_me, given_me, Takes, NeverFalls, Ends}
use Rattle.r9_lock.specs.Passes.{Known, IsTurn}
use Rattle.r9_lock.proofs.Lists.{prefix_refl, prefix_trans, Contains-numbered, Contains-numbered_more}
use Rattle.r9_lock.proofs.Steps.{longer_cases}

module _ {E : Type 0} where
  still_made : {xs ys : List E} → IsPrefix xs ys → (made : List (ℕ × E)) → All (Contains (numbered 1 xs)) made → All (Contains (numbered 1 ys)) made
  still_made {xs} {ys} p made all = All-weaker (Contains (numbered 1 xs)) (Contains (numbered 1 ys)) (Contains-numbered 1 p) made all

  -- the numbers of entries end with the last one's
  numbers : (n : ℕ) (xs : List E) (m : ℕ × E) → Contains (numbered n xs) m → m.0 < n + length xs
  numbers n [] m (k, within, is) = absurd (omega arith)
  numbers n (x ∷ xs) m (zero, within, is) = let h : n ≡ m.0 = ap (λ (z : ℕ × E). z.0) is in omega arith
  numbers n (x ∷ xs) m (suc k, within, is) = let h = numbers (n + 1) xs m (k, (omega arith), is) in omega arith

  -- where the shorter begins the longer, both do
  pub both_begin : (xs ys : List E) → (length (shorter xs ys) ≤ length (longer xs ys) → IsPrefix (shorter xs ys) (longer xs ys)) → IsPrefix xs (longer xs ys) × IsPrefix ys (longer xs ys)
  both_begin xs ys begins = ⊎_elim
      (λ (t : (length xs ≤ length ys) × (longer xs ys ≡ ys) × (shorter xs ys ≡ xs)). let n = ap length t.1 in let m = ap length t.2 in let l = t.0 in
      (subst (λ l. IsPrefix l (longer xs ys)) t.2 (begins (omega arith)), subst (IsPrefix ys) (sym t.1) (prefix_refl ys)))
      (λ (t : (length ys ≤ length xs) × (longer xs ys ≡ xs) × (shorter xs ys ≡ ys)). let n = ap length t.1 in let m = ap length t.2 in let l = t.0 in
      (subst (IsPrefix xs) (sym t.1) (prefix_refl xs), subst (λ l. IsPrefix l (longer xs ys)) t.2 (begins (omega arith))))
      (longer_cases xs ys)

module _ {T E : Type 0} where
  pub pass_looked : (seen : ℕ) (m n : Me T (View E)) → Looks m n → IsPass seen m → IsPass seen n
  pass_looked seen m n l p = subst (IsPass seen) (sym l.now) record {
    rests = record { turn = p.rests.turn; slot = p.rests.slot; share = p.rests.share };
    counted = p.counted;
    made = p.made;
  }

  pub pass_left : (seen : ℕ) (m n : Me T (View E)) (shares : ℕ) → n ≡ left_me m shares → shares < m.0.shares → IsPass seen m → IsPass seen n
  pass_left seen m n shares e less p = subst (IsPass seen) (sym e) record {
    rests = record { turn = p.rests.turn; slot = p.rests.slot; share = omega arith };
    counted = p.counted;
    made = p.made;
  }

  pub pass_given : (seen : ℕ) (m n : Me T (View E)) (shares : ℕ) → n ≡ given_me m shares → 0 < shares → IsPass seen m → IsPass seen n
  pass_given seen m n shares e some_share p = subst (IsPass seen) (sym e) record {
    rests = record { turn = refl; slot = refl; share = some_share };
    counted = p.counted;
    made = All-nil (Contains (numbered 1 m.0.seen));
  }

  pub pass_joined : (seen seen' : ℕ) (m o n : Me T (View E)) → n ≡ (joined m.0 o.0, m.1) → (length (shorter m.0.seen o.0.seen) ≤ length (longer m.0.seen o.0.seen) → IsPrefix (shorter m.0.seen o.0.seen) (longer m.0.seen o.0.seen))
      → IsPass seen m → IsPass seen' o → IsPass (max seen seen') n
  pass_joined seen seen' m o n e begins p q = let b = both_begin m.0.seen o.0.seen begins in subst (IsPass (max seen seen')) (sym e) record {
    rests = record { turn = p.rests.turn; slot = p.rests.slot; share = let s = p.rests.share in omega arith };
    counted = let a = p.counted in let c = q.counted in ⊎_elim
        (λ (t : (length m.0.seen ≤ length o.0.seen) × (longer m.0.seen o.0.seen ≡ o.0.seen) × (shorter m.0.seen o.0.seen ≡ m.0.seen)). let n = ap length t.1 in let l = t.0 in omega arith)
        (λ (t : (length o.0.seen ≤ length m.0.seen) × (longer m.0.seen o.0.seen ≡ m.0.seen) × (shorter m.0.seen o.0.seen ≡ o.0.seen)). let n = ap length t.1 in let l = t.0 in omega arith)
        (longer_cases m.0.seen o.0.seen);
    made = All-append (Contains (numbered 1 (longer m.0.seen o.0.seen))) m.0.made o.0.made (still_made b.0 m.0.made p.made) (still_made b.1 o.0.made q.made);
  }

  module _ (stands : T → List E → Type 0) {K A : Type 0} (acts : List E → K → A → List E → Type 0) (ask : K) (answer : A) (found : ℕ) (m₀ m₁ m₂ m₃ : Me T (View E))
      (t : Takes stands found m₀ m₁) (same : m₂.0 ≡ m₁.0) (e : Ends stands acts ask answer m₂ m₃) where
    seen_is : m₂.0.seen ≡ m₁.0.seen
    seen_is = ap (λ (v : View E). v.seen) same

    made_is : m₂.0.made ≡ m₀.0.made
    made_is = ap (λ (v : View E). v.made) (same ∙ t.now)

    begins : IsPrefix m₀.0.seen m₂.0.seen
    begins = subst (IsPrefix m₀.0.seen) (sym seen_is) t.begins

    pub pass_ended : (seen now : ℕ) → now ≡ length m₃.0.seen → IsPass seen m₀ → IsPass now m₃
    pass_ended seen now count p = let s = ap (λ (v : View E). v.shares) (same ∙ t.now) in let w = p.rests.share in subst (IsPass now) (sym e.now) record {
      rests = record { turn = refl; slot = refl; share = omega arith };
      counted = count ∙ ap (λ (z : Me T (View E)). length z.0.seen) e.now;
      made = All-append (Contains (numbered 1 (m₂.0.seen ++ e.entry))) m₂.0.made (numbered (length m₂.0.seen + 1) e.entry)
          (still_made (prefix_trans begins record { rest = e.entry; is = refl }) m₂.0.made (subst (All (Contains (numbered 1 m₀.0.seen))) (sym made_is) p.made))
          (Contains-numbered_more 1 (length m₂.0.seen + 1) m₂.0.seen e.entry (omega arith));
    }

    pub is_turn : (first : T → ℕ) (seen : ℕ) → IsPass seen m₀ → NeverFalls first m₁ m₂ → (asked : K) → ask ≡ asked → (old new : Known E)
        → found < 2 ^ 62 → old.least ≡ m₀.0.least → old.seen ≡ m₀.0.seen → old.made ≡ m₀.0.made → new.seen ≡ m₃.0.seen → new.made ≡ m₃.0.made → IsTurn stands first acts asked answer old new
    is_turn first count p low asked is old new small ol os om ns nm = record {
      before = m₂.0.seen;
      begins = subst (λ l. IsPrefix l m₂.0.seen) (sym os) begins;
      known = omega (arith, ol, t.more, t.known, ap length seen_is);
      few = omega (arith, small, t.counted, ap length seen_is);
      value = t.carries.value;
      fits = subst (stands t.carries.value) (sym seen_is) t.carries.fits;
      entry = e.entry;
      one = e.one;
      acted = subst (λ k. acts m₂.0.seen k answer (m₂.0.seen ++ e.entry)) is e.acted;
      value_after = e.value;
      fits_after = e.fits;
      first_kept = low t.carries.value e.value t.carries.slot e.slot;
      seen = ns ∙ ap (λ (z : Me T (View E)). z.0.seen) e.now;
      made = nm ∙ (ap (λ (z : Me T (View E)). z.0.made) e.now ∙ ap (λ l. l ++ numbered (length m₂.0.seen + 1) e.entry) (made_is ∙ sym om));
      later = subst (All (λ m. m.0 ≤ length m₂.0.seen)) (sym om) (All-weaker (Contains (numbered 1 m₂.0.seen)) (λ m. m.0 ≤ length m₂.0.seen) (λ m has. let h = numbers 1 m₂.0.seen m has in omega arith) m₀.0.made (still_made begins m₀.0.made p.made));
    }
