use Rattle.std.proofs.Common.{◌≡◌, ◌≢◌, ℕ, zero, suc, List, [], ◌∷◌, ◌++◌, ◌⊎◌, inl, inr, ⊎_elim, length, ap, sym, ◌∙◌, subst, arith}
use Rattle.std.specs.Prelude.{All, AllPairs, Contains}
use Rattle.r9_lock.specs.Histories.{numbered}
use Rattle.tests_lock.proofs.turns.noted_by_two.Goals as goal

-- one of two numbered entries
which : (x y n a : ℕ) → Contains {X = ℕ × ℕ} ((1, x) ∷ (2, y) ∷ []) (n, a) → ((1 ≡ n) × (x ≡ a)) ⊎ ((2 ≡ n) × (y ≡ a))
which x y n a (zero, within, is) = inl (ap (λ z. z.0) is, ap (λ z. z.1) is)
which x y n a (suc zero, within, is) = inr (ap (λ z. z.0) is, ap (λ z. z.1) is)
which x y n a (suc (suc k), within, is) = absurd (omega arith)

-- two entries that were made at different numbers are the whole history, in one order or the other
two_orders : (history : List ℕ) (n m a b : ℕ) → Contains (numbered 1 history) (n, a) → Contains (numbered 1 history) (m, b) → n ≢ m → length history ≡ 2 → (history ≡ a ∷ b ∷ []) ⊎ (history ≡ b ∷ a ∷ [])
two_orders [] n m a b p q apart two = absurd (omega arith)
two_orders (x ∷ []) n m a b p q apart two = absurd (omega arith)
two_orders (x ∷ y ∷ z ∷ zs) n m a b p q apart two = absurd (omega arith)
two_orders (x ∷ y ∷ []) n m a b p q apart two = ⊎_elim
    (λ (s : (1 ≡ n) × (x ≡ a)). ⊎_elim (λ (t : (1 ≡ m) × (x ≡ b)). absurd (apart (sym s.0 ∙ t.0))) (λ (t : (2 ≡ m) × (y ≡ b)). inl (cc)) (which x y m b q))
    (λ (s : (2 ≡ n) × (y ≡ a)). ⊎_elim (λ (t : (1 ≡ m) × (x ≡ b)). inr (cc)) (λ (t : (2 ≡ m) × (y ≡ b)). absurd (apart (sym s.0 ∙ t.0))) (which x y m b q))
    (which x y n a p)

noted : (history : List ℕ) (made : List (ℕ × ℕ)) (n m a b : ℕ) → made ≡ (n, a) ∷ (m, b) ∷ [] → All (Contains (numbered 1 history)) made → AllPairs (λ x y. x.0 ≢ y.0) made → length made ≡ length history
    → (history ≡ a ∷ b ∷ []) ⊎ (history ≡ b ∷ a ∷ [])
noted history made n m a b is all apart counted = let made' : List (ℕ × ℕ) = (n, a) ∷ (m, b) ∷ [] in let all' = subst (All (Contains (numbered 1 history))) is all in let apart' = subst (AllPairs (λ x y. x.0 ≢ y.0)) is apart in
    two_orders history n m a b (all' 0 (n, a) (omega arith)) (all' 1 (n, a) (omega arith)) (apart' 0 1 (n, a) (omega arith) (omega arith)) (sym counted ∙ ap length is)

pub returns-then-second : goal.returns-then-second
returns-then-second g c = let whole = c.close-tape.ensures in let one = rw c.if-first.true at c.join-a.ensures.first.2 in let two = rw c.if-second.true at c.join-a.ensures.second.2 in
    let made : c.join.new.pass.made ≡ (one.0, c.args.one) ∷ (two.0, c.args.two) ∷ [] = ap (λ k. k.made) c.join.ensures.both ∙ (ap (λ l. l ++ c.join-a.result.1.0.made) one.1 ∙ ap (λ l. (one.0, c.args.one) ∷ l) two.1) in
    noted c.close-tape.result.notes.items c.join.new.pass.made one.0 two.0 c.args.one c.args.two made whole.made whole.apart whole.all_made
