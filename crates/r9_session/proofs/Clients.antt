-- A session's connections, and how they end.
use Rattle.std.proofs.Common.{◌≡◌, ◌<◌, ◌≤◌, ◌+◌, ◌^◌, ◌&&◌, ◌||◌, ℕ, zero, suc, Bool, true, false, not, cond, eqb, List, [], ◌∷◌, length, get_or, Ok, refl, sym, ap, ◌∙◌, arith, All}
use Rattle.std.specs.Prelude.{filter, ◌++◌}
use Rattle.std.proofs.lemmas.Bool.{eqb-true}
use Rattle.model_text.specs.text.Outcome.{◌>>=◌, refuse_if}
use Rattle.model_text.specs.map.Ascending.{AreAbove, Ascend}
use Rattle.model_text.proofs.map.Keys.{eqb-same}
use Rattle.model_files.specs.tree.Node.{Node}
use Rattle.model_files.specs.tree.Tree.{View, is_of_connection, is_gone, is_ended, check_live}
use Rattle.model_world.specs.Outside.{Outside}
use Rattle.model_world.specs.Links.{AreCounted, AreWithin, is_among}
use Rattle.model_world.proofs.Links.{among_none, ascend_filter}
use Rattle.r9_session.specs.Clients.{MayLeave}

first_or_other : (most n : ℕ) (ns : List ℕ) → n ≤ most → All (λ m. m ≤ most) ns → (k d : ℕ) → k < length (n ∷ ns) → get_or (n ∷ ns) k d ≤ most
first_or_other most n ns first others zero d below = first
first_or_other most n ns first others (suc k) d below = others k d (omega (arith, below))

-- no number of a connection is above the most
pub all_from_within : (most : ℕ) (ns : List ℕ) → AreWithin most ns → All (λ n. n ≤ most) ns
all_from_within most [] within = λ k d below. absurd (omega (arith, below))
all_from_within most (n ∷ ns) within = λ k d below. first_or_other most n ns within.0 (all_from_within most ns within.1) k d below

-- the next connection's number is free
pub free_client : (made : ℕ) (connections : List ℕ) → AreCounted made connections → is_among connections (made + 1) ≡ false
free_client made connections counted = among_none made (made + 1) connections counted.within (omega arith)

-- ---- a file of a connection that lives

alive_from : (b : Bool) → refuse_if b 34 ≡ Ok tt → b ≡ false
alive_from true e = cc e
alive_from false e = refl

ended_from : (a b : Bool) → (refuse_if a 42 >>= λ _. refuse_if b 34) ≡ Ok tt → b ≡ false
ended_from true b e = cc e
ended_from false b e = alive_from b e

not_ended : (a b : Bool) → a ≡ true → (a && not b) ≡ false → b ≡ true
not_ended true true of e = refl
not_ended true false of e = cc e
not_ended false b of e = cc of

pub live_client : (view : View) (connections : List ℕ) (node : Node) → view.connections ≡ connections → is_of_connection node.kind ≡ true → check_live view node ≡ Ok tt
    → is_among connections node.connection ≡ true
unfolding check_live
live_client view connections node same of live =
    let ended : is_ended view node ≡ false = ended_from (is_gone view node) (is_ended view node) live in
    ap (λ (ns : List ℕ). is_among ns node.connection) (sym same) ∙ not_ended (is_of_connection node.kind) (is_among view.connections node.connection) of ended

-- ---- connections that end

or_right : (a b : Bool) → b ≡ true → (a || b) ≡ true
or_right true b is = refl
or_right false b is = is

within_by : (most n m : ℕ) (ms : List ℕ) → m ≤ most → (b : Bool) → eqb m n ≡ b → (b || is_among ms n) ≡ true → (is_among ms n ≡ true → n ≤ most) → n ≤ most
within_by most n m ms first true at among more = let same : m ≡ n = eqb-true m n at in omega (arith, same)
within_by most n m ms first false at among more = more among

within_at : (most n : ℕ) (ns : List ℕ) → AreWithin most ns → is_among ns n ≡ true → n ≤ most
within_at most n [] within among = cc among
within_at most n (m ∷ ms) within among = within_by most n m ms within.0 (eqb m n) refl among (λ more. within_at most n ms within.1 more)

-- where the end of one leaves the others
module _ {S : Type 0} (outside : Outside S) (has : (connection : ℕ) → S → Bool) (others : (m n : ℕ) (rest : S) → (m ≡ n → ⊥) → has m (outside.leave rest n) ≡ has m rest) where
  -- all of them live
  AllLive : S → List ℕ → Type 0
  AllLive rest [] = Unit {0}
  AllLive rest (n ∷ ns) = (has n rest ≡ true) × AllLive rest ns

  still_live : (n : ℕ) (ns : List ℕ) (rest : S) → AreAbove n ns → AllLive rest ns → AllLive (outside.leave rest n) ns
  unfolding AllLive
  still_live n [] rest above all = tt
  still_live n (m ∷ ms) rest above all = (others m n rest (λ same. omega (arith, same, above.0)) ∙ all.0, still_live n ms rest above.1 all.1)

  leaves : (ns : List ℕ) (rest : S) → Ascend ns → AllLive rest ns → MayLeave outside has ns rest
  unfolding AllLive
  leaves [] rest ascend all = tt
  leaves (n ∷ ns) rest ascend all = (all.0, leaves ns (outside.leave rest n) ascend.1 (still_live n ns rest ascend.0 all.1))

  live_from : (ns : List ℕ) (rest : S) → ((n : ℕ) → is_among ns n ≡ true → has n rest ≡ true) → AllLive rest ns
  unfolding AllLive
  live_from [] rest each = tt
  live_from (n ∷ ns) rest each = (
    each n (ap (λ (b : Bool). b || is_among ns n) (eqb-same n)),
    live_from ns rest (λ m among. each m (or_right (eqb n m) (is_among ns m) among)),
  )

  all_live : (made : ℕ) (connections : List ℕ) (rest : S) → AreCounted made connections → ((n : ℕ) → n < 2 ^ 26 → has n rest ≡ is_among connections n) → AllLive rest connections
  all_live made connections rest counted linked =
      live_from connections rest (λ n among. linked n (omega (arith, within_at made n connections counted.within among, counted.few)) ∙ among)

  live_filter : (p : ℕ → Bool) (ns : List ℕ) (rest : S) → AllLive rest ns → AllLive rest (filter p ns)
  unfolding AllLive
  live_filter p [] rest all = tt
  live_filter p (n ∷ ns) rest all =
      elim (p n) as (λ b. AllLive rest (cond b (n ∷ filter p ns) (filter p ns))) [
        | true ↦ (all.0, live_filter p ns rest all.1)
        | false ↦ live_filter p ns rest all.1
      ]

  -- a session's connections may all end, or those that pass a test
  pub all_may_leave : (made : ℕ) (connections : List ℕ) (rest : S) → AreCounted made connections → ((n : ℕ) → n < 2 ^ 26 → has n rest ≡ is_among connections n) → MayLeave outside has connections rest
  all_may_leave made connections rest counted linked = leaves connections rest counted.ascending (all_live made connections rest counted linked)

  pub some_may_leave : (p : ℕ → Bool) (made : ℕ) (connections : List ℕ) (rest : S) → AreCounted made connections → ((n : ℕ) → n < 2 ^ 26 → has n rest ≡ is_among connections n)
      → MayLeave outside has (filter p connections) rest
  some_may_leave p made connections rest counted linked =
      leaves (filter p connections) rest (ascend_filter p connections counted.ascending) (live_filter p connections rest (all_live made connections rest counted linked))

-- ---- numbers that fit

pub within_push : (most n : ℕ) (ns : List ℕ) → AreWithin most ns → n ≤ most → AreWithin most (ns ++ n ∷ [])
within_push most n [] within le = (le, tt)
within_push most n (m ∷ ms) within le = (within.0, within_push most n ms within.1 le)
