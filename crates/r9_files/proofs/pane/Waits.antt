-- A read of a console that waits takes nothing.
use Rattle.std.proofs.Common.{◌≡◌, eqb, ℕ, Bool, true, false, cond, List, [], ◌∷◌, Some, None, refl, sym, ap, ◌∙◌}
use Rattle.model_files.specs.console.Console.{Console, read, given, after_read, rest}

pub none_ended : (count : ℕ) (c : Console) → read count c ≡ None → c.ended ≡ []
unfolding read
none_ended count c = by_count (eqb count 0)
  where
    by_lines : (lines : List (List ℕ)) → given count lines ≡ None → lines ≡ []
    by_lines [] e = refl
    by_lines (line ∷ lines) e = absurd (cc e)

    by_count : (b : Bool) → cond b (Some []) (given count c.ended) ≡ None → c.ended ≡ []
    by_count true e = absurd (cc e)
    by_count false e = by_lines c.ended e

pub unread : (count : ℕ) (c : Console) → read count c ≡ None → after_read count c ≡ c
unfolding after_read
unread count c waits = by_count (eqb count 0)
  where
    none : c.ended ≡ []
    none = none_ended count c waits

    by_count : (b : Bool) → cond b c (record c { ended = rest count c.ended }) ≡ c
    by_count true = refl
    by_count false = ap (λ (lines : List (List ℕ)). record c { ended = rest count lines }) none ∙ ap (λ (lines : List (List ℕ)). record c { ended = lines }) (sym none)
