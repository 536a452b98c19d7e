-- A line that ends waits behind the others.
use Rattle.std.proofs.Common.{◌≡◌, ℕ, ◌+◌, ◌≤◌, Bool, List, [], ◌∷◌, ◌++◌, length, drop, refl, ap, ◌∙◌, arith, length-append, slice_index_or}
use Rattle.std.specs.List.{concat}
use Rattle.model_files.specs.console.Console.{last_of}
use Rattle.model_files.proofs.console.Bounds.{length-concat, one_more_ended}
use Rattle.model_files.proofs.console.Ends.{length-last_of}
use Rattle.r9_cons.specs.Waiting.{unread, IsConsole}

pub unread-push : (taken : ℕ) (ended : List (List ℕ)) (line : List ℕ) → taken ≤ length (slice_index_or ended 0 []) → unread taken (ended ++ line ∷ []) ≡ unread taken ended ++ line ∷ []
unread-push taken [] line within =
    ap (λ k. drop k line ∷ []) (let none : taken ≡ 0 = omega arith in none)
unread-push taken (first ∷ lines) line within = refl

within-push : (taken : ℕ) (ended : List (List ℕ)) (line : List ℕ) → taken ≤ length (slice_index_or ended 0 []) → taken ≤ length (slice_index_or (ended ++ line ∷ []) 0 [])
within-push taken [] line within = omega arith
within-push taken (first ∷ lines) line within = within

pub line-ends : (line ended line' ended' : List (List ℕ)) (raw : Bool) (written written' more key whole : List ℕ) (taken held : ℕ)
    → IsConsole (record { line = line; ended = unread taken ended; raw = raw; written = written }) taken held ended → held + length key + 1 ≤ 8193
    → line' ≡ [] → ended' ≡ ended ++ whole ∷ [] → whole ≡ concat line ++ key → written' ≡ last_of 65536 more
    → IsConsole (record { line = line'; ended = unread taken ended'; raw = raw; written = written' }) taken (held + (length key + 1)) ended'
line-ends line ended line' ended' raw written written' more key whole taken held is room empty pushed joined kept =
    let long : length whole ≡ length (concat line) + length key = ap length joined ∙ length-append (concat line) key in
    let behind : unread taken ended' ≡ unread taken ended ++ whole ∷ [] = ap (unread taken) pushed ∙ unread-push taken ended whole is.within in
    rw (empty, kept, behind) (record {
      within = rw pushed (within-push taken ended whole is.within);
      counted = omega (arith, is.counted, one_more_ended (unread taken ended) whole, long, length-concat line);
      few = omega (arith, room);
      short = length-last_of 65536 more;
    })
