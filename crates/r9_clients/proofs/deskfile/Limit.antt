-- Whether bytes are events is told by the first of them, up to the limit.
use Rattle.std.proofs.Common.{◌≡◌, ◌≤◌, ◌<◌, ℕ, Bool, List, length, take, sym, ap, ◌∙◌, arith, ⊎_elim}
use Rattle.std.specs.Prelude.{Err}
use Rattle.std.proofs.lemmas.Bool.{cases_lt, le-leb}
use Rattle.std.proofs.lemmas.List.{length-take, take_all}
use Rattle.model_text.specs.text.Outcome.{◌>>=◌, refuse_if}
use Rattle.r9_clients.specs.deskfile.Events.{events_from, events_of, limit}

-- an input that reaches the limit is bad there
pub too_long : (bytes : List ℕ) → limit ≤ length bytes → events_of bytes ≡ Err limit
unfolding events_of
too_long bytes long = ap (λ (b : Bool). refuse_if b limit >>= λ _. events_from 0 bytes) (le-leb limit (length bytes) long)

pub first_bytes : (bytes : List ℕ) → events_of (take limit bytes) ≡ events_of bytes
first_bytes bytes =
    ⊎_elim
    (λ (short : length bytes < limit). ap events_of (take_all limit bytes (omega (arith, short))))
    (λ (long : limit ≤ length bytes). too_long (take limit bytes) (omega (arith, long, length-take limit bytes)) ∙ sym (too_long bytes long))
    (cases_lt (length bytes) limit)
