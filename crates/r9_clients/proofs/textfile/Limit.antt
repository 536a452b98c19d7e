-- Whether bytes are an input is told by the first of them, up to the limit.
use Rattle.std.proofs.Common.{◌≡◌, ◌≤◌, ◌<◌, ℕ, Bool, List, length, take, sym, ap, ◌∙◌, arith, ⊎_elim}
use Rattle.std.specs.Prelude.{not, ◌==◌, Err}
use Rattle.std.specs.List.{starts_with}
use Rattle.std.proofs.lemmas.Bool.{cases_lt, le-leb}
use Rattle.std.proofs.lemmas.List.{length-take, take_all}
use Rattle.model_text.specs.text.Outcome.{◌>>=◌, refuse_if}
use Rattle.r9_clients.specs.textfile.Input.{channels, input_of, limit, placed}

-- an input that reaches the limit is bad there
pub too_long : (bytes : List ℕ) → limit ≤ length bytes → input_of bytes ≡ Err limit
unfolding input_of
too_long bytes long = ap (λ (b : Bool). refuse_if b limit >>= λ _. refuse_if (not (starts_with ◌==◌ bytes channels)) 0 >>= λ _. placed bytes) (le-leb limit (length bytes) long)

pub first_bytes : (bytes : List ℕ) → input_of (take limit bytes) ≡ input_of bytes
first_bytes bytes =
    ⊎_elim
    (λ (short : length bytes < limit). ap input_of (take_all limit bytes (omega (arith, short))))
    (λ (long : limit ≤ length bytes). too_long (take limit bytes) (omega (arith, long, length-take limit bytes)) ∙ sym (too_long bytes long))
    (cases_lt (length bytes) limit)
