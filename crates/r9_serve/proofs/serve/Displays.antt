-- Words that ask for a session alone ask for one session, on one display.
use Rattle.std.proofs.Common.{◌≡◌, ◌∙◌, ℕ, zero, suc, ◌+◌, ◌*◌, ◌/◌, ◌%◌, ◌<◌, ◌^◌, sym, ap, subst, true, List, [], ◌∷◌, map, Bor, arith}
use Rattle.std.specs.Prelude.{◌==◌}
use Rattle.std.specs.List.{list_all}
use Rattle.std.proofs.lemmas.Bool.{and_parts, cond_both, eqb-true}
use Rattle.std.proofs.lemmas.Nat.{pow-add}
use Rattle.model_pixel.specs.Channels.{Channel, bytes_up_to, channel, channels, is_channel, is_descriptor, name}
use Rattle.r9_chan.proofs.NameLemmas.{channels_tell}
use Rattle.r9_event.specs.declared.event.event.Opening.{Opening}
use Rattle.model_history.specs.words.Values.{IsOpening, counted}
use Rattle.r9_opts.specs.Asked.{texts_of}
use Rattle.r9_opts.specs.Rows.{IsAloneOf}
use Rattle.r9_opts.specs.declared.job.Job.TheVariants.{Alone}
use Rattle.r9_opts.proofs.Jobs.{taken}
use Rattle.r9_opts.proofs.Options.{some_inj}
use Rattle.r9_serve.specs.serve.Run.{AskForAlone}

-- the word that channels make up
undone : List Channel → ℕ
undone [] = 0
undone (c ∷ cs) = 16 * c.kind + c.bits + 256 * undone cs

bytes_undone : (n w : ℕ) → w < 2 ^ (8 * n) → undone (map channel (bytes_up_to n w)) ≡ w
unfolding undone
bytes_undone zero w below = omega (arith, below)
bytes_undone (suc n) w below =
    let power : 2 ^ (8 * suc n) ≡ 2 ^ (8 * n) * 256 = ap (λ k. 2 ^ k) (omega arith) ∙ pow-add 2 (8 * n) 8 in
    let rest = bytes_undone n (w / 256) (omega (arith, below, power)) in
    cond_both (w == 0) [] (w % 256 ∷ bytes_up_to n (w / 256)) (λ bytes. undone (map channel bytes) ≡ w)
    (λ none. sym (eqb-true w 0 none))
    (λ some. omega (arith, rest))

channels_undone : (w : ℕ) → w < 2 ^ 32 → undone (channels w) ≡ w
unfolding channels
channels_undone w below = bytes_undone 4 w below

lawful : (w : ℕ) → is_descriptor w ≡ true → list_all is_channel (channels w) ≡ true
lawful w is = (and_parts _ _ (and_parts _ _ (and_parts _ _ (and_parts _ _ is).0).0).0).0

-- a descriptor that is a word is told by its text
one_word : (v w : ℕ) → v < 2 ^ 32 → w < 2 ^ 32 → is_descriptor v ≡ true → is_descriptor w ≡ true → name v ≡ name w → v ≡ w
one_word v w first second is other same =
    sym (channels_undone v first) ∙ ap undone (channels_tell v w (lawful v is) (lawful w other) same) ∙ channels_undone w second

one_display : (sides channels : List ℕ) (one other : Opening) → IsOpening sides channels one → IsOpening sides channels other → one ≡ other
one_display sides channels one other is also =
    let size = some_inj (sym is.sized ∙ also.sized) in
    let chan = one_word one.chan other.chan is.word also.word is.coloured also.coloured (is.named ∙ sym also.named) in
    λ i. record { width = (size i).width; height = (size i).height; chan = chan i }

pub asked_once : (words : List (Bor (List ℕ))) (one other : Opening) (c d : ℕ) → AskForAlone words one c → AskForAlone words other d → (one ≡ other) × (c ≡ d)
asked_once words one other c d first second =
    let took = taken (texts_of words) (Alone one c) first in
    let also = taken (texts_of words) (Alone other d) second in
    let rows : also.rows ≡ took.rows = ap (λ q. q.1) (some_inj (sym also.sub ∙ took.sub)) in
    let is = took.gives.1 in
    let again = subst (λ r. IsAloneOf r other d) rows also.gives.1 in
    let number = some_inj (sym is.chosen.given ∙ again.chosen.given) in
    (one_display _ _ one other is.opened again.opened, some_inj (sym is.chosen.counts ∙ ap (counted 4294967295) number ∙ again.chosen.counts))
