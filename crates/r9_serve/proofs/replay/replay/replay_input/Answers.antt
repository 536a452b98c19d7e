use Rattle.std.proofs.Common.{◌≡◌, ℕ, Result, Err, refl}
use Rattle.r9_serve.specs.declared.replay.replay.Ended.{Ended}
use Rattle.r9_serve.specs.declared.replay.replay.ReplayFault.{ReplayFault}
use Rattle.r9_serve.specs.declared.replay.replay.ReplayFault.TheVariants.{BadRecord, LateRecord}
use Rattle.r9_serve.proofs.replay.Taking.{are_reply_lines, was_bad, was_late}
use Rattle.r9_serve.proofs.replay.replay.replay_input.Goals as goal

same_place : (a b : ℕ) (x y : Result Ended ReplayFault) → x ≡ Err (BadRecord a) → y ≡ Err (BadRecord b) → x ≡ y → a ≡ b
same_place a b x y is_a is_b e = cc

same_first : (a b : ℕ) (x y : Result Ended ReplayFault) → x ≡ Err (LateRecord a) → y ≡ Err (LateRecord b) → x ≡ y → a ≡ b
same_first a b x y is_a is_b e = cc

pub returns-in-Ok-replay_text-clause-lines : goal.returns-in-Ok-replay_text-clause-lines
returns-in-Ok-replay_text-clause-lines g c = are_reply_lines _ _ _ _ _ _ _ c.in-Ok.ensures.read c.as_slice.ensures c.in-Ok-replay_text.ensures.replies

pub returns-in-Err-Bad-clause-bad_record : goal.returns-in-Err-Bad-clause-bad_record
returns-in-Err-Bad-clause-bad_record g c =
    let bad = c.in-Err-Bad.ensures.bad c.in-Err-Bad.place cc in
    λ place is. was_bad _ _ _ _ _ place c.in-Ok.ensures.read c.as_slice.ensures bad (same_place _ _ _ _ refl refl is)

pub returns-in-Err-Late-clause-late_record : goal.returns-in-Err-Late-clause-late_record
returns-in-Err-Late-clause-late_record g c =
    let late = c.in-Err-Late.ensures.late c.in-Err-Late.first cc in
    λ first is. was_late _ _ _ _ _ first c.in-Ok.ensures.read c.as_slice.ensures late (same_first _ _ _ _ refl refl is)
