-- A write of a session that is alone is answered alike, and leaves both devices the same to it.
use Rattle.std.proofs.Common.{◌≡◌, ◌<◌, ◌≤◌, ◌^◌, ◌+◌, ℕ, Bool, true, false, List, length, Option, Some, None, Ok, refl, sym, ap, subst, ◌∙◌, arith}
use Rattle.std.specs.Prelude.{All, unwrap_or, if◌then◌else◌}
use Rattle.std.proofs.lemmas.Bool.{eqb-true}
use Rattle.model_draw_parts.specs.dmsg.Message.{Message}
use Rattle.model_draw.specs.draw.World.{World}
use Rattle.model_draw.specs.draw.Act.{Written, act, no_memory, written, written_within}
use Rattle.model_world.specs.Whole.{client}
use Rattle.model_alone.specs.alone.Lone.{written_alone}
use Rattle.model_alone.specs.alone.Uses.{looked_at}
use Rattle.law_likeness.proofs.likeness.Ids.{no_manager}
use Rattle.law_likeness.specs.making.Likes.{IsLike}
use Rattle.law_likeness.proofs.freeing.Writing.{DoneAlike, SameWritten, ran_out, within_like, within_marked}
use Rattle.law_strangers.specs.followed.Devices.{KeepsWithin, told_mark}
use Rattle.law_devices.proofs.marked.Marking.{written_marked}
use Rattle.law_likeness.specs.whole.Steady.{IsSteady}
use Rattle.law_likeness.proofs.whole.Messages.{act_steady}
use Rattle.law_devices.proofs.devices.Owning.{Own, own_first, own_next}

-- ---- what a session is told of its mark

untold : (mark refusal : Option ℕ) → ran_out refusal ≡ false → told_mark mark refusal ≡ None
untold mark None out = refl
untold mark (Some n) out = ap (λ (b : Bool). if b then mark else None) out

told : (mark refusal : Option ℕ) → ran_out refusal ≡ true → told_mark mark refusal ≡ mark
told mark None out = absurd cc
told mark (Some n) out = ap (λ (b : Bool). if b then mark else None) out

is_wanting : (refusal : Option ℕ) → ran_out refusal ≡ true → refusal ≡ Some no_memory
is_wanting None out = absurd cc
is_wanting (Some n) out = ap Some (eqb-true n no_memory out)

module _ (c : ℕ) (window : Option (ℕ × List ℕ)) (n : ℕ) (few : n < 2 ^ 26) (counted : 1 ≤ c) where
  -- the device and the refusal that a write leaves in a world of its own
  abbrev Same : Written → World × Option ℕ → Type 0
  Same x y = IsLike c window x.world y.0 × (x.refusal ≡ y.1)

  keeps : (d : ℕ) → 1 ≤ d → (w next : World) (m : Message) (rest : List ℕ) → IsSteady w → act (client d n) w m rest ≡ Ok next → IsSteady next
  keeps d least w next m rest steady acted = act_steady (client d n) w next m rest (no_manager d n least) steady acted

  module _ (a b : World) (is : IsLike c window a b) (left : IsSteady a) (right : IsSteady b) (bytes : List ℕ) (mark : Option ℕ) where
    abbrev after : Written
    after = written_within (length bytes) (client c n) a mark 0 bytes

    abbrev Looked : ℕ → Type 0
    Looked most = Own window (client c n) most a bytes

    unmarked : ran_out after.refusal ≡ false → Looked (after.done + 1) → SameWritten c window after (written_within (length bytes) (client 1 n) b None 0 bytes)
    unmarked out own =
        within_like c window n few IsSteady (λ w steady. steady.whole) (λ w steady. steady.orderly) (keeps c counted) (keeps 1 (omega arith)) (Own window (client c n)) (own_first window (client c n))
        (own_next window (client c n)) (length bytes) (after.done + 1) a b is left right mark 0 bytes out (omega arith) own

    marked : ran_out after.refusal ≡ true → Looked after.done → DoneAlike c window after (written_within after.done (client 1 n) b None 0 bytes)
    marked out own =
        within_marked c window n few IsSteady (λ w steady. steady.whole) (λ w steady. steady.orderly) (keeps c counted) (keeps 1 (omega arith)) (Own window (client c n)) (own_first window (client c n))
        (own_next window (client c n)) (length bytes) after.done a b is left right mark 0 bytes out (omega arith) own

    pub write_like : All (KeepsWithin window) (looked_at (client c n) a bytes mark)
        → Same (written (client c n) a bytes mark) (written_alone (client 1 n) b bytes (told_mark mark (written (client c n) a bytes mark).refusal))
    unfolding written looked_at
    write_like own = by (ran_out after.refusal) refl
      where
        as_many : (x : Bool) → ran_out after.refusal ≡ x → Looked (if x then after.done else after.done + 1)
        as_many x out = subst (λ (y : Bool). Looked (if y then after.done else after.done + 1)) out own

        by : (x : Bool) → ran_out after.refusal ≡ x → Same after (written_alone (client 1 n) b bytes (told_mark mark after.refusal))
        by false out =
            let one = unmarked out (as_many false out) in
            subst (λ (t : Option ℕ). Same after (written_alone (client 1 n) b bytes t)) (sym (untold mark after.refusal out)) (one.world, one.refusal)
        by true out =
            let one = marked out (as_many true out) in
            subst (λ (t : Option ℕ). Same after (written_alone (client 1 n) b bytes t)) (sym (told mark after.refusal out ∙ written_marked (client c n) a bytes mark out))
            (one.world, is_wanting after.refusal out ∙ ap (λ (o : Option ℕ). Some (unwrap_or o no_memory)) (sym one.refusal))
