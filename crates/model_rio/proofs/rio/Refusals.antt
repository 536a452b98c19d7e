-- What was not refused.
use Rattle.std.proofs.Common.{◌≡◌, ℕ, Bool, true, false, Option, Some, None, Ok, Err, refl}
use Rattle.model_text.specs.text.Outcome.{Outcome, ◌>>=◌, refuse_if, value_or_refuse}

pub same_Ok : {A : Type 0} (x y : A) → ◌≡◌ {A = Outcome A} (Ok x) (Ok y) → x ≡ y
same_Ok x y e = cc

pub refuse_ok : {A : Type 0} (b : Bool) (n : ℕ) (next : Unit {0} → Outcome A) (x : A) → (refuse_if b n >>= next) ≡ Ok x → (b ≡ false) × (next tt ≡ Ok x)
refuse_ok true n next x e = absurd cc
refuse_ok false n next x e = (refl, e)

pub value_ok : {A B : Type 0} (o : Option A) (n : ℕ) (next : A → Outcome B) (x : B) → (value_or_refuse o n >>= next) ≡ Ok x → (a : A) × (o ≡ Some a) × (next a ≡ Ok x)
value_ok (Some a) n next x e = (a, refl, e)
value_ok None n next x e = absurd cc

pub then_ok : {A B : Type 0} (o : Outcome A) (next : A → Outcome B) (x : B) → (o >>= next) ≡ Ok x → (a : A) × (o ≡ Ok a) × (next a ≡ Ok x)
then_ok (Ok a) next x e = (a, refl, e)
then_ok (Err n) next x e = absurd cc
