-- What is refused, and not for want of memory.
use Rattle.std.proofs.Common.{◌≡◌, ℕ, Bool, true, false, Option, Some, None, Ok, Err, refl, subst}
use Rattle.std.specs.Prelude.{IfOk, if◌then◌else◌}
use Rattle.model_text.specs.text.Outcome.{Outcome, ◌>>=◌, refuse_if, value_or_refuse}
use Rattle.model_draw.specs.draw.Act.{no_memory}

pub some_is : {A : Type 0} (x y : A) → Some x ≡ Some y → x ≡ y
some_is x y e = cc

-- what is not refused has a property, and what is refused is refused by another number
abbrev pub IsOther : {A : Type 0} → (A → Type 0) → Outcome A → Type 0
IsOther P (Ok x) = P x
IsOther P (Err n) = n ≡ no_memory → ⊥

abbrev pub IsTold : {A : Type 0} → Outcome A → Type 0
IsTold o = IsOther (λ _. Unit {0}) o

-- what comes behind steps that may be refused
pub behind_step : {A B : Type 0} (P : B → Type 0) (o : Outcome A) (next : A → Outcome B) → IsTold o → ((x : A) → IsOther P (next x)) → IsOther P (o >>= next)
behind_step P (Ok x) next other further = further x
behind_step P (Err n) next other further = other

-- and what comes behind one of which more is known
pub behind_known : {A B : Type 0} (P : B → Type 0) (Q : A → Type 0) (o : Outcome A) (next : A → Outcome B) → IsOther Q o → ((x : A) → Q x → IsOther P (next x)) → IsOther P (o >>= next)
behind_known P Q (Ok x) next known further = further x known
behind_known P Q (Err n) next known further = known

pub refused_by : (b : Bool) (n : ℕ) → (n ≡ no_memory → ⊥) → IsTold (refuse_if b n)
refused_by true n other = other
refused_by false n other = tt

pub value_by : {A : Type 0} (o : Option A) (n : ℕ) → (n ≡ no_memory → ⊥) → IsTold (value_or_refuse o n)
value_by (Some x) n other = tt
value_by None n other = other

pub by_case : {A : Type 0} (P : A → Type 0) (b : Bool) (x y : Outcome A) → IsOther P x → IsOther P y → IsOther P (if b then x else y)
by_case P true x y is other = is
by_case P false x y is other = other

pub known_of : {A : Type 0} (P : A → Type 0) (o : Outcome A) (x : A) → IsOther P o → o ≡ Ok x → P x
known_of P (Ok y) x known is = let same : y ≡ x = cc in subst P same known
known_of P (Err n) x known is = absurd cc

-- of what is not known more
pub told_of : {A : Type 0} (P : A → Type 0) (o : Outcome A) → IsOther P o → IsTold o
told_of P (Ok x) known = tt
told_of P (Err n) known = known

-- ---- what was not refused

-- what comes behind steps that may be refused
pub after_step : {A B : Type 0} (P : B → Type 0) (o : Outcome A) (next : A → Outcome B) → ((x : A) → o ≡ Ok x → IfOk (next x) P) → IfOk (o >>= next) P
after_step P (Ok x) next h = h x refl
after_step P (Err n) next h = tt

pub after_known : {A B : Type 0} (P : B → Type 0) (Q : A → Type 0) (o : Outcome A) (next : A → Outcome B) → IsOther Q o → ((x : A) → Q x → IfOk (next x) P) → IfOk (o >>= next) P
after_known P Q (Ok x) next known further = further x known
after_known P Q (Err n) next known further = tt

pub after_if : {A B : Type 0} (P : B → Type 0) (Q : A → Type 0) (o : Outcome A) (next : A → Outcome B) → IfOk o Q → ((x : A) → Q x → IfOk (next x) P) → IfOk (o >>= next) P
after_if P Q (Ok x) next known further = further x known
after_if P Q (Err n) next known further = tt
