-- How relations of what may be refused, or not be there, go through steps.
use Rattle.std.proofs.Common.{◌≡◌, ℕ, Bool, true, false, List, [], ◌∷◌, Option, Some, None, Ok, Err, refl, subst}
use Rattle.std.specs.Prelude.{All, if◌then◌else◌}
use Rattle.std.specs.List.{fold}
use Rattle.std.specs.Option.{option_map}
use Rattle.std.proofs.lemmas.List.Elements.{All-head, All-tail}
use Rattle.model_text.specs.text.Outcome.{Outcome, ◌>>=◌, refuse_if}
use Rattle.law_likeness.specs.agreement.Agreement.{SameOption, SameOutcome}

-- steps agree where each does
pub bind_alike : {A B C E : Type 0} (P : A → B → Type 0) (Q : C → E → Type 0) (x : Outcome A) (y : Outcome B) (f : A → Outcome C) (g : B → Outcome E)
    → SameOutcome P x y → ((a : A) (b : B) → P a b → SameOutcome Q (f a) (g b)) → SameOutcome Q (x >>= f) (y >>= g)
bind_alike P Q (Ok a) (Ok b) f g p further = further a b p
bind_alike P Q (Err n) (Err m) f g p further = p
bind_alike P Q (Ok a) (Err m) f g p further = absurd p
bind_alike P Q (Err n) (Ok b) f g p further = absurd p

-- a step that is the same on both sides
pub check_alike : {A C E : Type 0} (Q : C → E → Type 0) (x : Outcome A) (f : A → Outcome C) (g : A → Outcome E)
    → ((a : A) → x ≡ Ok a → SameOutcome Q (f a) (g a)) → SameOutcome Q (x >>= f) (x >>= g)
check_alike Q (Ok a) f g further = further a refl
check_alike Q (Err n) f g further = refl

pub equal_alike : {A C E : Type 0} (Q : C → E → Type 0) (x y : Outcome A) (f : A → Outcome C) (g : A → Outcome E)
    → x ≡ y → ((a : A) → SameOutcome Q (f a) (g a)) → SameOutcome Q (x >>= f) (y >>= g)
equal_alike Q x y f g e further = rw e (check_alike Q y f g (λ a _. further a))

-- a test that did not refuse
pub not_refused : (b : Bool) (n : ℕ) (u : Unit {0}) → refuse_if b n ≡ Ok u → b ≡ false
not_refused true n u fine = absurd cc
not_refused false n u fine = refl

-- the same where it is known that the step was not refused
pub known_alike : {A C E : Type 0} (Q : C → E → Type 0) (x y : Outcome A) (f : A → Outcome C) (g : A → Outcome E)
    → x ≡ y → ((a : A) → x ≡ Ok a → SameOutcome Q (f a) (g a)) → SameOutcome Q (x >>= f) (y >>= g)
known_alike Q x y f g e further = subst (λ z. SameOutcome Q (x >>= f) (z >>= g)) e (check_alike Q x f g further)

pub weaken : {A B : Type 0} (P Q : A → B → Type 0) (x : Outcome A) (y : Outcome B) → ((a : A) (b : B) → P a b → Q a b)
    → SameOutcome P x y → SameOutcome Q x y
weaken P Q (Ok a) (Ok b) further p = further a b p
weaken P Q (Err n) (Err m) further p = p
weaken P Q (Ok a) (Err m) further p = absurd p
weaken P Q (Err n) (Ok b) further p = absurd p

pub map_alike : {A B C : Type 0} (P : B → C → Type 0) (f : A → B) (g : A → C) (o : Option A) → ((a : A) → P (f a) (g a))
    → SameOption P (option_map f o) (option_map g o)
map_alike P f g None each = tt
map_alike P f g (Some a) each = each a

pub if_alike : {A B : Type 0} (P : A → B → Type 0) (b : Bool) (x y : Outcome A) (u v : Outcome B) → SameOutcome P x u → SameOutcome P y v
    → SameOutcome P (if b then x else y) (if b then u else v)
if_alike P true x y u v p q = p
if_alike P false x y u v p q = q

-- the same for what is not refused
pub if_so : {S T : Type 0} (P : S → T → Type 0) (b : Bool) (x y : S) (u v : T) → P x u → P y v → P (if b then x else y) (if b then u else v)
if_so P true x y u v p q = p
if_so P false x y u v p q = q

-- changes one after the other keep what each keeps
pub fold_alike : {S T X : Type 0} (P : S → T → Type 0) (Q : X → Type 0) (f : S → X → S) (g : T → X → T)
    → ((s : S) (t : T) (x : X) → Q x → P s t → P (f s x) (g t x)) → (xs : List X) (s : S) (t : T) → All Q xs → P s t → P (fold f s xs) (fold g t xs)
fold_alike P Q f g keep [] s t all same = same
fold_alike P Q f g keep (x ∷ xs) s t all same =
    fold_alike P Q f g keep xs (f s x) (g t x) (All-tail Q x xs all) (keep s t x (All-head Q x xs all) same)
