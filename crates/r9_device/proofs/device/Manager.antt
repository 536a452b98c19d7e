-- The window manager's number 0 is that of no connection.
use Rattle.std.specs.Prelude.{IsSome}
use Rattle.std.proofs.Common.{◌≡◌, ◌≤◌, ℕ, false, eqb, List, None, Result, Ok, Err, OnOk, OnErr, sym, ap, ◌∙◌, arith}
use Rattle.std.proofs.lemmas.Bool.Decides.{nat_tests}
use Rattle.model_text.specs.text.Map.{lookup, with, and, without}
use Rattle.model_text.proofs.map.Keys.{not_key}
use Rattle.model_text.proofs.map.Maps.{and-others, with-others, without-others, apart}

-- the manager's number stays free where a connection is added, or not
pub manager-inserted : {A B E : Type 0} (r : Result B E) (old new : List (ℕ × A)) (key : ℕ) (value : A) → OnOk r (new ≡ and old key value) → OnErr r (new ≡ old)
    → 1 ≤ key → lookup old 0 ≡ None → lookup new 0 ≡ None
manager-inserted (Ok x) old new key value ok err some none = ap (λ es. lookup es 0) ok ∙ and-others old key 0 value (λ e. omega arith) ∙ none
manager-inserted (Err e) old new key value ok err some none = ap (λ es. lookup es 0) err ∙ none

pub manager-with : {A : Type 0} (old : List (ℕ × A)) (key : ℕ) (value : A) → IsSome (lookup old key) → lookup old 0 ≡ None → lookup (with old key value) 0 ≡ None
manager-with old key value some none = with-others old key 0 value (apart old key 0 some none) ∙ none

pub manager-changed : {A B E : Type 0} (r : Result B E) (old new : List (ℕ × A)) (key : ℕ) (value : A) → OnOk r (new ≡ with old key value) → OnErr r (new ≡ old)
    → IsSome (lookup old key) → lookup old 0 ≡ None → lookup new 0 ≡ None
manager-changed (Ok x) old new key value ok err some none = ap (λ es. lookup es 0) ok ∙ manager-with old key value some none
manager-changed (Err e) old new key value ok err some none = ap (λ es. lookup es 0) err ∙ none

pub manager-without : {A : Type 0} (old : List (ℕ × A)) (key : ℕ) → IsSome (lookup old key) → lookup old 0 ≡ None → lookup (without old key) 0 ≡ None
manager-without old key some none = without-others old key 0 (apart old key 0 some none) ∙ none

pub not_manager : {A : Type 0} (old : List (ℕ × A)) (key : ℕ) → IsSome (lookup old key) → lookup old 0 ≡ None → eqb key 0 ≡ false
not_manager old key some none = not_key key 0 (λ e. apart old key 0 some none (sym e))

-- the owner of the display is not this connection
pub not_owner : (key : ℕ) → eqb key 0 ≡ false → eqb 0 key ≡ false
not_owner key h = grind (arith, nat_tests)
