-- A body of one kind of message: what is read of it is spelled by it, and what it spells is read again.
use Rattle.std.proofs.Common.{◌≡◌, ℕ, ◌+◌, ◌^◌, ◌<◌, Bool, true, false, cond, eqb, List, length, Option, Some, None, refl, sym, ap, subst, ◌∙◌}
use Rattle.std.proofs.lemmas.Bool.{eqb-true}
use Rattle.model_text.specs.text.Number.{AreBytes}
use Rattle.model_text.specs.text.Reading.{all_of}
use Rattle.model_text.proofs.text.Fields.{IsField, all_of_takes, all_of_again}
use Rattle.model_files.specs.wire.Spelling.{message}

-- the body of this kind and tag is that of a message that fits
pub record IsBody {M : Type 0} (spelling : M → List ℕ) (Fits : M → Type 0) (kind tag : ℕ) (body : List ℕ) (m : M) : Type 0 where
  pub fits : Fits m
  pub spelled : spelling m ≡ message kind tag body

-- the message has a kind, a tag, and a body that is read again
pub record HasBody {M : Type 0} (body_at : ℕ → ℕ → List ℕ → Option M) (spelling : M → List ℕ) (m : M) : Type 0 where
  pub kind : ℕ
  pub tag : ℕ
  pub body : List ℕ
  pub kind_fits : kind < 2 ^ 8
  pub tag_fits : tag < 2 ^ 16
  pub small : 7 + length body < 2 ^ 32
  pub spelled : spelling m ≡ message kind tag body
  pub read : body_at kind tag body ≡ Some m

pub body_takes : {M A : Type 0} (spelling : M → List ℕ) (FitsM : M → Type 0) (kind tag : ℕ) (get : List ℕ → Option (A × List ℕ)) (put : A → List ℕ) (Fits : A → Type 0) (make : A → M)
    → IsField get put Fits → ((x : A) → spelling (make x) ≡ message kind tag (put x)) → ((x : A) → Fits x → 7 + length (put x) < 2 ^ 32 → FitsM (make x))
    → (body : List ℕ) (m : M) → AreBytes body → 7 + length body < 2 ^ 32 → all_of get body make ≡ Some m → IsBody spelling FitsM kind tag body m
body_takes {M} {A} spelling FitsM kind tag get put Fits make field spelled fits body m are small e =
    let read = all_of_takes get put Fits field body make m are e in
    let x : A = read.0 in
    let short : 7 + length (put x) < 2 ^ 32 = subst (λ (text : List ℕ). 7 + length text < 2 ^ 32) read.1 small in
    let whole : IsBody spelling FitsM kind tag body (make x) = record { fits = fits x read.2 short; spelled = spelled x ∙ ap (message kind tag) (sym read.1) } in
    subst (λ (n : M). IsBody spelling FitsM kind tag body n) read.3 whole

pub body_again : {M A : Type 0} (body_at : ℕ → ℕ → List ℕ → Option M) (spelling : M → List ℕ) (kind tag : ℕ) (get : List ℕ → Option (A × List ℕ)) (put : A → List ℕ) (Fits : A → Type 0) (make : A → M)
    → IsField get put Fits → (x : A) → Fits x → kind < 2 ^ 8 → tag < 2 ^ 16 → 7 + length (put x) < 2 ^ 32 → spelling (make x) ≡ message kind tag (put x)
    → body_at kind tag (put x) ≡ all_of get (put x) make → HasBody body_at spelling (make x)
body_again {M} {A} body_at spelling kind tag get put Fits make field x fits kind_fits tag_fits small spelled reads = record {
  kind = kind;
  tag = tag;
  body = put x;
  kind_fits = kind_fits;
  tag_fits = tag_fits;
  small = small;
  spelled = spelled;
  read = reads ∙ all_of_again get put Fits field x make fits;
}

-- what the reader reads of a body is a message of this kind
abbrev pub TakesBody : {M : Type 0} (spelling : M → List ℕ) (Fits : M → Type 0) (kind : ℕ) (read : ℕ → List ℕ → Option M) → Type 0
TakesBody {M} spelling Fits kind read = (tag : ℕ) (body : List ℕ) (m : M) → tag < 2 ^ 16 → AreBytes body → 7 + length body < 2 ^ 32 → read tag body ≡ Some m → IsBody spelling Fits kind tag body m

-- the reader of one kind, and one for the others
pub or_else : {M : Type 0} (spelling : M → List ℕ) (Fits : M → Type 0) (kind one : ℕ) (first others : ℕ → List ℕ → Option M)
    → TakesBody spelling Fits one first → TakesBody spelling Fits kind others → TakesBody spelling Fits kind (cond (eqb kind one) first others)
or_else {M} spelling Fits kind one first others takes_first takes_others tag body m lt are small e = go (eqb kind one) refl e
  where
    go : (b : Bool) → eqb kind one ≡ b → (cond b first others) tag body ≡ Some m → IsBody spelling Fits kind tag body m
    go true is read = subst (λ (k : ℕ). IsBody spelling Fits k tag body m) (sym (eqb-true _ _ is)) (takes_first tag body m lt are small read)
    go false is read = takes_others tag body m lt are small read

pub none_taken : {M : Type 0} (spelling : M → List ℕ) (Fits : M → Type 0) (kind : ℕ) → TakesBody spelling Fits kind (λ tag body. None)
none_taken spelling Fits kind tag body m lt are small e = absurd cc
