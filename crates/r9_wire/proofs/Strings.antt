-- Strings read one after the other, as a loop does.
use Rattle.std.proofs.Common.{◌≡◌, ℕ, suc, ◌+◌, ◌-◌, ◌<◌, ◌≤◌, List, [], ◌∷◌, ◌++◌, Option, Some, None, Err, refl, sym, ap, ◌∙◌, append_assoc, arith}
use Rattle.std.proofs.lemmas.List.{append-nil}
use Rattle.model_text.specs.text.Reading.{◌>>=◌}
use Rattle.model_files.specs.wire.Reading.{string_at, so_many}
use Rattle.r9_wire.specs.declared.fields.FieldFault.{FieldFault}
use Rattle.r9_wire.specs.declared.fields.FieldFault.TheVariants as field
use Rattle.r9_wire.specs.Gives.{Gives}

-- what was read before, and what is still read
abbrev pub joined : List (List ℕ) → Option (List (List ℕ) × List ℕ) → Option (List (List ℕ) × List ℕ)
joined front None = None
joined front (Some more) = Some (front ++ more.0, more.1)

-- the strings before a place, and those behind it
abbrev pub IsSoFar : (front : List (List ℕ)) (count place : ℕ) (rest : List ℕ) (total : Option (List (List ℕ) × List ℕ)) → Type 0
IsSoFar front count place rest total = joined front (so_many string_at (count - place) rest) ≡ total

pub at_first : (count : ℕ) (bytes : List ℕ) → IsSoFar [] count 0 bytes (so_many string_at count bytes)
at_first count bytes =
    let all : count - 0 ≡ count = omega arith in
    ap (λ (n : ℕ). joined [] (so_many string_at n bytes)) all ∙ unjoined (so_many string_at count bytes)
  where
    unjoined : (read : Option (List (List ℕ) × List ℕ)) → joined [] read ≡ read
    unjoined None = refl
    unjoined (Some more) = refl

pub one_more : (front : List (List ℕ)) (count place : ℕ) (rest name behind : List ℕ) (total : Option (List (List ℕ) × List ℕ)) → place < count → string_at rest ≡ Some (name, behind)
    → IsSoFar front count place rest total → IsSoFar (front ++ name ∷ []) count (place + 1) behind total
one_more front count place rest name behind total lt read so_far =
    let left : count - place ≡ suc (count - (place + 1)) = omega arith in
    let before : joined front (so_many string_at (suc (count - (place + 1))) rest) ≡ total = rw left at so_far in
    regroup (so_many string_at (count - (place + 1)) behind) ∙ sym (ap (λ (x : Option (List ℕ × List ℕ)). joined front (x >>= after)) read) ∙ before
  where
    after : List ℕ × List ℕ → Option (List (List ℕ) × List ℕ)
    after first = so_many string_at (count - (place + 1)) first.1 >>= λ more. Some (first.0 ∷ more.0, more.1)

    regroup : (more : Option (List (List ℕ) × List ℕ)) → joined (front ++ name ∷ []) more ≡ joined front (more >>= λ more. Some (name ∷ more.0, more.1))
    regroup None = refl
    regroup (Some more) = ap (λ (names : List (List ℕ)). let p : List (List ℕ) × List ℕ = (names, more.1) in Some p) (append_assoc front (name ∷ []) more.0)

pub none_there : (front : List (List ℕ)) (count place : ℕ) (rest : List ℕ) (total : Option (List (List ℕ) × List ℕ)) → place < count → string_at rest ≡ None
    → IsSoFar front count place rest total → total ≡ None
none_there front count place rest total lt read so_far =
    let left : count - place ≡ suc (count - (place + 1)) = omega arith in
    let before : joined front (so_many string_at (suc (count - (place + 1))) rest) ≡ total = rw left at so_far in
    sym before ∙ ap (λ (x : Option (List ℕ × List ℕ)). joined front (x >>= after)) read
  where
    after : List ℕ × List ℕ → Option (List (List ℕ) × List ℕ)
    after first = so_many string_at (count - (place + 1)) first.1 >>= λ more. Some (first.0 ∷ more.0, more.1)

pub at_last : (front : List (List ℕ)) (count place : ℕ) (rest : List ℕ) (total : Option (List (List ℕ) × List ℕ)) → count ≤ place → IsSoFar front count place rest total → total ≡ Some (front, rest)
at_last front count place rest total le so_far =
    let none_left : count - place ≡ 0 = omega arith in
    let before : joined front (so_many string_at 0 rest) ≡ total = rw none_left at so_far in
    sym before ∙ ap (λ (names : List (List ℕ)). let p : List (List ℕ) × List ℕ = (names, rest) in Some p) (append-nil front)

-- a string that could not be read
pub fails : {X Y : Type 0} (view : X → List ℕ × List ℕ) (seen : Y → List (List ℕ) × List ℕ) (front : List (List ℕ)) (count place : ℕ) (rest : List ℕ) (total : Option (List (List ℕ) × List ℕ)) (e : FieldFault)
    → place < count → Gives view (Err e) (string_at rest) → IsSoFar front count place rest total → Gives seen (Err e) total
fails view seen front count place rest total field.Malformed lt given so_far = none_there front count place rest total lt given so_far
fails view seen front count place rest total field.Memory lt given so_far = tt
