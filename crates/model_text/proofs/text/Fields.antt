-- A field that is read is the field that was written, and what was written is read again, whatever follows.
use Rattle.std.proofs.Common.{◌≡◌, ℕ, ◌+◌, ◌^◌, ◌%◌, ◌<◌, ◌≤◌, ◌⊎◌, Bool, true, false, cond, eqb, ltb, List, [], ◌∷◌, ◌++◌, length, take, drop, Option, Some, None, refl, sym, ap, subst, ◌∙◌, append_assoc, arith, inl, inr}
use Rattle.std.specs.Int.{Width, w8, w16, w32, w64, byte_len, from_le_bytes, to_le_bytes}
use Rattle.std.proofs.lemmas.Bool.{cases_lt, ltb-false, le-ltb, eqb-true}
use Rattle.std.proofs.lemmas.List.{append-nil, nil_from_length, take_at, drop_at, take-append-drop, length-append, length-take, get_or-drop, get_or-take, get_or_past}
use Rattle.std.proofs.lemmas.Nat.{le_bytes_2, le_bytes_4, le_bytes_8, from_le_bytes-to_le_bytes_2, from_le_bytes-to_le_bytes_4, from_le_bytes-to_le_bytes_8}
use Rattle.model_text.specs.text.Number.{AreBytes}
use Rattle.model_text.specs.text.Reading.{◌>>=◌, ◌&◌, number_at, all_of}

pub AreBytes-drop : (n : ℕ) (bytes : List ℕ) → AreBytes bytes → AreBytes (drop n bytes)
AreBytes-drop n bytes h i = rw get_or-drop (h (n + i))

pub AreBytes-take : (n : ℕ) (bytes : List ℕ) → AreBytes bytes → AreBytes (take n bytes)
AreBytes-take n bytes h i =
    elim (cases_lt i n) [
      | inl lt ↦ rw (get_or-take n bytes i 0 lt) (h i)
      | inr le ↦ rw (get_or_past (take n bytes) i 0 (omega (arith, length-take n bytes))) (omega arith)
    ]

-- the value of a step that gave one
pub bind_some : {A B : Type 0} (r : Option A) (f : A → Option B) (y : B) → (r >>= f) ≡ Some y → (x : A) × (r ≡ Some x) × (f x ≡ Some y)
bind_some (Some x) f y e = (x, refl, e)
bind_some None f y e = absurd cc

-- a test that let the value through
pub guard_some : {A : Type 0} (b : Bool) (x y : A) → cond b None (Some x) ≡ Some y → (b ≡ false) × (x ≡ y)
guard_some true x y e = absurd cc
guard_some false x y e = (refl, cc)

pub want_some : {A : Type 0} (b : Bool) (x y : A) → cond b (Some x) None ≡ Some y → (b ≡ true) × (x ≡ y)
want_some true x y e = (refl, cc)
want_some false x y e = absurd cc

-- which way a test went
pub chosen : {A : Type 0} (b : Bool) (x y z : A) → cond b x y ≡ z → ((b ≡ true) × (x ≡ z)) ⊎ ((b ≡ false) × (y ≡ z))
chosen true x y z e = inl (refl, e)
chosen false x y z e = inr (refl, e)

-- bytes are a text, and then the rest
pub record Takes (bytes text rest : List ℕ) : Type 0 where
  pub parts : bytes ≡ text ++ rest
  pub rest_bytes : AreBytes rest

-- What get reads is what put writes, for the values that fit.
pub record IsField {A : Type 0} (get : List ℕ → Option (A × List ℕ)) (put : A → List ℕ) (Fits : A → Type 0) : Type 0 where
  pub takes : (bytes : List ℕ) (x : A) (rest : List ℕ) → AreBytes bytes → get bytes ≡ Some (x, rest) → Takes bytes (put x) rest × Fits x
  pub again : (x : A) (rest : List ℕ) → Fits x → get (put x ++ rest) ≡ Some (x, rest)

-- one field after another is a field
pub pair_field : {A B : Type 0} (get_a : List ℕ → Option (A × List ℕ)) (put_a : A → List ℕ) (FitsA : A → Type 0) (get_b : List ℕ → Option (B × List ℕ)) (put_b : B → List ℕ) (FitsB : B → Type 0)
    → IsField get_a put_a FitsA → IsField get_b put_b FitsB → IsField (get_a & get_b) (λ (x : A × B). put_a x.0 ++ put_b x.1) (λ (x : A × B). FitsA x.0 × FitsB x.1)
pair_field {A} {B} get_a put_a FitsA get_b put_b FitsB a b = record {
  takes = λ bytes x rest are e.
      let first = bind_some (get_a bytes) (λ p. get_b p.1 >>= λ q. Some ((p.0, q.0), q.1)) (x, rest) e in
      let second = bind_some (get_b first.0.1) (λ q. Some ((first.0.0, q.0), q.1)) (x, rest) first.2 in
      let t = a.takes bytes first.0.0 first.0.1 are first.1 in
      let u = b.takes first.0.1 second.0.0 second.0.1 t.0.rest_bytes second.1 in
      let made : (A × B) × List ℕ = ((first.0.0, second.0.0), second.0.1) in
      let same : made ≡ (x, rest) = cc second.2 in
      let whole : Takes bytes (put_a first.0.0 ++ put_b second.0.0) second.0.1 = record {
        parts = t.0.parts ∙ ap (λ (r : List ℕ). put_a first.0.0 ++ r) u.0.parts ∙ sym (append_assoc (put_a first.0.0) (put_b second.0.0) second.0.1);
        rest_bytes = u.0.rest_bytes;
      } in
      subst (λ (p : (A × B) × List ℕ). Takes bytes (put_a p.0.0 ++ put_b p.0.1) p.1 × (FitsA p.0.0 × FitsB p.0.1)) same (whole, (t.1, u.1));
  again = λ x rest fits.
      rw (append_assoc (put_a x.0) (put_b x.1) rest, a.again x.0 (put_b x.1 ++ rest) fits.0, b.again x.1 rest fits.1) refl;
}

-- what takes all of the bytes
pub all_of_takes : {A B : Type 0} (get : List ℕ → Option (A × List ℕ)) (put : A → List ℕ) (Fits : A → Type 0) → IsField get put Fits
    → (bytes : List ℕ) (make : A → B) (y : B) → AreBytes bytes → all_of get bytes make ≡ Some y → (x : A) × (bytes ≡ put x) × Fits x × (make x ≡ y)
all_of_takes {A} {B} get put Fits field bytes make y are e =
    let read = bind_some (get bytes) (λ (x : A × List ℕ). cond (eqb (length x.1) 0) (Some (make x.0)) None) y e in
    let x : A = read.0.0 in
    let t = field.takes bytes x read.0.1 are read.1 in
    let done = want_some (eqb (length read.0.1) 0) (make x) y read.2 in
    let nothing : read.0.1 ≡ [] = nil_from_length read.0.1 (eqb-true _ _ done.0) in
    (x, t.0.parts ∙ ap (λ (r : List ℕ). put x ++ r) nothing ∙ append-nil (put x), t.1, done.1)

pub all_of_again : {A B : Type 0} (get : List ℕ → Option (A × List ℕ)) (put : A → List ℕ) (Fits : A → Type 0) → IsField get put Fits
    → (x : A) (make : A → B) → Fits x → all_of get (put x) make ≡ Some (make x)
all_of_again {A} {B} get put Fits field x make fits =
    let read : get (put x) ≡ Some (x, []) = ap get (sym (append-nil (put x))) ∙ field.again x [] fits in
    rw read refl

-- ---- numbers

pub record IsWide (w : Width) (limit : ℕ) : Type 0 where
  pub len : (n : ℕ) → length (to_le_bytes w n) ≡ byte_len w
  pub back : (bytes : List ℕ) → length bytes ≡ byte_len w → AreBytes bytes → to_le_bytes w (from_le_bytes w bytes) ≡ bytes
  pub again : (n : ℕ) → n < limit → from_le_bytes w (to_le_bytes w n) ≡ n
  pub below : (bytes : List ℕ) → AreBytes bytes → from_le_bytes w bytes < limit

pub wide16 : IsWide w16 (2 ^ 16)
wide16 = record {
  len = λ n. refl;
  back = λ bytes len fits. le_bytes_2 bytes _ len fits refl;
  again = λ n lt. from_le_bytes-to_le_bytes_2 n lt;
  below = λ bytes fits. omega (arith, fits 0, fits 1);
}

pub wide32 : IsWide w32 (2 ^ 32)
wide32 = record {
  len = λ n. refl;
  back = λ bytes len fits. le_bytes_4 bytes _ len fits refl;
  again = λ n lt. from_le_bytes-to_le_bytes_4 n lt;
  below = λ bytes fits. omega (arith, fits 0, fits 1, fits 2, fits 3);
}

pub wide64 : IsWide w64 (2 ^ 64)
wide64 = record {
  len = λ n. refl;
  back = λ bytes len fits. le_bytes_8 bytes _ len fits refl;
  again = λ n lt. from_le_bytes-to_le_bytes_8 n lt;
  below = λ bytes fits. omega (arith, fits 0, fits 1, fits 2, fits 3, fits 4, fits 5, fits 6, fits 7);
}

pub number_field : (w : Width) (limit : ℕ) (wide : IsWide w limit) → IsField (number_at w) (to_le_bytes w) (λ n. n < limit)
number_field w limit wide = record {
  takes = λ bytes n rest are e.
      let g = guard_some (ltb (length bytes) (byte_len w)) (from_le_bytes w (take (byte_len w) bytes), drop (byte_len w) bytes) (n, rest) e in
      let long : byte_len w ≤ length bytes = ltb-false _ _ g.0 in
      let n-is : from_le_bytes w (take (byte_len w) bytes) ≡ n = ap (λ (p : ℕ × List ℕ). p.0) g.1 in
      let rest-is : drop (byte_len w) bytes ≡ rest = ap (λ (p : ℕ × List ℕ). p.1) g.1 in
      let front : to_le_bytes w n ≡ take (byte_len w) bytes = rw (← n-is) (wide.back (take (byte_len w) bytes) (omega (arith, length-take (byte_len w) bytes)) (AreBytes-take (byte_len w) bytes are)) in (
        record { parts = rw (front, ← rest-is) (sym (take-append-drop (byte_len w) bytes)); rest_bytes = rw (← rest-is) (AreBytes-drop (byte_len w) bytes are) },
        rw (← n-is) (wide.below (take (byte_len w) bytes) (AreBytes-take (byte_len w) bytes are)),
      );
  again = λ n rest lt.
      let len = wide.len n in
      let long : ltb (length (to_le_bytes w n ++ rest)) (byte_len w) ≡ false = le-ltb _ _ (omega (arith, length-append (to_le_bytes w n) rest)) in
      rw (long, take_at (to_le_bytes w n) rest (byte_len w) len, drop_at (to_le_bytes w n) rest (byte_len w) len, wide.again n lt) refl;
}

pub wide8 : IsWide w8 (2 ^ 8)
wide8 = record {
  len = λ n. refl;
  back = one_byte;
  again = λ n lt. omega arith;
  below = λ bytes fits. omega (arith, fits 0);
}
  where
    one_byte : (bytes : List ℕ) → length bytes ≡ 1 → AreBytes bytes → to_le_bytes w8 (from_le_bytes w8 bytes) ≡ bytes
    one_byte [] len fits = absurd (omega arith)
    one_byte (b ∷ []) len fits = let lt : b < 256 = fits 0 in let same : b % 256 ≡ b = omega arith in ap (λ (n : ℕ). n ∷ []) same
    one_byte (b ∷ c ∷ bytes) len fits = absurd (omega arith)
