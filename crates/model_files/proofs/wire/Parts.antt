-- Fields made of fields: what is read is what was written, and what was written is read again.
use Rattle.std.proofs.Common.{◌≡◌, ℕ, zero, suc, ◌+◌, ◌%◌, ◌^◌, ◌<◌, ◌≤◌, Bool, true, false, cond, ltb, leb, List, [], ◌∷◌, ◌++◌, length, take, drop, Option, Some, None, refl, sym, ap, subst, ◌∙◌, append_assoc, arith}
use Rattle.std.specs.Int.{Width, w8, w16, w32, w64, to_le_bytes}
use Rattle.std.specs.List.{All, flat_map}
use Rattle.std.specs.Str.{is_utf8}
use Rattle.std.proofs.lemmas.Bool.{ltb-false, le-ltb, leb-true, le-leb}
use Rattle.std.proofs.lemmas.List.{take_at, drop_at, take-append-drop, length-append, length-take}
use Rattle.std.proofs.lemmas.List.Elements.{All-nil, All-cons, All-head, All-tail}
use Rattle.std.proofs.lemmas.Str.{IsUtf8-from_is_utf8, is_utf8-from_IsUtf8}
use Rattle.model_text.specs.text.Number.{AreBytes, two_bytes, four_bytes, eight_bytes}
use Rattle.model_text.specs.text.Reading.{◌>>=◌, number_at, all_of}
use Rattle.model_text.proofs.text.Fields.{AreBytes-drop, AreBytes-take, bind_some, guard_some, want_some, Takes, IsField, IsWide, all_of_takes, all_of_again, number_field, wide8, wide16, wide32, wide64}
use Rattle.model_files.specs.wire.Spelling.{sized, string, IsString}
use Rattle.model_files.specs.wire.Reading.{counted_at, string_at, made, so_many, listed_at, within}

pub some_is : {X : Type 0} (x y : X) → Some x ≡ Some y → x ≡ y
some_is x y e = cc

-- the same field, written otherwise
pub same_field : {A : Type 0} (get : List ℕ → Option (A × List ℕ)) (put put' : A → List ℕ) (Fits : A → Type 0) → IsField get put Fits → ((x : A) → Fits x → put x ≡ put' x) → IsField get put' Fits
same_field {A} get put put' Fits field same = record {
  takes = λ bytes x rest are e. let t = field.takes bytes x rest are e in (
    record { parts = t.0.parts ∙ ap (λ (text : List ℕ). text ++ rest) (same x t.1); rest_bytes = t.0.rest_bytes },
    t.1,
  );
  again = λ x rest fits. ap (λ (text : List ℕ). get (text ++ rest)) (sym (same x fits)) ∙ field.again x rest fits;
}

-- the same field, whose values are told to fit otherwise
pub refit_field : {A : Type 0} (get : List ℕ → Option (A × List ℕ)) (put : A → List ℕ) (Fits Fits' : A → Type 0) → IsField get put Fits → ((x : A) → Fits x → Fits' x) → ((x : A) → Fits' x → Fits x)
    → IsField get put Fits'
refit_field {A} get put Fits Fits' field there back = record {
  takes = λ bytes x rest are e. let t = field.takes bytes x rest are e in (t.0, there x t.1);
  again = λ x rest fits. field.again x rest (back x fits);
}

-- what is made of a field, where it can be taken apart again
pub made_field : {A B : Type 0} (get : List ℕ → Option (A × List ℕ)) (put : A → List ℕ) (Fits : A → Type 0) (make : A → B) (parts : B → A) → IsField get put Fits
    → ((x : A) → parts (make x) ≡ x) → ((y : B) → make (parts y) ≡ y) → IsField (made make get) (λ y. put (parts y)) (λ y. Fits (parts y))
made_field {A} {B} get put Fits make parts field undone redone = record {
  takes = λ bytes y rest are e.
      let read = bind_some (get bytes) (λ x. Some (make x.0, x.1)) (y, rest) e in
      let x : A = read.0.0 in
      let is : (make x, read.0.1) ≡ (y, rest) = some_is (make x, read.0.1) (y, rest) read.2 in
      let t = field.takes bytes x read.0.1 are read.1 in
      let back : parts (make x) ≡ x = undone x in
      let made_of : Takes bytes (put (parts (make x))) read.0.1 × Fits (parts (make x)) = subst (λ (z : A). Takes bytes (put z) read.0.1 × Fits z) (sym back) t in
      subst (λ (p : B × List ℕ). Takes bytes (put (parts p.0)) p.1 × Fits (parts p.0)) is made_of;
  again = λ y rest fits.
      let read : get (put (parts y) ++ rest) ≡ Some (parts y, rest) = field.again (parts y) rest fits in
      rw (read, redone y) refl;
}

-- ---- numbers

pub field8 : IsField (number_at w8) (λ n. n ∷ []) (λ n. n < 2 ^ 8)
field8 = same_field _ _ _ _ (number_field w8 (2 ^ 8) wide8) (λ n lt. one_byte n lt)
  where
    one_byte : (n : ℕ) → n < 2 ^ 8 → to_le_bytes w8 n ≡ n ∷ []
    one_byte n lt = let same : n % 256 ≡ n = omega arith in ap (λ (k : ℕ). k ∷ []) same

pub field16 : IsField (number_at w16) two_bytes (λ n. n < 2 ^ 16)
field16 = number_field w16 (2 ^ 16) wide16

pub field32 : IsField (number_at w32) four_bytes (λ n. n < 2 ^ 32)
field32 = number_field w32 (2 ^ 32) wide32

pub field64 : IsField (number_at w64) eight_bytes (λ n. n < 2 ^ 64)
field64 = number_field w64 (2 ^ 64) wide64

-- ---- bytes behind their length

pub counted_field : (w : Width) (limit : ℕ) (wide : IsWide w limit) → IsField (counted_at w) (λ bytes. to_le_bytes w (length bytes) ++ bytes) (λ bytes. length bytes < limit)
unfolding counted_at
counted_field w limit wide = record {
  takes = λ bytes part rest are e.
      let read = bind_some (number_at w bytes) (λ len. cond (ltb (length len.1) len.0) None (Some (take len.0 len.1, drop len.0 len.1))) (part, rest) e in
      let n : ℕ = read.0.0 in
      let behind : List ℕ = read.0.1 in
      let t = (number_field w limit wide).takes bytes n behind are read.1 in
      let g = guard_some (ltb (length behind) n) (take n behind, drop n behind) (part, rest) read.2 in
      let long : n ≤ length behind = ltb-false _ _ g.0 in
      let len : length (take n behind) ≡ n = omega (arith, length-take n behind) in
      let whole : Takes bytes (to_le_bytes w (length (take n behind)) ++ take n behind) (drop n behind) = record {
        parts = t.0.parts ∙ ap (λ (r : List ℕ). to_le_bytes w n ++ r) (sym (take-append-drop n behind)) ∙ sym (append_assoc (to_le_bytes w n) (take n behind) (drop n behind))
            ∙ ap (λ (k : ℕ). (to_le_bytes w k ++ take n behind) ++ drop n behind) (sym len);
        rest_bytes = AreBytes-drop n behind t.0.rest_bytes;
      } in
      subst (λ (p : List ℕ × List ℕ). Takes bytes (to_le_bytes w (length p.0) ++ p.0) p.1 × (length p.0 < limit)) g.1 (whole, subst (λ (k : ℕ). k < limit) (sym len) t.1);
  again = λ part rest fits.
      let long : ltb (length (part ++ rest)) (length part) ≡ false = le-ltb _ _ (omega (arith, length-append part rest)) in
      rw (append_assoc (to_le_bytes w (length part)) part rest, (number_field w limit wide).again (length part) (part ++ rest) fits, long, take_at part rest (length part) refl, drop_at part rest (length part) refl) refl;
}

pub sized_field : IsField (counted_at w16) sized (λ bytes. length bytes < 2 ^ 16)
unfolding sized
sized_field = counted_field w16 (2 ^ 16) wide16

pub length-sized : (bytes : List ℕ) → length (sized bytes) ≡ 2 + length bytes
unfolding sized
length-sized bytes = omega arith

pub string_field : IsField string_at string IsString
unfolding string_at
string_field = record {
  takes = λ bytes text rest are e.
      let read = bind_some (counted_at w16 bytes) (λ text. cond (is_utf8 text.0) (Some text) None) (text, rest) e in
      let g = want_some (is_utf8 read.0.0) read.0 (text, rest) read.2 in
      let t = sized_field.takes bytes read.0.0 read.0.1 are read.1 in
      subst (λ (p : List ℕ × List ℕ). Takes bytes (string p.0) p.1 × IsString p.0) g.1 (t.0, (IsUtf8-from_is_utf8 read.0.0 g.0, t.1));
  again = λ text rest fits. rw (sized_field.again text rest fits.1, is_utf8-from_IsUtf8 text fits.0) refl;
}

-- ---- fields one after the other

so_many_takes : {A : Type 0} (get : List ℕ → Option (A × List ℕ)) (put : A → List ℕ) (Fits : A → Type 0) → IsField get put Fits
    → (n : ℕ) (bytes : List ℕ) (xs : List A) (rest : List ℕ) → AreBytes bytes → so_many get n bytes ≡ Some (xs, rest) → Takes bytes (flat_map put xs) rest × All Fits xs × (length xs ≡ n)
so_many_takes {A} get put Fits field zero bytes xs rest are e =
    subst (λ (p : List A × List ℕ). Takes bytes (flat_map put p.0) p.1 × All Fits p.0 × (length p.0 ≡ 0)) (some_is _ _ e)
    (record { parts = refl; rest_bytes = are }, All-nil Fits, refl)
so_many_takes {A} get put Fits field (suc n) bytes xs rest are e =
    let first = bind_some (get bytes) (λ first. so_many get n first.1 >>= λ more. Some (first.0 ∷ more.0, more.1)) (xs, rest) e in
    let x : A = first.0.0 in
    let behind : List ℕ = first.0.1 in
    let more = bind_some (so_many get n behind) (λ more. Some (x ∷ more.0, more.1)) (xs, rest) first.2 in
    let t = field.takes bytes x behind are first.1 in
    let u = so_many_takes get put Fits field n behind more.0.0 more.0.1 t.0.rest_bytes more.1 in
    let whole : Takes bytes (put x ++ flat_map put more.0.0) more.0.1 = record {
      parts = t.0.parts ∙ ap (λ (r : List ℕ). put x ++ r) u.0.parts ∙ sym (append_assoc (put x) (flat_map put more.0.0) more.0.1);
      rest_bytes = u.0.rest_bytes;
    } in
    subst (λ (p : List A × List ℕ). Takes bytes (flat_map put p.0) p.1 × All Fits p.0 × (length p.0 ≡ suc n)) (some_is _ _ more.2)
    (whole, All-cons Fits x more.0.0 t.1 u.1, ap suc u.2)

so_many_again : {A : Type 0} (get : List ℕ → Option (A × List ℕ)) (put : A → List ℕ) (Fits : A → Type 0) → IsField get put Fits
    → (xs : List A) (rest : List ℕ) → All Fits xs → so_many get (length xs) (flat_map put xs ++ rest) ≡ Some (xs, rest)
so_many_again {A} get put Fits field [] rest fits = refl
so_many_again {A} get put Fits field (x ∷ xs) rest fits =
    rw (append_assoc (put x) (flat_map put xs) rest, field.again x (flat_map put xs ++ rest) (All-head Fits x xs fits), so_many_again get put Fits field xs rest (All-tail Fits x xs fits)) refl

-- at most 16 of them
pub listed_field : {A : Type 0} (get : List ℕ → Option (A × List ℕ)) (put : A → List ℕ) (Fits : A → Type 0) → IsField get put Fits
    → IsField (listed_at get) (λ xs. two_bytes (length xs) ++ flat_map put xs) (λ xs. (length xs ≤ 16) × All Fits xs)
listed_field {A} get put Fits field = record {
  takes = λ bytes xs rest are e.
      let count = bind_some (number_at w16 bytes) (λ n. cond (leb n.0 16) (so_many get n.0 n.1) None) (xs, rest) e in
      let n : ℕ = count.0.0 in
      let behind : List ℕ = count.0.1 in
      let few = if_some (leb n 16) (so_many get n behind) (xs, rest) count.2 in
      let t = field16.takes bytes n behind are count.1 in
      let u = so_many_takes get put Fits field n behind xs rest t.0.rest_bytes few.1 in
      let bound : n ≤ 16 = leb-true _ _ few.0 in (
        record {
          parts = t.0.parts ∙ ap (λ (r : List ℕ). two_bytes n ++ r) u.0.parts ∙ sym (append_assoc (two_bytes n) (flat_map put xs) rest)
              ∙ ap (λ (k : ℕ). (two_bytes k ++ flat_map put xs) ++ rest) (sym u.2);
          rest_bytes = u.0.rest_bytes;
        },
        (omega (arith, u.2), u.1),
      );
  again = λ xs rest fits.
      let few : leb (length xs) 16 ≡ true = le-leb _ _ fits.0 in
      let small : length xs < 2 ^ 16 = omega (arith, fits.0) in
      rw (append_assoc (two_bytes (length xs)) (flat_map put xs) rest, field16.again (length xs) (flat_map put xs ++ rest) small, few) (so_many_again get put Fits field xs rest fits.1);
}
  where
    if_some : {X : Type 0} (b : Bool) (r : Option X) (x : X) → cond b r None ≡ Some x → (b ≡ true) × (r ≡ Some x)
    if_some true r x e = (refl, e)
    if_some false r x e = absurd cc

-- ---- a field that takes all of a part

part_of : (bytes inside rest : List ℕ) → AreBytes bytes → bytes ≡ sized inside ++ rest → AreBytes inside
unfolding sized
part_of bytes inside rest are e =
    let behind : drop 2 bytes ≡ inside ++ rest = ap (drop 2) e in
    let front : take (length inside) (drop 2 bytes) ≡ inside = ap (take (length inside)) behind ∙ take_at inside rest (length inside) refl in
    subst AreBytes front (AreBytes-take (length inside) (drop 2 bytes) (AreBytes-drop 2 bytes are))

pub within_field : {A : Type 0} (get : List ℕ → Option (A × List ℕ)) (put : A → List ℕ) (Fits : A → Type 0) → IsField get put Fits
    → IsField (within get) (λ x. sized (put x)) (λ x. Fits x × (length (put x) < 2 ^ 16))
within_field {A} get put Fits field = record {
  takes = λ bytes x rest are e.
      let part = bind_some (counted_at w16 bytes) (λ part. all_of get part.0 (λ x. x) >>= λ x. Some (x, part.1)) (x, rest) e in
      let inside : List ℕ = part.0.0 in
      let read = bind_some (all_of get inside (λ x. x)) (λ x. Some (x, part.0.1)) (x, rest) part.2 in
      let t = sized_field.takes bytes inside part.0.1 are part.1 in
      let inside_are : AreBytes inside = part_of bytes inside part.0.1 are t.0.parts in
      let a = all_of_takes get put Fits field inside (λ x. x) read.0 inside_are read.1 in
      let y : A = a.0 in
      let is : (read.0, part.0.1) ≡ (x, rest) = some_is (read.0, part.0.1) (x, rest) read.2 in
      let whole : Takes bytes (sized (put y)) part.0.1 × (Fits y × (length (put y) < 2 ^ 16)) =
      subst (λ (text : List ℕ). Takes bytes (sized text) part.0.1 × (Fits y × (length text < 2 ^ 16))) a.1 (t.0, (a.2, t.1)) in
      subst (λ (p : A × List ℕ). Takes bytes (sized (put p.0)) p.1 × (Fits p.0 × (length (put p.0) < 2 ^ 16))) is
      (subst (λ (z : A). Takes bytes (sized (put z)) part.0.1 × (Fits z × (length (put z) < 2 ^ 16))) a.3 whole);
  again = λ x rest fits.
      rw (sized_field.again (put x) rest fits.1, all_of_again get put Fits field x (λ x. x) fits.0) refl;
}
