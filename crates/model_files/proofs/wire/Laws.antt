-- What is read is spelled so, and what is spelled so is read, whatever stands behind it.
use Rattle.std.proofs.Common.{◌≡◌, ℕ, ◌+◌, ◌^◌, ◌<◌, ◌≤◌, true, cond, eqb, List, [], ◌∷◌, ◌++◌, length, Option, Some, None, refl, sym, ap, subst, ◌∙◌, arith, inl, inr}
use Rattle.std.specs.Int.{w32}
use Rattle.std.proofs.lemmas.Bool.{eqb-true}
use Rattle.std.proofs.lemmas.Bool.Decides.{nat_tests}
use Rattle.std.proofs.lemmas.List.{append-nil, nil_from_length, take_at, drop_at, length-append}
use Rattle.model_text.specs.text.Number.{AreBytes, two_bytes, four_bytes}
use Rattle.model_text.specs.text.Reading.{number_at}
use Rattle.model_text.proofs.text.Fields.{bind_some, chosen, IsField, pair_field}
use Rattle.model_files.specs.wire.Message.{Stat, T, R}
use Rattle.model_files.specs.wire.Spelling.{message, spelling_of_t, spelling_of_r, stat_bytes, SizesT, SizesR, FitsT, FitsR, SpellsT, SpellsR, SpellsStat}
use Rattle.model_files.specs.wire.Reading.{body_at, reply_body_at, head_at, whole_of, message_of, reply_of, front_of, stat_at}
use Rattle.model_files.proofs.wire.Parts.{some_is, field8, field16, field32}
use Rattle.model_files.proofs.wire.Bodies.{HasBody, TakesBody}
use Rattle.model_files.proofs.wire.Requests.{requests_take, requests_again}
use Rattle.model_files.proofs.wire.Replies.{replies_take, replies_again, stat_field}

head_field : IsField head_at (λ x. four_bytes x.0 ++ (x.1.0 ∷ [] ++ two_bytes x.1.1)) (λ x. (x.0 < 2 ^ 32) × ((x.1.0 < 2 ^ 8) × (x.1.1 < 2 ^ 16)))
head_field = pair_field _ _ _ _ _ _ field32 (pair_field _ _ _ _ _ _ field8 field16)

-- ---- messages of either side

whole_takes : {M : Type 0} (body : ℕ → ℕ → List ℕ → Option M) (spelling : M → List ℕ) (Fits : M → Type 0) → ((kind : ℕ) → TakesBody spelling Fits kind (body kind))
    → (bytes : List ℕ) (m : M) → AreBytes bytes → whole_of body bytes ≡ Some m → Fits m × (bytes ≡ spelling m)
unfolding message
whole_takes {M} body spelling Fits takes bytes m are e =
    let head = bind_some (head_at bytes) (λ head. cond (eqb head.0.0 (length bytes)) (body head.0.1.0 head.0.1.1 head.1) None) m e in
    let size : ℕ = head.0.0.0 in
    let kind : ℕ = head.0.0.1.0 in
    let tag : ℕ = head.0.0.1.1 in
    let behind : List ℕ = head.0.1 in
    let t = head_field.takes bytes head.0.0 behind are head.1 in
    elim (chosen (eqb size (length bytes)) (body kind tag behind) None (Some m) head.2) [
      | inl whole ↦
          let parts : bytes ≡ four_bytes size ++ (kind ∷ (two_bytes tag ++ behind)) = t.0.parts in
          let is : size ≡ length bytes = eqb-true _ _ whole.0 in
          let size_is : size ≡ 7 + length behind = omega (arith, is, ap length parts) in
          let b = takes kind tag behind m t.1.1.1 t.0.rest_bytes (omega (arith, size_is, t.1.0)) whole.1 in
          (b.fits, parts ∙ ap (λ (n : ℕ). four_bytes n ++ (kind ∷ (two_bytes tag ++ behind))) size_is ∙ sym b.spelled)
      | inr other ↦ absurd (cc other.1)
    ]

same_test : (m n : ℕ) → m ≡ n → eqb m n ≡ true
same_test m n e = grind (arith, nat_tests)

whole_again : {M : Type 0} (body : ℕ → ℕ → List ℕ → Option M) (spelling : M → List ℕ) (m : M) → HasBody body spelling m → whole_of body (spelling m) ≡ Some m
unfolding message
whole_again {M} body spelling m b =
    let size : ℕ = 7 + length b.body in
    let text : List ℕ = four_bytes size ++ (b.kind ∷ (two_bytes b.tag ++ b.body)) in
    let head : head_at text ≡ Some ((size, (b.kind, b.tag)), b.body) = head_field.again (size, (b.kind, b.tag)) b.body (b.small, (b.kind_fits, b.tag_fits)) in
    let all : eqb size (length text) ≡ true = same_test size (length text) (omega arith) in
    let read : whole_of body text ≡ Some m = rw (head, all) b.read in
    subst (λ (bytes : List ℕ). whole_of body bytes ≡ Some m) (sym b.spelled) read

-- the size at the front of a text is its length, whatever stands behind it
pub record IsSized (text : List ℕ) : Type 0 where
  pub long : 7 ≤ length text
  pub behind : List ℕ → List ℕ
  pub size : (rest : List ℕ) → number_at w32 (text ++ rest) ≡ Some (length text, behind rest)

pub message_sized : {M : Type 0} (body : ℕ → ℕ → List ℕ → Option M) (spelling : M → List ℕ) (m : M) → HasBody body spelling m → IsSized (spelling m)
unfolding message
message_sized {M} body spelling m b =
    let size : ℕ = 7 + length b.body in
    let inside : List ℕ = b.kind ∷ (two_bytes b.tag ++ b.body) in
    let text : List ℕ = four_bytes size ++ inside in
    let len : length text ≡ size = omega arith in
    let sized : IsSized text = record {
      long = omega arith;
      behind = λ rest. inside ++ rest;
      size = λ rest. field32.again size (inside ++ rest) b.small ∙ ap (λ (n : ℕ). let p : ℕ × List ℕ = (n, inside ++ rest) in Some p) (sym len);
    } in
    subst IsSized (sym b.spelled) sized

-- what is whole is read back from the front of longer bytes
front_again : {M : Type 0} (whole : List ℕ → Option M) (text rest : List ℕ) (m : M) → IsSized text → whole text ≡ Some m → front_of whole (text ++ rest) ≡ Some (m, rest)
front_again whole text rest m sized read =
    rw (sized.size rest, take_at text rest (length text) refl, drop_at text rest (length text) refl, read) refl

-- a sized text at the front of another is all of it
no_longer : (text more : List ℕ) → IsSized text → IsSized (text ++ more) → more ≡ []
no_longer text more short long =
    let first : number_at w32 (text ++ more) ≡ Some (length text, short.behind more) = short.size more in
    let whole : number_at w32 (text ++ more) ≡ Some (length (text ++ more), long.behind []) = ap (number_at w32) (sym (append-nil (text ++ more))) ∙ long.size [] in
    let same : (length text, short.behind more) ≡ (length (text ++ more), long.behind []) = some_is (length text, short.behind more) (length (text ++ more), long.behind []) (sym first ∙ whole) in
    let len : length text ≡ length (text ++ more) = ap (λ (p : ℕ × List ℕ). p.0) same in
    nil_from_length more (omega (arith, len, length-append text more))

-- ---- a client's messages

pub t_takes : (bytes : List ℕ) (m : T) → AreBytes bytes → message_of bytes ≡ Some m → SpellsT bytes m
unfolding message_of
t_takes bytes m are e =
    let w = whole_takes body_at spelling_of_t (λ m. SizesT m × FitsT m) requests_take bytes m are e in
    record { sizes = w.0.0; fits = w.0.1; spelled = w.1 }

pub t_again : (bytes : List ℕ) (m : T) → SpellsT bytes m → message_of bytes ≡ Some m
unfolding message_of
t_again bytes m spells = ap (whole_of body_at) spells.spelled ∙ whole_again body_at spelling_of_t m (requests_again m spells.sizes spells.fits)

pub t_sized : (bytes : List ℕ) (m : T) → SpellsT bytes m → IsSized bytes
t_sized bytes m spells = subst IsSized (sym spells.spelled) (message_sized body_at spelling_of_t m (requests_again m spells.sizes spells.fits))

pub t_front : (bytes rest : List ℕ) (m : T) → SpellsT bytes m → front_of message_of (bytes ++ rest) ≡ Some (m, rest)
t_front bytes rest m spells = front_again message_of bytes rest m (t_sized bytes m spells) (t_again bytes m spells)

pub t_whole : (bytes more : List ℕ) (m n : T) → SpellsT bytes m → SpellsT (bytes ++ more) n → more ≡ []
t_whole bytes more m n short long = no_longer bytes more (t_sized bytes m short) (t_sized (bytes ++ more) n long)

-- ---- replies

pub r_takes : (bytes : List ℕ) (m : R) → AreBytes bytes → reply_of bytes ≡ Some m → SpellsR bytes m
unfolding reply_of
r_takes bytes m are e =
    let w = whole_takes reply_body_at spelling_of_r (λ m. SizesR m × FitsR m) replies_take bytes m are e in
    record { sizes = w.0.0; fits = w.0.1; spelled = w.1 }

pub r_again : (bytes : List ℕ) (m : R) → SpellsR bytes m → reply_of bytes ≡ Some m
unfolding reply_of
r_again bytes m spells = ap (whole_of reply_body_at) spells.spelled ∙ whole_again reply_body_at spelling_of_r m (replies_again m spells.sizes spells.fits)

pub r_sized : (bytes : List ℕ) (m : R) → SpellsR bytes m → IsSized bytes
r_sized bytes m spells = subst IsSized (sym spells.spelled) (message_sized reply_body_at spelling_of_r m (replies_again m spells.sizes spells.fits))

pub r_front : (bytes rest : List ℕ) (m : R) → SpellsR bytes m → front_of reply_of (bytes ++ rest) ≡ Some (m, rest)
r_front bytes rest m spells = front_again reply_of bytes rest m (r_sized bytes m spells) (r_again bytes m spells)

pub r_whole : (bytes more : List ℕ) (m n : R) → SpellsR bytes m → SpellsR (bytes ++ more) n → more ≡ []
r_whole bytes more m n short long = no_longer bytes more (r_sized bytes m short) (r_sized (bytes ++ more) n long)

-- ---- stats

pub stat_takes : (bytes rest : List ℕ) (s : Stat) → AreBytes bytes → stat_at bytes ≡ Some (s, rest) → (text : List ℕ) × SpellsStat text s × (bytes ≡ text ++ rest)
stat_takes bytes rest s are e = let t = stat_field.takes bytes s rest are e in (stat_bytes s, record { sizes = t.1.0; fits = t.1.1; spelled = refl }, t.0.parts)

pub stat_front : (bytes rest : List ℕ) (s : Stat) → SpellsStat bytes s → stat_at (bytes ++ rest) ≡ Some (s, rest)
stat_front bytes rest s spells = ap (λ (text : List ℕ). stat_at (text ++ rest)) spells.spelled ∙ stat_field.again s rest (spells.sizes, spells.fits)

pub stat_whole : (bytes more : List ℕ) (s u : Stat) → SpellsStat bytes s → SpellsStat (bytes ++ more) u → more ≡ []
stat_whole bytes more s u short long =
    let first : stat_at (bytes ++ more) ≡ Some (s, more) = stat_front bytes more s short in
    let all : stat_at (bytes ++ more) ≡ Some (u, []) = ap stat_at (sym (append-nil (bytes ++ more))) ∙ stat_front (bytes ++ more) [] u long in
    ap (λ (p : Stat × List ℕ). p.1) (some_is (s, more) (u, []) (sym first ∙ all))

-- less than size, kind and tag is no message
pub short_none : (bytes : List ℕ) → length bytes < 7 → message_of bytes ≡ None
unfolding message_of
short_none [] short = refl
short_none (a ∷ []) short = refl
short_none (a ∷ b ∷ []) short = refl
short_none (a ∷ b ∷ c ∷ []) short = refl
short_none (a ∷ b ∷ c ∷ d ∷ []) short = refl
short_none (a ∷ b ∷ c ∷ d ∷ e ∷ []) short = refl
short_none (a ∷ b ∷ c ∷ d ∷ e ∷ f ∷ []) short = refl
short_none (a ∷ b ∷ c ∷ d ∷ e ∷ f ∷ g ∷ bytes) short = absurd (omega arith)

-- no bytes spell two messages
pub same_message : (bytes : List ℕ) (m n : T) → SpellsT bytes m → SpellsT bytes n → m ≡ n
same_message bytes m n first second = some_is m n (sym (t_again bytes m first) ∙ t_again bytes n second)
