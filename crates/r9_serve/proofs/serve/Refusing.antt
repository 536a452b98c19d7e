-- What bytes are is told by a definition: of what was read, of what was left of an input, and by a status.
use Rattle.std.proofs.Common.{◌≡◌, ◌∙◌, ℕ, List, Option, Some, None, Ok, Err, sym, ap, subst, take}
use Rattle.std.specs.Prelude.{IfSome}
use Rattle.model_text.specs.text.Outcome.{Outcome}
use Rattle.r9_outside.specs.input.Taken.{HasRead}

module _ {X : Type 0} (of : List ℕ → Outcome X) where
  -- the bytes are none, where they are told, and go wrong at this place
  abbrev pub WasBad : (left : Option (List ℕ)) (place : ℕ) → Type 0
  WasBad left place = IfSome left (λ bytes. of bytes ≡ Err place)

  -- the bytes that are read up to a limit tell it
  bad_whole : (limit : ℕ) → ((bytes : List ℕ) → of (take limit bytes) ≡ of bytes) → (left : Option (List ℕ)) (read : List ℕ) (after : Option (List ℕ)) (place : ℕ) → HasRead limit left read after → of read ≡ Err place → WasBad left place
  bad_whole limit first None read after place has bad = tt
  bad_whole limit first (Some all) read after place has bad = sym (first all) ∙ sym (ap of has.0) ∙ bad

  pub was_bad : (limit : ℕ) → ((bytes : List ℕ) → of (take limit bytes) ≡ of bytes) → (left : Option (List ℕ)) (read seen : List ℕ) (after : Option (List ℕ)) (place : ℕ) → HasRead limit left read after → seen ≡ read
      → of seen ≡ Err place → WasBad left place
  was_bad limit first left read seen after place has same bad = bad_whole limit first left read after place has (sym (ap of same) ∙ bad)

  -- bytes are something, or none at one place
  pub not_bad : {A : Type 0} (bytes : List ℕ) (x : X) (place : ℕ) → of bytes ≡ Ok x → of bytes ≡ Err place → A
  not_bad bytes x place is bad = absurd (by (sym is ∙ bad))
    where
      by : Ok x ≡ Err place → ⊥
      by same = cc

  one_place : (bytes : List ℕ) (one other : ℕ) → of bytes ≡ Err one → of bytes ≡ Err other → one ≡ other
  one_place bytes one other is_one is_other =
      let found : Outcome X = Err one in
      let again : Outcome X = Err other in
      let same : found ≡ again = sym is_one ∙ is_other in
      ap refused same
    where
      refused : Outcome X → ℕ
      refused (Ok x) = 0
      refused (Err place) = place

  pub left_not_bad : (left : Option (List ℕ)) (bytes : List ℕ) (x : X) (place : ℕ) → left ≡ Some bytes → of bytes ≡ Ok x → WasBad left place → ⊥
  left_not_bad left bytes x place told is bad = not_bad bytes x place is (subst (λ (l : Option (List ℕ)). WasBad l place) told bad)

  pub left_bad_at : (left : Option (List ℕ)) (bytes : List ℕ) (at place : ℕ) → left ≡ Some bytes → of bytes ≡ Err place → WasBad left at → at ≡ place
  left_bad_at left bytes at place told is bad = one_place bytes at place (subst (λ (l : Option (List ℕ)). WasBad l at) told bad) is
