-- Which letters begin a message with a list: N, n, s, t and x, and no others.
use Rattle.std.proofs.Common.{◌≡◌, ℕ, Bool, true, false, List, [], ◌∷◌, Option, Some, None, refl, subst, ◌∙◌}
use Rattle.std.specs.Prelude.{◌==◌, if◌then◌else◌, IfSome}
use Rattle.std.specs.List.{list_any}
use Rattle.std.specs.Option.{option_map, option_map_or}
use Rattle.std.proofs.lemmas.Bool.{eqb-true}
use Rattle.model_text.specs.text.Reading.{◌>>=◌}
use Rattle.model_draw_parts.specs.dmsg.Message.{Message}
use Rattle.model_draw_parts.specs.dmsg.Reading.{read_as, Fields, IsMessage, IsShort, IsUnknown, IsUnsupported, table, fields_in, is_left_out, rowless, spelled_by, behind, low_b, up_a, low_c, low_d, up_d, low_f, up_f, low_i, low_l, up_n, low_n, low_o, up_o, low_r, low_s, up_s, low_t, low_v, low_x, low_y}
use Rattle.r9_dmsg.specs.Listed.{has_list, listed_in}

-- the letters N n s t x
abbrev pub is_listed : ℕ → Bool
is_listed letter = list_any (λ c. c == letter) (78 ∷ 110 ∷ 115 ∷ 116 ∷ 120 ∷ [])

-- each message of these fields has a list, or none has
abbrev pub Gives : Bool → Fields → Type 0
Gives b fields = (bytes : List ℕ) → IfSome (fields bytes) (λ x. has_list x.0 ≡ b)

gives : {A : Type 0} (b : Bool) (field : List ℕ → Option (A × List ℕ)) (make : A → Message) → ((a : A) → has_list (make a) ≡ b) → Gives b (read_as field make)
gives {A = A} b field make each bytes = made (field bytes)
  where
    made : (o : Option (A × List ℕ)) → IfSome {T = Message × List ℕ} (o >>= λ x. Some (make x.0, x.1)) (λ x. has_list x.0 ≡ b)
    made None = tt
    made (Some x) = each x.0

abbrev TableGives : List (ℕ × Fields) → Type 0
TableGives [] = Unit {0}
TableGives (row ∷ rows) = Gives (is_listed row.0) row.1 × TableGives rows

and : {P Q : Type 0} → P → Q → P × Q
and p q = (p, q)

table_gives : TableGives table
unfolding low_b up_a low_c low_d up_d low_f up_f low_i low_l up_n low_n low_o up_o low_r low_s up_s low_t low_v low_x low_y
table_gives =
    and (gives _ _ _ (λ _. refl))
    (and (gives _ _ _ (λ _. refl))
    (and (gives _ _ _ (λ _. refl))
    (and (gives _ _ _ (λ _. refl))
    (and (gives _ _ _ (λ _. refl))
    (and (gives _ _ _ (λ _. refl))
    (and (gives _ _ _ (λ _. refl))
    (and (gives _ _ _ (λ _. refl))
    (and (gives _ _ _ (λ _. refl))
    (and (gives _ _ _ (λ _. refl))
    (and (gives _ _ _ (λ _. refl))
    (and (gives _ _ _ (λ _. refl))
    (and (gives _ _ _ (λ _. refl))
    (and (gives _ _ _ (λ _. refl))
    (and (gives _ _ _ (λ _. refl))
    (and (gives _ _ _ (λ _. refl))
    (and (gives _ _ _ (λ _. refl))
    (and (λ _. refl)
    (and (gives _ _ _ (λ _. refl))
    (and (gives _ _ _ (λ _. refl)) tt)))))))))))))))))))

same_fields : (fields other : Fields) → Some fields ≡ Some other → fields ≡ other
same_fields fields other e = cc

row_gives : (rows : List (ℕ × Fields)) (letter : ℕ) (fields : Fields) → TableGives rows → fields_in rows letter ≡ Some fields → Gives (is_listed letter) fields
row_gives [] letter fields each e = absurd cc
row_gives (row ∷ rows) letter fields each e = chosen (row.0 == letter) refl (row_gives rows letter fields each.1) e
  where
    chosen : (b : Bool) → (row.0 == letter) ≡ b → (fields_in rows letter ≡ Some fields → Gives (is_listed letter) fields) → (if b then Some row.1 else fields_in rows letter) ≡ Some fields → Gives (is_listed letter) fields
    chosen true is below e =
        let P : Fields → Type 0 = Gives (is_listed letter) in
        let Q : ℕ → Type 0 = λ k. Gives (is_listed k) row.1 in
        subst P (same_fields row.1 fields e) (subst Q (eqb-true row.0 letter is) each.0)
    chosen false is below e = below e

pub letter_gives : (letter : ℕ) (fields : Fields) → fields_in table letter ≡ Some fields → Gives (is_listed letter) fields
letter_gives letter fields e = row_gives table letter fields table_gives e

-- what the fields of such a letter are, told by what was read of them
pub listed_there : (letter : ℕ) (fields : Fields) (read : Option Message) (bytes : List ℕ) → fields_in table letter ≡ Some fields → is_listed letter ≡ true
    → read ≡ option_map (λ x. x.0) (fields bytes) → read ≡ listed_in (behind letter bytes)
unfolding behind
listed_there letter fields read bytes row is e = rw row (e ∙ listed (fields bytes) (letter_gives letter fields row bytes))
  where
    listed : (o : Option (Message × List ℕ)) → IfSome o (λ x. has_list x.0 ≡ is_listed letter) → option_map (λ x. x.0) o ≡ listed_in (option_map_or (λ x. IsMessage x.0 x.1) o IsShort)
    listed None h = refl
    listed (Some x) h = rw (h ∙ is) refl

rowless_listed : (b : Bool) → ◌≡◌ {A = Option Message} None (listed_in (if b then IsUnsupported else IsUnknown))
rowless_listed true = refl
rowless_listed false = refl

-- no other letter
pub unlisted : (letter : ℕ) (bytes : List ℕ) → is_listed letter ≡ false → None ≡ listed_in (behind letter bytes)
unfolding behind
unlisted letter bytes is = by (fields_in table letter) refl
  where
    unread : (o : Option (Message × List ℕ)) → IfSome o (λ x. has_list x.0 ≡ is_listed letter) → ◌≡◌ {A = Option Message} None (listed_in (option_map_or (λ x. IsMessage x.0 x.1) o IsShort))
    unread None h = refl
    unread (Some x) h = rw (h ∙ is) refl

    by : (o : Option Fields) → fields_in table letter ≡ o → ◌≡◌ {A = Option Message} None (listed_in (option_map_or (λ fields. spelled_by fields bytes) o (rowless letter)))
    by None e = rowless_listed (is_left_out letter)
    by (Some fields) e = unread (fields bytes) (letter_gives letter fields e bytes)
