-- A table of keys where a value comes or goes.
use Rattle.std.proofs.Common.{◌≡◌, ◌≢◌, ℕ, ◌<◌, ◌≤◌, List, [], ◌∷◌, ◌++◌, length, get_or, set, take, Option, Some, None, refl, sym, ap, subst, ◌∙◌, ⊎_elim, arith, eq-eqb, length-append}
use Rattle.std.specs.Prelude.{◌==◌, is_some, IsSome, if◌then◌else◌}
use Rattle.std.specs.Option.{option_and_then}
use Rattle.std.proofs.Math.ListN.{get_or-append, length-set}
use Rattle.std.proofs.lemmas.Bool.{cases_eq, cases_lt, ne_eqb, true≢false}
use Rattle.std.proofs.lemmas.List.{get_or-set_other, get_or-set_same, get_or-take, get_or_past, get_or_push, get_or_read, length-take}
use Rattle.slab.specs.Slab.{Slab, ContainsKey, Updates, get}
use Rattle.r9_locate.specs.numbered.Table.{look, IsTable}

-- a number with a key is one that was given out
pub given_out : (keys : List (Option ℕ)) (n key : ℕ) → get_or keys n None ≡ Some key → n < length keys
given_out keys n key is = grind (arith, get_or_past)

-- one more key
pub pushed_other : (keys : List (Option ℕ)) (k : Option ℕ) (m : ℕ) → m ≢ length keys → get_or (keys ++ k ∷ []) m None ≡ get_or keys m None
pushed_other keys k m other =
    let long = length-append keys (k ∷ []) in
    ⊎_elim
    (λ (within : m < length keys). get_or-append keys (k ∷ []) None m within)
    (λ past. get_or_past (keys ++ k ∷ []) m None (omega (arith, long, past, other)) ∙ sym (get_or_past keys m None past))
    (cases_lt m (length keys))

-- the first of the keys
pub take_key : (keys : List (Option ℕ)) (count n key : ℕ) → get_or (take count keys) n None ≡ Some key → get_or keys n None ≡ Some key
take_key keys count n key is =
    ⊎_elim
    (λ (within : n < count). sym (get_or-take count keys n None within) ∙ is)
    (λ past.
    let none : get_or (take count keys) n None ≡ None = get_or_past (take count keys) n None (let long = length-take count keys in omega (arith, long, past)) in
    absurd cc)
    (cases_lt n count)

module _ {T : Type 0} where
  -- a key with no value is no number's
  pub no_number : (slab : Slab T) (keys : List (Option ℕ)) (key : ℕ) → IsTable slab keys → get slab key ≡ None → (m : ℕ) → get_or keys m None ≢ Some key
  no_number slab keys key table none m is = let there = table.there m key is in absurd (cc)

  -- no other number has the key
  pub not_others : (slab : Slab T) (keys : List (Option ℕ)) (n key : ℕ) → IsTable slab keys → get_or keys n None ≡ Some key → (m : ℕ) → m ≢ n → get_or keys m None ≢ Some key
  not_others slab keys n key table is m differs same = differs (table.apart m n key same is)

  -- a number with a value was given out
  pub look_below : (slab : Slab T) (keys : List (Option ℕ)) (n : ℕ) → IsSome (look slab keys n) → n < length keys
  look_below slab keys n some =
      ⊎_elim
      (λ (within : n < length keys). within)
      (λ past. absurd (true≢false (sym some ∙ ap (λ o. is_some (option_and_then (get slab) o)) (get_or_past keys n None past))))
      (cases_lt n (length keys))

  -- what was read of the table there
  pub key_read : (slab : Slab T) (keys : List (Option ℕ)) (n : ℕ) (slot : Option ℕ) → IsSome (look slab keys n) → slot ≡ get_or keys n slot → get_or keys n None ≡ slot
  key_read slab keys n slot some read = sym (get_or_read keys n slot (look_below slab keys n some) read None)

  -- what is seen where one key and one number change
  pub look_changed : (old new : Slab T) (before after : List (Option ℕ)) (n key : ℕ) (slot : Option T) (value : Option T) → Updates old new key slot
      → ((m : ℕ) → m ≢ n → get_or before m None ≢ Some key) → ((m : ℕ) → m ≢ n → get_or after m None ≡ get_or before m None)
      → look new after n ≡ value → (m : ℕ) → look new after m ≡ (if m == n then value else look old before m)
  look_changed old new before after n key slot value updates differ others own m =
      ⊎_elim
      (λ (same : m ≡ n). ap (look new after) same ∙ own ∙ sym (ap (λ b. if b then value else look old before m) (eq-eqb m n same)))
      (λ (other : m ≢ n).
      ap (option_and_then (get new)) (others m other) ∙ under (get_or before m None) (differ m other)
      ∙ sym (ap (λ b. if b then value else look old before m) (ne_eqb m n other)))
      (cases_eq m n)
    where
      under : (k : Option ℕ) → k ≢ Some key → option_and_then (get new) k ≡ option_and_then (get old) k
      under None differs = refl
      under (Some k) differs = updates.others k (λ same. differs (ap (λ j. Some j) same))

  -- the table stays sound where one number alone had or has the key that changes
  pub table_changed : (old new : Slab T) (before after : List (Option ℕ)) (n key : ℕ) (slot : Option T) → IsTable old before → Updates old new key slot
      → ((m : ℕ) → m ≢ n → get_or before m None ≢ Some key) → ((m : ℕ) → m ≢ n → get_or after m None ≡ get_or before m None)
      → ((own : ℕ) → get_or after n None ≡ Some own → (own ≡ key) × ContainsKey new key) → length after ≤ 4294967295 → IsTable new after
  table_changed old new before after n key slot table updates differ others own most = record {
    there =
        λ m j is.
        ⊎_elim
        (λ (same : m ≡ n).
        let mine = own j (ap (λ (k : ℕ). get_or after k None) (sym same) ∙ is) in
        subst (ContainsKey new) (sym mine.0) mine.1)
        (λ (other : m ≢ n).
        let was : get_or before m None ≡ Some j = sym (others m other) ∙ is in
        let kept : get new j ≡ get old j = updates.others j (λ same. differ m other (was ∙ ap (λ k. Some k) same)) in
        let there = table.there m j was in
        cc)
        (cases_eq m n);
    apart =
        λ m k j is also.
        ⊎_elim
        (λ (same : m ≡ n).
        ⊎_elim
        (λ (too : k ≡ n). same ∙ sym too)
        (λ (other : k ≢ n).
        let mine = own j (ap (λ (i : ℕ). get_or after i None) (sym same) ∙ is) in
        absurd (differ k other (sym (others k other) ∙ also ∙ ap (λ i. Some i) mine.0)))
        (cases_eq k n))
        (λ (other : m ≢ n).
        ⊎_elim
        (λ (too : k ≡ n).
        let mine = own j (ap (λ (i : ℕ). get_or after i None) (sym too) ∙ also) in
        absurd (differ m other (sym (others m other) ∙ is ∙ ap (λ i. Some i) mine.0)))
        (λ (another : k ≢ n). table.apart m k j (sym (others m other) ∙ is) (sym (others k another) ∙ also))
        (cases_eq k n))
        (cases_eq m n);
    most = most;
  }

  pub same_key : (new : Slab T) (place : Option ℕ) (key own : ℕ) (value : T) → get new key ≡ Some value → place ≡ Some key → place ≡ Some own → (own ≡ key) × ContainsKey new key
  same_key new place key own value there is mine = (cc, cc)

  -- a value under a new key, for a number that was given out
  pub table_again : (old new : Slab T) (keys : List (Option ℕ)) (n key : ℕ) (value : T) → IsTable old keys → get old key ≡ None → Updates old new key (Some value) → n < length keys
      → IsTable new (set keys n (Some key))
  table_again old new keys n key value table free updates within =
      table_changed old new keys (set keys n (Some key)) n key (Some value) table updates (λ m _. no_number old keys key table free m)
      (λ m other. get_or-set_other keys n m (Some key) None other)
      (λ own mine. same_key new _ key own value updates.changed (get_or-set_same keys n (Some key) None within) mine)
      (let long = length-set keys n (Some key) in omega (arith, table.most, long))

  pub look_again : (old new : Slab T) (keys : List (Option ℕ)) (n key : ℕ) (value : T) → IsTable old keys → get old key ≡ None → Updates old new key (Some value) → n < length keys
      → (m : ℕ) → look new (set keys n (Some key)) m ≡ (if m == n then Some value else look old keys m)
  look_again old new keys n key value table free updates within =
      look_changed old new keys (set keys n (Some key)) n key (Some value) (Some value) updates (λ m _. no_number old keys key table free m)
      (λ m other. get_or-set_other keys n m (Some key) None other)
      (ap (option_and_then (get new)) (get_or-set_same keys n (Some key) None within) ∙ updates.changed)

  -- and for the next number
  pub table_next : (old new : Slab T) (keys : List (Option ℕ)) (key : ℕ) (value : T) → IsTable old keys → get old key ≡ None → Updates old new key (Some value)
      → length keys < 4294967295 → IsTable new (keys ++ Some key ∷ [])
  table_next old new keys key value table free updates few =
      table_changed old new keys (keys ++ Some key ∷ []) (length keys) key (Some value) table updates (λ m _. no_number old keys key table free m) (pushed_other keys (Some key))
      (λ own mine. same_key new _ key own value updates.changed (get_or_push keys (Some key) None (length keys) refl) mine)
      (let long = length-append keys (Some key ∷ []) in omega (arith, few, long))

  pub look_next : (old new : Slab T) (keys : List (Option ℕ)) (n key : ℕ) (value : T) → IsTable old keys → get old key ≡ None → Updates old new key (Some value) → n ≡ length keys
      → (m : ℕ) → look new (keys ++ Some key ∷ []) m ≡ (if m == n then Some value else look old keys m)
  look_next old new keys n key value table free updates next =
      look_changed old new keys (keys ++ Some key ∷ []) n key (Some value) (Some value) updates (λ m _. no_number old keys key table free m)
      (λ m other. pushed_other keys (Some key) m (λ same. other (same ∙ sym next)))
      (ap (λ m. look new (keys ++ Some key ∷ []) m) next ∙ ap (option_and_then (get new)) (get_or_push keys (Some key) None (length keys) refl) ∙ updates.changed)

  -- the value of a number goes
  pub table_removed : (old new : Slab T) (keys : List (Option ℕ)) (n key : ℕ) → IsTable old keys → get_or keys n None ≡ Some key → Updates old new key None
      → IsTable new (set keys n None)
  table_removed old new keys n key table is updates =
      let none = get_or-set_same keys n None None (given_out keys n key is) in
      table_changed old new keys (set keys n None) n key None table updates (not_others old keys n key table is) (λ m other. get_or-set_other keys n m None None other)
      (λ own mine. absurd cc)
      (let long = length-set keys n None in omega (arith, table.most, long))

  pub look_removed : (old new : Slab T) (keys : List (Option ℕ)) (n key : ℕ) → IsTable old keys → get_or keys n None ≡ Some key → Updates old new key None
      → (m : ℕ) → look new (set keys n None) m ≡ (if m == n then None else look old keys m)
  look_removed old new keys n key table is updates =
      look_changed old new keys (set keys n None) n key None None updates (not_others old keys n key table is)
      (λ m other. get_or-set_other keys n m None None other)
      (ap (option_and_then (get new)) (get_or-set_same keys n None None (given_out keys n key is)))

  -- the numbers from a count on, none of which has a value, go
  pub table_shorter : (slab : Slab T) (keys : List (Option ℕ)) (count : ℕ) → IsTable slab keys → IsTable slab (take count keys)
  table_shorter slab keys count table = record {
    there = λ n key is. table.there n key (take_key keys count n key is);
    apart = λ n m key is also. table.apart n m key (take_key keys count n key is) (take_key keys count m key also);
    most = let long = length-take count keys in omega (arith, table.most, long);
  }

  pub look_shorter : (slab : Slab T) (keys : List (Option ℕ)) (count : ℕ) → ((n : ℕ) → count ≤ n → look slab keys n ≡ None) → (n : ℕ) → look slab (take count keys) n ≡ look slab keys n
  look_shorter slab keys count none n =
      ⊎_elim
      (λ (within : n < count). ap (option_and_then (get slab)) (get_or-take count keys n None within))
      (λ past.
      let long = length-take count keys in
      ap (option_and_then (get slab)) (get_or_past (take count keys) n None (omega (arith, long, past))) ∙ sym (none n past))
      (cases_lt n count)
