-- Screens by number, where one comes, changes or goes.
use Rattle.std.proofs.Common.{◌≡◌, ◌≢◌, ℕ, ◌<◌, ◌≤◌, true, false, List, [], ◌∷◌, ◌++◌, length, get_or, set, Option, Some, None, refl, sym, ap, subst, ◌∙◌, inl, inr, arith, length-append}
use Rattle.std.specs.Prelude.{nat_lt}
use Rattle.std.specs.Option.{option_and_then}
use Rattle.std.proofs.Math.ListN.{get_or-append, get_or-map}
use Rattle.std.proofs.lemmas.Bool.{cases_eq, cases_lt}
use Rattle.std.proofs.lemmas.Bool.Decides.{nat_tests}
use Rattle.std.proofs.lemmas.List.{ext_get_or, get_or-set_other, get_or-set_same, get_or_past, get_or_push, length-map, length-set, map_push, set-get_or}
use Rattle.slab.specs.Slab.{Slab, ContainsKey, Updates, get}
use Rattle.model_draw_parts.specs.images.Book.{with_screen}
use Rattle.model_draw_parts.specs.declared.images.Screen.{Screen}
use Rattle.r9_ids.specs.screens.Screens.{IsTable, screens_of}

-- the screen under a key
abbrev pub look : Slab Screen → Option ℕ → Option Screen
look slab key = option_and_then (get slab) key

-- the screen of a number is the one under its key
pub screen-at : (slab : Slab Screen) (keys : List (Option ℕ)) (n : ℕ) → get_or (screens_of slab keys) n None ≡ look slab (get_or keys n None)
screen-at slab keys n = get_or-map (look slab) keys n None

-- what was found in the table
pub found : (keys shown : List (Option ℕ)) (n : ℕ) (at key : Option ℕ) → shown ≡ keys → at ≡ get_or shown n None → at ≡ key → get_or keys n None ≡ key
found keys shown n at key same is stands = ap (λ (ks : List (Option ℕ)). get_or ks n None) (sym same) ∙ sym is ∙ stands

-- a key with no screen is no number's
pub no-number : (slab : Slab Screen) (keys : List (Option ℕ)) (key : ℕ) → IsTable slab keys → get slab key ≡ None → (m : ℕ) → get_or keys m None ≢ Some key
no-number slab keys key table none m is = let there = table.there m key is in absurd (cc)

-- no other number has the key
pub not-others : (slab : Slab Screen) (keys : List (Option ℕ)) (n key : ℕ) → IsTable slab keys → get_or keys n None ≡ Some key → (m : ℕ) → m ≢ n → get_or keys m None ≢ Some key
not-others slab keys n key table is m differs same = differs (table.apart m n key same is)

-- under the other keys all stays
look-other : (old new : Slab Screen) (key : ℕ) (slot : Option Screen) → Updates old new key slot → (k : Option ℕ) → k ≢ Some key → look new k ≡ look old k
look-other old new key slot updates None differs = refl
look-other old new key slot updates (Some k) differs = updates.others k (λ same. differs (ap Some same))

-- one number's key is another, or its screen is
pub screens-set : (old new : Slab Screen) (keys : List (Option ℕ)) (n key : ℕ) (slot : Option Screen) (k : Option ℕ) → Updates old new key slot
    → ((m : ℕ) → m ≢ n → get_or keys m None ≢ Some key) → n < length keys → screens_of new (set keys n k) ≡ set (screens_of old keys) n (look new k)
screens-set old new keys n key slot k updates differ within =
    let long : length (screens_of old keys) ≡ length keys = length-map keys (look old) in
    ext_get_or None _ _ (length-map (set keys n k) (look new) ∙ length-set keys n k ∙ sym (length-set (screens_of old keys) n (look new k) ∙ long))
    (λ i l. screen-at new (set keys n k) i ∙ elim (cases_eq i n) [
      | inl same ↦ rw (same, get_or-set_same keys n k None within, get_or-set_same (screens_of old keys) n (look new k) None (omega (arith, within, long))) refl
      | inr other ↦
          ap (look new) (get_or-set_other keys n i k None other) ∙ look-other old new key slot updates (get_or keys i None) (differ i other)
          ∙ sym (get_or-set_other (screens_of old keys) n i (look new k) None other ∙ screen-at old keys i)
    ])

-- no number's key is another, nor its screen
screens-same : (old new : Slab Screen) (keys : List (Option ℕ)) (key : ℕ) (slot : Option Screen) → Updates old new key slot → ((m : ℕ) → get_or keys m None ≢ Some key)
    → screens_of new keys ≡ screens_of old keys
screens-same old new keys key slot updates differ =
    ext_get_or None _ _ (length-map keys (look new) ∙ sym (length-map keys (look old)))
    (λ i l. screen-at new keys i ∙ look-other old new key slot updates (get_or keys i None) (differ i) ∙ sym (screen-at old keys i))

-- a number with no screen
pub screens-none : (slab : Slab Screen) (keys : List (Option ℕ)) (n : ℕ) → get_or keys n None ≡ None → screens_of slab keys ≡ set (screens_of slab keys) n None
screens-none slab keys n is =
    sym (ap (set (screens_of slab keys) n) (sym (screen-at slab keys n ∙ ap (look slab) is)) ∙ set-get_or (screens_of slab keys) n None)

-- a number with a key is one that was given out
pub given-out : (keys : List (Option ℕ)) (n key : ℕ) → get_or keys n None ≡ Some key → n < length keys
given-out keys n key is = grind (arith, get_or_past)

with-within : (slab : Slab Screen) (keys : List (Option ℕ)) (n : ℕ) (s : Screen) → n < length keys → set (screens_of slab keys) n (Some s) ≡ with_screen (screens_of slab keys) n s
with-within slab keys n s l =
    let long : length (screens_of slab keys) ≡ length keys = length-map keys (look slab) in
    let there : nat_lt n (length (screens_of slab keys)) ≡ true = grind (arith, nat_tests, l, long) in
    rw there refl

-- another screen under the key of a number
pub put-known : (old new : Slab Screen) (keys : List (Option ℕ)) (n key : ℕ) (s : Screen) → IsTable old keys → get_or keys n None ≡ Some key → Updates old new key (Some s)
    → screens_of new keys ≡ with_screen (screens_of old keys) n s
put-known old new keys n key s table is updates =
    let within = given-out keys n key is in
    ap (screens_of new) (sym (ap (set keys n) (sym is) ∙ set-get_or keys n None))
    ∙ screens-set old new keys n key (Some s) (Some key) updates (not-others old keys n key table is) within
    ∙ ap (set (screens_of old keys) n) updates.changed
    ∙ with-within old keys n s within

-- a screen under a new key, for a number that was given out
pub put-again : (old new : Slab Screen) (keys : List (Option ℕ)) (n key : ℕ) (s : Screen) → IsTable old keys → get old key ≡ None → Updates old new key (Some s) → n < length keys
    → screens_of new (set keys n (Some key)) ≡ with_screen (screens_of old keys) n s
put-again old new keys n key s table free updates within =
    screens-set old new keys n key (Some s) (Some key) updates (λ m _. no-number old keys key table free m) within
    ∙ ap (set (screens_of old keys) n) updates.changed
    ∙ with-within old keys n s within

-- and for the next number
pub put-next : (old new : Slab Screen) (keys : List (Option ℕ)) (n key : ℕ) (s : Screen) → IsTable old keys → get old key ≡ None → Updates old new key (Some s) → length keys ≤ n
    → screens_of new (keys ++ Some key ∷ []) ≡ with_screen (screens_of old keys) n s
put-next old new keys n key s table free updates past =
    let long : length (screens_of old keys) ≡ length keys = length-map keys (look old) in
    let beyond : nat_lt n (length (screens_of old keys)) ≡ false = grind (arith, nat_tests, past, long) in
    map_push (look new) keys (Some key)
    ∙ (λ i. screens-same old new keys key (Some s) updates (no-number old keys key table free) i ++ updates.changed i ∷ [])
    ∙ sym (rw beyond refl)

-- the screen of a number goes
pub removed : (old new : Slab Screen) (keys : List (Option ℕ)) (n key : ℕ) → IsTable old keys → get_or keys n None ≡ Some key → Updates old new key None
    → screens_of new (set keys n None) ≡ set (screens_of old keys) n None
removed old new keys n key table is updates =
    screens-set old new keys n key None None updates (not-others old keys n key table is) (given-out keys n key is)

-- ---- the table stays sound

-- where one number alone had or has the key that changes
table-changed : (old new : Slab Screen) (before after : List (Option ℕ)) (n key : ℕ) (slot : Option Screen) → IsTable old before → Updates old new key slot
    → ((m : ℕ) → m ≢ n → get_or before m None ≢ Some key) → ((m : ℕ) → m ≢ n → get_or after m None ≡ get_or before m None)
    → ((own : ℕ) → get_or after n None ≡ Some own → (own ≡ key) × ContainsKey new key) → length after ≤ 4294967295 → IsTable new after
table-changed old new before after n key slot table updates differ others own most = record {
  there =
      λ m j is. elim (cases_eq m n) [
        | inl same ↦
            let mine = own j (ap (λ (k : ℕ). get_or after k None) (sym same) ∙ is) in
            subst (ContainsKey new) (sym mine.0) mine.1
        | inr other ↦
            let was : get_or before m None ≡ Some j = sym (others m other) ∙ is in
            let kept : get new j ≡ get old j = updates.others j (λ same. differ m other (was ∙ ap Some same)) in
            let there = table.there m j was in
            cc
      ];
  apart =
      λ m k j is also. elim (cases_eq m n) [
        | inl same ↦ elim (cases_eq k n) [
          | inl too ↦ same ∙ sym too
          | inr other ↦
              let mine = own j (ap (λ (i : ℕ). get_or after i None) (sym same) ∙ is) in
              absurd (differ k other (sym (others k other) ∙ also ∙ ap Some mine.0))
        ]
        | inr other ↦ elim (cases_eq k n) [
          | inl too ↦
              let mine = own j (ap (λ (i : ℕ). get_or after i None) (sym too) ∙ also) in
              absurd (differ m other (sym (others m other) ∙ is ∙ ap Some mine.0))
          | inr another ↦ table.apart m k j (sym (others m other) ∙ is) (sym (others k another) ∙ also)
        ]
      ];
  most = most;
}

same-key : (new : Slab Screen) (place : Option ℕ) (key own : ℕ) (s : Screen) → get new key ≡ Some s → place ≡ Some key → place ≡ Some own → (own ≡ key) × ContainsKey new key
same-key new place key own s there is mine = (cc, cc)

pub table-again : (old new : Slab Screen) (keys : List (Option ℕ)) (n key : ℕ) (s : Screen) → IsTable old keys → get old key ≡ None → Updates old new key (Some s) → n < length keys
    → IsTable new (set keys n (Some key))
table-again old new keys n key s table free updates within =
    table-changed old new keys (set keys n (Some key)) n key (Some s) table updates (λ m _. no-number old keys key table free m)
    (λ m other. get_or-set_other keys n m (Some key) None other)
    (λ own mine. same-key new _ key own s updates.changed (get_or-set_same keys n (Some key) None within) mine)
    (let long = length-set keys n (Some key) in omega (arith, table.most, long))

pushed-other : (keys : List (Option ℕ)) (k : Option ℕ) (m : ℕ) → m ≢ length keys → get_or (keys ++ k ∷ []) m None ≡ get_or keys m None
pushed-other keys k m other =
    let long = length-append keys (k ∷ []) in
    elim (cases_lt m (length keys)) [
      | inl within ↦ get_or-append keys (k ∷ []) None m within
      | inr past ↦ get_or_past (keys ++ k ∷ []) m None (omega (arith, long, past, other)) ∙ sym (get_or_past keys m None past)
    ]

pub table-next : (old new : Slab Screen) (keys : List (Option ℕ)) (key : ℕ) (s : Screen) → IsTable old keys → get old key ≡ None → Updates old new key (Some s)
    → length keys < 4294967295 → IsTable new (keys ++ Some key ∷ [])
table-next old new keys key s table free updates few =
    table-changed old new keys (keys ++ Some key ∷ []) (length keys) key (Some s) table updates (λ m _. no-number old keys key table free m) (pushed-other keys (Some key))
    (λ own mine. same-key new _ key own s updates.changed (get_or_push keys (Some key) None (length keys) refl) mine)
    (let long = length-append keys (Some key ∷ []) in omega (arith, few, long))

pub table-removed : (old new : Slab Screen) (keys : List (Option ℕ)) (n key : ℕ) → IsTable old keys → get_or keys n None ≡ Some key → Updates old new key None
    → IsTable new (set keys n None)
table-removed old new keys n key table is updates =
    let none = get_or-set_same keys n None None (given-out keys n key is) in
    table-changed old new keys (set keys n None) n key None table updates (not-others old keys n key table is) (λ m other. get_or-set_other keys n m None None other)
    (λ own mine. absurd cc)
    (let long = length-set keys n None in omega (arith, table.most, long))
