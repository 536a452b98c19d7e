-- Ties that are kept, and what stays so where one comes or goes.
use Rattle.std.proofs.Common.{◌≡◌, ℕ, ◌+◌, ◌<◌, Bool, true, false, cond, List, [], ◌∷◌, ◌++◌, Option, Some, None, refl, sym, ap, subst, ◌∙◌, arith}
use Rattle.std.specs.Prelude.{◌==◌, ◌&&◌, ◌||◌, is_some, IsSomeAnd, MatchOption, not, find, filter, map, nat_lt, if◌then◌else◌}
use Rattle.std.specs.Option.{option_map}
use Rattle.std.specs.List.{list_any}
use Rattle.std.specs.Str.{bytes_eq}
use Rattle.std.specs.Cmp.Lexicographic.{bytes_decides, nat_list_eq_equiv}
use Rattle.std.proofs.lemmas.Bool.Decides.{nat_tests}
use Rattle.r9_ids.specs.declared.sorted.key.Key.{Key}
use Rattle.r9_ids.specs.sorted.Order.{key, comes_before, is_key}
use Rattle.r9_ids.specs.sorted.Rows.{has_key, put_in_order, without_key}
use Rattle.r9_ids.proofs.sorted.Order.{one-before, one-is, is-same, same-is}
use Rattle.r9_ids.proofs.sorted.Ascending.{miss-head, miss-tail, none-kept}
use Rattle.r9_ids.proofs.sorted.Laws.{found-put, found-without, found-key, none-in-filter}
use Rattle.model_draw_parts.specs.declared.images.Tie.{Tie}
use Rattle.r9_ids.specs.declared.ties.rows.Numbered.{Numbered}
use Rattle.r9_ids.specs.declared.ties.rows.Owned.{Owned}
use Rattle.r9_ids.specs.ties.Rows.{number_key, owned_key, numbered, owned}
use Rattle.r9_ids.specs.ties.Kept.{Each, AreOnce, Holds, gathered}
use Rattle.r9_ids.proofs.ties.Lists.{true-false, none-all, all-none, all-found, found-passes, all-to, all-filter, all-more, found-more, found-kept, found-gone}

eq-same : (a b : ℕ) → (a == b) ≡ true → a ≡ b
eq-same a b h = grind (arith, nat_tests)

eq-refl : (a : ℕ) → (a == a) ≡ true
eq-refl a = grind (arith, nat_tests)

eq-other : (a b : ℕ) → (a == b) ≡ false → (b == a) ≡ false
eq-other a b h = grind (arith, nat_tests)

eq-join : (a b n : ℕ) → (a == n) ≡ true → (b == n) ≡ true → (a == b) ≡ true
eq-join a b n h k = grind (arith, nat_tests)

eq-chain : (t e i n : ℕ) → t ≡ n → (t == i) ≡ true → (e == i) ≡ true → (e == n) ≡ true
eq-chain t e i n h k l = grind (arith, nat_tests)

same-number : (a b : ℕ) → a ≡ b → (a == b) ≡ true
same-number a b h = grind (arith, nat_tests)

eq-less : (a b : ℕ) → a < b → (a == b) ≡ false
eq-less a b h = grind (arith, nat_tests)

lt-less : (a b : ℕ) → a < b → nat_lt b a ≡ false
lt-less a b h = grind (arith, nat_tests)

bytes-other : (a b : List ℕ) → bytes_eq a b ≡ false → bytes_eq b a ≡ false
bytes-other a b h = nat_list_eq_equiv.symm b a ∙ h

-- ---- the list from the rows

each-found : (x : Tie) (xs ys : List Tie) → Each (λ y. (y.number == x.number) ≡ false) ys → Each (λ y. find (λ e. e.number == y.number) xs ≡ Some y) ys → Each (λ y. find (λ e. e.number == y.number) (x ∷ xs) ≡ Some y) ys
each-found x xs [] other found = tt
each-found x xs (y ∷ ys) other found = (rw (eq-other y.number x.number other.0) found.0, each-found x xs ys other.1 found.1)

all-once : (ties : List Tie) → AreOnce ties → Each (λ t. find (λ e. e.number == t.number) ties ≡ Some t) ties
all-once [] once = tt
all-once (t ∷ ts) once = (rw (eq-refl t.number) refl, each-found t ts ts (none-all (λ (e : Tie). e.number == t.number) ts once.0) (all-once ts once.2))

gather : (store : ℕ → Option Tie) (ties : List Tie) → Each (λ t. store t.number ≡ Some t) ties → gathered store (map numbered ties) ≡ ties
gather store [] h = refl
gather store (t ∷ ts) h = rw h.0 (ap (λ (us : List Tie). t ∷ us) (gather store ts h.1))

pub regather : (ties : List Tie) (order : List Numbered) (owners : List Owned) (store : ℕ → Option Tie) (names : List ℕ → Option ℕ) (next : ℕ) → Holds ties order owners store names next → gathered store order ≡ ties
regather ties order owners store names next h =
    ap (gathered store) h.in_order
    ∙ gather store ties (all-to (λ t. find (λ e. e.number == t.number) ties ≡ Some t) (λ t. store t.number ≡ Some t) (λ t found. h.by_number t.number ∙ found) ties (all-once ties h.once))

pub rehold : (ties : List Tie) (order : List Numbered) (owners : List Owned) (store : ℕ → Option Tie) (names : List ℕ → Option ℕ) (next : ℕ) → Holds ties order owners store names next → Holds (gathered store order) order owners store names next
rehold ties order owners store names next h = subst (λ (us : List Tie). Holds us order owners store names next) (sym (regather ties order owners store names next h)) h

-- the same where each part is as before
pub same-holds : (ties : List Tie) (order order_new : List Numbered) (owners owners_new : List Owned) (store store_new : ℕ → Option Tie) (names names_new : List ℕ → Option ℕ) (next : ℕ)
    → Holds ties order owners store names next → order_new ≡ order → owners_new ≡ owners → ((n : ℕ) → store_new n ≡ store n) → ((q : List ℕ) → names_new q ≡ names q) → Holds ties order_new owners_new store_new names_new next
same-holds ties order order_new owners owners_new store store_new names names_new next h o w s m = record {
  in_order = o ∙ h.in_order;
  by_number = λ n. s n ∙ h.by_number n;
  by_name = λ q. m q ∙ h.by_name q;
  by_owner = λ k. ap (find (has_key owned_key k)) w ∙ h.by_owner k;
  once = h.once;
  below = h.below;
}

pub none-hold : Holds [] [] [] (λ _. None) (λ _. None) 0
none-hold = record { in_order = refl; by_number = λ _. refl; by_name = λ _. refl; by_owner = λ _. refl; once = tt; below = tt }

-- ---- a tie more

put-end : (t : Tie) (ties : List Tie) → Each (λ e. e.number < t.number) ties → put_in_order number_key (numbered t) (map numbered ties) ≡ map numbered (ties ++ t ∷ [])
put-end t [] h = refl
put-end t (e ∷ es) h =
    let later : comes_before (number_key (numbered t)) (number_key (numbered e)) ≡ false = one-before t.number e.number ∙ lt-less e.number t.number h.0 in
    rw later (ap (λ (rows : List Numbered). numbered e ∷ rows) (put-end t es h.1))

once-more : (t : Tie) (ties : List Tie) → AreOnce ties → find (λ e. e.number == t.number) ties ≡ None → find (λ e. bytes_eq e.name t.name) ties ≡ None → AreOnce (ties ++ t ∷ [])
once-more t [] once number name = (refl, refl, tt)
once-more t (x ∷ xs) once number name =
    let numbers = none-all (λ (e : Tie). e.number == t.number) (x ∷ xs) number in
    let names = none-all (λ (e : Tie). bytes_eq e.name t.name) (x ∷ xs) name in (
      all-none (λ (e : Tie). e.number == x.number) (xs ++ t ∷ []) (all-more (λ e. (e.number == x.number) ≡ false) xs t (none-all (λ (e : Tie). e.number == x.number) xs once.0) (eq-other x.number t.number numbers.0)),
      all-none (λ (e : Tie). bytes_eq e.name x.name) (xs ++ t ∷ []) (all-more (λ e. bytes_eq e.name x.name ≡ false) xs t (none-all (λ (e : Tie). bytes_eq e.name x.name) xs once.1) (bytes-other x.name t.name names.0)),
      once-more t xs once.2 (all-none (λ (e : Tie). e.number == t.number) xs numbers.1) (all-none (λ (e : Tie). bytes_eq e.name t.name) xs names.1),
    )

no-number : (n : ℕ) (ties : List Tie) → Each (λ e. e.number < n) ties → find (λ e. e.number == n) ties ≡ None
no-number n ties h = all-none (λ (e : Tie). e.number == n) ties (all-to (λ e. e.number < n) (λ e. (e.number == n) ≡ false) (λ e less. eq-less e.number n less) ties h)

pub no-owner : (t : Tie) (ties : List Tie) → Each (λ e. e.number < t.number) ties → find (λ e. is_key (owned_key (owned e)) (owned_key (owned t))) ties ≡ None
no-owner t ties h = all-none (λ (e : Tie). is_key (owned_key (owned e)) (owned_key (owned t))) ties (all-to (λ e. e.number < t.number) (λ e. is_key (owned_key (owned e)) (owned_key (owned t)) ≡ false) (λ e less. by e less (is_key (owned_key (owned e)) (owned_key (owned t))) refl) ties h)
  where
    by : (e : Tie) → e.number < t.number → (b : Bool) → is_key (owned_key (owned e)) (owned_key (owned t)) ≡ b → b ≡ false
    by e less true is = let same : e.number ≡ t.number = ap (λ (k : Key). k.third) (is-same (owned_key (owned e)) (owned_key (owned t)) is) in absurd (omega (arith, less, same))
    by e less false is = refl

number-of : (b : Bool) (t : Tie) (o : Option Tie) → option_map (λ (e : Tie). e.number) (cond b (Some t) o) ≡ cond b (Some t.number) (option_map (λ (e : Tie). e.number) o)
number-of true t o = refl
number-of false t o = refl

owned-of : (b : Bool) (t : Tie) (o : Option Tie) → option_map owned (cond b (Some t) o) ≡ cond b (Some (owned t)) (option_map owned o)
owned-of true t o = refl
owned-of false t o = refl

pub pushed : (t : Tie) (ties : List Tie) (order order_new : List Numbered) (owners owners_new : List Owned) (store store_new : ℕ → Option Tie) (names names_new : List ℕ → Option ℕ)
    → Holds ties order owners store names t.number → find (λ e. bytes_eq e.name t.name) ties ≡ None
    → order_new ≡ put_in_order number_key (numbered t) order → owners_new ≡ put_in_order owned_key (owned t) owners
    → ((n : ℕ) → store_new n ≡ cond (t.number == n) (Some t) (store n)) → ((q : List ℕ) → names_new q ≡ cond (bytes_eq t.name q) (Some t.number) (names q))
    → Holds (ties ++ t ∷ []) order_new owners_new store_new names_new (t.number + 1)
pushed t ties order order_new owners owners_new store store_new names names_new h fresh o w s m = record {
  in_order = o ∙ ap (put_in_order number_key (numbered t)) h.in_order ∙ put-end t ties h.below;
  by_number = λ n.
      s n ∙ ap (λ (r : Option Tie). cond (t.number == n) (Some t) r) (h.by_number n)
      ∙ sym (found-more (λ (e : Tie). e.number == n) ties t (λ is. let same : t.number ≡ n = eq-same t.number n is in subst (λ (i : ℕ). find (λ (e : Tie). e.number == i) ties ≡ None) same (no-number t.number ties h.below)));
  by_name = λ q.
      m q ∙ ap (λ (r : Option ℕ). cond (bytes_eq t.name q) (Some t.number) r) (h.by_name q)
      ∙ sym (ap (option_map (λ (e : Tie). e.number)) (found-more (λ (e : Tie). bytes_eq e.name q) ties t (λ is. let same : t.name ≡ q = (bytes_decides t.name q).0 is in subst (λ (r : List ℕ). find (λ (e : Tie). bytes_eq e.name r) ties ≡ None) same fresh)) ∙ number-of (bytes_eq t.name q) t _);
  by_owner = λ k.
      ap (find (has_key owned_key k)) w
      ∙ found-put owned_key k (owned t) owners (h.by_owner (owned_key (owned t)) ∙ ap (option_map owned) (no-owner t ties h.below))
      ∙ ap (λ (r : Option Owned). if is_key (owned_key (owned t)) k then Some (owned t) else r) (h.by_owner k)
      ∙ sym (ap (option_map owned) (found-more (λ (e : Tie). is_key (owned_key (owned e)) k) ties t (λ is. let same : owned_key (owned t) ≡ k = is-same (owned_key (owned t)) k is in subst (λ (j : Key). find (λ (e : Tie). is_key (owned_key (owned e)) j) ties ≡ None) same (no-owner t ties h.below))) ∙ owned-of (is_key (owned_key (owned t)) k) t _);
  once = once-more t ties h.once (no-number t.number ties h.below) fresh;
  below = all-more (λ e. e.number < t.number + 1) ties t (all-to (λ e. e.number < t.number) (λ e. e.number < t.number + 1) (λ e less. omega (arith, less)) ties h.below) (omega arith);
}

-- ---- a tie less

-- the tie of a number is the only one, so that what passes a test as it does is it
names-once : (n : ℕ) (t : Tie) (ties : List Tie) (q : List ℕ) → AreOnce ties → find (λ e. e.number == n) ties ≡ Some t → Each (λ e. bytes_eq t.name q ≡ true → bytes_eq e.name q ≡ true → (e.number == n) ≡ true) ties
names-once n t [] q once found = tt
names-once n t (x ∷ xs) q once found = by (names-once n t xs q once.2) (x.number == n) refl found
  where
    by : (find (λ e. e.number == n) xs ≡ Some t → Each (λ e. bytes_eq t.name q ≡ true → bytes_eq e.name q ≡ true → (e.number == n) ≡ true) xs) → (b : Bool) → (x.number == n) ≡ b → cond b (Some x) (find (λ e. e.number == n) xs) ≡ Some t
        → (bytes_eq t.name q ≡ true → bytes_eq x.name q ≡ true → (x.number == n) ≡ true) × Each (λ e. bytes_eq t.name q ≡ true → bytes_eq e.name q ≡ true → (e.number == n) ≡ true) xs
    by more true at found =
        let same : x ≡ t = cc in (
          λ a b. at,
          all-to (λ e. bytes_eq e.name x.name ≡ false) (λ e. bytes_eq t.name q ≡ true → bytes_eq e.name q ≡ true → (e.number == n) ≡ true)
              (λ e other a b. absurd (true-false (sym ((bytes_decides e.name x.name).1 ((bytes_decides e.name q).0 b ∙ sym ((bytes_decides t.name q).0 a) ∙ ap (λ (u : Tie). u.name) (sym same))) ∙ other)))
              xs (none-all (λ (e : Tie). bytes_eq e.name x.name) xs once.1),
        )
    by more false at found = (
      λ a b. absurd (true-false (sym ((bytes_decides t.name x.name).1 ((bytes_decides t.name q).0 a ∙ sym ((bytes_decides x.name q).0 b))) ∙ all-found (λ e. bytes_eq e.name x.name ≡ false) (λ (e : Tie). e.number == n) xs t (none-all (λ (e : Tie). bytes_eq e.name x.name) xs once.1) found)),
      more found,
    )

-- a test tells of what has the number what it tells of the tie of the number
pub same-told : (p : Tie → Bool) (told : Bool) (n : ℕ) (t : Tie) (ties : List Tie) → AreOnce ties → find (λ e. e.number == n) ties ≡ Some t → p t ≡ told → Each (λ e. (e.number == n) ≡ true → p e ≡ told) ties
same-told p told n t [] once found is = tt
same-told p told n t (x ∷ xs) once found is = by (same-told p told n t xs once.2) (x.number == n) refl found
  where
    by : (find (λ e. e.number == n) xs ≡ Some t → p t ≡ told → Each (λ e. (e.number == n) ≡ true → p e ≡ told) xs) → (b : Bool) → (x.number == n) ≡ b → cond b (Some x) (find (λ e. e.number == n) xs) ≡ Some t
        → ((x.number == n) ≡ true → p x ≡ told) × Each (λ e. (e.number == n) ≡ true → p e ≡ told) xs
    by more true at found =
        let same : x ≡ t = cc in (
          λ yes_at. ap p same ∙ is,
          all-to (λ e. (e.number == x.number) ≡ false) (λ e. (e.number == n) ≡ true → p e ≡ told)
              (λ e other that. absurd (true-false (sym (eq-join e.number x.number n that at) ∙ other)))
              xs (none-all (λ (e : Tie). e.number == x.number) xs once.0),
        )
    by more false at found = (λ that. absurd (true-false (sym that ∙ at)), more found is)

pub found-less : (p : Tie → Bool) (n : ℕ) (t : Tie) (ties : List Tie) → AreOnce ties → find (λ e. e.number == n) ties ≡ Some t → Each (λ e. p t ≡ true → p e ≡ true → (e.number == n) ≡ true) ties
    → find p (filter (λ e. not (e.number == n)) ties) ≡ cond (p t) None (find p ties)
found-less p n t ties once found only = by (p t) refl
  where
    by : (b : Bool) → p t ≡ b → find p (filter (λ e. not (e.number == n)) ties) ≡ cond b None (find p ties)
    by true is = found-gone p (λ (e : Tie). e.number == n) ties (all-to (λ e. p t ≡ true → p e ≡ true → (e.number == n) ≡ true) (λ e. p e ≡ true → (e.number == n) ≡ true) (λ e h. h is) ties only)
    by false is = found-kept p (λ (e : Tie). e.number == n) ties (same-told p false n t ties once found is)

rows-less : (n : ℕ) (ties : List Tie) → without_key number_key (key n 0 0) (map numbered ties) ≡ map numbered (filter (λ e. not (e.number == n)) ties)
rows-less n [] = refl
rows-less n (t ∷ ts) =
    ap (λ (b : Bool). cond (not b) (numbered t ∷ without_key number_key (key n 0 0) (map numbered ts)) (without_key number_key (key n 0 0) (map numbered ts))) (one-is t.number n)
    ∙ by (t.number == n) (rows-less n ts)
  where
    by : (b : Bool) → without_key number_key (key n 0 0) (map numbered ts) ≡ map numbered (filter (λ e. not (e.number == n)) ts)
        → cond (not b) (numbered t ∷ without_key number_key (key n 0 0) (map numbered ts)) (without_key number_key (key n 0 0) (map numbered ts)) ≡ map numbered (cond (not b) (t ∷ filter (λ e. not (e.number == n)) ts) (filter (λ e. not (e.number == n)) ts))
    by true more = more
    by false more = ap (λ (rows : List Numbered). numbered t ∷ rows) more

once-less : (p : Tie → Bool) (ties : List Tie) → AreOnce ties → AreOnce (filter p ties)
once-less p [] once = tt
once-less p (t ∷ ts) once = by (p t) (once-less p ts once.2)
  where
    by : (b : Bool) → AreOnce (filter p ts) → AreOnce (cond b (t ∷ filter p ts) (filter p ts))
    by true more = (
      all-none (λ (e : Tie). e.number == t.number) (filter p ts) (all-filter (λ e. (e.number == t.number) ≡ false) p ts (none-all (λ (e : Tie). e.number == t.number) ts once.0)),
      all-none (λ (e : Tie). bytes_eq e.name t.name) (filter p ts) (all-filter (λ e. bytes_eq e.name t.name ≡ false) p ts (none-all (λ (e : Tie). bytes_eq e.name t.name) ts once.1)),
      more,
    )
    by false more = more

none-of : {X : Type 0} (f : Tie → X) (b : Bool) (o : Option Tie) → option_map f (cond b None o) ≡ cond b None (option_map f o)
none-of f true o = refl
none-of f false o = refl

each : (P : Tie → Type 0) → ((t : Tie) → P t) → (ties : List Tie) → Each P ties
each P h [] = tt
each P h (t ∷ ts) = (h t, each P h ts)

removed : (n : ℕ) (t : Tie) (ties : List Tie) (order order_new : List Numbered) (owners owners_new : List Owned) (store store_new : ℕ → Option Tie) (names names_new : List ℕ → Option ℕ) (next : ℕ)
    → Holds ties order owners store names next → store n ≡ Some t
    → order_new ≡ without_key number_key (key n 0 0) order → owners_new ≡ without_key owned_key (owned_key (owned t)) owners
    → ((m : ℕ) → store_new m ≡ cond (n == m) None (store m)) → ((q : List ℕ) → names_new q ≡ cond (bytes_eq t.name q) None (names q))
    → Holds (filter (λ e. not (e.number == n)) ties) order_new owners_new store_new names_new next
removed n t ties order order_new owners owners_new store store_new names names_new next h there o w s m =
    let found : find (λ e. e.number == n) ties ≡ Some t = sym (h.by_number n) ∙ there in
    let number : t.number ≡ n = eq-same t.number n (found-passes (λ (e : Tie). e.number == n) ties t found) in
    record {
      in_order = o ∙ ap (without_key number_key (key n 0 0)) h.in_order ∙ rows-less n ties;
      by_number = λ i.
          s i ∙ ap (λ (r : Option Tie). cond (n == i) None r) (h.by_number i)
          ∙ sym (found-less (λ (e : Tie). e.number == i) n t ties h.once found (each (λ e. (t.number == i) ≡ true → (e.number == i) ≡ true → (e.number == n) ≡ true) (λ e a b. eq-chain t.number e.number i n number a b) ties)
          ∙ ap (λ (k : ℕ). cond (k == i) None (find (λ e. e.number == i) ties)) number);
      by_name = λ q.
          m q ∙ ap (λ (r : Option ℕ). cond (bytes_eq t.name q) None r) (h.by_name q)
          ∙ sym (ap (option_map (λ (e : Tie). e.number)) (found-less (λ (e : Tie). bytes_eq e.name q) n t ties h.once found (names-once n t ties q h.once found)) ∙ none-of (λ (e : Tie). e.number) (bytes_eq t.name q) _);
      by_owner = λ k.
          ap (find (has_key owned_key k)) w ∙ found-without owned_key (owned_key (owned t)) k owners
          ∙ ap (λ (r : Option Owned). if is_key (owned_key (owned t)) k then None else r) (h.by_owner k)
          ∙ sym (ap (option_map owned) (found-less (λ (e : Tie). is_key (owned_key (owned e)) k) n t ties h.once found
          (each (λ e. is_key (owned_key (owned t)) k ≡ true → is_key (owned_key (owned e)) k ≡ true → (e.number == n) ≡ true) (λ e a b. same-number e.number n (ap (λ (j : Key). j.third) (is-same (owned_key (owned e)) k b ∙ sym (is-same (owned_key (owned t)) k a)) ∙ number)) ties))
          ∙ none-of owned (is_key (owned_key (owned t)) k) _);
      once = once-less (λ e. not (e.number == n)) ties h.once;
      below = all-filter (λ e. e.number < next) (λ e. not (e.number == n)) ties h.below;
    }

-- the same where no tie may have the number
pub ended : {P : Type 0} (n : ℕ) (ties : List Tie) (order order_new : List Numbered) (owners owners_new : List Owned) (store store_new : ℕ → Option Tie) (names names_new : List ℕ → Option ℕ) (next : ℕ)
    → Holds ties order owners store names next
    → MatchOption (store n) (order_new ≡ order) (λ t. order_new ≡ without_key number_key (key n 0 0) order)
    → MatchOption (store n) (owners_new ≡ owners) (λ t. owners_new ≡ without_key owned_key (key t.client t.id t.number) owners)
    → ((m : ℕ) → store_new m ≡ cond (n == m) None (store m))
    → (P → (q : List ℕ) → names_new q ≡ names q) → MatchOption (store n) P (λ t. (q : List ℕ) → names_new q ≡ cond (bytes_eq t.name q) None (names q))
    → Holds (filter (λ e. not (e.number == n)) ties) order_new owners_new store_new names_new next
ended {P} n ties order order_new owners owners_new store store_new names names_new next h o w s same m = by (store n) refl o w m
  where
    by : (r : Option Tie) → store n ≡ r → MatchOption r (order_new ≡ order) (λ t. order_new ≡ without_key number_key (key n 0 0) order)
        → MatchOption r (owners_new ≡ owners) (λ t. owners_new ≡ without_key owned_key (key t.client t.id t.number) owners)
        → MatchOption r P (λ t. (q : List ℕ) → names_new q ≡ cond (bytes_eq t.name q) None (names q))
        → Holds (filter (λ e. not (e.number == n)) ties) order_new owners_new store_new names_new next
    by (Some t) is o w m = removed n t ties order order_new owners owners_new store store_new names names_new next h is o w s m
    by None is o w m =
        subst (λ (us : List Tie). Holds us order_new owners_new store_new names_new next) (sym (none-kept (λ (e : Tie). e.number == n) ties (sym (h.by_number n) ∙ is)))
        (same-holds ties order order_new owners owners_new store store_new names names_new next h o w (λ i. s i ∙ other i (n == i) refl) (same m))
      where
        other : (i : ℕ) (b : Bool) → (n == i) ≡ b → cond b None (store i) ≡ store i
        other i true at = sym (ap store (sym (eq-same n i at)) ∙ is)
        other i false at = refl

-- ---- as the code has them

pub no-row : (n : ℕ) (ties : List Tie) → Each (λ e. e.number < n) ties → find (has_key number_key (key n 0 0)) (map numbered ties) ≡ None
no-row n [] h = refl
no-row n (t ∷ ts) h = let other : is_key (key t.number 0 0) (key n 0 0) ≡ false = one-is t.number n ∙ eq-less t.number n h.0 in rw other (no-row n ts h.1)

pub test-true : (a b : ℕ) → a ≡ b → (a == b) ≡ true
test-true a b h = grind (arith, nat_tests)

pub test-false : (a b : ℕ) → (a ≡ b → ⊥) → (a == b) ≡ false
test-false a b h = grind (arith, nat_tests)

pub both-true : (a b : Bool) → a ≡ true → b ≡ true → (a && b) ≡ true
both-true true b h k = k
both-true false b h k = absurd cc

pub left-false : (a b : Bool) → a ≡ false → (a && b) ≡ false
left-false true b h = absurd cc
left-false false b h = refl

pub right-false : (a b : Bool) → b ≡ false → (a && b) ≡ false
right-false true b h = h
right-false false b h = refl

pub any-found : {X : Type 0} (p : X → Bool) (xs : List X) → is_some (find p xs) ≡ list_any p xs
any-found p [] = refl
any-found p (x ∷ xs) = by (p x) (any-found p xs)
  where
    by : (b : Bool) → is_some (find p xs) ≡ list_any p xs → is_some (cond b (Some x) (find p xs)) ≡ (b || list_any p xs)
    by true more = refl
    by false more = more

pub number-found : (ties : List Tie) (p : Tie → Bool) (t : Tie) → AreOnce ties → find p ties ≡ Some t → find (λ e. e.number == t.number) ties ≡ Some t
number-found ties p t once found = all-found (λ u. find (λ e. e.number == u.number) ties ≡ Some u) p ties t (all-once ties once) found

pub name-found : (ties : List Tie) (order : List Numbered) (owners : List Owned) (store : ℕ → Option Tie) (names : List ℕ → Option ℕ) (next : ℕ) → Holds ties order owners store names next
    → (q : List ℕ) (n : ℕ) → names q ≡ Some n → store n ≡ find (λ t. bytes_eq t.name q) ties
name-found ties order owners store names next h q n is = by (find (λ t. bytes_eq t.name q) ties) refl
  where
    by : (o : Option Tie) → find (λ t. bytes_eq t.name q) ties ≡ o → store n ≡ o
    by None found = let none : Some n ≡ None = sym is ∙ h.by_name q ∙ ap (option_map (λ (e : Tie). e.number)) found in absurd cc
    by (Some t) found =
        let some : Some n ≡ Some t.number = sym is ∙ h.by_name q ∙ ap (option_map (λ (e : Tie). e.number)) found in
        let number : n ≡ t.number = cc in
        ap store number ∙ h.by_number t.number ∙ number-found ties (λ (e : Tie). bytes_eq e.name q) t h.once found

pub name-absent : (ties : List Tie) (order : List Numbered) (owners : List Owned) (store : ℕ → Option Tie) (names : List ℕ → Option ℕ) (next : ℕ) → Holds ties order owners store names next
    → (q : List ℕ) → names q ≡ None → find (λ t. bytes_eq t.name q) ties ≡ None
name-absent ties order owners store names next h q is = by (find (λ t. bytes_eq t.name q) ties) refl
  where
    by : (o : Option Tie) → find (λ t. bytes_eq t.name q) ties ≡ o → o ≡ None
    by None found = refl
    by (Some t) found = let none : None ≡ Some t.number = sym is ∙ h.by_name q ∙ ap (option_map (λ (e : Tie). e.number)) found in absurd cc

pub owner-found : (ties : List Tie) (order : List Numbered) (owners : List Owned) (store : ℕ → Option Tie) (names : List ℕ → Option ℕ) (next : ℕ) → Holds ties order owners store names next
    → (row : Owned) → find (has_key owned_key (owned_key row)) owners ≡ Some row → (t : Tie) × (find (λ e. e.number == row.number) ties ≡ Some t) × (owned t ≡ row)
owner-found ties order owners store names next h row is = by (find (λ t. is_key (owned_key (owned t)) (owned_key row)) ties) refl
  where
    by : (o : Option Tie) → find (λ t. is_key (owned_key (owned t)) (owned_key row)) ties ≡ o → (t : Tie) × (find (λ e. e.number == row.number) ties ≡ Some t) × (owned t ≡ row)
    by None found = let none : Some row ≡ None = sym is ∙ h.by_owner (owned_key row) ∙ ap (option_map owned) found in absurd cc
    by (Some t) found =
        let some : Some row ≡ Some (owned t) = sym is ∙ h.by_owner (owned_key row) ∙ ap (option_map owned) found in
        let same : owned t ≡ row = cc in
        let number : t.number ≡ row.number = ap (λ (r : Owned). r.number) same in
        (t, subst (λ (n : ℕ). find (λ (e : Tie). e.number == n) ties ≡ Some t) number (number-found ties (λ (e : Tie). is_key (owned_key (owned e)) (owned_key row)) t h.once found), same)

row-none : (of : Key → Bool) (k : Key) (owners : List Owned) → of k ≡ true → filter (λ row. of (owned_key row)) owners ≡ [] → find (has_key owned_key k) owners ≡ None
row-none of k owners is none = by (find (has_key owned_key k) owners) refl
  where
    by : (o : Option Owned) → find (has_key owned_key k) owners ≡ o → o ≡ None
    by None found = refl
    by (Some row) found =
        let miss : of (owned_key row) ≡ false = all-found (λ r. of (owned_key r) ≡ false) (has_key owned_key k) owners row (none-all (λ (r : Owned). of (owned_key r)) owners (none-in-filter (λ (r : Owned). of (owned_key r)) owners none)) found in
        absurd (true-false (sym is ∙ ap of (sym (found-key owned_key k owners row found)) ∙ miss))

ties-none : (of : Key → Bool) (ties : List Tie) → ((k : Key) → of k ≡ true → find (λ t. is_key (owned_key (owned t)) k) ties ≡ None) → filter (λ t. of (owned_key (owned t))) ties ≡ []
ties-none of [] h = refl
ties-none of (t ∷ ts) h = by (of (owned_key (owned t))) refl (ties-none of ts (λ k is. rest k (h k is)))
  where
    rest : (k : Key) → find (λ e. is_key (owned_key (owned e)) k) (t ∷ ts) ≡ None → find (λ e. is_key (owned_key (owned e)) k) ts ≡ None
    rest k none = miss-tail (is_key (owned_key (owned t)) k) t _ none

    by : (b : Bool) → of (owned_key (owned t)) ≡ b → filter (λ e. of (owned_key (owned e))) ts ≡ [] → cond b (t ∷ filter (λ e. of (owned_key (owned e))) ts) (filter (λ e. of (owned_key (owned e))) ts) ≡ []
    by true is more = absurd (true-false (sym (same-is (owned_key (owned t))) ∙ miss-head (is_key (owned_key (owned t)) (owned_key (owned t))) t _ (h (owned_key (owned t)) is)))
    by false is more = more

-- where no row of the owners is of a group, no tie is
pub group-absent : (of : Key → Bool) (ties : List Tie) (order : List Numbered) (owners : List Owned) (store : ℕ → Option Tie) (names : List ℕ → Option ℕ) (next : ℕ) → Holds ties order owners store names next
    → filter (λ row. of (owned_key row)) owners ≡ [] → filter (λ t. of (owned_key (owned t))) ties ≡ []
group-absent of ties order owners store names next h none = ties-none of ties (λ k is. absent k (row-none of k owners is none))
  where
    absent : (k : Key) → find (has_key owned_key k) owners ≡ None → find (λ t. is_key (owned_key (owned t)) k) ties ≡ None
    absent k missing = pick (find (λ t. is_key (owned_key (owned t)) k) ties) (sym (h.by_owner k) ∙ missing)
      where
        pick : (o : Option Tie) → option_map owned o ≡ None → o ≡ None
        pick None is = refl
        pick (Some t) is = absurd cc

pub some-and : (o : Option Tie) (P : Tie → Type 0) → IsSomeAnd o P → (t : Tie) × (o ≡ Some t) × P t
some-and None P h = absurd h
some-and (Some t) P h = (t, refl, h)

pub none-left : (p : Tie → Bool) (ties : List Tie) → filter p ties ≡ [] → filter (λ t. not (p t)) ties ≡ ties
none-left p ties none = none-kept p ties (none-in-filter p ties none)

pub some-that : (o : Option Tie) (P : Tie → Type 0) (t : Tie) → o ≡ Some t → P t → IsSomeAnd o P
some-that o P t is h = subst (λ (r : Option Tie). IsSomeAnd r P) (sym is) h
