-- Ids as rows, which ascend by the connection and then by the id.
use Rattle.std.proofs.Common.{◌≡◌, ℕ, Bool, true, false, List, [], ◌∷◌, Option, Some, None, refl, sym, ap, subst, ◌∙◌, arith}
use Rattle.std.proofs.lemmas.Bool.Decides.{nat_tests}
use Rattle.std.specs.Prelude.{not, ◌==◌, ◌&&◌, find, filter, map, option_map, if◌then◌else◌, IfSome}
use Rattle.model_draw_parts.specs.images.Book.{comes_before as model_before}
use Rattle.r9_ids.specs.declared.sorted.key.Key.{Key}
use Rattle.r9_ids.specs.sorted.Order.{key, comes_before}
use Rattle.r9_ids.specs.sorted.Rows.{has_key, put_in_order, without_key, first_from, Ascend}
use Rattle.r9_ids.proofs.sorted.Laws.{find-same, filter-same, put-back, found-key, found-first, group-first, group-past, group-none, first-group, find-in-filter, none-in-filter}
use Rattle.r9_ids.proofs.sorted.Order.{pair-before, pair-is}
use Rattle.r9_ids.proofs.ids.Mapped.{find-map, filter-map}

-- a kind of ids, which are entries of rows
pub record Kind (T E : Type 0) : Type 0 where
  pub entry : T → E
  pub client : E → ℕ
  pub id : E → ℕ
  pub put_id : E → List E → List E
  pub put_none : (e : E) → put_id e [] ≡ e ∷ []
  pub put_some :
      (e x : E) (xs : List E) → put_id e (x ∷ xs) ≡ (if model_before (client e) (id e) (client x) (id x) then e ∷ x ∷ xs else x ∷ put_id e xs)

-- ---- as the code has them

pub is-own : (a b : ℕ) → a ≡ b → (a == b) ≡ true
is-own a b h = grind (arith, nat_tests)

pub is-other : (a b : ℕ) → (a ≡ b → ⊥) → (a == b) ≡ false
is-other a b h = grind (arith, nat_tests)

nothing-mapped : {X Y : Type 0} (f : X → Y) (o : Option X) → option_map f o ≡ None → o ≡ None
nothing-mapped f None h = refl
nothing-mapped f (Some x) h = absurd cc

module _ {T E : Type 0} (kind : Kind T E) where
  abbrev pub client_in : T → ℕ
  client_in row = kind.client (kind.entry row)

  abbrev pub id_in : T → ℕ
  id_in row = kind.id (kind.entry row)

  abbrev pub key_in : T → Key
  key_in row = key (client_in row) (id_in row) 0

  abbrev pub is_id : ℕ → ℕ → E → Bool
  is_id client id e = (kind.client e == client) && (kind.id e == id)

  abbrev pub entries : List T → List E
  entries rows = map kind.entry rows

  pub found : (client id : ℕ) (rows : List T) → find (is_id client id) (entries rows) ≡ option_map kind.entry (find (has_key key_in (key client id 0)) rows)
  found client id rows =
      find-map kind.entry (is_id client id) rows
      ∙ ap (option_map kind.entry) (find-same (λ (r : T). is_id client id (kind.entry r)) (has_key key_in (key client id 0)) (λ r. sym (pair-is (client_in r) (id_in r) client id)) rows)

  pub without : (client id : ℕ) (rows : List T) → filter (λ e. not (is_id client id e)) (entries rows) ≡ entries (without_key key_in (key client id 0) rows)
  without client id rows =
      filter-map kind.entry (λ e. not (is_id client id e)) rows
      ∙ ap entries (filter-same (λ (r : T). not (is_id client id (kind.entry r))) (λ r. not (has_key key_in (key client id 0) r)) (λ r. ap not (sym (pair-is (client_in r) (id_in r) client id))) rows)

  pub put : (row : T) (rows : List T) → entries (put_in_order key_in row rows) ≡ kind.put_id (kind.entry row) (entries rows)
  put row [] = sym (kind.put_none (kind.entry row))
  put row (x ∷ xs) =
      by (put row xs) (comes_before (key_in row) (key_in x)) (model_before (client_in row) (id_in row) (client_in x) (id_in x)) (pair-before (client_in row) (id_in row) (client_in x) (id_in x))
      ∙ sym (kind.put_some (kind.entry row) (kind.entry x) (entries xs))
    where
      by : entries (put_in_order key_in row xs) ≡ kind.put_id (kind.entry row) (entries xs) → (t u : Bool) → t ≡ u
          → entries (if t then row ∷ x ∷ xs else x ∷ put_in_order key_in row xs) ≡ (if u then kind.entry row ∷ kind.entry x ∷ entries xs else kind.entry x ∷ kind.put_id (kind.entry row) (entries xs))
      by more true true e = refl
      by more true false e = absurd cc
      by more false true e = absurd cc
      by more false false e = ap (λ es. kind.entry x ∷ es) more

  -- an id that was taken out, put again
  pub back : (client id : ℕ) (rows : List T) → Ascend key_in rows
      → IfSome (find (is_id client id) (entries rows)) (λ e. kind.put_id e (entries (without_key key_in (key client id 0) rows)) ≡ entries rows)
  back client id rows a =
      let P : Option E → Type 0 = λ o. IfSome o (λ e. kind.put_id e (entries (without_key key_in (key client id 0) rows)) ≡ entries rows) in
      subst P (sym (found client id rows)) (by (find (has_key key_in (key client id 0)) rows) refl)
    where
      by : (o : Option T) → find (has_key key_in (key client id 0)) rows ≡ o
          → IfSome (option_map kind.entry o) (λ e. kind.put_id e (entries (without_key key_in (key client id 0) rows)) ≡ entries rows)
      by None e = tt
      by (Some r) e = sym (put r (without_key key_in (key client id 0) rows)) ∙ ap entries (put-back key_in (key client id 0) rows r a e)

  -- ---- the first id of a connection

  pub own-first : (c : ℕ) (rows : List T) (row : T) → Ascend key_in rows → first_from key_in (key c 0 0) rows ≡ Some row → (client_in row == c) ≡ true
      → filter (λ e. kind.client e == c) (entries rows) ≡ kind.entry row ∷ filter (λ e. kind.client e == c) (filter (λ e. not (is_id (client_in row) (id_in row) e)) (entries rows))
  own-first c rows row a h is =
      filter-map kind.entry (λ e. kind.client e == c) rows
      ∙ ap entries (group-first key_in (λ k. k.first == c) (key c 0 0) (first-group c) rows row a h is)
      ∙ ap (λ es. kind.entry row ∷ es)
      (sym (ap (filter (λ (e : E). kind.client e == c)) (without (client_in row) (id_in row) rows) ∙ filter-map kind.entry (λ e. kind.client e == c) (without_key key_in (key_in row) rows)))

  pub own-found : (c : ℕ) (rows : List T) (row : T) → Ascend key_in rows → first_from key_in (key c 0 0) rows ≡ Some row → (client_in row == c) ≡ true
      → Some (kind.entry row) ≡ find (λ e. kind.client e == c) (entries rows)
  own-found c rows row a h is =
      sym (find-in-filter (λ (e : E). kind.client e == c) (entries rows) (kind.entry row) (filter (λ e. kind.client e == c) (filter (λ e. not (is_id (client_in row) (id_in row) e)) (entries rows))) (own-first c rows row a h is))

  pub own-there : (c : ℕ) (rows : List T) (row : T) → Ascend key_in rows → first_from key_in (key c 0 0) rows ≡ Some row
      → find (is_id (client_in row) (id_in row)) (entries rows) ≡ Some (kind.entry row)
  own-there c rows row a h = found (client_in row) (id_in row) rows ∙ ap (option_map kind.entry) (found-first key_in (key c 0 0) rows row a h)

  pub own-past : (c : ℕ) (rows : List T) (row : T) → Ascend key_in rows → first_from key_in (key c 0 0) rows ≡ Some row → (client_in row == c) ≡ false
      → None ≡ find (λ e. kind.client e == c) (entries rows)
  own-past c rows row a h other =
      sym
      (none-in-filter (λ (e : E). kind.client e == c) (entries rows)
      (filter-map kind.entry (λ e. kind.client e == c) rows ∙ ap entries (group-past key_in (λ k. k.first == c) (key c 0 0) (first-group c) rows row a h other)))

  pub own-none : (c : ℕ) (rows : List T) → first_from key_in (key c 0 0) rows ≡ None → None ≡ find (λ e. kind.client e == c) (entries rows)
  own-none c rows h =
      sym
      (none-in-filter (λ (e : E). kind.client e == c) (entries rows)
      (filter-map kind.entry (λ e. kind.client e == c) rows ∙ ap entries (group-none key_in (λ k. k.first == c) (key c 0 0) (first-group c) rows h)))

  -- ---- as the code has them

  pub absent : (client id : ℕ) (rows : List T) → find (is_id client id) (entries rows) ≡ None → find (has_key key_in (key client id 0)) rows ≡ None
  absent client id rows h = nothing-mapped kind.entry _ (sym (found client id rows) ∙ h)

  pub found-done : (client id : ℕ) (rows : List T) (ids : List E) (k : Key) (o : Option T) → entries rows ≡ ids → k ≡ key client id 0 → o ≡ find (has_key key_in k) rows
      → option_map kind.entry o ≡ find (is_id client id) ids
  found-done client id rows ids k o view is h =
      ap (option_map kind.entry) (h ∙ ap (λ (j : Key). find (has_key key_in j) rows) is) ∙ sym (found client id rows) ∙ ap (find (is_id client id)) view

  pub key-done : (client id : ℕ) (rows : List T) (k : Key) (row : T) → k ≡ key client id 0 → find (has_key key_in k) rows ≡ Some row → (client_in row ≡ client) × (id_in row ≡ id)
  key-done client id rows k row is h =
      let same : key_in row ≡ key client id 0 = found-key key_in k rows row h ∙ is in
      (ap (λ (j : Key). j.first) same, ap (λ (j : Key). j.second) same)

  pub rest-done : (client id : ℕ) (rows left : List T) (ids : List E) (k : Key) → entries rows ≡ ids → k ≡ key client id 0 → left ≡ without_key key_in k rows
      → entries left ≡ filter (λ e. not (is_id client id e)) ids
  rest-done client id rows left ids k view is h =
      ap entries (h ∙ ap (λ (j : Key). without_key key_in j rows) is) ∙ sym (without client id rows) ∙ ap (filter (λ (e : E). not (is_id client id e))) view

  pub back-done : (client id : ℕ) (rows left : List T) (ids : List E) (k : Key) → entries rows ≡ ids → k ≡ key client id 0 → left ≡ without_key key_in k rows → Ascend key_in rows
      → IfSome (find (is_id client id) ids) (λ e. kind.put_id e (entries left) ≡ ids)
  back-done client id rows left ids k view is h a =
      let P : List E → Type 0 = λ es. IfSome (find (is_id client id) es) (λ e. kind.put_id e (entries left) ≡ es) in
      let Q : List T → Type 0 = λ rs. IfSome (find (is_id client id) (entries rows)) (λ e. kind.put_id e (entries rs) ≡ entries rows) in
      subst P view (subst Q (sym (h ∙ ap (λ (j : Key). without_key key_in j rows) is)) (back client id rows a))

  pub own-rest : (c : ℕ) (rows : List T) (row : T) (ids : List E) → entries rows ≡ ids → Ascend key_in rows → first_from key_in (key c 0 0) rows ≡ Some row
      → (client_in row == c) ≡ true → filter (λ e. kind.client e == c) ids ≡ kind.entry row ∷ filter (λ e. kind.client e == c) (filter (λ e. not (is_id (client_in row) (id_in row) e)) ids)
  own-rest c rows row ids view a h is =
      let P : List E → Type 0 = λ es. filter (λ e. kind.client e == c) es ≡ kind.entry row ∷ filter (λ e. kind.client e == c) (filter (λ e. not (is_id (client_in row) (id_in row) e)) es) in
      subst P view (own-first c rows row a h is)
