-- The public screen ids, in a table of their own.
use Rattle.std.proofs.Common.{◌≡◌, ℕ, Bool, true, false, List, Option, Some, None, refl, sym, ap, ◌∙◌, arith}
use Rattle.std.proofs.lemmas.Bool.Decides.{nat_tests}
use Rattle.std.specs.Prelude.{not, ◌==◌, ◌&&◌, find, option_map, if◌then◌else◌}
use Rattle.model_draw_parts.specs.declared.images.ScreenId.{ScreenId}
use Rattle.r9_ids.specs.declared.sorted.key.Key.{Key}
use Rattle.r9_ids.specs.sorted.Order.{key, comes_before, is_key}
use Rattle.r9_ids.specs.sorted.Rows.{has_key, is_before, put_in_order, without_key, first_from, Ascend}
use Rattle.r9_ids.proofs.sorted.Ascending.{ascend-put, ascend-filter}
use Rattle.r9_ids.proofs.sorted.Laws.{found-put, found-without, found-first}
use Rattle.r9_ids.proofs.sorted.Members.{find-holds, none-holds, own-found, least-found}
use Rattle.r9_ids.proofs.sorted.Order.{is-same}
use Rattle.r9_ids.specs.declared.ids.rows.ScreenRow.{ScreenRow}
use Rattle.r9_ids.specs.declared.ids.rows.PublicRow.{PublicRow}
use Rattle.r9_ids.specs.ids.Rows.{ArePublic, public_in, public_key, screen_key, screens_of}
use Rattle.r9_ids.proofs.ids.Mapped.{find-map}

-- ---- a table that changes

swapped : (a b c d : ℕ) → is_key (key a b 0) (key c d 0) ≡ is_key (key b a 0) (key d c 0)
unfolding is_key
swapped a b c d = grind (arith, nat_tests)

pub public-absent : (e : ScreenId) (rows : List ScreenRow) (publics : List PublicRow) → ArePublic rows publics → find (has_key screen_key (key e.client e.id 0)) rows ≡ None
    → find (has_key public_key (key e.id e.client 0)) publics ≡ None
public-absent e rows publics h none = h.found e.client e.id ∙ ap public_in none

pub public-put : (e : ScreenId) (rows : List ScreenRow) (publics : List PublicRow) → ArePublic rows publics → find (has_key screen_key (key e.client e.id 0)) rows ≡ None → e.public ≡ true
    → ArePublic (put_in_order screen_key (record { e = e }) rows) (put_in_order public_key (record { e = e }) publics)
public-put e rows publics h none is = record {
  order = ascend-put screen_key (record { e = e }) rows h.order none;
  found = λ client id.
      found-put public_key (key id client 0) (record { e = e }) publics (public-absent e rows publics h none)
      ∙ pick (is_key (key e.id e.client 0) (key id client 0)) (is_key (key e.client e.id 0) (key client id 0)) (swapped e.id e.client id client) _ _ (h.found client id)
      ∙ ap public_in (sym (found-put screen_key (key client id 0) (record { e = e }) rows none));
}
  where
    pick : (t u : Bool) → t ≡ u → (p : Option PublicRow) (o : Option ScreenRow) → p ≡ public_in o → (if t then Some (record { e = e }) else p) ≡ public_in (if u then Some (record { e = e }) else o)
    pick true true same p o k = sym (rw is refl)
    pick true false same p o k = absurd cc
    pick false true same p o k = absurd cc
    pick false false same p o k = k

pub private-put : (e : ScreenId) (rows : List ScreenRow) (publics : List PublicRow) → ArePublic rows publics → find (has_key screen_key (key e.client e.id 0)) rows ≡ None → e.public ≡ false
    → ArePublic (put_in_order screen_key (record { e = e }) rows) publics
private-put e rows publics h none is = record {
  order = ascend-put screen_key (record { e = e }) rows h.order none;
  found = λ client id.
      pick client id (is_key (key e.client e.id 0) (key client id 0)) refl ∙ ap public_in (sym (found-put screen_key (key client id 0) (record { e = e }) rows none));
}
  where
    pick : (client id : ℕ) (t : Bool) → is_key (key e.client e.id 0) (key client id 0) ≡ t
        → find (has_key public_key (key id client 0)) publics ≡ public_in (if t then Some (record { e = e }) else find (has_key screen_key (key client id 0)) rows)
    pick client id true at =
        let absent : find (has_key screen_key (key client id 0)) rows ≡ None =
        ap (λ (k : Key). find (has_key screen_key k) rows) (sym (is-same (key e.client e.id 0) (key client id 0) at)) ∙ none in
        h.found client id ∙ ap public_in absent ∙ sym (rw is refl)
    pick client id false at = h.found client id

pub public-without : (c i : ℕ) (rows : List ScreenRow) (publics : List PublicRow) → ArePublic rows publics
    → ArePublic (without_key screen_key (key c i 0) rows) (without_key public_key (key i c 0) publics)
public-without c i rows publics h = record {
  order = ascend-filter screen_key _ rows h.order;
  found = λ client id.
      found-without public_key (key i c 0) (key id client 0) publics
      ∙ pick (is_key (key i c 0) (key id client 0)) (is_key (key c i 0) (key client id 0)) (swapped i c id client) _ _ (h.found client id)
      ∙ ap public_in (sym (found-without screen_key (key c i 0) (key client id 0) rows));
}
  where
    pick : (t u : Bool) → t ≡ u → (p : Option PublicRow) (o : Option ScreenRow) → p ≡ public_in o → (if t then None else p) ≡ public_in (if u then None else o)
    pick true true same p o k = refl
    pick true false same p o k = absurd cc
    pick false true same p o k = absurd cc
    pick false false same p o k = k

-- ---- the first public one of an id

true-false : true ≡ false → ⊥
true-false h = cc

both-first : (a b : Bool) → (a && b) ≡ true → a ≡ true
both-first true b h = refl
both-first false b h = absurd cc

both-second : (a b : Bool) → (a && b) ≡ true → b ≡ true
both-second true b h = h
both-second false b h = absurd cc

both : (a b : Bool) → a ≡ true → b ≡ true → (a && b) ≡ true
both true b h k = k
both false b h k = absurd cc

not-before : (a b c : ℕ) → (a == c) ≡ true → not (comes_before (key a b 0) (key c 0 0)) ≡ true
unfolding comes_before
not-before a b c h = grind (arith, nat_tests)

past-before : (a b c d n : ℕ) → (a == n) ≡ true → (c == n) ≡ false → not (comes_before (key c d 0) (key n 0 0)) ≡ true → comes_before (key a b 0) (key c d 0) ≡ true
unfolding comes_before
past-before a b c d n h k l = grind (arith, nat_tests)

-- two ids of one number, of which neither table has the second first
one-id : (a b c d n : ℕ) → (b == n) ≡ true → (d == n) ≡ true → comes_before (key b a 0) (key d c 0) ≡ false → comes_before (key c d 0) (key a b 0) ≡ false → is_key (key a b 0) (key c d 0) ≡ true
unfolding comes_before is_key
one-id a b c d n h k l m = grind (arith, nat_tests)

-- a public id is in the second table
in-publics : (q : ScreenRow → Bool) (rows : List ScreenRow) (publics : List PublicRow) (s : ScreenRow) → ArePublic rows publics → find q rows ≡ Some s → s.e.public ≡ true
    → find (has_key public_key (key s.e.id s.e.client 0)) publics ≡ Some (record { e = s.e })
in-publics q rows publics s h f is = h.found s.e.client s.e.id ∙ ap public_in (own-found screen_key q rows s h.order f) ∙ rw is refl

-- and what is in the second table is a public id
from-public : (o : Option ScreenRow) (r : PublicRow) → public_in o ≡ Some r → (o ≡ Some (record { e = r.e })) × (r.e.public ≡ true)
from-public None r h = absurd cc
from-public (Some s) r h = by s.e.public refl h
  where
    by : (t : Bool) → s.e.public ≡ t → (if t then Some (record { e = s.e }) else None) ≡ Some r → (Some s ≡ Some (record { e = r.e })) × (r.e.public ≡ true)
    by true at h =
        let row : ◌≡◌ {A = PublicRow} (record { e = s.e }) r = cc in
        let same : s.e ≡ r.e = ap (λ (x : PublicRow). x.e) row in
        (ap (λ (e : ScreenId). Some (record { e = e })) same, ap (λ (e : ScreenId). e.public) (sym same) ∙ at)
    by false at h = absurd cc

module _ (id : ℕ) (rows : List ScreenRow) (publics : List PublicRow) (are : ArePublic rows publics) where
  abbrev wanted : ScreenRow → Bool
  wanted row = row.e.public && (row.e.id == id)

  abbrev from_id : PublicRow → Bool
  from_id row = not (is_before public_key (key id 0 0) row)

  pub public-none : first_from public_key (key id 0 0) publics ≡ None → find wanted rows ≡ None
  public-none none = by (find wanted rows) refl
    where
      by : (o : Option ScreenRow) → find wanted rows ≡ o → o ≡ None
      by None f = refl
      by (Some s) f =
          let holds = find-holds wanted rows s f in
          let public = both-first s.e.public (s.e.id == id) holds in
          let numbered = both-second s.e.public (s.e.id == id) holds in
          absurd
          (true-false
          (sym (not-before s.e.id s.e.client id numbered)
          ∙ none-holds from_id (has_key public_key (key s.e.id s.e.client 0)) publics (record { e = s.e }) none (in-publics wanted rows publics s are f public)))

  pub public-past : (r : PublicRow) → Ascend public_key publics → first_from public_key (key id 0 0) publics ≡ Some r → (r.e.id == id) ≡ false → find wanted rows ≡ None
  public-past r a h other = by (find wanted rows) refl
    where
      by : (o : Option ScreenRow) → find wanted rows ≡ o → o ≡ None
      by None f = refl
      by (Some s) f =
          let holds = find-holds wanted rows s f in
          let public = both-first s.e.public (s.e.id == id) holds in
          let numbered = both-second s.e.public (s.e.id == id) holds in
          absurd
          (true-false
          (sym (past-before s.e.id s.e.client r.e.id r.e.client id numbered other (find-holds from_id publics r h))
          ∙ least-found public_key from_id (has_key public_key (key s.e.id s.e.client 0)) publics r (record { e = s.e }) a h (in-publics wanted rows publics s are f public)
          (not-before s.e.id s.e.client id numbered)))

  pub public-first : (r : PublicRow) → Ascend public_key publics → first_from public_key (key id 0 0) publics ≡ Some r → (r.e.id == id) ≡ true → find wanted rows ≡ Some (record { e = r.e })
  public-first r a h numbered = by (find wanted rows) refl
    where
      there : (find (has_key screen_key (key r.e.client r.e.id 0)) rows ≡ Some (record { e = r.e })) × (r.e.public ≡ true)
      there = from-public _ r (sym (are.found r.e.client r.e.id) ∙ found-first public_key (key id 0 0) publics r a h)

      by : (o : Option ScreenRow) → find wanted rows ≡ o → o ≡ Some (record { e = r.e })
      by None f =
          absurd
          (true-false
          (sym (both r.e.public (r.e.id == id) there.1 numbered) ∙ none-holds wanted (has_key screen_key (key r.e.client r.e.id 0)) rows (record { e = r.e }) f there.0))
      by (Some s) f =
          let holds = find-holds wanted rows s f in
          let public = both-first s.e.public (s.e.id == id) holds in
          let known = both-second s.e.public (s.e.id == id) holds in
          let by_id : comes_before (key s.e.id s.e.client 0) (key r.e.id r.e.client 0) ≡ false =
          least-found public_key from_id (has_key public_key (key s.e.id s.e.client 0)) publics r (record { e = s.e }) a h (in-publics wanted rows publics s are f public)
          (not-before s.e.id s.e.client id known) in
          let by_client : comes_before (key r.e.client r.e.id 0) (key s.e.client s.e.id 0) ≡ false =
          least-found screen_key wanted (has_key screen_key (key r.e.client r.e.id 0)) rows s (record { e = r.e }) are.order f there.0 (both r.e.public (r.e.id == id) there.1 numbered) in
          let same : key s.e.client s.e.id 0 ≡ key r.e.client r.e.id 0 = is-same _ _ (one-id s.e.client s.e.id r.e.client r.e.id id known numbered by_id by_client) in
          sym (own-found screen_key wanted rows s are.order f) ∙ ap (λ (k : Key). find (has_key screen_key k) rows) same ∙ there.0

  -- among the ids
  pub public-among : (o : Option ScreenRow) → find wanted rows ≡ o → option_map (λ (r : ScreenRow). r.e) o ≡ find (λ e. e.public && (e.id == id)) (screens_of rows)
  public-among o h = sym (find-map (λ (r : ScreenRow). r.e) (λ e. e.public && (e.id == id)) rows ∙ ap (option_map (λ (r : ScreenRow). r.e)) h)
