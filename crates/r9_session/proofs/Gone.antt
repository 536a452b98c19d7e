-- What goes with fids that go.
use Rattle.std.proofs.Common.{◌≡◌, ◌∙◌, ◌<◌, ◌≤◌, ◌+◌, ℕ, suc, Bool, true, false, not, cond, eqb, ltb, List, [], ◌∷◌, get_or, length, Ok, refl, sym, ap, arith}
use Rattle.std.specs.Prelude.{◌==◌, ◌&&◌, ◌||◌, filter, map, nat_le, nat_lt}
use Rattle.std.specs.List.{fold, insert, position_or_len}
use Rattle.std.proofs.lemmas.Bool.{eqb-true, false≢true, lt-ltb}
use Rattle.model_text.proofs.map.Keys.{eqb-same, not_key}
use Rattle.std.proofs.lemmas.Bool.Decides.{nat_tests}
use Rattle.model_world.specs.Session.{Fid, Session}
use Rattle.model_text.specs.text.Outcome.{Outcome, ◌>>=◌, refuse_if}
use Rattle.model_world.specs.Outside.{Outside}
use Rattle.model_world.specs.Answer.{agreed_on, version_answer}
use Rattle.model_world.specs.Fids.{cleared, has_root, left_by, put}
use Rattle.model_world.proofs.Links.{cleared_is}
use Rattle.r9_session.specs.Clients.{left_of}
use Rattle.r9_session.specs.Roots.{roots_of, without_fids}
use Rattle.r9_session.proofs.Keeping.{filter_same}

-- none of them has a root then
beside_true : (b : Bool) → b ≡ (b && true)
beside_true true = refl
beside_true false = refl

pub windows_left : (session : Session) (roots : List ℕ) → roots ≡ roots_of session.fids → filter (λ window. not (window == 0)) roots ≡ left_by (without_fids session) (map (λ entry. entry.1) session.fids)
windows_left session roots is = filter_same (λ window. not (window == 0)) (λ window. not (window == 0) && true) roots (λ n among. beside_true (not (n == 0)))
    ∙ ap (λ ns. filter (λ window. not (window == 0) && true) ns) is

-- one fid goes: its root is left, but where there is none, or another fid has it
either : (a b : Bool) → (a || b) ≡ true → (not a && not b) ≡ false
either true b e = refl
either false b e = ap not e

neither : (a b : Bool) → (a || b) ≡ false → (not a && not b) ≡ true
neither true b e = cc e
neither false b e = ap not e

pub root_kept : (session : Session) (gone : Fid) (root : ℕ) → gone.node.root ≡ root → ((root == 0) || has_root session root) ≡ true → left_by session (gone ∷ []) ≡ []
root_kept session gone root is kept =
    ap (λ r. filter (λ window. not (window == 0) && not (has_root session window)) (r ∷ [])) is
    ∙ ap (λ (b : Bool). cond b (root ∷ []) []) (either (root == 0) (has_root session root) kept)

pub root_left : (session : Session) (gone : Fid) (root : ℕ) → gone.node.root ≡ root → ((root == 0) || has_root session root) ≡ false → left_by session (gone ∷ []) ≡ root ∷ []
root_left session gone root is kept =
    ap (λ r. filter (λ window. not (window == 0) && not (has_root session window)) (r ∷ [])) is
    ∙ ap (λ (b : Bool). cond b (root ∷ []) []) (neither (root == 0) (has_root session root) kept)

-- ---- a number among others

abbrev place : ℕ → List ℕ → ℕ
place n ms = position_or_len (λ m. nat_le n m) ms

-- the number stands at its place
abbrev stands : ℕ → ℕ → List ℕ → Bool
stands d n ms = ltb (place n ms) (length ms) && eqb (get_or ms (place n ms) d) n

pushed : (s t : Bool) (m : ℕ) (ms more : List ℕ) → t ≡ s → m ∷ cond s ms more ≡ cond t (m ∷ ms) (m ∷ more)
pushed true t m ms more same = λ j. cond (sym same j) (m ∷ ms) (m ∷ more)
pushed false t m ms more same = λ j. cond (sym same j) (m ∷ ms) (m ∷ more)

further : (d n m : ℕ) (ms : List ℕ) → (ltb (suc (place n ms)) (suc (length ms)) && eqb (get_or ms (place n ms) d) n) ≡ stands d n ms
further d n m ms = ap (λ (b : Bool). b && eqb (get_or ms (place n ms) d) n) (grind (arith, nat_tests))

put_by : (d n m : ℕ) (ms : List ℕ) (a b c : Bool) → eqb n m ≡ a → nat_lt n m ≡ b → nat_le n m ≡ c → put n ms ≡ cond (stands d n ms) ms (insert ms (place n ms) n)
    → cond a (m ∷ ms) (cond b (n ∷ m ∷ ms) (m ∷ put n ms))
    ≡ cond (ltb (cond (not c) (suc (place n ms)) 0) (suc (length ms)) && eqb (get_or (m ∷ ms) (cond (not c) (suc (place n ms)) 0) d) n) (m ∷ ms) (insert (m ∷ ms) (cond (not c) (suc (place n ms)) 0) n)
put_by d n m ms true b true same less most more =
    let here : eqb m n ≡ true = ap (λ k. eqb k n) (sym (eqb-true n m same)) ∙ eqb-same n in
    sym (λ j. cond (lt-ltb 0 (suc (length ms)) (omega arith) j && here j) (m ∷ ms) (n ∷ m ∷ ms))
put_by d n m ms true b false same less most more = absurd (let is : n ≡ m = eqb-true n m same in grind (arith, nat_tests))
put_by d n m ms false true true same less most more =
    let apart : eqb m n ≡ false = not_key m n (λ is. false≢true (sym same ∙ ap (λ k. eqb k m) (sym is) ∙ eqb-same m)) in
    sym (λ j. cond (lt-ltb 0 (suc (length ms)) (omega arith) j && apart j) (m ∷ ms) (n ∷ m ∷ ms))
put_by d n m ms false true false same less most more = absurd (grind (arith, nat_tests))
put_by d n m ms false false true same less most more = absurd (grind (arith, nat_tests))
put_by d n m ms false false false same less most more = ap (λ rest. m ∷ rest) more ∙ pushed (stands d n ms) _ m ms (insert ms (place n ms) n) (further d n m ms)

put_at : (d n : ℕ) (ms : List ℕ) → put n ms ≡ cond (stands d n ms) ms (insert ms (place n ms) n)
put_at d n [] = refl
put_at d n (m ∷ ms) =
    let next : suc (place n ms) ≡ 1 + place n ms = omega arith in
    put_by d n m ms (eqb n m) (nat_lt n m) (nat_le n m) refl refl refl (put_at d n ms)
    ∙ ap (λ k. cond (ltb (cond (not (nat_le n m)) k 0) (suc (length ms)) && eqb (get_or (m ∷ ms) (cond (not (nat_le n m)) k 0) d) n) (m ∷ ms) (insert (m ∷ ms) (cond (not (nat_le n m)) k 0) n)) next

-- it is there
pub put_there : (n p x : ℕ) (ms : List ℕ) → p ≡ place n ms → p < length ms → x ≡ get_or ms p x → x ≡ n → ms ≡ put n ms
put_there n p x ms at within value same =
    let first : ltb (place n ms) (length ms) ≡ true = lt-ltb (place n ms) (length ms) (omega (arith, at, within)) in
    let here : eqb (get_or ms (place n ms) x) n ≡ true = ap (λ k. eqb (get_or ms k x) n) (sym at) ∙ ap (λ k. eqb k n) (sym value ∙ same) ∙ eqb-same n in
    sym (put_at x n ms ∙ (λ j. cond (first j && here j) ms (insert ms (place n ms) n)))

-- another is there, or none
pub put_before : (n p x : ℕ) (ms : List ℕ) → p ≡ place n ms → x ≡ get_or ms p x → (x ≡ n → ⊥) → insert ms p n ≡ put n ms
put_before n p x ms at value apart =
    let other : eqb (get_or ms (place n ms) x) n ≡ false = ap (λ k. eqb (get_or ms k x) n) (sym at) ∙ ap (λ k. eqb k n) (sym value) ∙ not_key x n apart in
    sym (put_at x n ms ∙ ap (λ b. cond b ms (insert ms (place n ms) n)) (ap (λ b. ltb (place n ms) (length ms) && b) other ∙ never (ltb (place n ms) (length ms))) ∙ ap (λ k. insert ms k n) (sym at))
  where
    never : (b : Bool) → (b && false) ≡ false
    never true = refl
    never false = refl

pub put_last : (n p : ℕ) (ms : List ℕ) → p ≡ place n ms → length ms ≤ p → insert ms p n ≡ put n ms
put_last n p ms at past =
    let beyond : ltb (place n ms) (length ms) ≡ false = grind (arith, nat_tests) in
    sym (put_at 0 n ms ∙ ap (λ b. cond (b && eqb (get_or ms (place n ms) 0) n) ms (insert ms (place n ms) n)) beyond ∙ ap (λ k. insert ms k n) (sym at))

roots_from : (fids : List (ℕ × Fid)) (ns : List ℕ) → fold (λ others number. put number others) ns (map (λ entry. entry.1.node.root) fids)
    ≡ fold (λ windows (fid : Fid). put fid.node.root windows) ns (map (λ entry. entry.1) fids)
roots_from [] ns = refl
roots_from (entry ∷ fids) ns = roots_from fids (put entry.1.node.root ns)

pub roots_are : (fids : List (ℕ × Fid)) → fold (λ others number. put number others) [] (map (λ entry. entry.1.node.root) fids) ≡ roots_of fids
roots_are fids = roots_from fids []

-- all fids of a session that begins anew have gone
refused_not : {A : Type 0} (n : ℕ) (b : Bool) (r : Outcome A) → b ≡ false → (refuse_if b n >>= λ _. r) ≡ r
refused_not n true r is = absurd (cc is)
refused_not n false r is = refl

pub version_is : {S : Type 0} (outside : Outside S) (session : Session) (rest : S) (tag msize : ℕ) (version : List ℕ) → nat_lt msize 256 ≡ false
    → version_answer outside session rest tag msize version ≡ Ok (agreed_on tag msize version (cleared outside session rest))
unfolding version_answer
version_is outside session rest tag msize version long =
    refused_not 48 (nat_lt msize 256) (Ok (agreed_on tag msize version (cleared outside session rest))) long

-- all fids of a session have gone, and the reads that waited
pub cleared_of : {S : Type 0} (outside : Outside S) (session : Session) (rest after : S) → after ≡ (cleared outside session rest).1
    → cleared outside session rest ≡ left_of (record session { fids = []; waiting = []; connections = [] }) after
cleared_of {S} outside session rest after is =
    let own = ap (λ (both : Session × S). both.0) (cleared_is outside session rest) in
    λ j. (own j, sym is j)
