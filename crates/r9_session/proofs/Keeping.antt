-- Fids that keep connections alive.
use Rattle.std.proofs.Common.{◌≡◌, ◌∙◌, ◌<◌, ◌&&◌, ◌||◌, ℕ, Bool, true, false, not, cond, eqb, List, [], ◌∷◌, Some, None, Ordering, Less, Equal, Greater, nat_cmp, ⊎_elim, refl, sym, ap, subst, arith}
use Rattle.std.specs.Prelude.{◌==◌, ◌⊎◌, filter, is_some}
use Rattle.std.specs.List.{list_any}
use Rattle.std.specs.Map.{keys_of}
use Rattle.std.specs.Ordering.{match_ordering}
use Rattle.std.proofs.lemmas.Bool.{and_parts, eqb-true, false≢true}
use Rattle.model_text.specs.text.Map.{and, lookup, with, without}
use Rattle.model_text.specs.map.Ascending.{AreAbove, Ascend}
use Rattle.model_text.proofs.map.Keys.{eqb-same, not_key, nat_cmp-Equal, nat_cmp-Greater}
use Rattle.model_world.specs.Session.{Fid, Session}
use Rattle.model_world.specs.Fids.{is_kept, is_kind, keeps}
use Rattle.model_files.specs.declared.tree.Kind.TheVariants.{Ctl, Data, Refresh}
use Rattle.model_world.specs.Links.{is_among}
use Rattle.r9_session.specs.SessionView.{AreKept}
use Rattle.r9_session.specs.Clients.{without_fid}

-- ---- whether the value of some entry passes a test

abbrev any : (Fid → Bool) → List (ℕ × Fid) → Bool
any test entries = list_any (λ e. test e.1) entries

or_left : (a b : Bool) → a ≡ true → (a || b) ≡ true
or_left true b is = refl
or_left false b is = cc is

or_right : (a b : Bool) → b ≡ true → (a || b) ≡ true
or_right true b is = refl
or_right false b is = is

or_more : (a b c : Bool) → (a || b) ≡ true → (b ≡ true → c ≡ true) → (a || c) ≡ true
or_more true b c some more = refl
or_more false b c some more = more some

-- an entry more
and_by : (test : Fid → Bool) (e : ℕ × Fid) (es : List (ℕ × Fid)) (key : ℕ) (value : Fid) → (o : Ordering) → nat_cmp key e.0 ≡ o → lookup (e ∷ es) key ≡ None → (test e.1 || any test es) ≡ true
    → (lookup es key ≡ None → any test es ≡ true → any test (and es key value) ≡ true)
    → any test (match_ordering o ((key, value) ∷ e ∷ es) ((e.0, value) ∷ es) (e ∷ and es key value)) ≡ true
and_by test e es key value Less at free some more = or_right (test value) (test e.1 || any test es) some
and_by test e es key value Equal at free some more =
    let same : e.0 ≡ key = sym (nat_cmp-Equal key e.0 at) in
    let here : eqb e.0 key ≡ true = ap (λ k. eqb k key) same ∙ eqb-same key in
    let taken : Some e.1 ≡ None = sym (ap (λ b. cond b (Some e.1) (lookup es key)) here) ∙ free in cc taken
and_by test e es key value Greater at free some more =
    let above : e.0 < key = nat_cmp-Greater key e.0 at in
    let other : eqb e.0 key ≡ false = not_key e.0 key (λ is. omega (arith, is)) in
    let rest : lookup es key ≡ None = sym (ap (λ b. cond b (Some e.1) (lookup es key)) other) ∙ free in
    or_more (test e.1) (any test es) (any test (and es key value)) some (more rest)

pub any_and : (test : Fid → Bool) (entries : List (ℕ × Fid)) (key : ℕ) (value : Fid) → lookup entries key ≡ None → any test entries ≡ true → any test (and entries key value) ≡ true
any_and test [] key value free some = cc some
any_and test (e ∷ es) key value free some = and_by test e es key value (nat_cmp key e.0) refl free some (any_and test es key value)

pub some_same : (x y : Fid) → Some x ≡ Some y → x ≡ y
some_same x y e = cc

-- another value, which passes where the old one did
with_by : (test : Fid → Bool) (e : ℕ × Fid) (es : List (ℕ × Fid)) (key : ℕ) (old value : Fid) → (b : Bool) → cond b (Some e.1) (lookup es key) ≡ Some old → (test old ≡ true → test value ≡ true) → (test e.1 || any test es) ≡ true
    → (lookup es key ≡ Some old → any test es ≡ true → any test (with es key value) ≡ true)
    → any test (cond b ((e.0, value) ∷ es) (e ∷ with es key value)) ≡ true
with_by test e es key old value true found passes some more =
    let here : (test old || any test es) ≡ true = ap (λ (f : Fid). test f || any test es) (sym (some_same e.1 old found)) ∙ some in
    first (test old) (test value) (any test es) here passes
  where
    first : (a b c : Bool) → (a || c) ≡ true → (a ≡ true → b ≡ true) → (b || c) ≡ true
    first true b c some passes = or_left b c (passes refl)
    first false b c some passes = or_right b c some
with_by test e es key old value false found passes some more = or_more (test e.1) (any test es) (any test (with es key value)) some (more found)

pub any_with : (test : Fid → Bool) (entries : List (ℕ × Fid)) (key : ℕ) (old value : Fid) → lookup entries key ≡ Some old → (test old ≡ true → test value ≡ true) → any test entries ≡ true → any test (with entries key value) ≡ true
any_with test [] key old value found passes some = cc found
any_with test (e ∷ es) key old value found passes some =
    with_by test e es key old value (eqb e.0 key) found passes some (λ more rest. any_with test es key old value more passes rest)

-- the value passes
set_by : (test : Fid → Bool) (e : ℕ × Fid) (es : List (ℕ × Fid)) (key : ℕ) (old value : Fid) → (b : Bool) → cond b (Some e.1) (lookup es key) ≡ Some old → test value ≡ true
    → (lookup es key ≡ Some old → any test (with es key value) ≡ true) → any test (cond b ((e.0, value) ∷ es) (e ∷ with es key value)) ≡ true
set_by test e es key old value true found passes more = or_left (test value) (any test es) passes
set_by test e es key old value false found passes more = or_right (test e.1) (any test (with es key value)) (more found)

pub any_set : (test : Fid → Bool) (entries : List (ℕ × Fid)) (key : ℕ) (old value : Fid) → lookup entries key ≡ Some old → test value ≡ true → any test (with entries key value) ≡ true
any_set test [] key old value found passes = cc found
any_set test (e ∷ es) key old value found passes = set_by test e es key old value (eqb e.0 key) found passes (λ more. any_set test es key old value more passes)

-- an entry less, which did not pass
without_by : (test : Fid → Bool) (e : ℕ × Fid) (es : List (ℕ × Fid)) (key : ℕ) (old : Fid) → (b : Bool) → cond b (Some e.1) (lookup es key) ≡ Some old → test old ≡ false
    → (lookup es key ≡ Some old → any test (without es key) ≡ any test es) → any test (cond b es (e ∷ without es key)) ≡ (test e.1 || any test es)
without_by test e es key old true found fails more = ap (λ b. b || any test es) (sym (ap test (some_same e.1 old found) ∙ fails))
without_by test e es key old false found fails more = ap (λ b. test e.1 || b) (more found)

pub any_without : (test : Fid → Bool) (entries : List (ℕ × Fid)) (key : ℕ) (old : Fid) → lookup entries key ≡ Some old → test old ≡ false → any test (without entries key) ≡ any test entries
any_without test [] key old found fails = refl
any_without test (e ∷ es) key old found fails = without_by test e es key old (eqb e.0 key) found fails (λ more. any_without test es key old more fails)

-- the entries beside one
abbrev beside : (Fid → Bool) → ℕ → List (ℕ × Fid) → Bool
beside test key entries = list_any (λ e. not (e.0 == key) && test e.1) entries

all_beside : (test : Fid → Bool) (es : List (ℕ × Fid)) (key : ℕ) → AreAbove key (keys_of es) → beside test key es ≡ any test es
all_beside test [] key above = refl
all_beside test (e ∷ es) key above =
    let other : eqb e.0 key ≡ false = not_key e.0 key (λ is. omega (arith, is, above.0)) in
    (λ j. (not (other j) && test e.1) || all_beside test es key above.1 j)

beside_by : (test : Fid → Bool) (e : ℕ × Fid) (es : List (ℕ × Fid)) (key : ℕ) → AreAbove e.0 (keys_of es) → (b : Bool) → eqb e.0 key ≡ b → beside test key es ≡ any test (without es key)
    → ((not b && test e.1) || beside test key es) ≡ any test (cond b es (e ∷ without es key))
beside_by test e es key above true at more =
    all_beside test es key (subst (λ (k : ℕ). AreAbove k (keys_of es)) (eqb-true e.0 key at) above)
beside_by test e es key above false at more = ap (λ b. test e.1 || b) more

pub any_beside : (test : Fid → Bool) (entries : List (ℕ × Fid)) (key : ℕ) → Ascend (keys_of entries) → list_any (λ e. not (e.0 == key) && test e.1) entries ≡ any test (without entries key)
any_beside test [] key ascend = refl
any_beside test (e ∷ es) key ascend = beside_by test e es key ascend.0 (eqb e.0 key) refl (any_beside test es key ascend.1)

-- ---- connections that are kept alive

pub kept_and : (fids : List (ℕ × Fid)) (connections : List ℕ) (key : ℕ) (fid : Fid) → lookup fids key ≡ None → AreKept fids connections → AreKept (and fids key fid) connections
kept_and fids connections key fid free kept n among = any_and (keeps n) fids key fid free (kept n among)

pub kept_with : (fids : List (ℕ × Fid)) (connections : List ℕ) (key : ℕ) (old fid : Fid) → lookup fids key ≡ Some old → ((n : ℕ) → keeps n old ≡ true → keeps n fid ≡ true) → AreKept fids connections → AreKept (with fids key fid) connections
kept_with fids connections key old fid found more kept n among = any_with (keeps n) fids key old fid found (more n) (kept n among)

closed_by : (a m b c d : Bool) → m ≡ false → (a && (m && b || m && c || m && d)) ≡ false
closed_by true true b c d e = cc e
closed_by true false b c d e = refl
closed_by false m b c d e = refl

-- a fid that is not open keeps none alive
pub closed_keeps : (n : ℕ) (fid : Fid) → fid.mode ≡ None → keeps n fid ≡ false
closed_keeps n fid closed = closed_by (fid.node.connection == n) (is_some fid.mode) (is_kind Ctl fid.node.kind) (is_kind Data fid.node.kind) (is_kind Refresh fid.node.kind) (ap is_some closed)

-- it keeps no other connection alive than that of its file
pub keeps_own : (n : ℕ) (fid : Fid) → keeps n fid ≡ true → fid.node.connection ≡ n
keeps_own n fid is = eqb-true fid.node.connection n (and_parts (fid.node.connection == n) _ is).0

-- ---- the connections after a fid went

pub filter_same : (p q : ℕ → Bool) (ns : List ℕ) → ((n : ℕ) → is_among ns n ≡ true → p n ≡ q n) → filter p ns ≡ filter q ns
filter_same p q [] same = refl
filter_same p q (n ∷ ns) same =
    (λ j. cond (same n (or_left (eqb n n) (is_among ns n) (eqb-same n)) j) (n ∷ filter_same p q ns more j) (filter_same p q ns more j))
  where
    more : (m : ℕ) → is_among ns m ≡ true → p m ≡ q m
    more m among = same m (or_right (eqb n m) (is_among ns m) among)

among_by : (p : ℕ → Bool) (m n : ℕ) (ms : List ℕ) (b c : Bool) → p m ≡ b → eqb m n ≡ c → is_among (cond b (m ∷ filter p ms) (filter p ms)) n ≡ true
    → (is_among (filter p ms) n ≡ true → (p n ≡ true) × (is_among ms n ≡ true)) → (p n ≡ true) × ((c || is_among ms n) ≡ true)
among_by p m n ms true true here at among more = (sym (ap p (eqb-true m n at)) ∙ here, refl)
among_by p m n ms true false here at among more = more (sym (ap (λ b. b || is_among (filter p ms) n) at) ∙ among)
among_by p m n ms false true here at among more = ((more among).0, refl)
among_by p m n ms false false here at among more = more among

-- a number among those that pass passes, and is among all
pub among_filter : (p : ℕ → Bool) (n : ℕ) (ns : List ℕ) → is_among (filter p ns) n ≡ true → (p n ≡ true) × (is_among ns n ≡ true)
among_filter p n [] among = (cc among, cc among)
among_filter p n (m ∷ ms) among = among_by p m n ms (p m) (eqb m n) refl refl among (λ more. among_filter p n ms more)

pub kept_filter : (p : ℕ → Bool) (fids : List (ℕ × Fid)) (connections : List ℕ) → AreKept fids connections → AreKept fids (filter p connections)
kept_filter p fids connections kept n among = kept n (among_filter p n connections among).1

-- those that are kept are
pub kept_again : (session : Session) (connections : List ℕ) → AreKept session.fids (filter (is_kept session) connections)
kept_again session connections n among = (among_filter (is_kept session) n connections among).0

not_true : (b : Bool) → (b ≡ true → ⊥) → b ≡ false
not_true true no_more = absurd (no_more refl)
not_true false no_more = refl

-- a connection stays that the fid does not keep alive
stays : (session : Session) (key n : ℕ) (fid : Fid) → lookup session.fids key ≡ Some fid → AreKept session.fids session.connections → is_among session.connections n ≡ true → keeps n fid ≡ false → is_kept (without_fid session key) n ≡ true
stays session key n fid found kept among fails = any_without (keeps n) session.fids key fid found fails ∙ kept n among

others_fail : (n : ℕ) (fid : Fid) → (n == fid.node.connection) ≡ false → keeps n fid ≡ false
others_fail n fid apart = not_true (keeps n fid) (λ is. false≢true (sym apart ∙ ap (λ m. m == fid.node.connection) (sym (keeps_own n fid is)) ∙ eqb-same fid.node.connection))

-- none goes where the fid keeps none alive, or others keep it too
pub none_goes : (session : Session) (key : ℕ) (fid : Fid) → lookup session.fids key ≡ Some fid → AreKept session.fids session.connections
    → (keeps fid.node.connection fid ≡ false) ⊎ (is_kept (without_fid session key) fid.node.connection ≡ true) → (n : ℕ) → is_among session.connections n ≡ true → is_kept (without_fid session key) n ≡ true
none_goes session key fid found kept cause n among = by_cases (n == fid.node.connection) refl
  where
    by_cases : (b : Bool) → (n == fid.node.connection) ≡ b → is_kept (without_fid session key) n ≡ true
    by_cases false apart = stays session key n fid found kept among (others_fail n fid apart)
    by_cases true at =
        let same : n ≡ fid.node.connection = eqb-true n fid.node.connection at in
        ⊎_elim
        (λ fails. stays session key n fid found kept among (ap (λ m. keeps m fid) same ∙ fails))
        (λ more. ap (is_kept (without_fid session key)) same ∙ more)
        cause

-- or else that one
pub one_goes : (session : Session) (key : ℕ) (fid : Fid) → lookup session.fids key ≡ Some fid → AreKept session.fids session.connections
    → is_kept (without_fid session key) fid.node.connection ≡ false → (n : ℕ) → is_among session.connections n ≡ true → is_kept (without_fid session key) n ≡ not (n == fid.node.connection)
one_goes session key fid found kept gone n among = by_cases (n == fid.node.connection) refl
  where
    by_cases : (b : Bool) → (n == fid.node.connection) ≡ b → is_kept (without_fid session key) n ≡ not b
    by_cases false apart = stays session key n fid found kept among (others_fail n fid apart)
    by_cases true at = ap (is_kept (without_fid session key)) (eqb-true n fid.node.connection at) ∙ gone

pub all_pass : (ns : List ℕ) → filter (λ n. true) ns ≡ ns
all_pass [] = refl
all_pass (n ∷ ns) = ap (λ rest. n ∷ rest) (all_pass ns)

pub none_pass : (ns : List ℕ) → filter (λ n. false) ns ≡ []
none_pass [] = refl
none_pass (n ∷ ns) = none_pass ns

twice : (b : Bool) → not (not b) ≡ b
twice true = refl
twice false = refl

-- what is left of the connections, and which end
pub all_left : (session : Session) (key : ℕ) (fid : Fid) → lookup session.fids key ≡ Some fid → AreKept session.fids session.connections
    → (keeps fid.node.connection fid ≡ false) ⊎ (is_kept (without_fid session key) fid.node.connection ≡ true)
    → (filter (is_kept (without_fid session key)) session.connections ≡ session.connections) × (filter (λ n. not (is_kept (without_fid session key) n)) session.connections ≡ [])
all_left session key fid found kept cause =
    let each = none_goes session key fid found kept cause in
    let gone = without_fid session key in (
      filter_same (is_kept gone) (λ n. true) session.connections each ∙ all_pass session.connections,
      filter_same (λ n. not (is_kept gone n)) (λ n. false) session.connections (λ n among. ap not (each n among)) ∙ none_pass session.connections,
    )

pub others_left : (session : Session) (key : ℕ) (fid : Fid) → lookup session.fids key ≡ Some fid → AreKept session.fids session.connections
    → is_kept (without_fid session key) fid.node.connection ≡ false
    → (filter (is_kept (without_fid session key)) session.connections ≡ filter (λ n. not (n == fid.node.connection)) session.connections)
    × (filter (λ n. not (is_kept (without_fid session key) n)) session.connections ≡ filter (λ n. n == fid.node.connection) session.connections)
others_left session key fid found kept gone =
    let each = one_goes session key fid found kept gone in
    let left = without_fid session key in (
      filter_same (is_kept left) (λ n. not (n == fid.node.connection)) session.connections each,
      filter_same (λ n. not (is_kept left n)) (λ n. n == fid.node.connection) session.connections (λ n among. ap not (each n among) ∙ twice (n == fid.node.connection)),
    )

-- ---- fids that are bound, and opened

opened_by : (a m b c d : Bool) → (a && (m && b || m && c || m && d)) ≡ true → (a && (true && b || true && c || true && d)) ≡ true
opened_by true true b c d e = e
opened_by true false b c d e = cc e
opened_by false m b c d e = cc e

pub opened_keeps : (n mode : ℕ) (fid : Fid) → keeps n fid ≡ true → keeps n (record fid { mode = Some mode }) ≡ true
opened_keeps n mode fid is = opened_by (fid.node.connection == n) (is_some fid.mode) (is_kind Ctl fid.node.kind) (is_kind Data fid.node.kind) (is_kind Refresh fid.node.kind) is

pub closed_more : (n : ℕ) (old new : Fid) → old.mode ≡ None → keeps n old ≡ true → keeps n new ≡ true
closed_more n old new closed is = absurd (false≢true (sym (closed_keeps n old closed) ∙ is))

-- another listing
pub same_keeps : (n : ℕ) (old new : Fid) → new.node ≡ old.node → new.mode ≡ old.mode → keeps n old ≡ true → keeps n new ≡ true
same_keeps n old new node mode is =
    (λ j. ((node j).connection == n) && (is_some (mode j) && is_kind Ctl (node j).kind || is_some (mode j) && is_kind Data (node j).kind || is_some (mode j) && is_kind Refresh (node j).kind)) ∙ is
