-- Each turn of the server leaves the draw device with the connections of the sessions.
use Rattle.std.proofs.Common.{◌≡◌, ◌<◌, ◌≤◌, ◌+◌, ◌^◌, ◌&&◌, ◌||◌, ℕ, Bool, true, false, not, cond, eqb, List, [], ◌∷◌, ◌++◌, Option, refl, sym, ap, subst, ◌∙◌, arith}
use Rattle.std.specs.Prelude.{filter, is_some, map}
use Rattle.std.specs.List.{fold, list_any}
use Rattle.std.specs.Map.{keys_of}
use Rattle.std.proofs.lemmas.Bool.{eqb-true, eqb-false}
use Rattle.std.proofs.lemmas.List.Folds.{list_any-append}
use Rattle.std.proofs.lemmas.Map.Made.{is_some-lookup}
use Rattle.std.proofs.lemmas.Map.Views.{any-filter_same}
use Rattle.model_text.specs.text.Map.{is_key, lookup, without}
use Rattle.model_text.specs.map.Ascending.{AreAbove, Ascend}
use Rattle.model_text.proofs.map.Keys.{not_key, eqb-same}
use Rattle.model_text.proofs.map.Maps.{and-here, and-others, without-others}
use Rattle.model_text.proofs.map.Ascending.{without-here, ascend-and, ascend-without}
use Rattle.model_draw_parts.specs.images.Release.{leave}
use Rattle.model_draw.specs.draw.World as draw
use Rattle.model_world.specs.Session.{Session}
use Rattle.model_world.specs.Outside.{Outside}
use Rattle.model_world.specs.Fids.{cleared, fids_gone, left_by, let_go, settled}
use Rattle.model_world.specs.Whole.{client}
use Rattle.model_world.specs.Links.{AreWithin, IsLinked, KeepsOthers, is_connected, is_among}
use Rattle.model_world.proofs.Connections.{numbers_of, freed_kept}

client_is : (c n m : ℕ) → client c n ≡ client c m → n ≡ m
client_is c n m same = omega (arith, same)

client_eqb : (c m n : ℕ) → eqb (client c m) (client c n) ≡ eqb m n
client_eqb c m n = by (eqb m n) refl
  where
    by : (b : Bool) → eqb m n ≡ b → eqb (client c m) (client c n) ≡ b
    by true at = let is : m ≡ n = eqb-true m n at in subst (λ (k : ℕ). eqb (client c m) (client c k) ≡ true) is (eqb-same (client c m))
    by false at = not_key (client c m) (client c n) (λ same. eqb-false m n at (client_is c m n same))

-- ---- a connection ends

left_clients : (device : draw.World) (k : ℕ) → (draw.after_leave device k).clients ≡ without device.clients k
left_clients device k = ap (λ (clients : List (ℕ × draw.Client)). without clients k) (freed_kept device (leave device.book k))

left_here : (device : draw.World) (k : ℕ) → Ascend (numbers_of device) → is_connected (draw.after_leave device k) k ≡ false
left_here device k ordered =
    ap (λ (clients : List (ℕ × draw.Client)). is_some (lookup clients k)) (left_clients device k)
    ∙ ap (λ (found : Option draw.Client). is_some found) (without-here device.clients k ordered)

pub left_others : (device : draw.World) (k j : ℕ) → (j ≡ k → ⊥) → is_connected (draw.after_leave device k) j ≡ is_connected device j
left_others device k j apart =
    ap (λ (clients : List (ℕ × draw.Client)). is_some (lookup clients j)) (left_clients device k)
    ∙ ap (λ (found : Option draw.Client). is_some found) (without-others device.clients k j apart)

pub left_ordered : (device : draw.World) (k : ℕ) → Ascend (numbers_of device) → Ascend (numbers_of (draw.after_leave device k))
left_ordered device k ordered =
    subst (λ (clients : List (ℕ × draw.Client)). Ascend (keys_of clients)) (sym (left_clients device k)) (ascend-without device.clients k ordered)

-- ---- some connections of a session end

-- one of a session's connections ends
abbrev pub leaves : (c : ℕ) → draw.World → (n : ℕ) → draw.World
leaves c device n = draw.after_leave device (client c n)

pub all_ordered : (c : ℕ) (gone : List ℕ) (device : draw.World) → Ascend (numbers_of device) → Ascend (numbers_of (fold (leaves c) device gone))
all_ordered c [] device ordered = ordered
all_ordered c (n ∷ ns) device ordered = all_ordered c ns (draw.after_leave device (client c n)) (left_ordered device (client c n) ordered)

and_true : (b : Bool) → b ≡ (b && true)
and_true true = refl
and_true false = refl

and_false : (b : Bool) → false ≡ (b && false)
and_false true = refl
and_false false = refl

one_left : (c n k : ℕ) (ns : List ℕ) (device : draw.World) → Ascend (numbers_of device) → (b : Bool) → eqb (client c n) k ≡ b
    → (is_connected (draw.after_leave device (client c n)) k && not (list_any (λ m. eqb (client c m) k) ns)) ≡ (is_connected device k && not (b || list_any (λ m. eqb (client c m) k) ns))
one_left c n k ns device ordered true at =
    let is : client c n ≡ k = eqb-true (client c n) k at in
    let gone : is_connected (draw.after_leave device (client c n)) k ≡ false =
    subst (λ (j : ℕ). is_connected (draw.after_leave device (client c n)) j ≡ false) is (left_here device (client c n) ordered) in
    ap (λ (b : Bool). b && not (list_any (λ m. eqb (client c m) k) ns)) gone ∙ and_false (is_connected device k)
one_left c n k ns device ordered false at =
    ap (λ (b : Bool). b && not (list_any (λ m. eqb (client c m) k) ns)) (left_others device (client c n) k (λ is. eqb-false (client c n) k at (sym is)))

pub all_left : (c : ℕ) (gone : List ℕ) (device : draw.World) (k : ℕ) → Ascend (numbers_of device)
    → is_connected (fold (leaves c) device gone) k ≡ (is_connected device k && not (list_any (λ n. eqb (client c n) k) gone))
all_left c [] device k ordered = and_true (is_connected device k)
all_left c (n ∷ ns) device k ordered =
    all_left c ns (draw.after_leave device (client c n)) k (left_ordered device (client c n) ordered) ∙ one_left c n k ns device ordered (eqb (client c n) k) refl

among_clients : (c n : ℕ) (ns : List ℕ) → list_any (λ m. eqb (client c m) (client c n)) ns ≡ is_among ns n
among_clients c n [] = refl
among_clients c n (m ∷ ms) =
    ap (λ (b : Bool). b || list_any (λ m. eqb (client c m) (client c n)) ms) (client_eqb c m n) ∙ ap (λ (b : Bool). eqb m n || b) (among_clients c n ms)

none_among : (c made k : ℕ) (ns : List ℕ) → made < 2 ^ 26 → AreWithin made ns → ((n : ℕ) → n < 2 ^ 26 → k ≡ client c n → ⊥) → list_any (λ m. eqb (client c m) k) ns ≡ false
none_among c made k [] few within other = refl
none_among c made k (n ∷ ns) few within other =
    let apart : eqb (client c n) k ≡ false = not_key (client c n) k (λ is. other n (omega (arith, within.0)) (sym is)) in
    ap (λ (b : Bool). b || list_any (λ m. eqb (client c m) k) ns) apart ∙ none_among c made k ns few within.1 other

pub within_filter : (p : ℕ → Bool) (most : ℕ) (ns : List ℕ) → AreWithin most ns → AreWithin most (filter p ns)
within_filter p most [] within = tt
within_filter p most (n ∷ ns) within =
    elim (p n) as (λ b. AreWithin most (cond b (n ∷ filter p ns) (filter p ns))) [
      | true ↦ (within.0, within_filter p most ns within.1)
      | false ↦ within_filter p most ns within.1
    ]

pub above_filter : (p : ℕ → Bool) (n : ℕ) (ns : List ℕ) → AreAbove n ns → AreAbove n (filter p ns)
above_filter p n [] above = tt
above_filter p n (m ∷ ms) above =
    elim (p m) as (λ b. AreAbove n (cond b (m ∷ filter p ms) (filter p ms))) [
      | true ↦ (above.0, above_filter p n ms above.1)
      | false ↦ above_filter p n ms above.1
    ]

pub ascend_filter : (p : ℕ → Bool) (ns : List ℕ) → Ascend ns → Ascend (filter p ns)
ascend_filter p [] ascend = tt
ascend_filter p (n ∷ ns) ascend =
    elim (p n) as (λ b. Ascend (cond b (n ∷ filter p ns) (filter p ns))) [
      | true ↦ (above_filter p n ns ascend.0, ascend_filter p ns ascend.1)
      | false ↦ ascend_filter p ns ascend.1
    ]

among_filter : (p : ℕ → Bool) (n : ℕ) (ns : List ℕ) → is_among (filter p ns) n ≡ (p n && is_among ns n)
among_filter p n ns = any-filter_same (λ m. eqb m n) p (p n) (λ m at. ap p (eqb-true m n at)) ns

kept_or_left : (among passes : Bool) → (among && not (not passes && among)) ≡ (passes && among)
kept_or_left true true = refl
kept_or_left true false = refl
kept_or_left false true = refl
kept_or_left false false = refl

-- those that pass a test stay, and the others end
pub kept_linked : (c made : ℕ) (connections : List ℕ) (device : draw.World) (p : ℕ → Bool) → IsLinked c made connections device
    → IsLinked c made (filter p connections) (fold (leaves c) device (filter (λ n. not (p n)) connections))
kept_linked c made connections device p linked = record {
  counted = record {
    few = linked.counted.few;
    within = within_filter p made connections linked.counted.within;
    ascending = ascend_filter p connections linked.counted.ascending;
  };
  ordered = all_ordered c (filter (λ n. not (p n)) connections) device linked.ordered;
  linked = λ n few. all_left c (filter (λ n. not (p n)) connections) device (client c n) linked.ordered
      ∙ ap (λ (b : Bool). is_connected device (client c n) && not b) (among_clients c n (filter (λ n. not (p n)) connections) ∙ among_filter (λ n. not (p n)) n connections)
      ∙ ap (λ (b : Bool). b && not (not (p n) && is_among connections n)) (linked.linked n few)
      ∙ kept_or_left (is_among connections n) (p n)
      ∙ sym (among_filter p n connections);
}

pub kept_others : (c made : ℕ) (connections gone : List ℕ) (device : draw.World) → IsLinked c made connections device → AreWithin made gone
    → KeepsOthers c device (fold (leaves c) device gone)
kept_others c made connections gone device linked within = λ k other.
    all_left c gone device k linked.ordered
    ∙ ap (λ (b : Bool). is_connected device k && not b) (none_among c made k gone linked.counted.few within other)
    ∙ sym (and_true (is_connected device k))

pub filter_none : (ns : List ℕ) → filter (λ _. false) ns ≡ []
filter_none [] = refl
filter_none (n ∷ ns) = filter_none ns

filter_all : (ns : List ℕ) → filter (λ _. true) ns ≡ ns
filter_all [] = refl
filter_all (n ∷ ns) = ap (λ (l : List ℕ). n ∷ l) (filter_all ns)

-- all end
pub cleared_linked : (c made : ℕ) (connections : List ℕ) (device : draw.World) → IsLinked c made connections device → IsLinked c made [] (fold (leaves c) device connections)
cleared_linked c made connections device linked =
    subst (λ (l : List ℕ). IsLinked c made l (fold (leaves c) device connections)) (filter_none connections)
    (subst (λ (l : List ℕ). IsLinked c made (filter (λ _. false) connections) (fold (leaves c) device l)) (filter_all connections) (kept_linked c made connections device (λ _. false) linked))

-- what a session leaves all of whose fids go
pub cleared_is : {S : Type 0} (outside : Outside S) (session : Session) (rest : S)
    → cleared outside session rest
    ≡ (
      record session { fids = []; waiting = []; connections = [] },
      outside.left (fold (let_go outside) (fold outside.leave rest session.connections) (map (λ entry. entry.1) session.fids)) (left_by (record session { fids = [] }) (map (λ entry. entry.1) session.fids)),
    )
unfolding fids_gone settled
cleared_is outside session rest = λ i. (
  record session { fids = []; waiting = []; connections = filter_none session.connections i },
  outside.left (fold (let_go outside) (fold outside.leave rest (filter_all session.connections i)) (map (λ entry. entry.1) session.fids)) (left_by (record session { fids = [] }) (map (λ entry. entry.1) session.fids)),
)

-- ---- a connection begins

within_more : (made : ℕ) (ns : List ℕ) → AreWithin made ns → AreWithin (made + 1) (ns ++ (made + 1) ∷ [])
within_more made [] within = (omega arith, tt)
within_more made (n ∷ ns) within = (omega (arith, within.0), within_more made ns within.1)

above_more : (n made : ℕ) (ns : List ℕ) → n ≤ made → AreAbove n ns → AreAbove n (ns ++ (made + 1) ∷ [])
above_more n made [] le above = (omega arith, tt)
above_more n made (m ∷ ms) le above = (above.0, above_more n made ms le above.1)

ascend_more : (made : ℕ) (ns : List ℕ) → AreWithin made ns → Ascend ns → Ascend (ns ++ (made + 1) ∷ [])
ascend_more made [] within ascend = (tt, tt)
ascend_more made (n ∷ ns) within ascend = (above_more n made ns within.0 ascend.0, ascend_more made ns within.1 ascend.1)

pub among_none : (made n : ℕ) (ns : List ℕ) → AreWithin made ns → made < n → is_among ns n ≡ false
among_none made n [] within above = refl
among_none made n (m ∷ ms) within above =
    let apart : eqb m n ≡ false = not_key m n (λ is. omega (arith, is, within.0)) in
    ap (λ (b : Bool). b || is_among ms n) apart ∙ among_none made n ms within.1 above

among_more : (made n : ℕ) (ns : List ℕ) → is_among (ns ++ (made + 1) ∷ []) n ≡ (is_among ns n || eqb (made + 1) n)
among_more made n ns = list_any-append (λ m. eqb m n) ns ((made + 1) ∷ []) ∙ ap (λ (b : Bool). is_among ns n || b) (or_false (eqb (made + 1) n))
  where
    or_false : (b : Bool) → (b || false) ≡ b
    or_false true = refl
    or_false false = refl

or_true : (b : Bool) → (b || true) ≡ true
or_true true = refl
or_true false = refl

or_none : (b : Bool) → (b || false) ≡ b
or_none true = refl
or_none false = refl

connected_here : (device : draw.World) (k : ℕ) → is_connected (draw.after_connect device k) k ≡ true
connected_here device k = ap (λ (found : Option draw.Client). is_some found) (and-here device.clients k draw.new_client)

connected_others : (device : draw.World) (k j : ℕ) → (j ≡ k → ⊥) → is_connected (draw.after_connect device k) j ≡ is_connected device j
connected_others device k j apart = ap (λ (found : Option draw.Client). is_some found) (and-others device.clients k j draw.new_client apart)

pub begun_linked : (c made : ℕ) (connections : List ℕ) (device : draw.World) → made + 1 < 2 ^ 26 → IsLinked c made connections device
    → IsLinked c (made + 1) (connections ++ (made + 1) ∷ []) (draw.after_connect device (client c (made + 1)))
begun_linked c made connections device room linked = record {
  counted = record {
    few = room;
    within = within_more made connections linked.counted.within;
    ascending = ascend_more made connections linked.counted.within linked.counted.ascending;
  };
  ordered = ascend-and device.clients (client c (made + 1)) draw.new_client linked.ordered;
  linked = λ n few. at n few (eqb (made + 1) n) refl ∙ sym (among_more made n connections);
}
  where
    at : (n : ℕ) → n < 2 ^ 26 → (b : Bool) → eqb (made + 1) n ≡ b → is_connected (draw.after_connect device (client c (made + 1))) (client c n) ≡ (is_among connections n || eqb (made + 1) n)
    at n few true is =
        let same : made + 1 ≡ n = eqb-true (made + 1) n is in
        subst (λ (m : ℕ). is_connected (draw.after_connect device (client c (made + 1))) (client c m) ≡ true) same (connected_here device (client c (made + 1)))
        ∙ sym (ap (λ (b : Bool). is_among connections n || b) is ∙ or_true (is_among connections n))
    at n few false is =
        connected_others device (client c (made + 1)) (client c n) (λ same. eqb-false (made + 1) n is (sym (client_is c n (made + 1) same)))
        ∙ linked.linked n few
        ∙ sym (ap (λ (b : Bool). is_among connections n || b) is ∙ or_none (is_among connections n))

pub begun_others : (c n : ℕ) (device : draw.World) → n < 2 ^ 26 → KeepsOthers c device (draw.after_connect device (client c n))
begun_others c n device few = λ k other. connected_others device (client c n) k (other n few)

-- ---- the connections stay

same_connected : (before after : draw.World) (k : ℕ) → numbers_of after ≡ numbers_of before → is_connected after k ≡ is_connected before k
same_connected before after k same =
    is_some-lookup (is_key k) after.clients ∙ ap (λ (ks : List ℕ). list_any (is_key k) ks) same ∙ sym (is_some-lookup (is_key k) before.clients)

pub same_linked : (c made : ℕ) (connections : List ℕ) (before after : draw.World) → numbers_of after ≡ numbers_of before → IsLinked c made connections before → IsLinked c made connections after
same_linked c made connections before after same linked = record {
  counted = linked.counted;
  ordered = subst (λ (ks : List ℕ). Ascend ks) (sym same) linked.ordered;
  linked = λ n few. same_connected before after (client c n) same ∙ linked.linked n few;
}

pub same_others : (c : ℕ) (before after : draw.World) → numbers_of after ≡ numbers_of before → KeepsOthers c before after
same_others c before after same = λ k other. same_connected before after k same
