-- Each step keeps the rule of the lock's table.
use Rattle.std.proofs.Common.{◌≡◌, ◌≢◌, ℕ, zero, suc, ◌+◌, ◌-◌, ◌*◌, ◌/◌, ◌%◌, ◌≤◌, ◌<◌, Bool, true, false, cond, eqb, max, List, [], ◌∷◌, ◌++◌, length, get_or, set, sym, refl, ap, ◌∙◌, subst, arith, sum_by, ⊎_elim, inl, inr, ◌⊎◌, append-nil, length-append, eq-eqb, ne_eqb, Option, Some}
use mathlib.Core.Logic.{dite}
use mathlib.Core.Option.{none, some, some-injective, some-ne-none}
use mathlib.Core.Option as maybe
use native.Mathlib.Decide.{ℕ_discrete}
use lib.ListN.{get_elem?}
use lib.Seq.{set-get_or}
use prog.Atomic.{either}
use Rattle.std.specs.Prelude.{MatchBool}
use Rattle.std.proofs.lemmas.List.Sums.{sum_by-append, sum_by_push}
use Rattle.std.proofs.lemmas.Bool.{false≢true}
use Rattle.std.proofs.lemmas.Bool.Decides.{leb_tells}
use Rattle.atomic_table.specs.Table.{State, Me, step, keeps, takes, gives, rest, put_back, stepped, Allows, Splits, Joins, opening as opening_state}
use Rattle.atomic_table.proofs.Lists.{at_set, set_here, set_else, at_snoc, at_longer}
use Rattle.r9_lock.specs.Histories.{IsPrefix, numbered, longer, shorter}
use Rattle.r9_lock.specs.declared.view.View.{View}
use Rattle.r9_lock.specs.Turns.{view, spent, joined, turn_count, turns, Knows, Rests, raised, Looks, left_me, given_me, looked, compared, AtHome, Kept, took, Takes, Acts, NeverFalls, Ends, ended}
use Rattle.r9_lock.proofs.Lists.{in_range, sum_set, term_le, prefix_refl, prefix_more, prefix_both, numbered-append}

module _ {E : Type 0} where
  pub longer_cases : (xs ys : List E) → ((length xs ≤ length ys) × (longer xs ys ≡ ys) × (shorter xs ys ≡ xs)) ⊎ ((length ys ≤ length xs) × (longer xs ys ≡ xs) × (shorter xs ys ≡ ys))
  longer_cases xs ys = ⊎_elim (λ t. inl (t.1, ap (λ b. cond b ys xs) t.0, ap (λ b. cond b xs ys) t.0)) (λ t. let l = t.1 in inr (omega arith, ap (λ b. cond b ys xs) t.0, ap (λ b. cond b xs ys) t.0)) (leb_tells (length xs) (length ys))

  each_set : (P : View E → Type 0) (views : List (View E)) (id : ℕ) (w : View E) → P w → ((j : ℕ) (u : View E) → j ≢ id → get_elem? views j ≡ some u → P u) → (j : ℕ) (u : View E) → get_elem? (set views id w) j ≡ some u → P u
  each_set P views id w mine others j u at = ⊎_elim (λ (t : (j ≡ id) × (w ≡ u)). subst P t.1 mine) (λ (t : (j ≢ id) × (get_elem? views j ≡ some u)). others j u t.0 t.1) (at_set views id j w u at)

  turn_counted : (v : View E) → v.turn ≡ true → turn_count v ≡ 1
  turn_counted v on = ap (λ (b : Bool). let n : ℕ = cond b 1 0 in n) on

  pub turn_uncounted : (v : View E) → v.turn ≡ false → turn_count v ≡ 0
  turn_uncounted v off = ap (λ (b : Bool). let n : ℕ = cond b 1 0 in n) off

  turn_same : (v w : View E) → w.turn ≡ v.turn → turn_count w ≡ turn_count v
  turn_same v w same = ap (λ (b : Bool). let n : ℕ = cond b 1 0 in n) same

  no_turn : (v : View E) → turn_count v ≡ 0 → v.turn ≡ true → ⊥
  no_turn v none' on = let h = turn_counted v on in omega arith

at_most_one : (b : Bool) {n : ℕ} → n ≡ cond b 1 0 → n ≤ 1
at_most_one true e = omega arith
at_most_one false e = omega arith

module _ {T E : Type 0} (stands : T → List E → Type 0) (first : T → ℕ) (shares : ℕ) where
  abbrev V : Type 0
  V = View E

  abbrev St : Type 0
  St = State T V

  abbrev M : Type 0
  M = Me T V

  abbrev Rule : St → Type 0
  Rule = Kept stands first shares

  home_stays : (history : List E) (homes : List (maybe.Option T)) (views : List V) (id : ℕ) (v w : V) → get_elem? views id ≡ some v → length v.seen ≤ length w.seen
      → AtHome stands first history homes views → AtHome stands first history homes (set views id w)
  home_stays history homes views id v w at more h = dite (ℕ_discrete h.seat id)
      (λ e. let same : v ≡ h.knower = some-injective v h.knower (sym at ∙ (ap (get_elem? views) (sym e) ∙ h.knows)) in let n = ap (λ (u : V). length u.seen) same in let d = h.dropped in record {
        value = h.value;
        home = h.home;
        fits = h.fits;
        seat = id;
        knower = w;
        knows = set_here views id w (in_range views id v at);
        dropped = omega arith;
      })
      (λ other. record {
        value = h.value;
        home = h.home;
        fits = h.fits;
        seat = h.seat;
        knower = h.knower;
        knows = set_else views id h.seat w other ∙ h.knows;
        dropped = h.dropped;
      })

  -- the same, where another seat has seen as much
  home_moves : (history : List E) (homes : List (maybe.Option T)) (views : List V) (id other : ℕ) (b v w : V) → get_elem? views id ≡ some b → get_elem? views other ≡ some v → ¬ (other ≡ id) → length v.seen ≤ length b.seen
      → AtHome stands first history homes views → AtHome stands first history homes (set views other w)
  home_moves history homes views id other b v w there at apart more h = dite (ℕ_discrete h.seat other)
      (λ e. let same : v ≡ h.knower = some-injective v h.knower (sym at ∙ (ap (get_elem? views) (sym e) ∙ h.knows)) in let n = ap (λ (u : V). length u.seen) same in let d = h.dropped in record {
        value = h.value;
        home = h.home;
        fits = h.fits;
        seat = id;
        knower = b;
        knows = set_else views other id w (λ i. apart (sym i)) ∙ there;
        dropped = omega arith;
      })
      (λ else'. record {
        value = h.value;
        home = h.home;
        fits = h.fits;
        seat = h.seat;
        knower = h.knower;
        knows = set_else views other h.seat w else' ∙ h.knows;
        dropped = h.dropped;
      })

  -- a view changes to one that knows the same history, and has the same turn, shares and entries made
  restated : (s : St) (r : Rule s) (id : ℕ) (v w : V) → get_elem? s.views id ≡ some v → length v.seen ≤ length w.seen → w.turn ≡ v.turn → w.made ≡ v.made → w.shares ≡ v.shares → Knows r.history w
      → Rule record { words = s.words; homes = s.homes; views = set s.views id w }
  restated s r id v w at more turn made same knows = let now : turns (set s.views id w) ≡ turns s.views = omega (arith, sum_set turn_count s.views id v w at, turn_same v w turn) in record {
    history = r.history;
    word = r.word ∙ ap (λ n. (2 * length r.history + n) ∷ []) (sym now);
    one_turn = let h = r.one_turn in omega arith;
    free = λ z. home_stays r.history s.homes s.views id v w at more (r.free (sym now ∙ z));
    taken = λ z. r.taken (sym now ∙ z);
    each = each_set (Knows r.history) s.views id w knows (λ j u _ e. r.each j u e);
    made = λ weight. omega (arith, r.made weight, sum_set (λ (u : V). sum_by weight u.made) s.views id v w at, ap (sum_by weight) made);
    shared = omega (arith, r.shared, sum_set (λ (u : V). u.shares) s.views id v w at, same);
  }

  -- the same, where the word is written as it was
  reread : (s : St) (r : Rule s) (id : ℕ) (cs : List (ℕ × T)) (v w : V) → get_elem? s.views id ≡ some v → length v.seen ≤ length w.seen → w.turn ≡ v.turn → w.made ≡ v.made → w.shares ≡ v.shares → Knows r.history w
      → Rule (stepped s 0 (get_or s.words 0 0) id cs w keeps)
  reread s r id cs v w at more turn made same knows = subst (λ ws. Rule record { words = ws; homes = s.homes; views = set s.views id w }) (sym (set-get_or s.words 0 0)) (restated s r id v w at more turn made same knows)

  word_is : (s : St) (r : Rule s) → get_or s.words 0 0 ≡ 2 * length r.history + turns s.views
  word_is s r = ap (λ ws. get_or ws 0 0) r.word

  pub starts : (value : T) → stands value [] → first value ≡ 1 → 0 < shares → (slots : List T) → slots ≡ value ∷ [] → Rule (opening_state (0 ∷ []) slots (view [] [] [] 0 shares false))
  starts value fits one some_share slots is = record {
    history = [];
    word = refl;
    one_turn = omega arith;
    free = λ _. record {
      value = value;
      home = ap (λ (l : List T). Rattle.std.proofs.Common.map some l) is;
      fits = fits;
      seat = 0;
      knower = view [] [] [] 0 shares false;
      knows = refl;
      dropped = omega arith;
    };
    taken = λ z. absurd (omega arith);
    each = λ j v at. only j v at;
    made = λ weight. refl;
    shared = omega arith;
  }
    where
      only : (j : ℕ) (v : V) → get_elem? (view [] [] [] 0 shares false ∷ []) j ≡ some v → Knows [] v
      only zero v at = subst (Knows []) (some-injective (view [] [] [] 0 shares false) v at) record {
        seen = prefix_refl [];
        told = prefix_refl [];
        least = omega arith;
        turn = λ on. absurd (false≢true on);
        spent = λ none'. absurd (omega arith);
      }
      only (suc j) v at = absurd (some-ne-none v (sym at))

  pub looks : (slots id : ℕ) (me : M) → 0 < me.0.shares → Allows Rule slots id me 0 (λ n. n) (looked (step slots 0 0 0 none) me)
  looks slots id me some_share s r _ at _ = let k = r.each id me.0 at in let here = word_is s r in let few = r.one_turn in let low = k.least in let x : ℕ = get_or s.words 0 0 in
      let w : V = view me.0.seen me.0.made me.0.told (max me.0.least (x / 2)) me.0.shares me.0.turn in (
        w,
        keeps,
        tt,
        reread s r id me.1 me.0 w at (omega arith) refl refl refl record {
          seen = k.seen;
          told = k.told;
          least = omega arith;
          turn = k.turn;
          spent = λ none'. absurd (omega arith);
        },
        refl,
      )

  pub compares : (slots id : ℕ) (me : M) → Allows Rule slots id me 0 (λ n. n) (compared (step slots 0 0 0 none) me)
  compares slots id me s r _ at _ = let k = r.each id me.0 at in
      (me.0, keeps, tt, reread s r id me.1 me.0 me.0 at (omega arith) refl refl refl k, (refl, λ short. prefix_both k.told k.seen short))

  pub tries : (slots id : ℕ) (me : M) (found : ℕ) → found % 2 ≡ 0 → Rests me → Allows Rule slots id me 0 (λ n. either (eqb n found) (found + 1) n) (took stands (step slots 0 found (found + 1) none) me)
  tries slots id me found even rests s r _ at _ = let k = r.each id me.0 at in let here = word_is s r in let few = r.one_turn in let x : ℕ = get_or s.words 0 0 in let off = turn_uncounted me.0 rests.turn in dite (ℕ_discrete x found)
      (λ hit. let n : turns s.views ≡ 0 = omega arith in let h = r.free n in let w : V = view r.history me.0.made me.0.told me.0.least me.0.shares true in
      let one : turns (set s.views id w) ≡ 1 = omega (arith, sum_set turn_count s.views id me.0 w at) in (
        w,
        takes 0 h.value,
        ap (λ hs. get_elem? hs 0) h.home,
        subst (λ b. Rule (stepped s 0 (either b (found + 1) x) id me.1 w (takes 0 h.value))) (sym (eq-eqb x found hit)) record {
          history = r.history;
          word = ap (λ ws. set ws 0 (found + 1)) r.word ∙ ap (λ (n : ℕ). n ∷ []) (omega arith);
          one_turn = omega arith;
          free = λ z. absurd (omega arith);
          taken = λ _. ap (λ (hs : List (maybe.Option T)). set hs 0 none) h.home;
          each = each_set (Knows r.history) s.views id w record {
            seen = prefix_refl r.history;
            told = k.told;
            least = k.least;
            turn = λ _. refl;
            spent = λ none'. let some_share = rests.share in absurd (omega arith);
          } (λ j u _ e. r.each j u e);
          made = λ weight. omega (arith, r.made weight, sum_set (λ (u : V). sum_by weight u.made) s.views id me.0 w at);
          shared = omega (arith, r.shared, sum_set (λ (u : V). u.shares) s.views id me.0 w at);
        },
        (
          (λ _. record {
            carries = record { value = h.value; slot = ap (λ (l : List (ℕ × T)). (0, h.value) ∷ l) rests.slot; fits = h.fits };
            begins = k.seen;
            counted = omega arith;
            more = omega arith;
            known = k.least;
            now = refl;
          }),
          λ miss. absurd (miss hit),
        ),
      ))
      (λ miss. (
        me.0,
        keeps,
        tt,
        subst (λ b. Rule (stepped s 0 (either b (found + 1) x) id me.1 me.0 keeps)) (sym (ne_eqb x found miss)) (reread s r id me.1 me.0 me.0 at (omega arith) refl refl refl k),
        ((λ hit. absurd (miss hit)), λ _. refl),
      ))

  -- the turn ends, and an entry or none goes onto the history
  pub ends : {K A : Type 0} (acts : List E → K → A → List E → Type 0) (ask : K) (answer : A) (told : Option (K × A)) (slots id : ℕ) (me : M) (word : ℕ) → told ≡ Some (ask, answer)
      → ((v : T) (h : List E) → stands v h → first v ≤ length h + 1) → me.0.turn ≡ true → 0 < me.0.shares → (entered : Bool) (a : Acts stands acts ask answer entered me) → 2 * (length me.0.seen + length a.entry) ≡ word
      → Allows Rule slots id me 0 (λ _. word) (λ _. ended stands acts told (step slots 0 word 0 none) me word)
  ends {K} {A} acts ask answer told slots id me word is low on some_share entered a counted s r _ at _ = let k = r.each id me.0 at in let few = r.one_turn in let mine = turn_counted me.0 on in
      let one : turns s.views ≡ 1 = omega (arith, term_le turn_count s.views id me.0 at) in let whole : me.0.seen ≡ r.history = k.turn on in
      let history : List E = me.0.seen ++ a.entry in let made : List (ℕ × E) = me.0.made ++ numbered (length me.0.seen + 1) a.entry in
      let w : V = view history made me.0.told me.0.least me.0.shares false in let views : List V = set s.views id w in
      let none' : turns views ≡ 0 = omega (arith, sum_set turn_count s.views id me.0 w at) in
      let long : length history ≡ length me.0.seen + length a.entry = length-append me.0.seen a.entry in
      let back : put_back s.homes me.1 ≡ some a.value ∷ [] = ap (put_back s.homes) a.slot ∙ ap (λ (hs : List (maybe.Option T)). set hs 0 (some a.value)) (r.taken one) in
      let further : (xs : List E) → IsPrefix xs r.history → IsPrefix xs history = λ xs p. prefix_more a.entry (subst (IsPrefix xs) (sym whole) p) in
      let lowest : me.0.least ≤ length me.0.seen = subst (λ l. me.0.least ≤ length l) (sym whole) k.least in (
        w,
        gives,
        tt,
        record {
          history = history;
          word = ap (λ ws. set ws 0 word) r.word ∙ ap (λ (n : ℕ). n ∷ []) (omega arith);
          one_turn = omega arith;
          free = λ _. record {
            value = a.value;
            home = back;
            fits = a.fits;
            seat = id;
            knower = w;
            knows = set_here s.views id w (in_range s.views id me.0 at);
            dropped = low a.value history a.fits;
          };
          taken = λ z. absurd (omega arith);
          each = λ j u there. each_set (λ u. turn_count u ≤ 0 → Knows history u) s.views id w
              (λ _. record {
                seen = prefix_refl history;
                told = further me.0.told k.told;
                least = omega arith;
                turn = λ z. absurd (false≢true z);
                spent = λ z. absurd (omega arith);
              })
              (λ j u _ e idle. let q = r.each j u e in let least = q.least in let same = ap length whole in record {
                seen = further u.seen q.seen;
                told = further u.told q.told;
                least = omega arith;
                turn = λ z. absurd (no_turn u (omega arith) z);
                spent = q.spent;
              })
              j u there (let t = term_le turn_count views j u there in omega arith);
          made = λ weight. omega (
            arith,
            r.made weight,
            sum_set (λ (u : V). sum_by weight u.made) s.views id me.0 w at,
            sum_by-append weight me.0.made (numbered (length me.0.seen + 1) a.entry),
            sum_by-append weight (numbered 1 me.0.seen) (numbered (length me.0.seen + 1) a.entry),
            ap (sum_by weight) (numbered-append 1 me.0.seen a.entry ∙ ap (λ n. numbered 1 me.0.seen ++ numbered n a.entry) one_more),
            ap (λ l. sum_by weight (numbered 1 l)) whole,
          );
          shared = omega (arith, r.shared, sum_set (λ (u : V). u.shares) s.views id me.0 w at);
        },
        (λ k' a' told_is. let same : (ask, answer) ≡ (k', a') = some_same (sym is ∙ told_is) in (
          subst (λ (z : K × A). Ends stands acts z.0 z.1 me (w, rest me.1)) same record {
            entry = a.entry;
            one = at_most_one entered a.one;
            acted = a.acted;
            value = a.value;
            slot = a.slot;
            fits = a.fits;
            now = ap (λ (l : List (ℕ × T)). (w, rest l)) a.slot;
          },
          ap (λ n. 2 * n) long ∙ counted,
        )),
      )
    where
      one_more : 1 + length me.0.seen ≡ length me.0.seen + 1
      one_more = omega arith

      some_same : {x y : K × A} → Some x ≡ Some y → x ≡ y
      some_same e = cc

  pub splits : (id : ℕ) (me : M) (portion : ℕ) → me.0.turn ≡ false → 0 < portion → portion < me.0.shares → Splits Rule id me.0 (left_me me portion).0 (given_me me portion).0
  splits id me portion off some_share more s r at = let left : V = (left_me me portion).0 in let right : V = (given_me me portion).0 in let k = r.each id me.0 at in let views : List V = set s.views id left in
      let now : turns (views ++ right ∷ []) ≡ turns s.views = omega (arith, sum_by_push turn_count views right, sum_set turn_count s.views id me.0 left at) in record {
        history = r.history;
        word = r.word ∙ ap (λ n. (2 * length r.history + n) ∷ []) (sym now);
        one_turn = let h = r.one_turn in omega arith;
        free = λ z. let h = home_stays r.history s.homes s.views id me.0 left at (omega arith) (r.free (sym now ∙ z)) in record {
          value = h.value;
          home = h.home;
          fits = h.fits;
          seat = h.seat;
          knower = h.knower;
          knows = at_longer views (right ∷ []) h.seat h.knower h.knows;
          dropped = h.dropped;
        };
        taken = λ z. r.taken (sym now ∙ z);
        each = λ j u there. ⊎_elim (each_set (Knows r.history) s.views id left record {
          seen = k.seen;
          told = k.told;
          least = k.least;
          turn = k.turn;
          spent = λ z. absurd (omega arith);
        } (λ j u _ e. r.each j u e) j u)
            (λ (t : right ≡ u). subst (Knows r.history) t record {
              seen = k.seen;
              told = record { rest = r.history; is = refl };
              least = k.least;
              turn = λ z. absurd (false≢true z);
              spent = λ z. absurd (omega arith);
            })
            (at_snoc views right u j there);
        made = λ weight. omega (arith, r.made weight, sum_by_push (λ (u : V). sum_by weight u.made) views right, sum_set (λ (u : V). sum_by weight u.made) s.views id me.0 left at);
        shared = omega (arith, r.shared, sum_by_push (λ (u : V). u.shares) views right, sum_set (λ (u : V). u.shares) s.views id me.0 left at);
      }

  pub joins : (id : ℕ) (v : V) (other : ℕ) (w : V) → v.turn ≡ false → w.turn ≡ false → 0 < v.shares → Joins Rule id v other w (joined v w) spent
  joins id v other w off off' some_share s r at apart there = let both : V = joined v w in let kept : List V = set s.views id both in let views : List V = set kept other spent in
      let k = r.each id v at in let here : get_elem? s.views other ≡ some w = sym (set_else s.views id other both apart) ∙ there in let q = r.each other w here in
      let o = turn_uncounted v off in let o' = turn_uncounted w off' in let cases = longer_cases v.seen w.seen in
      let now : turns views ≡ turns s.views = omega (arith, sum_set turn_count s.views id v both at, sum_set turn_count kept other w spent there) in
      let mine : get_elem? views id ≡ some both = set_else kept other id spent (λ e. apart (sym e)) ∙ set_here s.views id both (in_range s.views id v at) in
      let long : (length v.seen ≤ length both.seen) × (length w.seen ≤ length both.seen) = ⊎_elim
      (λ (t : (length v.seen ≤ length w.seen) × (both.seen ≡ w.seen) × (both.told ≡ v.seen)). let n = ap length t.1 in let l = t.0 in (omega arith, omega arith))
      (λ (t : (length w.seen ≤ length v.seen) × (both.seen ≡ v.seen) × (both.told ≡ w.seen)). let n = ap length t.1 in let l = t.0 in (omega arith, omega arith)) cases in record {
        history = r.history;
        word = r.word ∙ ap (λ n. (2 * length r.history + n) ∷ []) (sym now);
        one_turn = let h = r.one_turn in omega arith;
        free = λ z. home_moves r.history s.homes kept id other both w spent (set_here s.views id both (in_range s.views id v at)) there apart long.1
            (home_stays r.history s.homes s.views id v both at long.0 (r.free (sym now ∙ z)));
        taken = λ z. r.taken (sym now ∙ z);
        each = each_set (Knows r.history) kept other spent record {
          seen = record { rest = r.history; is = refl };
          told = record { rest = r.history; is = refl };
          least = omega arith;
          turn = λ z. absurd (false≢true z);
          spent = λ _. refl;
        } (λ j u _ e. each_set (Knows r.history) s.views id both record {
          seen = ⊎_elim (λ (t : (length v.seen ≤ length w.seen) × (both.seen ≡ w.seen) × (both.told ≡ v.seen)). subst (λ l. IsPrefix l r.history) (sym t.1) q.seen)
              (λ (t : (length w.seen ≤ length v.seen) × (both.seen ≡ v.seen) × (both.told ≡ w.seen)). subst (λ l. IsPrefix l r.history) (sym t.1) k.seen) cases;
          told = ⊎_elim (λ (t : (length v.seen ≤ length w.seen) × (both.seen ≡ w.seen) × (both.told ≡ v.seen)). subst (λ l. IsPrefix l r.history) (sym t.2) k.seen)
              (λ (t : (length w.seen ≤ length v.seen) × (both.seen ≡ v.seen) × (both.told ≡ w.seen)). subst (λ l. IsPrefix l r.history) (sym t.2) q.seen) cases;
          least = let a = k.least in let b = q.least in omega arith;
          turn = λ z. absurd (false≢true (sym off ∙ z));
          spent = λ z. absurd (omega arith);
        } (λ j u _ e. r.each j u e) j u e);
        made = λ weight. omega (arith, r.made weight, sum_set (λ (u : V). sum_by weight u.made) s.views id v both at, sum_set (λ (u : V). sum_by weight u.made) kept other w spent there, sum_by-append weight v.made w.made);
        shared = omega (arith, r.shared, sum_set (λ (u : V). u.shares) s.views id v both at, sum_set (λ (u : V). u.shares) kept other w spent there);
      }

module _ {T E : Type 0} where
  pub looks_none : (m : Me T (View E)) → Looks m m
  looks_none m = record { more = omega arith; now = refl }

  pub looks_more : (m n p : Me T (View E)) (k : ℕ) → Looks m n → p ≡ raised n (max n.0.least k) → Looks m p
  looks_more m n p k l e = let most = ap (λ (z : Me T (View E)). z.0.least) e in let more = l.more in record {
    more = omega arith;
    now = e ∙ (ap (λ (z : Me T (View E)). raised z (max n.0.least k)) l.now ∙ ap (raised m) (sym most));
  }

  pub looks_on : (m n p : Me T (View E)) → Looks m n → Looks n p → Looks m p
  looks_on m n p l k = let more = l.more in let more' = k.more in record { more = omega arith; now = k.now ∙ ap (λ (z : Me T (View E)). raised z p.0.least) l.now }

  pub looks_once : (m p : Me T (View E)) (k : ℕ) → p ≡ raised m (max m.0.least k) → Looks m p
  looks_once m p k e = looks_more m m p k (looks_none m) e

  -- a seat that looked and then took the turn
  pub takes_looked : (stands : T → List E → Type 0) (found : ℕ) (m n p : Me T (View E)) → Looks m n → Takes stands found n p → Takes stands found m p
  takes_looked stands found m n p l t = let more = l.more in let more' = t.more in record {
    carries = t.carries;
    begins = subst (λ (z : Me T (View E)). IsPrefix z.0.seen p.0.seen) l.now t.begins;
    counted = t.counted;
    more = omega arith;
    known = t.known;
    now = t.now ∙ ap (λ (z : Me T (View E)). view p.0.seen z.0.made z.0.told p.0.least z.0.shares true) l.now;
  }

  pub rests_still : (m n : Me T (View E)) → Looks m n → Rests m → Rests n
  rests_still m n l r = subst Rests (sym l.now) record { turn = r.turn; slot = r.slot; share = r.share }

  -- what an act did, as a turn needs it
  pub acted : {K A : Type 0} (stands : T → List E → Type 0) (acts : List E → K → A → List E → Type 0) (ask : K) (answer : A) (me : Me T (View E)) (new : T) (b : Bool) (after : List E)
      → me.1 ≡ (0, new) ∷ [] → stands new after → acts me.0.seen ask answer after → MatchBool b ((e : E) × (after ≡ me.0.seen ++ e ∷ [])) (after ≡ me.0.seen)
      → Acts stands acts ask answer b me
  acted stands acts ask answer me new true after slot fits act grown = record {
    entry = grown.0 ∷ [];
    one = refl;
    acted = subst (acts me.0.seen ask answer) grown.1 act;
    value = new;
    slot = slot;
    fits = subst (stands new) grown.1 fits;
  }
  acted stands acts ask answer me new false after slot fits act grown = let same : after ≡ me.0.seen ++ [] = grown ∙ sym (append-nil me.0.seen) in record {
    entry = [];
    one = refl;
    acted = subst (acts me.0.seen ask answer) same act;
    value = new;
    slot = slot;
    fits = subst (stands new) same fits;
  }

  -- the slot that is lent holds the value that the seat carries
  pub lent : (me : Me T (View E)) (value found : T) → me.1 ≡ (0, value) ∷ [] → me.1 ≡ (0, found) ∷ rest me.1 → value ≡ found
  lent me value found slot e = ap (λ (l : List (ℕ × T)). (get_or l 0 (0, value)).1) (sym slot ∙ e)

  -- the first number of the value in the slot, after an act that did not lower it
  pub never_falls : (first : T → ℕ) (m n : Me T (View E)) (found left : T) → m.1 ≡ (0, found) ∷ rest m.1 → n.1 ≡ (0, left) ∷ rest m.1 → first found ≤ first left → NeverFalls first m n
  never_falls first m n found left slot slot' low old new was is = let e : found ≡ old = ap (λ (l : List (ℕ × T)). (get_or l 0 (0, old)).1) (sym slot ∙ was) in
      let e' : left ≡ new = ap (λ (l : List (ℕ × T)). (get_or l 0 (0, new)).1) (sym slot' ∙ is) in subst (λ (v : T). first v ≤ first new) e (subst (λ (v : T). first found ≤ first v) e' low)
