-- A table under names, by the bytes of the names.
use Rattle.std.proofs.Common.{◌≡◌, ℕ, Bool, true, false, cond, List, [], ◌∷◌, Option, Some, None, refl, sym, ap, ◌∙◌}
use Rattle.std.specs.Str.{bytes_eq}
use Rattle.std.specs.Cmp.Lexicographic.{bytes_decides, nat_list_eq_equiv}
use Rattle.std.specs.HashMap as hash
use Rattle.std.specs.HashMap.{HashMap}
use Rattle.std.specs.Map.{lookup, IsKeyTest, AreApart, KeepsOthers}
use Rattle.std.specs.declared.vec.Vec.{Vec}
use Rattle.r9_ids.specs.ties.Kept.{named}

apart : (bs cs ks : List ℕ) → bytes_eq bs cs ≡ false → bytes_eq bs ks ≡ true → bytes_eq cs ks ≡ false
apart bs cs ks n y = nat_list_eq_equiv.symm cs ks ∙ sym (nat_list_eq_equiv.congr bs ks cs y) ∙ n

others : {K X : Type 0} (eq : K → K → Bool) (test : K → Bool) (old new : List (K × X)) → KeepsOthers eq test old new → (other : K → Bool) → IsKeyTest eq other → AreApart test other → lookup other new ≡ lookup other old
unfolding KeepsOthers
others eq test old new h = h

abbrev vec_eq : {Y : Type 0} → Vec ℕ Y → Vec ℕ Y → Bool
vec_eq x y = bytes_eq x.items y.items

-- what a change at one name leaves at any name
pub named-updates : {X Y S : Type 0} (bs : List ℕ) (m n : HashMap (Vec ℕ Y) X S) (w : Option X) → hash.UpdatesBy (λ x y. bytes_eq x.items y.items) (λ k. bytes_eq bs k.items) m n w
    → (cs : List ℕ) → named n cs ≡ cond (bytes_eq bs cs) w (named m cs)
named-updates bs m n w h cs = by (bytes_eq bs cs) refl
  where
    by : (t : Bool) → bytes_eq bs cs ≡ t → named n cs ≡ cond t w (named m cs)
    by true at = ap (named n) (sym ((bytes_decides bs cs).0 at)) ∙ h.1
    by false at = others vec_eq (λ k. bytes_eq bs k.items) m.entries n.entries h.3 (λ k. bytes_eq cs k.items) (λ x y. nat_list_eq_equiv.congr cs x.items y.items) (λ k. apart bs cs k.items at)

-- a key that passes, where something is found
key-found : {K X : Type 0} (test : K → Bool) (es : List (K × X)) (x : X) → lookup test es ≡ Some x → (k : K) × (test k ≡ true)
key-found test [] x h = absurd cc
key-found test (e ∷ es) x h = by (key-found test es x) (test e.0) refl h
  where
    by : (lookup test es ≡ Some x → (k : _) × (test k ≡ true)) → (t : Bool) → test e.0 ≡ t → cond t (Some e.1) (lookup test es) ≡ Some x → (k : _) × (test k ≡ true)
    by more true at h = (e.0, at)
    by more false at h = more h

-- a table in another order has the same under each name
pub named-reordered : {X Y S : Type 0} (m n : HashMap (Vec ℕ Y) X S) → ((q : Vec ℕ Y) → hash.get (λ x y. bytes_eq x.items y.items) n q ≡ hash.get (λ x y. bytes_eq x.items y.items) m q) → (cs : List ℕ) → named n cs ≡ named m cs
named-reordered {X} {Y} m n same cs = by (named m cs) refl (named n cs) refl
  where
    at_key : (k : Vec ℕ Y) → bytes_eq cs k.items ≡ true → named n cs ≡ named m cs
    at_key k h =
        let tests : (y : Vec ℕ Y) → bytes_eq cs y.items ≡ bytes_eq k.items y.items = λ y. nat_list_eq_equiv.congr cs k.items y.items h in
        ap (λ (p : Vec ℕ Y → Bool). lookup p n.entries) (λ i y. tests y i) ∙ same k ∙ sym (ap (λ (p : Vec ℕ Y → Bool). lookup p m.entries) (λ i y. tests y i))

    by : (o : Option X) → named m cs ≡ o → (r : Option X) → named n cs ≡ r → named n cs ≡ named m cs
    by (Some x) was r now = let found = key-found (λ (k : Vec ℕ Y). bytes_eq cs k.items) m.entries x was in at_key found.0 found.1
    by None was (Some x) now = let found = key-found (λ (k : Vec ℕ Y). bytes_eq cs k.items) n.entries x now in at_key found.0 found.1
    by None was None now = now ∙ sym was
