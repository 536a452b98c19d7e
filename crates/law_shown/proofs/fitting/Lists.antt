-- Facts about each element of a list, and about each two.
use Rattle.std.proofs.Common.{AllPairs, ◌≡◌, ◌≢◌, suc, ◌+◌, Bool, true, false, cond, List, [], ◌∷◌, ◌++◌, map, filter, fold, find, Some, All, refl, sym, ap, subst, ◌∙◌, arith, ne_eqb}
use Rattle.std.specs.Prelude.{◌==◌, nat_lt}
use Rattle.std.specs.List.{insert, position_or_len}
use Rattle.std.proofs.lemmas.List.Elements.{All-nil, All-cons, All-head, All-tail}
use Rattle.model_rio.specs.rio.Table.{Window, put}
use Rattle.model_rio.specs.rio.Sound.{window_in}
use Rattle.law_shown.proofs.shown.Tests.{same, turned}

-- a fact about each element
abbrev pub Each : {X : Type 0} → (X → Type 0) → List X → Type 0
Each P [] = Unit {0}
Each P (x ∷ xs) = P x × Each P xs

pub each_of : {X : Type 0} (P : X → Type 0) (xs : List X) → All P xs → Each P xs
each_of P [] all = tt
each_of P (x ∷ xs) all = (All-head P x xs all, each_of P xs (All-tail P x xs all))

pub all_of : {X : Type 0} (P : X → Type 0) (xs : List X) → Each P xs → All P xs
all_of P [] each = All-nil P
all_of P (x ∷ xs) each = All-cons P x xs each.0 (all_of P xs each.1)

pub each_then : {X : Type 0} (P Q : X → Type 0) → ((x : X) → P x → Q x) → (xs : List X) → Each P xs → Each Q xs
each_then P Q f [] each = tt
each_then P Q f (x ∷ xs) each = (f x each.0, each_then P Q f xs each.1)

pub each_both : {X : Type 0} (P Q R : X → Type 0) → ((x : X) → P x → Q x → R x) → (xs : List X) → Each P xs → Each Q xs → Each R xs
each_both P Q R f [] p q = tt
each_both P Q R f (x ∷ xs) p q = (f x p.0 q.0, each_both P Q R f xs p.1 q.1)

pub each_map : {X Y : Type 0} (P : X → Type 0) (Q : Y → Type 0) (f : X → Y) → ((x : X) → P x → Q (f x)) → (xs : List X) → Each P xs → Each Q (map f xs)
each_map P Q f g [] each = tt
each_map P Q f g (x ∷ xs) each = (g x each.0, each_map P Q f g xs each.1)

-- of those that pass a test
pub each_filter : {X : Type 0} (P Q : X → Type 0) (p : X → Bool) → ((x : X) → p x ≡ true → P x → Q x) → (xs : List X) → Each P xs → Each Q (filter p xs)
each_filter P Q p f [] each = tt
each_filter P Q p f (x ∷ xs) each = by (each_filter P Q p f xs each.1) (p x) refl
  where
    by : Each Q (filter p xs) → (b : Bool) → p x ≡ b → Each Q (cond b (x ∷ filter p xs) (filter p xs))
    by rest true is = (f x is each.0, rest)
    by rest false is = rest

pub each_append : {X : Type 0} (P : X → Type 0) (xs ys : List X) → Each P xs → Each P ys → Each P (xs ++ ys)
each_append P [] ys one two = two
each_append P (x ∷ xs) ys one two = (one.0, each_append P xs ys one.1 two)

pub each_found : {X : Type 0} (P : X → Type 0) (p : X → Bool) (xs : List X) (x : X) → Each P xs → find p xs ≡ Some x → P x
each_found P p [] x each e = absurd cc
each_found P p (y ∷ ys) x each e = by (each_found P p ys x each.1) (p y) e
  where
    by : (find p ys ≡ Some x → P x) → (b : Bool) → cond b (Some y) (find p ys) ≡ Some x → P x
    by rest true e = let is : y ≡ x = cc in subst P is each.0
    by rest false e = rest e

-- ---- windows that have two serials

abbrev pub IsOther : Window → Window → Type 0
IsOther w v = (v.serial == w.serial) ≡ false

-- each two windows do
abbrev pub Apart : List Window → Type 0
Apart [] = Unit {0}
Apart (w ∷ ws) = Each (IsOther w) ws × Apart ws

pub apart_of : (ws : List Window) → AllPairs ◌≢◌ (map (λ w. w.serial) ws) → Apart ws
apart_of [] pairs = tt
apart_of (w ∷ ws) pairs =
    (others ws (λ k d within. pairs 0 (suc k) d (omega arith) (omega (arith, within))), apart_of ws (λ i j d before within. pairs (suc i) (suc j) d (omega (arith, before)) (omega (arith, within))))
  where
    others : (vs : List Window) → All (λ n. w.serial ≢ n) (map (λ v. v.serial) vs) → Each (IsOther w) vs
    others [] all = tt
    others (v ∷ vs) all =
        let here = All-head (λ n. w.serial ≢ n) v.serial (map (λ u. u.serial) vs) all in
        (turned v.serial w.serial ∙ ne_eqb w.serial v.serial here, others vs (All-tail (λ n. w.serial ≢ n) v.serial (map (λ u. u.serial) vs) all))

pub apart_filter : (p : Window → Bool) (ws : List Window) → Apart ws → Apart (filter p ws)
apart_filter p [] apart = tt
apart_filter p (w ∷ ws) apart = by (each_filter (IsOther w) (IsOther w) p (λ v is other. other) ws apart.0) (apart_filter p ws apart.1) (p w)
  where
    by : Each (IsOther w) (filter p ws) → Apart (filter p ws) → (b : Bool) → Apart (cond b (w ∷ filter p ws) (filter p ws))
    by first rest true = (first, rest)
    by first rest false = rest

-- each is found under its serial
pub each_own : (ws : List Window) → Apart ws → Each (λ v. window_in ws v.serial ≡ Some v) ws
each_own [] apart = tt
each_own (w ∷ ws) apart = (
  ap (λ (b : Bool). cond b (Some w) (window_in ws w.serial)) (same w.serial),
  each_both (IsOther w) (λ v. window_in ws v.serial ≡ Some v) (λ v. window_in (w ∷ ws) v.serial ≡ Some v)
      (λ v other found. ap (λ (b : Bool). cond b (Some w) (window_in ws v.serial)) (turned w.serial v.serial ∙ other) ∙ found) ws apart.0 (each_own ws apart.1),
)

-- ---- windows in ascending serial

put_first : (w x : Window) (xs : List Window) → nat_lt w.serial x.serial ≡ true → put (x ∷ xs) w ≡ w ∷ x ∷ xs
put_first w x xs e = rw e refl

put_later : (w x : Window) (xs : List Window) → nat_lt w.serial x.serial ≡ false → put (x ∷ xs) w ≡ x ∷ put xs w
put_later w x xs e =
    let at = position_or_len (λ (v : Window). nat_lt w.serial v.serial) xs in
    let next : 1 + at ≡ suc at = omega arith in
    rw e (ap (λ n. insert (x ∷ xs) n w) next)

put_each : (P : Window → Type 0) (w : Window) (ws : List Window) → P w → Each P ws → Each P (put ws w)
put_each P w [] is each = (is, tt)
put_each P w (x ∷ xs) is each = by (nat_lt w.serial x.serial) refl (put_each P w xs is each.1)
  where
    by : (b : Bool) → nat_lt w.serial x.serial ≡ b → Each P (put xs w) → Each P (put (x ∷ xs) w)
    by true e rest = subst (Each P) (sym (put_first w x xs e)) (is, each)
    by false e rest = subst (Each P) (sym (put_later w x xs e)) (each.0, rest)

put_apart : (w : Window) (ws : List Window) → Each (IsOther w) ws → Apart ws → Apart (put ws w)
put_apart w [] other apart = (tt, tt)
put_apart w (x ∷ xs) other apart = by (nat_lt w.serial x.serial) refl (put_apart w xs other.1 apart.1)
  where
    by : (b : Bool) → nat_lt w.serial x.serial ≡ b → Apart (put xs w) → Apart (put (x ∷ xs) w)
    by true e rest = subst Apart (sym (put_first w x xs e)) (other, apart)
    by false e rest = subst Apart (sym (put_later w x xs e)) (put_each (IsOther x) w xs (turned w.serial x.serial ∙ other.0) apart.0, rest)

pub fold_each : (P : Window → Type 0) (ws acc : List Window) → Each P acc → Each P ws → Each P (fold put acc ws)
fold_each P [] acc old new = old
fold_each P (w ∷ ws) acc old new = fold_each P ws (put acc w) (put_each P w acc new.0 old) new.1

pub fold_apart : (ws acc : List Window) → Apart acc → Apart ws → Each (λ w. Each (IsOther w) acc) ws → Apart (fold put acc ws)
fold_apart [] acc old new cross = old
fold_apart (w ∷ ws) acc old new cross =
    fold_apart ws (put acc w) (put_apart w acc cross.0 old) new.1
    (each_both (IsOther w) (λ u. Each (IsOther u) acc) (λ u. Each (IsOther u) (put acc w)) (λ u here later. put_each (IsOther u) w acc (turned w.serial u.serial ∙ here) later) ws new.0 cross.1)
