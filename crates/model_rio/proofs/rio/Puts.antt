-- Windows that are put in place of the one with their serial.
use Rattle.std.proofs.Common.{AllPairs, ◌≡◌, ◌≢◌, ◌∙◌, ℕ, ◌+◌, ◌≤◌, ◌==◌, Bool, true, false, cond, not, List, [], ◌∷◌, map, length, Option, Some, None, option_map, All, refl, sym, ap, subst, arith, eqb-true, eq-eqb, ne_eqb, length-append}
use Rattle.std.specs.Option.{option_or}
use Rattle.std.proofs.lemmas.Option.{same_Some}
use Rattle.std.proofs.lemmas.Bool.{not-true, cond_both, cond-true, cond-false}
use Rattle.std.proofs.lemmas.List.{length-map, map_push}
use Rattle.std.proofs.lemmas.List.Elements.{All-cons, All-push, All-filter, All-weaker, filter_passes}
use Rattle.std.proofs.lemmas.List.Kept.{AllPairs-cons, AllPairs-filter}
use Rattle.std.proofs.lemmas.List.Quantifiers.{all_pairs_push}
use Rattle.std.proofs.lemmas.List.Folds.{find-append}
use Rattle.model_rio.specs.rio.Table.{Window}
use Rattle.model_rio.specs.rio.Step.{in_place, without, raised, lowered}
use Rattle.model_rio.specs.rio.Sound.{window_in, AreDistinct, HaveOwnNumbers}
use Rattle.model_rio.proofs.rio.RioLaws.{placed, same_serial}
use Rattle.model_rio.proofs.rio.Lookups.{All-both, pairs_mapped, pairs_found, own, map-others, find-passes, find-map, find-filter, find-filter_out, All-changed, length-filter_out}

abbrev pub serials_in : List Window → List ℕ
serials_in ws = map (λ w. w.serial) ws

-- A window stands in a list under its serial, in place of the one that stood there, and the others stand as before.
pub record IsPut (w : Window) (old new : List Window) : Type 1 where
  pub at : window_in new w.serial ≡ Some w
  pub others : (serial : ℕ) → serial ≢ w.serial → window_in new serial ≡ window_in old serial
  pub each : (P : Window → Type 0) → All P old → P w → All P new
  pub few : length new ≤ length old
  pub serials : AreDistinct (serials_in old) → AreDistinct (serials_in new)

-- ---- in the same place

abbrev one_of : Window → Window → Window
one_of w v = cond (v.serial == w.serial) w v

found_in_place : (w : Window) (ws : List Window) (serial : ℕ) → window_in (in_place w ws) serial ≡ option_map (one_of w) (window_in ws serial)
found_in_place w ws serial = find-map (λ (v : Window). v.serial == serial) (one_of w) (λ v. ap (λ n. n == serial) (same_serial (v.serial == w.serial) v w refl)) ws

pub has_serial : (ws : List Window) (serial : ℕ) (w : Window) → window_in ws serial ≡ Some w → w.serial ≡ serial
has_serial ws serial w e = eqb-true w.serial serial (find-passes (λ (v : Window). v.serial == serial) ws w e)

other_in_place : (w : Window) (ws : List Window) (serial : ℕ) → serial ≢ w.serial → (o : Option Window) → window_in ws serial ≡ o → option_map (one_of w) o ≡ o
other_in_place w ws serial apart None e = refl
other_in_place w ws serial apart (Some v) e =
    ap Some (cond-false (v.serial == w.serial) w v (ne_eqb v.serial w.serial (λ same. apart (sym (has_serial ws serial v e) ∙ same))))

pub IsPut-in_place : (w u : Window) (ws : List Window) → window_in ws w.serial ≡ Some u → IsPut w ws (in_place w ws)
IsPut-in_place w u ws e = record {
  at = found_in_place w ws w.serial ∙ ap (option_map (one_of w)) e ∙ ap Some (cond-true (u.serial == w.serial) w u (eq-eqb u.serial w.serial (has_serial ws w.serial u e)));
  others = λ serial apart. found_in_place w ws serial ∙ other_in_place w ws serial apart (window_in ws serial) refl;
  each = λ P all is. All-changed P (one_of w) (λ v was. cond_both (v.serial == w.serial) w v P (λ _. is) (λ _. was)) ws all;
  few = omega (arith, length-map ws (one_of w));
  serials = λ apart. subst AreDistinct (sym (placed w ws)) apart;
}

-- ---- above all others, or below them

abbrev is_other : ℕ → Window → Bool
is_other serial v = not (v.serial == serial)

pub differs : (n serial : ℕ) → not (n == serial) ≡ true → n ≢ serial
differs n serial e same = absurd (let f : false ≡ true = sym (ap not (eq-eqb n serial same)) ∙ e in cc)

pub all_other : (serial : ℕ) (ws : List Window) → All (λ n. n ≢ serial) (serials_in (without serial ws))
all_other serial ws = subst (All (λ n. n ≢ serial)) (sym (map-others (λ (w : Window). w.serial) serial ws)) (All-weaker _ _ (λ n e. differs n serial e) _ (filter_passes (λ n. not (n == serial)) (serials_in ws)))

pub distinct_others : (serial : ℕ) (ws : List Window) → AreDistinct (serials_in ws) → AreDistinct (serials_in (without serial ws))
distinct_others serial ws apart = subst AreDistinct (sym (map-others (λ (w : Window). w.serial) serial ws)) (AllPairs-filter ◌≢◌ (λ n. not (n == serial)) (serials_in ws) apart)

pub found_other : (ws : List Window) (gone serial : ℕ) → serial ≢ gone → window_in (without gone ws) serial ≡ window_in ws serial
found_other ws gone serial apart =
    find-filter (λ (v : Window). v.serial == serial) (is_other gone) (λ v e. ap not (ne_eqb v.serial gone (λ same. apart (sym (eqb-true v.serial serial e) ∙ same)))) ws

pub found_gone : (ws : List Window) (serial : ℕ) → window_in (without serial ws) serial ≡ None
found_gone ws serial = find-filter_out (λ (v : Window). v.serial == serial) (is_other serial) (λ v e. ap not e) ws

fewer : (w u : Window) (ws : List Window) → window_in ws w.serial ≡ Some u → length (without w.serial ws) + 1 ≤ length ws
fewer w u ws e = length-filter_out (λ (v : Window). v.serial == w.serial) (is_other w.serial) (λ v is. ap not is) ws u e

pub IsPut-raised : (w u : Window) (ws : List Window) → window_in ws w.serial ≡ Some u → IsPut w ws (raised w ws)
IsPut-raised w u ws e = record {
  at = rw (eq-eqb w.serial w.serial refl) refl;
  others = λ serial apart. cond-false (w.serial == serial) (Some w) _ (ne_eqb w.serial serial (λ same. apart (sym same))) ∙ found_other ws w.serial serial apart;
  each = λ P all is. All-cons P w (without w.serial ws) is (All-filter (is_other w.serial) P ws all);
  few = omega (arith, fewer w u ws e);
  serials = λ apart. AllPairs-cons ◌≢◌ w.serial (serials_in (without w.serial ws)) (All-weaker (λ n. n ≢ w.serial) (λ n. w.serial ≢ n) (λ n other same. other (sym same)) (serials_in (without w.serial ws)) (all_other w.serial ws)) (distinct_others w.serial ws apart);
}

or_none : {A : Type 0} (o : Option A) → option_or o None ≡ o
or_none (Some x) = refl
or_none None = refl

pub IsPut-lowered : (w u : Window) (ws : List Window) → window_in ws w.serial ≡ Some u → IsPut w ws (lowered w ws)
IsPut-lowered w u ws e = record {
  at = find-append (λ (v : Window). v.serial == w.serial) (without w.serial ws) (w ∷ []) ∙ ap (λ o. option_or o (window_in (w ∷ []) w.serial)) (found_gone ws w.serial) ∙ cond-true (w.serial == w.serial) (Some w) None (eq-eqb w.serial w.serial refl);
  others = λ serial apart.
      find-append (λ (v : Window). v.serial == serial) (without w.serial ws) (w ∷ [])
      ∙ ap (option_or (window_in (without w.serial ws) serial)) (cond-false (w.serial == serial) (Some w) None (ne_eqb w.serial serial (λ same. apart (sym same))))
      ∙ or_none (window_in (without w.serial ws) serial) ∙ found_other ws w.serial serial apart;
  each = λ P all is. All-push P (without w.serial ws) w (All-filter (is_other w.serial) P ws all) is;
  few = omega (arith, fewer w u ws e, length-append (without w.serial ws) (w ∷ []));
  serials = λ apart. subst AreDistinct (sym (map_push (λ (v : Window). v.serial) (without w.serial ws) w)) (all_pairs_push ◌≢◌ (serials_in (without w.serial ws)) w.serial (distinct_others w.serial ws apart) (all_other w.serial ws));
}

-- ---- the numbers of windows in their rios

-- the place of a window among all: its rio and its number there
pub record SamePlace (w u : Window) : Type 0 where
  pub host : w.host ≡ u.host
  pub number : w.number ≡ u.number

pub own_numbers : (v w v2 w2 : Window) → SamePlace v2 v → SamePlace w2 w → HaveOwnNumbers v w → HaveOwnNumbers v2 w2
own_numbers v w v2 w2 left right apart same again = apart (sym left.host ∙ same ∙ right.host) (sym left.number ∙ again ∙ right.number)

flipped : (v w : Window) → HaveOwnNumbers v w → HaveOwnNumbers w v
flipped v w apart same again = apart (sym same) (sym again)

pub itself : (w : Window) → SamePlace w w
itself w = record { host = refl; number = refl }

pub numbers_in_place : (w u : Window) (ws : List Window) → window_in ws w.serial ≡ Some u → SamePlace w u → AreDistinct (serials_in ws) → AllPairs HaveOwnNumbers ws → AllPairs HaveOwnNumbers (in_place w ws)
numbers_in_place w u ws e same apart pairs =
    pairs_mapped HaveOwnNumbers (λ v. SamePlace (one_of w v) v) (one_of w) (λ x y kx ky r. own_numbers x y (one_of w x) (one_of w y) kx ky r) ws
    (All-weaker (λ v. window_in ws v.serial ≡ Some v) (λ v. SamePlace (one_of w v) v) stays ws (own (λ v. v.serial) ws apart)) pairs
  where
    stays : (v : Window) → window_in ws v.serial ≡ Some v → SamePlace (one_of w v) v
    stays v is =
        cond_both (v.serial == w.serial) w v (λ z. SamePlace z v)
        (λ at. subst (SamePlace w) (same_Some u v (sym e ∙ ap (window_in ws) (sym (eqb-true v.serial w.serial at)) ∙ is)) same) (λ _. itself v)

-- each other window has another number than one that takes the place of u
other_numbers : (w u : Window) (ws : List Window) → window_in ws w.serial ≡ Some u → SamePlace w u → AllPairs HaveOwnNumbers ws → All (HaveOwnNumbers w) (without w.serial ws)
other_numbers w u ws e same pairs =
    All-both (λ v. is_other w.serial v ≡ true) (λ v. (v.serial == w.serial) ≡ false → HaveOwnNumbers u v) (HaveOwnNumbers w)
    (λ v other apart. own_numbers u v w v same (itself v) (apart (not-true (v.serial == w.serial) other))) (without w.serial ws)
    (filter_passes (is_other w.serial) ws) (All-filter (is_other w.serial) (λ v. (v.serial == w.serial) ≡ false → HaveOwnNumbers u v) ws (pairs_found HaveOwnNumbers flipped (λ (v : Window). v.serial == w.serial) ws u pairs e))

pub numbers_without : (serial : ℕ) (ws : List Window) → AllPairs HaveOwnNumbers ws → AllPairs HaveOwnNumbers (without serial ws)
numbers_without serial ws pairs = AllPairs-filter HaveOwnNumbers (is_other serial) ws pairs

pub numbers_raised : (w u : Window) (ws : List Window) → window_in ws w.serial ≡ Some u → SamePlace w u → AllPairs HaveOwnNumbers ws → AllPairs HaveOwnNumbers (raised w ws)
numbers_raised w u ws e same pairs = AllPairs-cons HaveOwnNumbers w (without w.serial ws) (other_numbers w u ws e same pairs) (numbers_without w.serial ws pairs)

pub numbers_lowered : (w u : Window) (ws : List Window) → window_in ws w.serial ≡ Some u → SamePlace w u → AllPairs HaveOwnNumbers ws → AllPairs HaveOwnNumbers (lowered w ws)
numbers_lowered w u ws e same pairs =
    all_pairs_push HaveOwnNumbers (without w.serial ws) w (numbers_without w.serial ws pairs) (All-weaker (HaveOwnNumbers w) (λ v. HaveOwnNumbers v w) (λ v apart. flipped w v apart) (without w.serial ws) (other_numbers w u ws e same pairs))
