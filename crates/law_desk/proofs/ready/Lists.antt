-- Lists of panes that windows may have.
use Rattle.std.proofs.Common.{◌≡◌, ◌∙◌, ◌<◌, ◌≤◌, ◌+◌, ℕ, suc, ◌==◌, Bool, true, false, cond, not, List, [], ◌∷◌, length, filter, find, Some, None, IsSome, refl, sym, ap, subst, arith, eqb-true, ne_eqb}
use Rattle.r9_geom.specs.declared.Rect.{Rect}
use Rattle.model_files.specs.wctl.Rectangle.{is_window}
use Rattle.law_shown.proofs.shown.Tests.{same, same_Some}
use Rattle.model_client.specs.declared.desk.Pane.{Pane}
use Rattle.model_client.specs.desk.Table.{with_raised, with_rect, without}
use Rattle.model_clients.specs.piloted.Following.{pane_by}
use Rattle.law_desk.specs.ready.Ready.{ArePanes}

-- ---- which has a number

-- no other has a number that none had
none_kept : (n : ℕ) (p : Pane → Bool) (panes : List Pane) → pane_by n panes ≡ None → pane_by n (filter p panes) ≡ None
none_kept n p [] none = refl
none_kept n p (pane ∷ panes) none = by (pane.number == n) (p pane) refl none (none_kept n p panes)
  where
    by : (b c : Bool) → (pane.number == n) ≡ b → cond b (Some pane) (pane_by n panes) ≡ None → (pane_by n panes ≡ None → pane_by n (filter p panes) ≡ None)
        → pane_by n (cond c (pane ∷ filter p panes) (filter p panes)) ≡ None
    by true c is none rest = absurd cc
    by false true is none rest = rw is (rest none)
    by false false is none rest = rest none

none_placed : (n window : ℕ) (r : Rect) (panes : List Pane) → pane_by n panes ≡ None → pane_by n (with_rect window r panes) ≡ None
none_placed n window r [] none = refl
none_placed n window r (pane ∷ panes) none = by (pane.number == n) (pane.number == window) refl none (none_placed n window r panes)
  where
    by : (b c : Bool) → (pane.number == n) ≡ b → cond b (Some pane) (pane_by n panes) ≡ None → (pane_by n panes ≡ None → pane_by n (with_rect window r panes) ≡ None)
        → pane_by n (cond c (record { number = pane.number; r = r }) pane ∷ with_rect window r panes) ≡ None
    by true c is none rest = absurd cc
    by false true is none rest = rw is (rest none)
    by false false is none rest = rw is (rest none)

gone : (n : ℕ) (panes : List Pane) → pane_by n (without n panes) ≡ None
gone n [] = refl
gone n (pane ∷ panes) = by (pane.number == n) refl (gone n panes)
  where
    by : (b : Bool) → (pane.number == n) ≡ b → pane_by n (without n panes) ≡ None → pane_by n (cond (not b) (pane ∷ without n panes) (without n panes)) ≡ None
    by true is rest = rest
    by false is rest = rw is rest

fresh : (next : ℕ) (panes : List Pane) → ArePanes next panes → pane_by next panes ≡ None
fresh next [] are = refl
fresh next (pane ∷ panes) are = rw (ne_eqb pane.number next (λ e. let given = are.0.given in omega (arith, given, e))) (fresh next panes are.1)

-- ---- all of them

pub are_kept : (next : ℕ) (p : Pane → Bool) (panes : List Pane) → ArePanes next panes → ArePanes next (filter p panes)
are_kept next p [] are = tt
are_kept next p (pane ∷ panes) are = by (p pane) (are_kept next p panes are.1)
  where
    by : (b : Bool) → ArePanes next (filter p panes) → ArePanes next (cond b (pane ∷ filter p panes) (filter p panes))
    by true rest = (record { fits = are.0.fits; given = are.0.given; alone = none_kept pane.number p panes are.0.alone }, rest)
    by false rest = rest

pub are_placed : (next window : ℕ) (r : Rect) (panes : List Pane) → is_window r ≡ true → ArePanes next panes → ArePanes next (with_rect window r panes)
are_placed next window r [] fits are = tt
are_placed next window r (pane ∷ panes) fits are = by (pane.number == window) (are_placed next window r panes fits are.1)
  where
    by : (b : Bool) → ArePanes next (with_rect window r panes) → ArePanes next (cond b (record { number = pane.number; r = r }) pane ∷ with_rect window r panes)
    by true rest = (record { fits = fits; given = are.0.given; alone = none_placed pane.number window r panes are.0.alone }, rest)
    by false rest = (record { fits = are.0.fits; given = are.0.given; alone = none_placed pane.number window r panes are.0.alone }, rest)

later : (next : ℕ) (panes : List Pane) → ArePanes next panes → ArePanes (next + 1) panes
later next [] are = tt
later next (pane ∷ panes) are = (record { fits = are.0.fits; given = let given = are.0.given in omega (arith, given); alone = are.0.alone }, later next panes are.1)

pub are_more : (next : ℕ) (r : Rect) (panes : List Pane) → is_window r ≡ true → ArePanes next panes → ArePanes (next + 1) ((record { number = next; r = r }) ∷ panes)
are_more next r panes fits are = (record { fits = fits; given = omega arith; alone = fresh next panes are }, later next panes are)

-- ---- one of them

-- what is told of a pane that a test finds
pub record IsOne (next : ℕ) (panes : List Pane) (pane : Pane) : Type 0 where
  pub fits : is_window pane.r ≡ true
  pub given : pane.number < next
  pub own : pane_by pane.number panes ≡ Some pane

pub one_of : (next : ℕ) (p : Pane → Bool) (panes : List Pane) (pane : Pane) → ArePanes next panes → find p panes ≡ Some pane → IsOne next panes pane
one_of next p [] pane are found = absurd cc
one_of next p (first ∷ panes) pane are found = by (p first) found (one_of next p panes pane are.1)
  where
    here : (one : Pane) → first ≡ one → IsOne next (first ∷ panes) one
    here one is = subst (λ (q : Pane). IsOne next (first ∷ panes) q) is
        (record { fits = are.0.fits; given = are.0.given; own = ap (λ (b : Bool). cond b (Some first) (pane_by first.number panes)) (same first.number) })

    behind : (b : Bool) → (first.number == pane.number) ≡ b → pane_by pane.number panes ≡ Some pane → cond b (Some first) (pane_by pane.number panes) ≡ Some pane
    behind true is own = absurd (let both : None ≡ Some pane = sym are.0.alone ∙ ap (λ (n : ℕ). pane_by n panes) (eqb-true first.number pane.number is) ∙ own in cc both)
    behind false is own = own

    by : (b : Bool) → cond b (Some first) (find p panes) ≡ Some pane → (find p panes ≡ Some pane → IsOne next panes pane) → IsOne next (first ∷ panes) pane
    by true found rest = here pane (same_Some first pane found)
    by false found rest =
        let one = rest found in
        record { fits = one.fits; given = one.given; own = behind (first.number == pane.number) refl one.own }

pub are_raised : (next : ℕ) (pane : Pane) (panes : List Pane) → IsOne next panes pane → ArePanes next panes → ArePanes next (with_raised (Some pane) panes)
are_raised next pane panes one are = (record { fits = one.fits; given = one.given; alone = gone pane.number panes }, are_kept next (λ other. not (other.number == pane.number)) panes are)

-- ---- how many

not_more : (p : Pane → Bool) (panes : List Pane) → length (filter p panes) ≤ length panes
not_more p [] = omega arith
not_more p (pane ∷ panes) = by (p pane) (not_more p panes)
  where
    by : (b : Bool) → length (filter p panes) ≤ length panes → length (cond b (pane ∷ filter p panes) (filter p panes)) ≤ suc (length panes)
    by true rest = omega (arith, rest)
    by false rest = omega (arith, rest)

pub one_less : (n : ℕ) (panes : List Pane) → IsSome (pane_by n panes) → length (without n panes) + 1 ≤ length panes
one_less n [] some = absurd (let both : false ≡ true = some in cc both)
one_less n (pane ∷ panes) some = by (pane.number == n) some (one_less n panes) (not_more (λ other. not (other.number == n)) panes)
  where
    by : (b : Bool) → IsSome (cond b (Some pane) (pane_by n panes)) → (IsSome (pane_by n panes) → length (without n panes) + 1 ≤ length panes) → length (without n panes) ≤ length panes
        → length (cond (not b) (pane ∷ without n panes) (without n panes)) + 1 ≤ suc (length panes)
    by true some rest most = omega (arith, most)
    by false some rest most = let less = rest some in omega (arith, less)
