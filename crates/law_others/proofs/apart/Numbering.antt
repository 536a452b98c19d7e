-- Numbers of ties, where ties come and go.
use Rattle.std.proofs.Common.{◌≡◌, ◌<◌, ◌+◌, ℕ, Bool, true, false, [], ◌∷◌, ◌++◌, Option, Some, None, refl, sym, ap, ◌∙◌, arith}
use Rattle.std.specs.Prelude.{◌==◌, All, filter, find, not, slice_index_or}
use Rattle.std.specs.Option.{option_or}
use Rattle.std.proofs.lemmas.Bool.Decides.{nat_tests}
use Rattle.std.proofs.lemmas.List.Elements.{All-filter, All-push, All-weaker, filter_passes}
use Rattle.std.proofs.lemmas.List.Folds.{find-append}
use Rattle.model_draw_parts.specs.declared.images.ImageId.{ImageId}
use Rattle.model_draw_parts.specs.declared.images.Thing.{Thing}
use Rattle.model_draw_parts.specs.declared.images.Thing.TheVariants.{Image, Screen}
use Rattle.model_draw_parts.specs.declared.images.Tie.{Tie}
use Rattle.model_draw_parts.specs.images.Book.{Book}
use Rattle.model_draw_parts.specs.images.Release.{is_image_id, without, without_image_id}
use Rattle.law_shown.proofs.shown.Tests.{same_Some}
use Rattle.law_likeness.specs.likeness.Likeness.{AreNumbered}
use Rattle.law_others.proofs.apart.Lists.{find-but, find-nothing}

-- the image ids and the ties are the same
pub numbered_still : (old new : Book) → new.image_ids ≡ old.image_ids → new.ties ≡ old.ties → new.next_tie ≡ old.next_tie → AreNumbered old → AreNumbered new
numbered_still old new ids ties next n = record { given = rw (ties, next) n.given; once = rw ties n.once; known = rw (ids, next) n.known; shown = rw (ids, ties) n.shown }

pub numbered_without : (b : Book) (thing : Thing) → AreNumbered b → AreNumbered (without b thing)
numbered_without b (Image i) n = numbered_still b (without b (Image i)) refl refl refl n
numbered_without b (Screen s) n = numbered_still b (without b (Screen s)) refl refl refl n

pub numbered_id_dropped : (b : Book) (client id : ℕ) → AreNumbered b → AreNumbered (without_image_id b client id)
numbered_id_dropped b client id n = record {
  given = n.given;
  once = n.once;
  known = All-filter (λ e. not (is_image_id client id e)) (λ e. (m : ℕ) → e.tie ≡ Some m → m < b.next_tie) b.image_ids n.known;
  shown = All-filter (λ e. not (is_image_id client id e)) (λ e. All (λ t. e.tie ≡ Some t.number → t.image ≡ e.image) b.ties) b.image_ids n.shown;
}

pub numbered_ties_dropped : (b : Book) (stays : Tie → Bool) → AreNumbered b → AreNumbered (record b { ties = filter stays b.ties })
numbered_ties_dropped b stays n = record {
  given = All-filter stays (λ t. t.number < b.next_tie) b.ties n.given;
  once = λ k d h.
      once (slice_index_or (filter stays b.ties) k d) (filter_passes stays b.ties k d h)
      (All-filter stays (λ t. find (λ u. u.number == t.number) b.ties ≡ Some t) b.ties n.once k d h);
  known = n.known;
  shown = All-weaker (λ (e : ImageId). All (λ t. e.tie ≡ Some t.number → t.image ≡ e.image) b.ties) (λ (e : ImageId). All (λ t. e.tie ≡ Some t.number → t.image ≡ e.image) (filter stays b.ties))
      (λ e all. All-filter stays (λ t. e.tie ≡ Some t.number → t.image ≡ e.image) b.ties all) b.image_ids n.shown;
}
  where
    once : (t : Tie) → stays t ≡ true → find (λ u. u.number == t.number) b.ties ≡ Some t → find (λ u. u.number == t.number) (filter stays b.ties) ≡ Some t
    once t passes found =
        find-but (λ u. u.number == t.number) stays b.ties (λ u is. ap stays (same_Some u t (sym is ∙ found)) ∙ passes) ∙ found

-- a tie comes under the next number
pub numbered_tied : (b : Book) (t : Tie) → t.number ≡ b.next_tie → AreNumbered b → AreNumbered (record b { ties = b.ties ++ t ∷ []; next_tie = b.next_tie + 1 })
numbered_tied b t new n = record {
  given = All-push (λ u. u.number < b.next_tie + 1) b.ties t (All-weaker (λ u. u.number < b.next_tie) (λ u. u.number < b.next_tie + 1) (λ u less. omega (arith, less)) b.ties n.given) (omega (arith, new));
  once = All-push (λ u. find (λ v. v.number == u.number) (b.ties ++ t ∷ []) ≡ Some u) b.ties t
      (All-weaker (λ u. find (λ v. v.number == u.number) b.ties ≡ Some u) (λ u. find (λ v. v.number == u.number) (b.ties ++ t ∷ []) ≡ Some u)
      (λ u found. find-append (λ v. v.number == u.number) b.ties (t ∷ []) ∙ ap (λ (o : Option Tie). option_or o (find (λ v. v.number == u.number) (t ∷ []))) found) b.ties n.once)
      (find-append (λ v. v.number == t.number) b.ties (t ∷ []) ∙ ap (λ (o : Option Tie). option_or o (find (λ v. v.number == t.number) (t ∷ []))) none ∙ here);
  known = All-weaker (λ (e : ImageId). (m : ℕ) → e.tie ≡ Some m → m < b.next_tie) (λ (e : ImageId). (m : ℕ) → e.tie ≡ Some m → m < b.next_tie + 1)
      (λ e all m is. let less = all m is in omega (arith, less)) b.image_ids n.known;
  shown = λ k d h.
      All-push (λ u. (slice_index_or b.image_ids k d).tie ≡ Some u.number → u.image ≡ (slice_index_or b.image_ids k d).image) b.ties t (n.shown k d h)
      (λ is. absurd (let less = n.known k d h t.number is in omega (arith, less, new)));
}
  where
    other : (m k : ℕ) → m < b.next_tie → k ≡ b.next_tie → (m == k) ≡ false
    other m k less is = grind (arith, nat_tests)

    none : find (λ v. v.number == t.number) b.ties ≡ None
    none = find-nothing (λ v. v.number == t.number) b.ties (All-weaker (λ u. u.number < b.next_tie) (λ u. (u.number == t.number) ≡ false) (λ u less. other u.number t.number less new) b.ties n.given)

    itself : (m : ℕ) → (m == m) ≡ true
    itself m = grind (arith, nat_tests)

    here : find (λ v. v.number == t.number) (t ∷ []) ≡ Some t
    here = rw (itself t.number) refl
