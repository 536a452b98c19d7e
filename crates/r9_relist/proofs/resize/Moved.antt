-- Pixels that are moved when an image that stands nowhere got another rectangle.
use Rattle.std.proofs.Common.{◌≡◌, ◌≢◌, ◌∙◌, ℕ, ◌<◌, Bool, true, false, List, Some, refl, sym, ap, subst}
use Rattle.std.specs.Prelude.{is_none}
use Rattle.std.proofs.lemmas.Bool.{or_left, or_right, true≢false}
use Rattle.r9_geom.specs.declared.Point.{Point}
use Rattle.r9_geom.specs.declared.Rect.{Rect}
use Rattle.r9_geom.specs.Geometry.{holds, strip}
use Rattle.r9_plane.specs.Pixels.{along}
use Rattle.r9_plane.proofs.PlaneLemmas.{along_holds}
use Rattle.model_forest.specs.declared.Window.{Window}
use Rattle.model_forest.specs.View.{inward, top_window}
use Rattle.model_forest.specs.World.{World, image_at, IsForest, IsLive}
use Rattle.model_kept.specs.Keeping.{own, Place}
use Rattle.r9_locate.proofs.locate.Locating.{along-carried, strip_at}
use Rattle.r9_restack.specs.Moving.{more, IsFresh}
use Rattle.r9_restack.proofs.Orders.{or_cases}
use Rattle.r9_relist.specs.resize.Moves.{IsLost, IsMovedFor, IsResized, IsWon}
use Rattle.r9_relist.proofs.resize.Lost.{own_apart, top_apart, top_same}

module _ (world : World) (i : ℕ) (from : Rect) (shown : Point → ℕ) (live : IsLive world i) (ok : IsForest world) where
  abbrev ws : List Window
  ws = (image_at world i).windows

  abbrev to : Rect
  to = (image_at world i).r

  -- the same points are done
  pub moved_same : (before now : Place → ℕ) (done also : Point → Bool) → ((z : Point) → also z ≡ done z) → IsMovedFor world i from shown before now done → IsMovedFor world i from shown before now also
  moved_same before now done also same m = record {
    lost = λ q v d lost. m.lost q v (sym (same q) ∙ d) lost;
    won = λ q v d won. m.won q v (sym (same q) ∙ d) won;
    others = λ place not_lost not_won. m.others place (λ q v d lost. not_lost q v (same q ∙ d) lost) (λ q v d won. not_won q v (same q ∙ d) won);
  }

  -- nothing is done
  pub moved_none : (kept : Place → ℕ) (done : Point → Bool) → ((z : Point) → done z ≡ false) → IsMovedFor world i from shown kept kept done
  moved_none kept done none = record {
    lost = λ q v d lost. absurd (true≢false (sym d ∙ none q));
    won = λ q v d won. absurd (true≢false (sym d ∙ none q));
    others = λ place not_lost not_won. refl;
  }

  -- points side by side are done, at none of which anything is lost or won
  pub moved_skip : (before now : Place → ℕ) (done : Point → Bool) (q : Point) (n : ℕ) → ((k : ℕ) (v : Window) → k < n → IsLost world i from (along q k) v → true ≡ false) → ((k : ℕ) (v : Window) → k < n → IsWon world i from (along q k) v → true ≡ false) → IsMovedFor world i from shown before now done → IsMovedFor world i from shown before now (more q n done)
  moved_skip before now done q n not_lost not_won m = record {
    lost = λ z v d lost.
        or_cases (holds (strip q n) z) (done z) d
        (λ h. let at = strip_at q z n h in absurd (true≢false (not_lost at.0 v at.1 (subst (λ y. IsLost world i from y v) at.2 lost))))
        (λ d. m.lost z v d lost);
    won = λ z v d won.
        or_cases (holds (strip q n) z) (done z) d
        (λ h. let at = strip_at q z n h in absurd (true≢false (not_won at.0 v at.1 (subst (λ y. IsWon world i from y v) at.2 won))))
        (λ d. m.won z v d won);
    others = λ place no_lost no_won.
        m.others place
        (λ z v d lost. no_lost z v (or_right (holds (strip q n) z) (done z) d) lost)
        (λ z v d won. no_won z v (or_right (holds (strip q n) z) (done z) d) won);
  }

  -- at which the window v is lost
  pub moved_lost : (before now next : Place → ℕ) (done : Point → Bool) (q : Point) (n : ℕ) (v : Window) → ((k : ℕ) → k < n → IsLost world i from (along q k) v) → IsFresh q n done
      → ((k : ℕ) → k < n → next (own v.image (along (inward world v q) k)) ≡ shown (along q k))
      → ((place : Place) → ((k : ℕ) → k < n → place ≢ own v.image (along (inward world v q) k)) → next place ≡ now place)
      → IsMovedFor world i from shown before now done → IsMovedFor world i from shown before next (more q n done)
  moved_lost before now next done q n v is fresh written others m = record {
    lost = λ z w d lost.
        or_cases (holds (strip q n) z) (done z) d
        (λ h.
        let at = strip_at q z n h in
        let same : v ≡ w = top_one (along q at.0) v w (is at.0 at.1).top (ap (top_window ws) (sym at.2) ∙ lost.top) in
        ap next (ap (λ (u : Window). own u.image (inward world u z)) (sym same) ∙ ap (λ y. own v.image (inward world v y)) at.2 ∙ ap (own v.image) (inward_along v q at.0))
        ∙ written at.0 at.1 ∙ ap shown (sym at.2))
        (λ d.
        others (own w.image (inward world w z))
        (λ k below e. absurd (apart z d k below (top_same world i live ok z (along q k) w v lost.top (is k below).top (e ∙ ap (own v.image) (sym (inward_along v q k))))))
        ∙ m.lost z w d lost);
    won = λ z w d won.
        or_cases (holds (strip q n) z) (done z) d
        (λ h. let at = strip_at q z n h in absurd (true≢false (sym (is at.0 at.1).had ∙ ap (holds from) (sym at.2) ∙ won.missed)))
        (λ d.
        others (own i z) (λ k below e. own_apart world i live ok z (along q k) v (is k below).top (e ∙ ap (own v.image) (sym (inward_along v q k))))
        ∙ m.won z w d won);
    others = λ place no_lost no_won.
        others place
        (λ k below e. no_lost (along q k) v (or_left (holds (strip q n) (along q k)) (done (along q k)) (along_holds q n k below)) (is k below) (e ∙ ap (own v.image) (sym (inward_along v q k))))
        ∙ m.others place
        (λ z w d lost. no_lost z w (or_right (holds (strip q n) z) (done z) d) lost)
        (λ z w d won. no_won z w (or_right (holds (strip q n) z) (done z) d) won);
  }
    where
      top_one : (z : Point) (a b : Window) → top_window ws z ≡ Some a → top_window ws z ≡ Some b → a ≡ b
      top_one z a b e f = let same : Some a ≡ Some b = sym e ∙ f in cc

      inward_along : (u : Window) (z : Point) (k : ℕ) → inward world u (along z k) ≡ along (inward world u z) k
      inward_along u z k = along-carried z u.place.min (image_at world u.image).r.min k

      apart : (z : Point) → done z ≡ true → (k : ℕ) → k < n → z ≢ along q k
      apart z d k below e = true≢false (sym d ∙ ap done e ∙ fresh k below)

  -- at which it is won
  pub moved_won : (before now next : Place → ℕ) (done : Point → Bool) (q : Point) (n : ℕ) (v : Window) → ((k : ℕ) → k < n → IsWon world i from (along q k) v) → IsFresh q n done
      → ((k : ℕ) → k < n → next (own i (along q k)) ≡ now (own v.image (along (inward world v q) k)))
      → ((place : Place) → ((k : ℕ) → k < n → place ≢ own i (along q k)) → next place ≡ now place)
      → IsMovedFor world i from shown before now done → IsMovedFor world i from shown before next (more q n done)
  moved_won before now next done q n v is fresh written others m = record {
    lost = λ z w d lost.
        others (own w.image (inward world w z)) (λ k below e. own_apart world i live ok (along q k) z w lost.top (sym e))
        ∙ or_cases (holds (strip q n) z) (done z) d
        (λ h. let at = strip_at q z n h in absurd (true≢false (sym lost.had ∙ ap (holds from) at.2 ∙ (is at.0 at.1).missed)))
        (λ d. m.lost z w d lost);
    won = λ z w d won.
        or_cases (holds (strip q n) z) (done z) d
        (λ h.
        let at = strip_at q z n h in
        let same : v ≡ w = top_one (along q at.0) v w (is at.0 at.1).top (ap (top_window ws) (sym at.2) ∙ won.top) in
        ap next (ap (own i) at.2) ∙ written at.0 at.1
        ∙ m.others (own v.image (along (inward world v q) at.0))
        (λ y u d lost e.
        let one = top_same world i live ok (along q at.0) y v u (is at.0 at.1).top lost.top (ap (own v.image) (inward_along v q at.0) ∙ e) in
        true≢false (sym lost.had ∙ ap (holds from) (sym one) ∙ (is at.0 at.1).missed))
        (λ y u d also e. own_apart world i live ok y (along q at.0) v (is at.0 at.1).top (sym e ∙ ap (own v.image) (sym (inward_along v q at.0))))
        ∙ ap before (ap (own v.image) (sym (inward_along v q at.0)) ∙ ap (λ y. own v.image (inward world v y)) (sym at.2) ∙ ap (λ (u : Window). own u.image (inward world u z)) same))
        (λ d.
        others (own i z) (λ k below e. apart z d k below (ap (λ (p : Place). p.at) e))
        ∙ m.won z w d won);
    others = λ place no_lost no_won.
        others place (λ k below e. no_won (along q k) v (or_left (holds (strip q n) (along q k)) (done (along q k)) (along_holds q n k below)) (is k below) e)
        ∙ m.others place
        (λ z w d lost. no_lost z w (or_right (holds (strip q n) z) (done z) d) lost)
        (λ z w d won. no_won z w (or_right (holds (strip q n) z) (done z) d) won);
  }
    where
      top_one : (z : Point) (a b : Window) → top_window ws z ≡ Some a → top_window ws z ≡ Some b → a ≡ b
      top_one z a b e f = let same : Some a ≡ Some b = sym e ∙ f in cc

      inward_along : (u : Window) (z : Point) (k : ℕ) → inward world u (along z k) ≡ along (inward world u z) k
      inward_along u z k = along-carried z u.place.min (image_at world u.image).r.min k

      apart : (z : Point) → done z ≡ true → (k : ℕ) → k < n → z ≢ along q k
      apart z d k below e = true≢false (sym d ∙ ap done e ∙ fresh k below)

  -- once what it had is done, and then what it has
  pub moved_all : (before copied mid now : Place → ℕ) (raw : ℕ) → ((q : Point) → holds from q ≡ true → holds to q ≡ true → copied (own i q) ≡ shown q) → ((q : Point) → holds from q ≡ false → holds to q ≡ true → copied (own i q) ≡ raw) → ((place : Place) → place.image ≢ i → copied place ≡ before place) → ((q : Point) → before (own i q) ≡ shown q)
      → IsMovedFor world i from shown copied mid (holds from) → IsMovedFor world i from shown mid now (holds to) → IsResized world i from raw before now
  moved_all before copied mid now raw both rest others was first second = record {
    stays = λ q had here. own_now q (λ v won e. true≢false (sym had ∙ won.missed)) ∙ both q had here ∙ sym (was q);
    bare = λ q missed here bare. own_now q (λ v won e. true≢false (sym bare ∙ ap is_none won.top)) ∙ rest q missed here;
    lost = λ q v lost.
        second.others (own v.image (inward world v q))
        (λ z w d also e. true≢false (sym d ∙ also.gone))
        (λ z w d won e. own_apart world i live ok z q v lost.top (sym e))
        ∙ first.lost q v lost.had lost ∙ sym (was q);
    won = λ q v won.
        second.won q v won.here won
        ∙ first.others (own v.image (inward world v q))
        (λ z w d lost e. let one = top_same world i live ok q z v w won.top lost.top e in true≢false (sym lost.had ∙ ap (holds from) (sym one) ∙ won.missed))
        (λ z w d also e. own_apart world i live ok z q v won.top (sym e))
        ∙ others (own v.image (inward world v q)) (top_apart world i live ok q v won.top);
    others = λ place other no_lost.
        second.others place (λ z w d lost e. no_lost z w lost e) (λ z w d won e. other (ap (λ (p : Place). p.image) e))
        ∙ first.others place (λ z w d lost e. no_lost z w lost e) (λ z w d won e. other (ap (λ (p : Place). p.image) e))
        ∙ others place other;
  }
    where
      own_now : (q : Point) → ((v : Window) → IsWon world i from q v → true ≢ true) → now (own i q) ≡ copied (own i q)
      own_now q none =
          second.others (own i q)
          (λ z w d lost e. own_apart world i live ok q z w lost.top e)
          (λ z w d won e. none w (subst (λ y. IsWon world i from y w) (sym (ap (λ (p : Place). p.at) e)) won) refl)
          ∙ first.others (own i q)
          (λ z w d lost e. own_apart world i live ok q z w lost.top e)
          (λ z w d won e. none w (subst (λ y. IsWon world i from y w) (sym (ap (λ (p : Place). p.at) e)) won) refl)

  -- a point of a window, and as many to the right of both
  pub at_along : (x q : Point) (v : Window) (k : ℕ) → x ≡ inward world v q → along x k ≡ inward world v (along q k)
  at_along x q v k is = ap (λ (y : Point). along y k) is ∙ sym (along-carried q v.place.min (image_at world v.image).r.min k)
