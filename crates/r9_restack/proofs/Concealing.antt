-- A window that moves to where nothing of it shows: what showed of it is kept with it.
use Rattle.std.proofs.Common.{◌≡◌, ◌≢◌, ◌∙◌, ℕ, Bool, true, false, List, Some, eq-eqb, inl, refl, sym, ap}
use Rattle.std.specs.Prelude.{◌==◌, ◌&&◌, if◌then◌else◌}
use Rattle.std.proofs.lemmas.Bool.{true≢false}
use Rattle.std.proofs.lemmas.Bool.Decides.{Decides-eqb}
use Rattle.r9_geom.specs.declared.Point.{Point}
use Rattle.r9_geom.specs.Geometry.{holds}
use Rattle.model_forest.specs.declared.Window.{Window}
use Rattle.model_forest.specs.World.{World, image_at, parent_of}
use Rattle.model_forest.specs.View.{inward, is_bare, top_window}
use Rattle.model_kept.specs.Keeping.{is_shown, is_top, keeping, outward, own, place_among, Place}
use Rattle.model_kept.specs.Restack.{with_list, with_own, IsRestacked}
use Rattle.r9_restack.specs.Changing.{IsChanged, IsConcealing, IsGiven, StaysTop}
use Rattle.r9_restack.proofs.Changes.{changed-all, not_with, not_with_other, own-was, stood_new, IsChanging}
use Rattle.r9_restack.proofs.Orders.{not_itself, top_is, unshown-own}
use Rattle.r9_restack.proofs.Placed.{own_over, own_under}

and_false : (a b : Bool) → b ≡ false → (a && b) ≡ false
and_false true b e = e
and_false false b e = refl

-- where all but image w keep their places
pub change_of : (world : World) (p : ℕ) (ws : List Window) (w : ℕ) → IsChanging world p ws p → ((i : ℕ) → i ≢ w → place_among ws i ≡ place_among (image_at world p).windows i) → IsChanging world p ws w
change_of world p ws w s others = record {
  standing = s.standing;
  places = s.places;
  change = record { live = s.change.live; places = λ i z apart here top. inl (others i apart); stand = s.change.stand; one = s.change.one };
}

-- what is told of image p, which is no window of itself, is told of a window of it, whose own pixels are as they are then
pub told_of : (world : World) (p : ℕ) (ws : List Window) (w : ℕ) (none given fill : Point → ℕ) (before now : Place → ℕ) (done : Point → Bool) → IsChanging world p ws p → parent_of world w ≡ Some p → ((q : Point) (v : Window) → done q ≡ true → top_window ws q ≡ Some v → v.image ≡ w → now (keeping world p q) ≡ given (inward world v q)) → IsChanged world p ws p none fill before now done → IsChanged world p ws w given fill (with_own w (λ x. now (own w x)) before) now done
told_of world p ws w none given fill before now done s above of_w m = record {
  covered = λ q v d top apart.
      let up = stood_new world p ws p s q v top in
      m.covered q v d top (not_itself world s.standing p v.image up) ∙ sym (other v.image (inward world v q) up apart);
  of_w = of_w;
  bare = λ q d top. m.bare q d top ∙ ap (λ n. if is_bare (image_at world p).windows q then n else fill q) (sym (surface q));
  hidden = λ i x apart up d no. m.hidden i x (not_itself world s.standing p i up) up d no ∙ sym (other i x up apart);
  others = λ place apart own_apart. others_at (place.image == w) place refl apart own_apart;
}
  where
    besides : Place → ℕ
    besides = with_own w (λ x. now (own w x)) before

    surface : (q : Point) → besides (keeping world p q) ≡ before (keeping world p q)
    surface q = own_under w (λ x. now (own w x)) before (keeping world p q) (not_with world s.standing p w q s.change.live above)

    other : (i : ℕ) (x : Point) → parent_of world i ≡ Some p → i ≢ w → besides (keeping world i x) ≡ before (keeping world i x)
    other i x up apart =
        own_under w (λ y. now (own w y)) before (keeping world i x) (not_with_other world s.standing p w i x s.change.live above up apart)

    others_at : (b : Bool) (place : Place) → (place.image == w) ≡ b → ((q : Point) → done q ≡ true → place ≢ keeping world p q) → ((i : ℕ) (x : Point) → i ≢ w → parent_of world i ≡ Some p → done (outward world p i x) ≡ true → place ≢ own i x) → now place ≡ besides place
    others_at true place e apart own_apart =
        let is : place ≡ own w place.at = λ j. record { image = (Decides-eqb place.image w).0 e j; at = place.at } in
        ap now is ∙ sym (own_over w (λ x. now (own w x)) before place.at) ∙ ap besides (sym is)
    others_at false place e apart own_apart =
        let ne : place.image ≢ w = λ is. true≢false (sym (eq-eqb place.image w is) ∙ e) in
        m.others place apart (λ i x off up d at. own_apart i x (λ i_is. ne (ap (λ (k : Place). k.image) at ∙ i_is)) up d at)
        ∙ sym (own_under w (λ x. now (own w x)) before place ne)

-- so it is where nothing of that window shows then
pub concealed : (world : World) (p : ℕ) (ws : List Window) (given fill : Point → ℕ) (before now : Place → ℕ) (done : Point → Bool) → IsChanging world p ws p → IsConcealing world p ws → ((q : Point) → done q ≡ true → holds (image_at world p).r q ≡ true) → ((q : Point) → holds (image_at world p).r q ≡ true → done q ≡ false → StaysTop world p ws p q) → IsChanged world p ws p given fill before now done → IsRestacked world (with_list world p ws) p before now fill
concealed world p ws given fill before now done s c inside same m =
    changed-all world p ws w given fill besides now before now done of_window c.above inside stays moved with_w
  where
    w : ℕ
    w = c.window

    besides : Place → ℕ
    besides = with_own w (λ x. now (own w x)) before

    of_window : IsChanging world p ws w
    of_window = change_of world p ws w s c.others

    not_top : (q : Point) (v : Window) → holds (image_at world p).r q ≡ true → top_window ws q ≡ Some v → v.image ≢ w
    not_top q v h top is = true≢false (sym (top_is ws w q v top ∙ eq-eqb v.image w is) ∙ c.gone q h)

    stays : (q : Point) → holds (image_at world p).r q ≡ true → done q ≡ false → StaysTop world p ws w q
    stays q h none =
        let st = same q h none in record { tops = st.tops; apart = λ v top. not_top q v h top; bare = st.bare }

    moved : IsChanged world p ws w given fill besides now done
    moved = told_of world p ws w given given fill before now done s c.above (λ q v d top is. absurd (not_top q v (inside q d) top is)) m

    hidden_at : (x : Point) (b : Bool) → done (outward world p w x) ≡ b → now (own w x) ≡ before (keeping world w x)
    hidden_at x true d =
        let z : Point = outward world p w x in
        m.hidden w x (not_itself world s.standing p w c.above) c.above d (c.gone z (inside z d))
    hidden_at x false d =
        own-was world p ws p given fill before now done s m w x c.above d
        ∙ ap before (sym (unshown-own world s.standing p w x c.above (was (holds (image_at world p).r (outward world p w x)) refl)))
      where
        was : (b : Bool) → holds (image_at world p).r (outward world p w x) ≡ b → is_shown world p w (outward world p w x) ≡ false
        was true h =
            and_false (holds (image_at world p).r (outward world p w x)) (is_top (image_at world p).windows w (outward world p w x))
            (sym ((same (outward world p w x) h d).tops w) ∙ c.gone (outward world p w x) h)
        was false h = ap (λ b. b && is_top (image_at world p).windows w (outward world p w x)) h

    with_w : IsGiven world p ws w given besides now before now
    with_w = record {
      was_same = λ place apart. sym (own_under w (λ x. now (own w x)) before place apart);
      pixels = λ q v h top is. absurd (not_top q v h top is);
      now_same = λ place apart. refl;
      hidden = λ x h none. hidden_at x (done (outward world p w x)) refl;
    }
