-- An image that is in no list, and on which nothing stands, comes or goes.
use Rattle.std.proofs.Common.{◌≡◌, ◌≢◌, ℕ, suc, zero, Bool, true, false, List, [], ◌∷◌, Option, Some, None, refl, sym, ◌∙◌, ap, cond, subst, eq-eqb}
use Rattle.std.specs.Prelude.{◌&&◌, ◌==◌, is_some, option_map, unwrap_or, if◌then◌else◌}
use Rattle.std.specs.Option.{option_map_or}
use Rattle.std.specs.List.{list_any}
use Rattle.std.proofs.lemmas.Bool.{ne_eqb, true≢false, or_parts}
use Rattle.std.proofs.lemmas.Bool.Decides.{Decides-eqb}
use Rattle.r9_geom.specs.declared.Point.{Point}
use Rattle.r9_geom.specs.declared.Rect.{Rect}
use Rattle.r9_geom.specs.Geometry.{carried, holds}
use Rattle.model_forest.specs.declared.Window.{Window}
use Rattle.model_forest.specs.World.{Image, World, image_at, no_image, parent_of, with_image, IsLive}
use Rattle.model_forest.specs.View.{top_window}
use Rattle.model_forest.specs.Stack.{after_window, new_window, seen, with_windows}
use Rattle.model_forest.proofs.Changes.{World-same, with_image-at, with_image-other}
use Rattle.model_kept.specs.Keeping.{Place, own, outward, is_top, is_shown, keeping, keeping_within, place_among, with_kept, HasOnePlaces, IsStanding}
use Rattle.model_kept.specs.Restack.{come_window, fill_of_top, listed_window, with_list, with_own, IsAlone, IsRestacked}
use Rattle.model_kept.proofs.Storing.{step_of}
use Rattle.model_kept.proofs.Worlds.{pictured, restacked-world, seen-same}

-- where others keep their pixels does not rest on it
pub keeping-alike : (old new : World) (i : ℕ) → ((n : ℕ) → n ≢ i → new n ≡ old n) → IsAlone old i → (depth n : ℕ) (y : Point) → n ≢ i → keeping_within depth new n y ≡ keeping_within depth old n y
keeping-alike old new i same alone zero n y apart = refl
keeping-alike old new i same alone (suc depth) n y apart =
    ap (λ (o : Option Image). option_map_or (step_of depth new n y) (option_map (λ s. s.parent) (unwrap_or o no_image).standing) (own n y)) (same n apart)
    ∙ by_parent (parent_of old n) refl (λ parent p_apart. keeping-alike old new i same alone depth parent (outward old parent n y) p_apart)
  where
    by_parent : (o : Option ℕ) → parent_of old n ≡ o → ((parent : ℕ) → parent ≢ i → keeping_within depth new parent (outward old parent n y) ≡ keeping_within depth old parent (outward old parent n y)) → option_map_or (step_of depth new n y) o (own n y) ≡ option_map_or (step_of depth old n y) o (own n y)
    by_parent None stands further = refl
    by_parent (Some parent) stands further =
        let p_apart : parent ≢ i = λ e. alone n (stands ∙ ap Some e) in
        let at_n : image_at new n ≡ image_at old n = ap (λ (o : Option Image). unwrap_or o no_image) (same n apart) in
        let at_p : image_at new parent ≡ image_at old parent = ap (λ (o : Option Image). unwrap_or o no_image) (same parent p_apart) in
        let out : outward new parent n y ≡ outward old parent n y = (λ j. carried y (at_n j).r.min (place_among (at_p j).windows n).min) in
        let shown : is_shown new parent n (outward new parent n y) ≡ is_shown old parent n (outward old parent n y) = (λ j. holds (at_p j).r (out j) && is_top (at_p j).windows n (out j)) in
        ap (λ b. if b then keeping_within depth new parent (outward new parent n y) else own n y) shown
        ∙ ap (λ q. if is_shown old parent n (outward old parent n y) then keeping_within depth new parent q else own n y) out
        ∙ ap (λ k. if is_shown old parent n (outward old parent n y) then k else own n y) (further parent p_apart)

-- and none of them is kept with it
pub keeping-not : (world : World) (i : ℕ) → IsAlone world i → (depth n : ℕ) (y : Point) → n ≢ i → (keeping_within depth world n y).image ≢ i
keeping-not world i alone zero n y apart = apart
keeping-not world i alone (suc depth) n y apart =
    by_parent (parent_of world n) refl (λ parent p_apart. keeping-not world i alone depth parent (outward world parent n y) p_apart)
  where
    by_parent : (o : Option ℕ) → parent_of world n ≡ o → ((parent : ℕ) → parent ≢ i → (keeping_within depth world parent (outward world parent n y)).image ≢ i) → (option_map_or (step_of depth world n y) o (own n y)).image ≢ i
    by_parent None stands further = apart
    by_parent (Some parent) stands further = by_shown (is_shown world parent n (outward world parent n y))
      where
        by_shown : (b : Bool) → (if b then keeping_within depth world parent (outward world parent n y) else own n y).image ≢ i
        by_shown false = apart
        by_shown true = further parent (λ e. alone n (stands ∙ ap Some e))

-- what is in no list is topmost nowhere
pub unlisted-top : (ws : List Window) (i : ℕ) (q : Point) → list_any (λ w. w.image == i) ws ≡ false → is_top ws i q ≡ false
unlisted-top [] i q none = refl
unlisted-top (w ∷ ws) i q none =
    elim (holds w.place q) as (λ b. option_map_or (λ (v : Window). v.image == i) (cond b (Some w) (top_window ws q)) false ≡ false) [
      | true ↦ (or_parts (w.image == i) (list_any (λ (v : Window). v.image == i) ws) none).0
      | false ↦ unlisted-top ws i q (or_parts (w.image == i) (list_any (λ (v : Window). v.image == i) ws) none).1
    ]

-- what no list of its parent has keeps all its pixels itself
pub unlisted-own : (world : World) (i : ℕ) (x : Point) → ((p : ℕ) → parent_of world i ≡ Some p → list_any (λ w. w.image == i) (image_at world p).windows ≡ false) → keeping world i x ≡ own i x
unlisted-own world i x unlisted = within (image_at world i).depth
  where
    within : (depth : ℕ) → keeping_within depth world i x ≡ own i x
    within zero = refl
    within (suc depth) = by_parent (parent_of world i) refl
      where
        by_parent : (o : Option ℕ) → parent_of world i ≡ o → option_map_or (step_of depth world i x) o (own i x) ≡ own i x
        by_parent None stands = refl
        by_parent (Some p) stands =
            ap (λ b. if holds (image_at world p).r (outward world p i x) && b then keeping_within depth world p (outward world p i x) else own i x) (unlisted-top (image_at world p).windows i (outward world p i x) (unlisted p stands))
            ∙ by_test (holds (image_at world p).r (outward world p i x))
          where
            by_test : (b : Bool) → (if b && false then keeping_within depth world p (outward world p i x) else own i x) ≡ own i x
            by_test true = refl
            by_test false = refl

other_kept : (i : ℕ) (pixels : Point → ℕ) (kept : Place → ℕ) (place : Place) → place.image ≢ i → with_own i pixels kept place ≡ kept place
other_kept i pixels kept place apart = ap (λ b. if b then pixels place.at else kept place) (ne_eqb place.image i apart)

own_kept : (i : ℕ) (pixels : Point → ℕ) (kept : Place → ℕ) (x : Point) → with_own i pixels kept (own i x) ≡ pixels x
own_kept i pixels kept x = ap (λ b. if b then pixels x else kept (own i x)) (eq-eqb i i refl)

-- an image comes that is in no list yet: the world whose pixels are kept, and its own
pub come-world : (shape : World) (i : ℕ) (image : Image) (pixels : Point → ℕ) (kept : Place → ℕ) → IsAlone shape i → image.windows ≡ [] → ((p : ℕ) → option_map (λ s. s.parent) image.standing ≡ Some p → (p ≢ i) × (list_any (λ w. w.image == i) (image_at shape p).windows ≡ false)) → with_kept (with_image shape i (Some image)) (with_own i pixels kept) ≡ with_image (with_kept shape kept) i (Some (record image { canvas = seen image.r image.windows pixels }))
come-world shape i image pixels kept alone none unlisted = World-same _ _ (λ n. at n (n == i) refl)
  where
    new : World
    new = with_image shape i (Some image)

    here : new i ≡ Some image
    here = with_image-at shape i (Some image)

    at_i : image_at new i ≡ image
    at_i = ap (λ o. unwrap_or o no_image) here

    own_pixels : (x : Point) → with_own i pixels kept (keeping new i x) ≡ pixels x
    own_pixels x =
        ap (with_own i pixels kept)
        (unlisted-own new i x (λ p stands.
        let was = unlisted p (sym (ap (λ (im : Image). option_map (λ s. s.parent) im.standing) at_i) ∙ stands) in
        ap (λ (o : Option Image). list_any (λ (w : Window). w.image == i) (unwrap_or o no_image).windows) (with_image-other shape i p (Some image) was.0) ∙ was.1))
        ∙ own_kept i pixels kept x

    at : (n : ℕ) (b : Bool) → (n == i) ≡ b → with_kept new (with_own i pixels kept) n ≡ with_image (with_kept shape kept) i (Some (record image { canvas = seen image.r image.windows pixels })) n
    at n true e =
        let is : n ≡ i = (Decides-eqb n i).0 e in
        let F : ℕ → Type 0 = λ k. with_kept new (with_own i pixels kept) k ≡ with_image (with_kept shape kept) i (Some (record image { canvas = seen image.r image.windows pixels })) k in
        subst F (sym is)
        (ap (option_map {T = Image} (pictured new (with_own i pixels kept) i)) here
        ∙ ap (λ c. Some (record image { canvas = c })) (seen-same image.r image.windows (λ x. with_own i pixels kept (keeping new i x)) pixels (λ x inside bare. own_pixels x))
        ∙ sym (with_image-at (with_kept shape kept) i (Some (record image { canvas = seen image.r image.windows pixels }))))
    at n false e =
        let apart : n ≢ i = λ is. let both : (n == i) ≡ true = eq-eqb n i is in true≢false (sym both ∙ e) in
        ap (option_map {T = Image} (pictured new (with_own i pixels kept) n)) (with_image-other shape i n (Some image) apart)
        ∙ by_slot n apart (shape n) refl
        ∙ sym (with_image-other (with_kept shape kept) i n (Some (record image { canvas = seen image.r image.windows pixels })) apart)
      where
        by_slot : (n : ℕ) → n ≢ i → (slot : Option Image) → shape n ≡ slot → option_map {T = Image} (pictured new (with_own i pixels kept) n) (shape n) ≡ option_map {T = Image} (pictured shape kept n) (shape n)
        by_slot n apart None s = ap (option_map {T = Image} (pictured new (with_own i pixels kept) n)) s ∙ sym (ap (option_map {T = Image} (pictured shape kept n)) s)
        by_slot n apart (Some im) s =
            let depths : (image_at new n).depth ≡ (image_at shape n).depth = ap (λ (o : Option Image). (unwrap_or o no_image).depth) (with_image-other shape i n (Some image) apart) in
            ap (option_map {T = Image} (pictured new (with_own i pixels kept) n)) s
            ∙ ap (λ c. Some (record im { canvas = c }))
            (seen-same im.r im.windows (λ y. with_own i pixels kept (keeping new n y)) (λ y. kept (keeping shape n y))
            (λ y inside bare.
            ap (with_own i pixels kept) (ap (λ d. keeping_within d new n y) depths ∙ keeping-alike shape new i (λ m m_apart. with_image-other shape i m (Some image) m_apart) alone (image_at shape n).depth n y apart)
            ∙ other_kept i pixels kept (keeping shape n y) (keeping-not shape i alone (image_at shape n).depth n y apart)))
            ∙ sym (ap (option_map {T = Image} (pictured shape kept n)) s)

-- an image goes on which nothing stands, after it was taken out of its list: what it kept is no pixel of the others
pub go-world : (shape : World) (i : ℕ) (pixels : Point → ℕ) (kept : Place → ℕ) → IsAlone shape i → with_kept (with_image shape i None) kept ≡ with_image (with_kept shape (with_own i pixels kept)) i None
go-world shape i pixels kept alone = World-same _ _ (λ n. at n (n == i) refl)
  where
    new : World
    new = with_image shape i None

    at : (n : ℕ) (b : Bool) → (n == i) ≡ b → with_kept new kept n ≡ with_image (with_kept shape (with_own i pixels kept)) i None n
    at n true e =
        let is : n ≡ i = (Decides-eqb n i).0 e in
        let F : ℕ → Type 0 = λ k. with_kept new kept k ≡ with_image (with_kept shape (with_own i pixels kept)) i None k in
        subst F (sym is)
        (ap (option_map {T = Image} (pictured new kept i)) (with_image-at shape i None) ∙ sym (with_image-at (with_kept shape (with_own i pixels kept)) i None))
    at n false e =
        let apart : n ≢ i = λ is. let both : (n == i) ≡ true = eq-eqb n i is in true≢false (sym both ∙ e) in
        ap (option_map {T = Image} (pictured new kept n)) (with_image-other shape i n None apart)
        ∙ by_slot n apart (shape n) refl
        ∙ sym (with_image-other (with_kept shape (with_own i pixels kept)) i n None apart)
      where
        by_slot : (n : ℕ) → n ≢ i → (slot : Option Image) → shape n ≡ slot → option_map {T = Image} (pictured new kept n) (shape n) ≡ option_map {T = Image} (pictured shape (with_own i pixels kept) n) (shape n)
        by_slot n apart None s = ap (option_map {T = Image} (pictured new kept n)) s ∙ sym (ap (option_map {T = Image} (pictured shape (with_own i pixels kept) n)) s)
        by_slot n apart (Some im) s =
            let depths : (image_at new n).depth ≡ (image_at shape n).depth = ap (λ (o : Option Image). (unwrap_or o no_image).depth) (with_image-other shape i n None apart) in
            ap (option_map {T = Image} (pictured new kept n)) s
            ∙ ap (λ c. Some (record im { canvas = c }))
            (seen-same im.r im.windows (λ y. kept (keeping new n y)) (λ y. with_own i pixels kept (keeping shape n y))
            (λ y inside bare.
            ap kept (ap (λ d. keeping_within d new n y) depths ∙ keeping-alike shape new i (λ m m_apart. with_image-other shape i m None m_apart) alone (image_at shape n).depth n y apart)
            ∙ sym (other_kept i pixels kept (keeping shape n y) (keeping-not shape i alone (image_at shape n).depth n y apart))))
            ∙ sym (ap (option_map {T = Image} (pictured shape (with_own i pixels kept) n)) s)

-- ---- a window that comes, and an image that goes

pub window-made : (shape : World) (kept after : Place → ℕ) (i parent fill : ℕ) (r : Rect) (raw : ℕ) → IsLive shape parent → parent ≢ i → IsAlone shape i → list_any (λ w. w.image == i) (image_at shape parent).windows ≡ false → IsStanding (listed_window shape kept i parent fill r raw) → HasOnePlaces (listed_window shape kept i parent fill r raw) → IsRestacked (come_window shape kept i parent fill r raw) (listed_window shape kept i parent fill r raw) parent (with_own i (λ _. raw) kept) after (fill_of_top (with_kept (come_window shape kept i parent fill r raw) (with_own i (λ _. raw) kept)) parent) → with_kept (listed_window shape kept i parent fill r raw) after ≡ after_window (with_kept shape kept) i parent fill r raw
unfolding after_window
window-made shape kept after i parent fill r raw live apart alone unlisted standing places is =
    restacked-world more parent (put ∷ (image_at (with_kept shape kept) parent).windows) (with_own i (λ _. raw) kept) after more_live standing places is
    ∙ ap (λ (world : World). with_windows world parent (put ∷ (image_at (with_kept shape kept) parent).windows))
    (come-world shape i image (λ _. raw) kept alone refl (λ p stands.
    let is_parent : parent ≡ p = some_is parent p stands in
    (λ e. apart (is_parent ∙ e), ap (λ n. list_any (λ (w : Window). w.image == i) (image_at shape n).windows) (sym is_parent) ∙ unlisted)))
  where
    image : Image
    image = new_window (with_kept shape kept) parent fill r raw

    more : World
    more = with_image shape i (Some image)

    put : Window
    put = record { image = i; place = r }

    more_live : IsLive more parent
    more_live = ap is_some (with_image-other shape i parent (Some image) apart) ∙ live

    some_is : (a b : ℕ) → Some a ≡ Some b → a ≡ b
    some_is a b e = cc

pub released : (shape : World) (kept after : Place → ℕ) (i parent : ℕ) (pixels : Point → ℕ) (ws : List Window) → IsLive shape parent → IsAlone (with_list shape parent ws) i → IsStanding (with_list shape parent ws) → HasOnePlaces (with_list shape parent ws) → IsRestacked shape (with_list shape parent ws) parent kept (with_own i pixels after) (fill_of_top (with_kept shape kept) parent) → with_kept (with_image (with_list shape parent ws) i None) after ≡ with_image (with_windows (with_kept shape kept) parent ws) i None
released shape kept after i parent pixels ws live alone standing places is =
    go-world (with_list shape parent ws) i pixels after alone
    ∙ ap (λ (world : World). with_image world i None) (restacked-world shape parent ws kept (with_own i pixels after) live standing places is)
