-- An image loses all its windows for a moment.
use Rattle.std.proofs.Common.{◌≡◌, ◌≢◌, ◌∙◌, ℕ, suc, All, List, [], Some, refl, sym, ap, true, ◌^◌, ⊎_elim, arith}
use Rattle.std.specs.Prelude.{is_some, unwrap_or}
use Rattle.std.proofs.lemmas.Bool.{cases_eq}
use Rattle.std.proofs.lemmas.List.Elements.{All-nil, All-weaker}
use Rattle.r9_geom.specs.Geometry.{IsRectNearBy}
use Rattle.model_forest.specs.declared.Window.{Window}
use Rattle.model_forest.specs.World.{Image, World, image_at, no_image, with_image, IsForest, IsLive, IsWindowOf}
use Rattle.model_forest.proofs.Changes.{with_image-at, with_image-each, with_image-other, World-same}
use Rattle.model_forest.proofs.Sound.{IsStill, IsStill-with_image, IsWindowOf-still}
use Rattle.model_kept.specs.Keeping.{place_among, HasOnePlaces, IsStanding}
use Rattle.model_kept.specs.Restack.{with_list, SameButList}
use Rattle.model_kept.proofs.Once.{places-forest}
use Rattle.model_kept.proofs.Worlds.{standing-forest, with_list-same}
use Rattle.r9_locate.specs.locate.Lists.{IsNearby}
use Rattle.r9_relist.proofs.relist.Near.{nearby}
use Rattle.r9_relist.proofs.relist.Relisted.{list_at, list_parent, listed_image}

pub empty_standing : (world : World) (p : ℕ) → IsForest world → IsLive world p → IsStanding (with_list world p [])
empty_standing world p ok live = record {
  shallow = λ n alive. let deep = same.depth n in let most = was.shallow n (sym (same.live n) ∙ alive) in omega (arith, deep, most);
  windows =
      with_image-each world p (Some image) (λ n slot. is_some slot ≡ true → All (IsWindowOf new n) (unwrap_or slot no_image).windows)
      (λ alive. All-nil (IsWindowOf new p))
      (λ n other alive. All-weaker (IsWindowOf world n) (IsWindowOf new n) (λ v. IsWindowOf-still world new n v still (ap (λ r. r.min) (same.r n))) (image_at world n).windows (ok.windows n alive));
  parents = λ n q alive stands. same.live q ∙ ok.parents n q (sym (same.live n) ∙ alive) (sym (list_parent world p n [] live) ∙ stands);
  above = λ n q alive stands.
      same.depth n ∙ was.above n q (sym (same.live n) ∙ alive) (sym (list_parent world p n [] live) ∙ stands) ∙ ap (λ (n : ℕ). suc n) (sym (same.depth q));
}
  where
    image : Image
    image = listed_image world p []

    new : World
    new = with_list world p []

    was : IsStanding world
    was = standing-forest world ok

    same : SameButList world new p
    same = with_list-same world p [] live

    still : IsStill world new
    still = IsStill-with_image world p image live (record { standing = refl; depth = refl; chan = refl; size = record { width = refl; height = refl } })

pub empty_places : (world : World) (p : ℕ) → IsForest world → HasOnePlaces (with_list world p [])
empty_places world p ok =
    with_image-each world p (Some (listed_image world p [])) (λ n slot. is_some slot ≡ true → All (λ w. place_among (unwrap_or slot no_image).windows w.image ≡ w.place) (unwrap_or slot no_image).windows)
    (λ live. All-nil (λ (w : Window). place_among [] w.image ≡ w.place)) (λ n other live. places-forest world ok n live)

pub empty_near : (world : World) (p : ℕ) → IsForest world → IsLive world p → IsNearby (with_list world p [])
empty_near world p ok live =
    with_image-each world p (Some (listed_image world p [])) (λ n slot. is_some slot ≡ true → IsRectNearBy (2 ^ 40) (unwrap_or slot no_image).r × All (λ w. IsRectNearBy (2 ^ 40) w.place) (unwrap_or slot no_image).windows)
    (λ alive. ((nearby world ok p live).0, All-nil (λ (w : Window). IsRectNearBy (2 ^ 40) w.place))) (λ n other alive. nearby world ok n alive)

-- of two lists the later one stays
pub list_again : (world : World) (p : ℕ) (first second : List Window) → with_list (with_list world p first) p second ≡ with_list world p second
list_again world p first second =
    ap (λ (image : Image). with_image (with_list world p first) p (Some (record image { windows = second }))) (list_at world p first)
    ∙ World-same (with_image (with_list world p first) p (Some (listed_image world p second))) (with_list world p second) at
  where
    at : (n : ℕ) → with_image (with_list world p first) p (Some (listed_image world p second)) n ≡ with_list world p second n
    at n =
        ⊎_elim
        (λ (here : n ≡ p). ap (with_image (with_list world p first) p (Some (listed_image world p second))) here ∙ with_image-at (with_list world p first) p (Some (listed_image world p second)) ∙ sym (with_image-at world p (Some (listed_image world p second))) ∙ ap (with_list world p second) (sym here))
        (λ (other : n ≢ p). with_image-other (with_list world p first) p n (Some (listed_image world p second)) other ∙ with_image-other world p n (Some (listed_image world p first)) other ∙ sym (with_image-other world p n (Some (listed_image world p second)) other))
        (cases_eq n p)
