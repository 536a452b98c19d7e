-- Images that keep their shape, and live still, through changes of other images.
use Rattle.std.proofs.Common.{◌≡◌, ◌≢◌, ℕ, Bool, true, false, List, [], ◌∷◌, Option, Some, None, refl, sym, subst, ◌∙◌}
use Rattle.std.specs.Prelude.{◌==◌, unwrap_or, IsSome}
use Rattle.std.specs.Option.{option_map_or}
use Rattle.std.specs.List.{fold}
use Rattle.std.proofs.lemmas.Bool.{eqb-true, eqb-false}
use Rattle.r9_geom.specs.declared.Point.{Point}
use Rattle.r9_geom.specs.declared.Rect.{Rect}
use Rattle.model_forest.specs.declared.Window.{Window}
use Rattle.model_forest.specs.World.{Image, World, IsLive, image_at, no_image, parent_of, with_image}
use Rattle.model_forest.specs.Draw.{Drawing, after_draw, after_load}
use Rattle.model_forest.specs.Stack.{after_lower, after_raise, after_restack, after_window, lowered, moved, raised, with_windows, without}
use Rattle.model_forest.specs.Steps.{after_image, after_list, after_origin, after_release, after_set, carried_rect}
use Rattle.model_forest.proofs.Changes.{with_image-at, with_image-other}
use Rattle.law_likeness.specs.likeness.Likeness.{SameLook, SameShape}

-- an image has the shape that it had, and lives if it did
pub record Keeps (old new : World) (n : ℕ) : Type 0 where
  pub shape : SameShape (image_at new n) (image_at old n)
  pub live : IsLive old n → IsLive new n

pub shape_itself : (x : Image) → SameShape x x
shape_itself x = record { r = refl; clipr = refl; repl = refl; chan = refl }

pub shape_then : (x y z : Image) → SameShape x y → SameShape y z → SameShape x z
shape_then x y z one two = record { r = one.r ∙ two.r; clipr = one.clipr ∙ two.clipr; repl = one.repl ∙ two.repl; chan = one.chan ∙ two.chan }

-- two images look the same still where each keeps its shape
pub look_kept : (x u v y : Image) → SameShape x u → SameLook u v → SameShape y v → SameLook x y
look_kept x u v y left same right = record { repl = left.repl ∙ same.repl ∙ sym right.repl; chan = left.chan ∙ same.chan ∙ sym right.chan }

pub keeps_itself : (w : World) (n : ℕ) → Keeps w w n
keeps_itself w n = record { shape = shape_itself (image_at w n); live = λ is. is }

pub keeps_then : (a b c : World) (n : ℕ) → Keeps a b n → Keeps b c n → Keeps a c n
keeps_then a b c n one two = record {
  shape = shape_then (image_at c n) (image_at b n) (image_at a n) two.shape one.shape;
  live = λ is. two.live (one.live is);
}

-- ---- one image changes

pub keeps_other : (w : World) (i n : ℕ) (slot : Option Image) → n ≢ i → Keeps w (with_image w i slot) n
keeps_other w i n slot other =
    let same = with_image-other w i n slot other in
    record {
      shape = subst (λ (o : Option Image). SameShape (unwrap_or o no_image) (image_at w n)) (sym same) (shape_itself (image_at w n));
      live = λ is. subst (λ (o : Option Image). IsSome o) (sym same) is;
    }

pub keeps_put : (w : World) (i n : ℕ) (x : Image) → SameShape x (image_at w i) → Keeps w (with_image w i (Some x)) n
keeps_put w i n x same = by (n == i) refl
  where
    at : Keeps w (with_image w i (Some x)) i
    at =
        let there = with_image-at w i (Some x) in
        record {
          shape = subst (λ (o : Option Image). SameShape (unwrap_or o no_image) (image_at w i)) (sym there) same;
          live = λ _. subst (λ (o : Option Image). IsSome o) (sym there) refl;
        }

    by : (is : Bool) → (n == i) ≡ is → Keeps w (with_image w i (Some x)) n
    by true is = subst (λ (m : ℕ). Keeps w (with_image w i (Some x)) m) (sym (eqb-true n i is)) at
    by false is = keeps_other w i n (Some x) (eqb-false n i is)

-- ---- lists

pub keeps_windows : (w : World) (p n : ℕ) (ws : List Window) → Keeps w (with_windows w p ws) n
keeps_windows w p n ws = keeps_put w p n _ (record { r = refl; clipr = refl; repl = refl; chan = refl })

keeps_on : (w : World) (o : Option ℕ) (change : List Window → List Window) (n : ℕ)
    → Keeps w (option_map_or (λ parent. with_windows w parent (change (image_at w parent).windows)) o w) n
keeps_on w None change n = keeps_itself w n
keeps_on w (Some p) change n = keeps_windows w p n _

pub keeps_list : (w : World) (i : ℕ) (change : List Window → List Window) (n : ℕ) → Keeps w (after_list w i change) n
keeps_list w i change n = keeps_on w (parent_of w i) change n

-- ---- each change

pub keeps_draw : (w : World) (d : Drawing) (n : ℕ) → Keeps w (after_draw w d) n
unfolding after_draw
keeps_draw w d n = keeps_put w d.dst n _ (record { r = refl; clipr = refl; repl = refl; chan = refl })

pub keeps_draws : (w : World) (ds : List Drawing) (n : ℕ) → Keeps w (fold after_draw w ds) n
keeps_draws w [] n = keeps_itself w n
keeps_draws w (d ∷ ds) n = keeps_then w (after_draw w d) _ n (keeps_draw w d n) (keeps_draws (after_draw w d) ds n)

pub keeps_load : (w : World) (i : ℕ) (r : Rect) (raws : Point → ℕ) (n : ℕ) → Keeps w (after_load w i r raws) n
unfolding after_load
keeps_load w i r raws n = keeps_put w i n _ (record { r = refl; clipr = refl; repl = refl; chan = refl })

pub keeps_set : (w : World) (i : ℕ) (repl : Bool) (clipr : Rect) (n : ℕ) → n ≢ i → Keeps w (after_set w i repl clipr) n
unfolding after_set
keeps_set w i repl clipr n other = keeps_other w i n _ other

pub keeps_origin : (w : World) (i : ℕ) (min corner : Point) (n : ℕ) → n ≢ i → Keeps w (after_origin w i min corner) n
unfolding after_origin
keeps_origin w i min corner n other =
    let left = after_list w i (moved i (carried_rect (image_at w i).r (image_at w i).r.min corner)) in
    keeps_then w left _ n (keeps_list w i (moved i (carried_rect (image_at w i).r (image_at w i).r.min corner)) n) (keeps_other left i n _ other)

pub keeps_image : (w : World) (i : ℕ) (r : Rect) (chan raw : ℕ) (n : ℕ) → n ≢ i → Keeps w (after_image w i r chan raw) n
unfolding after_image
keeps_image w i r chan raw n other = keeps_other w i n _ other

pub keeps_window : (w : World) (i p f : ℕ) (r : Rect) (raw : ℕ) (n : ℕ) → n ≢ i → Keeps w (after_window w i p f r raw) n
unfolding after_window
keeps_window w i p f r raw n other =
    keeps_then w (with_image w i _) _ n (keeps_other w i n _ other) (keeps_windows (with_image w i _) p n (record { image = i; place = r } ∷ (image_at w p).windows))

pub keeps_release : (w : World) (i n : ℕ) → n ≢ i → Keeps w (after_release w i) n
unfolding after_release
keeps_release w i n other = keeps_then w (after_list w i (without i)) _ n (keeps_list w i (without i) n) (keeps_other (after_list w i (without i)) i n None other)

keeps_restack : (order : List Window → List Window) (w : World) (group : List ℕ) (n : ℕ) → Keeps w (after_restack order w group) n
keeps_restack order w [] n = keeps_itself w n
keeps_restack order w (i ∷ rest) n = keeps_windows w _ n _

pub keeps_raise : (w : World) (group : List ℕ) (n : ℕ) → Keeps w (after_raise w group) n
unfolding after_raise
keeps_raise w group n = keeps_restack (raised group) w group n

pub keeps_lower : (w : World) (group : List ℕ) (n : ℕ) → Keeps w (after_lower w group) n
unfolding after_lower
keeps_lower w group n = keeps_restack (lowered group) w group n
