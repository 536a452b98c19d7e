-- How deep an image stands stays as it is, whatever is done but that an image comes under its number or goes.
use Rattle.std.proofs.Common.{◌≡◌, ◌≢◌, ◌+◌, ℕ, Bool, true, false, List, [], ◌∷◌, Option, Some, None, refl, sym, ap, subst, ◌∙◌}
use Rattle.std.specs.Prelude.{◌==◌, if◌then◌else◌}
use Rattle.std.specs.List.{fold}
use Rattle.std.specs.Option.{option_map_or}
use Rattle.std.proofs.lemmas.Bool.{eqb-true, eqb-false}
use Rattle.r9_geom.specs.declared.Point.{Point}
use Rattle.r9_geom.specs.declared.Rect.{Rect}
use Rattle.model_forest.specs.declared.Window.{Window}
use Rattle.model_forest.specs.World.{Image, World, image_at, parent_of, with_image}
use Rattle.r9_geom.specs.Geometry.{carried}
use Rattle.model_forest.specs.View.{view}
use Rattle.model_forest.specs.Draw.{Drawing, after_draw, after_fill, after_load, with_canvas}
use Rattle.model_forest.specs.Stack.{after_lower, after_raise, after_restack, after_window, lowered, moved, raised, seen, with_windows, without}
use Rattle.model_forest.specs.Steps.{after_image, after_list, after_origin, after_release, after_replace, after_replace_on, after_set, carried_rect, outside, put_above, shifted_image}
use Rattle.model_exchanged.specs.resize.Resize.{after_resize}
use Rattle.law_likeness.proofs.renamed.Changes.{at_changed, at_others}

abbrev pub SameDepth : (old new : World) → ℕ → Type 0
SameDepth old new n = (image_at new n).depth ≡ (image_at old n).depth

depth_other : (w : World) (i n : ℕ) (slot : Option Image) → n ≢ i → SameDepth w (with_image w i slot) n
depth_other w i n slot other = ap (λ (x : Image). x.depth) (at_others w i n slot other)

depth_put : (w : World) (i n : ℕ) (x : Image) → x.depth ≡ (image_at w i).depth → SameDepth w (with_image w i (Some x)) n
depth_put w i n x same = by (n == i) refl
  where
    by : (is : Bool) → (n == i) ≡ is → SameDepth w (with_image w i (Some x)) n
    by true is = subst (λ (m : ℕ). SameDepth w (with_image w i (Some x)) m) (sym (eqb-true n i is)) (ap (λ (y : Image). y.depth) (at_changed w i x) ∙ same)
    by false is = depth_other w i n (Some x) (eqb-false n i is)

-- ---- lists

depth_windows : (w : World) (p n : ℕ) (ws : List Window) → SameDepth w (with_windows w p ws) n
depth_windows w p n ws = depth_put w p n _ refl

depth_list : (w : World) (i : ℕ) (change : List Window → List Window) (n : ℕ) → SameDepth w (after_list w i change) n
depth_list w i change n = by (parent_of w i)
  where
    by : (o : Option ℕ) → SameDepth w (option_map_or (λ parent. with_windows w parent (change (image_at w parent).windows)) o w) n
    by None = refl
    by (Some p) = depth_windows w p n _

depth_restack : (order : List Window → List Window) (w : World) (group : List ℕ) (n : ℕ) → SameDepth w (after_restack order w group) n
depth_restack order w [] n = refl
depth_restack order w (i ∷ rest) n = depth_windows w _ n _

pub depth_raise : (w : World) (group : List ℕ) (n : ℕ) → SameDepth w (after_raise w group) n
unfolding after_raise
depth_raise w group n = depth_restack (raised group) w group n

pub depth_lower : (w : World) (group : List ℕ) (n : ℕ) → SameDepth w (after_lower w group) n
unfolding after_lower
depth_lower w group n = depth_restack (lowered group) w group n

-- ---- images that are there

pub depth_canvas : (w : World) (i : ℕ) (area : Point → Bool) (raws : Point → ℕ) (n : ℕ) → SameDepth w (with_canvas w i area raws) n
depth_canvas w i area raws n = depth_put w i n _ refl

pub depth_draw : (w : World) (d : Drawing) (n : ℕ) → SameDepth w (after_draw w d) n
unfolding after_draw
depth_draw w d n = depth_canvas w d.dst _ _ n

pub depth_draws : (w : World) (ds : List Drawing) (n : ℕ) → SameDepth w (fold after_draw w ds) n
depth_draws w [] n = refl
depth_draws w (d ∷ ds) n = depth_draws (after_draw w d) ds n ∙ depth_draw w d n

pub depth_load : (w : World) (i : ℕ) (r : Rect) (raws : Point → ℕ) (n : ℕ) → SameDepth w (after_load w i r raws) n
unfolding after_load
depth_load w i r raws n = depth_canvas w i _ raws n

pub depth_fill : (w : World) (i : ℕ) (r : Rect) (raw : ℕ) (n : ℕ) → SameDepth w (after_fill w i r raw) n
unfolding after_fill
depth_fill w i r raw n = depth_canvas w i _ _ n

pub depth_set : (w : World) (i : ℕ) (repl : Bool) (clipr : Rect) (n : ℕ) → SameDepth w (after_set w i repl clipr) n
unfolding after_set
depth_set w i repl clipr n = depth_put w i n _ refl

pub depth_resize : (w : World) (i width height raw n : ℕ) → SameDepth w (after_resize w i width height raw) n
unfolding after_resize
depth_resize w i width height raw n = depth_put w i n _ refl

pub depth_origin : (w : World) (i : ℕ) (min corner : Point) (n : ℕ) → SameDepth w (after_origin w i min corner) n
unfolding after_origin
depth_origin w i min corner n =
    let change = moved i (carried_rect (image_at w i).r (image_at w i).r.min corner) in
    depth_put (after_list w i change) i n (shifted_image (image_at w i) min) (sym (depth_list w i change i)) ∙ depth_list w i change n

-- ---- images that come and go

pub depth_image : (w : World) (i : ℕ) (r : Rect) (chan raw : ℕ) (n : ℕ) → n ≢ i → SameDepth w (after_image w i r chan raw) n
unfolding after_image
depth_image w i r chan raw n other = depth_other w i n _ other

pub depth_window : (w : World) (i p f : ℕ) (r : Rect) (raw : ℕ) (n : ℕ) → n ≢ i → SameDepth w (after_window w i p f r raw) n
unfolding after_window
depth_window w i p f r raw n other = depth_windows (with_image w i _) p n (record { image = i; place = r } ∷ (image_at w p).windows) ∙ depth_other w i n _ other

pub depth_release : (w : World) (i n : ℕ) → n ≢ i → SameDepth w (after_release w i) n
unfolding after_release
depth_release w i n other = depth_other (after_list w i (without i)) i n None other ∙ depth_list w i (without i) n

-- a new image, and two changes of a list, and so with one list that is another
depth_lists : (w : World) (m old n : ℕ) (x : Image) (one two : List Window → List Window) → n ≢ m → SameDepth w (after_list (after_list (with_image w m (Some x)) old one) old two) n
depth_lists w m old n x one two other =
    depth_list (after_list (with_image w m (Some x)) old one) old two n ∙ depth_list (with_image w m (Some x)) old one n ∙ depth_other w m n (Some x) other

depth_listed : (w : World) (m old parent n : ℕ) (x : Image) (ws : List Window) (two : List Window → List Window) → n ≢ m → SameDepth w (after_list (with_windows (with_image w m (Some x)) parent ws) old two) n
depth_listed w m old parent n x ws two other =
    depth_list (with_windows (with_image w m (Some x)) parent ws) old two n ∙ depth_windows (with_image w m (Some x)) parent n ws ∙ depth_other w m n (Some x) other

pub depth_replace : (w : World) (m old : ℕ) (r : Rect) (at : Point) (raw : ℕ) (keep : Bool) (n : ℕ) → n ≢ m → SameDepth w (after_replace w m old r at raw keep) n
unfolding after_replace
depth_replace w m old r at raw keep n other =
    let image = image_at w old in
    let first : Window = record { image = m; place = carried_rect r r.min at } in
    depth_lists w m old n (record {
      r = r;
      clipr = r;
      repl = false;
      chan = image.chan;
      standing = image.standing;
      depth = image.depth;
      canvas = seen r [] (λ (p : Point). if keep then view w old (carried p r.min image.r.min) else raw);
      windows = [];
    }) (put_above first old) (moved old (carried_rect image.r image.r.min outside)) other

pub depth_replace_on : (w : World) (m old parent fill : ℕ) (r : Rect) (at : Point) (raw : ℕ) (keep : Bool) (n : ℕ) → n ≢ m → SameDepth w (after_replace_on w m old parent fill r at raw keep) n
unfolding after_replace_on
depth_replace_on w m old parent fill r at raw keep n other =
    let image = image_at w old in
    let first : Window = record { image = m; place = carried_rect r r.min at } in
    depth_listed w m old parent n (record {
      r = r;
      clipr = r;
      repl = false;
      chan = (image_at w parent).chan;
      standing = Some (record { parent = parent; fill = fill });
      depth = (image_at w parent).depth + 1;
      canvas = seen r [] (λ (p : Point). if keep then view w old (carried p r.min image.r.min) else raw);
      windows = [];
    }) (first ∷ (image_at w parent).windows) (moved old (carried_rect image.r image.r.min outside)) other
