-- Images that stand where they stood, each with nothing in its list that was not there.
use Rattle.std.proofs.Common.{◌≡◌, ℕ, Bool, true, false, List, [], ◌∷◌, Option, Some, None, refl, sym, ap, subst, ◌∙◌}
use Rattle.std.specs.Prelude.{◌==◌, All, filter, is_some, not, option_map, unwrap_or, if◌then◌else◌}
use Rattle.std.specs.Option.{option_map_or}
use Rattle.std.specs.List.{fold}
use Rattle.std.proofs.lemmas.Bool.{eqb-true}
use Rattle.std.proofs.lemmas.List.Elements.{All-append, All-filter, All-head, All-map, All-tail, All-weaker}
use Rattle.r9_geom.specs.declared.Point.{Point}
use Rattle.r9_geom.specs.declared.Rect.{Rect}
use Rattle.model_forest.specs.declared.Standing.{Standing as Stood}
use Rattle.model_forest.specs.declared.Window.{Window}
use Rattle.model_forest.specs.World.{Image as ImageState, World as Images, IsLive, image_at, no_image, parent_of, with_image}
use Rattle.model_forest.specs.Draw.{Drawing, after_draw, after_fill, after_load, with_canvas}
use Rattle.model_forest.specs.Stack.{after_lower, after_raise, after_restack, is_in, lowered, moved, moved_window, raised, with_windows}
use Rattle.model_forest.specs.Steps.{after_list, after_origin, after_set, carried_rect, shifted_image}
use Rattle.model_forest.proofs.Releasing.{changed-at, changed-other}
use Rattle.model_draw.specs.draw.World.{World, at_number, with_images}
use Rattle.law_likeness.specs.making.Standing.{IsStanding, IsWhole}

-- the images of a list of windows all have a property
abbrev pub Each : (ℕ → Type 0) → List Window → Type 0
Each P ws = All (λ w. P w.image) ws

-- The image of a number is there as before, stands where it stood, and has nothing more in its list.
pub record Rests (old new : Images) (i : ℕ) : Type 1 where
  pub live : is_some (new i) ≡ is_some (old i)
  pub standing : (image_at new i).standing ≡ (image_at old i).standing
  pub listed : (P : ℕ → Type 0) → Each P (image_at old i).windows → Each P (image_at new i).windows

abbrev pub AllRest : Images → Images → Type 1
AllRest old new = (i : ℕ) → Rests old new i

pub rest_itself : (w : Images) → AllRest w w
rest_itself w i = record { live = refl; standing = refl; listed = λ P all. all }

rests_then : (a b c : Images) (i : ℕ) → Rests a b i → Rests b c i → Rests a c i
rests_then a b c i one two = record {
  live = two.live ∙ one.live;
  standing = two.standing ∙ one.standing;
  listed = λ P all. two.listed P (one.listed P all);
}

pub rest_then : (a b c : Images) → AllRest a b → AllRest b c → AllRest a c
rest_then a b c one two i = rests_then a b c i (one i) (two i)

-- what lived lives
pub still_lives : (a b : Images) → AllRest a b → (i : ℕ) → IsLive a i → IsLive b i
still_lives a b rest i live = (rest i).live ∙ live

pub stood_on : (a b : Images) → AllRest a b → (i p : ℕ) → parent_of b i ≡ Some p → parent_of a i ≡ Some p
stood_on a b rest i p stands = sym (ap (λ (s : Option Stood). option_map (λ x. x.parent) s) (rest i).standing) ∙ stands

-- ---- one image changes

-- the image of a number that is the same in both
same_rests : (old new : Images) (i : ℕ) → new i ≡ old i → Rests old new i
same_rests old new i is = record {
  live = ap is_some is;
  standing = ap (λ (o : Option ImageState). (unwrap_or o no_image).standing) is;
  listed = λ P all. subst (λ (o : Option ImageState). Each P (unwrap_or o no_image).windows) (sym is) all;
}

put_over : (w v : Images) (n : ℕ) (x : ImageState) → AllRest w v → IsLive w n → x.standing ≡ (image_at w n).standing → ((P : ℕ → Type 0) → Each P (image_at w n).windows → Each P x.windows)
    → AllRest w (with_image v n (Some x))
put_over w v n x rest live stands listed i = by (i == n) refl
  where
    here : Rests w (with_image v n (Some x)) n
    here = record {
      live = ap is_some (changed-at v n (Some x)) ∙ sym live;
      standing = ap (λ (o : Option ImageState). (unwrap_or o no_image).standing) (changed-at v n (Some x)) ∙ stands;
      listed = λ P all. subst (λ (o : Option ImageState). Each P (unwrap_or o no_image).windows) (sym (changed-at v n (Some x))) (listed P all);
    }

    by : (is : Bool) → (i == n) ≡ is → Rests w (with_image v n (Some x)) i
    by true is = subst (λ (k : ℕ). Rests w (with_image v n (Some x)) k) (sym (eqb-true i n is)) here
    by false is = rests_then w v (with_image v n (Some x)) i (rest i) (same_rests v (with_image v n (Some x)) i (changed-other v n i (Some x) is))

pub put_rests : (w : Images) (n : ℕ) (x : ImageState) → IsLive w n → x.standing ≡ (image_at w n).standing → ((P : ℕ → Type 0) → Each P (image_at w n).windows → Each P x.windows)
    → AllRest w (with_image w n (Some x))
put_rests w n x live stands listed = put_over w w n x (rest_itself w) live stands listed

pub canvas_rests : (w : Images) (n : ℕ) (area : Point → Bool) (new : Point → ℕ) → IsLive w n → AllRest w (with_canvas w n area new)
canvas_rests w n area new live = put_rests w n _ live refl (λ P all. all)

pub set_rests : (w : Images) (n : ℕ) (repl : Bool) (clipr : Rect) → IsLive w n → AllRest w (after_set w n repl clipr)
unfolding after_set
set_rests w n repl clipr live = put_rests w n _ live refl (λ P all. all)

pub draw_rests : (w : Images) (d : Drawing) → IsLive w d.dst → AllRest w (after_draw w d)
unfolding after_draw
draw_rests w d live = canvas_rests w d.dst _ _ live

pub load_rests : (w : Images) (n : ℕ) (r : Rect) (raws : Point → ℕ) → IsLive w n → AllRest w (after_load w n r raws)
unfolding after_load
load_rests w n r raws live = canvas_rests w n _ _ live

pub fill_rests : (w : Images) (n : ℕ) (r : Rect) (raw : ℕ) → IsLive w n → AllRest w (after_fill w n r raw)
unfolding after_fill
fill_rests w n r raw live = canvas_rests w n _ _ live

-- drawings one after the other, each on an image that lives
pub draws_rest : (ds : List Drawing) (w : Images) → All (λ d. IsLive w d.dst) ds → AllRest w (fold after_draw w ds)
draws_rest [] w live = rest_itself w
draws_rest (d ∷ ds) w live =
    let one = draw_rests w d (All-head (λ (d : Drawing). IsLive w d.dst) d ds live) in
    rest_then w (after_draw w d) _ one
    (draws_rest ds (after_draw w d) (All-weaker (λ d. IsLive w d.dst) (λ e. IsLive (after_draw w d) e.dst) (λ e. still_lives w (after_draw w d) one e.dst) ds (All-tail (λ (d : Drawing). IsLive w d.dst) d ds live)))

-- ---- lists that change

pub windows_rest : (w : Images) (p : ℕ) (ws : List Window) → IsLive w p → ((P : ℕ → Type 0) → Each P (image_at w p).windows → Each P ws) → AllRest w (with_windows w p ws)
windows_rest w p ws live listed = put_rests w p _ live refl listed

-- what an image stands on lives
abbrev pub GroundLives : Images → ℕ → Type 0
GroundLives w i = (p : ℕ) → parent_of w i ≡ Some p → IsLive w p

pub list_rests : (w : Images) (i : ℕ) (change : List Window → List Window) → GroundLives w i → ((P : ℕ → Type 0) (ws : List Window) → Each P ws → Each P (change ws)) → AllRest w (after_list w i change)
list_rests w i change ground listed = by (parent_of w i) ground
  where
    by : (o : Option ℕ) → ((p : ℕ) → o ≡ Some p → IsLive w p) → AllRest w (option_map_or (λ p. with_windows w p (change (image_at w p).windows)) o w)
    by None ground = rest_itself w
    by (Some p) ground = windows_rest w p (change (image_at w p).windows) (ground p refl) (λ P all. listed P (image_at w p).windows all)

restack_rests : (order : List Window → List Window) → ((P : ℕ → Type 0) (ws : List Window) → Each P ws → Each P (order ws)) → (w : Images) (group : List ℕ)
    → ((i : ℕ) (rest : List ℕ) → group ≡ i ∷ rest → IsLive w (unwrap_or (parent_of w i) 0)) → AllRest w (after_restack order w group)
restack_rests order listed w [] live = rest_itself w
restack_rests order listed w (i ∷ rest) live =
    let p = unwrap_or (parent_of w i) 0 in windows_rest w p (order (image_at w p).windows) (live i rest refl) (λ P all. listed P (image_at w p).windows all)

-- the first of a group stands on an image that lives
abbrev pub FirstStands : Images → List ℕ → Type 0
FirstStands w group = (i : ℕ) (rest : List ℕ) → group ≡ i ∷ rest → IsLive w (unwrap_or (parent_of w i) 0)

pub raise_rests : (w : Images) (group : List ℕ) → FirstStands w group → AllRest w (after_raise w group)
unfolding after_raise
raise_rests w group live = restack_rests (raised group) listed w group live
  where
    listed : (P : ℕ → Type 0) (ws : List Window) → Each P ws → Each P (raised group ws)
    listed P ws all =
        All-append (λ (w : Window). P w.image) (filter (is_in group) ws) (filter (λ w. not (is_in group w)) ws) (All-filter (is_in group) (λ w. P w.image) ws all)
        (All-filter (λ w. not (is_in group w)) (λ w. P w.image) ws all)

pub lower_rests : (w : Images) (group : List ℕ) → FirstStands w group → AllRest w (after_lower w group)
unfolding after_lower
lower_rests w group live = restack_rests (lowered group) listed w group live
  where
    listed : (P : ℕ → Type 0) (ws : List Window) → Each P ws → Each P (lowered group ws)
    listed P ws all =
        All-append (λ (w : Window). P w.image) (filter (λ w. not (is_in group w)) ws) (filter (is_in group) ws) (All-filter (λ w. not (is_in group w)) (λ w. P w.image) ws all)
        (All-filter (is_in group) (λ w. P w.image) ws all)

pub moved_each : (i : ℕ) (place : Rect) (P : ℕ → Type 0) (ws : List Window) → Each P ws → Each P (moved i place ws)
moved_each i place P ws all = All-map (λ (w : Window). P w.image) (moved_window i place) ws (All-weaker (λ (w : Window). P w.image) (λ w. P (moved_window i place w).image) one ws all)
  where
    one : (w : Window) → P w.image → P (moved_window i place w).image
    one w is = by (w.image == i) refl
      where
        by : (b : Bool) → (w.image == i) ≡ b → (let v : Window = if b then record { image = i; place = place } else w in P v.image)
        by true at = subst P (eqb-true w.image i at) is
        by false at = is

pub origin_rests : (w : Images) (i : ℕ) (min corner : Point) → IsLive w i → GroundLives w i → AllRest w (after_origin w i min corner)
unfolding after_origin
origin_rests w i min corner live ground =
    let image = image_at w i in
    let change : List Window → List Window = moved i (carried_rect image.r image.r.min corner) in
    put_over w (after_list w i change) i (shifted_image image min) (list_rests w i change ground (λ P ws all. moved_each i (carried_rect image.r image.r.min corner) P ws all)) live refl
    (λ P all. All-map (λ (v : Window). P v.image) (λ (v : Window). let u : Window = record { image = v.image; place = carried_rect v.place image.r.min min } in u) image.windows all)

-- ---- a device whose images rest

pub images_whole : (w : World) (images : Images) → AllRest w.images images → IsWhole w → IsWhole (with_images w images)
images_whole w images rest whole = record {
  standing = record {
    live = λ i used. still_lives w.images images rest i (old.live i used);
    screens = old.screens;
    stands = λ i live. (rest i).standing ∙ old.stands i (lived i live);
    windows = λ i live.
        (rest i).listed (λ n. IsLive images n × (parent_of images n ≡ Some i))
        (All-weaker (λ (v : Window). IsLive w.images v.image × (parent_of w.images v.image ≡ Some i)) (λ v. IsLive images v.image × (parent_of images v.image ≡ Some i))
        (λ v one. (still_lives w.images images rest v.image one.0, ap (λ (s : Option Stood). option_map (λ x. x.parent) s) (rest v.image).standing ∙ one.1)) (at_number w i).windows (old.windows i (lived i live)));
    placed = All-weaker (λ v. IsLive w.images v.image) (λ v. IsLive images v.image) (λ v. still_lives w.images images rest v.image) w.book.windows old.placed;
    finds = record { image_ids = old.finds.image_ids; screen_ids = old.finds.screen_ids; windows = old.finds.windows };
  };
  listed = record { image_ids = whole.listed.image_ids; screen_ids = whole.listed.screen_ids; own = whole.listed.own; clients = whole.listed.clients };
  used = λ i live. whole.used i (lived i live);
  screens_used = whole.screens_used;
}
  where
    old : IsStanding w
    old = whole.standing

    lived : (i : ℕ) → IsLive images i → IsLive w.images i
    lived i live = sym (rest i).live ∙ live
