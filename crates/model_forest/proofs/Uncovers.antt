-- What writing beneath windows leaves to see, and what shows at a point that windows leave.
use Rattle.std.proofs.Common.{◌≡◌, ℕ, Bool, true, false, Option, Some, None, List, [], ◌∷◌, ◌++◌, refl, sym, ◌∙◌, ap, cond}
use Rattle.std.specs.Prelude.{◌&&◌, ◌==◌, ◌||◌, not, filter, is_none, if◌then◌else◌}
use Rattle.std.specs.Option.{option_map_or}
use Rattle.std.proofs.lemmas.Bool.{both_ways}
use Rattle.std.proofs.lemmas.Bool.Decides.{Decides-eqb}
use Rattle.r9_geom.specs.declared.Point.{Point}
use Rattle.r9_geom.specs.declared.Rect.{Rect}
use Rattle.r9_geom.specs.Geometry.{holds}
use Rattle.model_forest.specs.declared.Window.{Window}
use Rattle.model_forest.specs.World.{World, image_at}
use Rattle.model_forest.specs.View.{covers, is_bare, top_window}
use Rattle.model_forest.specs.Stack.{filled, is_in, lowered, moved, raised, seen, uncovered, without}
use Rattle.model_forest.specs.Steps.{put_above}

-- where two canvases agree at the bare points of r, the same is seen
pub seen-same : (r : Rect) (ws : List Window) (old new : Point → ℕ) → ((q : Point) → holds r q ≡ true → is_bare ws q ≡ true → new q ≡ old q) → seen r ws new ≡ seen r ws old
seen-same r ws old new same = λ j q. at q (holds r q) (is_bare ws q) refl refl j
  where
    at : (q : Point) (inside bare : Bool) → holds r q ≡ inside → is_bare ws q ≡ bare → seen r ws new q ≡ seen r ws old q
    at q true true e f = ap (λ n. if holds r q && is_bare ws q then n else 0) (same q e f)
    at q true false e f = rw (e, f) refl
    at q false bare e f = rw e refl

-- no window at a point, or the topmost one
pub bare-none : (ws : List Window) (q : Point) → is_bare ws q ≡ true → top_window ws q ≡ None
bare-none ws q bare = at (top_window ws q) bare
  where
    at : (o : Option Window) → is_none o ≡ true → o ≡ None
    at None e = refl
    at (Some w) e = cc

pub covered-some : (ws : List Window) (q : Point) → is_bare ws q ≡ false → (w : Window) × (top_window ws q ≡ Some w)
covered-some ws q covered = at (top_window ws q) covered refl
  where
    at : (o : Option Window) → is_none o ≡ false → top_window ws q ≡ o → (w : Window) × (top_window ws q ≡ Some w)
    at None e is = cc
    at (Some w) e is = (w, is)

-- a bare point keeps its pixel
pub uncovered-bare : (world : World) (i : ℕ) (q : Point) → is_bare (image_at world i).windows q ≡ true → uncovered world i q ≡ (image_at world i).canvas q
uncovered-bare world i q bare =
    ap (λ top. option_map_or (λ w. filled world (image_at world i).chan w q) top ((image_at world i).canvas q)) (bare-none (image_at world i).windows q bare)

-- and one that was covered gets what fills for the window that was topmost there
pub uncovered-covered : (world : World) (i : ℕ) (q : Point) (w : Window) → top_window (image_at world i).windows q ≡ Some w → uncovered world i q ≡ filled world (image_at world i).chan w q
uncovered-covered world i q w top =
    ap (λ t. option_map_or (λ w. filled world (image_at world i).chan w q) t ((image_at world i).canvas q)) top

-- at each point that is bare after and was covered before, a window of image i was topmost
pub record Uncovers (i : ℕ) (before after : List Window) : Type 0 where
  pub only : (q : Point) (w : Window) → is_bare after q ≡ true → top_window before q ≡ Some w → w.image ≡ i

-- each point that is bare after was bare before
pub record CoversMore (before after : List Window) : Type 0 where
  pub bare : (q : Point) → is_bare after q ≡ true → is_bare before q ≡ true

-- a topmost window of an image covers its point
pub covers-top_window : (i : ℕ) (q : Point) (ws : List Window) (w : Window) → top_window ws q ≡ Some w → w.image ≡ i → covers i q ws ≡ true
covers-top_window i q [] w top is = cc
covers-top_window i q (v ∷ ws) w top is =
    elim (holds v.place q) as (λ b. cond b (Some v) (top_window ws q) ≡ Some w → ((v.image == i && b) || covers i q ws) ≡ true) [
      | true ↦ λ same.
          let first : v ≡ w = cc in
          let here : (v.image == i) ≡ true = (Decides-eqb v.image i).1 (ap (λ (u : Window). u.image) first ∙ is) in
          rw here refl
      | false ↦ λ same. or_right (v.image == i) (covers i q ws) (covers-top_window i q ws w same is)
    ] top
  where
    or_right : (a b : Bool) → b ≡ true → ((a && false) || b) ≡ true
    or_right true b e = e
    or_right false b e = e

-- a point that a window covers is not bare
pub covers-covered : (i : ℕ) (q : Point) (ws : List Window) → covers i q ws ≡ true → is_bare ws q ≡ false
covers-covered i q [] covered = cc
covers-covered i q (v ∷ ws) covered =
    elim (holds v.place q) as (λ b. ((v.image == i && b) || covers i q ws) ≡ true → is_none (cond b (Some v) (top_window ws q)) ≡ false) [
      | true ↦ λ same. refl
      | false ↦ λ same. covers-covered i q ws (rest (v.image == i) (covers i q ws) same)
    ] covered
  where
    rest : (a b : Bool) → ((a && false) || b) ≡ true → b ≡ true
    rest true b e = e
    rest false b e = e

-- ---- lists that change

-- the list without an image uncovers points of that image alone
pub Uncovers-without : (i : ℕ) (ws : List Window) → Uncovers i ws (without i ws)
Uncovers-without i ws = record { only = only ws }
  where
    only : (ws : List Window) (q : Point) (w : Window) → is_bare (without i ws) q ≡ true → top_window ws q ≡ Some w → w.image ≡ i
    only [] q w bare top = cc
    only (v ∷ ws) q w bare top =
        elim (v.image == i) as (λ b. (v.image == i) ≡ b → is_bare (cond (not b) (v ∷ without i ws) (without i ws)) q ≡ true → w.image ≡ i) [
          | true ↦ λ is kept.
              elim (holds v.place q) as (λ h. cond h (Some v) (top_window ws q) ≡ Some w → w.image ≡ i) [
                | true ↦ λ same. let first : v ≡ w = cc in ap (λ (u : Window). u.image) (sym first) ∙ (Decides-eqb v.image i).0 is
                | false ↦ λ same. only ws q w kept same
              ] top
          | false ↦ λ is kept.
              elim (holds v.place q) as (λ h. is_none (cond h (Some v) (top_window (without i ws) q)) ≡ true → cond h (Some v) (top_window ws q) ≡ Some w → w.image ≡ i) [
                | true ↦ λ none same. cc
                | false ↦ λ none same. only ws q w none same
              ] kept top
        ] refl bare

-- and so does one in which the image moves
pub Uncovers-moved : (i : ℕ) (place : Rect) (ws : List Window) → Uncovers i ws (moved i place ws)
Uncovers-moved i place ws = record { only = only ws }
  where
    only : (ws : List Window) (q : Point) (w : Window) → is_bare (moved i place ws) q ≡ true → top_window ws q ≡ Some w → w.image ≡ i
    only [] q w bare top = cc
    only (v ∷ ws) q w bare top =
        elim (v.image == i) as (λ b. (v.image == i) ≡ b → is_bare ((if b then record { image = i; place = place } else v) ∷ moved i place ws) q ≡ true → w.image ≡ i) [
          | true ↦ λ is kept.
              elim (holds v.place q) as (λ h. cond h (Some v) (top_window ws q) ≡ Some w → w.image ≡ i) [
                | true ↦ λ same. let first : v ≡ w = cc in ap (λ (u : Window). u.image) (sym first) ∙ (Decides-eqb v.image i).0 is
                | false ↦ λ same. only ws q w (behind (holds place q) (record { image = i; place = place }) (top_window (moved i place ws) q) kept) same
              ] top
          | false ↦ λ is kept.
              elim (holds v.place q) as (λ h. is_none (cond h (Some v) (top_window (moved i place ws) q)) ≡ true → cond h (Some v) (top_window ws q) ≡ Some w → w.image ≡ i) [
                | true ↦ λ none same. cc
                | false ↦ λ none same. only ws q w none same
              ] kept top
        ] refl bare
      where
        behind : (h : Bool) (u : Window) (rest : Option Window) → is_none (cond h (Some u) rest) ≡ true → is_none rest ≡ true
        behind true u rest e = cc
        behind false u rest e = e

-- a new window covers more
pub CoversMore-cons : (w : Window) (ws : List Window) → CoversMore ws (w ∷ ws)
CoversMore-cons w ws = record { bare = λ q bare. behind (holds w.place q) (top_window ws q) bare }
  where
    behind : (h : Bool) (rest : Option Window) → is_none (cond h (Some w) rest) ≡ true → is_none rest ≡ true
    behind true rest e = cc
    behind false rest e = e

-- also one that stands in the midst of them
pub CoversMore-put_above : (w : Window) (old : ℕ) (ws : List Window) → CoversMore ws (put_above w old ws)
CoversMore-put_above w old ws = record { bare = bare ws }
  where
    behind : (h : Bool) (u : Window) (rest : Option Window) → is_none (cond h (Some u) rest) ≡ true → is_none rest ≡ true
    behind true u rest e = cc
    behind false u rest e = e

    bare : (ws : List Window) (q : Point) → is_bare (put_above w old ws) q ≡ true → is_bare ws q ≡ true
    bare [] q e = refl
    bare (v ∷ ws) q e =
        elim (v.image == old) as (λ b. is_bare (if b then w ∷ v ∷ ws else v ∷ put_above w old ws) q ≡ true → is_bare (v ∷ ws) q ≡ true) [
          | true ↦ λ same. behind (holds w.place q) w (top_window (v ∷ ws) q) same
          | false ↦ λ same.
              elim (holds v.place q) as (λ h. is_none (cond h (Some v) (top_window (put_above w old ws) q)) ≡ true → is_none (cond h (Some v) (top_window ws q)) ≡ true) [
                | true ↦ λ none. none
                | false ↦ λ none. bare ws q none
              ] same
        ] e

-- a point is bare under two lists, one above the other, where it is bare under both
is_bare-append : (xs ys : List Window) (q : Point) → is_bare (xs ++ ys) q ≡ (is_bare xs q && is_bare ys q)
is_bare-append [] ys q = refl
is_bare-append (x ∷ xs) ys q =
    elim (holds x.place q) as (λ h. is_none (cond h (Some x) (top_window (xs ++ ys) q)) ≡ (is_none (cond h (Some x) (top_window xs q)) && is_bare ys q)) [
      | true ↦ refl
      | false ↦ is_bare-append xs ys q
    ]

-- and a list parted in two covers the same points
is_bare-parted : (test : Window → Bool) (ws : List Window) (q : Point) → (is_bare (filter test ws) q && is_bare (filter (λ w. not (test w)) ws) q) ≡ is_bare ws q
is_bare-parted test [] q = refl
is_bare-parted test (v ∷ ws) q =
    elim (test v) as (λ b. (is_bare (cond b (v ∷ filter test ws) (filter test ws)) q && is_bare (cond (not b) (v ∷ filter (λ w. not (test w)) ws) (filter (λ w. not (test w)) ws)) q) ≡ is_bare (v ∷ ws) q) [
      | true ↦ elim (holds v.place q) as (λ h. (is_none (cond h (Some v) (top_window (filter test ws) q)) && is_bare (filter (λ w. not (test w)) ws) q) ≡ is_none (cond h (Some v) (top_window ws q))) [
        | true ↦ refl
        | false ↦ is_bare-parted test ws q
      ]
      | false ↦ elim (holds v.place q) as (λ h. (is_bare (filter test ws) q && is_none (cond h (Some v) (top_window (filter (λ w. not (test w)) ws) q))) ≡ is_none (cond h (Some v) (top_window ws q))) [
        | true ↦ and_false (is_bare (filter test ws) q)
        | false ↦ is_bare-parted test ws q
      ]
    ]
  where
    and_false : (b : Bool) → (b && false) ≡ false
    and_false true = refl
    and_false false = refl

-- raising and lowering cover the same points
pub is_bare-raised : (group : List ℕ) (ws : List Window) (q : Point) → is_bare (raised group ws) q ≡ is_bare ws q
is_bare-raised group ws q =
    is_bare-append (filter (is_in group) ws) (filter (λ w. not (is_in group w)) ws) q ∙ is_bare-parted (is_in group) ws q

pub is_bare-lowered : (group : List ℕ) (ws : List Window) (q : Point) → is_bare (lowered group ws) q ≡ is_bare ws q
is_bare-lowered group ws q =
    is_bare-append (filter (λ w. not (is_in group w)) ws) (filter (is_in group) ws) q
    ∙ and_swap (is_bare (filter (λ w. not (is_in group w)) ws) q) (is_bare (filter (is_in group) ws) q)
    ∙ is_bare-parted (is_in group) ws q
  where
    and_swap : (a b : Bool) → (a && b) ≡ (b && a)
    and_swap true true = refl
    and_swap true false = refl
    and_swap false true = refl
    and_swap false false = refl

pub CoversMore-same : (before after : List Window) → ((q : Point) → is_bare after q ≡ is_bare before q) → CoversMore before after
CoversMore-same before after same = record { bare = λ q bare. sym (same q) ∙ bare }

-- ---- what is seen once the list has changed

-- of a list that covers more: the plane's own pixels, with nothing written
pub seen-covers_more : (world : World) (i : ℕ) (after : List Window) (plane : Point → ℕ) → (image_at world i).canvas ≡ seen (image_at world i).r (image_at world i).windows plane → CoversMore (image_at world i).windows after → seen (image_at world i).r after plane ≡ seen (image_at world i).r after (uncovered world i)
seen-covers_more world i after plane canvas more =
    let r = (image_at world i).r in
    let before = (image_at world i).windows in
    sym (seen-same r after plane (uncovered world i)
    (λ q inside bare.
    let was = more.bare q bare in
    uncovered-bare world i q was
    ∙ (λ j. canvas j q)
    ∙ ap (λ b. if b && is_bare before q then plane q else 0) inside
    ∙ ap (λ b. if b then plane q else 0) was))

-- and of one that uncovers points of an image alone: those of the plane in which the fill was written
-- wherever a window of that image covered it
pub seen-filled : (world : World) (i n : ℕ) (after : List Window) (old new : Point → ℕ) (fill : Point → ℕ) → (image_at world i).canvas ≡ seen (image_at world i).r (image_at world i).windows old → ((q : Point) → new q ≡ (if holds (image_at world i).r q && covers n q (image_at world i).windows then fill q else old q)) → ((w : Window) (q : Point) → w.image ≡ n → filled world (image_at world i).chan w q ≡ fill q) → Uncovers n (image_at world i).windows after → seen (image_at world i).r after new ≡ seen (image_at world i).r after (uncovered world i)
seen-filled world i n after old new fill canvas is gives uncovers =
    let r = (image_at world i).r in
    seen-same r after (uncovered world i) new (λ q inside bare. at q inside bare (is_bare (image_at world i).windows q) refl)
  where
    at : (q : Point) → holds (image_at world i).r q ≡ true → is_bare after q ≡ true → (was : Bool) → is_bare (image_at world i).windows q ≡ was → new q ≡ uncovered world i q
    at q inside bare true was =
        let before = (image_at world i).windows in
        let none : covers n q before ≡ false = not_covered (covers n q before) refl in
        is q
        ∙ ap (λ b. if b && covers n q before then fill q else old q) inside
        ∙ ap (λ b. if b then fill q else old q) none
        ∙ sym (uncovered-bare world i q was
        ∙ (λ j. canvas j q)
        ∙ ap (λ b. if b && is_bare before q then old q else 0) inside
        ∙ ap (λ b. if b then old q else 0) was)
      where
        not_covered : (b : Bool) → covers n q (image_at world i).windows ≡ b → b ≡ false
        not_covered true e = absurd (both_ways _ (covers-covered n q (image_at world i).windows e) was)
        not_covered false e = refl
    at q inside bare false was =
        let before = (image_at world i).windows in
        let top = covered-some before q was in
        let own : top.0.image ≡ n = uncovers.only q top.0 bare top.1 in
        is q
        ∙ ap (λ b. if b && covers n q before then fill q else old q) inside
        ∙ ap (λ b. if b then fill q else old q) (covers-top_window n q before top.0 top.1 own)
        ∙ sym (uncovered-covered world i q top.0 top.1 ∙ gives top.0 q own)
