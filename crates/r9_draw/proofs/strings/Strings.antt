-- What stays as it was while a string is drawn, and what the server writes for one.
use Rattle.std.proofs.Common.{◌≡◌, ℕ, suc, ◌+◌, ◌*◌, ◌<◌, ◌^◌, ◌≤◌, ℤ, int_le, ◌||◌, ◌&&◌, Bool, true, false, Option, Some, None, List, [], ◌∷◌, ◌++◌, length, get_or, take, drop, refl, sym, ap, ◌∙◌, subst, arith}
use Rattle.std.specs.Prelude.{Ok, Err, IfSome, if◌then◌else◌, unwrap_or}
use Rattle.std.specs.List.{fold, list_all, sum_by, All}
use Rattle.std.specs.Option.{option_map_or}
use Rattle.std.specs.Result.{result_unwrap_or}
use Rattle.std.proofs.Math.Nat.{mul-zero, zero-mul}
use Rattle.std.proofs.lemmas.Bool.{false≢true}
use Rattle.std.proofs.lemmas.Int.{ints}
use Rattle.std.proofs.Math.Seq.{drop-cons}
use Rattle.std.proofs.lemmas.List.{drop_all}
use Rattle.std.proofs.lemmas.List.Elements.{All-more, All-weaker}
use Rattle.std.proofs.lemmas.List.Sums.{fold-append, sum_by-append, sum_by-cons}
use Rattle.r9_geom.specs.declared.Point.{Point}
use Rattle.r9_geom.specs.declared.Rect.{Rect}
use Rattle.r9_geom.specs.Geometry.{area_of, distance, height, is_empty, meet, width, IsNearBy, IsRectNearBy}
use Rattle.model_text.specs.text.Outcome.{Outcome}
use Rattle.model_draw_parts.specs.declared.fonts.Piece.{Piece}
use Rattle.model_draw_parts.specs.fonts.Font.{Font, Layout, has_index, layout}
use Rattle.model_forest.specs.World.{Image, World, image_at, no_image, IsLive}
use Rattle.model_forest.specs.View.{is_bare}
use Rattle.model_draw.specs.cost.Cost.{drawing_cost}
use Rattle.model_forest.specs.Cost.{reach}
use Rattle.model_forest.specs.Steps.{carried_rect}
use Rattle.model_forest.specs.Draw.{Drawing, after_draw, drawn, in_area}
use Rattle.model_forest.proofs.Changes.{with_image-each}
use Rattle.model_forest.proofs.Lives.{lives-with_canvas}
use Rattle.model_draw_parts.specs.dmsg.Message.{Writing}
use Rattle.model_draw.specs.draw.World.{World as Device, client_of, look, s_over_d, with_images}
use Rattle.model_draw.specs.draw.Drawing.{with_operator}
use Rattle.model_draw.specs.draw.Writing.{background_rect, font_of, look_background, string_drawings, write_string}
use Rattle.r9_chan.specs.Op.{number}
use Rattle.r9_draw.specs.declared.strings.lettering.Background.{Background}
use Rattle.r9_draw.specs.declared.strings.lettering.Lettering.{Lettering}
use Rattle.r9_draw.specs.strings.Drawings.{background, characters, drawings, laid_out, letter, under}
use Rattle.r9_draw.specs.strings.Ready.{CanLetter, Fits}

-- ---- room

no_distance : (a b : ℤ) → int_le b a ≡ true → distance a b ≡ 0
no_distance a b h = grind (arith, ints)

-- an empty rectangle has no points
pub no_points : (r : Rect) → is_empty r ≡ true → area_of r ≡ 0
no_points r none = by_cases (int_le r.max.x r.min.x) (int_le r.max.y r.min.y) none refl refl
  where
    by_cases : (across down : Bool) → (across || down) ≡ true → int_le r.max.x r.min.x ≡ across → int_le r.max.y r.min.y ≡ down → area_of r ≡ 0
    by_cases true down some a d = ap (λ w. w * height r) (no_distance r.min.x r.max.x a) ∙ zero-mul (height r)
    by_cases false true some a d = ap (λ h. width r * h) (no_distance r.min.y r.max.y d) ∙ mul-zero (width r)
    by_cases false false some a d = absurd (false≢true some)

-- ---- worlds that are alike

-- each image lives on, with the rectangles that it had, and repeats as it did
pub record Alike (old new : World) : Type 0 where
  pub lives : (i : ℕ) → IsLive old i → IsLive new i
  pub same_r : (i : ℕ) → (image_at new i).r ≡ (image_at old i).r
  pub same_clipr : (i : ℕ) → (image_at new i).clipr ≡ (image_at old i).clipr
  pub same_repl : (i : ℕ) → (image_at new i).repl ≡ (image_at old i).repl

pub Alike-same : (old new : World) → new ≡ old → Alike old new
Alike-same old new same = record {
  lives = λ i live. subst (λ (w : World). IsLive w i) (sym same) live;
  same_r = λ i. ap (λ (w : World). (image_at w i).r) same;
  same_clipr = λ i. ap (λ (w : World). (image_at w i).clipr) same;
  same_repl = λ i. ap (λ (w : World). (image_at w i).repl) same;
}

pub Alike-then : (a b c : World) → Alike a b → Alike b c → Alike a c
Alike-then a b c first next = record {
  lives = λ i live. next.lives i (first.lives i live);
  same_r = λ i. next.same_r i ∙ first.same_r i;
  same_clipr = λ i. next.same_clipr i ∙ first.same_clipr i;
  same_repl = λ i. next.same_repl i ∙ first.same_repl i;
}

pub Alike-after_draw : (world : World) (d : Drawing) → IsLive world d.dst → Alike world (after_draw world d)
unfolding after_draw
Alike-after_draw world d live =
    let image = image_at world d.dst in
    let changed : Image = record image { canvas = λ p. if in_area world d p && is_bare image.windows p then drawn world d p else image.canvas p } in
    record {
      lives = λ i there. lives-with_canvas world d.dst (in_area world d) (drawn world d) i live ∙ there;
      same_r = λ i. with_image-each world d.dst (Some changed) (λ n slot. (unwrap_or slot no_image).r ≡ (image_at world n).r) refl (λ n other. refl) i;
      same_clipr = λ i. with_image-each world d.dst (Some changed) (λ n slot. (unwrap_or slot no_image).clipr ≡ (image_at world n).clipr) refl (λ n other. refl) i;
      same_repl = λ i. with_image-each world d.dst (Some changed) (λ n slot. (unwrap_or slot no_image).repl ≡ (image_at world n).repl) refl (λ n other. refl) i;
    }

pub Alike-characters : (world : World) (l : Lettering) (pieces : List Piece) → IsLive world l.dst.0 → Alike world (fold after_draw world (characters l pieces))
Alike-characters world l [] live = Alike-same world world refl
Alike-characters world l (piece ∷ pieces) live =
    let one : Alike world (after_draw world (letter l piece)) = Alike-after_draw world (letter l piece) live in
    Alike-then _ _ _ one (Alike-characters (after_draw world (letter l piece)) l pieces (one.lives l.dst.0 live))

pub Alike-background : (world : World) (l : Lettering) (r : Rect) → IsLive world l.dst.0 → Alike world (fold after_draw world (background l r))
Alike-background world l r live = by_cases l.background
  where
    by_cases : (b : Option Background) → Alike world (fold after_draw world (background (record l { background = b }) r))
    by_cases None = Alike-same world world refl
    by_cases (Some b) = Alike-after_draw world _ live

-- a string that can be drawn still can
pub CanLetter-still : (old new : World) (l : Lettering) → Alike old new → CanLetter old l → CanLetter new l
CanLetter-still old new l alike can = record {
  dst = alike.lives _ can.dst;
  src = alike.lives _ can.src;
  font_image = alike.lives _ can.font_image;
  background = on_some l.background can.background;
  p = can.p;
  sp = can.sp;
  background_p = can.background_p;
  font_r = subst (IsRectNearBy (2 ^ 32)) (sym (alike.same_r l.font_image.0)) can.font_r;
}
  where
    on_some : (b : Option Background) → IfSome b (λ b. IsLive old b.image.0) → IfSome b (λ b. IsLive new b.image.0)
    on_some None live = live
    on_some (Some b) live = alike.lives b.image.0 live

-- what fitted still fits where there is no less room
pub Fits-still : (old new : World) (dst room more : ℕ) (r : Rect) → Alike old new → room ≤ more → Fits old dst room r → Fits new dst more r
Fits-still old new dst room more r alike grown fits =
    let same : area_of (meet r (image_at new dst).r) ≡ area_of (meet r (image_at old dst).r) = ap (λ (s : Rect). area_of (meet r s)) (alike.same_r dst) in
    omega (arith, same, fits)

-- one piece more for which there is room
pub next_fits : (start world : World) (dst room more : ℕ) (pieces : List Piece) (i : ℕ) (d : Piece) → i < length pieces → world ≡ start → room ≤ more
    → All (λ piece. Fits start dst room piece.r) (take i pieces) → Fits world dst more (get_or pieces i d).r → All (λ piece. Fits start dst more piece.r) (take (i + 1) pieces)
next_fits start world dst room more pieces i d here same grown fitted fits =
    All-more (λ (piece : Piece). Fits start dst more piece.r) pieces i d here
    (All-weaker (λ (piece : Piece). Fits start dst room piece.r) (λ (piece : Piece). Fits start dst more piece.r) (λ piece k. Fits-still start start dst room more piece.r (Alike-same start start refl) grown k) (take i pieces) fitted)
    (subst (λ (w : World). Fits w dst more (get_or pieces i d).r) same fits)

next_piece : (pieces : List Piece) (i : ℕ) (d : Piece) → i < length pieces → drop i pieces ≡ get_or pieces i d ∷ drop (i + 1) pieces
next_piece pieces i d more =
    let further : suc i ≡ i + 1 = omega arith in
    drop-cons pieces i d more ∙ ap (λ n. get_or pieces i d ∷ drop n pieces) further

-- ---- what drawings cost

reach-still : (old new : World) (i : ℕ) (from to : Point) (r : Rect) → Alike old new → reach (image_at new i) from to r ≡ reach (image_at old i) from to r
reach-still old new i from to r alike = λ j.
    let clipped = meet r (carried_rect (alike.same_clipr i j) from to) in
    if alike.same_repl i j then clipped else meet clipped (carried_rect (alike.same_r i j) from to)

-- a drawing costs what it cost
pub cost-still : (old new : World) (d : Drawing) → Alike old new → drawing_cost new d ≡ drawing_cost old d
cost-still old new d alike = ap area_of (masked d.mask)
  where
    cut : World → Rect
    cut world = meet (meet (meet d.r (image_at world d.dst).r) (image_at world d.dst).clipr) d.clip

    sourced : World → Rect
    sourced world = reach (image_at world d.src) d.sp d.r.min (cut world)

    same : sourced new ≡ sourced old
    same =
        reach-still old new d.src d.sp d.r.min (cut new) alike
        ∙ (λ j. reach (image_at old d.src) d.sp d.r.min (meet (meet (meet d.r (alike.same_r d.dst j)) (alike.same_clipr d.dst j)) d.clip))

    masked : (mask : Option ℕ)
        → option_map_or (λ i. reach (image_at new i) d.mp d.r.min (sourced new)) mask (sourced new)
        ≡ option_map_or (λ i. reach (image_at old i) d.mp d.r.min (sourced old)) mask (sourced old)
    masked None = same
    masked (Some i) = reach-still old new i d.mp d.r.min (sourced new) alike ∙ ap (reach (image_at old i) d.mp d.r.min) same

pub costs-still : (old new : World) (ds : List Drawing) → Alike old new → sum_by (drawing_cost new) ds ≡ sum_by (drawing_cost old) ds
costs-still old new ds alike = ap (λ (cost : Drawing → ℕ). sum_by cost ds) (λ j d. cost-still old new d alike j)

-- So much was written and the characters that are to be drawn yet cost so much, no more than `most`: still so behind one more.
pub next_within : (start world : World) (l : Lettering) (pieces : List Piece) (i : ℕ) (d : Piece) (written more most : ℕ) → Alike start world → i < length pieces
    → more ≤ written + drawing_cost world (letter l (get_or pieces i d))
    → written + sum_by (drawing_cost start) (characters l (drop i pieces)) ≤ most → more + sum_by (drawing_cost start) (characters l (drop (i + 1) pieces)) ≤ most
next_within start world l pieces i d written more most alike here counted within =
    let one = cost-still start world (letter l (get_or pieces i d)) alike in
    let first : drop i pieces ≡ get_or pieces i d ∷ drop (i + 1) pieces = next_piece pieces i d here in
    let both = ap (λ (ps : List Piece). sum_by (drawing_cost start) (characters l ps)) first in
    omega (arith, one, counted, within, both, sum_by-cons (drawing_cost start) (letter l (get_or pieces i d)) (characters l (drop (i + 1) pieces)))

-- ---- the characters one after the other

pub next_drawn : (start world new : World) (l : Lettering) (pieces : List Piece) (i : ℕ) (d : Piece) → i < length pieces → new ≡ after_draw world (letter l (get_or pieces i d))
    → fold after_draw world (characters l (drop i pieces)) ≡ fold after_draw start (characters l pieces) → fold after_draw new (characters l (drop (i + 1) pieces)) ≡ fold after_draw start (characters l pieces)
next_drawn start world new l pieces i d more is rest =
    let first : drop i pieces ≡ get_or pieces i d ∷ drop (i + 1) pieces = next_piece pieces i d more in
    ap (λ (w : World). fold after_draw w (characters l (drop (i + 1) pieces))) is ∙ sym (ap (λ (ps : List Piece). fold after_draw world (characters l ps)) first) ∙ rest

pub all_drawn : (start world : World) (l : Lettering) (pieces : List Piece) (i : ℕ) → length pieces ≤ i
    → fold after_draw world (characters l (drop i pieces)) ≡ fold after_draw start (characters l pieces) → world ≡ fold after_draw start (characters l pieces)
all_drawn start world l pieces i end rest =
    sym (ap (λ (ps : List Piece). fold after_draw world (characters l ps)) (drop_all i pieces end)) ∙ rest

-- ---- the background, and then the characters

pub Alike-under : (start before after : World) (l : Lettering) (r : Rect) → IsLive start l.dst.0 → before ≡ start → after ≡ fold after_draw before (background l r) → Alike start after
Alike-under start before after l r live same is =
    let kept : Alike start before = Alike-same start before same in
    Alike-then _ _ _ kept (Alike-then _ _ _ (Alike-background before l r (kept.lives l.dst.0 live)) (Alike-same _ _ is))

-- the drawings of a string that is laid out
drawings_are : (start : World) (font : Font) (l : Lettering) (indices : List ℕ) (laid : Layout) (r : Rect) (ps : List Piece)
    → laid ≡ laid_out font l.p l.sp indices → r ≡ background_rect l.p laid.end font.ascent (image_at start l.font_image.0).r → ps ≡ laid.pieces
    → background l r ++ characters l ps ≡ drawings start font l indices
unfolding drawings
drawings_are start font l indices laid r ps laid_so wide pieces_of = λ j. background l (rect j) ++ characters l (characters_of j)
  where
    rect : r ≡ background_rect l.p (laid_out font l.p l.sp indices).end font.ascent (image_at start l.font_image.0).r
    rect = wide ∙ ap (λ (x : Layout). background_rect l.p x.end font.ascent (image_at start l.font_image.0).r) laid_so

    characters_of : ps ≡ (laid_out font l.p l.sp indices).pieces
    characters_of = pieces_of ∙ ap (λ (x : Layout). x.pieces) laid_so

pub string_drawn : (start before under after : World) (font : Font) (l : Lettering) (indices : List ℕ) (laid : Layout) (r : Rect) (ps : List Piece)
    → laid ≡ laid_out font l.p l.sp indices → r ≡ background_rect l.p laid.end font.ascent (image_at start l.font_image.0).r → ps ≡ laid.pieces
    → before ≡ start → under ≡ fold after_draw before (background l r) → after ≡ fold after_draw under (characters l ps) → after ≡ fold after_draw start (drawings start font l indices)
string_drawn start before under after font l indices laid r ps laid_so wide pieces_of same first then_so =
    then_so
    ∙ ap (λ (w : World). fold after_draw w (characters l ps)) (first ∙ ap (λ (w : World). fold after_draw w (background l r)) same)
    ∙ sym (fold-append after_draw start (background l r) (characters l ps))
    ∙ ap (fold after_draw start) (drawings_are start font l indices laid r ps laid_so wide pieces_of)

-- the background costs what it costs before, and the characters what they cost behind it
pub string_within : (start before under : World) (font : Font) (l : Lettering) (indices : List ℕ) (laid : Layout) (r : Rect) (ps : List Piece) (written more most : ℕ) → IsLive start l.dst.0
    → laid ≡ laid_out font l.p l.sp indices → r ≡ background_rect l.p laid.end font.ascent (image_at start l.font_image.0).r → ps ≡ laid.pieces
    → before ≡ start → under ≡ fold after_draw before (background l r)
    → more ≤ written + sum_by (drawing_cost before) (background l r) → most ≤ more + sum_by (drawing_cost under) (characters l ps)
    → most ≤ written + sum_by (drawing_cost start) (drawings start font l indices)
string_within start before under font l indices laid r ps written more most live laid_so wide pieces_of same first beneath above =
    let b = costs-still start before (background l r) (Alike-same start before same) in
    let c = costs-still start under (characters l ps) (Alike-under start before under l r live same first) in
    let both = ap (sum_by (drawing_cost start)) (drawings_are start font l indices laid r ps laid_so wide pieces_of) in
    omega (arith, b, c, both, beneath, above, sum_by-append (drawing_cost start) (background l r) (characters l ps))

pub Alike-drawings : (images : World) (font : Font) (l : Lettering) (indices : List ℕ) → IsLive images l.dst.0 → Alike images (fold after_draw images (drawings images font l indices))
unfolding drawings
Alike-drawings images font l indices live =
    let laid = laid_out font l.p l.sp indices in
    let r = background_rect l.p laid.end font.ascent (image_at images l.font_image.0).r in
    let below : World = fold after_draw images (background l r) in
    let first : Alike images below = Alike-background images l r live in
    Alike-then _ _ _ first
    (Alike-then _ _ _ (Alike-characters below l laid.pieces (first.lives l.dst.0 live)) (Alike-same _ _ (fold-append after_draw images (background l r) (characters l laid.pieces))))

-- ---- the background's rectangle

pub background_near : (p end : Point) (ascent : ℕ) (font_r : Rect) → ascent ≤ 255 → IsNearBy (2 ^ 32) p → IsNearBy (2 ^ 33) end → IsRectNearBy (2 ^ 32) font_r
    → IsRectNearBy (2 ^ 34) (background_rect p end ascent font_r)
background_near p end ascent font_r high pen last font = record {
  min = record {
    left = omega (arith, ints, pen.left);
    right = omega (arith, ints, pen.right);
    top = omega (arith, ints, pen.top);
    bottom = omega (arith, ints, pen.bottom);
  };
  max = record {
    left = omega (arith, ints, last.left);
    right = omega (arith, ints, last.right);
    top = omega (arith, ints, pen.top, font.min.bottom, font.max.top);
    bottom = omega (arith, ints, pen.bottom, font.min.top, font.max.bottom);
  };
}

-- ---- what a font lays out

-- where it has each index, no string is refused
pub can_lay : (font : Font) (p sp : Point) (indices : List ℕ) → list_all (has_index font) indices ≡ true → layout font p sp indices ≡ Ok (laid_out font p sp indices)
unfolding layout
can_lay font p sp indices all = rw all refl

pub never_refused : (font : Font) (p sp : Point) (indices : List ℕ) (n : ℕ) → list_all (has_index font) indices ≡ true → layout font p sp indices ≡ Err n → ⊥
never_refused font p sp indices n all refused = let e = sym (can_lay font p sp indices all) ∙ refused in absurd cc

pub laid_is : (font : Font) (p sp : Point) (indices : List ℕ) (laid : Layout) → list_all (has_index font) indices ≡ true → layout font p sp indices ≡ Ok laid → laid ≡ laid_out font p sp indices
unfolding layout
laid_is font p sp indices laid all is = ap (λ (o : Outcome Layout). result_unwrap_or o (laid_out font p sp indices)) (sym is ∙ can_lay font p sp indices all)

-- ---- what the server writes

-- a message that writes a string, with this background, asks for this lettering with this font
pub record IsAsked (k : ℕ) (world : Device) (w : Writing) (beneath : Option (ℕ × Point)) (font : Font) (l : Lettering) : Type 0 where
  pub dst : look world k w.dstid ≡ Ok l.dst.0
  pub src : look world k w.srcid ≡ Ok l.src.0
  pub font_image : look world k w.fontid ≡ Ok l.font_image.0
  pub font_is : font_of world k w.fontid ≡ Ok font
  pub background : look_background world k beneath ≡ Ok (under l)
  pub p : w.p ≡ l.p
  pub clipr : w.clipr ≡ l.clipr
  pub sp : w.sp ≡ l.sp
  pub op : (client_of world k).op ≡ number l.op

pub string_drawings-asked : (k : ℕ) (world : Device) (w : Writing) (beneath : Option (ℕ × Point)) (font : Font) (l : Lettering) → IsAsked k world w beneath font l
    → list_all (has_index font) w.indices ≡ true → string_drawings k world w beneath ≡ Ok (drawings world.images font l w.indices)
unfolding string_drawings drawings
string_drawings-asked k world w beneath font l asked all =
    rw (asked.dst, asked.src, asked.font_image, asked.font_is, asked.background, asked.p, asked.clipr, asked.sp, asked.op, can_lay font l.p l.sp w.indices all) refl

-- a string of characters that the font has is written: what is drawn for it, one after the other
pub write_string-asked : (k : ℕ) (world : Device) (w : Writing) (beneath : Option (ℕ × Point)) (font : Font) (l : Lettering) → IsAsked k world w beneath font l
    → list_all (has_index font) w.indices ≡ true
    → write_string k world w beneath ≡ Ok (with_operator (with_images world (fold after_draw world.images (drawings world.images font l w.indices))) k s_over_d)
unfolding write_string
write_string-asked k world w beneath font l asked all = rw (string_drawings-asked k world w beneath font l asked all) refl

-- and nothing of one that has another index
pub write_string-refused : (k : ℕ) (world : Device) (w : Writing) (beneath : Option (ℕ × Point)) (font : Font) (l : Lettering) → IsAsked k world w beneath font l
    → list_all (has_index font) w.indices ≡ false → write_string k world w beneath ≡ Err 15
unfolding write_string string_drawings layout
write_string-refused k world w beneath font l asked lacks =
    rw (asked.dst, asked.src, asked.font_image, asked.font_is, asked.background, lacks) refl
