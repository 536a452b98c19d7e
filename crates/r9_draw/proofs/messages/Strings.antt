-- What the images and the book keep together stays so where a string is drawn.
use Rattle.std.proofs.Common.{◌≡◌, ℕ, true, List, [], ◌∷◌, ◌++◌, Option, Some, None, Result, Ok, Err, OnOk, OnErr, refl, sym, ap, ◌∙◌}
use Rattle.std.specs.Prelude.{is_ok, is_some, option_map}
use Rattle.std.specs.Option.{option_map_or}
use Rattle.std.specs.List.{fold}
use Rattle.r9_geom.specs.declared.Point.{Point}
use Rattle.r9_geom.specs.declared.Rect.{Rect}
use Rattle.r9_chan.specs.Op.{number}
use Rattle.model_draw_parts.specs.declared.fonts.Piece.{Piece}
use Rattle.model_draw_parts.specs.fonts.Font.{Font}
use Rattle.model_forest.specs.World.{World}
use Rattle.model_forest.specs.Draw.{Drawing, after_draw}
use Rattle.model_forest.proofs.Releasing.{changed-at}
use Rattle.model_draw_parts.specs.images.Book.{Book}
use Rattle.model_text.specs.text.Outcome.{Outcome, ◌>>=◌}
use Rattle.model_draw_parts.specs.dmsg.Message.{LowS, LowX}
use Rattle.model_draw.specs.draw.World.{World as Device, s_over_d, with_images}
use Rattle.model_draw.specs.draw.Drawing.{with_operator}
use Rattle.model_draw.specs.draw.Writing.{background_drawing, string_drawings, write_string}
use Rattle.model_draw.specs.draw.Act.{act}
use Rattle.r9_dmsg.specs.declared.writing.Background.{Background}
use Rattle.r9_dmsg.specs.declared.writing.Writing.{Writing}
use Rattle.r9_dmsg.specs.Listed.{writing_in, writing_message}
use Rattle.r9_draw.specs.declared.strings.lettering.Lettering.{Lettering}
use Rattle.r9_draw.specs.strings.Drawings.{background, characters, drawings, under}
use Rattle.r9_device.specs.device.Kept.{IsKept}
use Rattle.r9_draw.specs.messages.Strings.{background_of}
use Rattle.r9_device.proofs.device.Kept.{kept-draw, kept-same}

-- each of the drawings is on this image
abbrev AreOn : ℕ → List Drawing → Type 0
AreOn i [] = Unit {0}
AreOn i (d ∷ ds) = (d.dst ≡ i) × AreOn i ds

on-both : (i : ℕ) (ds es : List Drawing) → AreOn i ds → AreOn i es → AreOn i (ds ++ es)
on-both i [] es here there = there
on-both i (d ∷ ds) es here there = (here.0, on-both i ds es here.1 there)

on-characters : (l : Lettering) (pieces : List Piece) → AreOn l.dst.0 (characters l pieces)
on-characters l [] = tt
on-characters l (p ∷ ps) = (refl, on-characters l ps)

on-background : (l : Lettering) (r : Rect) → AreOn l.dst.0 (background l r)
on-background l r = by (under l)
  where
    by : (u : Option (ℕ × Point)) → AreOn l.dst.0 (background_drawing l.dst.0 l.clipr r (number l.op) u)
    by None = tt
    by (Some u) = (refl, tt)

on-drawings : (images : World) (font : Font) (l : Lettering) (indices : List ℕ) → AreOn l.dst.0 (drawings images font l indices)
unfolding drawings
on-drawings images font l indices = on-both l.dst.0 _ _ (on-background l _) (on-characters l _)

drawn-live : (images : World) (d : Drawing) → is_some (after_draw images d d.dst) ≡ true
unfolding after_draw
drawn-live images d = ap is_some (changed-at images d.dst _)

kept-fold : (ds : List Drawing) (images : World) (book : Book) (i : ℕ) → AreOn i ds → IsKept images book → is_some (images i) ≡ true → IsKept (fold after_draw images ds) book
kept-fold [] images book i on kept live = kept
kept-fold (d ∷ ds) images book i on kept live =
    kept-fold ds (after_draw images d) book i on.1
    (kept-draw images book d kept (ap (λ (n : ℕ). is_some (images n)) on.0 ∙ live))
    (ap (λ (n : ℕ). is_some (after_draw images d n)) (sym on.0) ∙ drawn-live images d)

pub kept-lettered : {A E : Type 0} (o : Result A E) (images next : World) (book : Book) (font : Font) (l : Lettering) (indices : List ℕ) → IsKept images book → is_some (images l.dst.0) ≡ true
    → OnOk o (next ≡ fold after_draw images (drawings images font l indices)) → OnErr o (next ≡ images) → IsKept next book
kept-lettered (Ok x) images next book font l indices kept live ok err =
    kept-same _ next book (kept-fold (drawings images font l indices) images book l.dst.0 (on-drawings images font l indices) kept live) ok
kept-lettered (Err x) images next book font l indices kept live ok err = kept-same images next book kept err

-- ---- as a message

act-writing : (k : ℕ) (w : Device) (asked : Writing) → act k w (writing_message asked) [] ≡ write_string k w (writing_in asked) (background_of asked)
unfolding act
act-writing k w asked = by asked.background
  where
    by : (b : Option Background) → act k w (option_map_or (λ b. LowX (writing_in asked) b.id b.p) b (LowS (writing_in asked))) [] ≡ write_string k w (writing_in asked) (option_map (λ b. (b.id, b.p)) b)
    by None = refl
    by (Some b) = refl

-- a string for which there is what is to be drawn is not refused
pub accepted-writing : (k : ℕ) (w : Device) (asked : Writing) (ds : List Drawing) → string_drawings k w (writing_in asked) (background_of asked) ≡ Ok ds → is_ok (act k w (writing_message asked) []) ≡ true
unfolding write_string
accepted-writing k w asked ds is =
    ap is_ok (act-writing k w asked) ∙ ap (λ (o : Outcome (List Drawing)). is_ok (o >>= λ drawings. Ok (with_operator (with_images w (fold after_draw w.images drawings)) k s_over_d))) is
