-- An image goes, on which nothing stands and which no list has.
use Rattle.std.proofs.Common.{◌≡◌, ◌≢◌, ◌≤◌, ℕ, true, false, Option, Some, None, [], sym, ◌∙◌, ap, subst}
use Rattle.std.specs.Prelude.{is_some, option_map, unwrap_or, All, IsTrue}
use Rattle.std.specs.Option.{option_map_or}
use Rattle.std.proofs.lemmas.Bool.{false≢true}
use Rattle.model_forest.specs.declared.Standing.{Standing}
use Rattle.model_forest.specs.declared.Window.{Window}
use Rattle.model_forest.specs.World.{World, fill_of, image_at, no_image, parent_of, with_image, IsForest, IsImage, IsLive, IsWindowOf}
use Rattle.model_forest.proofs.Changes.{with_image-at, with_image-each, with_image-other}
use Rattle.model_forest.proofs.Listed.{All-unlisted}
use Rattle.model_forest.proofs.Sound.{is_listed, times, none_or_some, some_same, IsForestBut}

-- what stands somewhere has a fill, which is not i where no image has i
fill-apart : (standing : Option Standing) (i n : ℕ) → option_map (λ s. s.fill) standing ≢ Some i → option_map (λ s. s.parent) standing ≡ Some n → option_map_or (λ s. s.fill) standing 0 ≢ i
fill-apart None i n other stands = absurd (none_or_some n stands)
fill-apart (Some s) i n other stands = λ same. other (ap (λ (k : ℕ). Some k) same)

-- a window still stands where another image goes
IsWindowOf-gone : (world : World) (i n : ℕ) (w : Window) → option_map (λ s. s.fill) (image_at world w.image).standing ≢ Some i → n ≢ i → w.image ≢ i → IsWindowOf world n w → IsWindowOf (with_image world i None) n w
IsWindowOf-gone world i n w fills below own is =
    let at_w = with_image-other world i w.image None own in
    let at_n = with_image-other world i n None below in
    let at_fill = with_image-other world i (fill_of world w.image) None (fill-apart (image_at world w.image).standing i n fills is.stands) in
    record {
      live = rw at_w is.live;
      stands = rw at_w is.stands;
      fill = rw (at_w, at_fill) is.fill;
      above = rw (at_w, at_n) is.above;
      chan = rw (at_w, at_n) is.chan;
      size = rw at_w is.size;
      reach = rw at_n is.reach;
    }

-- an image goes, on which nothing stands, which fills for no window and which no list has
pub IsForest-gone : (world : World) (i : ℕ) → (image_at world i).windows ≡ [] → ((n : ℕ) → option_map (λ s. s.fill) (image_at world n).standing ≢ Some i) → ((n : ℕ) → IsLive world n → is_listed (image_at world n).windows i ≡ false) → IsForestBut (Some i) world → IsForest (with_image world i None)
IsForest-gone world i alone fills unlisted ok =
    let new : World = with_image world i None in
    record {
      images = with_image-each world i None (λ n slot. is_some slot ≡ true → IsImage (unwrap_or slot no_image)) (λ now. absurd (false≢true now)) (λ n other. ok.images n);
      windows = with_image-each world i None (λ n slot. is_some slot ≡ true → All (IsWindowOf new n) (unwrap_or slot no_image).windows)
          (λ now. absurd (false≢true now))
          (λ n other live.
          All-unlisted (IsWindowOf world n) (IsWindowOf new n) (image_at world n).windows i (λ w own. IsWindowOf-gone world i n w (fills w.image) other own) (unlisted n live) (ok.windows n live));
      parents = λ n p now stands. let at_n = was n now in let live = rw at_n at now in let stood = rw at_n at stands in
          rw (below n p now live stood) (ok.parents n p live stood);
      listed = λ n p now stands. let at_n = was n now in let live = rw at_n at now in let stood = rw at_n at stands in
          rw (below n p now live stood) (ok.listed n p (apart n now) live stood);
      once = with_image-each world i None (λ p slot. (n : ℕ) → is_some slot ≡ true → times (unwrap_or slot no_image).windows n ≤ 1) (λ n now. absurd (false≢true now)) (λ p other. ok.once p);
    }
  where
    differs : (n : ℕ) → IsLive (with_image world i None) n → n ≢ i
    differs n now same =
        let none : is_some (with_image world i None i) ≡ true = subst (λ (k : ℕ). is_some (with_image world i None k) ≡ true) same now in
        let gone : is_some (with_image world i None i) ≡ false = ap is_some (with_image-at world i None) in
        false≢true (sym gone ∙ none)

    apart : (n : ℕ) → IsLive (with_image world i None) n → Some i ≢ Some n
    apart n now same = differs n now (sym (some_same i n same))

    was : (n : ℕ) → IsLive (with_image world i None) n → with_image world i None n ≡ world n
    was n now = with_image-other world i n None (differs n now)

    below : (n p : ℕ) → IsLive (with_image world i None) n → IsLive world n → parent_of world n ≡ Some p → with_image world i None p ≡ world p
    below n p now live stood =
        with_image-other world i p None
        (λ same.
        let here : IsTrue (is_listed (image_at world i).windows n) = subst (λ (k : ℕ). IsTrue (is_listed (image_at world k).windows n)) same (ok.listed n p (apart n now) live stood) in
        let none : is_listed (image_at world i).windows n ≡ false = ap (λ ws. is_listed ws n) alone in
        false≢true (sym none ∙ here))
