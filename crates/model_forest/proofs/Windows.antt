-- A forest whose image gets another list of windows.
use Rattle.std.proofs.Common.{◌≡◌, ◌≢◌, ℕ, ◌<◌, ◌≤◌, ◌^◌, Bool, true, false, Option, Some, None, List, length, refl, ap}
use Rattle.std.specs.Prelude.{◌==◌, is_some, option_map, unwrap_or, All, IsTrue, if◌then◌else◌}
use Rattle.std.specs.List.{list_any}
use Rattle.std.specs.Option.{option_map_or}
use Rattle.std.proofs.lemmas.Nat.{pow_pos}
use Rattle.r9_geom.specs.declared.Point.{Point}
use Rattle.model_pixel.specs.Channels as channels
use Rattle.model_pixel.specs.Channels.{expand, is_descriptor, pack}
use Rattle.model_forest.specs.declared.Window.{Window}
use Rattle.model_forest.specs.World.{Image, World, fill_of, image_at, no_image, parent_of, IsForest, IsImage, IsLive, IsWindowOf}
use Rattle.model_forest.specs.View.{at, top_window}
use Rattle.model_forest.specs.Draw.{reaches}
use Rattle.model_forest.specs.Stack.{filled, seen, uncovered, with_windows}
use Rattle.model_forest.proofs.Changes.{with_image-at, with_image-each, with_image-other}
use Rattle.model_forest.proofs.Raws.{converted_below}
use Rattle.model_forest.proofs.Sound.{is_listed, times, IsImage-like, IsStill, IsStill-with_image, IsForestBut, IsForestBut-any, IsForestBut-with_list, IsForest-all}
use Rattle.model_forest.proofs.Stacks.{seen_below}
use Rattle.model_forest.proofs.Views.{All-top_window}

-- what fills a point fits the channels that it is packed for
pub filled_below : (world : World) (chan : ℕ) (w : Window) (p : Point) → is_descriptor (image_at world (fill_of world w.image)).chan ≡ true → is_descriptor chan ≡ true → filled world chan w p < 2 ^ channels.depth chan
filled_below world chan w p from to = by_cases (reaches (image_at world (fill_of world w.image)) p)
  where
    by_cases : (b : Bool) → (if b then pack chan (expand (image_at world (fill_of world w.image)).chan (at world (fill_of world w.image) p)) else 0) < 2 ^ channels.depth chan
    by_cases true = converted_below (image_at world (fill_of world w.image)).chan chan (at world (fill_of world w.image) p) from to
    by_cases false = pow_pos (channels.depth chan)

pub uncovered_below : (world : World) (out : Option ℕ) (i : ℕ) (p : Point) → IsForestBut out world → IsLive world i → uncovered world i p < 2 ^ channels.depth (image_at world i).chan
uncovered_below world out i p ok live = by_top (top_window (image_at world i).windows p) refl
  where
    by_top : (top : Option Window) → top_window (image_at world i).windows p ≡ top → option_map_or (λ w. filled world (image_at world i).chan w p) top ((image_at world i).canvas p) < 2 ^ channels.depth (image_at world i).chan
    by_top None e = (ok.images i live).raws p
    by_top (Some w) e =
        let is : IsWindowOf world i w = All-top_window (IsWindowOf world i) (image_at world i).windows p w (ok.windows i live) e in
        filled_below world (image_at world i).chan w p (ok.images (fill_of world w.image) is.fill).chan (ok.images i live).chan

pub windows-with_windows : (world : World) (i : ℕ) (ws : List Window) → (image_at (with_windows world i ws) i).windows ≡ ws
windows-with_windows world i ws =
    let image = image_at world i in
    let new : Image = record image { windows = ws; canvas = seen image.r ws (uncovered world i) } in
    ap (λ (slot : Option Image). (unwrap_or slot no_image).windows) (with_image-at world i (Some new))

pub with_windows-other : (world : World) (i : ℕ) (ws : List Window) (n : ℕ) → n ≢ i → with_windows world i ws n ≡ world n
with_windows-other world i ws n other =
    let image = image_at world i in
    let new : Image = record image { windows = ws; canvas = seen image.r ws (uncovered world i) } in
    with_image-other world i n (Some new) other

-- what holds of the new list and of the others where they were holds of each
pub windows-with_windows_or : (world : World) (i : ℕ) (ws : List Window) (P : ℕ → List Window → Type 0) → P i ws → ((n : ℕ) → n ≢ i → P n (image_at world n).windows) → (n : ℕ) → P n (image_at (with_windows world i ws) n).windows
windows-with_windows_or world i ws P changed others =
    let image = image_at world i in
    let new : Image = record image { windows = ws; canvas = seen image.r ws (uncovered world i) } in
    with_image-each world i (Some new) (λ n slot. P n (unwrap_or slot no_image).windows) changed others

pub IsStill-with_windows : (world : World) (i : ℕ) (ws : List Window) → IsLive world i → IsStill world (with_windows world i ws)
IsStill-with_windows world i ws live =
    let image = image_at world i in
    let new : Image = record image { windows = ws; canvas = seen image.r ws (uncovered world i) } in
    IsStill-with_image world i new live (record { standing = refl; depth = refl; chan = refl; size = record { width = refl; height = refl } })

pub parent_of-with_windows : (world : World) (i : ℕ) (ws : List Window) (n : ℕ) → IsLive world i → parent_of (with_windows world i ws) n ≡ parent_of world n
parent_of-with_windows world i ws n live = ap (option_map (λ s. s.parent)) ((IsStill-with_windows world i ws live).same n).standing

-- and has the rectangle that it had
pub rect-with_windows : (world : World) (i : ℕ) (ws : List Window) (n : ℕ) → (image_at (with_windows world i ws) n).r ≡ (image_at world n).r
rect-with_windows world i ws =
    let image = image_at world i in
    let new : Image = record image { windows = ws; canvas = seen image.r ws (uncovered world i) } in
    with_image-each world i (Some new) (λ n slot. (unwrap_or slot no_image).r ≡ (image_at world n).r) refl (λ n other. refl)

pub lives-with_windows : (world : World) (i : ℕ) (ws : List Window) (n : ℕ) → IsLive world i → is_some (with_windows world i ws n) ≡ is_some (world n)
lives-with_windows world i ws n live = (IsStill-with_windows world i ws live).live n

-- an image gets another list of windows, each of which stands on it
pub IsForestBut-with_windows : (world : World) (out : Option ℕ) (i : ℕ) (ws : List Window) → IsLive world i → length ws < 2 ^ 32 → All (IsWindowOf world i) ws → ((n : ℕ) → out ≢ Some n → IsTrue (is_listed (image_at world i).windows n) → IsTrue (is_listed ws n)) → ((n : ℕ) → times ws n ≤ 1) → IsForestBut out world → IsForestBut out (with_windows world i ws)
IsForestBut-with_windows world out i ws live few stand listed once ok =
    let image = image_at world i in
    let was = ok.images i live in
    let new : Image = record image { windows = ws; canvas = seen image.r ws (uncovered world i) } in
    let is : IsImage new =
    IsImage-like image image.repl image.clipr new.canvas ws was.repeats was.clip few
    (λ p. seen_below image.r ws (uncovered world i) (channels.depth image.chan) p (λ bare. uncovered_below world out i p ok live)) was in
    IsForestBut-with_list world out i new live (record { standing = refl; depth = refl; chan = refl; size = record { width = refl; height = refl } }) refl is stand listed once ok

pub IsForest-with_windows : (world : World) (i : ℕ) (ws : List Window) → IsLive world i → length ws < 2 ^ 32 → All (IsWindowOf world i) ws → ((n : ℕ) → IsTrue (list_any (λ w. w.image == n) (image_at world i).windows) → IsTrue (list_any (λ w. w.image == n) ws)) → ((n : ℕ) → times ws n ≤ 1) → IsForest world → IsForest (with_windows world i ws)
IsForest-with_windows world i ws live few stand listed once ok =
    IsForest-all (with_windows world i ws)
    (IsForestBut-with_windows world None i ws live few stand (λ n apart. listed n) once (IsForestBut-any None world ok))
