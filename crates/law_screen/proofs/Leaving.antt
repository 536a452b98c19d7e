-- Each image stands once in the list of the other on which it stands, still, once others have gone.
use Rattle.std.proofs.Common.{◌≡◌, ◌≤◌, ℕ, true, false, List, [], ◌∷◌, Option, Some, None, refl, sym, ap, ◌∙◌, arith}
use Rattle.std.specs.Prelude.{◌==◌}
use Rattle.std.specs.List.{fold, list_any}
use Rattle.std.specs.Option.{option_map_or}
use Rattle.std.proofs.lemmas.Bool.{eq-eqb, or_parts, true≢false}
use Rattle.model_forest.specs.World.{Image, World as Images, image_at, parent_of}
use Rattle.model_forest.specs.Stack.{with_windows, without}
use Rattle.model_forest.specs.Steps.{after_release}
use Rattle.model_forest.proofs.Listed.{listed-without_other, times-without}
use Rattle.model_forest.proofs.Sound.{is_listed, times}
use Rattle.model_draw_parts.specs.declared.images.Thing.{Thing}
use Rattle.model_draw_parts.specs.declared.images.Thing.TheVariants as thing
use Rattle.model_draw_parts.specs.images.Release.{same_thing}
use Rattle.model_draw.specs.draw.World.{World, without_thing}
use Rattle.law_screen.proofs.Growing.{AreGrown, ground_of, kind_of, one_above, put_each}

-- image i is none of the things
abbrev pub IsSpared : List Thing → ℕ → Type 0
IsSpared gone i = list_any (same_thing (thing.Image i)) gone ≡ false

-- What is spared stands where it stood and has in its list what is spared too. No list has more of anything.
pub record Leaves (old new : Images) (gone : List Thing) : Type 0 where
  pub ground : (i : ℕ) → IsSpared gone i → parent_of new i ≡ parent_of old i
  pub kind : (i : ℕ) → IsSpared gone i → kind_of (image_at new i) ≡ kind_of (image_at old i)
  pub listed : (p i : ℕ) → IsSpared gone p → IsSpared gone i → is_listed (image_at old p).windows i ≡ true → is_listed (image_at new p).windows i ≡ true
  pub times : (p i : ℕ) → times (image_at new p).windows i ≤ times (image_at old p).windows i

-- ---- one goes

module _ (w : Images) (n : ℕ) where
  abbrev relisted : Option ℕ → Images
  relisted o = option_map_or (λ p. with_windows w p (without n (image_at w p).windows)) o w

  -- an image, and what it is once another has left its list
  record Loses (old new : Image) : Type 0 where
    ground : ground_of new ≡ ground_of old
    kind : kind_of new ≡ kind_of old
    listed : (i : ℕ) → (i == n) ≡ false → is_listed old.windows i ≡ true → is_listed new.windows i ≡ true
    times : (i : ℕ) → times new.windows i ≤ times old.windows i

  loses_nothing : (x : Image) → Loses x x
  loses_nothing x = record { ground = refl; kind = refl; listed = λ i other is. is; times = λ i. omega arith }

  differs : (i : ℕ) → (i == n) ≡ false → i ≡ n → ⊥
  differs i other same = true≢false (sym (eq-eqb i n same) ∙ other)

  relisted_loses : (o : Option ℕ) (p : ℕ) → Loses (image_at w p) (image_at (relisted o) p)
  relisted_loses None p = loses_nothing (image_at w p)
  relisted_loses (Some q) p =
      put_each w q _ (λ i y. Loses (image_at w i) y)
      (record {
        ground = refl;
        kind = refl;
        listed = λ i other is. listed-without_other n (image_at w q).windows i (differs i other) ∙ is;
        times = λ i. times-without n (image_at w q).windows i;
      })
      (λ i other. loses_nothing (image_at w i)) p

  -- and the image itself has gone
  released_loses : (p : ℕ) → (p == n) ≡ false → Loses (image_at w p) (image_at (after_release w n) p)
  unfolding after_release
  released_loses p other = put_each (relisted (parent_of w n)) n None (λ i y. (i == n) ≡ false → Loses (image_at w i) y) (λ no. absurd (differs n no refl)) (λ i other no. relisted_loses (parent_of w n) i) p other

  released_times : (p i : ℕ) → times (image_at (after_release w n) p).windows i ≤ times (image_at w p).windows i
  unfolding after_release
  released_times p i = put_each (relisted (parent_of w n)) n None (λ p y. times y.windows i ≤ times (image_at w p).windows i) (omega arith) (λ p other. (relisted_loses (parent_of w n) p).times i) p

-- ---- one after the other

pub things_leave : (things : List Thing) (w : World) → Leaves w.images (fold without_thing w things).images things
things_leave [] w = record { ground = λ i spared. refl; kind = λ i spared. refl; listed = λ p i a b is. is; times = λ p i. omega arith }
things_leave (thing.Screen s ∷ things) w =
    let rest = things_leave things w in
    record { ground = rest.ground; kind = rest.kind; listed = rest.listed; times = rest.times }
things_leave (thing.Image n ∷ things) w =
    let next : World = without_thing w (thing.Image n) in
    let rest = things_leave things next in
    let parts : (i : ℕ) → IsSpared (thing.Image n ∷ things) i → ((i == n) ≡ false) × IsSpared things i = λ i spared. or_parts (i == n) (list_any (same_thing (thing.Image i)) things) spared in
    record {
      ground = λ i spared. rest.ground i (parts i spared).1 ∙ (released_loses w.images n i (parts i spared).0).ground;
      kind = λ i spared. rest.kind i (parts i spared).1 ∙ (released_loses w.images n i (parts i spared).0).kind;
      listed = λ p i a b is. rest.listed p i (parts p a).1 (parts i b).1 ((released_loses w.images n p (parts p a).0).listed i (parts i b).0 is);
      times = λ p i. (let first = released_times w.images n p i in let after = rest.times p i in omega (arith, first, after));
    }

-- if what stands on something is spared, and so is that
pub grown_left : (old new : Images) (gone : List Thing) → Leaves old new gone → ((i p : ℕ) → parent_of new i ≡ Some p → IsSpared gone i × IsSpared gone p) → AreGrown old → AreGrown new
grown_left old new gone leaves spared grown = record {
  above = λ i p stands. let is = spared i p stands in leaves.kind i is.0 ∙ grown.above i p (was i p stands is.0) ∙ ap one_above (sym (leaves.kind p is.1));
  listed = λ i p stands. let is = spared i p stands in leaves.listed p i is.1 is.0 (grown.listed i p (was i p stands is.0));
  once = λ p i. (let less = leaves.times p i in let one = grown.once p i in omega (arith, less, one));
}
  where
    was : (i p : ℕ) → parent_of new i ≡ Some p → IsSpared gone i → parent_of old i ≡ Some p
    was i p stands is = sym (leaves.ground i is) ∙ stands
