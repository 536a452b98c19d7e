-- What holds of a forest while the things that have gone are released, one after the other.
use Rattle.std.proofs.Common.{◌≡◌, ℕ, ◌≤◌, ◌<◌, List, ◌∷◌, length, drop, suc, ◌+◌, sym, ap, subst, ◌∙◌, arith}
use Rattle.std.proofs.Math.Seq.{drop-cons}
use Rattle.std.specs.Prelude.{true, is_some, slice_index_or}
use Rattle.std.specs.List.{fold}
use Rattle.r9_layers.specs.declared.forest.Forest.{Forest}
use Rattle.r9_layers.specs.Forest.{moment, numbers, room, world}
use Rattle.model_forest.specs.World.{World, CanGo, IsForest}
use Rattle.model_forest.specs.Numbers.{Numbers, given_back}
use Rattle.model_forest.specs.Steps.{after_release}
use Rattle.model_draw_parts.specs.declared.images.Thing.{Thing}
use Rattle.model_draw_parts.specs.declared.images.Thing.TheVariants.{Image, Screen}
use Rattle.model_draw_parts.specs.images.Book.{Book}
use Rattle.r9_device.specs.device.Gone.{images_without, numbers_without}
use Rattle.r9_device.proofs.device.Going.{IsGoing, can-go, going-image, going-screen, lived}

-- These things have yet to go, and then all of them have.
pub record IsReleasing (before now : Forest) (gone rest : List Thing) : Type 0 where
  pub images : fold images_without (world now) rest ≡ fold images_without (world before) gone
  pub returned : fold numbers_without (numbers now) rest ≡ fold numbers_without (numbers before) gone
  pub space : room before ≤ room now
  pub moments : (j : ℕ) → is_some (world now j) ≡ true → moment now j ≡ moment before j
  -- the book that has them all, and what went before, the last one first
  pub book : Book
  pub past : List Thing
  pub going : IsGoing book (world now) past rest

pub releases-image : (before now next : Forest) (gone rest : List Thing) (i : ℕ) → IsReleasing before now gone (Image i ∷ rest)
    → world next ≡ after_release (world now) i → numbers next ≡ given_back (numbers now) i → room now ≤ room next
    → ((j : ℕ) → is_some (world next j) ≡ true → moment next j ≡ moment now j) → IsReleasing before next gone rest
releases-image before now next gone rest i r w n more same = record {
  images = ap (λ (x : World). fold images_without x rest) w ∙ r.images;
  returned = ap (λ (x : Numbers). fold numbers_without x rest) n ∙ r.returned;
  space = (let space = r.space in omega arith);
  moments = λ j live. same j live ∙ r.moments j (lived r.book (world now) r.past rest i j r.going (sym (ap (λ (x : World). is_some (x j)) w) ∙ live));
  book = r.book;
  past = Image i ∷ r.past;
  going = (let P : World → Type 0 = λ x. IsGoing r.book x (Image i ∷ r.past) rest in subst P (sym w) (going-image r.book (world now) r.past rest i r.going));
}

pub releases-screen : (before now : Forest) (gone rest : List Thing) (s : ℕ) → IsReleasing before now gone (Screen s ∷ rest) → IsReleasing before now gone rest
releases-screen before now gone rest s r = record {
  images = r.images;
  returned = r.returned;
  space = r.space;
  moments = r.moments;
  book = r.book;
  past = Screen s ∷ r.past;
  going = going-screen r.book (world now) r.past rest s r.going;
}

pub next-goes : (before now : Forest) (gone rest : List Thing) (i : ℕ) → IsReleasing before now gone (Image i ∷ rest) → IsForest (world now) → CanGo (world now) i
next-goes before now gone rest i r forest = can-go r.book (world now) r.past rest i r.going forest

pub next-of : (gone : List Thing) (n : ℕ) (t : Thing) → n < length gone → slice_index_or gone n (Image 0) ≡ t → drop n gone ≡ t ∷ drop (n + 1) gone
next-of gone n t h e = let more : suc n ≡ n + 1 = omega arith in drop-cons gone n (Image 0) h ∙ λ i. e i ∷ drop (more i) gone

pub at-next : (before now : Forest) (gone : List Thing) (n : ℕ) (t : Thing) → n < length gone → slice_index_or gone n (Image 0) ≡ t
    → IsReleasing before now gone (drop n gone) → IsReleasing before now gone (t ∷ drop (n + 1) gone)
at-next before now gone n t h e r = subst (IsReleasing before now gone) (next-of gone n t h e) r
