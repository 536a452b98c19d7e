-- Each message of a session, on two devices that are like.
use Rattle.std.proofs.Common.{◌<◌, ◌^◌, ℕ, List, ◌∷◌, Option, Some, None}
use Rattle.model_text.specs.text.Outcome.{Outcome}
use Rattle.model_draw_parts.specs.dmsg.Message.{Message, LowB, UpA, LowC, LowD, UpD, LowF, UpF, LowI, LowL, UpN, LowN, LowO, UpO, LowR, LowS, UpS, LowT, LowV, LowX, LowY}
use Rattle.model_draw.specs.draw.World.{World, next_image}
use Rattle.model_draw.specs.draw.Making.{flag}
use Rattle.model_draw.specs.draw.Act.{act}
use Rattle.model_draw_parts.specs.images.Book.{next_screen}
use Rattle.model_world.specs.Whole.{client}
use Rattle.law_likeness.specs.agreement.Agreement.{SameOutcome}
use Rattle.law_likeness.proofs.agreement.Relations.{weaken}
use Rattle.law_shown.specs.shown.Showing.{IsOrderly}
use Rattle.law_likeness.specs.likeness.Likeness.{AreLike}
use Rattle.law_likeness.proofs.likeness.Acts.{draw_like, make_font_like, operator_like, read_pixels_like, set_clip_like, write_pixels_like}
use Rattle.law_likeness.proofs.likeness.Strings.{load_cell_like, move_like, write_string_like}
use Rattle.law_likeness.specs.making.Standing.{IsWhole}
use Rattle.law_likeness.specs.making.Likes.{Change, IsLike, IsOwn, Matched}
use Rattle.law_likeness.proofs.making.Naming.{use_name_like}
use Rattle.law_likeness.proofs.making.Allocating.{allocate_like}
use Rattle.law_likeness.proofs.making.Screening.{make_screen_like}
use Rattle.law_likeness.proofs.making.Restacking.{restack_like}
use Rattle.law_likeness.proofs.freeing.Freeing.{free_image_like, free_screen_like}

module _ (c : ℕ) (window : Option (ℕ × List ℕ)) (a b : World) (is : IsLike c window a b) (n : ℕ) (few : n < 2 ^ 26) where
  abbrev Like : World → World → Type 0
  Like x y = IsLike c window x y

  abbrev S : ℕ → ℕ → Type 0
  S i j = Matched is.images i j

  abbrev T : ℕ → ℕ → Type 0
  T i j = Matched is.screens i j

  -- where the same images and screens are the same
  still : (x y : Outcome World) → SameOutcome (AreLike S T c window) x y → SameOutcome Like x y
  still x y same = weaken (AreLike S T c window) Like x y (λ u v like. record { images = is.images; screens = is.screens; like = like }) same

  pub act_like : IsWhole a → IsWhole b → IsOrderly a → IsOrderly b → (m : Message) (rest : List ℕ) → IsOwn window m
      → SameOutcome Like (act (client c n) a m rest) (act (client 1 n) b m rest)
  unfolding act
  act_like whole_a whole_b orderly_a orderly_b (LowB id screenid refresh chan repl r clipr color) rest own =
      weaken (AreLike (Matched (Change.Came (next_image a) (next_image b) ∷ is.images)) T c window) Like _ _
      (λ u v like. record { images = Change.Came (next_image a) (next_image b) ∷ is.images; screens = is.screens; like = like })
      (allocate_like S T c window a b is.like n few whole_a whole_b orderly_a orderly_b id screenid refresh chan (flag repl) r clipr color)
  act_like whole_a whole_b orderly_a orderly_b (UpA id imageid fillid public) rest own =
      rw own.2
      (weaken (AreLike S (Matched (Change.Came (next_screen a.book) (next_screen b.book) ∷ is.screens)) c window) Like _ _
      (λ u v like. record { images = is.images; screens = Change.Came (next_screen a.book) (next_screen b.book) ∷ is.screens; like = like })
      (make_screen_like S T c window a b is.like n few orderly_a orderly_b id imageid fillid own.0 own.1))
  act_like whole_a whole_b orderly_a orderly_b (LowC dstid repl clipr) rest own = still _ _ (set_clip_like S T c window a b is.like n few dstid (flag repl) clipr own)
  act_like whole_a whole_b orderly_a orderly_b (LowD dstid srcid maskid dstr srcp maskp) rest own =
      still _ _ (draw_like S T c window a b is.like n few dstid srcid maskid dstr srcp maskp own.0 own.1 own.2)
  act_like whole_a whole_b orderly_a orderly_b (UpD debug) rest own = is
  act_like whole_a whole_b orderly_a orderly_b (LowF id) rest own =
      free_image_like c window a b is whole_a.standing whole_b.standing orderly_a.ties orderly_b.ties n few id own
  act_like whole_a whole_b orderly_a orderly_b (UpF id) rest own =
      free_screen_like c window a b is whole_a.standing whole_b.standing orderly_a.ties orderly_b.ties n few id
  act_like whole_a whole_b orderly_a orderly_b (LowI id count ascent) rest own = still _ _ (make_font_like S T c window a b is.like n few id count ascent own)
  act_like whole_a whole_b orderly_a orderly_b (LowL cacheid srcid index r sp left width) rest own =
      still _ _ (load_cell_like S T c window a b is.like n few cacheid srcid index r sp left width own.0 own.1)
  act_like whole_a whole_b orderly_a orderly_b (UpN id tied name) rest own = absurd own
  act_like whole_a whole_b orderly_a orderly_b (LowN id name) rest own = still _ _ (use_name_like S T c window a b is.like n few id name own.0 own.1)
  act_like whole_a whole_b orderly_a orderly_b (LowO id rmin scr) rest own = still _ _ (move_like S T c window a b is.like n few id rmin scr own)
  act_like whole_a whole_b orderly_a orderly_b (UpO op) rest own = still _ _ (operator_like S T c window a b is.like n few op)
  act_like whole_a whole_b orderly_a orderly_b (LowR id r) rest own = still _ _ (read_pixels_like S T c window a b is.like n few id r own)
  act_like whole_a whole_b orderly_a orderly_b (LowS writing) rest own =
      still _ _ (write_string_like S T c window a b is.like n few writing None own.0 own.1 own.2 tt)
  act_like whole_a whole_b orderly_a orderly_b (UpS id chan) rest own = absurd own
  act_like whole_a whole_b orderly_a orderly_b (LowT top ids) rest own = still _ _ (restack_like S T c window a b is.like n few (flag top) ids own)
  act_like whole_a whole_b orderly_a orderly_b LowV rest own = is
  act_like whole_a whole_b orderly_a orderly_b (LowX writing bgid bgp) rest own =
      still _ _ (write_string_like S T c window a b is.like n few writing (Some (bgid, bgp)) own.0 own.1 own.2 own.3)
  act_like whole_a whole_b orderly_a orderly_b (LowY id r) rest own = still _ _ (write_pixels_like S T c window a b is.like n few id r rest own)
