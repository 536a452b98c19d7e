-- What the session's own connections do beside writes, on devices that are the same to it.
use Rattle.std.proofs.Common.{◌≡◌, ◌≢◌, ◌<◌, ◌^◌, ℕ, Bool, true, false, List, Option, Some, None, Ok, refl, sym, ap, ◌∙◌, arith}
use Rattle.std.specs.Prelude.{◌==◌, ◌&&◌, All, is_none}
use Rattle.std.proofs.lemmas.Bool.{eqb-true}
use Rattle.model_draw_parts.specs.declared.images.Tie.{Tie}
use Rattle.model_draw_parts.specs.images.Book.{image}
use Rattle.model_draw.specs.draw.World.{Client, World, after_connect, at_number, client_of}
use Rattle.model_draw.specs.draw.Files.{description, read_ctl, read_data, write_ctl}
use Rattle.model_draw.specs.draw.Orders.{manager}
use Rattle.model_world.specs.Whole.{client}
use Rattle.law_likeness.specs.agreement.Agreement.{SameOutcome}
use Rattle.model_alone.specs.alone.Lone.{lone_desktop}
use Rattle.law_likeness.specs.likeness.Likeness.{AreLike, IsOfSession, SameShape}
use Rattle.law_likeness.proofs.likeness.Acts.{read_data_like}
use Rattle.law_likeness.proofs.likeness.Ids.{no_manager}
use Rattle.law_likeness.proofs.likeness.Looking.{client_same}
use Rattle.law_likeness.proofs.likeness.Strings.{connect_like, write_ctl_like}
use Rattle.law_likeness.specs.making.Likes.{IsLike, Matched}
use Rattle.law_likeness.proofs.making.Naming.{display_told, read_ctl_same}
use Rattle.law_devices.specs.assembled.Assembled.{AreAlike, HasSize}
use Rattle.law_devices.proofs.assembled.Alone.{alone_still, choose_leaves, connect_leaves, read_leaves}
use Rattle.law_devices.proofs.assembled.Settling.{choose_holds, choose_settled, clients_hold, connect_settled, if_ok, read_holds, read_settled, stronger}
use Rattle.law_devices.proofs.assembled.Sizes.{size_kept}

module _ (c : ℕ) (size : Option (ℕ × ℕ)) (window : Option (ℕ × List ℕ)) (a b : World) (alike : AreAlike c size window a b) (n : ℕ) (few : n < 2 ^ 26) where
  abbrev S : ℕ → ℕ → Type 0
  S i j = Matched alike.is.images i j

  abbrev T : ℕ → ℕ → Type 0
  T s t = Matched alike.is.screens s t

  abbrev Like : World → World → Type 0
  Like x y = AreLike S T c window x y

  own : (client c n == manager) ≡ false
  own = no_manager c n alike.is.like.counted

  lone : (client 1 n == manager) ≡ false
  lone = no_manager 1 n (omega arith)

  -- the session ties no names in its own world
  untied : (ties : List Tie) → All (λ t. IsOfSession 1 t.client → ⊥) ties → All (λ t. t.client ≢ client 1 n) ties
  untied ties none m d lt at = none m d lt (record { number = n; few = few; is = at })

  changed : (x y : World) → Like x y → IsLike c window x y
  changed x y like = record { images = alike.is.images; screens = alike.is.screens; like = like }

  pub connect_alike : AreAlike c size window (after_connect a (client c n)) (after_connect b (client 1 n))
  connect_alike =
      let left = connect_settled (client c n) a own alike.left in
      let right = connect_settled (client 1 n) b lone alike.right in
      let leaves_left = connect_leaves (client c n) own a alike.left left in
      let leaves_right = connect_leaves (client 1 n) lone b alike.right right in
      record {
        is = changed _ _ (connect_like S T c window a b alike.is.like n few);
        left = left;
        right = right;
        name = alike.name;
        holds = clients_hold window a alike.holds _;
        alone = alone_still (client 1 n) lone window b (after_connect b (client 1 n)) leaves_right (untied _ alike.is.like.books.untied_right) alike.alone;
        size_left = size_kept size a (after_connect a (client c n)) leaves_left.stays.shape alike.size_left;
        size_right = size_kept size b (after_connect b (client 1 n)) leaves_right.stays.shape alike.size_right;
      }

  pub read_alike : (most : ℕ) → SameOutcome (λ x y. (x.0 ≡ y.0) × AreAlike c size window x.1 y.1) (read_data (client c n) a most) (read_data (client 1 n) b most)
  read_alike most =
      stronger (λ (x y : List ℕ × World). (x.0 ≡ y.0) × Like x.1 y.1) (λ x y. (x.0 ≡ y.0) × AreAlike c size window x.1 y.1) (read_data (client c n) a most) (read_data (client 1 n) b most)
      (read_data_like S T c window a b alike.is.like n few most) (λ x y one other same.
      let left = read_settled (client c n) a own alike.left most x one in
      let right = read_settled (client 1 n) b lone alike.right most y other in
      let leaves_left = read_leaves (client c n) own a alike.left most x one left in
      let leaves_right = read_leaves (client 1 n) lone b alike.right most y other right in (
        same.0,
        record {
          is = changed x.1 y.1 same.1;
          left = left;
          right = right;
          name = alike.name;
          holds = if_ok _ (read_data (client c n) a most) x (read_holds window a alike.holds (client c n) most) one;
          alone = alone_still (client 1 n) lone window b y.1 leaves_right (untied _ same.1.books.untied_right) alike.alone;
          size_left = size_kept size a x.1 leaves_left.stays.shape alike.size_left;
          size_right = size_kept size b y.1 leaves_right.stays.shape alike.size_right;
        },
      ))

  pub choose_alike : (bytes : List ℕ) → SameOutcome (AreAlike c size window) (write_ctl (client c n) a bytes) (write_ctl (client 1 n) b bytes)
  choose_alike bytes =
      stronger Like (AreAlike c size window) (write_ctl (client c n) a bytes) (write_ctl (client 1 n) b bytes) (write_ctl_like S T c window a b alike.is.like n few bytes) (λ x y one other same.
      let left = choose_settled (client c n) a own alike.left bytes x one in
      let right = choose_settled (client 1 n) b lone alike.right bytes y other in
      let leaves_left = choose_leaves (client c n) own a alike.left bytes x one left in
      let leaves_right = choose_leaves (client 1 n) lone b alike.right bytes y other right in
      record {
        is = changed x y same;
        left = left;
        right = right;
        name = alike.name;
        holds = if_ok _ (write_ctl (client c n) a bytes) x (choose_holds window a alike.holds (client c n) bytes) one;
        alone = alone_still (client 1 n) lone window b y leaves_right (untied _ same.books.untied_right) alike.alone;
        size_left = size_kept size a x leaves_left.stays.shape alike.size_left;
        size_right = size_kept size b y leaves_right.stays.shape alike.size_right;
      })

  -- of image id 0 the other device tells of its display too
  told_alone : (number : ℕ) → ((client_of b (client 1 n)).described == 0) ≡ true → read_ctl (client 1 n) b number ≡ Ok (description number 0 (at_number b 0))
  unfolding read_ctl image
  told_alone number is = rw (eqb-true (client_of b (client 1 n)).described 0 is, alike.is.like.display.named_alone) refl

  -- both displays have one size, where it is known
  shape_same : is_none size ≡ false → SameShape (at_number a 0) (at_number b 0)
  shape_same known = by size known alike.size_left alike.size_right
    where
      by : (sides : Option (ℕ × ℕ)) → is_none sides ≡ false → HasSize sides a → HasSize sides b → SameShape (at_number a 0) (at_number b 0)
      by None known left right = absurd cc
      by (Some sides) known left right = record { r = left.0 ∙ sym right.0; clipr = left.1 ∙ sym right.1; repl = alike.is.like.display.look.repl; chan = alike.is.like.display.look.chan }

  description_same : (number : ℕ) → SameShape (at_number a 0) (at_number b 0) → description number 0 (at_number a 0) ≡ description number 0 (at_number b 0)
  description_same number shape = rw (shape.chan, shape.repl, shape.r, shape.clipr) refl

  off : (x y : Bool) → (x && y) ≡ false → y ≡ true → x ≡ false
  off false y none is = refl
  off true y none is = absurd cc

  -- `ctl` tells the same unless it describes a display whose size is not known
  pub tell_alike : (number : ℕ) → (is_none size && ((client_of a (client c n)).described == 0)) ≡ false → read_ctl (client c n) a number ≡ read_ctl (client 1 n) b number
  tell_alike number told = by ((client_of b (client 1 n)).described == 0) refl
    where
      same : (client_of a (client c n)).described ≡ (client_of b (client 1 n)).described
      same = ap (λ (x : Client). x.described) (client_same S T c window a b alike.is.like n few)

      by : (zero : Bool) → ((client_of b (client 1 n)).described == 0) ≡ zero → read_ctl (client c n) a number ≡ read_ctl (client 1 n) b number
      by true is =
          let known = off (is_none size) ((client_of a (client c n)).described == 0) told (ap (λ (m : ℕ). m == 0) same ∙ is) in
          display_told S T c window a b alike.is.like n few number is ∙ ap (λ (text : List ℕ). Ok text) (description_same number (shape_same known)) ∙ sym (told_alone number is)
      by false is = read_ctl_same S T c window a b alike.is.like n few number is

  -- which is what the session reads in a world of its own
  pub tells_alike : (is_none size && ((client_of a (client c n)).described == 0)) ≡ false → read_ctl (client c n) a n ≡ lone_desktop.read_ctl (record { device = b; window = None; made = None }) n
  tells_alike told = tell_alike n told
