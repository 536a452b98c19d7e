-- A write of the session, on devices that are the same to it.
use Rattle.std.proofs.Common.{◌≡◌, ◌<◌, ◌≤◌, ◌^◌, ◌+◌, ℕ, zero, suc, Bool, true, false, List, [], ◌∷◌, Option, Some, None, Ok, Err, refl, sym, ap, subst, ◌∙◌, arith}
use Rattle.std.specs.Prelude.{◌==◌, All, get_or, length, if◌then◌else◌}
use Rattle.std.specs.Option.{option_map_or}
use Rattle.model_text.specs.text.Outcome.{Outcome}
use Rattle.model_draw_parts.specs.dmsg.Message.{Message}
use Rattle.model_draw_parts.specs.dmsg.Reading.{first_message}
use Rattle.model_draw.specs.draw.World.{World}
use Rattle.model_draw.specs.draw.Act.{Written, act, behind, is_marked, no_memory, one_message, spelled, written, written_within}
use Rattle.model_draw.specs.draw.Orders.{manager}
use Rattle.model_world.specs.Whole.{client}
use Rattle.law_shown.proofs.shown.Tests.{refuse_ok, same_Ok, then_ok}
use Rattle.model_alone.specs.alone.Lone.{written_alone}
use Rattle.model_alone.specs.alone.Uses.{looked_at, most_looked_at}
use Rattle.law_likeness.proofs.likeness.Ids.{no_manager}
use Rattle.law_likeness.proofs.freeing.Freeing.{not_tied}
use Rattle.law_likeness.specs.making.Likes.{IsOwn}
use Rattle.law_others.proofs.others.Display.{act_furnished}
use Rattle.law_likeness.proofs.whole.Messages.{act_steady}
use Rattle.law_devices.specs.holding.Near.{IsNearMessage}
use Rattle.law_devices.proofs.holding.Acts.{act_rooted, act_tied, act_untied}
use Rattle.law_devices.proofs.devices.Owning.{Own, own_first, own_next}
use Rattle.law_devices.proofs.written.Writing.{write_like}
use Rattle.law_strangers.specs.followed.Devices.{KeepsWithin, told_mark}
use Rattle.law_devices.proofs.grounded.Keeping.{act_grounded}
use Rattle.law_devices.specs.assembled.Assembled.{AreAlike, HoldsWindow, IsSettled}
use Rattle.law_devices.proofs.assembled.Alone.{alone_still, marked_leaves, written_leaves}
use Rattle.law_devices.proofs.assembled.Settling.{if_ok}
use Rattle.law_devices.proofs.assembled.Sizes.{size_kept}
use Rattle.law_devices.proofs.assembled.Spelled.{spelled_near}

-- one message that was done
record IsDone (k : ℕ) (w : World) (bytes : List ℕ) (next : World × List ℕ) : Type 0 where
  message : Message × List ℕ
  spells : spelled (first_message bytes) ≡ Ok message
  acted : act k w message.0 message.1 ≡ Ok next.0
  rest : behind k w message.0 message.1 ≡ next.1

one_done : (k : ℕ) (w : World) (mark : Option ℕ) (done : ℕ) (bytes : List ℕ) (next : World × List ℕ) → one_message k w mark done bytes ≡ Ok next → IsDone k w bytes next
unfolding one_message
one_done k w mark done bytes next e =
    let spell = then_ok (spelled (first_message bytes)) _ next e in
    let m = spell.0 in
    let acts = then_ok (act k w m.0 m.1) _ next spell.2 in
    let checked = refuse_ok (is_marked mark done) no_memory (λ _. Ok (acts.0, behind k w m.0 m.1)) next acts.2 in
    let is : ◌≡◌ {A = World × List ℕ} (acts.0, behind k w m.0 m.1) next = same_Ok (acts.0, behind k w m.0 m.1) next checked.1 in
    record { message = m; spells = spell.1; acted = acts.1 ∙ ap (λ (x : World × List ℕ). Ok x.0) is; rest = ap (λ (x : World × List ℕ). x.1) is }

-- messages are counted
counts : (steps k : ℕ) (w : World) (mark : Option ℕ) (done : ℕ) (bytes : List ℕ) → done ≤ (written_within steps k w mark done bytes).done
counts zero k w mark done bytes = omega arith
counts (suc steps) k w mark done [] = omega arith
counts (suc steps) k w mark done (byte ∷ bytes) = by (counts steps k) (one_message k w mark done (byte ∷ bytes))
  where
    by : ((v : World) (mark : Option ℕ) (done : ℕ) (bytes : List ℕ) → done ≤ (written_within steps k v mark done bytes).done) → (o : Outcome (World × List ℕ))
        → (let after : Written = elim o [ Ok next ↦ written_within steps k next.0 mark (done + 1) next.1 | Err refusal ↦ record { world = w; done = done; refusal = Some refusal } ] in done ≤ after.done)
    by more (Ok next) = let rest = more next.0 mark (done + 1) next.1 in omega (arith, rest)
    by more (Err refusal) = omega arith

-- ---- the session's window

module _ (window : Option (ℕ × List ℕ)) (serial : ℕ) (name : List ℕ) (has : window ≡ Some (serial, name)) (k : ℕ) (other : (k == manager) ≡ false) where
  -- what is known of a device before a message
  record Ready (w : World) : Type 0 where
    settled : IsSettled w
    untied : All (λ t. (t.client == k) ≡ false) w.book.ties
    holds : HoldsWindow window w

  act_ready : (w next : World) (m : Message) (rest : List ℕ) → Ready w → IsOwn window m → IsNearMessage m → act k w m rest ≡ Ok next → Ready next
  act_ready w next m rest ready own near acted =
      let furnished = ready.settled.furnished in
      let orderly = ready.settled.steady.orderly in
      record {
        settled = record {
          steady = act_steady k w next m rest other ready.settled.steady acted;
          furnished = if_ok _ (act k w m rest) next (act_furnished w furnished k other orderly m rest) acted;
          grounded = act_grounded k other w orderly furnished ready.settled.grounded m rest next acted;
        };
        untied = act_untied window w furnished ready.holds.tied ready.holds.rooted k other orderly ready.untied m rest own near next acted serial name has;
        holds = record {
          tied = act_tied window w furnished ready.holds.tied ready.holds.rooted k other orderly ready.untied m rest own near next acted;
          rooted = act_rooted window w furnished ready.holds.tied ready.holds.rooted k other orderly ready.untied m rest own near next acted;
        };
      }

  within_holds : (steps : ℕ) (w : World) (mark : Option ℕ) (done : ℕ) (bytes : List ℕ) (most : ℕ) → Ready w → (written_within steps k w mark done bytes).done ≤ done + most → Own window k most w bytes
      → HoldsWindow window (written_within steps k w mark done bytes).world
  within_holds zero w mark done bytes most ready within own = ready.holds
  within_holds (suc steps) w mark done [] most ready within own = ready.holds
  within_holds (suc steps) w mark done (byte ∷ bytes) most ready within own = by (within_holds steps) (one_message k w mark done (byte ∷ bytes)) refl most within own
    where
      by : ((v : World) (mark : Option ℕ) (done : ℕ) (bytes : List ℕ) (most : ℕ) → Ready v → (written_within steps k v mark done bytes).done ≤ done + most → Own window k most v bytes
          → HoldsWindow window (written_within steps k v mark done bytes).world)
          → (o : Outcome (World × List ℕ)) → one_message k w mark done (byte ∷ bytes) ≡ o → (most : ℕ)
          → (let after : Written = elim o [ Ok next ↦ written_within steps k next.0 mark (done + 1) next.1 | Err refusal ↦ record { world = w; done = done; refusal = Some refusal } ] in after.done ≤ done + most)
          → Own window k most w (byte ∷ bytes)
          → (let after : Written = elim o [ Ok next ↦ written_within steps k next.0 mark (done + 1) next.1 | Err refusal ↦ record { world = w; done = done; refusal = Some refusal } ] in HoldsWindow window after.world)
      by more (Err refusal) e most within own = ready.holds
      by more (Ok next) e zero within own = absurd (let least = counts steps k next.0 mark (done + 1) next.1 in omega (arith, least, within))
      by more (Ok next) e (suc most) within own =
          let one = one_done k w mark done (byte ∷ bytes) next e in
          let m = one.message in
          let after = act_ready w next.0 m.0 m.1 ready (own_first window k most w (byte ∷ bytes) m own one.spells) (spelled_near (byte ∷ bytes) m one.spells) one.acted in
          more next.0 mark (done + 1) next.1 most after (omega (arith, within)) (subst (λ (rest : List ℕ). Own window k most next.0 rest) one.rest (own_next window k most w next.0 (byte ∷ bytes) m own one.spells one.acted))

  written_holds : (w : World) (bytes : List ℕ) (mark : Option ℕ) → Ready w → All (KeepsWithin window) (looked_at k w bytes mark) → HoldsWindow window (written k w bytes mark).world
  unfolding written looked_at
  written_holds w bytes mark ready own =
      within_holds (length bytes) w mark 0 bytes (most_looked_at (written_within (length bytes) k w mark 0 bytes)) ready (enough (written_within (length bytes) k w mark 0 bytes)) own
    where
      enough : (after : Written) → after.done ≤ 0 + most_looked_at after
      enough after = by (option_map_or (λ n. n == no_memory) after.refusal false)
        where
          by : (b : Bool) → (let n : ℕ = if b then after.done else after.done + 1 in after.done ≤ 0 + n)
          by true = omega arith
          by false = omega arith

-- without a window there is nothing to hold
pub holds_nothing : (w : World) → HoldsWindow None w
holds_nothing w = record { tied = λ serial name is. absurd cc; rooted = λ serial name is. absurd cc }

-- ---- both devices

module _ (c : ℕ) (size : Option (ℕ × ℕ)) (window : Option (ℕ × List ℕ)) (a b : World) (alike : AreAlike c size window a b) (n : ℕ) (few : n < 2 ^ 26) where
  own : (client c n == manager) ≡ false
  own = no_manager c n alike.is.like.counted

  lone : (client 1 n == manager) ≡ false
  lone = no_manager 1 n (omega arith)

  untied : All (λ t. (t.client == client c n) ≡ false) a.book.ties
  untied m d lt = not_tied c n few (get_or a.book.ties m d) (alike.is.like.books.untied_left m d lt)

  holds_after : (bytes : List ℕ) (mark : Option ℕ) → All (KeepsWithin window) (looked_at (client c n) a bytes mark) → HoldsWindow window (written (client c n) a bytes mark).world
  holds_after bytes mark keeps = by window refl
    where
      by : (o : Option (ℕ × List ℕ)) → window ≡ o → HoldsWindow window (written (client c n) a bytes mark).world
      by None is = subst (λ (o : Option (ℕ × List ℕ)). HoldsWindow o (written (client c n) a bytes mark).world) (sym is) (holds_nothing _)
      by (Some w) is = written_holds window w.0 w.1 is (client c n) own a bytes mark (record { settled = alike.left; untied = untied; holds = alike.holds }) keeps

  pub write_alike : (bytes : List ℕ) (mark : Option ℕ) → All (KeepsWithin window) (looked_at (client c n) a bytes mark)
      → AreAlike c size window (written (client c n) a bytes mark).world (written_alone (client 1 n) b bytes (told_mark mark (written (client c n) a bytes mark).refusal)).0
      × ((written (client c n) a bytes mark).refusal ≡ (written_alone (client 1 n) b bytes (told_mark mark (written (client c n) a bytes mark).refusal)).1)
  write_alike bytes mark keeps =
      let told = told_mark mark (written (client c n) a bytes mark).refusal in
      let both = write_like c window n few alike.is.like.counted a b alike.is alike.left.steady alike.right.steady bytes mark keeps in
      let leaves = written_leaves (client 1 n) lone b alike.right bytes told in
      let leaves_left = marked_leaves (client c n) own a alike.left bytes mark in
      let like = both.0 in (
        record {
          is = both.0;
          left = leaves_left.settled;
          right = leaves.settled;
          name = alike.name;
          holds = holds_after bytes mark keeps;
          alone = alone_still (client 1 n) lone window b (written_alone (client 1 n) b bytes told).0 leaves (λ m d lt at. like.like.books.untied_right m d lt (record { number = n; few = few; is = at })) alike.alone;
          size_left = size_kept size a (written (client c n) a bytes mark).world leaves_left.stays.shape alike.size_left;
          size_right = size_kept size b (written_alone (client 1 n) b bytes told).0 leaves.stays.shape alike.size_right;
        },
        both.1,
      )
