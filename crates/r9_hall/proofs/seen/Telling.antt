-- The answer to a data write tells what the draw device did.
use Rattle.std.proofs.Common.{◌≡◌, ℕ, Bool, true, false, not, ◌&&◌, ◌==◌, List, [], length, Option, Some, None, Ok, Err, is_some, is_ok, is_none, IfOk, IfSome, IsSome, if◌then◌else◌, refl, sym, ap, subst, ◌∙◌}
use Rattle.std.specs.Option.{option_map_or}
use Rattle.std.proofs.lemmas.Bool.{eqb-true}
use Rattle.model_text.specs.text.Map.{lookup}
use Rattle.model_text.specs.text.Outcome.{Outcome, ◌>>=◌, refuse_if, value_or_refuse}
use Rattle.model_files.specs.wire.Message.{T, Tattach, Twrite, R, no_tag, tag_of_t}
use Rattle.model_files.specs.wire.Reading.{message_of, tag_of}
use Rattle.model_files.specs.declared.tree.Kind.{Kind}
use Rattle.model_files.specs.declared.tree.Kind.TheVariants.{Data}
use Rattle.model_files.specs.tree.Attach.{attach_of}
use Rattle.model_files.specs.tree.Node.{Node, writes}
use Rattle.model_files.specs.tree.Tree.{check_live}
use Rattle.model_draw.specs.draw.Act.{no_memory, written}
use Rattle.model_world.specs.Session.{Fid, Session}
use Rattle.model_world.specs.Fids.{Left}
use Rattle.model_world.specs.Reading.{is_open_for}
use Rattle.model_world.specs.Refusal.{IsRefused, refusal_text}
use Rattle.model_world.specs.Writing.{write_reply}
use Rattle.model_world.specs.Answer.{Taking, Reads, answer, read_or_not, replied, taken, taking}
use Rattle.model_world.specs.Cut.{IsCutMessage, wants_for}
use Rattle.model_world.specs.Desktop.{Desktop}
use Rattle.model_world.specs.Whole.{client, desktop_for, written_data}
use Rattle.model_world.proofs.Others.{after_step}
use Rattle.model_world.proofs.Wanting.{only_wanting}
use Rattle.model_alone.specs.alone.Uses.{is_fresh, is_name_looked_at, reached_file}
use Rattle.model_alone.specs.used.Look.{Uses, Attaches, look_at, look_at_file, look_at_message, look_at_read, look_at_taken, look_at_write}
use Rattle.r9_files.specs.declared.around.wrote.Told.{Told}
use Rattle.r9_files.specs.around.Words.{AreTold, mark_after}
use Rattle.r9_session.specs.Telling.{IsToldRead}
use Rattle.r9_desktop.specs.Words.{AreDone, tells_for}
use Rattle.r9_used.proofs.used.Reached.{data_left, data_panes, data_read}
use Rattle.r9_hall.specs.seen.Telling.{IsDrawn, IsTelling}

-- ---- the file that a write reaches is that of a fid

reached_fid : (c : ℕ) (session : Session) (desktop : Desktop) (number : ℕ) (node : Node) → reached_file c session desktop number ≡ Ok node → (fid : Fid) × (lookup session.fids number ≡ Some fid) × (fid.node ≡ node)
reached_fid c session desktop number node reached = by (lookup session.fids number) refl reached
  where
    further : Fid → Outcome Node
    further fid = refuse_if (is_none fid.mode) 37 >>= λ _. refuse_if (not (is_open_for writes fid)) 38 >>= λ _. check_live ((desktop_for c).view desktop session.connections fid.node) fid.node >>= λ _. Ok fid.node

    its : (fid : Fid) → IfOk (further fid) (λ n. fid.node ≡ n)
    its fid =
        after_step _ (refuse_if (is_none fid.mode) 37) _ (λ _ _.
        after_step _ (refuse_if (not (is_open_for writes fid)) 38) _ (λ _ _.
        after_step _ (check_live ((desktop_for c).view desktop session.connections fid.node) fid.node) _ (λ _ _. refl)))

    by : (o : Option Fid) → lookup session.fids number ≡ o → (value_or_refuse o 32 >>= further) ≡ Ok node → (fid : Fid) × (lookup session.fids number ≡ Some fid) × (fid.node ≡ node)
    by None at e = absurd cc
    by (Some fid) at e = (fid, at, subst (λ (o : Outcome Node). IfOk o (λ n. fid.node ≡ n)) e (its fid))

-- ---- the reply to a write refuses it for want of memory where the draw device does

refuses : (tag len : ℕ) (o : Option ℕ) → IsRefused no_memory (Some (write_reply tag len o)) → option_map_or (λ n. n == no_memory) o false ≡ true
refuses tag len None is = absurd is
refuses tag len (Some n) is = ap (λ (m : ℕ). m == no_memory) (only_wanting n is)

is_refused : (tag len : ℕ) (o : Option ℕ) → option_map_or (λ n. n == no_memory) o false ≡ true → IsRefused no_memory (Some (write_reply tag len o))
is_refused tag len None is = absurd cc
is_refused tag len (Some n) is = ap refusal_text (eqb-true n no_memory is)

short_tells : (short : Option ℕ) (tag len : ℕ) (o : Option ℕ) → (IsSome short → IsRefused no_memory (Some (write_reply tag len o))) → (IsRefused no_memory (Some (write_reply tag len o)) → IsSome short)
    → is_some short ≡ option_map_or (λ n. n == no_memory) o false
short_tells (Some k) tag len o refused short = sym (refuses tag len o (refused refl))
short_tells None tag len o refused short = by (option_map_or (λ n. n == no_memory) o false) (λ is. let some = short (is_refused tag len o is) in absurd (cc some))
  where
    by : (b : Bool) → (b ≡ true → ⊥) → false ≡ b
    by false none = refl
    by true none = absurd (none refl)

-- ---- a message

-- what is known of the answer to the bytes of a message, with the mark with which it stands in the history
record Answers (c : ℕ) (session : Session) (before after : Desktop) (tag : ℕ) (mark : Option ℕ) (told : Option Told) (short : Option ℕ) (reply : Option R) (o : Option T) : Type 0 where
  left : (new : Session) × (replied session before tag (read_or_not (desktop_for c) session before mark o) ≡ record { session = new; rest = after; reply = reply })
  refused : IsSome short → IsRefused no_memory reply
  short_is : IsRefused no_memory reply → IsSome short
  messages : is_ok (read_or_not (desktop_for c) session before mark o) ≡ true → IsToldRead (tells_for c) session before mark told o

drawn : (c : ℕ) (session : Session) (before after : Desktop) (at : ℕ) (mark : Option ℕ) (told : Option Told) (short : Option ℕ) (reply : Option R) (tag number offset : ℕ) (bytes : List ℕ) (node : Node)
    → Answers c session before after at mark told short reply (Some (Twrite tag number offset bytes)) → session.agreed ≡ true → (tag == no_tag) ≡ false → reached_file c session before number ≡ Ok node → node.kind ≡ Data
    → IsDrawn (client c node.connection) before after bytes mark told short
unfolding written_data
drawn c session before after at mark told short reply tag number offset bytes node known agreed tagged reached is =
    let k = client c node.connection in
    let answered = data_read c session before tag number offset bytes mark node agreed tagged reached is in
    let left : data_left c session before tag bytes mark node ≡ record { session = known.left.0; rest = after; reply = reply } = ap (replied session before at) (sym answered) ∙ known.left.1 in
    let fid = reached_fid c session before number node reached in
    let kind = ap (λ (n : Node). n.kind) fid.2 ∙ is in
    let reply_is : Some (write_reply tag (length bytes) (written k before.device bytes mark).refusal) ≡ reply = ap (λ (l : Left Desktop). l.reply) left in
    record {
      told_are = subst (λ (n : Node). AreTold told (AreDone (client c n.connection) before.device bytes mark)) fid.2 (known.messages (ap is_ok answered) fid.0 fid.1 kind);
      short_is = short_tells short tag (length bytes) (written k before.device bytes mark).refusal (λ some. subst (IsRefused no_memory) (sym reply_is) (known.refused some)) (λ refused. known.short_is (subst (IsRefused no_memory) reply_is refused));
      panes_are = ap (λ (l : Left Desktop). l.rest.panes) (sym left) ∙ data_panes c session before tag bytes mark node;
    }

spelled : (c : ℕ) (session : Session) (before after : Desktop) (at : ℕ) (mark : Option ℕ) (told : Option Told) (short : Option ℕ) (reply : Option R) (m : T)
    → Answers c session before after at mark told short reply (Some m) → session.agreed ≡ true → (tag_of_t m == no_tag) ≡ false → IsTelling c before after mark told short (look_at_message c session before m)
spelled c session before after at mark told short reply (Tattach tag fid afid uname aname) known agreed tagged = by (is_name_looked_at session fid afid)
  where
    by : (b : Bool) → IsTelling c before after mark told short (if b then Attaches fid (is_fresh (attach_of aname)) else Uses [])
    by true = tt
    by false = tt
spelled c session before after at mark told short reply (Twrite tag number offset bytes) known agreed tagged = by (reached_file c session before number) refl
  where
    file : (node : Node) (k : Kind) → reached_file c session before number ≡ Ok node → node.kind ≡ k → IsTelling c before after mark told short (look_at_file node bytes k)
    file node Data reached is = drawn c session before after at mark told short reply tag number offset bytes node known agreed tagged reached is
    file node _ reached is = tt

    by : (o : Outcome Node) → reached_file c session before number ≡ o → IsTelling c before after mark told short (look_at_write bytes o)
    by (Ok node) reached = file node node.kind reached refl
    by (Err n) reached = tt
spelled c session before after at mark told short reply m known agreed tagged = tt

read : (c : ℕ) (session : Session) (before after : Desktop) (at : ℕ) (mark : Option ℕ) (told : Option Told) (short : Option ℕ) (reply : Option R) (o : Option T)
    → Answers c session before after at mark told short reply o → IsTelling c before after mark told short (look_at_read c session before o)
read c session before after at mark told short reply None known = tt
read c session before after at mark told short reply (Some m) known = by session.agreed (tag_of_t m == no_tag) (spelled c session before after at mark told short reply m known)
  where
    by : (a b : Bool) → (a ≡ true → b ≡ false → IsTelling c before after mark told short (look_at_message c session before m)) → IsTelling c before after mark told short (if a && not b then look_at_message c session before m else Uses [])
    by true false tells = tells refl refl
    by true true tells = tt
    by false b tells = tt

wanting : (c : ℕ) (session new : Session) (before after : Desktop) (bytes : List ℕ) (mark : Option ℕ) (short : Option ℕ) (reply : Option R)
    → answer (desktop_for c) session before bytes (mark_after mark short) ≡ record { session = new; rest = after; reply = reply }
    → IfSome short (λ k. IsCutMessage (desktop_for c) (wants_for c) session before bytes mark k) → IsSome short → IsRefused no_memory reply
wanting c session new before after bytes mark None reply answered cut some = absurd (cc some)
wanting c session new before after bytes mark (Some k) reply answered cut some = subst (IsRefused no_memory) (ap (λ (l : Left Desktop). l.reply) answered) cut.refused

pub telling : (c : ℕ) (session new : Session) (before after : Desktop) (bytes : List ℕ) (mark : Option ℕ) (told : Option Told) (short : Option ℕ) (reply : Option R)
    → answer (desktop_for c) session before bytes (mark_after mark short) ≡ record { session = new; rest = after; reply = reply }
    → IfSome short (λ k. IsCutMessage (desktop_for c) (wants_for c) session before bytes mark k)
    → (IsRefused no_memory reply → IsSome short)
    → (taking session bytes ≡ Reads → is_ok (read_or_not (desktop_for c) session before (mark_after mark short) (message_of bytes)) ≡ true → IsToldRead (tells_for c) session before (mark_after mark short) told (message_of bytes))
    → IsTelling c before after (mark_after mark short) told short (look_at c session before bytes)
unfolding answer look_at
telling c session new before after bytes mark told short reply answered cut short_is messages = by (taking session bytes) answered messages
  where
    by : (t : Taking) → taken (desktop_for c) session before bytes (mark_after mark short) t ≡ record { session = new; rest = after; reply = reply }
        → (t ≡ Reads → is_ok (read_or_not (desktop_for c) session before (mark_after mark short) (message_of bytes)) ≡ true → IsToldRead (tells_for c) session before (mark_after mark short) told (message_of bytes))
        → IsTelling c before after (mark_after mark short) told short (look_at_taken c session before bytes t)
    by Reads left messages = read c session before after (tag_of bytes) (mark_after mark short) told short reply (message_of bytes) (record {
      left = (new, left);
      refused = wanting c session new before after bytes mark short reply answered cut;
      short_is = short_is;
      messages = messages refl;
    })
    by _ left messages = tt
