-- What is seen of bytes, by what they spell, and of the files of fids.
use Rattle.std.proofs.Common.{◌≡◌, ℕ, Bool, true, false, not, ◌&&◌, ◌==◌, List, [], Option, Some, None, Ok, Err, is_ok, option_map, if◌then◌else◌, refl, sym, ap, ◌∙◌}
use Rattle.std.specs.Option.{option_map_or}
use Rattle.r9_event.specs.declared.event.own.Use.{Use}
use Rattle.model_text.specs.text.Map.{lookup}
use Rattle.model_text.specs.text.Outcome.{Outcome}
use Rattle.model_files.specs.wire.Message.{T, no_tag, tag_of_t}
use Rattle.model_files.specs.wire.Reading.{message_of, tag_of}
use Rattle.model_files.specs.declared.tree.Kind.{Kind}
use Rattle.model_files.specs.declared.tree.Kind.TheVariants as kind
use Rattle.model_files.specs.tree.Node as model
use Rattle.model_world.specs.Session.{Fid, Session}
use Rattle.model_world.specs.Answer.{Taking, Reads, taking}
use Rattle.model_world.specs.Desktop.{Desktop}
use Rattle.model_world.proofs.Tags.{message_tag}
use Rattle.model_alone.specs.alone.Uses.{contents_used, if_bound, reading_used}
use Rattle.model_alone.specs.used.Look.{Uses, look_at, look_at_file, look_at_message, look_at_read, look_at_taken, look_at_write}
use Rattle.r9_tree.specs.declared.node.Node.{Node}
use Rattle.r9_tree.specs.View.{node_of}

pub not_true : (b : Bool) → not b ≡ true → b ≡ false
not_true true is = absurd cc
not_true false is = refl

pub not_false : (b : Bool) → not b ≡ false → b ≡ true
not_false true is = refl
not_false false is = absurd cc

-- a message is read, and has a tag
pub looks : (c : ℕ) (session : Session) (desktop : Desktop) (bytes : List ℕ) (m : T) → taking session bytes ≡ Reads → session.agreed ≡ true → (tag_of bytes == no_tag) ≡ false → message_of bytes ≡ Some m
    → look_at c session desktop bytes ≡ look_at_message c session desktop m
unfolding look_at
looks c session desktop bytes m reads agreed tagged spells =
    let tag : (tag_of_t m == no_tag) ≡ false = ap (λ (n : ℕ). n == no_tag) (message_tag bytes m spells) ∙ tagged in
    ap (look_at_taken c session desktop bytes) reads
    ∙ ap (look_at_read c session desktop) spells
    ∙ λ i. if agreed i && not (tag i) then look_at_message c session desktop m else Uses []

-- nothing is seen where the bytes are not read, or no version is agreed,
pub looks_unread : (c : ℕ) (session : Session) (desktop : Desktop) (bytes : List ℕ) → (taking session bytes ≡ Reads → session.agreed ≡ true → ⊥) → look_at c session desktop bytes ≡ Uses []
unfolding look_at
looks_unread c session desktop bytes other = by (taking session bytes) other
  where
    agreed : (b : Bool) (o : Option T) → (b ≡ true → ⊥) → session.agreed ≡ b → look_at_read c session desktop o ≡ Uses []
    agreed b None none is = refl
    agreed true (Some m) none is = absurd (none refl)
    agreed false (Some m) none is = ap (λ (b : Bool). if b && not (tag_of_t m == no_tag) then look_at_message c session desktop m else Uses []) is

    by : (t : Taking) → (t ≡ Reads → session.agreed ≡ true → ⊥) → look_at_taken c session desktop bytes t ≡ Uses []
    by Reads none = agreed session.agreed (message_of bytes) (none refl) refl
    by _ none = refl

-- nor where they have no tag,
pub looks_untagged : (c : ℕ) (session : Session) (desktop : Desktop) (bytes : List ℕ) → (tag_of bytes == no_tag) ≡ true → look_at c session desktop bytes ≡ Uses []
unfolding look_at
looks_untagged c session desktop bytes none = by (taking session bytes)
  where
    tagged : (o : Option T) → message_of bytes ≡ o → look_at_read c session desktop o ≡ Uses []
    tagged None spells = refl
    tagged (Some m) spells = both session.agreed (tag_of_t m == no_tag) (ap (λ (n : ℕ). n == no_tag) (message_tag bytes m spells) ∙ none)
      where
        both : (a b : Bool) → b ≡ true → (if a && not b then look_at_message c session desktop m else Uses []) ≡ Uses []
        both a true is = untag a
          where
            untag : (a : Bool) → (if a && false then look_at_message c session desktop m else Uses []) ≡ Uses []
            untag true = refl
            untag false = refl
        both a false is = absurd cc

    by : (t : Taking) → look_at_taken c session desktop bytes t ≡ Uses []
    by Reads = tagged (message_of bytes) refl
    by _ = refl

-- nor where they spell no message
pub looks_malformed : (c : ℕ) (session : Session) (desktop : Desktop) (bytes : List ℕ) → message_of bytes ≡ None → look_at c session desktop bytes ≡ Uses []
unfolding look_at
looks_malformed c session desktop bytes none = by (taking session bytes)
  where
    by : (t : Taking) → look_at_taken c session desktop bytes t ≡ Uses []
    by Reads = ap (look_at_read c session desktop) none
    by _ = refl

-- ---- the files of fids

pub bound_file : (session : Session) (fid : ℕ) (node : Node) (used : model.Node → List Use) → option_map node_of (Some node) ≡ option_map (λ f. f.node) (lookup session.fids fid)
    → if_bound session fid (λ f. used f.node) ≡ used (node_of node)
bound_file session fid node used is = by (lookup session.fids fid) is
  where
    by : (o : Option Fid) → Some (node_of node) ≡ option_map (λ f. f.node) o → option_map_or (λ f. used f.node) o [] ≡ used (node_of node)
    by (Some f) same = let its : f.node ≡ node_of node = cc in ap used its
    by None same = absurd cc

-- ---- the files that writes reach

pub written_none : (bytes : List ℕ) (o : Outcome model.Node) → is_ok o ≡ false → look_at_write bytes o ≡ Uses []
written_none bytes (Ok node) none = absurd cc
written_none bytes (Err n) none = refl

pub written_file : (bytes : List ℕ) (o : Outcome model.Node) (node : Node) (k : Kind) → o ≡ Ok (node_of node) → k ≡ model.kind_numbered node.kind → look_at_write bytes o ≡ look_at_file (node_of node) bytes k
written_file bytes o node k reached is = ap (look_at_write bytes) reached ∙ ap (look_at_file (node_of node) bytes) (sym is)

pub other_file : (bytes : List ℕ) (node : model.Node) (k : Kind) → (k ≡ kind.Ctl → ⊥) → (k ≡ kind.Data → ⊥) → (k ≡ kind.Wctl → ⊥) → look_at_file node bytes k ≡ Uses []
other_file bytes node kind.Ctl ctl data_file wctl = absurd (ctl refl)
other_file bytes node kind.Data ctl data_file wctl = absurd (data_file refl)
other_file bytes node kind.Wctl ctl data_file wctl = absurd (wctl refl)
other_file bytes node _ ctl data_file wctl = refl

-- ---- the files that reads reach

pub read_none : (c : ℕ) (desktop : Desktop) (offset count : ℕ) (o : Outcome model.Node) → is_ok o ≡ false → reading_used c desktop offset count o ≡ []
read_none c desktop offset count (Ok node) none = absurd cc
read_none c desktop offset count (Err n) none = refl

pub read_file : (c : ℕ) (desktop : Desktop) (offset count : ℕ) (o : Outcome model.Node) (node : Node) (k : Kind) → o ≡ Ok (node_of node) → k ≡ model.kind_numbered node.kind
    → reading_used c desktop offset count o ≡ contents_used c desktop (node_of node) offset count k
read_file c desktop offset count o node k reached is = ap (reading_used c desktop offset count) reached ∙ ap (contents_used c desktop (node_of node) offset count) (sym is)

pub other_contents : (c : ℕ) (desktop : Desktop) (node : model.Node) (offset count : ℕ) (k : Kind) → (k ≡ kind.Ctl → ⊥) → contents_used c desktop node offset count k ≡ []
other_contents c desktop node offset count kind.Ctl ctl = absurd (ctl refl)
other_contents c desktop node offset count _ ctl = refl
