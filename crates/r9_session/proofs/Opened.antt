-- Fids that are opened, and writes of open ones.
use Rattle.std.proofs.Common.{◌≡◌, ◌⊎◌, ◌∙◌, ℕ, Bool, true, false, cond, List, Option, None, Some, Ok, Err, IfSome, refl, ap, subst}
use Rattle.std.specs.Prelude.{◌&&◌, is_some, nat_le, not}
use Rattle.model_text.specs.text.Map.{lookup}
use Rattle.model_text.specs.text.Outcome.{Outcome, ◌>>=◌, refuse_if, value_or_refuse}
use Rattle.model_files.specs.wire.Message.{Ropen}
use Rattle.model_files.specs.declared.tree.Kind.{Kind}
use Rattle.model_files.specs.declared.tree.Kind.TheVariants.{Data, New}
use Rattle.model_files.specs.tree.Node.{Node, may, qid, row, writes}
use Rattle.model_files.specs.tree.Tree.{check_live}
use Rattle.model_world.specs.Session.{Fid, Session}
use Rattle.model_world.specs.Outside.{Outside}
use Rattle.model_world.specs.Fids.{Left, is_kind, left, with_fid, with_held}
use Rattle.model_world.specs.Reading.{is_open_for}
use Rattle.model_world.specs.Walking.{is_taken, most_made, open_answer, opened, opened_new}
use Rattle.model_world.specs.Cut.{IsCutWrite, Wants}

-- ---- an open of a fid that is not open, whose file may be used, and opens that way

module _ {S : Type 0} (outside : Outside S) (session : Session) (rest : S) (tag number mode : ℕ) (found : Fid) (at : lookup session.fids number ≡ Some found) (closed : is_some found.mode ≡ false)
    (live : check_live (outside.view rest session.connections found.node) found.node ≡ Ok tt) (allowed : may found.node mode ≡ true) where
  abbrev open_by : (taken is_new full : Bool) → Outcome (Left S)
  open_by taken is_new full =
      refuse_if taken 43 >>= λ _. refuse_if (is_new && full) 44 >>= λ _. Ok (cond is_new (opened_new outside session rest tag number mode found)
      (left (with_fid session number (record found { mode = Some mode }), with_held outside true rest found.node) (Ropen tag (qid found.node) 0)))

  open_is : open_answer outside session rest tag number mode
      ≡ open_by (is_taken outside session rest found.node) (is_kind New found.node.kind) (nat_le most_made session.made)
  unfolding open_answer
  open_is =
      let last : Fid → Outcome (Left S) = λ fid. refuse_if (is_taken outside session rest fid.node) 43 >>= λ _.
      refuse_if (is_kind New fid.node.kind && nat_le most_made session.made) 44 >>= λ _. Ok (opened outside session rest tag number mode fid) in
      ap (λ (o : Option Fid). value_or_refuse o 32 >>= λ fid. (refuse_if (is_some fid.mode) 36 >>= λ _. (check_live (outside.view rest session.connections fid.node) fid.node >>= λ _. (refuse_if (not (may fid.node mode)) 38 >>= λ _. last fid)))) at
      ∙ ap (λ (b : Bool). refuse_if b 36 >>= λ _. (check_live (outside.view rest session.connections found.node) found.node >>= λ _. (refuse_if (not (may found.node mode)) 38 >>= λ _. last found))) closed
      ∙ ap (λ (o : Outcome (Unit {0})). o >>= λ _. (refuse_if (not (may found.node mode)) 38 >>= λ _. last found)) live
      ∙ ap (λ (b : Bool). refuse_if (not b) 38 >>= λ _. last found) allowed

  pub open_taken : is_taken outside session rest found.node ≡ true → open_answer outside session rest tag number mode ≡ Err 43
  open_taken taken = open_is ∙ ap (λ (b : Bool). open_by b (is_kind New found.node.kind) (nat_le most_made session.made)) taken

  pub open_full : is_taken outside session rest found.node ≡ false → is_kind New found.node.kind ≡ true → nat_le most_made session.made ≡ true
      → open_answer outside session rest tag number mode ≡ Err 44
  open_full free new full = open_is ∙ (λ j. open_by (free j) (new j) (full j))

  pub open_begins : is_taken outside session rest found.node ≡ false → is_kind New found.node.kind ≡ true → nat_le most_made session.made ≡ false
      → open_answer outside session rest tag number mode ≡ Ok (opened_new outside session rest tag number mode found)
  open_begins free new room = open_is ∙ (λ j. open_by (free j) (new j) (room j))

  pub open_opens : is_taken outside session rest found.node ≡ false → is_kind New found.node.kind ≡ false
      → open_answer outside session rest tag number mode
      ≡ Ok (left (with_fid session number (record found { mode = Some mode }), with_held outside true rest found.node) (Ropen tag (qid found.node) 0))
  open_opens free other = open_is ∙ (λ j. open_by (free j) (other j) (nat_le most_made session.made))

-- ---- writes that stop before their end

data_is : is_kind Data Data ≡ true
unfolding row
data_is = refl

pub cut_of : {S : Type 0} (wants : Wants S) (session : Session) (rest : S) (number : ℕ) (bytes : List ℕ) (mark short : Option ℕ) (found : Fid) (node : Node) (kind : Kind)
    → lookup session.fids number ≡ Some found → is_open_for writes found ≡ true → node ≡ found.node → found.node.kind ≡ kind
    → IfSome short (λ k. (kind ≡ Data) × ((mark ≡ Some k) ⊎ wants node.connection rest bytes k))
    → IfSome short (λ k. IsCutWrite wants session rest number bytes mark k)
cut_of wants session rest number bytes mark None found node kind at mode_is same is cause = tt
cut_of wants session rest number bytes mark (Some k) found node kind at mode_is same is cause = record {
  fid = found;
  bound = at;
  opened = mode_is;
  is_data = ap (λ (other : Kind). is_kind Data other) (is ∙ cause.0) ∙ data_is;
  cause = subst (λ (n : Node). (mark ≡ Some k) ⊎ wants n.connection rest bytes k) same cause.1;
}
