-- Fids that are bound and opened keep their connections alive.
use Rattle.std.proofs.Common.{◌≡◌, ◌∙◌, ◌++◌, ◌&&◌, ◌||◌, ℕ, Bool, true, false, eqb, List, [], ◌∷◌, Option, Some, None, inl, inr, ⊎_elim, refl, sym, ap}
use Rattle.std.specs.Prelude.{◌⊎◌, is_some, option_map}
use Rattle.std.specs.List.{list_any}
use Rattle.std.proofs.lemmas.Bool.{eqb-true}
use Rattle.model_text.specs.text.Map.{lookup}
use Rattle.model_text.proofs.map.Keys.{eqb-same}
use Rattle.model_files.specs.declared.tree.Kind.TheVariants.{Ctl, Data, Refresh}
use Rattle.model_files.specs.tree.Node.{Node}
use Rattle.model_world.specs.Session.{Fid, Session}
use Rattle.model_world.specs.Fids.{is_bound, is_kept, is_kind, keeps, with_fid}
use Rattle.model_world.specs.Links.{is_among}
use Rattle.r9_session.specs.SessionView.{AreKept}
use Rattle.r9_session.specs.Answers.{IsClosed}
use Rattle.r9_session.proofs.Keeping.{any_set}

second_false : (a b : Bool) → (a || b) ≡ false → b ≡ false
second_false true b e = cc e
second_false false b e = e

none_of : (o : Option Fid) → is_some o ≡ false → o ≡ None
none_of None e = refl
none_of (Some f) e = cc e

-- a fid that is not bound has no file
pub free_of : (session : Session) (key : ℕ) → is_bound session key ≡ false → lookup session.fids key ≡ None
free_of session key free = none_of (lookup session.fids key) (second_false _ (is_some (lookup session.fids key)) free)

same_mode : (x y : Option ℕ) → Some x ≡ Some y → x ≡ y
same_mode x y e = cc

pub closed_of : (session : Session) (key : ℕ) (fid : Fid) → IsClosed session key → lookup session.fids key ≡ Some fid → fid.mode ≡ None
closed_of session key fid closed at = same_mode fid.mode None (sym (ap (option_map (λ (f : Fid). f.mode)) at) ∙ closed)

-- an open ctl keeps its connection alive
ctl_keeps : (fid : Fid) (node : Node) (mode : ℕ) → is_kind Ctl node.kind ≡ true → keeps node.connection (record fid { node = node; mode = Some mode }) ≡ true
ctl_keeps fid node mode ctl =
    λ j. eqb-same node.connection j && (true && ctl j || true && is_kind Data node.kind || true && is_kind Refresh node.kind)

pub opened_kept : (session after : Session) (key : ℕ) (node : Node) (mode : ℕ) → IsClosed session key
    → ((found : Fid) → lookup session.fids key ≡ Some found → after ≡ with_fid session key (record found { node = node; mode = Some mode }))
    → is_kind Ctl node.kind ≡ true → is_kept after node.connection ≡ true
opened_kept session after key node mode closed opened ctl = by (lookup session.fids key) refl
  where
    by : (o : Option Fid) → lookup session.fids key ≡ o → is_kept after node.connection ≡ true
    by None at = let absent : None ≡ Some None = sym (ap (option_map (λ (f : Fid). f.mode)) at) ∙ closed in cc absent
    by (Some found) at =
        ap (λ (s : Session). is_kept s node.connection) (opened found at)
        ∙ any_set (keeps node.connection) session.fids key found (record found { node = node; mode = Some mode }) at (ctl_keeps found node mode ctl)

among_push : (n m : ℕ) (ns : List ℕ) → is_among (ns ++ n ∷ []) m ≡ true → (is_among ns m ≡ true) ⊎ (m ≡ n)
among_push n m [] among = inr (sym (eqb-true n m (first (eqb n m) among)))
  where
    first : (b : Bool) → (b || false) ≡ true → b ≡ true
    first true e = refl
    first false e = e
among_push n m (k ∷ ks) among = by (eqb k m) among (λ more. among_push n m ks more)
  where
    by : (b : Bool) → (b || is_among (ks ++ n ∷ []) m) ≡ true → (is_among (ks ++ n ∷ []) m ≡ true → (is_among ks m ≡ true) ⊎ (m ≡ n)) → ((b || is_among ks m) ≡ true) ⊎ (m ≡ n)
    by true some more = inl refl
    by false some more = more some

-- one connection more, which some fid keeps
pub kept_push : (fids : List (ℕ × Fid)) (connections : List ℕ) (n : ℕ) → list_any (λ e. keeps n e.1) fids ≡ true → AreKept fids connections → AreKept fids (connections ++ n ∷ [])
kept_push fids connections n here kept m among =
    ⊎_elim (λ old. kept m old) (λ same. ap (λ k. list_any (λ e. keeps k e.1) fids) same ∙ here) (among_push n m connections among)
