use Rattle.std.proofs.Common.{◌∙◌, List, ℕ, Ok, Some, ⊎_elim, sym, ap, subst}
use Rattle.model_files.specs.declared.tree.Kind.{Kind}
use Rattle.model_files.specs.tree.Tree.{is_of_connection}
use Rattle.model_world.specs.Reading.{at_offset}
use Rattle.r9_tree.specs.View.{node_of}
use Rattle.r9_files.specs.access.Reads.{IsTold, IsToldOf, told_of}
use Rattle.r9_files.proofs.access.Done.{of_ctl}
use Rattle.r9_files.proofs.access.reading.read_told.Goals as goal

pub read_ctl-requires : goal.read_ctl-requires
read_ctl-requires g c = c.requires.client (ap is_of_connection (c.requires.kind ∙ c.in-Ctl.is) ∙ of_ctl)

pub returns-in-Ctl-clause-read : goal.returns-in-Ctl-clause-read
returns-in-Ctl-clause-read g c =
    subst (λ (k : Kind). IsToldOf (Some c.read_ctl.result) (told_of (g.O.Outside.outside c.args.session) (g.O.Outside.state c.args.outside.now) (node_of c.args.node.now) c.args.offset c.args.count k)) (sym c.in-Ctl.is) c.read_ctl.ensures.read

pub returns-in-Screen-clause-read : goal.returns-in-Screen-clause-read
returns-in-Screen-clause-read g c =
    ⊎_elim
    (λ screen. subst (λ (k : Kind). IsToldOf (Some c.part_of_picture.result) (told_of (g.O.Outside.outside c.args.session) (g.O.Outside.state c.args.outside.now) (node_of c.args.node.now) c.args.offset c.args.count k)) (sym screen) (c.part_of_picture.ensures.read c.args.session))
    (λ picture. subst (λ (k : Kind). IsToldOf (Some c.part_of_picture.result) (told_of (g.O.Outside.outside c.args.session) (g.O.Outside.state c.args.outside.now) (node_of c.args.node.now) c.args.offset c.args.count k)) (sym picture) (c.part_of_picture.ensures.read c.args.session))
    c.in-Screen.is

pub returns-in-Winid-clause-read : goal.returns-in-Winid-clause-read
returns-in-Winid-clause-read g c =
    subst (λ (k : Kind). IsToldOf (Some c.part_of_winid.result) (told_of (g.O.Outside.outside c.args.session) (g.O.Outside.state c.args.outside.now) (node_of c.args.node.now) c.args.offset c.args.count k)) (sym c.in-Winid.is) (c.part_of_winid.ensures.read c.args.session)

pub returns-in-Hwsize-clause-read : goal.returns-in-Hwsize-clause-read
returns-in-Hwsize-clause-read g c =
    subst (λ (k : Kind). IsToldOf (Some c.part_of_size.result) (told_of (g.O.Outside.outside c.args.session) (g.O.Outside.state c.args.outside.now) (node_of c.args.node.now) c.args.offset c.args.count k)) (sym c.in-Hwsize.is) (c.part_of_size.ensures.read c.args.session)

pub returns-in-Snarf-clause-read : goal.returns-in-Snarf-clause-read
returns-in-Snarf-clause-read g c =
    subst (λ (k : Kind). IsToldOf (Some c.part.result) (told_of (g.O.Outside.outside c.args.session) (g.O.Outside.state c.args.outside.now) (node_of c.args.node.now) c.args.offset c.args.count k)) (sym c.in-Snarf.is)
    (subst (λ (contents : List ℕ). IsTold c.part.result (Ok (at_offset contents c.args.offset c.args.count))) (c.snarf.ensures c.args.session) c.part.ensures.read)

pub returns-in-Label-clause-read : goal.returns-in-Label-clause-read
returns-in-Label-clause-read g c =
    subst (λ (k : Kind). IsToldOf (Some c.part-in-Label.result) (told_of (g.O.Outside.outside c.args.session) (g.O.Outside.state c.args.outside.now) (node_of c.args.node.now) c.args.offset c.args.count k)) (sym c.in-Label.is)
    (subst (λ (contents : List ℕ). IsTold c.part-in-Label.result (Ok (at_offset contents c.args.offset c.args.count))) (c.label.ensures c.args.session) c.part-in-Label.ensures.read)

pub returns-in-Text-clause-read : goal.returns-in-Text-clause-read
returns-in-Text-clause-read g c =
    subst (λ (k : Kind). IsToldOf (Some c.part-in-Text.result) (told_of (g.O.Outside.outside c.args.session) (g.O.Outside.state c.args.outside.now) (node_of c.args.node.now) c.args.offset c.args.count k)) (sym c.in-Text.is)
    (subst (λ (contents : List ℕ). IsTold c.part-in-Text.result (Ok (at_offset contents c.args.offset c.args.count))) (c.text.ensures c.args.session) c.part-in-Text.ensures.read)

pub returns-in-Winname-clause-read : goal.returns-in-Winname-clause-read
returns-in-Winname-clause-read g c =
    subst (λ (k : Kind). IsToldOf (Some c.part-in-Winname.result) (told_of (g.O.Outside.outside c.args.session) (g.O.Outside.state c.args.outside.now) (node_of c.args.node.now) c.args.offset c.args.count k)) (sym c.in-Winname.is)
    (subst (λ (contents : List ℕ). IsTold c.part-in-Winname.result (Ok (at_offset contents c.args.offset c.args.count))) (c.winname.ensures c.args.session) c.part-in-Winname.ensures.read)
