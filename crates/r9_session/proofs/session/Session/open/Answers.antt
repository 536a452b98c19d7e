use Rattle.std.proofs.Common.{rules, ◌≡◌, ◌∙◌, true, false, Some, Ok, refl, sym, ap, arith}
use Rattle.std.specs.Prelude.{is_some, nat_le}
use Rattle.std.proofs.lemmas.Bool.{le-leb}
use Rattle.std.proofs.lemmas.Bool.Decides.{nat_tests}
use Rattle.model_text.specs.text.Map.{lookup}
use Rattle.model_files.specs.wire.Message.{Ropen}
use Rattle.model_files.specs.declared.tree.Kind.TheVariants.{New}
use Rattle.model_files.specs.tree.Node.{Node, may, qid}
use Rattle.model_files.specs.tree.Tree.{check_live}
use Rattle.model_world.specs.Session.{Session}
use Rattle.model_world.specs.Fids.{Left, is_kind, with_held}
use Rattle.model_world.specs.Walking.{is_taken, most_made}
use Rattle.r9_tree.specs.View.{node_of}
use Rattle.r9_session.proofs.Opened.{open_begins, open_full, open_opens, open_taken}
use Rattle.r9_session.proofs.session.Session.open.Goals as goal

pub returns-then-is_taken : goal.returns-then-is_taken
returns-then-is_taken g c =
    let session = c.args.self.now in
    let rest = g.O.Outside.state c.args.outside.now in
    let found = c.in-Some.found.now in
    let at : lookup session.fids c.args.fid ≡ Some found = search rules in
    let closed : is_some found.mode ≡ false = search rules in
    let live : check_live ((g.O.Outside.outside c.args.number).view rest session.connections found.node) found.node ≡ Ok tt = search rules in
    let allowed : may found.node c.args.mode ≡ true = search rules in
    let own : node_of c.node-node.result ≡ found.node = c.node-node.ensures.node in
    let taken : is_taken (g.O.Outside.outside c.args.number) session rest found.node ≡ true = ap (λ (node : Node). is_taken (g.O.Outside.outside c.args.number) session rest node) (sym own) ∙ sym (c.is_taken.ensures c.args.number) ∙ c.if-is_taken.true in
    (open_taken (g.O.Outside.outside c.args.number) session rest c.args.tag c.args.fid c.args.mode found at closed live allowed taken, refl, refl)

pub returns-then-self-ge-MOST_MADE : goal.returns-then-self-ge-MOST_MADE
returns-then-self-ge-MOST_MADE g c =
    let session = c.args.self.now in
    let rest = g.O.Outside.state c.args.outside.now in
    let found = c.in-Some.found.now in
    let at : lookup session.fids c.args.fid ≡ Some found = search rules in
    let closed : is_some found.mode ≡ false = search rules in
    let live : check_live ((g.O.Outside.outside c.args.number).view rest session.connections found.node) found.node ≡ Ok tt = search rules in
    let allowed : may found.node c.args.mode ≡ true = search rules in
    let own : node_of c.node-node.result ≡ found.node = c.node-node.ensures.node in
    let free : is_taken (g.O.Outside.outside c.args.number) session rest found.node ≡ false = ap (λ (node : Node). is_taken (g.O.Outside.outside c.args.number) session rest node) (sym own) ∙ sym (c.is_taken.ensures c.args.number) ∙ c.if-is_taken.false in
    let new : is_kind New found.node.kind ≡ true = ap (λ (node : Node). is_kind New node.kind) (sym own) ∙ sym c.is_kind.ensures ∙ c.if-is_kind.true in
    let full : nat_le most_made session.made ≡ true = le-leb most_made session.made (omega (arith, c.if-self-ge-MOST_MADE.true, ap (λ (s : Session). s.made) c.self.view_is)) in
    (open_full (g.O.Outside.outside c.args.number) session rest c.args.tag c.args.fid c.args.mode found at closed live allowed free new full, refl, refl)

pub returns-then-is_kind : goal.returns-then-is_kind
returns-then-is_kind g c =
    let session = c.args.self.now in
    let rest = g.O.Outside.state c.args.outside.now in
    let found = c.in-Some.found.now in
    let at : lookup session.fids c.args.fid ≡ Some found = search rules in
    let closed : is_some found.mode ≡ false = search rules in
    let live : check_live ((g.O.Outside.outside c.args.number).view rest session.connections found.node) found.node ≡ Ok tt = search rules in
    let allowed : may found.node c.args.mode ≡ true = search rules in
    let own : node_of c.node-node.result ≡ found.node = c.node-node.ensures.node in
    let free : is_taken (g.O.Outside.outside c.args.number) session rest found.node ≡ false = ap (λ (node : Node). is_taken (g.O.Outside.outside c.args.number) session rest node) (sym own) ∙ sym (c.is_taken.ensures c.args.number) ∙ c.if-is_taken.false in
    let new : is_kind New found.node.kind ≡ true = ap (λ (node : Node). is_kind New node.kind) (sym own) ∙ sym c.is_kind.ensures ∙ c.if-is_kind.true in
    let most = c.if-self-ge-MOST_MADE.false in
    let made = ap (λ (s : Session). s.made) c.self.view_is in
    let room : nat_le most_made session.made ≡ false = grind (arith, nat_tests) in (
      open_begins (g.O.Outside.outside c.args.number) session rest c.args.tag c.args.fid c.args.mode found at closed live allowed free new room ∙ ap (λ (l : Left g.O.Outside.State). Ok l) (c.in_ok-open_new.ensures.opened found at own),
      c.in_ok-open_new.ensures.fits,
    )

pub returns : goal.returns
returns g c =
    let session = c.args.self.now in
    let rest = g.O.Outside.state c.args.outside.now in
    let found = c.in-Some.found.now in
    let at : lookup session.fids c.args.fid ≡ Some found = search rules in
    let closed : is_some found.mode ≡ false = search rules in
    let live : check_live ((g.O.Outside.outside c.args.number).view rest session.connections found.node) found.node ≡ Ok tt = search rules in
    let allowed : may found.node c.args.mode ≡ true = search rules in
    let own : node_of c.node-node.result ≡ found.node = c.node-node.ensures.node in
    let free : is_taken (g.O.Outside.outside c.args.number) session rest found.node ≡ false = ap (λ (node : Node). is_taken (g.O.Outside.outside c.args.number) session rest node) (sym own) ∙ sym (c.is_taken.ensures c.args.number) ∙ c.if-is_taken.false in
    let other : is_kind New found.node.kind ≡ false = ap (λ (node : Node). is_kind New node.kind) (sym own) ∙ sym c.is_kind.ensures ∙ c.if-is_kind.false in
    let opened = sym (c.set_mode.ensures found at) in
    let held : with_held (g.O.Outside.outside c.args.number) true rest found.node ≡ g.O.Outside.state c.hold.new.outside = sym (c.hold.ensures c.args.number ∙ ap (λ (node : Node). with_held (g.O.Outside.outside c.args.number) true rest node) own) in
    let told = sym (c.qid.ensures ∙ ap qid own) in (
      open_opens (g.O.Outside.outside c.args.number) session rest c.args.tag c.args.fid c.args.mode found at closed live allowed free other ∙ (λ j. Ok (record { session = opened j; rest = held j; reply = Some (Ropen c.args.tag (told j) 0) })),
      tt,
    )
