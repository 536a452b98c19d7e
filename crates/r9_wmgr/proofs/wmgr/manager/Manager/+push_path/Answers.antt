use Rattle.std.proofs.Common.{◌∙◌, sym, ap, ◌++◌}
use Rattle.std.proofs.lemmas.List.{append-nil, flat_map_more}
use Rattle.std.specs.List.{flat_map}
use Rattle.r9_wmgr.specs.wmgr.Names.{slashed}
use Rattle.r9_wmgr.proofs.wmgr.Levels.{path_up-zero, path_up-none, path_up-some}
use Rattle.r9_wmgr.proofs.wmgr.Results.{on_ok}
use Rattle.r9_wmgr.proofs.wmgr.manager.Manager.+push_path.Goals as goal

pub returns-then-levels-eq0 : goal.returns-then-levels-eq0
returns-then-levels-eq0 t c = sym (append-nil c.args.out.now) ∙ ap (λ path. c.args.out.now ++ flat_map slashed path) (sym (path_up-zero _ _ _ c.if-levels-eq0.true))

pub returns-in_default : goal.returns-in_default
returns-in_default t c = sym (append-nil c.args.out.now) ∙ ap (λ path. c.args.out.now ++ flat_map slashed path) (sym (path_up-none _ _ _ (sym c.window_of.ensures ∙ c.in_default.is)))

pub returns : goal.returns
returns t c =
    on_ok c.push_slashed.result
    (λ e. e ∙ ap (λ out. out ++ slashed c.in-Some.w.number) c.in_ok-push_path.ensures ∙ flat_map_more slashed c.args.out.now _ c.in-Some.w.number
    ∙ ap (λ path. c.args.out.now ++ flat_map slashed path) (sym (path_up-some _ _ _ _ c.if-levels-eq0.false (sym c.window_of.ensures ∙ c.in-Some.is))))
    c.push_slashed.ensures
