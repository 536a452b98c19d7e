use Rattle.r9_wmgr.proofs.wmgr.Names.{named}
use Rattle.r9_wmgr.proofs.wmgr.manager.Manager.name_of.Goals as goal

pub returns : goal.returns
returns c =
    named c.new-name.result c.push_all.new.self c.push_path.new.out c.push_decimal.new.out c.push.new.self c.push_decimal-2.new.out _ c.args.number _ c.args.generation c.new-name.ensures
    c.in_ok-push_all.ensures.ok c.in_ok-push_path.ensures c.from.ensures c.in_ok-push_decimal.ensures.ok c.in_ok-push.ensures.ok c.in_ok-push_decimal-2.ensures.ok
