use Rattle.std.proofs.Common.{ap, rules, tests}
use Rattle.model_draw_parts.specs.dmsg.Reading.{table, fields_in, up_n, low_n, low_s, low_t, low_x}
use Rattle.r9_dmsg.proofs.Table.{is_listed, listed_there, unlisted}
use Rattle.r9_dmsg.proofs.listed.behind_letter.Goals as goal

pub returns-in_err-restacking_at-in-116-clause-read : goal.returns-in_err-restacking_at-in-116-clause-read
returns-in_err-restacking_at-in-116-clause-read c = rw c.from_residual.ensures (listed_there c.args.letter low_t _ _ (ap (fields_in table) c.in-116.is) (ap is_listed c.in-116.is) c.in_err-restacking_at-in-116.ensures.read)

pub returns-in_ok-restacking_at-in-116-clause-read : goal.returns-in_ok-restacking_at-in-116-clause-read
returns-in_ok-restacking_at-in-116-clause-read c = listed_there c.args.letter low_t _ _ (ap (fields_in table) c.in-116.is) (ap is_listed c.in-116.is) c.in_ok-restacking_at-in-116.ensures.read

pub returns-in_err-naming_at-in-78-clause-read : goal.returns-in_err-naming_at-in-78-clause-read
returns-in_err-naming_at-in-78-clause-read c = rw c.from_residual-in_err-naming_at-in-78.ensures (listed_there c.args.letter up_n _ _ (ap (fields_in table) c.in-78.is) (ap is_listed c.in-78.is) c.in_err-naming_at-in-78.ensures.read)

pub returns-in_ok-naming_at-in-78-clause-read : goal.returns-in_ok-naming_at-in-78-clause-read
returns-in_ok-naming_at-in-78-clause-read c = listed_there c.args.letter up_n _ _ (ap (fields_in table) c.in-78.is) (ap is_listed c.in-78.is) c.in_ok-naming_at-in-78.ensures.read

pub returns-in_err-name_use_at-in-110-clause-read : goal.returns-in_err-name_use_at-in-110-clause-read
returns-in_err-name_use_at-in-110-clause-read c = rw c.from_residual-in_err-name_use_at-in-110.ensures (listed_there c.args.letter low_n _ _ (ap (fields_in table) c.in-110.is) (ap is_listed c.in-110.is) c.in_err-name_use_at-in-110.ensures.read)

pub returns-in_ok-name_use_at-in-110-clause-read : goal.returns-in_ok-name_use_at-in-110-clause-read
returns-in_ok-name_use_at-in-110-clause-read c = listed_there c.args.letter low_n _ _ (ap (fields_in table) c.in-110.is) (ap is_listed c.in-110.is) c.in_ok-name_use_at-in-110.ensures.read

pub returns-in_err-string_at-in-115-clause-read : goal.returns-in_err-string_at-in-115-clause-read
returns-in_err-string_at-in-115-clause-read c = rw c.from_residual-in_err-string_at-in-115.ensures (listed_there c.args.letter low_s _ _ (ap (fields_in table) c.in-115.is) (ap is_listed c.in-115.is) c.in_err-string_at-in-115.ensures.read)

pub returns-in_ok-string_at-in-115-clause-read : goal.returns-in_ok-string_at-in-115-clause-read
returns-in_ok-string_at-in-115-clause-read c = listed_there c.args.letter low_s _ _ (ap (fields_in table) c.in-115.is) (ap is_listed c.in-115.is) c.in_ok-string_at-in-115.ensures.read

pub returns-in_err-string_on_background_at-in-120-clause-read : goal.returns-in_err-string_on_background_at-in-120-clause-read
returns-in_err-string_on_background_at-in-120-clause-read c = rw c.from_residual-in_err-string_on_background_at-in-120.ensures (listed_there c.args.letter low_x _ _ (ap (fields_in table) c.in-120.is) (ap is_listed c.in-120.is) c.in_err-string_on_background_at-in-120.ensures.read)

pub returns-in_ok-string_on_background_at-in-120-clause-read : goal.returns-in_ok-string_on_background_at-in-120-clause-read
returns-in_ok-string_on_background_at-in-120-clause-read c = listed_there c.args.letter low_x _ _ (ap (fields_in table) c.in-120.is) (ap is_listed c.in-120.is) c.in_ok-string_on_background_at-in-120.ensures.read

pub returns-in_default-clause-read : goal.returns-in_default-clause-read
returns-in_default-clause-read c = unlisted c.args.letter _ (search (tests, rules))
