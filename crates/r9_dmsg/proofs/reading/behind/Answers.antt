use Rattle.std.proofs.Common.{ap, refl, Some, rules, tests}
use Rattle.model_draw_parts.specs.dmsg.Reading.{table, fields_in, low_b, up_a, low_c, low_d, up_d, low_f, up_f, low_i, low_l, up_n, low_n, low_o, up_o, low_r, low_s, up_s, low_t, low_v, low_x, low_y}
use Rattle.r9_dmsg.specs.declared.message.Dmsg.TheVariants.{LowV}
use Rattle.r9_dmsg.proofs.Told.{told, no_room, left_out, unknown}
use Rattle.r9_dmsg.proofs.Table.{is_listed}
use Rattle.r9_dmsg.proofs.reading.behind.Goals as goal

pub returns-in-98-clause-told : goal.returns-in-98-clause-told
returns-in-98-clause-told c = told c.args.letter low_b _ _ _ (ap (fields_in table) c.in-98.is) c.or_short.ensures c.low_b.ensures.message

pub returns-in-65-clause-told : goal.returns-in-65-clause-told
returns-in-65-clause-told c = told c.args.letter up_a _ _ _ (ap (fields_in table) c.in-65.is) c.or_short-in-65.ensures c.up_a.ensures.message

pub returns-in-99-clause-told : goal.returns-in-99-clause-told
returns-in-99-clause-told c = told c.args.letter low_c _ _ _ (ap (fields_in table) c.in-99.is) c.or_short-in-99.ensures c.low_c.ensures.message

pub returns-in-100-clause-told : goal.returns-in-100-clause-told
returns-in-100-clause-told c = told c.args.letter low_d _ _ _ (ap (fields_in table) c.in-100.is) c.or_short-in-100.ensures c.low_d.ensures.message

pub returns-in-68-clause-told : goal.returns-in-68-clause-told
returns-in-68-clause-told c = told c.args.letter up_d _ _ _ (ap (fields_in table) c.in-68.is) c.or_short-in-68.ensures c.up_d.ensures.message

pub returns-in-102-clause-told : goal.returns-in-102-clause-told
returns-in-102-clause-told c = told c.args.letter low_f _ _ _ (ap (fields_in table) c.in-102.is) c.or_short-in-102.ensures c.low_f.ensures.message

pub returns-in-70-clause-told : goal.returns-in-70-clause-told
returns-in-70-clause-told c = told c.args.letter up_f _ _ _ (ap (fields_in table) c.in-70.is) c.or_short-in-70.ensures c.up_f.ensures.message

pub returns-in-105-clause-told : goal.returns-in-105-clause-told
returns-in-105-clause-told c = told c.args.letter low_i _ _ _ (ap (fields_in table) c.in-105.is) c.or_short-in-105.ensures c.low_i.ensures.message

pub returns-in-108-clause-told : goal.returns-in-108-clause-told
returns-in-108-clause-told c = told c.args.letter low_l _ _ _ (ap (fields_in table) c.in-108.is) c.or_short-in-108.ensures c.low_l.ensures.message

pub returns-in_err-up_n-in-78-clause-told : goal.returns-in_err-up_n-in-78-clause-told
returns-in_err-up_n-in-78-clause-told c =
    no_room c.args.letter up_n _ _ (ap (fields_in table) c.in-78.is) (ap is_listed c.in-78.is) c.from_residual.ensures.1 c.in_err-up_n-in-78.ensures.whole

pub returns-in_ok-up_n-in-78-clause-told : goal.returns-in_ok-up_n-in-78-clause-told
returns-in_ok-up_n-in-78-clause-told c =
    told c.args.letter up_n _ _ _ (ap (fields_in table) c.in-78.is) c.or_short-in-78.ensures c.in_ok-up_n-in-78.ensures.read

pub returns-in_err-low_n-in-110-clause-told : goal.returns-in_err-low_n-in-110-clause-told
returns-in_err-low_n-in-110-clause-told c =
    no_room c.args.letter low_n _ _ (ap (fields_in table) c.in-110.is) (ap is_listed c.in-110.is) c.from_residual-in_err-low_n-in-110.ensures.1 c.in_err-low_n-in-110.ensures.whole

pub returns-in_ok-low_n-in-110-clause-told : goal.returns-in_ok-low_n-in-110-clause-told
returns-in_ok-low_n-in-110-clause-told c =
    told c.args.letter low_n _ _ _ (ap (fields_in table) c.in-110.is) c.or_short-in-110.ensures c.in_ok-low_n-in-110.ensures.read

pub returns-in-111-clause-told : goal.returns-in-111-clause-told
returns-in-111-clause-told c = told c.args.letter low_o _ _ _ (ap (fields_in table) c.in-111.is) c.or_short-in-111.ensures c.low_o.ensures.message

pub returns-in-79-clause-told : goal.returns-in-79-clause-told
returns-in-79-clause-told c = told c.args.letter up_o _ _ _ (ap (fields_in table) c.in-79.is) c.or_short-in-79.ensures c.up_o.ensures.message

pub returns-in-114-clause-told : goal.returns-in-114-clause-told
returns-in-114-clause-told c = told c.args.letter low_r _ _ _ (ap (fields_in table) c.in-114.is) c.or_short-in-114.ensures c.low_r.ensures.message

pub returns-in_err-low_s-in-115-clause-told : goal.returns-in_err-low_s-in-115-clause-told
returns-in_err-low_s-in-115-clause-told c =
    no_room c.args.letter low_s _ _ (ap (fields_in table) c.in-115.is) (ap is_listed c.in-115.is) c.from_residual-in_err-low_s-in-115.ensures.1 c.in_err-low_s-in-115.ensures.whole

pub returns-in_ok-low_s-in-115-clause-told : goal.returns-in_ok-low_s-in-115-clause-told
returns-in_ok-low_s-in-115-clause-told c =
    told c.args.letter low_s _ _ _ (ap (fields_in table) c.in-115.is) c.or_short-in-115.ensures c.in_ok-low_s-in-115.ensures.read

pub returns-in-83-clause-told : goal.returns-in-83-clause-told
returns-in-83-clause-told c = told c.args.letter up_s _ _ _ (ap (fields_in table) c.in-83.is) c.or_short-in-83.ensures c.up_s.ensures.message

pub returns-in_err-low_t-in-116-clause-told : goal.returns-in_err-low_t-in-116-clause-told
returns-in_err-low_t-in-116-clause-told c =
    no_room c.args.letter low_t _ _ (ap (fields_in table) c.in-116.is) (ap is_listed c.in-116.is) c.from_residual-in_err-low_t-in-116.ensures.1 c.in_err-low_t-in-116.ensures.whole

pub returns-in_ok-low_t-in-116-clause-told : goal.returns-in_ok-low_t-in-116-clause-told
returns-in_ok-low_t-in-116-clause-told c =
    told c.args.letter low_t _ _ _ (ap (fields_in table) c.in-116.is) c.or_short-in-116.ensures c.in_ok-low_t-in-116.ensures.read

pub returns-in-118-clause-told : goal.returns-in-118-clause-told
unfolding low_v
returns-in-118-clause-told c = told c.args.letter low_v (Some LowV) _ _ (ap (fields_in table) c.in-118.is) refl refl

pub returns-in_err-low_x-in-120-clause-told : goal.returns-in_err-low_x-in-120-clause-told
returns-in_err-low_x-in-120-clause-told c =
    no_room c.args.letter low_x _ _ (ap (fields_in table) c.in-120.is) (ap is_listed c.in-120.is) c.from_residual-in_err-low_x-in-120.ensures.1 c.in_err-low_x-in-120.ensures.whole

pub returns-in_ok-low_x-in-120-clause-told : goal.returns-in_ok-low_x-in-120-clause-told
returns-in_ok-low_x-in-120-clause-told c =
    told c.args.letter low_x _ _ _ (ap (fields_in table) c.in-120.is) c.or_short-in-120.ensures c.in_ok-low_x-in-120.ensures.read

pub returns-in-121-clause-told : goal.returns-in-121-clause-told
returns-in-121-clause-told c = told c.args.letter low_y _ _ _ (ap (fields_in table) c.in-121.is) c.or_short-in-121.ensures c.low_y.ensures.message

pub returns-in-89-clause-told : goal.returns-in-89-clause-told
returns-in-89-clause-told c = left_out c.args.letter _ c.in-89.is

pub returns-in_default-clause-told : goal.returns-in_default-clause-told
returns-in_default-clause-told c = unknown c.args.letter _ (search (tests, rules)) (search (tests, rules))
