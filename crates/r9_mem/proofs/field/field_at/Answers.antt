use Rattle.std.proofs.Common.{refl, arith}
use Rattle.model_pixel.specs.Channels.{promoted}
use Rattle.r9_mem.proofs.FieldLemmas.{promotes}
use Rattle.r9_mem.proofs.field.field_at.Goals as goal

pub returns-in-1-clause-value : goal.returns-in-1-clause-value
unfolding promoted
returns-in-1-clause-value c raw = promotes 1 255 0 refl _ _ _ c.in-1.is (c.product.ensures.value raw)

pub returns-in-2-clause-value : goal.returns-in-2-clause-value
unfolding promoted
returns-in-2-clause-value c raw = promotes 2 85 0 refl _ _ _ c.in-2.is (c.product-in-2.ensures.value raw)

pub returns-in-3-clause-value : goal.returns-in-3-clause-value
unfolding promoted
returns-in-3-clause-value c raw = promotes 3 73 1 refl _ _ _ c.in-3.is (c.product-in-3.ensures.value raw)

pub returns-in-4-clause-value : goal.returns-in-4-clause-value
unfolding promoted
returns-in-4-clause-value c raw = promotes 4 17 0 refl _ _ _ c.in-4.is (c.product-in-4.ensures.value raw)

pub returns-in-5-clause-value : goal.returns-in-5-clause-value
unfolding promoted
returns-in-5-clause-value c raw = promotes 5 33 2 refl _ _ _ c.in-5.is (c.product-in-5.ensures.value raw)

pub returns-in-6-clause-value : goal.returns-in-6-clause-value
unfolding promoted
returns-in-6-clause-value c raw = promotes 6 65 4 refl _ _ _ c.in-6.is (c.product-in-6.ensures.value raw)

pub returns-in-7-clause-value : goal.returns-in-7-clause-value
unfolding promoted
returns-in-7-clause-value c raw = promotes 7 129 6 refl _ _ _ c.in-7.is (c.product-in-7.ensures.value raw)

pub returns-in_default-clause-value : goal.returns-in_default-clause-value
unfolding promoted
returns-in_default-clause-value c raw = promotes 8 1 0 refl _ _ _ (omega arith) (c.product-in_default.ensures.value raw)
