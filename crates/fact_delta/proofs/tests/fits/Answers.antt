use Rattle.std.proofs.Common.{refl}
use Rattle.fact_delta.proofs.tests.fits.Goals as goal

pub returns-then-has_all : goal.returns-then-has_all
returns-then-has_all c = λ t. record { go = c.if-has_all.ensures refl; come = c.has_none.ensures t }
