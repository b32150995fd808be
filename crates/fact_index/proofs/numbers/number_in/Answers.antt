use Rattle.fact_index.proofs.NumberLaws.{once_of}
use Rattle.fact_index.proofs.numbers.number_in.Goals as goal

pub returns-then-len-clause-once : goal.returns-then-len-clause-once
returns-then-len-clause-once g c = once_of g.T.PartialEq.eq g.met.T.Eq.laws _ c.len.ensures.unique

pub returns-in_err-place-clause-once : goal.returns-in_err-place-clause-once
returns-in_err-place-clause-once g c = once_of g.T.PartialEq.eq g.met.T.Eq.laws _ c.insert_full.ensures.unique

pub returns-clause-once : goal.returns-clause-once
returns-clause-once g c = once_of g.T.PartialEq.eq g.met.T.Eq.laws _ c.in_ok-place.ensures.unique
