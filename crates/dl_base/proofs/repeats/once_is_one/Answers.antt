use Rattle.dl_base.proofs.RepeatsLaws.{once_is_one}
use Rattle.dl_base.proofs.repeats.once_is_one.Goals as goal

pub returns : goal.returns
returns c facts one other h k = once_is_one facts one other h k
