use Rattle.std.proofs.Common.{⊎_elim}
use Rattle.dlupdate.proofs.ExactRuns.{comes_one}
use Rattle.dlupdate.proofs.laws.runs_come_to_one.Goals as goal

pub returns : goal.returns
returns c contents words status other printed said h k fine well =
    ⊎_elim (λ six. absurd (fine six)) (λ r. ⊎_elim (λ six. absurd (well six)) (λ e. e) r) (comes_one contents words status printed other said h k)
