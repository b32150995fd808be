use Rattle.std.proofs.Common.{List, subst, sym, refl}
use Rattle.dl_base.specs.Repeats.{IsOnce}
use Rattle.dl_base.specs.declared.statements.Fact.{Fact}
use Rattle.update_read.specs.declared.lists.Gathered.{Gathered}
use Rattle.update_read.specs.Taking.{Gathers}
use Rattle.update_read.proofs.FinishLaws.{means}
use Rattle.update_read.proofs.reading.told.Goals as goal

pub returns-in_ok-deletes-in-Going : goal.returns-in_ok-deletes-in-Going
returns-in_ok-deletes-in-Going c theory ts h =
    let g = subst (λ (z : Gathered). Gathers theory ts z) c.in-Going.is h in
    let lists = c.in-Going.lists in
    let inserts = subst (λ (z : List Fact). IsOnce lists.inserts.items z) (sym c.of.ensures) (subst (λ (z : List Fact). IsOnce z c.in_ok-inserts-in-Going.inserts.items) c.as_slice.ensures.value c.in_ok-inserts-in-Going.ensures.once) in
    let deletes =
    subst (λ (z : List Fact). IsOnce lists.deletes.items z) (sym c.of-in-Going.ensures) (subst (λ (z : List Fact). IsOnce z c.in_ok-deletes-in-Going.deletes.items) c.as_slice-in-Going.ensures.value c.in_ok-deletes-in-Going.ensures.once) in
    means theory ts lists (record { inserts = c.of.result; deletes = c.of-in-Going.result; skipped = lists.skipped }) g lists.few inserts deletes refl
