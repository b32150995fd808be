use Rattle.std.proofs.Common.{sym, subst, Err, true, List, ℕ}
use Rattle.dl_text.specs.Prefixes.{Resolves}
use Rattle.dl_text.specs.declared.refusals.ReadRefusal.{ReadRefusal}
use Rattle.update_read.specs.declared.syntax.SpelledName.{SpelledName}
use Rattle.update_read.specs.declared.syntax.SpelledName.TheVariants as names
use Rattle.update_read.specs.Taking.{ReadsName}
use Rattle.update_read.proofs.MeaningLaws.{name_fails}
use Rattle.update_read.proofs.meaning.name_of.Goals as goal

pub returns-in-Err : goal.returns-in-Err
returns-in-Err c =
    let b = c.args.prefixes.now in
    let front = subst (λ (z : List ℕ). Resolves b z c.as_slice-in-Short.result.now true (Err c.in-Err.fault)) c.as_slice.ensures.value c.in-Err.ensures in
    let both = subst (λ (z : List ℕ). Resolves b c.in-Short.prefix z true (Err c.in-Err.fault)) c.as_slice-in-Short.ensures.value front in
    subst (λ (s : SpelledName). ReadsName b s (Err c.refusal_of.result)) (sym c.in-Short.is)
    (subst (λ (r : ReadRefusal). ReadsName b (names.Short c.in-Short.line c.in-Short.prefix c.in-Short.local) (Err r)) (sym c.refusal_of.ensures)
    (name_fails b c.in-Short.line c.in-Short.prefix c.in-Short.local c.in-Err.fault both))
