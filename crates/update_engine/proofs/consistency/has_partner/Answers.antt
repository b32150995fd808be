use Rattle.std.proofs.Common.{◌≡◌, length, refl, sym, ◌∙◌, arith}
use Rattle.std.proofs.lemmas.Bool.{false≢true}
use Rattle.update_engine.proofs.PartnerLaws.{partner_found, found_partner, none_counted, is_none, is_some}
use Rattle.update_engine.proofs.consistency.has_partner.Goals as goal

pub returns-in_err-partners-clause-counted : goal.returns-in_err-partners-clause-counted
returns-in_err-partners-clause-counted g c =
    none_counted c.args.rules.now (g.S.FactSet.facts c.args.set.now) c.args.given.now c.in_ok-patterns.patterns.items c.requires.sound c.in_ok-patterns.ensures.asks _ _ c.in_ok-patterns.ensures.few (rw c.as_slice.ensures.value at c.found.ensures.counted)

pub returns-then-is_empty-clause-counted : goal.returns-then-is_empty-clause-counted
returns-then-is_empty-clause-counted g c =
    none_counted c.args.rules.now (g.S.FactSet.facts c.args.set.now) c.args.given.now c.in_ok-patterns.patterns.items c.requires.sound c.in_ok-patterns.ensures.asks _ _ c.in_ok-patterns.ensures.few (rw c.as_slice.ensures.value at c.found.ensures.counted)

pub returns-clause-counted : goal.returns-clause-counted
returns-clause-counted g c =
    none_counted c.args.rules.now (g.S.FactSet.facts c.args.set.now) c.args.given.now c.in_ok-patterns.patterns.items c.requires.sound c.in_ok-patterns.ensures.asks _ _ c.in_ok-patterns.ensures.few (rw c.as_slice.ensures.value at c.found.ensures.counted)

pub returns-then-is_empty-clause-has : goal.returns-then-is_empty-clause-has
returns-then-is_empty-clause-has g c = (
  (λ h. absurd (false≢true h)),
  λ h. absurd (partner_found c.args.rules.now (g.S.FactSet.facts c.args.set.now) c.args.given.now c.in_ok-patterns.patterns.items c.requires.sound c.in_ok-patterns.ensures.asks c.in_ok-partners.partners.items (rw c.as_slice.ensures.value at c.in_ok-partners.ensures.found) h
      (is_none c.in_ok-partners.partners.items c.is_empty.result (rw c.as_slice-2.ensures.value at c.is_empty.ensures) c.if-is_empty.true)),
)

pub returns-clause-has : goal.returns-clause-has
returns-clause-has g c = (
  (λ h. found_partner c.args.rules.now (g.S.FactSet.facts c.args.set.now) c.args.given.now c.in_ok-patterns.patterns.items c.requires.sound c.in_ok-patterns.ensures.asks c.in_ok-partners.partners.items (rw c.as_slice.ensures.value at c.in_ok-partners.ensures.found)
      (is_some c.in_ok-partners.partners.items c.is_empty.result (rw c.as_slice-2.ensures.value at c.is_empty.ensures) c.if-is_empty.false)),
  λ h. refl,
)
