use Rattle.std.proofs.Common.{ℕ, List, take, sym, ◌∙◌, ap, subst}
use Rattle.dl_base.specs.Commits.{IsOutcome}
use Rattle.dl_base.specs.Commits as outcome
use Rattle.dl_base.specs.declared.requests.Request.{Request}
use Rattle.dl_base.specs.Histories.{IsVersion, in_force_at}
use Rattle.dl_base.specs.Ontologies.{Theory}
use Rattle.read_patterns.specs.Effects.{AreEffects}
use Rattle.transaction.proofs.WorldLaws.{continued}
use Rattle.transaction.proofs.committing.committed.Goals as goal

pub commit-requires-clause-taken : goal.commit-requires-clause-taken
commit-requires-clause-taken g c =
    let s = c.args.history.now in
    let t = c.args.transaction in
    let parts = c.into_parts-base.result.1 in
    let number = sym c.into_parts-base.ensures.number in (
      t.base,
      subst (λ (n : ℕ). IsVersion s.facts (take n s.entries) t.base) number c.requires.began.version,
      subst (λ (th : Theory). AreEffects th.axioms t.base parts.recorded parts.added.items parts.removed.items) (c.requires.began.force ∙ ap (in_force_at s.opening s.entries) number) c.into_parts-base.ensures.effects,
    )

pub returns-in-Ok-clause-ok : goal.returns-in-Ok-clause-ok
returns-in-Ok-clause-ok g c =
    let s = c.args.history.now in
    let u = c.commit.new.self in
    let t = c.args.transaction in
    let parts = c.into_parts-base.result.1 in
    let done = c.in-Ok.ensures.ok in (
      subst (λ (n : ℕ). IsOutcome s.opening s.facts s.limit s.entries c.args.editor n t.requests (outcome.Committed c.in-Ok.number) u.entries) c.into_parts-base.ensures.number
          (subst (λ (rs : List Request). IsOutcome s.opening s.facts s.limit s.entries c.args.editor parts.base rs (outcome.Committed c.in-Ok.number) u.entries) c.into_parts-base.ensures.requests done.0),
      continued s u done.1,
    )
