use Rattle.std.proofs.Common.{ℕ, List, sym, ◌∙◌, ⊎_elim}
use Rattle.std.proofs.lemmas.Bool.{false≢true}
use Rattle.dl_laws.proofs.Telling.{same_list}
use Rattle.tbox_closure.proofs.range_clashes.has_two_ranges.Goals as goal

pub returns-in-Some : goal.returns-in-Some
returns-in-Some c =
    let first : List ℕ = c.in-Some.datatype.now in
    let own = c.in-Some.ensures in (
      λ h. let p = c.has_other_range.ensures.0 h in (first, p.0, (own.0, (c.ranges-2.ensures own.0 first).0 own.1, own.2), p.1, p.2),
      λ (d, g, x, y, ne). ⊎_elim (λ same. c.has_other_range.ensures.1 (g, y, λ i. ne (sym same ∙ i))) (λ other. c.has_other_range.ensures.1 (d, x, other)) (same_list first d),
    )

pub returns-in-None : goal.returns-in-None
returns-in-None c = (
  λ h. absurd (false≢true h),
  λ (d, g, (v, m, h), y, ne). absurd (c.in-None.ensures d (v, (c.ranges-2.ensures v d).1 m, h)),
)
