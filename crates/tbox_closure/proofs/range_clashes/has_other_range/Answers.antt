use Rattle.tbox_closure.proofs.range_clashes.has_other_range.Goals as goal

pub returns : goal.returns
returns c = (
  λ h. let p = c.is_other_among.ensures.0 h in (p.0, (p.1.0, (c.ranges-2.ensures p.1.0 p.0).0 p.1.1, p.1.2), p.2),
  λ (d, (v, m, h), ne). c.is_other_among.ensures.1 (d, (v, (c.ranges-2.ensures v d).1 m, h), ne),
)
