use Rattle.entail_guards.proofs.MatchLaws.{match_is}
use Rattle.entail_guards.proofs.entailers.Entailers.entails_match.Goals as goal

pub returns : goal.returns
returns c = let same = match_is c.args.self.now.axioms c.args.given.now c.args.pattern.now in ((λ h. same.0 (c.fact_matches.ensures.0 h)), λ h. c.fact_matches.ensures.1 (same.1 h))
