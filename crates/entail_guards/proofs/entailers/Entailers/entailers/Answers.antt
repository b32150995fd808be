use Rattle.entail_guards.specs.Following.{term_number}
use Rattle.entail_guards.proofs.AskLaws.{found_sound, found_complete}
use Rattle.entail_guards.proofs.FollowLaws.{known_number}
use Rattle.entail_guards.proofs.MatchLaws.{match_is}
use Rattle.entail_guards.proofs.entailers.Entailers.entailers.Goals as goal

pub returns-clause-sound : goal.returns-clause-sound
returns-clause-sound c = λ f a.
    let theory = c.args.self.now in
    let r = (c.in_ok-patterns.ensures.asks f).0 a in
    (match_is theory.axioms f c.args.pattern.now).0 (found_sound theory (record { 0 = r.0 }) c.args.pattern.now f r.2)

pub returns-clause-complete : goal.returns-clause-complete
returns-clause-complete c = λ f k h.
    let theory = c.args.self.now in
    (c.in_ok-patterns.ensures.asks f).1 (term_number f, known_number theory f k, found_complete theory c.args.pattern.now f k ((match_is theory.axioms f c.args.pattern.now).1 h))
