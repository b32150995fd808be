use Rattle.std.proofs.Common.{ℕ, ◌<◌, ◌≤◌, ◌+◌, length, refl, sym, ◌∙◌, arith}
use Rattle.std.proofs.lemmas.Bool.{false≢true}
use Rattle.dl_base.specs.IllFormed.{ClashAt}
use Rattle.update_engine.proofs.JudgeLaws.{names_pair, next_pair, no_pair, no_clash_at}
use Rattle.update_engine.proofs.PartnerLaws.{held_sound, no_partners, no_pair_at, counted_next, counted_within}
use Rattle.update_engine.proofs.consistency.first_pair_in.Goals as goal
use Rattle.update_engine.proofs.consistency.first_pair_in.Goals.{then-branch+in_default, else-branch}

pub has_partner-requires-clause-given : goal.has_partner-requires-clause-given
has_partner-requires-clause-given g c =
    let within : c.loop-place.place < length c.args.facts.now = omega arith in
    no_clash_at c.args.rules.now.axioms c.args.facts.now c.loop-place.place c.index-facts-place.result within c.index-facts-place.is c.requires.alone

pub has_partner-requires-clause-sound : goal.has_partner-requires-clause-sound
has_partner-requires-clause-sound g c = held_sound c.args.rules.now (g.S.FactSet.facts c.args.set.now) c.args.facts.now c.requires.same c.requires.alone c.requires.known

pub returns-in_err-has_partner-clause-counted : goal.returns-in_err-has_partner-clause-counted
returns-in_err-has_partner-clause-counted g c consistent =
    let terms = length c.args.rules.now.terms in
    let place = c.loop-place.place in
    let within : place < length c.args.facts.now = omega arith in
    let none = no_partners c.args.rules.now (g.S.FactSet.facts c.args.set.now) c.args.facts.now c.requires.same consistent c.index-facts-place.result (place, within, sym c.index-facts-place.is) in
    let up_to : place + 1 ≤ length c.args.facts.now = omega arith in
    counted_within terms (place + 1) (length c.args.facts.now) _ _ up_to (counted_next terms place _ _ _ (c.loop-place.invariant.counted consistent) (c.has_partner.ensures.counted none))

pub returns-in-Some-clause-some : goal.returns-in-Some-clause-some
returns-in-Some-clause-some g c = names_pair c.args.rules.now.axioms c.args.facts.now c.loop-place.place c.in-Some.other c.requires.alone c.loop-place.invariant.none c.in-Some.ensures.some

pub returns-in-Some-clause-counted : goal.returns-in-Some-clause-counted
returns-in-Some-clause-counted g c consistent =
    let terms = length c.args.rules.now.terms in
    let place = c.loop-place.place in
    let within : place < length c.args.facts.now = omega arith in
    let none = no_partners c.args.rules.now (g.S.FactSet.facts c.args.set.now) c.args.facts.now c.requires.same consistent c.index-facts-place.result (place, within, sym c.index-facts-place.is) in
    let up_to : place + 1 ≤ length c.args.facts.now = omega arith in
    counted_within terms (place + 1) (length c.args.facts.now) _ _ up_to (counted_next terms place _ _ _ (c.loop-place.invariant.counted consistent) (c.has_partner.ensures.counted none))

pub loop-place-preserved : goal.loop-place-preserved
loop-place-preserved g c =
    let theory = c.args.rules.now in
    let facts = c.args.facts.now in
    let place = c.loop-place.place in
    let given = c.index-facts-place.result in
    let within : place < length facts = omega arith in
    let none_here : (m : ℕ) → ¬ ClashAt theory.axioms facts place m = elim c.if-branch.branch [
      | then-branch+in_default w ↦ w.in_default.ensures.none refl
      | else-branch w ↦ no_pair_at theory (g.S.FactSet.facts c.args.set.now) facts c.requires.same place given within c.index-facts-place.is (λ h. false≢true (sym w.if-branch.false ∙ c.in_ok-has_partner.ensures.has.1 h))
    ] in
    record {
      none = next_pair theory.axioms facts place c.loop-place.invariant.none none_here;
      counted = λ consistent.
          let none = no_partners theory (g.S.FactSet.facts c.args.set.now) facts c.requires.same consistent given (place, within, sym c.index-facts-place.is) in
          counted_next (length theory.terms) place _ _ _ (c.loop-place.invariant.counted consistent) (c.has_partner.ensures.counted none);
    }

pub returns-clause-none : goal.returns-clause-none
returns-clause-none g c e =
    let past : length c.args.facts.now ≤ c.loop-place.place = omega arith in
    no_pair c.args.rules.now.axioms c.args.facts.now c.loop-place.place past c.loop-place.invariant.none

pub returns-clause-counted : goal.returns-clause-counted
returns-clause-counted g c consistent =
    let so_far : c.loop-place.place ≤ length c.args.facts.now = omega arith in
    counted_within (length c.args.rules.now.terms) c.loop-place.place (length c.args.facts.now) _ _ so_far (c.loop-place.invariant.counted consistent)
