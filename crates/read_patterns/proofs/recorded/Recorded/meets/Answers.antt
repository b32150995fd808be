use Rattle.std.proofs.Common.{◌≤◌, List, length, refl, sym, ◌∙◌, subst}
use Rattle.std.proofs.lemmas.Bool.{false≢true}
use Rattle.std.proofs.lemmas.List.Elements.{All-contains}
use Rattle.dl_base.specs.declared.requests.Request.{Request}
use Rattle.dl_base.specs.Transactions.{IsWell}
use Rattle.read_patterns.proofs.RequestLaws.{meets_at, not_at, next_place, none_at_all, within_same, at_same}
use Rattle.read_patterns.proofs.recorded.Recorded.meets.Goals as goal

pub is_met-requires-clause-well : goal.is_met-requires-clause-well
is_met-requires-clause-well c =
    let within = within_same c.args.self.now c.requests-requests.result.now c.loop-place.place c.requests-requests.ensures c.loop-place-test.true in
    let is = at_same c.args.self.now c.requests-requests.result.now c.loop-place.place c.index-requests-place.result c.requests-requests.ensures c.index-requests-place.is in
    All-contains (IsWell c.args.conflicts.now.axioms) c.args.self.now c.index-requests-place.result c.requires.well (c.loop-place.place, within, sym is)

pub returns-then-is_met-clause-first : goal.returns-then-is_met-clause-first
returns-then-is_met-clause-first c =
    let within = within_same c.args.self.now c.requests-requests.result.now c.loop-place.place c.requests-requests.ensures c.loop-place-test.true in
    let is = at_same c.args.self.now c.requests-requests.result.now c.loop-place.place c.index-requests-place.result c.requests-requests.ensures c.index-requests-place.is in
    record {
      here = meets_at c.args.conflicts.now.axioms c.args.self.now c.args.fact.now c.loop-place.place c.index-requests-place.result within is (c.is_met.ensures.0 c.if-is_met.true);
      least = c.loop-place.invariant;
    }

pub returns-then-is_met-clause-none : goal.returns-then-is_met-clause-none
returns-then-is_met-clause-none c =
    let within = within_same c.args.self.now c.requests-requests.result.now c.loop-place.place c.requests-requests.ensures c.loop-place-test.true in
    let is = at_same c.args.self.now c.requests-requests.result.now c.loop-place.place c.index-requests-place.result c.requests-requests.ensures c.index-requests-place.is in
    ((λ e. absurd (let no : ⊥ = cc in no)), λ none. absurd (none c.index-requests-place.result (c.loop-place.place, within, sym is) (c.is_met.ensures.0 c.if-is_met.true)))

pub loop-place-preserved : goal.loop-place-preserved
loop-place-preserved c =
    let is = at_same c.args.self.now c.requests-requests.result.now c.loop-place.place c.index-requests-place.result c.requests-requests.ensures c.index-requests-place.is in
    next_place c.args.conflicts.now.axioms c.args.self.now c.args.fact.now c.loop-place.place c.loop-place.invariant
    (not_at c.args.conflicts.now.axioms c.args.self.now c.args.fact.now c.loop-place.place c.index-requests-place.result is (λ h. false≢true (sym c.if-is_met.false ∙ c.is_met.ensures.1 h)))

pub returns-clause-none : goal.returns-clause-none
returns-clause-none c =
    let past : length c.args.self.now ≤ c.loop-place.place = subst (λ (rs : List Request). length rs ≤ c.loop-place.place) c.requests-requests.ensures c.loop-place-test.false in
    ((λ e. none_at_all c.args.conflicts.now.axioms c.args.self.now c.args.fact.now c.loop-place.place past c.loop-place.invariant), λ h. refl)
