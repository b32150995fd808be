use Rattle.std.proofs.Common.{◌<◌, List, length, take, refl, sym, subst, ⊎_elim, arith}
use Rattle.std.specs.Prelude.{Contains}
use Rattle.std.proofs.lemmas.Bool.{false≢true}
use Rattle.std.proofs.lemmas.List.{take_all}
use Rattle.std.proofs.lemmas.List.Elements.{Contains-push_cases, Contains-get_or}
use Rattle.dl_base.specs.declared.requests.Request.{Request}
use Rattle.dl_base.specs.declared.requests.Request.TheVariants.{Change}
use Rattle.dl_base.proofs.VocabularyLaws.{take_on}
use Rattle.transaction.specs.Serving.{IsChange}
use Rattle.transaction.proofs.requests.has_change.Goals as goal

pub loop-request-preserved : goal.loop-request-preserved
loop-request-preserved c r m =
    let requests = c.args.requests.now in
    let at = c.loop-request.request-index in
    let within : at < length requests = omega arith in
    ⊎_elim
    (c.loop-request.invariant r)
    (λ e. subst (λ (q : Request). ¬ IsChange q) e (λ k. false≢true (c.if-is_change.ensures.1 k)))
    (Contains-push_cases (take at requests) c.request-item.result r (subst (λ (rs : List Request). Contains rs r) (take_on requests at c.request-item.result within c.request-item.is) m))

pub returns-then-is_change : goal.returns-then-is_change
returns-then-is_change c =
    let requests = c.args.requests.now in
    let at = c.loop-request.request-index in
    let within : at < length requests = omega arith in
    let change = c.if-is_change.ensures.0 refl in
    let held : Contains requests c.request-item.result = subst (Contains requests) (sym c.request-item.is) (Contains-get_or requests at c.request-item.result within) in
    ((λ t. (change.0, change.1, subst (Contains requests) change.2 held)), λ h. refl)

pub returns : goal.returns
returns c =
    let requests = c.args.requests.now in (
      (λ t. absurd (false≢true t)),
      λ h. absurd (c.loop-request.invariant (Change h.0 h.1) (subst (λ (rs : List Request). Contains rs (Change h.0 h.1)) (sym (take_all c.loop-request.request-index requests c.loop-request-test.false)) h.2) (h.0, h.1, refl)),
    )
