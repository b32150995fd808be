use Rattle.std.proofs.Common.{◌++◌, ◌∷◌, [], ◌∙◌, ap, sym, map, take}
use Rattle.std.proofs.lemmas.List.{map-append}
use Rattle.owl_read.proofs.ScopeLaws.{term_of}
use Rattle.owl_read.proofs.TermsLaws.{take_here}
use Rattle.owl_read.proofs.scope.Scope.entries.Goals as goal

pub loop-place-preserved : goal.loop-place-preserved
loop-place-preserved c =
    let entries = c.self.inside.terms.entries in
    let i = c.loop-place.place in
    let name = c.in_ok-of.ensures.value ∙ c.as_slice.ensures.value in
    c.in_ok-push.ensures.items
    ∙ (λ j. c.loop-place.invariant j ++ (name j, c.in-Some.kind.now) ∷ [])
    ∙ sym (ap (map term_of) (take_here entries i _ (sym c.in-Some.ensures.entry)) ∙ map-append term_of (take i entries) (_ ∷ []))
