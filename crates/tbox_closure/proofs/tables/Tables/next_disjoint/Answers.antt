use Rattle.std.proofs.Common.{◌≤◌, ◌<◌, ◌/◌, subst, refl, arith, ◌↔◌}
use Rattle.dl_base.specs.Ontologies.{Theory}
use Rattle.dl_laws.specs.Edges.{concept_node}
use Rattle.dl_laws.specs.Meeting.{AreDisjointConcepts}
use Rattle.tbox_closure.specs.Marks.{IsMarked, row}
use Rattle.tbox_closure.proofs.DisjointLaws.{mark_told, concept_disjoint}
use Rattle.tbox_closure.proofs.PassedLaws.{concept_word}
use Rattle.tbox_closure.proofs.tables.Tables.next_disjoint.Goals as goal

pub returns-clause-passed : goal.returns-clause-passed
returns-clause-passed c b low high h =
    let inside = c.self.inside in
    let place = concept_node b in
    let marks = c.self.invariant.disjoint_concepts (concept_node c.args.concept) place in
    let means = concept_disjoint inside.ontology.axioms c.args.concept b in
    let marked = IsMarked (row c.as_slice-rows.result.now c.concept_number.result) place in
    let told = subst (λ (t : Theory). marked ↔ AreDisjointConcepts t.axioms c.args.concept b) c.self.view_is
    (mark_told marked (AreDisjointConcepts inside.ontology.axioms c.args.concept b) c.as_slice-rows.result.now inside.disjoint_concepts.items
    c.concept_number.result place (concept_node c.args.concept) place
    ((λ m. m), (λ m. m)) c.as_slice-rows.ensures.value c.concept_number.ensures refl ((λ m. means.0 (marks.0 m)), (λ m. marks.1 (means.1 m)))) in
    let word = concept_word b in
    let from : c.args.from / 16 ≤ place / 64 = omega (arith, low, word) in
    let before : place / 64 < c.next_word-word.result = omega (arith, low, high, word, c.max.ensures, c.saturating_mul.ensures) in
    c.next_word-word.ensures place from before (told.1 h)
