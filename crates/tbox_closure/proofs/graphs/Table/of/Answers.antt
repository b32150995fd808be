use Rattle.std.proofs.Common.{◌≡◌, ◌<◌, ◌∙◌, ℕ, List, length, sym, ap, subst, arith}
use Rattle.std.proofs.lemmas.List.{with_items_is}
use Rattle.tbox_closure.specs.Graphs.{AreBelow, AreRows, HaveSamePaths, IsTable}
use Rattle.tbox_closure.proofs.graphs.Table.of.Goals as goal

pub fill-requires-clause-range : goal.fill-requires-clause-range
fill-requires-clause-range c =
    let count : c.args.nodes ≡ length c.as_mut_slice.result.now = sym (ap length c.as_mut_slice.ensures.value ∙ c.in_ok-rows.ensures.length) in
    subst (AreBelow (length c.as_mut_slice.result.now)) (sym c.as_slice.ensures.value) (subst (λ (n : ℕ). AreBelow n c.args.edges.items) count c.requires)

pub invariant_of-result : goal.invariant_of-result
invariant_of-result c =
    let old = c.in_ok-rows.rows in
    let new : List (List ℕ) = c.fill.new.rows in
    let count : length new ≡ c.args.nodes = omega (arith, ap length c.as_mut_slice.ensures.value, c.in_ok-rows.ensures.length) in
    let same = with_items_is old new (omega (arith, count, c.in_ok-rows.ensures.length)) in
    let few = rw c.in-Some.is at c.in_ok-few.ensures.few in
    let among = rw c.in-Some.is at c.in_ok-few.ensures.among in
    subst (λ (rows : List (List ℕ)). IsTable c.in-Some.few.items rows) (sym same) record {
      range = λ edge m. subst (λ (n : ℕ). (edge.0 < n) × (edge.1 < n)) (sym count) (c.requires edge (rw c.as_slice.ensures.value at (among edge m)));
      inside = few;
    }

pub invariant_of-result-in-None : goal.invariant_of-result-in-None
invariant_of-result-in-None c =
    let old = c.in_ok-rows.rows in
    let new : List (List ℕ) = c.fill.new.rows in
    let count : length new ≡ c.args.nodes = omega (arith, ap length c.as_mut_slice.ensures.value, c.in_ok-rows.ensures.length) in
    let same = with_items_is old new (omega (arith, count, c.in_ok-rows.ensures.length)) in
    subst (λ (rows : List (List ℕ)). IsTable c.args.edges.items rows) (sym same) record {
      range = subst (λ (n : ℕ). AreBelow n c.args.edges.items) (sym count) c.requires;
      inside = subst (λ (edges : List (ℕ × ℕ)). AreRows edges new) c.as_slice.ensures.value c.in_ok-few.ensures.all;
    }

pub returns-in-Some : goal.returns-in-Some
returns-in-Some c =
    let old = c.in_ok-rows.rows in
    let new : List (List ℕ) = c.fill.new.rows in
    let count : length new ≡ c.args.nodes = omega (arith, ap length c.as_mut_slice.ensures.value, c.in_ok-rows.ensures.length) in
    let items = with_items_is old new (omega (arith, count, c.in_ok-rows.ensures.length)) in
    let nodes = ap length items ∙ count in
    let among = rw c.in-Some.is at c.in_ok-few.ensures.among in
    let same = rw c.in-Some.is at c.in_ok-few.ensures.same in
    record {
      same = subst (HaveSamePaths c.in-Some.few.items) c.as_slice.ensures.value same;
      nodes = nodes;
      range = λ edge m. subst (λ (n : ℕ). (edge.0 < n) × (edge.1 < n)) (sym nodes) (c.requires edge (rw c.as_slice.ensures.value at (among edge m)));
    }

pub returns-in-None : goal.returns-in-None
returns-in-None c =
    let old = c.in_ok-rows.rows in
    let new : List (List ℕ) = c.fill.new.rows in
    let count : length new ≡ c.args.nodes = omega (arith, ap length c.as_mut_slice.ensures.value, c.in_ok-rows.ensures.length) in
    let items = with_items_is old new (omega (arith, count, c.in_ok-rows.ensures.length)) in
    let nodes = ap length items ∙ count in
    record {
      same = λ i j. ((λ p. p), (λ p. p));
      nodes = nodes;
      range = subst (λ (n : ℕ). AreBelow n c.args.edges.items) (sym nodes) c.requires;
    }
