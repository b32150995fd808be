use Rattle.std.proofs.Common.{◌++◌, [], List, ℕ, nat_eq, ◌∙◌, ap, append_assoc}
use Rattle.std.specs.Prelude.{codes, if◌then◌else◌}
use Rattle.std.specs.Cmp.Lexicographic.{pointwise}
use Rattle.ntriples.specs.Printing.{iri}
use Rattle.ntriples.proofs.printing.push_datatype.Goals as goal

pub returns-in_ok-push_iri : goal.returns-in_ok-push_iri
returns-in_ok-push_iri c =
    let old = c.args.text.now.items in
    let named = iri c.args.datatype.now in
    c.in_ok-push_iri.ensures ∙ ap (λ (zs : List ℕ). zs ++ named) c.in_ok-extend_from_slice.ensures.items ∙ append_assoc old (codes "^^") named
    ∙ ap (λ b. old ++ (if b then [] else codes "^^" ++ named)) (c.if-eq.ensures ∙ ap (λ (zs : List ℕ). pointwise nat_eq c.args.datatype.now zs) c.xsd_string.ensures)
