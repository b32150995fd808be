use Rattle.std.proofs.Common.{◌≡◌, drop}
use Rattle.std.specs.Prelude.{fold}
use Rattle.dl_text.specs.Prefixes.{Bindings, with_prefix}
use Rattle.owl_syntax.specs.declared.nodes.PrefixLine.{PrefixLine}
use Rattle.owl_read.specs.Documents.{bindings_of}
use Rattle.owl_read.proofs.documents.bindings_of.Given as goal

abbrev pub invariant-loop-line : goal.invariant-loop-line
invariant-loop-line l = fold (λ (bindings : Bindings) (line : PrefixLine). with_prefix bindings line.name line.iri) l.prefixes (drop l.line-index l.lines) ≡ bindings_of l.lines
