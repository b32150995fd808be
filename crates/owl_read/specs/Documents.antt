-- What reading an ontology answers: its tree is that of the text, and its nodes are taken from left to right.
use Rattle.std.specs.Prelude.{◌≡◌, ◌⊎◌, ◌+◌, ℕ, List, [], ◌∷◌, ◌++◌, length, fold, Result, Ok, Err}
use Rattle.dl_base.specs.declared.statements.Fact.{Fact}
use Rattle.dl_base.specs.declared.terms.Kind.{Kind}
use Rattle.dl_base.specs.Ontologies.{Theory}
use Rattle.dl_base.specs.Repeats.{IsOnce}
use Rattle.dl_base.specs.Validity.{IsValid}
use Rattle.dl_text.specs.Prefixes.{Bindings, standard_prefixes, with_prefix}
use Rattle.dl_text.specs.declared.kinds.ReadKind.{ReadKind}
use Rattle.dl_text.specs.declared.kinds.ReadKind.TheVariants.{FunctionalSpecialised}
use Rattle.dl_text.specs.declared.refusals.ReadRefusal.{ReadRefusal}
use Rattle.dl_text.specs.declared.refusals.ReadRefusal.TheVariants.{Refused, OutOfMemory}
use Rattle.owl_syntax.specs.declared.nodes.PrefixLine.{PrefixLine}
use Rattle.owl_syntax.specs.Outcomes.{Parses}
use Rattle.owl_syntax.specs.Trees.{Content}
use Rattle.owl_read.specs.declared.reading.ReadOntology.{ReadOntology}
use Rattle.owl_read.specs.Items.{Item, inside, line_of}
use Rattle.owl_read.specs.Outcomes.{run}
use Rattle.owl_read.specs.Rows.{Reading, taken}

-- the standard prefixes, and those of the document's lines, which replace them
abbrev pub bindings_of : List PrefixLine → Bindings
bindings_of lines = fold (λ (bindings : Bindings) (line : PrefixLine). with_prefix bindings line.name line.iri) standard_prefixes lines

-- before its first node a document has said nothing, and its terms are those that are given
abbrev pub start : List (List ℕ × Kind) → Content → Reading
start terms content = record { scope = record { prefixes = bindings_of content.prefixes; terms = terms }; axioms = []; facts = []; skipped = 0 }

-- from here all nodes are taken, and nothing functional is specialised
pub record IsRead (from : Reading) (items : List Item) (reading : Reading) : Type 0 where
  pub runs : run taken from items ≡ Ok reading
  pub valid : IsValid reading.axioms

-- the node is refused, or with it something functional is specialised
abbrev pub IsRefusedBy : Reading → Item → ℕ → ReadKind → Type 0
IsRefusedBy reading item line kind =
    (taken reading item ≡ Err (line, kind))
    ⊎ ((after : Reading) × (taken reading item ≡ Ok after) × (¬ IsValid after.axioms) × (line ≡ line_of item) × (kind ≡ FunctionalSpecialised))

-- the first node from here that is refused; before it nothing functional is specialised
pub record IsRefusedAt (from : Reading) (items : List Item) (line : ℕ) (kind : ReadKind) : Type 0 where
  pub before : List Item
  pub item : Item
  pub rest : List Item
  pub is : items ≡ before ++ item ∷ rest
  pub reading : Reading
  pub read : IsRead from before reading
  pub refused : IsRefusedBy reading item line kind

-- what taking the nodes from here answers
abbrev pub Takes : {X : Type 0} → Reading → List Item → Reading → Result X ReadRefusal → Type 0
Takes from items new (Ok x) = IsRead from items new
Takes from items new (Err (Refused line kind)) = IsRefusedAt from items line kind
Takes from items new (Err OutOfMemory) = Unit {0}

abbrev pub theory_of : Reading → Theory
theory_of reading = record { terms = reading.scope.terms; axioms = reading.axioms }

-- what a document says over these terms, or the first refusal
abbrev pub ReadsTo : List (List ℕ × Kind) → List ℕ → Result Reading ReadRefusal → Type 0
ReadsTo terms bytes (Ok reading) = (content : Content) × Parses bytes (Ok content) × IsRead (start terms content) (inside content.root) reading
ReadsTo terms bytes (Err (Refused line kind)) = Parses bytes (Err (Refused line kind)) ⊎ ((content : Content) × Parses bytes (Ok content) × IsRefusedAt (start terms content) (inside content.root) line kind)
ReadsTo terms bytes (Err OutOfMemory) = Unit {0}

-- reading an ontology: its theory, its assertions in order, repeats dropped, and how many were skipped; or the first refusal
abbrev pub Reads : List ℕ → Result (Theory × List Fact × ℕ) ReadRefusal → Type 0
Reads bytes (Ok (theory, facts, skipped)) = (reading : Reading) × ReadsTo [] bytes (Ok reading) × (theory ≡ theory_of reading) × IsOnce reading.facts facts × (skipped ≡ reading.skipped)
Reads bytes (Err refusal) = ReadsTo [] bytes (Err refusal)

-- reading an ontology over these terms, which come first: no facts, and each assertion is skipped
abbrev pub ReadsOver : List (List ℕ × Kind) → List ℕ → Result (Theory × List Fact × ℕ) ReadRefusal → Type 0
ReadsOver terms bytes (Ok (theory, facts, skipped)) = (reading : Reading) × ReadsTo terms bytes (Ok reading) × (theory ≡ theory_of reading) × (facts ≡ []) × (skipped ≡ reading.skipped + length reading.facts)
ReadsOver terms bytes (Err refusal) = ReadsTo terms bytes (Err refusal)

-- what was read, as contracts see it
abbrev pub seen : {E : Type 0} → Result ReadOntology E → Result (Theory × List Fact × ℕ) E
seen (Ok it) = Ok (it.ontology, it.facts.items, it.skipped)
seen (Err e) = Err e
