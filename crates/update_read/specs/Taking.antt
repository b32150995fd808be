-- What the inner functions of the fourth pass give. No public contract names it.
use Rattle.std.specs.Prelude.{◌≡◌, ◌≤◌, ◌+◌, ℕ, List, [], ◌∷◌, ◌++◌, length, cond, Option, Some, None, Result, Ok, Err}
use Rattle.dl_base.specs.Ontologies.{Theory}
use Rattle.dl_base.specs.declared.memory.OutOfMemory.{OutOfMemory}
use Rattle.dl_text.specs.Going.{Goes}
use Rattle.dl_text.specs.Prefixes.{Bindings}
use Rattle.dl_text.specs.declared.kinds.ReadKind.{ReadKind}
use Rattle.dl_text.specs.declared.refusals.ReadRefusal.{ReadRefusal}
use Rattle.dl_text.specs.declared.refusals.ReadRefusal.TheVariants as refusals
use Rattle.triples.specs.declared.meaning.Object.{Object}
use Rattle.triples.specs.declared.meaning.Said.{Said}
use Rattle.update_read.specs.declared.lists.Lists.{Lists}
use Rattle.update_read.specs.declared.lists.Gathered.{Gathered}
use Rattle.update_read.specs.declared.lists.Gathered.TheVariants as gathereds
use Rattle.update_read.specs.declared.syntax.Operation.{Operation}
use Rattle.update_read.specs.declared.syntax.SpelledName.{SpelledName}
use Rattle.update_read.specs.declared.syntax.SpelledVerb.{SpelledVerb}
use Rattle.update_read.specs.declared.syntax.SpelledDatatype.{SpelledDatatype}
use Rattle.update_read.specs.declared.syntax.SpelledObject.{SpelledObject}
use Rattle.update_read.specs.Grammar.{Statement}
use Rattle.update_read.specs.Meaning.{Names, NameFails, VerbNames, VerbFails, DatatypeNames, DatatypeFails, ObjectMeans, ObjectFails, Says, Fails, Outcome, SaysFirst, inserted_by, deleted_by, is_skip, inserted, deleted, skips, most_triples, IsRefusedBy}

abbrev pub refusal_of : ℕ → Option ReadKind → ReadRefusal
refusal_of line (Some kind) = refusals.Refused line kind
refusal_of line None = refusals.OutOfMemory

abbrev pub ReadsName : Bindings → SpelledName → Result (List ℕ) ReadRefusal → Type 0
ReadsName bindings it (Ok name) = Names bindings it name
ReadsName bindings it (Err (refusals.Refused line kind)) = NameFails bindings it line kind
ReadsName bindings it (Err refusals.OutOfMemory) = Unit {0}

abbrev pub ReadsVerb : Bindings → SpelledVerb → Result (List ℕ) ReadRefusal → Type 0
ReadsVerb bindings it (Ok name) = VerbNames bindings it name
ReadsVerb bindings it (Err (refusals.Refused line kind)) = VerbFails bindings it line kind
ReadsVerb bindings it (Err refusals.OutOfMemory) = Unit {0}

abbrev pub ReadsDatatype : Bindings → SpelledDatatype → Result (List ℕ) ReadRefusal → Type 0
ReadsDatatype bindings it (Ok name) = DatatypeNames bindings it name
ReadsDatatype bindings it (Err (refusals.Refused line kind)) = DatatypeFails bindings it line kind
ReadsDatatype bindings it (Err refusals.OutOfMemory) = Unit {0}

abbrev pub ReadsObject : Bindings → SpelledObject → Result Object ReadRefusal → Type 0
ReadsObject bindings it (Ok object) = ObjectMeans bindings it object
ReadsObject bindings it (Err (refusals.Refused line kind)) = ObjectFails bindings it line kind
ReadsObject bindings it (Err refusals.OutOfMemory) = Unit {0}

abbrev pub ReadsTriple : Theory → Statement → Result Said ReadRefusal → Type 0
ReadsTriple theory statement (Ok said) = Says theory statement said
ReadsTriple theory statement (Err (refusals.Refused line kind)) = Fails theory statement line kind
ReadsTriple theory statement (Err refusals.OutOfMemory) = Unit {0}

-- the lists with what a triple says
pub record IsPut (old : Lists) (operation : Operation) (said : Said) (new : Lists) : Type 0 where
  pub inserts : new.inserts.items ≡ old.inserts.items ++ inserted_by operation said
  pub deletes : new.deletes.items ≡ old.deletes.items ++ deleted_by operation said
  pub skipped : new.skipped ≡ old.skipped + cond (is_skip said) 1 0
  pub triples : new.triples ≡ old.triples + 1

-- the lists are what these triples say
pub record IsGathered (theory : Theory) (statements : List Statement) (lists : Lists) : Type 0 where
  pub outcomes : List Outcome
  pub goes : Goes (SaysFirst theory) statements outcomes []
  pub inserts : lists.inserts.items ≡ inserted outcomes
  pub deletes : lists.deletes.items ≡ deleted outcomes
  pub skipped : lists.skipped ≡ skips outcomes
  pub triples : lists.triples ≡ length outcomes

abbrev pub Gathers : Theory → List Statement → Gathered → Type 0
Gathers theory statements (gathereds.Going lists) = IsGathered theory statements lists
Gathers theory statements (gathereds.Refused line kind) = IsRefusedBy theory statements line kind

-- one triple more
abbrev pub GathersMore : Theory → Gathered → Statement → Result Gathered OutOfMemory → Type 0
GathersMore theory gathered statement (Ok next) = (statements : List Statement) → Gathers theory statements gathered → Gathers theory (statements ++ statement ∷ []) next
GathersMore theory gathered statement (Err e) = Unit {0}

-- what the same reader makes of lists that go on
abbrev pub TakesMore : Theory → Lists → Statement → Result Gathered OutOfMemory → Type 0
TakesMore theory lists statement (Ok next) = (statements : List Statement) → IsGathered theory statements lists → Gathers theory (statements ++ statement ∷ []) next
TakesMore theory lists statement (Err e) = Unit {0}
