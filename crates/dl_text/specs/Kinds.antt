-- The numbers and names of refusals.
use Rattle.std.specs.Prelude.{ℕ, List, Option, Some, None, codes}
use Rattle.dl_text.specs.declared.faults.TextFault.{TextFault}
use Rattle.dl_text.specs.declared.faults.TextFault.TheVariants as faults
use Rattle.dl_text.specs.declared.kinds.ReadKind.{ReadKind}
use Rattle.dl_text.specs.declared.kinds.ReadKind.TheVariants as kinds

-- the number of a refusal: below 10 for characters and names, from 10 for grammar and ontologies, from 20 for facts and updates
abbrev pub number_of : ReadKind → ℕ
number_of kinds.BadUtf8 = 1
number_of kinds.BadIri = 2
number_of kinds.BadEscape = 3
number_of kinds.BadLiteral = 4
number_of kinds.NameTooLong = 5
number_of kinds.UnknownPrefix = 6
number_of kinds.Syntax = 10
number_of kinds.TooDeep = 11
number_of kinds.NotDlLite = 12
number_of kinds.Import = 13
number_of kinds.TwoKinds = 14
number_of kinds.FunctionalSpecialised = 15
number_of kinds.TooManyTerms = 16
number_of kinds.BlankNode = 20
number_of kinds.UnknownTerm = 21
number_of kinds.WrongKind = 22
number_of kinds.Variable = 23
number_of kinds.OtherOperation = 24
number_of kinds.TooManyFacts = 25

-- the word that is printed for a refusal
abbrev pub name_of : ReadKind → List ℕ
name_of kinds.BadUtf8 = codes "BadUtf8"
name_of kinds.BadIri = codes "BadIri"
name_of kinds.BadEscape = codes "BadEscape"
name_of kinds.BadLiteral = codes "BadLiteral"
name_of kinds.NameTooLong = codes "NameTooLong"
name_of kinds.UnknownPrefix = codes "UnknownPrefix"
name_of kinds.Syntax = codes "Syntax"
name_of kinds.TooDeep = codes "TooDeep"
name_of kinds.NotDlLite = codes "NotDlLite"
name_of kinds.Import = codes "Import"
name_of kinds.TwoKinds = codes "TwoKinds"
name_of kinds.FunctionalSpecialised = codes "FunctionalSpecialised"
name_of kinds.TooManyTerms = codes "TooManyTerms"
name_of kinds.BlankNode = codes "BlankNode"
name_of kinds.UnknownTerm = codes "UnknownTerm"
name_of kinds.WrongKind = codes "WrongKind"
name_of kinds.Variable = codes "Variable"
name_of kinds.OtherOperation = codes "OtherOperation"
name_of kinds.TooManyFacts = codes "TooManyFacts"

-- the refusal that a fault of a name or value leads to; want of memory leads to none
abbrev pub kind_of : TextFault → Option ReadKind
kind_of faults.BadIri = Some kinds.BadIri
kind_of faults.BadEscape = Some kinds.BadEscape
kind_of faults.BadLiteral = Some kinds.BadLiteral
kind_of faults.NameTooLong = Some kinds.NameTooLong
kind_of faults.UnknownPrefix = Some kinds.UnknownPrefix
kind_of faults.OutOfMemory = None
