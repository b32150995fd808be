-- What the reader of a line keeps.
use Rattle.std.specs.Prelude.{◌++◌, List, Result, Ok, Err}
use Rattle.ntriples.specs.declared.tokens.Token.{Token}
use Rattle.ntriples.specs.declared.grammar.Progress.{Progress}
use Rattle.ntriples.specs.declared.faults.LineFault.{LineFault}
use Rattle.ntriples.specs.declared.faults.LineFault.TheVariants.{Refused, OutOfMemory}
use Rattle.ntriples.specs.Cutting.{Shape}
use Rattle.ntriples.specs.Tokens.{Gives, HasFault}
use Rattle.ntriples.specs.Grammar.{Fits}

-- a piece more
abbrev pub IsStep : Progress → Shape → Result Progress LineFault → Type 0
IsStep progress shape (Ok then) = (out : List Token) × Gives shape out × ((tokens : List Token) → Fits progress tokens → Fits then (tokens ++ out))
IsStep progress shape (Err (Refused kind)) = HasFault shape kind
IsStep progress shape (Err OutOfMemory) = Unit {0}
