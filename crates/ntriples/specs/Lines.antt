-- The second and third pass over one line: one statement.
use Rattle.std.specs.Prelude.{◌⊎◌, ℕ, List, [], Option, Result, Ok, Err}
use Rattle.ntriples.specs.declared.tokens.Token.{Token}
use Rattle.ntriples.specs.declared.grammar.Triple.{Triple}
use Rattle.ntriples.specs.declared.faults.LineFault.{LineFault}
use Rattle.ntriples.specs.declared.faults.LineFault.TheVariants.{Refused, OutOfMemory}
use Rattle.ntriples.specs.Tokens.{Lexes, IsBadAt}
use Rattle.ntriples.specs.Grammar.{tokens_of, Stops}

-- Ok: all of the line is the tokens of this triple, or has none.
-- Refused: at the first place where no token can be read; and else by the first token with which no line goes on.
abbrev pub Parses : List ℕ → Result (Option Triple) LineFault → Type 0
Parses line (Ok triple) = Lexes line (tokens_of triple) []
Parses line (Err (Refused kind)) =
    ((tokens : List Token) × (here : List ℕ) × Lexes line tokens here × IsBadAt here kind)
    ⊎ ((tokens : List Token) × Lexes line tokens [] × Stops tokens kind)
Parses line (Err OutOfMemory) = Unit {0}
