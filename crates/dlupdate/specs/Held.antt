-- What the program holds, as values.
use Rattle.std.specs.Prelude.{ℕ, List, Option, Result, Ok, Err}
use Rattle.std.specs.Option.{option_copied}
use Rattle.dl_base.specs.declared.statements.Fact.{Fact}
use Rattle.dlupdate.specs.declared.words.Command.{Command as Found}
use Rattle.dlupdate.specs.declared.words.Command.TheVariants as found
use Rattle.dlupdate.specs.Commands.{Command, Check, Apply, Script, words_of}

-- a command as the program holds it
abbrev pub said : Found → Command
said (found.Check ontology facts) = Check ontology.now (option_copied facts)
said (found.Apply ontology updates) = Apply ontology.now (words_of updates.now)
said (found.Script ontology facts updates) = Script ontology.now facts.now (words_of updates.now)
