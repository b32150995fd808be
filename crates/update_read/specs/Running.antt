-- How the reader goes on from token to token. No public contract names it.
use Rattle.std.specs.Prelude.{◌≡◌, ℕ, List, [], ◌∷◌, ◌++◌, Option, Some, None}
use Rattle.dl_text.specs.Prefixes.{Bindings, with_prefix}
use Rattle.update_read.specs.declared.spots.Spot.{Spot}
use Rattle.update_read.specs.declared.spots.Spot.TheVariants as spots
use Rattle.update_read.specs.declared.spots.Step.{Step}
use Rattle.update_read.specs.declared.spots.Step.TheVariants as steps
use Rattle.update_read.specs.Grammar.{Statement}
use Rattle.update_read.specs.Tokens.{Lexeme}
use Rattle.update_read.specs.Reading.{step_of}

-- the prefixes, the spot, and the triples up to here
pub record Run : Type 0 where
  pub bindings : Bindings
  pub spot : Spot
  pub out : List Statement

-- what a step makes of the prefixes and triples
abbrev pub applied : Bindings → List Statement → Step → Option Run
applied b out steps.Stuck = None
applied b out (steps.On spot) = Some (record { bindings = b; spot = spot; out = out })
applied b out (steps.Bind named iri) = Some (record { bindings = with_prefix b named iri; spot = spots.Start; out = out })
applied b out (steps.Say stem object spot) = Some (record { bindings = b; spot = spot; out = out ++ record { bindings = b; stem = stem; object = object } ∷ [] })

abbrev pub after : Run → Lexeme → Option Run
after run t = applied run.bindings run.out (step_of run.spot t)

abbrev pub then : Option Run → Lexeme → Option Run
then None t = None
then (Some run) t = after run t

-- what is read behind these tokens
abbrev pub runs : Option Run → List Lexeme → Option Run
runs run [] = run
runs run (t ∷ ts) = runs (then run t) ts

abbrev pub start : Run
start = record { bindings = []; spot = spots.Start; out = [] }
