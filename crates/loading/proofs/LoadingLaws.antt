-- Facts by their places, and what opens them.
use Rattle.std.proofs.Common.{◌≡◌, ◌++◌, ℕ, List, get_or, sym, ◌∙◌, ap}
use Rattle.std.specs.Prelude.{All, Contains, Some, slice_get}
use Rattle.std.proofs.Common.{⊎_elim}
use Rattle.std.proofs.lemmas.List.Elements.{All-contains, Contains-append_cases}
use Rattle.dl_base.specs.Ontologies.{Theory, Knows}
use Rattle.std.proofs.lemmas.Option.{get_or_from_slice_get}
use Rattle.dl_base.specs.Repeats.{IsOnce}
use Rattle.dl_base.specs.declared.statements.Fact.{Fact}
use Rattle.dl_base.proofs.RepeatsLaws.{once_has}

-- a copy of what stands at a place stands there
pub stands_at : (facts : List Fact) (i : ℕ) (f item copy : Fact) → slice_get facts i ≡ Some f → item ≡ get_or facts i item → copy ≡ item → slice_get facts i ≡ Some copy
stands_at facts i f item copy h is e = h ∙ ap Some (sym (e ∙ is ∙ get_or_from_slice_get facts i f item h))

-- known facts together are known
pub joined_known : (theory : Theory) (given found all : List Fact) → IsOnce (given ++ found) all → ((f : Fact) → Contains given f → Knows theory f) → All (Knows theory) found → (f : Fact) → Contains all f → Knows theory f
joined_known theory given found all once known more f m = ⊎_elim (known f) (All-contains (Knows theory) found f more) (Contains-append_cases given found f ((once_has (given ++ found) all once f).0 m))
