-- A base of facts, with what came to it and what went from it.
use Rattle.std.specs.Prelude.{◌↔◌, ◌⊎◌, Bool, List, [], ◌∷◌, Contains}
use Rattle.std.specs.BTreeSet.{insert_key}
use Rattle.std.specs.Ordering.{is_eq}
use Rattle.std.specs.Set.{remove_key}
use Rattle.dl_base.specs.FactOrder.{AreSorted, fact_cmp}
use Rattle.dl_base.specs.declared.requests.Changed.{Changed}
use Rattle.dl_base.specs.declared.statements.Fact.{Fact}
use Rattle.fact_delta.specs.declared.delta.Moved.{Moved}

-- a base, what came to it, and what went from it
pub record Over : Type 0 where
  pub base : List Fact
  pub came : List Fact
  pub went : List Fact

-- the facts without those of the first list
abbrev pub without : List Fact → List Fact → List Fact
without [] facts = facts
without (f ∷ went) facts = remove_key (λ g. is_eq (fact_cmp f g)) (without went facts)

-- the facts with those of the first list, in order
abbrev pub with_all : List Fact → List Fact → List Fact
with_all [] facts = facts
with_all (f ∷ came) facts = insert_key fact_cmp (with_all came facts) f

-- what stands: the base without what went, with what came
abbrev pub standing : Over → List Fact
standing d = with_all d.came (without d.went d.base)

-- the three lists are in order; what came isn't in the base, and what went is
pub record IsOver (d : Over) : Type 0 where
  pub base_sorted : AreSorted d.base
  pub came_sorted : AreSorted d.came
  pub went_sorted : AreSorted d.went
  pub new : (f : Fact) → Contains d.came f → ¬ Contains d.base f
  pub old : (f : Fact) → Contains d.went f → Contains d.base f

-- each removed fact is held, and each added one isn't
pub record Fits (held removed added : List Fact) : Type 0 where
  pub go : (f : Fact) → Contains removed f → Contains held f
  pub come : (f : Fact) → Contains added f → ¬ Contains held f

-- new has the facts of old that aren't removed, and the added ones
abbrev pub IsApplied : List Fact → List Fact → List Fact → List Fact → Type 0
IsApplied old removed added new = (f : Fact) → Contains new f ↔ ((Contains old f × ¬ Contains removed f) ⊎ Contains added f)

-- f is in the first list and not in the second, or in the third and not in the fourth
abbrev pub IsExchanged : List Fact → List Fact → List Fact → List Fact → Fact → Type 0
IsExchanged held less more but f = (Contains held f × ¬ Contains less f) ⊎ (Contains more f × ¬ Contains but f)

-- the facts are those that the changes mark so
abbrev pub AreMarked : List Changed → Bool → List Fact → Type 0
AreMarked changed mark facts = (f : Fact) → Contains facts f ↔ Contains changed (record { fact = f; added = mark })

-- the same base with what came to it and went from it since
abbrev pub moved_over : Over → Moved → Over
moved_over d m = record { base = d.base; came = m.came.items; went = m.went.items }
