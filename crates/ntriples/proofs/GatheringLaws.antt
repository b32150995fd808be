-- What is gathered is what came, repeats dropped.
use Rattle.std.proofs.Common.{◌≡◌, List, [], ◌∷◌, ◌++◌, Option, Some, None, Bool, true, false, cond, refl, sym, ◌∙◌, subst, inl, inr}
use Rattle.std.specs.List.{list_any}
use Rattle.std.proofs.lemmas.Bool.{false≢true}
use Rattle.std.proofs.lemmas.List.{append-nil}
use Rattle.std.proofs.lemmas.Map.Views.{Contains-from_any, list_any-from_Contains}
use Rattle.indexmap.specs.IndexSet.{insert_key}
use Rattle.dl_base.specs.declared.statements.Fact.{Fact}
use Rattle.dl_base.specs.contracts.statements.FactEq.TheImpl.Laws as law
use Rattle.dl_base.proofs.OrderLaws.{derived_eq, derived_exact}
use Rattle.dl_base.specs.Repeats.{IsOnce}
use Rattle.dl_base.proofs.Members.{nowhere}
use Rattle.dl_base.proofs.RepeatsLaws.{new_push, old_push, once_has}
use Rattle.triples.specs.declared.meaning.Said.{Said}
use Rattle.triples.specs.declared.meaning.Said.TheVariants as saids
use Rattle.ntriples.specs.Gathering.{IsJoined, IsKept}
use Rattle.ntriples.specs.Files.{facts_of}

joined_by : (facts : List Fact) (fact : Fact) (then : List Fact) (b : Bool) → list_any (derived_eq fact) facts ≡ b → then ≡ cond b facts (facts ++ fact ∷ []) → IsJoined facts fact then
joined_by facts fact then true is e = inl (Contains-from_any derived_exact fact facts is, e)
joined_by facts fact then false is e = inr (λ m. false≢true (sym is ∙ list_any-from_Contains law.laws-law fact facts m), e)

pub joined_is : (facts : List Fact) (fact : Fact) (then : List Fact) → then ≡ insert_key derived_eq facts fact → IsJoined facts fact then
joined_is facts fact then e = joined_by facts fact then (list_any (derived_eq fact) facts) refl e

-- one fact more of those that came
joined_once : (all facts : List Fact) (fact : Fact) (then : List Fact) → IsOnce all facts → IsJoined facts fact then → IsOnce (all ++ fact ∷ []) then
joined_once all facts fact then h (inl (m, e)) = subst (IsOnce (all ++ fact ∷ [])) (sym e) (old_push [] all facts fact h (inr ((once_has all facts h fact).0 m)))
joined_once all facts fact then h (inr (n, e)) = subst (IsOnce (all ++ fact ∷ [])) (sym e) (new_push [] all facts fact h (nowhere fact) (λ m. n ((once_has all facts h fact).1 m)))

same_once : (all facts then : List Fact) → IsOnce all facts → then ≡ facts → IsOnce (all ++ []) then
same_once all facts then h e = subst (λ (zs : List Fact). IsOnce zs then) (sym (append-nil all)) (subst (IsOnce all) (sym e) h)

pub kept_once : (all facts : List Fact) (it : Option Said) (then : List Fact) → IsOnce all facts → IsKept facts it then → IsOnce (all ++ facts_of it) then
kept_once all facts None then h k = same_once all facts then h k
kept_once all facts (Some saids.Skipped) then h k = same_once all facts then h k
kept_once all facts (Some (saids.Fact fact)) then h k = joined_once all facts fact then h k
