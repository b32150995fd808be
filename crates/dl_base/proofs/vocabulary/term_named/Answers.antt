use Rattle.std.proofs.Common.{◌≡◌, Some, arith, sym, ◌∙◌, ap, List, ℕ, get_or}
use Rattle.dl_base.specs.declared.terms.Kind.{Kind}
use Rattle.std.specs.Prelude.{slice_get}
use Rattle.std.proofs.lemmas.Option.{slice_get_within, get_or_from_slice_get}
use Rattle.dl_base.proofs.NamesLaws.{named_at, named_nowhere}
use Rattle.dl_base.proofs.vocabulary.term_named.Goals as goal

named : (t : List ℕ × Kind) (name : List ℕ) (kind : Kind) → t.0 ≡ name → t.1 ≡ kind → t ≡ (name, kind)
named t name kind e k = λ i. (e i, k i)

pub bounds-terms-place : goal.bounds-terms-place
bounds-terms-place c =
    let at = named_at c.args.name.now c.args.terms.now c.args.names.now.keys c.in-Some.place c.requires.numbered c.in-Some.ensures.index in
    let low = slice_get_within c.args.terms.now c.in-Some.place at.0 at.1 in
    omega (arith, low)

pub returns-in-Some : goal.returns-in-Some
returns-in-Some c =
    let terms = c.args.terms.now in
    let at = named_at c.args.name.now terms c.args.names.now.keys c.in-Some.place c.requires.numbered c.in-Some.ensures.index in
    let same : c.index-terms-place.result ≡ at.0 = c.index-terms-place.is ∙ get_or_from_slice_get terms c.in-Some.place at.0 c.index-terms-place.result at.1 in
    let kind = (get_or terms c.in-Some.place c.index-terms-place.result).1 in
    at.1 ∙ ap Some (named at.0 c.args.name.now kind at.2 (ap (λ (t : List ℕ × Kind). t.1) (sym same ∙ c.index-terms-place.is)))

pub returns-in-None : goal.returns-in-None
returns-in-None c = named_nowhere c.args.name.now c.args.terms.now c.args.names.now.keys c.requires.numbered c.in-None.ensures.index
