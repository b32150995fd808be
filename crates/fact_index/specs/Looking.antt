-- Which facts an index has, and where those that match a pattern are looked for.
use Rattle.std.specs.Prelude.{◌≡◌, ◌↔◌, ◌⊎◌, List, [], ◌∷◌, Option, Some, None, Contains, map}
use Rattle.std.specs.BTreeSet.{insert_key}
use Rattle.dl_base.specs.FactOrder.{fact_cmp}
use Rattle.dl_base.specs.Patterns.{Matches}
use Rattle.dl_base.specs.declared.patterns.Pattern.{Pattern}
use Rattle.dl_base.specs.declared.statements.Fact.{Fact}
use Rattle.fact_index.specs.Links.{IsAt}
use Rattle.fact_index.specs.Numbers.{Numbered, IsWithin, fact_at}
use Rattle.fact_index.specs.declared.places.Link.{Link}
use Rattle.fact_index.specs.declared.places.Place.{Place}

-- the facts in order, none twice
abbrev pub in_order : List Fact → List Fact
in_order [] = []
in_order (f ∷ facts) = insert_key fact_cmp (in_order facts) f

-- the facts that the links stand for, in order
abbrev pub facts_of : Numbered → List Link → List Fact
facts_of n links = in_order (map (fact_at n) links)

-- each link has numbers of names and values
abbrev pub AreWithin : Numbered → List Link → Type 0
AreWithin n links = (l : Link) → Contains links l → IsWithin n l

-- the fact that the link stands for matches
abbrev pub LinksMatch : Numbered → Pattern → Link → Type 0
LinksMatch n p l = IsWithin n l × Matches p (fact_at n l)

-- all links of which P holds stand at the place; where there is no place, there is no such link
abbrev pub Covers : (Link → Type 0) → Option Place → Type 0
Covers P None = (l : Link) → ¬ P l
Covers P (Some p) = (l : Link) → P l → IsAt p l

-- one of the links stands for the fact, which matches
abbrev pub IsFoundAmong : Numbered → List Link → Pattern → Fact → Type 0
IsFoundAmong n links p f = (l : Link) × Contains links l × (fact_at n l ≡ f) × Matches p f

-- the new list has the old one's facts, and the fact if it matches
abbrev pub IsPushedIf : Pattern → List Fact → Fact → List Fact → Type 0
IsPushedIf p old f new = (g : Fact) → Contains new g ↔ (Contains old g ⊎ ((g ≡ f) × Matches p f))
