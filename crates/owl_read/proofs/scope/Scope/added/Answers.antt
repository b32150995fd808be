use Rattle.std.proofs.Common.{◌≡◌, ◌<◌, ℕ, Ok, None, position, length, arith, sym, subst}
use Rattle.std.specs.Str.{bytes_eq}
use Rattle.dl_base.specs.Vocabularies.{names_of}
use Rattle.owl_read.specs.Scopes.{Naming, added, term, most_terms}
use Rattle.owl_read.proofs.ScopeLaws.{naming, added_fits}
use Rattle.owl_read.proofs.scope.Scope.added.Goals as goal

pub returns : goal.returns
returns c =
    let entries = c.self.inside.terms.entries in
    let prefixes = c.self.inside.prefixes in
    let none = subst (λ (n : Naming). position (bytes_eq c.args.name.now) (names_of n.terms) ≡ None) (sym c.self.view_is) c.requires in
    let low : length entries < most_terms = omega (arith, c.if-number-ge-MOST_TERMS.false, c.len-number.ensures.len) in
    subst (λ (n : Naming). added n c.args.kind c.args.line c.args.name.now ≡ Ok (naming prefixes c.insert.new.self.entries, record { 0 = c.len-number.result })) c.self.view_is
    (subst (λ (k : ℕ). added (naming prefixes entries) c.args.kind c.args.line c.args.name.now ≡ Ok (naming prefixes c.insert.new.self.entries, term k)) (sym c.len-number.ensures.len)
    (added_fits prefixes entries c.insert.new.self.entries c.args.kind c.args.line c.args.name.now c.in_ok-key.key c.in_ok-key.ensures.items none low c.in_ok-insert.ensures.entries))
