use Rattle.std.proofs.Common.{◌≡◌, Result, Ok, Err, None, position, cond, sym, ◌∙◌, subst}
use Rattle.std.specs.Str.{bytes_eq}
use Rattle.dl_base.specs.Vocabularies.{names_of}
use Rattle.dl_text.specs.declared.kinds.ReadKind.TheVariants as kinds
use Rattle.owl_read.specs.Outcomes.{Refusal, Gives}
use Rattle.owl_read.specs.Scopes.{Naming, same_kind, numbered, term, added}
use Rattle.std.proofs.lemmas.Bool.{cond-true, cond-false}
use Rattle.owl_read.proofs.ScopeLaws.{place_is, numbered_known, numbered_new}
use Rattle.owl_read.proofs.scope.Scope.numbered.Goals as goal
use Rattle.owl_read.proofs.scope.Scope.numbered.Goals.{then-same_kind, else-same_kind}

pub returns-in-Some : goal.returns-in-Some
returns-in-Some c =
    let s = c.args.self.now in
    let same = same_kind c.in-Some.held.now c.args.kind in
    let read : numbered c.args.kind s c.args.line c.args.name.now ≡ cond same (Ok (s, term c.in-Some.number)) (Err (c.args.line, kinds.TwoKinds)) =
    subst (λ (n : Naming). numbered c.args.kind n c.args.line c.args.name.now ≡ cond same (Ok (n, term c.in-Some.number)) (Err (c.args.line, kinds.TwoKinds))) c.self.view_is
    (numbered_known c.self.inside.prefixes c.self.inside.terms.entries c.args.kind c.in-Some.held.now c.args.line c.in-Some.number c.args.name.now c.in-Some.field-0-1.now c.in-Some.ensures.index c.in-Some.ensures.entry) in
    elim c.if-same_kind.branch [
      | then-same_kind w ↦ rw w.result-is (read ∙ cond-true same _ _ (sym c.same_kind.ensures ∙ w.if-same_kind.true))
      | else-same_kind w ↦ rw (w.result-is, w.refused.ensures) (read ∙ cond-false same _ _ (sym c.same_kind.ensures ∙ w.if-same_kind.false))
    ]

pub added-requires : goal.added-requires
added-requires c =
    subst (λ (n : Naming). position (bytes_eq c.args.name.now) (names_of n.terms) ≡ None) c.self.view_is
    (place_is c.args.name.now c.self.inside.terms.entries ∙ sym c.in_default.ensures.index)

pub returns : goal.returns
returns c =
    subst (λ (read : Result (Naming × _) Refusal). Gives c.added.new.self c.added.result read)
    (sym (subst (λ (n : Naming). numbered c.args.kind n c.args.line c.args.name.now ≡ added n c.args.kind c.args.line c.args.name.now) c.self.view_is
    (numbered_new c.self.inside.prefixes c.self.inside.terms.entries c.args.kind c.args.line c.args.name.now c.in_default.ensures.index)))
    c.added.ensures
