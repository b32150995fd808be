use Rattle.std.proofs.Common.{List, ℕ, ◌++◌, sym, subst}
use Rattle.std.proofs.lemmas.Result.{err_from_is_err_and}
use Rattle.dl_text.specs.Outcomes.{NamesIri}
use Rattle.dl_text.proofs.PrefixLaws.{resolved, local_undone, local_plain, undoing_failed}
use Rattle.dl_text.proofs.prefixes.Prefixes.resolve.Goals as goal

pub returns-then-not-escapes : goal.returns-then-not-escapes
returns-then-not-escapes c =
    resolved c.args.self.now c.args.prefix.now c.args.local.now c.args.escapes c.in-Some.iri.now (sym c.in-Some.ensures) c.args.local.now c.joined_name.result
    (local_plain c.args.escapes c.args.local.now c.if-not-escapes.true)
    (subst (λ (iri : List ℕ). NamesIri (iri ++ c.args.local.now) c.joined_name.result) c.as_slice.ensures.value c.joined_name.ensures)

pub returns-in_err-local : goal.returns-in_err-local
returns-in_err-local c =
    let p = err_from_is_err_and c.from_residual.result c.from_residual.ensures.1 in
    rw (p.1, p.2) (undoing_failed c.args.self.now c.args.prefix.now c.args.local.now c.args.escapes c.in-Some.iri.now c.in_err-local.field-0.0 (sym c.in-Some.ensures) c.if-not-escapes.false c.in_err-local.ensures)

pub returns : goal.returns
returns c =
    resolved c.args.self.now c.args.prefix.now c.args.local.now c.args.escapes c.in-Some.iri.now (sym c.in-Some.ensures) c.in_ok-local.local.items c.joined_name-2.result
    (local_undone c.args.escapes c.args.local.now c.in_ok-local.local.items c.if-not-escapes.false c.in_ok-local.ensures)
    (subst (λ (iri : List ℕ). NamesIri (iri ++ c.in_ok-local.local.items) c.joined_name-2.result) c.as_slice-2.ensures.value
    (subst (λ (local : List ℕ). NamesIri (c.as_slice-2.result.now ++ local) c.joined_name-2.result) c.as_slice-3.ensures.value c.joined_name-2.ensures))
