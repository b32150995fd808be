use Rattle.std.proofs.Common.{◌≡◌, List, ℕ, Result, Ok, Err, sym, subst}
use Rattle.dl_text.specs.declared.refusals.ReadRefusal.{ReadRefusal}
use Rattle.owl_read.specs.Outcomes.{Refusal, Fails}
use Rattle.owl_read.specs.Scopes.{Naming, resolved}
use Rattle.owl_read.proofs.ScopeLaws.{resolves_is}
use Rattle.owl_read.proofs.scope.Scope.resolved.Goals as goal

pub returns-in-Ok : goal.returns-in-Ok
returns-in-Ok c =
    subst (λ (n : Naming). resolved n.prefixes c.args.line c.args.prefix.now c.args.local.now ≡ Ok c.in-Ok.name) c.self.view_is
    (resolves_is c.self.inside.prefixes c.args.line c.args.prefix.now c.args.local.now (Ok c.in-Ok.name) c.in-Ok.ensures)

pub returns-in-Err : goal.returns-in-Err
returns-in-Err c =
    let read : Result (List ℕ) Refusal = resolved c.self.inside.prefixes c.args.line c.args.prefix.now c.args.local.now in
    subst (λ (n : Naming). Fails c.refusal_at.result (resolved n.prefixes c.args.line c.args.prefix.now c.args.local.now)) c.self.view_is
    (subst (λ (e : ReadRefusal). Fails e read) (sym c.refusal_at.ensures)
    (resolves_is c.self.inside.prefixes c.args.line c.args.prefix.now c.args.local.now (Err c.in-Err.fault) c.in-Err.ensures))
