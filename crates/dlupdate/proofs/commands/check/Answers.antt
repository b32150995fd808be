use Rattle.std.proofs.Common.{◌≡◌, length, refl, ◌∙◌, arith}
use Rattle.std.specs.Option.{option_copied}
use Rattle.dlupdate.specs.Texts as text
use Rattle.dlupdate.proofs.CommandLaws.{check_ok, check_stopped}
use Rattle.dlupdate.proofs.commands.check.Goals as goal

pub returns-in-Err-clause-stopped : goal.returns-in-Err-clause-stopped
returns-in-Err-clause-stopped g c = λ words says. check_stopped (g.F.Files.contents c.args.files.now) c.args.ontology.now words (option_copied c.args.facts) c.in-Err.stop says c.in-Err.ensures.stopped

pub returns-clause-ok : goal.returns-clause-ok
returns-clause-ok g c = λ words says.
    let count : c.len.result ≡ length c.in-Ok.opened.facts.items = omega (arith, c.len.ensures, c.in-Ok.opened.facts.ok) in
    check_ok (g.F.Files.contents c.args.files.now) c.args.ontology.now words (option_copied c.args.facts) c.in-Ok.opened (record { status = 0; text = c.in_ok-text.text }) says c.in-Ok.ensures.ok c.in-Ok.ensures.base refl
    (c.in_ok-text.ensures ∙ (λ i. text.checked (c.terms.ensures.count i) (count i) c.in-Ok.opened.skipped))
