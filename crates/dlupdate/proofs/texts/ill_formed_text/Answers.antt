use Rattle.std.proofs.Common.{sym, ◌∙◌, ap}
use Rattle.dlupdate.specs.Texts.{line_at, ill_formed}
use Rattle.dlupdate.proofs.TextLaws.{two_behind}
use Rattle.dlupdate.proofs.texts.ill_formed_text.Goals as goal

pub returns-in_ok-push_at-in-Entails-2 : goal.returns-in_ok-push_at-in-Entails-2
returns-in_ok-push_at-in-Entails-2 c =
    two_behind c.push_at-in-Entails-2.new.text.items c.push_at-in-Entails.new.text.items c.in_ok-text-in-Entails.text.items _ (line_at c.args.ontology.now c.args.inserts.now c.in-Entails.i) (line_at c.args.ontology.now c.args.deletes.now c.in-Entails.d)
    c.in_ok-push_at-in-Entails-2.ensures c.in_ok-push_at-in-Entails.ensures c.in_ok-text-in-Entails.ensures
    ∙ ap (λ n. ill_formed c.args.ontology.now c.args.number c.args.inserts.now c.args.deletes.now n) (sym c.in-Entails.is)
