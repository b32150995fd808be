use Rattle.std.proofs.Common.{List, subst}
use Rattle.dl_base.specs.declared.statements.Fact.{Fact}
use Rattle.serial_history.specs.Marks.{Marks}
use Rattle.serial_history.proofs.MarkLaws.{ok_map, joined, is_marked}
use Rattle.serial_history.proofs.marking.marked.Goals as goal

pub returns : goal.returns
returns c = ok_map c.mark.result _ _
    (λ changed marks. is_marked c.args.gone.now c.args.come.now c.in_ok-facts-2.facts.items changed c.requires.apart c.in_ok-facts-2.ensures.sorted
    (joined c.args.gone.now c.args.come.now c.in_ok-facts.facts.items c.in_ok-copies_of.field-0.items c.append.new.self.items c.in_ok-facts-2.facts.items c.in_ok-facts.ensures c.in_ok-copies_of.ensures c.in_ok-append.ensures.items c.in_ok-facts-2.ensures.same)
    (subst (λ (fs : List Fact). Marks c.args.gone.now fs changed) c.as_slice.ensures.value marks))
    c.mark.ensures
