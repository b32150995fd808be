use Rattle.ntriples.proofs.CuttingLaws.{no_iri, no_text, no_tag, no_node, no_piece}
use Rattle.ntriples.proofs.cutting.cut.Goals as goal

pub returns-in-None : goal.returns-in-None
returns-in-None c = no_piece c.args.line.now c.in-Some.first.now c.in-Some.behind.now c.in-Some.ensures.cases.0 (no_iri c.in-Some.first.now c.in-Some.behind.now c.in-60.is c.in-None.ensures)

pub returns-in-None-cut_text : goal.returns-in-None-cut_text
returns-in-None-cut_text c = no_piece c.args.line.now c.in-Some.first.now c.in-Some.behind.now c.in-Some.ensures.cases.0 (no_text c.in-Some.first.now c.in-Some.behind.now c.in-34.is c.in-None-cut_text.ensures)

pub returns-in-None-cut_tag : goal.returns-in-None-cut_tag
returns-in-None-cut_tag c = no_piece c.args.line.now c.in-Some.first.now c.in-Some.behind.now c.in-Some.ensures.cases.0 (no_tag c.in-Some.first.now c.in-Some.behind.now c.in-64.is c.in-None-cut_tag.ensures)

pub returns-in-None-cut_node : goal.returns-in-None-cut_node
returns-in-None-cut_node c = no_piece c.args.line.now c.in-Some.first.now c.in-Some.behind.now c.in-Some.ensures.cases.0 (no_node c.in-Some.first.now c.in-Some.behind.now c.in-95.is c.in-None-cut_node.ensures)
