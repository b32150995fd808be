use Rattle.std.proofs.Common.{arith}
use Rattle.update_read.specs.Shapes.{shape_of}
use Rattle.update_read.proofs.PieceLaws.{no_hats, no_tag, no_iri, no_blank_node, name_answer}
use Rattle.update_read.proofs.cutting.cut_token.Goals as goal

pub returns-in-None : goal.returns-in-None
returns-in-None c = no_hats c.args.first c.args.behind.now c.in-94.is c.in-None.ensures

pub returns-in-None-cut_tag : goal.returns-in-None-cut_tag
returns-in-None-cut_tag c = no_tag c.args.first c.args.behind.now c.in-64.is c.in-None-cut_tag.ensures

pub returns-in-None-cut_at : goal.returns-in-None-cut_at
returns-in-None-cut_at c = no_iri c.args.first c.args.behind.now c.in-60.is c.in-None-cut_at.ensures

pub returns-in-None-behind_label : goal.returns-in-None-behind_label
returns-in-None-behind_label c = no_blank_node c.args.first c.args.behind.now c.in-95.is c.in-None-behind_label.ensures

pub returns-in_default : goal.returns-in_default
returns-in_default c =
    name_answer c.args.here.now c.args.first c.args.behind.now c.cut_word.result (λ cut. shape_of cut.0) (λ cut. cut.1.now) c.requires.is
    (record {
      no_blank = c.requires.no_blank;
      no_number = c.requires.no_number;
      no_mark = c.requires.no_mark;
      not_35 = λ e. omega (arith, e);
      not_94 = λ e. omega (arith, e);
      not_64 = λ e. omega (arith, e);
      not_60 = λ e. omega (arith, e);
      not_34 = λ e. omega (arith, e);
      not_39 = λ e. omega (arith, e);
      not_63 = λ e. omega (arith, e);
      not_36 = λ e. omega (arith, e);
      not_95 = λ e. omega (arith, e);
    }) c.cut_word.ensures
