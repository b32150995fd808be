use Rattle.std.proofs.Common.{subst, sym, List, ℕ, arith}
use Rattle.owl_syntax.specs.Shapes.{Shape, shape_of}
use Rattle.owl_syntax.specs.Cutting.{CutsAt}
use Rattle.owl_syntax.proofs.PieceLaws.{no_hats, no_tag_at, no_iri, no_text, no_blank_node, name_answer}
use Rattle.owl_syntax.proofs.cutting.cut_sign.Goals as goal

pub returns-in-None : goal.returns-in-None
returns-in-None c =
    subst (λ (b : ℕ). (shape : Shape) (rest : List ℕ) → ¬ CutsAt b c.args.behind.now shape rest) (sym c.in-94.is) (no_hats c.args.behind.now c.in-None.ensures)

pub returns-in-None-cut_tag : goal.returns-in-None-cut_tag
returns-in-None-cut_tag c =
    subst (λ (b : ℕ). (shape : Shape) (rest : List ℕ) → ¬ CutsAt b c.args.behind.now shape rest) (sym c.in-64.is) (no_tag_at c.args.behind.now c.in-None-cut_tag.ensures)

pub returns-in-None-cut_at : goal.returns-in-None-cut_at
returns-in-None-cut_at c =
    subst (λ (b : ℕ). (shape : Shape) (rest : List ℕ) → ¬ CutsAt b c.args.behind.now shape rest) (sym c.in-60.is) (no_iri c.args.behind.now c.in-None-cut_at.ensures)

pub returns-in-None-cut_text : goal.returns-in-None-cut_text
returns-in-None-cut_text c =
    subst (λ (b : ℕ). (shape : Shape) (rest : List ℕ) → ¬ CutsAt b c.args.behind.now shape rest) (sym c.in-34.is) (no_text c.args.behind.now c.in-None-cut_text.ensures)

pub returns-in-None-cut_label : goal.returns-in-None-cut_label
returns-in-None-cut_label c =
    subst (λ (b : ℕ). (shape : Shape) (rest : List ℕ) → ¬ CutsAt b c.args.behind.now shape rest) (sym c.in-95.is) (no_blank_node c.args.behind.now c.in-None-cut_label.ensures)

pub returns-in_default : goal.returns-in_default
returns-in_default c =
    name_answer c.args.here.now c.args.first c.args.behind.now c.cut_name.result (λ cut. shape_of cut.0) (λ cut. cut.1.now) c.requires.is
    (record {
      no_blank = c.requires.no_blank;
      no_digit = c.requires.no_digit;
      not_35 = λ e. omega (arith, e);
      not_40 = λ e. omega (arith, e);
      not_41 = λ e. omega (arith, e);
      not_61 = λ e. omega (arith, e);
      not_94 = λ e. omega (arith, e);
      not_64 = λ e. omega (arith, e);
      not_60 = λ e. omega (arith, e);
      not_34 = λ e. omega (arith, e);
      not_95 = λ e. omega (arith, e);
    }) c.cut_name.ensures
