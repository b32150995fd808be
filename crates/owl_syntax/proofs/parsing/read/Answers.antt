use Rattle.std.proofs.Common.{sym, subst, List, ℕ, ◌+◌, ◌≡◌, ◌∙◌, [], ◌∷◌, inl}
use Rattle.std.proofs.lemmas.Bool.{false≢true}
use Rattle.dl_text.specs.Outcomes.{seen}
use Rattle.owl_syntax.specs.Trees.{content_of}
use Rattle.owl_syntax.specs.Shapes.{shape_of}
use Rattle.owl_syntax.proofs.ParseLaws.{IsParsedTo, front_of_piece, parsed_none, parsed_blank, parsed_more, parsed_all, no_token}
use Rattle.owl_syntax.specs.Reading.{BeginsNoBlank}
use Rattle.owl_syntax.proofs.parsing.read.Goals as goal

pub loop-first-init : goal.loop-first-init
loop-first-init c = parsed_none c.args.bytes.now _ c.new-progress.ensures

pub loop-first-preserved-then-is_blank : goal.loop-first-preserved-then-is_blank
loop-first-preserved-then-is_blank c =
    subst (λ (n : ℕ). IsParsedTo c.args.bytes.now c.loop-first.progress n c.in-Some.after.now) (sym c.line_after-line.ensures)
    (parsed_blank c.args.bytes.now c.loop-first.progress c.loop-first.line c.loop-first.rest.now c.in-Some.after.now c.in-Some.first.now c.loop-first.invariant c.in-Some.ensures.cases.0 (c.is_blank.ensures.0 c.if-is_blank.true))

pub returns-in_default-cut : goal.returns-in_default-cut
returns-in_default-cut c =
    inl (no_token c.args.bytes.now c.loop-first.progress c.loop-first.line c.loop-first.rest.now c.loop-first.invariant (some c.in-Some.first.now c.in-Some.after.now c.loop-first.rest.now c.in-Some.ensures.cases.0)
    c.in_default-cut.ensures)
  where
    some : (b : ℕ) (bs here : List ℕ) → here ≡ b ∷ bs → ¬ (here ≡ [])
    some b bs here e n = cc

pub ends_within-line-requires-clause-no_blank : goal.ends_within-line-requires-clause-no_blank
ends_within-line-requires-clause-no_blank c =
    subst BeginsNoBlank (sym c.in-Some.ensures.cases.0) (λ k. false≢true (sym c.if-is_blank.false ∙ c.is_blank.ensures.1 k))

pub loop-first-smaller : goal.loop-first-smaller
loop-first-smaller c = (front_of_piece c.loop-first.rest.now c.in-Some-cut.behind.now (shape_of c.in-Some-cut.piece) c.in-Some-cut.ensures).some

pub loop-first-preserved : goal.loop-first-preserved
loop-first-preserved c =
    let more = parsed_more c.args.bytes.now c.loop-first.progress c.step.new.progress c.loop-first.line c.loop-first.rest.now (shape_of c.in-Some-cut.piece) c.in-Some-cut.behind.now c.loop-first.invariant c.in-Some-cut.ensures
    c.in_default-fault_of.ensures c.in_ok-step.ensures in
    subst (λ (n : ℕ). IsParsedTo c.args.bytes.now c.step.new.progress (c.loop-first.line + n) c.in-Some-cut.behind.now) (sym c.ends_within-line.ensures) more

pub returns : goal.returns
returns c =
    parsed_all c.args.bytes.now c.loop-first.progress c.loop-first.line c.loop-first.rest.now (seen content_of c.finish.result) c.loop-first.invariant c.in_default.ensures.cases c.finish.ensures
