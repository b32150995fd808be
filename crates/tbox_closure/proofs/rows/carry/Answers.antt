use Rattle.std.proofs.Common.{◌≡◌, ◌≢◌, ◌∙◌, ℕ, List, [], get_or, set, length, length-set, ap, arith, bit_or, get_or-set_other}
use Rattle.std.proofs.lemmas.List.{set-get_or, set-set}
use Rattle.tbox_closure.proofs.RowLaws.{any_default, carries_itself}
use Rattle.tbox_closure.proofs.rows.carry.Goals as goal

pub returns-then-from-to-clause-carries : goal.returns-then-from-to-clause-carries
returns-then-from-to-clause-carries c = carries_itself c.args.rows.now c.args.from c.args.to c.if-from-to.true

pub returns-clause-same : goal.returns-clause-same
returns-clause-same c e =
    let rows : List (List ℕ) = c.args.rows.now in
    let into : c.replace-into.result ≡ get_or rows c.args.from [] = c.replace-into.ensures.value ∙ any_default rows c.args.from _ [] c.requires.from in
    set-set rows c.args.from _ _ ∙ ap (set rows c.args.from) (c.add-changed.ensures.same e ∙ into) ∙ set-get_or rows c.args.from []

pub returns-clause-carries : goal.returns-clause-carries
returns-clause-carries c =
    let rows : List (List ℕ) = c.args.rows.now in
    let gone : List ℕ = c.replace-into.new.dest in
    let into : c.replace-into.result ≡ get_or rows c.args.from [] = c.replace-into.ensures.value ∙ any_default rows c.args.from _ [] c.requires.from in
    let ne : c.args.to ≢ c.args.from = omega arith in
    let read : List ℕ = get_or (set rows c.args.from gone) c.args.to c.index-rows-to.result in
    let source : read ≡ get_or rows c.args.to [] = any_default (set rows c.args.from gone) c.args.to _ [] (omega (arith, length-set rows c.args.from gone))
    ∙ get_or-set_other rows c.args.from c.args.to gone [] ne in
    record {
      united = c.add-changed.new.self;
      new_is = set-set rows c.args.from _ _;
      union = λ w. c.add-changed.ensures.union w ∙ ap (λ (r : List ℕ). bit_or (get_or r w 0) (get_or read w 0)) into
          ∙ ap (λ (r : List ℕ). bit_or (get_or (get_or rows c.args.from []) w 0) (get_or r w 0)) source;
      alike = c.add-changed.ensures.width ∙ ap length into;
    }
