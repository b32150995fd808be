use Rattle.std.proofs.Common.{ap, ◌∙◌, List, ℕ}
use Rattle.std.specs.BTreeSet.{insert_key}
use Rattle.std.specs.Cmp.Lexicographic.{slice_cmp}
use Rattle.std.specs.Ordering.{nat_cmp}
use Rattle.owl_syntax.proofs.KeyLaws.{same_more}
use Rattle.owl_syntax.proofs.prefixes.Prefixes.with.Goals as goal

pub invariant_of-result : goal.invariant_of-result
invariant_of-result c = record {
  same = same_more c.args.self.lines.items c.push.new.self.items c.args.self.names.keys c.insert.new.self.keys _ c.args.self.same c.in_ok-push.ensures.items
      (c.in_ok-_was_new.ensures.keys ∙ ap (λ (k : List ℕ). insert_key (slice_cmp nat_cmp) c.args.self.names.keys k) c.in_ok-copy.ensures);
}
