use Rattle.std.proofs.Common.{◌≡◌, length, ap, ◌∙◌, arith}
use Rattle.fact_index.proofs.whole.is_small.Goals as goal

pub returns : goal.returns
returns c t =
    let of_base : c.len.result ≡ length c.args.delta.now.base = c.len.ensures ∙ ap length c.base.ensures in
    let came : length c.came.result.now ≡ length c.args.delta.now.came = ap length c.came.ensures.same in
    omega (arith, of_base, came)
