use Rattle.std.proofs.Common.{◌≡◌, length, sym, arith}
use Rattle.tbox_closure.specs.Graphs.{AreBelow}
use Rattle.tbox_closure.proofs.RowLaws.{filled, range_at, closed_by_few, sound_among, begun_on, same_by_rows}
use Rattle.tbox_closure.proofs.graphs.complete.Goals as goal

pub close-requires-clause-range : goal.close-requires-clause-range
close-requires-clause-range c edge m = c.requires.range edge (c.requires.among edge m)

pub returns-then-are_marked-clause-all : goal.returns-then-are_marked-clause-all
returns-then-are_marked-clause-all c =
    let sound = c.close.ensures.grows.sound c.requires.sound in
    filled c.args.edges.now c.close.new.rows (range_at c.args.edges.now _ _ (omega arith) c.requires.range)
    (begun_on c.args.few.now c.args.rows.now c.close.new.rows (omega arith) c.requires.begun c.close.ensures.grows)
    (sound_among c.args.edges.now c.args.few.now c.close.new.rows c.requires.among sound)
    (closed_by_few c.args.edges.now c.args.few.now c.close.new.rows sound c.close.ensures.closed (c.are_marked.ensures c.if-are_marked.true))

pub returns-then-are_marked-clause-few : goal.returns-then-are_marked-clause-few
returns-then-are_marked-clause-few c _ =
    filled c.args.few.now c.close.new.rows (range_at c.args.few.now _ _ (omega arith) (λ edge m. c.requires.range edge (c.requires.among edge m)))
    (begun_on c.args.few.now c.args.rows.now c.close.new.rows (omega arith) c.requires.begun c.close.ensures.grows)
    (c.close.ensures.grows.sound c.requires.sound) c.close.ensures.closed

pub returns-then-are_marked-clause-same : goal.returns-then-are_marked-clause-same
returns-then-are_marked-clause-same c _ =
    let same : length c.args.rows.now ≡ length c.close.new.rows = omega arith in
    let range : AreBelow (length c.close.new.rows) c.args.edges.now = range_at c.args.edges.now (length c.args.rows.now) (length c.close.new.rows) same c.requires.range in
    let sound = c.close.ensures.grows.sound c.requires.sound in
    let begun = begun_on c.args.few.now c.args.rows.now c.close.new.rows (sym same) c.requires.begun c.close.ensures.grows in
    same_by_rows c.args.edges.now c.args.few.now c.close.new.rows range c.requires.among
    (filled c.args.edges.now c.close.new.rows range begun (sound_among c.args.edges.now c.args.few.now c.close.new.rows c.requires.among sound)
    (closed_by_few c.args.edges.now c.args.few.now c.close.new.rows sound c.close.ensures.closed (c.are_marked.ensures c.if-are_marked.true)))
    (filled c.args.few.now c.close.new.rows (range_at c.args.few.now (length c.args.rows.now) (length c.close.new.rows) same (λ edge m. c.requires.range edge (c.requires.among edge m))) begun sound c.close.ensures.closed)

pub returns-clause-all : goal.returns-clause-all
returns-clause-all c =
    let sound = sound_among c.args.edges.now c.args.few.now c.close.new.rows c.requires.among (c.close.ensures.grows.sound c.requires.sound) in
    let begun = begun_on c.args.few.now c.args.rows.now c.close.new.rows (omega arith) c.requires.begun c.close.ensures.grows in
    let last = c.close-2 in
    filled c.args.edges.now last.new.rows (range_at c.args.edges.now _ _ (omega arith) c.requires.range)
    (begun_on c.args.edges.now c.close.new.rows last.new.rows (omega arith) begun last.ensures.grows)
    (last.ensures.grows.sound sound) last.ensures.closed
