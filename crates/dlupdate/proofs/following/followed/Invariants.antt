use Rattle.std.proofs.Common.{◌≡◌, ◌≤◌}
use Rattle.dlupdate.specs.Commands.{words_of}
use Rattle.dlupdate.specs.Following.{head_of}
use Rattle.dlupdate.proofs.FollowingLaws.{AtUpdate}
use Rattle.dlupdate.proofs.following.followed.Given as goal

abbrev pub invariant-loop-number : goal.invariant-loop-number
invariant-loop-number g l = AtUpdate (g.F.Files.contents l.fn.files) l.fn.opened.ontology (head_of l.numbered) l.fn.opened.facts.items (words_of l.updates) l.world l.number l.text.items
    × (g.F.Files.contents l.files ≡ g.F.Files.contents l.fn.files) × (g.F.Files.faults l.fn.files ≤ g.F.Files.faults l.files)
