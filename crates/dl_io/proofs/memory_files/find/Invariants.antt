use Rattle.std.proofs.Common.{◌≡◌, map, drop}
use Rattle.dl_io.specs.Memory.{content_of, seen}
use Rattle.dl_io.proofs.memory_files.find.Given as goal

abbrev pub invariant-loop-file : goal.invariant-loop-file
invariant-loop-file l = content_of (map seen l.files) l.name ≡ content_of (map seen (drop l.file-index l.files)) l.name
