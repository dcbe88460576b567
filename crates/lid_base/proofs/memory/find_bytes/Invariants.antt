use Rattle.std.proofs.Common.{◌≡◌, drop}
use Rattle.lid_base.specs.Memory.{bytes_held}
use Rattle.lid_base.proofs.memory.find_bytes.Given as goal

abbrev pub invariant-loop-file : goal.invariant-loop-file
invariant-loop-file l = bytes_held (drop l.file-index l.files) l.name ≡ bytes_held l.fn.files l.name
