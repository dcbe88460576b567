use Rattle.std.proofs.Common.{refl}
use Rattle.lid_texts.proofs.Scanning.{nothing_read}
use Rattle.lid_texts.proofs.scan.RowScan.start.Goals as goal

pub returns-clause-read : goal.returns-clause-read
returns-clause-read c = nothing_read _ refl c.new.ensures c.new-2.ensures.items
