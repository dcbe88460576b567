use Rattle.std.proofs.Common.{◌∙◌}
use Rattle.lid_texts.proofs.Scanning.{fault_known}
use Rattle.lid_texts.proofs.scan.RowScan.failed.Goals as goal

pub returns : goal.returns
returns c = λ bytes read. c.is_some.ensures ∙ fault_known c.args.self.now bytes read
