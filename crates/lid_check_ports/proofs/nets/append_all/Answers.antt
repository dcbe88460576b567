use Rattle.lid_check_table.proofs.Appending.{all_appended}
use Rattle.lid_check_ports.proofs.nets.append_all.Goals as goal

pub returns : goal.returns
returns c names own are = all_appended names own c.args.list.now.items c.extend_from_slice.new.self.items c.args.numbers.now c.in_ok-extend_from_slice.ensures.items are
