use Rattle.lid_vcd.proofs.ReadSound.{read_is_wave}
use Rattle.lid_vcd.proofs.laws.read_dumps_are_waves.Goals as goal

pub returns : goal.returns
returns c = read_is_wave
