use Rattle.lid_vcd.proofs.WavesRead.{wave_written}
use Rattle.lid_vcd.proofs.laws.written_dumps_are_waves.Goals as goal

pub returns : goal.returns
returns c = wave_written
