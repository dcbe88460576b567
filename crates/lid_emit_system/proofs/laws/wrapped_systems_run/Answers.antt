use Rattle.lid_emit_system.proofs.Telling.{tells}
use Rattle.lid_emit_system.proofs.Connecting.{connected}
use Rattle.lid_emit_system.proofs.Delivering.{delivers}
use Rattle.lid_emit_system.proofs.laws.wrapped_systems_run.Goals as goal

pub returns : goal.returns
returns c = record {
  tells = λ s p n rows b well fits strict. tells s p n well fits rows b strict;
  connected = λ s p n well fits nets. connected s p n well fits nets;
  delivers = λ s p n rows b well fits nets follow strict. delivers s p n well fits nets follow rows b strict;
}
