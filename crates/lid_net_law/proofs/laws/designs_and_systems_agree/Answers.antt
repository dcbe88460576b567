use Rattle.lid_net_law.proofs.Agreeing.{table_is, bits_same, tokens_are, source_ports, shell_ports, output_there, output_back}
use Rattle.lid_net_law.proofs.laws.designs_and_systems_agree.Goals as goal

pub returns : goal.returns
returns c = record {
  table = λ d s rows b of well strict. table_is d s of well rows b strict;
  bits = λ d s rows b a t p of well strict table below driven. bits_same d s of well rows b strict a t p table below driven;
  tokens = λ d s rows b chan channel tokens of well strict here is. tokens_are d s of well rows b strict chan channel tokens here is;
  inputs = source_ports;
  outputs = shell_ports;
  there = output_there;
  back = output_back;
}
