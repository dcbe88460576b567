use Rattle.lid_shell_laws.proofs.Caps.{caps_fit}
use Rattle.lid_shell_laws.proofs.Ending.{ends, ends_within_lag}
use Rattle.lid_shell_laws.proofs.laws.runs_end.Goals as goal

pub returns : goal.returns
returns c = record {
  caps = λ s p rows well fits. caps_fit s p well fits rows;
  most = λ s p rows k well fits late. ends s p well fits rows k late;
  lag = λ s p rows cycles well fits first. ends_within_lag s p well fits rows cycles first;
}
