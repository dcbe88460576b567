use Rattle.lid_check_drivers.proofs.Told.{told_by_model}
use Rattle.lid_check_drivers.proofs.laws.accepted_models_drive_each_net_once.Goals as goal

pub returns : goal.returns
returns c d judged = told_by_model d judged
