use Rattle.lid_system.specs.Tables.{system_drivers}
use Rattle.lid_system.proofs.Giving.{table_of_first, stream_of_first, output_of_first}
use Rattle.lid_system.proofs.laws.first_rows_have_the_first_tokens.Goals as goal

pub returns-clause-table : goal.returns-clause-table
returns-clause-table c s rows more b table = table_of_first (system_drivers s) rows more b table

pub returns-clause-stream : goal.returns-clause-stream
returns-clause-stream c s rows more chan tokens well below is = stream_of_first s well rows more chan tokens below is

pub returns-clause-output : goal.returns-clause-output
returns-clause-output c s rows more outs well is = output_of_first s well rows more outs is
