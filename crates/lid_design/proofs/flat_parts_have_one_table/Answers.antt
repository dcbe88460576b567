use Rattle.std.proofs.Common.{◌+◌, length}
use Rattle.lid_design.specs.Flat.{flat_drivers}
use Rattle.lid_design.proofs.Tables.{has_table, has_one_table}
use Rattle.lid_design.proofs.Parts.{flat_walks_end, flat_reads_driven, flat_meets}
use Rattle.lid_design.proofs.flat_parts_have_one_table.Goals as goal

pub returns : goal.returns
returns c = record {
  some = λ f flat. has_table (flat_drivers f) (length f.covers + 1) (flat_walks_end f flat) flat.once;
  one = λ f flat. has_one_table (flat_drivers f) (length f.covers + 1) (flat_walks_end f flat) (flat_reads_driven f flat);
  meets = flat_meets;
}
