use Rattle.std.proofs.Common.{◌<◌, ◌^◌, length, slice_get, sym, ap, ◌∙◌}
use Rattle.lid_base.proofs.Lists.{all_at}
use Rattle.lid_design.specs.declared.Design.{Design}
use Rattle.lid_design.specs.declared.Model.{Model}
use Rattle.lid_check_ports.proofs.nets.collect_nets.Goals as goal

pub collect_drivers-requires-clause-model : goal.collect_drivers-requires-clause-model
collect_drivers-requires-clause-model c = ap (λ (d : Design). slice_get d.models c.args.k) (sym c.survey-survey.ensures) ∙ c.table_of-table.ensures

pub collect_drivers-requires-clause-few : goal.collect_drivers-requires-clause-few
collect_drivers-requires-clause-few c = all_at (λ (m : Model). length m.insts < 2 ^ 32) c.survey-survey.result.now.models c.args.k c.table_of-table.result.now c.design.ensures.formed.insts c.table_of-table.ensures

pub returns : goal.returns
returns c = record {
  here = ap (λ (d : Design). slice_get d.models c.args.k) (sym c.survey-survey.ensures) ∙ c.table_of-table.ensures;
  driven = c.in_ok-drivers.ensures.all;
  again = c.in_ok-drivers.ensures.twice;
  within = c.in_ok-drivers.ensures.inner;
  read = c.in_ok-reads.ensures;
}
