use Rattle.lid_walk_machine.proofs.Sweeps.{keeps_up, many, settles, idle_settled}
use Rattle.lid_walk_machine.proofs.laws.sweeps_keep_up.Goals as goal

pub returns : goal.returns
returns c = record {
  one = λ x st k rules sound rest up. keeps_up x rules st sound rest k up;
  many = λ x st k rules sound rest. many x rules st k sound rest;
  settle = λ x st k rules sound rest at. settles x rules st k sound rest at;
  idle = λ x st rules sound rest none. idle_settled x rules st sound rest none;
}
