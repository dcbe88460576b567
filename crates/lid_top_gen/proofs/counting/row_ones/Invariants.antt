use Rattle.std.proofs.Common.{◌≡◌, ◌≤◌, if◌then◌else◌, take}
use Rattle.std.specs.List.{sum_by}
use Rattle.lid_top_gen.proofs.counting.row_ones.Given as goal

abbrev pub invariant-loop-bit : goal.invariant-loop-bit
invariant-loop-bit l = record {
  is : l.ones ≡ sum_by (λ bit. if bit then 1 else 0) (take l.bit-index l.fn.row);
  most : l.ones ≤ l.bit-index;
}
