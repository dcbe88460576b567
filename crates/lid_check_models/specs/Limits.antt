-- How limits are tried: what is counted over all instances.
use Rattle.std.specs.Prelude.{ℕ, Option}
use Rattle.lid_base.specs.declared.which.Which.{Which}
use Rattle.lid_base.specs.declared.which.Which.TheVariants as which
use Rattle.lid_design.specs.declared.Design.{Design}
use Rattle.lid_check_rules.specs.declared.fault.CheckFault.{CheckFault}
use Rattle.lid_check_models.specs.declared.counts.Measure.{Measure}
use Rattle.lid_check_models.specs.declared.counts.Measure.TheVariants as count
use Rattle.lid_check_rules.specs.Conditions.{over, or_fault}
use Rattle.lid_check_models.specs.Counts.{count_at_root}

-- what is counted over all instances, where it is more than the greatest
unfoldable pub total_limit : ℕ → Which → Measure → Design → Option CheckFault
total_limit greatest which what d = over greatest which (count_at_root what d)

-- cells, then columns
unfoldable pub wide_limits : Design → Option CheckFault
wide_limits d = or_fault (total_limit 262144 which.Cells count.Cells d) (total_limit 1048576 which.Nets count.Nets d)

-- depth before them
unfoldable pub deep_limits : Design → Option CheckFault
deep_limits d = or_fault (total_limit 64 which.Depth count.Depth d) (wide_limits d)
