use Rattle.std.proofs.Common.{◌<◌, length, arith}
use Rattle.lid_system.proofs.Points.{shell_is}
use Rattle.lid_system.proofs.Shelling.{shell_table, shell_shows, shell_goes, shell_gives}
use Rattle.lid_system.proofs.laws.shells_follow_tables.Goals as goal

pub returns-clause-table : goal.returns-clause-table
returns-clause-table c s rows b i pearl ins well here table = shell_table s rows b i pearl ins here table

pub returns-clause-begins : goal.returns-clause-begins
returns-clause-begins c s b i pearl ins well here = (shell_is s well i pearl ins here).begins

pub returns-clause-shows : goal.returns-clause-shows
returns-clause-shows c s rows b i t pearl p ins outs well here table below flat state shows =
    shell_shows s rows b i pearl ins here table t p flat state outs below shows

pub returns-clause-goes : goal.returns-clause-goes
returns-clause-goes c s rows b i t pearl p q ins outs well here table below flat state steps =
    shell_goes s rows b i pearl ins here table t p flat state well q outs below steps

pub returns-clause-gives : goal.returns-clause-gives
returns-clause-gives c s rows b i t pearl p q ins outs well here table next flat state steps =
    let below : t < length rows = omega arith in
    shell_gives s rows b i pearl ins here table t p flat state well q outs below steps next
