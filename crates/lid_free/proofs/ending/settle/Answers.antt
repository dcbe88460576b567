use Rattle.std.proofs.Common.{◌≡◌, ◌+◌, ◌<◌, true, false, sym, ◌∙◌, subst, arith}
use Rattle.lid_walk_machine.specs.Setups.{plan}
use Rattle.lid_shell_laws.specs.Setups.{Setup}
use Rattle.lid_walk_machine.specs.Machine.{State, sweep, IsSettled, sweeps}
use Rattle.lid_walk_machine.specs.Laws.{AllRest}
use Rattle.lid_walk.specs.Walks.{Walks}
use Rattle.lid_free.specs.Sweeps.{HasMadeSweeps}
use Rattle.lid_free.proofs.Settling.{none_swept, swept_more, some, grown_by, few_firings, fewer_left}
use Rattle.lid_free.proofs.ending.settle.Goals as goal

pub loop-walk-init : goal.loop-walk-init
loop-walk-init c = λ m st walks rest. none_swept m st c.args.walk.now walks rest

not_settled : (c : goal.After-struct_known-1) (m : Setup) (st : State) → HasMadeSweeps m st c.loop-walk.sweeps c.loop-walk.walk → IsSettled (plan m) (sweeps (plan m) st c.loop-walk.sweeps.count) → ⊥
not_settled c m st so settled =
    let yes = (c.settled.ensures m (sweeps (plan m) st c.loop-walk.sweeps.count) so.walks).1 settled in
    let e : false ≡ true = sym c.loop-walk-test.true ∙ yes in absurd (cc)

more : (c : goal.After-struct_known-1) (m : Setup) (st : State) → Walks m st c.args.walk.now → AllRest (plan m) st → HasMadeSweeps m st (record { count = c.loop-walk.sweeps.count + 1; fired = c.loop-walk.sweeps.fired + c.sweep.result }) c.sweep.new.self
more c m st walks rest =
    let so = c.loop-walk.invariant m st walks rest in
    let mid = sweeps (plan m) st c.loop-walk.sweeps.count in
    swept_more m st c.loop-walk.sweeps c.loop-walk.walk c.sweep.new.self c.sweep.result so walks.rules (grown_by m st walks.rules c.args.walk.now walks rest c.loop-walk.sweeps.count) (not_settled c m st so)
    (c.sweep.ensures.walks m mid so.walks so.rest) (c.sweep.ensures.fired m mid so.walks so.rest) (c.sweep.ensures.idle m mid so.walks so.rest)

pub overflow_add-sweeps : goal.overflow_add-sweeps
overflow_add-sweeps c =
    let (m, st, walks, rest) = c.requires in
    let so = more c m st walks rest in
    let few = few_firings m st walks.rules c.args.walk.now walks rest (c.loop-walk.sweeps.count + 1) c.sweep.new.self so.walks in
    let is = so.fired_are in
    omega arith

pub loop-walk-smaller : goal.loop-walk-smaller
loop-walk-smaller c =
    let (m, st, walks, rest) = c.requires in
    let so = c.loop-walk.invariant m st walks rest in
    let mid = sweeps (plan m) st c.loop-walk.sweeps.count in
    fewer_left m st walks.rules c.args.walk.now walks rest c.loop-walk.sweeps c.loop-walk.walk c.sweep.new.self c.sweep.result so
    (c.sweep.ensures.walks m mid so.walks so.rest) (c.sweep.ensures.fired m mid so.walks so.rest)
    (some m st c.loop-walk.sweeps c.loop-walk.walk c.sweep.new.self c.sweep.result so walks.rules (grown_by m st walks.rules c.args.walk.now walks rest c.loop-walk.sweeps.count) (not_settled c.before m st so)
    (c.sweep.ensures.walks m mid so.walks so.rest) (c.sweep.ensures.fired m mid so.walks so.rest) (c.sweep.ensures.idle m mid so.walks so.rest))

pub loop-walk-preserved : goal.loop-walk-preserved
loop-walk-preserved c = more c.before
