-- Actors that have not fired.
use Rattle.std.proofs.Common.{◌≡◌, ℕ, ◌+◌, ◌-◌, ◌<◌, ◌≤◌, List, [], length, take, sym, ◌∙◌, ap, subst, arith}
use Rattle.lid_system.specs.declared.System.{System}
use Rattle.lid_stations.specs.Placements.{links_of}
use Rattle.lid_shell_laws.proofs.Ends.{drained_is}
use Rattle.lid_shell_nodes.specs.Wiring.{ShellView, SinkView}
use Rattle.lid_walk_machine.specs.Plans.{actors_of, sink, ins_of, outs_of, cap, drainer_of}
use Rattle.lid_walk_machine.specs.Setups.{plan}
use Rattle.lid_shell_laws.specs.Setups.{Setup, IsSetup}
use Rattle.lid_walk_machine.specs.Machine.{Progress, puts_from}
use Rattle.lid_shell.specs.declared.desk.Desk.{Desk}
use Rattle.lid_shell.specs.declared.part.Given.{Given}
use Rattle.lid_shell.specs.declared.part.Role.{Role}
use Rattle.lid_shell.specs.Parts.{IsRole, HasGivenRows}
use Rattle.lid_shell.specs.Actors.{IsDesk, IsActor}
use Rattle.lid_shell.specs.Inside.{ActorsGoByRules}
use Rattle.lid_shell.specs.Starts.{IsNewDesk, IsNewGiven}
use Rattle.lid_walk_machine.proofs.Counts.{early}
use Rattle.lid_shell.proofs.Streams.{cap_early, cap_late, sink_fills_none}
use Rattle.lid_shell.proofs.Passed.{none_of}

-- no actor has begun
abbrev pub rest : Progress
rest = record { fired = 0; position = 0 }

new_desk : (m : Setup) (v : ℕ) (d : Desk) → IsNewDesk (ins_of (plan m) v) (outs_of (plan m) v) (cap (plan m) v) d → IsDesk m v rest d
new_desk m v d is =
    record {
      drains = is.drains;
      fills = is.fills;
      capped = is.capped;
      fired_is = is.none;
      position_is = is.rests;
      taken_many = is.taken;
      tokens_many = is.tokens;
      kept = λ i station at past. absurd (omega arith);
      made = λ j station at past. absurd (omega arith);
    }

new_actor : (m : Setup) (v : ℕ) (ins outs : List ℕ) (most : ℕ) (d : Desk) (part : Role) → IsSetup m → v < actors_of (plan m) → ins ≡ ins_of (plan m) v → outs ≡ outs_of (plan m) v → most ≡ cap (plan m) v → IsNewDesk ins outs most d → IsRole m v 0 0 part → IsActor m v rest (record { desk = d; part = part })
new_actor m v ins outs most d part setup there same_ins same_outs same_cap desk is =
    record {
      rules = setup;
      there = there;
      far = record { capped = omega arith; below = λ h. absurd (omega arith); inside = λ h. absurd (omega arith) };
      at =
          new_desk m v d
          (subst (λ (c : ℕ). IsNewDesk (ins_of (plan m) v) (outs_of (plan m) v) c d) same_cap
          (subst (λ (xs : List ℕ). IsNewDesk (ins_of (plan m) v) xs most d) same_outs
          (subst (λ (xs : List ℕ). IsNewDesk xs outs most d) same_ins desk)));
      is = subst (λ (n : ℕ). IsRole m v 0 n part) (sym (early (puts_from (length (ins_of (plan m) v)) (length (outs_of (plan m) v))) 0 0 (omega arith))) is;
    }

-- the source drains nothing
source_drains_none : (r : ActorsGoByRules) (m : Setup) → IsSetup m → ins_of (plan m) 0 ≡ []
source_drains_none r m setup =
    none_of (ins_of (plan m) 0)
    (λ station at.
    let own = drained_is (links_of m.system) m.placement 0 0 station at in
    let is : drainer_of (plan m) station ≡ 0 = own.1 in
    let some : 0 < drainer_of (plan m) station = (r.between m.system m.placement station setup.system setup.fits own.0).not_source in
    omega arith)

-- the source
pub new_source : (r : ActorsGoByRules) (m : Setup) (s : System) (outs : List ℕ) (rows most : ℕ) (d : Desk) (part : Role) → IsSetup m → rows ≡ length m.input → outs_of (plan m) 0 ≡ outs → most ≡ rows - 1 → IsNewDesk [] outs most d → IsRole m 0 0 0 part
    → IsActor m 0 rest (record { desk = d; part = part })
new_source r m s outs rows most d part setup many same_outs same_cap desk is =
    let least : 2 ≤ length m.system.nodes = setup.system.least in
    let c : cap (plan m) 0 ≡ length m.input - 1 = cap_early m 0 (omega arith) in
    new_actor m 0 [] outs most d part setup (omega arith) (sym (source_drains_none r m setup)) (sym same_outs) (omega arith) desk is

-- a shell
pub new_shell : (m : Setup) (v : ℕ) (ins outs : List ℕ) (rows most : ℕ) (d : Desk) (node : ShellView) (part : Role) → IsSetup m → v + 1 < length m.system.nodes → length m.input ≡ rows → ins_of (plan m) v ≡ ins → outs_of (plan m) v ≡ outs → most ≡ rows - 1
    → IsNewDesk ins outs most d → IsRole m v 0 0 part → IsActor m v rest (record { desk = d; part = part })
new_shell m v ins outs rows most d node part setup before many same_ins same_outs same_cap desk is =
    let c : cap (plan m) v ≡ length m.input - 1 = cap_early m v before in
    new_actor m v ins outs most d part setup (omega arith) (sym same_ins) (sym same_outs) (omega arith) desk is

-- the sink
pub new_sink : (r : ActorsGoByRules) (m : Setup) (ins : List ℕ) (rows : ℕ) (d : Desk) (part : Role) → IsSetup m → length m.input ≡ rows → ins_of (plan m) (sink (plan m)) ≡ ins → IsNewDesk ins [] rows d → IsRole m (sink (plan m)) 0 0 part
    → IsActor m (sink (plan m)) rest (record { desk = d; part = part })
new_sink r m ins rows d part setup many same_ins desk is =
    let least : 2 ≤ length m.system.nodes = setup.system.least in
    let last : sink (plan m) + 1 ≡ length m.system.nodes = omega arith in
    let c : cap (plan m) (sink (plan m)) ≡ length m.input = cap_late m (sink (plan m)) (omega arith) in
    new_actor m (sink (plan m)) ins [] rows d part setup (omega arith) (sym same_ins) (sym (none_of (outs_of (plan m) (sink (plan m))) (λ station at. sink_fills_none r m (sink (plan m)) 0 station setup last at))) (omega arith) desk is

-- its rows
pub new_rows : (m : Setup) (node : SinkView) (width rows : ℕ) (g : Given) → length m.input ≡ rows → width ≡ length node.reads → IsNewGiven m.system width rows g → HasGivenRows m (sink (plan m)) 0 node g
new_rows m node width rows g many wide is =
    record {
      columns_are = is.columns_are;
      given_are = ap (λ (n : ℕ). take n g.rows.items) is.none;
      count_is = is.none;
      wide = λ k d within. is.wide k d within ∙ wide;
      many = is.many ∙ sym many;
    }
