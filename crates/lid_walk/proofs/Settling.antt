-- Sweeps settle walks.
use Rattle.std.proofs.Common.{◌≡◌, ℕ, ◌*◌, ◌<◌, ◌≤◌, length, sym, subst, arith}
use Rattle.std.proofs.Math.Nat.{mul-le-mul_left}
use Rattle.lid_graph.specs.Firings.{no_hold}
use Rattle.lid_graph_laws.proofs.Alive.{tokens_reach_caps}
use Rattle.lid_stations.specs.Markings.{marking}
use Rattle.lid_stations.proofs.Edges.{node_count}
use Rattle.lid_stations.proofs.Alive.{rateable, have_tokens}
use Rattle.lid_shell_laws.specs.Runs.{fired_in}
use Rattle.lid_shell_laws.proofs.Caps.{cap_about, caps_fit}
use Rattle.lid_walk_machine.specs.Plans.{actors_of, cap}
use Rattle.lid_walk_machine.specs.Setups.{plan}
use Rattle.lid_shell_laws.specs.Setups.{Setup, IsSetup}

pub caps_reached : (m : Setup) (k v : ℕ) → IsSetup m → actors_of (plan m) * length m.input ≤ k → v < actors_of (plan m)
    → fired_in (plan m).links (plan m).placement (plan m).rows no_hold k v ≡ cap (plan m) v
caps_reached m k v rules late there =
    let nodes = node_count m.system m.placement in
    let fewer : actors_of (plan m) * cap (plan m) v ≤ actors_of (plan m) * length m.input = mul-le-mul_left (actors_of (plan m)) (cap_about m.system (length m.input) v).0 in
    let enough : (marking (plan m).links m.placement).nodes * cap (plan m) v ≤ k = subst (λ (n : ℕ). n * cap (plan m) v ≤ k) (sym nodes) (omega (arith, fewer, late)) in
    tokens_reach_caps (marking (plan m).links m.placement) (cap (plan m)) k v
    (rateable m.system m.placement rules.system rules.fits).paired
    (caps_fit m.system m.placement rules.system rules.fits (length m.input))
    (have_tokens m.system m.placement rules.system rules.fits)
    (omega (arith, there, nodes))
    enough
