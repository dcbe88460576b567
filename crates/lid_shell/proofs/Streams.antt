-- The tokens of streams, and which of them the firings of an actor take and put.
use Rattle.std.proofs.Common.{◌≡◌, ℕ, zero, suc, ◌+◌, ◌-◌, ◌^◌, ◌<◌, ◌≤◌, inl, inr, Bool, cond, List, [], ◌∷◌, length, map, refl, sym, ◌∙◌, ap, arith, lt-ltb, le-ltb}
use Rattle.std.specs.Prelude.{Some, slice_get, slice_index_or}
use Rattle.std.specs.List.{AllByRecursion}
use Rattle.std.proofs.lemmas.Bool.{cases_lt, cases_eq}
use Rattle.std.proofs.lemmas.Option.{same_Some, slice_get_within}
use Rattle.lid_system.specs.declared.System.{System}
use Rattle.lid_system.specs.declared.Channel.{Channel}
use Rattle.lid_system.specs.Systems.{IsChannel}
use Rattle.lid_system.proofs.Streaming.{small_token}
use Rattle.lid_shell_laws.proofs.Ends.{filled_is}
use Rattle.lid_shell_nodes.specs.Nodes.{tokens_to, tokens_from}
use Rattle.lid_stations.specs.Placements.{links_of}
use Rattle.lid_stations.specs.Stations.{no_channel, channel_at, spot_at, start_count}
use Rattle.lid_stations.proofs.Spots.{cap_range}
use Rattle.lid_walk_machine.specs.Plans.{actors_of, stations_of, outs_of, cap, start_of, room_of, stream, filler_of}
use Rattle.lid_walk_machine.specs.Setups.{plan}
use Rattle.lid_shell_laws.specs.Setups.{Setup, IsSetup}
use Rattle.lid_shell.specs.Inside.{ActorsGoByRules, tokens_taken, tokens_made}
use Rattle.lid_base.proofs.Each.{each_length, each_get}

-- a token of a stream
pub stream_token : (m : Setup) (station i x : ℕ) → slice_get (stream (plan m) station) i ≡ Some x → x ≡ (plan m).token station i
stream_token m station i x at =
    let within : i < length (stream (plan m) station) = slice_get_within (stream (plan m) station) i x at in
    let long : length (stream (plan m) station) ≡ length m.input = each_length ((plan m).token station) 0 (length m.input) in
    let is : slice_get (stream (plan m) station) i ≡ Some ((plan m).token station (0 + i)) = each_get ((plan m).token station) 0 (length m.input) i (omega arith) in
    let same : 0 + i ≡ i = omega arith in
    same_Some x ((plan m).token station (0 + i)) (sym at ∙ is) ∙ ap ((plan m).token station) same

pub stream_at : (m : Setup) (station i : ℕ) → i < length m.input → slice_get (stream (plan m) station) i ≡ Some ((plan m).token station i)
stream_at m station i within =
    let same : 0 + i ≡ i = omega arith in
    each_get ((plan m).token station) 0 (length m.input) i within ∙ ap (λ (n : ℕ). Some ((plan m).token station n)) same

few_ports : (s : System) (cs : List Channel) (c : ℕ) → AllByRecursion (IsChannel s) cs → length (slice_index_or cs c no_channel).ports ≤ 31
few_ports s [] c all = omega arith
few_ports s (x ∷ cs) zero all = all.0.few
few_ports s (x ∷ cs) (suc c) all = few_ports s cs c all.1

-- a token has 31 bits
pub token_small : (m : Setup) (station i : ℕ) → IsSetup m → (plan m).token station i < 2 ^ 31
token_small m station i setup =
    let c : ℕ = (spot_at m.placement.relays station).channel in
    small_token m.system m.table i (channel_at (links_of m.system) c) (few_ports m.system m.system.channels c setup.system.each_channel)

-- a station holds two tokens or more
pub room_some : (m : Setup) (station : ℕ) → IsSetup m → station < stations_of (plan m) → 2 ≤ room_of (plan m) station
room_some m station setup there = (cap_range m.system m.placement setup.system setup.fits station there).0

-- the cap of the source and of shells, and that of the sink and of movers
pub cap_early : (m : Setup) (v : ℕ) → v + 1 < length m.system.nodes → cap (plan m) v ≡ length m.input - 1
cap_early m v h = ap (λ (b : Bool). cond b (length m.input - 1) (length m.input)) (lt-ltb (v + 1) (length m.system.nodes) h)

pub cap_late : (m : Setup) (v : ℕ) → length m.system.nodes ≤ v + 1 → cap (plan m) v ≡ length m.input
cap_late m v h = ap (λ (b : Bool). cond b (length m.input - 1) (length m.input)) (le-ltb (v + 1) (length m.system.nodes) h)

pub cap_within : (m : Setup) (v : ℕ) → cap (plan m) v ≤ length m.input
cap_within m v =
    elim (cases_lt (v + 1) (length m.system.nodes)) [
      | inl h ↦ (let e : cap (plan m) v ≡ length m.input - 1 = cap_early m v h in omega arith)
      | inr h ↦ (let e : cap (plan m) v ≡ length m.input = cap_late m v h in omega arith)
    ]

-- the sink fills no station
pub sink_fills_none : (r : ActorsGoByRules) (m : Setup) (v j station : ℕ) → IsSetup m → v + 1 ≡ length m.system.nodes → slice_get (outs_of (plan m) v) j ≡ Some station → ⊥
sink_fills_none r m v j station setup last at =
    let own = filled_is (links_of m.system) m.placement v j station at in
    let between = r.between m.system m.placement station setup.system setup.fits own.0 in
    between.not_sink (ap (λ (n : ℕ). n + 1) own.1 ∙ last)

-- a station that a node fills starts with a token where there is a row, and one that a mover fills with none
pub starts_node : (r : ActorsGoByRules) (m : Setup) (v j station : ℕ) → IsSetup m → v < length m.system.nodes → 0 < length m.input → slice_get (outs_of (plan m) v) j ≡ Some station → start_of (plan m) station ≡ 1
starts_node r m v j station setup node some at =
    let own = filled_is (links_of m.system) m.placement v j station at in
    let is : filler_of (plan m) station ≡ v = own.1 in
    elim (r.starts m.system m.placement station setup.system setup.fits own.0) [
      | inl h ↦ (let one : start_count m.placement station ≡ 1 = h.1 in omega arith)
      | inr h ↦ (let past : length m.system.nodes ≤ filler_of (plan m) station = h.0 in absurd (omega arith))
    ]

pub starts_mover : (r : ActorsGoByRules) (m : Setup) (v j station : ℕ) → IsSetup m → length m.system.nodes ≤ v → slice_get (outs_of (plan m) v) j ≡ Some station → start_of (plan m) station ≡ 0
starts_mover r m v j station setup mover at =
    let own = filled_is (links_of m.system) m.placement v j station at in
    let is : filler_of (plan m) station ≡ v = own.1 in
    elim (r.starts m.system m.placement station setup.system setup.fits own.0) [
      | inl h ↦ (let before : filler_of (plan m) station < length m.system.nodes = h.0 in absurd (omega arith))
      | inr h ↦ (let none : start_count m.placement station ≡ 0 = h.1 in omega arith)
    ]

-- the token that a firing puts is one of the stream
pub put_within : (r : ActorsGoByRules) (m : Setup) (v j station fired : ℕ) → IsSetup m → fired < cap (plan m) v → slice_get (outs_of (plan m) v) j ≡ Some station → start_of (plan m) station + fired < length m.input
put_within r m v j station fired setup below at =
    let most : cap (plan m) v ≤ length m.input = cap_within m v in
    elim (cases_lt v (length m.system.nodes)) [
      | inl node ↦
          (let one : start_of (plan m) station ≡ 1 = starts_node r m v j station setup node (omega arith) at in
          elim (cases_eq (v + 1) (length m.system.nodes)) [
            | inl last ↦ absurd (sink_fills_none r m v j station setup last at)
            | inr other ↦ (let e : cap (plan m) v ≡ length m.input - 1 = cap_early m v (omega (arith, other)) in omega arith)
          ])
      | inr mover ↦ (let none : start_of (plan m) station ≡ 0 = starts_mover r m v j station setup mover at in omega arith)
    ]

maps_alike : (f g : ℕ → ℕ) (xs : List ℕ) → ((i x : ℕ) → slice_get xs i ≡ Some x → f x ≡ g x) → map f xs ≡ map g xs
maps_alike f g [] same = refl
maps_alike f g (x ∷ xs) same =
    let head : f x ≡ g x = same 0 x refl in
    let tail : map f xs ≡ map g xs = maps_alike f g xs (λ i y at. same (suc i) y at) in
    cc

-- a node takes the tokens of the channels that lead to it
pub node_takes : (r : ActorsGoByRules) (m : Setup) (v i : ℕ) → IsSetup m → v < length m.system.nodes → tokens_taken m v i ≡ tokens_to m.system m.table v i
node_takes r m v i setup node = r.drained m.system m.placement m.table v i setup.system setup.fits node

-- it makes those of the next row on the channels that come from it
pub node_makes : (r : ActorsGoByRules) (m : Setup) (v fired : ℕ) → IsSetup m → v < length m.system.nodes → 0 < length m.input → tokens_made m v fired ≡ tokens_from m.system m.table v (fired + 1)
node_makes r m v fired setup node some =
    maps_alike (λ s. (plan m).token s (start_of (plan m) s + fired)) (λ s. (plan m).token s (fired + 1)) (outs_of (plan m) v)
    (λ j station at.
    let one : start_of (plan m) station ≡ 1 = starts_node r m v j station setup node some at in
    let next : start_of (plan m) station + fired ≡ fired + 1 = omega arith in
    ap ((plan m).token station) next)
    ∙ r.filled m.system m.placement m.table v (fired + 1) setup.system setup.fits node

-- a mover makes what it takes
pub mover_makes : (r : ActorsGoByRules) (m : Setup) (v fired : ℕ) → IsSetup m → length m.system.nodes ≤ v → v < actors_of (plan m) → tokens_made m v fired ≡ tokens_taken m v fired
mover_makes r m v fired setup mover there =
    let moves = r.moves m.system m.placement v setup.system setup.fits mover there in
    let station : ℕ = moves.0 in
    maps_alike (λ s. (plan m).token s (start_of (plan m) s + fired)) (λ s. (plan m).token s fired) (outs_of (plan m) v)
    (λ j s at.
    let none : start_of (plan m) s ≡ 0 = starts_mover r m v j s setup mover at in
    let same : start_of (plan m) s + fired ≡ fired = omega arith in
    ap ((plan m).token s) same)
    ∙ ap (map (λ (s : ℕ). (plan m).token s fired)) moves.1.filled
    ∙ ap (λ (t : ℕ). t ∷ []) (moves.1.tokens m.table fired)
    ∙ sym (ap (map (λ (s : ℕ). (plan m).token s fired)) moves.1.drained)
