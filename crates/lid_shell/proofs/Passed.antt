-- What the parts of actors make of the tokens of a firing.
use Rattle.std.proofs.Common.{◌≡◌, ℕ, ◌+◌, ◌-◌, ◌<◌, ◌≤◌, Bool, List, [], ◌∷◌, ◌++◌, length, take, get_or, map, set, refl, sym, ◌∙◌, ap, subst, arith}
use Rattle.std.specs.Prelude.{Some, slice_get}
use Rattle.std.specs.List.{All}
use Rattle.std.proofs.lemmas.List.{length-map, length-set, take_more_set, nil_from_length}
use Rattle.std.proofs.lemmas.List.Elements.{All-set}
use Rattle.lid_base.proofs.Lists.{all_at}
use Rattle.lid_system.specs.declared.Node.TheVariants as kind
use Rattle.lid_system.specs.Streams.{token_at, output_row}
use Rattle.lid_shell_nodes.specs.Nodes.{channels_to, channels_from, tokens_to, tokens_from}
use Rattle.lid_shell_nodes.specs.Wiring.{SourceView, ShellView, SinkView, IsSourceOf, IsShellOf}
use Rattle.lid_walk_machine.specs.Plans.{ins_of, outs_of, cap, start_of}
use Rattle.lid_walk_machine.specs.Setups.{output_rows, plan}
use Rattle.lid_shell_laws.specs.Setups.{Setup, IsSetup, IsInputRow}
use Rattle.lid_shell.specs.declared.part.Given.{Given}
use Rattle.lid_shell.specs.declared.part.Role.{Role}
use Rattle.lid_shell.specs.declared.part.Role.TheVariants.{Shell, Mover, Sink}
use Rattle.lid_shell.specs.Parts.{HasGivenRows}
use Rattle.lid_shell.specs.Inside.{ActorsGoByRules, IsPassing, HasPassed, CanReceive, Receives, tokens_made}
use Rattle.lid_shell.proofs.Streams.{cap_early, cap_late, cap_within, sink_fills_none, node_takes, node_makes, mover_makes}
use Rattle.lid_base.proofs.Each.{each_append}

-- a node drains a station for each channel that leads to it, and fills one for each that comes from it
pub ins_many : (r : ActorsGoByRules) (m : Setup) (v : ℕ) → IsSetup m → v < length m.system.nodes → length (ins_of (plan m) v) ≡ length (channels_to m.system.channels v)
ins_many r m v setup node =
    sym (length-map (ins_of (plan m) v) (λ (s : ℕ). (plan m).token s 0))
    ∙ ap length (r.drained m.system m.placement m.table v 0 setup.system setup.fits node)
    ∙ length-map (channels_to m.system.channels v) (λ c. token_at m.system m.table c 0)

pub outs_many : (r : ActorsGoByRules) (m : Setup) (v : ℕ) → IsSetup m → v < length m.system.nodes → length (outs_of (plan m) v) ≡ length (channels_from m.system.channels v)
outs_many r m v setup node =
    sym (length-map (outs_of (plan m) v) (λ (s : ℕ). (plan m).token s 0))
    ∙ ap length (r.filled m.system m.placement m.table v 0 setup.system setup.fits node)
    ∙ length-map (channels_from m.system.channels v) (λ c. token_at m.system m.table c 0)

-- as many tokens are taken as stations are drained
taken_many : (m : Setup) (v fired : ℕ) (taken : List ℕ) (outs : ℕ) (part : Role) → IsPassing m v fired taken outs part → length taken ≡ length (ins_of (plan m) v)
taken_many m v fired taken outs part p = ap length p.takes ∙ length-map (ins_of (plan m) v) (λ (s : ℕ). (plan m).token s fired)

-- the source
module _ (m : Setup) (v fired : ℕ) (taken : List ℕ) (outs : ℕ) (node : SourceView) (bits : List (List Bool)) (rules : IsSetup m) (below : fired < cap (plan m) v) (first : v ≡ 0) (source : IsSourceOf m.system node) (rows : bits ≡ m.input) where
  early : v + 1 < length m.system.nodes
  early = let least : 2 ≤ length m.system.nodes = rules.system.least in omega arith

  pub row_there : fired + 1 < length bits
  row_there = let e : cap (plan m) v ≡ length m.input - 1 = cap_early m v (early) in let same : length bits ≡ length m.input = ap length rows in omega arith

  pub row_wide : (row : List Bool) → slice_get bits (fired + 1) ≡ Some row → length row ≡ node.width
  row_wide row at =
      all_at (IsInputRow m.system) m.input (fired + 1) row rules.wide (ap (λ (xs : List (List Bool)). slice_get xs (fired + 1)) (sym rows) ∙ at) source.columns source.node
      ∙ sym source.wide

  pub source_many : (r : ActorsGoByRules) → outs ≡ length (outs_of (plan m) v) → outs ≡ length node.ports
  source_many r many =
      many ∙ outs_many r m v rules (let e : v + 1 < length m.system.nodes = early in omega arith)
      ∙ ap (λ (n : ℕ). length (channels_from m.system.channels n)) first
      ∙ sym (length-map (channels_from m.system.channels 0) (λ c. c.ports))
      ∙ ap length (sym source.from)

  pub source_makes : (r : ActorsGoByRules) (into : List ℕ) → into ≡ tokens_from m.system m.table 0 (fired + 1) → into ≡ tokens_made m v fired
  source_makes r into made =
      let e : v + 1 < length m.system.nodes = early in
      let c : cap (plan m) v ≡ length m.input - 1 = cap_early m v e in
      made ∙ ap (λ (n : ℕ). tokens_from m.system m.table n (fired + 1)) (sym first)
      ∙ sym (node_makes r m v fired rules (omega arith) (omega arith))

pub rows_within : (m : Setup) (v fired : ℕ) → fired < cap (plan m) v → fired < length m.input
rows_within m v fired below = let most : cap (plan m) v ≤ length m.input = cap_within m v in omega arith

-- a shell
pub shell_taken : (r : ActorsGoByRules) (m : Setup) (v fired : ℕ) (taken : List ℕ) (outs : ℕ) (node : ShellView) → IsPassing m v fired taken outs (Shell node) → length taken ≡ node.taken
shell_taken r m v fired taken outs node p =
    let early : v + 1 < length m.system.nodes = p.is.1 in
    taken_many m v fired taken outs (Shell node) p ∙ ins_many r m v p.rules (omega arith) ∙ sym p.is.2.many

pub shell_many : (r : ActorsGoByRules) (m : Setup) (v fired : ℕ) (taken : List ℕ) (outs : ℕ) (node : ShellView) → IsPassing m v fired taken outs (Shell node) → outs ≡ length node.ports
shell_many r m v fired taken outs node p =
    let early : v + 1 < length m.system.nodes = p.is.1 in
    p.puts ∙ outs_many r m v p.rules (omega arith)
    ∙ sym (length-map (channels_from m.system.channels v) (λ c. c.ports))
    ∙ ap length (sym p.is.2.from)

pub shell_passed : (r : ActorsGoByRules) (m : Setup) (v fired : ℕ) (taken into : List ℕ) (outs : ℕ) (node now : ShellView) → IsPassing m v fired taken outs (Shell node)
    → (taken ≡ tokens_to m.system m.table v fired → IsShellOf m.system m.table v (fired + 1) now)
    → (fired + 1 < length m.input → taken ≡ tokens_to m.system m.table v fired → into ≡ tokens_from m.system m.table v (fired + 1))
    → HasPassed m v fired into (Shell now)
shell_passed r m v fired taken into outs node now p goes gives =
    let early : v + 1 < length m.system.nodes = p.is.1 in
    let below : fired < cap (plan m) v = p.below in
    let c : cap (plan m) v ≡ length m.input - 1 = cap_early m v early in
    let takes : taken ≡ tokens_to m.system m.table v fired = p.takes ∙ node_takes r m v fired p.rules (omega arith) in
    record {
      makes = gives (omega arith) takes ∙ sym (node_makes r m v fired p.rules (omega arith) (omega arith));
      is = (p.is.0, p.is.1, goes takes);
    }

-- a mover
pub mover_one : (r : ActorsGoByRules) (m : Setup) (v fired : ℕ) (taken : List ℕ) (outs : ℕ) → IsPassing m v fired taken outs Mover → (length taken ≡ 1) × (outs ≡ 1)
mover_one r m v fired taken outs p =
    let moves = r.moves m.system m.placement v p.rules.system p.rules.fits p.is p.there in
    (taken_many m v fired taken outs Mover p ∙ ap length moves.1.drained, p.puts ∙ ap length moves.1.filled)

pub mover_sets : (taken into : List ℕ) → length taken ≡ 1 → length into ≡ 1 → set into 0 (get_or taken 0 0) ≡ taken
mover_sets [] into one long = absurd (omega arith)
mover_sets (x ∷ []) [] one long = absurd (omega arith)
mover_sets (x ∷ []) (y ∷ []) one long = refl
mover_sets (x ∷ []) (y ∷ z ∷ into) one long = absurd (omega arith)
mover_sets (x ∷ z ∷ xs) into one long = absurd (omega arith)

pub mover_passed : (r : ActorsGoByRules) (m : Setup) (v fired : ℕ) (taken into : List ℕ) (outs : ℕ) → IsPassing m v fired taken outs Mover → into ≡ taken → HasPassed m v fired into Mover
mover_passed r m v fired taken into outs p same =
    record { makes = same ∙ p.takes ∙ sym (mover_makes r m v fired p.rules p.is p.there); is = p.is }

-- the sink
pub sink_can : (r : ActorsGoByRules) (m : Setup) (v fired : ℕ) (taken : List ℕ) (outs : ℕ) (node : SinkView) (rows : Given) → IsPassing m v fired taken outs (Sink node rows) → CanReceive rows node (length taken)
sink_can r m v fired taken outs node rows p =
    let last : v + 1 ≡ length m.system.nodes = p.is.0.last in
    let c : cap (plan m) v ≡ length m.input = cap_late m v (omega arith) in
    let below : fired < cap (plan m) v = p.below in
    let many : length rows.rows.items ≡ length m.input = p.is.1.many in
    let count : rows.count ≡ fired = p.is.1.count_is in
    record {
      takes = taken_many m v fired taken outs (Sink node rows) p ∙ ins_many r m v p.rules (omega arith) ∙ sym p.is.0.many;
      wide = p.is.1.wide;
      room = omega arith;
    }

-- a list that has no first element is empty
pub none_of : (xs : List ℕ) → ((x : ℕ) → slice_get xs 0 ≡ Some x → ⊥) → xs ≡ []
none_of [] none = refl
none_of (x ∷ xs) none = absurd (none x refl)

pub sink_passed : (r : ActorsGoByRules) (m : Setup) (v fired : ℕ) (taken into : List ℕ) (outs : ℕ) (node : SinkView) (rows new : Given) → IsPassing m v fired taken outs (Sink node rows) → Receives rows node taken new
    → length into ≡ outs → HasPassed m v fired into (Sink node new)
sink_passed r m v fired taken into outs node rows new p received long =
    let last : v + 1 ≡ length m.system.nodes = p.is.0.last in
    let c : cap (plan m) v ≡ length m.input = cap_late m v (omega arith) in
    let below : fired < cap (plan m) v = p.below in
    let many : length rows.rows.items ≡ length m.input = p.is.1.many in
    let count : rows.count ≡ fired = p.is.1.count_is in
    let puts : outs ≡ length (outs_of (plan m) v) = p.puts in
    let row : received.row ≡ output_row m.system m.table fired =
    received.makes m.system m.input m.table v fired p.rules.system p.rules.table (omega arith) p.is.0 (p.takes ∙ node_takes r m v fired p.rules (omega arith)) in
    let zero_from : 0 + fired ≡ fired = omega arith in
    let given : HasGivenRows m v (fired + 1) node new =
    record {
      columns_are = (p.is.1.columns_are.0, subst (λ (c : List (List ℕ)). slice_get m.system.nodes v ≡ Some (kind.Sink c p.is.1.columns_are.0)) (sym received.columns) p.is.1.columns_are.1);
      given_are =
          ap (λ (n : ℕ). take n new.rows.items) received.count
          ∙ ap (take (rows.count + 1)) received.rows
          ∙ take_more_set rows.rows.items rows.count received.row (omega arith)
          ∙ ap (λ (xs : List (List Bool)). xs ++ received.row ∷ []) p.is.1.given_are
          ∙ ap (λ (x : List Bool). output_rows m fired ++ x ∷ []) (row ∙ ap (output_row m.system m.table) (sym zero_from))
          ∙ sym (each_append (output_row m.system m.table) 0 fired 1);
      count_is = received.count ∙ ap (λ (n : ℕ). n + 1) count;
      wide = subst (All (λ row. length row ≡ length node.reads)) (sym received.rows) (All-set (λ row. length row ≡ length node.reads) rows.rows.items rows.count received.row received.wide p.is.1.wide);
      many = ap length received.rows ∙ length-set rows.rows.items rows.count received.row ∙ many;
    } in
    let none : outs_of (plan m) v ≡ [] = none_of (outs_of (plan m) v) (λ s at. sink_fills_none r m v 0 s p.rules last at) in
    let nothing : length (outs_of (plan m) v) ≡ 0 = ap length none in
    record {
      makes = nil_from_length into (omega arith) ∙ sym (ap (map (λ (s : ℕ). (plan m).token s (start_of (plan m) s + fired))) none);
      is = (p.is.0, given);
    }
