-- Points of a system: what drives them, which of them ports are, and what inputs read.
use Rattle.std.proofs.Common.{◌≡◌, ◌⊎◌, ℕ, zero, suc, ◌+◌, ◌<◌, ◌≤◌, ◌==◌, Bool, true, false, nat_lt, lt-ltb, ltb-true, ◌-◌, cond, List, [], ◌∷◌, ◌++◌, length, get_or, map, Some, None, slice_get, inl, inr, refl, sym, ◌∙◌, ap, subst, Option, arith}
use Rattle.std.specs.Bool.{⊤}
use Rattle.std.specs.List.{AllByRecursion, flat_map}
use Rattle.std.specs.Option.{option_map_or}
use Rattle.std.proofs.lemmas.List.{length-map, get_or-map}
use Rattle.std.proofs.lemmas.Option.{slice_get-get_or}
use Rattle.std.proofs.lemmas.Bool.{eqb-true}
use Rattle.lid_base.specs.Lists.{Among}
use Rattle.lid_base.proofs.Lists.{among_append, flat_among, among_map, map_among, among_at, all_among, all_at, if_among}
use Rattle.lid_design.specs.declared.Flat.{Flat}
use Rattle.lid_design.specs.declared.FlatLatch.{FlatLatch}
use Rattle.lid_design.specs.declared.FlatCover.{FlatCover}
use Rattle.lid_design.specs.Network.{Driver, from_input, from_latch, from_cover, from_connection}
use Rattle.lid_design.specs.Walks.{read_before, IsDriven, IsDrivenOnce}
use Rattle.lid_design.specs.Feeds.{read_now}
use Rattle.lid_design.specs.Flat.{inputs_at, latch_at, cover_at, flat_drivers}
use Rattle.lid_pearl.specs.Pearls.{View}
use Rattle.lid_system.specs.declared.System.{System}
use Rattle.lid_system.specs.declared.Node.{Node}
use Rattle.lid_system.specs.declared.Node.TheVariants.{Source, Shell, Sink}
use Rattle.lid_system.specs.declared.InBit.{InBit}
use Rattle.lid_system.specs.declared.InBit.TheVariants.{Const, Port}
use Rattle.lid_system.specs.declared.Channel.{Channel}
use Rattle.lid_system.specs.Systems.{Point, source_port, shell_net, ports_of, ports_at, IsRead, IsShell, IsNode, IsChannel, IsWellFormed}
use Rattle.lid_system.specs.Tables.{carried, carried_at, driver_of, in_shell, source_width, net_drivers, system_drivers}
use Rattle.lid_base.proofs.Each.{among_each}

-- a driver that is no input of the rows
abbrev IsNoInput : {C : Type 0} → Driver C → Type 0
IsNoInput (from_input j) = ⊥
IsNoInput (from_latch first input) = ⊤
IsNoInput (from_cover cover inputs) = ⊤
IsNoInput (from_connection c) = ⊤

-- the places of the inputs of a flat part
at_place : (k j : ℕ) (nets : List ℕ) (s : Driver ℕ) → Among s (inputs_at k j nets) → Among k nets
at_place k j [] s among = absurd among
at_place k j (net ∷ nets) s among = by (net == k) refl (among_append s (cond (net == k) (from_input j ∷ []) []) (inputs_at k (j + 1) nets) among) (at_place k (j + 1) nets s)
  where
    by : (b : Bool) → (net == k) ≡ b → Among s (cond b (from_input j ∷ []) []) ⊎ Among s (inputs_at k (j + 1) nets) → (Among s (inputs_at k (j + 1) nets) → Among k nets) → Among k (net ∷ nets)
    by true e (inl here) next = inl (sym (eqb-true net k e))
    by false e (inl none) next = absurd none
    by b e (inr later) next = inr (next later)

-- an input of a flat part drives inputs alone
pub input_among : (f : Flat) (k j : ℕ) → Among {A = Driver ℕ} (from_input j) (flat_drivers f k) → Among k f.ins
unfolding flat_drivers
input_among f k j among = by (among_append s (inputs_at k 0 f.ins) (flat_map (latch_at k) f.latches ++ flat_map (cover_at k) f.covers) among)
  where
    s : Driver ℕ
    s = from_input j

    of_latch : Among s (flat_map (latch_at k) f.latches) → Among k f.ins
    of_latch here =
        let found = flat_among {A = FlatLatch} {B = Driver ℕ} (latch_at k) s f.latches here in
        let e : from_input j ≡ from_latch found.0.init found.0.input = (if_among (found.0.out == k) s (from_latch found.0.init found.0.input) found.2).1 in
        absurd (subst IsNoInput (sym e) tt)

    of_cover : Among s (flat_map (cover_at k) f.covers) → Among k f.ins
    of_cover here =
        let found = flat_among {A = FlatCover} {B = Driver ℕ} (cover_at k) s f.covers here in
        let e : from_input j ≡ from_cover found.0.cover found.0.ins = (if_among (found.0.out == k) s (from_cover found.0.cover found.0.ins) found.2).1 in
        absurd (subst IsNoInput (sym e) tt)

    by_cell : Among s (flat_map (latch_at k) f.latches) ⊎ Among s (flat_map (cover_at k) f.covers) → Among k f.ins
    by_cell (inl here) = of_latch here
    by_cell (inr here) = of_cover here

    by : Among s (inputs_at k 0 f.ins) ⊎ Among s (flat_map (latch_at k) f.latches ++ flat_map (cover_at k) f.covers) → Among k f.ins
    by (inl here) = at_place k 0 f.ins s here
    by (inr later) = by_cell (among_append s (flat_map (latch_at k) f.latches) (flat_map (cover_at k) f.covers) later)

some_driver : (rs : List (Driver Point)) (r : Driver Point) → Among r rs → 0 < length rs
some_driver [] r among = absurd among
some_driver (q ∷ rs) r among = omega arith

module _ (s : System) where
  -- what drives a net of a shell
  pub shell_drivers : (i k : ℕ) (pearl : View) (ins : List InBit) → slice_get s.nodes i ≡ Some (Shell pearl ins) → system_drivers s (shell_net i k) ≡ map (in_shell s i ins) (flat_drivers pearl.flat k)
  unfolding system_drivers
  shell_drivers i k pearl ins here = ap (λ o. option_map_or (net_drivers s i k) o []) here

  pub drives_shell : (i k : ℕ) (pearl : View) (ins : List InBit) → slice_get s.nodes i ≡ Some (Shell pearl ins) → (r : Driver Point) → Among r (system_drivers s (shell_net i k)) → (d : Driver ℕ) × Among d (flat_drivers pearl.flat k) × (r ≡ in_shell s i ins d)
  drives_shell i k pearl ins here r among =
      map_among {A = Driver ℕ} {B = Driver Point} (in_shell s i ins) r (flat_drivers pearl.flat k) (subst (λ (rs : List (Driver Point)). Among r rs) (shell_drivers i k pearl ins here) among)

  pub shell_drives : (i k : ℕ) (pearl : View) (ins : List InBit) → slice_get s.nodes i ≡ Some (Shell pearl ins) → (d : Driver ℕ) → Among d (flat_drivers pearl.flat k) → Among (in_shell s i ins d) (system_drivers s (shell_net i k))
  shell_drives i k pearl ins here d among =
      subst (λ (rs : List (Driver Point)). Among (in_shell s i ins d) rs) (sym (shell_drivers i k pearl ins here)) (among_map {A = Driver ℕ} {B = Driver Point} (in_shell s i ins) d (flat_drivers pearl.flat k) among)

  pub shell_driven : (i k : ℕ) (pearl : View) (ins : List InBit) → slice_get s.nodes i ≡ Some (Shell pearl ins) → IsDriven (flat_drivers pearl.flat) k → IsDriven (system_drivers s) (shell_net i k)
  shell_driven i k pearl ins here driven =
      subst (λ (n : ℕ). 0 < n) (sym (ap length (shell_drivers i k pearl ins here) ∙ length-map (flat_drivers pearl.flat k) (in_shell s i ins))) driven

  -- nothing drives the nets of another node
  pub other_drivers : (i k : ℕ) → slice_get s.nodes i ≡ None → system_drivers s (shell_net i k) ≡ []
  unfolding system_drivers
  other_drivers i k here = ap (λ o. option_map_or (net_drivers s i k) o []) here

  pub source_drivers : (i k : ℕ) (columns : List (List ℕ)) → slice_get s.nodes i ≡ Some (Source columns) → system_drivers s (shell_net i k) ≡ []
  unfolding system_drivers
  source_drivers i k columns here = ap (λ o. option_map_or (net_drivers s i k) o []) here

  pub sink_drivers : (i k : ℕ) (columns : List (List ℕ)) (ins : List InBit) → slice_get s.nodes i ≡ Some (Sink columns ins) → system_drivers s (shell_net i k) ≡ []
  unfolding system_drivers
  sink_drivers i k columns ins here = ap (λ o. option_map_or (net_drivers s i k) o []) here

  -- an input row alone drives a port of the source
  pub port_driver : (j : ℕ) (r : Driver Point) → Among r (system_drivers s (source_port j)) → r ≡ from_input j
  unfolding system_drivers
  port_driver j r among = (if_among (nat_lt j (option_map_or source_width (slice_get s.nodes 0) 0)) r (from_input j) among).1

  pub port_drives : (j : ℕ) (columns : List (List ℕ)) → slice_get s.nodes 0 ≡ Some (Source columns) → j < length columns → Among {A = Driver Point} (from_input j) (system_drivers s (source_port j))
  unfolding system_drivers
  port_drives j columns here below =
      let wide : option_map_or source_width (slice_get s.nodes 0) 0 ≡ length columns = ap (λ o. option_map_or source_width o 0) here in
      let is : nat_lt j (option_map_or source_width (slice_get s.nodes 0) 0) ≡ true = ap (λ (n : ℕ). nat_lt j n) wide ∙ lt-ltb j (length columns) below in
      subst (λ (b : Bool). Among {A = Driver Point} (from_input j) (cond b (from_input j ∷ []) [])) (sym is) (inl refl)

  -- and only where it has a column
  pub port_within : (j : ℕ) (r : Driver Point) (columns : List (List ℕ)) → slice_get s.nodes 0 ≡ Some (Source columns) → Among r (system_drivers s (source_port j)) → j < length columns
  unfolding system_drivers
  port_within j r columns here among = by (nat_lt j (option_map_or source_width (slice_get s.nodes 0) 0)) refl among
    where
      wide : option_map_or source_width (slice_get s.nodes 0) 0 ≡ length columns
      wide = ap (λ o. option_map_or source_width o 0) here

      by : (b : Bool) → nat_lt j (option_map_or source_width (slice_get s.nodes 0) 0) ≡ b → Among r (cond b (from_input j ∷ []) []) → j < length columns
      by true e among = ltb-true j (length columns) (ap (λ (n : ℕ). nat_lt j n) (sym wide) ∙ e)
      by false e none = absurd none

  pub port_driven : (j : ℕ) (columns : List (List ℕ)) → slice_get s.nodes 0 ≡ Some (Source columns) → j < length columns → IsDriven (system_drivers s) (source_port j)
  port_driven j columns here below = some_driver (system_drivers s (source_port j)) (from_input j) (port_drives j columns here below)

  -- a bit of a channel is one of the ports that it carries
  pub carried_is : (chan bit : ℕ) (c : Channel) → slice_get s.channels chan ≡ Some c → carried_at s chan bit ≡ get_or (carried s c) bit (source_port 0)
  carried_is chan bit c here = ap (λ o. get_or (option_map_or (carried s) o []) bit (source_port 0)) here

  module _ (well : IsWellFormed s) where
    pub shell_is : (i : ℕ) (pearl : View) (ins : List InBit) → slice_get s.nodes i ≡ Some (Shell pearl ins) → IsShell s i pearl ins
    shell_is i pearl ins here = well.each_node i (Shell pearl ins) here

    -- the source is first, the sink is last, and shells are between
    pub first_node : (columns : List (List ℕ)) × (slice_get s.nodes 0 ≡ Some (Source columns))
    first_node = by s.nodes refl well.least
      where
        of_node : (node : Node) → slice_get s.nodes 0 ≡ Some node → IsNode s 0 node → (columns : List (List ℕ)) × (slice_get s.nodes 0 ≡ Some (Source columns))
        of_node (Source columns) here is = (columns, here)
        of_node (Shell pearl ins) here is = absurd (let first = is.after_source in omega arith)
        of_node (Sink columns ins) here is = absurd (let last = is.last in let least = well.least in omega arith)

        by : (nodes : List Node) → s.nodes ≡ nodes → 2 ≤ length s.nodes → (columns : List (List ℕ)) × (slice_get s.nodes 0 ≡ Some (Source columns))
        by [] same least = absurd (let none : length s.nodes ≡ 0 = ap length same in omega arith)
        by (node ∷ nodes) same least =
            let here : slice_get s.nodes 0 ≡ Some node = ap (λ (xs : List Node). slice_get xs 0) same in
            of_node node here (well.each_node 0 node here)

    pub last_node : (columns : List (List ℕ)) × (ins : List InBit) × (slice_get s.nodes (length s.nodes - 1) ≡ Some (Sink columns ins))
    last_node = of_node found.0 found.1 (well.each_node i found.0 found.1)
      where
        i : ℕ
        i = length s.nodes - 1

        found : (node : Node) × (slice_get s.nodes i ≡ Some node)
        found = let least = well.least in (get_or s.nodes i (Source []), slice_get-get_or s.nodes i (Source []) (omega arith))

        of_node : (node : Node) → slice_get s.nodes i ≡ Some node → IsNode s i node → (columns : List (List ℕ)) × (ins : List InBit) × (slice_get s.nodes i ≡ Some (Sink columns ins))
        of_node (Source columns) here is = absurd (let first : i ≡ 0 = is in let least = well.least in omega arith)
        of_node (Shell pearl ins) here is = absurd (let before : i + 1 < length s.nodes = is.before_sink in omega arith)
        of_node (Sink columns ins) here is = (columns, ins, here)

    pub inner_node : (i : ℕ) → 0 < i → i + 1 < length s.nodes → (pearl : View) × (ins : List InBit) × (slice_get s.nodes i ≡ Some (Shell pearl ins))
    inner_node i after before = of_node found.0 found.1 (well.each_node i found.0 found.1)
      where
        found : (node : Node) × (slice_get s.nodes i ≡ Some node)
        found = (get_or s.nodes i (Source []), slice_get-get_or s.nodes i (Source []) (omega arith))

        of_node : (node : Node) → slice_get s.nodes i ≡ Some node → IsNode s i node → (pearl : View) × (ins : List InBit) × (slice_get s.nodes i ≡ Some (Shell pearl ins))
        of_node (Source columns) here is = absurd (let first : i ≡ 0 = is in omega arith)
        of_node (Shell pearl ins) here is = (pearl, ins, here)
        of_node (Sink columns ins) here is = absurd (let last = is.last in omega arith)

    -- what an input reads that is not a constant is a port of a node
    pub carried_port : (i chan bit : ℕ) → IsRead s i (Port chan bit) → (n : ℕ) × Among (carried_at s chan bit) (ports_at s n)
    carried_port i chan bit read =
        let c = read.0 in
        let is = all_at (IsChannel s) s.channels chan c well.each_channel read.1 in
        let port = get_or c.ports bit 0 in
        let inside : port < length (ports_at s c.from) = all_among (λ (p : ℕ). p < length (ports_at s c.from)) c.ports port is.below (among_at c.ports bit 0 read.3) in
        let at : carried_at s chan bit ≡ get_or (ports_at s c.from) port (source_port 0) =
        carried_is chan bit c read.1 ∙ get_or-map (λ (p : ℕ). get_or (ports_at s c.from) p (source_port 0)) c.ports bit 0 (source_port 0) read.3 in
        (c.from, subst (λ (p : Point). Among p (ports_at s c.from)) (sym at) (among_at (ports_at s c.from) port (source_port 0) inside))

    -- what the driver of an input reads is a port of a node
    pub read_port : (i : ℕ) (x : InBit) → IsRead s i x → (a : Point) → Among a (read_now (driver_of s x) ++ read_before (driver_of s x)) → (n : ℕ) × Among a (ports_at s n)
    read_port i (Const bit) read a among = absurd among
    read_port i (Port chan bit) read a (inl same) =
        let found = carried_port i chan bit read in
        (found.0, subst (λ (p : Point). Among p (ports_at s found.0)) (sym same) found.1)
    read_port i (Port chan bit) read a (inr none) = absurd none

    -- inputs that are past the last are constants
    pub each_read : (i : ℕ) (ins : List InBit) → AllByRecursion (IsRead s i) ins → (j : ℕ) → IsRead s i (get_or ins j (Const false))
    each_read i [] reads j = tt
    each_read i (x ∷ ins) reads zero = reads.0
    each_read i (x ∷ ins) reads (suc j) = each_read i ins reads.1 j

    -- each port is driven
    node_ports_driven : (i : ℕ) (node : Node) → slice_get s.nodes i ≡ Some node → IsNode s i node → (a : Point) → Among a (ports_of i node) → IsDriven (system_drivers s) a
    node_ports_driven i (Source columns) here first a among =
        let found = among_each source_port 0 (length columns) a among in
        let below : found.0 < length columns = (let lt = found.2 in omega arith) in
        subst (IsDriven (system_drivers s)) (sym found.3) (port_driven found.0 columns (subst (λ (i : ℕ). slice_get s.nodes i ≡ Some (Source columns)) first here) below)
    node_ports_driven i (Shell pearl ins) here shell a among =
        let found = map_among {A = ℕ} {B = Point} (shell_net i) a pearl.flat.outs among in
        let below = all_among (λ (k : ℕ). k < pearl.flat.nets) pearl.flat.outs found.0 shell.rules.below.outs found.1 in
        subst (IsDriven (system_drivers s)) (sym found.2) (shell_driven i found.0 pearl ins here (shell.rules.driven found.0 below))
    node_ports_driven i (Sink columns ins) here sink a among = absurd among

    pub ports_driven : (i : ℕ) (a : Point) → Among a (ports_at s i) → IsDriven (system_drivers s) a
    ports_driven i a among = by (slice_get s.nodes i) refl among
      where
        by : (o : Option Node) → slice_get s.nodes i ≡ o → Among a (option_map_or (ports_of i) o []) → IsDriven (system_drivers s) a
        by None here none = absurd none
        by (Some node) here among = node_ports_driven i node here (well.each_node i node here) a among

    -- no point is driven twice
    shell_once : (i k : ℕ) (node : Node) → slice_get s.nodes i ≡ Some node → length (system_drivers s (shell_net i k)) ≤ 1
    shell_once i k (Source columns) here = subst (λ (rs : List (Driver Point)). length rs ≤ 1) (sym (source_drivers i k columns here)) (omega arith)
    shell_once i k (Shell pearl ins) here =
        subst (λ (n : ℕ). n ≤ 1) (sym (ap length (shell_drivers i k pearl ins here) ∙ length-map (flat_drivers pearl.flat k) (in_shell s i ins))) ((shell_is i pearl ins here).rules.once k)
    shell_once i k (Sink columns ins) here = subst (λ (rs : List (Driver Point)). length rs ≤ 1) (sym (sink_drivers i k columns ins here)) (omega arith)

    pub points_once : IsDrivenOnce (system_drivers s)
    unfolding system_drivers
    points_once (source_port j) = by (nat_lt j (option_map_or source_width (slice_get s.nodes 0) 0))
      where
        by : (b : Bool) → length {A = Driver Point} (cond b (from_input j ∷ []) []) ≤ 1
        by true = omega arith
        by false = omega arith
    points_once (shell_net i k) = by (slice_get s.nodes i) refl
      where
        by : (o : Option Node) → slice_get s.nodes i ≡ o → length (system_drivers s (shell_net i k)) ≤ 1
        by None here = subst (λ (rs : List (Driver Point)). length rs ≤ 1) (sym (other_drivers i k here)) (omega arith)
        by (Some node) here = shell_once i k node here
