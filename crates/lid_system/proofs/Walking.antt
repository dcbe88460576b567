-- No walk of a system is long: the last entry into a shell comes from a port, and a walk to a port
-- never left the shell whose port it is.
use Rattle.std.proofs.Common.{◌≡◌, ◌⊎◌, ℕ, zero, suc, ◌+◌, ◌<◌, ◌≤◌, false, List, [], ◌∷◌, ◌++◌, length, get_or, map, Option, Some, None, slice_get, inl, inr, append-nil, eq-zero-or-pos, ◌-◌, refl, sym, ap, subst, arith}
use Rattle.std.specs.Option.{option_map_or}
use Rattle.lid_base.specs.Lists.{Among}
use Rattle.lid_base.proofs.Lists.{among_left, map_among}
use Rattle.lid_design.specs.Network.{Driver, from_input, from_latch, from_cover, from_connection}
use Rattle.lid_design.specs.Walks.{read_before, WalksEnd, IsDriven, AreReadsDriven}
use Rattle.lid_design.specs.Feeds.{read_now, Feeds, EdgesLead}
use Rattle.lid_design.specs.Flat.{flat_drivers}
use Rattle.lid_design.proofs.Parts.{flat_walks_end, flat_reads_driven}
use Rattle.lid_pearl.specs.Pearls.{View}
use Rattle.lid_system.specs.declared.System.{System}
use Rattle.lid_system.specs.declared.Node.{Node}
use Rattle.lid_system.specs.declared.Node.TheVariants.{Source, Shell, Sink}
use Rattle.lid_system.specs.declared.InBit.{InBit}
use Rattle.lid_system.specs.declared.InBit.TheVariants.{Const}
use Rattle.lid_system.specs.Systems.{Point, source_port, shell_net, ports_of, ports_at, IsShell, IsWellFormed}
use Rattle.lid_system.specs.Tables.{driver_of, in_shell, system_drivers}
use Rattle.lid_system.proofs.Points.{input_among, drives_shell, shell_driven, other_drivers, source_drivers, sink_drivers, port_driver, read_port, each_read, ports_driven, shell_is}
use Rattle.lid_base.proofs.Each.{among_each}

-- the last edges of a walk
last_edges : {C : Type 0} (drivers : C → List (Driver C)) (n m : ℕ) (a c : C) → n ≤ m → EdgesLead drivers m a c → (b : C) × EdgesLead drivers n b c
last_edges drivers zero m a c le w = (c, refl)
last_edges drivers (suc n) zero a c le w = absurd (omega arith)
last_edges drivers (suc n) (suc m) a c le w = let found = last_edges drivers n m a w.0 (omega arith) w.1 in (found.0, (w.0, found.1, w.2))

-- where no walk has n + 1 edges, each has at most n
walk_most : {C : Type 0} (drivers : C → List (Driver C)) (n m : ℕ) (a c : C) → WalksEnd drivers (n + 1) → EdgesLead drivers m a c → m ≤ n
walk_most {C} drivers n m a c ends w = by (eq-zero-or-pos (m - n))
  where
    by : (m - n ≡ 0) ⊎ (0 < m - n) → m ≤ n
    by (inl none) = omega arith
    by (inr some) = let found = last_edges drivers (n + 1) m a c (omega arith) w in absurd (ends c found.0 found.1)

-- how many covers a node has, and all nodes have
abbrev covers_in : Node → ℕ
covers_in (Source columns) = 0
covers_in (Shell pearl ins) = length pearl.flat.covers
covers_in (Sink columns ins) = 0

abbrev covers_of : List Node → ℕ
covers_of [] = 0
covers_of (node ∷ nodes) = covers_in node + covers_of nodes

covers_most : (nodes : List Node) (i : ℕ) (node : Node) → slice_get nodes i ≡ Some node → covers_in node ≤ covers_of nodes
covers_most [] i node here = absurd (let e : None ≡ Some node = here in cc)
covers_most (x ∷ nodes) zero node here = let e : Some x ≡ Some node = here in let same : covers_in x ≡ covers_in node = (let e' : x ≡ node = cc in ap covers_in e') in omega arith
covers_most (x ∷ nodes) (suc i) node here = let le : covers_in node ≤ covers_of nodes = covers_most nodes i node here in omega arith

module _ (s : System) (well : IsWellFormed s) where
  abbrev D : Point → List (Driver Point)
  D = system_drivers s

  abbrev C : ℕ
  C = covers_of s.nodes

  -- no edge leads into a port of the source
  none_into_source : (n j : ℕ) (a : Point) → EdgesLead D n a (source_port j) → n ≡ 0
  none_into_source zero j a w = refl
  none_into_source (suc n) j a w =
      let is : w.2.0 ≡ from_input j = port_driver s j w.2.0 w.2.1 in
      absurd (subst (λ (r : Driver Point). Among w.0 (read_now r)) is w.2.2)

  -- where nothing drives a point, no edge leads into it
  none_into : (n : ℕ) (a c : Point) → D c ≡ [] → EdgesLead D n a c → n ≡ 0
  none_into zero a c none w = refl
  none_into (suc n) a c none w = absurd (subst (λ (rs : List (Driver Point)). Among w.2.0 rs) none w.2.1)

  module _ (i : ℕ) (pearl : View) (ins : List InBit) (here : slice_get s.nodes i ≡ Some (Shell pearl ins)) where
    abbrev F : ℕ → List (Driver ℕ)
    F = flat_drivers pearl.flat

    shell : IsShell s i pearl ins
    shell = shell_is s well i pearl ins here

    -- an edge into a shell's net comes from a net of the shell, or leads from a port into an input
    abbrev IsInside : Point → ℕ → Type 0
    IsInside a k = (k' : ℕ) × (a ≡ shell_net i k') × Feeds F k' k

    abbrev IsEntry : Point → ℕ → Type 0
    IsEntry a k = Among k pearl.flat.ins × (n : ℕ) × Among a (ports_at s n)

    edge_by : (a : Point) (k : ℕ) (d : Driver ℕ) → Among d (F k) → Among a (read_now (in_shell s i ins d)) → IsInside a k ⊎ IsEntry a k
    edge_by a k (from_input j) drives read =
        let x = get_or ins j (Const false) in
        let port = read_port s well i x (each_read s well i ins shell.reads j) a (among_left a (read_now (driver_of s x)) (read_before (driver_of s x)) read) in
        inr (input_among pearl.flat k j drives, port.0, port.1)
    edge_by a k (from_latch first input) drives read = absurd read
    edge_by a k (from_cover cover ks) drives read =
        let found = map_among {A = ℕ} {B = Point} (shell_net i) a ks read in
        inl (found.0, found.2, (from_cover cover ks, drives, found.1))
    edge_by a k (from_connection k') drives (inl same) = inl (k', same, (from_connection k', drives, inl refl))
    edge_by a k (from_connection k') drives (inr none) = absurd none

    edge_into : (a : Point) (k : ℕ) → Feeds D a (shell_net i k) → IsInside a k ⊎ IsEntry a k
    edge_into a k edge =
        let found = drives_shell s i k pearl ins here edge.0 edge.1 in
        edge_by a k found.0 found.1 (subst (λ (r : Driver Point). Among a (read_now r)) found.2 edge.2)

    -- a walk to a shell's net is inside, or has a last entry
    abbrev StaysInside : ℕ → Point → ℕ → Type 0
    StaysInside n a k = (k' : ℕ) × (a ≡ shell_net i k') × EdgesLead F n k' k

    record Enters (n : ℕ) (a : Point) (k : ℕ) : Type 0 where
      before : ℕ
      inside : ℕ
      sum : n ≡ before + 1 + inside
      port : Point
      node : ℕ
      is_port : Among port (ports_at s node)
      to_port : EdgesLead D before a port
      input : ℕ
      is_input : Among input pearl.flat.ins
      from_input : EdgesLead F inside input k

    split_walk : (n : ℕ) (a : Point) (k : ℕ) → EdgesLead D n a (shell_net i k) → StaysInside n a k ⊎ Enters n a k
    split_walk zero a k w = inl (k, w, refl)
    split_walk (suc n) a k w = by (edge_into w.0 k w.2) (λ k' w'. split_walk n a k' w')
      where
        longer : (k' : ℕ) → Feeds F k' k → StaysInside n a k' ⊎ Enters n a k' → StaysInside (suc n) a k ⊎ Enters (suc n) a k
        longer k' edge (inl stays) = inl (stays.0, stays.1, (k', stays.2, edge))
        longer k' edge (inr enters) =
            let sum = enters.sum in
            inr (record { before = enters.before; inside = suc enters.inside; sum = omega arith; port = enters.port; node = enters.node; is_port = enters.is_port; to_port = enters.to_port; input = enters.input; is_input = enters.is_input; from_input = (k', enters.from_input, edge) })

        by : IsInside w.0 k ⊎ IsEntry w.0 k → ((k' : ℕ) → EdgesLead D n a (shell_net i k') → StaysInside n a k' ⊎ Enters n a k') → StaysInside (suc n) a k ⊎ Enters (suc n) a k
        by (inl inside) next = longer inside.0 inside.2 (next inside.0 (subst (λ (b : Point). EdgesLead D n a b) inside.1 w.1))
        by (inr entry) next = inr (record { before = n; inside = 0; sum = omega arith; port = w.0; node = entry.1; is_port = entry.2; to_port = w.1; input = k; is_input = entry.0; from_input = refl })

    inside_most : (n k' k : ℕ) → EdgesLead F n k' k → n ≤ C
    inside_most n k' k w =
        let most : n ≤ length pearl.flat.covers = walk_most F (length pearl.flat.covers) n k' k (flat_walks_end pearl.flat shell.rules) w in
        let all : length pearl.flat.covers ≤ C = covers_most s.nodes i (Shell pearl ins) here in
        omega arith

    -- a walk to an output of the shell never entered it
    output_most : (n : ℕ) (a : Point) (k : ℕ) → Among k pearl.flat.outs → EdgesLead D n a (shell_net i k) → n ≤ C
    output_most n a k output w = by (split_walk n a k w)
      where
        by : StaysInside n a k ⊎ Enters n a k → n ≤ C
        by (inl stays) = inside_most n stays.0 k stays.2
        by (inr enters) = absurd (shell.rules.apart enters.inside enters.input k enters.is_input output enters.from_input)

  -- a walk to a port is within a shell
  port_by : (i : ℕ) (node : Node) → slice_get s.nodes i ≡ Some node → (n : ℕ) (a c : Point) → Among c (ports_of i node) → EdgesLead D n a c → n ≤ C
  port_by i (Source columns) here n a c port w =
      let found = among_each source_port 0 (length columns) c port in
      let none : n ≡ 0 = none_into_source n found.0 a (subst (λ (c : Point). EdgesLead D n a c) found.3 w) in
      omega arith
  port_by i (Shell pearl ins) here n a c port w =
      let found = map_among {A = ℕ} {B = Point} (shell_net i) c pearl.flat.outs port in
      output_most i pearl ins here n a found.0 found.1 (subst (λ (c : Point). EdgesLead D n a c) found.2 w)
  port_by i (Sink columns ins) here n a c port w = absurd port

  port_most : (i n : ℕ) (a c : Point) → Among c (ports_at s i) → EdgesLead D n a c → n ≤ C
  port_most i n a c port w = by (slice_get s.nodes i) refl port
    where
      by : (o : Option Node) → slice_get s.nodes i ≡ o → Among c (option_map_or (ports_of i) o []) → n ≤ C
      by None here none = absurd none
      by (Some node) here port = port_by i node here n a c port w

  -- a walk is within a shell after a walk to a port
  net_most : (i : ℕ) (node : Node) → slice_get s.nodes i ≡ Some node → (n : ℕ) (a : Point) (k : ℕ) → EdgesLead D n a (shell_net i k) → n ≤ C + 1 + C
  net_most i (Source columns) here n a k w = let none : n ≡ 0 = none_into n a (shell_net i k) (source_drivers s i k columns here) w in omega arith
  net_most i (Shell pearl ins) here n a k w = by (split_walk i pearl ins here n a k w)
    where
      by : StaysInside i pearl ins here n a k ⊎ Enters i pearl ins here n a k → n ≤ C + 1 + C
      by (inl stays) = let most : n ≤ C = inside_most i pearl ins here n stays.0 k stays.2 in omega arith
      by (inr enters) =
          let sum = enters.sum in
          let before : enters.before ≤ C = port_most enters.node enters.before a enters.port enters.is_port enters.to_port in
          let inside : enters.inside ≤ C = inside_most i pearl ins here enters.inside enters.input k enters.from_input in
          omega arith
  net_most i (Sink columns ins) here n a k w = let none : n ≡ 0 = none_into n a (shell_net i k) (sink_drivers s i k columns ins here) w in omega arith

  point_most : (n : ℕ) (a c : Point) → EdgesLead D n a c → n ≤ C + 1 + C
  point_most n a (source_port j) w = let none : n ≡ 0 = none_into_source n j a w in omega arith
  point_most n a (shell_net i k) w = by (slice_get s.nodes i) refl
    where
      by : (o : Option Node) → slice_get s.nodes i ≡ o → n ≤ C + 1 + C
      by None here = let none : n ≡ 0 = none_into n a (shell_net i k) (other_drivers s i k here) w in omega arith
      by (Some node) here = net_most i node here n a k w

  abbrev pub limit : ℕ
  limit = covers_of s.nodes + 1 + covers_of s.nodes + 1

  pub points_end : WalksEnd (system_drivers s) limit
  points_end c a w = let most : limit ≤ C + 1 + C = point_most limit a c w in absurd (omega arith)

  -- what a driver reads is driven
  reads_by : (i k : ℕ) (pearl : View) (ins : List InBit) → slice_get s.nodes i ≡ Some (Shell pearl ins) → (d : Driver ℕ) (a : Point) → Among d (flat_drivers pearl.flat k) → Among a (read_now (in_shell s i ins d) ++ read_before (in_shell s i ins d)) → IsDriven D a
  reads_by i k pearl ins here (from_input j) a drives read =
      let x = get_or ins j (Const false) in
      let port = read_port s well i x (each_read s well i ins (shell i pearl ins here).reads j) a read in
      ports_driven s well port.0 a port.1
  reads_by i k pearl ins here (from_latch first input) a drives (inl same) =
      subst (IsDriven D) (sym same) (shell_driven s i input pearl ins here (flat_reads_driven pearl.flat (shell i pearl ins here).rules k (from_latch first input) input drives (inl refl)))
  reads_by i k pearl ins here (from_latch first input) a drives (inr none) = absurd none
  reads_by i k pearl ins here (from_cover cover ks) a drives read =
      let found = map_among {A = ℕ} {B = Point} (shell_net i) a ks (subst (λ (ps : List Point). Among a ps) (append-nil (map (shell_net i) ks)) read) in
      subst (IsDriven D) (sym found.2) (shell_driven s i found.0 pearl ins here (flat_reads_driven pearl.flat (shell i pearl ins here).rules k (from_cover cover ks) found.0 drives (among_left found.0 ks [] found.1)))
  reads_by i k pearl ins here (from_connection k') a drives (inl same) =
      subst (IsDriven D) (sym same) (shell_driven s i k' pearl ins here (flat_reads_driven pearl.flat (shell i pearl ins here).rules k (from_connection k') k' drives (inl refl)))
  reads_by i k pearl ins here (from_connection k') a drives (inr none) = absurd none

  reads_in : (i : ℕ) (node : Node) → slice_get s.nodes i ≡ Some node → (k : ℕ) (r : Driver Point) (a : Point) → Among r (D (shell_net i k)) → Among a (read_now r ++ read_before r) → IsDriven D a
  reads_in i (Source columns) here k r a drives read = absurd (subst (λ (rs : List (Driver Point)). Among r rs) (source_drivers s i k columns here) drives)
  reads_in i (Shell pearl ins) here k r a drives read =
      let found = drives_shell s i k pearl ins here r drives in
      reads_by i k pearl ins here found.0 a found.1 (subst (λ (r : Driver Point). Among a (read_now r ++ read_before r)) found.2 read)
  reads_in i (Sink columns ins) here k r a drives read = absurd (subst (λ (rs : List (Driver Point)). Among r rs) (sink_drivers s i k columns ins here) drives)

  pub points_reads_driven : AreReadsDriven (system_drivers s)
  points_reads_driven (source_port j) r a drives read = absurd (subst (λ (r : Driver Point). Among a (read_now r ++ read_before r)) (port_driver s j r drives) read)
  points_reads_driven (shell_net i k) r a drives read = by (slice_get s.nodes i) refl
    where
      by : (o : Option Node) → slice_get s.nodes i ≡ o → IsDriven D a
      by None here = absurd (subst (λ (rs : List (Driver Point)). Among r rs) (other_drivers s i k here) drives)
      by (Some node) here = reads_in i node here k r a drives read
