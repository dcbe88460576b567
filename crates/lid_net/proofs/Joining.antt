-- The system that is made of nodes and channels is that of the design.
use Rattle.std.proofs.Common.{◌≡◌, ◌<◌, ◌≤◌, ◌+◌, ◌⊎◌, ◌↔◌, ℕ, zero, suc, Bool, true, false, cond, eqb, List, [], ◌∷◌, ◌++◌, length, map, get_or, Option, Some, None, slice_get, inl, inr, refl, sym, ◌∙◌, ap, subst, arith, length-append, zero-add}
use Rattle.std.specs.Option.{option_map_or}
use Rattle.std.specs.List.{AllByRecursion}
use Rattle.std.proofs.lemmas.List.{length-map}
use Rattle.std.proofs.lemmas.Option.{slice_get_within, get_or_from_slice_get}
use Rattle.lid_base.specs.Lists.{Among}
use Rattle.lid_base.proofs.Lists.{among_flat, among_map, all_at, map_same}
use Rattle.lid_design.specs.declared.Design.{Design}
use Rattle.lid_design.specs.declared.Model.{Model}
use Rattle.lid_design.specs.Network.{Driver, from_input, from_latch, from_cover, from_connection}
use Rattle.lid_base.specs.Each.{from_each}
use Rattle.lid_check_parts.specs.Standing.{IsInput, StandsFor}
use Rattle.lid_design.specs.Columns.{Column, column, drivers, root_inputs, root_outputs}
use Rattle.lid_design.specs.Elaboration.{columns}
use Rattle.lid_design.specs.Loops.{pearls}
use Rattle.lid_check_elab.specs.Elaborations.{column_at}
use Rattle.lid_pearl.specs.Pearls.{View}
use Rattle.lid_system.specs.declared.System.{System}
use Rattle.lid_system.specs.declared.Channel.{Channel}
use Rattle.lid_system.specs.declared.InBit.{InBit}
use Rattle.lid_system.specs.declared.InBit.TheVariants as bits
use Rattle.lid_system.specs.declared.Node.{Node}
use Rattle.lid_system.specs.declared.Node.TheVariants.{Source, Shell, Sink}
use Rattle.lid_system.specs.Systems.{source_port, shell_net, ports_of as system_ports, ports_at, IsRead, IsShell, IsNode, IsChannel, IsWellFormed}
use Rattle.lid_net_law.specs.Agreement.{column_of, LeadsBack, IsLed, AreLed, IsPearlShell, IsSystemOf}
use Rattle.lid_net_law.specs.Ports.{outputs_at, ports_of, IsPort}
use Rattle.lid_net_law.proofs.Leading.{carried_column}
use Rattle.lid_net_channels.specs.declared.reads.Read.{Read}
use Rattle.lid_net_channels.specs.Reads.{AreAscending}
use Rattle.lid_net_channels.specs.Pieces.{read_at, reads_in, AreChannelsOf}
use Rattle.lid_net.specs.declared.origin.Origin.{Origin}
use Rattle.lid_net.specs.declared.origin.Origin.TheVariants.{Const, Port}
use Rattle.lid_net.specs.Steps.{origin_at}
use Rattle.lid_net.proofs.Numbering.{same_inputs}
use Rattle.lid_net.proofs.Rising.{channels_rise, channel_ports, first_port}
use Rattle.lid_net.specs.declared.ports.ShellPorts.{ShellPorts}
use Rattle.lid_net.specs.Nodes.{IsBitFor, IsBitOfOrigin, AreInBits, IsShellFor, AreShellNodes}
use Rattle.lid_net.specs.Graphs.{inputs_at, inputs_of, LeadsIn, IsReadBy, IsGraphOf}
use Rattle.lid_net.specs.PearlParts.{ArePortsOf}
use Rattle.lid_net.specs.Systems.{AreLeads, AreNodesOf}
use Rattle.lid_base.proofs.Places.{item_at, map_get, get_left}
use Rattle.lid_base.proofs.Alls.{all_from_among}
use Rattle.lid_base.proofs.Each.{each_map}

-- the channels of the reads of a design are its channels
pub graph_of : (d : Design) (origins : List (Option Origin)) (reads : List Read) (channels : List Channel) → AreLeads d origins reads → AreChannelsOf reads channels → IsGraphOf d channels
graph_of d origins reads channels leads are = record {
  reads = λ r. subst (λ (rs : List Read). Among r rs ↔ IsReadBy d r) (sym are.carry) (leads.exact r);
  ascending = subst AreAscending (sym are.carry) leads.ascending;
  cut = are.cut;
}

-- where a way back ends
pub lead_end : (d : Design) (n : ℕ) (c : Column) (node place : ℕ) → LeadsIn d n c (Port node place) → (a : Column) × IsPort d a node place
lead_end d zero c node place h = (c, h)
lead_end d (suc n) c node place h = lead_end d n h.1 node place h.3

-- bits and inputs, place by place
bits_long : (channels : List Channel) (origins : List (Option Origin)) (to : ℕ) (ks : List ℕ) (xs : List InBit) → AreInBits channels origins to ks xs → length ks ≡ length xs
bits_long channels origins to [] [] h = refl
bits_long channels origins to [] (x ∷ xs) h = absurd h
bits_long channels origins to (k ∷ ks) [] h = absurd h
bits_long channels origins to (k ∷ ks) (x ∷ xs) h = ap suc (bits_long channels origins to ks xs h.1)

bits_at : (channels : List Channel) (origins : List (Option Origin)) (to : ℕ) (ks : List ℕ) (xs : List InBit) (j k : ℕ) (x : InBit) → AreInBits channels origins to ks xs → slice_get ks j ≡ Some k → slice_get xs j ≡ Some x → IsBitFor channels origins to k x
bits_at channels origins to [] xs j k x h here there = absurd (let e : None ≡ Some k = here in cc)
bits_at channels origins to (i ∷ ks) [] j k x h here there = absurd h
bits_at channels origins to (i ∷ ks) (y ∷ xs) zero k x h here there =
    let e : i ≡ k = (let f : Some i ≡ Some k = here in cc) in
    let g : y ≡ x = (let f : Some y ≡ Some x = there in cc) in
    subst (λ (a : ℕ). IsBitFor channels origins to a x) e (subst (λ (b : InBit). IsBitFor channels origins to i b) g h.0)
bits_at channels origins to (i ∷ ks) (y ∷ xs) (suc j) k x h here there = bits_at channels origins to ks xs j k x h.1 here there

-- a bit that an input of a node reads is one of a channel to it
bit_reads : (s : System) (to : ℕ) (o : Option Origin) (x : InBit) → IsBitOfOrigin s.channels to o x → IsRead s to x
bit_reads s to None x h = absurd h
bit_reads s to (Some (Const bit)) x h = subst (IsRead s to) (sym h) tt
bit_reads s to (Some (Port node place)) (bits.Const bit) h = absurd h
bit_reads s to (Some (Port node place)) (bits.Port chan bit) h = (h.c, h.here, h.to, slice_get_within h.c.ports bit place h.port)

bits_read : (s : System) (origins : List (Option Origin)) (to : ℕ) (ks : List ℕ) (xs : List InBit) → AreInBits s.channels origins to ks xs → AllByRecursion (IsRead s to) xs
bits_read s origins to [] [] h = tt
bits_read s origins to [] (x ∷ xs) h = absurd h
bits_read s origins to (k ∷ ks) [] h = absurd h
bits_read s origins to (k ∷ ks) (x ∷ xs) h = (bit_reads s to (origin_at origins k) x h.0, bits_read s origins to ks xs h.1)

-- shells and ports, place by place
pub record ShellAt (d : Design) (channels : List Channel) (origins : List (Option Origin)) (all : List ShellPorts) (i j : ℕ) (shell : Node) : Type 0 where
  pub ports : ShellPorts
  pub here : slice_get all j ≡ Some ports
  pub is : IsShellFor d channels origins i ports shell

shells_long : (d : Design) (channels : List Channel) (origins : List (Option Origin)) (first : ℕ) (all : List ShellPorts) (shells : List Node) → AreShellNodes d channels origins first all shells → length shells ≡ length all
shells_long d channels origins first [] [] h = refl
shells_long d channels origins first [] (x ∷ xs) h = absurd h
shells_long d channels origins first (p ∷ ps) [] h = absurd h
shells_long d channels origins first (p ∷ ps) (x ∷ xs) h = ap suc (shells_long d channels origins (first + 1) ps xs h.1)

shell_at : (d : Design) (channels : List Channel) (origins : List (Option Origin)) (first : ℕ) (all : List ShellPorts) (shells : List Node) (i j : ℕ) (shell : Node) → AreShellNodes d channels origins first all shells → slice_get shells j ≡ Some shell → first + j ≡ i → ShellAt d channels origins all i j shell
shell_at d channels origins first all [] i j shell h here place = absurd (let e : None ≡ Some shell = here in cc)
shell_at d channels origins first [] (x ∷ xs) i j shell h here place = absurd h
shell_at d channels origins first (p ∷ ps) (x ∷ xs) i zero shell h here place =
    let e : x ≡ shell = (let f : Some x ≡ Some shell = here in cc) in
    let n : first ≡ i = omega arith in
    record { ports = p; here = refl; is = subst (λ (m : ℕ). IsShellFor d channels origins m p shell) n (subst (IsShellFor d channels origins first p) e h.0) }
shell_at d channels origins first (p ∷ ps) (x ∷ xs) i (suc j) shell h here place =
    let at = shell_at d channels origins (first + 1) ps xs i j shell h.1 here (omega arith) in
    record { ports = at.ports; here = at.here; is = at.is }

-- which node stands at a place
pub data Standing (inputs outputs : List (List ℕ)) (shells : List Node) (ins : List InBit) (i : ℕ) (node : Node) : Type 0 where
  first : i ≡ 0 → node ≡ Source inputs → Standing inputs outputs shells ins i node
  inner : (j : ℕ) → i ≡ j + 1 → slice_get shells j ≡ Some node → Standing inputs outputs shells ins i node
  final : i ≡ length shells + 1 → node ≡ Sink outputs ins → Standing inputs outputs shells ins i node

standing : (inputs outputs : List (List ℕ)) (shells : List Node) (ins : List InBit) (i : ℕ) (node : Node) → slice_get (Source inputs ∷ (shells ++ Sink outputs ins ∷ [])) i ≡ Some node → Standing inputs outputs shells ins i node
standing inputs outputs shells ins zero node here = first refl (let e : Some (Source inputs) ≡ Some node = here in cc)
standing inputs outputs shells ins (suc i) node here = by shells i here
  where
    split : (xs : List Node) (j : ℕ) → slice_get (xs ++ Sink outputs ins ∷ []) j ≡ Some node → (slice_get xs j ≡ Some node) ⊎ ((j ≡ length xs) × (node ≡ Sink outputs ins))
    split [] zero h = inr (refl, (let e : Some (Sink outputs ins) ≡ Some node = h in cc))
    split [] (suc j) h = absurd (let e : None ≡ Some node = h in cc)
    split (x ∷ xs) zero h = inl h
    split (x ∷ xs) (suc j) h = elim (split xs j h) [ inl e ↦ inl e | inr e ↦ inr (ap suc e.0, e.1) ]

    by : (xs : List Node) (j : ℕ) → slice_get (xs ++ Sink outputs ins ∷ []) j ≡ Some node → Standing inputs outputs xs ins (suc j) node
    by xs j h = elim (split xs j h) [ inl e ↦ inner j (omega arith) e | inr e ↦ final (let l = e.0 in omega arith) e.1 ]

map_twice : {A B C : Type 0} (f : A → B) (g : B → C) (xs : List A) → map g (map f xs) ≡ map (λ x. g (f x)) xs
map_twice f g [] = refl
map_twice {A} {B} {C} f g (x ∷ xs) = ap (λ (ys : List C). g (f x) ∷ ys) (map_twice f g xs)

-- the ports of a source stand for its columns
source_columns : (d : Design) (cols : ℕ → ℕ → Column) (whole names : List (List ℕ)) (k : ℕ) → ((j : ℕ) (name : List ℕ) → slice_get names j ≡ Some name → get_or whole (k + j) [] ≡ name) → map (λ p. column [] (get_or whole p [])) (from_each (λ j. j) k (length names)) ≡ map (column []) names
source_columns d cols whole [] k at = refl
source_columns d cols whole (name ∷ names) k at =
    let e : k ≡ k + 0 = omega arith in
    let head : column [] (get_or whole k []) ≡ column [] name = ap (λ (n : ℕ). column [] (get_or whole n [])) e ∙ ap (column []) (at 0 name refl) in
    let tail = source_columns d cols whole names (k + 1) (λ j other here. (let f : (k + 1) + j ≡ k + suc j = omega arith in ap (λ (n : ℕ). get_or whole n []) f) ∙ at (suc j) other here) in
    ap (λ (c : Column). c ∷ map (λ p. column [] (get_or whole p [])) (from_each (λ j. j) (k + 1) (length names))) head ∙ ap (λ (cs : List Column). column [] name ∷ cs) tail

-- a driver stands for the same where nets stand for the same columns
stands_same : (of : Column → List (Driver Column)) (f g : ℕ → Column) → ((k : ℕ) → f k ≡ g k) → (k : ℕ) (r : Driver ℕ) → IsInput r ⊎ ((x : Driver Column) × Among x (of (g k)) × StandsFor g r x) → IsInput r ⊎ ((x : Driver Column) × Among x (of (f k)) × StandsFor f r x)
stands_same of f g e k r (inl h) = inl h
stands_same of f g e k r (inr (x, among, h)) = inr (x, subst (λ (c : Column). Among x (of c)) (sym (e k)) among, by r h)
  where
    by : (t : Driver ℕ) → StandsFor g t x → StandsFor f t x
    by (from_input j) h = absurd h
    by (from_latch bit a) h = h ∙ ap (from_latch bit) (sym (e a))
    by (from_cover cover ks) (inl h) = inl (h ∙ ap (from_cover cover) (sym (map_same f g ks (λ x among. e x))))
    by (from_cover cover ks) (inr (a, one, passes, h)) = inr (a, one, passes, h ∙ ap from_connection (sym (e a)))
    by (from_connection a) h = absurd h

port_node : (d : Design) (c : Column) (node place : ℕ) → IsPort d c node place → node ≤ length (pearls d)
unfolding ports_of
port_node d c zero place h = omega arith
port_node d c (suc j) place h = by (slice_get (pearls d) j) refl h
  where
    by : (o : Option (List ℕ)) → slice_get (pearls d) j ≡ o → slice_get (option_map_or (outputs_at d) o []) place ≡ Some c → suc j ≤ length (pearls d)
    by None e h = absurd (let f : None ≡ Some c = h in cc)
    by (Some path) e h = let less = slice_get_within (pearls d) j path e in omega arith

pub reader_node : (d : Design) (to : ℕ) (c : Column) → Among c (inputs_of d to) → (0 < to) × (to ≤ length (pearls d) + 1)
unfolding inputs_of
reader_node d zero c h = absurd h
reader_node d (suc i) c h = by (eqb i (length (pearls d))) refl h
  where
    by : (b : Bool) → eqb i (length (pearls d)) ≡ b → Among c (cond b (map (column []) (root_outputs d)) (option_map_or (inputs_at d) (slice_get (pearls d) i) [])) → (0 < suc i) × (suc i ≤ length (pearls d) + 1)
    by true e h = (omega arith, (let f : i ≡ length (pearls d) = grind (arith, e) in omega arith))
    by false e h = at (slice_get (pearls d) i) refl h
      where
        at : (o : Option (List ℕ)) → slice_get (pearls d) i ≡ o → Among c (option_map_or (inputs_at d) o []) → (0 < suc i) × (suc i ≤ length (pearls d) + 1)
        at None g h = absurd h
        at (Some path) g h = let less = slice_get_within (pearls d) i path g in (omega arith, omega arith)

module _ (d : Design) (all : List ShellPorts) (origins : List (Option Origin)) (channels : List Channel) (nodes : List Node) (reads : List Read)
    (are : ArePortsOf d (length (columns d)) all) (leads : AreLeads d origins reads) (cut : AreChannelsOf reads channels) (made : AreNodesOf d all origins channels nodes)
    (few_channels : length channels ≤ 16384) (few : length (pearls d) ≤ 4096) where
  abbrev pub s : System
  s = record { nodes = nodes; channels = channels }

  abbrev Shelled : ℕ → Node → Type 0
  Shelled j shell = ShellAt d channels origins all j j shell

  -- the shell of a pearl
  shelled : (j : ℕ) (shell : Node) → slice_get made.are.shells j ≡ Some shell → Shelled j shell
  shelled j shell here = shell_at d channels origins 0 all made.are.shells j j shell made.are.each here (zero-add j)

  pub at_shell : (j : ℕ) (o : Option Node) → slice_get made.are.shells j ≡ o → ℕ → Column
  at_shell j None e k = column [] []
  at_shell j (Some shell) e k = (shelled j shell e).is.of.col k

  abbrev pub cols : ℕ → ℕ → Column
  cols zero k = column [] []
  cols (suc j) k = at_shell j (slice_get made.are.shells j) refl k

  record Picked (j : ℕ) (shell : Node) : Type 0 where
    pub at : Shelled j shell
    pub col : (k : ℕ) → cols (suc j) k ≡ at.is.of.col k

  picked : (j : ℕ) (shell : Node) → slice_get made.are.shells j ≡ Some shell → Picked j shell
  unfolding at_shell
  picked j shell here = let got = by (slice_get made.are.shells j) refl here in record { at = got.0; col = got.1 }
    where
      by : (o : Option Node) (e : slice_get made.are.shells j ≡ o) → o ≡ Some shell → (at : Shelled j shell) × ((k : ℕ) → at_shell j o e k ≡ at.is.of.col k)
      by None e h = absurd (let f : None ≡ Some shell = h in cc)
      by (Some x) e h =
          let same : x ≡ shell = (let f : Some x ≡ Some shell = h in cc) in
          subst (λ (y : Node). (at : Shelled j y) × ((k : ℕ) → at_shell j (Some x) e k ≡ at.is.of.col k)) same (shelled j x e, λ k. refl)

  nodes_are : (i : ℕ) (node : Node) → slice_get nodes i ≡ Some node → Standing (root_inputs d) (root_outputs d) made.are.shells made.are.ins i node
  nodes_are i node here = standing (root_inputs d) (root_outputs d) made.are.shells made.are.ins i node (ap (λ (ns : List Node). slice_get ns i) (sym made.are.is) ∙ here)

  shells_are : length made.are.shells ≡ length all
  shells_are = shells_long d channels origins 0 all made.are.shells made.are.each

  nodes_long : length nodes ≡ length (pearls d) + 2
  nodes_long =
      let a = ap length made.are.is in
      let b = length-append made.are.shells (Sink (root_outputs d) made.are.ins ∷ []) in
      let e = shells_are in
      let f = are.long in
      omega arith

  first_node : slice_get nodes 0 ≡ Some (Source (root_inputs d))
  first_node = ap (λ (ns : List Node). slice_get ns 0) made.are.is

  shell_node : (j : ℕ) (shell : Node) → slice_get made.are.shells j ≡ Some shell → slice_get nodes (suc j) ≡ Some shell
  shell_node j shell here = ap (λ (ns : List Node). slice_get ns (suc j)) made.are.is ∙ get_left made.are.shells (Sink (root_outputs d) made.are.ins ∷ []) j shell here

  -- the ports of the nodes of the system stand for those of the design
  port_columns : (node : ℕ) → node ≤ length (pearls d) → map (column_of d cols) (ports_at s node) ≡ ports_of d node
  unfolding ports_of
  port_columns zero h =
      ap (λ (o : Option Node). map (column_of d cols) (option_map_or (system_ports 0) o [])) first_node
      ∙ ap (map (column_of d cols)) (each_map source_port (λ j. j) 0 (length (root_inputs d)))
      ∙ map_twice source_port (column_of d cols) (from_each (λ j. j) 0 (length (root_inputs d)))
      ∙ source_columns d cols (root_inputs d) (root_inputs d) 0 (λ j name here. (let e : 0 + j ≡ j = zero-add j in ap (λ (n : ℕ). get_or (root_inputs d) n []) e) ∙ get_or_from_slice_get (root_inputs d) j name [] here)
  port_columns (suc j) h =
      let shell = item_at made.are.shells j (let l = are.long in let m = shells_are in omega arith) in
      let pick = picked j shell.0 shell.1 in
      let is = pick.at.is in
      let of = is.of in
      ap (λ (o : Option Node). map (column_of d cols) (option_map_or (system_ports (suc j)) o [])) (shell_node j shell.0 shell.1 ∙ ap Some is.is)
      ∙ map_twice (shell_net (suc j)) (column_of d cols) is.pearl.flat.outs
      ∙ map_same (cols (suc j)) of.col is.pearl.flat.outs (λ x among. pick.col x)
      ∙ of.outputs
      ∙ sym (ap (λ (o : Option (List ℕ)). option_map_or (outputs_at d) o []) of.here ∙ ap (λ (o : Option Model). option_map_or (λ m. map (column of.path) m.outputs) o []) of.body)

  -- what a column is led back to, as what an input reads
  back : (to n : ℕ) (c : Column) (o : Origin) (x : InBit) → LeadsIn d n c o → IsBitOfOrigin channels to (Some o) x → LeadsBack d s cols n c x
  back to zero c (Const bit) x h is = subst (LeadsBack d s cols zero c) (sym is) h
  back to zero c (Port node place) (bits.Const bit) h is = absurd is
  back to zero c (Port node place) (bits.Port chan bit) h is =
      let same = ap (λ (m : ℕ). map (column_of d cols) (ports_at s m)) is.from ∙ port_columns node (port_node d c node place h) in
      sym (carried_column d s cols chan bit place is.c c is.here is.port (ap (λ (cs : List Column). slice_get cs place) same ∙ h))
  back to (suc n) c o x h is = (h.0, h.1, h.2, back to n h.1 o x h.3 is)

  led : (to k : ℕ) (x : InBit) → k < length (columns d) → IsBitFor channels origins to k x → IsLed d s cols (column_at d k) x
  led to k x less is = by (origin_at origins k) refl is
    where
      by : (o : Option Origin) → origin_at origins k ≡ o → IsBitOfOrigin channels to o x → IsLed d s cols (column_at d k) x
      by None e h = absurd h
      by (Some o) e h = let way = (leads.led k o less).0 e in (way.0, back to way.0 (column_at d k) o x way.1 h)

  all_led : (to : ℕ) (ks : List ℕ) (xs : List InBit) → AllByRecursion (λ k. k < length (columns d)) ks → AreInBits channels origins to ks xs → AreLed d s cols (map (column_at d) ks) xs
  all_led to ks xs below is j c x here there =
      let at = map_get (column_at d) ks j c here in
      subst (λ (a : Column). IsLed d s cols a x) (sym at.2)
      (led to at.0 x (all_at (λ k. k < length (columns d)) ks j at.0 below at.1) (bits_at channels origins to ks xs j at.0 x is at.1 there))

  -- the place of the shell that a node is
  record Placed (i : ℕ) (pearl : View) (ins : List InBit) : Type 0 where
    pub j : ℕ
    pub place : i ≡ suc j
    pub here : slice_get made.are.shells j ≡ Some (Shell pearl ins)

  placed : (i : ℕ) (pearl : View) (ins : List InBit) → slice_get nodes i ≡ Some (Shell pearl ins) → Placed i pearl ins
  placed i pearl ins here = by (nodes_are i (Shell pearl ins) here)
    where
      by : Standing (root_inputs d) (root_outputs d) made.are.shells made.are.ins i (Shell pearl ins) → Placed i pearl ins
      by (first e is) = absurd (let f : Shell pearl ins ≡ Source (root_inputs d) = is in cc)
      by (final e is) = absurd (let f : Shell pearl ins ≡ Sink (root_outputs d) made.are.ins = is in cc)
      by (inner j e at) = record { j = j; place = omega arith; here = at }

  shell_of : (i : ℕ) (pearl : View) (ins : List InBit) → slice_get nodes i ≡ Some (Shell pearl ins) → IsPearlShell d s cols i pearl ins
  shell_of i pearl ins here =
      let at = placed i pearl ins here in
      let pick = picked at.j (Shell pearl ins) at.here in
      let is = pick.at.is in
      let of = is.of in
      let ports = are.each at.j pick.at.ports pick.at.here in
      let same : Shell pearl ins ≡ Shell is.pearl is.ins = is.is in
      let p : is.pearl ≡ pearl = cc in
      let x : is.ins ≡ ins = cc in
      subst (λ (v : View). IsPearlShell d s cols i v ins) p
      (subst (λ (m : ℕ). IsPearlShell d s cols m is.pearl ins) (sym at.place) (record {
        number = at.j;
        place = omega arith;
        path = of.path;
        here = of.here;
        model = of.model;
        body = of.body;
        inputs = map_same (cols (suc at.j)) of.col is.pearl.flat.ins (λ x among. pick.col x) ∙ of.inputs;
        outputs = map_same (cols (suc at.j)) of.col is.pearl.flat.outs (λ x among. pick.col x) ∙ of.outputs;
        each = λ k r among. stands_same (drivers d) (cols (suc at.j)) of.col pick.col k r (of.each k r among);
        led =
            subst (λ (cs : List Column). AreLed d s cols cs ins)
            (same_inputs d (length (columns d)) at.j pick.at.ports is.pearl ports of ∙ sym (map_same (cols (suc at.j)) of.col is.pearl.flat.ins (λ x among. pick.col x)))
            (all_led (at.j + 1) pick.at.ports.ins ins ports.ins_below (subst (λ (xs : List InBit). AreInBits channels origins (at.j + 1) pick.at.ports.ins xs) x is.bits));
      }))

  system_is : IsSystemOf d s
  system_is = record {
    nodes = nodes_long;
    columns = cols;
    source = λ i names here. source_at i names (nodes_are i (Source names) here);
    shells = shell_of;
    sink = λ i names ins here. sink_at i names ins (nodes_are i (Sink names ins) here);
  }
    where
      source_at : (i : ℕ) (names : List (List ℕ)) → Standing (root_inputs d) (root_outputs d) made.are.shells made.are.ins i (Source names) → names ≡ root_inputs d
      source_at i names (first e is) = let f : Source names ≡ Source (root_inputs d) = is in cc
      source_at i names (inner j e at) =
          let shell = shelled j (Source names) at in
          absurd (let f : Source names ≡ Shell shell.is.pearl shell.is.ins = shell.is.is in cc)
      source_at i names (final e is) = absurd (let f : Source names ≡ Sink (root_outputs d) made.are.ins = is in cc)

      sink_at : (i : ℕ) (names : List (List ℕ)) (ins : List InBit) → Standing (root_inputs d) (root_outputs d) made.are.shells made.are.ins i (Sink names ins) → (names ≡ root_outputs d) × AreLed d s cols (map (column []) (root_outputs d)) ins
      sink_at i names ins (first e is) = absurd (let f : Sink names ins ≡ Source (root_inputs d) = is in cc)
      sink_at i names ins (inner j e at) =
          let shell = shelled j (Sink names ins) at in
          absurd (let f : Sink names ins ≡ Shell shell.is.pearl shell.is.ins = shell.is.is in cc)
      sink_at i names ins (final e is) =
          let f : Sink names ins ≡ Sink (root_outputs d) made.are.ins = is in
          let n : names ≡ root_outputs d = cc in
          let x : made.are.ins ≡ ins = cc in
          (n, subst (λ (cs : List Column). AreLed d s cols cs ins) made.outputs.columns_are (subst (λ (xs : List InBit). AreLed d s cols (map (column_at d) made.numbers) xs) x (all_led (length all + 1) made.numbers made.are.ins made.outputs.below made.are.bits)))

  read_in : (c : Channel) (port : ℕ) → Among c channels → Among port c.ports → IsReadBy d (read_at c port)
  read_in c port here there = (leads.exact (read_at c port)).0 (subst (λ (rs : List Read). Among (read_at c port) rs) cut.carry (among_flat reads_in c (read_at c port) channels here (among_map (read_at c) port c.ports there)))

  channel_is : (c : Channel) → Among c channels → IsChannel s c
  channel_is c here =
      let sizes = channel_ports channels c cut.cut here in
      let first = first_port c sizes.0 in
      let read = read_in c first.0 here first.1 in
      let ends = lead_end d read.2.0 read.0 c.from first.0 read.2.1 in
      let from = port_node d ends.0 c.from first.0 ends.1 in
      let to = reader_node d c.to read.0 read.1 in
      let long = nodes_long in
      record {
        comes = omega arith;
        leads = to.0;
        ends = (let most = to.1 in omega arith);
        some = sizes.0;
        few = sizes.1;
        below = all_from_among (λ port. port < length (ports_at s c.from)) c.ports (λ port among.
            let other = read_in c port here among in
            let end = lead_end d other.2.0 other.0 c.from port other.2.1 in
            let inside = slice_get_within (ports_of d c.from) port end.0 end.1 in
            let same : length (ports_of d c.from) ≡ length (ports_at s c.from) = ap length (sym (port_columns c.from from)) ∙ length-map (ports_at s c.from) (column_of d cols) in
            omega arith);
      }

  node_is : (i : ℕ) (node : Node) → slice_get nodes i ≡ Some node → IsNode s i node
  node_is i node here = by (nodes_are i node here)
    where
      shell_ok : (j : ℕ) → i ≡ suc j → (shell : Node) → Shelled j shell → IsNode s i shell
      shell_ok j e shell at =
          let is = at.is in
          let of = is.of in
          let inside = slice_get_within all j at.ports at.here in
          let long = nodes_long in
          let count = are.long in
          let n : j + 1 ≡ i = omega arith in
          let bits = subst (λ (m : ℕ). AreInBits channels origins m at.ports.ins is.ins) n is.bits in
          let a = bits_long channels origins i at.ports.ins is.ins bits in
          let b = sym (length-map at.ports.ins (column_at d)) ∙ ap length (same_inputs d (length (columns d)) j at.ports is.pearl (are.each j at.ports at.here) of) ∙ length-map is.pearl.flat.ins of.col in
          let ok : IsShell s i is.pearl is.ins = record {
            after_source = omega arith;
            before_sink = omega arith;
            rules = of.rules;
            begins = of.begins;
            width = sym a ∙ b;
            reads = bits_read s origins i at.ports.ins is.ins bits;
          } in
          subst (IsNode s i) (sym is.is) ok

      by : Standing (root_inputs d) (root_outputs d) made.are.shells made.are.ins i node → IsNode s i node
      by (first e is) = subst (IsNode s i) (sym is) e
      by (inner j e at) = shell_ok j (omega arith) node (shelled j node at)
      by (final e is) =
          let long = nodes_long in
          let count = are.long in
          let same = shells_are in
          let n : length all + 1 ≡ i = omega arith in
          let bits = subst (λ (m : ℕ). AreInBits channels origins m made.numbers made.are.ins) n made.are.bits in
          let a = bits_long channels origins i made.numbers made.are.ins bits in
          let b = sym (length-map made.numbers (column_at d)) ∙ ap length made.outputs.columns_are ∙ length-map (root_outputs d) (column []) in
          subst (IsNode s i) (sym is) (record {
            last = omega arith;
            width = sym a ∙ b;
            reads = bits_read s origins i made.numbers made.are.ins bits;
          })

  formed : IsWellFormed s
  formed =
      let long = nodes_long in
      record {
        least = omega arith;
        most = omega arith;
        each_node = node_is;
        few = few_channels;
        each_channel = all_from_among (IsChannel s) channels channel_is;
        ascending = channels_rise channels (subst AreAscending (sym cut.carry) leads.ascending) cut.cut;
      }

-- what is joined from the channels of some reads is the system of the design, and well formed
pub joined : (d : Design) (all : List ShellPorts) (origins : List (Option Origin)) (channels seen : List Channel) (nodes : List Node) (reads read : List Read) → ArePortsOf d (length (columns d)) all → AreLeads d origins reads → read ≡ reads → AreChannelsOf read channels → seen ≡ channels → AreNodesOf d all origins seen nodes → length channels ≤ 16384 → IsSystemOf d (record { nodes = nodes; channels = channels }) × IsWellFormed (record { nodes = nodes; channels = channels })
joined d all origins channels seen nodes reads read are leads same cut shown made few =
    let cuts = subst (λ (rs : List Read). AreChannelsOf rs channels) same cut in
    let makes = subst (λ (cs : List Channel). AreNodesOf d all origins cs nodes) shown made in
    (system_is d all origins channels nodes reads are leads cuts makes few are.few, formed d all origins channels nodes reads are leads cuts makes few are.few)
