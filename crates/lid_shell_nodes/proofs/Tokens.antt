-- Nodes read the bits of their inputs from the tokens that they take, and the bits of their ports, packed, are
-- the tokens that they put.
use Rattle.std.proofs.Common.{◌≡◌, ℕ, zero, suc, ◌<◌, ◌==◌, Bool, true, false, cond, List, [], ◌∷◌, length, take, get_or, map, Some, None, slice_get, refl, sym, ◌∙◌, ap, subst, eq-eqb, arith}
use Rattle.std.specs.List.{AllByRecursion}
use Rattle.std.specs.Option.{option_map_or}
use Rattle.std.proofs.lemmas.Bool.{eqb-true}
use Rattle.std.proofs.lemmas.List.{length-map}
use Rattle.std.proofs.lemmas.Option.{slice_get-get_or, get_or_from_slice_get, slice_get_within}
use Rattle.lid_base.proofs.Lists.{all_at}
use Rattle.lid_design.specs.Network.{Table}
use Rattle.lid_pearl.specs.Pearls.{View}
use Rattle.lid_strict_engine.specs.Truth.{is_set}
use Rattle.lid_system.specs.declared.System.{System}
use Rattle.lid_system.specs.declared.Node.{Node}
use Rattle.lid_system.specs.declared.Node.TheVariants.{Source, Shell, Sink}
use Rattle.lid_system.specs.declared.Channel.{Channel}
use Rattle.lid_system.specs.declared.InBit.{InBit}
use Rattle.lid_system.specs.declared.InBit.TheVariants as bit
use Rattle.lid_system.specs.Systems.{Point, source_port, shell_net, ports_of, ports_at, IsRead, IsChannel, IsWellFormed}
use Rattle.lid_system.specs.Tables.{in_bit, input_reads, input_bits, port_bits}
use Rattle.lid_system.specs.Streams.{token_at}
use Rattle.lid_system.proofs.Streaming.{unpacked_bit, packed_token}
use Rattle.lid_shell_nodes.specs.declared.wires.InputRead.{InputRead}
use Rattle.lid_shell_nodes.specs.Nodes.{channels_to, channels_from, tokens_to, tokens_from}
use Rattle.lid_shell_nodes.specs.Wiring.{place_to, read_of, IsReadOf, IsPackOf, ports_from}
use Rattle.lid_shell_nodes.specs.Inside.{bit_read, token_of_bits, ReadsBelow}
use Rattle.lid_base.proofs.Places.{get_map}
use Rattle.lid_base.proofs.Each.{each_length}

-- a channel that leads to a node stands at its place
place_get : (v : ℕ) (channels : List Channel) (chan : ℕ) (c : Channel) → slice_get channels chan ≡ Some c → (c.to == v) ≡ true → slice_get (channels_to channels v) (place_to channels v chan) ≡ Some c
place_get v [] chan c here leads = absurd (let e : None ≡ Some c = here in cc)
place_get v (d ∷ channels) zero c here leads =
    let same : d ≡ c = (let e : Some d ≡ Some c = here in cc) in
    let leads' : (d.to == v) ≡ true = ap (λ (x : Channel). x.to == v) same ∙ leads in
    ap (λ (k : Bool). slice_get (cond k (d ∷ channels_to channels v) (channels_to channels v)) 0) leads' ∙ ap Some same
place_get v (d ∷ channels) (suc i) c here leads = by (d.to == v) (place_get v channels i c here leads)
  where
    by : (k : Bool) → slice_get (channels_to channels v) (length (channels_to (take i channels) v)) ≡ Some c → slice_get (cond k (d ∷ channels_to channels v) (channels_to channels v)) (length (cond k (d ∷ channels_to (take i channels) v) (channels_to (take i channels) v))) ≡ Some c
    by true next = next
    by false next = next

module _ (s : System) (well : IsWellFormed s) (v : ℕ) where
  -- each input reads a token that is taken
  pub reads_placed : (ins : List InBit) → AllByRecursion (IsRead s v) ins → AllByRecursion (ReadsBelow (length s.channels)) ins
  reads_placed [] all = tt
  reads_placed (bit.Const value ∷ ins) all = (tt, reads_placed ins all.1)
  reads_placed (bit.Port chan k ∷ ins) all = (slice_get_within s.channels chan all.0.0 all.0.1, reads_placed ins all.1)

  place_of : (chan : ℕ) (c : Channel) → slice_get s.channels chan ≡ Some c → c.to ≡ v → slice_get (channels_to s.channels v) (place_to s.channels v chan) ≡ Some c
  place_of chan c here leads = place_get v s.channels chan c here (eq-eqb c.to v leads)

  read_within : (x : InBit) → IsRead s v x → IsReadOf (length (channels_to s.channels v)) (read_of s.channels v x)
  read_within (bit.Const value) read = tt
  read_within (bit.Port chan k) read =
      let few = (all_at (IsChannel s) s.channels chan read.0 well.each_channel read.1).few in
      let below : k < length read.0.ports = read.3 in
      (slice_get_within (channels_to s.channels v) (place_to s.channels v chan) read.0 (place_of chan read.0 read.1 read.2), omega arith)

  pub reads_within : (ins : List InBit) → AllByRecursion (IsRead s v) ins → AllByRecursion (IsReadOf (length (channels_to s.channels v))) (map (read_of s.channels v) ins)
  reads_within [] all = tt
  reads_within (x ∷ ins) all = (read_within x all.0, reads_within ins all.1)

  -- and its bit is that of the input in the row
  module _ (b : Table Point) (t : ℕ) where
    bit_is : (x : InBit) → IsRead s v x → bit_read (tokens_to s b v t) (read_of s.channels v x) ≡ in_bit s b t x
    bit_is (bit.Const value) read = refl
    bit_is (bit.Port chan k) read =
        let place = place_to s.channels v chan in
        let here = get_map (λ (c : Channel). token_at s b c t) (channels_to s.channels v) place read.0 (place_of chan read.0 read.1 read.2) in
        ap (λ (token : ℕ). is_set token k) (get_or_from_slice_get (tokens_to s b v t) place (token_at s b read.0 t) 0 here)
        ∙ unpacked_bit s b t chan k read.0 read.1 read.3

    pub bits_are : (ins : List InBit) → AllByRecursion (IsRead s v) ins → map (bit_read (tokens_to s b v t)) (map (read_of s.channels v) ins) ≡ map (in_bit s b t) ins
    bits_are [] all = refl
    bits_are (x ∷ ins) all =
        let head = bit_is x all.0 in
        let tail = bits_are ins all.1 in
        cc

    -- the ports' bits, packed, are the tokens that are put
    packed_are : (channels : List Channel) → AllByRecursion (IsChannel s) channels → map (token_of_bits (port_bits s b v t)) (map (λ c. c.ports) (channels_from channels v)) ≡ map (λ c. token_at s b c t) (channels_from channels v)
    packed_are [] all = refl
    packed_are (c ∷ channels) all = by (c.from == v) refl (packed_are channels all.1)
      where
        token : (c.from == v) ≡ true → token_of_bits (port_bits s b v t) c.ports ≡ token_at s b c t
        token e = ap (λ (i : ℕ). token_of_bits (port_bits s b i t) c.ports) (sym (eqb-true c.from v e)) ∙ packed_token s b t c all.0

        by : (k : Bool) → (c.from == v) ≡ k → map (token_of_bits (port_bits s b v t)) (map (λ c. c.ports) (channels_from channels v)) ≡ map (λ c. token_at s b c t) (channels_from channels v) → map (token_of_bits (port_bits s b v t)) (map (λ c. c.ports) (cond k (c ∷ channels_from channels v) (channels_from channels v))) ≡ map (λ c. token_at s b c t) (cond k (c ∷ channels_from channels v) (channels_from channels v))
        by true e next = let head = token e in cc
        by false e next = next

    pub tokens_are : (bits : List Bool) → bits ≡ port_bits s b v t → map (token_of_bits bits) (ports_from s v) ≡ tokens_from s b v t
    tokens_are bits is = ap (λ (bits : List Bool). map (token_of_bits bits) (ports_from s v)) is ∙ packed_are s.channels well.each_channel

  -- the ports of each channel are among those of its node
  packs_within : (channels : List Channel) → AllByRecursion (IsChannel s) channels → AllByRecursion (IsPackOf (length (ports_at s v))) (map (λ c. c.ports) (channels_from channels v))
  packs_within [] all = tt
  packs_within (c ∷ channels) all = by (c.from == v) refl (packs_within channels all.1)
    where
      by : (k : Bool) → (c.from == v) ≡ k → AllByRecursion (IsPackOf (length (ports_at s v))) (map (λ c. c.ports) (channels_from channels v)) → AllByRecursion (IsPackOf (length (ports_at s v))) (map (λ c. c.ports) (cond k (c ∷ channels_from channels v) (channels_from channels v)))
      by true e next =
          (record { few = all.0.few; below = subst (λ (i : ℕ). AllByRecursion (λ port. port < length (ports_at s i)) c.ports) (eqb-true c.from v e) all.0.below }, next)
      by false e next = next

  pub packs_are : (width : ℕ) → length (ports_at s v) ≡ width → AllByRecursion (IsPackOf width) (ports_from s v)
  packs_are width is = subst (λ (n : ℕ). AllByRecursion (IsPackOf n) (ports_from s v)) is (packs_within s.channels well.each_channel)

-- how many ports a node has
pub source_ports : (s : System) (columns : List (List ℕ)) → slice_get s.nodes 0 ≡ Some (Source columns) → length (ports_at s 0) ≡ length columns
source_ports s columns here = ap (λ o. length (option_map_or (ports_of 0) o [])) here ∙ each_length source_port 0 (length columns)

pub shell_ports : (s : System) (v : ℕ) (pearl : View) (ins : List InBit) → slice_get s.nodes v ≡ Some (Shell pearl ins) → length (ports_at s v) ≡ length pearl.flat.outs
shell_ports s v pearl ins here = ap (λ o. length (option_map_or (ports_of v) o [])) here ∙ length-map pearl.flat.outs (shell_net v)

-- the bits of a node's inputs, by what it is
pub inputs_at : (s : System) (b : Table Point) (v t : ℕ) (node : Node) → slice_get s.nodes v ≡ Some node → input_bits s b v t ≡ map (in_bit s b t) (input_reads node)
inputs_at s b v t node here = ap (λ o. map (in_bit s b t) (option_map_or input_reads o [])) here

-- what was read at a place of the nodes
pub node_here : (nodes seen : List Node) (i : ℕ) (node x : Node) → seen ≡ nodes → i < length nodes → node ≡ get_or seen i node → node ≡ x → slice_get nodes i ≡ Some x
node_here nodes seen i node x same below read is =
    slice_get-get_or nodes i node below ∙ ap Some (ap (λ (ns : List Node). get_or ns i node) (sym same) ∙ sym read ∙ is)

-- the inputs of a sink read tokens that are taken
pub sink_within : (s : System) (well : IsWellFormed s) (v : ℕ) (columns : List (List ℕ)) (ins : List InBit) → slice_get s.nodes v ≡ Some (Sink columns ins) → (taken : ℕ) (reads : List InputRead) → taken ≡ length (channels_to s.channels v) → reads ≡ map (read_of s.channels v) ins → AllByRecursion (IsReadOf taken) reads
sink_within s well v columns ins here taken reads many reading =
    subst (λ (n : ℕ). AllByRecursion (IsReadOf n) reads) (sym many)
    (subst (λ (rs : List InputRead). AllByRecursion (IsReadOf (length (channels_to s.channels v))) rs) (sym reading)
    (reads_within s well v ins (well.each_node v (Sink columns ins) here).reads))
