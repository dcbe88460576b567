-- The shells that are made are those of a system.
use Rattle.std.proofs.Common.{◌≡◌, ℕ, zero, suc, ◌+◌, ◌<◌, ◌⊎◌, inl, inr, Bool, true, false, List, [], length, get_or, map, Option, Some, option_map, slice_get, refl, sym, ◌∙◌, ap, subst, arith}
use Rattle.std.specs.Option.{option_map_or}
use Rattle.std.specs.List.{AllByRecursion}
use Rattle.std.proofs.lemmas.List.{length-map}
use Rattle.std.proofs.lemmas.Option.{slice_get-map, slice_get-get_or}
use Rattle.lid_base.specs.Lists.{Among}
use Rattle.lid_base.proofs.Lists.{all_at}
use Rattle.lid_design.specs.declared.Design.{Design}
use Rattle.lid_design.specs.declared.Flat.{Flat}
use Rattle.lid_design.specs.declared.FlatCover.{FlatCover}
use Rattle.lid_design.specs.Flat.{IsFlat}
use Rattle.lid_pearl.specs.Pearls.{View, Shows}
use Rattle.lid_system.specs.declared.System.{System}
use Rattle.lid_system.specs.declared.Node.TheVariants as node
use Rattle.lid_system.specs.declared.InBit.{InBit}
use Rattle.lid_system.specs.Systems.{IsWellFormed, IsShell}
use Rattle.lid_net_law.specs.Agreement.{IsSystemOf}
use Rattle.lid_net_law.proofs.Leading.{passed_value}
use Rattle.lid_check_rules.specs.Buffers.{passes_on}
use Rattle.lid_stations.specs.declared.placement.Placement.{Placement}
use Rattle.lid_stations.specs.Placements.{Fits}
use Rattle.lid_emit_circuit.specs.Wires as circuit
use Rattle.lid_emit_circuit.specs.Carried.{AreWired, PassesNet, MakesNet}
use Rattle.lid_emit_system.specs.Nets.{read_wire, AreNetsOf}
use Rattle.lid_emit_system.specs.Wrapping.{no_flat}
use Rattle.lid_check.specs.Flats.{IsFlatOf}
use Rattle.lid_emit_cells.specs.declared.wire.Wire.{Wire}
use Rattle.lid_emit_cells.specs.declared.shell.Shell.{Shell}
use Rattle.lid_emit_cells.specs.Shown.{wire_of}
use Rattle.lid_emit_cells.specs.Matches.{IsWhole}
use Rattle.lid_emit_shells.specs.declared.shells.Shells.{Shells}
use Rattle.lid_emit_shells.specs.Reading.{lasts_from, ReadsBelow, wire_by}
use Rattle.lid_emit_shells.specs.Filling.{here_of, after_of, skips_of, shell_of}
use Rattle.lid_emit_shells.specs.Making.{IsMadeShell, AreBegun}
use Rattle.lid_emit_shells.specs.Shells.{wire_in, nets_of, AreShells}
use Rattle.lid_emit_shells.proofs.Standing.{length_here, length_after, length_skips, input_here, input_after, latch_here, latch_after, cover_rules, cover_skips, one_net, passes_here, passes_after, makes_here, makes_after}
use Rattle.lid_emit_shells.proofs.Lasting.{told_wire, reads_below}
use Rattle.lid_emit_shells.proofs.Widths.{as_many_inputs, as_many_outputs}

-- what a shell has, where there is one
abbrev flat_by : Option Shell → Flat
flat_by o = option_map_or (λ shell. shell.flat) o no_flat

abbrev here_by : Option Shell → ℕ → circuit.Wire
here_by o k = option_map_or (λ shell. wire_in shell.here k) o circuit.offer

abbrev after_by : Option Shell → ℕ → circuit.Wire
after_by o k = option_map_or (λ shell. wire_in shell.after k) o circuit.offer

abbrev skips_by : Option Shell → ℕ → Bool
skips_by o k = option_map_or (λ shell. get_or shell.skips k false) o false

record HasWires (p : Placement) (v : ℕ) (pearl : View) (ins : List InBit) (o : Option Shell) : Type 0 where
  pub rules : IsFlat (flat_by o)
  pub width : length ins ≡ length (flat_by o).ins
  pub outs : length (flat_by o).outs ≡ length pearl.flat.outs
  pub inputs :
      (j k : ℕ) (x : InBit)
      → slice_get (flat_by o).ins j ≡ Some k → slice_get ins j ≡ Some x
      → (here_by o k ≡ read_wire p x) × (after_by o k ≡ read_wire p x)
  pub wired : AreWired v (flat_by o) (here_by o) (after_by o) (skips_by o)
  pub skipped : (c : FlatCover) → Among c (flat_by o).covers → skips_by o c.out ≡ passes_on c.cover

module _ (v : ℕ) (f : Flat) (rules : IsFlat f) (p : Placement) (ins : List InBit) (width : length ins ≡ length f.ins) (below : AllByRecursion (ReadsBelow (length p.relays)) ins) where
  abbrev lasts : List ℕ
  lasts = lasts_from 0 p.relays

  abbrev reads : List Wire
  reads = map (wire_by lasts) ins

  long : length reads ≡ length f.ins
  long = length-map ins (wire_by lasts) ∙ width

  abbrev here : ℕ → circuit.Wire
  here k = wire_in (here_of v f reads) k

  abbrev after : ℕ → circuit.Wire
  after k = wire_in (after_of v f reads (here_of v f reads)) k

  abbrev skips : ℕ → Bool
  skips k = get_or (skips_of f) k false

  pub whole : IsWhole (shell_of v f lasts ins)
  whole = record { rules = rules; here = length_here v f rules reads long; after = length_after v f rules reads long; skips = length_skips v f rules reads long }

  read_at : (j : ℕ) (x : InBit) → slice_get ins j ≡ Some x → slice_get reads j ≡ Some (wire_by lasts x)
  read_at j x there = slice_get-map (wire_by lasts) ins j ∙ ap (option_map (wire_by lasts)) there

  inputs : (j k : ℕ) (x : InBit) → slice_get f.ins j ≡ Some k → slice_get ins j ≡ Some x → (here k ≡ read_wire p x) × (after k ≡ read_wire p x)
  inputs j k x net there =
      let told = told_wire p x (all_at (ReadsBelow (length p.relays)) ins j x below there) in (
        ap wire_of (input_here v f rules reads long j k (wire_by lasts x) net (read_at j x there)) ∙ told,
        ap wire_of (input_after v f rules reads long j k (wire_by lasts x) net (read_at j x there)) ∙ told,
      )

  cover : (c : FlatCover) → Among c f.covers → PassesNet here after skips c ⊎ MakesNet v here after skips c
  cover c there = by (passes_on c.cover) refl
    where
      by : (b : Bool) → passes_on c.cover ≡ b → PassesNet here after skips c ⊎ MakesNet v here after skips c
      by true passes =
          let net = one_net c (cover_rules v f rules reads long c there) passes in
          inl (record {
            net = net.0;
            skipped = cover_skips v f rules reads long c there ∙ passes;
            reads = net.1;
            passes = passed_value c.cover passes;
            as_here = ap wire_of (passes_here v f rules reads long c there passes net.0 net.1);
            as_after = ap wire_of (passes_after v f rules reads long c there passes net.0 net.1);
          })
      by false makes = inr (record {
        made = cover_skips v f rules reads long c there ∙ makes;
        by_now = ap wire_of (makes_here v f rules reads long c there makes);
        by_later = ap wire_of (makes_after v f rules reads long c there makes);
      })

  wired : AreWired v f here after skips
  wired = record {
    latches = λ l there. (ap wire_of (latch_here v f rules reads long l there), ap wire_of (latch_after v f rules reads long l there));
    covers = cover;
  }

  has_wires : (pearl : View) → length f.outs ≡ length pearl.flat.outs → HasWires p v pearl ins (Some (shell_of v f lasts ins))
  has_wires pearl outs = record { rules = rules; width = width; outs = outs; inputs = inputs; wired = wired; skipped = cover_skips v f rules reads long }

spare : Shell
spare = record { flat = no_flat; here = []; after = []; skips = [] }

-- the widths of a pearl at a node and of its flat part
pub width_at : (d : Design) (s : System) → IsSystemOf d s → IsWellFormed s → (v : ℕ) (pearl : View) (ins : List InBit) → slice_get s.nodes v ≡ Some (node.Shell pearl ins) → (number : ℕ) → v ≡ number + 1 → (f : Flat) → IsFlatOf d number f → length ins ≡ length f.ins
width_at d s of well v pearl ins at number place f part =
    let is : IsShell s v pearl ins = well.each_node v (node.Shell pearl ins) at in
    is.width ∙ sym (as_many_inputs d s of v pearl ins at number place f part)

pub below_at : (s : System) → IsWellFormed s → (v : ℕ) (pearl : View) (ins : List InBit) → slice_get s.nodes v ≡ Some (node.Shell pearl ins) → (n : ℕ) → length s.channels ≡ n → AllByRecursion (ReadsBelow n) ins
below_at s well v pearl ins at n many =
    let is : IsShell s v pearl ins = well.each_node v (node.Shell pearl ins) at in
    reads_below s v n ins many is.reads

module _ (d : Design) (s : System) (of : IsSystemOf d s) (well : IsWellFormed s) (p : Placement) (fits : Fits s p) (all : Shells)
    (count : length s.nodes ≡ length all.shells + 2)
    (begun : length s.nodes ≡ length all.begins + 2)
    (shells : (i : ℕ) (shell : Shell) → slice_get all.shells i ≡ Some shell → IsMadeShell d s (lasts_from 0 p.relays) (i + 1) shell)
    (begins : (i : ℕ) (bits : List Bool) → slice_get all.begins i ≡ Some bits → AreBegun s (i + 1) bits) where
  channels : length s.channels ≡ length p.relays
  channels = sym fits.counts

  whole_at : (i : ℕ) (shell : Shell) → slice_get all.shells i ≡ Some shell → IsWhole shell
  whole_at i shell there =
      let made = shells i shell there in
      subst IsWhole (sym made.made)
      (whole (i + 1) made.flat made.rules p made.ins (width_at d s of well (i + 1) made.pearl made.ins made.at made.number made.place made.flat made.part) (below_at s well (i + 1) made.pearl made.ins made.at (length p.relays) channels))

  -- the shell that was made for a node
  record Found (i v : ℕ) (pearl : View) (ins : List InBit) : Type 0 where
    pub flat : Flat
    pub rules : IsFlat flat
    pub number : ℕ
    pub place : v ≡ number + 1
    pub part : IsFlatOf d number flat
    pub there : slice_get all.shells i ≡ Some (shell_of v flat (lasts_from 0 p.relays) ins)

  found : (i v : ℕ) → i + 1 ≡ v → i < length all.shells → (pearl : View) (ins : List InBit) → slice_get s.nodes v ≡ Some (node.Shell pearl ins) → Found i v pearl ins
  found i v next less pearl ins at =
      let shell = get_or all.shells i spare in
      let there : slice_get all.shells i ≡ Some shell = slice_get-get_or all.shells i spare less in
      let made : IsMadeShell d s (lasts_from 0 p.relays) v shell = subst (λ (n : ℕ). IsMadeShell d s (lasts_from 0 p.relays) n shell) next (shells i shell there) in
      let same : Some (node.Shell made.pearl made.ins) ≡ Some (node.Shell pearl ins) = sym made.at ∙ at in
      let same_ins : made.ins ≡ ins = (let e = same in cc) in
      record {
        flat = made.flat;
        rules = made.rules;
        number = made.number;
        place = made.place;
        part = made.part;
        there = there ∙ ap (λ (x : Shell). Some x) (made.made ∙ ap (shell_of v made.flat (lasts_from 0 p.relays)) same_ins);
      }

  shows_at : (i v : ℕ) → i + 1 ≡ v → i < length all.begins → (pearl : View) (ins : List InBit) → slice_get s.nodes v ≡ Some (node.Shell pearl ins) → Shows pearl (get_or all.begins i [])
  shows_at i v next less pearl ins at =
      let begun : AreBegun s v (get_or all.begins i []) = subst (λ (n : ℕ). AreBegun s n (get_or all.begins i [])) next (begins i (get_or all.begins i []) (slice_get-get_or all.begins i [] less)) in
      let same : Some (node.Shell begun.pearl begun.ins) ≡ Some (node.Shell pearl ins) = sym begun.at ∙ at in
      let same_pearl : begun.pearl ≡ pearl = (let e = same in cc) in
      subst (λ (x : View). Shows x (get_or all.begins i [])) same_pearl begun.shown

  wires_at : (i : ℕ) (pearl : View) (ins : List InBit) → slice_get s.nodes (suc i) ≡ Some (node.Shell pearl ins) → IsShell s (suc i) pearl ins → HasWires p (suc i) pearl ins (slice_get all.shells i)
  wires_at i pearl ins at is =
      let next : i + 1 ≡ suc i = omega arith in
      let high = is.before_sink in
      let f = found i (suc i) next (omega (arith, count)) pearl ins at in
      let width = width_at d s of well (suc i) pearl ins at f.number f.place f.flat f.part in
      let outs = as_many_outputs d s of (suc i) pearl ins at f.number f.place f.flat f.part in
      subst (HasWires p (suc i) pearl ins) (sym f.there) (has_wires (suc i) f.flat f.rules p ins width (below_at s well (suc i) pearl ins at (length p.relays) channels) pearl outs)

  nets_at : (v : ℕ) (pearl : View) (ins : List InBit) → slice_get s.nodes v ≡ Some (node.Shell pearl ins) → IsShell s v pearl ins → AreNetsOf p (nets_of all) v pearl ins
  nets_at zero pearl ins at is = absurd (let low = is.after_source in omega arith)
  nets_at (suc i) pearl ins at is =
      let next : i + 1 ≡ suc i = omega arith in
      let high = is.before_sink in
      let has = wires_at i pearl ins at is in
      record {
        rules = has.rules;
        width = has.width;
        outs = has.outs;
        inputs = has.inputs;
        wired = has.wired;
        begins = shows_at i (suc i) next (omega (arith, begun)) pearl ins at;
      }

  skips_at : (v : ℕ) (pearl : View) (ins : List InBit) → slice_get s.nodes v ≡ Some (node.Shell pearl ins) → IsShell s v pearl ins → (c : FlatCover) → Among c ((nets_of all).flat v).covers → (nets_of all).skips v c.out ≡ passes_on c.cover
  skips_at zero pearl ins at is = absurd (let low = is.after_source in omega arith)
  skips_at (suc i) pearl ins at is = (wires_at i pearl ins at is).skipped

  flats_at : (v : ℕ) (pearl : View) (ins : List InBit) → slice_get s.nodes v ≡ Some (node.Shell pearl ins) → IsShell s v pearl ins → (number : ℕ) × (v ≡ number + 1) × IsFlatOf d number ((nets_of all).flat v)
  flats_at zero pearl ins at is = absurd (let low = is.after_source in omega arith)
  flats_at (suc i) pearl ins at is =
      let next : i + 1 ≡ suc i = omega arith in
      let high = is.before_sink in
      let f = found i (suc i) next (omega (arith, count)) pearl ins at in
      (f.number, f.place, subst (λ (o : Option Shell). IsFlatOf d f.number (flat_by o)) (sym f.there) f.part)

  pub are_shells : AreShells d s p all
  are_shells = record {
    count = count;
    begins = (let a = count in let b = begun in omega arith);
    whole = whole_at;
    nets = λ v pearl ins at. nets_at v pearl ins at (well.each_node v (node.Shell pearl ins) at);
    flats = λ v pearl ins at. flats_at v pearl ins at (well.each_node v (node.Shell pearl ins) at);
    skipped = λ v pearl ins at. skips_at v pearl ins at (well.each_node v (node.Shell pearl ins) at);
  }
