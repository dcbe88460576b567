-- A shell of a system is made of what stands at its node, and follows each table.
use Rattle.std.proofs.Common.{◌≡◌, ℕ, ◌+◌, ◌<◌, Bool, List, length, map, Some, slice_get, sym, ◌∙◌, ap, subst, arith}
use Rattle.std.specs.List.{AllByRecursion}
use Rattle.std.proofs.lemmas.List.{length-map}
use Rattle.lid_design.specs.declared.Flat.{Flat}
use Rattle.lid_design.specs.Network.{Table}
use Rattle.lid_pearl.specs.Pearls.{View, Shows, Steps}
use Rattle.lid_system.specs.declared.System.{System}
use Rattle.lid_system.specs.declared.Node.TheVariants.{Shell}
use Rattle.lid_system.specs.declared.InBit.{InBit}
use Rattle.lid_system.specs.Systems.{Point, IsWellFormed}
use Rattle.lid_system.specs.Tables.{input_bits, IsTable}
use Rattle.lid_system.proofs.Points.{shell_is}
use Rattle.lid_system.proofs.Shelling.{shell_shows, shell_goes, shell_gives}
use Rattle.lid_shell_nodes.specs.declared.wires.InputRead.{InputRead}
use Rattle.lid_shell_nodes.specs.Nodes.{channels_to, tokens_to, tokens_from}
use Rattle.lid_shell_nodes.specs.Wiring.{ShellView, read_of, IsReadOf, IsPackOf, ports_from, IsShellOf}
use Rattle.lid_shell_nodes.specs.Inside.{bit_read, token_of_bits, AreShellFields}
use Rattle.lid_shell_nodes.proofs.Tokens.{reads_within, bits_are, tokens_are, packs_are, shell_ports, inputs_at}

module _ (s : System) (well : IsWellFormed s) where
  pub shell_kept : (v : ℕ) (pearl : View) (ins : List InBit) → slice_get s.nodes v ≡ Some (Shell pearl ins) → (flat : Flat) (taken : ℕ) (reads : List InputRead) (ports : List (List ℕ)) (inputs outputs : List Bool) → flat ≡ pearl.flat → taken ≡ length (channels_to s.channels v) → reads ≡ map (read_of s.channels v) ins → ports ≡ ports_from s v → length inputs ≡ length ins → length outputs ≡ length flat.outs → AreShellFields (length flat.ins) (length flat.outs) taken reads ports inputs outputs
  shell_kept v pearl ins here flat taken reads ports inputs outputs same many reading from room outs =
      let shell = shell_is s well v pearl ins here in
      let width : length ins ≡ length flat.ins = shell.width ∙ ap (λ (f : Flat). length f.ins) (sym same) in
      record {
        wide = ap length reading ∙ length-map ins (read_of s.channels v) ∙ width;
        reading = subst (λ (n : ℕ). AllByRecursion (IsReadOf n) reads) (sym many) (subst (λ (rs : List InputRead). AllByRecursion (IsReadOf (length (channels_to s.channels v))) rs) (sym reading) (reads_within s well v ins shell.reads));
        packing = subst (λ (ps : List (List ℕ)). AllByRecursion (IsPackOf (length flat.outs)) ps) (sym from) (packs_are s well v (length flat.outs) (shell_ports s v pearl ins here ∙ ap (λ (f : Flat). length f.outs) (sym same)));
        room = room ∙ width;
        outs_room = outs;
      }

  module _ (rows : List (List Bool)) (b : Table Point) (table : IsTable s rows b) (v t : ℕ) (x : ShellView) (is : IsShellOf s b v t x) where
    -- what the pearl's inputs read is the row of the table
    row_is : (taken : List ℕ) → taken ≡ tokens_to s b v t → map (bit_read taken) x.reads ≡ input_bits s b v t
    row_is taken same =
        ap (λ (ts : List ℕ). map (bit_read ts) x.reads) same
        ∙ ap (map (bit_read (tokens_to s b v t))) is.reading
        ∙ bits_are s well v b t is.ins (shell_is s well v is.pearl is.ins is.node).reads
        ∙ sym (inputs_at s b v t (Shell is.pearl is.ins) is.node)

    pub shown_tokens : (outs : List Bool) → t < length rows → Shows x.pearl outs → map (token_of_bits outs) x.ports ≡ tokens_from s b v t
    shown_tokens outs below shows =
        ap (map (token_of_bits outs)) is.from
        ∙ tokens_are s well v b t outs (shell_shows s rows b v is.pearl is.ins is.node table t x.pearl is.flat is.state outs below shows)

    -- a step with what the inputs read goes to the next row
    module _ (taken : List ℕ) (same : taken ≡ tokens_to s b v t) (q : View) (outs : List Bool) (steps : Steps x.pearl (map (bit_read taken) x.reads) q outs) where
      steps_by_row : Steps x.pearl (input_bits s b v t) q outs
      steps_by_row = subst (λ (row : List Bool). Steps x.pearl row q outs) (row_is taken same) steps

      pub shell_follows : t < length rows → IsShellOf s b v (t + 1) (record x { pearl = q })
      shell_follows below =
          let next = shell_goes s rows b v is.pearl is.ins is.node table t x.pearl is.flat is.state well q outs below steps_by_row in
          record { pearl = is.pearl; ins = is.ins; node = is.node; flat = next.0; state = next.1; many = is.many; reading = is.reading; from = is.from }

      pub next_tokens : t + 1 < length rows → map (token_of_bits outs) x.ports ≡ tokens_from s b v (t + 1)
      next_tokens next =
          let below : t < length rows = omega arith in
          ap (map (token_of_bits outs)) is.from
          ∙ tokens_are s well v b (t + 1) outs (shell_gives s rows b v is.pearl is.ins is.node table t x.pearl is.flat is.state well q outs below steps_by_row next)
