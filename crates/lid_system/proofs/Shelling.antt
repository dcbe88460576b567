-- The nets of a shell are a strict table of its flat part, so its pearl follows them.
use Rattle.std.proofs.Common.{◌≡◌, ℕ, zero, suc, ◌+◌, ◌<◌, Bool, true, false, List, [], length, get_or, map, Some, slice_get, refl, sym, ◌∙◌, ap, subst, arith}
use Rattle.std.specs.Option.{option_map_or}
use Rattle.std.proofs.lemmas.List.{length-map}
use Rattle.std.proofs.lemmas.Simd.{map-map}
use Rattle.std.proofs.Math.ListN.{get_or-map}
use Rattle.lid_base.proofs.Lists.{all_among}
use Rattle.lid_cover.specs.Cover.{cover_value}
use Rattle.lid_design.specs.declared.Flat.{Flat}
use Rattle.lid_design.specs.Network.{Driver, from_input, from_latch, from_cover, from_connection, Table, bit_of, IsStrict}
use Rattle.lid_base.specs.Each.{from_each}
use Rattle.lid_design.specs.Flat.{flat_drivers, state_at}
use Rattle.lid_pearl.specs.Pearls.{View, Shows, Steps}
use Rattle.lid_pearl.proofs.Following.{shown_outs, next_state, next_outs}
use Rattle.lid_system.specs.declared.System.{System}
use Rattle.lid_system.specs.declared.Node.TheVariants.{Shell}
use Rattle.lid_system.specs.declared.InBit.{InBit}
use Rattle.lid_system.specs.declared.InBit.TheVariants.{Const, Port}
use Rattle.lid_system.specs.Systems.{Point, shell_net, ports_of, IsWellFormed}
use Rattle.lid_system.specs.Tables.{constant, driver_of, in_shell, in_bit, input_reads, input_bits, port_bits, nets_of, system_drivers, IsTable}
use Rattle.lid_system.proofs.Points.{shell_drives, shell_is}
use Rattle.lid_base.proofs.Alls.{all_from_among}
use Rattle.lid_base.proofs.Each.{each_length, each_get, each_at}

constant_value : (bit : Bool) → cover_value (constant bit) [] ≡ bit
unfolding cover_value
constant_value true = refl
constant_value false = refl

module _ (s : System) (rows : List (List Bool)) (b : Table Point) (i : ℕ) (pearl : View) (ins : List InBit) (here : slice_get s.nodes i ≡ Some (Shell pearl ins)) where
  -- the rows that a shell is given
  abbrev pub given : List (List Bool)
  given = from_each (input_bits s b i) 0 (length rows)

  abbrev nets : Table ℕ
  nets = nets_of b i

  inputs_are : (t : ℕ) → input_bits s b i t ≡ map (in_bit s b t) ins
  inputs_are t = ap (λ o. map (in_bit s b t) (option_map_or input_reads o [])) here

  pub ports_are : (t : ℕ) → port_bits s b i t ≡ map (nets t) pearl.flat.outs
  ports_are t = ap (λ o. map (b t) (option_map_or (ports_of i) o [])) here ∙ map-map (b t) (shell_net i) pearl.flat.outs

  pub read_bit : (t : ℕ) (x : InBit) → bit_of rows b t (driver_of s x) ≡ in_bit s b t x
  read_bit t (Const bit) = constant_value bit
  read_bit t (Port chan bit) = refl

  given_bit : (t j : ℕ) → t < length rows → in_bit s b t (get_or ins j (Const false)) ≡ get_or (get_or given t []) j false
  given_bit t j below =
      let row : get_or given t [] ≡ input_bits s b i (0 + t) = each_at (input_bits s b i) 0 (length rows) t [] below in
      let place : 0 + t ≡ t = omega arith in
      let at : get_or (map (in_bit s b t) ins) j false ≡ in_bit s b t (get_or ins j (Const false)) = get_or-map (in_bit s b t) ins j (Const false) in
      sym at ∙ ap (λ (bits : List Bool). get_or bits j false) (sym (row ∙ ap (input_bits s b i) place ∙ inputs_are t))

  same_bit_of : (t : ℕ) (d : Driver ℕ) → t < length rows → bit_of rows b t (in_shell s i ins d) ≡ bit_of given nets t d
  same_bit_of t (from_input j) below = read_bit t (get_or ins j (Const false)) ∙ given_bit t j below
  same_bit_of zero (from_latch first input) below = refl
  same_bit_of (suc t) (from_latch first input) below = refl
  same_bit_of t (from_cover cover ks) below = ap (cover_value cover) (map-map (b t) (shell_net i) ks)
  same_bit_of t (from_connection k) below = refl

  module _ (table : IsTable s rows b) where
    pub shell_table : IsStrict (flat_drivers pearl.flat) given nets
    shell_table t k below =
        let within : t < length rows = subst (λ (n : ℕ). t < n) (each_length (input_bits s b i) 0 (length rows)) below in
        all_from_among (λ d. nets t k ≡ bit_of given nets t d) (flat_drivers pearl.flat k)
        (λ d among. all_among (λ r. b t (shell_net i k) ≡ bit_of rows b t r) (system_drivers s (shell_net i k)) (in_shell s i ins d) (table t (shell_net i k) within) (shell_drives s i k pearl ins here d among)
        ∙ same_bit_of t d within)

    module _ (t : ℕ) (p : View) (flat : p.flat ≡ pearl.flat) (state : p.state ≡ state_at pearl.flat nets t) where
      table_of_p : IsStrict (flat_drivers p.flat) given nets
      table_of_p = subst (λ (f : Flat). IsStrict (flat_drivers f) given nets) (sym flat) shell_table

      state_of_p : p.state ≡ state_at p.flat nets t
      state_of_p = state ∙ ap (λ (f : Flat). state_at f nets t) (sym flat)

      within : (u : ℕ) → u < length rows → u < length given
      within u below = subst (λ (n : ℕ). u < n) (sym (each_length (input_bits s b i) 0 (length rows))) below

      outs_of_p : (u : ℕ) → map (nets u) p.flat.outs ≡ port_bits s b i u
      outs_of_p u = ap (λ (f : Flat). map (nets u) f.outs) flat ∙ sym (ports_are u)

      pub shell_shows : (outs : List Bool) → t < length rows → Shows p outs → outs ≡ port_bits s b i t
      shell_shows outs below shows = shown_outs p given nets t outs table_of_p (within t below) state_of_p shows ∙ outs_of_p t

      module _ (well : IsWellFormed s) (q : View) (outs : List Bool) (below : t < length rows) (steps : Steps p (input_bits s b i t) q outs) where
        row : slice_get given t ≡ Some (input_bits s b i t)
        row = let place : 0 + t ≡ t = omega arith in each_get (input_bits s b i) 0 (length rows) t below ∙ ap (λ (u : ℕ). Some (input_bits s b i u)) place

        wide : length (input_bits s b i t) ≡ length p.flat.ins
        wide = ap length (inputs_are t) ∙ length-map ins (in_bit s b t) ∙ (shell_is s well i pearl ins here).width ∙ ap (λ (f : Flat). length f.ins) (sym flat)

        pub shell_goes : (q.flat ≡ pearl.flat) × (q.state ≡ state_at pearl.flat nets (t + 1))
        shell_goes =
            let is : q.flat ≡ pearl.flat = steps.flat ∙ flat in
            (is, next_state p q given nets t (input_bits s b i t) outs table_of_p row wide state_of_p steps ∙ ap (λ (f : Flat). state_at f nets (t + 1)) is)

        pub shell_gives : t + 1 < length rows → outs ≡ port_bits s b i (t + 1)
        shell_gives next =
            next_outs p q given nets t (input_bits s b i t) outs table_of_p row wide state_of_p steps (within (t + 1) next) ∙ outs_of_p (t + 1)
