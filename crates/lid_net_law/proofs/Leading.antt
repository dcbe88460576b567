-- What is led back has the same bit in each row of a strict table.
use Rattle.std.proofs.Common.{◌≡◌, ℕ, zero, suc, ◌<◌, Bool, true, false, List, [], ◌∷◌, length, get_or, map, Some, slice_get, subst, inl, inr, refl, sym, ◌∙◌, ap, arith}
use Rattle.std.proofs.lemmas.List.{length-map, get_or-map}
use Rattle.std.proofs.lemmas.Option.{get_or_from_slice_get, slice_get_within}
use Rattle.lid_base.specs.Lists.{Among}
use Rattle.lid_base.proofs.Lists.{all_among}
use Rattle.lid_cover.specs.declared.Cover.{Cover}
use Rattle.lid_cover.specs.Cover.{cover_value}
use Rattle.lid_design.specs.declared.Design.{Design}
use Rattle.lid_design.specs.Network.{Driver, from_cover, from_connection, Table, bit_of, IsStrict}
use Rattle.lid_design.specs.Columns.{Column, drivers}
use Rattle.lid_system.specs.declared.System.{System}
use Rattle.lid_system.specs.declared.InBit.{InBit}
use Rattle.lid_system.specs.declared.InBit.TheVariants.{Const, Port}
use Rattle.lid_system.specs.declared.Channel.{Channel}
use Rattle.lid_system.specs.Systems.{source_port, ports_at}
use Rattle.lid_system.specs.Tables.{in_bit, carried_at}
use Rattle.lid_system.proofs.Points.{carried_is}
use Rattle.lid_check_rules.specs.Buffers.{passes_on}
use Rattle.lid_check_rules.proofs.Buffers.{passed_on}
use Rattle.lid_net_law.specs.Agreement.{column_of, seen, LeadsBack, AreLed}
use Rattle.lid_net_law.specs.Ports.{IsPassedOn}

pub passed_value : (cover : Cover) → passes_on cover ≡ true → (bit : Bool) → cover_value cover (bit ∷ []) ≡ bit
passed_value cover passes true = (passed_on cover passes).2
passed_value cover passes false = (passed_on cover passes).1

module _ (d : Design) (s : System) (columns : ℕ → ℕ → Column) (rows : List (List Bool)) (b : Table Column) (strict : IsStrict (drivers d) rows b) (t : ℕ) (below : t < length rows) where
  pub given_bit : (c : Column) (r : Driver Column) → Among r (drivers d c) → b t c ≡ bit_of rows b t r
  given_bit c r among = all_among (λ (r : Driver Column). b t c ≡ bit_of rows b t r) (drivers d c) r (strict t c below) among

  passed_bit : (a c : Column) → IsPassedOn d a c → b t c ≡ b t a
  passed_bit a c (inl binding) = given_bit c (from_connection a) binding
  passed_bit a c (inr buffer) = given_bit c (from_cover buffer.0 (a ∷ [])) buffer.2 ∙ passed_value buffer.0 buffer.1 (b t a)

  pub led_bit : (n : ℕ) (c : Column) (x : InBit) → LeadsBack d s columns n c x → b t c ≡ in_bit s (seen d columns b) t x
  led_bit zero c (Const bit) leads = given_bit c (from_cover leads.1 []) leads.2 ∙ leads.3
  led_bit zero c (Port chan bit) same = ap (b t) same
  led_bit (suc n) c x leads = passed_bit leads.1 c leads.2 ∙ led_bit n leads.1 x leads.3

  -- the bits of columns that are led back
  pub led_bits : (cs : List Column) (ins : List InBit) → length ins ≡ length cs → AreLed d s columns cs ins → map (in_bit s (seen d columns b) t) ins ≡ map (b t) cs
  led_bits [] [] wide led = refl
  led_bits [] (x ∷ ins) wide led = absurd (omega arith)
  led_bits (c ∷ cs) [] wide led = absurd (omega arith)
  led_bits (c ∷ cs) (x ∷ ins) wide led =
      let first = led 0 c x refl refl in
      let head : in_bit s (seen d columns b) t x ≡ b t c = sym (led_bit first.0 c x first.1) in
      let tail : map (in_bit s (seen d columns b) t) ins ≡ map (b t) cs = led_bits cs ins (omega arith) (λ j c x here there. led (suc j) c x here there) in
      cc

-- the column that a bit of a channel stands for, where the column of its port is known
pub carried_column : (d : Design) (s : System) (columns : ℕ → ℕ → Column) (chan bit port : ℕ) (channel : Channel) (c : Column) → slice_get s.channels chan ≡ Some channel → slice_get channel.ports bit ≡ Some port → slice_get (map (column_of d columns) (ports_at s channel.from)) port ≡ Some c → column_of d columns (carried_at s chan bit) ≡ c
carried_column d s columns chan bit port channel c here at is =
    let ports = ports_at s channel.from in
    let inside : port < length (map (column_of d columns) ports) = slice_get_within (map (column_of d columns) ports) port c is in
    let within : port < length ports = subst (λ (n : ℕ). port < n) (length-map ports (column_of d columns)) inside in
    let first = source_port 0 in
    ap (column_of d columns) (carried_is s chan bit channel here ∙ get_or-map (λ (p : ℕ). get_or ports p first) channel.ports bit 0 first (slice_get_within channel.ports bit port at) ∙ ap (λ (p : ℕ). get_or ports p first) (get_or_from_slice_get channel.ports bit port 0 at))
    ∙ sym (get_or-map (column_of d columns) ports port first c within)
    ∙ get_or_from_slice_get (map (column_of d columns) ports) port c c is
