-- A source gives the rows, and the first rows have the first bits of all.
use Rattle.std.proofs.Common.{◌≡◌, ℕ, zero, suc, ◌+◌, ◌<◌, Bool, false, List, [], ◌∷◌, ◌++◌, length, take, get_or, map, Some, slice_get, refl, sym, ◌∙◌, ap, subst, arith}
use Rattle.std.specs.Option.{option_map_or}
use Rattle.std.proofs.lemmas.List.{length-append}
use Rattle.std.proofs.lemmas.Option.{get_or_from_slice_get, slice_get_within}
use Rattle.lid_base.proofs.Lists.{all_among}
use Rattle.lid_design.specs.Network.{Driver, from_input, from_latch, from_cover, from_connection, Table, bit_of, IsStrict}
use Rattle.lid_base.specs.Each.{from_each}
use Rattle.lid_system.specs.declared.System.{System}
use Rattle.lid_system.specs.declared.Node.TheVariants.{Source}
use Rattle.lid_system.specs.declared.Channel.{Channel}
use Rattle.lid_system.specs.Systems.{Point, source_port, ports_of, IsWellFormed}
use Rattle.lid_system.specs.Tables.{port_bits, system_drivers, IsTable}
use Rattle.lid_system.specs.Streams.{token_at, tokens_of, output_row, IsStream, IsOutput}
use Rattle.lid_system.proofs.Points.{port_drives}
use Rattle.lid_system.proofs.Streaming.{some_stream, some_output}
use Rattle.lid_base.proofs.Alls.{all_from_among}
use Rattle.lid_base.proofs.Each.{take_each}
use Rattle.lid_base.proofs.Options.{same_some}

map_row : (f : Point → Bool) (k : ℕ) (row : List Bool) → ((j : ℕ) → j < length row → f (source_port (k + j)) ≡ get_or row j false) → map f (from_each source_port k (length row)) ≡ row
map_row f k [] each = refl
map_row f k (bit ∷ row) each =
    let place : k ≡ k + 0 = omega arith in
    let head : f (source_port k) ≡ bit = ap (λ (n : ℕ). f (source_port n)) place ∙ each 0 (omega arith) in
    let tail : map f (from_each source_port (k + 1) (length row)) ≡ row = map_row f (k + 1) row (λ j h. (let next : (k + 1) + j ≡ k + suc j = omega arith in ap (λ (n : ℕ). f (source_port n)) next ∙ each (suc j) (omega arith))) in
    cc

pub given_row : (s : System) (rows : List (List Bool)) (b : Table Point) (t : ℕ) (columns : List (List ℕ)) (row : List Bool) → slice_get s.nodes 0 ≡ Some (Source columns) → IsTable s rows b → slice_get rows t ≡ Some row → length row ≡ length columns → port_bits s b 0 t ≡ row
given_row s rows b t columns row here table at wide =
    ap (λ o. map (b t) (option_map_or (ports_of 0) o [])) here
    ∙ ap (λ (n : ℕ). map (b t) (from_each source_port 0 n)) (sym wide)
    ∙ map_row (b t) 0 row each
  where
    each : (j : ℕ) → j < length row → b t (source_port (0 + j)) ≡ get_or row j false
    each j below =
        let place : 0 + j ≡ j = omega arith in
        let bit : b t (source_port j) ≡ get_or (get_or rows t []) j false =
        all_among (λ (r : Driver Point). b t (source_port j) ≡ bit_of rows b t r) (system_drivers s (source_port j)) (from_input j) (table t (source_port j) (slice_get_within rows t row at)) (port_drives s j columns here (omega arith)) in
        ap (λ (n : ℕ). b t (source_port n)) place ∙ bit ∙ ap (λ (row : List Bool). get_or row j false) (get_or_from_slice_get rows t row [] at)

get_first : {A : Type 0} (xs ys : List A) (i : ℕ) (d : A) → i < length xs → get_or (xs ++ ys) i d ≡ get_or xs i d
get_first [] ys i d below = absurd (omega arith)
get_first (x ∷ xs) ys zero d below = refl
get_first (x ∷ xs) ys (suc i) d below = get_first xs ys i d (omega arith)

first_bit : {C : Type 0} (rows more : List (List Bool)) (b : Table C) (t : ℕ) (r : Driver C) → t < length rows → bit_of (rows ++ more) b t r ≡ bit_of rows b t r
first_bit rows more b t (from_input j) below = ap (λ (row : List Bool). get_or row j false) (get_first rows more t [] below)
first_bit rows more b t (from_latch first input) below = refl
first_bit rows more b t (from_cover cover inputs) below = refl
first_bit rows more b t (from_connection c) below = refl

-- a table of all rows is one of the first rows
pub table_of_first : {C : Type 0} (drivers : C → List (Driver C)) (rows more : List (List Bool)) (b : Table C) → IsStrict drivers (rows ++ more) b → IsStrict drivers rows b
table_of_first {C} drivers rows more b strict t c below =
    let long : length (rows ++ more) ≡ length rows + length more = length-append rows more in
    all_from_among (λ (r : Driver C). b t c ≡ bit_of rows b t r) (drivers c)
    (λ r among. all_among (λ (r : Driver C). b t c ≡ bit_of (rows ++ more) b t r) (drivers c) r (strict t c (omega arith)) among ∙ first_bit rows more b t r below)

module _ (s : System) (well : IsWellFormed s) (rows more : List (List Bool)) where
  cut : {A : Type 0} (f : ℕ → A) → take (length rows) (from_each f 0 (length (rows ++ more))) ≡ from_each f 0 (length rows)
  cut f = ap (λ (n : ℕ). take (length rows) (from_each f 0 n)) (length-append rows more) ∙ take_each f 0 (length rows + length more) (length rows) (omega arith)

  pub stream_of_first : (c : ℕ) (tokens : List ℕ) → c < length s.channels → IsStream s (rows ++ more) c tokens → IsStream s rows c (take (length rows) tokens)
  stream_of_first c tokens below is = subst (IsStream s rows c) (sym same) first.1
    where
      first : (xs : List ℕ) × IsStream s rows c xs
      first = some_stream s well rows c below

      b : Table Point
      b = is.some.0

      same : take (length rows) tokens ≡ first.0
      same =
          ap (take (length rows)) (is.each b is.some.1)
          ∙ cut (token_at s b is.channel)
          ∙ ap (λ (ch : Channel). tokens_of s b ch (length rows)) (same_some (slice_get s.channels c) is.channel first.1.channel is.is_channel first.1.is_channel)
          ∙ sym (first.1.each b (table_of_first (system_drivers s) rows more b is.some.1))

  pub output_of_first : (outs : List (List Bool)) → IsOutput s (rows ++ more) outs → IsOutput s rows (take (length rows) outs)
  output_of_first outs is = subst (IsOutput s rows) (sym same) first.1
    where
      first : (xs : List (List Bool)) × IsOutput s rows xs
      first = some_output s well rows

      b : Table Point
      b = is.some.0

      same : take (length rows) outs ≡ first.0
      same = ap (take (length rows)) (is.each b is.some.1) ∙ cut (output_row s b) ∙ sym (first.1.each b (table_of_first (system_drivers s) rows more b is.some.1))
