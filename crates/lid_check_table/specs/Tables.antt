-- Names by numbers: the number of a name is its place among the names of a model, of which each stands once.
use Rattle.std.specs.Prelude.{◌≡◌, ℕ, List, [], ◌∷◌, ◌++◌, map, flat_map, Some, slice_get}
use Rattle.lid_design.specs.declared.Model.{Model}
use Rattle.lid_design.specs.declared.Cell.{Cell}
use Rattle.lid_design.specs.declared.Cell.TheVariants.{Names, Latch}
use Rattle.lid_design.specs.Models.{occurrences, firsts, cell_names, cell_reads, cell_out, control_names, actual_names}
use Rattle.lid_check_names.specs.Names.{with_name}

-- the names of a model, each where it comes first
abbrev pub names_in : Model → List (List ℕ)
names_in m = firsts (occurrences m)

-- numbers, that lead to the names of a list, each to the name at its place
abbrev pub AreNumbersOf : List (List ℕ) → List (List ℕ) → List ℕ → Type 0
AreNumbersOf names list numbers = map (slice_get names) numbers ≡ map Some list

-- the numbers of the names of a list are appended to others
abbrev pub Appends : List (List ℕ) → List ℕ → List ℕ → List (List ℕ) → Type 0
Appends names old new list = map (slice_get names) new ≡ map (slice_get names) old ++ map Some list

-- the numbers at the places of a model
pub record AreNumbers (m : Model) (inputs outputs clocks reads outs actuals : List ℕ) : Type 0 where
  pub for_inputs : AreNumbersOf (names_in m) m.inputs inputs
  pub for_outputs : AreNumbersOf (names_in m) m.outputs outputs
  pub for_clocks : AreNumbersOf (names_in m) m.clocks clocks
  pub for_reads : AreNumbersOf (names_in m) (flat_map cell_reads m.cells) reads
  pub for_outs : AreNumbersOf (names_in m) (map cell_out m.cells) outs
  pub for_actuals : AreNumbersOf (names_in m) (flat_map actual_names m.insts) actuals

-- the names of a model, and the numbers at its places
pub record IsTable (m : Model) (names : List (List ℕ)) (inputs outputs clocks reads outs actuals : List ℕ) : Type 0 where
  pub whole : names ≡ names_in m
  pub numbers : AreNumbers m inputs outputs clocks reads outs actuals

-- For the walk that numbers the places: names, to which those of a list are added, each unless it is there already
abbrev pub with_names : List (List ℕ) → List (List ℕ) → List (List ℕ)
with_names names [] = names
with_names names (name ∷ list) = with_names (with_name names name) list

-- the numbers in the lists of a model, by the names that there are then
pub record ArePortNumbers (m : Model) (names : List (List ℕ)) (inputs outputs clocks : List ℕ) : Type 0 where
  pub for_inputs : AreNumbersOf names m.inputs inputs
  pub for_outputs : AreNumbersOf names m.outputs outputs
  pub for_clocks : AreNumbersOf names m.clocks clocks

-- the numbers of what cells read and drive, by the names that there are then
pub record AreCellNumbers (cells : List Cell) (names : List (List ℕ)) (reads outs : List ℕ) : Type 0 where
  pub for_reads : AreNumbersOf names (flat_map cell_reads cells) reads
  pub for_outs : AreNumbersOf names (map cell_out cells) outs

-- the control of a cell
abbrev pub cell_controls : Cell → List (List ℕ)
cell_controls (Names inputs out cover) = []
cell_controls (Latch input out kind control init) = control_names control

-- the names of a list are added to others, and their numbers pushed
pub record Enters (names now : List (List ℕ)) (old new : List ℕ) (list : List (List ℕ)) : Type 0 where
  pub grown : now ≡ with_names names list
  pub pushed : (done : List (List ℕ)) → AreNumbersOf names done old → AreNumbersOf now (done ++ list) new

-- the names of some cells are added to others, and the numbers of what they read and drive pushed
pub record EntersCells (names now : List (List ℕ)) (reads now_reads outs now_outs : List ℕ) (cells : List Cell) : Type 0 where
  pub grown : now ≡ with_names names (flat_map cell_names cells)
  pub for_reads : (done : List (List ℕ)) → AreNumbersOf names done reads → AreNumbersOf now (done ++ flat_map cell_reads cells) now_reads
  pub for_outs : (done : List (List ℕ)) → AreNumbersOf names done outs → AreNumbersOf now (done ++ map cell_out cells) now_outs
