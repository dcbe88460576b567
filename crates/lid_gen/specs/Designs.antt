-- The generated designs: a root with instances of four models, as a function of a seed and of how many
-- instances there are.
use Rattle.std.specs.Prelude.{ℕ, ◌+◌, ◌-◌, ◌*◌, ◌/◌, ◌%◌, ◌==◌, nat_lt, ◌||◌, Bool, true, false, if◌then◌else◌, List, [], ◌∷◌, ◌++◌, codes, Option, Some, None}
use Rattle.std.specs.Fmt.{decimal}
use Rattle.lid_cover.specs.declared.Cover.{Cover}
use Rattle.lid_cover.specs.declared.Cube.{Cube}
use Rattle.lid_design.specs.declared.Design.{Design}
use Rattle.lid_design.specs.declared.Model.{Model}
use Rattle.lid_design.specs.declared.Cell.{Cell}
use Rattle.lid_design.specs.declared.Cell.TheVariants.{Names, Latch}
use Rattle.lid_design.specs.declared.LatchKind.TheVariants.{Plain}
use Rattle.lid_design.specs.declared.Init.TheVariants.{Zero, One}
use Rattle.lid_design.specs.declared.Inst.{Inst}
use Rattle.lid_design.specs.declared.Bind.{Bind}
use Rattle.lid_base.specs.Each.{from_each}
use Rattle.lid_gen.specs.declared.fault.GenFault.{GenFault}
use Rattle.lid_gen.specs.declared.fault.GenFault.TheVariants.{Size}
use Rattle.lid_gen.specs.Draws.{first_state, state_after, drawn}

-- a word and a digit
abbrev pub numbered : List ℕ → ℕ → List ℕ
numbered word digit = word ++ (48 + digit) ∷ []

-- input j of the root
abbrev pub input_name : ℕ → List ℕ
input_name j = numbered (codes "x") j

-- output j of the root
abbrev pub output_name : ℕ → List ℕ
output_name j = numbered (codes "y") j

-- the model of kind k
abbrev pub kind_name : ℕ → List ℕ
kind_name k = numbered (codes "cel") k

-- the net at the output of instance i that has the letter
abbrev pub shell_net : ℕ → ℕ → List ℕ
shell_net i letter = (110 ∷ decimal i) ++ 95 ∷ letter ∷ []

-- the letters of the outputs of an instance, in turn: q and r
abbrev pub letter_of : ℕ → ℕ
letter_of k = if k == 0 then 113 else 114

-- the net at a place of the list of nets: the inputs of the root, and then the two outputs of each
-- instance
abbrev pub net_at : ℕ → List ℕ
net_at place = if nat_lt place 4 then input_name place else shell_net ((place - 4) / 2) (letter_of ((place - 4) % 2))

-- how many nets the list has with so many instances
abbrev pub count_places : ℕ → ℕ
count_places shells = 4 + 2 * shells

abbrev pub cube : ℕ → ℕ → Cube
cube care value = record { care = care; value = value }

-- the cover of a buffer
abbrev pub one_input : Cover
one_input = record { inputs = 1; on = true; cubes = cube 1 1 ∷ [] }

abbrev pub two_inputs : Bool → List Cube → Cover
two_inputs on cubes = record { inputs = 2; on = on; cubes = cubes }

-- that one input is 1 and the other 0
abbrev pub unequal : Cover
unequal = two_inputs true (cube 3 1 ∷ cube 3 2 ∷ [])

-- the covers of the four kinds: one of the two, both, any of them, not both
abbrev pub kind_cover : ℕ → Cover
kind_cover k =
    if k == 0
    then unequal
    else if k == 1
    then two_inputs true (cube 3 3 ∷ [])
    else if k == 2
    then two_inputs true (cube 1 1 ∷ cube 2 2 ∷ [])
    else two_inputs false (cube 3 3 ∷ [])

-- the cells of the model of kind k: the logic of its kind for the latch of q, and of its second input with
-- q for that of r
abbrev pub kind_cells : ℕ → List Cell
kind_cells k =
    Names (codes "a" ∷ codes "b" ∷ []) (codes "dq") (kind_cover k)
    ∷ Names (codes "b" ∷ codes "q" ∷ []) (codes "dr") unequal
    ∷ Latch (codes "dq") (codes "q") Plain None Zero
    ∷ Latch (codes "dr") (codes "r") Plain None One
    ∷ []

-- the model of kind k
abbrev pub kind_model : ℕ → Model
kind_model k = record {
  name = kind_name k;
  inputs = codes "a" ∷ codes "b" ∷ [];
  outputs = codes "q" ∷ codes "r" ∷ [];
  clocks = [];
  cells = kind_cells k;
  insts = [];
}

-- the net that the first input of instance i is bound to: that of the instance before it
abbrev pub before : ℕ → List ℕ
before i = if i == 0 then input_name 0 else shell_net (i - 1) 113

abbrev pub bound : List ℕ → List ℕ → Bind
bound formal actual = record { formal = formal; actual = actual }

-- the bindings of instance i, with the net at a place
abbrev pub shell_binds : ℕ → ℕ → List Bind
shell_binds i place =
    bound (codes "a") (before i)
    ∷ bound (codes "b") (net_at place)
    ∷ bound (codes "q") (shell_net i 113)
    ∷ bound (codes "r") (shell_net i 114)
    ∷ []

-- instance i of a kind, with the net at a place
abbrev pub shell : ℕ → ℕ → ℕ → Inst
shell i kind place = record { model = kind_name kind; binds = shell_binds i place }

-- instance i by the draws from a state on: its kind, then the place of its second net
abbrev pub shell_at : ℕ → ℕ → ℕ → Inst
shell_at s shells i = shell i (drawn s (2 * i) 4) (drawn s (2 * i + 1) (count_places shells))

-- output j of the root takes a net
abbrev pub buffer : ℕ → ℕ → Cell
buffer j place = Names (net_at place ∷ []) (output_name j) one_input

-- output j by the draws from a state on
abbrev pub buffer_at : ℕ → ℕ → ℕ → Cell
buffer_at s shells j = buffer j (drawn s j (count_places shells))

-- the root, by the draws from a state on: the instances draw first
abbrev pub root_model : ℕ → ℕ → Model
root_model s shells = record {
  name = codes "gen";
  inputs = from_each input_name 0 4;
  outputs = from_each output_name 0 4;
  clocks = [];
  cells = from_each (buffer_at (state_after (2 * shells) s) shells) 0 4;
  insts = from_each (shell_at s shells) 0 shells;
}

-- the design with so many instances, by the draws from a state on
abbrev pub made : ℕ → ℕ → Design
made s shells = record { models = root_model s shells ∷ from_each kind_model 0 4; root = 0 }

-- the generated design of a seed with so many instances
unfoldable pub generated : ℕ → ℕ → Design
generated seed shells = made (first_state seed) shells

-- the refusal of a number of instances, where it is none from 1 to 2,000
abbrev pub size_fault : ℕ → Option GenFault
size_fault shells = if (shells == 0) || nat_lt 2000 shells then Some (Size shells) else None
