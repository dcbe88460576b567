-- The ports of an emitted design, and names of ports that are taken.
use Rattle.std.specs.Prelude.{◌||◌, ℕ, List, [], ◌∷◌, ◌++◌, find, codes, Option, Some, None}
use Rattle.lid_design.specs.declared.Design.{Design}
use Rattle.lid_design.specs.Columns.{is_among, root_inputs, root_outputs}

-- an input: a row is offered
abbrev pub offer_name : List ℕ
offer_name = codes "li_in_valid"

-- an input: no row is taken
abbrev pub block_name : List ℕ
block_name = codes "li_out_stop"

-- an output: a row is offered
abbrev pub valid_name : List ℕ
valid_name = codes "li_out_valid"

-- an output: no row is taken
abbrev pub stop_name : List ℕ
stop_name = codes "li_in_stop"

abbrev pub own_names : List (List ℕ)
own_names = offer_name ∷ block_name ∷ valid_name ∷ stop_name ∷ []

abbrev pub input_names : Design → List (List ℕ)
input_names d = root_inputs d ++ offer_name ∷ block_name ∷ []

abbrev pub output_names : Design → List (List ℕ)
output_names d = root_outputs d ++ valid_name ∷ stop_name ∷ []

-- the first of two that there is
abbrev pub or_else : {A : Type 0} → Option A → Option A → Option A
or_else (Some x) other = Some x
or_else None other = other

-- the first data input of the root that has one of the four names or is an output too, else the first output that has one
unfoldable pub taken_name : Design → Option (List ℕ)
taken_name d =
    or_else
    (find (λ name. is_among name own_names || is_among name (root_outputs d)) (root_inputs d))
    (find (λ name. is_among name own_names) (root_outputs d))
