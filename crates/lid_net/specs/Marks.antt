-- Ports that are marked among columns, by numbers.
use Rattle.std.specs.Prelude.{◌≡◌, ◌+◌, ℕ, List, [], ◌∷◌, Option, Some, set}
use Rattle.lid_net.specs.declared.origin.Origin.{Origin}
use Rattle.lid_net.specs.declared.origin.Origin.TheVariants.{Port}
use Rattle.lid_net.specs.declared.ports.ShellPorts.{ShellPorts}

abbrev pub outs_of : ShellPorts → List ℕ
outs_of ports = ports.outs

abbrev pub ins_of : ShellPorts → List ℕ
ins_of ports = ports.ins

-- marks with those of the ports of a node from a place on
abbrev pub marked_from : ℕ → ℕ → List ℕ → List (Option Origin) → List (Option Origin)
marked_from node place [] marks = marks
marked_from node place (k ∷ outs) marks = marked_from node (place + 1) outs (set marks k (Some (Port node place)))

-- marks with those of the ports of a node
abbrev pub MarksPorts : ℕ → List ℕ → List (Option Origin) → List (Option Origin) → Type 0
MarksPorts node outs old new = new ≡ marked_from node 0 outs old

-- marks with those of the ports of all nodes, the first of which has this number
abbrev pub marked_all : ℕ → List (List ℕ) → List (Option Origin) → List (Option Origin)
marked_all node [] marks = marks
marked_all node (outs ∷ more) marks = marked_all (node + 1) more (marked_from node 0 outs marks)

abbrev pub MarksAll : ℕ → List (List ℕ) → List (Option Origin) → List (Option Origin) → Type 0
MarksAll node all old new = new ≡ marked_all node all old
