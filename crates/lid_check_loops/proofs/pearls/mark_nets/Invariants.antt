use Rattle.std.proofs.Common.{◌≡◌, ◌⊎◌, ◌↔◌, ℕ, true, take}
use Rattle.lid_check_names.specs.Names.{texts}
use Rattle.lid_check_digraph.specs.Graphs.{flag}
use Rattle.lid_check_loops.specs.Pearls.{IsNumberOf}
use Rattle.lid_check_loops.proofs.pearls.mark_nets.Given as goal

abbrev pub invariant-loop-net : goal.invariant-loop-net
invariant-loop-net l =
    (k : ℕ) → (flag l.marks k ≡ true) ↔ ((flag l.initial.marks k ≡ true) ⊎ IsNumberOf l.survey l.pearl (texts (take l.net-index l.nets)) k)
