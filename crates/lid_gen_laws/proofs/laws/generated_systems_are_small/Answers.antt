use Rattle.std.proofs.Common.{◌≡◌, ◌<◌, ℕ, suc, List, [], ◌∷◌, length, sym, ◌∙◌, subst, arith}
use Rattle.lid_base.specs.Lists.{Among}
use Rattle.lid_design.specs.declared.Design.{Design}
use Rattle.lid_design.specs.Columns.{Column, drivers}
use Rattle.lid_design.specs.Network.{Driver}
use Rattle.lid_design.specs.WellFormed.{IsWellFormed}
use Rattle.lid_check.specs.Acceptance.{IsAccepted}
use Rattle.lid_check_drivers.proofs.Told.{told_by_model}
use Rattle.lid_check_parts.proofs.Finding.{inst_count, inst_pearl}
use Rattle.lid_net.proofs.Facts.{judged, ports_once}
use Rattle.lid_gen.specs.Draws.{first_state}
use Rattle.lid_gen.specs.Designs.{shell_at, made, generated}
use Rattle.lid_gen_laws.proofs.Sizes.{some}
use Rattle.lid_gen_laws.proofs.Carried.{channels_few}
use Rattle.lid_gen_laws.proofs.Channels.{within, ends_few}
use Rattle.lid_base.proofs.Each.{each_length}
use Rattle.lid_base.proofs.Lists.{among_one}
use Rattle.lid_gen_laws.proofs.laws.generated_systems_are_small.Goals as goal

driven : {A : Type 0} (x : A) (xs : List A) → Among x xs → 0 < length xs
driven x [] among = absurd among
driven x (y ∷ xs) among = omega arith

-- an accepted design drives each column once
single : (d : Design) → IsWellFormed d → IsAccepted d → (c : Column) (r t : Driver Column) → Among r (drivers d c) → Among t (drivers d c) → r ≡ t
single d formed accepted c r t here there =
    let told = told_by_model d (judged d formed accepted) c (driven r (drivers d c) here) in
    let first = among_one r told.driver (subst (λ (rs : List (Driver Column)). Among r rs) told.only here) in
    let second = among_one t told.driver (subst (λ (rs : List (Driver Column)). Among t rs) told.only there) in
    first ∙ sym second

pub returns : goal.returns
unfolding generated
returns c seed n channels fine graph =
    let s = first_state seed in
    let d = made s n in
    let formed = c.generated_designs_are_accepted.ensures.formed seed n fine in
    let accepted = c.generated_designs_are_accepted.ensures.accepted seed n fine in
    let insts = each_length (shell_at s n) 0 n in
    let more = some n fine in
    let count = inst_count d (omega (arith, insts, more)) ∙ insts in
    let pearl = λ (i : ℕ) (less : i < n). inst_pearl d i (omega (arith, insts, less)) in
    let a = channels_few d (single d formed accepted) (ports_once d formed accepted) channels (suc n) graph (within s n count pearl) in
    let b = ends_few s n count pearl in
    omega (arith, a, b)
