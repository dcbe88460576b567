use Rattle.std.proofs.Common.{◌≡◌, ◌⊎◌, ◌↔◌, ◌+◌, ◌++◌, ◌∷◌, ℕ, true, List, take, get_or, [], sym, subst, ◌∙◌, ap, arith}
use denote.Ref.{Bor}
use Rattle.std.proofs.lemmas.List.{take_more, map-append}
use Rattle.lid_check_names.specs.Names.{texts}
use Rattle.lid_check_digraph.specs.Graphs.{flag}
use Rattle.lid_check_loops.specs.Pearls.{IsNumberOf}
use Rattle.lid_check_loops.proofs.Marking.{nets_more}
use Rattle.lid_check_loops.proofs.pearls.mark_nets.Goals as goal

pub loop-net-preserved : goal.loop-net-preserved
loop-net-preserved c =
    let i = c.loop-net.net-index in
    let nets = c.args.nets.now in
    let none : Bor (List ℕ) = record { ref_ptr = (0, 0); now = [] } in
    let net : Bor (List ℕ) = get_or nets i none in
    let more : texts (take (i + 1) nets) ≡ texts (take i nets) ++ net.now ∷ [] =
    ap texts (take_more nets i none (omega arith)) ∙ map-append (λ (r : Bor (List ℕ)). r.now) (take i nets) (net ∷ []) in
    subst (λ (xs : List (List ℕ)). (k : ℕ) → (flag c.mark_net.new.marks k ≡ true) ↔ ((flag c.args.marks.now k ≡ true) ⊎ IsNumberOf c.args.survey.now c.args.pearl xs k)) (sym more)
    (nets_more c.args.survey.now c.args.pearl (texts (take i nets)) net.now c.args.marks.now c.loop-net.marks c.mark_net.new.marks c.loop-net.invariant c.mark_net.ensures)
