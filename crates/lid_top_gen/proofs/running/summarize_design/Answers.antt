use Rattle.std.proofs.Common.{◌∙◌, subst, arith}
use Rattle.lid_design.specs.declared.Design.{Design}
use Rattle.lid_net.specs.Graphs.{IsGraphOf}
use Rattle.lid_gen_laws.proofs.Sizes.{few}
use Rattle.lid_top_gen.proofs.running.summarize_design.Goals as goal

pub build_made-requires : goal.build_made-requires
build_made-requires c = λ channels graph.
    let same = c.in_ok-checked.ensures ∙ c.requires.made in
    let small = c.generated_systems_are_small.ensures c.args.seed c.args.shells channels c.requires.sized (subst (λ (d : Design). IsGraphOf d channels) same graph) in
    let most = few c.args.shells c.requires.sized in
    omega (arith, small, most)
