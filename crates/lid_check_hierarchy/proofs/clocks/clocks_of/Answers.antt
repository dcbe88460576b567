use denote.Ref.{Bor}
use Rattle.std.proofs.Common.{ℕ, ◌||◌, List, ◌∙◌, ap}
use Rattle.lid_base.proofs.Results.{if_ok}
use Rattle.lid_check_names.specs.Names.{is_among, texts}
use Rattle.lid_check_names.proofs.Lists.{is_among_firsts}
use Rattle.lid_check_hierarchy.specs.Clocks.{in_sets, is_clock_by}
use Rattle.lid_check_hierarchy.proofs.clocks.clocks_of.Goals as goal

pub returns : goal.returns
returns c =
    let is_clock = is_clock_by c.args.uses.now (in_sets c.args.sets.now) c.args.model in
    if_ok c.collect.result
    (λ set is net.
    ap (is_among net) is
    ∙ is_among_firsts net (texts c.as_slice.result.now)
    ∙ ap (λ (refs : List (Bor (List ℕ))). is_among net (texts refs)) c.as_slice.ensures.value
    ∙ c.in_ok-add_clocks.ensures net
    ∙ ap (λ (refs : List (Bor (List ℕ))). is_among net (texts refs) || is_clock net) c.new-list.ensures.items)
    c.collect.ensures
