-- The tokens of a node are those of the stations that it fills.
use Rattle.std.proofs.Common.{◌≡◌, ◌<◌, ℕ, List, length, get_or, Vec, Global, sym, ◌∙◌, ap, subst, arith}
use Rattle.std.specs.Prelude.{slice_get}
use Rattle.std.proofs.lemmas.Option.{slice_get-get_or}
use Rattle.lid_station.specs.declared.looks.Side.TheVariants.{Fill}
use Rattle.lid_stations.specs.Placed.{Placing, IsPlaced, links_in}
use Rattle.lid_shell_laws.specs.Runs.{filled_by}
use Rattle.lid_shell_laws.proofs.Ends.{filled_is}
use Rattle.lid_shell_nodes.specs.Wiring.{ports_from}
use Rattle.lid_walk_machine.specs.Setups.{plan}
use Rattle.lid_walk.specs.Inside.{AreTokensOf, AreEndsBy}
use Rattle.lid_walk.proofs.Begun.{outs_many, tokens_are, next_node}
use Rattle.lid_walk.proofs.Setting.{outs_are}
use Rattle.lid_walk.proofs.firsts.write_node.Goals as goal

-- the list that is found at a node has the stations that it fills
found_at : (q : Placing) (v : ℕ) (lists seen : List (Vec ℕ Global)) (found : Vec ℕ Global) (xs : List ℕ) → v < length q.system.nodes → AreEndsBy Fill q lists → seen ≡ lists → found ≡ get_or seen v found → xs ≡ found.items
    → xs ≡ filled_by (links_in q) q.placement v
found_at q v lists seen found xs node are same is read =
    read ∙ ap (λ (x : Vec ℕ Global). x.items) (is ∙ ap (λ (ys : List (Vec ℕ Global)). get_or ys v found) same) ∙ are.each v found node

pub node_tokens-requires-clause-many : goal.node_tokens-requires-clause-many
node_tokens-requires-clause-many c =
    let placed : IsPlaced c.args.placed.now.system c.args.placed.now.placement = subst (λ (v : Placing). IsPlaced v.system v.placement) c.placed.view_is c.placed.invariant in
    let below = c.requires.node in
    let listed = found_at c.args.placed.now c.args.node c.args.wiring.now.outs.items c.as_slice.result.now c.index-as_slice-node.result c.as_slice-listed.result.now (omega arith) c.requires.wired.filled c.as_slice.ensures.value c.index-as_slice-node.is c.as_slice-listed.ensures.value in
    ap length listed
    ∙ outs_many c.actors_go_by_rules.ensures c.args.placed.now.system c.args.placed.now.placement placed.formed placed.fits c.args.node (omega arith)
    ∙ ap (λ (v : Placing). length (ports_from v.system c.args.node)) (sym c.placed.view_is)

pub write_tokens-requires-clause-many : goal.write_tokens-requires-clause-many
write_tokens-requires-clause-many c = ap length c.as_slice-2.ensures.value ∙ c.in_ok-tokens.ensures.many

pub write_tokens-requires-clause-there : goal.write_tokens-requires-clause-there
write_tokens-requires-clause-there c k d within =
    let node = c.requires.node in
    let listed = found_at c.args.placed.now c.args.node c.args.wiring.now.outs.items c.as_slice.result.now c.index-as_slice-node.result c.as_slice-listed.result.now (omega arith) c.requires.wired.filled c.as_slice.ensures.value c.index-as_slice-node.is c.as_slice-listed.ensures.value in
    let own = filled_is (links_in c.args.placed.now) c.args.placed.now.placement c.args.node k (get_or c.as_slice-listed.result.now k d) (ap (λ (xs : List ℕ). slice_get xs k) (sym listed) ∙ slice_get-get_or c.as_slice-listed.result.now k d within) in
    let below = own.0 in
    let many = c.requires.many in
    omega arith

pub returns-clause-firsts : goal.returns-clause-firsts
returns-clause-firsts c m of was =
    let q = c.args.placed.now in
    let below = c.requires.node in
    let listed = found_at q c.args.node c.args.wiring.now.outs.items c.as_slice.result.now c.index-as_slice-node.result c.as_slice-listed.result.now (omega arith) c.requires.wired.filled c.as_slice.ensures.value c.index-as_slice-node.is c.as_slice-listed.ensures.value in
    let are = tokens_are c.actors_go_by_rules.ensures m q c.args.row.now c.args.node c.as_slice-listed.result.now c.in_ok-tokens.tokens.items of (omega arith) listed (subst (λ (v : Placing). AreTokensOf v.system c.args.node c.args.row.now c.in_ok-tokens.tokens.items) c.placed.view_is c.in_ok-tokens.ensures.tokens) in
    next_node m c.args.node c.as_slice-listed.result.now c.args.firsts.now c.write_tokens.new.firsts (listed ∙ sym (outs_are m q.system q.placement of.system of.placement c.args.node))
    (c.write_tokens.ensures.written (λ station. (plan m).token station 0) (c.as_slice-2.ensures.value ∙ are)) was
