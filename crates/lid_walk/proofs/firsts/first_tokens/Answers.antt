-- There is a token or none for each station.
use Rattle.std.proofs.Common.{◌≡◌, ◌^◌, ◌<◌, ◌≤◌, ℕ, Bool, List, length, subst, Result, Vec, Global, IfOk}
use Rattle.std.specs.Prelude.{Option, IfSome}
use Rattle.std.specs.List.{All, AllByRecursion}
use Rattle.lid_base.proofs.Results.{if_ok}
use Rattle.lid_design.specs.Walks.{HasTable}
use Rattle.lid_system.specs.Tables.{system_drivers}
use Rattle.lid_stations.specs.Placed.{Placing, IsPlaced}
use Rattle.lid_walk_machine.specs.Setups.{plan}
use Rattle.lid_shell_laws.specs.Setups.{Setup, IsInputRow}
use Rattle.lid_texts_packed.specs.Input.{input_of}
use Rattle.lid_walk.specs.Setups.{IsSetupOf}
use Rattle.lid_walk.specs.Firsts.{first_tokens}
use Rattle.lid_walk.proofs.Opening.{known_firsts}
use Rattle.lid_walk.proofs.firsts.first_tokens.Goals as goal

-- what is known of the tokens that are answered
known : {E : Type 0} → (q : Placing) (rows : List (List Bool)) → IsPlaced q.system q.placement → length rows ≤ 1000000 → AllByRecursion (IsInputRow q.system) rows → HasTable (system_drivers q.system)
    → (told : Result (Vec (Option ℕ) Global) E) → IfOk told (λ firsts. (m : Setup) → IsSetupOf m q.system q.placement rows → firsts.items ≡ first_tokens (plan m))
    → IfOk told (λ firsts. (length firsts.items ≡ length q.placement.caps) × All (λ first. IfSome first (λ token. token < 2 ^ 31)) firsts.items)
known q rows placed few wide tables told are = if_ok told (λ firsts is. known_firsts q.system q.placement rows placed.formed placed.fits few wide tables firsts.items is) are

pub returns-clause-many : goal.returns-clause-many
returns-clause-many c =
    let q = c.args.placed.now in
    let placed : IsPlaced q.system q.placement = subst (λ (v : Placing). IsPlaced v.system v.placement) c.placed.view_is c.placed.invariant in
    if_ok c.tokens_at_start.result (λ firsts are. are.0)
    (known q (input_of c.args.rows) placed c.requires.few c.requires.wide (c.systems_have_one_table.ensures.some q.system placed.formed) c.tokens_at_start.result c.tokens_at_start.ensures)

pub returns-clause-small : goal.returns-clause-small
returns-clause-small c =
    let q = c.args.placed.now in
    let placed : IsPlaced q.system q.placement = subst (λ (v : Placing). IsPlaced v.system v.placement) c.placed.view_is c.placed.invariant in
    if_ok c.tokens_at_start.result (λ firsts are. are.1)
    (known q (input_of c.args.rows) placed c.requires.few c.requires.wide (c.systems_have_one_table.ensures.some q.system placed.formed) c.tokens_at_start.result c.tokens_at_start.ensures)
