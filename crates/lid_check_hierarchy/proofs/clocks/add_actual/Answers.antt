use Rattle.std.proofs.Common.{◌≡◌, ℕ, Bool, true, ◌&&◌, List, sym, ◌∙◌, ap}
use Rattle.std.proofs.Math.Bool.{and-true}
use Rattle.std.specs.Str.{bytes_eq}
use Rattle.lid_base.proofs.Results.{on_ok}
use Rattle.lid_check_names.specs.Names.{is_among, texts}
use Rattle.lid_check_hierarchy.proofs.Growing.{grows_like}
use Rattle.lid_check_hierarchy.proofs.Numbers.{bytes_eq_comm}
use Rattle.lid_check_hierarchy.proofs.clocks.add_actual.Goals as goal

pub returns-then-has : goal.returns-then-has
returns-then-has c =
    let formal = c.args.bind.now.formal in
    let actual = c.args.bind.now.actual in
    let formals = c.args.formals.now in
    let has : is_among formal formals ≡ true = ap (λ (name : List ℕ). is_among name formals) (sym c.as_slice.ensures) ∙ sym c.has.ensures ∙ c.if-has.true in
    on_ok c.add_name.result
    (grows_like (λ net. bytes_eq net actual) (λ net. bytes_eq actual net && is_among formal formals) (texts c.args.list.now.items) (texts c.add_name.new.list.items)
    (λ net. bytes_eq_comm net actual ∙ sym (and-true (bytes_eq actual net)) ∙ ap (λ (b : Bool). bytes_eq actual net && b) (sym has)))
    c.add_name.ensures
