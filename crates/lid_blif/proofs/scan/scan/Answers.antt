use Rattle.std.proofs.Common.{◌≡◌, sym, ◌∙◌, ap, refl, take, drop, arith, length, ◌+◌, ◌<◌, List}
use Rattle.std.specs.Prelude.{ℕ, reverse, bytes_eq, None}
use Rattle.std.specs.List.{list_any}
use Rattle.std.specs.Borrow.{Bor}
use Rattle.lid_blif.specs.declared.context.Context.{Context}
use Rattle.lid_blif.specs.Faults.{context_of, model_names, line_fault, first_fault}
use Rattle.lid_blif.proofs.Contexts.{before_more, none_from, first_left, first_fault_pass, none_before, no_rows, no_models, rows_cons, models_cons}
use Rattle.lid_blif.proofs.scan.scan.Goals as goal

pub loop-line-init : goal.loop-line-init
loop-line-init c = record {
  context = c.start-context.ensures;
  names = λ name. ap (list_any (λ (k : Bor (List ℕ)). bytes_eq name k.now)) c.new-names.ensures.empty;
  rows = none_before (λ (p : Context). p.rows) _ c.start-context.ensures no_rows;
  models = none_before (λ (p : Context). p.models) _ c.start-context.ensures no_models;
  later = refl;
}

pub loop-line-preserved : goal.loop-line-preserved
loop-line-preserved c =
    let xs = c.args.lines.now in
    let i = c.loop-line.line-index in
    let x = c.line-item.result in
    let before = reverse (take i xs) in
    let lt : i < length xs = omega arith in
    let more = before_more xs i x lt c.line-item.is in
    let held = c.loop-line.invariant in
    let here = first_left (first_fault before) xs i x lt c.line-item.is in
    let none : c.line_fault.result ≡ None = none_from _ c.in_default.not-Some in
    let clear : line_fault (context_of before) (model_names before) x ≡ None =
    ap (λ p. line_fault p (model_names before) x) (sym held.context) ∙ sym (c.line_fault.ensures (model_names before) held.names) ∙ none in
    let passed = first_fault_pass before x (drop (i + 1) xs) clear in
    let placed = c.after-context.ensures before held.context in
    record {
      context = placed ∙ ap context_of (sym more);
      names = λ name. c.in-Ok.ensures before held.names name ∙ ap (λ b. list_any (λ other. bytes_eq other name) (model_names b)) (sym more);
      rows = omega (arith, rows_cons x before, ap (λ (p : Context). p.rows) placed, ap (λ (p : Context). p.rows) held.context);
      models = omega (arith, models_cons x before, ap (λ (p : Context). p.models) placed, ap (λ (p : Context). p.models) held.context);
      later = ap (λ b. first_fault b (drop (i + 1) xs)) more ∙ sym passed ∙ sym here ∙ held.later;
    }
