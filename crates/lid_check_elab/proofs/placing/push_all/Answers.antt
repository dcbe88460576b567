use Rattle.std.proofs.Common.{◌≡◌, ℕ, List, [], ◌∷◌, ◌++◌, length, map, reverse, None, Some, slice_get, sym, ◌∙◌, ap, subst}
use Rattle.lid_design.specs.declared.Design.{Design}
use Rattle.lid_check_elab.specs.Elaborations.{shown_driver}
use Rattle.lid_check_elab.specs.declared.driver.ColumnDriver.{ColumnDriver}
use Rattle.lid_check_elab.specs.declared.placing.Scope.{Scope}
use Rattle.lid_check_elab.specs.Scopes.{AreNext}
use Rattle.lid_check_elab.proofs.Stacking.{root_first}
use Rattle.lid_check_elab.proofs.placing.push_all.Goals as goal

pub loop-scope-init : goal.loop-scope-init
loop-scope-init c = record {
  written = λ n column driver at here. absurd (let e : None ≡ Some driver = ap (λ (ds : List ColumnDriver). slice_get (map (shown_driver c.args.judged.now) ds) n) (sym c.requires.none) ∙ here in cc);
  next =
      let d = c.args.judged.now in
      let first : Design → List Scope = (λ (e : Design). record { model = e.root; start = 0; around = None } ∷ []) in
      let stack : reverse c.push.new.self.items ≡ first d = ap reverse (c.in_ok-push.ensures.items ∙ ap (λ (ps : List Scope). ps ++ first c.design.result.now) c.new-stack.ensures.items) ∙ ap first c.design.ensures.same in
      let none : length c.args.drivers.now.items ≡ 0 = ap length c.requires.none in
      subst (λ (n : ℕ). AreNext d n (reverse c.push.new.self.items)) (sym none) (subst (AreNext d 0) (sym stack) (root_first d));
}
