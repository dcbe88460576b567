use Rattle.std.proofs.Common.{◌≡◌, ℕ, ◌+◌, List, [], ◌∷◌, ◌++◌, sym, ◌∙◌, ap, append_assoc}
use Rattle.lid_design.specs.declared.Model.{Model}
use Rattle.lid_base.specs.Each.{from_each}
use Rattle.lid_gen.specs.Designs.{kind_model}
use Rattle.lid_base.proofs.Each.{each_one_more}
use Rattle.lid_gen.proofs.design.push_kinds.Goals as goal

pushed : (f : ℕ → Model) (k : ℕ) (first old new : List Model) (m : Model) → old ≡ first ++ from_each f 0 k → new ≡ old ++ m ∷ [] → m ≡ f k → new ≡ first ++ from_each f 0 (k + 1)
pushed f k first old new m was grew is =
    grew
    ∙ ap (λ (ms : List Model). ms ++ m ∷ []) was
    ∙ ap (λ (x : Model). (first ++ from_each f 0 k) ++ x ∷ []) is
    ∙ append_assoc first (from_each f 0 k) (f k ∷ [])
    ∙ ap (λ (ms : List Model). first ++ ms) (sym (each_one_more f k))

pub loop-kind-preserved : goal.loop-kind-preserved
loop-kind-preserved c =
    pushed kind_model c.loop-kind.kind c.args.models.now.items c.loop-kind.models.items c.push.new.self.items c.in_ok-kind_model.field-0 c.loop-kind.invariant c.in_ok-push.ensures.items c.in_ok-kind_model.ensures
