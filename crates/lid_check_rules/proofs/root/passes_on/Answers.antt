use Rattle.std.proofs.Common.{Bool, true, false, not, ◌&&◌, [], ◌∷◌, refl, sym, ◌∙◌, ap}
use Rattle.lid_cover.specs.Cover.{cover_value}
use Rattle.lid_check_rules.proofs.Buffers.{passes_none, passes_one}
use Rattle.lid_check_rules.proofs.root.passes_on.Goals as goal

pub returns-then-cover-ne1 : goal.returns-then-cover-ne1
returns-then-cover-ne1 c = sym (passes_none c.args.cover.now c.if-cover-ne1.true)

pub returns-then-not-eval : goal.returns-then-not-eval
returns-then-not-eval c =
    let cover = c.args.cover.now in
    let wide = c.if-cover-ne1.false in
    let one = c.eval-then-not-eval.result in
    sym (ap (λ (b : Bool). not b && one) c.if-not-eval.true) ∙ sym (passes_one cover wide c.eval.result one (c.eval.ensures (false ∷ []) (sym wide) refl) (c.eval-then-not-eval.ensures (true ∷ []) (sym wide) refl))

pub returns-else-not-eval : goal.returns-else-not-eval
returns-else-not-eval c =
    let cover = c.args.cover.now in
    let wide = c.if-cover-ne1.false in
    let one = cover_value cover (true ∷ []) in
    ap not c.if-not-eval.false ∙ sym (ap (λ (b : Bool). not b && one) c.if-not-eval.false) ∙ sym (passes_one cover wide c.eval.result one (c.eval.ensures (false ∷ []) (sym wide) refl) refl)
