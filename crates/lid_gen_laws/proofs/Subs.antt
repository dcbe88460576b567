-- The models of the instances of a generated design are those of the four kinds.
use Rattle.std.proofs.Common.{◌≡◌, ◌⊎◌, ℕ, ◌<◌, length, inl, inr, sym, ◌∙◌, ap, subst, arith}
use Rattle.lid_base.specs.Lists.{Among}
use Rattle.lid_design.specs.declared.Model.{Model}
use Rattle.lid_design.specs.declared.Inst.{Inst}
use Rattle.lid_base.specs.Each.{from_each}
use Rattle.lid_check_laws.specs.Plain.{IsRising, IsApart, IsPlainInst}
use Rattle.lid_gen.specs.Designs.{kind_model, shell_at, root_model, made}
use Rattle.lid_gen_laws.proofs.Each.{each_among}
use Rattle.lid_gen_laws.proofs.Pearls.{late, kind_apart}
use Rattle.lid_gen_laws.proofs.Heights.{heights, kind_rises}
use Rattle.lid_base.proofs.Each.{each_length}

module _ (s n : ℕ) (some : 0 < n) where
  sub_kind : (inst : Inst) (sub : Model) → IsPlainInst (made s n) inst sub → (k : ℕ) × (sub ≡ kind_model k)
  sub_kind inst sub plain = by plain.there
    where
      by : (sub ≡ root_model s n) ⊎ Among sub (from_each kind_model 0 4) → (k : ℕ) × (sub ≡ kind_model k)
      by (inl is) =
          let none : length (root_model s n).insts ≡ 0 = ap (λ (m : Model). length m.insts) (sym is) ∙ ap length plain.pearl.insts in
          let count = each_length (shell_at s n) 0 n in
          absurd (omega (arith, none, count, some))
      by (inr among) = let at = each_among kind_model 4 sub among in (at.0, at.2)

  pub subs_rise : (inst : Inst) (sub : Model) → IsPlainInst (made s n) inst sub → IsRising (heights n) sub × IsApart late sub
  subs_rise inst sub plain =
      let kind = sub_kind inst sub plain in
      subst (λ (m : Model). IsRising (heights n) m × IsApart late m) (sym kind.1) (kind_rises n kind.0, kind_apart kind.0)
