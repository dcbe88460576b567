use Rattle.std.proofs.Common.{ℕ, ◌+◌, List, [], ◌∷◌, length, sym, ◌∙◌, ap, subst, arith, length-append}
use Rattle.lid_check_parts.specs.declared.part.PearlPart.{PearlPart}
use Rattle.lid_check_parts.specs.Parts.{IsNetworkPart}
use Rattle.lid_check_parts.specs.PearlParts.{IsPearlPart, ArePearlParts}
use Rattle.lid_check_parts.proofs.Finding.{inst_count}
use Rattle.lid_base.proofs.Places.{pushed_each}
use Rattle.lid_check_parts.proofs.parts.inst_parts.Goals as goal

pub loop-i-preserved : goal.loop-i-preserved
loop-i-preserved c = record {
  count = ap length c.in_ok-push.ensures.items ∙ length-append c.loop-i.parts.items (c.inst_part.result ∷ []) ∙ ap (λ (n : ℕ). n + 1) c.loop-i.invariant.count;
  each = pushed_each (λ (p : ℕ) (part : PearlPart). IsPearlPart c.args.columns.now.design p part × IsNetworkPart c.args.columns.now.drivers part) c.loop-i.parts.items c.push.new.self.items c.inst_part.result c.loop-i.i c.in_ok-push.ensures.items (sym c.loop-i.invariant.count) c.loop-i.invariant.each c.inst_part.ensures;
}

pub returns : goal.returns
returns c =
    let d = c.args.columns.now.design in
    let insts = c.judged.ensures.elaborated.insts in
    let some = c.requires.some in
    let pearls = inst_count d (omega arith) in
    let long = ap length c.starts-i-end.ensures in
    let end = c.loop-i.auto.i-end in
    let past = c.loop-i-test.false in
    let count = c.loop-i.invariant.count in
    subst (λ (ps : List PearlPart). ArePearlParts d c.args.columns.now.drivers ps) (sym c.from_vec.ensures) (record { count = omega arith; each = c.loop-i.invariant.each })
