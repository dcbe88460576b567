-- Another bit is the station's, and all of them are.
use Rattle.std.proofs.Common.{◌≡◌, ◌+◌, ℕ, List, length, slice_get, Some, subst, sym, ap, ◌∙◌, arith}
use Rattle.lid_emit_cells.specs.declared.station.Bit.{Bit}
use Rattle.lid_emit_shells.specs.Shells.{nets_of}
use Rattle.lid_emit_layout.specs.Bits.{IsBit, AreBits}
use Rattle.std.proofs.lemmas.List.{length_push}
use Rattle.lid_base.proofs.Places.{each_push}
use Rattle.lid_emit_layout.proofs.bits.make_bits.Goals as goal

pub loop-j-preserved : goal.loop-j-preserved
loop-j-preserved c =
    let was = c.loop-j.invariant in
    let items = c.in_ok-push.ensures.items in (
      ap length items ∙ length_push c.loop-j.bits.items c.bit_at.result ∙ ap (λ (n : ℕ). n + 1) was.0,
      λ j bit at.
          each_push (λ j bit. IsBit c.args.system.now (nets_of c.args.shells.now) c.args.channel.now c.args.site j bit) c.loop-j.bits.items c.bit_at.result was.1
          (subst (λ (n : ℕ). IsBit c.args.system.now (nets_of c.args.shells.now) c.args.channel.now c.args.site n c.bit_at.result) (sym was.0) c.bit_at.ensures)
          j bit (subst (λ (xs : List Bit). slice_get xs j ≡ Some bit) items at),
    )

pub returns : goal.returns
returns c =
    let was = c.loop-j.invariant in
    subst (λ (bits : List Bit). AreBits c.args.system.now (nets_of c.args.shells.now) c.args.channel.now c.args.site bits) (sym c.from_vec.ensures)
    (record { width = (let n = was.0 in let e = c.len-j-end.ensures in let least = c.loop-j-test.false in let most = c.loop-j.auto.j-end in omega arith); each = was.1 })
