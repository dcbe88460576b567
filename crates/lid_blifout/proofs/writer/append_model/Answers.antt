use Rattle.std.proofs.Common.{◌≡◌, ◌++◌, List, ℕ}
use Rattle.std.specs.Prelude.{codes, map}
use Rattle.std.specs.List.{flat_map}
use Rattle.lid_design.specs.declared.Cell.{Cell}
use Rattle.lid_design.specs.declared.Inst.{Inst}
use Rattle.lid_base_lines.specs.Texts.{lines_text}
use Rattle.lid_blifout.specs.Canonical.{listed, cell_lines, inst_line, model_lines}
use Rattle.lid_base.proofs.Results.{on_ok}
use Rattle.lid_base_lines.proofs.Pieces.{said_as}
use Rattle.lid_blifout.proofs.Lines.{model_made, on_ok_items}
use Rattle.lid_blifout.proofs.writer.append_model.Goals as goal

pub returns-clause-ok : goal.returns-clause-ok
returns-clause-ok c =
    let old = c.args.into.now.items in
    let new = c.extend_from_slice.new.self.items in
    let m = c.args.model.now in
    on_ok {P = new ≡ c.append_insts.new.into.items ++ codes ".end\n"} {Q = new ≡ old ++ lines_text (model_lines m)} c.extend_from_slice.result
    (λ e. model_made m old _ _ _ _ _ c.append_insts.new.into.items new c.in_ok-append_title.ensures.ok
    (said_as (λ (ns : List (List ℕ)). lines_text (listed (codes ".inputs") ns)) _ _ c.as_slice.result.now m.inputs c.as_slice.ensures c.in_ok-append_listed.ensures.ok)
    (said_as (λ (ns : List (List ℕ)). lines_text (listed (codes ".outputs") ns)) _ _ c.as_slice-2.result.now m.outputs c.as_slice-2.ensures c.in_ok-append_listed-2.ensures.ok)
    (said_as (λ (ns : List (List ℕ)). lines_text (listed (codes ".clock") ns)) _ _ c.as_slice-3.result.now m.clocks c.as_slice-3.ensures c.in_ok-append_listed-3.ensures.ok)
    (said_as (λ (cs : List Cell). lines_text (flat_map cell_lines cs)) _ _ c.as_slice-4.result.now m.cells c.as_slice-4.ensures c.in_ok-append_cells.ensures.ok)
    (said_as (λ (is : List Inst). lines_text (map inst_line is)) _ _ c.as_slice-5.result.now m.insts c.as_slice-5.ensures c.in_ok-append_insts.ensures.ok)
    e)
    (on_ok_items c.extend_from_slice.result new (c.append_insts.new.into.items ++ codes ".end\n") c.append_insts.new.into.items c.extend_from_slice.ensures.items)
