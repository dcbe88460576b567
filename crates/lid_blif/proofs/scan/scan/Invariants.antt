use Rattle.std.proofs.Common.{◌≡◌, ◌≤◌, [], take, drop}
use Rattle.std.specs.Prelude.{reverse}
use Rattle.lid_blif.specs.Names.{HoldsNames}
use Rattle.lid_blif.specs.Faults.{context_of, model_names, first_fault}
use Rattle.lid_blif.proofs.scan.scan.Given as goal

abbrev pub invariant-loop-line : goal.invariant-loop-line
invariant-loop-line l =
    let before = reverse (take l.line-index l.lines) in
    record {
      context : l.context ≡ context_of before;
      names : HoldsNames l.names (model_names before);
      rows : l.context.rows ≤ l.line-index;
      models : l.context.models ≤ l.line-index;
      later : first_fault before (drop l.line-index l.lines) ≡ first_fault [] l.lines;
    }
