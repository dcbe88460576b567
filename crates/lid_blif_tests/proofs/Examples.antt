-- The design of a test is writable.
use Rattle.std.proofs.Common.{◌≡◌, refl, arith}
use Rattle.lid_design.specs.declared.Design.{Design}
use Rattle.lid_base_lines.specs.Texts.{line_text}
use Rattle.lid_blifout.specs.Canonical.{canonical_text}
use Rattle.lid_blifout.specs.Writable.{IsWritable}
use Rattle.lid_blif_tests.specs.Examples.{lone_design, lone_model}
use Rattle.std.specs.List.{IsDistinct}

pub lone_writable : (d : Design) → d ≡ lone_design → IsWritable d
unfolding lone_design lone_model canonical_text line_text IsDistinct
lone_writable d e = rw e (record {
  rooted = refl;
  some = omega arith;
  distinct = (tt, tt);
  models = (
    record {
      name = record { some = omega arith; short = omega arith; bytes = (refl, tt); unmarked = refl };
      inputs = tt;
      outputs = tt;
      clocks = tt;
      cells = tt;
      insts = tt;
    },
    tt,
  );
  few_models = omega arith;
  few_rows = omega arith;
  short = omega arith;
})
