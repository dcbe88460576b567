use Rattle.std.proofs.Common.{◌++◌, ◌∷◌, [], refl, sym, ◌∙◌, subst, arith, length-append}
use Rattle.lid_base.proofs.Results.{on_ok}
use Rattle.lid_texts.specs.Scans.{logical_of}
use Rattle.lid_texts.specs.RowsWalk.{RowsGrow, WalkGoes, IsWalked}
use Rattle.lid_texts.specs.Scanned.{GivesPrefix}
use Rattle.lid_texts.proofs.Scanning.{take_starts, goes_of, few_lines, next_line, read_here, read_stopped, gives_here, gives_stopped, gives_prefix, kept_ok, cut_some, cut_none, total_of, on_err_of, along, Taking}
use Rattle.lid_base.proofs.Options.{none_of}
use Rattle.lid_texts.proofs.scan.RowScan.feed.Goals as goal

pub returns-then-self-clause-prefix : goal.returns-then-self-clause-prefix
returns-then-self-clause-prefix c = λ bytes read.
    gives_prefix c.args.self.now.columns c.args.self.now.outs bytes c.args.piece.now c.args.piece.now c.args.self.now.walk c.args.self.now.partial.items c.args.into.now.items c.args.into.now.items
    (take_starts c.args.self.now bytes c.args.piece.now c.args.into.now.items read)

pub returns-in_default-clause-prefix : goal.returns-in_default-clause-prefix
returns-in_default-clause-prefix c = λ bytes read.
    gives_prefix c.args.self.now.columns c.args.self.now.outs bytes c.args.piece.now c.args.piece.now c.args.self.now.walk c.args.self.now.partial.items c.args.into.now.items c.args.into.now.items
    (take_starts c.args.self.now bytes c.args.piece.now c.args.into.now.items read)

pub loop-left-init : goal.loop-left-init
loop-left-init c = record {
  taking = λ bytes read. take_starts c.args.self.now bytes c.args.piece.now c.args.into.now.items read;
  columns = refl;
  outs = refl;
  total = c.in-Some.ensures.1;
  few = c.in-Some.ensures.0;
  spent = refl;
}

pub returns-in_default-after-clause-read : goal.returns-in_default-after-clause-read
returns-in_default-after-clause-read c = λ bytes read.
    let s = c.args.self.now in
    let l = c.loop-left in
    on_ok c.extend_from_slice-kept.result
    (λ kept. read_here s.columns s.outs bytes c.args.piece.now l.left.now l.self.walk l.self.partial.items c.args.into.now.items l.into.items (l.invariant.taking bytes read) _ l.invariant.columns l.invariant.outs
    (total_of s bytes c.args.piece.now l.self.total read l.invariant.total) (none_of l.self.walk.fault c.loop-left-test.ensures) refl c.cut_line.result.0.now
    (cut_none l.left.now c.cut_line.result.0.now c.cut_line.result.1 c.cut_line.ensures.line c.in_default-after.is) kept)
    (kept_ok c.extend_from_slice-kept.result l.self.partial.items c.cut_line.result.0.now c.extend_from_slice-kept.new.self.items c.extend_from_slice-kept.ensures.items)

pub returns-in_default-after-clause-rows : goal.returns-in_default-after-clause-rows
returns-in_default-after-clause-rows c = λ bytes read.
    let s = c.args.self.now in
    let l = c.loop-left in
    on_ok c.extend_from_slice-kept.result
    (λ kept. gives_here s.columns s.outs bytes c.args.piece.now l.left.now l.self.walk l.self.partial.items c.args.into.now.items l.into.items (l.invariant.taking bytes read)
    (none_of l.self.walk.fault c.loop-left-test.ensures) c.cut_line.result.0.now
    (cut_none l.left.now c.cut_line.result.0.now c.cut_line.result.1 c.cut_line.ensures.line c.in_default-after.is))
    (kept_ok c.extend_from_slice-kept.result l.self.partial.items c.cut_line.result.0.now c.extend_from_slice-kept.new.self.items c.extend_from_slice-kept.ensures.items)

pub returns-in_default-after-clause-prefix : goal.returns-in_default-after-clause-prefix
returns-in_default-after-clause-prefix c = λ bytes read.
    on_err_of c.extend_from_slice-kept.result
    (gives_prefix c.args.self.now.columns c.args.self.now.outs bytes c.args.piece.now c.loop-left.left.now c.loop-left.self.walk c.loop-left.self.partial.items c.args.into.now.items c.loop-left.into.items (c.loop-left.invariant.taking bytes read))

pub returns-in_default-after-clause-columns : goal.returns-in_default-after-clause-columns
returns-in_default-after-clause-columns c = c.loop-left.invariant.columns

pub returns-in_default-after-clause-outs : goal.returns-in_default-after-clause-outs
returns-in_default-after-clause-outs c = c.loop-left.invariant.outs

pub returns-in_err-end_line-clause-prefix : goal.returns-in_err-end_line-clause-prefix
returns-in_err-end_line-clause-prefix c = λ bytes read.
    let s = c.args.self.now in
    let l = c.loop-left in
    let given = gives_prefix s.columns s.outs bytes c.args.piece.now l.left.now l.self.walk l.self.partial.items c.args.into.now.items l.into.items (l.invariant.taking bytes read) in
    on_err_of c.from_residual.result
    (subst (λ rows. GivesPrefix s.columns s.outs bytes (bytes ++ c.args.piece.now) c.args.into.now.items rows) (sym c.in_err-end_line.ensures.kept) given)

pub returns-in_err-end_line-clause-columns : goal.returns-in_err-end_line-clause-columns
returns-in_err-end_line-clause-columns c = c.end_line.ensures.columns ∙ c.loop-left.invariant.columns

pub returns-in_err-end_line-clause-outs : goal.returns-in_err-end_line-clause-outs
returns-in_err-end_line-clause-outs c = c.end_line.ensures.outs ∙ c.loop-left.invariant.outs

pub loop-left-preserved : goal.loop-left-preserved
loop-left-preserved c =
    let s = c.args.self.now in
    let l = c.loop-left in
    record {
      taking = λ bytes read.
          let taking = l.invariant.taking bytes read in
          let none = none_of l.self.walk.fault c.loop-left-test.ensures in
          let cut = cut_some l.left.now c.cut_line.result.0.now c.cut_line.result.1 c.in-Some-after.rest c.cut_line.ensures.line c.in-Some-after.is in
          let few = few_lines s.columns s.outs bytes c.args.piece.now l.left.now l.self.walk l.self.partial.items c.args.into.now.items l.into.items taking none c.cut_line.result.0.now c.in-Some-after.rest.now cut
          (let own = read.total in let most = l.invariant.few in simp length-append (omega arith)) in
          let goes = along (λ columns outs. WalkGoes columns outs taking.lines l.self.walk) s.columns l.self.columns s.outs l.self.outs (sym l.invariant.columns) (sym l.invariant.outs) (goes_of s.columns s.outs bytes c.args.piece.now l.left.now l.self.walk l.self.partial.items c.args.into.now.items l.into.items taking none) in
          let walked = along (λ columns outs. IsWalked columns outs (taking.lines ++ (l.self.partial.items ++ c.cut_line.result.0.now) ∷ []) c.end_line.new.self.walk) l.self.columns s.columns l.self.outs s.outs l.invariant.columns l.invariant.outs (c.in_ok-end_line.ensures.walked taking.lines few goes) in
          let grow = along (λ columns outs. RowsGrow columns outs (logical_of taking.lines) (logical_of (taking.lines ++ (l.self.partial.items ++ c.cut_line.result.0.now) ∷ [])) l.into.items c.end_line.new.into.items) l.self.columns s.columns l.self.outs s.outs l.invariant.columns l.invariant.outs (c.in_ok-end_line.ensures.rows taking.lines few goes) in
          subst (λ partial. Taking s.columns s.outs bytes c.args.piece.now c.in-Some-after.rest.now c.end_line.new.self.walk partial c.args.into.now.items c.end_line.new.into.items) (sym c.in_ok-end_line.ensures.partial)
          (next_line s.columns s.outs bytes c.args.piece.now l.left.now l.self.walk l.self.partial.items c.args.into.now.items l.into.items taking none c.cut_line.result.0.now c.in-Some-after.rest.now cut c.end_line.new.self.walk c.end_line.new.into.items walked grow);
      columns = c.end_line.ensures.columns ∙ l.invariant.columns;
      outs = c.end_line.ensures.outs ∙ l.invariant.outs;
      total = c.end_line.ensures.total ∙ l.invariant.total;
      few = l.invariant.few;
      spent = c.end_line.ensures.spent ∙ l.invariant.spent;
    }

pub returns-clause-read : goal.returns-clause-read
returns-clause-read c = λ bytes read.
    let s = c.args.self.now in
    let l = c.loop-left in
    read_stopped s.columns s.outs bytes c.args.piece.now l.left.now l.self.walk l.self.partial.items c.args.into.now.items l.into.items (l.invariant.taking bytes read) _ l.invariant.columns l.invariant.outs
    (total_of s bytes c.args.piece.now l.self.total read l.invariant.total) (c.loop-left-test.ensures) refl

pub returns-clause-rows : goal.returns-clause-rows
returns-clause-rows c = λ bytes read.
    let s = c.args.self.now in
    let l = c.loop-left in
    gives_stopped s.columns s.outs bytes c.args.piece.now l.left.now l.self.walk l.self.partial.items c.args.into.now.items l.into.items (l.invariant.taking bytes read) (c.loop-left-test.ensures)

pub returns-clause-columns : goal.returns-clause-columns
returns-clause-columns c = c.loop-left.invariant.columns

pub returns-clause-outs : goal.returns-clause-outs
returns-clause-outs c = c.loop-left.invariant.outs

pub returns-in_err-end_line-clause-spent : goal.returns-in_err-end_line-clause-spent
returns-in_err-end_line-clause-spent c = on_err_of c.from_residual.result (c.end_line.ensures.spent ∙ c.loop-left.invariant.spent)
