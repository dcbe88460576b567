use Rattle.std.proofs.Common.{sym, ◌∙◌, ap}
use Rattle.lid_texts_packed.specs.Rows.{WideRows}
use Rattle.lid_texts_feed.proofs.Taking.{nothing_ended}
use Rattle.lid_texts_feed.proofs.packing.Packing.start.Goals as goal

pub returns : goal.returns
returns c = record {
  read = c.in_ok-scan.ensures.read;
  columns_are = c.in_ok-scan.ensures.columns;
  outs_are = c.in_ok-scan.ensures.outs;
  none = c.new.ensures.items;
  wide = ap (λ (v : WideRows). v.width) c.new-2.ensures;
  rows = ap (λ (v : WideRows). v.rows) c.new-2.ensures ∙ sym (nothing_ended c.args.columns.now c.args.outs);
}
