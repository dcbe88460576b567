use Rattle.lid_texts.proofs.Limits.{reading_within}
use Rattle.lid_texts.proofs.reader.read_rows.Goals as goal

pub returns-in-Ok-copy_names-clause-wide : goal.returns-in-Ok-copy_names-clause-wide
returns-in-Ok-copy_names-clause-wide c =
    rw c.in-Ok-copy_names.ensures (reading_within c.args.columns.now c.args.outs c.args.bytes.now c.in-Ok.bits c.in-Ok.ensures.ok).wide

pub returns-in-Ok-copy_names-clause-few : goal.returns-in-Ok-copy_names-clause-few
returns-in-Ok-copy_names-clause-few c =
    (reading_within c.args.columns.now c.args.outs c.args.bytes.now c.in-Ok.bits c.in-Ok.ensures.ok).few

pub returns-in-Ok-copy_names-clause-few_out_bits : goal.returns-in-Ok-copy_names-clause-few_out_bits
returns-in-Ok-copy_names-clause-few_out_bits c =
    (reading_within c.args.columns.now c.args.outs c.args.bytes.now c.in-Ok.bits c.in-Ok.ensures.ok).few_out_bits
