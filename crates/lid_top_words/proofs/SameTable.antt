-- The table of the code is the table of the commands.
use Rattle.std.proofs.Common.{◌≡◌, refl, map}
use Rattle.lid_top_words.specs.declared.table.TheConstants.{FORMS}
use Rattle.lid_top_words.specs.Table.{table}
use Rattle.lid_top_words.specs.Jobs.{form_by}

pub same_table : map (form_by (λ w. w.now) (λ ws. map (λ w. w.now) ws.now)) FORMS ≡ table
same_table = refl
