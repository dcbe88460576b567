-- What is told of a run, as definitions see it.
use Rattle.std.specs.Prelude.{List, [], ◌∷◌, codes}
use Rattle.lid_top_gen.specs.declared.summary.Summary.{Summary}
use Rattle.lid_top_script.specs.Generated.{number_words}
use Rattle.lid_top_script.specs.Generated as gen
use Rattle.lid_base_lines.specs.Texts.{Words}

abbrev pub told_of : Summary → gen.Summary
told_of x = record {
  shells = x.shells;
  channels = x.channels;
  stations = x.stations;
  rows = x.rows;
  ones = x.ones;
  cycles = x.cycles;
  p = x.p;
  q = x.q;
}

-- the lines of the counts
abbrev pub count_lines : Summary → List Words
count_lines x =
    number_words (codes "shells") x.shells
    ∷ number_words (codes "channels") x.channels
    ∷ number_words (codes "stations") x.stations
    ∷ number_words (codes "rows") x.rows
    ∷ number_words (codes "ones") x.ones
    ∷ number_words (codes "cycles") x.cycles
    ∷ []
