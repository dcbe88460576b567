use Rattle.std.specs.Prelude.{[]}
use Rattle.lid_board.specs.Starts.{first_ends}
use Rattle.lid_board.proofs.key.key_of.Given as goal

-- what is known is what the course says
abbrev pub ghosts-key_as : goal.ghosts-key_as
ghosts-key_as g a = record {
  sight = record { ends = first_ends a._firsts.now a._caps.now (g.C.Course.streams a._course.now); steps = [] };
}
