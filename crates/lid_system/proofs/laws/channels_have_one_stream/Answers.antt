use Rattle.lid_system.proofs.Streaming.{some_stream, same_streams, stream_long, stream_small, stream_at}
use Rattle.lid_system.proofs.laws.channels_have_one_stream.Goals as goal

pub returns-clause-some : goal.returns-clause-some
returns-clause-some c s rows chan well below = some_stream s well rows chan below

pub returns-clause-one : goal.returns-clause-one
returns-clause-one c = same_streams

pub returns-clause-long : goal.returns-clause-long
returns-clause-long c = stream_long

pub returns-clause-small : goal.returns-clause-small
returns-clause-small c s rows chan tokens well is = stream_small s well rows chan tokens is

pub returns-clause-tokens : goal.returns-clause-tokens
returns-clause-tokens c = stream_at
