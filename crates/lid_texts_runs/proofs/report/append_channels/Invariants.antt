use Rattle.std.proofs.Common.{◌≡◌, ◌++◌, take}
use Rattle.lid_base.specs.Lists.{Keeps}
use Rattle.lid_texts_runs.specs.Runs.{channels_text}
use Rattle.lid_texts_runs.proofs.report.append_channels.Given as goal

abbrev pub invariant-loop-channel : goal.invariant-loop-channel
invariant-loop-channel l = record {
  done : l.into.items ≡ l.fn.into.items ++ channels_text l.nodes (take l.channel-index l.channels);
  kept : Keeps l.fn.into.items l.into.items;
}
