use Rattle.std.proofs.Common.{arith}
use Rattle.std.proofs.lemmas.Grind.{common_steps}
use Rattle.lid_stations_text.proofs.LineTexts.{lines_more, stations_left}
use Rattle.lid_stations_text.proofs.writer.append_channels.Goals as goal

pub loop-i-preserved : goal.loop-i-preserved
loop-i-preserved c = record {
  done = lines_more c.args.count c.args.two c.args.channels.now c.args.relays.now c.loop-i.left.now c.split_at.result.0.now c.split_at.result.1.now c.loop-i.into.items c.append_channel.new.into.items _ c.loop-i.i c.index-channels-i.result c.loop-i-test.true c.requires.counts c.index-channels-i.is c.split_at.ensures.front c.split_at.ensures.back c.loop-i.invariant.done c.in_ok-append_channel.ensures.ok;
  kept = grind (arith, common_steps);
  left = stations_left c.args.relays.now c.loop-i.left.now c.split_at.result.1.now c.loop-i.i (omega arith) c.loop-i.invariant.left c.split_at.ensures.back;
}
