-- One channel more.
use Rattle.std.proofs.Common.{◌<◌, ◌+◌, length, length-set, ◌∙◌, arith}
use Rattle.lid_shell_nodes.proofs.Places.{few_so_far, one_placed_at}
use Rattle.lid_shell_nodes.proofs.wires.TokenPlaces.of.Goals as goal

pub overflow_add-index_mut : goal.overflow_add-index_mut
overflow_add-index_mut c =
    let within : c.loop-channel.channel-index < length c.as_slice-channel-items.result.now = omega arith in
    let few = few_so_far c.args.system.now c.requires c.loop-channel.channel-index c.as_slice-channel-items.result.now c.channel-item.result c.as_slice-channel-items.ensures within c.channel-item.is
    c.loop-channel.places.items c.loop-channel.taken.items c.loop-channel.invariant.many c.loop-channel.invariant.placed c.index_mut.result.now c.index_mut.ensures.value in
    omega arith

pub loop-channel-preserved : goal.loop-channel-preserved
loop-channel-preserved c =
    let within : c.loop-channel.channel-index < length c.as_slice-channel-items.result.now = omega arith in
    record {
      many = length-set c.loop-channel.taken.items c.channel-item.result.to (c.index_mut.result.now + 1) ∙ c.loop-channel.invariant.many;
      placed =
          one_placed_at c.args.system.now c.requires c.loop-channel.channel-index c.as_slice-channel-items.result.now c.channel-item.result c.as_slice-channel-items.ensures within c.channel-item.is
          c.loop-channel.places.items c.loop-channel.taken.items c.loop-channel.invariant.many c.loop-channel.invariant.placed c.index.result.now c.index_mut.result.now c.push.new.self.items
          c.index.ensures c.index_mut.ensures.value c.in_ok-push.ensures.items;
    }
