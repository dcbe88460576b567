use Rattle.std.proofs.Common.{rules, sym, ap, ◌∙◌, ◌≡◌, true, arith}
use Rattle.std.proofs.lemmas.List.Sorted.{IsPartitionPoint-from_clause}
use Rattle.std.proofs.lemmas.List.{get_or_read}
use Rattle.lid_stations_text.specs.Channels.{comes_before, is_between}
use Rattle.lid_stations_text.proofs.ChannelOrder.{partitioned, found, not_found}
use Rattle.lid_stations_text.proofs.channels.find_channel.Goals.{else-place-channels-via-then-place-channels+else-is_between, else-place-channels-via-else-place-channels}
use Rattle.lid_stations_text.proofs.channels.find_channel.Goals as goal

pub returns-then-is_between : goal.returns-then-is_between
returns-then-is_between c =
    let cut = IsPartitionPoint-from_clause (comes_before c.args.ends) _ _ c.partition_point-place.ensures.partitioned (partitioned c.args.channels.now c.args.ends c.requires) (λ a r q k. search rules) in
    let is : is_between c.args.ends c.index-channels-place.result ≡ true = sym c.is_between.ensures ∙ c.if-is_between.true in
    sym (found c.args.channels.now c.args.ends c.partition_point-place.result c.requires cut c.index-channels-place.result c.if-place-channels.true (ap (is_between c.args.ends) (sym c.index-channels-place.is) ∙ is))

pub returns-else-place-channels : goal.returns-else-place-channels
returns-else-place-channels c =
    let cut = IsPartitionPoint-from_clause (comes_before c.args.ends) _ _ c.partition_point-place.ensures.partitioned (partitioned c.args.channels.now c.args.ends c.requires) (λ a r q k. search rules) in
    sym (not_found c.args.channels.now c.args.ends c.partition_point-place.result c.requires cut
    (elim c.else-place-channels.branch [
      | else-place-channels-via-then-place-channels+else-is_between w ↦
          λ h d. ap (is_between c.args.ends) (sym (get_or_read _ _ _ h w.index-channels-place.is d)) ∙ sym w.is_between.ensures ∙ w.if-is_between.false
      | else-place-channels-via-else-place-channels w ↦ λ h d. absurd (omega arith)
    ]))
