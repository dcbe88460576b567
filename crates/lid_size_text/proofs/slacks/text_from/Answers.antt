use Rattle.std.proofs.Common.{◌≡◌, ◌++◌, subst}
use Rattle.lid_base_lines.specs.Texts.{line_text}
use Rattle.lid_stations.specs.Placed.{Placing, links_in}
use Rattle.lid_size_text.specs.Slacks.{slack_words, next_ratio_word}
use Rattle.lid_size_text.proofs.Telling.{line_is, one_more}
use Rattle.lid_size_text.proofs.slacks.text_from.Goals as goal

pub loop-channel-preserved : goal.loop-channel-preserved
loop-channel-preserved c =
    let l = links_in c.args.placed.now in
    let found = c.in_ok-found.found in
    one_more l c.args.placed.now.placement c.loop-channel.channel c.loop-channel.text.items c.append_slack.new.into.items (slack_words l c.loop-channel.channel found.added (next_ratio_word found.next)) c.loop-channel.invariant
    (line_is l c.args.placed.now.placement c.loop-channel.channel found c.in_ok-found.ensures)
    (subst (λ (v : Placing). c.append_slack.new.into.items ≡ c.loop-channel.text.items ++ line_text (slack_words (links_in v) c.loop-channel.channel found.added (next_ratio_word found.next))) c.placed.view_is c.in_ok-append_slack.ensures)
