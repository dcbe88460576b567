use Rattle.std.proofs.Common.{map, [], ◌∷◌}
use Rattle.std.specs.Fmt.{decimal}
use Rattle.lid_texts_runs.specs.Pieces.{node_name}
use Rattle.lid_stations_text.specs.Written.{caps_words}
use Rattle.lid_stations_text.proofs.LineTexts.{channel_made}
use Rattle.lid_stations_text.proofs.writer.append_channel.Goals as goal

pub returns-clause-ok : goal.returns-clause-ok
returns-clause-ok c =
    let channel = c.args.channel.now in
    channel_made c.args.into.now.items _ _ _ c.push.new.self.items (node_name c.args.count channel.from) (node_name c.args.count channel.to) (map decimal (channel.piece ∷ c.args.relays ∷ [])) (caps_words c.args.two c.args.caps.now)
    c.in_ok-append_ends.ensures.ok c.in_ok-append_small_numbers.ensures.ok c.in_ok-append_caps.ensures.ok c.in_ok-push.ensures.items
