use Rattle.std.proofs.Common.{◌∙◌, sym, ap, length, List, ℕ}
use Rattle.lid_base.specs.Numbers.{number}
use Rattle.lid_base.specs.Words.{word_at}
use Rattle.lid_stations.specs.Placements.{links_of}
use Rattle.lid_system.specs.declared.Node.{Node}
use Rattle.lid_stations_text.specs.declared.channels.Ends.{Ends}
use Rattle.lid_stations_text.specs.Channels.{is_between}
use Rattle.lid_stations_text.specs.Faults.{node_by, place_where}
use Rattle.lid_stations_text.proofs.ChannelOrder.{no_from, no_to, no_piece, by_ends}
use Rattle.lid_stations_text.proofs.channels.channel_of.Goals as goal

pub returns-in_default : goal.returns-in_default
returns-in_default c =
    let count = ap (λ (nodes : List Node). node_by (length nodes) (word_at c.args.words.now 0)) c.as_slice.ensures in
    let word = ap (node_by (length c.as_slice.result.now)) c.word_at.ensures in
    sym (no_from (links_of c.args.system.now) c.args.words.now (sym count ∙ sym word ∙ sym c.node_by.ensures ∙ c.in_default.is))

pub returns-in_default-node_by : goal.returns-in_default-node_by
returns-in_default-node_by c =
    let count = ap (λ (nodes : List Node). node_by (length nodes) (word_at c.args.words.now 1)) c.as_slice.ensures in
    let word = ap (node_by (length c.as_slice.result.now)) c.word_at-2.ensures in
    sym (no_to (links_of c.args.system.now) c.args.words.now (sym count ∙ sym word ∙ sym c.node_by-2.ensures ∙ c.in_default-node_by.is))

pub returns-in_default-number : goal.returns-in_default-number
returns-in_default-number c =
    sym (no_piece (links_of c.args.system.now) c.args.words.now (sym (ap number c.word_at-3.ensures) ∙ sym c.number.ensures ∙ c.in_default-number.is))

pub returns : goal.returns
returns c =
    let count = λ (i : ℕ). ap (λ (nodes : List Node). node_by (length nodes) (word_at c.args.words.now i)) c.as_slice.ensures in
    let from = ap (node_by (length c.as_slice.result.now)) c.word_at.ensures in
    let to = ap (node_by (length c.as_slice.result.now)) c.word_at-2.ensures in
    let ends : Ends = record { from = c.in-Some.from; to = c.in-Some-node_by.to; piece = c.in-Some-number.piece } in
    c.find_channel.ensures
    ∙ ap (place_where (is_between ends) 0) c.as_slice-2.ensures
    ∙ by_ends (links_of c.args.system.now) c.args.words.now ends
    (sym (count 0) ∙ sym from ∙ sym c.node_by.ensures ∙ c.in-Some.is)
    (sym (count 1) ∙ sym to ∙ sym c.node_by-2.ensures ∙ c.in-Some-node_by.is)
    (sym (ap number c.word_at-3.ensures) ∙ sym c.number.ensures ∙ c.in-Some-number.is)
