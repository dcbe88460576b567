use Rattle.lid_graph_laws.proofs.Rising.{never_fall, rise_by_one, meet_caps, edges_allow, caps_cut}
use Rattle.lid_graph_laws.proofs.laws.counts_rise.Goals as goal

pub returns : goal.returns
returns c = record { falls = never_fall; one = rise_by_one; caps = meet_caps; edges = edges_allow; cut = caps_cut }
