use Rattle.std.proofs.Common.{ℕ, List, ◌+◌, ◌≤◌, refl, sym, subst, arith}
use Rattle.std.proofs.lemmas.List.Elements.{All-get_or}
use Rattle.lid_board.specs.Starts.{AreFirsts}
use Rattle.lid_board.proofs.Starting.{are_laid_more, are_firsts_more}
use Rattle.lid_board.proofs.starts.lay.Goals as goal

pub loop-station-preserved : goal.loop-station-preserved
loop-station-preserved c = record {
  words =
      are_laid_more c.args.firsts.now c.args.caps.now c.loop-station.words.items c.lay_station.new.words.items c.loop-station.station
      (λ s there. All-get_or (λ (cap : ℕ). 2 ≤ cap) c.args.caps.now s 0 (omega arith) c.requires.two)
      c.loop-station.invariant.words _ _ c.word_of.ensures refl c.in_ok-lay_station.ensures;
  starts =
      subst (λ (xs : List ℕ). AreFirsts c.args.caps.now xs (c.loop-station.station + 1)) (sym c.in_ok-push-2.ensures.items)
      (are_firsts_more c.args.caps.now c.loop-station.starts.items c.loop-station.station c.len.result c.loop-station.invariant.starts (let long = c.loop-station.invariant.words.long in let len = c.len.ensures in omega arith));
}
