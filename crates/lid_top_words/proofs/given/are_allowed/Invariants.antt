use Rattle.std.proofs.Common.{◌≡◌, map, drop}
use Rattle.std.specs.List.{list_all}
use Rattle.lid_top_words.specs.Reading.{matches_in}
use Rattle.lid_top_words.specs.Jobs.{is_allowed}
use Rattle.lid_top_words.proofs.given.are_allowed.Given as goal

-- the options so far stand only where they may
abbrev pub invariant-loop-name : goal.invariant-loop-name
invariant-loop-name l =
    list_all (is_allowed (map (λ o. o.now) l.needed) (map (λ o. o.now) l.further) (matches_in l.given)) (map (λ n. n.now) (drop l.name-index l.names))
    ≡ list_all (is_allowed (map (λ o. o.now) l.needed) (map (λ o. o.now) l.further) (matches_in l.given)) (map (λ n. n.now) l.names)
