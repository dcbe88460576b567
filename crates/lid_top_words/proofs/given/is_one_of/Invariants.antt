use Rattle.std.proofs.Common.{◌≡◌, map, drop}
use Rattle.std.specs.List.{list_any}
use Rattle.std.specs.Str.{bytes_eq}
use Rattle.lid_top_words.proofs.given.is_one_of.Given as goal

-- none of the names so far is the name
abbrev pub invariant-loop-known : goal.invariant-loop-known
invariant-loop-known l =
    list_any (λ n. bytes_eq n l.name) (map (λ n. n.now) (drop l.known-index l.names))
    ≡ list_any (λ n. bytes_eq n l.name) (map (λ n. n.now) l.names)
