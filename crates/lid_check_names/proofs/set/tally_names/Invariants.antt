use Rattle.std.proofs.Common.{◌≡◌, ℕ, List, nat_lt, count_by, take}
use Rattle.std.specs.Str.{bytes_eq}
use Rattle.lid_check_names.specs.Names.{is_among, texts}
use Rattle.lid_check_names.proofs.set.tally_names.Given as goal

abbrev pub invariant-loop-name : goal.invariant-loop-name
invariant-loop-name l =
    ((n : List ℕ) → is_among n l.all ≡ nat_lt 0 (count_by (bytes_eq n) (texts (take l.name-index l.names))))
    × ((n : List ℕ) → is_among n l.twice ≡ nat_lt 1 (count_by (bytes_eq n) (texts (take l.name-index l.names))))
