use Rattle.std.proofs.Common.{◌≡◌, ◌≤◌, take}
use Rattle.lid_emit.specs.Prefixes.{count_with}
use Rattle.lid_emit.proofs.prefix.count_in.Given as goal

abbrev pub invariant-loop-name : goal.invariant-loop-name
invariant-loop-name l = record {
  small : l.count ≤ l.name-index;
  counted : l.count ≡ count_with l.prefix (take l.name-index l.names);
}
