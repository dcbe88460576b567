use Rattle.std.proofs.Common.{Some, ◌∙◌, ap, sym, map}
use Rattle.lid_base.proofs.Lists.{same_bytes}
use Rattle.lid_base.proofs.Places.{get_map}
use Rattle.lid_check_names.specs.Names.{bytes_of}
use Rattle.lid_check_names.proofs.Lists.{held_insert}
use Rattle.lid_check_names.proofs.set.enter_in.Goals as goal

pub returns-clause-place : goal.returns-clause-place
returns-clause-place c =
    let stored = c.in_ok-place.ensures.stored in
    get_map bytes_of c.insert_full.new.self.keys c.in_ok-place.place stored.0 stored.1 ∙ ap Some (sym (same_bytes _ _ stored.2))

pub returns-clause-added : goal.returns-clause-added
returns-clause-added c = ap (map bytes_of) c.in_ok-place.ensures.keys ∙ held_insert c.args.set.now.keys (record { bytes = c.args.name })
