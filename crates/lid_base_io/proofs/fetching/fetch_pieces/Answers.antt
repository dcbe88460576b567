use Rattle.std.proofs.Common.{◌≡◌, ℕ, ◌+◌, ◌-◌, ◌≤◌, min, List, Option, arith, length, take, drop, ◌∙◌, refl, sym, ap, subst}
use Rattle.std.proofs.lemmas.List.{length-take, length-drop, length-append}
use Rattle.lid_base.proofs.Results.{given_err}
use Rattle.lid_base_io.specs.Transfer.{FetchedNext}
use Rattle.lid_base.specs.declared.outside.Fetch.{Fetch}
use Rattle.lid_base_io.specs.Calls.{CameAs, FetchesSoFar}
use Rattle.lid_base_io.proofs.Fetches.{IsStart, start_begins, start_more, start_ended, start_full}
use Rattle.lid_base_io.proofs.Going.{begins_as, goes_on_as, ended_as, stopped_as, full_as}
use Rattle.lid_base_io.proofs.fetching.fetch_pieces.Goals as goal

pub loop-bytes-init : goal.loop-bytes-init
loop-bytes-init g c =
    let held : Option (List ℕ) = g.S.Shelf.held c.args.shelf.now c.args.name.now in
    let calls : Option (List Fetch) = g.S.Shelf.fetches c.args.shelf.now in
    let none : length c.new-bytes.result.items ≡ 0 = ap length c.new-bytes.ensures.items in
    record {
      start = subst (IsStart held) (sym c.new-bytes.ensures.items) (start_begins held);
      short = omega (arith, none);
      calls =
          subst (λ (n : ℕ). CameAs calls calls (FetchesSoFar g.S.Shelf.whole held c.args.name.now c.args.limit n)) (sym none)
          (begins_as g.S.Shelf.whole held c.args.name.now c.args.limit calls);
      size = c.requires.room;
      still = λ q. refl;
      kept = refl;
      grows = λ q. omega arith;
    }

pub loop-bytes-preserved : goal.loop-bytes-preserved
loop-bytes-preserved g c =
    let room : ℕ = length (take c.min-want.result c.loop-bytes.buffer) in
    let within : length c.loop-bytes.bytes.items ≤ c.args.limit = omega (arith, c.loop-bytes-test.true, c.len.ensures, c.loop-bytes.bytes.ok.0) in
    let taken = length-take c.min-want.result c.loop-bytes.buffer in
    let is : room ≡ min 65536 (c.args.limit + 1 - length c.loop-bytes.bytes.items) = omega (arith, taken, c.min-want.ensures, c.len-in-loop-bytes.ensures, c.loop-bytes.invariant.size, c.loop-bytes.bytes.ok.0) in
    let gave = c.in_ok-got.ensures.within in
    let told = subst (λ (h : List ℕ → Option (List ℕ)). FetchedNext g.S.Shelf.whole (h c.args.name.now) c.loop-bytes.bytes.items c.fetch_piece.new.bytes.items room) c.loop-bytes.invariant.kept c.in_ok-got.ensures.told in
    record {
      start =
          start_more g.S.Shelf.whole (g.S.Shelf.held c.args.shelf.now c.args.name.now) c.loop-bytes.bytes.items c.fetch_piece.new.bytes.items room
          c.loop-bytes.invariant.start told;
      short = omega (arith, gave.0, gave.1, is, within);
      calls =
          goes_on_as g.S.Shelf.whole (g.S.Shelf.held c.args.shelf.now c.args.name.now) c.args.name.now c.args.limit room c.loop-bytes.bytes.items
          (g.S.Shelf.fetches c.args.shelf.now) (g.S.Shelf.fetches c.loop-bytes.shelf) (g.S.Shelf.fetches c.fetch_piece.new.shelf)
          within is c.loop-bytes.invariant.calls c.fetch_piece.ensures.came c.fetch_piece.new.bytes.items c.in_ok-got.got
          (omega (arith, c.if-got-eq0.false)) gave.0 gave.1 told;
      size = omega (arith, length-append c.fetch_piece.new.into (drop c.min-want.result c.loop-bytes.buffer), c.fetch_piece.auto.into, taken, length-drop c.min-want.result c.loop-bytes.buffer, c.loop-bytes.invariant.size);
      still = λ q. c.in_ok-got.ensures.still q ∙ c.loop-bytes.invariant.still q;
      kept = c.in_ok-got.ensures.kept ∙ c.loop-bytes.invariant.kept;
      grows = λ q. let before = c.loop-bytes.invariant.grows q in let after = c.in_ok-got.ensures.grows q in omega arith;
    }

pub returns-then-got-eq0-clause-told : goal.returns-then-got-eq0-clause-told
returns-then-got-eq0-clause-told g c =
    let room : ℕ = length (take c.min-want.result c.loop-bytes.buffer) in
    let within : length c.loop-bytes.bytes.items ≤ c.args.limit = omega (arith, c.loop-bytes-test.true, c.len.ensures, c.loop-bytes.bytes.ok.0) in
    let is : room ≡ min 65536 (c.args.limit + 1 - length c.loop-bytes.bytes.items) = omega (arith, length-take c.min-want.result c.loop-bytes.buffer, c.min-want.ensures, c.len-in-loop-bytes.ensures, c.loop-bytes.invariant.size, c.loop-bytes.bytes.ok.0) in
    let gave = c.in_ok-got.ensures.within in
    start_ended g.S.Shelf.whole (g.S.Shelf.held c.args.shelf.now c.args.name.now) c.loop-bytes.bytes.items c.fetch_piece.new.bytes.items room c.args.limit
    (omega arith) (omega arith) (omega (arith, gave.1, c.if-got-eq0.true)) c.loop-bytes.invariant.start
    (subst (λ (h : List ℕ → Option (List ℕ)). FetchedNext g.S.Shelf.whole (h c.args.name.now) c.loop-bytes.bytes.items c.fetch_piece.new.bytes.items room) c.loop-bytes.invariant.kept c.in_ok-got.ensures.told)

pub returns-then-got-eq0-clause-fetched : goal.returns-then-got-eq0-clause-fetched
returns-then-got-eq0-clause-fetched g c =
    let room : ℕ = length (take c.min-want.result c.loop-bytes.buffer) in
    let within : length c.loop-bytes.bytes.items ≤ c.args.limit = omega (arith, c.loop-bytes-test.true, c.len.ensures, c.loop-bytes.bytes.ok.0) in
    let is : room ≡ min 65536 (c.args.limit + 1 - length c.loop-bytes.bytes.items) = omega (arith, length-take c.min-want.result c.loop-bytes.buffer, c.min-want.ensures, c.len-in-loop-bytes.ensures, c.loop-bytes.invariant.size, c.loop-bytes.bytes.ok.0) in
    let gave = c.in_ok-got.ensures.within in
    ended_as g.S.Shelf.whole (g.S.Shelf.held c.args.shelf.now c.args.name.now) c.args.name.now c.args.limit room c.loop-bytes.bytes.items
    (g.S.Shelf.fetches c.args.shelf.now) (g.S.Shelf.fetches c.loop-bytes.shelf) (g.S.Shelf.fetches c.fetch_piece.new.shelf)
    within is c.loop-bytes.invariant.calls c.fetch_piece.ensures.came c.fetch_piece.new.bytes.items (omega (arith, gave.1, c.if-got-eq0.true))
    (subst (λ (h : List ℕ → Option (List ℕ)). FetchedNext g.S.Shelf.whole (h c.args.name.now) c.loop-bytes.bytes.items c.fetch_piece.new.bytes.items room) c.loop-bytes.invariant.kept c.in_ok-got.ensures.told)

pub returns-in_err-got-clause-begun : goal.returns-in_err-got-clause-begun
returns-in_err-got-clause-begun g c =
    let room : ℕ = length (take c.min-want.result c.loop-bytes.buffer) in
    let within : length c.loop-bytes.bytes.items ≤ c.args.limit = omega (arith, c.loop-bytes-test.true, c.len.ensures, c.loop-bytes.bytes.ok.0) in
    let is : room ≡ min 65536 (c.args.limit + 1 - length c.loop-bytes.bytes.items) = omega (arith, length-take c.min-want.result c.loop-bytes.buffer, c.min-want.ensures, c.len-in-loop-bytes.ensures, c.loop-bytes.invariant.size, c.loop-bytes.bytes.ok.0) in
    given_err c.from_residual.result
    (stopped_as g.S.Shelf.whole (g.S.Shelf.held c.args.shelf.now c.args.name.now) c.args.name.now c.args.limit room c.loop-bytes.bytes.items
    (g.S.Shelf.fetches c.args.shelf.now) (g.S.Shelf.fetches c.loop-bytes.shelf) (g.S.Shelf.fetches c.fetch_piece.new.shelf)
    within is c.loop-bytes.invariant.calls c.fetch_piece.ensures.came)

pub returns-clause-told : goal.returns-clause-told
returns-clause-told g c =
    start_full (g.S.Shelf.held c.args.shelf.now c.args.name.now) c.loop-bytes.bytes.items c.args.limit
    (omega (arith, c.loop-bytes-test.false, c.len.ensures, c.loop-bytes.bytes.ok.0, c.loop-bytes.invariant.short)) c.loop-bytes.invariant.start

pub returns-clause-fetched : goal.returns-clause-fetched
returns-clause-fetched g c =
    full_as g.S.Shelf.whole (g.S.Shelf.held c.args.shelf.now c.args.name.now) c.args.name.now c.args.limit (length c.loop-bytes.bytes.items)
    (g.S.Shelf.fetches c.args.shelf.now) (g.S.Shelf.fetches c.loop-bytes.shelf) (omega (arith, c.loop-bytes-test.false, c.len.ensures, c.loop-bytes.bytes.ok.0))
    c.loop-bytes.invariant.calls
