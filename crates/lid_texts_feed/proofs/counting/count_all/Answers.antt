use Rattle.std.proofs.Common.{◌≡◌, ℕ, ◌++◌, arith, List, Option, None, refl, sym, ap, ◌∙◌, subst}
use Rattle.lid_texts_feed.specs.Feeds.{IsRefusedText, IfRefused}
use Rattle.lid_texts_feed.specs.Fetching.{ScansBy, FailsBy, Knows}
use Rattle.lid_texts_feed.proofs.Giving.{has_rows}
use Rattle.lid_texts_feed.proofs.Calling.{unless_later, elsewhere, came_whole}
use Rattle.lid_texts_feed.proofs.counting.count_all.Goals as goal

pub returns-in-Some-clause-counted : goal.returns-in-Some-clause-counted
returns-in-Some-clause-counted g c = λ columns outs known knows.
    let now = c.loop-text.invariant.knows columns outs known knows in
    has_rows (g.S.Shelf.held c.args.shelf.now c.args.name.now) columns outs c.loop-text.text now.0 c.in-Some.count c.in-Some.is now.1

pub returns-in-Err-clause-refused : goal.returns-in-Err-clause-refused
returns-in-Err-clause-refused g c = λ columns outs known knows.
    let now = c.loop-text.invariant.knows columns outs known knows in
    subst (λ (h : List ℕ → Option (List ℕ)). IfRefused (IsRefusedText (h c.args.name.now) columns outs) c.in-Err.fault) c.loop-text.invariant.kept
    (c.in-Err.ensures.refused columns outs now.0 c.in_default.is
    (subst (λ (h : List ℕ → Option (List ℕ)). Knows (h c.args.name.now) columns outs c.loop-text.text c.loop-text.text.count now.0) (sym c.loop-text.invariant.kept) now.1))

pub returns-in-Some-clause-came : goal.returns-in-Some-clause-came
returns-in-Some-clause-came g c = λ columns outs known first knows so.
    came_whole _ g.S.Shelf.whole (g.S.Shelf.held c.args.shelf.now c.args.name.now) c.args.name.now first (g.S.Shelf.fetches c.loop-text.shelf) c.loop-text.text.fetched c.in-Some.count c.loop-text.text.count c.in-Some.is
    (c.loop-text.invariant.came columns outs known first knows so)

pub returns-in-Some-clause-still : goal.returns-in-Some-clause-still
returns-in-Some-clause-still g c = c.loop-text.invariant.still

pub returns-in-Err-clause-begun : goal.returns-in-Err-clause-begun
returns-in-Err-clause-begun g c = λ columns outs known first knows so.
    let l = c.loop-text in
    let whole = g.S.Shelf.whole in
    let name = c.args.name.now in
    let now = l.invariant.knows columns outs known knows in
    let same : g.S.Shelf.held l.shelf name ≡ g.S.Shelf.held c.args.shelf.now name = ap (λ (h : List ℕ → Option (List ℕ)). h name) l.invariant.kept in
    let fails = elsewhere (λ h n. FailsBy whole h columns outs None n first (g.S.Shelf.fetches c.take_rows.new.shelf) c.in-Err.fault) same refl
    (c.in-Err.ensures.begun columns outs now.0 None first c.in_default.is
    (subst (λ (h : Option (List ℕ)). Knows h columns outs l.text l.text.count now.0) (sym same) now.1)
    tt
    (elsewhere (λ h n. ScansBy whole h columns outs None n first (g.S.Shelf.fetches l.shelf) l.text) (sym same) refl (l.invariant.came columns outs known first knows so))) in
    (fails.0, fails.1, fails.2.0)

pub returns-in-Err-clause-wanting : goal.returns-in-Err-clause-wanting
returns-in-Err-clause-wanting g c = unless_later (λ still q. still q ∙ c.loop-text.invariant.still q) c.in-Err.fault c.in-Err.ensures.wanting

pub loop-text-preserved : goal.loop-text-preserved
loop-text-preserved g c =
    let l = c.loop-text in
    let whole = g.S.Shelf.whole in
    let name = c.args.name.now in
    let new = c.take_rows.new.self in
    let took = c.in_default-take_rows.ensures in
    let same : g.S.Shelf.held l.shelf name ≡ g.S.Shelf.held c.args.shelf.now name = ap (λ (h : List ℕ → Option (List ℕ)). h name) l.invariant.kept in
    record {
      knows = λ columns outs known knows.
          let now = l.invariant.knows columns outs known knows in
          let more = took.knows columns outs now.0 c.in_default.is (subst (λ (h : Option (List ℕ)). Knows h columns outs l.text l.text.count now.0) (sym same) now.1) in
          (now.0 ++ more.rows, subst (λ (h : Option (List ℕ)). Knows h columns outs new new.count (now.0 ++ more.rows)) same more.knows);
      came = λ columns outs known first knows so.
          let now = l.invariant.knows columns outs known knows in
          elsewhere (λ h n. ScansBy whole h columns outs None n first (g.S.Shelf.fetches c.take_rows.new.shelf) new) same refl
          (took.came columns outs now.0 None first c.in_default.is
          (subst (λ (h : Option (List ℕ)). Knows h columns outs l.text l.text.count now.0) (sym same) now.1)
          tt
          (elsewhere (λ h n. ScansBy whole h columns outs None n first (g.S.Shelf.fetches l.shelf) l.text) (sym same) refl (l.invariant.came columns outs known first knows so)));
      still = λ q. took.still q ∙ l.invariant.still q;
      kept = took.kept ∙ l.invariant.kept;
      grows = λ q. let before = l.invariant.grows q in let after = took.grows q in omega (arith, before, after);
    }
