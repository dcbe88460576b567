use Rattle.std.proofs.Common.{◌≡◌, [], arith, ◌∙◌, ◌==◌, ℕ, true, false, List, length, Option, is_some, refl, sym, ap, subst}
use Rattle.std.specs.Vec.{vec_len}
use Rattle.lid_texts_feed.specs.Feeds.{IsRefusedText, IfRefused}
use Rattle.lid_texts_feed.specs.Fetching.{ScansBy, FailsBy, HasGiven}
use Rattle.lid_texts_feed.proofs.Calling.{unless_later, elsewhere}
use Rattle.lid_texts_feed.proofs.Giving.{nothing_held, nothing_taken, gives_next}
use Rattle.lid_texts_feed.proofs.feed.RowFeed.next.Goals as goal
use Rattle.lid_texts_feed.proofs.feed.RowFeed.next.Goals.{then-loop-self-test+else-is_none, else-loop-self-test}
use Rattle.lid_base.proofs.Options.{none_of, some_of}

pub returns-in-Err-clause-refused : goal.returns-in-Err-clause-refused
returns-in-Err-clause-refused g c = λ columns outs given has.
    let l = c.loop-self in
    let same : g.S.Shelf.held l.shelf l.self.name ≡ g.S.Shelf.held c.args.shelf.now c.args.self.now.name =
    ap (λ (h : List ℕ → Option (List ℕ)). h l.self.name) l.invariant.kept ∙ ap (g.S.Shelf.held c.args.shelf.now) l.invariant.name in
    subst (λ (o : Option (List ℕ)). IfRefused (IsRefusedText o columns outs) c.in-Err.fault) same
    (c.in-Err.ensures.refused columns outs given (none_of l.self.text.count c.if-is_none.ensures)
    (subst (λ (o : Option (List ℕ)). HasGiven o columns outs l.self given) (sym same) (l.invariant.given columns outs given has)))

pub returns-clause-given : goal.returns-clause-given
returns-clause-given g c = λ columns outs given has.
    gives_next (g.S.Shelf.held c.args.shelf.now c.args.self.now.name) columns outs c.loop-self.self _ given c.pop.result refl c.pop.ensures.items
    (λ none.
    let len : length c.as_slice.result.now ≡ vec_len c.loop-self.self.rows = c.as_slice.ensures.len in
    elim c.loop-self-test.branch [
      | then-loop-self-test+else-is_none w ↦ (
          let some = some_of c.loop-self.self.text.count w.if-is_none.ensures in
          (some.0, some.1, sym c.as_slice.ensures.value ∙ nothing_held c.as_slice.result.now w.loop-self-test.ensures))
      | else-loop-self-test w ↦ absurd (
          let empty : true ≡ (length c.as_slice.result.now == 0) = subst (λ (n : ℕ). true ≡ (n == 0)) (sym len) (nothing_taken c.pop.result (vec_len c.loop-self.self.rows) c.pop.ensures.variant none) in
          let other : false ≡ (length c.as_slice.result.now == 0) = w.loop-self-test.ensures in
          let clash : true ≡ false = empty ∙ sym other in
          cc)
    ])
    (c.loop-self.invariant.given columns outs given has)

pub returns-clause-last : goal.returns-clause-last
returns-clause-last g c = λ none.
    let len : length c.as_slice.result.now ≡ vec_len c.loop-self.self.rows = c.as_slice.ensures.len in
    elim c.loop-self-test.branch [
      | then-loop-self-test+else-is_none w ↦ (
          let some = some_of c.loop-self.self.text.count w.if-is_none.ensures in
          ap is_some some.1)
      | else-loop-self-test w ↦ absurd (
          let empty : true ≡ (length c.as_slice.result.now == 0) = subst (λ (n : ℕ). true ≡ (n == 0)) (sym len) (nothing_taken c.pop.result (vec_len c.loop-self.self.rows) c.pop.ensures.variant none) in
          let other : false ≡ (length c.as_slice.result.now == 0) = w.loop-self-test.ensures in
          let clash : true ≡ false = empty ∙ sym other in
          cc)
    ]

pub returns-in-Err-clause-begun : goal.returns-in-Err-clause-begun
returns-in-Err-clause-begun g c = λ columns outs given asked first has below so.
    let l = c.loop-self in
    let whole = g.S.Shelf.whole in
    let none = none_of l.self.text.count c.if-is_none.ensures in
    let empty : l.self.rows.items ≡ [] = sym c.as_slice.ensures.value ∙ nothing_held c.as_slice.result.now c.loop-self-test.ensures in
    let same : g.S.Shelf.held l.shelf l.self.name ≡ g.S.Shelf.held c.args.shelf.now c.args.self.now.name =
    ap (λ (h : List ℕ → Option (List ℕ)). h l.self.name) l.invariant.kept ∙ ap (g.S.Shelf.held c.args.shelf.now) l.invariant.name in
    elsewhere (λ h n. FailsBy whole h columns outs asked n first (g.S.Shelf.fetches c.fill.new.shelf) c.in-Err.fault) same l.invariant.name
    (c.in-Err.ensures.begun columns outs given asked first none empty
    (subst (λ (o : Option (List ℕ)). HasGiven o columns outs l.self given) (sym same) (l.invariant.given columns outs given has))
    below
    (elsewhere (λ h n. ScansBy whole h columns outs asked n first (g.S.Shelf.fetches l.shelf) l.self.text) (sym same) (sym l.invariant.name) (l.invariant.came columns outs given asked first has below so)))

pub returns-in-Err-clause-wanting : goal.returns-in-Err-clause-wanting
returns-in-Err-clause-wanting g c = unless_later (λ still q. still q ∙ c.loop-self.invariant.still q) c.in-Err.fault c.in-Err.ensures.wanting

pub returns-clause-came : goal.returns-clause-came
returns-clause-came g c = λ columns outs given asked first has below so.
    subst (λ (n : List ℕ). ScansBy g.S.Shelf.whole (g.S.Shelf.held c.args.shelf.now c.args.self.now.name) columns outs asked n first (g.S.Shelf.fetches c.loop-self.shelf) c.loop-self.self.text) (sym c.loop-self.invariant.name)
    (c.loop-self.invariant.came columns outs given asked first has below so)

pub returns-clause-still : goal.returns-clause-still
returns-clause-still g c = c.loop-self.invariant.still

pub loop-self-preserved : goal.loop-self-preserved
loop-self-preserved g c =
    let l = c.loop-self in
    let whole = g.S.Shelf.whole in
    let new = c.fill.new.self in
    let filled = c.in_default.ensures in
    let none = none_of l.self.text.count c.if-is_none.ensures in
    let empty : l.self.rows.items ≡ [] = sym c.as_slice.ensures.value ∙ nothing_held c.as_slice.result.now c.loop-self-test.ensures in
    let same : g.S.Shelf.held l.shelf l.self.name ≡ g.S.Shelf.held c.args.shelf.now c.args.self.now.name =
    ap (λ (h : List ℕ → Option (List ℕ)). h l.self.name) l.invariant.kept ∙ ap (g.S.Shelf.held c.args.shelf.now) l.invariant.name in
    record {
      given = λ columns outs given has.
          subst (λ (o : Option (List ℕ)). HasGiven o columns outs new given) same
          (filled.given columns outs given none empty (subst (λ (o : Option (List ℕ)). HasGiven o columns outs l.self given) (sym same) (l.invariant.given columns outs given has)));
      came = λ columns outs given asked first has below so.
          elsewhere (λ h n. ScansBy whole h columns outs asked n first (g.S.Shelf.fetches c.fill.new.shelf) new.text) same (filled.name ∙ l.invariant.name)
          (filled.came columns outs given asked first none empty
          (subst (λ (o : Option (List ℕ)). HasGiven o columns outs l.self given) (sym same) (l.invariant.given columns outs given has))
          below
          (elsewhere (λ h n. ScansBy whole h columns outs asked n first (g.S.Shelf.fetches l.shelf) l.self.text) (sym same) (sym l.invariant.name) (l.invariant.came columns outs given asked first has below so)));
      still = λ q. filled.still q ∙ l.invariant.still q;
      waits = λ some. absurd (
          let w = l.invariant.waits some in
          let none : length l.self.rows.items ≡ 0 = ap length empty in
          let same : length l.self.rows.items ≡ length c.args.self.now.rows.items = ap length w.0 in
          omega (arith, some, none, same));
      name = filled.name ∙ l.invariant.name;
      kept = filled.kept ∙ l.invariant.kept;
      grows = λ q. let before = l.invariant.grows q in let after = filled.grows q in omega (arith, before, after);
    }
