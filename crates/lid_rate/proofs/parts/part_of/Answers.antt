use Rattle.std.proofs.Common.{ℕ, ◌<◌, List, length, get_or, sym, ◌∙◌, ap, subst, arith}
use Rattle.std.specs.List.{Contains}
use Rattle.std.proofs.lemmas.Result.{IfOk-weaker}
use Rattle.lid_cert.specs.Certificates.{ascends}
use Rattle.lid_rate.specs.Rates.{numbers_where, is_labelled, edges_of}
use Rattle.lid_rate.specs.Pieces.{IsInnerEdge, IsPiece, IsLifted}
use Rattle.lid_rate.proofs.Components.{nodes_ascend, edges_ascend, few_nodes, few_edges, edges_inside, loop_listed, small_piece, piece_loop, all_joined, part_of_label}
use Rattle.lid_rate.proofs.parts.part_of.Goals as goal

pub piece_of-requires-clause-ascending : goal.piece_of-requires-clause-ascending
piece_of-requires-clause-ascending c = ap ascends c.requires.own.2.nodes_are ∙ nodes_ascend c.args.graph.now c.requires.graph c.requires.own.0 c.requires.own.2.labels c.requires.own.1 c.requires.own.2.own c.requires.own.2.within

pub piece_of-requires-clause-few : goal.piece_of-requires-clause-few
piece_of-requires-clause-few c = let few = few_nodes c.args.graph.now c.requires.graph c.requires.own.0 c.requires.own.2.labels c.requires.own.1 c.requires.own.2.own c.requires.own.2.within in let long = ap length c.requires.own.2.nodes_are in omega arith

pub piece_of-requires-clause-inside : goal.piece_of-requires-clause-inside
piece_of-requires-clause-inside c i h =
    let l : i < length (edges_of c.args.graph.now c.requires.own.0 c.requires.own.1) = subst (λ (l : List ℕ). i < length l) c.requires.own.2.edges_are h in
    subst (λ (l : List ℕ). IsInnerEdge c.args.graph.now l (get_or c.args.edges.now i 0)) (sym c.requires.own.2.nodes_are) (subst (λ (l : List ℕ). IsInnerEdge c.args.graph.now (numbers_where (is_labelled c.requires.own.0 c.requires.own.1) (length c.requires.own.0)) (get_or l i 0)) (sym c.requires.own.2.edges_are) (edges_inside c.args.graph.now c.requires.graph c.requires.own.0 c.requires.own.2.labels c.requires.own.1 c.requires.own.2.own c.requires.own.2.within i l))

pub place-requires-clause-ascending : goal.place-requires-clause-ascending
place-requires-clause-ascending c = ap ascends c.requires.own.2.edges_are ∙ edges_ascend c.args.graph.now c.requires.graph c.requires.own.0 c.requires.own.2.labels c.requires.own.1 c.requires.own.2.own c.requires.own.2.within

pub place-requires-clause-few : goal.place-requires-clause-few
place-requires-clause-few c = let few = few_edges c.args.graph.now c.requires.graph c.requires.own.0 c.requires.own.2.labels c.requires.own.1 c.requires.own.2.own c.requires.own.2.within in let long = ap length c.requires.own.2.edges_are in omega arith

pub place-requires-clause-listed : goal.place-requires-clause-listed
place-requires-clause-listed c = subst (λ (l : List ℕ). Contains l c.args.first) (sym c.requires.own.2.edges_are) (loop_listed c.args.graph.now c.requires.graph c.requires.own.0 c.requires.own.2.labels c.requires.own.1 c.requires.own.2.own c.requires.own.2.within c.args.first c.requires.own.2.loop)

pub search_piece-requires-clause-piece : goal.search_piece-requires-clause-piece
search_piece-requires-clause-piece c =
    let cut : IsPiece c.args.graph.now (numbers_where (is_labelled c.requires.own.0 c.requires.own.1) (length c.requires.own.0)) (edges_of c.args.graph.now c.requires.own.0 c.requires.own.1) c.in_ok-piece.piece = subst (λ (l : List ℕ). IsPiece c.args.graph.now l (edges_of c.args.graph.now c.requires.own.0 c.requires.own.1) c.in_ok-piece.piece) c.requires.own.2.nodes_are (subst (λ (l : List ℕ). IsPiece c.args.graph.now c.args.inside.now l c.in_ok-piece.piece) c.requires.own.2.edges_are c.in_ok-piece.ensures) in
    small_piece c.args.graph.now c.requires.graph c.requires.own.0 c.requires.own.2.labels c.requires.own.1 c.requires.own.2.own c.requires.own.2.within c.in_ok-piece.piece cut

pub search_piece-requires-clause-first : goal.search_piece-requires-clause-first
search_piece-requires-clause-first c =
    let cut : IsPiece c.args.graph.now (numbers_where (is_labelled c.requires.own.0 c.requires.own.1) (length c.requires.own.0)) (edges_of c.args.graph.now c.requires.own.0 c.requires.own.1) c.in_ok-piece.piece = subst (λ (l : List ℕ). IsPiece c.args.graph.now l (edges_of c.args.graph.now c.requires.own.0 c.requires.own.1) c.in_ok-piece.piece) c.requires.own.2.nodes_are (subst (λ (l : List ℕ). IsPiece c.args.graph.now c.args.inside.now l c.in_ok-piece.piece) c.requires.own.2.edges_are c.in_ok-piece.ensures) in
    piece_loop c.args.graph.now c.requires.graph c.requires.own.0 c.requires.own.2.labels c.requires.own.1 c.requires.own.2.own c.requires.own.2.within c.in_ok-piece.piece cut c.args.first c.place.result c.requires.own.2.loop (subst (λ (l : List ℕ). c.place.result < length l) c.requires.own.2.edges_are c.place.ensures.within) (ap (λ (l : List ℕ). get_or l c.place.result 0) (sym c.requires.own.2.edges_are) ∙ c.place.ensures.here)

pub search_piece-requires-clause-joined : goal.search_piece-requires-clause-joined
search_piece-requires-clause-joined c =
    let cut : IsPiece c.args.graph.now (numbers_where (is_labelled c.requires.own.0 c.requires.own.1) (length c.requires.own.0)) (edges_of c.args.graph.now c.requires.own.0 c.requires.own.1) c.in_ok-piece.piece = subst (λ (l : List ℕ). IsPiece c.args.graph.now l (edges_of c.args.graph.now c.requires.own.0 c.requires.own.1) c.in_ok-piece.piece) c.requires.own.2.nodes_are (subst (λ (l : List ℕ). IsPiece c.args.graph.now c.args.inside.now l c.in_ok-piece.piece) c.requires.own.2.edges_are c.in_ok-piece.ensures) in
    all_joined c.args.graph.now c.requires.graph c.requires.own.0 c.requires.own.2.labels c.requires.own.1 c.requires.own.2.own c.requires.own.2.within c.in_ok-piece.piece cut

pub returns : goal.returns
returns c least label own =
    let cut : IsPiece c.args.graph.now (numbers_where (is_labelled least label) (length least)) (edges_of c.args.graph.now least label) c.in_ok-piece.piece = subst (λ (l : List ℕ). IsPiece c.args.graph.now l (edges_of c.args.graph.now least label) c.in_ok-piece.piece) own.nodes_are (subst (λ (l : List ℕ). IsPiece c.args.graph.now c.args.inside.now l c.in_ok-piece.piece) own.edges_are c.in_ok-piece.ensures) in
    let all = c.in_ok-all.all in
    IfOk-weaker c.lifted.result _ _ (λ part lift. part_of_label c.args.graph.now c.requires.graph least own.labels label own.own own.within c.in_ok-piece.piece cut all.rate.ratio.p all.rate.ratio.q all.rate.walk all.rate.lags all.tree.via all.tree.lead all.tree.depth c.in_ok-all.ensures part (subst (λ (l : List ℕ). IsLifted l (edges_of c.args.graph.now least label) all.rate.ratio.p all.rate.ratio.q all.rate.walk all.rate.lags all.tree.via all.tree.lead all.tree.depth part) own.nodes_are (subst (λ (l : List ℕ). IsLifted c.args.inside.now l all.rate.ratio.p all.rate.ratio.q all.rate.walk all.rate.lags all.tree.via all.tree.lead all.tree.depth part) own.edges_are lift))) c.lifted.ensures
