-- Each kind of line, by the test that the reading makes of it.
use Rattle.std.proofs.Common.{◌≡◌, ℕ, suc, ◌^◌, ◌<◌, ◌≤◌, Bool, true, false, ◌||◌, List, [], ◌∷◌, length, get_or, drop, map, refl, sym, ◌∙◌, ap, subst, arith}
use Rattle.std.specs.Prelude.{Option, Some, None, is_some, unwrap_or, codes, bytes_eq, nat_lt}
use Rattle.std.specs.List.{list_all}
use Rattle.std.proofs.lemmas.Bool.{and_parts, and_from, or_left, or_right, eqb-true, ltb-true, leb-true, lt-ltb, le-leb}
use Rattle.std.proofs.lemmas.List.{length-map}
use Rattle.lid_base.specs.declared.line.Line.{Line}
use Rattle.lid_base.specs.Numbers.{number_below, is_below, value_below}
use Rattle.lid_base.specs.Words.{word_at, begins_with}
use Rattle.lid_base.proofs.Lists.{same_bytes, bytes_same}
use Rattle.lid_cert_text.specs.Texts.{is_via_word, via_value, is_part_line, is_ratio_line, is_cycle_line, is_node_line, is_header_line}
use Rattle.lid_base_lines.specs.Texts.{Words}
use Rattle.lid_cert_text_laws.specs.Grammar.{Spells, SpellsVia, SpellEdges, IsHeader, IsPartLine, IsRatioLine, IsCycleLine, Entry, IsNodeLine}

-- numbers
pub below : (limit n : ℕ) (word : List ℕ) → Spells limit n word → is_below limit word ≡ true
below limit n word spells = ap is_some spells

pub value : (limit n : ℕ) (word : List ℕ) → Spells limit n word → value_below limit word ≡ n
value limit n word spells = ap (λ (o : Option ℕ). unwrap_or o 0) spells

number_found : (limit : ℕ) (word : List ℕ) → is_below limit word ≡ true → (n : ℕ) × Spells limit n word
number_found limit word is = by (number_below limit word) refl is
  where
    by : (o : Option ℕ) → number_below limit word ≡ o → is_some o ≡ true → (n : ℕ) × Spells limit n word
    by (Some n) e h = (n, e)
    by None e h = cc

-- via edges
via_due : (via : Option ℕ) (word : List ℕ) → SpellsVia via word → (is_via_word word ≡ true) × (via_value word ≡ via)
unfolding number_below
via_due None word spells = (or_left _ _ (bytes_same word (codes "-") spells), ap via_value spells)
via_due (Some k) word spells = (or_right (bytes_eq word (codes "-")) _ (below (2 ^ 32) k word spells), spells)

via_found : (word : List ℕ) → is_via_word word ≡ true → (via : Option ℕ) × SpellsVia via word
via_found word is = by (bytes_eq word (codes "-")) refl is
  where
    by : (b : Bool) → bytes_eq word (codes "-") ≡ b → (b || is_below (2 ^ 32) word) ≡ true → (via : Option ℕ) × SpellsVia via word
    by true e h = (None, same_bytes word (codes "-") e)
    by false e h = let n = number_found (2 ^ 32) word h in (Some n.0, n.1)

-- lists of a known length
record IsCons (ws : Words) (n : ℕ) : Type 0 where
  first : List ℕ
  rest : Words
  is : ws ≡ first ∷ rest
  long : length rest ≡ n

cons_of : (ws : Words) (n : ℕ) → length ws ≡ suc n → IsCons ws n
cons_of [] n e = absurd (omega arith)
cons_of (w ∷ ws) n e = record { first = w; rest = ws; is = refl; long = omega arith }

nil_of : (ws : Words) → length ws ≡ 0 → ws ≡ []
nil_of [] e = refl
nil_of (w ∷ ws) e = absurd (omega arith)

two_of : (ws : Words) → length ws ≡ 2 → ws ≡ word_at ws 0 ∷ word_at ws 1 ∷ []
two_of ws e =
    let a = cons_of ws 1 e in
    let b = cons_of a.rest 0 a.long in
    let is : ws ≡ a.first ∷ b.first ∷ [] = a.is ∙ ap (λ (r : Words). a.first ∷ r) (b.is ∙ ap (λ (r : Words). b.first ∷ r) (nil_of b.rest b.long)) in
    subst (λ (xs : Words). xs ≡ word_at xs 0 ∷ word_at xs 1 ∷ []) (sym is) refl

three_of : (ws : Words) → length ws ≡ 3 → ws ≡ word_at ws 0 ∷ word_at ws 1 ∷ word_at ws 2 ∷ []
three_of ws e =
    let a = cons_of ws 2 e in
    let is : ws ≡ a.first ∷ word_at a.rest 0 ∷ word_at a.rest 1 ∷ [] = a.is ∙ ap (λ (r : Words). a.first ∷ r) (two_of a.rest a.long) in
    subst (λ (xs : Words). xs ≡ word_at xs 0 ∷ word_at xs 1 ∷ word_at xs 2 ∷ []) (sym is) refl

six_of : (ws : Words) → length ws ≡ 6 → ws ≡ word_at ws 0 ∷ word_at ws 1 ∷ word_at ws 2 ∷ word_at ws 3 ∷ word_at ws 4 ∷ word_at ws 5 ∷ []
six_of ws e =
    let a = cons_of ws 5 e in
    let b = cons_of a.rest 4 a.long in
    let c = cons_of b.rest 3 b.long in
    let is : ws ≡ a.first ∷ b.first ∷ c.first ∷ word_at c.rest 0 ∷ word_at c.rest 1 ∷ word_at c.rest 2 ∷ []
    = a.is ∙ ap (λ (r : Words). a.first ∷ r) (b.is ∙ ap (λ (r : Words). b.first ∷ r) (c.is ∙ ap (λ (r : Words). c.first ∷ r) (three_of c.rest c.long))) in
    subst (λ (xs : Words). xs ≡ word_at xs 0 ∷ word_at xs 1 ∷ word_at xs 2 ∷ word_at xs 3 ∷ word_at xs 4 ∷ word_at xs 5 ∷ []) (sym is) refl

named : (name : List ℕ) (ws : Words) → begins_with name ws ≡ true → word_at ws 0 ≡ name
named name ws h = same_bytes (word_at ws 0) name h

-- the header
pub header_due : (l : Line) → IsHeader l → is_header_line l.words ≡ true
header_due l is = subst (λ (ws : Words). is_header_line ws ≡ true) (sym is) refl

pub header_found : (l : Line) → is_header_line l.words ≡ true → IsHeader l
header_found l is =
    let a = and_parts _ _ is in
    let b = and_parts _ _ a.1 in
    two_of l.words (eqb-true (length l.words) 2 a.0)
    ∙ ap (λ (w : List ℕ). w ∷ word_at l.words 1 ∷ []) (named (codes "lid-cert") l.words b.0)
    ∙ ap (λ (w : List ℕ). codes "lid-cert" ∷ w ∷ []) (same_bytes (word_at l.words 1) (codes "1") b.1)

-- `part K`
pub part_due : (n : ℕ) (l : Line) → IsPartLine n l → 1 ≤ n → is_part_line l.words ≡ true
part_due n l is some = subst (λ (ws : Words). is_part_line ws ≡ true) (sym is.are) (and_from _ _ (below (2 ^ 32) n is.word is.spells) (ap (nat_lt 0) (value (2 ^ 32) n is.word is.spells) ∙ lt-ltb 0 n (omega arith)))

pub part_value : (n : ℕ) (l : Line) → IsPartLine n l → value_below (2 ^ 32) (word_at l.words 1) ≡ n
part_value n l is = subst (λ (ws : Words). value_below (2 ^ 32) (word_at ws 1) ≡ n) (sym is.are) (value (2 ^ 32) n is.word is.spells)

pub record HasPartLine (l : Line) : Type 0 where
  pub count : ℕ
  pub is : IsPartLine count l
  pub some : 1 ≤ count

pub part_found : (l : Line) → is_part_line l.words ≡ true → HasPartLine l
part_found l is =
    let a = and_parts _ _ is in
    let b = and_parts _ _ a.1 in
    let c = and_parts _ _ b.1 in
    let n = number_found (2 ^ 32) (word_at l.words 1) c.0 in
    let some : 0 < value_below (2 ^ 32) (word_at l.words 1) = ltb-true 0 (value_below (2 ^ 32) (word_at l.words 1)) c.1 in
    record {
      count = n.0;
      is = record {
        word = word_at l.words 1;
        are = two_of l.words (eqb-true (length l.words) 2 a.0) ∙ ap (λ (w : List ℕ). w ∷ word_at l.words 1 ∷ []) (named (codes "part") l.words b.0);
        spells = n.1;
      };
      some = omega (arith, value (2 ^ 32) n.0 (word_at l.words 1) n.1);
    }

-- `ratio P Q`
pub ratio_due : (p q : ℕ) (l : Line) → IsRatioLine p q l → is_ratio_line l.words ≡ true
ratio_due p q l is = subst (λ (ws : Words). is_ratio_line ws ≡ true) (sym is.are) (and_from _ _ (below (2 ^ 31) p is.first is.spells_p) (below (2 ^ 31) q is.second is.spells_q))

pub ratio_p : (p q : ℕ) (l : Line) → IsRatioLine p q l → value_below (2 ^ 31) (word_at l.words 1) ≡ p
ratio_p p q l is = subst (λ (ws : Words). value_below (2 ^ 31) (word_at ws 1) ≡ p) (sym is.are) (value (2 ^ 31) p is.first is.spells_p)

pub ratio_q : (p q : ℕ) (l : Line) → IsRatioLine p q l → value_below (2 ^ 31) (word_at l.words 2) ≡ q
ratio_q p q l is = subst (λ (ws : Words). value_below (2 ^ 31) (word_at ws 2) ≡ q) (sym is.are) (value (2 ^ 31) q is.second is.spells_q)

pub ratio_found : (l : Line) → is_ratio_line l.words ≡ true → (p : ℕ) × (q : ℕ) × IsRatioLine p q l
ratio_found l is =
    let a = and_parts _ _ is in
    let b = and_parts _ _ a.1 in
    let c = and_parts _ _ b.1 in
    let p = number_found (2 ^ 31) (word_at l.words 1) c.0 in
    let q = number_found (2 ^ 31) (word_at l.words 2) c.1 in (
      p.0,
      q.0,
      record {
        first = word_at l.words 1;
        second = word_at l.words 2;
        are = three_of l.words (eqb-true (length l.words) 3 a.0) ∙ ap (λ (w : List ℕ). w ∷ word_at l.words 1 ∷ word_at l.words 2 ∷ []) (named (codes "ratio") l.words b.0);
        spells_p = p.1;
        spells_q = q.1;
      },
    )

-- `cycle E1 .. EL`
pub record AreEdges (edges : List ℕ) (words : Words) : Type 0 where
  pub due : list_all (is_below (2 ^ 32)) words ≡ true
  pub values : map (value_below (2 ^ 32)) words ≡ edges
  pub long : length words ≡ length edges

edges_due : (edges : List ℕ) (words : Words) → SpellEdges edges words → AreEdges edges words
edges_due [] [] spell = record { due = refl; values = refl; long = refl }
edges_due [] (w ∷ ws) spell = absurd (let e = ap length spell in omega arith)
edges_due (e ∷ es) [] spell = absurd (let h = ap length spell in omega arith)
edges_due (e ∷ es) (w ∷ ws) spell =
    let first : Spells (2 ^ 32) e w = ap (λ (os : List (Option ℕ)). get_or os 0 None) spell in
    let rest = edges_due es ws (ap (drop 1) spell) in
    record {
      due = and_from _ _ (below (2 ^ 32) e w first) rest.due;
      values = ap (λ (n : ℕ). n ∷ map (value_below (2 ^ 32)) ws) (value (2 ^ 32) e w first) ∙ ap (λ (ns : List ℕ). e ∷ ns) rest.values;
      long = ap suc rest.long;
    }

edges_found : (words : Words) → list_all (is_below (2 ^ 32)) words ≡ true → SpellEdges (map (value_below (2 ^ 32)) words) words
edges_found [] h = refl
edges_found (w ∷ ws) h =
    let parts = and_parts _ _ h in
    let n = number_found (2 ^ 32) w parts.0 in
    let first : number_below (2 ^ 32) w ≡ Some (value_below (2 ^ 32) w) = n.1 ∙ ap Some (sym (value (2 ^ 32) n.0 w n.1)) in
    ap (λ (o : Option ℕ). o ∷ map (number_below (2 ^ 32)) ws) first ∙ ap (λ (os : List (Option ℕ)). Some (value_below (2 ^ 32) w) ∷ os) (edges_found ws parts.1)

pub cycle_due : (edges : List ℕ) (l : Line) → IsCycleLine edges l → 1 ≤ length edges → is_cycle_line l.words ≡ true
cycle_due edges l is some =
    let are = edges_due edges is.words is.spell in
    subst (λ (ws : Words). is_cycle_line ws ≡ true) (sym is.are) (and_from _ _ (le-leb 2 (suc (length is.words)) (omega (arith, are.long))) are.due)

pub cycle_values : (edges : List ℕ) (l : Line) → IsCycleLine edges l → map (value_below (2 ^ 32)) (drop 1 l.words) ≡ edges
cycle_values edges l is = subst (λ (ws : Words). map (value_below (2 ^ 32)) (drop 1 ws) ≡ edges) (sym is.are) (edges_due edges is.words is.spell).values

pub record HasCycleLine (l : Line) : Type 0 where
  pub edges : List ℕ
  pub is : IsCycleLine edges l
  pub some : 1 ≤ length edges

pub cycle_found : (l : Line) → is_cycle_line l.words ≡ true → HasCycleLine l
cycle_found l is = by l.words refl is
  where
    by : (ws : Words) → l.words ≡ ws → is_cycle_line ws ≡ true → HasCycleLine l
    by [] e h = cc
    by (w ∷ ws) e h =
        let a = and_parts _ _ h in
        let b = and_parts _ _ a.1 in
        let long : 2 ≤ suc (length ws) = leb-true 2 (suc (length ws)) a.0 in
        record {
          edges = map (value_below (2 ^ 32)) ws;
          is = record { words = ws; are = e ∙ ap (λ (v : List ℕ). v ∷ ws) (named (codes "cycle") (w ∷ ws) b.0); spell = edges_found ws b.1 };
          some = omega (arith, length-map ws (value_below (2 ^ 32)));
        }

-- `node V LAG LEAD DEPTH VIA`
pub node_due : (node : Entry) (l : Line) → IsNodeLine node l → is_node_line l.words ≡ true
node_due node l is =
    subst (λ (ws : Words). is_node_line ws ≡ true) (sym is.are)
    (and_from _ _ (below (2 ^ 32) node.number is.number is.spells_number)
    (and_from _ _ (below (2 ^ 62) node.lag is.lag is.spells_lag)
    (and_from _ _ (below (2 ^ 62) node.lead is.lead is.spells_lead)
    (and_from _ _ (below (2 ^ 32) node.depth is.depth is.spells_depth) (via_due node.via is.via is.spells_via).0))))

pub node_begins : (node : Entry) (l : Line) → IsNodeLine node l → (begins_with (codes "node") l.words ≡ true) × (begins_with (codes "part") l.words ≡ false)
node_begins node l is = subst (λ (ws : Words). (begins_with (codes "node") ws ≡ true) × (begins_with (codes "part") ws ≡ false)) (sym is.are) (refl, refl)

-- what the reading takes from it
pub record IsTaken (node : Entry) (words : Words) : Type 0 where
  pub number : value_below (2 ^ 32) (word_at words 1) ≡ node.number
  pub lag : value_below (2 ^ 62) (word_at words 2) ≡ node.lag
  pub lead : value_below (2 ^ 62) (word_at words 3) ≡ node.lead
  pub depth : value_below (2 ^ 32) (word_at words 4) ≡ node.depth
  pub via : via_value (word_at words 5) ≡ node.via

pub node_taken : (node : Entry) (l : Line) → IsNodeLine node l → IsTaken node l.words
node_taken node l is = subst (IsTaken node) (sym is.are) (record {
  number = value (2 ^ 32) node.number is.number is.spells_number;
  lag = value (2 ^ 62) node.lag is.lag is.spells_lag;
  lead = value (2 ^ 62) node.lead is.lead is.spells_lead;
  depth = value (2 ^ 32) node.depth is.depth is.spells_depth;
  via = (via_due node.via is.via is.spells_via).1;
})

pub node_found : (l : Line) → is_node_line l.words ≡ true → (node : Entry) × IsNodeLine node l
node_found l is =
    let a = and_parts _ _ is in
    let b = and_parts _ _ a.1 in
    let c = and_parts _ _ b.1 in
    let d = and_parts _ _ c.1 in
    let e = and_parts _ _ d.1 in
    let f = and_parts _ _ e.1 in
    let number = number_found (2 ^ 32) (word_at l.words 1) c.0 in
    let lag = number_found (2 ^ 62) (word_at l.words 2) d.0 in
    let lead = number_found (2 ^ 62) (word_at l.words 3) e.0 in
    let depth = number_found (2 ^ 32) (word_at l.words 4) f.0 in
    let via = via_found (word_at l.words 5) f.1 in (
      record { number = number.0; lag = lag.0; lead = lead.0; depth = depth.0; via = via.0 },
      record {
        number = word_at l.words 1;
        lag = word_at l.words 2;
        lead = word_at l.words 3;
        depth = word_at l.words 4;
        via = word_at l.words 5;
        are = six_of l.words (eqb-true (length l.words) 6 a.0) ∙ ap (λ (w : List ℕ). w ∷ word_at l.words 1 ∷ word_at l.words 2 ∷ word_at l.words 3 ∷ word_at l.words 4 ∷ word_at l.words 5 ∷ []) (named (codes "node") l.words b.0);
        spells_number = number.1;
        spells_lag = lag.1;
        spells_lead = lead.1;
        spells_depth = depth.1;
        spells_via = via.1;
      },
    )
