-- What is told of a graph's throughput: the text of a certificate, and what a certificate says.
use Rattle.std.specs.Prelude.{◌≡◌, ℕ, ◌≤◌, List, [], ◌∷◌, ◌++◌, map, find, codes}
use Rattle.std.specs.Fmt.{decimal}
use Rattle.std.specs.List.{All, enumerate_from}
use Rattle.std.specs.Option.{option_map_or}
use Rattle.lid_graph.specs.declared.graph.Graph.{Graph}
use Rattle.lid_cert.specs.declared.cert.Part.{Part}
use Rattle.lid_cert.specs.declared.cert.Cert.{Cert}
use Rattle.lid_cert.specs.Certificates.{Certifies, has_node, lag_of}
use Rattle.lid_cert_text.specs.Written.{IsReadBack, cert_text}
use Rattle.lid_base_lines.specs.Texts.{Words, lines_text}
use Rattle.lid_rate.specs.Exact.{IsExactPart}

-- the text of a certificate of the graph, with the ratio of each component, none of them 0, and the least
-- lags, which is read back as that certificate
pub record IsRateText (g : Graph) (text : List ℕ) : Type 0 where
  pub cert : Cert
  pub certifies : Certifies g cert
  pub exact : All (IsExactPart g) cert.parts
  pub positive : All (λ part. 1 ≤ part.p) cert.parts
  pub back : IsReadBack cert
  pub written : text ≡ cert_text cert

-- the ratio of a part as one word: p, a slash, q
abbrev pub ratio_word : Part → List ℕ
ratio_word part = decimal part.p ++ codes "/" ++ decimal part.q

-- the line of the part with this number
abbrev pub part_words : ℕ → Part → Words
part_words number part = codes "part" ∷ decimal number ∷ codes "ratio" ∷ ratio_word part ∷ []

-- the lines of parts that are numbered from `number` on
abbrev pub parts_lines : ℕ → List Part → List Words
parts_lines number parts = map (λ p. part_words p.0 p.1) (enumerate_from number parts)

-- the lag that the first part with the sink gives it, or 0 where no part has it
abbrev pub sink_lag : Cert → ℕ → ℕ
sink_lag cert sink = option_map_or (λ part. lag_of part sink) (find (λ part. has_node part sink) cert.parts) 0

-- what is told of a certificate that was accepted, where this transition is the sink
abbrev pub verdict_lines : Cert → ℕ → List Words
verdict_lines cert sink =
    (codes "certificate" ∷ codes "ok" ∷ []) ∷ parts_lines 0 cert.parts ++ (codes "sink" ∷ codes "lag" ∷ decimal (sink_lag cert sink) ∷ []) ∷ []

-- the same as a text
unfoldable pub verdict_text : Cert → ℕ → List ℕ
verdict_text cert sink = lines_text (verdict_lines cert sink)
