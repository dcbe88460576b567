-- What is told of the sizes of stations.
use Rattle.std.specs.Prelude.{◌≡◌, ℕ, List, [], ◌∷◌, ◌++◌, codes}
use Rattle.std.specs.Fmt.{decimal}
use Rattle.lid_base_lines.specs.Texts.{Words, line_text}
use Rattle.lid_stations_text.specs.Written.{stations_text}
use Rattle.lid_size.specs.declared.sizing.SizeEnd.{SizeEnd}
use Rattle.lid_size.specs.declared.sizing.SizeEnd.TheVariants.{Reached, Short}
use Rattle.lid_size.specs.Sizes.{Sizes}
use Rattle.lid_stations.specs.declared.placement.Placement.{Placement}
use Rattle.lid_stations.specs.Placements.{Links}

-- a ratio as one word: p, a slash, q
abbrev pub ratio_word : ℕ → ℕ → List ℕ
ratio_word p q = decimal p ++ codes "/" ++ decimal q

-- the line where no capacities reach: the part of the certificate, its ratio, and its forward ratio
abbrev pub short_words : ℕ → ℕ → ℕ → ℕ → ℕ → Words
short_words part have_p have_q want_p want_q =
    codes "short" ∷ decimal part ∷ ratio_word have_p have_q ∷ codes "of" ∷ ratio_word want_p want_q ∷ []

-- the stations with the capacities that reach, or that line
abbrev pub end_text : Links → SizeEnd → List ℕ
end_text l (Reached p) = stations_text l p
end_text l (Short part have_p have_q want_p want_q cert) = line_text (short_words part have_p have_q want_p want_q)

-- the text of what sizing answers for the relay stations of a placement
pub record IsSizeText (l : Links) (p : Placement) (text : List ℕ) : Type 0 where
  pub end : SizeEnd
  pub sizes : Sizes l p.relays end
  pub written : text ≡ end_text l end
