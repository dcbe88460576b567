-- What a refusal tells, by its name and its fields.
use Rattle.std.specs.Prelude.{ℕ, List, [], ◌∷◌, codes}
use Rattle.std.specs.Fmt.{decimal}
use Rattle.lid_base_io.specs.Telling.{path_text}
use Rattle.lid_top_refusals.specs.declared.told.Told.{Told}
use Rattle.lid_top_refusals.specs.declared.told.Told.TheVariants.{Bare, At, Over, Many, Changed, One, Two, Three, Inst, Loop, Nothing}
use Rattle.lid_top_refusals.specs.Faults.{at_line, over_limit, at_inst, with_names}

-- the words of the name and the fields
abbrev pub told_words : Told → List (List ℕ)
told_words (Bare name) = name.now ∷ []
told_words (At name line) = at_line name.now line
told_words (Over which count) = over_limit which count
told_words (Many name count) = name.now ∷ decimal count ∷ []
told_words (Changed rows found) = codes "Changed" ∷ decimal rows ∷ decimal found ∷ []
told_words (One name first) = name.now ∷ first.now ∷ []
told_words (Two name first second) = with_names name.now first.now second.now
told_words (Three name first second third) = name.now ∷ first.now ∷ second.now ∷ third.now ∷ []
told_words (Inst name model inst other) = at_inst name.now model.now inst other.now
told_words (Loop path net) = codes "CombLoop" ∷ path_text path.now ∷ net.now ∷ []
told_words Nothing = []
