use Rattle.std.proofs.Common.{◌≡◌, drop}
use Rattle.std.specs.List.{list_all}
use Rattle.lid_blif.specs.Words.{is_input_character}
use Rattle.lid_blif.proofs.shapes.are_input_characters.Given as goal

abbrev pub invariant-loop-character : goal.invariant-loop-character
invariant-loop-character l =
    list_all is_input_character (drop l.character-index l.characters) ≡ list_all is_input_character l.characters
