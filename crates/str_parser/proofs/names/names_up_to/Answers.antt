use Rattle.std.proofs.Common.{◌∷◌, ◌∙◌, ap}
use Rattle.str_parser.specs.Readings.{lexeme_in}
use Rattle.str_parser.proofs.NameLaws.{any_at_name}
use Rattle.str_parser.proofs.names.names_up_to.Goals as goal

pub returns-in-Some-Name-default : goal.returns-in-Some-Name-default
returns-in-Some-Name-default c =
    any_at_name _ _ _ _ (c.in-Some-Name-default.ensures ∙
    ap (λ t. lexeme_in t ∷ c.in-Some-Name-default.field-0-1) c.in-Some-Name-default.field-0-0-is) c.names.ensures
