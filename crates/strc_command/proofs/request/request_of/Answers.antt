use Rattle.std.proofs.Common.{◌∙◌, ap, map, option_map, string_bytes, sym, Global}
use Rattle.strc_command.specs.Elements.{elements_in, elements_of}
use Rattle.strc_command.proofs.WordLaws.{unasked_by}
use Rattle.strc_command.proofs.request.request_of.Goals as goal

pub returns-in-Some-clause-unasked : goal.returns-in-Some-clause-unasked
returns-in-Some-clause-unasked c =
    unasked_by c.request_by.result _ (elements_in c.in-Some.items)
    (ap (λ said. elements_of (map (string_bytes {Z = Global}) said)) (sym c.without_name.ensures)
    ∙ (c.in_ok-items.ensures ∙ ap (option_map elements_in) c.in-Some.is))
    c.request_by.ensures.unasked
