use Rattle.std.proofs.Common.{refl, sym, ◌∙◌, ap}
use Rattle.str_lexer.specs.Tokens.{goes_on}
use Rattle.str_lexer.specs.Readings.{run_length}
use Rattle.str_lexer.proofs.RunLaws.{whole_rest}
use Rattle.str_lexer.proofs.WordLaws.{found_reserved, found_name}
use Rattle.str_lexer.proofs.word.word.Goals as goal

pub returns-in-Some : goal.returns-in-Some
returns-in-Some c =
    let e = c.word_length-end.ensures.counts ∙ ap (run_length goes_on) (whole_rest c.args.text.now 1) in
    rw (c.kind.ensures, c.split_at.ensures.back)
    (found_reserved _ _ _ c.requires e refl _ (c.in-Some.ensures ∙ c.split_at.ensures.front))

pub returns-in-None : goal.returns-in-None
returns-in-None c =
    let e = c.word_length-end.ensures.counts ∙ ap (run_length goes_on) (whole_rest c.args.text.now 1) in
    rw c.split_at.ensures.back (found_name _ _ _ c.requires e refl
    (λ r h. c.in-None.ensures r (h ∙ sym c.split_at.ensures.front)))
