use Rattle.strc_command.proofs.formed.text_in_form.Goals as goal

pub returns-in-Raw-default : goal.returns-in-Raw-default
returns-in-Raw-default c = rw c.in-Raw-default.is-0 (rw c.deref.ensures.value at c.without_quotes.ensures)
