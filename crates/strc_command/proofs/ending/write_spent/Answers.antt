use Rattle.strc_command.proofs.ending.write_spent.Goals as goal

pub returns : goal.returns
returns g c =
    rw (c.as_slice.ensures, c.as_bytes.ensures.value, c.format.ensures.text, c.larger_budget.ensures)
    at c.write_pieces.ensures.writes
