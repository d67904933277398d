use Rattle.strc_command.proofs.ending.write_excess.Goals as goal

pub returns : goal.returns
returns g c = (
  _,
  c.excess_of-excess.ensures,
  rw (
    c.as_slice.ensures,
    c.as_bytes.ensures.value,
    c.as_bytes-2.ensures.value,
    c.format.ensures.text,
    c.as_bytes-3.ensures.value,
    c.format-2.ensures.text,
  ) at c.write_pieces.ensures.writes,
)
