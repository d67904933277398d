use Rattle.core_lang.proofs.Worked as worked
use Rattle.core_lang.proofs.examples.small_programs.Goals as goal

pub returns : goal.returns
returns c = record {
  first = worked.first;
  other_symbol = worked.other_symbol;
  closure = worked.closure;
  some_parts =
      worked.some_parts;
  undone = worked.undone;
}
