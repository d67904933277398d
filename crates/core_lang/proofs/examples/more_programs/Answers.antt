use Rattle.core_lang.proofs.Worked as worked
use Rattle.core_lang.proofs.examples.more_programs.Goals as goal

pub returns : goal.returns
returns c = record {
  hands_on = worked.hands_on_;
  congruence = worked.congruence_;
  rest = worked.rest;
  in_front = worked.in_front;
  same_twice = worked.same_twice;
  not_same = worked.not_same;
  argument = worked.argument;
  no_argument = worked.no_argument;
  bound_outside = worked.bound_outside;
  one_part = worked.one_part;
  primitive = worked.primitive_;
  too_large = worked.too_large;
}
