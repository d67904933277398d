use Rattle.std.proofs.Common.{arith}
use Rattle.core_lang.proofs.examples.small_programs_out_of_range.Goals as goal

pub returns : goal.returns
returns c = record {
  no_main = λ r. r.main;
  main_with_parameter = λ r. let none = r.main.0 in omega arith;
  no_definition = λ r. r.each.0.0;
  no_layer = λ r. r.each.0.0;
  no_parameter = λ r. let below = r.each.0.0.0 in omega arith;
  too_many_arguments = λ r. let as_many = r.each.0.0.0 in omega arith;
  parameter_with_argument = λ r. let none = r.each.0.0.1 in omega arith;
  no_variable = λ r. let below = r.each.0 in omega arith;
  no_layer_of_variables = λ r. r.each.0;
}
