-- The headline does not rest on this file.
-- What is called.
use Rattle.std.specs.Prelude.{ℕ}
use Rattle.core_lang.specs.declared.coordinate.Coordinate.{Coordinate}
use Rattle.core_lang.specs.Environment.{closure, definition}
use Rattle.core_lang.specs.Environment as environment
use Rattle.core_lang.specs.Views.{def_of}
use Rattle.core_eval.specs.declared.callee.Callee.{Callee}
use Rattle.core_eval.specs.declared.callee.Callee.TheVariants.{Parameter, Definition}
use Rattle.core_eval.specs.Frame.{environment_of, closure_of}

abbrev pub callee_of : Callee → environment.Callee Coordinate ℕ
callee_of (Parameter c) = closure (closure_of c).strategy (closure_of c).environment
callee_of (Definition d home) =
    definition (def_of d.now).strats (def_of d.now).terms (def_of d.now).body (environment_of home.now)
