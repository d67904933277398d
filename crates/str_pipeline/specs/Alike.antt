-- The headline does not rest on this file.
-- When two statuses are one.
use Rattle.std.specs.Prelude.{◌≡◌}
use Rattle.term_model.specs.Fault.{number_of}
use Rattle.str_pipeline.specs.declared.status.Status.{Status}
use Rattle.str_pipeline.specs.declared.status.Status.TheVariants.{Refused}

-- these are one status, but for the place of a fault
abbrev pub AreAlike : Status → Status → Type 0
AreAlike (Refused fault) (Refused other) = number_of fault ≡ number_of other
AreAlike status other = status ≡ other
