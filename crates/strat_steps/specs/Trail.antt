-- The headline does not rest on this file.
-- That the trail leads back to earlier places.
use Rattle.std.specs.Prelude.{◌≡◌, ℕ, List, take}
use Rattle.core_lang.specs.Environment.{Bindings}
use Rattle.strat_steps.specs.Binding.{undone}

-- below the barrier, the places f with these entries undone are the places e
abbrev pub Restores : (barrier : ℕ) → Bindings → List ℕ → Bindings → Type 0
Restores b e new f = undone new (take b f) ≡ take b e
