-- Which primitives there are, by the names of a registry and by the definitions that passed the checks.
use Rattle.std.proofs.Common.{◌≡◌, ◌<◌, ◌↔◌, ℕ, true, List, [], Contains, Result, length, subst}
use Rattle.std.proofs.lemmas.List.{get_or_default}
use Rattle.std.specs.Prelude.{None}
use Rattle.term_model.specs.Flat.{Meaning}
use Rattle.term_model.specs.PrimNames.{NameKey}
use Rattle.term_model.specs.NameSet.{key_at}
use Rattle.core_lang.specs.Core.{CoreParts, program_of}
use Rattle.core_lang.specs.Named.{written}
use Rattle.core_lang.specs.Primitives.{AreOccurring}
use Rattle.core_lang.specs.Resolution.{ResolvesProgram}
use Rattle.prim_registry.specs.RegistryNames.{HaveSame}
use Rattle.str_syntax.specs.Trees.{Bytes, FileTree}
use Rattle.scope_check.specs.Complaint.{first_fault}
use Rattle.scope_check.specs.Primitives.{holds}
use Rattle.scope_check.proofs.PrimitiveLaws.{holds-contains, is_holds}
use Rattle.str_desugar.specs.FileProgram.{program_of_file}
use Rattle.str_desugar.proofs.PrimitivesInFiles.{known_primitives}
use Rattle.str_pipeline.specs.declared.status.Options.{Options}
use Rattle.str_pipeline.specs.declared.compiled.CompiledFile.{CompiledFile}
use Rattle.str_pipeline.specs.Setting.{Setting, setting_with}
use Rattle.str_pipeline.specs.Steps.{IsCompiled}
use Rattle.term_model.specs.declared.fault.Fault.{Fault}

module _ (xs ys : List NameKey) (same : HaveSame xs ys) where
  held_alike : (f : Bytes) (n : ℕ) → holds xs f n ≡ holds ys f n
  held_alike f n =
      let held : (holds xs f n ≡ true) ↔ Contains xs (f, n) = holds-contains xs f n in
      is_holds (holds xs f n) ys f n (λ yes. (same (f, n)).0 (held.0 yes), λ there. held.1 ((same (f, n)).1 there))

  -- lists of the same names make one setting
  same_setting : (M : Meaning) (options : Options) → setting_with M xs options ≡ setting_with M ys options
  same_setting M options = λ i. record { options = options; has_primitive = λ f n. held_alike f n i; meaning = M }

  -- and one program
  pub compiled_alike : (M : Meaning) (options : Options) (text : List ℕ) (made : Result CompiledFile Fault) →
      IsCompiled (setting_with M xs options) text made → IsCompiled (setting_with M ys options) text made
  compiled_alike M options text made = subst (λ (S : Setting). IsCompiled S text made) (same_setting M options)

-- a registry of these names has each of those that are among them
pub covered : (prims names entries : List NameKey) → HaveSame names entries →
    ((f : Bytes) (n : ℕ) → Contains prims (f, n) → Contains names (f, n))
    → (i : ℕ) → i < length prims → Contains entries (key_at prims i)
covered prims names entries same among i within =
    let key = key_at prims i in
    (same key).0 (among key.0 key.1 (i, within, get_or_default prims i key ([], 0) within))

-- a primitive of the core of a file without a fault is among those there are
pub known : (names : List NameKey) (f : FileTree) (main : Bytes) (core : CoreParts) →
    first_fault (holds names) f main ≡ None
    → ResolvesProgram (program_of_file f) (written main) (program_of core) core.main →
    AreOccurring core.prims (program_of core)
    → (name : Bytes) (k : ℕ) → Contains core.prims (name, k) → Contains names (name, k)
known names f main core passes resolved occurring name k there =
    (holds-contains names name k).0
    (known_primitives (holds names) f main (program_of core)
    core.main passes resolved name k ((occurring name k).0 there))
