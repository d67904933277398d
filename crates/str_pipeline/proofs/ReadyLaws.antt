-- What is loaded stays loaded from term to term, and a program is that of its file whatever strict mode and budget are.
use Rattle.std.proofs.Common.{◌≡◌, ℕ, None, List, sym, subst}
use Rattle.term_model.specs.PrimNames.{NameKey}
use Rattle.term_model.specs.Space.{Space, KeepsNames}
use Rattle.core_lang.specs.Named.{written}
use Rattle.core_lang.specs.Resolution.{ResolvesProgram}
use Rattle.strat_code.specs.CodeOf.{CodeParts}
use Rattle.strat_machine.specs.LoadedCode.{IsLoadedIn}
use Rattle.strat_machine.specs.declared.loaded.Loaded.{Loaded}
use Rattle.strat_machine.proofs.LoadedLaws.{loaded_known}
use Rattle.str_syntax.specs.Trees.{Bytes, FileTree}
use Rattle.scope_check.specs.Complaint.{first_fault}
use Rattle.str_desugar.specs.FileProgram.{program_of_file}
use Rattle.str_pipeline.specs.declared.program.Program.{Program}
use Rattle.str_pipeline.specs.declared.status.Options.{Options}
use Rattle.str_pipeline.specs.Judged.{AreAccepted}
use Rattle.str_pipeline.specs.Setting.{Setting}
use Rattle.str_pipeline.specs.Steps.{IsProgramOf}

-- after a run
pub loaded_later : {W R M N : Type 0} {S : Space W R M N} {w w1 : W} {keys : List NameKey}
    (l l1 : Loaded W R M N) (code : CodeParts) → KeepsNames S w w1 → l1 ≡ l →
    IsLoadedIn S w keys l code → IsLoadedIn S w1 keys l1 code
loaded_later {W} {R} {M} {N} {S} {w1 = w1} {keys} l l1 code names same h =
    subst (λ (x : Loaded W R M N). IsLoadedIn S w1 keys x code) (sym same)
    (loaded_known l code names h)

-- the setting with other options
abbrev pub with_options : Setting → Options → Setting
with_options S o = record { options = o; has_primitive = S.has_primitive; meaning = S.meaning }

module _ (S : Setting) (o : Options) (same : S.options.main.items ≡ o.main.items) (f : FileTree) where
  -- definitions are accepted with options that have the same name
  pub accepted_for : (d : List ℕ) → AreAccepted S d f → AreAccepted (with_options S o) d f
  accepted_for d (short, h) = (
    short,
    record {
      file = h.file;
      is_file = h.is_file;
      extended = h.extended;
      passes = subst (λ (main : Bytes). first_fault S.has_primitive f main ≡ None) same h.passes;
    },
  )

  -- and their program is the same
  pub program_for : (program : Program) → IsProgramOf S f program → IsProgramOf (with_options S o) f program
  program_for program h = let code = h.code in record {
    declared = h.declared;
    code = record {
      core = code.core;
      main = code.main;
      stands = code.stands;
      occurring = code.occurring;
      resolved = subst
          (λ (main : Bytes). ResolvesProgram (program_of_file f) (written main) code.core code.main)
          same code.resolved;
    };
  }
