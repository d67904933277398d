-- Rules and definitions at top level: their heads, their bodies, and the program that they are together.
use Rattle.std.proofs.Common.{◌≡◌, ◌∙◌, ℕ, ◌≤◌, Bool, Option, Some, None, List, [], ◌∷◌, map, take, length, refl, sym, ap, ap₂, subst}
use Rattle.std.specs.Borrow.{Bor}
use Rattle.std.specs.Prelude.{is_some, IsSome}
use Rattle.std.proofs.lemmas.List.{take_all}
use Rattle.core_lang.specs.InRange.{InRange}
use Rattle.core_lang.specs.Named.{NamedStrategy, written}
use Rattle.core_lang.specs.Resolution.{ResolvesProgram}
use Rattle.core_lang.specs.Resolved.{ResolvedStrategy, ResolvedDefinitions}
use Rattle.core_lang.proofs.InRangeLaws.{resolved_in_range}
use Rattle.signature_core.specs.Signature.{Declared, arity_known}
use Rattle.scope_check.specs.Checked.{IsChecked}
use Rattle.scope_check.specs.Complaint.{first_fault}
use Rattle.scope_check.specs.Seen.{head_of_form}
use Rattle.str_syntax.specs.declared.definition.DefinitionForm.{DefinitionForm}
use Rattle.str_syntax.specs.declared.strategy.DefinitionHead.{DefinitionHead}
use Rattle.str_syntax.specs.Key.{Key, plain_key}
use Rattle.str_syntax.specs.Trees.{Bytes, FileTree, FormTree, head, rule_form, strategy_form, definition}
use Rattle.str_syntax.specs.Views.{parameters_of}
use Rattle.str_desugar.specs.declared.scopes.Scopes.{Scopes}
use Rattle.str_desugar.specs.declared.scopes.Scopes.TheFolds.{fold-roll-Scopes}
use Rattle.str_desugar.specs.declared.scopes.Scopes.TheOpen as forms
use Rattle.str_desugar.specs.declared.scopes.Scopes.TheVariants as variants
use Rattle.str_desugar.specs.declared.scopes.Scopes.TheViews as code
use Rattle.str_desugar.specs.Alternatives.{Alternative, definitions_of_all}
use Rattle.str_desugar.specs.Equations.{forms_among, top_core}
use Rattle.str_desugar.specs.FileProgram.{program_of_file}
use Rattle.str_desugar.specs.Forms.{read_forms, tops_at}
use Rattle.str_desugar.specs.Frames.{Frames, outermost, of_names, of_definitions, keys_of, key_position, definitions_at, strategy_at}
use Rattle.str_desugar.specs.Groups.{Head, written_head, head_in, first_for, under_head, body_among, bodies_at, within}
use Rattle.str_desugar.specs.Heads.{read_head}
use Rattle.str_desugar.specs.Keys.{named_key}
use Rattle.str_desugar.specs.Layers.{layers_of, scopes_step}
use Rattle.str_syntax.specs.Arity.{strategy_names, term_names}
use Rattle.str_desugar.proofs.FileResolution.{checked_main, checked_resolved}
use Rattle.str_desugar.proofs.LocalLaws.{reads_defined}
use Rattle.str_desugar.proofs.ScopeLaws.{reads_parameters}

module _ (declared : Bytes → ℕ → Bool) where
  pub same_head : (f : FormTree) → written_head (head_of_form f) ≡ head_in (top_core declared f)
  same_head (rule_form (head f ps) r) = refl
  same_head (strategy_form (definition (head f ps) s)) = refl

  same_heads : (forms : List FormTree) →
      map (λ f. written_head (head_of_form f)) forms ≡ map head_in (tops_at declared forms)
  same_heads [] = refl
  same_heads (f ∷ forms) = ap₂ (λ h hs. h ∷ hs) (same_head f) (same_heads forms)

  -- the heads of all of them, where the heads so far were put
  pub heads_all : (forms : List (Bor DefinitionForm)) (i : ℕ) (made heads : List Head) → length forms ≤ i →
      made ≡ heads →
      heads ≡ map (λ f. written_head (head_of_form f)) (read_forms (take i forms)) →
      made ≡ map head_in (tops_at declared (read_forms forms))
  heads_all forms i made heads past is e =
      is ∙ e ∙ ap (λ fs. map (λ f. written_head (head_of_form f)) (read_forms fs)) (take_all i forms past) ∙
      same_heads (read_forms forms)

  same_bodies : (F : Frames) (hs : List Head) (forms : List FormTree) →
      map (λ f. body_among F hs (top_core declared f)) forms ≡ map (λ a. body_among F hs a) (tops_at declared forms)
  same_bodies F hs [] = refl
  same_bodies F hs (f ∷ forms) = ap (λ ss. body_among F hs (top_core declared f) ∷ ss) (same_bodies F hs forms)

  pub bodies_all : (F : Frames) (hs : List Head) (forms : List (Bor DefinitionForm)) (i : ℕ)
      (made : List ResolvedStrategy) → length forms ≤ i →
      hs ≡ map head_in (tops_at declared (read_forms forms)) →
      made ≡ map (λ f. body_among F hs (top_core declared f)) (read_forms (take i forms)) →
      made ≡ bodies_at F (tops_at declared (read_forms forms))
  bodies_all F hs forms i made past is e =
      e ∙ ap (λ fs. map (λ f. body_among F hs (top_core declared f)) (read_forms fs)) (take_all i forms past) ∙
      same_bodies F hs (read_forms forms) ∙
      ap (λ gs. map (λ a. body_among F gs a) (tops_at declared (read_forms forms))) is

-- a body under parameters
pub under_made : (fs xs : Bor (List Bytes)) (up : Bor Scopes) (strategies terms : List Bytes) (body : NamedStrategy)
    (made : ResolvedStrategy) →
    fs.now ≡ strategies → xs.now ≡ terms → made ≡ strategy_at (layers_of (code.Parameters fs xs up)) body →
    made ≡ strategy_at (of_names (map written strategies) (map written terms) (layers_of up.now)) body
under_made fs xs up strategies terms body made are also e =
    e ∙ ap (λ G. strategy_at G body) (reads_parameters fs xs up ∙
    ap₂ (λ l r. of_names (map written l) (map written r) (layers_of up.now)) are also)

-- the body of an alternative under the parameters of the first of its group
pub alternative_made : (fs xs : List Bytes) (F : Frames) (first : DefinitionHead) (hs : List Head) (a : Alternative)
    (made : ResolvedStrategy) →
    read_head first ≡ first_for hs (head_in a) → fs ≡ strategy_names (parameters_of first.parameters) →
    xs ≡ term_names (parameters_of first.parameters) →
    made ≡ strategy_at (of_names (map written fs) (map written xs) F) a.body → made ≡ body_among F hs a
alternative_made fs xs F first hs a made is strategies terms e =
    e ∙ ap (λ G. strategy_at G a.body) (ap₂ (λ l r. of_names (map written l) (map written r) F) strategies terms) ∙
    ap (λ h. strategy_at (under_head F h) a.body) is

-- ---- the layer of the definitions

reads_outermost : layers_of variants.Outermost ≡ outermost
reads_outermost = ap layers_of (sym variants.rolls-Outermost) ∙ fold-roll-Scopes Frames scopes_step forms.Outermost

pub definitions_made : (ks : Bor (List Key)) (up : Bor Scopes) (all : List Alternative)
    (made : ResolvedDefinitions) → map named_key ks.now ≡ keys_of (definitions_of_all all) →
    up.now ≡ variants.Outermost →
    made ≡ definitions_at (layers_of (code.Defined ks up)) (definitions_of_all all) →
    made ≡ definitions_at (within all outermost) (definitions_of_all all)
definitions_made ks up all made keys is e =
    e ∙ ap (λ F. definitions_at F (definitions_of_all all)) (reads_defined ks up ∙
    ap₂ of_definitions keys (ap layers_of is ∙ reads_outermost))

-- ---- the program of a file

-- the alternatives are those of a file without a fault, and main is looked up among their keys
pub record Reduces (f : FileTree) (main : Bytes) (all : List Alternative) (found : Option ℕ) : Type 0 where
  pub has_primitive : Bytes → ℕ → Bool
  pub faultless : first_fault has_primitive f main ≡ None
  pub program : definitions_of_all all ≡ program_of_file f
  pub looked_up : found ≡ key_position (keys_of (definitions_of_all all)) (written main) 0 0

pub reduced : (f : FileTree) (main name : Bytes) (declarations ds : List Declared) (forms : List FormTree)
    (keys : List Key) (key : Key) (found : Option ℕ) → IsChecked f declarations main → ds ≡ declarations →
    forms ≡ forms_among f.sections → name ≡ main → key ≡ plain_key name →
    map named_key keys ≡ keys_of (definitions_of_all (tops_at (arity_known ds) forms)) →
    found ≡ key_position (map named_key keys) (written key.name) key.strategies key.terms →
    Reduces f main (tops_at (arity_known ds) forms) found
reduced f main name declarations ds forms keys key found checked declared all named plain keyed looked_up = record {
  has_primitive = checked.has_primitive;
  faultless = checked.faultless;
  program = ap₂ (λ es fs. definitions_of_all (tops_at (arity_known es) fs)) (declared ∙ checked.declared) all;
  looked_up = looked_up ∙
      ap₂ (λ ks k. key_position ks (written k.name) k.strategies k.terms) keyed (plain ∙ ap plain_key named);
}

module _ (f : FileTree) (main : Bytes) (all : List Alternative) (found : Option ℕ)
    (reduces : Reduces f main all found) where
  same_position : found ≡ key_position (keys_of (program_of_file f)) (written main) 0 0
  same_position = reduces.looked_up ∙ ap (λ ds. key_position (keys_of ds) (written main) 0 0) reduces.program

  pub main_found : IsSome found
  main_found = ap is_some (same_position ∙ (checked_main reduces.has_primitive f main reduces.faultless).1)

  module _ (i : ℕ) (made : ResolvedDefinitions) (at : found ≡ Some i)
      (is : made ≡ definitions_at (within all outermost) (definitions_of_all all)) where
    pub program_resolved : ResolvesProgram (program_of_file f) (written main) made i
    program_resolved =
        let P : ResolvedDefinitions → Type 0 = λ ds. ResolvesProgram (program_of_file f) (written main) ds i in
        subst P (sym (is ∙ ap (λ ds. definitions_at (of_definitions (keys_of ds) outermost) ds) reduces.program))
        (checked_resolved reduces.has_primitive f main i reduces.faultless (sym same_position ∙ at))

    pub program_in_range : InRange made i
    program_in_range = resolved_in_range program_resolved
