-- The headline does not rest on this file.
-- What the instructions of the Rust code are seen as, and what holds of every Code.
use Rattle.std.specs.Prelude.{ℕ, zero, suc, ◌<◌, List, [], ◌∷◌, map, length, drop, Vec}
use Rattle.std.specs.declared.alloc.Global.{Global}
use Rattle.term_model.specs.PrimNames.{NameKey}
use Rattle.core_lang.specs.Core.{IsCore}
use Rattle.core_lang.specs.Resolved.{ResolvedDefinitions}
use Rattle.core_lang.specs.Roots as roots
use Rattle.core_lang.specs.Views.{pattern_of, patterns_of}
use Rattle.strat_code.specs.Code as model
use Rattle.strat_code.specs.Code.{Code, code_at, parameter_at, case, count, give_up, match_term, build_term, enter, leave, extend, shrink, try, commit, select, jump, traverse, part_done, call_definition, call_closure, end_definition, end_argument, apply_primitive, finish}
use Rattle.strat_code.specs.StandsFor.{StandsFor}
use Rattle.strat_code.specs.declared.instr.Argument.{Argument}
use Rattle.strat_code.specs.declared.instr.Argument.TheVariants as arguments
use Rattle.strat_code.specs.declared.instr.Traversal.{Traversal}
use Rattle.strat_code.specs.declared.instr.Traversal.TheVariants as traversals
use Rattle.strat_code.specs.declared.instr.Root.{Root}
use Rattle.strat_code.specs.declared.instr.Root.TheVariants as root_forms
use Rattle.strat_code.specs.declared.instr.Case.{Case}
use Rattle.strat_code.specs.declared.instr.Instr.{Instr}
use Rattle.strat_code.specs.declared.instr.Instr.TheVariants as forms

abbrev pub argument_of : Argument → model.Argument
argument_of (arguments.Code a) = code_at a
argument_of (arguments.Parameter y) = parameter_at y

abbrev pub traversal_of : Traversal → model.Traversal
traversal_of traversals.All = model.all_parts
traversal_of traversals.One = model.one_part
traversal_of traversals.Some = model.some_parts

abbrev pub root_of : Root → roots.Root
root_of root_forms.Any = roots.any_root
root_of (root_forms.Integer z) = roots.integer_root z
root_of (root_forms.Symbol f n) = roots.symbol_root f n
root_of (root_forms.List n o) = roots.list_root n o

abbrev pub case_of : Case → model.Case
case_of c = case (root_of c.root) c.nodes c.body c.otherwise

-- the cases of a table, if there is one at this position
abbrev pub table_at : List (Vec Case Global) → ℕ → List Case
table_at [] j = []
table_at (t ∷ ts) zero = t.items
table_at (t ∷ ts) (suc j) = table_at ts j

-- with these tables
module _ (tables : List (Vec Case Global)) where
  -- the cases of a table without its first k ones
  abbrev pub cases_of : (table k : ℕ) → List model.Case
  cases_of j k = drop k (map case_of (table_at tables j))

  abbrev pub instr_of : Instr → model.Instr
  instr_of (forms.Count n) = count n
  instr_of (forms.GiveUp n) = give_up n
  instr_of (forms.Match n p) = match_term n (pattern_of p)
  instr_of (forms.Build n p) = build_term n (pattern_of p)
  instr_of (forms.Enter n k) = enter n k
  instr_of forms.Leave = leave
  instr_of (forms.Extend n k) = extend n k
  instr_of (forms.Shrink k) = shrink k
  instr_of (forms.Try n a) = try n a
  instr_of (forms.Commit n a) = commit n a
  instr_of (forms.Select n j k a) = select n (cases_of j k) a
  instr_of (forms.Jump a) = jump a
  instr_of (forms.Traverse n k a) = traverse n (traversal_of k) a
  instr_of forms.PartDone = part_done
  instr_of (forms.CallDefinition n h a k to us ps) =
      call_definition n h a k to (map argument_of us.items) (patterns_of ps.items)
  instr_of (forms.CallClosure n y) = call_closure n y
  instr_of forms.EndDefinition = end_definition
  instr_of forms.EndArgument = end_argument
  instr_of (forms.ApplyPrimitive n f ps) = apply_primitive n f.items (patterns_of ps.items)
  instr_of forms.Finish = finish

  abbrev pub code_of : List Instr → Code
  code_of vs = map instr_of vs

-- instructions, the tables that they select from, and the primitives that they apply
pub record CodeParts : Type 0 where
  pub instrs : List Instr
  pub tables : List (Vec Case Global)
  pub prims : List NameKey

-- each address in an instruction is less than n
module _ (n : ℕ) where
  abbrev pub ArgumentsInRange : List model.Argument → Type 0
  ArgumentsInRange [] = Unit {0}
  ArgumentsInRange (code_at a ∷ us) = (a < n) × ArgumentsInRange us
  ArgumentsInRange (parameter_at y ∷ us) = ArgumentsInRange us

  abbrev pub CasesInRange : List model.Case → Type 0
  CasesInRange [] = Unit {0}
  CasesInRange (case r k body otherwise ∷ cs) = (body < n) × (otherwise < n) × CasesInRange cs

  abbrev pub AddressesInRange : model.Instr → Type 0
  AddressesInRange (count k) = Unit {0}
  AddressesInRange (give_up k) = Unit {0}
  AddressesInRange (match_term k p) = Unit {0}
  AddressesInRange (build_term k p) = Unit {0}
  AddressesInRange (enter k m) = Unit {0}
  AddressesInRange leave = Unit {0}
  AddressesInRange (extend k m) = Unit {0}
  AddressesInRange (shrink m) = Unit {0}
  AddressesInRange (try k a) = a < n
  AddressesInRange (commit k a) = a < n
  AddressesInRange (select k cs a) = CasesInRange cs × (a < n)
  AddressesInRange (jump a) = a < n
  AddressesInRange (traverse k m a) = a < n
  AddressesInRange part_done = Unit {0}
  AddressesInRange (call_definition k h entry room a us ps) = (entry < n) × (a < n) × ArgumentsInRange us
  AddressesInRange (call_closure k y) = Unit {0}
  AddressesInRange end_definition = Unit {0}
  AddressesInRange end_argument = Unit {0}
  AddressesInRange (apply_primitive k f ps) = Unit {0}
  AddressesInRange finish = Unit {0}

  abbrev pub AllInRange : Code → Type 0
  AllInRange [] = Unit {0}
  AllInRange (v ∷ vs) = AddressesInRange v × AllInRange vs

-- There is a core with these primitives that the code stands for, and each address in the code is one of its
-- instructions. That each place of an instruction is one of its frame is part of what ranges are.
pub record IsCode (code : Code) (prims : List NameKey) : Type 0 where
  pub program : ResolvedDefinitions
  pub main : ℕ
  pub core : IsCore program main prims
  pub stands : StandsFor code program main
  pub addresses : AllInRange (length code) code
