-- Local definitions: how they are made of their parts, and rows of them.
use Rattle.std.proofs.Common.{◌≡◌, ℕ, ◌+◌, true, false, List, [], ◌∷◌, refl, ap, arith}
use Rattle.str_lexer.specs.declared.token.Mark.TheVariants as M
use Rattle.str_lexer.specs.declared.token.Keyword.TheVariants as K
use Rattle.str_syntax.specs.Trees.{HeadTree, head, StrategyTree, PrimaryTree, let_in, DefinitionTree, definition, DefinitionTrees, no_definitions, more_definitions}
use Rattle.str_syntax.specs.Views.{definitions_in}
use Rattle.str_parser.specs.Lexemes.{Lexeme, mark, keyword}
use Rattle.str_parser.specs.Items.{Item, Way, either, Runs}
use Rattle.str_parser.specs.Phrases.{word, primary, headed, defined, definitions}
use Rattle.str_parser.specs.Readings.{AtMost, Found}
use Rattle.str_parser.specs.Parsing.{is_name, begins_name}
use Rattle.str_parser.specs.Parts.{inner_strategy, closed_strategy, some_definitions, EndsDefinitions, Anything}
use Rattle.str_parser.proofs.PhraseLaws.{Made, Makes, makes_on, Parts, Pairs, after_first, behind, is_behind, closed}
use Rattle.str_parser.proofs.RunLaws.{several, some, Row, Lists, Partly}
use Rattle.str_parser.proofs.PrimaryLeads.{LedPrimary, led_let, primary_led}

-- ---- one definition

definition_only : (k : ℕ) (u : DefinitionTree) (is : List Item) (ts : List Lexeme) → Runs either (defined k u is) ts →
    Parts headed (AtMost 3) (behind (mark M.Equals) (inner_strategy k)) definition u is ts
definition_only k (definition h s) is ts r =
    record { one = h; other = s; are = refl; ends = omega arith; runs = r }

pub definition_pairs : (k : ℕ) → Pairs headed (AtMost 3) (behind (mark M.Equals) (inner_strategy k)) (defined k)
    (AtMost 0) definition
definition_pairs k = record { sound = λ way h s is ts r. r; only = λ u is ts h r. definition_only k u is ts r }

-- what comes after the head and the equals sign
pub after_head : (k : ℕ) {h : HeadTree} {ts ahead : List Lexeme} →
    Found headed (AtMost 3) ts h (mark M.Equals ∷ ahead) →
    Makes (inner_strategy k) (AtMost 0) ahead (defined k) (AtMost 0) ts (definition h)
after_head k f = makes_on (is_behind refl) (after_first (definition_pairs k) f)

-- ---- definitions as a list

listed : DefinitionTrees → List DefinitionTree
listed no_definitions = []
listed (more_definitions d ds) = d ∷ listed ds

in_listed : (ds : DefinitionTrees) → ds ≡ definitions_in (listed ds)
unfolding listed
in_listed no_definitions = refl
in_listed (more_definitions d ds) = ap (more_definitions d) (in_listed ds)

-- ---- one after the other

defined_begins : (k : ℕ) (u : DefinitionTree) (is : List Item) (ts : List Lexeme) → Runs either (defined k u is) ts →
    begins_name ts ≡ true
defined_begins k (definition (head x ps) s) is [] r = absurd r
defined_begins k (definition (head x ps) s) is (t ∷ ts) r = ap is_name r.0

definitions_follow : (k : ℕ) (us : List DefinitionTree) (is : List Item) → EndsDefinitions is →
    AtMost 0 (several (defined k) us is)
definitions_follow k [] is h = h.0
definitions_follow k (definition (head x ps) s ∷ us) is h = omega arith

name_goes_on : (rest : List Lexeme) → begins_name rest ≡ true → (is : List Item) → EndsDefinitions is →
    Runs either is rest → ⊥
name_goes_on [] e is h r = cc
name_goes_on (t ∷ ts) e is h r = let f = h.1 t ts r in cc

-- with a name, and no other token, another one comes
pub definitions_row : (k : ℕ) →
    Row (defined k) (AtMost 0) EndsDefinitions (λ ts. begins_name ts ≡ true) (λ ts. begins_name ts ≡ false)
definitions_row k = record {
  follows = definitions_follow k;
  goes_on = name_goes_on;
  past = λ rest e u is r. let f = defined_begins k u is rest r in cc;
}

definitions_are : (k : ℕ) (ds : List DefinitionTree) (is : List Item) →
    several (defined k) ds is ≡ definitions k (definitions_in ds) is
definitions_are k [] is = refl
definitions_are k (d ∷ ds) is = ap (defined k d) (definitions_are k ds is)

some_definitions_are : (k : ℕ) (ds : List DefinitionTree) (is : List Item) →
    some (defined k) (defined k) ds is ≡ some_definitions k (definitions_in ds) is
some_definitions_are k [] is = refl
some_definitions_are k (d ∷ ds) is = ap (defined k d) (definitions_are k ds is)

pub definition_lists : (k : ℕ) → Lists (some (defined k) (defined k)) (some_definitions k) definitions_in
definition_lists k = record { from = listed; back = in_listed; written = some_definitions_are k }

abbrev pub PartlyDefinitions : ℕ → List DefinitionTree → List Lexeme → List Lexeme → Type 0
PartlyDefinitions k = Partly (defined k) EndsDefinitions (some_definitions k) definitions_in 1

-- ---- definitions and a strategy

-- in ends definitions
pub definitions_end : (is : List Item) → EndsDefinitions (word K.In ∷ is)
definitions_end is = (omega arith, λ t rest r. ap is_name r.0)

abbrev pub let_inside : ℕ → DefinitionTrees × StrategyTree → List Item → List Item
let_inside k b is = closed (keyword K.In) (some_definitions k) b.0 (closed_strategy (keyword K.End) k b.1 is)

abbrev pub as_let : DefinitionTrees × StrategyTree → PrimaryTree
as_let b = let_in b.0 b.1

pub let_pairs : (k : ℕ) → Pairs (closed (keyword K.In) (some_definitions k)) Anything
    (closed_strategy (keyword K.End) k) (let_inside k) Anything (λ ds s. (ds, s))
let_pairs k = record {
  sound = λ way ds s is ts r. r;
  only = λ u is ts h r. record { one = u.0; other = u.1; are = refl; ends = tt; runs = r };
}

module _ (k : ℕ) (ts : List Lexeme) where
  let_sound : (way : Way) (b : DefinitionTrees × StrategyTree) (is : List Item) →
      Runs way (let_inside (k + 1) b is) ts → Runs way (primary k (as_let b) is) (keyword K.Let ∷ ts)
  let_sound way (no_definitions, s) is r = let e = r.0 in cc
  let_sound way (more_definitions d ds, s) is r = (refl, r)

  let_only : (u : PrimaryTree) (is : List Item) → LedPrimary (keyword K.Let) u →
      Runs either (primary k u is) (keyword K.Let ∷ ts) → Made (let_inside (k + 1)) Anything ts as_let u is
  let_only u is (led_let {d = d} {ds = ds} {s = s}) r =
      record { from = (more_definitions d ds, s); are = refl; ends = tt; runs = r.1 }

  pub made_let : Makes (let_inside (k + 1)) Anything ts (primary k) (AtMost 3) (keyword K.Let ∷ ts) as_let
  made_let = record {
    sound = let_sound;
    only = λ u is h r. let_only u is (primary_led either k u is _ _ r) r;
    no_longer = omega arith;
  }
