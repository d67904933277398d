-- Which primaries tokens can run along, by the first token.
use Rattle.std.proofs.Common.{◌≡◌, ℕ, true, false, List, [], ◌∷◌, refl}
use Rattle.std.specs.Borrow.{Bor}
use Rattle.str_lexer.specs.declared.token.Mark.{Mark}
use Rattle.str_lexer.specs.declared.token.Mark.TheVariants as M
use Rattle.str_lexer.specs.declared.token.Keyword.{Keyword}
use Rattle.str_lexer.specs.declared.token.Keyword.TheVariants as K
use Rattle.str_syntax.specs.declared.strategy.Operator.{Operator}
use Rattle.str_syntax.specs.declared.strategy.Operator.TheVariants as O
use Rattle.str_syntax.specs.Trees.{Bytes, PatternTree, PatternTrees, StrategyTree, StrategyTrees, PrimaryTree, identity, failure, match, build, apply, parenthesized, scope, operator, conditional, recursive, let_in, primitive, lambda, call, tuple_congruence, list_congruence, RuleTree, DefinitionTree, DefinitionTrees, no_definitions, more_definitions, no_strategy, one_strategy, no_arguments, strategy_arguments, all_arguments}
use Rattle.str_parser.specs.declared.input.Lexeme.{Lexeme as CodeLexeme}
use Rattle.str_parser.specs.declared.input.Lexeme.TheVariants as C
use Rattle.str_parser.specs.Lexemes.{Lexeme, name, quoted, mark, keyword, begins_strategy}
use Rattle.str_parser.specs.Items.{Item, Way, Runs}
use Rattle.str_parser.specs.Phrases.{keyword_of, are_operands, any_strategies, primary}
use Rattle.str_parser.specs.Readings.{lexeme_in, NotAt}

-- the primaries that begin with this token
pub data LedPrimary : Lexeme → PrimaryTree → Type 0 where
  led_identity : LedPrimary (keyword K.Id) identity
  led_failure : LedPrimary (keyword K.Fail) failure
  led_match : {p : PatternTree} → LedPrimary (mark M.Question) (match p)
  led_build : {p : PatternTree} → LedPrimary (mark M.Exclamation) (build p)
  led_apply : {s : StrategyTree} {p : PatternTree} → LedPrimary (mark M.Less) (apply s p)
  led_parenthesized : {s : StrategyTree} → LedPrimary (mark M.OpenParenthesis) (parenthesized s)
  led_scope : {xs : List Bytes} {s : StrategyTree} → LedPrimary (mark M.OpenBrace) (scope xs s)
  led_where : {s : StrategyTree} → LedPrimary (keyword K.Where) (operator O.Where s)
  led_not : {s : StrategyTree} → LedPrimary (keyword K.Not) (operator O.Not s)
  led_all : {s : StrategyTree} → LedPrimary (keyword K.All) (operator O.All s)
  led_one : {s : StrategyTree} → LedPrimary (keyword K.One) (operator O.One s)
  led_some : {s : StrategyTree} → LedPrimary (keyword K.Some) (operator O.Some s)
  led_conditional : {c s : StrategyTree} → LedPrimary (keyword K.If) (conditional c s no_strategy)
  led_conditional_else : {c s t : StrategyTree} → LedPrimary (keyword K.If) (conditional c s (one_strategy t))
  led_recursive : {x : Bytes} {s : StrategyTree} → LedPrimary (keyword K.Rec) (recursive x s)
  led_let : {d : DefinitionTree} {ds : DefinitionTrees} {s : StrategyTree} →
      LedPrimary (keyword K.Let) (let_in (more_definitions d ds) s)
  led_primitive : {text : Bytes} {ps : PatternTrees} → LedPrimary (keyword K.Prim) (primitive text ps)
  led_lambda : {r : RuleTree} → LedPrimary (mark M.Backslash) (lambda r)
  led_call : {x : Bytes} → LedPrimary (name x) (call x no_arguments)
  led_call_with : {x : Bytes} {ss : StrategyTrees} → LedPrimary (name x) (call x (strategy_arguments ss))
  led_call_with_terms : {x : Bytes} {ss : StrategyTrees} {ps : PatternTrees} →
      LedPrimary (name x) (call x (all_arguments ss ps))
  led_tuple : {ss : StrategyTrees} → are_operands ss ≡ true → LedPrimary (mark M.OpenParenthesis) (tuple_congruence ss)
  led_list : {ss : StrategyTrees} → LedPrimary (mark M.OpenBracket) (list_congruence ss no_strategy)
  led_list_with_tail : {ss : StrategyTrees} {s : StrategyTree} → any_strategies ss ≡ true →
      LedPrimary (mark M.OpenBracket) (list_congruence ss (one_strategy s))

operator_led : (t : Lexeme) (o : Operator) (s : StrategyTree) → t ≡ keyword (keyword_of o) → LedPrimary t (operator o s)
operator_led t O.Where s e = rw e led_where
operator_led t O.Not s e = rw e led_not
operator_led t O.All s e = rw e led_all
operator_led t O.One s e = rw e led_one
operator_led t O.Some s e = rw e led_some

-- a primary that tokens run along begins with the first of them
pub primary_led : (way : Way) (k : ℕ) (u : PrimaryTree) (is : List Item) (t : Lexeme) (ts : List Lexeme) →
    Runs way (primary k u is) (t ∷ ts) → LedPrimary t u
primary_led way k identity is t ts r = rw r.0 led_identity
primary_led way k failure is t ts r = rw r.0 led_failure
primary_led way k (match p) is t ts r = rw r.0 led_match
primary_led way k (build p) is t ts r = rw r.0 led_build
primary_led way k (apply s p) is t ts r = rw r.0 led_apply
primary_led way k (parenthesized s) is t ts r = rw r.0 led_parenthesized
primary_led way k (scope xs s) is t ts r = rw r.0 led_scope
primary_led way k (operator o s) is t ts r = operator_led t o s r.0
primary_led way k (conditional c s no_strategy) is t ts r = rw r.0 led_conditional
primary_led way k (conditional c s (one_strategy u)) is t ts r = rw r.0 led_conditional_else
primary_led way k (recursive x s) is t ts r = rw r.0 led_recursive
primary_led way k (let_in no_definitions s) is t ts r = let e = r.0 in cc
primary_led way k (let_in (more_definitions d ds) s) is t ts r = rw r.0 led_let
primary_led way k (primitive text ps) is t ts r = rw r.0 led_primitive
primary_led way k (lambda x) is t ts r = rw r.0 led_lambda
primary_led way k (call x no_arguments) is t ts r = rw r.0 led_call
primary_led way k (call x (strategy_arguments ss)) is t ts r = rw r.0 led_call_with
primary_led way k (call x (all_arguments ss ps)) is t ts r = rw r.0 led_call_with_terms
primary_led way k (tuple_congruence ss) is t ts r = rw r.1.0 (led_tuple r.0)
primary_led way k (list_congruence ss no_strategy) is t ts r = rw r.0 led_list
primary_led way k (list_congruence ss (one_strategy s)) is t ts r = rw r.1.0 (led_list_with_tail r.0)

-- no primary runs along no tokens
pub none_led : (way : Way) (k : ℕ) (u : PrimaryTree) (is : List Item) → Runs way (primary k u is) [] → ⊥
none_led way k (let_in no_definitions s) is r = let e = r.0 in cc
none_led way k (let_in (more_definitions d ds) s) is r = r
none_led way k (tuple_congruence ss) is r = r.1
none_led way k (list_congruence ss (one_strategy s)) is r = r.1
none_led way k (call x no_arguments) is r = r
none_led way k _ is r = r

pub led_begins : {t : Lexeme} {u : PrimaryTree} → LedPrimary t u → begins_strategy t ≡ true
led_begins led_identity = refl
led_begins _ = refl

-- no primary begins with a token that begins no strategy
pub not_led : (t : Lexeme) → begins_strategy t ≡ false → (u : PrimaryTree) → LedPrimary t u → ⊥
not_led t e u l = let f : begins_strategy t ≡ true = led_begins l in cc

-- ---- tokens that begin no strategy

-- the keywords that are none of these
pub keywords_left : (w : Keyword) → (w ≡ K.Id → ⊥) → (w ≡ K.Fail → ⊥) → (w ≡ K.Where → ⊥) → (w ≡ K.Not → ⊥) →
    (w ≡ K.All → ⊥) → (w ≡ K.One → ⊥) → (w ≡ K.Some → ⊥) → (w ≡ K.If → ⊥) → (w ≡ K.Rec → ⊥) → (w ≡ K.Let → ⊥) →
    (w ≡ K.Prim → ⊥) → begins_strategy (keyword w) ≡ false
keywords_left K.Id n _ _ _ _ _ _ _ _ _ _ = absurd (n refl)
keywords_left K.Fail _ n _ _ _ _ _ _ _ _ _ = absurd (n refl)
keywords_left K.Where _ _ n _ _ _ _ _ _ _ _ = absurd (n refl)
keywords_left K.Not _ _ _ n _ _ _ _ _ _ _ = absurd (n refl)
keywords_left K.All _ _ _ _ n _ _ _ _ _ _ = absurd (n refl)
keywords_left K.One _ _ _ _ _ n _ _ _ _ _ = absurd (n refl)
keywords_left K.Some _ _ _ _ _ _ n _ _ _ _ = absurd (n refl)
keywords_left K.If _ _ _ _ _ _ _ n _ _ _ = absurd (n refl)
keywords_left K.Rec _ _ _ _ _ _ _ _ n _ _ = absurd (n refl)
keywords_left K.Let _ _ _ _ _ _ _ _ _ n _ = absurd (n refl)
keywords_left K.Prim _ _ _ _ _ _ _ _ _ _ n = absurd (n refl)
keywords_left _ _ _ _ _ _ _ _ _ _ _ _ = refl

-- the marks that are none of these
pub marks_left : (m : Mark) → (m ≡ M.Question → ⊥) → (m ≡ M.Exclamation → ⊥) → (m ≡ M.Backslash → ⊥) →
    (m ≡ M.Less → ⊥) → (m ≡ M.OpenParenthesis → ⊥) → (m ≡ M.OpenBracket → ⊥) → (m ≡ M.OpenBrace → ⊥) →
    begins_strategy (mark m) ≡ false
marks_left M.Question n _ _ _ _ _ _ = absurd (n refl)
marks_left M.Exclamation _ n _ _ _ _ _ = absurd (n refl)
marks_left M.Backslash _ _ n _ _ _ _ = absurd (n refl)
marks_left M.Less _ _ _ n _ _ _ = absurd (n refl)
marks_left M.OpenParenthesis _ _ _ _ n _ _ = absurd (n refl)
marks_left M.OpenBracket _ _ _ _ _ n _ = absurd (n refl)
marks_left M.OpenBrace _ _ _ _ _ _ n = absurd (n refl)
marks_left _ _ _ _ _ _ _ _ = refl

-- a token in the code that is no name, no mark and no keyword
pub tokens_left : (t : CodeLexeme) → ((x : Bor (List ℕ)) → t ≡ C.Name x → ⊥) → ((m : Mark) → t ≡ C.Mark m → ⊥) →
    ((w : Keyword) → t ≡ C.Keyword w → ⊥) → begins_strategy (lexeme_in t) ≡ false
tokens_left (C.Name x) no_name no_mark no_keyword = absurd (no_name x refl)
tokens_left (C.Mark m) no_name no_mark no_keyword = absurd (no_mark m refl)
tokens_left (C.Keyword w) no_name no_mark no_keyword = absurd (no_keyword w refl)
tokens_left _ no_name no_mark no_keyword = refl

-- a token in the code that is no quoted text is at no quoted text
pub no_quoted : (t : CodeLexeme) (ts rest : List Lexeme) → ts ≡ lexeme_in t ∷ rest →
    ((x : Bor (List ℕ)) → t ≡ C.Quoted x → ⊥) → (x : Bytes) → NotAt (quoted x) ts
no_quoted (C.Quoted y) ts rest e no_text x = absurd (no_text y refl)
no_quoted _ ts rest e no_text x = λ others f. cc

pub none_at : (t : Lexeme) (ts : List Lexeme) → ts ≡ [] → NotAt t ts
none_at t ts e = λ others f. cc
