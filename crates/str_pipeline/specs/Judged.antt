-- Which definitions and which term texts are refused, and what the others stand for.
use Rattle.std.specs.Prelude.{◌≡◌, ℕ, ◌<◌, ◌≤◌, Bool, true, false, List, length, Some, None, Ok, Err}
use Rattle.term_model.specs.declared.fault.Fault.{Fault}
use Rattle.term_model.specs.declared.fault.Fault.TheVariants.{DefsTooLong, Lexical, ReservedWord, Syntax, Nesting, TermTooLong, TermOversize, TermSyntax, TermUndeclared}
use Rattle.term_model.specs.Term.{Tree}
use Rattle.aterm_text.specs.ReadTerm.{IsReading}
use Rattle.str_lexer.specs.declared.token.Token.{Token}
use Rattle.str_lexer.specs.Lexes.{Lexes, OnlyTokens, HoldsLeftOut, holds_left_out}
use Rattle.str_syntax.specs.Trees.{FileTree}
use Rattle.str_parser.specs.Lexemes.{lexemes}
use Rattle.str_parser.specs.Phrases.{IsPhrase, OnlyPhrase, TooNested}
use Rattle.signature_core.specs.Signature.{declarations_of}
use Rattle.signature_core.specs.DeclaredTerm.{term_is_declared}
use Rattle.scope_check.specs.Complaint.{first_fault}
use Rattle.strategy_lib.specs.Library.{with_library}
use Rattle.str_pipeline.specs.Limits.{max_definitions, max_term}
use Rattle.str_pipeline.specs.Setting.{Setting}

-- the bytes are no tokens
abbrev pub HasNoTokens : List ℕ → Type 0
HasNoTokens bytes = (ts : List Token) → ¬ (Lexes bytes ts)

-- the bytes are these tokens and no others, and none of them is a word of a part that is left out
pub record AreTokens (bytes : List ℕ) (ts : List Token) : Type 0 where
  pub only : OnlyTokens bytes ts
  pub none_left_out : holds_left_out ts ≡ false

-- the bytes are tokens that are nested too deep
pub record AreTooNested (bytes : List ℕ) : Type 0 where
  pub tokens : List Token
  pub are_tokens : AreTokens bytes tokens
  pub nested : TooNested (lexemes bytes tokens)

-- the bytes are tokens that are not nested too deep, and the phrase of no file
pub record HasNoPhrase (bytes : List ℕ) : Type 0 where
  pub tokens : List Token
  pub are_tokens : AreTokens bytes tokens
  pub not_nested : ¬ (TooNested (lexemes bytes tokens))
  pub none : (f : FileTree) → ¬ (IsPhrase (lexemes bytes tokens) f)

-- the bytes are tokens that are not nested too deep, and the phrase of this file and of no other
pub record IsFile (bytes : List ℕ) (f : FileTree) : Type 0 where
  pub tokens : List Token
  pub are_tokens : AreTokens bytes tokens
  pub not_nested : ¬ (TooNested (lexemes bytes tokens))
  pub only_phrase : OnlyPhrase (lexemes bytes tokens) f

-- the bytes are those of a file, and this is the first fault of the file with the library after it
pub record FailsChecks (S : Setting) (bytes : List ℕ) (fault : Fault) : Type 0 where
  pub file : FileTree
  pub is_file : IsFile bytes file
  pub fails : first_fault S.has_primitive (with_library file) S.options.main.items ≡ Some fault

-- this is the file of the bytes with the library after it, and it has no fault
pub record PassesChecks (S : Setting) (bytes : List ℕ) (f : FileTree) : Type 0 where
  pub file : FileTree
  pub is_file : IsFile bytes file
  pub extended : f ≡ with_library file
  pub passes : first_fault S.has_primitive f S.options.main.items ≡ None

-- the definitions are refused with this fault: for their size, their tokens, their nesting, their phrase, or what the
-- checks find in their file with the library after it
abbrev pub AreRefused : Setting → List ℕ → Fault → Type 0
AreRefused S defs DefsTooLong = max_definitions < length defs
AreRefused S defs (Lexical at) = (length defs ≤ max_definitions) × HasNoTokens defs
AreRefused S defs (ReservedWord at) = (length defs ≤ max_definitions) × HoldsLeftOut defs
AreRefused S defs (Nesting at) = (length defs ≤ max_definitions) × AreTooNested defs
AreRefused S defs (Syntax at) = (length defs ≤ max_definitions) × HasNoPhrase defs
AreRefused S defs fault = (length defs ≤ max_definitions) × FailsChecks S defs fault

-- this is the file of the definitions with the library after it, and nothing is wrong in it
abbrev pub AreAccepted : Setting → List ℕ → FileTree → Type 0
AreAccepted S defs f = (length defs ≤ max_definitions) × PassesChecks S defs f

-- the text is that of this term
abbrev pub IsTerm : List ℕ → Tree → Type 0
IsTerm text t = (length text ≤ max_term) × IsReading text (Ok t)

-- the text is that of a term with an application that the file does not declare
pub record IsUndeclared (f : FileTree) (text : List ℕ) : Type 0 where
  pub tree : Tree
  pub is_term : IsTerm text tree
  pub undeclared : term_is_declared (declarations_of f) tree ≡ false

-- the text of the term is refused with this fault; undeclared applications are refused in strict mode alone
abbrev pub IsRefused : Bool → FileTree → List ℕ → Fault → Type 0
IsRefused strict f text TermTooLong = max_term < length text
IsRefused strict f text (TermOversize at) = (length text ≤ max_term) × IsReading text (Err (TermOversize at))
IsRefused strict f text (TermSyntax at) = (length text ≤ max_term) × IsReading text (Err (TermSyntax at))
IsRefused strict f text TermUndeclared = (strict ≡ true) × IsUndeclared f text
IsRefused strict f text fault = ⊥

-- the text is that of this term, and in strict mode the file declares each application in it
abbrev pub IsAccepted : Bool → FileTree → List ℕ → Tree → Type 0
IsAccepted strict f text t = IsTerm text t × (strict ≡ true → term_is_declared (declarations_of f) t ≡ true)
