-- Definitions and the text of a term have at most one line and one status in a setting.
use Rattle.std.proofs.Common.{◌≡◌, ℕ, ◌<◌, ◌≤◌, Bool, List, length, refl, sym, ◌∙◌, ap, subst, arith, inl, inr, Ok, Err, Result, Vec, Global, Option, Some, None, IfSome, true, false, ◌++◌, codes}
use Rattle.term_model.specs.declared.fault.Fault.{Fault}
use Rattle.term_model.specs.declared.fault.Fault.TheVariants.{Memory, Read, DefsTooLong, Lexical, ReservedWord, Syntax, Nesting, TermTooLong, TermOversize, TermSyntax, TermUndeclared}
use Rattle.term_model.specs.Fault.{number_of, word_of}
use Rattle.term_model.specs.Flat.{Meaning}
use Rattle.term_model.specs.Term.{Tree}
use Rattle.aterm_text.specs.ReadTerm.{IsReading}
use Rattle.core_lang.specs.Ending.{Ending}
use Rattle.core_lang.specs.declared.run.Outcome.{Outcome}
use Rattle.core_lang.specs.declared.run.Outcome.TheVariants as outcomes
use Rattle.core_lang.proofs.Unique.{unique}
use Rattle.str_pipeline.specs.declared.status.Status.{Status}
use Rattle.str_pipeline.specs.declared.status.Status.TheVariants.{Rewritten, Failed, Oversize, Spent, Refused}
use Rattle.str_lexer.specs.declared.token.Token.{Token}
use Rattle.str_lexer.specs.Lexes.{OnlyTokens, HoldsLeftOut, holds_left_out}
use Rattle.str_syntax.specs.Trees.{Bytes, FileTree}
use Rattle.signature_core.specs.Signature.{declarations_of}
use Rattle.signature_core.specs.DeclaredTerm.{term_is_declared}
use Rattle.str_parser.specs.Lexemes.{lexemes}
use Rattle.str_parser.specs.Phrases.{IsPhrase, TooNested}
use Rattle.strategy_lib.specs.Library.{with_library}
use Rattle.scope_check.specs.Complaint.{first_fault}
use Rattle.str_pipeline.specs.Limits.{max_definitions, max_term}
use Rattle.str_pipeline.specs.Setting.{Setting}
use Rattle.str_pipeline.specs.Judged.{HasNoTokens, AreTokens, AreTooNested, HasNoPhrase, IsFile, FailsChecks, PassesChecks, AreRefused, AreAccepted, IsTerm, IsUndeclared, IsRefused, IsAccepted}
use Rattle.str_pipeline.specs.Written.{Rewrites, IsAnswer, IsFirstFault, IsWritten, line_of, refusal_line}
use Rattle.str_pipeline.specs.Alike.{AreAlike}
use Rattle.str_pipeline.specs.Steps.{IsTextResult}

-- ---- refusals of definitions

some_is_no_none : {A : Type 0} {x : A} → Some x ≡ None → ⊥
some_is_no_none same = cc

some_is_one : {A : Type 0} {x y : A} → Some x ≡ Some y → x ≡ y
some_is_one same = cc

-- tokens of the same bytes
same_tokens : {bytes : List ℕ} {ts us : List Token} → OnlyTokens bytes ts → OnlyTokens bytes us → ts ≡ us
same_tokens {ts = ts} one other = other.only ts one.tokens

-- bytes whose tokens hold no word of a left-out part do not hold one
none_held : {bytes : List ℕ} {ts : List Token} → AreTokens bytes ts → HoldsLeftOut bytes → ⊥
none_held {ts = ts} are held =
    let holds : holds_left_out ts ≡ true =
    subst (λ us. holds_left_out us ≡ true) (same_tokens held.only are.only) held.holds in
    let wrong : false ≡ true = sym are.none_left_out ∙ holds in cc

-- tokens that are nested too deep are no others that are not
not_nested : {bytes : List ℕ} {ts : List Token} → AreTokens bytes ts → (TooNested (lexemes bytes ts) → ⊥) →
    AreTooNested bytes → ⊥
not_nested {bytes = bytes} are flat deep =
    flat (subst (λ us. TooNested (lexemes bytes us)) (same_tokens deep.are_tokens.only are.only) deep.nested)

-- the phrase of other tokens of the same bytes
phrase_again : {bytes : List ℕ} {ts us : List Token} (f : FileTree) → AreTokens bytes ts → AreTokens bytes us →
    IsPhrase (lexemes bytes ts) f →
    IsPhrase (lexemes bytes us) f
phrase_again {bytes = bytes} f one other is =
    subst (λ ts. IsPhrase (lexemes bytes ts) f) (same_tokens one.only other.only) is

-- ---- files

-- the bytes of a file are tokens
no_tokens_of_file : {bytes : List ℕ} {f : FileTree} → IsFile bytes f → HasNoTokens bytes → ⊥
no_tokens_of_file file none = none file.tokens file.are_tokens.only.tokens

-- and a phrase
a_phrase : {bytes : List ℕ} {f : FileTree} → IsFile bytes f → HasNoPhrase bytes → ⊥
a_phrase {f = f} file other = other.none f (phrase_again f file.are_tokens other.are_tokens file.only_phrase.phrase)

-- of one file
same_file : {bytes : List ℕ} {f g : FileTree} → IsFile bytes f → IsFile bytes g → f ≡ g
same_file {f = f} file other = other.only_phrase.only_one f
    (phrase_again f file.are_tokens other.are_tokens file.only_phrase.phrase)

-- which has one first fault
same_first : {S : Setting} {bytes : List ℕ} {f g : Fault} → FailsChecks S bytes f → FailsChecks S bytes g → f ≡ g
same_first {S = S} bad wrong =
    let same = ap (λ file. first_fault S.has_primitive (with_library file) S.options.main.items)
    (same_file bad.is_file wrong.is_file) in
    some_is_one (sym bad.fails ∙ (same ∙ wrong.fails))

-- or none
no_fault : {S : Setting} {bytes : List ℕ} {f : FileTree} {fault : Fault} → FailsChecks S bytes fault →
    PassesChecks S bytes f → ⊥
no_fault {S = S} bad good =
    let same = ap with_library (same_file bad.is_file good.is_file) ∙ sym good.extended in
    some_is_no_none (sym bad.fails ∙
    (ap (λ file. first_fault S.has_primitive file S.options.main.items) same ∙ good.passes))

-- ---- causes

-- the causes, without the place
data Cause (S : Setting) (defs : List ℕ) : Fault → Type 0 where
  too_long : max_definitions < length defs → Cause S defs DefsTooLong
  no_tokens : {at : ℕ} → length defs ≤ max_definitions → HasNoTokens defs → Cause S defs (Lexical at)
  left_out : {at : ℕ} → length defs ≤ max_definitions → HoldsLeftOut defs → Cause S defs (ReservedWord at)
  too_nested : {at : ℕ} → length defs ≤ max_definitions → AreTooNested defs → Cause S defs (Nesting at)
  no_phrase : {at : ℕ} → length defs ≤ max_definitions → HasNoPhrase defs → Cause S defs (Syntax at)
  fails : {fault : Fault} → length defs ≤ max_definitions → FailsChecks S defs fault → Cause S defs fault

-- one fault, but for the place
abbrev AreOne : Fault → Fault → Type 0
AreOne f g = (word_of f ≡ word_of g) × (number_of f ≡ number_of g)

cause_of : (S : Setting) (defs : List ℕ) (fault : Fault) → AreRefused S defs fault → Cause S defs fault
cause_of S defs DefsTooLong long = too_long long
cause_of S defs (Lexical at) (short, none) = no_tokens short none
cause_of S defs (ReservedWord at) (short, held) = left_out short held
cause_of S defs (Nesting at) (short, deep) = too_nested short deep
cause_of S defs (Syntax at) (short, none) = no_phrase short none
cause_of S defs _ (short, bad) = fails short bad

same_check : {S : Setting} {defs : List ℕ} {f g : Fault} → FailsChecks S defs f → FailsChecks S defs g → AreOne f g
same_check bad wrong = (ap word_of (same_first bad wrong), ap number_of (same_first bad wrong))

same_cause : {S : Setting} {defs : List ℕ} {f g : Fault} → Cause S defs f → Cause S defs g → AreOne f g
same_cause (too_long long) (too_long also) = (refl, refl)
same_cause (no_tokens short none) (no_tokens also nothing) = (refl, refl)
same_cause (left_out short held) (left_out also holds) = (refl, refl)
same_cause (too_nested short deep) (too_nested also nested) = (refl, refl)
same_cause (no_phrase short none) (no_phrase also nothing) = (refl, refl)
same_cause (fails short bad) (fails also wrong) = same_check bad wrong
same_cause (fails short bad) (too_long long) = absurd (omega arith)
same_cause (too_long long) (fails short bad) = absurd (omega arith)
same_cause (fails short bad) (no_tokens also none) = absurd (no_tokens_of_file bad.is_file none)
same_cause (no_tokens also none) (fails short bad) = absurd (no_tokens_of_file bad.is_file none)
same_cause (fails short bad) (left_out also held) = absurd (none_held bad.is_file.are_tokens held)
same_cause (left_out also held) (fails short bad) = absurd (none_held bad.is_file.are_tokens held)
same_cause (fails short bad) (too_nested also deep) =
    absurd (not_nested bad.is_file.are_tokens bad.is_file.not_nested deep)
same_cause (too_nested also deep) (fails short bad) =
    absurd (not_nested bad.is_file.are_tokens bad.is_file.not_nested deep)
same_cause (fails short bad) (no_phrase also none) = absurd (a_phrase bad.is_file none)
same_cause (no_phrase also none) (fails short bad) = absurd (a_phrase bad.is_file none)
same_cause (too_long long) (no_tokens short none) = absurd (omega arith)
same_cause (too_long long) (left_out short held) = absurd (omega arith)
same_cause (too_long long) (too_nested short deep) = absurd (omega arith)
same_cause (too_long long) (no_phrase short none) = absurd (omega arith)
same_cause (no_tokens short none) (too_long long) = absurd (omega arith)
same_cause (left_out short held) (too_long long) = absurd (omega arith)
same_cause (too_nested short deep) (too_long long) = absurd (omega arith)
same_cause (no_phrase short none) (too_long long) = absurd (omega arith)
same_cause (no_tokens short none) (left_out also held) = absurd (none held.tokens held.only.tokens)
same_cause (no_tokens short none) (too_nested also deep) = absurd (none deep.tokens deep.are_tokens.only.tokens)
same_cause (no_tokens short none) (no_phrase also some) = absurd (none some.tokens some.are_tokens.only.tokens)
same_cause (left_out also held) (no_tokens short none) = absurd (none held.tokens held.only.tokens)
same_cause (too_nested also deep) (no_tokens short none) = absurd (none deep.tokens deep.are_tokens.only.tokens)
same_cause (no_phrase also some) (no_tokens short none) = absurd (none some.tokens some.are_tokens.only.tokens)
same_cause (left_out short held) (too_nested also deep) = absurd (none_held deep.are_tokens held)
same_cause (left_out short held) (no_phrase also some) = absurd (none_held some.are_tokens held)
same_cause (too_nested also deep) (left_out short held) = absurd (none_held deep.are_tokens held)
same_cause (no_phrase also some) (left_out short held) = absurd (none_held some.are_tokens held)
same_cause (too_nested short deep) (no_phrase also some) = absurd (not_nested some.are_tokens some.not_nested deep)
same_cause (no_phrase also some) (too_nested short deep) = absurd (not_nested some.are_tokens some.not_nested deep)

-- definitions that are refused are not those of a file
no_file : {S : Setting} {defs : List ℕ} {fault : Fault} {f : FileTree} → Cause S defs fault → AreAccepted S defs f → ⊥
no_file (too_long long) (short, good) = omega arith
no_file (no_tokens short none) (also, good) = no_tokens_of_file good.is_file none
no_file (left_out short held) (also, good) = none_held good.is_file.are_tokens held
no_file (too_nested short deep) (also, good) = not_nested good.is_file.are_tokens good.is_file.not_nested deep
no_file (no_phrase short none) (also, good) = a_phrase good.is_file none
no_file (fails short bad) (also, good) = no_fault bad good

-- nor is what a reader told, where these bytes are all of it
pub none_refused : (S : Setting) (told : Option (List ℕ)) (defs : List ℕ) (f : FileTree) (Y : Type 0) →
    IfSome told (λ d. defs ≡ d) →
    AreAccepted S defs f → IfSome told (λ d. (fault : Fault) → AreRefused S d fault → Y)
none_refused S None defs f Y same accepted = tt
none_refused S (Some d) defs f Y same accepted =
    λ fault refused. absurd (no_file (cause_of S defs fault (rw same refused)) accepted)

-- the same for what is said of each text of definitions
pub never_refused : (S : Setting) (told : Option (List ℕ)) (defs : List ℕ) (f : FileTree) (Y : List ℕ → Type 0) →
    IfSome told (λ d. defs ≡ d) → AreAccepted S defs f →
    IfSome told (λ d. (fault : Fault) → AreRefused S d fault → Y d)
never_refused S None defs f Y same accepted = tt
never_refused S (Some d) defs f Y same accepted =
    λ fault refused. absurd (no_file (cause_of S defs fault (rw same refused)) accepted)

-- definitions are not refused and accepted
pub not_both : (S : Setting) (defs : List ℕ) (f : FileTree) (fault : Fault) → AreAccepted S defs f →
    AreRefused S defs fault → ⊥
not_both S defs f fault accepted refused = no_file (cause_of S defs fault refused) accepted

-- what refused definitions come to with one text of a term they come to with each
pub whatever_the_term : (S : Setting) (d t u : List ℕ) (fault : Fault)
    (result : Result (Outcome (Vec ℕ Global)) Fault) → AreRefused S d fault → IsTextResult d t S result →
    IsTextResult d u S result
whatever_the_term S d t u fault (Ok (outcomes.Rewritten bytes)) refused (f, tree, accepted, spelled, answer) =
    absurd (no_file (cause_of S d fault refused) accepted)
whatever_the_term S d t u fault (Ok outcomes.Failed) refused (f, tree, accepted, spelled, answer) =
    absurd (no_file (cause_of S d fault refused) accepted)
whatever_the_term S d t u fault (Ok outcomes.Oversize) refused (f, tree, accepted, spelled, answer) =
    absurd (no_file (cause_of S d fault refused) accepted)
whatever_the_term S d t u fault (Ok outcomes.Spent) refused (f, tree, accepted, spelled, answer) =
    absurd (no_file (cause_of S d fault refused) accepted)
whatever_the_term S d t u fault (Err Memory) refused known = tt
whatever_the_term S d t u fault (Err Read) refused known = tt
whatever_the_term S d t u fault (Err _) refused (inl first) = inl first
whatever_the_term S d t u fault (Err _) refused (inr (f, accepted, later)) =
    absurd (no_file (cause_of S d fault refused) accepted)

-- they are those of one file
one_file : {S : Setting} {defs : List ℕ} {f g : FileTree} → AreAccepted S defs f → AreAccepted S defs g → f ≡ g
one_file (short, good) (also, other) =
    good.extended ∙ (ap with_library (same_file good.is_file other.is_file) ∙ sym other.extended)

-- ---- refusals of terms

data TermCause (strict : Bool) (f : FileTree) (text : List ℕ) : Fault → Type 0 where
  long_term : max_term < length text → TermCause strict f text TermTooLong
  large_term : {at : ℕ} → length text ≤ max_term → IsReading text (Err (TermOversize at)) →
      TermCause strict f text (TermOversize at)
  no_term : {at : ℕ} → length text ≤ max_term → IsReading text (Err (TermSyntax at)) →
      TermCause strict f text (TermSyntax at)
  undeclared_term : strict ≡ true → IsUndeclared f text → TermCause strict f text TermUndeclared

term_cause_of : (strict : Bool) (f : FileTree) (text : List ℕ) (fault : Fault) → IsRefused strict f text fault →
    TermCause strict f text fault
term_cause_of strict f text TermTooLong long = long_term long
term_cause_of strict f text (TermOversize at) (short, reading) = large_term short reading
term_cause_of strict f text (TermSyntax at) (short, reading) = no_term short reading
term_cause_of strict f text TermUndeclared (on, undeclared) = undeclared_term on undeclared
term_cause_of strict f text _ refused = absurd refused

-- a text that is too large is not one that spells no term
large_or_none : {text : List ℕ} (at place : ℕ) → IsReading text (Err (TermOversize at)) →
    IsReading text (Err (TermSyntax place)) → ⊥
large_or_none at place (inl deep) (flat, none) = flat deep
large_or_none at place (inr (t, spelled, large)) (flat, none) = none t spelled

-- nor one that spells a term that fits
large_or_term : {text : List ℕ} (at : ℕ) {t : Tree} → IsReading text (Err (TermOversize at)) → IsTerm text t → ⊥
large_or_term at (inl deep) (short, spelled) = spelled.not_deep deep
large_or_term at {t = t} (inr (u, spells, large)) (short, spelled) =
    let same : u ≡ t = spelled.only u spells in large (rw same spelled.fits)

-- nor does a text that spells no term spell one
none_or_term : {text : List ℕ} (at : ℕ) {t : Tree} → IsReading text (Err (TermSyntax at)) → IsTerm text t → ⊥
none_or_term at {t = t} (flat, none) (short, spelled) = none t spelled.spells

same_term_cause : {strict : Bool} {file : FileTree} {text : List ℕ} {f g : Fault} → TermCause strict file text f →
    TermCause strict file text g → AreOne f g
same_term_cause (long_term long) (long_term also) = (refl, refl)
same_term_cause (large_term short r) (large_term also q) = (refl, refl)
same_term_cause (no_term short r) (no_term also q) = (refl, refl)
same_term_cause (undeclared_term on u) (undeclared_term also v) = (refl, refl)
same_term_cause (long_term long) (large_term short r) = absurd (omega arith)
same_term_cause (long_term long) (no_term short r) = absurd (omega arith)
same_term_cause (long_term long) (undeclared_term on u) = let short = u.is_term.0 in absurd (omega arith)
same_term_cause (large_term short r) (long_term long) = absurd (omega arith)
same_term_cause (no_term short r) (long_term long) = absurd (omega arith)
same_term_cause (undeclared_term on u) (long_term long) = let short = u.is_term.0 in absurd (omega arith)
same_term_cause (large_term {at = at} short r) (no_term {at = place} also q) = absurd (large_or_none at place r q)
same_term_cause (no_term {at = place} also q) (large_term {at = at} short r) = absurd (large_or_none at place r q)
same_term_cause (large_term {at = at} short r) (undeclared_term on u) = absurd (large_or_term at r u.is_term)
same_term_cause (undeclared_term on u) (large_term {at = at} short r) = absurd (large_or_term at r u.is_term)
same_term_cause (no_term {at = at} short r) (undeclared_term on u) = absurd (none_or_term at r u.is_term)
same_term_cause (undeclared_term on u) (no_term {at = at} short r) = absurd (none_or_term at r u.is_term)

-- a text is that of one term
one_tree : {text : List ℕ} {t u : Tree} → IsTerm text t → IsTerm text u → t ≡ u
one_tree {t = t} (short, spelled) (also, other) = other.only t spelled.spells

no_accepted_term : {strict : Bool} {f : FileTree} {text : List ℕ} {fault : Fault} {t : Tree} →
    TermCause strict f text fault → IsAccepted strict f text t → ⊥
no_accepted_term (long_term long) ((short, spelled), declared) = omega arith
no_accepted_term (large_term {at = at} short r) (is_term, declared) = large_or_term at r is_term
no_accepted_term (no_term {at = at} short r) (is_term, declared) = none_or_term at r is_term
no_accepted_term {f = f} {t = t} (undeclared_term on u) (is_term, declared) =
    let known : term_is_declared (declarations_of f) t ≡ true = declared on in
    let missing : term_is_declared (declarations_of f) t ≡ false =
    subst (λ (v : Tree). term_is_declared (declarations_of f) v ≡ false) (one_tree u.is_term is_term) u.undeclared in
    let wrong : false ≡ true = sym missing ∙ known in cc

one_term : (strict : Bool) (f g : FileTree) {text : List ℕ} {t u : Tree} → IsAccepted strict f text t →
    IsAccepted strict g text u → t ≡ u
one_term strict f g (is_term, declared) (also, known) = one_tree is_term also

-- ---- the line

-- what is said of a file holds of another one of the same definitions
in_file : {S : Setting} {defs : List ℕ} (f g : FileTree) (X : FileTree → Type 0) → AreAccepted S defs f →
    AreAccepted S defs g → X f → X g
in_file f g X accepted also known = subst X (one_file accepted also) known

-- the first fault
one_fault : (defs term : List ℕ) (S : Setting) (f g : Fault) → IsFirstFault defs term S f → IsFirstFault defs term S g →
    AreOne f g
one_fault defs term S f g (inl x) (inl y) = same_cause (cause_of _ _ f x) (cause_of _ _ g y)
one_fault defs term S f g (inl x) (inr (file, accepted, y)) = absurd (no_file (cause_of _ _ f x) accepted)
one_fault defs term S f g (inr (file, accepted, x)) (inl y) = absurd (no_file (cause_of _ _ g y) accepted)
one_fault defs term S f g (inr (file, accepted, x)) (inr (other, also, y)) =
    let here = in_file other file (λ h. IsRefused S.options.strict h term g) also accepted y in
    same_term_cause (term_cause_of S.options.strict file term f x) (term_cause_of S.options.strict file term g here)

-- a refusal leaves no file and term
no_run : (defs term : List ℕ) (S : Setting) (fault : Fault) {f : FileTree} {t : Tree} → IsFirstFault defs term S fault →
    AreAccepted S defs f → IsAccepted S.options.strict f term t → ⊥
no_run defs term S fault (inl x) accepted spelled = no_file (cause_of _ _ fault x) accepted
no_run defs term S fault {f = f} (inr (file, also, x)) accepted spelled =
    let here = in_file file f (λ h. IsRefused S.options.strict h term fault) also accepted x in
    no_accepted_term (term_cause_of S.options.strict f term fault here) spelled

-- a status of a run
data IsRun : Status → Type 0 where
  rewritten : IsRun Rewritten
  failing : IsRun Failed
  too_large : IsRun Oversize
  spending : IsRun Spent

-- ended within the budget, and no derivation within it
ended_or_spent : {M : Meaning} (f : FileTree) (main : Bytes) {t : Tree} {budget n : ℕ} {o : Ending Tree} →
    Rewrites M f main t o n → n ≤ budget → ((p : Ending Tree) (m : ℕ) → Rewrites M f main t p m → budget < m) → ⊥
ended_or_spent f main {n = n} {o = o} derived within none = let more : _ < n = none o n derived in omega arith

-- the statuses and the lines of one file and one term
one_answer : (M : Meaning) (f : FileTree) (main : Bytes) (t : Tree) (budget : ℕ) (s r : Status) (line other : List ℕ) →
    IsRun s → IsRun r → IsAnswer M f main t budget s line → IsAnswer M f main t budget r other → AreAlike s r ×
    (line ≡ other)
one_answer M f main t budget _ _ line other rewritten rewritten (u, e, n, x, within, is) (v, g, m, y, also, be) =
    let same = (unique x y).outcome in (refl, cc)
one_answer M f main t budget _ _ line other rewritten failing (u, e, n, x, within, is) (m, y, also, be) = let same =
    (unique x y).outcome in (cc, cc)
one_answer M f main t budget _ _ line other rewritten too_large (u, e, n, x, within, is) (m, y, also, be) = let same =
    (unique x y).outcome in (cc, cc)
one_answer M f main t budget _ _ line other rewritten spending (u, e, n, x, within, is) (none, be) =
    absurd (ended_or_spent f main x within none)
one_answer M f main t budget _ _ line other failing rewritten (n, x, within, is) (v, g, m, y, also, be) = let same =
    (unique x y).outcome in (cc, cc)
one_answer M f main t budget _ _ line other failing failing (n, x, within, is) (m, y, also, be) = (refl, cc)
one_answer M f main t budget _ _ line other failing too_large (n, x, within, is) (m, y, also, be) = let same =
    (unique x y).outcome in (cc, cc)
one_answer M f main t budget _ _ line other failing spending (n, x, within, is) (none, be) =
    absurd (ended_or_spent f main x within none)
one_answer M f main t budget _ _ line other too_large rewritten (n, x, within, is) (v, g, m, y, also, be) = let same =
    (unique x y).outcome in (cc, cc)
one_answer M f main t budget _ _ line other too_large failing (n, x, within, is) (m, y, also, be) = let same =
    (unique x y).outcome in (cc, cc)
one_answer M f main t budget _ _ line other too_large too_large (n, x, within, is) (m, y, also, be) = (refl, cc)
one_answer M f main t budget _ _ line other too_large spending (n, x, within, is) (none, be) =
    absurd (ended_or_spent f main x within none)
one_answer M f main t budget _ _ line other spending rewritten (none, is) (v, g, m, y, also, be) =
    absurd (ended_or_spent f main y also none)
one_answer M f main t budget _ _ line other spending failing (none, is) (m, y, also, be) =
    absurd (ended_or_spent f main y also none)
one_answer M f main t budget _ _ line other spending too_large (none, is) (m, y, also, be) =
    absurd (ended_or_spent f main y also none)
one_answer M f main t budget _ _ line other spending spending (none, is) (nothing, be) = (refl, cc)

-- the status and the line of a run, or of a refusal
data Line (defs term : List ℕ) (S : Setting) : Status → List ℕ → Type 0 where
  of_run : {line : List ℕ} (status : Status) → IsRun status → (f : FileTree) (t : Tree) → AreAccepted S defs f →
      IsAccepted S.options.strict f term t → IsAnswer S.meaning f S.options.main.items t S.options.budget status line →
      Line defs term S status line
  of_fault : {line : List ℕ} (fault : Fault) → IsFirstFault defs term S fault → line ≡ refusal_line fault →
      Line defs term S (Refused fault) line

line_of_status : (defs term : List ℕ) (S : Setting) (status : Status) (line : List ℕ) →
    IsWritten defs term S status line → Line defs term S status line
line_of_status defs term S (Refused fault) line (first, is) = of_fault fault first is
line_of_status defs term S Rewritten line (f, t, file, spelled, answer) =
    of_run Rewritten rewritten f t file spelled answer
line_of_status defs term S Failed line (f, t, file, spelled, answer) = of_run Failed failing f t file spelled answer
line_of_status defs term S Oversize line (f, t, file, spelled, answer) =
    of_run Oversize too_large f t file spelled answer
line_of_status defs term S Spent line (f, t, file, spelled, answer) = of_run Spent spending f t file spelled answer

one_of_lines : {defs term : List ℕ} {S : Setting} {s r : Status} {line other : List ℕ} → Line defs term S s line →
    Line defs term S r other → AreAlike s r × (line ≡ other)
one_of_lines {S = S} {line = line} {other =
    other} (of_run s x f t file spelled answer) (of_run r y g u also spells reply) =
    let same_file : g ≡ f = one_file also file in
    let same_term : u ≡ t = one_term S.options.strict g f spells spelled in
    let P : FileTree → Tree → Type 0 = λ h v. IsAnswer S.meaning h S.options.main.items v S.options.budget r other in
    one_answer S.meaning f S.options.main.items t S.options.budget s r line other x y answer
    (subst (λ v. P f v) same_term (subst (λ h. P h u) same_file reply))
one_of_lines {defs = defs} {term = term} {S = S} (of_run s x f t file spelled answer) (of_fault fault first is) =
    absurd (no_run defs term S fault first file spelled)
one_of_lines {defs = defs} {term = term} {S = S} (of_fault fault first is) (of_run s x f t file spelled answer) =
    absurd (no_run defs term S fault first file spelled)
one_of_lines {defs = defs} {term = term} {S = S} (of_fault f x is) (of_fault g y be) =
    let one : AreOne f g = one_fault defs term S f g x y in
    (one.1, is ∙ (ap (λ w. line_of (codes "#refused " ++ w)) one.0 ∙ sym be))

-- definitions and a term's text have one status and one line in a setting
pub one_line : (defs term : List ℕ) (S : Setting) (s r : Status) (line other : List ℕ) →
    IsWritten defs term S s line → IsWritten defs term S r other → AreAlike s r × (line ≡ other)
one_line defs term S s r line other x y =
    one_of_lines (line_of_status defs term S s line x) (line_of_status defs term S r other y)
