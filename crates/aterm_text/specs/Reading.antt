-- The headline does not rest on this file.
-- Reading one byte at a time, with a stack of open brackets: for the contracts of the reader's private functions alone.
-- What `read_term` returns is said by the grammar.
use Rattle.std.specs.Prelude.{◌≡◌, ℕ, ◌+◌, ◌-◌, ◌*◌, ◌⊎◌, Bool, true, false, ◌==◌, nat_le, if◌then◌else◌, List, [], ◌∷◌, ◌++◌, length, drop, Option, Some, None, Result, Ok, Err}
use Rattle.term_model.specs.Bytes.{is_between, is_blank, is_digit, signed, unescaped, is_octal}
use Rattle.term_model.specs.declared.term.Head.{Head}
use Rattle.term_model.specs.declared.term.Head.TheVariants as heads
use Rattle.term_model.specs.declared.fault.Fault.{Fault}
use Rattle.term_model.specs.declared.fault.Fault.TheVariants as faults
use Rattle.term_model.specs.Symbol.{Symbol, Plain, Quoted, Tuple, begins_name, continues_name}
use Rattle.term_model.specs.Limits.{max_depth}
use Rattle.term_model.specs.IntegerBounds.{max_magnitude}
use Rattle.term_model.specs.Term.{Tree, node, Trees, end, trees_of, Fits}
use Rattle.aterm_text.specs.Depth.{Opening, Applied, Elements, Annotations, Open, begins_term}

pub data State : Type 0 where
  Expect : List Open → State
  Fresh : Open → List Open → State
  InName : List ℕ → List Open → State
  InSign : List Open → State
  InDigits : Bool → ℕ → List Open → State
  InText : List ℕ → List Open → State
  InEscape : List ℕ → List Open → State
  InOctal : List ℕ → ℕ → List Open → State
  InOctals : List ℕ → ℕ → List Open → State
  Named : Symbol → List Open → State
  Whole : Head → Trees → List Open → State
  Done : Tree → List Open → State
  Deep : State
  Wrong : State

abbrev pub opened : Opening → Open
opened k = record { opening = k; earlier = [] }

abbrev pub with : Open → Tree → Open
with o t = record { opening = o.opening; earlier = o.earlier ++ t ∷ [] }

abbrev pub closer : Opening → ℕ
closer (Applied _) = 41
closer Elements = 93
closer (Annotations _ _) = 125

abbrev pub closed : Opening → List Tree → List Open → State
closed (Applied y) ts s = Whole (heads.App y) (trees_of ts) s
closed Elements ts s = Whole heads.List (trees_of ts) s
closed (Annotations h ps) ts s = Done (node h ps (trees_of ts)) s

abbrev pub digits : Bool → ℕ → ℕ → List Open → State
digits sign v c s = if nat_le (10 * v + (c - 48)) (max_magnitude sign) then InDigits sign (10 * v + (c - 48)) s
    else Wrong

-- the first byte of a term
abbrev pub first : List Open → ℕ → State
first s c =
    if begins_name c then InName (c ∷ []) s
    else if is_digit c then digits false 0 c s
    else if c == 45 then InSign s
    else if c == 34 then InText [] s
    else if c == 40 then Fresh (opened (Applied Tuple)) s
    else if c == 91 then Fresh (opened Elements) s
    else Wrong

abbrev pub begin : List Open → ℕ → State
begin s c = if begins_term c then (if length s == max_depth then Deep else first s c) else Wrong

-- a byte after a whole term
abbrev pub next : Tree → List Open → ℕ → State
next t [] c = Wrong
next t (o ∷ s) c = if c == 44 then Expect (with o t ∷ s)
    else if c == closer o.opening then closed o.opening (with o t).earlier s else Wrong

abbrev pub whole : Head → Trees → List Open → ℕ → State
whole h ps s c =
    if is_blank c then Whole h ps s
    else if c == 123 then Fresh (opened (Annotations h ps)) s
    else next (node h ps end) s c

abbrev pub named : Symbol → List Open → ℕ → State
named y s c =
    if is_blank c then Named y s
    else if c == 40 then Fresh (opened (Applied y)) s
    else whole (heads.App y) end s c

-- a byte within quoted text, after these bytes
abbrev pub text : List ℕ → List Open → ℕ → State
text b s c =
    if c == 34 then Named (Quoted b) s
    else if c == 92 then InEscape b s
    else if c == 10 then Wrong
    else InText (b ++ c ∷ []) s

-- a byte after `\`
abbrev pub escape : Option ℕ → List ℕ → List Open → ℕ → State
escape (Some d) b s c = InText (b ++ d ∷ []) s
escape None b s c = if is_between 48 51 c then InOctal b (c - 48) s else Wrong

abbrev pub step : State → ℕ → State
step (Expect s) c = if is_blank c then Expect s else begin s c
step (Fresh o s) c = if is_blank c then Fresh o s else if c == closer o.opening then closed o.opening [] s
    else begin (o ∷ s) c
step (InName n s) c = if continues_name c then InName (n ++ c ∷ []) s else named (Plain n) s c
step (InSign s) c = if is_digit c then digits true 0 c s else Wrong
step (InDigits sign v s) c = if is_digit c then digits sign v c s else whole (heads.Int (signed sign v)) end s c
step (InText b s) c = text b s c
step (InEscape b s) c = escape (unescaped c) b s c
step (InOctal b v s) c = if is_octal c then InOctals b (8 * v + (c - 48)) s else Wrong
step (InOctals b v s) c = if is_octal c then InText (b ++ (8 * v + (c - 48)) ∷ []) s else Wrong
step (Named y s) c = named y s c
step (Whole h ps s) c = whole h ps s c
step (Done t s) c = if is_blank c then Done t s else next t s c
step Deep c = Deep
step Wrong c = Wrong

-- the term that is whole here, with the brackets round it
abbrev pub finished : State → Option (Tree × List Open)
finished (InName n s) = Some (node (heads.App (Plain n)) end end, s)
finished (InDigits sign v s) = Some (node (heads.Int (signed sign v)) end end, s)
finished (Named y s) = Some (node (heads.App y) end end, s)
finished (Whole h ps s) = Some (node h ps end, s)
finished (Done t s) = Some (t, s)
finished _ = None

unfoldable pub after : State → List ℕ → State
after a [] = a
after a (c ∷ cs) = after (step a c) cs

-- ---- what a text is

-- it spells a term, whether that fits or not, or it is too deep, or neither
pub data Outcome : Type 0 where
  Read : Tree → Outcome
  TooDeepText : Outcome
  NoTerm : Outcome

-- a term that is whole at the end of the text, outside all brackets
abbrev pub ended : Option (Tree × List Open) → Outcome
ended None = NoTerm
ended (Some (t, [])) = Read t
ended (Some (t, _ ∷ _)) = NoTerm

-- where the text ends in this state
abbrev pub out : State → Outcome
out Deep = TooDeepText
out a = ended (finished a)

-- where the reader is in this state at this index of the text
unfoldable pub outcome_from : List ℕ → State → ℕ → Outcome
outcome_from text a at = out (after a (drop at text))

-- of the whole text
abbrev pub outcome_of : List ℕ → Outcome
outcome_of text = outcome_from text (Expect []) 0

-- the fault is returned for this outcome, unless memory ran out
abbrev pub Refuses : Fault → Outcome → Type 0
Refuses faults.Memory o = Unit {0}
Refuses (faults.TermOversize _) o = ((t : Tree) × (o ≡ Read t) × (¬ (Fits t))) ⊎ (o ≡ TooDeepText)
Refuses (faults.TermSyntax _) o = o ≡ NoTerm
Refuses _ o = ⊥

-- what is returned for this outcome, unless memory ran out
abbrev pub Answers : Result Tree Fault → Outcome → Type 0
Answers (Ok t) o = (o ≡ Read t) × Fits t
Answers (Err e) o = Refuses e o
