-- Look-ups further out, what the layers of the code stand for, and the variables of brought names.
use Rattle.std.proofs.Common.{◌≡◌, ℕ, zero, suc, ◌+◌, Some, None, List, [], ◌∷◌, ◌++◌, map, refl, sym, ◌∙◌, ap, ap₂, arith, add-one}
use Rattle.std.specs.Borrow.{Bor}
use Rattle.core_lang.specs.declared.coordinate.Coordinate.{Coordinate}
use Rattle.core_lang.specs.Named.{written, brought}
use Rattle.str_desugar.specs.Brought.{first_names, patterns_from, elements_from, elements_and_rest_from}
use Rattle.str_desugar.specs.declared.scopes.Scopes.{Scopes}
use Rattle.str_desugar.specs.declared.scopes.Scopes.TheViews as code
use Rattle.str_desugar.specs.declared.scopes.Scopes.TheOpen as forms
use Rattle.str_desugar.specs.declared.scopes.Scopes.TheFolds.{fold-roll-Scopes}
use Rattle.term_model.specs.Symbol.{Symbol}
use Rattle.core_lang.specs.Views as views
use Rattle.core_lang.specs.Program.{Pattern, variable, applied, list, more_patterns, more_elements, the_rest}
use Rattle.str_desugar.specs.Layers.{brought_from, layers_of, scopes_step}
use Rattle.str_desugar.specs.Frames.{Frames, variable_at, of_names, pattern_at, patterns_at, elements_at}

-- the same coordinate, seen from n layers further in
abbrev pub further_out : ℕ → Coordinate → Coordinate
further_out n y = record { layers_up = n + y.layers_up; slot = y.slot }

-- what each layer of the code stands for
pub reads_brought : (k : ℕ) (up : Bor Scopes) →
    layers_of (code.Brought k up) ≡ of_names [] (first_names k) (layers_of up.now)
reads_brought k up = ap layers_of (sym (code.rolls-Brought k up)) ∙
    fold-roll-Scopes Frames scopes_step (forms.Brought k up)

pub reads_variables : (xs : Bor (List (List ℕ))) (up : Bor Scopes) →
    layers_of (code.Variables xs up) ≡ of_names [] (map written xs.now) (layers_of up.now)
reads_variables xs up = ap layers_of (sym (code.rolls-Variables xs up)) ∙
    fold-roll-Scopes Frames scopes_step (forms.Variables xs up)

pub reads_parameters : (fs xs : Bor (List (List ℕ))) (up : Bor Scopes) →
    layers_of (code.Parameters fs xs up) ≡ of_names (map written fs.now) (map written xs.now) (layers_of up.now)
reads_parameters fs xs up = ap layers_of (sym (code.rolls-Parameters fs xs up)) ∙
    fold-roll-Scopes Frames scopes_step (forms.Parameters fs xs up)

-- the variables of brought names that were made one by one
brought_more : (F : Frames) (i k : ℕ) →
    brought_from F i (suc k) ≡ brought_from F i k ++ variable (variable_at F (brought (i + k))) ∷ []
brought_more F i zero = ap (λ n. variable (variable_at F (brought n)) ∷ []) (omega arith)
brought_more F i (suc k) =
    ap (λ l. variable (variable_at F (brought i)) ∷ l)
    (brought_more F (suc i) k ∙
    ap (λ n. brought_from F (suc i) k ++ variable (variable_at F (brought n)) ∷ []) (omega arith))

pub record Brings (F : Frames) (from now index : ℕ) (made : List (Pattern Coordinate)) : Type 0 where
  pub made_so_far : made ≡ brought_from F from now
  pub index_is : index ≡ from + now

pub brings_more : (F : Frames) (from now index next : ℕ) (made : List (Pattern Coordinate)) (q : Pattern Coordinate) →
    Brings F from now index made →
    q ≡ variable (variable_at F (brought index)) → next ≡ suc index → Brings F from (now + 1) next (made ++ q ∷ [])
brings_more F from now index next made q so_far is after =
    let at = so_far.index_is in
    record {
      made_so_far = ap₂ (λ l p. l ++ p ∷ []) so_far.made_so_far (is ∙
          ap (λ n. variable (variable_at F (brought n))) at) ∙ sym (rw add-one (brought_more F from now));
      index_is = omega arith;
    }

-- as parts of a node, as elements, and as elements with a rest
brought_parts : (F : Frames) (i k : ℕ) → views.patterns_in (brought_from F i k) ≡ patterns_at F (patterns_from i k)
brought_parts F i zero = refl
brought_parts F i (suc k) = ap (λ ps. more_patterns (variable (variable_at F (brought i))) ps)
    (brought_parts F (suc i) k)

brought_elements : (F : Frames) (i k : ℕ) →
    views.elements_in (brought_from F i k) None ≡ elements_at F (elements_from i k)
brought_elements F i zero = refl
brought_elements F i (suc k) = ap (λ ps. more_elements (variable (variable_at F (brought i))) ps)
    (brought_elements F (suc i) k)

brought_rest : (F : Frames) (i k : ℕ) →
    views.elements_in (brought_from F i k) (Some (variable (variable_at F (brought (i + k))))) ≡
    elements_at F (elements_and_rest_from i k)
brought_rest F i zero = ap (λ n. the_rest (variable (variable_at F (brought n)))) (omega arith)
brought_rest F i (suc k) =
    ap (λ ps. more_elements (variable (variable_at F (brought i))) ps)
    (ap (λ n. views.elements_in (brought_from F (suc i) k) (Some (variable (variable_at F (brought n)))))
    (omega arith) ∙ brought_rest F (suc i) k)

pub applied_made : (F : Frames) (f : Symbol) (i k : ℕ) (made : List (Pattern Coordinate)) → made ≡ brought_from F i k →
    applied f (views.patterns_in made) ≡ pattern_at F (applied f (patterns_from i k))
applied_made F f i k made e = ap (λ ps. applied f ps) (ap views.patterns_in e ∙ brought_parts F i k)

pub list_made : (F : Frames) (i k : ℕ) (made : List (Pattern Coordinate)) → made ≡ brought_from F i k →
    list (views.elements_in made None) ≡ pattern_at F (list (elements_from i k))
list_made F i k made e = ap (λ ps. list ps) (ap (λ l. views.elements_in l None) e ∙ brought_elements F i k)

pub rest_made : (F : Frames) (i k n : ℕ) (made : List (Pattern Coordinate)) (q : Pattern Coordinate) →
    made ≡ brought_from F i k → n ≡ i + k → q ≡ variable (variable_at F (brought n)) →
    list (views.elements_in made (Some q)) ≡ pattern_at F (list (elements_and_rest_from i k))
rest_made F i k n made q e h is =
    ap (λ ps. list ps) (ap₂ (λ l r. views.elements_in l (Some r)) e (is ∙
    ap (λ m. variable (variable_at F (brought m))) h) ∙ brought_rest F i k)
