-- The headline does not rest on this file.
-- What the words of a command line ask for.
use Rattle.std.specs.Prelude.{◌≡◌, ◌==◌, ◌||◌, ◌&&◌, ◌∷◌, ℕ, Bool, false, not, nat_le, nat_lt, List, [], codes, length, if◌then◌else◌}
use Rattle.std.specs.Prelude.{Option, None, Some, option_map}
use Rattle.std.specs.Option.{option_and_then}
use Rattle.std.specs.List.{list_all}
use Rattle.std.specs.Char.{is_digit}
use Rattle.std.specs.Str.{bytes_eq}
use Rattle.std.specs.Str.Parse.{digits_value, starts_with_minus, without_leading_sign}
use Rattle.term_model.specs.Limits.{default_budget, max_budget}
use Rattle.str_pipeline.specs.declared.status.Options.{Options}
use Rattle.strc_command.specs.Elements.{Elements, elements_of, is_among, texts_in}
use Rattle.strc_command.specs.declared.request.Request.{Request}
use Rattle.strc_command.specs.declared.request.Form.{Form}
use Rattle.strc_command.specs.declared.request.Form.TheVariants.{Line, Raw, Pretty}
use Rattle.strc_command.specs.declared.request.OutputOptions.{OutputOptions}
use Rattle.strc_command.specs.declared.request.Texts.{Texts}
use Rattle.strc_command.specs.declared.request.Values.{Values}
use Rattle.strc_command.specs.declared.request.Texts.TheVariants.{Joined, Definitions, Both}

-- the most rules that `--rules` takes
abbrev pub max_rules : ℕ
max_rules = 1_000_000_000

-- what words ask for
pub record Asked : Type 0 where
  pub budget : ℕ
  pub main : List ℕ
  pub is_strict : Bool
  pub checks : Bool
  pub output : OutputOptions
  pub traces : List (List ℕ)
  pub libraries : List (List ℕ)
  pub paths : List (List ℕ)

-- what no words ask for
abbrev pub plain_output : OutputOptions
plain_output = record {
  form = Line;
  has_stats = false;
  explains = false;
  has_counts = false;
  has_all_counts = false;
  has_profile = false;
  has_traces = false;
  only_failures = false;
}

abbrev pub plain_asked : Asked
plain_asked = record {
  budget = default_budget;
  main = codes "main";
  is_strict = false;
  checks = false;
  output = plain_output;
  traces = [];
  libraries = [];
  paths = [];
}

-- the options of a run are those that are asked for
pub record HasOptions (asked : Asked) (options : Options) : Type 0 where
  pub main : options.main.items ≡ asked.main
  pub strict : options.strict ≡ asked.is_strict
  pub budget : options.budget ≡ asked.budget

abbrev pub is_given : List ℕ → Elements → Bool
is_given name elements = is_among elements.flags name

-- the values of an option, in their order
abbrev pub texts_of : List ℕ → List (List ℕ × List ℕ) → List (List ℕ)
texts_of name [] = []
texts_of name (v ∷ rest) = if bytes_eq v.0 name then v.1 ∷ texts_of name rest else texts_of name rest

abbrev pub texts_given : List ℕ → Elements → List (List ℕ)
texts_given name elements = texts_of name elements.values

abbrev pub has_repeats : List (List ℕ) → Bool
has_repeats [] = false
has_repeats (word ∷ rest) = is_among rest word || has_repeats rest

-- no option but `--trace` and `--with` stands twice, and there are at most two paths
abbrev pub are_few : Elements → Bool
are_few elements = not (has_repeats elements.flags)
    && (nat_le (length (texts_given (codes "--rules") elements)) 1
    && (nat_le (length (texts_given (codes "--main") elements)) 1 && nat_le (length elements.paths) 2))

-- the number that digits write, after a sign if there is one; nothing if it is negative or more than `--rules` takes
abbrev pub number_in : List ℕ → Option ℕ
number_in text =
    let digits = without_leading_sign text in
    let number = digits_value 10 digits in
    if (nat_lt 0 (length digits) && list_all (λ c. is_digit c 10) digits)
    && (nat_le number max_rules && (not (starts_with_minus text) || (number == 0))) then Some number
    else None

-- the budget by the values of `--rules`
abbrev pub budget_in : List (List ℕ) → Option ℕ
budget_in [] = Some default_budget
budget_in (text ∷ rest) = number_in text

-- and where `--no-limit` may be given
abbrev pub budget_of : Elements → Option ℕ
budget_of elements = option_map (λ budget. if is_given (codes "--no-limit") elements then max_budget else budget)
    (budget_in (texts_given (codes "--rules") elements))

abbrev pub first_or : List (List ℕ) → List ℕ → List ℕ
first_or [] otherwise = otherwise
first_or (text ∷ rest) otherwise = text

abbrev pub is_none_of : List (List ℕ) → Bool
is_none_of texts = length texts == 0

-- a file of definitions is named twice; `prelude` names none where DEFS stands
abbrev pub is_repeated : List (List ℕ) → List (List ℕ) → Bool
is_repeated libraries [] = has_repeats libraries
is_repeated libraries (definitions ∷ term) =
    has_repeats libraries || (is_among libraries definitions && not (bytes_eq definitions (codes "prelude")))

-- the limits of the run exclude each other
abbrev pub has_two_limits : Elements → Bool
has_two_limits elements =
    is_given (codes "--no-limit") elements && not (is_none_of (texts_given (codes "--rules") elements))

-- calls are reported
abbrev pub has_traces : Elements → Bool
has_traces elements = not (is_none_of (texts_given (codes "--trace") elements))

-- tables of what a run did are asked for
abbrev pub has_tables : Elements → Bool
has_tables elements = is_given (codes "--counts") elements
    || (is_given (codes "--counts-all") elements || (is_given (codes "--profile") elements || has_traces elements))

-- failures are asked for of calls that are reported alone
abbrev pub is_failures_alone : Elements → Bool
is_failures_alone elements = is_given (codes "--failures") elements && not (has_traces elements)

-- a check prints no result, runs nothing, and takes no term
abbrev pub is_check_misused : Elements → Bool
is_check_misused elements = is_given (codes "--check") elements
    && (has_tables elements || is_given (codes "--raw") elements || is_given (codes "--pretty") elements
    || nat_lt 1 (length elements.paths))

-- options exclude each other or the paths, or a file is named twice
abbrev pub is_misused : Elements → Bool
is_misused elements =
    let libraries = texts_given (codes "--with") elements in
    has_two_limits elements
    || is_failures_alone elements
    || (is_given (codes "--raw") elements && is_given (codes "--pretty") elements)
    || is_check_misused elements
    || is_repeated libraries elements.paths

abbrev pub form_of : Bool → Bool → Form
form_of is_raw is_pretty = if is_raw then Raw else (if is_pretty then Pretty else Line)

abbrev pub output_of : Elements → OutputOptions
output_of elements = record {
  form = form_of (is_given (codes "--raw") elements) (is_given (codes "--pretty") elements);
  has_stats = is_given (codes "--stats") elements;
  explains = is_given (codes "--explain") elements;
  has_counts = is_given (codes "--counts") elements;
  has_all_counts = is_given (codes "--counts-all") elements;
  has_profile = is_given (codes "--profile") elements;
  has_traces = has_traces elements;
  only_failures = is_given (codes "--failures") elements;
}

-- what options, their values and paths ask for, with this budget
abbrev pub asked_within : Elements → ℕ → Asked
asked_within elements budget = record {
  budget = budget;
  main = first_or (texts_given (codes "--main") elements) (codes "main");
  is_strict = is_given (codes "--strict") elements;
  checks = is_given (codes "--check") elements;
  output = output_of elements;
  traces = texts_given (codes "--trace") elements;
  libraries = texts_given (codes "--with") elements;
  paths = elements.paths;
}

abbrev pub asked_by : Elements → Option Asked
asked_by elements =
    if are_few elements && not (is_misused elements) then option_map (asked_within elements) (budget_of elements)
    else None

-- what the words ask for that come after the name of the program; nothing if they ask for no run
abbrev pub asked_of : List (List ℕ) → Option Asked
asked_of words = option_and_then asked_by (elements_of words)

-- the same of a request
abbrev pub paths_in : Texts → List (List ℕ)
paths_in Joined = []
paths_in (Definitions path) = path.now ∷ []
paths_in (Both path term) = path.now ∷ term.now ∷ []

abbrev pub asked_in : Request → Asked
asked_in request = record {
  budget = request.rules;
  main = request.main.now;
  is_strict = request.is_strict;
  checks = request.checks;
  output = request.output;
  traces = texts_in request.traces.items;
  libraries = texts_in request.libraries.items;
  paths = paths_in request.texts;
}

-- the values are those of the options
pub record HasValues (elements : Elements) (values : Values) : Type 0 where
  pub rules : texts_in values.rules.items ≡ texts_given (codes "--rules") elements
  pub main : texts_in values.main.items ≡ texts_given (codes "--main") elements
  pub traces : texts_in values.traces.items ≡ texts_given (codes "--trace") elements
  pub libraries : texts_in values.libraries.items ≡ texts_given (codes "--with") elements
