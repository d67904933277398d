-- The headline does not rest on this file.
-- What the words of a command line say: options, their values, and paths.
use Rattle.std.specs.Prelude.{◌==◌, ◌||◌, ◌&&◌, ◌++◌, ◌∷◌, ℕ, Bool, not, List, [], codes, map, slice_index, if◌then◌else◌}
use Rattle.std.specs.Prelude.{Option, None, Some, option_map}
use Rattle.std.specs.Borrow.{Bor}
use Rattle.std.specs.Option.{option_and_then}
use Rattle.std.specs.List.{list_any, before_first, after_first}
use Rattle.std.specs.Str.{bytes_eq}
use Rattle.strc_command.specs.declared.items.Item.{Item}
use Rattle.strc_command.specs.declared.items.Item.TheVariants as item
use Rattle.strc_command.specs.declared.items.Place.{Place}
use Rattle.strc_command.specs.declared.items.Place.TheVariants as at
use Rattle.strc_command.specs.declared.items.Reading.{Reading}
use Rattle.strc_command.specs.declared.items.Value.{Value}
use Rattle.strc_command.specs.declared.items.Items.{Items}

-- the options without a value
abbrev pub flags : List (List ℕ)
flags = codes "--no-limit" ∷ codes "--strict" ∷ codes "--stats" ∷ codes "--explain" ∷ codes "--counts"
    ∷ codes "--counts-all" ∷ codes "--profile" ∷ codes "--failures" ∷ codes "--check" ∷ codes "--raw" ∷ codes "--pretty"
    ∷ []

-- those with one
abbrev pub valued : List (List ℕ)
valued = codes "--rules" ∷ codes "--main" ∷ codes "--trace" ∷ codes "--with" ∷ []

-- those of them that take any word as their value
abbrev pub taking_any : List (List ℕ)
taking_any = codes "--rules" ∷ codes "--main" ∷ []

-- an option without a value, one with its value, or a path
pub data Element : Type 0 where
  flag : List ℕ → Element
  value : List ℕ → List ℕ → Element
  path : List ℕ → Element

-- what words say: which options without a value, which with one, and which paths, each in their order
pub record Elements : Type 0 where
  pub flags : List (List ℕ)
  pub values : List (List ℕ × List ℕ)
  pub paths : List (List ℕ)

abbrev pub no_elements : Elements
no_elements = record { flags = []; values = []; paths = [] }

-- what one word says, if anything
abbrev pub alone : Option Element → Elements
alone None = no_elements
alone (Some (flag name)) = record { flags = name ∷ []; values = []; paths = [] }
alone (Some (value name text)) = record { flags = []; values = (name, text) ∷ []; paths = [] }
alone (Some (path text)) = record { flags = []; values = []; paths = text ∷ [] }

-- what words say, and then more words
abbrev pub followed_by : Elements → Elements → Elements
followed_by words more = record {
  flags = words.flags ++ more.flags;
  values = words.values ++ more.values;
  paths = words.paths ++ more.paths;
}

-- where a word stands: among options and paths, after an option that takes a value, or after `--`
pub data Position : Type 0 where
  anywhere : Position
  after : List ℕ → Position
  among_paths : Position

abbrev pub is_among : List (List ℕ) → List ℕ → Bool
is_among words word = list_any (λ other. bytes_eq other word) words

-- the word begins with a hyphen, and is none
abbrev pub is_hyphened : List ℕ → Bool
is_hyphened word = (slice_index word 0 == 45) && not (bytes_eq word (codes "-"))

-- the word next to this option is its value
abbrev pub is_value : List ℕ → List ℕ → Bool
is_value name word = is_among taking_any name || not (is_hyphened word)

-- what stands before and after the first `=`
abbrev pub name_in : List ℕ → List ℕ
name_in word = before_first (λ byte. byte == 61) word

abbrev pub value_in : List ℕ → List ℕ
value_in word = after_first (λ byte. byte == 61) word

-- what an option and its value say that are one word
abbrev pub reading_in_one : List ℕ → Option (Option Element × Position)
reading_in_one word =
    if is_among valued (name_in word) then Some (Some (value (name_in word) (value_in word)), anywhere) else None

-- what a word says that stands among options and paths
abbrev pub reading_anywhere : List ℕ → Option (Option Element × Position)
reading_anywhere word =
    if bytes_eq word (codes "--") then Some (None, among_paths)
    else (if is_among flags word then Some (Some (flag word), anywhere)
    else (if is_among valued word then Some (None, after word)
    else (if not (is_hyphened word) then Some (Some (path word), anywhere)
    else reading_in_one word)))

-- what a word says, and where the next one stands; nothing if the word is wrong there
abbrev pub reading_at : Position → List ℕ → Option (Option Element × Position)
reading_at anywhere word = reading_anywhere word
reading_at (after name) word = if is_value name word then Some (Some (value name word), anywhere) else None
reading_at among_paths word = Some (Some (path word), among_paths)

-- what words say of which the first stands there; nothing if one is wrong, or if a value is missing
abbrev pub elements_from : List (List ℕ) → Position → Option Elements
elements_from [] anywhere = Some no_elements
elements_from [] (after name) = None
elements_from [] among_paths = Some no_elements
elements_from (word ∷ words) position =
    option_and_then (λ first. option_map (followed_by (alone first.0)) (elements_from words first.1))
    (reading_at position word)

abbrev pub elements_of : List (List ℕ) → Option Elements
elements_of words = elements_from words anywhere

-- the same of what the program holds
abbrev pub element_of : Item → Element
element_of (item.Flag name) = flag name.now
element_of (item.Value v) = value v.option.now v.text.now
element_of (item.Path text) = path text.now

abbrev pub position_of : Place → Position
position_of at.Anywhere = anywhere
position_of (at.AfterOption name) = after name.now
position_of at.AmongPaths = among_paths

abbrev pub pair_of : Reading → Option Element × Position
pair_of r = (option_map element_of r.item, position_of r.next)

abbrev pub texts_in : List (Bor (List ℕ)) → List (List ℕ)
texts_in texts = map (λ text. text.now) texts

abbrev pub values_in : List Value → List (List ℕ × List ℕ)
values_in values = map (λ v. (v.option.now, v.text.now)) values

abbrev pub elements_in : Items → Elements
elements_in found = record {
  flags = texts_in found.flags.items;
  values = values_in found.values.items;
  paths = texts_in found.paths.items;
}
