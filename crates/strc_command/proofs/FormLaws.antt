-- Lines in the forms in which they are written.
use Rattle.std.proofs.Common.{◌≡◌, ◌++◌, ℕ, List, [], Option, None, Some, Result, Ok, Err, refl, sym, subst, IfOk}
use Rattle.term_model.specs.declared.fault.Fault.{Fault}
use Rattle.str_pipeline.specs.Device.{Gains, GainsPrefix}
use Rattle.str_pipeline.specs.Setting.{Setting}
use Rattle.str_pipeline.specs.Joined.{OfJoined, OfJoinedAfter}
use Rattle.str_pipeline.specs.Transformation.{OfTwo}
use Rattle.str_pipeline.specs.Written.{HasWritten, HasBegun}
use Rattle.str_pipeline.specs.declared.status.Status.{Status}
use Rattle.strc_command.specs.declared.request.Form.{Form}
use Rattle.strc_command.specs.declared.request.Form.TheVariants.{Line}
use Rattle.strc_command.specs.Forms.{IsInForm, GainsForm, BeginsForm, HasWrittenIn, HasBegunIn}

same_text : (form : Form) (status : Status) (line text : List ℕ) → form ≡ Line → IsInForm form status line text →
    text ≡ line
same_text form status line text is formed = subst (λ f. IsInForm f status line text) is formed

itself : (form : Form) (status : Status) (line : List ℕ) → form ≡ Line → IsInForm form status line line
itself form status line is = subst (λ f. IsInForm f status line line) (sym is) refl

-- ---- the line itself

line_in_form : (form : Form) (d t : List ℕ) (S : Setting) (status : Status) (old new : Option (List ℕ)) → form ≡ Line →
    HasWritten d t S status old new → HasWrittenIn form d t S status old new
line_in_form form d t S status old new is w = record {
  line = w.line;
  text = w.line;
  is_written = w.is_written;
  in_form = itself form status w.line is;
  gained = w.gained;
}

beginning_in_form : (form : Form) (d t : List ℕ) (S : Setting) (old new : Option (List ℕ)) → form ≡ Line →
    HasBegun d t S old new → HasBegunIn form d t S old new
beginning_in_form form d t S old new is w = record {
  status = w.status;
  line = w.line;
  text = w.line;
  is_written = w.is_written;
  in_form = itself form w.status w.line is;
  gained = w.gained;
}

form_is_line : (form : Form) (d t : List ℕ) (S : Setting) (status : Status) (old new : Option (List ℕ)) → form ≡ Line →
    HasWrittenIn form d t S status old new → HasWritten d t S status old new
form_is_line form d t S status old new is w = record {
  line = w.line;
  gained = subst (λ text. Gains old new text) (same_text form status w.line w.text is w.in_form) w.gained;
  is_written = w.is_written;
}

form_begins_line : (form : Form) (d t : List ℕ) (S : Setting) (old new : Option (List ℕ)) → form ≡ Line →
    HasBegunIn form d t S old new → HasBegun d t S old new
form_begins_line form d t S old new is w = record {
  status = w.status;
  line = w.line;
  gained = subst (λ text. GainsPrefix old new text) (same_text form w.status w.line w.text is w.in_form) w.gained;
  is_written = w.is_written;
}

-- ---- a line that was collected, and its form

held_line : (d t : List ℕ) (S : Setting) (status : Status) (held : List ℕ) (before after : Option (List ℕ)) →
    before ≡ Some [] → after ≡ Some held →
    HasWritten d t S status before after → HasWritten d t S status (Some []) (Some held)
held_line d t S status held before after empty whole w =
    subst (λ new. HasWritten d t S status (Some []) new)
    whole (subst (λ old. HasWritten d t S status old after) empty w)

collected : (held line : List ℕ) → Gains (Some []) (Some held) line → held ≡ line
collected held line gained = cc

form_written : (form : Form) (d t : List ℕ) (S : Setting) (status : Status) (held : List ℕ)
    (old new : Option (List ℕ)) →
    GainsForm form status held old new → HasWritten d t S status (Some []) (Some held) →
    HasWrittenIn form d t S status old new
form_written form d t S status held old new g w = record {
  line = w.line;
  text = g.text;
  is_written = w.is_written;
  in_form = subst (λ line. IsInForm form status line g.text) (collected held w.line w.gained) g.in_form;
  gained = g.gained;
}

form_begun : (form : Form) (d t : List ℕ) (S : Setting) (status : Status) (held : List ℕ) (old new : Option (List ℕ)) →
    BeginsForm form status held old new → HasWritten d t S status (Some []) (Some held) → HasBegunIn form d t S old new
form_begun form d t S status held old new g w = record {
  status = status;
  line = w.line;
  text = g.text;
  is_written = w.is_written;
  in_form = subst (λ line. IsInForm form status line g.text) (collected held w.line w.gained) g.in_form;
  gained = g.gained;
}

-- ---- texts that readers show: both from one, and one from each

over_splits : (coming : Option (List ℕ)) (P Q : List ℕ → List ℕ → Type 0) → ((d t : List ℕ) → P d t → Q d t) →
    OfJoined coming P → OfJoined coming Q
over_splits None P Q f given = tt
over_splits (Some told) P Q f given = λ d t split. f d t (given d t split)

over_splits_after : (libraries coming : Option (List ℕ)) (P Q : List ℕ → List ℕ → Type 0) →
    ((d t : List ℕ) → P d t → Q d t) → OfJoinedAfter libraries coming P → OfJoinedAfter libraries coming Q
over_splits_after None coming P Q f given = tt
over_splits_after (Some l) coming P Q f given =
    over_splits coming (λ d t. P (l ++ d) t) (λ d t. Q (l ++ d) t) (λ d t. f (l ++ d) t) given

over_pairs : (defs term : Option (List ℕ)) (P Q : List ℕ → List ℕ → Type 0) → ((d t : List ℕ) → P d t → Q d t) →
    OfTwo defs term P → OfTwo defs term Q
over_pairs None term P Q f given = tt
over_pairs (Some d) None P Q f given = tt
over_pairs (Some d) (Some t) P Q f given = f d t given

pub joined_line : (coming : Option (List ℕ)) (form : Form) (S : Setting) (status : Status) (old new : Option (List ℕ)) →
    form ≡ Line →
    OfJoined coming (λ d t. HasWrittenIn form d t S status old new) →
    OfJoined coming (λ d t. HasWritten d t S status old new)
joined_line coming form S status old new is given =
    over_splits coming (λ d t. HasWrittenIn form d t S status old new) (λ d t. HasWritten d t S status old new)
    (λ d t w. form_is_line form d t S status old new is w) given

pub joined_beginning : (coming : Option (List ℕ)) (form : Form) (S : Setting) (old new : Option (List ℕ)) →
    form ≡ Line →
    OfJoined coming (λ d t. HasBegunIn form d t S old new) → OfJoined coming (λ d t. HasBegun d t S old new)
joined_beginning coming form S old new is given =
    over_splits coming (λ d t. HasBegunIn form d t S old new) (λ d t. HasBegun d t S old new)
    (λ d t w. form_begins_line form d t S old new is w) given

-- ---- what writing the form of a collected line leaves

pub joined_written : (r : Result Status Fault) (libraries coming : Option (List ℕ)) (form : Form) (S : Setting)
    (status : Status) (held : List ℕ)
    (before after old new : Option (List ℕ)) → before ≡ Some [] → after ≡ Some held →
    IfOk r (λ ended. (ended ≡ status) × GainsForm form status held old new) →
    OfJoinedAfter libraries coming (λ d t. HasWritten d t S status before after) →
    IfOk r (λ ended. OfJoinedAfter libraries coming (λ d t. HasWrittenIn form d t S ended old new))
joined_written (Ok ended) libraries coming form S status held before after old new empty whole (same, g) given =
    over_splits_after libraries coming (λ d t. HasWritten d t S status before after)
    (λ d t. HasWrittenIn form d t S ended old new)
    (λ d t w. subst (λ s. HasWrittenIn form d t S s old new) (sym same)
    (form_written form d t S status held old new g (held_line d t S status held before after empty whole w))) given
joined_written (Err fault) libraries coming form S status held before after old new empty whole gained given = tt

pub joined_begun : (libraries coming : Option (List ℕ)) (form : Form) (S : Setting) (status : Status) (held : List ℕ)
    (before after old new : Option (List ℕ)) → before ≡ Some [] → after ≡ Some held →
    BeginsForm form status held old new →
    OfJoinedAfter libraries coming (λ d t. HasWritten d t S status before after) →
    OfJoinedAfter libraries coming (λ d t. HasBegunIn form d t S old new)
joined_begun libraries coming form S status held before after old new empty whole g given =
    over_splits_after libraries coming (λ d t. HasWritten d t S status before after)
    (λ d t. HasBegunIn form d t S old new)
    (λ d t w. form_begun form d t S status held old new g (held_line d t S status held before after empty whole w))
    given

pub apart_written : (r : Result Status Fault) (defs term : Option (List ℕ)) (form : Form) (S : Setting)
    (status : Status) (held : List ℕ)
    (before after old new : Option (List ℕ)) → before ≡ Some [] → after ≡ Some held →
    IfOk r (λ ended. (ended ≡ status) × GainsForm form status held old new) →
    OfTwo defs term (λ d t. HasWritten d t S status before after) →
    IfOk r (λ ended. OfTwo defs term (λ d t. HasWrittenIn form d t S ended old new))
apart_written (Ok ended) defs term form S status held before after old new empty whole (same, g) given =
    over_pairs defs term (λ d t. HasWritten d t S status before after) (λ d t. HasWrittenIn form d t S ended old new)
    (λ d t w. subst (λ s. HasWrittenIn form d t S s old new) (sym same)
    (form_written form d t S status held old new g (held_line d t S status held before after empty whole w))) given
apart_written (Err fault) defs term form S status held before after old new empty whole gained given = tt

pub apart_begun : (defs term : Option (List ℕ)) (form : Form) (S : Setting) (status : Status) (held : List ℕ)
    (before after old new : Option (List ℕ)) → before ≡ Some [] → after ≡ Some held →
    BeginsForm form status held old new →
    OfTwo defs term (λ d t. HasWritten d t S status before after) →
    OfTwo defs term (λ d t. HasBegunIn form d t S old new)
apart_begun defs term form S status held before after old new empty whole g given =
    over_pairs defs term (λ d t. HasWritten d t S status before after) (λ d t. HasBegunIn form d t S old new)
    (λ d t w. form_begun form d t S status held old new g (held_line d t S status held before after empty whole w))
    given

-- ---- what the call that writes the line itself leaves

pub apart_as_line : (r : Result Status Fault) (defs term : Option (List ℕ)) (form : Form) (S : Setting)
    (old new : Option (List ℕ)) → form ≡ Line →
    IfOk r (λ status. OfTwo defs term (λ d t. HasWritten d t S status old new)) →
    IfOk r (λ status. OfTwo defs term (λ d t. HasWrittenIn form d t S status old new))
apart_as_line (Ok status) defs term form S old new is given =
    over_pairs defs term (λ d t. HasWritten d t S status old new) (λ d t. HasWrittenIn form d t S status old new)
    (λ d t w. line_in_form form d t S status old new is w) given
apart_as_line (Err fault) defs term form S old new is given = tt

pub apart_as_beginning : (defs term : Option (List ℕ)) (form : Form) (S : Setting) (old new : Option (List ℕ)) →
    form ≡ Line →
    OfTwo defs term (λ d t. HasBegun d t S old new) → OfTwo defs term (λ d t. HasBegunIn form d t S old new)
apart_as_beginning defs term form S old new is given =
    over_pairs defs term (λ d t. HasBegun d t S old new) (λ d t. HasBegunIn form d t S old new)
    (λ d t w. beginning_in_form form d t S old new is w) given

pub joined_as_line : (r : Result Status Fault) (libraries coming : Option (List ℕ)) (form : Form) (S : Setting)
    (old new : Option (List ℕ)) → form ≡ Line →
    IfOk r (λ status. OfJoinedAfter libraries coming (λ d t. HasWritten d t S status old new)) →
    IfOk r (λ status. OfJoinedAfter libraries coming (λ d t. HasWrittenIn form d t S status old new))
joined_as_line (Ok status) libraries coming form S old new is given =
    over_splits_after libraries coming (λ d t. HasWritten d t S status old new)
    (λ d t. HasWrittenIn form d t S status old new) (λ d t w. line_in_form form d t S status old new is w) given
joined_as_line (Err fault) libraries coming form S old new is given = tt

pub joined_as_beginning : (libraries coming : Option (List ℕ)) (form : Form) (S : Setting)
    (old new : Option (List ℕ)) → form ≡ Line →
    OfJoinedAfter libraries coming (λ d t. HasBegun d t S old new) →
    OfJoinedAfter libraries coming (λ d t. HasBegunIn form d t S old new)
joined_as_beginning libraries coming form S old new is given =
    over_splits_after libraries coming (λ d t. HasBegun d t S old new) (λ d t. HasBegunIn form d t S old new)
    (λ d t w. beginning_in_form form d t S old new is w) given
