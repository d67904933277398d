-- The headline does not rest on this file.
-- In which form the line of a transformation is written.
use Rattle.std.specs.Prelude.{◌≡◌, ℕ, List, Option}
use Rattle.str_pipeline.specs.Device.{Gains, GainsPrefix}
use Rattle.str_pipeline.specs.Setting.{Setting}
use Rattle.str_pipeline.specs.Written.{IsWritten}
use Rattle.str_pipeline.specs.declared.status.Status.{Status}
use Rattle.str_pipeline.specs.declared.status.Status.TheVariants.{Rewritten}
use Rattle.strc_command.specs.declared.request.Form.{Form}
use Rattle.strc_command.specs.declared.request.Form.TheVariants.{Raw, Pretty}
use Rattle.strc_command.specs.Pretty.{IsSpaced}
use Rattle.strc_command.specs.Raw.{IsRaw}

-- the text is the line of a transformation with this status in this form; only a result is laid out
abbrev pub IsInForm : Form → Status → List ℕ → List ℕ → Type 0
IsInForm Raw status line text = IsRaw line text
IsInForm Pretty Rewritten line text = IsSpaced line text
IsInForm form status line text = text ≡ line

-- a writer that shows its bytes has gained the line in this form
pub record HasWrittenIn (form : Form) (defs term : List ℕ) (S : Setting) (status : Status)
    (old new : Option (List ℕ)) : Type 0 where
  pub line : List ℕ
  pub text : List ℕ
  pub is_written : IsWritten defs term S status line
  pub in_form : IsInForm form status line text
  pub gained : Gains old new text

-- it has gained a beginning of the line in this form
pub record HasBegunIn (form : Form) (defs term : List ℕ) (S : Setting) (old new : Option (List ℕ)) : Type 0 where
  pub status : Status
  pub line : List ℕ
  pub text : List ℕ
  pub is_written : IsWritten defs term S status line
  pub in_form : IsInForm form status line text
  pub gained : GainsPrefix old new text

-- a writer has gained a text that is this line in this form
pub record GainsForm (form : Form) (status : Status) (line : List ℕ) (old new : Option (List ℕ)) : Type 0 where
  pub text : List ℕ
  pub in_form : IsInForm form status line text
  pub gained : Gains old new text

-- it has gained a beginning of such a text
pub record BeginsForm (form : Form) (status : Status) (line : List ℕ) (old new : Option (List ℕ)) : Type 0 where
  pub text : List ℕ
  pub in_form : IsInForm form status line text
  pub gained : GainsPrefix old new text
