-- What the reader of OpenQASM texts answers.
use Rattle.std.specs.Prelude.{◌≡◌, ℕ, List}
use Rattle.sc_base.specs.Lines.{NeverBreaks, IsReadWhole, IsFirstBad}
use Rattle.sc_open.specs.declared.text.OpenText.{OpenText}
use Rattle.sc_open.specs.declared.reader.OpenFault.{OpenFault}
use Rattle.sc_open.specs.declared.reader.OpenFault.TheVariants.{BadOpen, Memory}
use Rattle.sc_open.specs.OpenTexts.{open_text}
use Rattle.sc_open.specs.OpenStages.{Title, Behind, Goes, MayEnd, IsSound}

-- the text is in the grammar, and these are its registers and lines
pub record IsInGrammar (text : List ℕ) (t : OpenText) : Type 0 where
  pub text_is : text ≡ open_text t
  pub sound : IsSound t

-- all lines of the text are in their places, and these are its registers and lines
abbrev pub IsOpenText : List ℕ → OpenText → Type 0
IsOpenText text t = IsReadWhole Goes MayEnd Title text (Behind t)

-- the line, from 1, is the first that is not in its place; there is no limit that a line can pass
abbrev pub IsBadLine : List ℕ → ℕ → Type 0
IsBadLine text number = IsFirstBad Goes (NeverBreaks {Limit = Unit {0}}) MayEnd Title text 1 number

abbrev pub IsOpenFault : List ℕ → OpenFault → Type 0
IsOpenFault text (BadOpen number) = IsBadLine text number
IsOpenFault text Memory = Unit {0}
