-- What the reader of hierarchical texts answers.
use Rattle.std.specs.Prelude.{ℕ, List}
use Rattle.sc_base.specs.Lines.{IsReadWhole}
use Rattle.sc_deck.specs.Modules.{Module}
use Rattle.sc_read.specs.declared.hier.HierFault.{HierFault}
use Rattle.sc_read.specs.HierStages.{Title, Over, Goes, MayEnd}
use Rattle.sc_read.specs.HierSteps.{IsFaultFrom}

-- the text is in the grammar and within the limits, and these are its modules
abbrev pub IsHierText : List ℕ → List Module → Type 0
IsHierText text modules = IsReadWhole Goes MayEnd Title text (Over modules)

-- the fault of a text: its first line, from 1, that is not in its place, or the first at which a limit is passed
abbrev pub IsHierFault : List ℕ → HierFault → Type 0
IsHierFault text fault = IsFaultFrom Title text 1 fault
