-- What the run of a whole source says of it.
use Rattle.std.proofs.Common.{◌≡◌, refl, subst, ℕ, ◌≤◌, ◌||◌, List, [], length, Option, Some, None}
use Rattle.std.proofs.lemmas.List.{drop_all}
use Rattle.sc_parse.specs.declared.reader.Fault.{Fault}
use Rattle.sc_parse.specs.declared.reader.Fault.TheVariants.{Syntax, TooNested, Memory}
use Rattle.sc_parse.specs.declared.terminal.Terminal.{Terminal}
use Rattle.sc_parse.specs.Pieces.{Piece}
use Rattle.sc_parse.specs.Form.{Form, ◌∣◌}
use Rattle.sc_parse.specs.Rules.{source}
use Rattle.sc_parse.specs.Trees.{Tree}
use Rattle.sc_parse.specs.Derives.{Derives}
use Rattle.sc_parse.specs.Runs.{begins}
use Rattle.sc_parse.specs.Reads.{Reads, Fails}
use Rattle.sc_parse.specs.Faults.{IsFaultAt}
use Rattle.sc_parse.proofs.Headline.{syntax_of, nested_of}

-- what fails from the start on is a fault of the source
pub fault_at : (ts : List Piece) (x : Fault) → Fails source 0 ts 0 x → IsFaultAt ts x
fault_at ts (Syntax p) h = syntax_of ts p h.why.0 h.why.1
fault_at ts (TooNested p) h = nested_of ts p h.why.0 h.why.1
fault_at ts Memory h = tt

-- what is read to the end is derived by all tokens
pub derives_all : (ts : List Piece) (end : ℕ) (vs : List Tree) → length ts ≤ end → Reads source 0 ts 0 end vs → Derives source ts [] vs
derives_all ts end vs le r = subst (λ (l : List Piece). Derives source ts l vs) (drop_all end ts le) r.derives

-- a choice begins as one of its forms does
pub begins_either : (f g : Form) (h : Option Terminal) → begins (f ∣ g) h ≡ (begins f h || begins g h)
begins_either f g None = refl
begins_either f g (Some k) = refl
