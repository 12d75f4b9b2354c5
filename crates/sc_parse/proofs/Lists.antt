-- A list with commas, read in a loop.
use Rattle.std.proofs.Common.{◌≡◌, sym, ◌∙◌, ap, ℕ, ◌≤◌, true, false, List, [], ◌∷◌, ◌++◌, append_assoc, append-nil, length, drop}
use Rattle.sc_syntax.specs.declared.Mark.TheVariants as marks
use Rattle.sc_parse.specs.Pieces.{Piece, next}
use Rattle.sc_parse.specs.Form.{Form, mark, ◌⨾◌}
use Rattle.sc_parse.specs.Rules.{list}
use Rattle.sc_parse.specs.Trees.{Tree, token, kept, each}
use Rattle.sc_parse.specs.Runs.{begins}
use Rattle.sc_parse.specs.Reads.{Reads, Keeps}
use Rattle.sc_parse.proofs.Parts.{each-append, kept-append}
use Rattle.sc_parse.proofs.Repeats.{Repeated, none_yet, one_later, repeats}
use Rattle.sc_parse.proofs.Steps.{reads_both}

-- From `at` to `end` stand commas with items behind them. They are added to the items before, and make these.
pub record Listed {X : Type 0} (f : Form) (wrap : X → Tree) (d : ℕ) (ts : List Piece) (at end : ℕ) (before made : List X) : Type 0 where
  pub used : List Tree
  pub same : each wrap made ≡ each wrap before ++ kept used
  pub repeated : Repeated (mark marks.Comma ⨾ f) d ts at end used

pub listed_start : {X : Type 0} (f : Form) (wrap : X → Tree) (d : ℕ) (ts : List Piece) (a : ℕ) (before made : List X) → a ≤ length ts → before ≡ made → Listed f wrap d ts a a before made
listed_start f wrap d ts a before made le e = record { used = []; same = ap (each wrap) (sym e) ∙ sym (append-nil (each wrap before)); repeated = none_yet _ _ _ _ le }

pub listed_more : {X : Type 0} (f : Form) (wrap : X → Tree) (d : ℕ) (ts : List Piece) (a m o e : ℕ) (t : Piece) (before made : List X) {after : List X} {x : X}
    → Listed f wrap d ts a m before made → begins (mark marks.Comma ⨾ f) (next (drop m ts)) ≡ true → Reads (mark marks.Comma) d ts m o (token t ∷ []) → Reads f d ts o e (wrap x ∷ [])
    → ((us : List Tree) → kept (wrap x ∷ us) ≡ wrap x ∷ kept us) → after ≡ made ++ x ∷ [] → Listed f wrap d ts a e before after
listed_more f wrap d ts a m o e t before made {after} {x} l b r q k i = record {
  used = l.used ++ token t ∷ wrap x ∷ [];
  same = ap (each wrap) i ∙ each-append wrap made (x ∷ []) ∙ ap (λ (us : List Tree). us ++ wrap x ∷ []) l.same ∙ append_assoc (each wrap before) (kept l.used) (wrap x ∷ []) ∙ ap (λ (us : List Tree). each wrap before ++ us) (ap (λ (us : List Tree). kept l.used ++ us) (sym (k [])) ∙ sym (kept-append l.used (token t ∷ wrap x ∷ [])));
  repeated = one_later _ _ _ _ _ _ _ _ l.repeated b (reads_both r q);
}

pub listed_keeps : {X : Type 0} (f : Form) (wrap : X → Tree) (d : ℕ) (ts : List Piece) (a m e : ℕ) (before made : List X) (x : X)
    → Reads f d ts a m (wrap x ∷ []) → Listed f wrap d ts m e before made → begins (mark marks.Comma ⨾ f) (next (drop e ts)) ≡ false → before ≡ x ∷ []
    → ((us : List Tree) → kept (wrap x ∷ us) ≡ wrap x ∷ kept us) → Keeps (list f) d ts a e (each wrap made)
listed_keeps f wrap d ts a m e before made x r l b i k = record {
  parts = wrap x ∷ l.used;
  reads = reads_both r (repeats _ _ _ _ _ _ l.repeated b);
  same = k l.used ∙ ap (λ (us : List Tree). us ++ kept l.used) (ap (each wrap) (sym i)) ∙ sym l.same;
}
