-- A repetition, read in a loop: one record for every form.
use Rattle.std.proofs.Common.{◌≡◌, ℕ, ◌≤◌, true, false, List, [], ◌++◌, append_assoc, append-nil, length, drop, arith}
use Rattle.sc_parse.specs.declared.reader.Fault.{Fault}
use Rattle.sc_parse.specs.Pieces.{Piece, next}
use Rattle.sc_parse.specs.Form.{Form, many}
use Rattle.sc_parse.specs.Trees.{Tree}
use Rattle.sc_parse.specs.Runs.{begins}
use Rattle.sc_parse.specs.Reads.{Reads, Fails}
use Rattle.sc_parse.proofs.Steps.{reads_more, reads_none, reads_as, fails_one, fails_later}

-- From `at` to `end` stand items with these parts: what reads as items from `end` on, reads as items from `at` on.
pub record Repeated (f : Form) (d : ℕ) (ts : List Piece) (at end : ℕ) (us : List Tree) : Type 0 where
  pub within : end ≤ length ts
  pub forward : at ≤ end
  pub reads : (stop : ℕ) (ws : List Tree) → Reads (many f) d ts end stop ws → Reads (many f) d ts at stop (us ++ ws)
  pub fails : (e : Fault) → Fails (many f) d ts end e → Fails (many f) d ts at e

pub none_yet : (f : Form) (d : ℕ) (ts : List Piece) (a : ℕ) → a ≤ length ts → Repeated f d ts a a []
none_yet f d ts a le = record { within = le; forward = omega arith; reads = λ stop ws r. r; fails = λ e r. r }

pub one_later : (f : Form) (d : ℕ) (ts : List Piece) (a m e : ℕ) (us vs : List Tree) → Repeated f d ts a m us → begins f (next (drop m ts)) ≡ true → Reads f d ts m e vs → Repeated f d ts a e (us ++ vs)
one_later f d ts a m e us vs p b r =
    let fore = p.forward in let f1 = r.forward in
    record { within = r.within; forward = omega arith; reads = λ stop ws s. rw append_assoc (p.reads stop (vs ++ ws) (reads_more b r s)); fails = λ x s. p.fails x (fails_later b r s) }

pub repeats : (f : Form) (d : ℕ) (ts : List Piece) (a m : ℕ) (us : List Tree) → Repeated f d ts a m us → begins f (next (drop m ts)) ≡ false → Reads (many f) d ts a m us
repeats f d ts a m us p b = reads_as us (append-nil us) (p.reads m [] (reads_none p.within b))

pub repeats_not : (f : Form) (d : ℕ) (ts : List Piece) (a m : ℕ) (us : List Tree) (e : Fault) → Repeated f d ts a m us → begins f (next (drop m ts)) ≡ true → Fails f d ts m e → Fails (many f) d ts a e
repeats_not f d ts a m us e p b r = p.fails e (fails_one b r)
