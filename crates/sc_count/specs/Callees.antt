-- The counts of a body from those of the bodies that it calls.
use Rattle.std.specs.Prelude.{ℕ, ◌+◌, ◌*◌, max, List, [], ◌∷◌, map, fold, replicate, slice_index_or}
use Rattle.sc_base.specs.declared.names.Class.{Class}
use Rattle.sc_base.specs.declared.names.Class.TheVariants.{Q, C}
use Rattle.sc_gate.specs.declared.gate.Gate.{Gate}
use Rattle.sc_gate.specs.Times.{duration}
use Rattle.sc_deck.specs.declared.item.Item.{Item}
use Rattle.sc_deck.specs.declared.item.Item.TheVariants as item
use Rattle.sc_deck.specs.Modules.{Module, from_earlier}
use Rattle.sc_count.specs.declared.counts.Counts.{Counts}
use Rattle.sc_count.specs.declared.running.Running.{Running}
use Rattle.sc_count.specs.Counting.{kinds_of}

-- two lists of numbers added place by place
abbrev pub added : List ℕ → List ℕ → List ℕ
added [] ms = []
added (n ∷ ns) [] = []
added (n ∷ ns) (m ∷ ms) = (n + m) ∷ added ns ms

abbrev pub no_counts : Counts
no_counts = record { kinds = replicate 18 0; gates = 0; weight = 0; qubits = 0; cbits = 0; peak = 0 }

-- the counts of one gate
abbrev pub gate_counts : List ℕ → Gate → Counts
gate_counts times gate = record { kinds = kinds_of (gate ∷ []); gates = 1; weight = duration times gate.kind; qubits = 0; cbits = 0; peak = 0 }

-- the counts of n turns, at least one, one after another: the qubits of a turn die at its end
abbrev pub turned : ℕ → Counts → Counts
turned n c = record {
  kinds = map (λ k. n * k) c.kinds;
  gates = n * c.gates;
  weight = n * c.weight;
  qubits = n * c.qubits;
  cbits = n * c.cbits;
  peak = c.peak;
}

-- with fresh wires of the body itself
abbrev pub with_fresh : Class → ℕ → Running → Running
with_fresh Q n r = record {
  counts = record {
    kinds = r.counts.kinds;
    gates = r.counts.gates;
    weight = r.counts.weight;
    qubits = r.counts.qubits + n;
    cbits = r.counts.cbits;
    peak = max r.counts.peak (r.own + n);
  };
  own = r.own + n;
}
with_fresh C n r = record {
  counts = record {
    kinds = r.counts.kinds;
    gates = r.counts.gates;
    weight = r.counts.weight;
    qubits = r.counts.qubits;
    cbits = r.counts.cbits + n;
    peak = r.counts.peak;
  };
  own = r.own;
}

-- with a part that leaves no qubit live
abbrev pub with_part : Running → Counts → Running
with_part r c = record {
  counts = record {
    kinds = added r.counts.kinds c.kinds;
    gates = r.counts.gates + c.gates;
    weight = r.counts.weight + c.weight;
    qubits = r.counts.qubits + c.qubits;
    cbits = r.counts.cbits + c.cbits;
    peak = max r.counts.peak (r.own + c.peak);
  };
  own = r.own;
}

-- the counts at a place, and those of nothing past the last
abbrev pub counts_at : List Counts → ℕ → Counts
counts_at cs i = slice_index_or cs i no_counts

-- with an item, where the bodies that it calls have these counts
abbrev pub with_item : List ℕ → List Counts → Running → Item → Running
with_item times cs r (item.Fresh class n) = with_fresh class n r
with_item times cs r (item.Gate gate) = with_part r (turned 1 (gate_counts times gate))
with_item times cs r (item.Call callee wires) = with_part r (turned 1 (counts_at cs callee))
with_item times cs r (item.Gates gate turns) = with_part r (turned turns (gate_counts times gate))
with_item times cs r (item.Calls callee wires turns) = with_part r (turned turns (counts_at cs callee))

abbrev pub nothing_yet : Running
nothing_yet = record { counts = no_counts; own = 0 }

-- the counts of items from those of their callees
abbrev pub counts_over_items : List ℕ → List Counts → List Item → Counts
counts_over_items times cs items = (fold (with_item times cs) nothing_yet items).counts

abbrev pub counts_over : List ℕ → List Counts → Module → Counts
counts_over times cs m = counts_over_items times cs m.items

-- the counts of the modules in order, each from those before it
abbrev pub counts_of : List ℕ → List Module → List Counts
counts_of times modules = from_earlier (counts_over times) [] modules
