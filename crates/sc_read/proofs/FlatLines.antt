-- Lines in front of lines, and the lines of a flat text.
use Rattle.std.proofs.Common.{◌≡◌, ◌≢◌, ℕ, ◌+◌, ◌<◌, ◌≤◌, ◌^◌, Bool, true, false, nat_le, Option, Some, None, List, [], ◌∷◌, ◌++◌, length, map, refl, sym, ap, ◌∙◌, subst, arith, append_assoc, append-nil, inr}
use Rattle.std.specs.Prelude.{decimal, codes, if◌then◌else◌}
use Rattle.std.specs.List.{AllByRecursion}
use Rattle.std.proofs.lemmas.Bool.{leb-true, leb-false}
use Rattle.std.specs.Str.Parse.{digits_value}
use Rattle.sc_base.specs.Limits.{most_gates, most_flat_wires}
use Rattle.sc_base.specs.Lines.{IsLine, joined, GoThrough, ReadTo, IsReadWhole, IsFirstBad, IsFirstBreak}
use Rattle.sc_base.specs.Numerals.{IsWhole, WholeFront, IsValueOf}
use Rattle.sc_base.specs.declared.reader.Whole.{Whole}
use Rattle.sc_base.specs.declared.reader.Whole.TheVariants.{Fits, Past}
use Rattle.sc_base.proofs.FeedLemmas.{no_feed-append, no_feed_from_test, no_feed_digits, line_from, number_line-IsLine}
use Rattle.sc_base.proofs.NumeralLemmas.{append_cancel, whole_one_way, decimal_whole, decimal_value}
use Rattle.sc_base.proofs.TextLines.{read_nothing}
use Rattle.sc_gate.specs.declared.gate.Gate.{Gate}
use Rattle.sc_gate.specs.Lines.{gate_line, gate_lines, flat_text, number_line}
use Rattle.sc_gate.specs.Numbers.{Numbers}
use Rattle.sc_gate.proofs.TextLemmas.{gate_line-IsLine}
use Rattle.sc_read.specs.GateFronts.{counts, IsNextGate}
use Rattle.sc_read.specs.FlatStages.{Stage, Title, Qubits, Cbits, Gates, Body, Limit, TooManyGates, GatesLine, BeginsBody, Goes, Breaks, MayEnd}
use Rattle.sc_read.specs.declared.flat.FlatText.{FlatText}
use Rattle.sc_read.specs.declared.flat.FlatFault.{FlatFault}
use Rattle.sc_read.specs.declared.flat.FlatFault.TheVariants.{SchedTooLarge, BadQasm, Memory}
use Rattle.sc_read.specs.FlatReads.{IsFlatText, IsBadLine, HasTooManyGates, IsFlatFault, IsBodyFault, GatesFront, IsCount, count_within}

-- ONE MORE LINE IN FRONT
module _ {State Bound : Type 0} (Goes : State → List ℕ → State → Type 0) (Breaks : State → List ℕ → Bound → Type 0) (MayEnd : State → Type 0)
    (from next : State) (text line more : List ℕ) (is : IsLine line) (text_is : text ≡ line ++ more) (goes : Goes from line next) where
  lines_first : (lines : List (List ℕ)) (rest : List ℕ) → more ≡ joined lines ++ rest → text ≡ joined (line ∷ lines) ++ rest
  lines_first lines rest there = text_is ∙ (ap (λ (z : List ℕ). line ++ z) there ∙ sym (append_assoc line (joined lines) rest))

  pub whole_first : (end : State) → IsReadWhole Goes MayEnd next more end → IsReadWhole Goes MayEnd from text end
  whole_first end p = record {
    lines = line ∷ p.lines;
    text_is = text_is ∙ ap (λ (z : List ℕ). line ++ z) p.text_is;
    go = (next, is, goes, p.go);
    may_end = p.may_end;
  }

  reads_first : (stage : State) (rest : List ℕ) (first number : ℕ) → ReadTo Goes next more (first + 1) stage rest number → ReadTo Goes from text first stage rest number
  reads_first stage rest first number p = record {
    lines = line ∷ p.lines;
    text_is = lines_first p.lines rest p.text_is;
    go = (next, is, goes, p.go);
    number_is = omega (arith, p.number_is);
  }

  pub bad_first : (first number : ℕ) → IsFirstBad Goes Breaks MayEnd next more (first + 1) number → IsFirstBad Goes Breaks MayEnd from text first number
  bad_first first number p = record {
    stage = p.stage;
    rest = p.rest;
    reads = reads_first p.stage p.rest first number p.reads;
    not_whole = p.not_whole;
    no_line = p.no_line;
    no_limit = p.no_limit;
  }

  pub break_first : (first number : ℕ) (limit : Bound) → IsFirstBreak Goes Breaks next more (first + 1) number limit → IsFirstBreak Goes Breaks from text first number limit
  break_first first number limit p = record {
    stage = p.stage;
    line = p.line;
    more = p.more;
    reads = reads_first p.stage (p.line ++ p.more) first number p.reads;
    line_is = p.line_is;
    breaks = p.breaks;
  }

-- THE LINES AT THE FRONT
title_is_line : IsLine (codes "flat 1\n")
title_is_line = line_from (codes "flat 1") (no_feed_from_test (codes "flat 1") refl)

qubits_is_line : (n : ℕ) → n < 2 ^ 64 → IsLine (number_line (codes "qbits") n)
qubits_is_line n small = number_line-IsLine (codes "qbits") n small (no_feed_from_test (codes "qbits") refl)

cbits_is_line : (n : ℕ) → n < 2 ^ 64 → IsLine (number_line (codes "cbits") n)
cbits_is_line n small = number_line-IsLine (codes "cbits") n small (no_feed_from_test (codes "cbits") refl)

gates_is_line : (line : List ℕ) (number : ℕ) → GatesLine line number → IsLine line
gates_is_line line number p = record {
  front = codes "gates " ++ p.digits;
  no_feed = no_feed-append (codes "gates ") p.digits (no_feed_from_test (codes "gates ") refl) (no_feed_digits p.digits p.whole.numeral.1);
  line_is = p.line_is;
}

-- the first line is not in its place
bad_here : (stage : Stage) (text : List ℕ) (first : ℕ) → (MayEnd stage → text ≢ []) →
    ((line more : List ℕ) (next : Stage) → text ≡ line ++ more → Goes stage line next → ⊥) →
    ((line more : List ℕ) (limit : Limit) → text ≡ line ++ more → Breaks stage line limit → ⊥) → IsFirstBad Goes Breaks MayEnd stage text first first
bad_here stage text first not_whole no_line no_limit = record {
  stage = stage;
  rest = text;
  reads = read_nothing Goes stage text first;
  not_whole = not_whole;
  no_line = λ line more next is there goes. no_line line more next there goes;
  no_limit = λ line more limit is there breaks. no_limit line more limit there breaks;
}

pub title_bad : (text : List ℕ) → ((more : List ℕ) → text ≡ codes "flat 1\n" ++ more → ⊥) → IsBadLine text 1
title_bad text none = bad_here Title text 1 (λ end. absurd end) (λ line more next there goes. none more (there ∙ ap (λ (z : List ℕ). z ++ more) goes.0)) (λ line more limit there breaks. breaks)

qubits_bad : (text : List ℕ) → ((n : ℕ) (more : List ℕ) → n ≤ most_flat_wires → text ≡ number_line (codes "qbits") n ++ more → ⊥) → IsFirstBad Goes Breaks MayEnd Qubits text 2 2
qubits_bad text none = bad_here Qubits text 2 (λ end. absurd end) (λ line more next there goes. none goes.number more goes.allowed (there ∙ ap (λ (z : List ℕ). z ++ more) goes.line_is)) (λ line more limit there breaks. breaks)

cbits_bad : (q : ℕ) (text : List ℕ) → ((n : ℕ) (more : List ℕ) → n ≤ most_flat_wires → text ≡ number_line (codes "cbits") n ++ more → ⊥) → IsFirstBad Goes Breaks MayEnd (Cbits q) text 3 3
cbits_bad q text none = bad_here (Cbits q) text 3 (λ end. absurd end) (λ line more next there goes. none goes.number more goes.allowed (there ∙ ap (λ (z : List ℕ). z ++ more) goes.line_is)) (λ line more limit there breaks. breaks)

gates_bad : (wires : Numbers) (text : List ℕ) → ((line more : List ℕ) (number : ℕ) → GatesLine line number → text ≡ line ++ more → ⊥) → IsFirstBad Goes Breaks MayEnd (Gates wires) text 4 4
gates_bad wires text none = bad_here (Gates wires) text 4 (λ end. absurd end) (λ line more next there goes. none line more goes.number goes.line_is there) (λ line more limit there breaks. none line more breaks.0 breaks.1 there)

-- what was read of the front of a text
pub record HasQubits (text : List ℕ) (q : ℕ) (after : List ℕ) : Type 0 where
  pub before : List ℕ
  pub title : text ≡ codes "flat 1\n" ++ before
  pub allowed : q ≤ most_flat_wires
  pub line_is : before ≡ number_line (codes "qbits") q ++ after

pub record HasCbits (text : List ℕ) (q c : ℕ) (after : List ℕ) : Type 0 where
  pub before : List ℕ
  pub qubits : HasQubits text q before
  pub allowed : c ≤ most_flat_wires
  pub line_is : before ≡ number_line (codes "cbits") c ++ after

pub has_qubits : (text before : List ℕ) (q : ℕ) (after : List ℕ) → text ≡ codes "flat 1\n" ++ before → q ≤ most_flat_wires → before ≡ number_line (codes "qbits") q ++ after → HasQubits text q after
has_qubits text before q after title allowed line_is = record { before = before; title = title; allowed = allowed; line_is = line_is }

pub has_cbits : (text before : List ℕ) (q c : ℕ) (after : List ℕ) → HasQubits text q before → c ≤ most_flat_wires → before ≡ number_line (codes "cbits") c ++ after → HasCbits text q c after
has_cbits text before q c after qubits allowed line_is = record { before = before; qubits = qubits; allowed = allowed; line_is = line_is }

-- from the stage behind the front, back to the first
bad_from_qubits : (text after : List ℕ) (number : ℕ) → text ≡ codes "flat 1\n" ++ after → IsFirstBad Goes Breaks MayEnd Qubits after 2 number → IsBadLine text number
bad_from_qubits text after number title p = bad_first Goes Breaks MayEnd Title Qubits text (codes "flat 1\n") after title_is_line title (refl, refl) 1 number p

bad_from_cbits : (text : List ℕ) (q : ℕ) (after : List ℕ) (number : ℕ) → HasQubits text q after → IsFirstBad Goes Breaks MayEnd (Cbits q) after 3 number → IsBadLine text number
bad_from_cbits text q after number h p = bad_from_qubits text h.before number h.title
    (bad_first Goes Breaks MayEnd Qubits (Cbits q) h.before (number_line (codes "qbits") q) after (qubits_is_line q (omega (arith, h.allowed))) h.line_is
    (record { number = q; allowed = omega (arith, h.allowed); line_is = refl; next_is = refl }) 2 number p)

bad_from_gates : (text : List ℕ) (q c : ℕ) (after : List ℕ) (number : ℕ) → HasCbits text q c after → IsFirstBad Goes Breaks MayEnd (Gates (counts q c)) after 4 number → IsBadLine text number
bad_from_gates text q c after number h p = bad_from_cbits text q h.before number h.qubits
    (bad_first Goes Breaks MayEnd (Cbits q) (Gates (counts q c)) h.before (number_line (codes "cbits") c) after (cbits_is_line c (omega (arith, h.allowed))) h.line_is
    (record { number = c; allowed = omega (arith, h.allowed); line_is = refl; next_is = refl }) 3 number p)

pub qubits_not_there : (text after : List ℕ) → text ≡ codes "flat 1\n" ++ after →
    ((n : ℕ) (more : List ℕ) → n ≤ most_flat_wires → after ≡ number_line (codes "qbits") n ++ more → ⊥) → IsBadLine text 2
qubits_not_there text after title none = bad_from_qubits text after 2 title (qubits_bad after none)

pub cbits_not_there : (text : List ℕ) (q : ℕ) (after : List ℕ) → HasQubits text q after →
    ((n : ℕ) (more : List ℕ) → n ≤ most_flat_wires → after ≡ number_line (codes "cbits") n ++ more → ⊥) → IsBadLine text 3
cbits_not_there text q after h none = bad_from_cbits text q after 3 h (cbits_bad q after none)

pub gates_not_there : (text : List ℕ) (q c : ℕ) (after : List ℕ) → HasCbits text q c after →
    ((line more : List ℕ) (number : ℕ) → GatesLine line number → after ≡ line ++ more → ⊥) → IsBadLine text 4
gates_not_there text q c after h none = bad_from_gates text q c after 4 h (gates_bad (counts q c) after none)

pub too_many : (text : List ℕ) (q c : ℕ) (after rest : List ℕ) → HasCbits text q c after → GatesFront after None rest → HasTooManyGates text
too_many text q c after rest h p =
    let here : IsFirstBreak Goes Breaks (Gates (counts q c)) after 4 4 TooManyGates = record {
      stage = Gates (counts q c);
      line = p.line;
      more = rest;
      reads = subst (λ (z : List ℕ). ReadTo Goes (Gates (counts q c)) after 4 (Gates (counts q c)) z 4) p.joined (read_nothing Goes (Gates (counts q c)) after 4);
      line_is = gates_is_line p.line p.number p.line_is;
      breaks = (p.number, p.line_is, p.count_is);
    } in
    let third = break_first Goes Breaks MayEnd (Cbits q) (Gates (counts q c)) h.before (number_line (codes "cbits") c) after (cbits_is_line c (omega (arith, h.allowed))) h.line_is
    (record { number = c; allowed = omega (arith, h.allowed); line_is = refl; next_is = refl }) 3 4 TooManyGates here in
    let second = break_first Goes Breaks MayEnd Qubits (Cbits q) h.qubits.before (number_line (codes "qbits") q) h.before (qubits_is_line q (omega (arith, h.qubits.allowed))) h.qubits.line_is
    (record { number = q; allowed = omega (arith, h.qubits.allowed); line_is = refl; next_is = refl }) 2 4 TooManyGates third in
    (4, break_first Goes Breaks MayEnd Title Qubits text (codes "flat 1\n") h.qubits.before title_is_line h.qubits.title (refl, refl) 1 4 TooManyGates second)

-- the line of the number of gates, and the stage behind it
begins : (q c : ℕ) (after : List ℕ) (count : ℕ) (rest : List ℕ) → (p : GatesFront after (Some count) rest) → BeginsBody (counts q c) p.line (Body (counts q c) count [])
begins q c after count rest p = record {
  number = p.number;
  line_is = p.line_is;
  within = p.count_is.1;
  next_is = ap (λ (z : ℕ). Body (counts q c) z []) p.count_is.0;
}

pub fault_there : (text : List ℕ) (q c : ℕ) (after : List ℕ) (count : ℕ) (rest : List ℕ) (fault : FlatFault) → HasCbits text q c after → GatesFront after (Some count) rest →
    IsBodyFault (counts q c) count rest fault → IsFlatFault text fault
fault_there text q c after count rest SchedTooLarge h p bad = absurd bad
fault_there text q c after count rest (BadQasm number) h p bad = bad_from_gates text q c after number h
    (bad_first Goes Breaks MayEnd (Gates (counts q c)) (Body (counts q c) count []) after p.line rest (gates_is_line p.line p.number p.line_is) p.joined (begins q c after count rest p) 4 number bad)
fault_there text q c after count rest Memory h p bad = tt

pub text_there : (text : List ℕ) (q c : ℕ) (after : List ℕ) (count : ℕ) (rest : List ℕ) (f : FlatText) → HasCbits text q c after → GatesFront after (Some count) rest →
    f.qubits ≡ q → f.cbits ≡ c → IsReadWhole Goes MayEnd (Body (counts q c) count []) rest (Body (counts q c) 0 f.gates) → IsFlatText text f
text_there text q c after count rest f h p qubits cbits whole =
    let end : Stage = Body (counts q c) 0 f.gates in
    let fourth = whole_first Goes Breaks MayEnd (Gates (counts q c)) (Body (counts q c) count []) after p.line rest (gates_is_line p.line p.number p.line_is) p.joined (begins q c after count rest p) end whole in
    let third = whole_first Goes Breaks MayEnd (Cbits q) (Gates (counts q c)) h.before (number_line (codes "cbits") c) after (cbits_is_line c (omega (arith, h.allowed))) h.line_is
    (record { number = c; allowed = omega (arith, h.allowed); line_is = refl; next_is = refl }) end fourth in
    let second = whole_first Goes Breaks MayEnd Qubits (Cbits q) h.qubits.before (number_line (codes "qbits") q) h.before (qubits_is_line q (omega (arith, h.qubits.allowed))) h.qubits.line_is
    (record { number = q; allowed = omega (arith, h.qubits.allowed); line_is = refl; next_is = refl }) end third in
    let first = whole_first Goes Breaks MayEnd Title Qubits text (codes "flat 1\n") h.qubits.before title_is_line h.qubits.title (refl, refl) end second in
    subst (λ (z : ℕ). IsReadWhole Goes MayEnd Title text (Body (counts z f.cbits) 0 f.gates)) (sym qubits)
    (subst (λ (z : ℕ). IsReadWhole Goes MayEnd Title text (Body (counts q z) 0 f.gates)) (sym cbits) first)

-- the line of a number of gates that was read
value_there : (digits : List ℕ) (number : Whole) (count : Option ℕ) → IsWhole digits → IsValueOf digits number → count ≡ count_within number → IsCount count (digits_value 10 digits)
value_there digits (Fits n) count whole value is = subst (λ (z : Option ℕ). IsCount z (digits_value 10 digits)) (sym is) (by (nat_le n most_gates) refl)
  where
    same : n ≡ digits_value 10 digits
    same = sym (ap (digits_value 10) value.1 ∙ decimal_value n value.0)

    by : (b : Bool) → nat_le n most_gates ≡ b → IsCount (if b then Some n else None) (digits_value 10 digits)
    by true within = (same, (let w : n ≤ most_gates = leb-true n most_gates within in omega (arith, w, same)))
    by false past = (let w : most_gates < n = leb-false n most_gates past in omega (arith, w, same))
value_there digits Past count whole value is = subst (λ (z : Option ℕ). IsCount z (digits_value 10 digits)) (sym is) (omega (arith, value))

pub gates_front : (bytes after digits end rest : List ℕ) (number : Whole) (count : Option ℕ) → bytes ≡ codes "gates " ++ after → WholeFront after digits end → IsValueOf digits number →
    end ≡ 10 ∷ rest → count ≡ count_within number → GatesFront bytes count rest
gates_front bytes after digits end rest number count word front value feed is = record {
  line = codes "gates " ++ digits ++ codes "\n";
  number = digits_value 10 digits;
  joined = word ∙ (ap (λ (z : List ℕ). codes "gates " ++ z) (front.joined ∙ ap (λ (z : List ℕ). digits ++ z) feed)
      ∙ sym (append_assoc (codes "gates " ++ digits) (codes "\n") rest ∙ append_assoc (codes "gates ") digits (10 ∷ rest)));
  line_is = record { digits = digits; whole = front.whole; line_is = refl; number_is = refl };
  count_is = value_there digits number count front.whole value is;
}

pub no_gates_feed : (bytes after digits end : List ℕ) → bytes ≡ codes "gates " ++ after → WholeFront after digits end → ((rest : List ℕ) → end ≡ 10 ∷ rest → ⊥) →
    (line more : List ℕ) (number : ℕ) → GatesLine line number → bytes ≡ line ++ more → ⊥
no_gates_feed bytes after digits end word front none line more number p same =
    let there : after ≡ p.digits ++ 10 ∷ more = append_cancel (codes "gates ") after (p.digits ++ 10 ∷ more)
    (sym word ∙ (same ∙ (ap (λ (z : List ℕ). z ++ more) p.line_is ∙ (append_assoc (codes "gates " ++ p.digits) (codes "\n") more ∙ append_assoc (codes "gates ") p.digits (10 ∷ more))))) in
    none more (whole_one_way after digits p.digits end (10 ∷ more) front (record { joined = there; whole = p.whole; ends = refl })).1

pub none_of : (count : Option ℕ) → ((x : ℕ) → count ≡ Some x → ⊥) → count ≡ None
none_of None none = refl
none_of (Some x) none = absurd (none x refl)

-- THE TEXT OF A LIST OF GATES
gates_go : (wires : Numbers) (gates before : List Gate) → AllByRecursion (IsNextGate wires) gates →
    GoThrough Goes (Body wires (length gates) before) (map gate_line gates) (Body wires 0 (before ++ gates))
gates_go wires [] before all = ap (Body wires 0) (sym (append-nil before))
gates_go wires (g ∷ gates) before all = (
  Body wires (length gates) (before ++ g ∷ []),
  gate_line-IsLine g all.0.has_line,
  inr (record { fewer = length gates; gate = g; left_is = refl; gate_is = all.0; line_is = refl; next_is = refl }),
  subst (λ (z : List Gate). GoThrough Goes (Body wires (length gates) (before ++ g ∷ [])) (map gate_line gates) (Body wires 0 z)) (append_assoc before (g ∷ []) gates)
      (gates_go wires gates (before ++ g ∷ []) all.1),
)

joined_gates : (gates : List Gate) → joined (map gate_line gates) ≡ gate_lines gates
joined_gates [] = refl
joined_gates (g ∷ gates) = ap (λ (z : List ℕ). gate_line g ++ z) (joined_gates gates)

count_line : (n : ℕ) → n ≤ most_gates → GatesLine (number_line (codes "gates") n) n
count_line n within = record {
  digits = decimal n;
  whole = decimal_whole n (omega (arith, within));
  line_is = refl;
  number_is = sym (decimal_value n (omega (arith, within)));
}

-- what is written of numbers of wires and of gates is in the grammar, and is read as they are
pub written_is_read : (q c : ℕ) (gates : List Gate) → q ≤ most_flat_wires → c ≤ most_flat_wires → length gates ≤ most_gates → AllByRecursion (IsNextGate (counts q c)) gates →
    IsFlatText (flat_text q c gates) (record { qubits = q; cbits = c; gates = gates })
written_is_read q c gates few small within all =
    let n : ℕ = length gates in
    record {
      lines = codes "flat 1\n" ∷ number_line (codes "qbits") q ∷ number_line (codes "cbits") c ∷ number_line (codes "gates") n ∷ map gate_line gates;
      text_is = header_text (codes "flat 1\n") (number_line (codes "qbits") q) (number_line (codes "cbits") c) (number_line (codes "gates") n) (gate_lines gates)
          ∙ ap (λ (z : List ℕ). codes "flat 1\n" ++ (number_line (codes "qbits") q ++ (number_line (codes "cbits") c ++ (number_line (codes "gates") n ++ z)))) (sym (joined_gates gates));
      go = (
        Qubits,
        title_is_line,
        (refl, refl),
        (
          Cbits q,
          qubits_is_line q (omega (arith, few)),
          record { number = q; allowed = few; line_is = refl; next_is = refl },
          (
            Gates (counts q c),
            cbits_is_line c (omega (arith, small)),
            record { number = c; allowed = small; line_is = refl; next_is = refl },
            (
              Body (counts q c) n [],
              gates_is_line (number_line (codes "gates") n) n (count_line n within),
              record { number = n; line_is = count_line n within; within = within; next_is = refl },
              gates_go (counts q c) gates [] all,
            ),
          ),
        ),
      );
      may_end = refl;
    }
  where
    header_text : (s t u v x : List ℕ) → (s ++ t ++ u ++ v) ++ x ≡ s ++ (t ++ (u ++ (v ++ x)))
    header_text s t u v x = simp append_assoc
