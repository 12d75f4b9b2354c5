-- The texts whose lines are all in their places are those of sound registers and lines.
use Rattle.std.proofs.Common.{◌≡◌, ◌≢◌, ℕ, zero, suc, ◌+◌, ◌≤◌, Bool, true, false, nat_eq, List, [], ◌∷◌, ◌++◌, decimal, refl, sym, ap, ◌∙◌, subst, arith, append_assoc, append-nil, eqb-true}
use Rattle.std.specs.Prelude.{codes, if◌then◌else◌, FitsSigned, Option, Some, None, option_to_list}
use Rattle.std.specs.Int.{w64}
use Rattle.std.specs.List.{AllByRecursion}
use Rattle.std.proofs.lemmas.List.Concat.{flat_map-append}
use Rattle.sc_base.specs.Decimals.{fixed_text}
use Rattle.sc_base.specs.Limits.{most_flat_wires}
use Rattle.sc_base.specs.Lines.{IsLine, joined, GoThrough}
use Rattle.sc_base.specs.declared.names.Class.{Class}
use Rattle.sc_base.specs.declared.names.Class.TheVariants.{Q, C}
use Rattle.sc_base.specs.declared.names.GateName.{GateName}
use Rattle.sc_base.specs.declared.names.GateName.TheVariants as name
use Rattle.sc_base.proofs.FeedLemmas.{NoFeed, no_feed_nil, no_feed_more, no_feed-append, no_feed_from_test, no_feed_decimal, no_feed_fixed, line_from}
use Rattle.sc_gate.specs.declared.gate.Wire.{Wire}
use Rattle.sc_gate.specs.declared.gate.Kind.{Kind}
use Rattle.sc_gate.specs.declared.gate.Kind.TheVariants as kind
use Rattle.sc_gate.specs.Gates.{name_of}
use Rattle.sc_gate.specs.Numbers.{Numbers}
use Rattle.sc_gate.specs.Lines.{class_letter}
use Rattle.sc_gate.specs.SameGates.{value_of}
use Rattle.sc_gate.specs.Texts.{IsNumbered}
use Rattle.sc_open.specs.declared.line.Line.{Line}
use Rattle.sc_open.specs.declared.line.Line.TheVariants as line
use Rattle.sc_open.specs.declared.text.OpenText.{OpenText}
use Rattle.sc_open.specs.declared.reader.Part.{Part}
use Rattle.sc_open.specs.declared.reader.Part.TheVariants as part
use Rattle.sc_open.specs.OpenTexts.{line_word, angle_text, operand_text, next_text, bit_text, line_text, lines_text, register_line, register_text, registers_text, qubits_front, cbits_front, spare_line, title_line, include_line, open_text}
use Rattle.sc_open.specs.OpenStages.{counts, IsNextLine, no_text, part_text, MayFollow, with_part, Stage, Title, Include, Behind, Goes, IsSound}
use Rattle.sc_open.specs.OpenReads.{IsInGrammar, IsOpenText}
use Rattle.sc_open.proofs.ReadLoop.{OpenRead, front_read, part_read, open_whole}

-- LINES END AT THEIR FIRST LINE FEED
letter_no_feed : (c : Class) → class_letter c ≢ 10
letter_no_feed Q = λ e. omega (arith, e)
letter_no_feed C = λ e. omega (arith, e)

word_no_feed : (n : GateName) → NoFeed (line_word n)
word_no_feed name.X = no_feed_from_test (codes "x ") refl
word_no_feed name.Y = no_feed_from_test (codes "y ") refl
word_no_feed name.Z = no_feed_from_test (codes "z ") refl
word_no_feed name.H = no_feed_from_test (codes "h ") refl
word_no_feed name.S = no_feed_from_test (codes "s ") refl
word_no_feed name.T = no_feed_from_test (codes "t ") refl
word_no_feed name.Sdag = no_feed_from_test (codes "sdg ") refl
word_no_feed name.Tdag = no_feed_from_test (codes "tdg ") refl
word_no_feed name.Cnot = no_feed_from_test (codes "cx ") refl
word_no_feed name.Toffoli = no_feed_from_test (codes "ccx ") refl
word_no_feed name.Rx = no_feed_from_test (codes "rx(") refl
word_no_feed name.Ry = no_feed_from_test (codes "ry(") refl
word_no_feed name.Rz = no_feed_from_test (codes "rz(") refl
word_no_feed name.PrepZ = no_feed_from_test (codes "reset ") refl
word_no_feed name.MeasZ = no_feed_from_test (codes "measure ") refl
word_no_feed name.Fredkin = no_feed_nil
word_no_feed name.PrepX = no_feed_nil
word_no_feed name.MeasX = no_feed_nil

angle_no_feed : (k : Kind) → FitsSigned w64 (value_of k) → NoFeed (angle_text k)
angle_no_feed (kind.Rx angle) fits = no_feed-append (fixed_text angle.0) (codes ") ") (no_feed_fixed angle.0 fits) (no_feed_from_test (codes ") ") refl)
angle_no_feed (kind.Ry angle) fits = no_feed-append (fixed_text angle.0) (codes ") ") (no_feed_fixed angle.0 fits) (no_feed_from_test (codes ") ") refl)
angle_no_feed (kind.Rz angle) fits = no_feed-append (fixed_text angle.0) (codes ") ") (no_feed_fixed angle.0 fits) (no_feed_from_test (codes ") ") refl)
angle_no_feed _ fits = no_feed_nil

operand_no_feed : (w : Wire) → IsNumbered w → NoFeed (operand_text w)
operand_no_feed w small = no_feed_more (class_letter w.class) (codes "[" ++ decimal w.number ++ codes "]") (letter_no_feed w.class)
    (no_feed_more 91 (decimal w.number ++ codes "]") (λ e. omega (arith, e))
    (no_feed-append (decimal w.number) (codes "]") (no_feed_decimal w.number (omega (arith, small))) (no_feed_from_test (codes "]") refl)))

next_no_feed : (w : Option Wire) → AllByRecursion IsNumbered (option_to_list w) → NoFeed (next_text w)
next_no_feed None small = no_feed_nil
next_no_feed (Some w) small = no_feed_more 44 (operand_text w) (λ e. omega (arith, e)) (operand_no_feed w small.0)

bit_no_feed : (w : Option Wire) → AllByRecursion IsNumbered (option_to_list w) → NoFeed (bit_text w)
bit_no_feed None small = no_feed_from_test (codes "u[0]") refl
bit_no_feed (Some w) small = operand_no_feed w small.0

two_numbered : (b c : Option Wire) → AllByRecursion IsNumbered (option_to_list b ++ option_to_list c) →
    AllByRecursion IsNumbered (option_to_list b) × AllByRecursion IsNumbered (option_to_list c)
two_numbered None c all = (tt, all)
two_numbered (Some b) c all = ((all.0, tt), all.1)

ends_line : (front : List ℕ) → NoFeed front → IsLine (front ++ codes ";\n")
ends_line front none = record { front = front ++ codes ";"; no_feed = no_feed-append front (codes ";") none (no_feed_from_test (codes ";") refl); line_is = sym (append_assoc front (codes ";") (codes "\n")) }

pub line_is_line : (wires : Numbers) (spare : Bool) (l : Line) → IsNextLine wires spare l → IsLine (line_text l)
line_is_line wires spare (line.Gate g) p =
    let more = two_numbered g.b g.c p.has_line.numbered.1 in
    ends_line (line_word (name_of g.kind) ++ angle_text g.kind ++ operand_text g.a ++ next_text g.b ++ next_text g.c)
    (no_feed-append (line_word (name_of g.kind) ++ angle_text g.kind ++ operand_text g.a ++ next_text g.b) (next_text g.c)
    (no_feed-append (line_word (name_of g.kind) ++ angle_text g.kind ++ operand_text g.a) (next_text g.b)
    (no_feed-append (line_word (name_of g.kind) ++ angle_text g.kind) (operand_text g.a)
    (no_feed-append (line_word (name_of g.kind)) (angle_text g.kind) (word_no_feed (name_of g.kind)) (angle_no_feed g.kind p.has_line.in_range))
    (operand_no_feed g.a p.has_line.numbered.0)) (next_no_feed g.b more.0)) (next_no_feed g.c more.1))
line_is_line wires spare (line.Reset a) p =
    ends_line (codes "reset " ++ operand_text a) (no_feed-append (codes "reset ") (operand_text a) (no_feed_from_test (codes "reset ") refl) (operand_no_feed a p.has_line.numbered.0))
line_is_line wires spare (line.Measure a bit) p =
    ends_line (codes "measure " ++ operand_text a ++ codes " -> " ++ bit_text bit)
    (no_feed-append (codes "measure " ++ operand_text a ++ codes " -> ") (bit_text bit)
    (no_feed-append (codes "measure " ++ operand_text a) (codes " -> ")
    (no_feed-append (codes "measure ") (operand_text a) (no_feed_from_test (codes "measure ") refl) (operand_no_feed a p.has_line.numbered.0))
    (no_feed_from_test (codes " -> ") refl)) (bit_no_feed bit (two_numbered bit None p.has_line.numbered.1).0))

register_is_line : (front : List ℕ) (size : ℕ) → NoFeed front → size ≤ most_flat_wires → IsLine (register_line front size)
register_is_line front size none small = record {
  front = front ++ decimal size ++ codes "];";
  no_feed = no_feed-append (front ++ decimal size) (codes "];") (no_feed-append front (decimal size) none (no_feed_decimal size (omega (arith, small)))) (no_feed_from_test (codes "];") refl);
  line_is = sym (append_assoc (front ++ decimal size) (codes "];") (codes "\n"));
}

spare_is_line : IsLine spare_line
spare_is_line = line_from (codes "creg u[1];") (no_feed_from_test (codes "creg u[1];") refl)

-- A TEXT OF THE GRAMMAR IS READ
-- so far was read, whatever the next line's number is
abbrev IsRead : List ℕ → OpenText → List ℕ → Type 0
IsRead text t rest = (number : ℕ) × OpenRead text t rest number

one_more : (text : List ℕ) (t : OpenText) (rest more line : List ℕ) (p : Part) → IsRead text t rest → IsLine line → rest ≡ line ++ more → MayFollow t p → line ≡ part_text p → IsRead text (with_part t p) more
one_more text t rest more line p read is there follows text_is =
    (read.0 + 1, part_read text t (with_part t p) rest read.0 (read.0 + 1) line more p read.1 is there refl follows text_is refl)

not_zero : (n : ℕ) → nat_eq (suc n) 0 ≡ false
not_zero n = by (nat_eq (suc n) 0) (eqb-true (suc n) 0)
  where
    by : (t : Bool) → (t ≡ true → suc n ≡ 0) → t ≡ false
    by true f = absurd (omega (arith, f refl))
    by false f = refl

size_text : (front : List ℕ) (size : ℕ) → 1 ≤ size → register_text front size ≡ register_line front size
size_text front zero some = absurd (omega (arith, some))
size_text front (suc n) some = ap (λ (z : Bool). if z then [] else register_line front (suc n)) (not_zero n)

qubits_read : (text : List ℕ) (size : ℕ) (more : List ℕ) → size ≤ most_flat_wires → IsRead text no_text (register_text qubits_front size ++ more) → IsRead text (record no_text { qubits = size }) more
qubits_read text zero more small read = read
qubits_read text (suc n) more small read =
    one_more text no_text (register_line qubits_front (suc n) ++ more) more (register_line qubits_front (suc n)) (part.Qubits (suc n))
    (subst (λ (z : List ℕ). IsRead text no_text (z ++ more)) (size_text qubits_front (suc n) (omega arith)) read)
    (register_is_line qubits_front (suc n) (no_feed_from_test qubits_front refl) small) refl ((omega arith, small), refl) refl

cbits_read : (text : List ℕ) (qubits size : ℕ) (more : List ℕ) → size ≤ most_flat_wires → IsRead text (record no_text { qubits = qubits }) (register_text cbits_front size ++ more) →
    IsRead text (record no_text { qubits = qubits; cbits = size }) more
cbits_read text qubits zero more small read = read
cbits_read text qubits (suc n) more small read =
    one_more text (record no_text { qubits = qubits }) (register_line cbits_front (suc n) ++ more) more (register_line cbits_front (suc n)) (part.Cbits (suc n))
    (subst (λ (z : List ℕ). IsRead text (record no_text { qubits = qubits }) (z ++ more)) (size_text cbits_front (suc n) (omega arith)) read)
    (register_is_line cbits_front (suc n) (no_feed_from_test cbits_front refl) small) refl ((omega arith, small), refl) refl

spare_read : (text : List ℕ) (qubits cbits : ℕ) (spare : Bool) (more : List ℕ) →
    IsRead text (record no_text { qubits = qubits; cbits = cbits }) ((if spare then spare_line else []) ++ more) →
    IsRead text (record no_text { qubits = qubits; cbits = cbits; spare = spare }) more
spare_read text qubits cbits false more read = read
spare_read text qubits cbits true more read =
    one_more text (record no_text { qubits = qubits; cbits = cbits }) (spare_line ++ more) more spare_line part.Spare read spare_is_line refl refl refl

lines_read : (text : List ℕ) (t : OpenText) (lines : List Line) → AllByRecursion (IsNextLine (counts t.qubits t.cbits) t.spare) lines →
    IsRead text t (lines_text lines) → IsRead text (record t { lines = t.lines ++ lines }) []
lines_read text t [] all read = subst (λ (z : List Line). IsRead text (record t { lines = z }) []) (sym (append-nil t.lines)) read
lines_read text t (l ∷ lines) all read =
    let first = one_more text t (lines_text (l ∷ lines)) (lines_text lines) (line_text l) (part.One l) read (line_is_line (counts t.qubits t.cbits) t.spare l all.0) refl all.0 refl in
    subst (λ (z : List Line). IsRead text (record t { lines = z }) []) (append_assoc t.lines (l ∷ []) lines)
    (lines_read text (record t { lines = t.lines ++ l ∷ [] }) lines all.1 first)

text_parts : (a b q c s l : List ℕ) → a ++ b ++ (q ++ c ++ s) ++ l ≡ a ++ (b ++ (q ++ (c ++ (s ++ l))))
text_parts a b q c s l = simp append_assoc

pub grammar_is_read : (text : List ℕ) (t : OpenText) → IsInGrammar text t → IsOpenText text t
grammar_is_read text t p =
    let spare : List ℕ = if t.spare then spare_line else [] in
    let behind : List ℕ = register_text qubits_front t.qubits ++ (register_text cbits_front t.cbits ++ (spare ++ lines_text t.lines)) in
    let start = front_read text (include_line ++ behind) behind
    (p.text_is ∙ text_parts title_line include_line (register_text qubits_front t.qubits) (register_text cbits_front t.cbits) spare (lines_text t.lines)) refl in
    let first = qubits_read text t.qubits (register_text cbits_front t.cbits ++ (spare ++ lines_text t.lines)) p.sound.qubits (3, start) in
    let second = cbits_read text t.qubits t.cbits (spare ++ lines_text t.lines) p.sound.cbits first in
    let third = spare_read text t.qubits t.cbits t.spare (lines_text t.lines) second in
    let fourth = lines_read text (record no_text { qubits = t.qubits; cbits = t.cbits; spare = t.spare }) t.lines p.sound.lines third in
    open_whole text t [] fourth.0 fourth.1 refl

-- WHAT IS READ IS IN THE GRAMMAR
pub all-append : (P : Line → Type 0) (xs ys : List Line) → AllByRecursion P xs → AllByRecursion P ys → AllByRecursion P (xs ++ ys)
all-append P [] ys a b = b
all-append P (x ∷ xs) ys a b = (a.0, all-append P xs ys a.1 b)

sound_part : (t : OpenText) (p : Part) → MayFollow t p → IsSound t → IsSound (with_part t p)
sound_part t (part.Qubits size) follows sound = record { qubits = follows.0.1; cbits = sound.cbits; lines = subst (λ (z : OpenText). AllByRecursion (IsNextLine (counts size t.cbits) t.spare) z.lines) (sym follows.1) tt }
sound_part t (part.Cbits size) follows sound = record { qubits = sound.qubits; cbits = follows.0.1; lines = subst (λ (z : OpenText). AllByRecursion (IsNextLine (counts t.qubits size) t.spare) z.lines) (sym follows.1) tt }
sound_part t part.Spare follows sound = record { qubits = sound.qubits; cbits = sound.cbits; lines = subst (λ (z : OpenText). AllByRecursion (IsNextLine (counts t.qubits t.cbits) true) z.lines) (sym follows) tt }
sound_part t (part.One l) follows sound = record { qubits = sound.qubits; cbits = sound.cbits; lines = all-append (IsNextLine (counts t.qubits t.cbits) t.spare) t.lines (l ∷ []) sound.lines (follows, tt) }

-- a register that is not there yet, with none behind it
first_register : (a b r : List ℕ) → a ++ b ++ (r ++ [] ++ []) ++ [] ≡ (a ++ b ++ ([] ++ [] ++ []) ++ []) ++ r
first_register a b r = simp (append_assoc, append-nil)

second_register : (a b q r : List ℕ) → a ++ b ++ (q ++ r ++ []) ++ [] ≡ (a ++ b ++ (q ++ [] ++ []) ++ []) ++ r
second_register a b q r = simp (append_assoc, append-nil)

third_register : (a b q c r : List ℕ) → a ++ b ++ (q ++ c ++ r) ++ [] ≡ (a ++ b ++ (q ++ c ++ []) ++ []) ++ r
third_register a b q c r = simp (append_assoc, append-nil)

part_text_is : (t : OpenText) (p : Part) → MayFollow t p → open_text (with_part t p) ≡ open_text t ++ part_text p
part_text_is t (part.Qubits size) follows =
    let empty : open_text (record no_text { qubits = size }) ≡ open_text no_text ++ register_line qubits_front size =
    first_register title_line include_line (register_text qubits_front size) ∙ ap (λ (z : List ℕ). open_text no_text ++ z) (size_text qubits_front size follows.0.0) in
    subst (λ (z : OpenText). open_text (record z { qubits = size }) ≡ open_text z ++ register_line qubits_front size) (sym follows.1) empty
part_text_is t (part.Cbits size) follows =
    let before : OpenText = record no_text { qubits = t.qubits } in
    let empty : open_text (record before { cbits = size }) ≡ open_text before ++ register_line cbits_front size =
    second_register title_line include_line (register_text qubits_front t.qubits) (register_text cbits_front size) ∙ ap (λ (z : List ℕ). open_text before ++ z) (size_text cbits_front size follows.0.0) in
    subst (λ (z : OpenText). open_text (record z { cbits = size }) ≡ open_text z ++ register_line cbits_front size) (sym follows.1) empty
part_text_is t part.Spare follows =
    let before : OpenText = record no_text { qubits = t.qubits; cbits = t.cbits } in
    let empty : open_text (record before { spare = true }) ≡ open_text before ++ spare_line =
    third_register title_line include_line (register_text qubits_front t.qubits) (register_text cbits_front t.cbits) spare_line in
    subst (λ (z : OpenText). open_text (record z { spare = true }) ≡ open_text z ++ spare_line) (sym follows) empty
part_text_is t (part.One l) follows =
    ap (λ (z : List ℕ). title_line ++ include_line ++ registers_text t.qubits t.cbits t.spare ++ z) (flat_map-append line_text t.lines (l ∷ []) ∙ ap (λ (z : List ℕ). lines_text t.lines ++ z) (append-nil (line_text l)))
    ∙ sym (append_assoc (title_line ++ include_line ++ registers_text t.qubits t.cbits t.spare) (lines_text t.lines) (line_text l))

behind_one : (t u : OpenText) → Behind t ≡ Behind u → t ≡ u
behind_one t u same = cc

-- what the lines behind a stage lead to
parts_read : (t u : OpenText) (lines : List (List ℕ)) → IsSound t → GoThrough Goes (Behind t) lines (Behind u) → (open_text u ≡ open_text t ++ joined lines) × IsSound u
parts_read t u [] sound go =
    let same : t ≡ u = behind_one t u go in
    (ap open_text (sym same) ∙ sym (append-nil (open_text t)), subst IsSound same sound)
parts_read t u (text ∷ lines) sound go =
    let step = go.2 in
    let next : OpenText = with_part t step.more in
    let more = parts_read next u lines (sound_part t step.more step.may_follow sound) (subst (λ (z : Stage). GoThrough Goes z lines (Behind u)) step.next_is go.3) in (
      more.0 ∙ (ap (λ (z : List ℕ). z ++ joined lines) (part_text_is t step.more step.may_follow ∙ ap (λ (z : List ℕ). open_text t ++ z) (sym step.text_is))
          ∙ append_assoc (open_text t) text (joined lines)),
      more.1,
    )

no_text_sound : IsSound no_text
no_text_sound = record { qubits = omega arith; cbits = omega arith; lines = tt }

no_stage : (t : OpenText) → Title ≡ Behind t → ⊥
no_stage t same = cc

no_include : (t : OpenText) → Include ≡ Behind t → ⊥
no_include t same = cc

all_read : (t : OpenText) (lines : List (List ℕ)) → GoThrough Goes Title lines (Behind t) → IsInGrammar (joined lines) t
all_read t [] go = absurd (no_stage t go)
all_read t (title ∷ lines) go =
    let behind : GoThrough Goes Include lines (Behind t) = subst (λ (z : Stage). GoThrough Goes z lines (Behind t)) go.2.1 go.3 in
    by lines behind
  where
    by : (ls : List (List ℕ)) → GoThrough Goes Include ls (Behind t) → IsInGrammar (joined (title ∷ ls)) t
    by [] more = absurd (no_include t more)
    by (includes ∷ ls) more =
        let rest : GoThrough Goes (Behind no_text) ls (Behind t) = subst (λ (z : Stage). GoThrough Goes z ls (Behind t)) more.2.1 more.3 in
        let r = parts_read no_text t ls no_text_sound rest in
        record {
          text_is = ap (λ (z : List ℕ). z ++ (includes ++ joined ls)) go.2.0 ∙ (ap (λ (z : List ℕ). title_line ++ (z ++ joined ls)) more.2.0 ∙ sym r.0);
          sound = r.1;
        }

pub read_is_grammar : (text : List ℕ) (t : OpenText) → IsOpenText text t → IsInGrammar text t
read_is_grammar text t p =
    let r = all_read t p.lines p.go in
    record { text_is = p.text_is ∙ r.text_is; sound = r.sound }
