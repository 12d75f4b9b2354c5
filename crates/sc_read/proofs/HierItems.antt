-- Lines of items, part by part.
use Rattle.std.proofs.Common.{◌≡◌, ℕ, ◌<◌, ◌≤◌, ◌^◌, Bool, true, false, true≢false, List, [], ◌∷◌, ◌++◌, map, length, refl, sym, ap, ◌∙◌, subst, arith, append_assoc, append-nil, Option, Some, None, get_or}
use Rattle.std.specs.Prelude.{decimal, codes, IfSome, IfNone, is_some}
use Rattle.std.specs.List.{AllByRecursion}
use Rattle.std.specs.Option.{unwrap_or}
use Rattle.std.specs.Str.Parse.{digits_value}
use Rattle.std.proofs.lemmas.Option.{unwrap_or-slice_get}
use Rattle.sc_base.specs.Numerals.{EndsNumber, WholeFront}
use Rattle.sc_base.specs.declared.names.Class.{Class}
use Rattle.sc_base.specs.declared.names.Class.TheVariants.{Q, C}
use Rattle.sc_base.proofs.NumeralLemmas.{head_is, tail_is, append_cancel, whole_one_way, number_unique}
use Rattle.sc_gate.specs.declared.gate.Gate.{Gate}
use Rattle.sc_gate.specs.declared.gate.Wire.{Wire}
use Rattle.sc_gate.specs.Gates.{name_of, operands, class_of, AreDistinct}
use Rattle.sc_gate.specs.Lines.{wire_text, after_commas, gate_line}
use Rattle.sc_gate.specs.Numbers.{Numbers, IsThere, AreThere}
use Rattle.sc_gate.specs.Texts.{IsNumbered}
use Rattle.sc_gate.proofs.LineLemmas.{joined_by_commas}
use Rattle.sc_gate.proofs.TextLemmas.{line_one_way}
use Rattle.sc_deck.specs.declared.item.Item.{Item}
use Rattle.sc_deck.specs.declared.item.Item.TheVariants as item
use Rattle.sc_deck.specs.Decks.{CallFits}
use Rattle.sc_deck.specs.Items.{WiresFit}
use Rattle.sc_deck.specs.Keys.{param_classes}
use Rattle.sc_deck.specs.Repeats.{StandsEarlier}
use Rattle.sc_deck.proofs.DeckLemmas.{callee_there}
use Rattle.sc_deck.proofs.FormedLaws.{place_of_wire}
use Rattle.sc_deck.specs.Hierarchical.{fresh_word, wires_text, call_line, repeat_line}
use Rattle.sc_deck.specs.Modules.{Module}
use Rattle.sc_read.specs.declared.item_line.Step.{Step}
use Rattle.sc_read.specs.declared.item_line.Step.TheVariants.{Apply, Enter}
use Rattle.sc_read.specs.GateFronts.{counts, GateFront, WireFront, NextWireFront}
use Rattle.sc_read.specs.HierLines.{ItemText}
use Rattle.sc_read.specs.HierStages.{IsNextItem}
use Rattle.sc_read.specs.declared.item_line.ItemLine.{ItemLine}
use Rattle.sc_read.specs.declared.item_line.ItemLine.TheVariants.{Fresh, Once, Repeated}
use Rattle.sc_read.specs.HierFronts.{cut_number, LengthFront, ReadsFresh, ReadsStep, ReadsItem}
use Rattle.sc_read.proofs.GateParts.{one_wire, one_next_wire, wire_numbered, line_in_parts}
use Rattle.sc_read.proofs.FlatBody.{first_byte, first_is, first_small}

-- FRESH WIRES
pub no_fresh_word : (line : List ℕ) → ((more : List ℕ) → line ≡ codes "qbit " ++ more → ⊥) → ((more : List ℕ) → line ≡ codes "cbit " ++ more → ⊥) →
    (class : Class) (rest : List ℕ) → line ≡ fresh_word class ++ codes " " ++ rest → ⊥
no_fresh_word line q c Q rest is = q rest is
no_fresh_word line q c C rest is = c rest is

pub fresh_one_way : (class other : Class) (line rest more : List ℕ) → line ≡ fresh_word class ++ codes " " ++ rest → line ≡ fresh_word other ++ codes " " ++ more →
    (class ≡ other) × (rest ≡ more)
fresh_one_way Q Q line rest more p q = (refl, append_cancel (codes "qbit ") rest more (sym p ∙ q))
fresh_one_way C C line rest more p q = (refl, append_cancel (codes "cbit ") rest more (sym p ∙ q))
fresh_one_way Q C line rest more p q = absurd (let clash : 113 ≡ 99 = head_is 113 99 (codes "bit " ++ rest) (codes "bit " ++ more) (sym p ∙ q) in omega (arith, clash))
fresh_one_way C Q line rest more p q = absurd (let clash : 99 ≡ 113 = head_is 99 113 (codes "bit " ++ rest) (codes "bit " ++ more) (sym p ∙ q) in omega (arith, clash))

fresh_parts : (line : List ℕ) (class : Class) (kept : ℕ) → (p : ReadsFresh line class kept) → line ≡ fresh_word class ++ codes " " ++ (p.text_is.digits ++ codes "\n")
fresh_parts line class kept p = p.text_is.line_is ∙ append_assoc (fresh_word class ++ codes " ") p.text_is.digits (codes "\n")

pub no_fresh-word : (line : List ℕ) → ((class : Class) (rest : List ℕ) → line ≡ fresh_word class ++ codes " " ++ rest → ⊥) → (class : Class) (kept : ℕ) → ReadsFresh line class kept → ⊥
no_fresh-word line none class kept p = none class (p.text_is.digits ++ codes "\n") (fresh_parts line class kept p)

fresh_front : (line rest : List ℕ) (class : Class) → line ≡ fresh_word class ++ codes " " ++ rest → (other : Class) (kept : ℕ) → (p : ReadsFresh line other kept) →
    (class ≡ other) × WholeFront rest p.text_is.digits (codes "\n")
fresh_front line rest class is other kept p =
    let same = fresh_one_way class other line rest (p.text_is.digits ++ codes "\n") is (fresh_parts line other kept p) in
    (same.0, record { joined = same.1; whole = p.text_is.number_is.whole; ends = refl })

pub no_fresh-length : (line rest : List ℕ) (class : Class) → line ≡ fresh_word class ++ codes " " ++ rest →
    ((digits more : List ℕ) → WholeFront rest digits more → 1 ≤ digits_value 10 digits → ⊥) → (other : Class) (kept : ℕ) → ReadsFresh line other kept → ⊥
no_fresh-length line rest class is none other kept p =
    none p.text_is.digits (codes "\n") (fresh_front line rest class is other kept p).1 (omega (arith, p.some, p.text_is.number_is.value))

pub no_fresh-end : (line rest : List ℕ) (class : Class) (n : ℕ) (more : List ℕ) → line ≡ fresh_word class ++ codes " " ++ rest → LengthFront rest n more → (more ≡ codes "\n" → ⊥) →
    (other : Class) (kept : ℕ) → ReadsFresh line other kept → ⊥
no_fresh-end line rest class n more is there bad other kept p =
    bad (whole_one_way rest there.digits p.text_is.digits more (codes "\n") there.front (fresh_front line rest class is other kept p).1).1

pub fresh_read : (line rest : List ℕ) (class : Class) (n : ℕ) (more : List ℕ) → line ≡ fresh_word class ++ codes " " ++ rest → LengthFront rest n more → more ≡ codes "\n" →
    ReadsFresh line class n
fresh_read line rest class n more is there end = record {
  number = digits_value 10 there.digits;
  text_is = record {
    digits = there.digits;
    number_is = record { whole = there.front.whole; value = refl };
    line_is = is ∙ (ap (λ (z : List ℕ). fresh_word class ++ codes " " ++ z) (there.front.joined ∙ ap (λ (z : List ℕ). there.digits ++ z) end)
        ∙ sym (append_assoc (fresh_word class ++ codes " ") there.digits (codes "\n")));
  };
  some = there.some;
  kept_is = there.kept_is;
}

-- TURNS
behind_repeat : (line after_word : List ℕ) (turns : ℕ) (rest : List ℕ) → line ≡ codes "repeat " ++ after_word → line ≡ repeat_line turns rest → after_word ≡ decimal turns ++ 32 ∷ rest
behind_repeat line after_word turns rest here is = append_cancel (codes "repeat ") after_word (decimal turns ++ 32 ∷ rest)
    (sym here ∙ (is ∙ (append_assoc (codes "repeat " ++ decimal turns) (codes " ") rest ∙ append_assoc (codes "repeat ") (decimal turns) (32 ∷ rest))))

pub no_turns : (line : List ℕ) → ((more : List ℕ) → line ≡ codes "repeat " ++ more → ⊥) → (turns : ℕ) (rest : List ℕ) → line ≡ repeat_line turns rest → ⊥
no_turns line none turns rest is =
    none (decimal turns ++ 32 ∷ rest) (is ∙ (append_assoc (codes "repeat " ++ decimal turns) (codes " ") rest ∙ append_assoc (codes "repeat ") (decimal turns) (32 ∷ rest)))

pub no_turns-number : (line after_word : List ℕ) → line ≡ codes "repeat " ++ after_word →
    ((number : ℕ) (more : List ℕ) → number < 2 ^ 64 → EndsNumber more → after_word ≡ decimal number ++ more → ⊥) →
    (turns : ℕ) (rest : List ℕ) → turns < 2 ^ 64 → line ≡ repeat_line turns rest → ⊥
no_turns-number line after_word here none turns rest small is = none turns (32 ∷ rest) small refl (behind_repeat line after_word turns rest here is)

pub turns_there : (line after_word after : List ℕ) (found : ℕ) → line ≡ codes "repeat " ++ after_word → after_word ≡ decimal found ++ after → found < 2 ^ 64 → EndsNumber after →
    (turns : ℕ) (rest : List ℕ) → turns < 2 ^ 64 → line ≡ repeat_line turns rest → (found ≡ turns) × (after ≡ codes " " ++ rest)
turns_there line after_word after found here there small ends turns rest few is =
    number_unique found turns after (32 ∷ rest) small few ends refl (sym there ∙ behind_repeat line after_word turns rest here is)

pub turns_read : (line after_word after rest : List ℕ) (turns : ℕ) → line ≡ codes "repeat " ++ after_word → after_word ≡ decimal turns ++ after → after ≡ codes " " ++ rest →
    line ≡ repeat_line turns rest
turns_read line after_word after rest turns first second third =
    first ∙ (ap (λ (z : List ℕ). codes "repeat " ++ z) (second ∙ ap (λ (z : List ℕ). decimal turns ++ z) third)
    ∙ (sym (append_assoc (codes "repeat ") (decimal turns) (32 ∷ rest)) ∙ sym (append_assoc (codes "repeat " ++ decimal turns) (codes " ") rest)))

-- GATES
pub gate_begins : (g : Gate) → (more : List ℕ) × (gate_line g ≡ first_byte (name_of g.kind) ∷ more)
gate_begins g =
    let first = first_is (name_of g.kind) _ in
    (first.0, sym (append-nil (gate_line g)) ∙ (line_in_parts g [] ∙ first.1))

-- no line of a gate begins with a small letter
pub not_gate : (g : Gate) (c : ℕ) (more : List ℕ) → 90 < c → gate_line g ≡ c ∷ more → ⊥
not_gate g c more large is =
    let first = gate_begins g in
    let same : first_byte (name_of g.kind) ≡ c = head_is (first_byte (name_of g.kind)) c first.0 more (sym first.1 ∙ is) in
    omega (arith, same, large, first_small (name_of g.kind))

pub there_numbered : (q c : ℕ) (ws : List Wire) → q < 2 ^ 32 → c < 2 ^ 32 → AreThere (counts q c) ws → AllByRecursion IsNumbered ws
there_numbered q c [] a b there = tt
there_numbered q c (w ∷ ws) a b there = (wire_numbered q c w a b there.0, there_numbered q c ws a b there.1)

step_gate : (modules : List Module) (q c : ℕ) (line : List ℕ) (g : Gate) → q < 2 ^ 32 → c < 2 ^ 32 → ReadsStep modules (counts q c) line (Apply g) → GateFront (counts q c) line g []
step_gate modules q c line g a b p = record {
  joined = p.text_is ∙ sym (append-nil (gate_line g));
  gate = record {
    has_line = record { well_formed = p.fits.well_formed; in_range = p.in_range; numbered = there_numbered q c (operands g) a b p.fits.there };
    there = p.fits.there;
  };
}

pub gate_step : (modules : List Module) (q c : ℕ) (line : List ℕ) (g : Gate) (rest : List ℕ) → GateFront (counts q c) line g rest → length rest ≡ 0 → ReadsStep modules (counts q c) line (Apply g)
gate_step modules q c line g rest p empty = record {
  text_is = p.joined ∙ (ap (λ (z : List ℕ). gate_line g ++ z) (nil rest empty) ∙ append-nil (gate_line g));
  fits = record { well_formed = p.gate.has_line.well_formed; there = p.gate.there };
  in_range = p.gate.has_line.in_range;
  call = tt;
}
  where
    nil : (xs : List ℕ) → length xs ≡ 0 → xs ≡ []
    nil [] empty = refl
    nil (x ∷ xs) empty = absurd (omega (arith, empty))

-- neither a call nor a gate stands here
pub no_step : (modules : List Module) (q c : ℕ) (line : List ℕ) → q < 2 ^ 32 → c < 2 ^ 32 → ((more : List ℕ) → line ≡ codes "call " ++ more → ⊥) →
    ((g : Gate) → GateFront (counts q c) line g [] → ⊥) → (step : Step) → ReadsStep modules (counts q c) line step → ⊥
no_step modules q c line a b no_call no_gate (Apply g) p = no_gate g (step_gate modules q c line g a b p)
no_step modules q c line a b no_call no_gate (Enter callee wires) p = no_call (decimal callee ++ wires_text wires ++ codes "\n")
    (p.text_is ∙ (append_assoc (codes "call " ++ decimal callee) (wires_text wires) (codes "\n") ∙ (append_assoc (codes "call ") (decimal callee) (wires_text wires ++ codes "\n")
    ∙ ap (λ (z : List ℕ). codes "call " ++ z) (sym (append_assoc (decimal callee) (wires_text wires) (codes "\n"))))))

pub other_gate_rest : (q c : ℕ) (line : List ℕ) (g : Gate) (rest : List ℕ) → GateFront (counts q c) line g rest → 0 < length rest → (h : Gate) → GateFront (counts q c) line h [] → ⊥
other_gate_rest q c line g rest p some h r =
    let same = (line_one_way g h rest [] p.gate.has_line r.gate.has_line (sym p.joined ∙ r.joined)).1 in omega (arith, some, ap length same)

-- OPERANDS OF CALLS
pub record OperandsRead (q c : ℕ) (bytes rest : List ℕ) (ws : List Wire) : Type 0 where
  pub joined : bytes ≡ wires_text ws ++ rest
  pub there : AreThere (counts q c) ws
  pub some : 0 < length ws
  pub only : (vs : List Wire) → AreThere (counts q c) vs → bytes ≡ wires_text vs ++ codes "\n" →
      (us : List Wire) × (vs ≡ ws ++ us) × AreThere (counts q c) us × (rest ≡ after_commas (map wire_text us) ++ codes "\n")

pub wires_parts : (w : Wire) (ws : List Wire) (x : List ℕ) → wires_text (w ∷ ws) ++ x ≡ 32 ∷ (wire_text w ++ (after_commas (map wire_text ws) ++ x))
wires_parts w ws x = ap (λ (t : List ℕ). 32 ∷ t) (ap (λ (t : List ℕ). t ++ x) (joined_by_commas (wire_text w) (map wire_text ws)) ∙ append_assoc (wire_text w) (after_commas (map wire_text ws)) x)

pub operands_end : (us : List Wire) → EndsNumber (after_commas (map wire_text us) ++ codes "\n")
operands_end [] = refl
operands_end (u ∷ us) = refl

pub operands_begin : (q c : ℕ) (bytes after_space : List ℕ) (w : Wire) (rest : List ℕ) → q < 2 ^ 32 → c < 2 ^ 32 → bytes ≡ codes " " ++ after_space → WireFront (counts q c) after_space w rest →
    OperandsRead q c bytes rest (w ∷ [])
operands_begin q c bytes after_space w rest a b is p = record {
  joined = is ∙ (ap (λ (z : List ℕ). 32 ∷ z) p.joined ∙ sym (wires_parts w [] rest));
  there = (p.there, tt);
  some = omega arith;
  only = only;
}
  where
    only : (vs : List Wire) → AreThere (counts q c) vs → bytes ≡ wires_text vs ++ codes "\n" →
        (us : List Wire) × (vs ≡ (w ∷ []) ++ us) × AreThere (counts q c) us × (rest ≡ after_commas (map wire_text us) ++ codes "\n")
    only [] there same = absurd (let clash : 32 ≡ 10 = head_is 32 10 after_space [] (sym is ∙ same) in omega (arith, clash))
    only (v ∷ us) there same =
        let inner : after_space ≡ wire_text v ++ (after_commas (map wire_text us) ++ codes "\n") = tail_is 32 32 after_space _ (sym is ∙ (same ∙ wires_parts v us (codes "\n"))) in
        let r = one_wire q c after_space w v rest (after_commas (map wire_text us) ++ codes "\n") a b p (record { joined = inner; there = there.0; ends = operands_end us }) in
        (us, ap (λ (z : Wire). z ∷ us) (sym r.0), there.1, r.1)

wires_more : (w : Wire) (ws : List Wire) (v : Wire) (after : List ℕ) → wires_text (w ∷ ws) ++ 44 ∷ (wire_text v ++ after) ≡ wires_text (w ∷ (ws ++ v ∷ [])) ++ after
wires_more w ws v after =
    wires_parts w ws (44 ∷ (wire_text v ++ after))
    ∙ (ap (λ (z : List ℕ). 32 ∷ (wire_text w ++ z)) (sym (append_assoc (after_commas (map wire_text ws)) (44 ∷ wire_text v) after) ∙ ap (λ (z : List ℕ). z ++ after) (more_commas ws))
    ∙ sym (wires_parts w (ws ++ v ∷ []) after))
  where
    more_commas : (ws : List Wire) → after_commas (map wire_text ws) ++ 44 ∷ wire_text v ≡ after_commas (map wire_text (ws ++ v ∷ []))
    more_commas [] = sym (append-nil (44 ∷ wire_text v))
    more_commas (u ∷ us) = append_assoc (44 ∷ wire_text u) (after_commas (map wire_text us)) (44 ∷ wire_text v) ∙ ap (λ (z : List ℕ). 44 ∷ wire_text u ++ z) (more_commas us)

there_more : (q c : ℕ) (ws : List Wire) (v : Wire) → AreThere (counts q c) ws → IsThere (counts q c) v → AreThere (counts q c) (ws ++ v ∷ [])
there_more q c [] v there here = (here, tt)
there_more q c (w ∷ ws) v there here = (there.0, there_more q c ws v there.1 here)

pub operands_more : (q c : ℕ) (bytes rest : List ℕ) (ws : List Wire) (v : Wire) (after : List ℕ) → q < 2 ^ 32 → c < 2 ^ 32 → OperandsRead q c bytes rest ws → NextWireFront (counts q c) rest v after →
    OperandsRead q c bytes after (ws ++ v ∷ [])
operands_more q c bytes rest [] v after a b p here = absurd (omega (arith, p.some))
operands_more q c bytes rest (w ∷ ws) v after a b p here = record {
  joined = p.joined ∙ (ap (λ (z : List ℕ). wires_text (w ∷ ws) ++ z) here.joined ∙ wires_more w ws v after);
  there = there_more q c (w ∷ ws) v p.there here.there;
  some = omega arith;
  only = only;
}
  where
    split : (us : List Wire) (vs : List Wire) → vs ≡ (w ∷ ws) ++ us → AreThere (counts q c) us → rest ≡ after_commas (map wire_text us) ++ codes "\n" →
        (others : List Wire) × (vs ≡ ((w ∷ ws) ++ v ∷ []) ++ others) × AreThere (counts q c) others × (after ≡ after_commas (map wire_text others) ++ codes "\n")
    split [] vs all there is = absurd (let clash : 44 ≡ 10 = head_is 44 10 (wire_text v ++ after) [] (sym here.joined ∙ is) in omega (arith, clash))
    split (u ∷ us) vs all there is =
        let r = one_next_wire q c rest v u after (after_commas (map wire_text us) ++ codes "\n") a b here
        (record { joined = is ∙ append_assoc (44 ∷ wire_text u) (after_commas (map wire_text us)) (codes "\n"); there = there.0; ends = operands_end us }) in
        (us, all ∙ (ap (λ (z : Wire). (w ∷ ws) ++ z ∷ us) (sym r.0) ∙ sym (append_assoc (w ∷ ws) (v ∷ []) us)), there.1, r.1)

    only : (vs : List Wire) → AreThere (counts q c) vs → bytes ≡ wires_text vs ++ codes "\n" →
        (us : List Wire) × (vs ≡ ((w ∷ ws) ++ v ∷ []) ++ us) × AreThere (counts q c) us × (after ≡ after_commas (map wire_text us) ++ codes "\n")
    only vs there same = let r = p.only vs there same in split r.0 vs r.1 r.2 r.3

-- no wire follows, so these are all
pub operands_all : (q c : ℕ) (bytes rest : List ℕ) (ws : List Wire) → OperandsRead q c bytes rest ws → ((w : Wire) (more : List ℕ) → NextWireFront (counts q c) rest w more → ⊥) →
    (vs : List Wire) → AreThere (counts q c) vs → bytes ≡ wires_text vs ++ codes "\n" → (vs ≡ ws) × (rest ≡ codes "\n")
operands_all q c bytes rest ws p none vs there same = let r = p.only vs there same in last r.0 r.1 r.2 r.3
  where
    last : (us : List Wire) → vs ≡ ws ++ us → AreThere (counts q c) us → rest ≡ after_commas (map wire_text us) ++ codes "\n" → (vs ≡ ws) × (rest ≡ codes "\n")
    last [] all there is = (all ∙ append-nil ws, is)
    last (u ∷ us) all there is = absurd (none u (after_commas (map wire_text us) ++ codes "\n")
        (record { joined = is ∙ append_assoc (44 ∷ wire_text u) (after_commas (map wire_text us)) (codes "\n"); there = there.0; ends = operands_end us }))

-- CALLS
pub record IsCallOf (modules : List Module) (wires : Numbers) (call : List ℕ) : Type 0 where
  pub callee : ℕ
  pub operands : List Wire
  pub call_is : call ≡ decimal callee ++ (wires_text operands ++ codes "\n")
  pub fits : WiresFit wires operands
  pub known : CallFits modules callee operands

call_behind : (call : List ℕ) (callee : ℕ) (ws : List Wire) → codes "call " ++ call ≡ call_line callee ws → call ≡ decimal callee ++ (wires_text ws ++ codes "\n")
call_behind call callee ws is = append_cancel (codes "call ") call (decimal callee ++ (wires_text ws ++ codes "\n"))
    (is ∙ (append_assoc (codes "call " ++ decimal callee) (wires_text ws) (codes "\n") ∙ append_assoc (codes "call ") (decimal callee) (wires_text ws ++ codes "\n")))

call_of_step : (modules : List Module) (wires : Numbers) (call : List ℕ) (step : Step) → ReadsStep modules wires (codes "call " ++ call) step → IsCallOf modules wires call
call_of_step modules wires call (Apply g) p = absurd (not_gate g 99 (codes "all " ++ call) (omega arith) (sym p.text_is))
call_of_step modules wires call (Enter callee ws) p = record { callee = callee; operands = ws; call_is = call_behind call callee ws p.text_is; fits = p.fits; known = p.call }

pub call_ends : (ws : List Wire) → EndsNumber (wires_text ws ++ codes "\n")
call_ends [] = refl
call_ends (w ∷ ws) = refl

pub known_small : (modules : List Module) (callee : ℕ) (ws : List Wire) → length modules ≤ 65536 → CallFits modules callee ws → callee < 2 ^ 64
known_small modules callee ws few known = omega (arith, few, callee_there (λ (m : Module). map class_of ws ≡ param_classes m.key) modules callee known)

pub no_call-number : (modules : List Module) (wires : Numbers) (call : List ℕ) → length modules ≤ 65536 →
    ((number : ℕ) (more : List ℕ) → number < 2 ^ 64 → EndsNumber more → call ≡ decimal number ++ more → ⊥) → (step : Step) → ReadsStep modules wires (codes "call " ++ call) step → ⊥
no_call-number modules wires call few none step p =
    let r = call_of_step modules wires call step p in
    none r.callee (wires_text r.operands ++ codes "\n") (known_small modules r.callee r.operands few r.known) (call_ends r.operands) r.call_is

pub call_there : (modules : List Module) (wires : Numbers) (call rest : List ℕ) (found : ℕ) → length modules ≤ 65536 → call ≡ decimal found ++ rest → found < 2 ^ 64 → EndsNumber rest →
    (step : Step) → ReadsStep modules wires (codes "call " ++ call) step → (ws : List Wire) × (rest ≡ wires_text ws ++ codes "\n") × WiresFit wires ws × CallFits modules found ws
call_there modules wires call rest found few is small ends step p =
    let r = call_of_step modules wires call step p in
    let same = number_unique r.callee found (wires_text r.operands ++ codes "\n") rest (known_small modules r.callee r.operands few r.known) small (call_ends r.operands) ends (sym r.call_is ∙ is) in
    (r.operands, sym same.1, r.fits, subst (λ (z : ℕ). CallFits modules z r.operands) same.0 r.known)

pub call_read : (modules : List Module) (wires : Numbers) (call rest : List ℕ) (found : ℕ) (ws : List Wire) → call ≡ decimal found ++ rest → rest ≡ wires_text ws ++ codes "\n" →
    AreThere wires ws → AreDistinct ws → CallFits modules found ws → ReadsStep modules wires (codes "call " ++ call) (Enter found ws)
call_read modules wires call rest found ws first second there apart known = record {
  text_is = ap (λ (z : List ℕ). codes "call " ++ z) (first ∙ ap (λ (z : List ℕ). decimal found ++ z) second)
      ∙ (sym (append_assoc (codes "call ") (decimal found) (wires_text ws ++ codes "\n")) ∙ sym (append_assoc (codes "call " ++ decimal found) (wires_text ws) (codes "\n")));
  fits = record { distinct = apart; there = there };
  in_range = tt;
  call = known;
}

pub earlier_clash : (ws : List Wire) (i : ℕ) → StandsEarlier ws i → AreDistinct ws → ⊥
earlier_clash ws i p apart =
    let d : Wire = record { class = Q; number = 0 } in
    let same : get_or ws p.0 d ≡ get_or ws i d = sym (unwrap_or-slice_get ws p.0 d) ∙ (ap (λ (z : Option Wire). unwrap_or z d) p.3 ∙ unwrap_or-slice_get ws i d) in
    let e = place_of_wire ws apart p.0 i d d (omega (arith, p.1, p.2)) p.2 same in
    omega (arith, e, p.1)

-- ITEMS
is_true : (b : Bool) → ((b ≡ false) → true ≡ false) → b ≡ true
is_true true h = refl
is_true false h = absurd (true≢false (h refl))

item_cases : (turns : Bool) (modules : List Module) (wires : Numbers) (line : List ℕ) (i : Item) → ItemText i line → IsNextItem turns modules wires i →
    ((class : Class) (kept : ℕ) → ReadsFresh line class kept → ⊥) → ((step : Step) → ReadsStep modules wires line step → ⊥) →
    ((n : ℕ) (rest : List ℕ) (step : Step) → turns ≡ true → 2 ≤ n → n < 2 ^ 64 → line ≡ repeat_line n rest → ReadsStep modules wires rest step → ⊥) → ⊥
item_cases turns modules wires line (item.Fresh class n) is p fresh once again = fresh class (cut_number n) (record { number = n; text_is = is; some = p.fits; kept_is = refl })
item_cases turns modules wires line (item.Gate g) is p fresh once again = once (Apply g) (record { text_is = is; fits = p.fits; in_range = p.in_range; call = tt })
item_cases turns modules wires line (item.Call callee ws) is p fresh once again = once (Enter callee ws) (record { text_is = is; fits = p.fits; in_range = tt; call = p.call })
item_cases turns modules wires line (item.Gates g n) is p fresh once again =
    again n (gate_line g) (Apply g) (is_true turns p.version) p.fits.1 p.in_range.1 is (record { text_is = refl; fits = p.fits.0; in_range = p.in_range.0; call = tt })
item_cases turns modules wires line (item.Calls callee ws n) is p fresh once again =
    again n (call_line callee ws) (Enter callee ws) (is_true turns p.version) p.fits.1 p.in_range is (record { text_is = refl; fits = p.fits.0; in_range = tt; call = p.call })

pub no_item : (turns : Bool) (modules : List Module) (wires : Numbers) (line : List ℕ) →
    ((class : Class) (kept : ℕ) → ReadsFresh line class kept → ⊥) → ((step : Step) → ReadsStep modules wires line step → ⊥) →
    ((n : ℕ) (rest : List ℕ) (step : Step) → turns ≡ true → 2 ≤ n → n < 2 ^ 64 → line ≡ repeat_line n rest → ReadsStep modules wires rest step → ⊥) →
    (kept : ItemLine) → ReadsItem turns modules wires line kept → ⊥
no_item turns modules wires line fresh once again kept p = item_cases turns modules wires line p.item p.text_is p.item_is fresh once again

pub fresh_item : (turns : Bool) (modules : List Module) (wires : Numbers) (line : List ℕ) (class : Class) (kept : ℕ) → ReadsFresh line class kept → ReadsItem turns modules wires line (Fresh class kept)
fresh_item turns modules wires line class kept p = record {
  item = item.Fresh class p.number;
  text_is = p.text_is;
  item_is = record { fits = p.some; in_range = tt; call = tt; version = λ e. refl };
  kept_is = ap (item.Fresh class) p.kept_is;
}

pub once_item : (turns : Bool) (modules : List Module) (wires : Numbers) (line : List ℕ) (step : Step) → ReadsStep modules wires line step → ReadsItem turns modules wires line (Once step)
once_item turns modules wires line (Apply g) p = record {
  item = item.Gate g;
  text_is = p.text_is;
  item_is = record { fits = p.fits; in_range = p.in_range; call = tt; version = λ e. refl };
  kept_is = refl;
}
once_item turns modules wires line (Enter callee ws) p = record {
  item = item.Call callee ws;
  text_is = p.text_is;
  item_is = record { fits = p.fits; in_range = tt; call = p.call; version = λ e. refl };
  kept_is = refl;
}

pub repeated_line : (turns : Bool) (modules : List Module) (wires : Numbers) (line rest : List ℕ) (n : ℕ) (step : Step) → turns ≡ true → line ≡ repeat_line n rest → 2 ≤ n → n < 2 ^ 64 →
    ReadsStep modules wires rest step → ReadsItem turns modules wires line (Repeated step n)
repeated_line turns modules wires line rest n (Apply g) on is two small p = record {
  item = item.Gates g n;
  text_is = is ∙ ap (repeat_line n) p.text_is;
  item_is = record { fits = (p.fits, two); in_range = (p.in_range, small); call = tt; version = λ e. absurd (true≢false (sym on ∙ e)) };
  kept_is = refl;
}
repeated_line turns modules wires line rest n (Enter callee ws) on is two small p = record {
  item = item.Calls callee ws n;
  text_is = is ∙ ap (repeat_line n) p.text_is;
  item_is = record { fits = (p.fits, two); in_range = small; call = p.call; version = λ e. absurd (true≢false (sym on ∙ e)) };
  kept_is = refl;
}

-- a repeat line is no line of a step, and it repeats one line
pub repeat_or_once : (modules : List Module) (wires : Numbers) (line rest : List ℕ) (n : ℕ) → line ≡ repeat_line n rest → (step : Step) → ReadsStep modules wires line step → ⊥
repeat_or_once modules wires line rest n is (Apply g) p = not_gate g 114 (codes "epeat " ++ decimal n ++ codes " " ++ rest) (omega arith) (sym p.text_is ∙ is)
repeat_or_once modules wires line rest n is (Enter callee ws) p =
    let clash : 99 ≡ 114 = head_is 99 114 (codes "all " ++ decimal callee ++ wires_text ws ++ codes "\n") (codes "epeat " ++ decimal n ++ codes " " ++ rest) (sym p.text_is ∙ is) in omega (arith, clash)

repeats_one_way : (line rest more : List ℕ) (m n : ℕ) → m < 2 ^ 64 → n < 2 ^ 64 → line ≡ repeat_line m rest → line ≡ repeat_line n more → (m ≡ n) × (32 ∷ rest ≡ 32 ∷ more)
repeats_one_way line rest more m n small few p q =
    let other = behind_repeat line (decimal m ++ 32 ∷ rest) n more (p ∙ (append_assoc (codes "repeat " ++ decimal m) (codes " ") rest ∙ append_assoc (codes "repeat ") (decimal m) (32 ∷ rest))) q in
    number_unique m n (32 ∷ rest) (32 ∷ more) small few refl refl other

pub one_repeat : (line rest more : List ℕ) (m n : ℕ) → m < 2 ^ 64 → n < 2 ^ 64 → line ≡ repeat_line m rest → line ≡ repeat_line n more → rest ≡ more
one_repeat line rest more m n small few p q = tail_is 32 32 rest more (repeats_one_way line rest more m n small few p q).1

pub repeat_turns : (line rest more : List ℕ) (m n : ℕ) → m < 2 ^ 64 → n < 2 ^ 64 → line ≡ repeat_line m rest → line ≡ repeat_line n more → m ≡ n
repeat_turns line rest more m n small few p q = (repeats_one_way line rest more m n small few p q).0

-- REPEATED OPERANDS
pub some_repeat : (r : Option ℕ) (ws : List Wire) → is_some r ≡ true → IfSome r (λ i. StandsEarlier ws i) → AreDistinct ws → ⊥
some_repeat None ws is p apart = true≢false (sym is)
some_repeat (Some i) ws is p apart = earlier_clash ws i p apart

pub no_repeat : (r : Option ℕ) (ws : List Wire) → is_some r ≡ false → IfNone r (AreDistinct ws) → AreDistinct ws
no_repeat None ws is p = p
no_repeat (Some i) ws is p = absurd (true≢false is)

pub same_some : (v w : List Wire) → Some v ≡ Some w → v ≡ w
same_some v w same = cc

pub is_none : (r : Option (List Wire)) (w : List Wire) → ((x : List Wire) → r ≡ Some x → ⊥) → r ≡ Some w → ⊥
is_none r w none same = none w same

pub known_late : (modules : List Module) (callee : ℕ) (ws : List Wire) → length modules ≤ callee → CallFits modules callee ws → ⊥
known_late modules callee ws late known = omega (arith, late, callee_there (λ (m : Module). map class_of ws ≡ param_classes m.key) modules callee known)

pub no_step_of : (modules : List Module) (wires : Numbers) (q c : ℕ) (line : List ℕ) → q ≡ wires.qubits → c ≡ wires.cbits → q < 2 ^ 32 → c < 2 ^ 32 → ((more : List ℕ) → line ≡ codes "call " ++ more → ⊥) →
    ((g : Gate) → GateFront (counts q c) line g [] → ⊥) → (step : Step) → ReadsStep modules wires line step → ⊥
no_step_of modules wires q c line q_is c_is a b no_call no_gate step p =
    no_step modules q c line a b no_call no_gate step (subst (λ (z : Numbers). ReadsStep modules z line step) (λ i. record { qubits = (sym q_is) i; cbits = (sym c_is) i }) p)
