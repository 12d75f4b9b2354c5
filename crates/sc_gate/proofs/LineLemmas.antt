-- Lines from their parts.
use Rattle.std.proofs.Common.{◌≡◌, ℕ, Option, List, [], ◌∷◌, ◌++◌, sym, ap, ◌∙◌, append_assoc}
use Rattle.std.proofs.lemmas.List.{append-nil, map-append}
use Rattle.std.proofs.lemmas.Grind.{flat_map-append}
use Rattle.std.specs.Prelude.{map, option_to_list, codes}
use Rattle.std.specs.List.{join_with_byte}
use Rattle.sc_gate.specs.declared.gate.Gate.{Gate}
use Rattle.sc_gate.specs.declared.gate.Wire.{Wire}
use Rattle.sc_base.specs.GateNames.{gate_text}
use Rattle.sc_gate.specs.Gates.{name_of}
use Rattle.sc_gate.specs.Lines.{wire_text, value_texts, after_commas, gate_line}

-- the first text, and then the others with commas before them
pub joined_by_commas : (text : List ℕ) (texts : List (List ℕ)) → join_with_byte 44 (text ∷ texts) ≡ text ++ after_commas texts
joined_by_commas text [] = sym (append-nil text)
joined_by_commas text (next ∷ texts) = ap (λ rest. text ++ (44 ∷ rest)) (joined_by_commas next texts)

-- each with a comma, list by list
pub after_commas-append : (xs ys : List (List ℕ)) → after_commas (xs ++ ys) ≡ after_commas xs ++ after_commas ys
after_commas-append xs ys = flat_map-append (λ text. 44 ∷ text) xs ys

-- the parts after the first operand
rest_in_parts : (b c : Option Wire) (values : List (List ℕ)) →
    after_commas (map wire_text (option_to_list b ++ option_to_list c) ++ values)
    ≡ (after_commas (map wire_text (option_to_list b)) ++ after_commas (map wire_text (option_to_list c))) ++ after_commas values
rest_in_parts b c values =
    after_commas-append (map wire_text (option_to_list b ++ option_to_list c)) values
    ∙ ap (λ texts. after_commas texts ++ after_commas values) (map-append wire_text (option_to_list b) (option_to_list c))
    ∙ ap (λ text. text ++ after_commas values) (after_commas-append (map wire_text (option_to_list b)) (map wire_text (option_to_list c)))

-- a gate line, as it is composed
pub line_in_parts : (gate : Gate) →
    gate_line gate
    ≡ ((((((gate_text (name_of gate.kind) ++ codes " ") ++ wire_text gate.a) ++ after_commas (map wire_text (option_to_list gate.b))) ++ after_commas (map wire_text (option_to_list gate.c))) ++ after_commas (value_texts gate.kind)) ++ codes "\n")
line_in_parts gate =
    rw (joined_by_commas (wire_text gate.a) (map wire_text (option_to_list gate.b ++ option_to_list gate.c) ++ value_texts gate.kind), rest_in_parts gate.b gate.c (value_texts gate.kind))
    (simp append_assoc)
