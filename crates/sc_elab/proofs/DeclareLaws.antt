-- Declared wires, one name after another.
use Rattle.std.proofs.Common.{◌≡◌, ℕ, ◌+◌, ◌<◌, List, [], ◌∷◌, length, get_or, drop, Result, Ok, Err, sym, ap, ◌∙◌}
use Rattle.std.specs.Prelude.{ℤ, map, option_map}
use Rattle.sc_base.specs.declared.Class.{Class}
use Rattle.sc_syntax.specs.declared.Decl.{Decl}
use Rattle.sc_syntax.specs.declared.Init.{Init}
use Rattle.sc_syntax.specs.declared.NumSort.{NumSort}
use Rattle.sc_syntax.specs.Alike.{pure_expr, pure_decl, pure_init}
use Rattle.sc_value.specs.declared.Value.{Value}
use Rattle.sc_meaning.specs.declared.fault.ElabFault.{ElabFault}
use Rattle.sc_meaning.specs.Outcomes.{Outcome, Stopped, then_do, given}
use Rattle.sc_meaning.specs.Run.{size_of, make_wires, declare_wires, declare_numbers}
use Rattle.sc_meaning.specs.States.{State, with_number}
use Rattle.sc_meaning.specs.Values.{start_value}
use Rattle.sc_elab.proofs.Holding.{next_of}

-- the size of the next name has a fault
pub wires_fault : (c : Class) (decls : List Decl) (i : ℕ) (d : Decl) (fault : ElabFault) (s : State) → i < length decls → d ≡ get_or decls i d
    → size_of s.numbers (option_map pure_expr d.size) ≡ Err fault → declare_wires c (map pure_decl (drop i decls)) s ≡ Stopped [] fault
wires_fault c decls i d fault s h is sized =
    let more : State → Outcome State = declare_wires c (map pure_decl (drop (i + 1) decls)) in
    ap (λ (ds : List Decl). declare_wires c (map pure_decl ds) s) (next_of decls i d h)
    ∙ ap (λ (x : Decl). declare_wires c (pure_decl x ∷ map pure_decl (drop (i + 1) decls)) s) (sym is)
    ∙ ap (λ (r : Result ℤ ElabFault). then_do (given r (λ n. make_wires c d.name n s)) more) sized

-- the start value of the next number has a fault
pub numbers_fault : (sort : NumSort) (inits : List Init) (i : ℕ) (d : Init) (fault : ElabFault) (s : State) → i < length inits → d ≡ get_or inits i d
    → start_value s.numbers sort (option_map pure_expr d.start) ≡ Err fault → declare_numbers sort (map pure_init (drop i inits)) s ≡ Stopped [] fault
numbers_fault sort inits i d fault s h is started =
    let more : State → Outcome State = declare_numbers sort (map pure_init (drop (i + 1) inits)) in
    ap (λ (ds : List Init). declare_numbers sort (map pure_init ds) s) (next_of inits i d h)
    ∙ ap (λ (x : Init). declare_numbers sort (pure_init x ∷ map pure_init (drop (i + 1) inits)) s) (sym is)
    ∙ ap (λ (r : Result Value ElabFault). given r (λ x. more (with_number d.name.text x s))) started

-- the next name, and then the others
pub wires_next : (c : Class) (decls : List Decl) (i : ℕ) (d : Decl) (size : ℤ) (s : State) → i < length decls → d ≡ get_or decls i d
    → size_of s.numbers (option_map pure_expr d.size) ≡ Ok size
    → declare_wires c (map pure_decl (drop i decls)) s ≡ then_do (make_wires c d.name size s) (declare_wires c (map pure_decl (drop (i + 1) decls)))
wires_next c decls i d size s h is sized =
    let more : State → Outcome State = declare_wires c (map pure_decl (drop (i + 1) decls)) in
    ap (λ (ds : List Decl). declare_wires c (map pure_decl ds) s) (next_of decls i d h)
    ∙ ap (λ (x : Decl). declare_wires c (pure_decl x ∷ map pure_decl (drop (i + 1) decls)) s) (sym is)
    ∙ ap (λ (r : Result ℤ ElabFault). then_do (given r (λ n. make_wires c d.name n s)) more) sized
