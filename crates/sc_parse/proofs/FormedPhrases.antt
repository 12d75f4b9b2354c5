-- What is built from formed parts is formed.
use Rattle.std.proofs.Common.{ℕ, ◌≤◌, List, [], ◌∷◌, ◌++◌, arith}
use Rattle.sc_syntax.specs.declared.Module.{Module as ModuleTree}
use Rattle.sc_syntax.specs.declared.WordFn.{WordFn}
use Rattle.sc_syntax.specs.Formed.{IsFormedExpr, IsFormedDecl, IsFormedInit, IsFormedStmt, IsFormedParam, IsFormedModule}
use Rattle.sc_syntax.specs.FormedWords.{max_items, IsFormedWordParam, IsFormedBind, IsFormedWordFn}
use Rattle.sc_syntax.proofs.FormedRows.{block_is_formed}
use Rattle.sc_parse.specs.Form.{Symbol}
use Rattle.sc_parse.specs.Trees.{Tree, name, width, expr, decl, init, stmt, param, word_expr, word_param, bind, each}
use Rattle.sc_parse.specs.Derives.{Builds, name_is, main_name_is, width_is, wire_is, num_is, int_is, decimal_is, named_is, index_is, paren_is, unary_is, prim_is, operand_is, chain_is, or_is, pick_is, decl_is, init_is, meas_is, set_is, stepped_is, step_is, measured_is, setting_is, call_is, gate_is, start_numbers, start_set, wires_is, numbers_is, done_is, empty_is, block_is, if_is, if_else_is, while_is, for_is, one_is, pointer_is, array_is, int_param_is, double_param_is, module_is, word_int_is, word_name_is, word_paren_is, ext_is, low_is, not_is, word_prim_is, word_operand_is, word_chain_is, word_sum_is, shift_is, word_or_is, word_pick_is, single_is, word_param_is, bind_is, words_is}
use Rattle.sc_parse.proofs.FormedTrees.{AreFormedTrees, weights, IsMade, AreHeld, kept_held, formed_front, formed_rest, weights-append, list_formed, option_formed, binds_weigh}
use Rattle.sc_parse.proofs.FormedParts.{Known}
use Rattle.sc_parse.proofs.FormedChains.{chain_formed, word_chain_formed, word_chain_light, shifts_are_formed, shift_weighs}
use Rattle.sc_parse.proofs.FormedSteps.{name_fits, int_fits, decimal_fits, one_fits, set_value, step_value, measuring, measured_formed, for_formed}

module_formed : (x : ModuleTree) (n : ℕ) → AreHeld (name x.name ∷ (each param x.params ++ each stmt x.body)) n → n ≤ max_items → IsFormedModule x
module_formed x n h small =
    let sum = weights-append (each param x.params) (each stmt x.body) in
    let light = h.light in
    record {
      name = h.formed.0;
      params = list_formed param IsFormedParam (λ y f. f) x.params (formed_front (each param x.params) (each stmt x.body) h.formed.1) (omega arith);
      body = list_formed stmt IsFormedStmt (λ y f. f) x.body (formed_rest (each param x.params) (each stmt x.body) h.formed.1) (omega arith);
    }

abbrev word_trees : WordFn → List Tree
word_trees f = each word_param f.params ++ width f.width ∷ (each bind f.binds ++ word_expr f.result ∷ [])

words_formed : (f : WordFn) (n : ℕ) → AreHeld (name f.name ∷ word_trees f) n → n ≤ max_items → IsFormedWordFn f
words_formed f n h small =
    let later : List Tree = width f.width ∷ (each bind f.binds ++ word_expr f.result ∷ []) in
    let sum = weights-append (each word_param f.params) later in
    let more = weights-append (each bind f.binds) (word_expr f.result ∷ []) in
    let binds = binds_weigh f.binds in
    let light = h.light in
    let rest = formed_rest (each word_param f.params) later h.formed.1 in
    record {
      name = h.formed.0;
      params = list_formed word_param IsFormedWordParam (λ y f. f) f.params (formed_front (each word_param f.params) later h.formed.1) (omega arith);
      width = rest.0;
      binds = list_formed bind IsFormedBind (λ y f. f) f.binds (formed_front (each bind f.binds) (word_expr f.result ∷ []) rest.1) (omega arith);
      result = (formed_rest (each bind f.binds) (word_expr f.result ∷ []) rest.1).0;
      small = omega arith;
    }

pub builds_formed : {s : Symbol} {vs : List Tree} {v : Tree} → Builds s vs v → Known s vs → AreFormedTrees vs → weights vs ≤ max_items → IsMade vs v
builds_formed (name_is {t = t}) k all small = record { formed = name_fits t.token.sort t.text k all.0; light = omega arith }
builds_formed (main_name_is {t = t}) k all small = record { formed = name_fits t.token.sort t.text k all.0; light = omega arith }
builds_formed (width_is {t = t} {n = n} e) k all small = record { formed = int_fits t.token.sort t.text n e all.0; light = omega arith }
builds_formed (wire_is e f) k all small = record { formed = tt; light = omega arith }
builds_formed (num_is e f) k all small = record { formed = tt; light = omega arith }
builds_formed (int_is {t = t} {n = n} e) k all small = record { formed = int_fits t.token.sort t.text n e all.0; light = omega arith }
builds_formed (decimal_is {t = t} {d = d} e) k all small = record { formed = decimal_fits t.token.sort t.text d e all.0; light = omega arith }
builds_formed (named_is {vs = vs} e) k all small = let h = kept_held vs e all in let l = h.light in record { formed = h.formed.0; light = omega arith }
builds_formed (index_is {vs = vs} e) k all small = let h = kept_held vs e all in let l = h.light in record { formed = (h.formed.0, h.formed.1.0); light = omega arith }
builds_formed paren_is k all small = record { formed = all.1.0; light = omega arith }
builds_formed (unary_is e f) k all small = record { formed = all.1.0; light = omega arith }
builds_formed prim_is k all small = record { formed = all.0; light = omega arith }
builds_formed (operand_is l) k all small = record { formed = all.0; light = omega arith }
builds_formed (chain_is l {e = e} ls linked some) k all small = record { formed = chain_formed l e ls linked some all.0 all.1 (omega arith); light = omega arith }
builds_formed or_is k all small = record { formed = all.0; light = omega arith }
builds_formed pick_is k all small = record { formed = (all.0, all.1.1.0, all.1.1.1.1.0); light = omega arith }
builds_formed (decl_is {vs = vs} {d = d} e) k all small = let h = kept_held vs e all in let l = h.light in record { formed = (h.formed.0, option_formed d.size h.formed.1); light = omega arith }
builds_formed (init_is {vs = vs} {i = i} e) k all small = let h = kept_held vs e all in let l = h.light in record { formed = (h.formed.0, option_formed i.start h.formed.1); light = omega arith }
builds_formed (meas_is {vs = vs} {g = g} {o = o} e f i) k all small = let h = kept_held vs i all.1 in record { formed = (measuring g f, (h.formed.0, option_formed o.index h.formed.1)); light = omega arith }
builds_formed (set_is {m = m} {o = o} {e = e} i f) k all small = record { formed = (all.0, set_value m o e f all.1.1.0); light = omega arith }
builds_formed (stepped_is {m = m} {o = o} i f) k all small = record { formed = (all.0, step_value m o f); light = omega arith }
builds_formed (step_is {m = m} {o = o} i f) k all small = record { formed = (all.1.0, step_value m o f); light = omega arith }
builds_formed (measured_is {vs = vs} {n = n} {i = i} {g = g} {o = o} e) k all small = let h = kept_held vs e all in let l = h.light in record { formed = measured_formed n i g o h.formed; light = omega arith }
builds_formed (setting_is b) k all small = let made = builds_formed b tt all small in record { formed = made.formed; light = made.light }
builds_formed (call_is {vs = vs} {es = es} i e) k all small = let h = kept_held vs e all.1.1 in let l = h.light in record { formed = (all.0, list_formed expr IsFormedExpr (λ y f. f) es h.formed (omega arith)); light = omega arith }
builds_formed (gate_is {vs = vs} {es = es} i e) k all small = let h = kept_held vs e all.1 in let l = h.light in record { formed = (tt, list_formed expr IsFormedExpr (λ y f. f) es h.formed (omega arith)); light = omega arith }
builds_formed (start_numbers {vs = vs} {is = is} e) k all small = let h = kept_held vs e all in let l = h.light in record { formed = list_formed init IsFormedInit (λ y f. f) is h.formed.1 (omega arith); light = omega arith }
builds_formed start_set k all small = record { formed = all.0; light = omega arith }
builds_formed (wires_is {vs = vs} {ds = ds} e) k all small = let h = kept_held vs e all in let l = h.light in record { formed = list_formed decl IsFormedDecl (λ y f. f) ds h.formed.1 (omega arith); light = omega arith }
builds_formed (numbers_is {vs = vs} {is = is} e) k all small = let h = kept_held vs e all in let l = h.light in record { formed = list_formed init IsFormedInit (λ y f. f) is h.formed.1 (omega arith); light = omega arith }
builds_formed done_is k all small = record { formed = all.0; light = omega arith }
builds_formed (empty_is i) k all small = record { formed = tt; light = omega arith }
builds_formed (block_is {vs = vs} ss i e) k all small = let h = kept_held vs e all.1 in let l = h.light in record { formed = block_is_formed ss (list_formed stmt IsFormedStmt (λ y f. f) ss.items h.formed (omega arith)); light = omega arith }
builds_formed (if_is {vs = vs} i e) k all small = let h = kept_held vs e all.1 in record { formed = (h.formed.0, h.formed.1.0, tt); light = omega arith }
builds_formed (if_else_is {vs = vs} i e) k all small = let h = kept_held vs e all.1 in record { formed = (h.formed.0, h.formed.1.0, h.formed.1.1.0); light = omega arith }
builds_formed (while_is {vs = vs} i e) k all small = let h = kept_held vs e all.1 in record { formed = (h.formed.0, h.formed.1.0); light = omega arith }
builds_formed (for_is t u v w x a c b s i) k all small = record { formed = for_formed t.token.place t u v w x a c b s k all; light = omega arith }
builds_formed one_is k all small = record { formed = (all.1.0, tt); light = omega arith }
builds_formed pointer_is k all small = record { formed = (all.1.1.0, tt); light = omega arith }
builds_formed (array_is {vs = vs} {e = e} i) k all small = let h = kept_held vs i all.1.1.1 in record { formed = (all.1.0, option_formed e h.formed); light = omega arith }
builds_formed int_param_is k all small = record { formed = (all.1.0, tt); light = omega arith }
builds_formed double_param_is k all small = record { formed = (all.1.0, tt); light = omega arith }
builds_formed (module_is {vs = vs} {x = x} e) k all small = let h = kept_held vs e all in let l = h.light in record { formed = module_formed x (weights vs) h small; light = omega arith }
builds_formed (word_int_is {t = t} {n = n} e) k all small = record { formed = int_fits t.token.sort t.text n e all.0; light = omega arith }
builds_formed (word_name_is {t = t} e) k all small = record { formed = name_fits t.token.sort t.text e all.0; light = omega arith }
builds_formed word_paren_is k all small = record { formed = all.1.0; light = omega arith }
builds_formed (ext_is e) k all small = record { formed = (all.1.1.0, all.1.1.1.1.0); light = omega arith }
builds_formed (low_is e) k all small = record { formed = (all.1.1.0, all.1.1.1.1.0); light = omega arith }
builds_formed not_is k all small = record { formed = all.1.0; light = omega arith }
builds_formed word_prim_is k all small = record { formed = all.0; light = omega arith }
builds_formed (word_operand_is l) k all small = record { formed = all.0; light = omega arith }
builds_formed (word_chain_is l {e = e} ls linked some) k all small =
    let l' = word_chain_light l e ls linked some in record { formed = word_chain_formed l e ls linked some all.0 all.1 (omega arith); light = omega arith }
builds_formed word_sum_is k all small = record { formed = all.0; light = omega arith }
builds_formed (shift_is linked some) k all small =
    let one = shift_weighs linked some in record { formed = (all.0, shifts_are_formed linked all.1 (omega arith)); light = omega arith }
builds_formed word_or_is k all small = record { formed = all.0; light = omega arith }
builds_formed word_pick_is k all small = record { formed = (all.0, all.1.1.0, all.1.1.1.1.0); light = omega arith }
builds_formed single_is k all small = record { formed = (all.0, one_fits); light = omega arith }
builds_formed (word_param_is {vs = vs} e) k all small = let h = kept_held vs e all in let l = h.light in record { formed = (h.formed.0, h.formed.1.0); light = omega arith }
builds_formed (bind_is {vs = vs} e) k all small = let h = kept_held vs e all in let l = h.light in record { formed = (h.formed.0, h.formed.1.0); light = omega arith }
builds_formed (words_is {vs = vs} {f = f} e) k all small = let h = kept_held vs e all in let l = h.light in record { formed = words_formed f (weights vs) h small; light = omega arith }
