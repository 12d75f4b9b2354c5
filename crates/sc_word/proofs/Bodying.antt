-- Parameters, bindings and the returned expression, one after the other.
use Rattle.std.proofs.Common.{◌≡◌, ◌≢◌, ℕ, suc, ◌+◌, ◌^◌, ◌<◌, Bool, true, is_none, if◌then◌else◌, List, [], ◌∷◌, ◌++◌, length, length-append, map, take, drop, get_or, drop-cons, Option, Some, None, Result, Err, refl, sym, ap, ◌∙◌, subst, append_assoc, arith}
use Rattle.std.specs.Prelude.{IfErr}
use Rattle.std.proofs.lemmas.Bool.{ltb-true, eqb-true}
use Rattle.std.proofs.lemmas.List.{map-append, take_more}
use Rattle.sc_base.specs.declared.Place.{Place}
use Rattle.sc_syntax.specs.declared.Bind.{Bind}
use Rattle.sc_syntax.specs.declared.WordParam.{WordParam}
use Rattle.sc_syntax.specs.Alike.{PureWordExpr, pure_word_expr, pure_bind}
use Rattle.sc_syntax.specs.declared.WordExpr.{WordExpr}
use Rattle.sc_word.specs.declared.operand.Form.{Form}
use Rattle.sc_word.specs.declared.operand.Form.TheVariants.{Bare, Wide}
use Rattle.sc_word.specs.declared.operand.Operand.{Operand}
use Rattle.sc_word.specs.declared.tree.TypedExpr.{TypedExpr}
use Rattle.sc_word.specs.declared.tree.WordFault.{WordFault}
use Rattle.sc_word.specs.declared.tree.WordFault.TheVariants.{Memory}
use Rattle.sc_word.specs.Words.{Words, named, number_of, widths_of, IsWidth, AreWidths}
use Rattle.sc_word.specs.Forms.{amount, own_width, form}
use Rattle.sc_word.specs.Checks.{Check, first_fault, is_new, in_bounds, no_literal, result_fits, param_word, bind_word, checks_params}
use Rattle.sc_word.specs.Typed.{TypesBinds, AreDeclared}
use Rattle.sc_word.specs.Pure.{PureTypedExpr, pure_typed, pure_typed_expr}
use Rattle.sc_word.specs.Operands.{or_else, fault_expr, fault_binds, form_of, with_width, word_of, WalkedWord, Bound, Returned, GoesOn, Declaring}
use Rattle.sc_word.proofs.Operating.{neither, passes, takes, takes_own, wide_own, Suits, types_width}
use Rattle.sc_word.proofs.Fitting.{areWidths-push}

pub suits_result : (p : Place) (f : Form) (w : ℕ) → IsWidth w → first_fault (result_fits p f w ∷ []) ≡ None → Suits f w
suits_result p (Bare v) w a h = record { width = a; fits = ltb-true v (2 ^ w) (passes (result_fits p (Bare v) w) [] h).0 }
suits_result p (Wide x) w a h = eqb-true x w (passes (result_fits p (Wide x) w) [] h).0

-- a binding is no bare literal
pub bound_word : (ws : Words) (e : PureWordExpr) (o : Operand) → WalkedWord ws e.place e.node o → first_fault (no_literal e.place (form_of o) ∷ []) ≡ None → Bound ws e (word_of o)
bound_word ws e o h none =
    let t = takes_own ws e.place e.place e.node o h none in
    record {
      fault = neither h.fault (subst (λ (f : Form). first_fault (no_literal e.place f ∷ []) ≡ None) h.form none);
      width = sym h.form ∙ wide_own e.place (form_of o) none ∙ ap Wide (sym t.width);
      tree = t.tree;
    }

pub returned_word : (ws : Words) (e : PureWordExpr) (o : Operand) (w : ℕ) → IsWidth w → WalkedWord ws e.place e.node o → first_fault (result_fits e.place (form_of o) w ∷ []) ≡ None → Returned ws e w (with_width w o)
returned_word ws e o w a h none =
    let t = takes ws e.place e.node o w h (suits_result e.place (form_of o) w a none) in
    record {
      fault = neither h.fault (subst (λ (f : Form). first_fault (result_fits e.place f w ∷ []) ≡ None) h.form none);
      width = t.width;
      tree = t.tree;
    }

skip : (c : Check) (cs : List Check) → c.passes ≡ true → first_fault (c ∷ cs) ≡ first_fault cs
skip c cs e = ap (λ (b : Bool). if b then first_fault cs else Some c.fault) e

pub is_none_none : (o : Option ℕ) → is_none o ≡ true → o ≡ None
is_none_none None h = refl
is_none_none (Some i) h = cc

pub params_more : (done rest all : List WordParam) (p : WordParam) (ws more : Words) (widths longer : List ℕ) (w : ℕ) → Declaring done (p ∷ rest) all ws widths
    → first_fault (is_new ws p.name ∷ []) ≡ None → first_fault (in_bounds p.width ∷ []) ≡ None → w ≡ amount p.width → IsWidth w
    → more ≡ ws ++ named p.name.text w ∷ [] → longer ≡ widths ++ w ∷ [] → Declaring (done ++ p ∷ []) rest all more longer
params_more done rest all p ws more widths longer w h fresh bounds e a m l =
    let new = (passes (is_new ws p.name) [] fresh).0 in
    let inside = (passes (in_bounds p.width) [] bounds).0 in
    let m' : more ≡ ws ++ param_word p ∷ [] = m ∙ ap (λ (x : ℕ). ws ++ named p.name.text x ∷ []) e in
    record {
      words = m' ∙ ap (λ (x : Words). x ++ param_word p ∷ []) h.words ∙ sym (map-append param_word done (p ∷ []));
      widths_are = l ∙ ap (λ (x : ℕ). widths ++ x ∷ []) e ∙ ap (λ (x : List ℕ). x ++ amount p.width ∷ []) h.widths_are ∙ sym (map-append (λ (q : WordParam). amount q.width) done (p ∷ []));
      bounds = subst (λ (x : Words). AreWidths (widths_of x)) (sym m) (areWidths-push ws (named p.name.text w) h.bounds a);
      declared = λ later. h.declared (is_none_none (number_of ws p.name.text) new, subst IsWidth e a, subst (λ (x : Words). AreDeclared x rest) m' later);
      fault = ap (λ (x : Words). first_fault (checks_params x rest)) m'
          ∙ sym (skip (is_new ws p.name) (in_bounds p.width ∷ checks_params (ws ++ param_word p ∷ []) rest) new ∙ skip (in_bounds p.width) (checks_params (ws ++ param_word p ∷ []) rest) inside)
          ∙ h.fault;
    }

pub none_left : (a b : Option WordFault) → or_else a b ≡ None → a ≡ None
none_left None b h = refl
none_left (Some f) b h = cc

pub none_right : (a b : Option WordFault) → or_else a b ≡ None → b ≡ None
none_right None b h = h
none_right (Some f) b h = cc

pub binds_more : (from ws more : Words) (all rest : List Bind) (b : Bind) (made longer : List TypedExpr) (t : TypedExpr) (result : WordExpr) (w : ℕ)
    → GoesOn from all made ws (b ∷ rest) result w → Bound ws (pure_word_expr b.value) t → first_fault (is_new ws b.name ∷ []) ≡ None
    → more ≡ ws ++ named b.name.text t.width ∷ [] → longer ≡ made ++ t ∷ [] → GoesOn from all longer more rest result w
binds_more from ws more all rest b made longer t result w h k fresh m l =
    let e : PureWordExpr = pure_word_expr b.value in
    let own : own_width (form ws e) ≡ t.width = ap own_width k.width in
    let first = none_left (fault_expr ws e) (first_fault (no_literal e.place (form ws e) ∷ [])) k.fault in
    let literal = (passes (no_literal e.place (form ws e)) [] (none_right (fault_expr ws e) (first_fault (no_literal e.place (form ws e) ∷ [])) k.fault)).0 in
    let two : first_fault (no_literal e.place (form ws e) ∷ is_new ws b.name ∷ []) ≡ None = skip (no_literal e.place (form ws e)) (is_new ws b.name ∷ []) literal ∙ fresh in
    let m' : more ≡ ws ++ bind_word ws (pure_bind b) ∷ [] = m ∙ ap (λ (x : ℕ). ws ++ named b.name.text x ∷ []) (sym own) in
    record {
      scope = subst (λ (x : Words). AreWidths (widths_of x)) (sym m) (areWidths-push ws (named b.name.text t.width) h.scope (types_width ws e.node t.width (pure_typed t.node) h.scope k.tree));
      count = omega (arith, h.count, ap length m, length-append ws (named b.name.text t.width ∷ []));
      fault = ap (λ (x : Words). fault_binds x rest result w) m'
          ∙ sym (ap (λ (x : Option WordFault). or_else x (or_else (first_fault (no_literal e.place (form ws e) ∷ is_new ws b.name ∷ [])) (fault_binds (ws ++ bind_word ws (pure_bind b) ∷ []) rest result w))) first
          ∙ ap (λ (x : Option WordFault). or_else x (fault_binds (ws ++ bind_word ws (pure_bind b) ∷ []) rest result w)) two)
          ∙ h.fault;
      trees = λ others last g. subst (λ (x : List PureTypedExpr). TypesBinds from (map pure_bind all) (pure_word_expr result) x last)
          (sym (ap (λ (x : List TypedExpr). map pure_typed_expr x ++ others) l ∙ ap (λ (x : List PureTypedExpr). x ++ others) (map-append pure_typed_expr made (t ∷ [])) ∙ append_assoc (map pure_typed_expr made) (pure_typed_expr t ∷ []) others))
          (h.trees (pure_typed_expr t ∷ others) last
          (k.tree, subst (λ (x : Words). TypesBinds x (map pure_bind rest) (pure_word_expr result) others last) m g, k.width, is_none_none (number_of ws b.name.text) (passes (is_new ws b.name) [] fresh).0));
    }

append-nil : (xs : List PureTypedExpr) → xs ++ [] ≡ xs
append-nil [] = refl
append-nil (x ∷ xs) = ap (λ l. x ∷ l) (append-nil xs)

pub binds_end : (from ws : Words) (all rest : List Bind) (made : List TypedExpr) (t : TypedExpr) (result : WordExpr) (w : ℕ)
    → GoesOn from all made ws rest result w → rest ≡ [] → Returned ws (pure_word_expr result) w t → TypesBinds from (map pure_bind all) (pure_word_expr result) (map pure_typed_expr made) (pure_typed_expr t)
binds_end from ws all rest made t result w h e k =
    subst (λ (x : List PureTypedExpr). TypesBinds from (map pure_bind all) (pure_word_expr result) x (pure_typed_expr t)) (append-nil (map pure_typed_expr made))
    (h.trees [] (pure_typed_expr t) (subst (λ (r : List Bind). TypesBinds ws (map pure_bind r) (pure_word_expr result) [] (pure_typed_expr t)) (sym e) k.tree))

pub exit : {T : Type 0} (r : Result T WordFault) (g : WordFault) (a : Option WordFault) → (y : WordFault) × (r ≡ Err y) × (y ≡ g) → (g ≢ Memory → a ≡ Some g) → IfErr r (λ f. f ≢ Memory → a ≡ Some f)
exit r g a p h = rw (p.1) (λ free. h (λ e. free (p.2 ∙ e)) ∙ ap Some (sym p.2))

pub next_param : (ls : List WordParam) (i : ℕ) (l : WordParam) → i < length ls → l ≡ get_or ls i l → drop i ls ≡ l ∷ drop (i + 1) ls
next_param ls i l h e = let s : suc i ≡ i + 1 = omega arith in drop-cons ls i l h ∙ ap (λ (x : WordParam). x ∷ drop (suc i) ls) (sym e) ∙ ap (λ k. l ∷ drop k ls) s

pub take_param : (ls : List WordParam) (i : ℕ) (l : WordParam) → i < length ls → l ≡ get_or ls i l → take (i + 1) ls ≡ take i ls ++ l ∷ []
take_param ls i l h e = take_more ls i l h ∙ ap (λ (x : WordParam). take i ls ++ x ∷ []) (sym e)

pub next_bind : (ls : List Bind) (i : ℕ) (l : Bind) → i < length ls → l ≡ get_or ls i l → drop i ls ≡ l ∷ drop (i + 1) ls
next_bind ls i l h e = let s : suc i ≡ i + 1 = omega arith in drop-cons ls i l h ∙ ap (λ (x : Bind). x ∷ drop (suc i) ls) (sym e) ∙ ap (λ k. l ∷ drop k ls) s
