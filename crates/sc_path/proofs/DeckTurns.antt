-- Calls of a body of a deck, one after another on the same wires, are turns.
use Rattle.std.proofs.Common.{◌≡◌, ℕ, zero, suc, ◌+◌, ◌<◌, List, [], ◌∷◌, ◌++◌, map, length, get_or, slice_get, Some, refl, sym, ap, ◌∙◌, append_assoc, arith}
use Rattle.std.proofs.lemmas.List.{map-append}
use Rattle.sc_base.specs.declared.names.Class.{Class}
use Rattle.sc_base.specs.declared.names.Class.TheVariants.{Q, C}
use Rattle.sc_gate.specs.declared.gate.Wire.{Wire}
use Rattle.sc_gate.specs.Gates.{class_of}
use Rattle.sc_gate.specs.Numbers.{Numbers, number_of, with_more, no_wires, IsThere}
use Rattle.sc_deck.specs.Decks.{IsDeck}
use Rattle.sc_deck.specs.Events.{Event, after_events, rename_event}
use Rattle.sc_deck.specs.Keys.{param_classes, params_of}
use Rattle.sc_deck.specs.Modules.{Module}
use Rattle.sc_deck.specs.Placing.{shifted, put}
use Rattle.sc_deck.specs.Renaming.{wire, Renames}
use Rattle.sc_deck.specs.Unfolding.{of_class, repeated, unfold_on, numbered, wires_from}
use Rattle.sc_deck.proofs.PlaceLaws.{Sized-params, wires_from-at}
use Rattle.sc_deck.proofs.PutLaws.{put-params, put-Renames, numbered-classes}
use Rattle.sc_deck.proofs.RenameLaws.{after_events-rename, Renames-after, unfold_on-rename}
use Rattle.sc_deck.proofs.SequenceLaws.{after_events-append}

-- turns go one after another
pub repeated_add : (a b : ℕ) (once : Numbers → List Event) (next : Numbers) → repeated (a + b) once next ≡ repeated a once next ++ repeated b once (after_events next (repeated a once next))
repeated_add zero b once next = let e : zero + b ≡ b = omega arith in ap (λ (n : ℕ). repeated n once next) e
repeated_add (suc a) b once next =
    let e : suc a + b ≡ suc (a + b) = omega arith in
    let next' : Numbers = after_events next (once next) in
    ap (λ (n : ℕ). repeated n once next) e
    ∙ ap (λ (es : List Event). once next ++ es) (repeated_add a b once next')
    ∙ ap (λ (k : Numbers). once next ++ (repeated a once next' ++ repeated b once k)) (sym (after_events-append next (once next) (repeated a once next')))
    ∙ sym (append_assoc (once next) (repeated a once next') (repeated b once (after_events next (once next ++ repeated a once next'))))

-- turns on renamed wires are the renamed turns
pub repeated_renamed : (f : Wire → Wire) (once once' : Numbers → List Event) → ((next next' : Numbers) → Renames f next next' → once' next' ≡ map (rename_event f) (once next)) →
    (n : ℕ) (next next' : Numbers) → Renames f next next' → repeated n once' next' ≡ map (rename_event f) (repeated n once next)
repeated_renamed f once once' same zero next next' renames = refl
repeated_renamed f once once' same (suc n) next next' renames =
    let here = same next next' renames in
    let rest = repeated_renamed f once once' same n (after_events next (once next)) (after_events next' (once next)) (Renames-after f next next' (once next) renames) in
    (λ i. here i ++ repeated n once' (after_events next' (here i)))
    ∙ ap (λ (k : Numbers). map (rename_event f) (once next) ++ repeated n once' k) (after_events-rename f next' (once next))
    ∙ ap (λ (es : List Event). map (rename_event f) (once next) ++ es) rest
    ∙ sym (map-append (rename_event f) (once next) (repeated n once (after_events next (once next))))

-- the parameter wires of a module, which have the first numbers
abbrev pub params : Module → List Wire
params m = numbered (param_classes m.key) no_wires

length_from : (class : Class) (first n : ℕ) → length (wires_from class first n) ≡ n
length_from class first zero = refl
length_from class first (suc n) = ap suc (length_from class (suc first) n)

-- the numbered wires of one class
record OfClass (c : Class) (classes : List Class) (numbers : Numbers) : Type 0 where
  pub count : ℕ
  pub is : of_class c (numbered classes numbers) ≡ wires_from c (number_of c numbers) count

of_numbered : (c : Class) (classes : List Class) (numbers : Numbers) → OfClass c classes numbers
of_numbered c [] numbers = record { count = 0; is = refl }
of_numbered Q (Q ∷ classes) numbers =
    let r = of_numbered Q classes (with_more Q 1 numbers) in
    let e : numbers.qubits + 1 ≡ suc numbers.qubits = omega arith in
    record { count = suc r.count; is = ap (λ (ws : List Wire). wire Q numbers.qubits ∷ ws) (r.is ∙ ap (λ (n : ℕ). wires_from Q n r.count) e) }
of_numbered C (C ∷ classes) numbers =
    let r = of_numbered C classes (with_more C 1 numbers) in
    let e : numbers.cbits + 1 ≡ suc numbers.cbits = omega arith in
    record { count = suc r.count; is = ap (λ (ws : List Wire). wire C numbers.cbits ∷ ws) (r.is ∙ ap (λ (n : ℕ). wires_from C n r.count) e) }
of_numbered Q (C ∷ classes) numbers = let r = of_numbered Q classes (with_more C 1 numbers) in record { count = r.count; is = r.is }
of_numbered C (Q ∷ classes) numbers = let r = of_numbered C classes (with_more Q 1 numbers) in record { count = r.count; is = r.is }

none_of : (class : Class) → number_of class no_wires ≡ 0
none_of Q = refl
none_of C = refl

-- the placing on the parameter wires themselves leaves them
pub put_own : (m : Module) (next : Numbers) (w : Wire) → IsThere (params_of m.key) w → put (params m) next w ≡ w
put_own m next w there =
    let r = of_numbered w.class (param_classes m.key) no_wires in
    let size : length (of_class w.class (params m)) ≡ number_of w.class (params_of m.key) = (Sized-params (params m) m.key (numbered-classes (param_classes m.key) no_wires)).count w.class in
    let long : length (of_class w.class (params m)) ≡ r.count = ap length r.is ∙ length_from w.class (number_of w.class no_wires) r.count in
    let below : w.number < r.count = omega arith in
    let d : Wire = shifted (length (of_class w.class (params m))) (number_of w.class next) w in
    ap (λ (ws : List Wire). get_or ws w.number (shifted (length (of_class w.class (params m))) (number_of w.class next) w)) r.is
    ∙ wires_from-at w.class (number_of w.class no_wires) r.count w.number (shifted (length (of_class w.class (params m))) (number_of w.class next) w) below
    ∙ ap (λ (n : ℕ). wire w.class (n + w.number)) (none_of w.class)
    ∙ (let q : 0 + w.number ≡ w.number = omega arith in ap (wire w.class) q)

-- the same body on the same wires from other next numbers on
pub same_renamed : (modules : List Module) → IsDeck modules → (i : ℕ) (m : Module) → slice_get modules i ≡ Some m → (passed : List Wire) (from : Numbers) → map class_of passed ≡ param_classes m.key →
    (next next' : Numbers) → Renames (put passed from) next next' → unfold_on modules i passed next' ≡ map (rename_event (put passed from)) (unfold_on modules i (params m) next)
same_renamed modules deck i m at passed from classes next next' renames =
    let same : map (put passed from) (params m) ≡ passed = ap (λ (cs : List Class). map (put passed from) (numbered cs no_wires)) (sym classes) ∙ put-params passed from in
    ap (λ (ws : List Wire). unfold_on modules i ws next') (sym same)
    ∙ unfold_on-rename modules deck i m at (put passed from) (params m) next next' (numbered-classes (param_classes m.key) no_wires) renames

-- N CALLS on any wires are the n calls on the first numbers with their wires put in their places
pub turns_put : (modules : List Module) → IsDeck modules → (i : ℕ) (m : Module) → slice_get modules i ≡ Some m → (passed : List Wire) (next : Numbers) → map class_of passed ≡ param_classes m.key → (n : ℕ) →
    repeated n (unfold_on modules i passed) next ≡ map (rename_event (put passed next)) (repeated n (unfold_on modules i (params m)) (params_of m.key))
turns_put modules deck i m at passed next classes n =
    repeated_renamed (put passed next) (unfold_on modules i (params m)) (unfold_on modules i passed) (same_renamed modules deck i m at passed next classes) n (params_of m.key) next
    (put-Renames passed (params_of m.key) next (Sized-params passed m.key classes))
